use Rattle.std.proofs.Common.{◌≡◌, None, refl}
use Rattle.asm_arm.specs.declared.mnemonics.Mnemonic.{Mnemonic}
use Rattle.asm_arm.specs.declared.mnemonics.Mnemonic.TheVariants.{FloatingPoint}
use Rattle.asm_thumb.specs.Mnemonics as words
use Rattle.asm_thumb.proofs.mnemonics.float_word.Goals as goal

-- a search would try each word with each of its parts
other : (w : Mnemonic) → (w ≡ FloatingPoint → ⊥) → None ≡ words.float_word w
other FloatingPoint h = absurd (h refl)
other w h = refl

pub returns-in_default : goal.returns-in_default
returns-in_default c = other c.args.word c.in_default.not-FloatingPoint
