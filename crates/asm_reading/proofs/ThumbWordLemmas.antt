-- The operation words of Thumb state: no branch with a condition is one that always goes.
use Rattle.std.proofs.Common.{ℕ, List, Option, Some, None}
use Rattle.sdt_word.specs.declared.codes.Condition.{Condition}
use Rattle.asm_arm.specs.declared.mnemonics.Mnemonic.{Mnemonic as ArmMnemonic}
use Rattle.asm_arm.specs.declared.mnemonics.Mnemonic.TheVariants as arm
use Rattle.asm_arm.specs.Mnemonics as arm_words
use Rattle.asm_thumb.specs.declared.mnemonics.Mnemonic.{Mnemonic}
use Rattle.asm_thumb.specs.declared.mnemonics.Mnemonic.TheVariants as mnemonic
use Rattle.asm_thumb.specs.Mnemonics.{core_named, float_word, floating, operation_named}
use Rattle.asm_model.specs.Said.{IsConditional}
use Rattle.asm_reading.proofs.GivesLemmas.{OptionGives, option_gives, or_else_gives}

abbrev pub ThumbMnemonicSaid : Mnemonic → Type 0
ThumbMnemonicSaid (mnemonic.BranchConditional c) = IsConditional c
ThumbMnemonicSaid _ = Unit {0}

core_said : (word : List ℕ) → OptionGives ThumbMnemonicSaid (core_named word)
unfolding core_named
core_said word = search (option_gives) depth 200 fits 10000

float_word_said : (m : ArmMnemonic) → OptionGives ThumbMnemonicSaid (float_word m)
float_word_said arm.FloatingPoint = tt
float_word_said m = tt

floating_said : (o : Option (ArmMnemonic × Condition)) → OptionGives ThumbMnemonicSaid (floating o)
floating_said None = tt
floating_said (Some m) = float_word_said m.0

pub thumb_operation_said : (word : List ℕ) → OptionGives ThumbMnemonicSaid (operation_named word)
unfolding operation_named
thumb_operation_said word =
    let float = floating (arm_words.operation_named word) in
    or_else_gives ThumbMnemonicSaid (core_named word) float (core_said word) (floating_said (arm_words.operation_named word))
