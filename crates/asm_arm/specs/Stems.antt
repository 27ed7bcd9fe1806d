-- What the look-up of an operation word in a table of stems gives. This project's: what the code gives; that its rows
-- give what the tables of `Words` give is proved.
use Rattle.std.specs.Prelude.{ℕ, List, [], ◌∷◌, take, drop, length, if◌then◌else◌, Option, None}
use Rattle.sdt_word.specs.declared.codes.Condition.{Condition}
use Rattle.sdt_word.specs.declared.codes.Condition.TheVariants as condition
use Rattle.asm_model.specs.Directives.{or_else}
use Rattle.asm_model.specs.Tokens.{is_called}
use Rattle.asm_arm.specs.declared.mnemonics.Mnemonic.{Mnemonic}
use Rattle.asm_arm.specs.declared.mnemonics.Stem.{Stem}
use Rattle.asm_arm.specs.declared.mnemonics.Stem.TheVariants as stem
use Rattle.asm_arm.specs.Mnemonics.{ending, conditioned, data_suffix, multiply_suffix, long_suffix, transfer_suffix}
use Rattle.asm_arm.specs.Mnemonics.{block_suffix, swap_of, byte_suffix, bare_suffix, float_suffix, float_mode}

-- a stem and what stands behind it
abbrev pub stemmed : Stem → List ℕ → Option (Mnemonic × Condition)
stemmed (stem.Data o) rest = conditioned (ending rest).0 (data_suffix o (ending rest).1)
stemmed (stem.Multiply a) rest = conditioned (ending rest).0 (multiply_suffix a (ending rest).1)
stemmed (stem.MultiplyLong g a) rest = conditioned (ending rest).0 (long_suffix (g, a) (ending rest).1)
stemmed (stem.Transfer l) rest = conditioned (ending rest).0 (transfer_suffix l (ending rest).1)
stemmed (stem.TransferBlock l) rest = conditioned (ending rest).0 (block_suffix l (ending rest).1)
stemmed stem.Swap rest = conditioned (ending rest).0 (swap_of (byte_suffix (ending rest).1))
stemmed (stem.Bare m) rest = conditioned (ending rest).0 (bare_suffix m (ending rest).1)
stemmed (stem.Alone m) rest = conditioned condition.Al (bare_suffix m rest)
stemmed (stem.Float m) rest = conditioned (ending rest).0 (float_suffix m (ending rest).1)
stemmed stem.FloatBlock rest = conditioned (ending rest).0 (float_mode (ending rest).1)

-- what a word says that begins with the name of a stem
abbrev pub begun : List ℕ → List ℕ × Stem → Option (Mnemonic × Condition)
begun word row = if is_called row.0 (take (length row.0) word) then stemmed row.1 (drop (length row.0) word) else None

-- the first row that gives a word a meaning
abbrev pub by_rows : List ℕ → List (List ℕ × Stem) → Option (Mnemonic × Condition)
by_rows word [] = None
by_rows word (row ∷ rows) = or_else (begun word row) (by_rows word rows)
