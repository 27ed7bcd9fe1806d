-- The table of data items: what each is aligned to, and how it holds its values. SDT 2.50 Reference Guide, chapter on the
-- assembler. The words that name items are in Directives.
use Rattle.std.specs.Prelude.{ℕ}
use Rattle.asm_model.specs.declared.directives.DataItem.{DataItem}
use Rattle.asm_model.specs.declared.directives.DataItem.TheVariants.{Word, UnalignedWord, HalfWord, Byte}
use Rattle.asm_model.specs.declared.directives.Held.{Held}
use Rattle.asm_model.specs.declared.directives.Held.TheVariants.{Relocatable, Fixed, Strings}

abbrev pub item_alignment : DataItem → ℕ
item_alignment Word = 4
item_alignment UnalignedWord = 1
item_alignment HalfWord = 2
item_alignment Byte = 1

abbrev pub held_by : DataItem → Held
held_by Word = Relocatable
held_by UnalignedWord = Relocatable
held_by HalfWord = Fixed 2
held_by Byte = Strings
