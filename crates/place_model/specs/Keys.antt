-- Keys of selections: a module, or any, and what is chosen there. Of the selections of one rank, those that take an area have one key.
-- This project's.
use Rattle.std.specs.Prelude.{ℕ, ◌==◌, Bool, true, false, if◌then◌else◌, List, Option, Some, None}
use Rattle.std.specs.Str.{bytes_eq}
use Rattle.sdt_word.specs.Numbers.{bit}
use Rattle.place_model.specs.declared.scatter.Choice.{Choice}
use Rattle.place_model.specs.declared.scatter.Choice.TheVariants as choice
use Rattle.place_model.specs.Items.{Item}

abbrev pub same_module : Option (List ℕ) → Option (List ℕ) → Bool
same_module None None = true
same_module (Some home) (Some other) = bytes_eq home other
same_module _ _ = false

abbrev pub same_choice : Choice → Choice → Bool
same_choice (choice.Named name) (choice.Named other) = bytes_eq name other
same_choice choice.Ro choice.Ro = true
same_choice choice.Rw choice.Rw = true
same_choice choice.Zi choice.Zi = true
same_choice _ _ = false

-- the class that takes an area with these attributes
abbrev pub class_by : ℕ → Choice
class_by attributes = if bit attributes 12 == 1 then choice.Zi else if bit attributes 13 == 1 then choice.Ro else choice.Rw

abbrev pub class_of : Item → Choice
class_of i = class_by i.attributes
