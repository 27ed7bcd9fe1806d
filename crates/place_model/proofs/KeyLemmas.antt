-- Selections of each rank that take an area have one key.
use Rattle.std.proofs.Common.{◌≡◌, ℕ, ◌+◌, Bool, true, false, not, ◌&&◌, ◌==◌, if◌then◌else◌, List, Option, Some, None, refl, sym, ap, ◌∙◌}
use Rattle.std.specs.Prelude.{is_some}
use Rattle.std.specs.Str.{bytes_eq}
use Rattle.place_model.specs.declared.scatter.Choice.{Choice}
use Rattle.place_model.specs.declared.scatter.Choice.TheVariants as choice
use Rattle.place_model.specs.Items.{Item, is_zero_initialised, is_read_only}
use Rattle.place_model.specs.Assignment.{is_named, is_of, takes}
use Rattle.place_model.specs.Keys.{class_of, same_choice, same_module}

and_false : (b : Bool) → (b && false) ≡ false
and_false true = refl
and_false false = refl

abbrev class : Bool → Bool → Choice
class zero read_only = if zero then choice.Zi else if read_only then choice.Ro else choice.Rw

not_named : (zero read_only : Bool) (name : List ℕ) → same_choice (class zero read_only) (choice.Named name) ≡ false
not_named true read_only name = refl
not_named false true name = refl
not_named false false name = refl

is_ro : (zero read_only : Bool) → same_choice (class zero read_only) choice.Ro ≡ (not zero && read_only)
is_ro true read_only = refl
is_ro false true = refl
is_ro false false = refl

is_rw : (zero read_only : Bool) → same_choice (class zero read_only) choice.Rw ≡ (not zero && not read_only)
is_rw true read_only = refl
is_rw false true = refl
is_rw false false = refl

is_zi : (zero read_only : Bool) → same_choice (class zero read_only) choice.Zi ≡ zero
is_zi true read_only = refl
is_zi false true = refl
is_zi false false = refl

abbrev pub rank_by : Option (List ℕ) → Choice → ℕ
rank_by home c = (if is_some home then 0 else 2) + (if is_named c then 0 else 1)

abbrev pub matches_by : Option (List ℕ) → Choice → Item → Bool
matches_by home c i = is_of home i && takes c i

-- a selection of a rank that matches an area has this module and choice
abbrev pub IsKeyOf : ℕ → Item → Option (List ℕ) → Choice → Type 0
IsKeyOf n i home c = (other : Option (List ℕ)) (d : Choice) → (rank_by other d == n && matches_by other d i) ≡ (same_module home other && same_choice c d)

pub named_in_module : (i : Item) → IsKeyOf 0 i (Some i.«module») (choice.Named i.name)
named_in_module i None (choice.Named name) = refl
named_in_module i None choice.Ro = refl
named_in_module i None choice.Rw = refl
named_in_module i None choice.Zi = refl
named_in_module i (Some home) (choice.Named name) = refl
named_in_module i (Some home) choice.Ro = sym (and_false (bytes_eq i.«module» home))
named_in_module i (Some home) choice.Rw = sym (and_false (bytes_eq i.«module» home))
named_in_module i (Some home) choice.Zi = sym (and_false (bytes_eq i.«module» home))

pub class_in_module : (i : Item) → IsKeyOf 1 i (Some i.«module») (class_of i)
class_in_module i None (choice.Named name) = refl
class_in_module i None choice.Ro = refl
class_in_module i None choice.Rw = refl
class_in_module i None choice.Zi = refl
class_in_module i (Some home) (choice.Named name) = sym (ap (λ b. bytes_eq i.«module» home && b) (not_named (is_zero_initialised i) (is_read_only i) name) ∙ and_false (bytes_eq i.«module» home))
class_in_module i (Some home) choice.Ro = sym (ap (λ b. bytes_eq i.«module» home && b) (is_ro (is_zero_initialised i) (is_read_only i)))
class_in_module i (Some home) choice.Rw = sym (ap (λ b. bytes_eq i.«module» home && b) (is_rw (is_zero_initialised i) (is_read_only i)))
class_in_module i (Some home) choice.Zi = sym (ap (λ b. bytes_eq i.«module» home && b) (is_zi (is_zero_initialised i) (is_read_only i)))

pub named_anywhere : (i : Item) → IsKeyOf 2 i None (choice.Named i.name)
named_anywhere i None (choice.Named name) = refl
named_anywhere i None choice.Ro = refl
named_anywhere i None choice.Rw = refl
named_anywhere i None choice.Zi = refl
named_anywhere i (Some home) (choice.Named name) = refl
named_anywhere i (Some home) choice.Ro = refl
named_anywhere i (Some home) choice.Rw = refl
named_anywhere i (Some home) choice.Zi = refl

pub class_anywhere : (i : Item) → IsKeyOf 3 i None (class_of i)
class_anywhere i None (choice.Named name) = sym (not_named (is_zero_initialised i) (is_read_only i) name)
class_anywhere i None choice.Ro = sym (is_ro (is_zero_initialised i) (is_read_only i))
class_anywhere i None choice.Rw = sym (is_rw (is_zero_initialised i) (is_read_only i))
class_anywhere i None choice.Zi = sym (is_zi (is_zero_initialised i) (is_read_only i))
class_anywhere i (Some home) (choice.Named name) = refl
class_anywhere i (Some home) choice.Ro = refl
class_anywhere i (Some home) choice.Rw = refl
class_anywhere i (Some home) choice.Zi = refl
