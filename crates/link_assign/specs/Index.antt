-- Selections found by their module and by what they choose. This project's.
use Rattle.std.specs.Prelude.{◌≡◌, ℕ, nat_eq, Bool, true, false, ◌&&◌, if◌then◌else◌, List, unwrap_or, Option, Some, None}
use Rattle.std.specs.Borrow.{Bor}
use Rattle.std.specs.Cmp.Lexicographic.{pointwise}
use Rattle.std.specs.List.{filter}
use Rattle.std.specs.Str.{bytes_eq}
use Rattle.std.specs.declared.hash.FoldHasher.{FoldHasher}
use Rattle.std.specs.declared.hash.BuildHasherDefault.{BuildHasherDefault}
use Rattle.indexmap.specs.IndexMap.{IndexMap, get_by}
use Rattle.place_model.specs.declared.scatter.Choice.{Choice}
use Rattle.place_model.specs.declared.scatter.Choice.TheVariants as choice
use Rattle.place_model.specs.Items.{Item}
use Rattle.place_model.specs.Keys.{class_of, same_choice, same_module}
use Rattle.place_model.specs.Assignment.{Offer, found}
use Rattle.link_assign.specs.declared.choices.Choices.{Choices}
use Rattle.link_assign.specs.declared.finding.Finding.{Finding}
use Rattle.link_assign.specs.declared.finding.Finding.TheVariants as finding
use Rattle.link_assign.specs.declared.index.Index.{Index}
use Rattle.link_assign.specs.Finding.{is_nowhere, joined, told}

-- ---- keys: a module, or any, and what is chosen

abbrev pub is_keyed : Option (List ℕ) → Choice → Offer → Bool
is_keyed home c o = same_module home o.selection.«module» && same_choice c o.selection.choice

-- ---- what an index gives for a key

abbrev pub Findings : Type 0
Findings = IndexMap (Bor (List ℕ)) Finding (BuildHasherDefault FoldHasher)

abbrev pub Modules : Type 0
Modules = IndexMap (Bor (List ℕ)) Choices (BuildHasherDefault FoldHasher)

abbrev pub finding_in : Findings → List ℕ → Finding
finding_in names name = unwrap_or (get_by (λ k. pointwise nat_eq name k.now) names) finding.Nowhere

abbrev pub given : Choices → Choice → Finding
given s (choice.Named name) = finding_in s.names name
given s choice.Ro = s.read_only
given s choice.Rw = s.read_write
given s choice.Zi = s.zero_initialised

abbrev pub choices_in : Modules → List ℕ → Option Choices
choices_in modules home = get_by (λ k. pointwise nat_eq home k.now) modules

abbrev pub given_by : Option Choices → Choice → Finding
given_by None c = finding.Nowhere
given_by (Some s) c = given s c

abbrev pub in_index : Index → Option (List ℕ) → Choice → Finding
in_index x None c = given x.any c
in_index x (Some home) c = given_by (choices_in x.modules home) c

-- with one more selection, where it has the key
abbrev pub joined_if : Bool → Finding → Offer → Finding
joined_if same f o = if same then joined f o else f

-- the best selections of these are found by their keys
abbrev pub IsIndexOf : List Offer → Index → Type 0
IsIndexOf offers x = (home : Option (List ℕ)) (c : Choice) → in_index x home c ≡ told (found (filter (is_keyed home c) offers))

-- ---- the best that it gives

abbrev pub or_else : Finding → Finding → Finding
or_else f g = if is_nowhere f then g else f

-- by name before class
abbrev pub best_given : Option Choices → Item → Finding
best_given s i = or_else (given_by s (choice.Named i.name)) (given_by s (class_of i))

-- by module before any
abbrev pub best_in : Index → Item → Finding
best_in x i = or_else (best_given (choices_in x.modules i.«module») i) (best_given (Some x.any) i)
