-- Selections found by their modules and by what they choose. This project's.
use Rattle.std.specs.Prelude.{◌≡◌, ℕ, ◌<◌, ◌==◌, ◌&&◌, Bool, true, false, if◌then◌else◌, List, Option, Some, None}
use Rattle.std.specs.Borrow.{Bor}
use Rattle.std.specs.List.{list_any}
use Rattle.std.specs.Option.{option_map}
use Rattle.std.specs.Str.{bytes_eq}
use Rattle.std.specs.declared.hash.FoldHasher.{FoldHasher}
use Rattle.std.specs.declared.hash.BuildHasherDefault.{BuildHasherDefault}
use Rattle.indexmap.specs.IndexSet.{IndexSet}
use Rattle.sdt_word.specs.Numbers.{bit}
use Rattle.place_model.specs.Keys.{same_choice, same_module}
use Rattle.place_model.specs.declared.scatter.Choice.{Choice}
use Rattle.place_model.specs.declared.scatter.Choice.TheVariants as choice
use Rattle.place_model.specs.declared.scatter.Edge.TheVariants as edge
use Rattle.place_model.specs.declared.scatter.Selection.{Selection}
use Rattle.place_model.specs.Assignment.{Offer, matches, rank}
use Rattle.place_model.specs.Items.{Item}
use Rattle.link_report.specs.declared.selections.Key.{Key}
use Rattle.link_report.specs.declared.selections.Sought.{Sought}
use Rattle.link_report.specs.declared.selections.Sought.TheVariants as sought
use Rattle.link_report.specs.Selections.{has_taken}

-- ---- what a key stands for

abbrev pub home_in : Option (Bor (List ℕ)) → Option (List ℕ)
home_in home = option_map (λ h. h.now) home

abbrev pub choice_in : Sought → Choice
choice_in (sought.Named name) = choice.Named name.now
choice_in sought.Ro = choice.Ro
choice_in sought.Rw = choice.Rw
choice_in sought.Zi = choice.Zi

abbrev pub selection_at : Key → Selection
selection_at k = record { line = 0; «module» = home_in k.home; choice = choice_in k.sought; edge = edge.Plain }

-- ---- keys that are the same

abbrev pub same_home : Option (Bor (List ℕ)) → Option (Bor (List ℕ)) → Bool
same_home None None = true
same_home (Some home) (Some other) = bytes_eq home.now other.now
same_home _ _ = false

abbrev pub same_sought : Sought → Sought → Bool
same_sought (sought.Named name) (sought.Named other) = bytes_eq name.now other.now
same_sought sought.Ro sought.Ro = true
same_sought sought.Rw sought.Rw = true
same_sought sought.Zi sought.Zi = true
same_sought _ _ = false

abbrev pub same_key : Key → Key → Bool
same_key k q = same_home k.home q.home && same_sought k.sought q.sought

-- what they stand for
abbrev pub is_alike : Selection → Selection → Bool
is_alike s t = same_module s.«module» t.«module» && same_choice s.choice t.choice

-- ---- sets of keys

abbrev pub Keys : Type 0
Keys = IndexSet Key (BuildHasherDefault FoldHasher)

abbrev pub has_key : Keys → Key → Bool
has_key ks q = list_any (same_key q) ks.keys

abbrev pub is_key : Key → Option Key → Bool
is_key q None = false
is_key q (Some k) = same_key k q

-- those of these selections
abbrev pub AreSought : List Offer → Keys → Type 0
AreSought offers ks = (q : Key) → has_key ks q ≡ list_any (λ o. is_alike o.selection (selection_at q)) offers

-- a selection of a rank matches an area
abbrev pub has_rank : List Offer → Item → ℕ → Bool
has_rank offers i n = list_any (λ o. rank o.selection == n && matches o.selection i) offers

-- no selection of a lesser rank does
abbrev pub NoneBelow : List Offer → Item → ℕ → Type 0
NoneBelow offers i n = (m : ℕ) → m < n → has_rank offers i m ≡ false

-- those of the selections that took one of these areas
abbrev pub AreTaken : List Offer → List Item → Keys → Type 0
AreTaken offers items ks = (q : Key) → has_key ks q ≡ has_taken offers items (selection_at q)
