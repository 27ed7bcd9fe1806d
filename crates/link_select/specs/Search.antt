-- The search for the chosen members: which are marked, and which of these wait to be looked at. This
-- project's.
use Rattle.std.specs.Prelude.{◌≡◌, ℕ, ◌+◌, ◌<◌, Bool, true, false, is_some, ◌==◌, if◌then◌else◌, ◌⊎◌, List, [], ◌∷◌, ◌++◌, length, slice_index_or, Option, Some, None}
use Rattle.std.specs.List.{list_any}
use Rattle.link_model.specs.Chosen.{HasAll}
use Rattle.link_select.specs.declared.choosing.Supply.{Supply}
use Rattle.link_select.specs.Index.{number_in}

-- the member that a name asks for, by the names that command-line objects define and those that members offer
abbrev pub supply_of : Supply → List ℕ → Option ℕ
supply_of s q = if is_some (number_in s.defined q) then None else number_in s.offered q

-- the set of the members that are marked
abbrev pub marked : List Bool → ℕ → Bool
marked marks k = slice_index_or marks k false

abbrev pub unmarked : List Bool → ℕ
unmarked [] = 0
unmarked (mark ∷ marks) = (if mark then 0 else 1) + unmarked marks

abbrev pub is_in : ℕ → List ℕ → Bool
is_in k ks = list_any (λ j. j == k) ks

-- from marks `before`, the members `asked_for` were marked, and those that were not yet marked are `added`
-- to the ones that wait
pub record Marks (before after : List Bool) (added asked_for : List ℕ) : Type 0 where
  pub size : length after ≡ length before
  pub kept : (k : ℕ) → marked before k ≡ true → marked after k ≡ true
  pub all : HasAll (marked after) asked_for
  pub only : (k : ℕ) → marked after k ≡ true → (marked before k ≡ true) ⊎ (is_in k asked_for ≡ true)
  pub waits : (k : ℕ) → marked after k ≡ true → (marked before k ≡ true) ⊎ (is_in k added ≡ true)
  pub added_marked : HasAll (marked after) added
  pub fewer : unmarked after + length added ≡ unmarked before

-- a list of waiting members is made longer so
pub record Takes (before after : List Bool) (waited wait asked_for : List ℕ) : Type 0 where
  pub added : List ℕ
  pub behind : wait ≡ waited ++ added
  pub marks : Marks before after added asked_for

-- the members that names ask for have numbers below n
pub record IsWithin (supply : List ℕ → Option ℕ) (n : ℕ) : Type 0 where
  pub below : (q : List ℕ) (k : ℕ) → supply q ≡ Some k → k < n
