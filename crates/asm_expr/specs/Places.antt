-- Places of names in a list, and a map from names to numbers. This project's.
use Rattle.std.specs.Prelude.{◌≡◌, ℕ, ◌+◌, List, [], ◌∷◌, length, map, take, Option, Some, None, if◌then◌else◌}
use Rattle.std.specs.List.{slice_get}
use Rattle.std.specs.Ordering.{nat_cmp}
use Rattle.std.specs.Cmp.Lexicographic.{slice_cmp}
use Rattle.std.specs.BTreeMap.{BTreeMap, get}
use Rattle.asm_model.specs.declared.names.LaidName.{LaidName}
use Rattle.asm_model.specs.Forms.{same}

abbrev pub number_in : BTreeMap (List ℕ) ℕ → List ℕ → Option ℕ
number_in m q = get (slice_cmp nat_cmp) m q

-- what was there, or the number where the name is q
abbrev pub or_number : Option ℕ → List ℕ → ℕ → List ℕ → Option ℕ
or_number (Some k) name number q = Some k
or_number None name number q = if same name q then Some number else None

-- a place, counted from one entry before
abbrev pub one_later : Option ℕ → Option ℕ
one_later None = None
one_later (Some i) = Some (i + 1)

-- the place of the first entry with the name
abbrev pub place_of : List ℕ → List LaidName → Option ℕ
place_of name [] = None
place_of name (n ∷ ns) = if same n.name name then Some 0 else one_later (place_of name ns)

abbrev pub names_of : List LaidName → List (List ℕ)
names_of ns = map (λ (n : LaidName). n.name) ns

-- entries of the first of these names
abbrev pub AreFirst : List LaidName → List LaidName → Type 0
AreFirst first ns = names_of first ≡ take (length first) (names_of ns)

-- the entry at a place of the list
abbrev pub entry : List LaidName → Option ℕ → Option LaidName
entry list None = None
entry list (Some i) = slice_get list i

abbrev pub one_entry : Option LaidName → List LaidName
one_entry None = []
one_entry (Some n) = n ∷ []

abbrev pub listed : Option (List LaidName) → List LaidName
listed None = []
listed (Some list) = list
