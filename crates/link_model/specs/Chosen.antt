-- Which members of libraries a link takes: the least set that has, for each non-weak reference of a
-- command-line object or chosen member which no command-line object exports, the first member in library
-- order that exports it (SDT 2.50 Reference Guide, armlink; that a weak reference chooses no member is this
-- project's). Members are named by their number in library order.
use Rattle.std.specs.Prelude.{◌≡◌, ℕ, suc, ◌%◌, Bool, true, false, ◌==◌, if◌then◌else◌, List, [], ◌∷◌, ◌++◌, slice_get, is_some, Option, Some, None}
use Rattle.std.specs.List.{filter_map, flat_map, AllByRecursion}
use Rattle.sdt_word.specs.Numbers.{bit}
use Rattle.aof_object.specs.declared.records.Object.{Object}
use Rattle.aof_object.specs.declared.records.Symbol.{Symbol}
use Rattle.aof_object.specs.Names.{among}
use Rattle.aof_object.specs.Objects.{exported}
use Rattle.alf_archive.specs.declared.records.Archive.{Archive}
use Rattle.link_model.specs.declared.selection.Named.{Named}
use Rattle.link_model.specs.Members.{members_of, objects_in}

-- the object exports the name
abbrev pub exports : Object → List ℕ → Bool
exports o q = among q (exported o.symbols)

-- the number of the first object that exports the name, where they are counted from i on
abbrev pub exporter : ℕ → List ℕ → List Object → Option ℕ
exporter i q [] = None
exporter i q (o ∷ os) = if exports o q then Some i else exporter (suc i) q os

-- a reference (bits 0 and 1 are 10) that isn't weak (4)
abbrev pub is_needed : ℕ → Bool
is_needed attributes = if attributes % 4 == 2 then bit attributes 4 == 0 else false

-- the member that a name asks for where no command-line object exports it
abbrev pub supplied : List Object → List Object → List ℕ → Option ℕ
supplied objects members q = if is_some (exporter 0 q objects) then None else exporter 0 q members

-- the member that a symbol asks for, where `supply` has the member that a name asks for
abbrev pub asked : (List ℕ → Option ℕ) → Symbol → Option ℕ
asked supply s = if is_needed s.attributes then supply s.name else None

-- the members that an object asks for
abbrev pub wanted : (List ℕ → Option ℕ) → Object → List ℕ
wanted supply o = filter_map (asked supply) o.symbols

-- a set of members has these
abbrev pub HasAll : (ℕ → Bool) → List ℕ → Type 0
HasAll chosen numbers = AllByRecursion (λ i. chosen i ≡ true) numbers

-- a set that has what the command-line objects ask for, and what its own members ask for
pub record IsClosed (supply : List ℕ → Option ℕ) (objects members : List Object) (chosen : ℕ → Bool) : Type 0 where
  pub of_objects : HasAll chosen (flat_map (wanted supply) objects)
  pub of_members : (k : ℕ) (m : Object) → chosen k ≡ true → slice_get members k ≡ Some m → HasAll chosen (wanted supply m)

-- the least of these sets
pub record IsLeast (supply : List ℕ → Option ℕ) (objects members : List Object) (chosen : ℕ → Bool) : Type 0 where
  pub closed : IsClosed supply objects members chosen
  pub least : (other : ℕ → Bool) → IsClosed supply objects members other → (k : ℕ) → chosen k ≡ true → other k ≡ true

abbrev pub AreChosen : List Object → List Object → (ℕ → Bool) → Type 0
AreChosen objects members chosen = IsLeast (supplied objects members) objects members chosen

-- the members of a set, in library order, where they are counted from i on
abbrev pub taken : {A : Type 0} → (ℕ → Bool) → ℕ → List A → List A
taken chosen i [] = []
taken chosen i (m ∷ ms) = if chosen i then m ∷ taken chosen (suc i) ms else taken chosen (suc i) ms

-- what is linked: the command-line objects in order, then the chosen members in library order
pub record AreLinked (objects : List (Named Object)) (archives : List (Named Archive)) (linked : List (Named Object)) : Type 0 where
  pub chosen : ℕ → Bool
  pub are_chosen : AreChosen (objects_in objects) (objects_in (members_of archives)) chosen
  pub in_order : linked ≡ objects ++ taken chosen 0 (members_of archives)

-- at most one list of objects is linked
abbrev pub LinkedLaw : Type 0
LinkedLaw = (objects : List (Named Object)) (archives : List (Named Archive)) (one other : List (Named Object)) → AreLinked objects archives one → AreLinked objects archives other → one ≡ other

-- the names that objects and libraries are called by decide nothing: with the same objects, the same are linked
abbrev pub NamelessLaw : Type 0
NamelessLaw =
    (objects others : List (Named Object)) (archives libraries : List (Named Archive)) (one other : List (Named Object))
    → objects_in objects ≡ objects_in others → objects_in (members_of archives) ≡ objects_in (members_of libraries)
    → AreLinked objects archives one → AreLinked others libraries other → objects_in one ≡ objects_in other
