-- What a report tells of the members that a link chose: the first reference that each has to answer. This project's.
use Rattle.std.specs.Prelude.{ℕ, suc, Bool, false, nat_lt, ◌==◌, if◌then◌else◌, List, [], ◌∷◌, ◌++◌, codes, Option, Some, None}
use Rattle.std.specs.List.{flat_map, find}
use Rattle.aof_object.specs.declared.records.Object.{Object}
use Rattle.aof_object.specs.declared.records.Symbol.{Symbol}
use Rattle.link_model.specs.declared.selection.Definition.{Definition}
use Rattle.link_model.specs.declared.selection.Linked.{Linked}
use Rattle.link_model.specs.declared.selection.Named.{Named}
use Rattle.link_model.specs.Chosen.{is_needed}
use Rattle.link_model.specs.Meaning.{definition_of}
use Rattle.link_report.specs.Lines.{line, object_name}

-- a name that the object of a number refers to
pub record Need : Type 0 where
  pub by : ℕ
  pub name : List ℕ

-- a reference that isn't weak
abbrev pub need_in : ℕ → Symbol → List Need
need_in by s = if is_needed s.attributes then (record { by = by; name = s.name }) ∷ [] else []

-- those of objects, which are counted from a number on, in order
abbrev pub needs_from : ℕ → List (Named Object) → List Need
needs_from by [] = []
needs_from by (o ∷ os) = flat_map (need_in by) o.value.symbols ++ needs_from (suc by) os

-- the object of a number exports the name
abbrev pub is_by : ℕ → Option Definition → Bool
is_by object None = false
is_by object (Some d) = d.object == object

abbrev pub answers : List Definition → ℕ → Need → Bool
answers ds object n = is_by object (definition_of ds n.name)

-- the first that the object of a number answers
abbrev pub first_need : List Definition → List (Named Object) → ℕ → Option Need
first_need ds os object = find (answers ds object) (needs_from 0 os)

-- ---- lines

abbrev pub member_text : List (Named Object) → List ℕ → Option Need → List ℕ
member_text os name None = []
member_text os name (Some n) = line (codes "member" ∷ name ∷ object_name os n.by ∷ n.name ∷ [])

-- of the object of a number; those of the command line, so many as are given, aren't members
abbrev pub member_at : List (Named Object) → (ℕ → Option Need) → ℕ → ℕ → List ℕ → List ℕ
member_at os first given object name = if nat_lt object given then [] else member_text os name (first object)

-- of linked objects, which are counted from a number on, each with the first reference that it answers
abbrev pub members_from : List (Named Object) → (ℕ → Option Need) → ℕ → ℕ → List (Named Object) → List ℕ
members_from all first given object [] = []
members_from all first given object (o ∷ os) = member_at all first given object o.name ++ members_from all first given (suc object) os

abbrev pub members_text : Linked → ℕ → List ℕ
members_text l given = members_from l.objects (first_need l.definitions l.objects) given 0 l.objects
