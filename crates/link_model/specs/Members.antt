-- The members of libraries as objects to be linked, in library order: the order of the libraries and of
-- the members in each (SDT 2.50 Reference Guide, armlink and ARM Object Library Format; the names in
-- reports are this project's).
use Rattle.std.specs.Prelude.{ℕ, List, ◌++◌, map, codes}
use Rattle.std.specs.List.{flat_map}
use Rattle.aof_object.specs.declared.records.Object.{Object}
use Rattle.alf_archive.specs.declared.records.Member.{Member}
use Rattle.alf_archive.specs.declared.records.Archive.{Archive}
use Rattle.link_model.specs.declared.selection.Definition.{Definition}
use Rattle.link_model.specs.declared.selection.Linked.{Linked}
use Rattle.link_model.specs.declared.selection.LinkedEntry.{LinkedEntry}
use Rattle.link_model.specs.declared.selection.Named.{Named}

-- LIB(MEMBER)
abbrev pub member_name : List ℕ → List ℕ → List ℕ
member_name library member = library ++ codes "(" ++ member ++ codes ")"

abbrev pub named_member : List ℕ → Member → Named Object
named_member library m = record { name = member_name library m.name; «module» = m.name; value = m.object }

abbrev pub members_in : Named Archive → List (Named Object)
members_in a = map (named_member a.name) a.value.members

abbrev pub members_of : List (Named Archive) → List (Named Object)
members_of archives = flat_map members_in archives

-- the objects alone, without the names that reports and descriptions of regions call them by
abbrev pub objects_in : List (Named Object) → List Object
objects_in os = map (λ o. o.value) os

-- what is linked, with its objects alone
pub record Link : Type 0 where
  pub objects : List Object
  pub definitions : List Definition
  pub entry : LinkedEntry

abbrev pub link_of : Linked → Link
link_of l = record { objects = objects_in l.objects; definitions = l.definitions; entry = l.entry }
