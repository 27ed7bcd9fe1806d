-- Where the members of libraries are, in library order: a library's number and a member's number in it.
-- This project's.
use Rattle.std.specs.Prelude.{ℕ, suc, List, [], ◌∷◌, ◌++◌, slice_get, Option, Some, None}
use Rattle.std.specs.Option.{option_map}
use Rattle.aof_object.specs.declared.records.Object.{Object}
use Rattle.aof_object.specs.declared.records.Symbol.{Symbol}
use Rattle.alf_archive.specs.declared.records.Member.{Member}
use Rattle.alf_archive.specs.declared.records.Archive.{Archive}
use Rattle.link_model.specs.declared.selection.Named.{Named}
use Rattle.link_model.specs.Members.{named_member}
use Rattle.link_select.specs.declared.members.MemberPlace.{MemberPlace}

-- of a library's members, which are counted from k on
abbrev pub places_in : ℕ → ℕ → List Member → List MemberPlace
places_in a k [] = []
places_in a k (m ∷ ms) = (record { archive = a; member = k }) ∷ places_in a (suc k) ms

-- of libraries, which are counted from a on
abbrev pub places_from : ℕ → List (Named Archive) → List MemberPlace
places_from a [] = []
places_from a (x ∷ xs) = places_in a 0 x.value.members ++ places_from (suc a) xs

abbrev pub member_in : ℕ → Option (Named Archive) → Option (Named Object)
member_in k None = None
member_in k (Some a) = option_map (named_member a.name) (slice_get a.value.members k)

-- the member at a place
abbrev pub member_at : List (Named Archive) → MemberPlace → Option (Named Object)
member_at archives p = member_in p.member (slice_get archives p.archive)

abbrev pub symbols_of : Option (Named Object) → List Symbol
symbols_of None = []
symbols_of (Some o) = o.value.symbols
