-- Fields of four bytes, and which have a place alone. This project's.
use Rattle.std.specs.Prelude.{◌≡◌, ℕ, zero, suc, ◌==◌, ◌&&◌, Bool, true, false, nat_eq, unwrap_or, count_by, List, Option, Some, None}
use Rattle.std.specs.declared.hash.FoldHasher.{FoldHasher}
use Rattle.std.specs.declared.hash.BuildHasherDefault.{BuildHasherDefault}
use Rattle.indexmap.specs.IndexMap.{IndexMap, get}
use Rattle.aof_object.specs.declared.records.Reloc.{Reloc}
use Rattle.patch_model.specs.Fields.{Kind, Branch, field_of, is_relative, is_by_symbol, kind_of, size_of}

abbrev pub Marks : Type 0
Marks = IndexMap ℕ Bool (BuildHasherDefault FoldHasher)

abbrev pub is_branch_kind : Kind → Bool
is_branch_kind (Branch thumb) = true
is_branch_kind _ = false

-- the relocation has a field of four bytes at a place
abbrev pub fills : ℕ → Reloc → Bool
fills p r = (field_of r).place == p && size_of (kind_of r) == 4

-- none, one alone, or several
abbrev pub mark_of : ℕ → Option Bool
mark_of zero = None
mark_of (suc zero) = Some true
mark_of (suc (suc n)) = Some false

abbrev pub AreMarks : List Reloc → Marks → Type 0
AreMarks relocs m = (p : ℕ) → get nat_eq m p ≡ mark_of (count_by (fills p) relocs)

abbrev pub marked_by : Marks → Reloc → Bool
marked_by m r = is_relative r && (is_by_symbol r && unwrap_or (get nat_eq m (field_of r).place) false)
