-- Numbers for the fields of relocations, in their order. This project's.
use Rattle.std.specs.Prelude.{◌≡◌, ℕ, ◌+◌, ◌^◌, ◌<◌, ◌≤◌, List, get_or, slice_get, Some}
use Rattle.aof_object.specs.declared.records.Area.{Area}
use Rattle.aof_object.specs.declared.records.Reloc.{Reloc}
use Rattle.link_model.specs.declared.placing.Placement.{Placement}
use Rattle.patch_model.specs.Fields.{Values, field_of, kind_of, size_of}
use Rattle.link_apply.specs.PatchedBytes.{patched_number}

abbrev pub AreInside : ℕ → List Reloc → Type 0
AreInside n relocs = (k : ℕ) (r : Reloc) → slice_get relocs k ≡ Some r → (field_of r).place + size_of (kind_of r) ≤ n

abbrev pub AreFitting : List Reloc → List ℕ → Type 0
AreFitting relocs numbers = (k : ℕ) (r : Reloc) → slice_get relocs k ≡ Some r → get_or numbers k 0 < 256 ^ size_of (kind_of r)

abbrev pub AreNumbers : Placement → Values → ℕ → ℕ → Area → List ℕ → Type 0
AreNumbers p values region base a numbers =
    (k : ℕ) (r : Reloc) → slice_get a.relocs k ≡ Some r → get_or numbers k 0 ≡ patched_number p values region base a (field_of r)
