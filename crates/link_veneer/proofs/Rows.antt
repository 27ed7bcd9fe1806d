-- Worked values: branches to code whose area lacks the interworking bit.
use Rattle.std.proofs.Common.{◌≡◌, Some, None, refl, [], ◌∷◌}
use Rattle.std.specs.Prelude.{codes}
use Rattle.sdt_fault.specs.declared.refusal.Refusal.TheVariants.{NotInterworking}
use Rattle.aof_object.specs.declared.records.Object.{Object}
use Rattle.link_model.proofs.Rows.{area, both, from_arm, object, reloc, symbol}
use Rattle.link_veneer.specs.Interworking.{not_interworking}

-- BL func in ARM state, where func is Thumb code in an area without the bit
abbrev caller : Object
caller = object (area (codes "main") 0x2202 (0xFE ∷ 0xFF ∷ 0xFF ∷ 0xEB ∷ 0x11 ∷ 0 ∷ 0 ∷ 0xEF ∷ []) (reloc 0 0x8F000000 ∷ [])) (symbol 2 None)

with_the_bit : not_interworking (from_arm (reloc 0 0x8F000000 ∷ [])) ≡ None
with_the_bit = refl

without_the_bit : not_interworking (both caller (object (area (codes "t") 0x102202 (1 ∷ 0x20 ∷ 0x70 ∷ 0x47 ∷ []) []) (symbol 0x1003 (Some 0)))) ≡ Some (NotInterworking (codes "func") (codes "t"))
without_the_bit = refl

-- code of the same state asks for none
same_state : not_interworking (both caller (object (area (codes "b") 0x2202 (0x1E ∷ 0xFF ∷ 0x2F ∷ 0xE1 ∷ []) []) (symbol 3 (Some 0)))) ≡ None
same_state = refl

-- nor does a branch with two relocations, which goes by no veneer
abbrev twice : Object
twice = object (area (codes "main") 0x2202 (0xFE ∷ 0xFF ∷ 0xFF ∷ 0xEB ∷ 0x11 ∷ 0 ∷ 0 ∷ 0xEF ∷ []) (reloc 0 0x8F000000 ∷ reloc 0 0x8F000000 ∷ [])) (symbol 2 None)

not_alone : not_interworking (both twice (object (area (codes "t") 0x102202 (1 ∷ 0x20 ∷ 0x70 ∷ 0x47 ∷ []) []) (symbol 0x1003 (Some 0)))) ≡ None
not_alone = refl
