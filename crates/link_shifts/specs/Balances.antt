-- What is added and taken away by the relocations of each field of an area, by an index. This project's.
use Rattle.std.specs.Prelude.{◌≡◌, ℕ, ◌+◌, Bool, true, false, not, ◌&&◌, ◌==◌, count_by, unwrap_or, List}
use Rattle.std.specs.declared.hash.FoldHasher.{FoldHasher}
use Rattle.std.specs.declared.hash.BuildHasherDefault.{BuildHasherDefault}
use Rattle.indexmap.specs.IndexMap.{IndexMap, get_by}
use Rattle.sdt_word.specs.Numbers.{flag}
use Rattle.aof_object.specs.declared.records.Reloc.{Reloc}
use Rattle.patch_model.specs.Fields.{Kind, Byte, Half, Word, Branch, field_of, is_relative}
use Rattle.link_shifts.specs.declared.balances.Balance.{Balance}
use Rattle.link_shifts.specs.declared.balances.Spot.{Spot}

-- a number for each kind of field
abbrev pub code_of : Kind → ℕ
code_of Byte = 0
code_of Half = 1
code_of Word = 2
code_of (Branch false) = 3
code_of (Branch true) = 4

-- relocations of one spot have one field
abbrev pub spot_of : Reloc → Spot
spot_of r = record { place = (field_of r).place; code = code_of (field_of r).kind }

abbrev pub is_same : Spot → Spot → Bool
is_same a b = a.place == b.place && a.code == b.code

abbrev pub is_gain : (Reloc → Bool) → Reloc → Bool
is_gain moving r = not (is_relative r) && moving r

abbrev pub is_loss : (Reloc → Bool) → Reloc → Bool
is_loss moving r = is_relative r && not (moving r)

abbrev pub balance_of : (Reloc → Bool) → List Reloc → Spot → Balance
balance_of moving relocs s = record {
  more = count_by (λ r. is_same (spot_of r) s && is_gain moving r) relocs;
  less = count_by (λ r. is_same (spot_of r) s && is_loss moving r) relocs;
}

-- ---- an index of them

abbrev pub Balances : Type 0
Balances = IndexMap Spot Balance (BuildHasherDefault FoldHasher)

abbrev pub none : Balance
none = record { more = 0; less = 0 }

abbrev pub balance_in : Balances → Spot → Balance
balance_in m s = unwrap_or (get_by (is_same s) m) none

abbrev pub AreBalances : (Reloc → Bool) → List Reloc → Balances → Type 0
AreBalances moving relocs m = (s : Spot) → balance_in m s ≡ balance_of moving relocs s

-- with a relocation more
abbrev pub weighed : Bool → Bool → Balance → Balance
weighed relative moving b = record {
  more = flag (not relative && moving) + b.more;
  less = flag (relative && not moving) + b.less;
}
