-- What an index of places says of relocations.
use Rattle.std.proofs.Common.{◌≡◌, ℕ, zero, suc, ◌+◌, ◌*◌, ◌^◌, ◌<◌, ◌≤◌, Bool, true, false, cond, List, [], ◌∷◌, length, drop, length-drop, refl, ap, arith}
use Rattle.std.specs.Prelude.{Option, Some, None, not, ◌&&◌, ◌==◌, slice_get}
use Rattle.std.proofs.lemmas.Bool.{eq-eqb}
use Rattle.sdt_word.specs.Numbers.{flag}
use Rattle.aof_object.specs.declared.records.Reloc.{Reloc}
use Rattle.patch_model.specs.Fields.{Kind, Byte, Half, Word, Branch, Values, field_of, is_relative, is_by_symbol, number_named, value_named, mark_in, mark_of}
use Rattle.link_apply.specs.declared.starts.FieldDirectives.{FieldDirectives}
use Rattle.link_values.specs.declared.values.SymbolValue.{SymbolValue}
use Rattle.link_apply.specs.Targets.{meant_at, values_by}
use Rattle.link_apply.specs.Starts.{started, starts, AreBelow, IsSmall}

-- ---- numbers that fit

flag_le : (b : Bool) → flag b ≤ 1
flag_le true = omega arith
flag_le false = omega arith

mark_le : (kind : Kind) (relative by_symbol label : Bool) → mark_in kind relative by_symbol label ≤ 1
mark_le Byte relative by_symbol label = omega arith
mark_le Half relative by_symbol label = omega arith
mark_le Word relative by_symbol label = flag_le (not relative && (by_symbol && label))
mark_le (Branch t) relative by_symbol label = omega arith

number_lt : (o : Option SymbolValue) → ((s : SymbolValue) → o ≡ Some s → s.number < 2 ^ 34) → (meant_at o).number < 2 ^ 34
number_lt None below = omega arith
number_lt (Some s) below = below s refl

value_lt : (bases : ℕ → ℕ) (symbols : List SymbolValue) (r : Reloc) → ((k : ℕ) → bases k < 2 ^ 34) → AreBelow symbols
    → value_named (values_by bases symbols) r < 2 ^ 34
value_lt bases symbols r each below = by_test (is_by_symbol r)
  where
    by_test : (b : Bool) → cond b (meant_at (slice_get symbols (number_named r))).number (bases (number_named r)) < 2 ^ 34
    by_test true = number_lt (slice_get symbols (number_named r)) (below (number_named r))
    by_test false = each (number_named r)

start_small : (values : Values) → ((r : Reloc) → value_named values r < 2 ^ 34) → (rs : List Reloc) (p : ℕ) (s : FieldDirectives) → starts values rs p ≡ Some s
    → (s.added ≤ length rs * 2 ^ 35) × (s.relative ≤ length rs)
start_small values each [] p s e = absurd (cc)
start_small values each (r ∷ rs) p s e = by_test ((field_of r).place == p) e (starts values rs p) refl (start_small values each rs p)
  where
    by_start : (o : Option FieldDirectives) → started values r o ≡ s → ((t : FieldDirectives) → o ≡ Some t → (t.added ≤ length rs * 2 ^ 35) × (t.relative ≤ length rs))
        → (s.added ≤ length (r ∷ rs) * 2 ^ 35) × (s.relative ≤ length (r ∷ rs))
    by_start None e rest =
        let value = each r in
        let mark : mark_of values r ≤ 1 = mark_le _ _ _ _ in
        let one = flag_le (is_relative r) in
        let more : value_named values r + mark_of values r ≡ s.added = ap (λ (x : FieldDirectives). x.added) e in
        let relative : flag (is_relative r) ≡ s.relative = ap (λ (x : FieldDirectives). x.relative) e in
        (omega arith, omega arith)
    by_start (Some t) e rest =
        let value = each r in
        let mark : mark_of values r ≤ 1 = mark_le _ _ _ _ in
        let one = flag_le (is_relative r) in
        let h = rest t refl in
        let more : value_named values r + mark_of values r + t.added ≡ s.added = ap (λ (x : FieldDirectives). x.added) e in
        let relative : flag (is_relative r) + t.relative ≡ s.relative = ap (λ (x : FieldDirectives). x.relative) e in
        (omega arith, omega arith)

    by_test : (b : Bool) → cond b (Some (started values r (starts values rs p))) (starts values rs p) ≡ Some s → (o : Option FieldDirectives) → starts values rs p ≡ o
        → ((t : FieldDirectives) → starts values rs p ≡ Some t → (t.added ≤ length rs * 2 ^ 35) × (t.relative ≤ length rs))
        → (s.added ≤ length (r ∷ rs) * 2 ^ 35) × (s.relative ≤ length (r ∷ rs))
    by_test false e o at rest = let h = rest s e in (omega arith, omega arith)
    by_test true e o at rest = let same : started values r (starts values rs p) ≡ s = cc in by_start (starts values rs p) same rest

pub starts_small : (bases : ℕ → ℕ) (symbols : List SymbolValue) (relocs : List Reloc) (i : ℕ) → ((k : ℕ) → bases k < 2 ^ 34) → AreBelow symbols
    → length relocs < 2 ^ 28 → (p : ℕ) (s : FieldDirectives) → starts (values_by bases symbols) (drop i relocs) p ≡ Some s → IsSmall s
starts_small bases symbols relocs i each below few p s e =
    let h = start_small (values_by bases symbols) (λ r. value_lt bases symbols r each below) (drop i relocs) p s e in
    let n = length-drop i relocs in
    record { added = omega arith; relative = omega arith }

-- of all of an area's relocations
pub record AreFew (s : FieldDirectives) : Type 0 where
  pub added : s.added < 2 ^ 63
  pub relative : s.relative < 2 ^ 30

pub starts_few : (bases : ℕ → ℕ) (symbols : List SymbolValue) (relocs : List Reloc) → ((k : ℕ) → bases k < 2 ^ 34) → AreBelow symbols → length relocs < 2 ^ 28
    → (p : ℕ) (s : FieldDirectives) → starts (values_by bases symbols) relocs p ≡ Some s → AreFew s
starts_few bases symbols relocs each below few p s e =
    let h = start_small (values_by bases symbols) (λ r. value_lt bases symbols r each below) relocs p s e in
    record { added = omega arith; relative = omega arith }

-- where the field of a relocation begins something is known
pub start_there : (values : Values) (relocs : List Reloc) (k : ℕ) (r : Reloc) → slice_get relocs k ≡ Some r → starts values relocs (field_of r).place ≡ None → ⊥
start_there values [] k r there e = absurd (cc)
start_there values (q ∷ relocs) zero r there e =
    let same : q ≡ r = cc in
    let here : ((field_of q).place == (field_of r).place) ≡ true = eq-eqb (field_of q).place (field_of r).place (ap (λ x. (field_of x).place) same) in
    by_test ((field_of q).place == (field_of r).place) here e
  where
    by_test : (b : Bool) → b ≡ true → cond b (Some (started values q (starts values relocs (field_of r).place))) (starts values relocs (field_of r).place) ≡ None → ⊥
    by_test true t e = absurd (cc)
    by_test false t e = absurd (cc)
start_there values (q ∷ relocs) (suc k) r there e = by_test ((field_of q).place == (field_of r).place) e (start_there values relocs k r there)
  where
    by_test : (b : Bool) → cond b (Some (started values q (starts values relocs (field_of r).place))) (starts values relocs (field_of r).place) ≡ None
        → (starts values relocs (field_of r).place ≡ None → ⊥) → ⊥
    by_test true e rest = absurd (cc)
    by_test false e rest = rest e
