-- What an index of places says of the directives of a field.
use Rattle.std.proofs.Common.{◌≡◌, ℕ, ◌+◌, ◌*◌, ◌≤◌, Bool, true, false, cond, List, [], ◌∷◌, refl, sym, ap, subst, ◌∙◌, arith}
use Rattle.std.specs.Prelude.{Option, Some, None, not, ◌||◌, ◌==◌, count_by}
use Rattle.std.proofs.lemmas.Bool.{or_parts, not-false, and_from, and_left, eq-eqb, ne_eqb}
use Rattle.std.proofs.lemmas.List.Sums.{sum_by-cons}
use Rattle.sdt_word.specs.Numbers.{flag}
use Rattle.aof_object.specs.declared.records.Reloc.{Reloc}
use Rattle.patch_model.specs.Fields.{Kind, Field, Values, field_of, kind_of, is_same_kind, is_field, directives, is_relative, value_named, mark_of, added, taken, size_of}
use Rattle.patch_model.specs.Patched.{first_symbol}
use Rattle.link_model.specs.Veneers.{shares_field}
use Rattle.link_apply.specs.declared.starts.FieldDirectives.{FieldDirectives}
use Rattle.link_apply.specs.Starts.{symbol_by, started, starts}
use Rattle.link_apply.proofs.OverlapLemmas.{same_refl, same_eq}

-- the directives of a field, by the start of its place
pub record Directs (values : Values) (base : ℕ) (rs : List Reloc) (f : Field) (s : FieldDirectives) : Type 0 where
  pub added : added values (directives rs f) ≡ s.added
  pub subtracted : taken base (directives rs f) ≡ base * s.relative
  pub symbol : first_symbol (directives rs f) ≡ s.symbol

elsewhere : (values : Values) (rs : List Reloc) (f : Field) → starts values rs f.place ≡ None → directives rs f ≡ []
elsewhere values [] f e = refl
elsewhere values (r ∷ rs) f e = by_test ((field_of r).place == f.place) refl e (elsewhere values rs f)
  where
    by_test : (b : Bool) → ((field_of r).place == f.place) ≡ b → cond b (Some (started values r (starts values rs f.place))) (starts values rs f.place) ≡ None
        → (starts values rs f.place ≡ None → directives rs f ≡ []) → directives (r ∷ rs) f ≡ []
    by_test true t e rest = absurd (cc)
    by_test false t e rest =
        ap (λ (b : Bool). cond b (r ∷ directives rs f) (directives rs f)) (and_left ((field_of r).place == f.place) (is_same_kind (kind_of r) f.kind) t) ∙ rest e

pub tells : (values : Values) (base : ℕ) (rs : List Reloc) (f : Field) (s : FieldDirectives) → starts values rs f.place ≡ Some s → s.is_mixed ≡ false → f.kind ≡ s.kind
    → Directs values base rs f s
tells values base [] f s e unmixed kind = absurd (cc)
tells values base (r ∷ rs) f s e unmixed kind = by_test ((field_of r).place == f.place) refl e (starts values rs f.place) refl (tells values base rs f)
  where
    drops : is_field f r ≡ false → directives (r ∷ rs) f ≡ directives rs f
    drops h = ap (λ (b : Bool). cond b (r ∷ directives rs f) (directives rs f)) h

    keeps : is_field f r ≡ true → directives (r ∷ rs) f ≡ r ∷ directives rs f
    keeps h = ap (λ (b : Bool). cond b (r ∷ directives rs f) (directives rs f)) h

    by_start : (o : Option FieldDirectives) → starts values rs f.place ≡ o → started values r o ≡ s → is_field f r ≡ true → f.kind ≡ kind_of r
        → ((t : FieldDirectives) → starts values rs f.place ≡ Some t → t.is_mixed ≡ false → f.kind ≡ t.kind → Directs values base rs f t)
        → Directs values base (r ∷ rs) f s
    by_start None at e own kind rest =
        let here : directives (r ∷ rs) f ≡ r ∷ [] = keeps own ∙ ap (λ l. r ∷ l) (elsewhere values rs f at) in
        let more : value_named values r + mark_of values r ≡ s.added = ap (λ (x : FieldDirectives). x.added) e in
        let relative : flag (is_relative r) ≡ s.relative = ap (λ (x : FieldDirectives). x.relative) e in
        let a : value_named values r + mark_of values r + 0 ≡ s.added = omega arith in
        let b : base * flag (is_relative r) + 0 ≡ base * s.relative = ap (λ n. base * n + 0) relative ∙ bare (base * s.relative) in
        record {
          added = ap (λ l. added values l) here ∙ a;
          subtracted = ap (λ l. taken base l) here ∙ b;
          symbol = ap (λ l. first_symbol l) here ∙ ap (λ (x : FieldDirectives). x.symbol) e;
        }
      where
        bare : (n : ℕ) → n + 0 ≡ n
        bare n = omega arith
    by_start (Some t) at e own kind rest =
        let m : (t.is_mixed || not (is_same_kind t.kind (kind_of r))) ≡ s.is_mixed = ap (λ (x : FieldDirectives). x.is_mixed) e in
        let parts = or_parts t.is_mixed (not (is_same_kind t.kind (kind_of r))) (m ∙ unmixed) in
        let same = same_eq t.kind (kind_of r) (not-false (is_same_kind t.kind (kind_of r)) parts.1) in
        let h = rest t at parts.0 (kind ∙ sym same) in
        let here = keeps own in
        let more : value_named values r + mark_of values r + t.added ≡ s.added = ap (λ (x : FieldDirectives). x.added) e in
        let relative : flag (is_relative r) + t.relative ≡ s.relative = ap (λ (x : FieldDirectives). x.relative) e in
        let less : base * flag (is_relative r) + base * t.relative ≡ base * s.relative = spread (flag (is_relative r)) t.relative ∙ ap (λ n. base * n) relative in
        record {
          added = ap (λ l. added values l) here ∙ ap (λ n. value_named values r + mark_of values r + n) h.added ∙ more;
          subtracted = ap (λ l. taken base l) here ∙ ap (λ n. base * flag (is_relative r) + n) h.subtracted ∙ less;
          symbol = ap (λ l. first_symbol l) here ∙ ap (λ o. symbol_by r o) h.symbol ∙ ap (λ (x : FieldDirectives). x.symbol) e;
        }
      where
        spread : (m n : ℕ) → base * m + base * n ≡ base * (m + n)
        spread m n = omega arith

    kinds : (o : Option FieldDirectives) → started values r o ≡ s → s.kind ≡ kind_of r
    kinds None e = let k : kind_of r ≡ s.kind = ap (λ (x : FieldDirectives). x.kind) e in sym k
    kinds (Some t) e = let k : kind_of r ≡ s.kind = ap (λ (x : FieldDirectives). x.kind) e in sym k

    by_test : (b : Bool) → ((field_of r).place == f.place) ≡ b → cond b (Some (started values r (starts values rs f.place))) (starts values rs f.place) ≡ Some s
        → (o : Option FieldDirectives) → starts values rs f.place ≡ o
        → ((t : FieldDirectives) → starts values rs f.place ≡ Some t → t.is_mixed ≡ false → f.kind ≡ t.kind → Directs values base rs f t)
        → Directs values base (r ∷ rs) f s
    by_test false t e o at rest =
        let out = drops (and_left ((field_of r).place == f.place) (is_same_kind (kind_of r) f.kind) t) in
        let h = rest s e unmixed kind in
        record { added = ap (λ l. added values l) out ∙ h.added; subtracted = ap (λ l. taken base l) out ∙ h.subtracted; symbol = ap (λ l. first_symbol l) out ∙ h.symbol }
    by_test true t e o at rest =
        let same : started values r (starts values rs f.place) ≡ s = cc in
        let k = kind ∙ kinds (starts values rs f.place) same in
        let own = and_from ((field_of r).place == f.place) (is_same_kind (kind_of r) f.kind) t (ap (λ (x : Kind). is_same_kind (kind_of r) x) k ∙ same_refl (kind_of r)) in
        by_start (starts values rs f.place) refl same own k rest

-- ---- how many relocations have a field

-- one where a start is alone, and more where it isn't
Counts : Bool → ℕ → Type 0
Counts true n = n ≡ 1
Counts false n = 2 ≤ n

counted : (f : Field) (r : Reloc) (rs : List Reloc) (b : Bool) → shares_field f r ≡ b → count_by (shares_field f) (r ∷ rs) ≡ cond b 1 0 + count_by (shares_field f) rs
counted f r rs b e = sum_by-cons (λ q. cond (shares_field f q) 1 0) r rs ∙ ap (λ (c : Bool). cond c 1 0 + count_by (shares_field f) rs) e

none_counted : (values : Values) (rs : List Reloc) (f : Field) → starts values rs f.place ≡ None → count_by (shares_field f) rs ≡ 0
none_counted values [] f e = refl
none_counted values (r ∷ rs) f e = by_test ((field_of r).place == f.place) refl e (none_counted values rs f)
  where
    by_test : (b : Bool) → ((field_of r).place == f.place) ≡ b → cond b (Some (started values r (starts values rs f.place))) (starts values rs f.place) ≡ None
        → (starts values rs f.place ≡ None → count_by (shares_field f) rs ≡ 0) → count_by (shares_field f) (r ∷ rs) ≡ 0
    by_test true t e rest = absurd (cc)
    by_test false t e rest = omega (arith, counted f r rs false (and_left ((field_of r).place == f.place) (size_of (kind_of r) == size_of f.kind) t), rest e)

counts : (values : Values) (rs : List Reloc) (f : Field) (s : FieldDirectives) → starts values rs f.place ≡ Some s → s.is_mixed ≡ false → f.kind ≡ s.kind
    → Counts s.is_alone (count_by (shares_field f) rs)
unfolding Counts
counts values [] f s e unmixed kind = absurd (cc)
counts values (r ∷ rs) f s e unmixed kind = by_test ((field_of r).place == f.place) refl e (counts values rs f)
  where
    some : (b : Bool) (n : ℕ) → Counts b n → 1 ≤ n
    some true n h = omega arith
    some false n h = omega arith

    by_start : (o : Option FieldDirectives) → starts values rs f.place ≡ o → started values r o ≡ s → shares_field f r ≡ true → f.kind ≡ kind_of r
        → ((t : FieldDirectives) → starts values rs f.place ≡ Some t → t.is_mixed ≡ false → f.kind ≡ t.kind → Counts t.is_alone (count_by (shares_field f) rs))
        → Counts s.is_alone (count_by (shares_field f) (r ∷ rs))
    by_start None at e own kind rest =
        let alone : true ≡ s.is_alone = ap (λ (x : FieldDirectives). x.is_alone) e in
        let n : count_by (shares_field f) (r ∷ rs) ≡ 1 = omega (arith, counted f r rs true own, none_counted values rs f at) in
        subst (λ b. Counts b (count_by (shares_field f) (r ∷ rs))) alone n
    by_start (Some t) at e own kind rest =
        let m : (t.is_mixed || not (is_same_kind t.kind (kind_of r))) ≡ s.is_mixed = ap (λ (x : FieldDirectives). x.is_mixed) e in
        let parts = or_parts t.is_mixed (not (is_same_kind t.kind (kind_of r))) (m ∙ unmixed) in
        let same = same_eq t.kind (kind_of r) (not-false (is_same_kind t.kind (kind_of r)) parts.1) in
        let h = some t.is_alone (count_by (shares_field f) rs) (rest t at parts.0 (kind ∙ sym same)) in
        let alone : false ≡ s.is_alone = ap (λ (x : FieldDirectives). x.is_alone) e in
        let n : 2 ≤ count_by (shares_field f) (r ∷ rs) = omega (arith, counted f r rs true own, h) in
        subst (λ b. Counts b (count_by (shares_field f) (r ∷ rs))) alone n

    kinds : (o : Option FieldDirectives) → started values r o ≡ s → s.kind ≡ kind_of r
    kinds None e = let k : kind_of r ≡ s.kind = ap (λ (x : FieldDirectives). x.kind) e in sym k
    kinds (Some t) e = let k : kind_of r ≡ s.kind = ap (λ (x : FieldDirectives). x.kind) e in sym k

    by_test : (b : Bool) → ((field_of r).place == f.place) ≡ b → cond b (Some (started values r (starts values rs f.place))) (starts values rs f.place) ≡ Some s
        → ((t : FieldDirectives) → starts values rs f.place ≡ Some t → t.is_mixed ≡ false → f.kind ≡ t.kind → Counts t.is_alone (count_by (shares_field f) rs))
        → Counts s.is_alone (count_by (shares_field f) (r ∷ rs))
    by_test false t e rest =
        let n : count_by (shares_field f) (r ∷ rs) ≡ count_by (shares_field f) rs = omega (arith, counted f r rs false (and_left ((field_of r).place == f.place) (size_of (kind_of r) == size_of f.kind) t)) in
        subst (λ n. Counts s.is_alone n) (sym n) (rest s e unmixed kind)
    by_test true t e rest =
        let same : started values r (starts values rs f.place) ≡ s = cc in
        let k = kind ∙ kinds (starts values rs f.place) same in
        let sizes : (size_of (kind_of r) == size_of f.kind) ≡ true = eq-eqb (size_of (kind_of r)) (size_of f.kind) (ap size_of (sym k)) in
        by_start (starts values rs f.place) refl same (and_from ((field_of r).place == f.place) (size_of (kind_of r) == size_of f.kind) t sizes) k rest

pub alone_is : (values : Values) (rs : List Reloc) (f : Field) (s : FieldDirectives) → starts values rs f.place ≡ Some s → s.is_mixed ≡ false → f.kind ≡ s.kind
    → s.is_alone ≡ (count_by (shares_field f) rs == 1)
unfolding Counts
alone_is values rs f s e unmixed kind = by_alone s.is_alone (count_by (shares_field f) rs) (counts values rs f s e unmixed kind)
  where
    by_alone : (b : Bool) (n : ℕ) → Counts b n → b ≡ (n == 1)
    by_alone true n h = sym (eq-eqb n 1 h)
    by_alone false n h = sym (ne_eqb n 1 (λ e. omega arith))
