-- Overlapping fields, by what begins around them.
use Rattle.std.proofs.Common.{◌≡◌, ◌≢◌, ◌⊎◌, inl, inr, ℕ, zero, suc, ◌+◌, ◌-◌, ◌%◌, ◌<◌, ◌≤◌, length, drop, drop-cons, get_or, Bool, true, false, cond, List, [], ◌∷◌, refl, sym, ap, subst, ◌∙◌, arith}
use Rattle.indexmap.specs.IndexMap.{get}
use Rattle.std.specs.Prelude.{Option, Some, None, nat_eq, not, ◌||◌, ◌&&◌, nat_lt, ◌==◌, slice_get, is_some, max}
use Rattle.std.specs.List.{list_any}
use Rattle.std.proofs.lemmas.Bool.{or_cases, or_left, or_right, and_parts, and_from, and_left, and_right, not-true, not-false, not_from_false, or_parts, ltb-true, ltb-false, lt-ltb, le-ltb, eqb-true, eq-eqb, ne_eqb, cases_order, cases_lt, both_ways}
use Rattle.aof_object.specs.declared.records.Reloc.{Reloc}
use Rattle.patch_model.specs.Fields.{Kind, Byte, Half, Word, Branch, Values, field_of, kind_of, is_same_kind, size_of}
use Rattle.link_apply.specs.declared.starts.FieldDirectives.{FieldDirectives}
use Rattle.link_apply.specs.Flaws.{overlaps}
use Rattle.link_apply.specs.Starts.{Starts, AreEven, started, starts, goes_on, reaches, begins, is_crowded}

-- ---- kinds

size_le : (k : Kind) → size_of k ≤ 4
size_le Byte = omega arith
size_le Half = omega arith
size_le Word = omega arith
size_le (Branch t) = omega arith

size_pos : (k : Kind) → 0 < size_of k
size_pos Byte = omega arith
size_pos Half = omega arith
size_pos Word = omega arith
size_pos (Branch t) = omega arith

pub same_refl : (k : Kind) → is_same_kind k k ≡ true
same_refl Byte = refl
same_refl Half = refl
same_refl Word = refl
same_refl (Branch true) = refl
same_refl (Branch false) = refl

pub same_eq : (k l : Kind) → is_same_kind k l ≡ true → k ≡ l
same_eq Byte Byte e = refl
same_eq Half Half e = refl
same_eq Word Word e = refl
same_eq (Branch true) (Branch true) e = refl
same_eq (Branch false) (Branch false) e = refl
same_eq k l e = absurd (cc)

-- ---- what a start says of each relocation there

record Says (s : FieldDirectives) (q : Reloc) : Type 0 where
  size : size_of (kind_of q) ≤ s.widest
  kind : s.is_mixed ≡ false → kind_of q ≡ s.kind

record StartOf (values : Values) (rs : List Reloc) (q : Reloc) : Type 0 where
  start : FieldDirectives
  there : starts values rs (field_of q).place ≡ Some start
  says : Says start q

first_says : (values : Values) (r : Reloc) (o : Option FieldDirectives) → Says (started values r o) r
first_says values r None = record { size = omega arith; kind = λ e. refl }
first_says values r (Some t) = record { size = omega arith; kind = λ e. refl }

later_says : (values : Values) (r : Reloc) (t : FieldDirectives) (q : Reloc) → Says t q → Says (started values r (Some t)) q
later_says values r t q says =
    let size = says.size in
    record {
      size = omega arith;
      kind = λ e. let parts = or_parts t.is_mixed (not (is_same_kind t.kind (kind_of r))) e in
          says.kind parts.0 ∙ same_eq t.kind (kind_of r) (not-false (is_same_kind t.kind (kind_of r)) parts.1) ∙ refl;
    }

start_of : (values : Values) (rs : List Reloc) (k : ℕ) (q : Reloc) → slice_get rs k ≡ Some q → StartOf values rs q
start_of values [] k q e = absurd (cc)
start_of values (r ∷ rs) zero q e =
    let same : r ≡ q = cc in
    let at : ((field_of q).place == (field_of q).place) ≡ true = eq-eqb (field_of q).place (field_of q).place refl in
    let Of : Reloc → Type 0 = λ x. StartOf values (x ∷ rs) q in
    let there : starts values (q ∷ rs) (field_of q).place ≡ Some (started values q (starts values rs (field_of q).place)) =
    ap (λ (b : Bool). cond b (Some (started values q (starts values rs (field_of q).place))) (starts values rs (field_of q).place)) at in
    let here : StartOf values (q ∷ rs) q = record {
      start = started values q (starts values rs (field_of q).place);
      there = there;
      says = first_says values q (starts values rs (field_of q).place);
    } in
    subst Of (sym same) here
start_of values (r ∷ rs) (suc k) q e = by_test ((field_of r).place == (field_of q).place) refl (start_of values rs k q e)
  where
    by_test : (b : Bool) → ((field_of r).place == (field_of q).place) ≡ b → StartOf values rs q → StartOf values (r ∷ rs) q
    by_test false t h = record {
      start = h.start;
      there = ap (λ (b : Bool). cond b (Some (started values r (starts values rs (field_of q).place))) (starts values rs (field_of q).place)) t ∙ h.there;
      says = h.says;
    }
    by_test true t h = record {
      start = started values r (Some h.start);
      there = ap (λ (b : Bool). cond b (Some (started values r (starts values rs (field_of q).place))) (starts values rs (field_of q).place)) t
          ∙ ap (λ (o : Option FieldDirectives). Some (started values r o)) h.there;
      says = later_says values r h.start q h.says;
    }

-- ---- relocations of which a start says something

record Relocates (values : Values) (rs : List Reloc) (p : ℕ) (test : Reloc → Bool) : Type 0 where
  number : ℕ
  reloc : Reloc
  there : slice_get rs number ≡ Some reloc
  place : (field_of reloc).place ≡ p
  passes : test reloc ≡ true

behind_first : (values : Values) (r : Reloc) (rs : List Reloc) (p : ℕ) (test : Reloc → Bool) → Relocates values rs p test → Relocates values (r ∷ rs) p test
behind_first values r rs p test h = record { number = suc h.number; reloc = h.reloc; there = h.there; place = h.place; passes = h.passes }

abbrev is_wide : ℕ → Reloc → Bool
is_wide n r = nat_lt n (size_of (kind_of r))

widest : (values : Values) (rs : List Reloc) (p n : ℕ) (s : FieldDirectives) → starts values rs p ≡ Some s → n < s.widest → Relocates values rs p (is_wide n)
widest values [] p n s e h = absurd (cc)
widest values (r ∷ rs) p n s e h = by_test ((field_of r).place == p) refl e (starts values rs p) refl (widest values rs p n)
  where
    here : (field_of r).place ≡ p → n < size_of (kind_of r) → Relocates values (r ∷ rs) p (λ q. nat_lt n (size_of (kind_of q)))
    here at lt = record { number = 0; reloc = r; there = refl; place = at; passes = lt-ltb n (size_of (kind_of r)) lt }

    by_start : (o : Option FieldDirectives) → (field_of r).place ≡ p → started values r o ≡ s → ((t : FieldDirectives) → o ≡ Some t → n < t.widest → Relocates values rs p (λ q. nat_lt n (size_of (kind_of q))))
        → Relocates values (r ∷ rs) p (λ q. nat_lt n (size_of (kind_of q)))
    by_start None at e rest = let w : size_of (kind_of r) ≡ s.widest = ap (λ (x : FieldDirectives). x.widest) e in here at (omega arith)
    by_start (Some t) at e rest =
        let w : max t.widest (size_of (kind_of r)) ≡ s.widest = ap (λ (x : FieldDirectives). x.widest) e in
        by_size (cases_lt n (size_of (kind_of r)))
      where
        by_size : (n < size_of (kind_of r)) ⊎ (size_of (kind_of r) ≤ n) → Relocates values (r ∷ rs) p (λ q. nat_lt n (size_of (kind_of q)))
        by_size (inl lt) = here at lt
        by_size (inr ge) =
            let w : max t.widest (size_of (kind_of r)) ≡ s.widest = ap (λ (x : FieldDirectives). x.widest) e in
            behind_first values r rs p (λ q. nat_lt n (size_of (kind_of q))) (rest t refl (omega arith))

    by_test : (b : Bool) → ((field_of r).place == p) ≡ b → cond b (Some (started values r (starts values rs p))) (starts values rs p) ≡ Some s → (o : Option FieldDirectives) → starts values rs p ≡ o
        → ((t : FieldDirectives) → starts values rs p ≡ Some t → n < t.widest → Relocates values rs p (λ q. nat_lt n (size_of (kind_of q))))
        → Relocates values (r ∷ rs) p (λ q. nat_lt n (size_of (kind_of q)))
    by_test false t e o at rest = behind_first values r rs p (λ q. nat_lt n (size_of (kind_of q))) (rest s e h)
    by_test true t e o at rest = let same : started values r (starts values rs p) ≡ s = cc in by_start (starts values rs p) (eqb-true (field_of r).place p t) same rest

positive : (values : Values) (rs : List Reloc) (p : ℕ) (s : FieldDirectives) → starts values rs p ≡ Some s → 0 < s.widest
positive values [] p s e = absurd (cc)
positive values (r ∷ rs) p s e = by_test ((field_of r).place == p) e (positive values rs p s)
  where
    by_test : (b : Bool) → cond b (Some (started values r (starts values rs p))) (starts values rs p) ≡ Some s → (starts values rs p ≡ Some s → 0 < s.widest) → 0 < s.widest
    by_test false e rest = rest e
    by_test true e rest =
        let same : started values r (starts values rs p) ≡ s = cc in
        let size = (first_says values r (starts values rs p)).size in
        let pos = size_pos (kind_of r) in
        let w : (started values r (starts values rs p)).widest ≡ s.widest = ap (λ (x : FieldDirectives). x.widest) same in
        omega arith

-- where kinds differ, one is another than this one
abbrev Unlike : Values → List Reloc → ℕ → Kind → Type 0
Unlike values rs p kind = Relocates values rs p (λ q. not (is_same_kind (kind_of q) kind))

unlike : (values : Values) (rs : List Reloc) (p : ℕ) (kind : Kind) (s : FieldDirectives) → starts values rs p ≡ Some s
    → (s.is_mixed ≡ true) ⊎ (is_same_kind s.kind kind ≡ false) → Unlike values rs p kind
unlike values [] p kind s e h = absurd (cc)
unlike values (r ∷ rs) p kind s e h = by_test ((field_of r).place == p) refl e (unlike values rs p kind)
  where
    later : Relocates values rs p (λ q. not (is_same_kind (kind_of q) kind)) → Relocates values (r ∷ rs) p (λ q. not (is_same_kind (kind_of q) kind))
    later h = behind_first values r rs p (λ q. not (is_same_kind (kind_of q) kind)) h

    here : (field_of r).place ≡ p → is_same_kind (kind_of r) kind ≡ false → Relocates values (r ∷ rs) p (λ q. not (is_same_kind (kind_of q) kind))
    here at e = record { number = 0; reloc = r; there = refl; place = at; passes = not_from_false (is_same_kind (kind_of r) kind) e }

    kinds : (o : Option FieldDirectives) → started values r o ≡ s → s.kind ≡ kind_of r
    kinds None e = let k : kind_of r ≡ s.kind = ap (λ (x : FieldDirectives). x.kind) e in sym k
    kinds (Some t) e = let k : kind_of r ≡ s.kind = ap (λ (x : FieldDirectives). x.kind) e in sym k

    by_start : (o : Option FieldDirectives) → (field_of r).place ≡ p → started values r o ≡ s → (s.is_mixed ≡ true) ⊎ (is_same_kind s.kind kind ≡ false)
        → (b : Bool) → is_same_kind (kind_of r) kind ≡ b
        → ((t : FieldDirectives) → o ≡ Some t → (t.is_mixed ≡ true) ⊎ (is_same_kind t.kind kind ≡ false) → Relocates values rs p (λ q. not (is_same_kind (kind_of q) kind)))
        → Relocates values (r ∷ rs) p (λ q. not (is_same_kind (kind_of q) kind))
    by_start o at e h false t rest = here at t
    by_start o at e (inr other) true t rest = let k = ap (λ (x : Kind). is_same_kind x kind) (kinds o e) in absurd (cc)
    by_start None at e (inl mixed) true t rest = let m : false ≡ s.is_mixed = ap (λ (x : FieldDirectives). x.is_mixed) e in absurd (cc)
    by_start (Some u) at e (inl mixed) true t rest =
        let m : (u.is_mixed || not (is_same_kind u.kind (kind_of r))) ≡ s.is_mixed = ap (λ (x : FieldDirectives). x.is_mixed) e in
        by_parts (or_cases u.is_mixed (not (is_same_kind u.kind (kind_of r))) (m ∙ mixed))
      where
        by_parts : (u.is_mixed ≡ true) ⊎ (not (is_same_kind u.kind (kind_of r)) ≡ true) → Relocates values (r ∷ rs) p (λ q. not (is_same_kind (kind_of q) kind))
        by_parts (inl h) = later (rest u refl (inl h))
        by_parts (inr h) =
            let same : kind_of r ≡ kind = same_eq (kind_of r) kind t in
            later (rest u refl (inr (ap (λ (k : Kind). is_same_kind u.kind k) (sym same) ∙ not-true (is_same_kind u.kind (kind_of r)) h)))

    by_test : (b : Bool) → ((field_of r).place == p) ≡ b → cond b (Some (started values r (starts values rs p))) (starts values rs p) ≡ Some s
        → ((t : FieldDirectives) → starts values rs p ≡ Some t → (t.is_mixed ≡ true) ⊎ (is_same_kind t.kind kind ≡ false) → Relocates values rs p (λ q. not (is_same_kind (kind_of q) kind)))
        → Relocates values (r ∷ rs) p (λ q. not (is_same_kind (kind_of q) kind))
    by_test false t e rest = later (rest s e h)
    by_test true t e rest =
        let same : started values r (starts values rs p) ≡ s = cc in
        by_start (starts values rs p) (eqb-true (field_of r).place p t) same h (is_same_kind (kind_of r) kind) refl rest

-- ---- overlapping

any_at : {A : Type 0} (test : A → Bool) (xs : List A) (k : ℕ) (x : A) → slice_get xs k ≡ Some x → test x ≡ true → list_any test xs ≡ true
any_at test [] k x there passes = absurd (cc)
any_at test (y ∷ ys) zero x there passes = let same : y ≡ x = cc in or_left (test y) (list_any test ys) (ap test same ∙ passes)
any_at test (y ∷ ys) (suc k) x there passes = or_right (test y) (list_any test ys) (any_at test ys k x there passes)

record AnyAt {A : Type 0} (test : A → Bool) (xs : List A) : Type 0 where
  number : ℕ
  item : A
  there : slice_get xs number ≡ Some item
  passes : test item ≡ true

any_found : {A : Type 0} (test : A → Bool) (xs : List A) → list_any test xs ≡ true → AnyAt test xs
any_found test [] e = absurd (cc)
any_found {A = A} test (y ∷ ys) e = by_case (or_cases (test y) (list_any test ys) e) (any_found test ys)
  where
    by_case : (test y ≡ true) ⊎ (list_any test ys ≡ true) → (list_any test ys ≡ true → AnyAt test ys) → AnyAt test (y ∷ ys)
    by_case (inl h) rest = record { number = 0; item = y; there = refl; passes = h }
    by_case (inr h) rest = let f = rest h in record { number = suc f.number; item = f.item; there = f.there; passes = f.passes }

meets : (q r : Reloc) → ((field_of q).place == (field_of r).place && is_same_kind (kind_of q) (kind_of r)) ≡ false
    → (field_of q).place < (field_of r).place + size_of (kind_of r) → (field_of r).place < (field_of q).place + size_of (kind_of q) → overlaps (field_of q) (field_of r) ≡ true
meets q r other below above =
    and_from (not ((field_of q).place == (field_of r).place && is_same_kind (kind_of q) (kind_of r)))
    (nat_lt (field_of q).place ((field_of r).place + size_of (kind_of r)) && nat_lt (field_of r).place ((field_of q).place + size_of (kind_of q)))
    (not_from_false ((field_of q).place == (field_of r).place && is_same_kind (kind_of q) (kind_of r)) other)
    (and_from (nat_lt (field_of q).place ((field_of r).place + size_of (kind_of r))) (nat_lt (field_of r).place ((field_of q).place + size_of (kind_of q)))
    (lt-ltb (field_of q).place ((field_of r).place + size_of (kind_of r)) below) (lt-ltb (field_of r).place ((field_of q).place + size_of (kind_of q)) above))

elsewhere : (q r : Reloc) → ((field_of q).place ≡ (field_of r).place → ⊥) → ((field_of q).place == (field_of r).place && is_same_kind (kind_of q) (kind_of r)) ≡ false
elsewhere q r h = and_left ((field_of q).place == (field_of r).place) (is_same_kind (kind_of q) (kind_of r)) (ne_eqb (field_of q).place (field_of r).place h)

abbrev Any : List Reloc → Reloc → Type 0
Any relocs r = list_any (λ q. overlaps (field_of q) (field_of r)) relocs ≡ true

from_behind : (values : Values) (relocs : List Reloc) (r : Reloc) (d : ℕ) → 0 < d → reaches (λ p. starts values relocs p) (field_of r).place d ≡ true → Any relocs r
from_behind values relocs r d pos e = by_test (nat_lt (field_of r).place d) refl e
  where
    by_start : (o : Option FieldDirectives) → starts values relocs ((field_of r).place - d) ≡ o → d ≤ (field_of r).place → goes_on d o ≡ true
        → list_any (λ q. overlaps (field_of q) (field_of r)) relocs ≡ true
    by_start None at le e = absurd (cc)
    by_start (Some t) at le e =
        let w = widest values relocs ((field_of r).place - d) d t at (ltb-true d t.widest e) in
        let place = w.place in
        let wide = ltb-true d (size_of (kind_of w.reloc)) w.passes in
        let pos_r = size_pos (kind_of r) in
        any_at (λ q. overlaps (field_of q) (field_of r)) relocs w.number w.reloc w.there (meets w.reloc r (elsewhere w.reloc r (λ same. omega arith)) (omega arith) (omega arith))

    by_test : (b : Bool) → nat_lt (field_of r).place d ≡ b → cond b false (goes_on d (starts values relocs ((field_of r).place - d))) ≡ true
        → list_any (λ q. overlaps (field_of q) (field_of r)) relocs ≡ true
    by_test true t e = absurd (cc)
    by_test false t e = by_start (starts values relocs ((field_of r).place - d)) refl (ltb-false (field_of r).place d t) e

from_after : (values : Values) (relocs : List Reloc) (r : Reloc) (d : ℕ) → 0 < d → begins (λ p. starts values relocs p) (field_of r).place (size_of (kind_of r)) d ≡ true → Any relocs r
from_after values relocs r d pos e = by_parts (and_parts (nat_lt d (size_of (kind_of r))) (is_some (starts values relocs ((field_of r).place + d))) e)
  where
    by_start : (o : Option FieldDirectives) → starts values relocs ((field_of r).place + d) ≡ o → d < size_of (kind_of r) → is_some o ≡ true
        → list_any (λ q. overlaps (field_of q) (field_of r)) relocs ≡ true
    by_start None at lt e = absurd (cc)
    by_start (Some t) at lt e =
        let w = widest values relocs ((field_of r).place + d) 0 t at (positive values relocs ((field_of r).place + d) t at) in
        let place = w.place in
        let pos_q = size_pos (kind_of w.reloc) in
        any_at (λ q. overlaps (field_of q) (field_of r)) relocs w.number w.reloc w.there (meets w.reloc r (elsewhere w.reloc r (λ same. omega arith)) (omega arith) (omega arith))

    by_parts : (nat_lt d (size_of (kind_of r)) ≡ true) × (is_some (starts values relocs ((field_of r).place + d)) ≡ true)
        → list_any (λ q. overlaps (field_of q) (field_of r)) relocs ≡ true
    by_parts (lt, some) = by_start (starts values relocs ((field_of r).place + d)) refl (ltb-true d (size_of (kind_of r)) lt) some

from_mixed : (values : Values) (relocs : List Reloc) (r : Reloc) (s : FieldDirectives) → starts values relocs (field_of r).place ≡ Some s → s.is_mixed ≡ true → Any relocs r
from_mixed values relocs r s there mixed =
    let w = unlike values relocs (field_of r).place (kind_of r) s there (inl mixed) in
    let place = w.place in
    let pos_q = size_pos (kind_of w.reloc) in
    let pos_r = size_pos (kind_of r) in
    any_at (λ q. overlaps (field_of q) (field_of r)) relocs w.number w.reloc w.there
    (meets w.reloc r (and_right ((field_of w.reloc).place == (field_of r).place) (is_same_kind (kind_of w.reloc) (kind_of r)) (not-true (is_same_kind (kind_of w.reloc) (kind_of r)) w.passes)) (omega arith) (omega arith))

same_true : (a b : Bool) → (a ≡ true → b ≡ true) → (b ≡ true → a ≡ true) → a ≡ b
same_true true b f g = sym (f refl)
same_true false true f g = g refl
same_true false false f g = refl

any_of : (P : Type 0) (a b c d e f g : Bool) → (a || (b || (c || (d || (e || (f || g)))))) ≡ true → (a ≡ true → P) → (b ≡ true → P) → (c ≡ true → P) → (d ≡ true → P)
    → (e ≡ true → P) → (f ≡ true → P) → (g ≡ true → P) → P
any_of P true b c d e f g h pa pb pc pd pe pf pg = pa refl
any_of P false true c d e f g h pa pb pc pd pe pf pg = pb refl
any_of P false false true d e f g h pa pb pc pd pe pf pg = pc refl
any_of P false false false true e f g h pa pb pc pd pe pf pg = pd refl
any_of P false false false false true f g h pa pb pc pd pe pf pg = pe refl
any_of P false false false false false true g h pa pb pc pd pe pf pg = pf refl
any_of P false false false false false false g h pa pb pc pd pe pf pg = pg h

crowded_overlaps : (values : Values) (relocs : List Reloc) (r : Reloc) (s : FieldDirectives) → starts values relocs (field_of r).place ≡ Some s
    → is_crowded (λ p. starts values relocs p) (field_of r).place (size_of (kind_of r)) s.is_mixed ≡ true → Any relocs r
crowded_overlaps values relocs r s there e =
    any_of (list_any (λ q. overlaps (field_of q) (field_of r)) relocs ≡ true) s.is_mixed
    (reaches (λ p. starts values relocs p) (field_of r).place 1) (reaches (λ p. starts values relocs p) (field_of r).place 2) (reaches (λ p. starts values relocs p) (field_of r).place 3)
    (begins (λ p. starts values relocs p) (field_of r).place (size_of (kind_of r)) 1) (begins (λ p. starts values relocs p) (field_of r).place (size_of (kind_of r)) 2)
    (begins (λ p. starts values relocs p) (field_of r).place (size_of (kind_of r)) 3) e (from_mixed values relocs r s there)
    (from_behind values relocs r 1 (omega arith)) (from_behind values relocs r 2 (omega arith)) (from_behind values relocs r 3 (omega arith))
    (from_after values relocs r 1 (omega arith)) (from_after values relocs r 2 (omega arith)) (from_after values relocs r 3 (omega arith))

behind_is : (start : ℕ → Option FieldDirectives) (place size d : ℕ) (mixed : Bool) → 0 < d → d < 4 → reaches start place d ≡ true → is_crowded start place size mixed ≡ true
behind_is start place size zero true pos lt e = refl
behind_is start place size (suc d) true pos lt e = refl
behind_is start place size zero false pos lt e = absurd (omega arith)
behind_is start place size (suc zero) false pos lt e = or_left (reaches start place 1) _ e
behind_is start place size (suc (suc zero)) false pos lt e = or_right (reaches start place 1) _ (or_left (reaches start place 2) _ e)
behind_is start place size (suc (suc (suc zero))) false pos lt e = or_right (reaches start place 1) _ (or_right (reaches start place 2) _ (or_left (reaches start place 3) _ e))
behind_is start place size (suc (suc (suc (suc d)))) false pos lt e = absurd (omega arith)

after_is : (start : ℕ → Option FieldDirectives) (place size d : ℕ) (mixed : Bool) → 0 < d → d < 4 → begins start place size d ≡ true → is_crowded start place size mixed ≡ true
after_is start place size zero true pos lt e = refl
after_is start place size (suc d) true pos lt e = refl
after_is start place size zero false pos lt e = absurd (omega arith)
after_is start place size (suc zero) false pos lt e =
    or_right (reaches start place 1) _ (or_right (reaches start place 2) _ (or_right (reaches start place 3) _ (or_left (begins start place size 1) _ e)))
after_is start place size (suc (suc zero)) false pos lt e =
    or_right (reaches start place 1) _ (or_right (reaches start place 2) _ (or_right (reaches start place 3) _ (or_right (begins start place size 1) _ (or_left (begins start place size 2) _ e))))
after_is start place size (suc (suc (suc zero))) false pos lt e =
    or_right (reaches start place 1) _ (or_right (reaches start place 2) _ (or_right (reaches start place 3) _ (or_right (begins start place size 1) _ (or_right (begins start place size 2) _ e))))
after_is start place size (suc (suc (suc (suc d)))) false pos lt e = absurd (omega arith)

overlap_crowds : (values : Values) (relocs : List Reloc) (r q : Reloc) (s : FieldDirectives) → starts values relocs (field_of r).place ≡ Some s → Says s r → StartOf values relocs q
    → overlaps (field_of q) (field_of r) ≡ true → is_crowded (λ p. starts values relocs p) (field_of r).place (size_of (kind_of r)) s.is_mixed ≡ true
overlap_crowds values relocs r q s there says h e =
    let parts = and_parts (not ((field_of q).place == (field_of r).place && is_same_kind (kind_of q) (kind_of r)))
    (nat_lt (field_of q).place ((field_of r).place + size_of (kind_of r)) && nat_lt (field_of r).place ((field_of q).place + size_of (kind_of q))) e in
    let spans = and_parts (nat_lt (field_of q).place ((field_of r).place + size_of (kind_of r))) (nat_lt (field_of r).place ((field_of q).place + size_of (kind_of q))) parts.1 in
    by_order (ltb-true (field_of q).place ((field_of r).place + size_of (kind_of r)) spans.0) (ltb-true (field_of r).place ((field_of q).place + size_of (kind_of q)) spans.1)
    (not-true ((field_of q).place == (field_of r).place && is_same_kind (kind_of q) (kind_of r)) parts.0) (cases_order (field_of q).place (field_of r).place)
  where
    start : ℕ → Option FieldDirectives
    start p = starts values relocs p

    by_mixed : (b : Bool) → s.is_mixed ≡ b → (field_of q).place ≡ (field_of r).place → ((field_of q).place == (field_of r).place && is_same_kind (kind_of q) (kind_of r)) ≡ false
        → is_crowded (λ p. starts values relocs p) (field_of r).place (size_of (kind_of r)) s.is_mixed ≡ true
    by_mixed true m at other = or_left s.is_mixed _ m
    by_mixed false m at other =
        let Sa : ℕ → Type 0 = λ p. starts values relocs p ≡ Some s in
        let one : starts values relocs (field_of q).place ≡ Some s = subst Sa (sym at) there in
        let two = h.there in
        let same : h.start ≡ s = cc in
        let Su : FieldDirectives → Type 0 = λ x. Says x q in
        let kind_q = (subst Su same h.says).kind m in
        let kind_r = says.kind m in
        let kinds = ap (λ (k : Kind). is_same_kind k (kind_of r)) (kind_q ∙ sym kind_r) ∙ same_refl (kind_of r) in
        absurd (both_ways ((field_of q).place == (field_of r).place && is_same_kind (kind_of q) (kind_of r)) other
        (and_from ((field_of q).place == (field_of r).place) (is_same_kind (kind_of q) (kind_of r)) (eq-eqb (field_of q).place (field_of r).place at) kinds))

    by_order : (field_of q).place < (field_of r).place + size_of (kind_of r) → (field_of r).place < (field_of q).place + size_of (kind_of q)
        → ((field_of q).place == (field_of r).place && is_same_kind (kind_of q) (kind_of r)) ≡ false
        → ((field_of q).place ≡ (field_of r).place) ⊎ (((field_of q).place < (field_of r).place) ⊎ ((field_of r).place < (field_of q).place))
        → is_crowded (λ p. starts values relocs p) (field_of r).place (size_of (kind_of r)) s.is_mixed ≡ true
    by_order below above other (inl at) = by_mixed s.is_mixed refl at other
    by_order below above other (inr (inl lt)) =
        let d : ℕ = (field_of r).place - (field_of q).place in
        let size = size_le (kind_of q) in
        let wide = h.says.size in
        let back : (field_of q).place ≡ (field_of r).place - ((field_of r).place - (field_of q).place) = omega arith in
        let lower = le-ltb (field_of r).place ((field_of r).place - (field_of q).place) (omega arith) in
        let on : goes_on ((field_of r).place - (field_of q).place) (starts values relocs (field_of q).place) ≡ true =
        ap (λ o. goes_on ((field_of r).place - (field_of q).place) o) h.there ∙ lt-ltb ((field_of r).place - (field_of q).place) h.start.widest (omega arith) in
        let On : ℕ → Type 0 = λ n. goes_on ((field_of r).place - (field_of q).place) (starts values relocs n) ≡ true in
        let reached : reaches (λ p. starts values relocs p) (field_of r).place ((field_of r).place - (field_of q).place) ≡ true =
        ap (λ (b : Bool). cond b false (goes_on ((field_of r).place - (field_of q).place) (starts values relocs ((field_of r).place - ((field_of r).place - (field_of q).place))))) lower
        ∙ subst On back on in
        behind_is (λ p. starts values relocs p) (field_of r).place (size_of (kind_of r)) ((field_of r).place - (field_of q).place) s.is_mixed (omega arith) (omega arith) reached
    by_order below above other (inr (inr gt)) =
        let size = size_le (kind_of r) in
        let back : (field_of q).place ≡ (field_of r).place + ((field_of q).place - (field_of r).place) = omega arith in
        let some : is_some (starts values relocs (field_of q).place) ≡ true = ap (λ (o : Option FieldDirectives). is_some o) h.there in
        let On : ℕ → Type 0 = λ n. is_some (starts values relocs n) ≡ true in
        after_is (λ p. starts values relocs p) (field_of r).place (size_of (kind_of r)) ((field_of q).place - (field_of r).place) s.is_mixed (omega arith) (omega arith)
        (and_from (nat_lt ((field_of q).place - (field_of r).place) (size_of (kind_of r))) (is_some (starts values relocs ((field_of r).place + ((field_of q).place - (field_of r).place))))
        (lt-ltb ((field_of q).place - (field_of r).place) (size_of (kind_of r)) (omega arith)) (subst On back some))

pub crowded_is : (values : Values) (relocs : List Reloc) (r : Reloc) (k : ℕ) (s : FieldDirectives) → slice_get relocs k ≡ Some r → starts values relocs (field_of r).place ≡ Some s
    → is_crowded (λ p. starts values relocs p) (field_of r).place (size_of (kind_of r)) s.is_mixed ≡ list_any (λ q. overlaps (field_of q) (field_of r)) relocs
crowded_is values relocs r k s at there =
    let own = start_of values relocs k r at in
    let two = own.there in
    let same : own.start ≡ s = cc in
    let Su : FieldDirectives → Type 0 = λ x. Says x r in
    let says = subst Su same own.says in
    same_true (is_crowded (λ p. starts values relocs p) (field_of r).place (size_of (kind_of r)) s.is_mixed) (list_any (λ q. overlaps (field_of q) (field_of r)) relocs)
    (crowded_overlaps values relocs r s there)
    (λ e. let f = any_found (λ q. overlaps (field_of q) (field_of r)) relocs e in
    overlap_crowds values relocs r f.item s there says (start_of values relocs f.number f.item f.there) f.passes)

-- ---- a place whose relocations agree

pub unmixed_there : (values : Values) (relocs : List Reloc) (r : Reloc) (s : FieldDirectives) → starts values relocs (field_of r).place ≡ Some s
    → list_any (λ q. overlaps (field_of q) (field_of r)) relocs ≡ false → s.is_mixed ≡ false
unmixed_there values relocs r s there none = by_mixed s.is_mixed refl
  where
    by_mixed : (b : Bool) → s.is_mixed ≡ b → s.is_mixed ≡ false
    by_mixed false e = e
    by_mixed true e = let any = from_mixed values relocs r s there e in absurd (cc)

pub kind_there : (values : Values) (relocs : List Reloc) (r : Reloc) (k : ℕ) (s : FieldDirectives) → slice_get relocs k ≡ Some r → starts values relocs (field_of r).place ≡ Some s
    → s.is_mixed ≡ false → kind_of r ≡ s.kind
kind_there values relocs r k s at there unmixed =
    let h = start_of values relocs k r at in
    let found = h.there in
    let same : h.start ≡ s = cc in
    h.says.kind (ap (λ (x : FieldDirectives). x.is_mixed) same ∙ unmixed) ∙ ap (λ (x : FieldDirectives). x.kind) same

-- ---- fields that begin at whole words alone

even_apart : (start : ℕ → Option FieldDirectives) (place size : ℕ) → ((p : ℕ) → p % 4 ≢ 0 → start p ≡ None) → place % 4 ≡ 0 → (mixed : Bool) → is_crowded start place size mixed ≡ mixed
even_apart start place size even whole true = refl
even_apart start place size even whole false = rw (behind 1 (omega arith) (omega arith), behind 2 (omega arith) (omega arith), behind 3 (omega arith) (omega arith), after 1 (omega arith) (omega arith), after 2 (omega arith) (omega arith), after 3 (omega arith) (omega arith)) refl
  where
    behind : (d : ℕ) → 0 < d → d < 4 → reaches start place d ≡ false
    behind d low high = by (nat_lt place d) refl
      where
        by : (b : Bool) → nat_lt place d ≡ b → cond b false (goes_on d (start (place - d))) ≡ false
        by true e = refl
        by false e = let below = ltb-false place d e in ap (λ o. goes_on d o) (even (place - d) (λ z. absurd (omega (arith, z))))

    after : (d : ℕ) → 0 < d → d < 4 → begins start place size d ≡ false
    after d low high = ap (λ o. nat_lt d size && is_some o) (even (place + d) (λ z. absurd (omega (arith, z)))) ∙ by (nat_lt d size)
      where
        by : (b : Bool) → (b && false) ≡ false
        by true = refl
        by false = refl

pub even_is_apart : (m : Starts) (place size : ℕ) → AreEven m → place % 4 ≡ 0 → is_crowded (λ p. get nat_eq m p) place size false ≡ false
even_is_apart m place size even whole = even_apart (λ p. get nat_eq m p) place size even whole false

-- where one begins, a whole word is
pub even_place : (m : Starts) (place : ℕ) (s : FieldDirectives) → AreEven m → get nat_eq m place ≡ Some s → place % 4 ≡ 0
even_place m place s even there = by (place % 4) refl
  where
    by : (r : ℕ) → place % 4 ≡ r → place % 4 ≡ 0
    by zero e = e
    by (suc r) e = let none = even place (λ z. absurd (omega (arith, e, z))) in absurd cc

pub none_begins : (values : Values) (rs : List Reloc) (i : ℕ) (r : Reloc) (p : ℕ) → i < length rs → r ≡ get_or rs i r → (field_of r).place % 4 ≡ 0 → p % 4 ≢ 0
    → starts values (drop (i + 1) rs) p ≡ starts values (drop i rs) p
none_begins values rs i r p h e whole part =
    let n : i + 1 ≡ suc i = omega arith in
    let here : drop i rs ≡ r ∷ drop (suc i) rs = drop-cons rs i r h ∙ ap (λ (y : Reloc). y ∷ drop (suc i) rs) (sym e) in
    let other : ((field_of r).place == p) ≡ false = ne_eqb (field_of r).place p (λ same. part (sym (ap (λ (k : ℕ). k % 4) same) ∙ whole)) in
    ap (λ (k : ℕ). starts values (drop k rs) p) n
    ∙ sym (ap (λ (xs : List Reloc). starts values xs p) here ∙ ap (λ (b : Bool). cond b (Some (started values r (starts values (drop (suc i) rs) p))) (starts values (drop (suc i) rs) p)) other)
