-- Statements make one object: its bytes and relocations are told by what stands in its areas.
use Rattle.std.proofs.Common.{◌≡◌, ℕ, ◌+◌, ◌-◌, ◌<◌, ◌≤◌, List, [], ◌∷◌, length, take, drop, get_or, Bool, true, false, refl, sym, ◌∙◌, ap, subst, arith, Some, ◌⊎◌, inl, inr}
use Rattle.std.specs.Prelude.{nat_lt, slice_get}
use Rattle.std.proofs.lemmas.Bool.{ltb-true, ltb-false}
use Rattle.std.proofs.lemmas.List.{ext_get_or, get_or-drop, get_or-take}
use Rattle.std.proofs.lemmas.Option.{slice_get-get_or}
use Rattle.aof_object.specs.declared.records.Area.{Area}
use Rattle.aof_object.specs.declared.records.Object.{Object}
use Rattle.aof_object.specs.declared.records.Reloc.{Reloc}
use Rattle.asm_model.specs.declared.statements.Statement.{Statement}
use Rattle.source_model.specs.Objects.{Piece, unit_bytes, Source, source_of, IsAmong, things_in, HoldsBytes, IsRelocOf, IsRising, HasRelocs, contents_of, is_kept, KeepsBytes, IsArea, IsObject}

-- ---- lists

pub same_value : {A : Type 0} → (x y : A) → Some x ≡ Some y → x ≡ y
same_value x y e = cc

pub same_lists : {A : Type 0} → (xs ys : List A) → length xs ≡ length ys
    → ((i : ℕ) (x y : A) → slice_get xs i ≡ Some x → slice_get ys i ≡ Some y → x ≡ y) → xs ≡ ys
same_lists [] [] e f = refl
same_lists [] (y ∷ ys) e f = absurd (omega (arith, e))
same_lists (x ∷ xs) ys e f =
    ext_get_or x (x ∷ xs) ys e
    (λ i h.
    f i (get_or (x ∷ xs) i x) (get_or ys i x) (slice_get-get_or (x ∷ xs) i x h)
    (slice_get-get_or ys i x (subst (λ n. i < n) e h)))

-- ---- bytes

abbrev pub Covers : Piece → ℕ → Type 0
Covers p i = (p.0 ≤ i) × (i < p.0 + length (unit_bytes p.1))

abbrev pub Misses : Piece → ℕ → Type 0
Misses p i = (i < p.0) ⊎ (p.0 + length (unit_bytes p.1) ≤ i)

pub covers_or_misses : (p : Piece) (i : ℕ) → Covers p i ⊎ Misses p i
covers_or_misses p i = by_tests (nat_lt i p.0) (nat_lt i (p.0 + length (unit_bytes p.1))) refl refl
  where
    by_tests : (a b : Bool) → nat_lt i p.0 ≡ a → nat_lt i (p.0 + length (unit_bytes p.1)) ≡ b → Covers p i ⊎ Misses p i
    by_tests true b h k = inr (inl (ltb-true i p.0 h))
    by_tests false true h k = inl (ltb-false i p.0 h, ltb-true i (p.0 + length (unit_bytes p.1)) k)
    by_tests false false h k = inr (inr (ltb-false i (p.0 + length (unit_bytes p.1)) k))

-- a place is in one of the things, or in none
pub covered : (ts : List Piece) (i : ℕ) → ((p : Piece) × IsAmong p ts × Covers p i) ⊎ ((p : Piece) → IsAmong p ts → Misses p i)
covered [] i = inr (λ p h. absurd h)
covered (t ∷ ts) i = by_first (covers_or_misses t i) (covered ts i)
  where
    either : Misses t i → ((p : Piece) → IsAmong p ts → Misses p i) → (p : Piece) → IsAmong p (t ∷ ts) → Misses p i
    either h f p (inl e) = subst (λ q. Misses q i) (sym e) h
    either h f p (inr k) = f p k

    by_first : Covers t i ⊎ Misses t i → ((p : Piece) × IsAmong p ts × Covers p i) ⊎ ((p : Piece) → IsAmong p ts → Misses p i)
        → ((p : Piece) × IsAmong p (t ∷ ts) × Covers p i) ⊎ ((p : Piece) → IsAmong p (t ∷ ts) → Misses p i)
    by_first (inl h) r = inl (t, inl refl, h)
    by_first (inr h) (inl q) = inl (q.0, inr q.1, q.2)
    by_first (inr h) (inr f) = inr (either h f)

pub read_there : (n at j : ℕ) (bytes part : List ℕ) → take n (drop at bytes) ≡ part → j < n → get_or bytes (at + j) 0 ≡ get_or part j 0
read_there n at j bytes part e h = sym (get_or-drop at bytes j 0) ∙ sym (get_or-take n (drop at bytes) j 0 h) ∙ ap (λ z. get_or z j 0) e

pub same_there : (n at i : ℕ) (us vs part : List ℕ) → take n (drop at us) ≡ part → take n (drop at vs) ≡ part → at ≤ i → i < at + n
    → get_or us i 0 ≡ get_or vs i 0
same_there n at i us vs part e f h k =
    let j : at + (i - at) ≡ i = omega arith in
    subst (λ z. get_or us z 0 ≡ get_or vs z 0) j
    (read_there n at (i - at) us part e (omega arith) ∙ sym (read_there n at (i - at) vs part f (omega arith)))

pub same_bytes : (ss : List Statement) (area : ℕ) (us vs : List ℕ) → HoldsBytes (source_of ss) area us → HoldsBytes (source_of ss) area vs → us ≡ vs
same_bytes ss area us vs h k =
    ext_get_or 0 us vs (h.size ∙ sym k.size) (λ i below. by_place i (covered (things_in (source_of ss) area) i))
  where
    by_place : (i : ℕ)
        → ((p : Piece) × IsAmong p (things_in (source_of ss) area) × Covers p i) ⊎ ((p : Piece) → IsAmong p (things_in (source_of ss) area) → Misses p i)
        → get_or us i 0 ≡ get_or vs i 0
    by_place i (inl q) =
        same_there (length (unit_bytes q.0.1)) q.0.0 i us vs (unit_bytes q.0.1) (h.standing q.0 q.1) (k.standing q.0 q.1) q.2.0 q.2.1
    by_place i (inr f) =
        h.others i f ∙ sym (k.others i f)

pub same_kept : (ss : List Statement) (area : ℕ) (kept : Bool) (us vs : List ℕ) → KeepsBytes (source_of ss) area kept us
    → KeepsBytes (source_of ss) area kept vs → us ≡ vs
same_kept ss area true us vs h k = same_bytes ss area us vs h k
same_kept ss area false us vs h k = h ∙ sym k

-- ---- relocations

pub rising_rest : (r : Reloc) (rs : List Reloc) → IsRising (r ∷ rs) → IsRising rs
rising_rest r [] h = tt
rising_rest r (q ∷ rs) h = h.1

pub rising_later : (r : Reloc) (rs : List Reloc) → IsRising (r ∷ rs) → (q : Reloc) → IsRelocOf rs q → r.offset < q.offset
rising_later r [] h q k = absurd k
rising_later r (x ∷ rs) h q (inl e) = subst (λ z. r.offset < z.offset) (sym e) h.0
rising_later r (x ∷ rs) h q (inr k) =
    let a = h.0 in
    let b = rising_later x rs h.1 q k in omega arith

pub same_rising : (rs qs : List Reloc) → IsRising rs → IsRising qs → ((x : Reloc) → IsRelocOf rs x → IsRelocOf qs x)
    → ((x : Reloc) → IsRelocOf qs x → IsRelocOf rs x) → rs ≡ qs
same_rising [] [] h k f g = refl
same_rising [] (q ∷ qs) h k f g = absurd (g q (inl refl))
same_rising (r ∷ rs) [] h k f g = absurd (f r (inl refl))
same_rising (r ∷ rs) (q ∷ qs) h k f g =
    let e = firsts (f r (inl refl)) (g q (inl refl)) in
    ap (λ z. z ∷ rs) e
    ∙ ap (λ z. q ∷ z)
    (same_rising rs qs (rising_rest r rs h) (rising_rest q qs k)
    (λ x i. later r rs q qs h e x i (f x (inr i)))
    (λ x i. later q qs r rs k (sym e) x i (g x (inr i))))
  where
    firsts : (r ≡ q) ⊎ IsRelocOf qs r → (q ≡ r) ⊎ IsRelocOf rs q → r ≡ q
    firsts (inl e) y = e
    firsts (inr i) (inl e) = sym e
    firsts (inr i) (inr j) =
        let a = rising_later q qs k r i in
        let b = rising_later r rs h q j in absurd (omega (arith, a, b))

    later : (a : Reloc) (us : List Reloc) (b : Reloc) (vs : List Reloc) → IsRising (a ∷ us) → a ≡ b → (x : Reloc) → IsRelocOf us x
        → (x ≡ b) ⊎ IsRelocOf vs x → IsRelocOf vs x
    later a us b vs rise e x i (inl y) =
        let z : a.offset < a.offset = subst (λ w. a.offset < w.offset) (y ∙ sym e) (rising_later a us rise x i) in absurd (omega (arith, z))
    later a us b vs rise e x i (inr j) = j

pub same_relocs : (s : Source) (area : ℕ) (rs qs : List Reloc) → HasRelocs s area rs → HasRelocs s area qs → rs ≡ qs
same_relocs s area rs qs h k =
    same_rising rs qs h.order k.order
    (λ x i. let p = h.no_others x i in k.all p.0 x p.1 p.2)
    (λ x i. let p = k.no_others x i in h.all p.0 x p.1 p.2)

-- ---- objects

pub area_of : (a b : Area) → a.name ≡ b.name → a.attributes ≡ b.attributes → a.size ≡ b.size → a.bytes ≡ b.bytes → a.relocs ≡ b.relocs → a ≡ b
area_of a b e f g h i =
    ap (λ z. record a { name = z }) e ∙ ap (λ z. record a { name = b.name; attributes = z }) f
    ∙ ap (λ z. record b { size = z; bytes = a.bytes; relocs = a.relocs }) g ∙ ap (λ z. record b { bytes = z; relocs = a.relocs }) h
    ∙ ap (λ z. record b { relocs = z }) i

pub same_area : (ss : List Statement) (area : ℕ) (a b : Area) → IsArea (source_of ss) area a → IsArea (source_of ss) area b → a ≡ b
same_area ss area a b h k =
    area_of a b (same_value a.name b.name (sym h.name ∙ k.name)) (same_value a.attributes b.attributes (sym h.attributes ∙ k.attributes))
    (h.size ∙ sym k.size) (same_kept ss area (is_kept (contents_of area (source_of ss).lines)) a.bytes b.bytes h.bytes k.bytes)
    (same_relocs (source_of ss) area a.relocs b.relocs h.relocs k.relocs)

pub object_of : (o p : Object) → o.areas ≡ p.areas → o.symbols ≡ p.symbols → o.entry ≡ p.entry → o ≡ p
object_of o p e f g =
    ap (λ z. record o { areas = z }) e ∙ ap (λ z. record p { symbols = z; entry = o.entry }) f ∙ ap (λ z. record p { entry = z }) g

pub one_object : (ss : List Statement) (o p : Object) → IsObject ss o → IsObject ss p → o ≡ p
one_object ss o p h k =
    object_of o p
    (same_lists o.areas p.areas (h.count ∙ sym k.count) (λ i a b x y. same_area ss i a b (h.areas i a x) (k.areas i b y)))
    (h.symbols ∙ sym k.symbols) (h.entry ∙ sym k.entry)
