-- The bytes of an area where the image is moved.
use Rattle.std.proofs.Common.{◌≡◌, ◌≢◌, ◌⊎◌, inl, inr, ℕ, zero, suc, ◌+◌, ◌*◌, ◌-◌, ◌/◌, ◌%◌, ◌^◌, ◌<◌, ◌≤◌, Bool, true, false, cond, not, ◌&&◌, ◌==◌, if◌then◌else◌, List, [], ◌∷◌, ◌++◌, length, refl, sym, ap, ◌∙◌, arith, eqb-true, Option, Some, None}
use Rattle.std.specs.Prelude.{nat_lt, nat_le, slice_get}
use Rattle.std.specs.List.{filter, find}
use Rattle.std.proofs.lemmas.Bool.{and_parts, and_from, ltb-true, leb-true, lt-ltb, le-leb, ne_eqb}
use Rattle.sdt_word.specs.Bytes.{bytes_of, number_of}
use Rattle.aof_object.specs.declared.records.Area.{Area}
use Rattle.aof_object.specs.declared.records.Reloc.{Reloc}
use Rattle.patch_model.specs.Fields.{Kind, Byte, Half, Word, Branch, Field, Values, field_of, is_same_kind, size_of}
use Rattle.link_model.specs.declared.placing.Placement.{Placement}
use Rattle.link_apply.specs.Flaws.{overlaps}
use Rattle.link_apply.specs.PatchedBytes.{patched_number, has_byte, byte_by, patched_from}
use Rattle.link_laws.specs.AifJoins.{shifted_word, shifted_words}

-- ---- lists

pub record IsFound {A : Type 0} (test : A → Bool) (xs : List A) (x : A) : Type 0 where
  pub number : ℕ
  pub there : slice_get xs number ≡ Some x
  pub passes : test x ≡ true

pub first_found : {A : Type 0} (test : A → Bool) (xs : List A) (x : A) → find test xs ≡ Some x → IsFound test xs x
first_found test [] x e = absurd (cc)
first_found test (y ∷ ys) x e = by_test (test y) refl e (first_found test ys x)
  where
    by_test : (b : Bool) → test y ≡ b → cond b (Some y) (find test ys) ≡ Some x → (find test ys ≡ Some x → IsFound test ys x) → IsFound test (y ∷ ys) x
    by_test true t h rest = let same : y ≡ x = cc in record { number = 0; there = ap Some same; passes = ap test (sym same) ∙ t }
    by_test false t h rest = let f = rest h in record { number = suc f.number; there = f.there; passes = f.passes }

pub passes_none : {A : Type 0} (test : A → Bool) (xs : List A) → find test xs ≡ None → (k : ℕ) (x : A) → slice_get xs k ≡ Some x → test x ≡ false
passes_none test [] e k x there = absurd (cc)
passes_none {A = A} test (y ∷ ys) e k x there = by_test (test y) refl e k there (passes_none test ys)
  where
    by_test : (b : Bool) → test y ≡ b → cond b (Some y) (find test ys) ≡ None → (k : ℕ) → slice_get (y ∷ ys) k ≡ Some x
        → (find test ys ≡ None → (k : ℕ) (x : A) → slice_get ys k ≡ Some x → test x ≡ false) → test x ≡ false
    by_test true t h k there rest = absurd (cc)
    by_test false t h zero there rest = let same : y ≡ x = cc in ap test (sym same) ∙ t
    by_test false t h (suc k) there rest = rest h k x there

pub filter_none : {A : Type 0} (test : A → Bool) (xs : List A) → find test xs ≡ None → filter test xs ≡ []
filter_none test [] e = refl
filter_none {A} test (y ∷ ys) e = by_test (test y) e (filter_none test ys)
  where
    by_test : (b : Bool) → cond b (Some y) (find test ys) ≡ None → (find test ys ≡ None → filter test ys ≡ []) → cond b (y ∷ filter test ys) (filter test ys) ≡ []
    by_test true h rest = absurd (cc)
    by_test false h rest = rest h

-- ---- fields

pub equal_kind : (k l : Kind) → is_same_kind k l ≡ true → k ≡ l
equal_kind Byte Byte e = refl
equal_kind Half Half e = refl
equal_kind Word Word e = refl
equal_kind (Branch true) (Branch true) e = refl
equal_kind (Branch false) (Branch false) e = refl
equal_kind k l e = absurd (cc)

pub equal_field : (f g : Field) → f.place ≡ g.place → f.kind ≡ g.kind → f ≡ g
equal_field f g place kind = ap (λ n. record { place = n; kind = f.kind }) place ∙ ap (λ k. record { place = g.place; kind = k }) kind

-- fields that have a byte in common are the same, where none overlap
pub one_field : (f g : Field) (i : ℕ) → overlaps f g ≡ false → f.place ≤ i → i < f.place + size_of f.kind → g.place ≤ i → i < g.place + size_of g.kind → f ≡ g
one_field f g i apart f_from f_below g_from g_below = by_test (f.place == g.place && is_same_kind f.kind g.kind) refl apart
  where
    by_test : (b : Bool) → (f.place == g.place && is_same_kind f.kind g.kind) ≡ b → (not b && (nat_lt f.place (g.place + size_of g.kind) && nat_lt g.place (f.place + size_of f.kind))) ≡ false → f ≡ g
    by_test true e h = let parts = and_parts (f.place == g.place) (is_same_kind f.kind g.kind) e in equal_field f g (eqb-true f.place g.place parts.0) (equal_kind f.kind g.kind parts.1)
    by_test false e h =
        let one = lt-ltb f.place (g.place + size_of g.kind) (omega (arith, f_from, g_below)) in
        let two = lt-ltb g.place (f.place + size_of f.kind) (omega (arith, g_from, f_below)) in
        let both = and_from (nat_lt f.place (g.place + size_of g.kind)) (nat_lt g.place (f.place + size_of f.kind)) one two in
        absurd (cc)

abbrev pub word_at : ℕ → Field
word_at place = record { place = place; kind = Word }

-- ---- bytes, by the numbers of fields

abbrev byte_with : (Field → ℕ) → ℕ → ℕ → Option Reloc → ℕ
byte_with number i byte None = byte
byte_with number i byte (Some r) = number (field_of r) / 2 ^ (8 * (i - (field_of r).place)) % 2 ^ 8

abbrev bytes_with : List Reloc → (Field → ℕ) → ℕ → List ℕ → List ℕ
bytes_with relocs number i [] = []
bytes_with relocs number i (byte ∷ bytes) = byte_with number i byte (find (has_byte i) relocs) ∷ bytes_with relocs number (suc i) bytes

pub by_numbers : (p : Placement) (values : Values) (region base : ℕ) (a : Area) (i : ℕ) (bytes : List ℕ)
    → patched_from p values region base a i bytes ≡ bytes_with a.relocs (patched_number p values region base a) i bytes
by_numbers p values region base a i [] = refl
by_numbers p values region base a i (byte ∷ bytes) =
    ap (λ n. n ∷ patched_from p values region base a (suc i) bytes) (go (find (has_byte i) a.relocs))
    ∙ ap (λ (bs : List ℕ). byte_with (patched_number p values region base a) i byte (find (has_byte i) a.relocs) ∷ bs) (by_numbers p values region base a (suc i) bytes)
  where
    go : (o : Option Reloc) → byte_by p values region base a i byte o ≡ byte_with (patched_number p values region base a) i byte o
    go None = refl
    go (Some r) = refl

-- the four bytes of a word
four : (n : ℕ) → n < 2 ^ 32 → number_of (n % 256 ∷ n / 256 % 256 ∷ n / 65536 % 256 ∷ n / 16777216 % 256 ∷ []) ≡ n
four n h = omega arith

these_four : (n : ℕ) → bytes_of n 4 ≡ n % 256 ∷ n / 256 % 256 ∷ n / 65536 % 256 ∷ n / 16777216 % 256 ∷ []
these_four n =
    let two : n / 256 / 256 % 256 ≡ n / 65536 % 256 = omega arith in
    let three : n / 256 / 256 / 256 % 256 ≡ n / 16777216 % 256 = omega arith in
    ap (λ z. n % 256 ∷ n / 256 % 256 ∷ z ∷ n / 256 / 256 / 256 % 256 ∷ []) two ∙ ap (λ z. n % 256 ∷ n / 256 % 256 ∷ n / 65536 % 256 ∷ z ∷ []) three

module _ (relocs : List Reloc) (one two : Field → ℕ) (by : ℕ) (shifts : ℕ → ℕ) where
  -- a field that isn't a word with shifts
  abbrev pub Stays : Reloc → Type 0
  Stays r = (two (field_of r) ≡ one (field_of r)) ⊎ (((field_of r).kind ≡ Word) × ((field_of r).place % 4 ≡ 0) × (shifts (field_of r).place ≢ 0))

  pub record IsShifted (i : ℕ) : Type 0 where
    pub reloc : Reloc
    pub number : ℕ
    pub there : slice_get relocs number ≡ Some reloc
    pub field : field_of reloc ≡ word_at i
    pub some : shifts i ≢ 0
    pub small : one (word_at i) < 2 ^ 32
    pub moved : two (word_at i) ≡ (one (word_at i) + by * shifts i) % 2 ^ 32

  module _ (stays : (k : ℕ) (r : Reloc) → slice_get relocs k ≡ Some r → Stays r)
      (apart : (k j : ℕ) (r q : Reloc) → slice_get relocs k ≡ Some r → slice_get relocs j ≡ Some q → overlaps (field_of q) (field_of r) ≡ false)
      (each : (i : ℕ) → (shifts i ≡ 0) ⊎ IsShifted i) where
    -- a byte of a word without shifts
    still : (i j byte : ℕ) → i % 4 ≡ 0 → i ≤ j → j < i + 4 → shifts i ≡ 0 → byte_with two j byte (find (has_byte j) relocs) ≡ byte_with one j byte (find (has_byte j) relocs)
    still i j byte whole low high none = go (find (has_byte j) relocs) refl
      where
        go : (o : Option Reloc) → find (has_byte j) relocs ≡ o → byte_with two j byte o ≡ byte_with one j byte o
        go None e = refl
        go (Some r) e =
            let f = first_found (has_byte j) relocs r e in
            let parts = and_parts (nat_le (field_of r).place j) (nat_lt j ((field_of r).place + size_of (field_of r).kind)) f.passes in
            let from = leb-true (field_of r).place j parts.0 in
            let below = ltb-true j ((field_of r).place + size_of (field_of r).kind) parts.1 in
            by_side from below (stays f.number r f.there)
          where
            by_side : (field_of r).place ≤ j → j < (field_of r).place + size_of (field_of r).kind → Stays r → byte_with two j byte (Some r) ≡ byte_with one j byte (Some r)
            by_side from below (inl same) = ap (λ n. n / 2 ^ (8 * (j - (field_of r).place)) % 2 ^ 8) same
            by_side from below (inr (word, aligned, some)) =
                let size : size_of (field_of r).kind ≡ 4 = ap size_of word in
                let own : (field_of r).place ≡ i = omega (arith, whole, low, high, from, below, size, aligned) in
                absurd (some (ap shifts own ∙ none))

    -- a byte of a word with shifts
    of_word : (number : Field → ℕ) (i j byte : ℕ) → IsShifted i → i ≤ j → j < i + 4 → byte_with number j byte (find (has_byte j) relocs) ≡ number (word_at i) / 2 ^ (8 * (j - i)) % 2 ^ 8
    of_word number i j byte s low high = go (find (has_byte j) relocs) refl
      where
        place : (field_of s.reloc).place ≡ i
        place = ap (λ f. f.place) s.field

        size : size_of (field_of s.reloc).kind ≡ 4
        size = ap (λ f. size_of f.kind) s.field

        go : (o : Option Reloc) → find (has_byte j) relocs ≡ o → byte_with number j byte o ≡ number (word_at i) / 2 ^ (8 * (j - i)) % 2 ^ 8
        go None e =
            let no = passes_none (has_byte j) relocs e s.number s.reloc s.there in
            let yes = and_from (nat_le (field_of s.reloc).place j) (nat_lt j ((field_of s.reloc).place + size_of (field_of s.reloc).kind)) (le-leb (field_of s.reloc).place j (omega (arith, place, low)))
            (lt-ltb j ((field_of s.reloc).place + size_of (field_of s.reloc).kind) (omega (arith, place, size, high))) in
            absurd (cc)
        go (Some r) e =
            let f = first_found (has_byte j) relocs r e in
            let parts = and_parts (nat_le (field_of r).place j) (nat_lt j ((field_of r).place + size_of (field_of r).kind)) f.passes in
            let same : field_of r ≡ field_of s.reloc =
            one_field (field_of r) (field_of s.reloc) j (apart s.number f.number s.reloc r s.there f.there) (leb-true (field_of r).place j parts.0)
            (ltb-true j ((field_of r).place + size_of (field_of r).kind) parts.1) (omega (arith, place, low)) (omega (arith, place, size, high)) in
            ap (λ (z : Field). number z / 2 ^ (8 * (j - z.place)) % 2 ^ 8) (same ∙ s.field)

    four_of : (number : Field → ℕ) (i a b c d : ℕ) → IsShifted i
        → byte_with number i a (find (has_byte i) relocs) ∷ byte_with number (suc i) b (find (has_byte (suc i)) relocs) ∷ byte_with number (suc (suc i)) c (find (has_byte (suc (suc i))) relocs)
        ∷ byte_with number (suc (suc (suc i))) d (find (has_byte (suc (suc (suc i)))) relocs) ∷ []
        ≡ number (word_at i) % 256 ∷ number (word_at i) / 256 % 256 ∷ number (word_at i) / 65536 % 256 ∷ number (word_at i) / 16777216 % 256 ∷ []
    four_of number i a b c d s =
        let n : ℕ = number (word_at i) in
        let d0 : i - i ≡ 0 = omega arith in
        let d1 : suc i - i ≡ 1 = omega arith in
        let d2 : suc (suc i) - i ≡ 2 = omega arith in
        let d3 : suc (suc (suc i)) - i ≡ 3 = omega arith in
        let e0 : byte_with number i a (find (has_byte i) relocs) ≡ n % 256 = of_word number i i a s (omega arith) (omega arith) ∙ ap (λ k. n / 2 ^ (8 * k) % 2 ^ 8) d0 ∙ omega arith in
        let e1 : byte_with number (suc i) b (find (has_byte (suc i)) relocs) ≡ n / 256 % 256 = of_word number i (suc i) b s (omega arith) (omega arith) ∙ ap (λ k. n / 2 ^ (8 * k) % 2 ^ 8) d1 in
        let e2 : byte_with number (suc (suc i)) c (find (has_byte (suc (suc i))) relocs) ≡ n / 65536 % 256 = of_word number i (suc (suc i)) c s (omega arith) (omega arith) ∙ ap (λ k. n / 2 ^ (8 * k) % 2 ^ 8) d2 in
        let e3 : byte_with number (suc (suc (suc i))) d (find (has_byte (suc (suc (suc i)))) relocs) ≡ n / 16777216 % 256 = of_word number i (suc (suc (suc i))) d s (omega arith) (omega arith) ∙ ap (λ k. n / 2 ^ (8 * k) % 2 ^ 8) d3 in
        list4 e0 e1 e2 e3
      where
        list4 : {x0 x1 x2 x3 y0 y1 y2 y3 : ℕ} → x0 ≡ y0 → x1 ≡ y1 → x2 ≡ y2 → x3 ≡ y3 → x0 ∷ x1 ∷ x2 ∷ x3 ∷ [] ≡ y0 ∷ y1 ∷ y2 ∷ y3 ∷ []
        list4 e0 e1 e2 e3 = cc

    -- one word
    word_law : (i a b c d : ℕ) → i % 4 ≡ 0 → (rest : List ℕ)
        → byte_with two i a (find (has_byte i) relocs) ∷ byte_with two (suc i) b (find (has_byte (suc i)) relocs) ∷ byte_with two (suc (suc i)) c (find (has_byte (suc (suc i))) relocs)
        ∷ byte_with two (suc (suc (suc i))) d (find (has_byte (suc (suc (suc i)))) relocs) ∷ rest
        ≡ shifted_word by (shifts i) (byte_with one i a (find (has_byte i) relocs) ∷ byte_with one (suc i) b (find (has_byte (suc i)) relocs) ∷ byte_with one (suc (suc i)) c (find (has_byte (suc (suc i))) relocs)
        ∷ byte_with one (suc (suc (suc i))) d (find (has_byte (suc (suc (suc i)))) relocs) ∷ []) ++ rest
    word_law i a b c d whole rest = go (each i)
      where
        row : (Field → ℕ) → List ℕ
        row number =
            byte_with number i a (find (has_byte i) relocs) ∷ byte_with number (suc i) b (find (has_byte (suc i)) relocs) ∷ byte_with number (suc (suc i)) c (find (has_byte (suc (suc i))) relocs)
            ∷ byte_with number (suc (suc (suc i))) d (find (has_byte (suc (suc (suc i)))) relocs) ∷ []

        go : (shifts i ≡ 0) ⊎ IsShifted i → row two ++ rest ≡ shifted_word by (shifts i) (row one) ++ rest
        go (inl none) =
            let e0 = still i i a whole (omega arith) (omega arith) none in
            let e1 = still i (suc i) b whole (omega arith) (omega arith) none in
            let e2 = still i (suc (suc i)) c whole (omega arith) (omega arith) none in
            let e3 = still i (suc (suc (suc i))) d whole (omega arith) (omega arith) none in
            let rows : row two ≡ row one = cc in
            ap (λ (z : List ℕ). z ++ rest) rows ∙ ap (λ n. shifted_word by n (row one) ++ rest) (sym none)
        go (inr s) =
            let n : ℕ = one (word_at i) in
            let m : ℕ = two (word_at i) in
            let before : row one ≡ n % 256 ∷ n / 256 % 256 ∷ n / 65536 % 256 ∷ n / 16777216 % 256 ∷ [] = four_of one i a b c d s in
            let after : row two ≡ m % 256 ∷ m / 256 % 256 ∷ m / 65536 % 256 ∷ m / 16777216 % 256 ∷ [] = four_of two i a b c d s in
            let number : number_of (row one) ≡ n = ap number_of before ∙ four n s.small in
            let nonzero : (shifts i == 0) ≡ false = ne_eqb (shifts i) 0 s.some in
            let word : shifted_word by (shifts i) (row one) ≡ bytes_of ((number_of (row one) + by * shifts i) % 2 ^ 32) 4 =
            ap (λ (z : Bool). if z then row one else bytes_of ((number_of (row one) + by * shifts i) % 2 ^ 32) 4) nonzero in
            let value : (number_of (row one) + by * shifts i) % 2 ^ 32 ≡ m = ap (λ z. (z + by * shifts i) % 2 ^ 32) number ∙ sym s.moved in
            ap (λ (z : List ℕ). z ++ rest) (after ∙ sym (these_four m) ∙ ap (λ z. bytes_of z 4) (sym value) ∙ sym word)

    pub bytes_law : (i : ℕ) (bytes : List ℕ) → i % 4 ≡ 0 → length bytes % 4 ≡ 0 → bytes_with relocs two i bytes ≡ shifted_words by shifts i (bytes_with relocs one i bytes)
    bytes_law i [] whole size = refl
    bytes_law i (a ∷ []) whole size = absurd (omega arith)
    bytes_law i (a ∷ b ∷ []) whole size = absurd (omega arith)
    bytes_law i (a ∷ b ∷ c ∷ []) whole size = absurd (omega arith)
    bytes_law i (a ∷ b ∷ c ∷ d ∷ bytes) whole size =
        let next : suc (suc (suc (suc i))) ≡ i + 4 = omega arith in
        let rest = bytes_law (suc (suc (suc (suc i)))) bytes (omega (arith, whole)) (omega (arith, size)) in
        word_law i a b c d whole (bytes_with relocs two (suc (suc (suc (suc i)))) bytes)
        ∙ ap (λ (z : List ℕ). shifted_word by (shifts i) (byte_with one i a (find (has_byte i) relocs) ∷ byte_with one (suc i) b (find (has_byte (suc i)) relocs) ∷ byte_with one (suc (suc i)) c (find (has_byte (suc (suc i))) relocs)
        ∷ byte_with one (suc (suc (suc i))) d (find (has_byte (suc (suc (suc i)))) relocs) ∷ []) ++ z)
        (rest ∙ ap (λ n. shifted_words by shifts n (bytes_with relocs one (suc (suc (suc (suc i)))) bytes)) next)
