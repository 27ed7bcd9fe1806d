-- Bytes of fields that are written from the last relocation to the first.
use Rattle.std.proofs.Common.{◌≡◌, ℕ, zero, suc, ◌+◌, ◌-◌, ◌*◌, ◌/◌, ◌%◌, ◌^◌, ◌<◌, ◌≤◌, Bool, true, false, cond, List, [], ◌∷◌, ◌++◌, length, get_or, take, drop, length-take-le, refl, sym, ap, ◌∙◌, arith}
use Rattle.std.specs.Prelude.{Some, nat_le, nat_lt, ◌&&◌, slice_get}
use Rattle.std.specs.List.{find}
use Rattle.std.proofs.lemmas.Bool.{and_parts, ltb-true, leb-true, ltb-false, leb-false}
use Rattle.std.proofs.lemmas.List.{get_or-take, get_or-drop, get_or-append-add}
use Rattle.std.proofs.lemmas.Grind.{same_number_lists}
use Rattle.sdt_word.specs.Bytes.{bytes_of, written}
use Rattle.sdt_word.proofs.BytesLemmas.{part-written, length-bytes_of, length-written}
use Rattle.aof_object.specs.declared.records.Area.{Area}
use Rattle.aof_object.specs.declared.records.Reloc.{Reloc}
use Rattle.link_model.specs.declared.placing.Placement.{Placement}
use Rattle.patch_model.specs.Fields.{Values, field_of, kind_of, size_of}
use Rattle.link_apply.specs.PatchedBytes.{has_byte, byte_by, patched_number, patched_bytes}
use Rattle.link_apply.specs.Written.{AreInside, AreNumbers}
use Rattle.link_apply.proofs.AreaLemmas.{get_at, length_patched}
use Rattle.link_apply.proofs.ListLemmas.{get_bytes}

abbrev pub AreWritten : List ℕ → List Reloc → List ℕ → ℕ → List ℕ → Type 0
AreWritten old relocs numbers i out =
    (p : Placement) (values : Values) (region base : ℕ) (a : Area) → a.bytes ≡ old → a.relocs ≡ relocs → AreNumbers p values region base a numbers
    → (q : ℕ) → q < length old → get_or out q 0 ≡ byte_by p values region base a q (get_or old q 0) (find (has_byte q) (drop i relocs))

-- ---- the byte at a place

get_before : (xs ys : List ℕ) (a i : ℕ) → i < a → a ≤ length xs → get_or (take a xs ++ ys) i 0 ≡ get_or xs i 0
get_before [] ys a i h room = absurd (omega arith)
get_before (x ∷ xs) ys zero i h room = absurd (omega arith)
get_before (x ∷ xs) ys (suc a) zero h room = refl
get_before (x ∷ xs) ys (suc a) (suc i) h room = get_before xs ys a i (omega arith) (omega arith)

get_within : (xs new : List ℕ) (a i : ℕ) → a + length new ≤ length xs → a ≤ i → i < a + length new → get_or (written xs a new) i 0 ≡ get_or new (i - a) 0
get_within xs new a i room from below =
    let at : a + (i - a) ≡ i = omega arith in
    ap (λ n. get_or (written xs a new) n 0) (sym at) ∙ sym (get_or-drop a (written xs a new) (i - a) 0)
    ∙ sym (get_or-take (length new) (drop a (written xs a new)) (i - a) 0 (omega arith)) ∙ ap (λ l. get_or l (i - a) 0) (part-written xs new a (omega arith))

get_behind : (xs new : List ℕ) (a i : ℕ) → a + length new ≤ length xs → a + length new ≤ i → get_or (written xs a new) i 0 ≡ get_or xs i 0
get_behind xs new a i room from =
    let front = length-take-le a xs (omega arith) in
    let one : length (take a xs) + (length new + (i - (a + length new))) ≡ i = omega arith in
    let two : a + length new + (i - (a + length new)) ≡ i = omega arith in
    ap (λ n. get_or (written xs a new) n 0) (sym one)
    ∙ get_or-append-add (take a xs) (new ++ drop (a + length new) xs) (length new + (i - (a + length new))) 0
    ∙ get_or-append-add new (drop (a + length new) xs) (i - (a + length new)) 0
    ∙ get_or-drop (a + length new) xs (i - (a + length new)) 0 ∙ ap (λ n. get_or xs n 0) two

-- ---- one more field

pub more_written : (p : Placement) (values : Values) (region base : ℕ) (a : Area) (out : List ℕ) (r : Reloc) (rest : List Reloc) (v q byte : ℕ)
    → (field_of r).place + size_of (kind_of r) ≤ length out → v ≡ patched_number p values region base a (field_of r)
    → get_or out q 0 ≡ byte_by p values region base a q byte (find (has_byte q) rest)
    → get_or (written out (field_of r).place (bytes_of v (size_of (kind_of r)))) q 0 ≡ byte_by p values region base a q byte (find (has_byte q) (r ∷ rest))
more_written p values region base a out r rest v q byte room number before = by_test (has_byte q r) refl
  where
    size : length (bytes_of v (size_of (kind_of r))) ≡ size_of (kind_of r)
    size = length-bytes_of v (size_of (kind_of r))

    fits : (field_of r).place + length (bytes_of v (size_of (kind_of r))) ≤ length out
    fits = omega (arith, size, room)

    outside : (b c : Bool) → nat_le (field_of r).place q ≡ b → nat_lt q ((field_of r).place + size_of (kind_of r)) ≡ c → (b && c) ≡ false
        → get_or (written out (field_of r).place (bytes_of v (size_of (kind_of r)))) q 0 ≡ get_or out q 0
    outside false c eb ec e =
        get_before out (bytes_of v (size_of (kind_of r)) ++ drop ((field_of r).place + length (bytes_of v (size_of (kind_of r)))) out) (field_of r).place q
        (leb-false (field_of r).place q eb) (omega (arith, fits))
    outside true false eb ec e =
        get_behind out (bytes_of v (size_of (kind_of r))) (field_of r).place q fits (omega (arith, size, ltb-false q ((field_of r).place + size_of (kind_of r)) ec))
    outside true true eb ec e = absurd (cc)

    by_test : (t : Bool) → has_byte q r ≡ t
        → get_or (written out (field_of r).place (bytes_of v (size_of (kind_of r)))) q 0 ≡ byte_by p values region base a q byte (cond t (Some r) (find (has_byte q) rest))
    by_test true e =
        let parts = and_parts (nat_le (field_of r).place q) (nat_lt q ((field_of r).place + size_of (kind_of r))) e in
        let from = leb-true (field_of r).place q parts.0 in
        let below = ltb-true q ((field_of r).place + size_of (kind_of r)) parts.1 in
        get_within out (bytes_of v (size_of (kind_of r))) (field_of r).place q fits from (omega (arith, size, below))
        ∙ get_bytes v (size_of (kind_of r)) (q - (field_of r).place) (omega (arith, from, below))
        ∙ ap (λ n. n / 2 ^ (8 * (q - (field_of r).place)) % 2 ^ 8) number
    by_test false e = outside (nat_le (field_of r).place q) (nat_lt q ((field_of r).place + size_of (kind_of r))) refl refl e ∙ before

-- ---- all of them

pub all_written : (p : Placement) (values : Values) (region base : ℕ) (a : Area) (old out : List ℕ) (relocs : List Reloc) (numbers : List ℕ) → length out ≡ length old
    → AreWritten old relocs numbers 0 out → a.bytes ≡ old → a.relocs ≡ relocs → AreNumbers p values region base a numbers
    → out ≡ patched_bytes p values region base a
all_written p values region base a old out relocs numbers size known bytes there are =
    let same = ap length bytes in
    let new = length_patched p values region base a 0 a.bytes in
    same_number_lists out (patched_bytes p values region base a) (omega (arith, size, same, new))
    (λ q h. known p values region base a bytes there are q (omega (arith, h, size))
    ∙ (λ i. byte_by p values region base a q (get_or (sym bytes i) q 0) (find (has_byte q) (sym there i)))
    ∙ sym (get_at p values region base a q (omega (arith, h, size, same))))

-- ---- a step

record HasItem (relocs : List Reloc) (j : ℕ) : Type 0 where
  item : Reloc
  there : slice_get relocs j ≡ Some item
  rest : drop j relocs ≡ item ∷ drop (suc j) relocs

item_at : (relocs : List Reloc) (j : ℕ) → j < length relocs → HasItem relocs j
item_at [] j h = absurd (omega arith)
item_at (r ∷ rs) zero h = record { item = r; there = refl; rest = refl }
item_at (r ∷ rs) (suc j) h = let t = item_at rs j (omega arith) in record { item = t.item; there = t.there; rest = t.rest }

pub kept : (old out new : List ℕ) (relocs : List Reloc) (numbers : List ℕ) (i j : ℕ) → i ≡ suc j → j < length relocs → AreInside (length out) relocs
    → ((r : Reloc) → slice_get relocs j ≡ Some r → new ≡ written out (field_of r).place (bytes_of (get_or numbers j 0) (size_of (kind_of r))))
    → length out ≡ length old → AreWritten old relocs numbers i out
    → (length new ≡ length old) × AreWritten old relocs numbers j new
kept old out new relocs numbers i j next inside room put size known =
    let t = item_at relocs j inside in
    let e = put t.item t.there in
    let n = length-bytes_of (get_or numbers j 0) (size_of (kind_of t.item)) in
    let within = room j t.item t.there in (
      ap length e ∙ length-written out (bytes_of (get_or numbers j 0) (size_of (kind_of t.item))) (field_of t.item).place (omega (arith, n, within)) ∙ size,
      λ p values region base a bytes there are q h.
          ap (λ l. get_or l q 0) e
          ∙ more_written p values region base a out t.item (drop (suc j) relocs) (get_or numbers j 0) q (get_or old q 0) within
          (are j t.item (ap (λ l. slice_get l j) there ∙ t.there))
          (known p values region base a bytes there are q h ∙ ap (λ n. byte_by p values region base a q (get_or old q 0) (find (has_byte q) (drop n relocs))) next)
          ∙ ap (λ l. byte_by p values region base a q (get_or old q 0) (find (has_byte q) l)) (sym t.rest),
    )
