-- The bytes of load regions, and the rows of the startup code's table, one region after the other.
use Rattle.std.proofs.Common.{◌≡◌, ◌≢◌, ℕ, ◌+◌, ◌<◌, ◌≤◌, ◌⊎◌, inl, inr, min, Bool, true, false, not, ◌==◌, if◌then◌else◌, nat_lt, cond, List, [], ◌∷◌, ◌++◌, length, length-drop, map, drop, get_or, append-nil, refl, sym, ap, ◌∙◌, arith, append_assoc}
use Rattle.std.specs.Prelude.{sum_by}
use Rattle.std.specs.List.{filter}
use Rattle.std.proofs.lemmas.Bool.{eq-eqb}
use Rattle.std.proofs.lemmas.Bool.Decides.{eqb_tells}
use Rattle.std.proofs.lemmas.List.Sums.{sum_by-cons}
use Rattle.base_lemmas.proofs.BaseLemmas.{both_true}
use Rattle.boot_code.specs.declared.rows.CopyRow.{CopyRow}
use Rattle.boot_code.specs.declared.rows.ZeroRow.{ZeroRow}
use Rattle.boot_code.specs.Startup.{copied_words, zeroed_words}
use Rattle.link_model.specs.declared.placing.Region.{Region}
use Rattle.place_model.proofs.SpanLemmas.{lt-true}
use Rattle.link_place.proofs.PartLemmas.{drop_item, drop_next}
use Rattle.link_apply.specs.RegionBytes.{is_copied}
use Rattle.armlink_core.specs.Images.{bytes_in}
use Rattle.armlink_core.specs.Sizes.{copies_in, region_size, zeros_in}

-- ---- the bytes of a load region

bytes_split : (number i : ℕ) (regions : List Region) (parts : List (List ℕ)) (r : Region) (d : List ℕ) → i < length regions → i < length parts → r ≡ get_or regions i r
    → bytes_in number (drop i regions) (drop i parts) ≡ (if r.load_region == number then get_or parts i d else []) ++ bytes_in number (drop (i + 1) regions) (drop (i + 1) parts)
bytes_split number i regions parts r d hr hp er =
    ap (λ (rs : List Region). bytes_in number rs (drop i parts)) (drop_item regions i r hr er)
    ∙ ap (λ (ps : List (List ℕ)). bytes_in number (r ∷ drop (i + 1) regions) ps) (drop_next parts i d hp)

bytes_next : (number i : ℕ) (regions : List Region) (parts : List (List ℕ)) (r : Region) (d : List ℕ) (b : Bool) (before all : List ℕ) → (r.load_region == number) ≡ b → i < length regions → i < length parts
    → r ≡ get_or regions i r → before ++ bytes_in number (drop i regions) (drop i parts) ≡ all
    → before ++ ((if b then get_or parts i d else []) ++ bytes_in number (drop (i + 1) regions) (drop (i + 1) parts)) ≡ all
bytes_next number i regions parts r d b before all eb hr hp er known =
    let rest : List ℕ = bytes_in number (drop (i + 1) regions) (drop (i + 1) parts) in
    ap (λ (c : Bool). before ++ ((if c then get_or parts i d else []) ++ rest)) (sym eb)
    ∙ (ap (λ (x : List ℕ). before ++ x) (sym (bytes_split number i regions parts r d hr hp er)) ∙ known)

pub bytes_more : (number i : ℕ) (regions : List Region) (parts : List (List ℕ)) (r : Region) (d before after all : List ℕ) → (get_or regions i r).load_region ≡ number → i < length regions → i < length parts
    → r ≡ get_or regions i r → before ++ bytes_in number (drop i regions) (drop i parts) ≡ all → after ≡ before ++ get_or parts i d
    → after ++ bytes_in number (drop (i + 1) regions) (drop (i + 1) parts) ≡ all
bytes_more number i regions parts r d before after all is hr hp er known more =
    let rest : List ℕ = bytes_in number (drop (i + 1) regions) (drop (i + 1) parts) in
    ap (λ (x : List ℕ). x ++ rest) more
    ∙ (append_assoc before (get_or parts i d) rest ∙ bytes_next number i regions parts r d true before all (eq-eqb r.load_region number (ap (λ (q : Region). q.load_region) er ∙ is)) hr hp er known)

differs : (a b : ℕ) → a ≢ b → (a == b) ≡ false
differs a b ne = go (eqb_tells a b)
  where
    go : (((a == b) ≡ true) × (a ≡ b)) ⊎ (((a == b) ≡ false) × (a ≢ b)) → (a == b) ≡ false
    go (inl h) = absurd (ne h.1)
    go (inr h) = h.0

pub bytes_same : (number i : ℕ) (regions : List Region) (parts : List (List ℕ)) (r : Region) (before after all : List ℕ) → (get_or regions i r).load_region ≢ number → i < length regions → i < length parts
    → r ≡ get_or regions i r → before ++ bytes_in number (drop i regions) (drop i parts) ≡ all → after ≡ before
    → after ++ bytes_in number (drop (i + 1) regions) (drop (i + 1) parts) ≡ all
bytes_same number i regions parts r before after all ne hr hp er known e =
    ap (λ (x : List ℕ). x ++ bytes_in number (drop (i + 1) regions) (drop (i + 1) parts)) e
    ∙ bytes_next number i regions parts r [] false before all (differs r.load_region number (λ e. ne (sym (ap (λ (q : Region). q.load_region) er) ∙ e))) hr hp er known

bytes_none : (number : ℕ) (regions : List Region) (parts : List (List ℕ)) → min (length regions) (length parts) ≡ 0 → bytes_in number regions parts ≡ []
bytes_none number [] parts h = refl
bytes_none number (r ∷ regions) [] h = refl
bytes_none number (r ∷ regions) (bytes ∷ parts) h = absurd (omega arith)

pub bytes_all : (number i : ℕ) (regions : List Region) (parts : List (List ℕ)) (out all : List ℕ) → min (length regions) (length parts) ≤ i → out ++ bytes_in number (drop i regions) (drop i parts) ≡ all → out ≡ all
bytes_all number i regions parts out all h known =
    let low : min (length (drop i regions)) (length (drop i parts)) ≡ 0 = omega (arith, length-drop i regions, length-drop i parts) in
    sym (append-nil out) ∙ (ap (λ (x : List ℕ). out ++ x) (sym (bytes_none number (drop i regions) (drop i parts) low)) ∙ known)

-- ---- no more rows and words than bytes

pub record AreFew (count size bytes : ℕ) : Type 0 where
  pub rows : count ≤ bytes
  pub words : size ≤ bytes

abbrev copy_row : Region → CopyRow
copy_row r = record { source = r.load; target = r.base; size = r.length }

pub copies_few : (rs : List Region) → AreFew (length (copies_in rs)) (copied_words (copies_in rs)) (sum_by region_size rs)
copies_few [] = record { rows = omega arith; words = omega arith }
copies_few (r ∷ rs) = go (is_copied r) refl (copies_few rs) (sum_by-cons region_size r rs)
  where
    go : (b : Bool) → is_copied r ≡ b → AreFew (length (copies_in rs)) (copied_words (copies_in rs)) (sum_by region_size rs) → sum_by region_size (r ∷ rs) ≡ region_size r + sum_by region_size rs
        → AreFew (length (map copy_row (cond b (r ∷ filter is_copied rs) (filter is_copied rs)))) (copied_words (map copy_row (cond b (r ∷ filter is_copied rs) (filter is_copied rs)))) (sum_by region_size (r ∷ rs))
    go true e h s =
        let some = lt-true 0 r.length (both_true (not (r.load == r.base)) (nat_lt 0 r.length) e).1 in
        let rows = h.rows in let words = h.words in
        record { rows = omega (arith, some, rows, s); words = omega (arith, some, words, s) }
    go false e h s = let rows = h.rows in let words = h.words in record { rows = omega (arith, rows, s); words = omega (arith, words, s) }

abbrev zero_row : Region → ZeroRow
zero_row r = record { base = r.base + r.length; size = r.zero }

pub zeros_few : (rs : List Region) → AreFew (length (zeros_in rs)) (zeroed_words (zeros_in rs)) (sum_by region_size rs)
zeros_few [] = record { rows = omega arith; words = omega arith }
zeros_few (r ∷ rs) = go (nat_lt 0 r.zero) refl (zeros_few rs) (sum_by-cons region_size r rs)
  where
    go : (b : Bool) → nat_lt 0 r.zero ≡ b → AreFew (length (zeros_in rs)) (zeroed_words (zeros_in rs)) (sum_by region_size rs) → sum_by region_size (r ∷ rs) ≡ region_size r + sum_by region_size rs
        → AreFew (length (map zero_row (cond b (r ∷ filter (λ q. nat_lt 0 q.zero) rs) (filter (λ q. nat_lt 0 q.zero) rs)))) (zeroed_words (map zero_row (cond b (r ∷ filter (λ q. nat_lt 0 q.zero) rs) (filter (λ q. nat_lt 0 q.zero) rs)))) (sum_by region_size (r ∷ rs))
    go true e h s =
        let some = lt-true 0 r.zero e in
        let rows = h.rows in let words = h.words in
        record { rows = omega (arith, some, rows, s); words = omega (arith, some, words, s) }
    go false e h s = let rows = h.rows in let words = h.words in record { rows = omega (arith, rows, s); words = omega (arith, words, s) }
