-- Data records that are new behind what is read are read one by one.
use Rattle.std.proofs.Common.{append-nil, ◌≡◌, ◌≢◌, ◌∙◌, ℕ, ◌+◌, ◌*◌, ◌/◌, ◌%◌, ◌^◌, ◌<◌, ◌≤◌, List, [], ◌∷◌, ◌++◌, length, Bool, true, false, cond, ◌==◌, ◌&&◌, Option, None, Some, Ok, refl, sym, ap, subst, arith, append_assoc}
use Rattle.std.specs.Prelude.{nat_lt}
use Rattle.std.specs.List.{flat_map, list_any}
use Rattle.std.specs.Str.Lines.{lines}
use Rattle.std.proofs.lemmas.Bool.{ne_eqb, cond-false, lt-ltb, eqb-true}
use Rattle.std.proofs.lemmas.List.Concat.{flat_map-append}
use Rattle.hex.specs.Hex.{IsBytes, encode_upper}
use Rattle.sdt_fault.specs.declared.kinds.RecordKind.{RecordKind}
use Rattle.sdt_fault.specs.declared.kinds.RecordKind.TheVariants.{Address, Repeated, Order}
use Rattle.hex_image.specs.declared.records.Form.{Form}
use Rattle.hex_image.specs.declared.records.Form.TheVariants.{Ihex, Srec}
use Rattle.hex_image.specs.declared.records.Item.{Item}
use Rattle.hex_image.specs.declared.records.Item.TheVariants.{Data, EndAt, Nothing}
use Rattle.hex_image.specs.declared.records.Piece.{Piece}
use Rattle.hex_image.specs.Digits.{half_bytes, word, word_bytes}
use Rattle.hex_image.specs.Ihex as ihex
use Rattle.hex_image.specs.Images.{end_of, meets, piece}
use Rattle.hex_image.specs.Reading.{Reading, State, after, burn_of, first_state, refusal, behind, by_flaw, flaw, is_blank, judged, late, range_flaw, read, said, start_flaw, with_piece}
use Rattle.hex_image.specs.Writing.{ihex_end, ihex_line, ihex_record, ihex_rest, ihex_rows, row_records, summed, srec_line, srec_record, srec_row, upper_records}
use Rattle.hex_image.proofs.TextLemmas.{AreHigh, encoded_high, first_of, not_blank}
use Rattle.hex_image.proofs.RecordLemmas.{data_said, end_said, header_said, no_bytes, word_of, half_are_bytes, half_of, ihex_are_bytes, ihex_said, srec_are_bytes, srec_bytes, word_are_bytes}

-- ---- one line

-- a line that isn't blank and says an item with which nothing is wrong
item_read : (form : Form) (n : ℕ) (s : State) (b : ℕ) (bs rest : List ℕ) (i : Item) → 48 ≤ b → AreHigh bs → said form (b ∷ bs) ≡ Ok i → flaw s i ≡ None
    → read form n s (lines ((b ∷ bs) ++ 10 ∷ rest)) ≡ read form (n + 1) (after s i) (lines rest)
item_read form n s b bs rest i h high says good =
    let next : State → Reading = λ t. read form (n + 1) t (lines rest) in
    ap (read form n s) (first_of (b ∷ bs) rest (h, high))
    ∙ ap (behind n next) (line_step (is_blank (b ∷ bs)) (not_blank b bs h))
  where
    line_step : (t : Bool) → t ≡ false → cond t (Ok s) (judged s (said form (b ∷ bs))) ≡ Ok (after s i)
    line_step true e = absurd cc
    line_step false e = ap (judged s) says ∙ ap (by_flaw (after s i)) good

-- the text of a record, with what stands behind it
regrouped : (x rest : List ℕ) → (x ++ 10 ∷ []) ++ rest ≡ x ++ 10 ∷ rest
regrouped x rest = append_assoc x (10 ∷ []) rest

pub ihex_read : (n : ℕ) (s : State) (kind address : ℕ) (bytes rest : List ℕ) → kind ≤ 5 → address < 2 ^ 16 → length bytes < 256 → IsBytes bytes → ihex.fits kind (length bytes) ≡ true
    → flaw s (ihex.item_of kind address bytes) ≡ None
    → read Ihex n s (lines (ihex_line (ihex_record kind address bytes) ++ rest)) ≡ read Ihex (n + 1) (after s (ihex.item_of kind address bytes)) (lines rest)
ihex_read n s kind address bytes rest known small short h fit good =
    let x = encode_upper (summed (ihex_record kind address bytes)) in
    ap (λ (text : List ℕ). read Ihex n s (lines text)) (regrouped (58 ∷ x) rest)
    ∙ item_read Ihex n s 58 x rest (ihex.item_of kind address bytes) (omega arith)
    (encoded_high (summed (ihex_record kind address bytes)) (ihex_are_bytes kind address bytes known small short h))
    (ihex_said kind address bytes known small short h fit) good

pub srec_read : (n : ℕ) (s : State) (kind : ℕ) (address bytes rest : List ℕ) (i : Item) → length address + length bytes + 1 < 256 → IsBytes (address ++ bytes)
    → said Srec (83 ∷ (48 + kind) ∷ encode_upper (srec_bytes address bytes)) ≡ Ok i → flaw s i ≡ None
    → read Srec n s (lines (srec_line kind (srec_record address bytes) ++ rest)) ≡ read Srec (n + 1) (after s i) (lines rest)
srec_read n s kind address bytes rest i short h says good =
    let x = encode_upper (srec_bytes address bytes) in
    ap (λ (text : List ℕ). read Srec n s (lines text)) (regrouped (83 ∷ (48 + kind) ∷ x) rest)
    ∙ item_read Srec n s 83 ((48 + kind) ∷ x) rest i (omega arith)
    (omega arith, encoded_high (srec_bytes address bytes) (srec_are_bytes address bytes short h)) says good

-- ---- data

-- a piece with bytes, of at most 16, that ends in the space
pub record IsRow (p : Piece) : Type 0 where
  pub some : 0 < length p.bytes
  pub short : length p.bytes ≤ 16
  pub are_bytes : IsBytes p.bytes
  pub in_space : end_of p ≤ 2 ^ 32

-- rows none of which meets one before it
abbrev pub AreNew : List Piece → List Piece → Type 0
AreNew old [] = Unit {0}
AreNew old (p ∷ ps) = IsRow p × (list_any (meets p) old ≡ false) × AreNew (old ++ p ∷ []) ps

both_fail : (a b : Bool) → b ≡ false → (a && b) ≡ false
both_fail true b e = e
both_fail false b e = refl

not_beyond : (a b : ℕ) → b ≤ a → nat_lt a b ≡ false
not_beyond a b h = grind arith

no_flaw : (a b e : Bool) (j k l : RecordKind) → a ≡ false → b ≡ false → e ≡ false → cond a (Some j) (cond b (Some k) (cond e (Some l) None)) ≡ None
no_flaw true b e j k l f g h = absurd cc
no_flaw false true e j k l f g h = absurd cc
no_flaw false false true j k l f g h = absurd cc
no_flaw false false false j k l f g h = refl

row_good : (s : State) (address : ℕ) (p : Piece) → s.base + address ≡ p.base → s.ended ≡ false → IsRow p → list_any (meets p) s.pieces ≡ false → flaw s (Data address p.bytes) ≡ None
row_good s address p place going row new =
    ap (λ (base : ℕ). range_flaw s base (base + length p.bytes)) place
    ∙ no_flaw (nat_lt (2 ^ 32) (end_of p)) (nat_lt p.base (end_of p) && list_any (meets p) s.pieces) s.ended Address Repeated Order
    (not_beyond (2 ^ 32) (end_of p) row.in_space) (both_fail (nat_lt p.base (end_of p)) (list_any (meets p) s.pieces) new) going

-- the state with one more piece
abbrev pub with_row : State → Piece → State
with_row s p = record s { pieces = s.pieces ++ p ∷ [] }

added : (t : Bool) (ps : List Piece) (p : Piece) → t ≡ true → cond t (ps ++ p ∷ []) ps ≡ ps ++ p ∷ []
added true ps p e = refl
added false ps p e = absurd cc

abbrev with_pieces : State → List Piece → State
with_pieces t ps = record t { pieces = ps }

abbrev after_piece : State → Piece → State
after_piece t q = record t { pieces = with_piece t.pieces q }

row_after : (s : State) (address : ℕ) (p : Piece) → s.base + address ≡ p.base → IsRow p → after s (Data address p.bytes) ≡ with_row s p
row_after s address p place row =
    ap (λ (base : ℕ). after_piece s (piece base p.bytes)) place
    ∙ ap (λ (ps : List Piece). with_pieces s ps) (added (nat_lt 0 (length p.bytes)) s.pieces p (lt-ltb 0 (length p.bytes) row.some))

-- the state with another base and other pieces
abbrev pub moved : State → ℕ → List Piece → State
moved s base ps = record s { base = base; pieces = ps }

-- ---- Intel HEX

-- the upper half of the address that counts is that of the base
abbrev pub BaseIs : Option ℕ → ℕ → Type 0
BaseIs None base = Unit {0}
BaseIs (Some upper) base = base ≡ 2 ^ 16 * upper

open_late : (s : State) → s.ended ≡ false → late s ≡ None
open_late s going = cond-false s.ended (Some Order) None going

one_line : (x : List ℕ) (rest : List ℕ) → flat_map ihex_line (x ∷ []) ++ rest ≡ ihex_line x ++ rest
one_line x rest = append_assoc (ihex_line x) [] rest

told_upper : (n : ℕ) (s : State) (upper : ℕ) (rest : List ℕ) → upper < 2 ^ 16 → s.ended ≡ false
    → read Ihex n s (lines (flat_map ihex_line (ihex_record 4 0 (half_bytes upper) ∷ []) ++ rest)) ≡ read Ihex (n + 1) (moved s (2 ^ 16 * upper) s.pieces) (lines rest)
told_upper n s upper rest small going =
    ap (λ (text : List ℕ). read Ihex n s (lines text)) (one_line (ihex_record 4 0 (half_bytes upper)) rest)
    ∙ ihex_read n s 4 0 (half_bytes upper) rest (omega arith) (omega arith) (omega arith) (half_are_bytes upper [] small no_bytes) refl (open_late s going)
    ∙ ap (λ (u : ℕ). read Ihex (n + 1) (moved s (2 ^ 16 * u) s.pieces) (lines rest)) (half_of upper)

upper_read : (known : Option ℕ) (n : ℕ) (s : State) (upper : ℕ) (rest : List ℕ) → upper < 2 ^ 16 → BaseIs known s.base → s.ended ≡ false
    → (m : ℕ) × (read Ihex n s (lines (flat_map ihex_line (upper_records known upper) ++ rest)) ≡ read Ihex m (moved s (2 ^ 16 * upper) s.pieces) (lines rest))
upper_read None n s upper rest small is going = (n + 1, told_upper n s upper rest small going)
upper_read (Some u) n s upper rest small is going = by (u == upper) refl
  where
    by : (t : Bool) → (u == upper) ≡ t → (m : ℕ) × (read Ihex n s (lines (flat_map ihex_line (cond t [] (ihex_record 4 0 (half_bytes upper) ∷ [])) ++ rest)) ≡ read Ihex m (moved s (2 ^ 16 * upper) s.pieces) (lines rest))
    by true e =
        let same : s.base ≡ 2 ^ 16 * upper = is ∙ ap (λ (k : ℕ). 2 ^ 16 * k) (eqb-true u upper e) in
        (n, ap (λ (k : ℕ). read Ihex n (moved s k s.pieces) (lines rest)) same)
    by false e = (n + 1, told_upper n s upper rest small going)

two_parts : (xs : List (List ℕ)) (x rest : List ℕ) → flat_map ihex_line (xs ++ x ∷ []) ++ rest ≡ flat_map ihex_line xs ++ (ihex_line x ++ rest)
two_parts xs x rest =
    ap (λ (text : List ℕ). text ++ rest) (flat_map-append ihex_line xs (x ∷ []))
    ∙ append_assoc (flat_map ihex_line xs) (ihex_line x ++ []) rest
    ∙ ap (λ (text : List ℕ). flat_map ihex_line xs ++ text) (one_line x rest)

row_read : (known : Option ℕ) (n : ℕ) (s : State) (p : Piece) (rest : List ℕ) → IsRow p → list_any (meets p) s.pieces ≡ false → BaseIs known s.base → s.ended ≡ false
    → (m : ℕ) × (read Ihex n s (lines (flat_map ihex_line (row_records known p) ++ rest)) ≡ read Ihex m (moved s (2 ^ 16 * (p.base / 2 ^ 16)) (s.pieces ++ p ∷ [])) (lines rest))
row_read known n s p rest row new is going =
    let upper = p.base / 2 ^ 16 in
    let low = p.base % 2 ^ 16 in
    let t = moved s (2 ^ 16 * upper) s.pieces in
    let place : 2 ^ 16 * upper + low ≡ p.base = omega arith in
    let small : upper < 2 ^ 16 = omega (arith, row.in_space, row.some) in
    let u = upper_read known n s upper (ihex_line (ihex_record 0 low p.bytes) ++ rest) small is going in (
      u.0 + 1,
      ap (λ (text : List ℕ). read Ihex n s (lines text)) (two_parts (upper_records known upper) (ihex_record 0 low p.bytes) rest)
          ∙ u.1
          ∙ ihex_read u.0 t 0 low p.bytes rest (omega arith) (omega arith) (omega (arith, row.short)) row.are_bytes refl (row_good t low p place going row new)
          ∙ ap (λ (v : State). read Ihex (u.0 + 1) v (lines rest)) (row_after t low p place row),
    )

pub rows_read : (ps : List Piece) (known : Option ℕ) (n : ℕ) (s : State) (rest : List ℕ) → AreNew s.pieces ps → BaseIs known s.base → s.ended ≡ false
    → (m : ℕ) × (base : ℕ) × (read Ihex n s (lines (ihex_rest known ps ++ rest)) ≡ read Ihex m (moved s base (s.pieces ++ ps)) (lines rest))
rows_read [] known n s rest new is going = (n, s.base, ap (λ (ps : List Piece). read Ihex n (moved s s.base ps) (lines rest)) (sym (append-nil s.pieces)))
rows_read (p ∷ ps) known n s rest new is going =
    let upper = p.base / 2 ^ 16 in
    let first = row_read known n s p (ihex_rest (Some upper) ps ++ rest) new.0 new.1 is going in
    let t = moved s (2 ^ 16 * upper) (s.pieces ++ p ∷ []) in
    let others = rows_read ps (Some upper) first.0 t rest new.2 refl going in (
      others.0,
      others.1,
      ap (λ (text : List ℕ). read Ihex n s (lines (text ++ rest))) (flat_map-append ihex_line (row_records known p) (ihex_rows (Some upper) ps))
          ∙ ap (λ (text : List ℕ). read Ihex n s (lines text)) (append_assoc (flat_map ihex_line (row_records known p)) (ihex_rest (Some upper) ps) rest)
          ∙ first.1
          ∙ others.2
          ∙ ap (λ (qs : List Piece). read Ihex others.0 (moved s others.1 qs) (lines rest)) (append_assoc s.pieces (p ∷ []) ps),
    )

start_good : (s : State) (start : ℕ) → start % 4 ≢ 2 → s.ended ≡ false → start_flaw s start ≡ None
start_good s start h going = cond-false (start % 4 == 2) (Some Address) (late s) (ne_eqb (start % 4) 2 h) ∙ open_late s going

-- the whole text
pub ihex_back : (ps : List Piece) (start : ℕ) → AreNew [] ps → start < 2 ^ 32 → start % 4 ≢ 2
    → burn_of Ihex (ihex_rest None ps ++ ihex_end start) ≡ Ok (record { pieces = ps; start = start })
ihex_back ps start new small state =
    let r = rows_read ps None 1 first_state (ihex_end start) new tt refl in
    let s = moved first_state r.1 ps in
    let t : State = record s { start = start } in
    let last = ihex_line (ihex_record 1 0 []) in
    ap refusal (
    r.2
    ∙ ihex_read r.0 s 5 0 (word_bytes start) last (omega arith) (omega arith) (omega arith) (word_are_bytes start [] small no_bytes) refl (start_good s (word (word_bytes start)) (along start (word (word_bytes start)) (sym (word_of start [] small)) state) refl)
    ∙ ap (λ (a : ℕ). read Ihex (r.0 + 1) (record s { start = a }) (lines last)) (word_of start [] small)
    ∙ ap (λ (text : List ℕ). read Ihex (r.0 + 1) t (lines text)) (sym (append-nil last))
    ∙ ihex_read (r.0 + 1) t 1 0 [] [] (omega arith) (omega arith) (omega arith) no_bytes refl refl
    )
  where
    along : (a b : ℕ) → a ≡ b → a % 4 ≢ 2 → b % 4 ≢ 2
    along a b e h = subst (λ (k : ℕ). k % 4 ≢ 2) e h

-- ---- S-records

srec_row_read : (n : ℕ) (s : State) (p : Piece) (rest : List ℕ) → IsRow p → list_any (meets p) s.pieces ≡ false → s.base ≡ 0 → s.ended ≡ false
    → read Srec n s (lines (srec_row p ++ rest)) ≡ read Srec (n + 1) (with_row s p) (lines rest)
srec_row_read n s p rest row new flat going =
    let place : s.base + p.base ≡ p.base = omega (arith, flat) in
    let small : p.base < 2 ^ 32 = omega (arith, row.in_space, row.some) in
    srec_read n s 3 (word_bytes p.base) p.bytes rest (Data p.base p.bytes) (omega (arith, row.short)) (word_are_bytes p.base p.bytes small row.are_bytes)
    (data_said p.base p.bytes small (omega (arith, row.short)) row.are_bytes) (row_good s p.base p place going row new)
    ∙ ap (λ (v : State). read Srec (n + 1) v (lines rest)) (row_after s p.base p place row)

srec_rows_read : (ps : List Piece) (n : ℕ) (s : State) (rest : List ℕ) → AreNew s.pieces ps → s.base ≡ 0 → s.ended ≡ false
    → (m : ℕ) × (read Srec n s (lines (flat_map srec_row ps ++ rest)) ≡ read Srec m (moved s s.base (s.pieces ++ ps)) (lines rest))
srec_rows_read [] n s rest new flat going = (n, ap (λ (ps : List Piece). read Srec n (moved s s.base ps) (lines rest)) (sym (append-nil s.pieces)))
srec_rows_read (p ∷ ps) n s rest new flat going =
    let others = srec_rows_read ps (n + 1) (with_row s p) rest new.2 flat going in (
      others.0,
      ap (λ (text : List ℕ). read Srec n s (lines text)) (append_assoc (srec_row p) (flat_map srec_row ps) rest)
          ∙ srec_row_read n s p (flat_map srec_row ps ++ rest) new.0 new.1 flat going
          ∙ others.1
          ∙ ap (λ (qs : List Piece). read Srec others.0 (moved s s.base qs) (lines rest)) (append_assoc s.pieces (p ∷ []) ps),
    )

-- the whole text
pub srec_back : (ps : List Piece) (start : ℕ) → AreNew [] ps → start < 2 ^ 32 → start % 4 ≢ 2
    → burn_of Srec (srec_line 0 (srec_record (half_bytes 0) []) ++ flat_map srec_row ps ++ srec_line 7 (srec_record (word_bytes start) [])) ≡ Ok (record { pieces = ps; start = start })
srec_back ps start new small state =
    let last = srec_line 7 (srec_record (word_bytes start) []) in
    let first = srec_line 0 (srec_record (half_bytes 0) []) in
    let r = srec_rows_read ps 2 first_state last new refl refl in
    let s = moved first_state 0 ps in
    ap refusal (
    ap (λ (text : List ℕ). read Srec 1 first_state (lines text)) (append_assoc first (flat_map srec_row ps) last)
    ∙ srec_read 1 first_state 0 (half_bytes 0) [] (flat_map srec_row ps ++ last) Nothing (omega arith) (half_are_bytes 0 [] (omega arith) no_bytes) header_said refl
    ∙ r.1
    ∙ ap (λ (text : List ℕ). read Srec r.0 s (lines text)) (sym (append-nil last))
    ∙ srec_read r.0 s 7 (word_bytes start) [] [] (EndAt start) (omega arith) (word_are_bytes start [] small no_bytes) (end_said start small) (start_good s start state refl)
    )
