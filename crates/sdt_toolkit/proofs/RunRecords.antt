-- The pieces that a text of records tells hold bytes.
use Rattle.std.proofs.Common.{◌≡◌, ℕ, zero, suc, ◌+◌, ◌-◌, ◌*◌, ◌^◌, ◌==◌, Bool, true, false, cond, List, [], ◌∷◌, length, map, filter, take, drop, Option, Some, None, Result, Ok, Err, refl, sym, subst, arith}
use Rattle.std.specs.Prelude.{codes, nat_eq, slice_index}
use Rattle.std.specs.List.{AllByRecursion, starts_with}
use Rattle.sdt_fault.specs.declared.kinds.RecordKind.{RecordKind}
use Rattle.sdt_fault.specs.declared.kinds.RecordKind.TheVariants.{Syntax}
use Rattle.hex.specs.Hex.{decode_of}
use Rattle.hex.specs.declared.error.FromHexError.{FromHexError}
use Rattle.hex.proofs.HexLemmas.{decode_of-ok}
use Rattle.chunk_file.specs.Grammar.{AreBytes}
use Rattle.hex_image.specs.declared.records.Burn.{Burn}
use Rattle.hex_image.specs.declared.records.Form.{Form}
use Rattle.hex_image.specs.declared.records.Form.TheVariants.{Ihex, Srec}
use Rattle.hex_image.specs.declared.records.Item.{Item}
use Rattle.hex_image.specs.declared.records.Item.TheVariants.{Data, Base, Start, End, EndAt, Nothing}
use Rattle.hex_image.specs.declared.records.Piece.{Piece}
use Rattle.hex_image.specs.Digits.{decoded, digits_in, half, three, word}
use Rattle.hex_image.specs.Ihex as ihex
use Rattle.hex_image.specs.Reading.{burn_of, said}
use Rattle.hex_image.specs.Reads.{Reads, has_bytes, placed}
use Rattle.hex_image.specs.Srec as srec
use Rattle.hex_image.proofs.ReadLemmas.{text_found}
use Rattle.run_opening.specs.declared.image.Load.{Load}
use Rattle.tool_run.specs.Burned.{load_of}

-- ---- parts of bytes

pub drop_bytes : (n : ℕ) (xs : List ℕ) → AreBytes xs → AreBytes (drop n xs)
drop_bytes zero xs h = h
drop_bytes (suc n) [] h = h
drop_bytes (suc n) (x ∷ xs) h = drop_bytes n xs (λ i. h (suc i))

pub take_bytes : (n : ℕ) (xs : List ℕ) → AreBytes xs → AreBytes (take n xs)
take_bytes zero xs h i = omega arith
take_bytes (suc n) [] h i = omega arith
take_bytes (suc n) (x ∷ xs) h zero = h zero
take_bytes (suc n) (x ∷ xs) h (suc i) = take_bytes n xs (λ k. h (suc k)) i

part_bytes : (n m : ℕ) (xs : List ℕ) → AreBytes xs → AreBytes (take n (drop m xs))
part_bytes n m xs h = take_bytes n (drop m xs) (drop_bytes m xs h)

-- ---- digits

decoded_bytes : (r : Result (List ℕ) FromHexError) (text bytes : List ℕ) → decode_of text ≡ r → decoded r ≡ Some bytes → AreBytes bytes
decoded_bytes (Ok xs) text bytes e h = let same : xs ≡ bytes = cc in subst AreBytes same (decode_of-ok text xs e).3
decoded_bytes (Err x) text bytes e h = absurd cc

digits_bytes : (text bytes : List ℕ) → digits_in text ≡ Some bytes → AreBytes bytes
digits_bytes text bytes h = go (length text == 0) h
  where
    go : (t : Bool) → cond t None (decoded (decode_of text)) ≡ Some bytes → AreBytes bytes
    go true e = absurd cc
    go false e = decoded_bytes (decode_of text) text bytes refl e

-- ---- a line

abbrev OfItem : Item → Type 0
OfItem (Data address bytes) = AreBytes bytes
OfItem other = Unit {0}

unflawed : (i j : Item) (o : Option RecordKind) → ihex.by_flaw i o ≡ Ok j → OfItem i → OfItem j
unflawed i j None h own = let same : i ≡ j = cc in subst OfItem same own
unflawed i j (Some k) h own = absurd cc

ihex_item : (k address : ℕ) (bytes : List ℕ) → AreBytes bytes → OfItem (ihex.item_of k address bytes)
ihex_item k address bytes h = go (k == 0) (k == 1) (k == 2) (k == 3) (k == 4)
  where
    go : (a b c d e : Bool)
        → OfItem (cond a (Data address bytes) (cond b End (cond c (Base (16 * half bytes)) (cond d (Start (16 * half bytes + half (drop 2 bytes))) (cond e (Base (2 ^ 16 * half bytes)) (Start (word bytes)))))))
    go true b c d e = h
    go false true c d e = tt
    go false false true d e = tt
    go false false false true e = tt
    go false false false false true = tt
    go false false false false false = tt

ihex_digits : (o : Option (List ℕ)) (text : List ℕ) (i : Item) → digits_in text ≡ o → ihex.by_digits o ≡ Ok i → OfItem i
ihex_digits None text i e h = absurd cc
ihex_digits (Some bytes) text i e h =
    unflawed (ihex.item bytes) i (ihex.flaw bytes) h (ihex_item (slice_index bytes 3) (half (drop 1 bytes)) (ihex.data_in bytes) (part_bytes (slice_index bytes 0) 4 bytes (digits_bytes text bytes e)))

ihex_line : (line : List ℕ) (i : Item) → ihex.said line ≡ Ok i → OfItem i
ihex_line line i h = go (starts_with nat_eq line (codes ":")) h
  where
    go : (t : Bool) → cond t (ihex.by_digits (digits_in (drop 1 line))) (Err Syntax) ≡ Ok i → OfItem i
    go true e = ihex_digits (digits_in (drop 1 line)) (drop 1 line) i refl e
    go false e = absurd cc

srec_item : (k : ℕ) (bytes : List ℕ) → AreBytes bytes → OfItem (srec.item k bytes)
srec_item k bytes h = go (k == 1) (k == 2) (k == 3) (k == 7) (k == 8) (k == 9)
  where
    go : (a b c d e f : Bool)
        → OfItem (cond a (Data (half (drop 1 bytes)) (srec.data_in 2 bytes)) (cond b (Data (three (drop 1 bytes)) (srec.data_in 3 bytes)) (cond c (Data (word (drop 1 bytes)) (srec.data_in 4 bytes))
        (cond d (EndAt (word (drop 1 bytes))) (cond e (EndAt (three (drop 1 bytes))) (cond f (EndAt (half (drop 1 bytes))) Nothing))))))
    go true b c d e f = part_bytes (slice_index bytes 0 - (2 + 1)) (2 + 1) bytes h
    go false true c d e f = part_bytes (slice_index bytes 0 - (3 + 1)) (3 + 1) bytes h
    go false false true d e f = part_bytes (slice_index bytes 0 - (4 + 1)) (4 + 1) bytes h
    go false false false true e f = tt
    go false false false false true f = tt
    go false false false false false true = tt
    go false false false false false false = tt

srec_digits : (k : ℕ) (o : Option (List ℕ)) (text : List ℕ) (i : Item) → digits_in text ≡ o → srec.by_digits k o ≡ Ok i → OfItem i
srec_digits k None text i e h = absurd cc
srec_digits k (Some bytes) text i e h = unflawed (srec.item k bytes) i (srec.flaw k bytes) h (srec_item k bytes (digits_bytes text bytes e))

srec_kind : (o : Option ℕ) (text : List ℕ) (i : Item) → srec.by_kind text o ≡ Ok i → OfItem i
srec_kind None text i h = absurd cc
srec_kind (Some k) text i h = srec_digits k (digits_in text) text i refl h

line_bytes : (form : Form) (line : List ℕ) (i : Item) → said form line ≡ Ok i → OfItem i
line_bytes Ihex line i h = ihex_line line i h
line_bytes Srec line i h = srec_kind (srec.kind_of line) (drop 2 line) i h

-- ---- lines

lines_bytes : (form : Form) (ls : List (List ℕ)) (is : List Item) → map (said form) ls ≡ map {B = Result Item RecordKind} (λ i. Ok i) is → AllByRecursion OfItem is
lines_bytes form [] [] h = tt
lines_bytes form [] (i ∷ is) h = absurd cc
lines_bytes form (l ∷ ls) [] h = absurd cc
lines_bytes form (l ∷ ls) (i ∷ is) h =
    let one : said form l ≡ Ok i = cc in
    let others : map (said form) ls ≡ map {B = Result Item RecordKind} (λ i. Ok i) is = cc in
    (line_bytes form l i one, lines_bytes form ls is others)

abbrev OfPiece : Piece → Type 0
OfPiece p = AreBytes p.bytes

placed_bytes : (base : ℕ) (is : List Item) → AllByRecursion OfItem is → AllByRecursion OfPiece (placed base is)
placed_bytes base [] h = tt
placed_bytes base (Data address bytes ∷ is) h = (h.0, placed_bytes base is h.1)
placed_bytes base (Base b ∷ is) h = placed_bytes b is h.1
placed_bytes base (Start a ∷ is) h = placed_bytes base is h.1
placed_bytes base (End ∷ is) h = placed_bytes base is h.1
placed_bytes base (EndAt a ∷ is) h = placed_bytes base is h.1
placed_bytes base (Nothing ∷ is) h = placed_bytes base is h.1

kept_bytes : (ps : List Piece) → AllByRecursion OfPiece ps → AllByRecursion OfPiece (filter has_bytes ps)
kept_bytes [] h = tt
kept_bytes (p ∷ ps) h = go (has_bytes p) (kept_bytes ps h.1)
  where
    go : (t : Bool) → AllByRecursion OfPiece (filter has_bytes ps) → AllByRecursion OfPiece (cond t (p ∷ filter has_bytes ps) (filter has_bytes ps))
    go true rest = (h.0, rest)
    go false rest = rest

loads_bytes : (ps : List Piece) → AllByRecursion OfPiece ps → AllByRecursion (λ (l : Load). AreBytes l.bytes) (map load_of ps)
loads_bytes [] h = tt
loads_bytes (p ∷ ps) h = (h.0, loads_bytes ps h.1)

pub records_bytes : (form : Form) (text : List ℕ) (b : Burn) → burn_of form text ≡ Ok b → AllByRecursion (λ (l : Load). AreBytes l.bytes) (map load_of b.pieces)
records_bytes form text b h =
    let r : Reads form text b = text_found form text b h in
    loads_bytes b.pieces
    (subst (λ (ps : List Piece). AllByRecursion OfPiece ps) (sym r.pieces)
    (kept_bytes (placed 0 r.items) (placed_bytes 0 r.items (lines_bytes form _ r.items r.spelled))))
