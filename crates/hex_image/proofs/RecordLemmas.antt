-- A written record is read as what it says.
use Rattle.std.proofs.Common.{◌≡◌, ◌∙◌, ℕ, zero, suc, ◌+◌, ◌-◌, ◌/◌, ◌%◌, ◌^◌, ◌<◌, ◌≤◌, List, [], ◌∷◌, ◌++◌, length, take, sum, Bool, true, false, cond, ◌==◌, ◌&&◌, None, Some, Ok, refl, ap, arith, length-append}
use Rattle.std.specs.Prelude.{nat_lt, not}
use Rattle.std.proofs.Math.Seq.{take-append_seam}
use Rattle.std.proofs.lemmas.List.Sums.{sum_by_push}
use Rattle.hex.specs.Hex.{IsBytes, encode_upper}
use Rattle.hex.proofs.OnLiterals.{hex_on_literals}
use Rattle.sdt_fault.specs.declared.kinds.RecordKind.{RecordKind}
use Rattle.sdt_fault.specs.declared.kinds.RecordKind.TheVariants as kinds
use Rattle.hex_image.specs.declared.records.Item.{Item}
use Rattle.hex_image.specs.declared.records.Item.TheVariants.{Data, EndAt, Nothing}
use Rattle.hex_image.specs.Digits.{half, half_bytes, word, word_bytes}
use Rattle.hex_image.specs.Ihex as ihex
use Rattle.hex_image.specs.Srec as srec
use Rattle.hex_image.specs.Writing.{complemented, ihex_record, srec_record, summed}
use Rattle.hex_image.proofs.TextLemmas.{digits_of}

-- ---- numbers and their bytes

pub half_of : (n : ℕ) → half (half_bytes n) ≡ n
half_of n = omega arith

pub word_of : (n : ℕ) (more : List ℕ) → n < 2 ^ 32 → word (word_bytes n ++ more) ≡ n
word_of n more h = omega arith

cons_bytes : (b : ℕ) (bs : List ℕ) → b < 256 → IsBytes bs → IsBytes (b ∷ bs)
cons_bytes b bs h k zero = h
cons_bytes b bs h k (suc i) = k i

pub half_are_bytes : (n : ℕ) (more : List ℕ) → n < 2 ^ 16 → IsBytes more → IsBytes (half_bytes n ++ more)
half_are_bytes n more h k = cons_bytes (n / 2 ^ 8) (n % 2 ^ 8 ∷ more) (omega arith) (cons_bytes (n % 2 ^ 8) more (omega arith) k)

pub word_are_bytes : (n : ℕ) (more : List ℕ) → n < 2 ^ 32 → IsBytes more → IsBytes (word_bytes n ++ more)
word_are_bytes n more h k =
    cons_bytes (n / 2 ^ 24) (n / 2 ^ 16 % 2 ^ 8 ∷ n / 2 ^ 8 % 2 ^ 8 ∷ n % 2 ^ 8 ∷ more) (omega arith)
    (cons_bytes (n / 2 ^ 16 % 2 ^ 8) (n / 2 ^ 8 % 2 ^ 8 ∷ n % 2 ^ 8 ∷ more) (omega arith)
    (cons_bytes (n / 2 ^ 8 % 2 ^ 8) (n % 2 ^ 8 ∷ more) (omega arith)
    (cons_bytes (n % 2 ^ 8) more (omega arith) k)))

pub no_bytes : IsBytes []
no_bytes i = omega arith

pub one_more_byte : (bs : List ℕ) (b : ℕ) → IsBytes bs → b < 256 → IsBytes (bs ++ b ∷ [])
one_more_byte [] b h k = cons_bytes b [] k no_bytes
one_more_byte (x ∷ xs) b h k = cons_bytes x (xs ++ b ∷ []) (h 0) (one_more_byte xs b (λ i. h (suc i)) k)

sum_more : (bs : List ℕ) (b : ℕ) → sum (bs ++ b ∷ []) ≡ sum bs + b
sum_more bs b = sum_by_push (λ x. x) bs b

length_more : (bs : List ℕ) (b : ℕ) → length (bs ++ b ∷ []) ≡ length bs + 1
length_more bs b = length-append bs (b ∷ [])

-- ---- Intel HEX

-- no test of a record fails
passes : (l s k : Bool) (a b c : RecordKind) (i : Item) → l ≡ true → s ≡ true → k ≡ false → ihex.by_flaw i (cond (not l) (Some a) (cond (not s) (Some b) (cond k (Some c) None))) ≡ Ok i
passes true true false a b c i e f g = refl
passes true true true a b c i e f g = absurd cc
passes true false k a b c i e f g = absurd cc
passes false s k a b c i e f g = absurd cc

same_number : (a b : ℕ) → a ≡ b → (a == b) ≡ true
same_number a b e = grind arith

not_below : (a b : ℕ) → b ≤ a → nat_lt a b ≡ false
not_below a b h = grind arith

both_hold : (a b : Bool) → a ≡ true → b ≡ true → (a && b) ≡ true
both_hold true b e h = h
both_hold false b e h = absurd cc

summed_zero : (n : ℕ) → (n + (256 - n % 256) % 256) % 256 ≡ 0
summed_zero n = omega arith

-- a record and its sum
abbrev ihex_sum : ℕ → ℕ → List ℕ → ℕ
ihex_sum kind address bytes = (256 - sum (ihex_record kind address bytes) % 256) % 256

ihex_long : (kind address : ℕ) (bytes : List ℕ) → ihex.fits kind (length bytes) ≡ true → ihex.is_long (summed (ihex_record kind address bytes)) ≡ true
ihex_long kind address bytes fit =
    let e = length_more bytes (ihex_sum kind address bytes) in
    both_hold _ (ihex.fits kind (length bytes)) (same_number _ (length bytes + 5) (omega (arith, e))) fit

ihex_total : (kind address : ℕ) (bytes : List ℕ) → sum (summed (ihex_record kind address bytes)) % 256 ≡ 0
ihex_total kind address bytes =
    let n = sum (ihex_record kind address bytes) in
    let e = sum_more (ihex_record kind address bytes) ((256 - n % 256) % 256) in
    ap (λ (m : ℕ). m % 256) e ∙ summed_zero n

ihex_data : (kind address : ℕ) (bytes : List ℕ) → ihex.data_in (summed (ihex_record kind address bytes)) ≡ bytes
ihex_data kind address bytes = take-append_seam bytes (ihex_sum kind address bytes ∷ [])

ihex_item : (kind address : ℕ) (bytes : List ℕ) → ihex.item (summed (ihex_record kind address bytes)) ≡ ihex.item_of kind address bytes
ihex_item kind address bytes =
    ap (λ (n : ℕ). ihex.item_of kind n (ihex.data_in (summed (ihex_record kind address bytes)))) (half_of address)
    ∙ ap (ihex.item_of kind address) (ihex_data kind address bytes)

ihex_good : (kind address : ℕ) (bytes : List ℕ) → kind ≤ 5 → ihex.fits kind (length bytes) ≡ true
    → ihex.by_flaw (ihex.item (summed (ihex_record kind address bytes))) (ihex.flaw (summed (ihex_record kind address bytes))) ≡ Ok (ihex.item_of kind address bytes)
ihex_good kind address bytes known fit =
    passes (ihex.is_long (summed (ihex_record kind address bytes))) (sum (summed (ihex_record kind address bytes)) % 256 == 0) (nat_lt 5 kind) kinds.Length kinds.Sum kinds.RecordType (ihex.item (summed (ihex_record kind address bytes)))
    (ihex_long kind address bytes fit)
    (same_number (sum (summed (ihex_record kind address bytes)) % 256) 0 (ihex_total kind address bytes))
    (not_below 5 kind known)
    ∙ ap Ok (ihex_item kind address bytes)

pub ihex_are_bytes : (kind address : ℕ) (bytes : List ℕ) → kind ≤ 5 → address < 2 ^ 16 → length bytes < 256 → IsBytes bytes → IsBytes (summed (ihex_record kind address bytes))
ihex_are_bytes kind address bytes known small short h =
    let s = ihex_sum kind address bytes in
    cons_bytes (length bytes) (half_bytes address ++ kind ∷ (bytes ++ s ∷ [])) short
    (half_are_bytes address (kind ∷ (bytes ++ s ∷ [])) small
    (cons_bytes kind (bytes ++ s ∷ []) (omega (arith, known)) (one_more_byte bytes s h (omega arith))))

-- the line of a record says what the record does
pub ihex_said : (kind address : ℕ) (bytes : List ℕ) → kind ≤ 5 → address < 2 ^ 16 → length bytes < 256 → IsBytes bytes → ihex.fits kind (length bytes) ≡ true
    → ihex.said (58 ∷ encode_upper (summed (ihex_record kind address bytes))) ≡ Ok (ihex.item_of kind address bytes)
ihex_said kind address bytes known small short h fit =
    ap ihex.by_digits (digits_of (length bytes) (half_bytes address ++ kind ∷ (bytes ++ ihex_sum kind address bytes ∷ [])) (ihex_are_bytes kind address bytes known small short h))
    ∙ ihex_good kind address bytes known fit

-- ---- S-records

complemented_full : (n : ℕ) → (n + (255 - n % 256)) % 256 ≡ 255
complemented_full n = omega arith

srec_total : (bytes : List ℕ) → sum (complemented bytes) % 256 ≡ 255
srec_total bytes =
    let n = sum bytes in
    let e = sum_more bytes (255 - n % 256) in
    ap (λ (m : ℕ). m % 256) e ∙ complemented_full n

srec_passes : (l s k m : Bool) (a b c : RecordKind) (i : Item) → l ≡ true → s ≡ true → k ≡ false → m ≡ false → ihex.by_flaw i (cond (not l) (Some a) (cond (not s) (Some b) (cond k (Some c) (cond m (Some c) None)))) ≡ Ok i
srec_passes true true false false a b c i e f g h = refl
srec_passes true true false true a b c i e f g h = absurd cc
srec_passes true true true m a b c i e f g h = absurd cc
srec_passes true false k m a b c i e f g h = absurd cc
srec_passes false s k m a b c i e f g h = absurd cc

-- a record of an address and bytes, with its sum
abbrev pub srec_bytes : List ℕ → List ℕ → List ℕ
srec_bytes address bytes = complemented (srec_record address bytes)

srec_long : (kind : ℕ) (address bytes : List ℕ) → srec.fits kind (length address + length bytes + 1) ≡ true → srec.is_long kind (srec_bytes address bytes) ≡ true
srec_long kind address bytes fit =
    let e = length_more (address ++ bytes) (255 - sum (srec_record address bytes) % 256) in
    let f = length-append address bytes in
    both_hold _ (srec.fits kind (length address + length bytes + 1)) (same_number _ (length address + length bytes + 1 + 1) (omega (arith, e, f))) fit

srec_good : (kind : ℕ) (address bytes : List ℕ) → srec.fits kind (length address + length bytes + 1) ≡ true → (kind == 4) ≡ false → (kind == 6) ≡ false
    → ihex.by_flaw (srec.item kind (srec_bytes address bytes)) (srec.flaw kind (srec_bytes address bytes)) ≡ Ok (srec.item kind (srec_bytes address bytes))
srec_good kind address bytes fit four six =
    srec_passes (srec.is_long kind (srec_bytes address bytes)) (sum (srec_bytes address bytes) % 256 == 255) (kind == 4) (kind == 6) kinds.Length kinds.Sum kinds.RecordType (srec.item kind (srec_bytes address bytes))
    (srec_long kind address bytes fit)
    (same_number (sum (srec_bytes address bytes) % 256) 255 (srec_total (srec_record address bytes)))
    four six

pub srec_are_bytes : (address bytes : List ℕ) → length address + length bytes + 1 < 256 → IsBytes (address ++ bytes) → IsBytes (srec_bytes address bytes)
srec_are_bytes address bytes short h =
    cons_bytes (length address + length bytes + 1) ((address ++ bytes) ++ (255 - sum (srec_record address bytes) % 256) ∷ []) short (one_more_byte (address ++ bytes) (255 - sum (srec_record address bytes) % 256) h (omega arith))

-- the header, data, and the end
pub header_said : srec.said (83 ∷ 48 ∷ encode_upper (srec_bytes (half_bytes 0) [])) ≡ Ok Nothing
unfolding hex_on_literals
header_said = refl

pub end_said : (start : ℕ) → start < 2 ^ 32 → srec.said (83 ∷ 55 ∷ encode_upper (srec_bytes (word_bytes start) [])) ≡ Ok (EndAt start)
end_said start small =
    ap (srec.by_digits 7) (digits_of 5 (word_bytes start ++ (255 - sum (srec_record (word_bytes start) []) % 256) ∷ []) (srec_are_bytes (word_bytes start) [] (omega arith) (word_are_bytes start [] small no_bytes)))
    ∙ srec_good 7 (word_bytes start) [] refl refl refl
    ∙ ap (λ (n : ℕ). Ok (EndAt n)) (word_of start ((255 - sum (srec_record (word_bytes start) []) % 256) ∷ []) small)

srec_fit : (bytes : List ℕ) → srec.fits 3 (4 + length bytes + 1) ≡ true
srec_fit bytes = grind arith

srec_data : (base : ℕ) (bytes : List ℕ) → srec.data_in 4 (srec_bytes (word_bytes base) bytes) ≡ bytes
srec_data base bytes =
    let s = 255 - sum (srec_record (word_bytes base) bytes) % 256 in
    let n : 4 + length bytes + 1 - 5 ≡ length bytes = omega arith in
    ap (λ (m : ℕ). take m (bytes ++ s ∷ [])) n ∙ take-append_seam bytes (s ∷ [])

pub data_said : (base : ℕ) (bytes : List ℕ) → base < 2 ^ 32 → length bytes < 200 → IsBytes bytes → srec.said (83 ∷ 51 ∷ encode_upper (srec_bytes (word_bytes base) bytes)) ≡ Ok (Data base bytes)
data_said base bytes small short h =
    ap (srec.by_digits 3) (digits_of (4 + length bytes + 1) ((word_bytes base ++ bytes) ++ (255 - sum (srec_record (word_bytes base) bytes) % 256) ∷ []) (srec_are_bytes (word_bytes base) bytes (omega arith) (word_are_bytes base bytes small h)))
    ∙ srec_good 3 (word_bytes base) bytes (srec_fit bytes) refl refl
    ∙ ap (λ (n : ℕ). Ok (Data n (srec.data_in 4 (srec_bytes (word_bytes base) bytes)))) (word_of base (bytes ++ (255 - sum (srec_record (word_bytes base) bytes) % 256) ∷ []) small)
    ∙ ap (λ (xs : List ℕ). Ok (Data base xs)) (srec_data base bytes)
