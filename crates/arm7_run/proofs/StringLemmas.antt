-- How a sink gets a text in pieces, and how the bytes of a string grow.
use Rattle.std.proofs.Common.{◌≡◌, ℕ, zero, suc, ◌+◌, ◌%◌, ◌^◌, ◌<◌, ◌≤◌, List, [], ◌∷◌, ◌++◌, length, take, get_or, cond, Option, Some, None, refl, sym, ap, ◌∙◌, subst, arith, Bool, true, false, ◌≢◌, eqb-true, eq-eqb, ltb-true, ltb-false, length-take-le}
use Rattle.std.specs.Prelude.{◌==◌, ◌-◌, min, nat_lt, unwrap_or}
use Rattle.std.specs.List.{position, position_or_len}
use Rattle.std.proofs.lemmas.List.Quantifiers.{position-Some}
use Rattle.std.proofs.lemmas.List.Sums.{fails_before_first}
use Rattle.std.proofs.Math.Seq.{take-suc}
use Rattle.sdt_word.proofs.BytesLemmas.{get_or-load}
use Rattle.arm7_bus.specs.Pieces.{IsPiece}
use Rattle.sdt_outside.specs.Sinks.{Got, GotPart}
use Rattle.arm7_bus.specs.States.{Contents, peeked}
use Rattle.arm7_run.specs.Strings.{HasByte, Reaches, byte_behind, bytes_behind}

assoc : (a b c : List ℕ) → ((a ++ b) ++ c) ≡ (a ++ (b ++ c))
assoc [] b c = refl
assoc (x ∷ a) b c = ap (λ (r : List ℕ). x ∷ r) (assoc a b c)

pub no_more : (a : List ℕ) → (a ++ []) ≡ a
no_more [] = refl
no_more (x ∷ a) = ap (λ (r : List ℕ). x ∷ r) (no_more a)

pub got_more : (b0 b1 b2 : Option (List ℕ)) (p q : List ℕ) → Got b0 b1 p → Got b1 b2 q → Got b0 b2 (p ++ q)
got_more None b1 b2 p q h k = subst (λ (b : Option (List ℕ)). Got b b2 q) h k
got_more (Some text) b1 b2 p q h k =
    subst (λ (b : Option (List ℕ)). Got b b2 q) h k ∙ ap (λ (r : List ℕ). Some r) (assoc text p q)

pub part_more : (b0 b1 b2 : Option (List ℕ)) (p q whole rest : List ℕ) → Got b0 b1 p → GotPart b1 b2 q → whole ≡ (p ++ q) ++ rest → GotPart b0 b2 whole
part_more b0 b1 b2 p q whole rest h (part, more, e, k) w =
    (p ++ part, more ++ rest, w ∙ rw e (rw (assoc p (part ++ more) rest, assoc p part (more ++ rest), assoc part more rest) refl), got_more b0 b1 b2 p part h k)

plus-zero : (n : ℕ) → n ≡ n + 0
plus-zero n = omega arith

plus-suc : (n k : ℕ) → suc (n + k) ≡ n + suc k
plus-suc n k = omega arith

pub bytes_more : (c : Contents) (a n k : ℕ) → (rest : List ℕ) × (bytes_behind c a (n + k) ≡ bytes_behind c a n ++ rest)
bytes_more c a n zero = ([], subst (λ (m : ℕ). bytes_behind c a m ≡ bytes_behind c a n ++ []) (plus-zero n) (sym (no_more (bytes_behind c a n))))
bytes_more c a n (suc k) =
    let (rest, e) = bytes_more c a n k in
    (rest ++ unwrap_or (byte_behind c a (n + k)) 0 ∷ [], subst (λ (m : ℕ). bytes_behind c a m ≡ bytes_behind c a n ++ (rest ++ unwrap_or (byte_behind c a (n + k)) 0 ∷ [])) (plus-suc n k) (more rest e))
  where
    more : (rest : List ℕ) → bytes_behind c a (n + k) ≡ bytes_behind c a n ++ rest → bytes_behind c a (suc (n + k)) ≡ bytes_behind c a n ++ (rest ++ unwrap_or (byte_behind c a (n + k)) 0 ∷ [])
    more rest e = ap (λ (r : List ℕ). r ++ unwrap_or (byte_behind c a (n + k)) 0 ∷ []) e ∙ assoc (bytes_behind c a n) rest (unwrap_or (byte_behind c a (n + k)) 0 ∷ [])

-- ---- a run of bytes in one bank and one page

-- the run lies n bytes behind the beginning of a string
pub record IsAhead (c : Contents) (a n at : ℕ) (bytes : List ℕ) : Type 0 where
  pub at_is : at ≡ (a + n) % 2 ^ 32
  pub piece : IsPiece c at bytes

byte-ahead : (c : Contents) (a n at : ℕ) (bytes : List ℕ) → IsAhead c a n at bytes → (j : ℕ) → j < length bytes → byte_behind c a (n + j) ≡ Some (get_or bytes j 0)
byte-ahead c a n at bytes p j lt =
    let is = p.at_is in
    let within = p.piece.within in
    let place : (a + (n + j)) % 2 ^ 32 ≡ at + j = omega arith in
    let value : c.memory (at + j) ≡ get_or bytes j 0 =
    sym (get_or-load c.memory at (length bytes) j lt) ∙ ap (λ (l : List ℕ). get_or l j 0) (sym p.piece.are) in
    ap (peeked c) place ∙ rw (p.piece.held.each j lt) (ap Some value)

-- the first j bytes of the run go on with the string's bytes
bytes-ahead : (c : Contents) (a n at : ℕ) (bytes : List ℕ) → IsAhead c a n at bytes → (j : ℕ) → j ≤ length bytes
    → bytes_behind c a (n + j) ≡ bytes_behind c a n ++ take j bytes
bytes-ahead c a n at bytes p zero le = subst (λ (m : ℕ). bytes_behind c a m ≡ bytes_behind c a n ++ []) (plus-zero n) (sym (no_more (bytes_behind c a n)))
bytes-ahead c a n at bytes p (suc j) le =
    let next = ap (λ (o : Option ℕ). unwrap_or o 0) (byte-ahead c a n at bytes p j (omega arith)) in
    subst (λ (m : ℕ). bytes_behind c a m ≡ bytes_behind c a n ++ take (suc j) bytes) (plus-suc n j)
    (ap (λ (x : ℕ). bytes_behind c a (n + j) ++ x ∷ []) next
    ∙ ap (λ (l : List ℕ). l ++ get_or bytes j 0 ∷ []) (bytes-ahead c a n at bytes p j (omega arith))
    ∙ assoc (bytes_behind c a n) (take j bytes) (get_or bytes j 0 ∷ [])
    ∙ ap (λ (l : List ℕ). bytes_behind c a n ++ l) (sym (take-suc bytes j 0 (omega arith))))

-- bytes before the first m of the run, and these, aren't zero
has-ahead : (c : Contents) (a n at : ℕ) (bytes : List ℕ) (m : ℕ) → IsAhead c a n at bytes → m ≤ length bytes
    → ((k : ℕ) → k < n → HasByte c a k) → ((j : ℕ) → j < m → get_or bytes j 0 ≢ 0) → (k : ℕ) → k < n + m → HasByte c a k
has-ahead c a n at bytes m p le before some k lt = split (nat_lt k n) refl
  where
    split : (b : Bool) → nat_lt k n ≡ b → HasByte c a k
    split true e = before k (ltb-true k n e)
    split false e =
        let low : n ≤ k = ltb-false k n e in
        let j = k - n in
        let sum : n + j ≡ k = omega arith in
        record {
          byte = get_or bytes j 0;
          there = ap (byte_behind c a) (sym sum) ∙ byte-ahead c a n at bytes p j (omega arith);
          not_zero = some j (omega arith);
        }

not-zero : (x : ℕ) → (x == 0) ≡ false → x ≢ 0
not-zero x e h = let t : (x == 0) ≡ true = eq-eqb x 0 h in let f : true ≡ false = sym t ∙ e in cc

none-zero : (bytes : List ℕ) → position (λ b. b == 0) bytes ≡ None → (j : ℕ) → j < length bytes → get_or bytes j 0 ≢ 0
none-zero bytes e j lt = not-zero (get_or bytes j 0) (fails_before_first (λ (b : ℕ). b == 0) bytes j 0 (past (nat_lt (position_or_len (λ (b : ℕ). b == 0) bytes) (length bytes)) refl e))
  where
    past : (b : Bool) → nat_lt (position_or_len (λ (x : ℕ). x == 0) bytes) (length bytes) ≡ b
        → cond b (Some (position_or_len (λ (x : ℕ). x == 0) bytes)) None ≡ None → j < position_or_len (λ (x : ℕ). x == 0) bytes
    past true f h = absurd (cc)
    past false f h = let le = ltb-false (position_or_len (λ (x : ℕ). x == 0) bytes) (length bytes) f in omega arith

-- ---- the length of a string

-- the string goes on behind the run
pub goes_on_ahead : (c : Contents) (a n at : ℕ) (bytes : List ℕ) (o : Option ℕ) → at ≡ (a + n) % 2 ^ 32 → IsPiece c at bytes → o ≡ position (λ b. b == 0) bytes → o ≡ None
    → ((k : ℕ) → k < n → HasByte c a k) → (k : ℕ) → k < n + length bytes → HasByte c a k
goes_on_ahead c a n at bytes o is p place none before =
    has-ahead c a n at bytes (length bytes) (record { at_is = is; piece = p }) (omega arith) before (none-zero bytes (sym place ∙ none))

-- it ends in the run, or has ended with its 2^32-th byte
pub ends_ahead : (c : Contents) (a n at : ℕ) (bytes : List ℕ) (o : Option ℕ) (k : ℕ) → at ≡ (a + n) % 2 ^ 32 → IsPiece c at bytes → o ≡ position (λ b. b == 0) bytes → o ≡ Some k
    → ((i : ℕ) → i < n → HasByte c a i) → Reaches c a (min (n + k) (2 ^ 32))
ends_ahead c a n at bytes o k is p place found before =
    let ahead : IsAhead c a n at bytes = record { at_is = is; piece = p } in
    let at_k = position-Some (λ (b : ℕ). b == 0) bytes k 0 (sym place ∙ found) in
    let each = has-ahead c a n at bytes k ahead (omega (arith, at_k.0)) before (λ j lt. not-zero (get_or bytes j 0) (at_k.2 j lt)) in
    record {
      most = omega arith;
      each = λ i lt. each i (omega arith);
      ended = λ lt.
          let whole : min (n + k) (2 ^ 32) ≡ n + k = omega arith in
          ap (byte_behind c a) whole ∙ byte-ahead c a n at bytes ahead k at_k.0 ∙ ap Some (eqb-true (get_or bytes k 0) 0 at_k.1);
    }

-- ---- its text

-- the bytes of the run's beginning, and those that follow up to a count
pub front_bytes : (c : Contents) (a n at : ℕ) (bytes front : List ℕ) (left : ℕ) → at ≡ (a + n) % 2 ^ 32 → IsPiece c at bytes → front ≡ take (min (length bytes) left) bytes
    → bytes_behind c a (n + length front) ≡ bytes_behind c a n ++ front
front_bytes c a n at bytes front left is p e =
    let size : length front ≡ min (length bytes) left = ap length e ∙ length-take-le (min (length bytes) left) bytes (omega arith) in
    ap (λ (k : ℕ). bytes_behind c a (n + k)) size
    ∙ bytes-ahead c a n at bytes (record { at_is = is; piece = p }) (min (length bytes) left) (omega arith)
    ∙ ap (λ (l : List ℕ). bytes_behind c a n ++ l) (sym e)

pub front_few : (bytes front : List ℕ) (n count : ℕ) → n < count → front ≡ take (min (length bytes) (count - n)) bytes → n + length front ≤ count
front_few bytes front n count lt e =
    let size : length front ≡ min (length bytes) (count - n) = ap length e ∙ length-take-le (min (length bytes) (count - n)) bytes (omega arith) in
    omega arith

pub is_none : (bytes : List ℕ) (b : Bool) → b ≡ (length bytes == 0) → b ≡ true → length bytes ≡ 0
is_none bytes b e t = eqb-true (length bytes) 0 (sym e ∙ t)

pub got_more_as : (b0 b1 b2 : Option (List ℕ)) (c : Contents) (a n m : ℕ) (piece : List ℕ) → bytes_behind c a (n + m) ≡ bytes_behind c a n ++ piece
    → Got b0 b1 (bytes_behind c a n) → Got b1 b2 piece → Got b0 b2 (bytes_behind c a (n + m))
got_more_as b0 b1 b2 c a n m piece e h k = subst (λ (text : List ℕ). Got b0 b2 text) (sym e) (got_more b0 b1 b2 (bytes_behind c a n) piece h k)

-- a byte that no bank has, or that isn't made, is a zero
pub zero_byte : (c : Contents) (a n at : ℕ) (bytes : List ℕ) → at ≡ (a + n) % 2 ^ 32 → IsPiece c at bytes → length bytes ≡ 0 → bytes_behind c a (n + 1) ≡ bytes_behind c a n ++ 0 ∷ []
zero_byte c a n at bytes is p none =
    let byte : unwrap_or (byte_behind c a n) 0 ≡ 0 = ap (λ (x : ℕ). unwrap_or (peeked c x) 0) (sym is) ∙ p.some none in
    let more : n + 1 ≡ suc n = omega arith in
    ap (bytes_behind c a) more ∙ ap (λ (x : ℕ). bytes_behind c a n ++ x ∷ []) byte

-- a sink that got a part of a piece has a beginning of the text
pub part_of_text : (b0 b1 b2 : Option (List ℕ)) (c : Contents) (a n m count : ℕ) (piece : List ℕ) → bytes_behind c a (n + m) ≡ bytes_behind c a n ++ piece → n + m ≤ count
    → Got b0 b1 (bytes_behind c a n) → GotPart b1 b2 piece → GotPart b0 b2 (bytes_behind c a count)
part_of_text b0 b1 b2 c a n m count piece e le got part =
    let (rest, is) = bytes_more c a (n + m) (count - (n + m)) in
    let all : n + m + (count - (n + m)) ≡ count = omega arith in
    part_more b0 b1 b2 (bytes_behind c a n) piece (bytes_behind c a count) rest got part
    (ap (bytes_behind c a) (sym all) ∙ is ∙ ap (λ (l : List ℕ). l ++ rest) e)

not_empty : (xs : List ℕ) (x : ℕ) → xs ++ x ∷ [] ≢ []
not_empty [] x e = cc
not_empty (y ∷ xs) x e = cc

-- a string with a byte isn't empty
pub some_bytes : (c : Contents) (a n : ℕ) → 0 < n → bytes_behind c a n ≢ []
some_bytes c a zero few e = absurd (omega arith)
some_bytes c a (suc n) few e = not_empty (bytes_behind c a n) (unwrap_or (byte_behind c a n) 0) e
