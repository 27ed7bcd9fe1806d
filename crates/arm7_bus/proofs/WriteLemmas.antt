-- Bytes that are set one after another are written.
use Rattle.std.proofs.Common.{◌≡◌, ℕ, suc, ◌+◌, ◌<◌, ◌≤◌, ◌/◌, ◌%◌, List, [], ◌∷◌, ◌++◌, length, take, drop, set, get_or, replicate, append_assoc, sym, ap, ◌∙◌, arith, length-append, length-take-le, take-append-drop}
use Rattle.std.proofs.Math.Seq.{set-append_seam, drop-cons}
use Rattle.std.proofs.lemmas.List.{replicate-append-replicate}
use Rattle.sdt_word.specs.Bytes.{bytes_of, written}

pub none_written : (xs : List ℕ) (at : ℕ) → written xs at [] ≡ xs
none_written xs at =
    let same : at + 0 ≡ at = omega arith in
    ap (λ (k : ℕ). take at xs ++ drop k xs) same ∙ take-append-drop at xs

pub set_written : (xs bs : List ℕ) (at i v : ℕ) → i ≡ at + length bs → i < length xs → set (written xs at bs) i v ≡ written xs at (bs ++ v ∷ [])
set_written xs bs at i v e lt =
    let front = take at xs ++ bs in
    let cut : written xs at bs ≡ front ++ get_or xs i 0 ∷ drop (suc i) xs =
    sym (append_assoc (take at xs) bs (drop (at + length bs) xs)) ∙ ap (λ (k : ℕ). front ++ drop k xs) (sym e) ∙ ap (λ (ys : List ℕ). front ++ ys) (drop-cons xs i 0 lt) in
    let long : length front ≡ i = omega (arith, length-append (take at xs) bs, length-take-le at xs (omega arith)) in
    let end : suc i ≡ at + length (bs ++ v ∷ []) = omega (arith, length-append bs (v ∷ [])) in
    ap (λ (ys : List ℕ). set ys i v) cut ∙ ap (λ (k : ℕ). set (front ++ get_or xs i 0 ∷ drop (suc i) xs) k v) (sym long) ∙ set-append_seam front (get_or xs i 0) (drop (suc i) xs) v
    ∙ append_assoc (take at xs) bs (v ∷ drop (suc i) xs) ∙ ap (λ (k : ℕ). take at xs ++ (bs ++ v ∷ drop k xs)) end
    ∙ ap (λ (ys : List ℕ). take at xs ++ ys) (sym (append_assoc bs (v ∷ []) (drop (at + length (bs ++ v ∷ [])) xs)))

pub one_set : (xs : List ℕ) (at a : ℕ) → at < length xs → set xs at a ≡ written xs at (a ∷ [])
one_set xs at a lt = ap (λ (ys : List ℕ). set ys at a) (sym (none_written xs at)) ∙ set_written xs [] at at a (omega arith) lt

-- one byte more behind those that are written
pub one_more : (xs ys bs : List ℕ) (at i v : ℕ) → ys ≡ written xs at bs → i ≡ at + length bs → i < length xs → set ys i v ≡ written xs at (bs ++ v ∷ [])
one_more xs ys bs at i v e f lt = ap (λ (zs : List ℕ). set zs i v) e ∙ set_written xs bs at i v f lt

pub half_set : (xs ys zs : List ℕ) (at v : ℕ) → at + 2 ≤ length xs → ys ≡ set xs at (v % 256) → zs ≡ set ys (at + 1) (v / 256 % 256) → zs ≡ written xs at (bytes_of v 2)
half_set xs ys zs at v le e f =
    f ∙ ap (λ (us : List ℕ). set us (at + 1) (v / 256 % 256)) (e ∙ one_set xs at (v % 256) (omega arith)) ∙ set_written xs (v % 256 ∷ []) at (at + 1) (v / 256 % 256) (omega arith) (omega arith)

pub word_set : (xs ys zs us vs : List ℕ) (at v : ℕ) → at + 4 ≤ length xs → ys ≡ set xs at (v % 256) → zs ≡ set ys (at + 1) (v / 256 % 256)
    → us ≡ set zs (at + 2) (v / 256 / 256 % 256) → vs ≡ set us (at + 3) (v / 256 / 256 / 256 % 256) → vs ≡ written xs at (bytes_of v 4)
word_set xs ys zs us vs at v le e f g h =
    h ∙ ap (λ (ws : List ℕ). set ws (at + 3) (v / 256 / 256 / 256 % 256)) (
    g ∙ ap (λ (ws : List ℕ). set ws (at + 2) (v / 256 / 256 % 256)) (half_set xs ys zs at v (omega arith) e f)
    ∙ set_written xs (bytes_of v 2) at (at + 2) (v / 256 / 256 % 256) (omega arith) (omega arith))
    ∙ set_written xs (bytes_of v 2 ++ v / 256 / 256 % 256 ∷ []) at (at + 3) (v / 256 / 256 / 256 % 256) (omega arith) (omega arith)

-- one zero more behind some zeros
pub zero_more : (xs ys zs : List ℕ) (k : ℕ) → ys ≡ xs ++ replicate k 0 → zs ≡ ys ++ 0 ∷ [] → zs ≡ xs ++ replicate (k + 1) 0
zero_more xs ys zs k e f =
    f ∙ ap (λ (us : List ℕ). us ++ 0 ∷ []) e ∙ append_assoc xs (replicate k 0) (0 ∷ []) ∙ ap (λ (us : List ℕ). xs ++ us) (replicate-append-replicate k 1 0)
