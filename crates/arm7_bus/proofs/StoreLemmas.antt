-- Stores that lie in banks.
use Rattle.std.proofs.Common.{◌≡◌, ℕ, zero, suc, ◌+◌, ◌-◌, ◌*◌, ◌^◌, ◌<◌, ◌≤◌, Bool, true, false, ◌||◌, List, [], ◌∷◌, ◌++◌, length, map, take, drop, refl, sym, ap, ◌∙◌, arith}
use Rattle.std.specs.Prelude.{◌&&◌, if◌then◌else◌}
use Rattle.sdt_word.specs.declared.ranges.Range32.{Range32}
use Rattle.arm7_model.specs.Accesses.{next_word}
use Rattle.arm7_bus.specs.declared.memory.Bank.{Bank}
use Rattle.arm7_model.specs.Memory.{any_from}
use Rattle.arm7_model.proofs.MemoryLemmas.{any-from}
use Rattle.arm7_bus.specs.Lookups.{IsBankAt, bank_has, is_protected, lie_in_banks, protected_at}
use Rattle.arm7_bus.specs.Picks.{word_places}
use Rattle.arm7_bus.specs.Protection.{protected_bank}
use Rattle.arm7_bus.specs.Seats.{has_access}
use Rattle.arm7_bus.proofs.LookupLemmas.{has_at, protected_items}
use Rattle.arm7_bus.proofs.TestLemmas.{first, second}

-- ---- more stores

both : (x y : Bool) → x ≡ true → y ≡ true → (x && y) ≡ true
both x y e f = rw (e, f) refl

more : (bs : List Bank) (old new : List (ℕ × ℕ)) → lie_in_banks bs old ≡ true → lie_in_banks bs new ≡ true → lie_in_banks bs (old ++ new) ≡ true
more bs [] new e f = f
more bs ((a, n) ∷ old) new e f =
    both (bank_has bs a n) (lie_in_banks bs (old ++ new)) (first (bank_has bs a n) (lie_in_banks bs old) e) (more bs old new (second (bank_has bs a n) (lie_in_banks bs old) e) f)

pub one_within : (bs : List Bank) (a n : ℕ) (old new : List (ℕ × ℕ)) → new ≡ old ++ (a, n) ∷ [] → bank_has bs a n ≡ true → lie_in_banks bs old ≡ true → lie_in_banks bs new ≡ true
one_within bs a n old new e h f = ap (λ (xs : List (ℕ × ℕ)). lie_in_banks bs xs) e ∙ more bs old ((a, n) ∷ []) f (both (bank_has bs a n) true h refl)

pub one_more : (bs : List Bank) (i a n : ℕ) (old new : List (ℕ × ℕ)) → new ≡ old ++ (a, n) ∷ [] → IsBankAt bs i a n → lie_in_banks bs old ≡ true → lie_in_banks bs new ≡ true
one_more bs i a n old new e h f = ap (λ (xs : List (ℕ × ℕ)). lie_in_banks bs xs) e ∙ more bs old ((a, n) ∷ []) f (both (bank_has bs a n) true (has_at bs i a n h) refl)

-- the banks have each part of an access
part_of_one : (base size a n b k : ℕ) → a ≤ b → b + k ≤ a + n → has_access base size a n ≡ true → has_access base size b k ≡ true
part_of_one base size a n b k low high e = grind arith

either : (x y z w : Bool) → (x ≡ true → z ≡ true) → (y ≡ true → w ≡ true) → (x || y) ≡ true → (z || w) ≡ true
either true y z w f g e = rw (f refl) refl
either false y true w f g e = refl
either false y false w f g e = g e

pub part_of : (bs : List Bank) (a n b k : ℕ) → a ≤ b → b + k ≤ a + n → bank_has bs a n ≡ true → bank_has bs b k ≡ true
part_of [] a n b k low high e = e
part_of (x ∷ bs) a n b k low high e =
    either (has_access x.range.base x.range.size a n) (bank_has bs a n) (has_access x.range.base x.range.size b k) (bank_has bs b k)
    (part_of_one x.range.base x.range.size a n b k low high) (part_of bs a n b k low high) e

-- no byte of a part of an access is protected, where none of the access is
neither : (x y : Bool) → (x || y) ≡ false → (x ≡ false) × (y ≡ false)
neither false false e = (refl, refl)
neither false true e = absurd cc
neither true y e = absurd cc

any_each : (p : ℕ → Bool) (a n k : ℕ) → any_from p a n ≡ false → k < n → p (a + k) ≡ false
any_each p a zero k e lt = absurd (omega arith)
any_each p a (suc n) zero e lt = let here : a + zero ≡ a = omega arith in ap p here ∙ (neither (p a) (any_from p (suc a) n) e).0
any_each p a (suc n) (suc k) e lt =
    let there : a + suc k ≡ suc a + k = omega arith in
    ap p there ∙ any_each p (suc a) n k (neither (p a) (any_from p (suc a) n) e).1 (omega arith)

pub free_part : (bs : List Bank) (a n b m : ℕ) → a ≤ b → b + m ≤ a + n → is_protected bs a n ≡ false → is_protected bs b m ≡ false
free_part bs a n b m low high e = any-from (protected_at bs) b m (λ k lt.
    let place : a + (b + k - a) ≡ b + k = omega arith in
    ap (protected_at bs) (sym place) ∙ any_each (protected_at bs) a n (b + k - a) e (omega arith))

words_in : (bs : List Bank) (a n : ℕ) → a + 4 * n ≤ 2 ^ 32 → bank_has bs a (4 * n) ≡ true → lie_in_banks bs (word_places a n) ≡ true
words_in bs a zero le e = refl
words_in bs a (suc zero) le e = both (bank_has bs a 4) true e refl
words_in bs a (suc (suc n)) le e =
    let next : next_word a ≡ a + 4 = omega arith in
    both (bank_has bs a 4) (lie_in_banks bs (word_places (next_word a) (suc n))) (part_of bs a (4 * suc (suc n)) a 4 (omega arith) (omega arith) e)
    (rw next (words_in bs (a + 4) (suc n) (omega arith) (part_of bs a (4 * suc (suc n)) (a + 4) (4 * suc n) (omega arith) (omega arith) e)))

pub words_more : (bs : List Bank) (a n : ℕ) (old new : List (ℕ × ℕ)) → a + 4 * n ≤ 2 ^ 32 → bank_has bs a (4 * n) ≡ true → new ≡ old ++ word_places a n
    → lie_in_banks bs old ≡ true → lie_in_banks bs new ≡ true
words_more bs a n old new le h e f = ap (λ (xs : List (ℕ × ℕ)). lie_in_banks bs xs) e ∙ more bs old (word_places a n) f (words_in bs a n le h)

-- ---- other banks

has_more : (bs : List Bank) (b : Bank) (a n : ℕ) → bank_has bs a n ≡ true → bank_has (bs ++ b ∷ []) a n ≡ true
has_more [] b a n e = absurd (cc)
has_more (c ∷ bs) b a n e =
    either (has_access c.range.base c.range.size a n) (bank_has bs a n) (has_access c.range.base c.range.size a n) (bank_has (bs ++ b ∷ []) a n)
    (λ h. h) (has_more bs b a n) e

in_more_banks : (bs : List Bank) (b : Bank) (stores : List (ℕ × ℕ)) → lie_in_banks bs stores ≡ true → lie_in_banks (bs ++ b ∷ []) stores ≡ true
in_more_banks bs b [] e = refl
in_more_banks bs b ((a, n) ∷ stores) e =
    both (bank_has (bs ++ b ∷ []) a n) (lie_in_banks (bs ++ b ∷ []) stores)
    (has_more bs b a n (first (bank_has bs a n) (lie_in_banks bs stores) e)) (in_more_banks bs b stores (second (bank_has bs a n) (lie_in_banks bs stores) e))

pub in_pushed : (bs new : List Bank) (r : Range32) (b : Bool) (stores : List (ℕ × ℕ)) → new ≡ (if b then bs ++ record { range = r; read_only = false } ∷ [] else bs)
    → lie_in_banks bs stores ≡ true → lie_in_banks new stores ≡ true
in_pushed bs new r true stores e f = ap (λ (xs : List Bank). lie_in_banks xs stores) e ∙ in_more_banks bs (record { range = r; read_only = false }) stores f
in_pushed bs new r false stores e f = ap (λ (xs : List Bank). lie_in_banks xs stores) e ∙ f

range_kept : (r : Range32) (b : Bank) → (protected_bank r b).range ≡ b.range
range_kept r b = grind arith

has_kept : (r : Range32) (bs : List Bank) (a n : ℕ) → bank_has (map (protected_bank r) bs) a n ≡ bank_has bs a n
has_kept r [] a n = refl
has_kept r (b ∷ bs) a n = rw (range_kept r b, has_kept r bs a n) refl

in_kept : (r : Range32) (bs : List Bank) (stores : List (ℕ × ℕ)) → lie_in_banks (map (protected_bank r) bs) stores ≡ lie_in_banks bs stores
in_kept r bs [] = refl
in_kept r bs ((a, n) ∷ stores) = rw (has_kept r bs a n, in_kept r bs stores) refl

pub in_protected : (r : Range32) (bs new : List Bank) (n : ℕ) (stores : List (ℕ × ℕ)) → new ≡ map (protected_bank r) bs → n ≡ length bs
    → lie_in_banks bs stores ≡ true → lie_in_banks (take n (new ++ drop (length new) bs)) stores ≡ true
in_protected r bs new n stores e len f = ap (λ (xs : List Bank). lie_in_banks xs stores) (protected_items r bs new n e len) ∙ in_kept r bs stores ∙ f
