-- Runs of bytes in one bank and one page.
use Rattle.std.proofs.Common.{◌≡◌, ℕ, zero, suc, ◌+◌, ◌-◌, ◌^◌, ◌<◌, ◌≤◌, Bool, true, false, ◌||◌, List, ◌∷◌, length, take, refl, sym, ap, ◌∙◌, arith, length-take-le}
use Rattle.std.specs.Prelude.{min, unwrap_or}
use Rattle.sdt_word.specs.Bytes.{load}
use Rattle.arm7_bus.specs.declared.memory.Bank.{Bank}
use Rattle.arm7_bus.specs.Lookups.{HasFrom}
use Rattle.arm7_bus.specs.Pieces.{IsPiece}
use Rattle.arm7_bus.specs.Seats.{has_access}
use Rattle.arm7_bus.specs.States.{Contents, bank_has, peeked}

-- ---- the addresses that a bank has

further : (base size a k : ℕ) → has_access base size a 1 ≡ true → k < base + size - a → has_access base size (a + k) 1 ≡ true
further base size a k h lt = grind arith

pub left_first : (b : Bank) (bs : List Bank) (a : ℕ) → has_access b.range.base b.range.size a 1 ≡ true → HasFrom (b ∷ bs) a (b.range.base + b.range.size - a)
left_first b bs a h = record { each = λ k lt. rw (further b.range.base b.range.size a k h lt) refl }

pub left_later : (b : Bank) (bs : List Bank) (a n : ℕ) → HasFrom bs a n → HasFrom (b ∷ bs) a n
left_later b bs a n h = record { each = λ k lt. go (has_access b.range.base b.range.size (a + k) 1) (h.each k lt) }
  where
    go : {x : Bool} (y : Bool) → x ≡ true → (y || x) ≡ true
    go true e = refl
    go false e = e

-- ---- a part of a run

take-load : (m : ℕ → ℕ) (a n k : ℕ) → k ≤ n → take k (load m a n) ≡ load m a k
take-load m a n zero le = refl
take-load m a zero (suc k) le = absurd (omega arith)
take-load m a (suc n) (suc k) le = ap (λ (l : List ℕ). m a ∷ l) (take-load m (suc a) n k (omega arith))

pub piece_is : (c : Contents) (a count : ℕ) (bytes part : List ℕ) → bytes ≡ load c.memory a (length bytes) → (length bytes ≡ 0 → c.memory a ≡ 0)
    → HasFrom c.banks a count → (count ≡ 0 → bank_has c.banks a 1 ≡ false) → a + count ≤ 2 ^ 32
    → part ≡ take (min (length bytes) count) bytes → IsPiece c a part
piece_is c a count bytes part are zeros held none within e =
    let size : length part ≡ min (length bytes) count = ap length e ∙ length-take-le (min (length bytes) count) bytes (omega arith) in
    record {
      are = e ∙ ap (take (min (length bytes) count)) are ∙ take-load c.memory a (length bytes) (min (length bytes) count) (omega arith)
          ∙ ap (load c.memory a) (sym size);
      held = record { each = λ k lt. held.each k (omega arith) };
      within = omega arith;
      some = λ n. go (bank_has c.banks a 1) refl (length bytes) refl count refl (sym size ∙ n);
    }
  where
    go : (b : Bool) → bank_has c.banks a 1 ≡ b → (l : ℕ) → length bytes ≡ l → (k : ℕ) → count ≡ k → min l k ≡ 0 → unwrap_or (peeked c a) 0 ≡ 0
    go false e l f k g h = rw e refl
    go true e zero f k g h = rw e (zeros f)
    go true e (suc l) f zero g h = absurd (let x : true ≡ false = sym e ∙ none g in cc)
    go true e (suc l) f (suc k) g h = absurd (omega arith)
