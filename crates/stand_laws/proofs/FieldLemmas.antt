-- Numbers in the fields of instructions: distances from pc, displacements of branches and immediate operands.
use Rattle.std.proofs.Common.{◌≡◌, ℕ, ◌+◌, ◌-◌, ◌*◌, ◌/◌, ◌%◌, ◌^◌, ◌<◌, ◌≤◌, nat_lt, List, [], ◌∷◌, Bool, true, false, cond, refl, sym, ◌∙◌, ap, arith, Some}
use Rattle.std.specs.Prelude.{Ok, Err}
use Rattle.std.proofs.Math.Nat.{div-mul-le_self, le_trans}
use Rattle.std.proofs.lemmas.Nat.{mul-le}
use Rattle.std.proofs.lemmas.Bool.{ltb-false}
use Rattle.sdt_fault.specs.declared.kinds.LineKind.TheVariants.{OutOfRange}
use Rattle.sdt_word.specs.Numbers.{rotated, operand, sign_extended}
use Rattle.sdt_word.proofs.NumbersLemmas.{rotated-back}
use Rattle.source_model.specs.Contexts.{is_positive, magnitude, offset_below}
use Rattle.source_model.specs.Immediates.{rotations, turned_back, immediate_among, immediate, negated}
use Rattle.source_model.specs.PseudoForms.{places, lowest_among, first_part}
use Rattle.stand_model.specs.Stands.{from_pc, moved}
use Rattle.arm_encode.proofs.OperandLemmas.{rest-turn as rest_turn}

-- ---- distances

-- how far an offset lies behind pc of an instruction at another
abbrev pub away : ℕ → ℕ → ℕ
away at o = (o + (2 ^ 32 - (at + 8))) % 2 ^ 32

pub away_leads : (base at o a : ℕ) → at + 8 ≤ 2 ^ 32 → a ≡ base + at → (a + 8 + away at o) % 2 ^ 32 ≡ (base + o) % 2 ^ 32
away_leads base at o a small e = omega (arith, small, e)

pub signed_leads : (a d : ℕ) → d < 2 ^ 32 → from_pc a (is_positive d) (magnitude d) ≡ (a + 8 + d) % 2 ^ 32
signed_leads a d small = by_test (nat_lt d (2 ^ 31)) refl
  where
    by_test : (b : Bool) → nat_lt d (2 ^ 31) ≡ b → from_pc a b (cond b d (2 ^ 32 - d)) ≡ (a + 8 + d) % 2 ^ 32
    by_test true x = refl
    by_test false x = let y = ltb-false d (2 ^ 31) x in omega (arith, small, y)

pub below_is : (limit d : ℕ) (p : Bool × ℕ) → offset_below limit d ≡ Ok p → (is_positive d, magnitude d) ≡ p
below_is limit d p h = by_test (nat_lt (magnitude d) limit) h
  where
    by_test : (b : Bool) → cond b (Ok (is_positive d, magnitude d)) (Err OutOfRange) ≡ Ok p → (is_positive d, magnitude d) ≡ p
    by_test true x = cc
    by_test false x = absurd (cc)

-- an offset that is told as a distance from pc
pub distance_leads : (limit base at o a : ℕ) (p : Bool × ℕ) → at + 8 ≤ 2 ^ 32 → a ≡ base + at → offset_below limit (away at o) ≡ Ok p
    → from_pc a p.0 p.1 ≡ (base + o) % 2 ^ 32
distance_leads limit base at o a p small e h =
    ap (λ (z : Bool × ℕ). from_pc a z.0 z.1) (sym (below_is limit (away at o) p h))
    ∙ signed_leads a (away at o) (omega arith) ∙ away_leads base at o a small e

-- ---- branches

pub field_spans : (d : ℕ) → d % 4 ≡ 0 → d < 2 ^ 25 → (x : ℕ) → (x + sign_extended (d / 4 % 2 ^ 24) 24 * 4) % 2 ^ 32 ≡ (x + d) % 2 ^ 32
field_spans d whole low x = grind arith

pub field_spans_back : (d : ℕ) → d % 4 ≡ 0 → d < 2 ^ 32 → 2 ^ 32 - 2 ^ 25 ≤ d
    → (x : ℕ) → (x + sign_extended (d / 4 % 2 ^ 24) 24 * 4) % 2 ^ 32 ≡ (x + d) % 2 ^ 32
field_spans_back d whole small high x = grind arith

-- ---- immediate operands

pub undone : (n r : ℕ) → n < 2 ^ 32 → r < 16 → operand r (turned_back n r) ≡ n
undone n r small h =
    ap (λ v. rotated v (2 * r)) (rest_turn n r small h) ∙ rotated-back n (32 - 2 * r) (2 * r) small (omega arith)

abbrev Below : ℕ → List ℕ → Type 0
Below n [] = Unit {0}
Below n (r ∷ rs) = (r < n) × Below n rs

among_gives : (rs : List ℕ) (n : ℕ) (i : ℕ × ℕ) → n < 2 ^ 32 → Below 16 rs → immediate_among rs n ≡ Some i → operand i.0 i.1 ≡ n
among_gives [] n i small h e = absurd (cc)
among_gives (r ∷ rs) n i small h e = by_test (nat_lt (turned_back n r) 256) e (among_gives rs n i small h.1)
  where
    by_test : (b : Bool) → cond b (Some (r, turned_back n r)) (immediate_among rs n) ≡ Some i → (immediate_among rs n ≡ Some i → operand i.0 i.1 ≡ n)
        → operand i.0 i.1 ≡ n
    by_test true x rest = let y : (r, turned_back n r) ≡ i = cc in ap (λ (z : ℕ × ℕ). operand z.0 z.1) (sym y) ∙ undone n r small h.0
    by_test false x rest = rest x

pub immediate_gives : (n : ℕ) (i : ℕ × ℕ) → n < 2 ^ 32 → immediate n ≡ Some i → operand i.0 i.1 ≡ n
unfolding immediate
immediate_gives n i small e = among_gives rotations n i small (search arith) e

pub moved_up : (base at o a v : ℕ) → at + 8 ≤ 2 ^ 32 → a ≡ base + at → v ≡ away at o → moved true (a + 8) v ≡ (base + o) % 2 ^ 32
moved_up base at o a v small e h = omega (arith, small, e, h)

pub moved_down : (base at o a v : ℕ) → at + 8 ≤ 2 ^ 32 → a ≡ base + at → v ≡ negated (away at o) → moved false (a + 8) v ≡ (base + o) % 2 ^ 32
moved_down base at o a v small e h = omega (arith, small, e, h)

-- ---- a number in two parts

pub first_within : (n : ℕ) → first_part n ≤ n
first_within n = part (n / 2 ^ lowest_among places n) (2 ^ lowest_among places n) (div-mul-le_self n (2 ^ lowest_among places n))
  where
    part : (q p : ℕ) → q * p ≤ n → q % 2 ^ 8 * p ≤ n
    part q p h = le_trans (mul-le (q % 2 ^ 8) p q p (omega arith) (omega arith)) h

pub twice_up : (x n f v w : ℕ) → f ≤ n → v ≡ f → w ≡ n - f → moved true (moved true x v) w ≡ (x + n) % 2 ^ 32
twice_up x n f v w h e g = omega (arith, h, e, g)

pub twice_down : (x n f v w : ℕ) → n < 2 ^ 32 → f ≤ n → v ≡ f → w ≡ n - f → moved false (moved false x v) w ≡ (x + (2 ^ 32 - n)) % 2 ^ 32
twice_down x n f v w small h e g = omega (arith, small, h, e, g)
