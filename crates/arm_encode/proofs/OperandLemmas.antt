-- A byte rotated right is found again by rotating on through the rest of the turn.
use Rattle.std.proofs.Common.{◌≡◌, ◌≢◌, ℕ, zero, suc, ◌+◌, ◌-◌, ◌*◌, ◌/◌, ◌%◌, ◌^◌, ◌<◌, ◌≤◌, sym, ap, subst, ◌∙◌, arith, inl, inr}
use Rattle.std.proofs.lemmas.Bool.{cases_lt}
use Rattle.sdt_word.proofs.NumbersLemmas.{rotated-back, rotated-none, rotated-whole}
use Rattle.sdt_word.specs.Numbers.{IsLeastRotation, operand, rotated}

-- rotating by the rest of a turn, as the code names it
pub rest-turn : (v r : ℕ) → v < 2 ^ 32 → r < 16 → rotated v ((32 - 2 * r) % 32) ≡ rotated v (32 - 2 * r)
rest-turn v zero small h = rotated-none v ∙ sym (rotated-whole v small)
rest-turn v (suc r) small h =
    let e : (32 - 2 * suc r) % 32 ≡ 32 - 2 * suc r = omega arith in
    ap (rotated v) e

-- the byte of an operand
operand-back : (v r byte : ℕ) → r < 16 → byte < 256 → operand r byte ≡ v → rotated v (32 - 2 * r) ≡ byte
operand-back v r byte h b e =
    ap (λ (w : ℕ). rotated w (32 - 2 * r)) (sym e) ∙ rotated-back byte (2 * r) (32 - 2 * r) (omega arith) (omega arith)

-- the operand of a byte
operand-of : (v r byte : ℕ) → v < 2 ^ 32 → r < 16 → rotated v (32 - 2 * r) ≡ byte → operand r byte ≡ v
operand-of v r byte small h e =
    ap (λ (w : ℕ). rotated w (2 * r)) (sym e) ∙ rotated-back v (32 - 2 * r) (2 * r) small (omega arith)

le_of_not-lt : (s r : ℕ) → (s < r → ⊥) → r ≤ s
le_of_not-lt s r h = omega arith

-- no rotation below r gives v
pub record NoneBelow (v r : ℕ) : Type 0 where
  pub none : (s byte : ℕ) → s < r → byte < 256 → operand s byte ≢ v

pub found-least : (v r byte : ℕ) → v < 2 ^ 32 → r < 16 → byte ≡ rotated v ((32 - 2 * r) % 32) → byte < 256 → NoneBelow v r → IsLeastRotation v ((r * 256 + byte) / 256) ((r * 256 + byte) % 256)
found-least v r byte small h is_turned fits below =
    let top : (r * 256 + byte) / 256 ≡ r = omega arith in
    let bottom : (r * 256 + byte) % 256 ≡ byte = omega arith in
    let value = operand-of v r byte small h (sym (rest-turn v r small h) ∙ sym is_turned) in
    rw (top, bottom) (record {
      rotation = h;
      is_byte = fits;
      value = value;
      least = λ s other t o e. le_of_not-lt s r (λ lower. below.none s other lower o e);
    })

pub none-more : (v r byte : ℕ) → v < 2 ^ 32 → r < 16 → byte ≡ rotated v ((32 - 2 * r) % 32) → 256 ≤ byte → NoneBelow v r → NoneBelow v (r + 1)
none-more v r byte small h is_turned large below =
    record {
      none = λ s other t o e. elim (cases_lt s r) [
        | inl lower ↦ below.none s other lower o e
        | inr above ↦
            let same : s ≡ r = omega arith in
            let At : ℕ → Type 0 = λ k. operand k other ≡ v in
            let back = operand-back v r other h o (subst At same e) in
            let turned = rest-turn v r small h in
            omega arith
      ];
    }
