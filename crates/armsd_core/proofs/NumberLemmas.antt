-- Ranges that end in the address space.
use Rattle.std.proofs.Common.{◌≡◌, ℕ, suc, ◌+◌, ◌*◌, ◌^◌, ◌<◌, ◌≤◌, List, length, get_or, drop, nat_le, Bool, true, false, Ok, Err, refl, ap, subst, arith, drop-cons, leb-true, leb-false}
use Rattle.std.specs.Prelude.{min}
use Rattle.std.specs.Char.{digit_value}
use Rattle.std.specs.Str.Parse.{digits_value, digits_value_after}
use Rattle.std.proofs.Math.Bridge.{le_prop}
use Rattle.base_lemmas.proofs.BaseLemmas.{grows}
use Rattle.sdt_fault.specs.declared.kinds.CommandKind.TheVariants.{Number}
use Rattle.armsd_core.specs.declared.command.Command.{Command}
use Rattle.armsd_core.specs.declared.command.Command.TheVariants.{Watch}
use Rattle.armsd_core.specs.Commands.{range, range_by}

-- ---- ranges

pub range_ends : (base size told : ℕ) (h : base + told ≤ 2 ^ 32) → told ≡ size → Ok (Watch (record { base = base; size = told; in_space = h })) ≡ range base size
range_ends base size told h same = subst (λ (n : ℕ). Ok (watch base told h) ≡ range base n) same (by (nat_le (base + told) (2 ^ 32)) refl)
  where
    watch : (b s : ℕ) → b + s ≤ 2 ^ 32 → Command
    watch b s k = Watch (record { base = b; size = s; in_space = k })

    by : (b : Bool) (e : nat_le (base + told) (2 ^ 32) ≡ b) → Ok (watch base told h) ≡ range_by base told b e
    by true e = ap (λ (k : base + told ≤ 2 ^ 32). Ok (watch base told k)) (le_prop h (leb-true (base + told) (2 ^ 32) e))
    by false e = absurd (let k = leb-false (base + told) (2 ^ 32) e in omega arith)

pub range_beyond : (base size : ℕ) → 2 ^ 32 < base + size → Err Number ≡ range base size
range_beyond base size h = by (nat_le (base + size) (2 ^ 32)) refl
  where
    by : (b : Bool) (e : nat_le (base + size) (2 ^ 32) ≡ b) → Err Number ≡ range_by base size b e
    by true e = absurd (let k = leb-true (base + size) (2 ^ 32) e in omega arith)
    by false e = refl
