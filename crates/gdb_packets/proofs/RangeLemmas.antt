-- Ranges that end in the address space.
use Rattle.std.proofs.Common.{◌≡◌, ℕ, ◌+◌, ◌^◌, ◌<◌, ◌≤◌, nat_le, Bool, true, false, Some, None, refl, ap, subst, arith, leb-true, leb-false}
use Rattle.std.proofs.Math.Bridge.{le_prop}
use Rattle.sdt_word.specs.declared.ranges.Range32.{Range32}
use Rattle.gdb_packets.specs.Requests.{ending, range_by}

pub range_ends : (base size told : ℕ) (h : base + told ≤ 2 ^ 32) → told ≡ size
    → Some (record { base = base; size = told; in_space = h }) ≡ ending base size
range_ends base size told h same = subst (λ (n : ℕ). Some (made base told h) ≡ ending base n) same (by (nat_le (base + told) (2 ^ 32)) refl)
  where
    made : (b s : ℕ) → b + s ≤ 2 ^ 32 → Range32
    made b s k = record { base = b; size = s; in_space = k }

    by : (b : Bool) (e : nat_le (base + told) (2 ^ 32) ≡ b) → Some (made base told h) ≡ range_by base told b e
    by true e = ap (λ (k : base + told ≤ 2 ^ 32). Some (made base told k)) (le_prop h (leb-true (base + told) (2 ^ 32) e))
    by false e = absurd (let k = leb-false (base + told) (2 ^ 32) e in omega arith)

pub range_beyond : (base size : ℕ) → 2 ^ 32 < base + size → None ≡ ending base size
range_beyond base size h = by (nat_le (base + size) (2 ^ 32)) refl
  where
    by : (b : Bool) (e : nat_le (base + size) (2 ^ 32) ≡ b) → None ≡ range_by base size b e
    by true e = absurd (let k = leb-true (base + size) (2 ^ 32) e in omega arith)
    by false e = refl
