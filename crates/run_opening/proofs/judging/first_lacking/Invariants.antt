use Rattle.std.proofs.Common.{◌≡◌, ℕ, ◌-◌, ◌<◌, ◌≤◌, true, map}
use Rattle.arm7_bus.specs.States.{bank_has}
use Rattle.run_opening.specs.Banks.{memory_bank}
use Rattle.run_opening.proofs.judging.first_lacking.Given as goal

abbrev pub invariant-banks : goal.invariant-banks
invariant-banks l = record {
  from_base : l.fn.need.base ≤ l.a;
  within : l.a ≤ 4294967296;
  here : (x : ℕ) → l.fn.need.base ≤ x → x < l.a → bank_has (map memory_bank l.banks) x 1 ≡ true;
}

abbrev pub decreases-banks : goal.decreases-banks
decreases-banks l = l.end - l.a
