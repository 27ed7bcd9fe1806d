use Rattle.std.proofs.Common.{◌≡◌}
use Rattle.arm7_bus.proofs.ProtectLemmas.{protected_below}
use Rattle.arm7_bus.proofs.memory.protect_banks.Given as goal

abbrev pub invariant-loop-i : goal.invariant-loop-i
invariant-loop-i l = l.banks ≡ protected_below l.r l.i l.initial.banks
