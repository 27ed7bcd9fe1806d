use Rattle.std.proofs.Common.{ℕ, ◌<◌, ◌^◌}
use Rattle.std.specs.Prelude.{◌-◌}
use Rattle.arm7_bus.specs.States.{contents_of}
use Rattle.arm7_run.specs.Strings.{HasByte}
use Rattle.arm7_run.proofs.strings.string_len.Given as goal

abbrev pub invariant-pieces : goal.invariant-pieces
invariant-pieces g l = (k : ℕ) → k < l.n → HasByte (contents_of l.bus.memory) l.a k

abbrev pub decreases-pieces : goal.decreases-pieces
decreases-pieces g l = 2 ^ 32 - l.n
