-- Two readings of one line, each of which is known by what it is equal to.
use Rattle.std.proofs.Common.{◌≡◌}
use Rattle.std.specs.Prelude.{Result}
use Rattle.sdt_fault.specs.declared.kinds.LineKind.{LineKind}
use Rattle.asm_model.specs.Readings.{both}

pub both_are : {A B : Type 0} (r : Result (A × B) LineKind) (a a2 : Result A LineKind) (b b2 : Result B LineKind) (r2 : Result (A × B) LineKind)
    → r ≡ both a b → a ≡ a2 → b ≡ b2 → r ≡ r2 → r2 ≡ both a2 b2
both_are r a a2 b b2 r2 e f g h = cc
