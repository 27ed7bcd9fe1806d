-- What encoding an instruction answers: the word that reads as it, or that none does.
use Rattle.std.specs.Prelude.{ℕ, Option, MatchOption}
use Rattle.arm_isa.specs.ArmRows.{IsUnwritten, ReadsArm}
use Rattle.arm_isa.specs.declared.instr.ArmInstr.{ArmInstr}

abbrev pub Encodes : Option ℕ → ArmInstr → Type 0
Encodes answer i = MatchOption answer (IsUnwritten i) (λ w. ReadsArm w i)
