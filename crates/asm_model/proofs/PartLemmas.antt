-- What lines say, said of the parts that tables name.
use Rattle.std.proofs.Common.{◌≡◌, subst, sym}
use Rattle.std.specs.Prelude.{Option}
use Rattle.asm_model.specs.declared.exprs.Expr.{Expr}
use Rattle.asm_model.specs.declared.arm_lines.ArmLine.{ArmLine}
use Rattle.asm_model.specs.declared.arm_lines.ArmLine.TheVariants as arm
use Rattle.asm_model.specs.declared.directives.DirectiveLine.{DirectiveLine}
use Rattle.asm_model.specs.declared.directives.DirectiveLine.TheVariants as line
use Rattle.asm_model.specs.declared.thumb_lines.ThumbLine.{ThumbLine}
use Rattle.asm_model.specs.declared.thumb_lines.ThumbLine.TheVariants as thumb
use Rattle.asm_model.specs.Occupied.{Occupied, occupied}
use Rattle.asm_model.specs.Symbols.{arm_target, thumb_target}
use Rattle.asm_model.specs.Said.{ArmSaid, DirectiveSaid, ThumbSaid}
use Rattle.asm_model.specs.SaidParts.{OccupiedSaid, TargetSaid}

occupied_there : (l : DirectiveLine) → DirectiveSaid l → OccupiedSaid (occupied l)
occupied_there (line.Area name a) h = h
occupied_there (line.Constants item es) h = h
occupied_there (line.Space e) h = h
occupied_there (line.Align b) h = h
occupied_there _ h = tt

pub occupied_said : (l : DirectiveLine) (o : Occupied) → DirectiveSaid l → o ≡ occupied l → OccupiedSaid o
occupied_said l o h e = subst OccupiedSaid (sym e) (occupied_there l h)

arm_there : (l : ArmLine) → ArmSaid l → TargetSaid (arm_target l)
arm_there (arm.Branch condition link e) h = h
arm_there _ h = tt

pub arm_target_said : (l : ArmLine) (o : Option Expr) → ArmSaid l → o ≡ arm_target l → TargetSaid o
arm_target_said l o h e = subst TargetSaid (sym e) (arm_there l h)

thumb_there : (l : ThumbLine) → ThumbSaid l → TargetSaid (thumb_target l)
thumb_there (thumb.BranchLink e) h = h
thumb_there _ h = tt

pub thumb_target_said : (l : ThumbLine) (o : Option Expr) → ThumbSaid l → o ≡ thumb_target l → TargetSaid o
thumb_target_said l o h e = subst TargetSaid (sym e) (thumb_there l h)
