use Rattle.std.specs.Option.{option_copied}
use Rattle.asm_model.proofs.PartLemmas.{arm_target_said}
use Rattle.asm_units.proofs.line_symbols.add_arm.Goals as goal

pub add_target-requires : goal.add_target-requires
add_target-requires c = arm_target_said c.args.line.now (option_copied c.arm_target.result) c.requires c.arm_target.ensures

pub returns : goal.returns
returns c = rw c.arm_target.ensures at c.add_target.ensures
