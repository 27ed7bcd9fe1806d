use Rattle.std.proofs.Common.{ℕ, List, map, take, ap, ◌∙◌, subst, arith}
use Rattle.arm7_bus.specs.Meets.{IsFound}
use Rattle.run_opening.specs.declared.image.Need.{Need}
use Rattle.run_opening.specs.Banks.{is_lacking, memory_bank}
use Rattle.run_opening.proofs.RoomLemmas.{take_all}
use Rattle.run_opening.proofs.judging.least_lacking.Goals as goal

pub returns : goal.returns
returns c =
    subst (λ (ns : List Need). IsFound (λ a. is_lacking (map memory_bank c.args.banks.now) ns a) c.loop-need.least)
    (ap (λ (k : ℕ). take k c.args.needs.now) (omega (arith, c.loop-need.auto.need-index-end, c.loop-need-test.false)) ∙ take_all c.args.needs.now)
    c.loop-need.invariant
