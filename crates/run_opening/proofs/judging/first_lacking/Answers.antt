use Rattle.std.proofs.Common.{arith, map}
use Rattle.run_opening.specs.Banks.{memory_bank}
use Rattle.run_opening.proofs.RoomLemmas.{lack_some, lack_none, walked}
use Rattle.run_opening.proofs.judging.first_lacking.Goals as goal

pub banks-init : goal.banks-init
banks-init c = record { from_base = omega arith; within = omega arith; here = λ x p q. absurd (omega (arith, p, q)) }

pub banks-preserved : goal.banks-preserved
banks-preserved c =
    let (more, top, next) = c.end_of_bank.ensures.some c.in-Some.next c.in-Some.is in
    record {
      from_base = omega (arith, c.banks.invariant.from_base, more);
      within = omega (arith, top);
      here = walked (map memory_bank c.args.banks.now) c.args.need.base c.banks.a c.in-Some.next c.banks.invariant.here next;
    }

pub returns-in-None : goal.returns-in-None
returns-in-None c =
    lack_some (map memory_bank c.args.banks.now) c.args.need c.banks.a (omega arith) (omega arith) (omega arith) c.banks.invariant.here (c.end_of_bank.ensures.none c.in-None.is)

pub returns : goal.returns
returns c = lack_none (map memory_bank c.args.banks.now) c.args.need c.banks.a (omega arith) (omega arith) c.banks.invariant.here
