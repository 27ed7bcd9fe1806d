use Rattle.std.proofs.Common.{◌∙◌, sym, arith, ◌+◌}
use Rattle.arm7_bus.specs.States.{protected_at}
use Rattle.arm7_bus.proofs.LookupLemmas.{protected_by}
use Rattle.arm7_bus.proofs.TestLemmas.{any_there}
use Rattle.arm7_bus.proofs.memory.Memory.is_protected.Goals as goal

pub loop-x-preserved : goal.loop-x-preserved
loop-x-preserved c =
    sym (any_there (protected_at c.args.self.now.banks.items) c.loop-x.x (c.from-first.result + c.from.result) (omega arith) (rw c.deref.ensures.value at (sym c.byte_protected.ensures ∙ c.if-byte_protected.false))) ∙ c.loop-x.invariant

pub returns-then-is_last : goal.returns-then-is_last
returns-then-is_last c =
    protected_by c.args.self.now.banks.items c.args.self.now.last c.args.a c.args.n c.index.result.now c.args.self.now.apart (c.is_last.ensures c.if-is_last.true) c.requires.some c.index.ensures
