use Rattle.std.proofs.Common.{◌≡◌, ◌++◌, map, take, drop}
use Rattle.asm_locals.specs.Naming as naming
use Rattle.asm_locals.specs.Passes.{found}
use Rattle.asm_locals.proofs.naming.name_exprs.Given as goal

abbrev pub invariant-exprs : goal.invariant-exprs
invariant-exprs l = l.exprs ≡ map (naming.named (found l.labels)) (take l.expr-index l.fn.exprs) ++ drop l.expr-index l.fn.exprs
