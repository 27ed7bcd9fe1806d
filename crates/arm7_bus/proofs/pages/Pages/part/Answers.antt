use Rattle.std.proofs.Common.{arith}
use Rattle.std.proofs.lemmas.Option.{IfSome_then}
use Rattle.arm7_bus.proofs.pages.Pages.part.Goals as goal

pub returns-in-Some : goal.returns-in-Some
returns-in-Some c = IfSome_then c.part_from.result c.part_from.ensures (λ part e. (e, omega arith))
