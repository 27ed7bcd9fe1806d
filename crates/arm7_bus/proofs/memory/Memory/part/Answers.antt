use Rattle.std.proofs.Common.{sym, ◌∙◌}
use Rattle.std.proofs.lemmas.Option.{IfSome_then}
use Rattle.arm7_bus.proofs.memory.Memory.part.Goals as goal

pub returns : goal.returns
returns c = IfSome_then c.part.result c.part.ensures (λ part e. record { are = e.0; held = sym c.holds.ensures ∙ c.if-not-holds.false; within = e.1 })
