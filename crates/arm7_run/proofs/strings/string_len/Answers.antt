use Rattle.std.proofs.Common.{refl, ℕ, subst, sym}
use Rattle.arm7_bus.specs.States.{contents_of}
use Rattle.arm7_run.specs.Strings.{Reaches}
use Rattle.arm7_run.proofs.StringLemmas.{ends_ahead, goes_on_ahead}
use Rattle.arm7_run.proofs.strings.string_len.Goals as goal

pub returns-in-Some : goal.returns-in-Some
returns-in-Some g c =
    subst (λ (n : ℕ). Reaches (contents_of c.args.bus.now.memory) c.args.a n) (sym c.min.ensures)
    (ends_ahead (contents_of c.args.bus.now.memory) c.args.a c.pieces.n _ c.piece-piece.result.now c.first_zero.result c.in-Some.k refl c.piece-piece.ensures c.first_zero.ensures.place c.in-Some.is c.pieces.invariant)

pub pieces-preserved : goal.pieces-preserved
pieces-preserved g c =
    goes_on_ahead (contents_of c.args.bus.now.memory) c.args.a c.pieces.n _ c.piece-piece.result.now c.first_zero.result refl c.piece-piece.ensures c.first_zero.ensures.place c.in_default.is c.pieces.invariant
