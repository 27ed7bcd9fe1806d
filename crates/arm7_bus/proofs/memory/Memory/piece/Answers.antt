use Rattle.std.proofs.Common.{ℕ, ap, take}
use Rattle.arm7_bus.specs.States.{contents_of}
use Rattle.arm7_bus.proofs.PieceLemmas.{piece_is}
use Rattle.arm7_bus.proofs.memory.Memory.piece.Goals as goal

pub returns : goal.returns
returns c =
    piece_is (contents_of c.args.self.now) c.args.a c.left_in-count.result c.piece-bytes.result.now _ c.piece-bytes.ensures.bytes c.piece-bytes.ensures.some
    (rw c.deref.ensures.value at c.left_in-count.ensures.held) (rw c.deref.ensures.value at c.left_in-count.ensures.none) c.left_in-count.ensures.within (ap (λ (n : ℕ). take n c.piece-bytes.result.now) c.min.ensures)
