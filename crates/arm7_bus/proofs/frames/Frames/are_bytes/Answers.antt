use Rattle.std.proofs.Common.{ℕ, ◌<◌, List, get_or, subst}
use Rattle.arm7_bus.proofs.FrameLemmas.{bytes_fit}
use Rattle.arm7_bus.proofs.frames.Frames.are_bytes.Goals as goal

pub returns : goal.returns
returns c =
    λ k. subst (λ (xs : List ℕ). get_or xs k 0 < 256) c.self.view_is
    (bytes_fit c.self.inside.block.cells.bytes c.self.inside.left k c.are_bytes.ensures)
