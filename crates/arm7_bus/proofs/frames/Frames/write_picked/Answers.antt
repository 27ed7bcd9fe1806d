use Rattle.std.proofs.Common.{List, ℕ, ap, ◌∙◌, arith}
use Rattle.sdt_word.specs.Bytes.{written}
use Rattle.sdt_word.specs.Numbers.{registers}
use Rattle.arm7_bus.specs.Picks.{picked_bytes}
use Rattle.arm7_bus.proofs.FrameLemmas.{bytes_put}
use Rattle.arm7_bus.proofs.PickLemmas.{picked_length}
use Rattle.arm7_bus.proofs.frames.Frames.write_picked.Goals as goal

pub invariant_of-self : goal.invariant_of-self
invariant_of-self c = rw (c.put_picked.ensures.count, c.put_picked.ensures.room) c.zeros_to-self-inside.ensures.frames

pub returns : goal.returns
returns c =
    let bytes = picked_bytes c.args.words.now (registers 16 c.args.list) in
    let room = picked_length c.args.words.now (registers 16 c.args.list) in
    bytes_put c.self.inside.block.cells.bytes c.zeros_to-self-inside.new.block.cells.bytes c.put_picked.new.block.cells.bytes bytes c.self.inside.left c.zeros_to-self-inside.result c.args.at
    c.put_picked.ensures.bytes c.zeros_to-self-inside.ensures.same (omega (arith, room, c.requires, c.zeros_to-self-inside.ensures))
    ∙ ap (λ (ys : List ℕ). written ys c.args.at bytes) c.self.view_is
