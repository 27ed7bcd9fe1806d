use Rattle.std.proofs.Common.{◌≡◌, ◌/◌, ◌%◌, ℕ, Some, None, ◌∙◌, sym, ap, get_or, arith}
use Rattle.arm7_bus.specs.Paging.{frame_of, byte_of, memory_in}
use Rattle.arm7_bus.proofs.pages.Pages.peek.Goals as goal

pub read_byte-requires : goal.read_byte-requires
read_byte-requires c =
    let is : frame_of c.args.self.now.table (c.args.a / 4096) ≡ Some c.in-Some.frame =
    sym c.lookup.ensures ∙ c.in-Some.is in
    let below = c.args.self.now.paging.below (c.args.a / 4096) c.in-Some.frame is in
    omega arith

pub returns-in-Some : goal.returns-in-Some
unfolding memory_in
returns-in-Some c =
    let is : frame_of c.args.self.now.table (c.args.a / 4096) ≡ Some c.in-Some.frame =
    sym c.lookup.ensures ∙ c.in-Some.is in
    c.read_byte.ensures
    ∙ ap (λ (k : ℕ). get_or c.args.self.now.frames k 0) (omega arith)
    ∙ ap (byte_of c.args.self.now.frames (c.args.a % 4096)) (sym is)

pub returns-in-None : goal.returns-in-None
unfolding memory_in
returns-in-None c =
    let is : frame_of c.args.self.now.table (c.args.a / 4096) ≡ None =
    sym c.lookup.ensures ∙ c.in-None.is in
    ap (byte_of c.args.self.now.frames (c.args.a % 4096)) (sym is)
