use Rattle.std.proofs.Common.{◌≡◌, ◌/◌, None, ◌∙◌, sym}
use Rattle.arm7_bus.specs.Paging.{frame_of}
use Rattle.arm7_bus.proofs.PagingLemmas.{in_page, load_none}
use Rattle.arm7_bus.proofs.pages.Pages.read.Goals as goal

pub returns-in-None : goal.returns-in-None
returns-in-None c =
    let is : frame_of c.args.self.now.table (c.args.a / 4096) ≡ None =
    sym c.lookup.ensures ∙ c.in-None.is in
    let inside = in_page c.args.width c.args.a c.requires.aligned in
    sym (load_none c.args.self.now.table c.args.self.now.frames c.args.a _ inside is)
