use Rattle.std.proofs.Common.{◌≡◌, ◌/◌, ◌%◌, ◌+◌, ◌*◌, ℕ, ◌∙◌, sym, ap, arith, take, drop}
use Rattle.std.proofs.lemmas.Option.{IfSome_then}
use Rattle.arm7_bus.proofs.PagingLemmas.{load_frame}
use Rattle.arm7_bus.proofs.pages.Pages.part_from.Goals as goal

pub returns : goal.returns
returns c =
    let below = c.args.self.now.paging.below (c.args._a / 4096) (c.args.at / 4096) c.requires.frame in
    let inside = c.requires.within in
    let same = c.requires.place in
    let place : c.args.at ≡ c.args.at / 4096 * 4096 + c.args._a % 4096 = omega arith in
    let loads = load_frame c.args.self.now.table c.args.self.now.frames c.args._a c.args.n (c.args.at / 4096) inside c.requires.frame (omega arith) in
    IfSome_then c.part.result c.part.ensures (λ part e. e ∙ ap (λ (i : ℕ). take c.args.n (drop i c.args.self.now.frames)) place ∙ sym loads)
