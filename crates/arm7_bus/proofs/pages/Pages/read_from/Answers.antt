use Rattle.std.proofs.Common.{◌≡◌, ℕ, ◌/◌, ◌%◌, ◌+◌, ◌*◌, ◌∙◌, take, drop, ap, sym, arith}
use Rattle.sdt_word.specs.Bytes.{number_of}
use Rattle.sdt_word.specs.Codes.{bytes_in}
use Rattle.arm7_bus.proofs.PagingLemmas.{in_page, load_frame}
use Rattle.arm7_bus.proofs.pages.Pages.read_from.Goals as goal

pub returns : goal.returns
returns c =
    let below = c.args.self.now.paging.below (c.args._a / 4096) (c.args.at / 4096) c.requires.frame in
    let inside = in_page c.args.width c.args._a c.requires.aligned in
    let same = c.requires.place in
    let place : c.args.at ≡ c.args.at / 4096 * 4096 + c.args._a % 4096 = omega arith in
    let loads = load_frame c.args.self.now.table c.args.self.now.frames c.args._a (bytes_in c.args.width) (c.args.at / 4096) inside c.requires.frame (omega arith) in
    c.read.ensures ∙ ap number_of (ap (λ (i : ℕ). take (bytes_in c.args.width) (drop i c.args.self.now.frames)) place ∙ sym loads)
