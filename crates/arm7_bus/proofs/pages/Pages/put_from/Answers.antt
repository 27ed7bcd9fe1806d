use Rattle.std.proofs.Common.{◌≡◌, ℕ, ◌/◌, ◌%◌, ◌+◌, ◌*◌, ◌∙◌, ap, sym, arith}
use Rattle.sdt_word.specs.Bytes.{bytes_of, written}
use Rattle.sdt_word.specs.Codes.{bytes_in}
use Rattle.sdt_word.proofs.BytesLemmas.{length-bytes_of}
use Rattle.arm7_bus.specs.Paging.{memory_in}
use Rattle.arm7_bus.proofs.PagingLemmas.{in_page, put-memory, used_still}
use Rattle.arm7_bus.proofs.pages.Pages.put_from.Goals as goal

pub returns-clause-memory : goal.returns-clause-memory
returns-clause-memory c =
    let bs = bytes_of c.args.v (bytes_in c.args.width) in
    let count = length-bytes_of c.args.v (bytes_in c.args.width) in
    let page = in_page c.args.width c.args._a c.requires.aligned in
    let same = c.requires.place in
    let place : c.args.at ≡ c.args.at / 4096 * 4096 + c.args._a % 4096 = omega arith in
    let put = put-memory c.args.self.now.table c.args.self.now.frames c.args.self.now.used c.args.self.now.room (c.args.at / 4096) c.args._a bs c.args.self.now.paging c.requires.frame (omega arith) in
    rw c.write.ensures (ap (λ (i : ℕ). memory_in c.args.self.now.table (written c.args.self.now.frames i bs)) place ∙ put)

pub returns-clause-used : goal.returns-clause-used
returns-clause-used c = sym (used_still c.args.self.now.table (c.args._a / 4096) (c.args.at / 4096) c.requires.frame)
