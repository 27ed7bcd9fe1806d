use Rattle.std.proofs.Common.{◌≡◌, ℕ, ◌/◌, ◌%◌, ◌+◌, ◌*◌, ◌∙◌, ap, subst, is_some, arith}
use Rattle.sdt_word.specs.Bytes.{written}
use Rattle.sdt_word.specs.Numbers.{registers}
use Rattle.arm7_bus.specs.Paging.{IsPaging, memory_in}
use Rattle.arm7_bus.specs.Picks.{picked_bytes}
use Rattle.arm7_bus.proofs.PagingLemmas.{put-memory, put-paging, used_at}
use Rattle.arm7_bus.proofs.PickLemmas.{picked_length}
use Rattle.arm7_bus.proofs.pages.Pages.put_picked_from.Goals as goal

pub invariant_of-self : goal.invariant_of-self
invariant_of-self c =
    let bs = picked_bytes c.args.words.now (registers 16 c.args.list) in
    let size = picked_length c.args.words.now (registers 16 c.args.list) in
    let within = c.requires.within in
    let same = c.requires.place in
    let place : c.args.at / 4096 * 4096 + c.args._a % 4096 ≡ c.args.at = omega arith in
    let put = put-paging c.args.self.now.table c.args.self.now.frames c.args.self.now.used c.args.self.now.room (c.args.at / 4096) c.args._a bs c.args.self.now.paging c.requires.frame (omega arith) in
    record {
      paging = rw c.write_picked.ensures (subst (λ (i : ℕ). IsPaging c.args.self.now.table (written c.args.self.now.frames i bs) c.args.self.now.used c.args.self.now.room) place put);
    }

pub returns-clause-memory : goal.returns-clause-memory
returns-clause-memory c =
    let bs = picked_bytes c.args.words.now (registers 16 c.args.list) in
    let size = picked_length c.args.words.now (registers 16 c.args.list) in
    let within = c.requires.within in
    let same = c.requires.place in
    let place : c.args.at ≡ c.args.at / 4096 * 4096 + c.args._a % 4096 = omega arith in
    let put = put-memory c.args.self.now.table c.args.self.now.frames c.args.self.now.used c.args.self.now.room (c.args.at / 4096) c.args._a bs c.args.self.now.paging c.requires.frame (omega arith) in
    rw c.write_picked.ensures (ap (λ (i : ℕ). memory_in c.args.self.now.table (written c.args.self.now.frames i bs)) place ∙ put)

pub returns-clause-used : goal.returns-clause-used
returns-clause-used c = used_at c.args.self.now.table (c.args._a / 4096) ∙ ap is_some c.requires.frame
