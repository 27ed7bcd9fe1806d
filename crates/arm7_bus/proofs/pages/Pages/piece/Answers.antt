use Rattle.std.proofs.Common.{◌≡◌, ◌/◌, ◌%◌, ◌+◌, ◌*◌, ℕ, Some, None, ◌∙◌, sym, ap, get_or, arith, length, take, drop}
use Rattle.arm7_bus.specs.Paging.{frame_of, byte_of, memory_in}
use Rattle.arm7_bus.proofs.PagingLemmas.{load_frame}
use Rattle.arm7_bus.proofs.pages.Pages.piece.Goals as goal

pub rest-requires : goal.rest-requires
rest-requires c =
    let is : frame_of c.args.self.now.table (c.args.a / 4096) ≡ Some c.in-Some.frame =
    sym c.lookup.ensures ∙ c.in-Some.is in
    let below = c.args.self.now.paging.below (c.args.a / 4096) c.in-Some.frame is in
    omega arith

pub returns-in-Some-clause-bytes : goal.returns-in-Some-clause-bytes
returns-in-Some-clause-bytes c =
    let is : frame_of c.args.self.now.table (c.args.a / 4096) ≡ Some c.in-Some.frame =
    sym c.lookup.ensures ∙ c.in-Some.is in
    let below = c.args.self.now.paging.below (c.args.a / 4096) c.in-Some.frame is in
    let frame = c.place_in.ensures.frame in
    let offset = c.place_in.ensures.place in
    let place : c.place_in.result ≡ c.in-Some.frame * 4096 + c.args.a % 4096 = omega arith in
    c.rest.ensures.bytes
    ∙ ap (λ (i : ℕ). take (length c.rest.result.now) (drop i c.args.self.now.frames)) place
    ∙ sym (load_frame c.args.self.now.table c.args.self.now.frames c.args.a (length c.rest.result.now) c.in-Some.frame (let w = c.rest.ensures.within in omega arith) is (omega arith))

pub returns-in-Some-clause-some : goal.returns-in-Some-clause-some
unfolding memory_in
returns-in-Some-clause-some c = λ none.
    let is : frame_of c.args.self.now.table (c.args.a / 4096) ≡ Some c.in-Some.frame =
    sym c.lookup.ensures ∙ c.in-Some.is in
    let frame = c.place_in.ensures.frame in
    let offset = c.place_in.ensures.place in
    ap (byte_of c.args.self.now.frames (c.args.a % 4096)) is ∙ ap (λ (k : ℕ). get_or c.args.self.now.frames k 0) (omega arith) ∙ c.rest.ensures.some none

pub returns-in-None-clause-some : goal.returns-in-None-clause-some
unfolding memory_in
returns-in-None-clause-some c = λ none.
    let is : frame_of c.args.self.now.table (c.args.a / 4096) ≡ None =
    sym c.lookup.ensures ∙ c.in-None.is in
    ap (byte_of c.args.self.now.frames (c.args.a % 4096)) is
