use Rattle.std.proofs.Common.{◌≡◌, ◌+◌, length, arith}
use Rattle.std.specs.BTreeMap.{get}
use Rattle.std.specs.Ordering.{nat_cmp}
use Rattle.std.proofs.lemmas.Grind.{common_steps}
use Rattle.hex_image.specs.Images.{end_of}
use Rattle.hex_image.proofs.PieceLemmas.{more_entries, one_more}
use Rattle.hex_image.proofs.pieces.Pieces.add.Goals as goal

pub returns-clause-ends : goal.returns-clause-ends
returns-clause-ends c =
    let base : c.from-base.result ≡ c.args.piece.base = grind (arith, common_steps) in
    let end : c.from-base.result + length c.as_slice.result.now ≡ end_of c.args.piece = grind (arith, common_steps) in
    let more = more_entries c.args.piece c.args.self.now.ends c.insert.new.self _ _ base end c.in_ok-insert.ensures.updates in
    rw c.in_ok-push.ensures.items (one_more c.args.self.now.pieces.items c.args.piece (λ k. get nat_cmp c.args.self.now.ends k) (λ k. get nat_cmp c.insert.new.self k) c.requires.ends c.requires.some c.requires.apart more)
