use Rattle.std.proofs.Common.{◌++◌, ◌∷◌, length, refl, ◌∙◌, arith}
use Rattle.std.proofs.lemmas.Option.{slice_get_read}
use Rattle.std.proofs.lemmas.Result.{on_ok_weaker}
use Rattle.link_apply.specs.RegionBytes.{laid}
use Rattle.link_apply.proofs.PieceLemmas.{grown_put, grown_same}
use Rattle.link_apply.proofs.laying.put_piece.Goals as goal

pub returns-then-number-len : goal.returns-then-number-len
returns-then-number-len c = λ rest. grown_same c.args.piece.now rest 0 c.args.growing.now.items (omega (arith, c.if-number-len.true, c.len.ensures))

pub returns : goal.returns
returns c =
    let gs = c.args.growing.now.items in
    let g = c.index_mut.result.now in
    let there = slice_get_read gs (length gs) c.args.piece.now.region g refl (omega (arith, c.if-number-len.false, c.len.ensures)) c.index_mut.ensures.value in
    on_ok_weaker c.put_bytes.result
    (λ puts rest. grown_put c.args.piece.now rest 0 c.args.piece.now.region gs g c.put_bytes.new.growing (omega arith) there
    (c.put_bytes.ensures.length, λ more. puts more ∙ (λ i. g.bytes.items ++ laid g.at ((c.args.piece.now.address, c.as_slice.ensures i) ∷ more))))
    c.put_bytes.ensures.bytes
