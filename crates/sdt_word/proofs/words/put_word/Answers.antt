use Rattle.std.proofs.Common.{refl, ap, ◌∙◌, ◌++◌, ◌-◌, length, drop}
use Rattle.sdt_word.specs.Bytes.{bytes_of}
use Rattle.sdt_word.proofs.BytesLemmas.{little_bytes-bytes_of, put_mid-written}
use borrow.Rule.Slice.PartMut.{mid_of, put_mid}
use Rattle.sdt_word.proofs.words.put_word.Goals as goal

pub returns : goal.returns
returns c =
    let b = c.args.b.now in
    let at = c.args.at in
    let bytes = ap (λ bs. put_mid at (length b - at) b (bs ++ drop 4 (mid_of at (length b - at) b))) (little_bytes-bytes_of 4 c.args.v) in
    ap (put_mid at (length b - at) b) c.write_u32.ensures ∙ bytes ∙ put_mid-written b (bytes_of c.args.v 4) at 4 refl
