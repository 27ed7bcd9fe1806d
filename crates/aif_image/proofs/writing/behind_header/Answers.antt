use Rattle.std.proofs.Common.{sym, arith}
use Rattle.std.proofs.lemmas.List.{drop_all, length-drop, take_all}
use Rattle.aif_image.proofs.writing.behind_header.Goals as goal

pub returns-then-bytes-lt128 : goal.returns-then-bytes-lt128
returns-then-bytes-lt128 c = sym (drop_all 0x80 c.args.bytes.now (omega (arith, c.if-bytes-lt128.true)))

pub returns : goal.returns
returns c = take_all _ _ (omega (arith, length-drop 0x80 c.args.bytes.now))
