use Rattle.std.proofs.Common.{arith}
use Rattle.run_opening.proofs.PutLemmas.{put_word}
use Rattle.run_opening.proofs.filling.put_next.Goals as goal

pub returns-then-takes_word-clause-after : goal.returns-then-takes_word-clause-after
returns-then-takes_word-clause-after g c =
    let left = c.takes_word.ensures c.if-takes_word.true in
    put_word _ _ _ c.args.i c.word_at.result c.args.bytes.now (let more = left.1 in let few = c.requires.left in omega (arith, more)) (λ k. let f = c.type_inv.bytes k in omega arith) c.word_at.ensures c.put.ensures
