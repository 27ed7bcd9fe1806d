use Rattle.std.proofs.Common.{ℕ, List, ◌+◌, ◌++◌, drop, get_or, sym, ap, ◌∙◌, append_assoc}
use Rattle.std.proofs.lemmas.List.{drop_more}
use Rattle.sdt_word.specs.Bytes.{bytes_of}
use Rattle.boot_code.specs.Maps.{bytes_of_words}
use Rattle.link_apply.proofs.startup.push_words.Goals as goal

pub loop-word-preserved : goal.loop-word-preserved
loop-word-preserved c =
    let i = c.loop-word.word-index in
    let old = c.loop-word.bytes.items in
    let rest = bytes_of_words (drop (i + 1) c.args.words.now) in
    ap (λ (x : List ℕ). x ++ rest) c.in_ok-push_word.ensures.ok ∙ append_assoc old (bytes_of (get_or c.args.words.now i 0) 4) rest
    ∙ ap (λ (ws : List ℕ). old ++ bytes_of_words ws) (sym (drop_more c.args.words.now i 0 c.loop-word-test.true)) ∙ c.loop-word.invariant
