use Rattle.std.proofs.Common.{◌∙◌}
use Rattle.sdt_toolkit.proofs.BigAnswer.{words_are}
use Rattle.sdt_toolkit.proofs.big_image.linked.Goals as goal

pub returns-in-Ok-clause-words : goal.returns-in-Ok-clause-words
returns-in-Ok-clause-words c = c.first_words-words.ensures ∙ rw (c.as_slice.ensures, c.in_ok-parts.ensures.object) (words_are c.args.count)
