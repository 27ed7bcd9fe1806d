use Rattle.std.proofs.Common.{◌∙◌}
use Rattle.std.proofs.lemmas.Result.{on_ok_weaker}
use Rattle.asm_model.specs.Forms.{same}
use Rattle.asm_variables.specs.LineNames.{has_noted}
use Rattle.asm_expand.proofs.PlainLemmas.{or_first}
use Rattle.asm_expand.proofs.plain.note_label.Goals as goal

pub returns-in-Some : goal.returns-in-Some
returns-in-Some c =
    on_ok_weaker c.note.result
    (λ h q. rw c.in-Some.is (h q ∙ or_first (same c.in-Some.name q) (has_noted c.args.labels.now q)))
    c.note.ensures
