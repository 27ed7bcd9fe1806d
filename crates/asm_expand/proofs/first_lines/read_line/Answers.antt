use Rattle.std.proofs.lemmas.Result.{IfOk-weaker}
use Rattle.asm_expand.proofs.first_lines.read_line.Goals as goal

pub returns-clause-says : goal.returns-clause-says
returns-clause-says c =
    let stays = rw c.as_slice.ensures at (c.has_dollar.ensures.stays c.if-has_dollar.false) in
    IfOk-weaker c.read_text.result _ _
    (λ n h sources s l ls a r. rw (stays s) (h sources s l ls a r))
    c.read_text.ensures.says
