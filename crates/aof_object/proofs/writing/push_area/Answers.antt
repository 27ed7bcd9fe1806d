use Rattle.std.proofs.Common.{◌∙◌, ap, ◌++◌, ℕ}
use Rattle.std.proofs.lemmas.Result.{on_ok_weaker}
use Rattle.aof_object.specs.Spelling.{area_row_at}
use Rattle.aof_object.proofs.writing.push_area.Goals as goal

pub returns : goal.returns
returns c =
    on_ok_weaker c.push_area_at.result (λ e ns t. e ∙ ap (λ (p : ℕ). c.args.out.now.items ++ area_row_at p c.args.area.now) (c.place_of-at.ensures ns t)) c.push_area_at.ensures
