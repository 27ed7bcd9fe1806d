use Rattle.std.proofs.Common.{sym, ap, ◌∙◌, cond, true, Bool}
use Rattle.std.specs.List.{list_any}
use Rattle.link_report.specs.Keys.{same_key}
use Rattle.link_report.proofs.EqualLemmas.{has_same, key_eq, key_same}
use Rattle.link_report.proofs.selections.insert.Goals as goal

pub returns : goal.returns
returns c = λ q.
    sym (has_same c.insert.new.self q)
    ∙ (c.in_ok-insert.ensures.updates.0 q
    ∙ (ap (λ (b : Bool). cond b true (list_any (key_eq q) c.args.keys.now.keys)) (key_same c.args.key q)
    ∙ ap (λ (b : Bool). cond (same_key c.args.key q) true b) (has_same c.args.keys.now q)))
