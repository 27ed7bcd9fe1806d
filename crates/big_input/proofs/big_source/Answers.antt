use Rattle.big_input.proofs.SourceLemmas.{in_parts}
use Rattle.big_input.proofs.big_source.Goals as goal

pub returns : goal.returns
returns c =
    in_parts c.args.n _ _ _ _ _ _ _ c.new-out.ensures.items c.in_ok-push.ensures c.in_ok-push_steps.ensures c.in_ok-push-2.ensures c.in_ok-push_data.ensures
    c.in_ok-push-3.ensures c.from_vec.ensures
