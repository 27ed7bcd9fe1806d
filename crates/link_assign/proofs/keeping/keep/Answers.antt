use Rattle.link_assign.proofs.KeepingLemmas.{kept_more}
use Rattle.link_assign.proofs.keeping.keep.Goals as goal

pub returns-in_ok-push-in-Within-clause-kept : goal.returns-in_ok-push-in-Within-clause-kept
returns-in_ok-push-in-Within-clause-kept c = λ offers h r. kept_more r _ c.in-Within.pick c.args.item.now _ _ (let is = c.in-Within.is in let e = c.best_of.ensures offers h in cc) (let e = c.in_ok-push-in-Within.ensures.items in cc)
