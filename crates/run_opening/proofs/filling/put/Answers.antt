use Rattle.run_opening.proofs.PutLemmas.{put}
use Rattle.run_opening.proofs.filling.put.Goals as goal

pub returns : goal.returns
returns g c = put _ _ _ c.args.a c.args.w c.args.v c.requires.open c.requires.usable c.requires.aligned c.write-stored.ensures.after c.forget_stores.ensures
