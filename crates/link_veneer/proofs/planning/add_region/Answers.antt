use Rattle.std.proofs.Common.{arith}
use Rattle.std.proofs.lemmas.Grind.{common_steps}
use Rattle.link_model.specs.Members.{link_of}
use Rattle.link_veneer.proofs.PlanLemmas.{all_named}
use Rattle.link_veneer.proofs.planning.add_region.Goals as goal

pub returns : goal.returns
returns c = grind (arith, common_steps, all_named (link_of c.args.linked.now) c.args.region c.args.needs.now.keys c.args.names.now)
