use Rattle.bin_image.proofs.MapLaws.{found, only, wrong}
use Rattle.bin_image.proofs.reading.read_map.Goals as goal

pub returns-clause-found : goal.returns-clause-found
returns-clause-found c = found c.args.b.now c.map.result c.map.ensures

pub returns-clause-only : goal.returns-clause-only
returns-clause-only c = only c.args.b.now c.map.result c.map.ensures

pub returns-clause-first_wrong : goal.returns-clause-first_wrong
returns-clause-first_wrong c = wrong c.args.b.now c.map.result c.map.ensures
