use Rattle.aif_image.proofs.CheckLaws.{found, only, first_failed}
use Rattle.aif_image.proofs.reading.read_aif.Goals as goal

pub returns-clause-found : goal.returns-clause-found
returns-clause-found c = found c.args.bytes.now c.aif.result c.aif.ensures

pub returns-clause-only : goal.returns-clause-only
returns-clause-only c = only c.args.bytes.now c.aif.result c.aif.ensures

pub returns-clause-first_failed : goal.returns-clause-first_failed
returns-clause-first_failed c = first_failed c.args.bytes.now c.aif.result c.aif.ensures
