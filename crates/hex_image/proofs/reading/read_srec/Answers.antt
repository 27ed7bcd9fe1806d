use Rattle.hex_image.specs.declared.records.Form.TheVariants.{Srec}
use Rattle.hex_image.proofs.ReadLemmas.{answer_found, answer_only}
use Rattle.hex_image.proofs.reading.read_srec.Goals as goal

pub returns-clause-found : goal.returns-clause-found
returns-clause-found c = answer_found Srec c.args.b.now c.read.result c.read.ensures

pub returns-clause-only : goal.returns-clause-only
returns-clause-only c = answer_only Srec c.args.b.now c.read.result c.read.ensures
