use Rattle.hex_image.specs.declared.records.Form.TheVariants.{Ihex}
use Rattle.hex_image.proofs.ReadLemmas.{answer_found, answer_only}
use Rattle.hex_image.proofs.reading.read_ihex.Goals as goal

pub returns-clause-found : goal.returns-clause-found
returns-clause-found c = answer_found Ihex c.args.b.now c.read.result c.read.ensures

pub returns-clause-only : goal.returns-clause-only
returns-clause-only c = answer_only Ihex c.args.b.now c.read.result c.read.ensures
