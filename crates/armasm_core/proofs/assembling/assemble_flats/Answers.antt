use Rattle.armasm_core.proofs.AssembleLemmas.{flats_give}
use Rattle.armasm_core.proofs.assembling.assemble_flats.Goals as goal

pub object_of-requires-clause-fit : goal.object_of-requires-clause-fit
object_of-requires-clause-fit c = c.readings_are_fit.ensures c.args.flats.now c.in_ok-reading.reading c.in_ok-reading.ensures.reads

pub returns-clause-made : goal.returns-clause-made
returns-clause-made c =
    flats_give c.args.source.now c.args.flats.now c.in_ok-reading.reading c.object_of.result c.in_ok-reading.ensures.reads c.object_of.ensures.made
