use Rattle.armasm_core.proofs.FaultLemmas.{makes}
use Rattle.armasm_core.proofs.ListLemmas.{few_behind}
use Rattle.armasm_core.specs.Assembling.{said_by}
use Rattle.armasm_core.proofs.assembling.object_of.Goals as goal

pub emit-requires : goal.emit-requires
emit-requires c =
    let fit = c.requires.fit in
    let sound = c.in_ok-layout.ensures.1 in
    record {
      source = record {
        statements = said_by c.args.reading;
        layout = sound.layout;
        said = fit.said;
        texts = fit.texts;
        fit = fit.fit;
        sound = sound.none;
        states = c.sources_keep_states.ensures (said_by c.args.reading) fit.states;
        few = few_behind c.args.reading.statements.items c.requires.few;
      };
    }

pub returns-clause-made : goal.returns-clause-made
returns-clause-made c =
    let fit = c.requires.fit in
    let sound = c.in_ok-layout.ensures.1 in
    makes c.args.source.now c.args.flats.now c.args.reading c.emit.result c.in_ok-layout.ensures.0
    (c.emit.ensures.emitted (said_by c.args.reading) sound.layout fit.said sound.none (c.sources_keep_states.ensures (said_by c.args.reading) fit.states))
