use Rattle.link_model.specs.Members.{link_of}
use Rattle.link_shifts.specs.Changes.{change_in}
use Rattle.link_values.specs.Shifts.{names_moving}
use Rattle.link_shifts.proofs.ChangeLemmas.{word_noted}
use Rattle.link_shifts.proofs.changes.note_relocs.Goals as goal

pub loop-reloc-preserved : goal.loop-reloc-preserved
loop-reloc-preserved c = λ x.
    word_noted (names_moving (link_of c.args.image.now.linked.now) c.args.image.now.placement.now c.args.object) c.args.address x c.args.relocs.now c.loop-reloc.reloc-index (record { offset = 0; word = 0 })
    (change_in c.args.changes.now x) (change_in c.loop-reloc.changes x) (change_in c.note_reloc.new.changes x) c.loop-reloc-test.true (c.in_ok-note_reloc.ensures x) (c.loop-reloc.invariant x)
