use Rattle.std.proofs.Common.{ℕ, drop}
use Rattle.link_model.specs.Members.{link_of}
use Rattle.link_shifts.specs.Changes.{change_by, change_in, Leaves}
use Rattle.link_values.specs.Shifts.{names_moving}
use Rattle.link_shifts.proofs.changes.note_relocs.Given as goal

abbrev pub invariant-loop-reloc : goal.invariant-loop-reloc
invariant-loop-reloc l =
    let moving = names_moving (link_of l.image.linked.now) l.image.placement.now l.object in
    (x : ℕ) → Leaves (change_in l.initial.changes x) (change_by moving l.address x l.relocs) (change_in l.changes x) (change_by moving l.address x (drop l.reloc-index l.relocs))
