use Rattle.std.proofs.Common.{◌≡◌, ℕ, ◌+◌, ◌-◌, ◌<◌, arith, refl}
use Rattle.link_values.specs.Shifts.{names_moving}
use Rattle.link_model.specs.Members.{link_of}
use Rattle.link_shifts.proofs.FieldLemmas.{noted}
use Rattle.link_shifts.proofs.balances.balances_of.Goals as goal

same : (i : ℕ) → 0 < i → i - 1 + 1 ≡ i
same i h = omega (arith, h)

pub loop-i-preserved : goal.loop-i-preserved
loop-i-preserved c =
    let moving = names_moving (link_of c.args.image.now.linked.now) c.args.image.now.placement.now c.args.object in
    noted moving c.args.relocs.now (c.loop-i.i - 1) _ (record { offset = 0; word = 0 }) c.loop-i.balances c.note.new.balances (omega arith) refl (rw (same c.loop-i.i (omega arith)) c.loop-i.invariant) c.in_ok-note.ensures
