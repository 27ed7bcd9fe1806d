use Rattle.std.proofs.Common.{◌≡◌, ◌+◌, ◌-◌, arith, take, drop, Ok, Err}
use Rattle.std.proofs.lemmas.Result.{err_from_is_err_and}
use Rattle.chunk_file.specs.Reading.{Gives}
use Rattle.alf_archive.specs.Archives.{with_entry}
use Rattle.alf_archive.proofs.MemberLoop.{slot_fails, entry_fails, goes_on, is_done, adds_fails}
use Rattle.alf_archive.proofs.reading.read_members.Goals as goal

pub returns-in_err-slot : goal.returns-in_err-slot
returns-in_err-slot c =
    let p = err_from_is_err_and c.from_residual.result c.from_residual.ensures.1 in
    rw (p.1, p.2) (slot_fails c.args.b.now c.args.spans.now c.args.start c.args.dir.now c.loop-at.at c.loop-at.members.items _ c.in_err-slot.field-0.0 c.loop-at-test.true c.loop-at.invariant.left c.in_err-slot.ensures.exact)

pub returns-in_err-add_entry : goal.returns-in_err-add_entry
returns-in_err-add_entry c =
    let p = err_from_is_err_and c.from_residual-in_err-add_entry.result c.from_residual-in_err-add_entry.ensures.1 in
    let s = c.in_ok-slot.slot in
    let size : (c.loop-at.at + 12 + s.size) - (c.loop-at.at + 12) ≡ s.size = omega arith in
    let e = c.in_err-add_entry.field-0.0 in
    let text = take ((c.loop-at.at + 12 + s.size) - (c.loop-at.at + 12)) (drop (c.loop-at.at + 12) c.args.dir.now) in
    let raw : Gives (Err e) (with_entry c.args.b.now c.args.spans.now (c.args.start + c.loop-at.at) text c.loop-at.members.items s) =
    adds_fails e c.add_entry.new.members.items _ c.in_err-add_entry.ensures.exact in
    let h = rw size at raw in
    rw (p.1, p.2) (entry_fails c.args.b.now c.args.spans.now c.args.start c.args.dir.now c.loop-at.at c.loop-at.members.items _ e s c.loop-at-test.true c.loop-at.invariant.left c.in_ok-slot.ensures.exact h)

pub loop-at-preserved : goal.loop-at-preserved
loop-at-preserved c =
    let s = c.in_ok-slot.slot in
    let size : (c.loop-at.at + 12 + s.size) - (c.loop-at.at + 12) ≡ s.size = omega arith in
    let after = c.add_entry.new.members.items in
    let h : with_entry c.args.b.now c.args.spans.now (c.args.start + c.loop-at.at) (take s.size (drop (c.loop-at.at + 12) c.args.dir.now)) c.loop-at.members.items s ≡ Ok after = rw size at c.in_ok-add_entry.ensures.exact in
    let fits = c.in_ok-slot.ensures.fits.0 in
    record {
      left = goes_on c.args.b.now c.args.spans.now c.args.start c.args.dir.now c.loop-at.at c.loop-at.members.items _ s after c.loop-at-test.true c.loop-at.invariant.left c.in_ok-slot.ensures.exact (omega (arith, fits)) h;
      known = c.in_ok-add_entry.ensures.known;
    }

pub returns : goal.returns
returns c = rw c.from_vec.ensures (is_done c.args.b.now c.args.spans.now c.args.start c.args.dir.now c.loop-at.at c.loop-at.members.items _ c.loop-at-test.false c.loop-at.invariant.left)
