use Rattle.alf_archive.proofs.SpellingLoops.{four}
use Rattle.alf_archive.proofs.writing.push_entry.Goals as goal

pub returns : goal.returns
returns c =
    four c.args.out.now.items c.push_number.new.out.items c.push_number-2.new.out.items c.push_number-3.new.out.items _ _ _ _ _
    c.in_ok-push_number.ensures c.in_ok-push_number-2.ensures c.in_ok-push_number-3.ensures c.in_ok-extend_from_slice.ensures.items
