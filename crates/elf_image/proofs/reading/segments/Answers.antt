use Rattle.std.proofs.Common.{◌≡◌, ◌++◌, ◌<◌, ap, ◌∙◌, Ok, Err}
use Rattle.std.proofs.lemmas.Result.{err_from_is_err_and}
use Rattle.chunk_file.specs.Reading.{Gives}
use Rattle.elf_image.specs.Checks.{header_at, segments_before}
use Rattle.elf_image.specs.Reading.{segment_of, told_items}
use Rattle.elf_image.proofs.HeaderLemmas.{ends, goes_on, items}
use Rattle.elf_image.proofs.reading.segments.Goals as goal

pub returns-in_err-next : goal.returns-in_err-next
returns-in_err-next c =
    let p = err_from_is_err_and c.from_residual.result c.from_residual.ensures.1 in
    let b = c.args.bytes.now in
    let k = c.loop-number.number in
    let lt : k < c.args.count = rw (← c.from-number-end.ensures) c.loop-number-test.true in
    let h : Gives (Err c.in_err-next.field-0.0) (segment_of b (header_at b k) (segments_before b k)) = rw (← c.loop-number.invariant.items, ← c.as_slice.ensures.value, ← c.word_at-table.ensures) c.in_err-next.ensures in
    rw (p.1, p.2) (ends b k c.args.count lt (segments_before b c.args.count) c.in_err-next.field-0.0 _ h c.loop-number.invariant.so_far)

pub loop-number-preserved : goal.loop-number-preserved
loop-number-preserved c =
    let b = c.args.bytes.now in
    let k = c.loop-number.number in
    let lt : k < c.args.count = rw (← c.from-number-end.ensures) c.loop-number-test.true in
    let h : segment_of b (header_at b k) (segments_before b k) ≡ Ok c.in_ok-next.next = rw (← c.loop-number.invariant.items, ← c.as_slice.ensures.value, ← c.word_at-table.ensures) c.in_ok-next.ensures in
    let more = items b k c.args.count lt c.in_ok-next.next h in
    let pushed = c.in_ok-push_segment.ensures in
    record {
      items = pushed ∙ (ap (λ xs. xs ++ told_items c.in_ok-next.next) c.loop-number.invariant.items ∙ more);
      so_far = goes_on b k c.args.count lt (segments_before b c.args.count) c.in_ok-next.next _ h c.loop-number.invariant.so_far;
    }
