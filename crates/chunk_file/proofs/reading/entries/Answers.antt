use Rattle.std.proofs.lemmas.Result.{err_from_is_err_and}
use Rattle.std.proofs.lemmas.List.{length_push, take_rest}
use Rattle.std.proofs.Common.{◌≡◌, ◌+◌, ◌*◌, arith, Ok, Err}
use Rattle.chunk_file.specs.Reading.{Gives}
use Rattle.chunk_file.specs.Chunks.{next_entry}
use Rattle.chunk_file.proofs.Loops.{goes_on, ends}
use Rattle.chunk_file.proofs.reading.entries.Goals as goal

pub returns-in_err-span : goal.returns-in_err-span
returns-in_err-span c =
    let p = err_from_is_err_and c.from_residual.result c.from_residual.ensures.1 in
    let b = c.args.b.now in
    let h : Gives (Err c.in_err-span.field-0.0) (next_entry b c.loop-i.spans.items) = rw (c.loop-i.invariant.many, ← c.requires.count, ← take_rest b (12 + 16 * c.loop-i.i)) c.in_err-span.ensures in
    rw (p.1, p.2) (ends c.in_err-span.field-0.0 (next_entry b) c.loop-i.spans.items c.args.count c.loop-i.i _ c.loop-i-test.true h c.loop-i.invariant.so_far)

pub loop-i-preserved : goal.loop-i-preserved
loop-i-preserved c =
    let b = c.args.b.now in
    let h : next_entry b c.loop-i.spans.items ≡ Ok c.in_ok-span.span = rw (c.loop-i.invariant.many, ← c.requires.count, ← take_rest b (12 + 16 * c.loop-i.i)) c.in_ok-span.ensures in
    let pushed = c.in_ok-push.ensures.items in
    record {
      so_far = rw pushed (goes_on (next_entry b) c.loop-i.spans.items c.args.count c.loop-i.i c.in_ok-span.span _ c.loop-i-test.true h c.loop-i.invariant.so_far);
      many = rw pushed (omega (arith, length_push c.loop-i.spans.items c.in_ok-span.span, c.loop-i.invariant.many));
    }
