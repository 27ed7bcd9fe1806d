use Rattle.std.proofs.Common.{◌≡◌, ◌+◌, ◌-◌, length, take, drop, ap, arith}
use Rattle.std.proofs.lemmas.Grind.{common_steps}
use Rattle.scatter_text.specs.Parts.{line_count, parts_of}
use Rattle.scatter_text.specs.Reading.{read, beginning}
use Rattle.scatter_text.proofs.ReadLemmas.{Stands, at_next, at_stop}
use Rattle.scatter_text.proofs.reading.description.Goals as goal

pub returns-in-Err : goal.returns-in-Err
returns-in-Err c =
    let stands : Stands c.parts.depth c.behind_gap-at.result.0 c.parts.line c.parts.rest.now (take c.part_len-len.result c.behind_gap-at.result.1.now) (drop c.part_len-len.result c.behind_gap-at.result.1.now) c.in-Some.first.now = record {
      begun = c.behind_gap-at.result.1.now;
      back = c.in-Some.field-0-1.now;
      gap = c.behind_gap-at.ensures.parts c.parts.depth;
      front = c.in-Some.ensures.cases.0;
      begins = c.behind_gap-at.ensures.begun;
      part_is = ap (λ n. take n c.behind_gap-at.result.1.now) c.part_len-len.ensures.value;
      after_is = ap (λ n. drop n c.behind_gap-at.result.1.now) c.part_len-len.ensures.value;
    } in
    rw c.stopped.ensures
    (at_stop (line_count c.args.text.now + 1) c.parts.depth c.behind_gap-at.result.0 c.parts.line c.parts.rest.now
    (take c.part_len-len.result c.behind_gap-at.result.1.now) (drop c.part_len-len.result c.behind_gap-at.result.1.now) c.in-Some.first.now
    c.parts.reader c.step.new.self (read (line_count c.args.text.now + 1) beginning (parts_of c.args.text.now)) c.in-Err.stop
    stands c.in-Err.ensures c.parts.invariant.same)

pub parts-smaller : goal.parts-smaller
parts-smaller c =
    let some = c.part_len-len.ensures.some (omega (arith, c.in-Some.ensures.cases.1)) in
    grind (arith, common_steps, some, c.behind_gap-at.ensures.shorter, c.part_len-len.ensures.within)

pub parts-preserved : goal.parts-preserved
parts-preserved c =
    let begun = c.behind_gap-at.result.1.now in
    let after : take (length begun - c.part_len-len.result) (drop c.part_len-len.result begun) ≡ drop c.part_len-len.result begun = grind (arith, common_steps) in
    let stands : Stands c.parts.depth c.behind_gap-at.result.0 c.parts.line c.parts.rest.now (take c.part_len-len.result begun) (drop c.part_len-len.result begun) c.in-Some.first.now = record {
      begun = begun;
      back = c.in-Some.field-0-1.now;
      gap = c.behind_gap-at.ensures.parts c.parts.depth;
      front = c.in-Some.ensures.cases.0;
      begins = c.behind_gap-at.ensures.begun;
      part_is = ap (λ n. take n begun) c.part_len-len.ensures.value;
      after_is = ap (λ n. drop n begun) c.part_len-len.ensures.value;
    } in
    record {
      same = rw (after, c.opened-depth.ensures)
          (at_next (line_count c.args.text.now + 1) c.parts.depth c.behind_gap-at.result.0 c.parts.line c.parts.rest.now
          (take c.part_len-len.result begun) (drop c.part_len-len.result begun) c.in-Some.first.now
          c.parts.reader c.step.new.self (read (line_count c.args.text.now + 1) beginning (parts_of c.args.text.now))
          stands c.in_default-step.ensures c.parts.invariant.same);
      lines = rw after (grind (arith, common_steps, c.behind_gap-at.ensures.lines, c.parts.invariant.lines));
    }
