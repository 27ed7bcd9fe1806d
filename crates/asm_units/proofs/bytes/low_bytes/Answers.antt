use Rattle.std.proofs.Common.{◌∙◌, ap, arith, ℕ, List, ◌++◌, ◌-◌, ◌+◌, ◌/◌}
use Rattle.sdt_word.specs.Bytes.{bytes_of}
use Rattle.asm_units.proofs.ByteLemmas.{byte_taken, all_taken}
use Rattle.asm_units.proofs.bytes.low_bytes.Goals as goal

pub loop-at-preserved : goal.loop-at-preserved
loop-at-preserved c =
    let at = c.loop-at._at in
    let left = c.loop-at.left in
    let rest = bytes_of (left / 256) (c.args.width - (at + 1)) in (
      omega (arith, c.loop-at-test.true),
      ap (λ (bs : List ℕ). bs ++ rest) c.in_ok-push.ensures.items ∙ byte_taken c.loop-at.bytes.items left c.args.width at c.loop-at-test.true
          ∙ c.loop-at.invariant.1,
    )

pub returns : goal.returns
returns c =
    c.from_vec.ensures
    ∙ all_taken c.loop-at.bytes.items c.loop-at.left c.args.width c.loop-at._at c.args.number (omega (arith, c.loop-at-test.false)) c.loop-at.invariant.1
