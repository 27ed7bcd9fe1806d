use Rattle.std.proofs.Common.{ℕ, ◌-◌, ◌*◌, ◌%◌, ap, ◌∙◌}
use Rattle.sdt_word.specs.Numbers.{rotated}
use Rattle.arm_encode.proofs.OperandLemmas.{found-least, none-more}
use Rattle.arm_encode.proofs.operands.immediate.Goals as goal

pub returns-then-byte-lt256 : goal.returns-then-byte-lt256
returns-then-byte-lt256 c =
    let turned = c.rotate-byte.ensures ∙ ap (λ (r : ℕ). rotated c.args.v ((32 - 2 * r) % 32)) c.from.ensures in
    found-least c.args.v c.loop-r.r c.rotate-byte.result c.ranges.v.fits c.loop-r-test.true turned c.if-byte-lt256.true c.loop-r.invariant

pub loop-r-preserved : goal.loop-r-preserved
loop-r-preserved c =
    let turned = c.rotate-byte.ensures ∙ ap (λ (r : ℕ). rotated c.args.v ((32 - 2 * r) % 32)) c.from.ensures in
    none-more c.args.v c.loop-r.r c.rotate-byte.result c.ranges.v.fits c.loop-r-test.true turned c.if-byte-lt256.false c.loop-r.invariant
