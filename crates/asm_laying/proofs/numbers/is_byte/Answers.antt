use Rattle.std.proofs.Common.{sym, ap, arith}
use Rattle.std.specs.Prelude.{nat_lt}
use Rattle.asm_laying.proofs.NumberLemmas.{rotated_far}
use Rattle.asm_laying.proofs.numbers.is_byte.Goals as goal

pub returns : goal.returns
returns c =
    let range = c.ranges.number.fits in
    ap (λ n. nat_lt n 256) (sym (rotated_far c.args.number c.args.places (omega (arith, range)) c.if-places-lt32.false))
