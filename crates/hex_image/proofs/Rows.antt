-- The worked examples.
use Rattle.std.proofs.Common.{refl}
use Rattle.hex.proofs.OnLiterals.{hex_on_literals}
use Rattle.hex_image.specs.Examples.{WorkedExamples}

pub worked_examples : WorkedExamples
unfolding hex_on_literals
worked_examples = record {
  ihex = refl;
  srec = refl;
  ihex_read = refl;
  srec_read = refl;
  wrong_sum = refl;
  no_digit = refl;
  too_few = refl;
  unknown = refl;
  beyond = refl;
  neither_state = refl;
  twice = refl;
  behind_end = refl;
  no_end = refl;
}
