use Rattle.std.proofs.Common.{arith}
use Rattle.std.specs.Str.Parse.{digits_value}
use Rattle.byte_tools.proofs.Growing.{not_given, too_large}
use Rattle.byte_tools.proofs.digits.digits_value.Goals as goal

pub returns-then-longer-from-clause-value : goal.returns-then-longer-from-clause-value
returns-then-longer-from-clause-value c =
    not_given c.args.most (digits_value c.args.base c.args.digits.now)
    (too_large c.args.base c.loop-byte.value c.loop-byte.byte-index c.args.most c.args.digits.now (omega arith) (omega arith) (rw (← c.digit_value.ensures, ← c.from-in-loop-byte-2.ensures, ← c.from.ensures, ← c.from-in-loop-byte.ensures, ← c.from-in-loop-byte-3.ensures) (omega arith)) c.loop-byte.invariant.1)
