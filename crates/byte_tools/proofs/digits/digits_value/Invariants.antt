use Rattle.std.proofs.Common.{◌≡◌, ◌≤◌, drop}
use Rattle.std.specs.Str.Parse.{digits_value, digits_value_after}
use Rattle.byte_tools.proofs.digits.digits_value.Given as goal

-- what is read so far and what the rest writes are what all digits write
abbrev pub invariant-loop-byte : goal.invariant-loop-byte
invariant-loop-byte l =
    (l.value ≤ l.most) × (digits_value_after l.base l.value (drop l.byte-index l.digits) ≡ digits_value l.base l.digits)
