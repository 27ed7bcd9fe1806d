-- Banks that become protected from stores. This project's.
use Rattle.std.specs.Prelude.{◌==◌, ◌&&◌, if◌then◌else◌, true}
use Rattle.sdt_word.specs.declared.ranges.Range32.{Range32}
use Rattle.arm7_bus.specs.declared.memory.Bank.{Bank}

-- a bank once the bank of this range is protected
abbrev pub protected_bank : Range32 → Bank → Bank
protected_bank r b = if b.range.base == r.base && b.range.size == r.size then record b { read_only = true } else b
