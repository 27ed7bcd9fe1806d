-- The lines of Thumb state in two groups. This project's.
use Rattle.asm_model.specs.declared.thumb_lines.ThumbLine.{ThumbLine}
use Rattle.asm_model.specs.declared.thumb_lines.ThumbLine.TheVariants as thumb

-- a line of many operands
abbrev pub IsWide : ThumbLine → Type 0
IsWide (thumb.ShiftImmediate by rd rs e) = Unit {0}
IsWide (thumb.AddSubtract subtract rd rs o) = Unit {0}
IsWide (thumb.TransferRegister load byte rd rn ro) = Unit {0}
IsWide (thumb.TransferImmediate load byte rd rn e) = Unit {0}
IsWide (thumb.TransferHalf load rd rn e) = Unit {0}
IsWide _ = ⊥
