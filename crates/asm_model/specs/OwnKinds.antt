-- The kinds of faults that a statement has by itself: a word that its form doesn't have there, a number that is too
-- large, and a name beyond the limit. SDT 2.50 Reference Guide, chapter on the assembler.
use Rattle.std.specs.Prelude.{List, ◌++◌, Bool, true, false}
use Rattle.std.specs.Option.{is_none}
use Rattle.sdt_fault.specs.declared.kinds.LineKind.{LineKind}
use Rattle.sdt_fault.specs.declared.kinds.LineKind.TheVariants.{BadOperand, Constant, TooMany}
use Rattle.asm_model.specs.declared.operands.Indexing.{Indexing}
use Rattle.asm_model.specs.declared.operands.Indexing.TheVariants as indexing
use Rattle.asm_model.specs.declared.operands.Address.{Address}
use Rattle.asm_model.specs.declared.operands.Address.TheVariants as address
use Rattle.asm_model.specs.declared.arm_lines.ArmLine.{ArmLine}
use Rattle.asm_model.specs.declared.arm_lines.ArmLine.TheVariants as arm
use Rattle.asm_model.specs.declared.directives.DirectiveLine.{DirectiveLine}
use Rattle.asm_model.specs.declared.directives.DirectiveLine.TheVariants as line
use Rattle.asm_model.specs.declared.directives.ImportMark.{ImportMark}
use Rattle.asm_model.specs.declared.directives.ImportMark.TheVariants as mark
use Rattle.asm_model.specs.declared.statements.Statement.{Statement}
use Rattle.asm_model.specs.declared.statements.What.{What}
use Rattle.asm_model.specs.declared.statements.What.TheVariants as what
use Rattle.asm_model.specs.Exprs.{has_large}
use Rattle.asm_model.specs.Kinds.{kind_if}

-- whether an address is one that the suffix T doesn't have
abbrev pub is_bad_index : Indexing → Bool
is_bad_index indexing.TranslatedBefore = true
is_bad_index _ = false

abbrev pub is_bad_address : Address → Bool
is_bad_address (address.Based rn ix e) = is_bad_index ix
is_bad_address (address.Label e) = false

abbrev pub is_bad_arm : ArmLine → Bool
is_bad_arm (arm.DataImmediate condition operation set_flags rd rn e) = false
is_bad_arm (arm.DataShifted condition operation set_flags rd rn rm by) = false
is_bad_arm (arm.DataRegisterShifted condition operation set_flags rd rn rm kind rs) = false
is_bad_arm (arm.Multiply condition accumulate set_flags rd rm rs rn) = false
is_bad_arm (arm.MultiplyLong condition signed accumulate set_flags low high rm rs) = false
is_bad_arm (arm.Swap condition byte rd rm rn) = false
is_bad_arm (arm.BranchExchange condition rm) = false
is_bad_arm (arm.ReadStatus condition status rd) = is_none status
is_bad_arm (arm.WriteStatus condition fields rm) = is_none fields
is_bad_arm (arm.WriteStatusImmediate condition fields e) = is_none fields
is_bad_arm (arm.TransferImmediate condition load byte rd a) = is_bad_address a
is_bad_arm (arm.TransferShifted condition load byte rd rn ix subtract rm by) = is_bad_index ix
is_bad_arm (arm.TransferHalf condition load kind rd rn ix o) = false
is_bad_arm (arm.TransferBlock condition load mode rn write_back list user) = false
is_bad_arm (arm.Branch condition link e) = false
is_bad_arm (arm.SoftwareInterrupt condition e) = false

-- whether a mark is another word than WEAK
abbrev pub is_bad_mark : ImportMark → Bool
is_bad_mark mark.Other = true
is_bad_mark _ = false

-- whether attributes or a mark are bad
abbrev pub is_bad_directive : DirectiveLine → Bool
is_bad_directive (line.Area name a) = a.has_bad_word
is_bad_directive line.Entry = false
is_bad_directive line.End = false
is_bad_directive (line.Export name) = false
is_bad_directive (line.Import name m) = is_bad_mark m
is_bad_directive (line.Extern name m) = is_bad_mark m
is_bad_directive (line.Keep name) = false
is_bad_directive (line.Equ e) = false
is_bad_directive (line.Rn r) = false
is_bad_directive line.Rout = false
is_bad_directive (line.Assert e) = false
is_bad_directive line.Nofp = false
is_bad_directive (line.Opt e) = false
is_bad_directive line.Ttl = false
is_bad_directive line.Subt = false
is_bad_directive (line.Constants item es) = false
is_bad_directive (line.Space e) = false
is_bad_directive (line.Align b) = false
is_bad_directive line.Ltorg = false
is_bad_directive line.Data = false
is_bad_directive (line.Map e) = false
is_bad_directive (line.Field e) = false
is_bad_directive line.Code16 = false
is_bad_directive line.Code32 = false

-- whether a statement has a word that its form doesn't have there
abbrev pub has_bad_word : What → Bool
has_bad_word what.Nothing = false
has_bad_word (what.Arm l) = is_bad_arm l
has_bad_word (what.Thumb l) = false
has_bad_word (what.Pseudo l) = false
has_bad_word (what.Directive l) = is_bad_directive l

-- the kinds that a statement has by itself
abbrev pub own_kinds : Statement → List LineKind
own_kinds s = kind_if (has_bad_word s.what) BadOperand ++ kind_if (has_large s.what) Constant ++ kind_if s.is_long TooMany
