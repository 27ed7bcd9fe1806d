-- The kinds of faults that values have, once all names of a source are known: of operands, of names for expressions, of
-- EXPORT and KEEP, and of ASSERT. SDT 2.50 Reference Guide, chapter on the assembler; the kinds are this project's.
use Rattle.std.specs.Prelude.{ℕ, ◌+◌, ◌%◌, ◌^◌, nat_le, List, [], ◌∷◌, ◌++◌, Bool, false, if◌then◌else◌, Option, Some, None, Result, Ok, Err}
use Rattle.sdt_fault.specs.declared.kinds.LineKind.{LineKind}
use Rattle.sdt_fault.specs.declared.kinds.LineKind.TheVariants.{UnknownWord, WrongType, Assert}
use Rattle.asm_model.specs.declared.directives.DirectiveLine.{DirectiveLine}
use Rattle.asm_model.specs.declared.directives.DirectiveLine.TheVariants as line
use Rattle.asm_model.specs.declared.names.LaidName.{LaidName}
use Rattle.asm_model.specs.declared.names.Names.{Names}
use Rattle.asm_model.specs.declared.statements.What.{What}
use Rattle.asm_model.specs.declared.statements.What.TheVariants as what
use Rattle.asm_model.specs.declared.values.Value.{Value}
use Rattle.asm_model.specs.declared.values.Value.TheVariants.{Number, Truth, Place}
use Rattle.asm_model.specs.Meaning.{named_in, stands_at, entry_value}
use Rattle.asm_model.specs.Extents.{Extent, Loading}
use Rattle.asm_model.specs.LayoutKinds.{fault_kinds}
use Rattle.asm_model.specs.Symbols.{literal_value}
use Rattle.source_model.specs.Contexts.{Context, sees, value_of}
use Rattle.source_model.specs.Units.{stored, units}

-- ---- EXPORT and KEEP

-- a place of this source is in its label's area, whose sizes these are, or at its end
abbrev pub lies_within : (ℕ → ℕ) → Option (ℕ × ℕ) → ℕ → Bool
lies_within sizes None n = false
lies_within sizes (Some a) n = nat_le ((a.1 + n) % 2 ^ 32) (sizes a.0)

abbrev pub kinds_unless : Bool → LineKind → List LineKind
kinds_unless holds k = if holds then [] else k ∷ []

-- of a name with a value, or with none
abbrev pub exported_kinds : Context → (ℕ → ℕ) → Result Value LineKind → List LineKind
exported_kinds c sizes (Ok (Number m)) = []
exported_kinds c sizes (Ok (Place s m)) = kinds_unless (lies_within sizes (stands_at (sees c) s) m) WrongType
exported_kinds c sizes _ = WrongType ∷ []

abbrev pub export_kinds : Context → (ℕ → ℕ) → Option LaidName → List LineKind
export_kinds c sizes None = UnknownWord ∷ []
export_kinds c sizes (Some n) = exported_kinds c sizes (entry_value n)

-- ---- ASSERT

abbrev pub assert_kinds : Result Value LineKind → List LineKind
assert_kinds (Ok (Truth b)) = kinds_unless b Assert
assert_kinds (Ok _) = WrongType ∷ []
assert_kinds (Err k) = k ∷ []

-- ---- all

abbrev pub directive_kinds : Context → (ℕ → ℕ) → DirectiveLine → List LineKind
directive_kinds c sizes (line.Area name a) = []
directive_kinds c sizes line.Entry = []
directive_kinds c sizes line.End = []
directive_kinds c sizes (line.Export name) = export_kinds c sizes (named_in name c.names)
directive_kinds c sizes (line.Import name mark) = []
directive_kinds c sizes (line.Extern name mark) = []
directive_kinds c sizes (line.Keep name) = export_kinds c sizes (named_in name c.names)
directive_kinds c sizes (line.Equ e) = fault_kinds (value_of c e)
directive_kinds c sizes (line.Rn r) = []
directive_kinds c sizes line.Rout = []
directive_kinds c sizes (line.Assert e) = assert_kinds (value_of c e)
directive_kinds c sizes line.Nofp = []
directive_kinds c sizes (line.Opt e) = []
directive_kinds c sizes line.Ttl = []
directive_kinds c sizes line.Subt = []
directive_kinds c sizes (line.Constants item es) = []
directive_kinds c sizes (line.Space e) = []
directive_kinds c sizes (line.Align b) = []
directive_kinds c sizes line.Ltorg = []
directive_kinds c sizes line.Data = []
directive_kinds c sizes (line.Map e) = []
directive_kinds c sizes (line.Field e) = []
directive_kinds c sizes line.Code16 = []
directive_kinds c sizes line.Code32 = []

-- the word of a statement's literal
abbrev pub literal_kinds : Context → List (List ℕ) → Extent → List LineKind
literal_kinds c data_names (Loading n v) = fault_kinds (stored c data_names (literal_value (sees c) v))
literal_kinds c data_names _ = []

abbrev pub statement_kinds : Context → (ℕ → ℕ) → What → List LineKind
statement_kinds c sizes what.Nothing = []
statement_kinds c sizes (what.Arm l) = []
statement_kinds c sizes (what.Thumb l) = []
statement_kinds c sizes (what.Pseudo l) = []
statement_kinds c sizes (what.Directive l) = directive_kinds c sizes l

-- of a statement that takes up this and sees this at its line, where its literal has its word at an offset, if it has one,
-- and areas have these sizes
abbrev pub value_kinds : Context → List (List ℕ) → (ℕ → ℕ) → Names → Extent → Option ℕ → What → List LineKind
value_kinds c data_names sizes s e word w =
    fault_kinds (units c data_names s word w) ++ literal_kinds c data_names e ++ statement_kinds c sizes w
