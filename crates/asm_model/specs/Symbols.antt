-- The symbols of a source, in their order: the names in EXPORT, IMPORT and KEEP, and the labels and names in EXTERN that a
-- symbol relocation needs, in order of the first line that so names them; a literal's name counts for the line of its
-- LDR. A word needs a symbol that stands in no area of the source. A branch of ARM state, and BL in Thumb state, needs one
-- that isn't a label of the same area and state, or another place of the area. ARM Object Format, symbols; the order is this project's.
use Rattle.std.specs.Prelude.{ℕ, ◌==◌, ◌&&◌, ◌||◌, not, Bool, true, false, if◌then◌else◌}
use Rattle.std.specs.Prelude.{List, [], ◌∷◌, ◌++◌, Option, Some, None, Result, Ok}
use Rattle.sdt_fault.specs.declared.kinds.LineKind.{LineKind}
use Rattle.asm_model.specs.declared.exprs.Expr.{Expr}
use Rattle.asm_model.specs.declared.exprs.ExprItem.TheVariants as item
use Rattle.asm_model.specs.declared.exprs.BinaryOp.TheVariants.{Add}
use Rattle.asm_model.specs.declared.values.Value.{Value}
use Rattle.asm_model.specs.declared.values.Value.TheVariants.{Number, Place}
use Rattle.asm_model.specs.declared.names.LaidName.{LaidName}
use Rattle.asm_model.specs.declared.names.Meaning.{Meaning}
use Rattle.asm_model.specs.declared.names.Meaning.TheVariants as means
use Rattle.asm_model.specs.declared.names.Names.{Names}
use Rattle.asm_model.specs.declared.arm_lines.ArmLine.{ArmLine}
use Rattle.asm_model.specs.declared.arm_lines.ArmLine.TheVariants as arm
use Rattle.asm_model.specs.declared.thumb_lines.ThumbLine.{ThumbLine}
use Rattle.asm_model.specs.declared.thumb_lines.ThumbLine.TheVariants as thumb
use Rattle.asm_model.specs.declared.directives.DirectiveLine.{DirectiveLine}
use Rattle.asm_model.specs.declared.directives.DirectiveLine.TheVariants as line
use Rattle.asm_model.specs.declared.directives.Held.{Held}
use Rattle.asm_model.specs.declared.directives.Held.TheVariants as held
use Rattle.asm_model.specs.declared.statements.What.{What}
use Rattle.asm_model.specs.declared.statements.What.TheVariants as what
use Rattle.asm_model.specs.AtLine.{SourceLine, with_names}
use Rattle.asm_model.specs.Grammar.{Leaf, Between}
use Rattle.asm_model.specs.Meaning.{named_in, stands_at, meaning}
use Rattle.asm_model.specs.Before.{with_name}
use Rattle.asm_model.specs.DataItems.{held_by}
use Rattle.asm_model.specs.Extents.{Extent, Loading}
use Rattle.asm_model.specs.Laid.{LaidLine, taken, final_value}

-- the value of a literal: of its name with all names, plus its number
abbrev pub literal_value : Names → Value → Result Value LineKind
literal_value names (Place (c ∷ cs) n) = meaning names (Between Add (Leaf (item.Name (c ∷ cs))) (Leaf (item.Constant (Number n))))
literal_value names v = Ok v

-- ---- what needs a symbol

abbrev pub unless_placed : List ℕ → Option (ℕ × ℕ) → List (List ℕ)
unless_placed s (Some a) = []
unless_placed s None = s ∷ []

-- the symbol of a word with a value
abbrev pub word_symbols : Names → Result Value LineKind → List (List ℕ)
word_symbols names (Ok (Place (c ∷ cs) n)) = unless_placed (c ∷ cs) (stands_at names (c ∷ cs))
word_symbols names _ = []

abbrev pub words_symbols : List LaidName → SourceLine → List Expr → List (List ℕ)
words_symbols names l [] = []
words_symbols names l (e ∷ es) = word_symbols (with_names l names) (final_value names l e) ++ words_symbols names l es

abbrev pub same_state : Bool → Bool → Bool
same_state a b = if a then b else not b

abbrev pub is_place : Meaning → Bool
is_place means.Place = true
is_place _ = false

-- whether a branch of a state needs no symbol for the state of what a name is: a label of that state, or no label
abbrev pub keeps_state : Bool → Option LaidName → Bool
keeps_state thumb None = same_state thumb false
keeps_state thumb (Some n) = is_place n.meaning || same_state thumb n.thumb

-- whether a place is of the area
abbrev pub is_in_area : Option ℕ → Option (ℕ × ℕ) → Bool
is_in_area (Some area) (Some a) = a.0 == area
is_in_area _ _ = false

-- the symbol of a branch to a value
abbrev pub branch_symbols : Names → Result Value LineKind → List (List ℕ)
branch_symbols names (Ok (Place (c ∷ cs) n)) =
    if is_in_area names.area (stands_at names (c ∷ cs)) && keeps_state names.thumb (named_in (c ∷ cs) names.list) then []
    else (c ∷ cs) ∷ []
branch_symbols names _ = []

-- the target of a branch that may be left to the linker
abbrev pub arm_target : ArmLine → Option Expr
arm_target (arm.DataImmediate condition operation set_flags rd rn e) = None
arm_target (arm.DataShifted condition operation set_flags rd rn rm by) = None
arm_target (arm.DataRegisterShifted condition operation set_flags rd rn rm kind rs) = None
arm_target (arm.Multiply condition accumulate set_flags rd rm rs rn) = None
arm_target (arm.MultiplyLong condition signed accumulate set_flags low high rm rs) = None
arm_target (arm.Swap condition byte rd rm rn) = None
arm_target (arm.BranchExchange condition rm) = None
arm_target (arm.ReadStatus condition status rd) = None
arm_target (arm.WriteStatus condition fields rm) = None
arm_target (arm.WriteStatusImmediate condition fields e) = None
arm_target (arm.TransferImmediate condition load byte rd a) = None
arm_target (arm.TransferShifted condition load byte rd rn ix subtract rm by) = None
arm_target (arm.TransferHalf condition load kind rd rn ix o) = None
arm_target (arm.TransferBlock condition load mode rn write_back list user) = None
arm_target (arm.Branch condition link e) = Some e
arm_target (arm.SoftwareInterrupt condition e) = None

abbrev pub thumb_target : ThumbLine → Option Expr
thumb_target (thumb.ShiftImmediate by rd rs e) = None
thumb_target (thumb.AddSubtract subtract rd rs o) = None
thumb_target (thumb.DataImmediate operation rd e) = None
thumb_target (thumb.DataRegister operation rd rs) = None
thumb_target (thumb.HighRegister operation rd rs) = None
thumb_target (thumb.LoadLiteral rd a) = None
thumb_target (thumb.TransferRegister load byte rd rn ro) = None
thumb_target (thumb.TransferSigned kind rd rn ro) = None
thumb_target (thumb.TransferImmediate load byte rd rn e) = None
thumb_target (thumb.TransferHalf load rd rn e) = None
thumb_target (thumb.TransferStack load rd e) = None
thumb_target (thumb.LoadAddress stack rd e) = None
thumb_target (thumb.AdjustStack subtract e) = None
thumb_target (thumb.PushPop load list) = None
thumb_target (thumb.TransferMultiple load rn list) = None
thumb_target (thumb.BranchConditional c e) = None
thumb_target (thumb.SoftwareInterrupt e) = None
thumb_target (thumb.Branch e) = None
thumb_target (thumb.BranchLink e) = Some e

abbrev pub target_symbols : List LaidName → SourceLine → Option Expr → List (List ℕ)
target_symbols names l None = []
target_symbols names l (Some e) = branch_symbols (with_names l names) (final_value names l e)

abbrev pub arm_symbols : List LaidName → SourceLine → ArmLine → List (List ℕ)
arm_symbols names l a = target_symbols names l (arm_target a)

abbrev pub thumb_symbols : List LaidName → SourceLine → ThumbLine → List (List ℕ)
thumb_symbols names l t = target_symbols names l (thumb_target t)

abbrev pub literal_symbols : List LaidName → SourceLine → Extent → List (List ℕ)
literal_symbols names l (Loading n v) = word_symbols (with_names l names) (literal_value (with_names l names) v)
literal_symbols names l _ = []

-- the symbols of values that are held so
abbrev pub held_symbols : List LaidName → SourceLine → Held → List Expr → List (List ℕ)
held_symbols names l held.Relocatable es = words_symbols names l es
held_symbols names l (held.Fixed width) es = []
held_symbols names l held.Strings es = []

abbrev pub directive_symbols : List LaidName → SourceLine → DirectiveLine → List (List ℕ)
directive_symbols names l (line.Area name a) = []
directive_symbols names l line.Entry = []
directive_symbols names l line.End = []
directive_symbols names l (line.Export name) = name ∷ []
directive_symbols names l (line.Import name mark) = name ∷ []
directive_symbols names l (line.Extern name mark) = []
directive_symbols names l (line.Keep name) = name ∷ []
directive_symbols names l (line.Equ e) = []
directive_symbols names l (line.Rn r) = []
directive_symbols names l line.Rout = []
directive_symbols names l (line.Assert e) = []
directive_symbols names l line.Nofp = []
directive_symbols names l (line.Opt e) = []
directive_symbols names l line.Ttl = []
directive_symbols names l line.Subt = []
directive_symbols names l (line.Constants item es) = held_symbols names l (held_by item) es
directive_symbols names l (line.Space e) = []
directive_symbols names l (line.Align b) = []
directive_symbols names l line.Ltorg = []
directive_symbols names l line.Data = []
directive_symbols names l (line.Map e) = []
directive_symbols names l (line.Field e) = []
directive_symbols names l line.Code16 = []
directive_symbols names l line.Code32 = []

-- the symbols that a statement names or needs
abbrev pub symbols_in : List LaidName → SourceLine → Extent → What → List (List ℕ)
symbols_in names l e what.Nothing = []
symbols_in names l e (what.Arm a) = arm_symbols names l a
symbols_in names l e (what.Thumb t) = thumb_symbols names l t
symbols_in names l e (what.Pseudo p) = literal_symbols names l e
symbols_in names l e (what.Directive d) = directive_symbols names l d

-- ---- their order

-- each once, at its first place, behind those that are listed
abbrev pub listed_behind : List (List ℕ) → List (List ℕ) → List (List ℕ)
listed_behind listed [] = listed
listed_behind listed (s ∷ ss) = listed_behind (with_name (Some s) listed) ss

-- the symbols of lines, the last of them first, where a source has these names
abbrev pub symbols_of : List LaidName → List LaidLine → List (List ℕ)
symbols_of names [] = []
symbols_of names (l ∷ before) = listed_behind (symbols_of names before) (symbols_in names l.line (taken l.extent) l.statement.what)
