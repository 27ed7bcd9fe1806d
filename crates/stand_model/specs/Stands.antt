-- What it means that a statement stands at an address. Its data are its operands' values, each name with its address; its
-- word, half-word or pair of half-words reads as its instruction; a branch reaches its target, itself or by a veneer of its
-- region; a load from a label, ADR and ADRL give the label's address; a literal's word holds its value; and all else is
-- zero. SDT 2.50
-- Reference Guide, chapter on the assembler; ARM Architecture Reference Manual, the instructions.
use Rattle.std.specs.Prelude.{◌≡◌, ◌⊎◌, ℕ, ◌+◌, ◌-◌, ◌*◌, ◌/◌, ◌%◌, ◌^◌, ◌<◌, ◌≤◌, Bool, false, true, if◌then◌else◌, List, [], ◌∷◌, length, Option, Some, None, Result, Ok, Err}
use Rattle.sdt_word.specs.Bytes.{bytes_of}
use Rattle.sdt_word.specs.Numbers.{flag, operand}
use Rattle.sdt_word.specs.declared.codes.Condition.{Condition}
use Rattle.sdt_word.specs.declared.codes.Condition.TheVariants.{Al}
use Rattle.sdt_word.specs.declared.codes.ShiftKind.TheVariants.{Lsl}
use Rattle.sdt_word.specs.declared.ranges.Range32.{Range32}
use Rattle.sdt_fault.specs.declared.kinds.LineKind.{LineKind}
use Rattle.sdt_fault.specs.declared.kinds.LineKind.TheVariants.{Syntax}
use Rattle.arm_isa.specs.ArmRows.{ReadsArm}
use Rattle.arm_isa.specs.declared.instr.ArmInstr.{ArmInstr}
use Rattle.arm_isa.specs.declared.instr.ArmInstr.TheVariants as instr
use Rattle.arm_isa.specs.declared.instr.Operation.{Operation}
use Rattle.arm_isa.specs.declared.instr.Operation.TheVariants.{Add, Sub, Mov}
use Rattle.thumb_isa.specs.ThumbRows.{ReadsThumb}
use Rattle.thumb_isa.specs.declared.instr.HighOperation.TheVariants as high
use Rattle.thumb_isa.specs.declared.instr.ThumbInstr.{ThumbInstr}
use Rattle.thumb_isa.specs.declared.instr.ThumbInstr.TheVariants as half
use Rattle.asm_model.specs.declared.arm_lines.ArmLine.{ArmLine}
use Rattle.asm_model.specs.declared.arm_lines.ArmLine.TheVariants as arm
use Rattle.asm_model.specs.declared.directives.DirectiveLine.{DirectiveLine}
use Rattle.asm_model.specs.declared.directives.Held.{Held}
use Rattle.asm_model.specs.declared.directives.Held.TheVariants as held
use Rattle.asm_model.specs.declared.exprs.Expr.{Expr}
use Rattle.asm_model.specs.declared.operands.Address.TheVariants as address
use Rattle.asm_model.specs.declared.operands.LiteralAddress.TheVariants as literal
use Rattle.asm_model.specs.declared.thumb_lines.ThumbLine.{ThumbLine}
use Rattle.asm_model.specs.declared.thumb_lines.ThumbLine.TheVariants as thumb
use Rattle.asm_model.specs.declared.statements.PseudoLine.{PseudoLine}
use Rattle.asm_model.specs.declared.statements.PseudoLine.TheVariants as pseudo
use Rattle.asm_model.specs.declared.statements.What.{What}
use Rattle.asm_model.specs.declared.statements.What.TheVariants as what
use Rattle.asm_model.specs.declared.values.Value.{Value}
use Rattle.asm_model.specs.declared.values.Value.TheVariants.{Number, Words, Place}
use Rattle.asm_model.specs.DataItems.{held_by}
use Rattle.asm_model.specs.Grammar.{Tree}
use Rattle.asm_model.specs.Meaning.{stands_at}
use Rattle.asm_model.specs.Laid.{LaidLine, pieces_of}
use Rattle.asm_model.specs.Marks.{counts_one, thumb_bit, datum_names}
use Rattle.asm_model.specs.Occupied.{Occupied, Unplaced, Opening, Marking, Entering, Items, Zeroes, UpTo, Literals, occupied}
use Rattle.asm_model.specs.Offsets.{area_size}
use Rattle.asm_model.specs.Placing.{Placing, placed_meaning}
use Rattle.asm_model.specs.Trees.{tree_of}
use Rattle.patch_model.specs.Fields.{Meant, Values, is_thumb_label}
use Rattle.patch_model.specs.Laws.{state_of}
use Rattle.patch_model.specs.Reaches.{View, Shows, ShowsHalf, ShowsWord, Reaches}
use Rattle.source_model.specs.ArmForms.{arm_instruction, is_settled}
use Rattle.source_model.specs.Contexts.{Context, sees, value_of, register}
use Rattle.source_model.specs.Immediates.{data_immediate}
use Rattle.source_model.specs.ThumbForms.{thumb_instruction}
use Rattle.source_model.specs.declared.codes.ThumbCode.{ThumbCode}
use Rattle.source_model.specs.declared.codes.ThumbCode.TheVariants.{One, Pair}
use Rattle.source_model.specs.Objects.{Piece, Source, At, StandsIn, unit_bytes, context_at, word_at, symbol_number}
use Rattle.stand_model.specs.Placed.{ShowsZeros}

-- a source's symbols and areas where they are placed, and what a statement's operands mean
pub record Lookup : Type 0 where
  pub view : View
  -- the region of the statement's area
  pub region : Range32
  -- the bases of areas, and the values of imported names
  pub placing : Placing
  pub meant : List ℕ → Meant
  -- the labels that are data
  pub data_names : List (List ℕ)
  pub context : Context

-- ---- values

-- the value of an expression where each name has its address
abbrev pub value_placed : Lookup → Expr → Result Value LineKind
value_placed s e = of_tree (tree_of e)
  where
    of_tree : Option Tree → Result Value LineKind
    of_tree None = Err Syntax
    of_tree (Some t) = placed_meaning s.placing (sees s.context) t

abbrev pub IsNumber : Lookup → Expr → ℕ → Type 0
IsNumber s e n = value_placed s e ≡ Ok (Number n)

-- ---- data

-- the 1 that a label of Thumb code counts in a word
abbrev pub mark_at : Lookup → List ℕ → Option (ℕ × ℕ) → ℕ
mark_at s name None = flag (is_thumb_label (s.meant name))
mark_at s name (Some a) = thumb_bit (counts_one s.data_names (sees s.context) name)

abbrev pub mark_of : Lookup → Result Value LineKind → ℕ
mark_of s (Ok (Place name n)) = mark_at s name (stands_at (sees s.context) name)
mark_of s _ = 0

pub record WordStands (s : Lookup) (a : ℕ) (e : Expr) : Type 0 where
  pub number : ℕ
  pub means : IsNumber s e number
  pub shows : ShowsWord s.view a ((number + mark_of s (value_of s.context e)) % 2 ^ 32)

abbrev pub WordsStand : Lookup → ℕ → List Expr → Type 0
WordsStand s a [] = Unit {0}
WordsStand s a (e ∷ es) = WordStands s a e × WordsStand s (a + 4) es

-- a number in so many bytes
pub record NumberStands (s : Lookup) (a width : ℕ) (e : Expr) : Type 0 where
  pub number : ℕ
  pub means : IsNumber s e number
  pub shows : Shows s.view a (bytes_of (number % 2 ^ (8 * width)) width)

abbrev pub NumbersStand : Lookup → ℕ → ℕ → List Expr → Type 0
NumbersStand s a width [] = Unit {0}
NumbersStand s a width (e ∷ es) = NumberStands s a width e × NumbersStand s (a + width) width es

-- an operand of DCB: a string, or the low byte of a number
abbrev pub AreBytesOf : Lookup → Expr → List ℕ → Type 0
AreBytesOf s e bytes = (value_placed s e ≡ Ok (Words bytes)) ⊎ ((n : ℕ) × IsNumber s e n × (bytes ≡ bytes_of (n % 2 ^ 8) 1))

abbrev pub BytesStand : Lookup → ℕ → List Expr → Type 0
BytesStand s a [] = Unit {0}
BytesStand s a (e ∷ es) = (bytes : List ℕ) × AreBytesOf s e bytes × Shows s.view a bytes × BytesStand s (a + length bytes) es

-- values that are held so
abbrev pub HeldStand : Lookup → ℕ → Held → List Expr → Type 0
HeldStand s a held.Relocatable es = WordsStand s a es
HeldStand s a (held.Fixed width) es = NumbersStand s a width es
HeldStand s a held.Strings es = BytesStand s a es

abbrev pub OccupiedStands : Lookup → ℕ → ℕ → Occupied → Type 0
OccupiedStands s a size Unplaced = Unit {0}
OccupiedStands s a size (Opening attributes) = Unit {0}
OccupiedStands s a size Marking = Unit {0}
OccupiedStands s a size Entering = Unit {0}
OccupiedStands s a size (Items item es) = HeldStand s a (held_by item) es
OccupiedStands s a size (Zeroes e) = ShowsZeros s.view a size
OccupiedStands s a size (UpTo b) = ShowsZeros s.view a size
OccupiedStands s a size Literals = Unit {0}

abbrev pub DirectiveStands : Lookup → ℕ → ℕ → DirectiveLine → Type 0
DirectiveStands s a size l = OccupiedStands s a size (occupied l)

-- ---- instructions of ARM state

pub record ReadsAt (view : View) (a : ℕ) (i : ArmInstr) : Type 0 where
  pub word : ℕ
  pub shows : ShowsWord view a word
  pub reads : ReadsArm word i

-- an address that lies so far behind pc, or before it
abbrev pub from_pc : ℕ → Bool → ℕ → ℕ
from_pc a up offset = if up then (a + 8 + offset) % 2 ^ 32 else (a + 8 + (2 ^ 32 - offset)) % 2 ^ 32

-- the state in which a branch of a state reaches its target: its own, or that of the symbol that is left to the linker
abbrev pub target_state : Bool → Lookup → Result Value LineKind → Bool
target_state thumb s (Ok (Place (x ∷ xs) n)) =
    if is_settled s.context (x ∷ xs) then thumb else state_of thumb (s.meant (x ∷ xs)) (s.meant (x ∷ xs)).home
target_state thumb s _ = thumb

pub record BranchStands (s : Lookup) (a : ℕ) (condition : Condition) (link : Bool) (e : Expr) : Type 0 where
  pub field : ℕ
  pub reads : ReadsAt s.view a (instr.Branch condition link field)
  pub target : ℕ
  pub means : IsNumber s e target
  pub reaches : Reaches s.view s.region false a target (target_state false s (value_of s.context e))

-- a transfer between a register and the word or byte at a label
pub record TransferStands (s : Lookup) (a : ℕ) (condition : Condition) (load byte : Bool) (rd : ℕ) (e : Expr) : Type 0 where
  pub up : Bool
  pub offset : ℕ
  pub reads : ReadsAt s.view a (instr.TransferImmediate condition true up byte false load 15 rd offset)
  pub label : ℕ
  pub means : IsNumber s e label
  pub leads : from_pc a up offset ≡ label

-- the line's instruction, with the values of its operands
pub record InstructionStands (s : Lookup) (a : ℕ) (l : ArmLine) : Type 0 where
  pub instruction : ArmInstr
  pub says : arm_instruction s.context l ≡ Ok instruction
  pub reads : ReadsAt s.view a instruction

abbrev pub ArmStands : Lookup → ℕ → ArmLine → Type 0
ArmStands s a (arm.DataImmediate condition operation set_flags rd rn e) =
    InstructionStands s a (arm.DataImmediate condition operation set_flags rd rn e)
ArmStands s a (arm.DataShifted condition operation set_flags rd rn rm by) =
    InstructionStands s a (arm.DataShifted condition operation set_flags rd rn rm by)
ArmStands s a (arm.DataRegisterShifted condition operation set_flags rd rn rm kind rs) =
    InstructionStands s a (arm.DataRegisterShifted condition operation set_flags rd rn rm kind rs)
ArmStands s a (arm.Multiply condition accumulate set_flags rd rm rs rn) =
    InstructionStands s a (arm.Multiply condition accumulate set_flags rd rm rs rn)
ArmStands s a (arm.MultiplyLong condition signed accumulate set_flags low high rm rs) =
    InstructionStands s a (arm.MultiplyLong condition signed accumulate set_flags low high rm rs)
ArmStands s a (arm.Swap condition byte rd rm rn) = InstructionStands s a (arm.Swap condition byte rd rm rn)
ArmStands s a (arm.BranchExchange condition rm) = InstructionStands s a (arm.BranchExchange condition rm)
ArmStands s a (arm.ReadStatus condition status rd) = InstructionStands s a (arm.ReadStatus condition status rd)
ArmStands s a (arm.WriteStatus condition fields rm) = InstructionStands s a (arm.WriteStatus condition fields rm)
ArmStands s a (arm.WriteStatusImmediate condition fields e) =
    InstructionStands s a (arm.WriteStatusImmediate condition fields e)
ArmStands s a (arm.TransferImmediate condition load byte rd (address.Based rn indexing e)) =
    InstructionStands s a (arm.TransferImmediate condition load byte rd (address.Based rn indexing e))
ArmStands s a (arm.TransferImmediate condition load byte rd (address.Label e)) =
    TransferStands s a condition load byte (register s.context rd) e
ArmStands s a (arm.TransferShifted condition load byte rd rn indexing subtract rm by) =
    InstructionStands s a (arm.TransferShifted condition load byte rd rn indexing subtract rm by)
ArmStands s a (arm.TransferHalf condition load kind rd rn indexing o) =
    InstructionStands s a (arm.TransferHalf condition load kind rd rn indexing o)
ArmStands s a (arm.TransferBlock condition load mode rn write_back list user) =
    InstructionStands s a (arm.TransferBlock condition load mode rn write_back list user)
ArmStands s a (arm.Branch condition link e) = BranchStands s a condition link e
ArmStands s a (arm.SoftwareInterrupt condition e) = InstructionStands s a (arm.SoftwareInterrupt condition e)

-- ---- instructions of Thumb state

pub record ReadsHalfAt (view : View) (a : ℕ) (i : ThumbInstr) : Type 0 where
  pub half : ℕ
  pub shows : ShowsHalf view a half
  pub reads : ReadsThumb half i

-- the half-word of an instruction, or both halves of BL
abbrev pub CodeReadsAt : View → ℕ → ThumbCode → Type 0
CodeReadsAt view a (One i) = ReadsHalfAt view a i
CodeReadsAt view a (Pair first second) =
    ReadsHalfAt view a (half.BranchLink false first) × ReadsHalfAt view (a + 2) (half.BranchLink true second)

-- B, and B with a condition
pub record ShortBranchStands (s : Lookup) (a : ℕ) (instruction : ℕ → ThumbInstr) (e : Expr) : Type 0 where
  pub field : ℕ
  pub reads : ReadsHalfAt s.view a (instruction field)
  pub target : ℕ
  pub means : IsNumber s e target
  pub reaches : Reaches s.view s.region true a target true

-- both halves of BL
pub record LinkStands (s : Lookup) (a : ℕ) (e : Expr) : Type 0 where
  pub first : ℕ
  pub second : ℕ
  pub reads : CodeReadsAt s.view a (Pair first second)
  pub target : ℕ
  pub means : IsNumber s e target
  pub reaches : Reaches s.view s.region true a target (target_state true s (value_of s.context e))

-- pc as an instruction at an address reads it, with its low bits cleared
abbrev pub word_pc : ℕ → ℕ
word_pc a = (a + 4) / 4 * 4

-- an instruction that counts so many words behind pc to an address
pub record CountsTo (view : View) (a : ℕ) (instruction : ℕ → ThumbInstr) (address : ℕ) : Type 0 where
  pub words : ℕ
  pub reads : ReadsHalfAt view a (instruction words)
  pub leads : (word_pc a + words * 4) % 2 ^ 32 ≡ address

-- the same to a label: a load of its word, or its address
pub record LabelCounted (s : Lookup) (a : ℕ) (instruction : ℕ → ThumbInstr) (e : Expr) : Type 0 where
  pub label : ℕ
  pub means : IsNumber s e label
  pub counts : CountsTo s.view a instruction label

-- the line's instruction, with the values of its operands
pub record ThumbInstructionStands (s : Lookup) (a : ℕ) (l : ThumbLine) : Type 0 where
  pub code : ThumbCode
  pub says : thumb_instruction s.context l ≡ Ok code
  pub reads : CodeReadsAt s.view a code

abbrev pub ThumbStands : Lookup → ℕ → ThumbLine → Type 0
ThumbStands s a (thumb.ShiftImmediate by rd rs e) = ThumbInstructionStands s a (thumb.ShiftImmediate by rd rs e)
ThumbStands s a (thumb.AddSubtract subtract rd rs o) = ThumbInstructionStands s a (thumb.AddSubtract subtract rd rs o)
ThumbStands s a (thumb.DataImmediate operation rd e) = ThumbInstructionStands s a (thumb.DataImmediate operation rd e)
ThumbStands s a (thumb.DataRegister operation rd rs) = ThumbInstructionStands s a (thumb.DataRegister operation rd rs)
ThumbStands s a (thumb.HighRegister operation rd rs) = ThumbInstructionStands s a (thumb.HighRegister operation rd rs)
ThumbStands s a (thumb.LoadLiteral rd (literal.Offset e)) = ThumbInstructionStands s a (thumb.LoadLiteral rd (literal.Offset e))
ThumbStands s a (thumb.LoadLiteral rd (literal.Label e)) = LabelCounted s a (half.LoadLiteral (register s.context rd)) e
ThumbStands s a (thumb.TransferRegister load byte rd rn ro) = ThumbInstructionStands s a (thumb.TransferRegister load byte rd rn ro)
ThumbStands s a (thumb.TransferSigned kind rd rn ro) = ThumbInstructionStands s a (thumb.TransferSigned kind rd rn ro)
ThumbStands s a (thumb.TransferImmediate load byte rd rn e) = ThumbInstructionStands s a (thumb.TransferImmediate load byte rd rn e)
ThumbStands s a (thumb.TransferHalf load rd rn e) = ThumbInstructionStands s a (thumb.TransferHalf load rd rn e)
ThumbStands s a (thumb.TransferStack load rd e) = ThumbInstructionStands s a (thumb.TransferStack load rd e)
ThumbStands s a (thumb.LoadAddress stack rd e) = ThumbInstructionStands s a (thumb.LoadAddress stack rd e)
ThumbStands s a (thumb.AdjustStack subtract e) = ThumbInstructionStands s a (thumb.AdjustStack subtract e)
ThumbStands s a (thumb.PushPop load list) = ThumbInstructionStands s a (thumb.PushPop load list)
ThumbStands s a (thumb.TransferMultiple load rn list) = ThumbInstructionStands s a (thumb.TransferMultiple load rn list)
ThumbStands s a (thumb.BranchConditional condition e) = ShortBranchStands s a (half.BranchConditional condition) e
ThumbStands s a (thumb.SoftwareInterrupt e) = ThumbInstructionStands s a (thumb.SoftwareInterrupt e)
ThumbStands s a (thumb.Branch e) = ShortBranchStands s a half.Branch e
ThumbStands s a (thumb.BranchLink e) = LinkStands s a e

-- ---- pseudo-instructions of ARM state

-- MOV or MVN of the number
pub record MoveStands (s : Lookup) (a : ℕ) (condition : Condition) (rd : ℕ) (e : Expr) : Type 0 where
  pub number : ℕ
  pub means : IsNumber s e number
  pub instruction : ArmInstr
  pub says : data_immediate condition Mov false 0 rd number ≡ Ok instruction
  pub reads : ReadsAt s.view a instruction

-- a load from the word of the literal, which holds its value
pub record LoadStands (s : Lookup) (a : ℕ) (condition : Condition) (rd : ℕ) (e : Expr) (word : ℕ) : Type 0 where
  pub up : Bool
  pub offset : ℕ
  pub reads : ReadsAt s.view a (instr.TransferImmediate condition true up false false true 15 rd offset)
  pub leads : from_pc a up offset ≡ word % 2 ^ 32
  pub holds : WordStands s word e

abbrev pub LiteralStands : Lookup → ℕ → Condition → ℕ → Expr → Option ℕ → Type 0
LiteralStands s a condition rd e None = MoveStands s a condition rd e
LiteralStands s a condition rd e (Some word) = LoadStands s a condition rd e word

-- a number added to another, or taken away from it
abbrev pub moved : Bool → ℕ → ℕ → ℕ
moved true n v = (n + v) % 2 ^ 32
moved false n v = (n + (2 ^ 32 - v)) % 2 ^ 32

abbrev pub operation_of : Bool → Operation
operation_of true = Add
operation_of false = Sub

-- the number of an immediate operand
abbrev pub immediate_number : ℕ × ℕ → ℕ
immediate_number i = operand i.0 i.1

-- one ADD or SUB from pc gives the address
pub record AddressStands (s : Lookup) (a : ℕ) (condition : Condition) (rd : ℕ) (e : Expr) : Type 0 where
  pub up : Bool
  pub immediate : ℕ × ℕ
  pub reads : ReadsAt s.view a (instr.DataImmediate condition (operation_of up) false 15 rd immediate.0 immediate.1)
  pub label : ℕ
  pub means : IsNumber s e label
  pub gives : moved up (a + 8) (immediate_number immediate) ≡ label

-- two of them, the second from the first's register
pub record LongStands (s : Lookup) (a : ℕ) (condition : Condition) (rd : ℕ) (e : Expr) : Type 0 where
  pub up : Bool
  pub first : ℕ × ℕ
  pub second : ℕ × ℕ
  pub reads_first : ReadsAt s.view a (instr.DataImmediate condition (operation_of up) false 15 rd first.0 first.1)
  pub reads_second : ReadsAt s.view (a + 4) (instr.DataImmediate condition (operation_of up) false rd rd second.0 second.1)
  pub label : ℕ
  pub means : IsNumber s e label
  pub gives : moved up (moved up (a + 8) (immediate_number first)) (immediate_number second) ≡ label

abbrev pub PseudoStands : Lookup → ℕ → Option ℕ → PseudoLine → Type 0
PseudoStands s a word (pseudo.LoadConstant condition rd e) = LiteralStands s a condition (register s.context rd) e word
PseudoStands s a word (pseudo.Address condition rd e) = AddressStands s a condition (register s.context rd) e
PseudoStands s a word (pseudo.LongAddress condition rd e) = LongStands s a condition (register s.context rd) e
PseudoStands s a word pseudo.NoOperation = ReadsAt s.view a (instr.DataShifted Al Mov false 0 0 0 Lsl 0)

-- ---- pseudo-instructions of Thumb state

-- a load from the word of the literal, which holds its value
abbrev pub ThumbLiteralStands : Lookup → ℕ → ℕ → Expr → Option ℕ → Type 0
ThumbLiteralStands s a rd e None = ⊥
ThumbLiteralStands s a rd e (Some word) = CountsTo s.view a (half.LoadLiteral rd) (word % 2 ^ 32) × WordStands s word e

abbrev pub ThumbPseudoStands : Lookup → ℕ → Option ℕ → PseudoLine → Type 0
ThumbPseudoStands s a word (pseudo.LoadConstant condition rd e) = ThumbLiteralStands s a (register s.context rd) e word
ThumbPseudoStands s a word (pseudo.Address condition rd e) = LabelCounted s a (half.LoadAddress false (register s.context rd)) e
ThumbPseudoStands s a word (pseudo.LongAddress condition rd e) = ⊥
ThumbPseudoStands s a word pseudo.NoOperation = ReadsHalfAt s.view a (half.HighRegister high.Mov true true 0 0)

abbrev pub PseudoStandsIn : Bool → Lookup → ℕ → Option ℕ → PseudoLine → Type 0
PseudoStandsIn true s a word l = ThumbPseudoStands s a word l
PseudoStandsIn false s a word l = PseudoStands s a word l

-- ---- statements

-- a statement of so many bytes stands at an address, with the address of its literal's word, if it has one
abbrev pub Stands : Lookup → ℕ → ℕ → Option ℕ → What → Type 0
Stands s a size word what.Nothing = Unit {0}
Stands s a size word (what.Arm l) = ArmStands s a l
Stands s a size word (what.Thumb l) = ThumbStands s a l
Stands s a size word (what.Pseudo l) = PseudoStandsIn s.context.line.thumb s a word l
Stands s a size word (what.Directive l) = DirectiveStands s a size l

-- ---- a source

abbrev pub placing_of : Source → Values → Placing
placing_of s values = record { base = values.base; imported = λ name. (values.symbol (symbol_number s name)).number }

abbrev pub address_behind : ℕ → Option ℕ → Option ℕ
address_behind base None = None
address_behind base (Some offset) = Some (base + offset)

abbrev pub lookup_at : (s : Source) (l : LaidLine) → At s l → View → Range32 → Values → Lookup
lookup_at s l at view region values = record {
  view = view;
  region = region;
  placing = placing_of s values;
  meant = λ name. values.symbol (symbol_number s name);
  data_names = datum_names s.statements;
  context = context_at s l at;
}

-- a place of an area where nothing stands
abbrev pub IsGap : Source → ℕ → ℕ → Type 0
IsGap s area i = (p : Piece) → StandsIn s area p → (i < p.0) ⊎ (p.0 + length (unit_bytes p.1) ≤ i)

-- each statement stands at its offset behind its area's base, and where nothing stands is zero
pub record AllStand (s : Source) (values : Values) (view : View) (region : ℕ → Range32) : Type 0 where
  pub lines : (l : LaidLine) (at : At s l) (area : ℕ) → l.area ≡ Some area
      → Stands (lookup_at s l at view (region area) values) (values.base area + l.offset) l.size
      (address_behind (values.base area) (word_at s l at)) l.statement.what
  pub gaps : (area i : ℕ) → i < area_size area (pieces_of s.lines) → IsGap s area i → view (values.base area + i) ≡ Some 0
