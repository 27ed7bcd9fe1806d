-- Names for registers. RN gives a name a register, or a number below 16 that is known at its line; the name counts on the
-- lines behind it. A register's own name always means that register, and reading tells it as one, also as one that the
-- line's row doesn't have. SDT 2.50 Reference Guide, chapter on the assembler; ARM Architecture Reference Manual, the
-- instructions; the kinds of faults are this project's.
use Rattle.std.specs.Prelude.{ℕ, ◌==◌, ◌&&◌, ◌||◌, not, nat_lt, List, [], ◌∷◌, ◌++◌, Bool, true, false, if◌then◌else◌, Option, Some, None, Result, Ok, Err}
use Rattle.std.specs.List.{list_all, list_any}
use Rattle.sdt_fault.specs.declared.kinds.LineKind.{LineKind}
use Rattle.sdt_fault.specs.declared.kinds.LineKind.TheVariants.{UnknownWord, BadOperand, Forward, WrongType, OutOfRange}
use Rattle.thumb_isa.specs.declared.instr.ImmediateOperation.{ImmediateOperation}
use Rattle.thumb_isa.specs.declared.instr.ImmediateOperation.TheVariants as immediate
use Rattle.asm_model.specs.declared.directives.RnOperand.{RnOperand}
use Rattle.asm_model.specs.declared.directives.RnOperand.TheVariants as rn
use Rattle.asm_model.specs.declared.names.LaidName.{LaidName}
use Rattle.asm_model.specs.declared.names.Names.{Names}
use Rattle.asm_model.specs.declared.operands.Register.{Register}
use Rattle.asm_model.specs.declared.operands.Register.TheVariants as register
use Rattle.asm_model.specs.declared.operands.ListItem.{ListItem}
use Rattle.asm_model.specs.declared.operands.ListItem.TheVariants as item
use Rattle.asm_model.specs.declared.operands.Address.{Address}
use Rattle.asm_model.specs.declared.operands.Address.TheVariants as address
use Rattle.asm_model.specs.declared.operands.HalfOffset.{HalfOffset}
use Rattle.asm_model.specs.declared.operands.HalfOffset.TheVariants as half
use Rattle.asm_model.specs.declared.operands.ThumbOperand.{ThumbOperand}
use Rattle.asm_model.specs.declared.operands.ThumbOperand.TheVariants as operand
use Rattle.asm_model.specs.declared.arm_lines.ArmLine.{ArmLine}
use Rattle.asm_model.specs.declared.arm_lines.ArmLine.TheVariants as arm
use Rattle.asm_model.specs.declared.thumb_lines.ThumbLine.{ThumbLine}
use Rattle.asm_model.specs.declared.thumb_lines.ThumbLine.TheVariants as thumb
use Rattle.asm_model.specs.declared.statements.Statement.{Statement}
use Rattle.asm_model.specs.declared.statements.PseudoLine.{PseudoLine}
use Rattle.asm_model.specs.declared.statements.PseudoLine.TheVariants as pseudo
use Rattle.asm_model.specs.declared.statements.What.{What}
use Rattle.asm_model.specs.declared.statements.What.TheVariants as what
use Rattle.asm_model.specs.Forms.{same}
use Rattle.asm_model.specs.Kinds.{kind_if}
use Rattle.asm_model.specs.Meaning.{named_in}
use Rattle.asm_model.specs.Extents.{number_there}
use Rattle.asm_model.specs.Labels.{Defined, RegisterName, defined_by}
use Rattle.asm_model.specs.Laid.{LaidLine}
use Rattle.asm_model.specs.LayoutKinds.{fault_kinds}

-- a name with its register
abbrev pub Named : Type 0
Named = List ℕ × ℕ

abbrev pub register_in : List ℕ → List Named → Option ℕ
register_in name [] = None
register_in name (r ∷ rs) = if same r.0 name then Some r.1 else register_in name rs

-- ---- what RN gives

abbrev pub as_register : Result ℕ LineKind → Result ℕ LineKind
as_register (Ok n) = if nat_lt n 16 then Ok n else Err OutOfRange
as_register (Err k) = Err k

abbrev pub given : Names → RnOperand → Result ℕ LineKind
given s (rn.Register n) = Ok n
given s (rn.Number e) = as_register (number_there s e)

abbrev pub with_register : List ℕ → Result ℕ LineKind → List Named
with_register name (Ok n) = (name, n) ∷ []
with_register name (Err k) = []

abbrev pub named_by : Names → Defined → List Named
named_by s (RegisterName name r) = with_register name (given s r)
named_by s _ = []

-- the names for registers behind lines, in the order of the source
abbrev pub registers_behind : List LaidLine → List Named
registers_behind [] = []
registers_behind (l ∷ before) = registers_behind before ++ named_by l.seen (defined_by l.statement)

abbrev pub register_name : Defined → List (List ℕ)
register_name (RegisterName name r) = name ∷ []
register_name _ = []

-- all names for registers of a source
abbrev pub register_names : List Statement → List (List ℕ)
register_names [] = []
register_names (s ∷ before) = register_names before ++ register_name (defined_by s)

-- ---- the registers of a statement

abbrev pub item_registers : ListItem → List Register
item_registers (item.One r) = r ∷ []
item_registers (item.Range first last) = first ∷ last ∷ []

abbrev pub list_registers : List ListItem → List Register
list_registers [] = []
list_registers (i ∷ is) = item_registers i ++ list_registers is

abbrev pub address_registers : Address → List Register
address_registers (address.Based rn indexing offset) = rn ∷ []
address_registers (address.Label target) = []

abbrev pub half_registers : HalfOffset → List Register
half_registers (half.Number offset) = []
half_registers (half.Register subtract rm) = rm ∷ []

abbrev pub arm_registers : ArmLine → List Register
arm_registers (arm.DataImmediate condition operation set_flags rd rn value) = rd ∷ rn ∷ []
arm_registers (arm.DataShifted condition operation set_flags rd rn rm shift) = rd ∷ rn ∷ rm ∷ []
arm_registers (arm.DataRegisterShifted condition operation set_flags rd rn rm shift rs) = rd ∷ rn ∷ rm ∷ rs ∷ []
arm_registers (arm.Multiply condition accumulate set_flags rd rm rs rn) = rd ∷ rm ∷ rs ∷ rn ∷ []
arm_registers (arm.MultiplyLong condition signed accumulate set_flags low high rm rs) = low ∷ high ∷ rm ∷ rs ∷ []
arm_registers (arm.Swap condition byte rd rm rn) = rd ∷ rm ∷ rn ∷ []
arm_registers (arm.BranchExchange condition rm) = rm ∷ []
arm_registers (arm.ReadStatus condition status rd) = rd ∷ []
arm_registers (arm.WriteStatus condition fields rm) = rm ∷ []
arm_registers (arm.WriteStatusImmediate condition fields value) = []
arm_registers (arm.TransferImmediate condition load byte rd a) = rd ∷ address_registers a
arm_registers (arm.TransferShifted condition load byte rd rn indexing subtract rm shift) = rd ∷ rn ∷ rm ∷ []
arm_registers (arm.TransferHalf condition load kind rd rn indexing offset) = rd ∷ rn ∷ half_registers offset
arm_registers (arm.TransferBlock condition load mode rn write_back list user) = rn ∷ list_registers list.items
arm_registers (arm.Branch condition link target) = []
arm_registers (arm.SoftwareInterrupt condition number) = []

abbrev pub operand_registers : ThumbOperand → List Register
operand_registers (operand.Register rn) = rn ∷ []
operand_registers (operand.Number e) = []

abbrev pub thumb_registers : ThumbLine → List Register
thumb_registers (thumb.ShiftImmediate shift rd rs amount) = rd ∷ rs ∷ []
thumb_registers (thumb.AddSubtract subtract rd rs o) = rd ∷ rs ∷ operand_registers o
thumb_registers (thumb.DataImmediate operation rd value) = rd ∷ []
thumb_registers (thumb.DataRegister operation rd rs) = rd ∷ rs ∷ []
thumb_registers (thumb.HighRegister operation rd rs) = rd ∷ rs ∷ []
thumb_registers (thumb.LoadLiteral rd a) = rd ∷ []
thumb_registers (thumb.TransferRegister load byte rd rn ro) = rd ∷ rn ∷ ro ∷ []
thumb_registers (thumb.TransferSigned kind rd rn ro) = rd ∷ rn ∷ ro ∷ []
thumb_registers (thumb.TransferImmediate load byte rd rn offset) = rd ∷ rn ∷ []
thumb_registers (thumb.TransferHalf load rd rn offset) = rd ∷ rn ∷ []
thumb_registers (thumb.TransferStack load rd offset) = rd ∷ []
thumb_registers (thumb.LoadAddress stack rd offset) = rd ∷ []
thumb_registers (thumb.AdjustStack subtract offset) = []
thumb_registers (thumb.PushPop load list) = list_registers list.items
thumb_registers (thumb.TransferMultiple load rn list) = rn ∷ list_registers list.items
thumb_registers (thumb.BranchConditional condition target) = []
thumb_registers (thumb.SoftwareInterrupt number) = []
thumb_registers (thumb.Branch target) = []
thumb_registers (thumb.BranchLink target) = []

abbrev pub pseudo_registers : PseudoLine → List Register
pseudo_registers (pseudo.LoadConstant condition rd value) = rd ∷ []
pseudo_registers (pseudo.Address condition rd target) = rd ∷ []
pseudo_registers (pseudo.LongAddress condition rd target) = rd ∷ []
pseudo_registers pseudo.NoOperation = []

abbrev pub registers_of : What → List Register
registers_of what.Nothing = []
registers_of (what.Arm l) = arm_registers l
registers_of (what.Thumb l) = thumb_registers l
registers_of (what.Pseudo l) = pseudo_registers l
registers_of (what.Directive l) = []

-- ---- faults of names for registers

-- a name that is none yet, another name, or no name
abbrev pub no_register : List (List ℕ) → List ℕ → Option LaidName → LineKind
no_register registers name None = UnknownWord
no_register registers name (Some n) = if list_any (same name) registers then Forward else WrongType

abbrev pub kinds_unless : Option ℕ → LineKind → List LineKind
kinds_unless (Some n) k = []
kinds_unless None k = k ∷ []

-- of a register, where a source has these names for registers and all these names, and those registers are known
abbrev pub name_kinds : List (List ℕ) → List LaidName → List Named → Register → List LineKind
name_kinds registers names known (register.Number n) = []
name_kinds registers names known (register.Named name) =
    kinds_unless (register_in name known) (no_register registers name (named_in name names))

abbrev pub names_kinds : List (List ℕ) → List LaidName → List Named → List Register → List LineKind
names_kinds registers names known [] = []
names_kinds registers names known (r ∷ rs) = name_kinds registers names known r ++ names_kinds registers names known rs

-- the number of a register, where its name is known
abbrev pub number_of : List Named → Register → Option ℕ
number_of known (register.Number n) = Some n
number_of known (register.Named name) = register_in name known

abbrev pub falls : Option ℕ → Option ℕ → Bool
falls (Some m) (Some n) = nat_lt n m
falls _ _ = false

abbrev pub range_kinds : List Named → List ListItem → List LineKind
range_kinds known [] = []
range_kinds known (item.One r ∷ is) = range_kinds known is
range_kinds known (item.Range first last ∷ is) =
    kind_if (falls (number_of known first) (number_of known last)) BadOperand ++ range_kinds known is

abbrev pub is_pc : Option ℕ → Bool
is_pc None = false
is_pc (Some n) = n == 15

-- ---- registers that a row of Thumb state has; a name that isn't known has a kind of its own

abbrev pub Numbers : Type 0
Numbers = Register → Option ℕ

abbrev pub if_known : (ℕ → Bool) → Option ℕ → Bool
if_known test None = true
if_known test (Some n) = test n

abbrev pub is_low : Numbers → Register → Bool
is_low numbers r = if_known (λ n. nat_lt n 8) (numbers r)

-- of a sum with a number: sp and pc have rows that add
abbrev pub has_sum : Bool → ℕ → Bool
has_sum subtract n = nat_lt n 8 || not subtract && (n == 13 || n == 15)

-- sp has rows of its own for ADD and SUB
abbrev pub adjusts : ImmediateOperation → Bool
adjusts immediate.Add = true
adjusts immediate.Sub = true
adjusts _ = false

-- the base of a transfer with an offset: words also by sp, and loads of them by pc
abbrev pub has_base : Bool → Bool → ℕ → Bool
has_base load byte n = nat_lt n 8 || not byte && (n == 13 || load && n == 15)

-- of a list: r0 to r7, and one register more
abbrev pub is_listed : ℕ → ℕ → Bool
is_listed more n = nat_lt n 8 || n == more

abbrev pub has_range : ℕ → Option ℕ → Option ℕ → Bool
has_range more (Some first) (Some last) = nat_lt last 8 || first == more && last == more
has_range more _ _ = true

abbrev pub has_item : ℕ → Numbers → ListItem → Bool
has_item more numbers (item.One r) = if_known (is_listed more) (numbers r)
has_item more numbers (item.Range first last) = has_range more (numbers first) (numbers last)

-- lr of PUSH, pc of POP, and none of others
abbrev pub link_register : Bool → ℕ
link_register load = if load then 15 else 14

abbrev pub has_row : Numbers → ThumbLine → Bool
has_row n (thumb.ShiftImmediate shift rd rs amount) = is_low n rd && is_low n rs
has_row n (thumb.AddSubtract subtract rd rs (operand.Register rn)) = is_low n rd && (is_low n rs && is_low n rn)
has_row n (thumb.AddSubtract subtract rd rs (operand.Number e)) = is_low n rd && if_known (has_sum subtract) (n rs)
has_row n (thumb.DataImmediate operation rd value) = if_known (λ d. nat_lt d 8 || d == 13 && adjusts operation) (n rd)
has_row n (thumb.DataRegister operation rd rs) = is_low n rd && is_low n rs
has_row n (thumb.HighRegister operation rd rs) = true
has_row n (thumb.LoadLiteral rd a) = is_low n rd
has_row n (thumb.TransferRegister load byte rd rn ro) = is_low n rd && (is_low n rn && is_low n ro)
has_row n (thumb.TransferSigned kind rd rn ro) = is_low n rd && (is_low n rn && is_low n ro)
has_row n (thumb.TransferImmediate load byte rd rn offset) = is_low n rd && if_known (has_base load byte) (n rn)
has_row n (thumb.TransferHalf load rd rn offset) = is_low n rd && is_low n rn
has_row n (thumb.TransferStack load rd offset) = is_low n rd
has_row n (thumb.LoadAddress stack rd offset) = is_low n rd
has_row n (thumb.PushPop load list) = list_all (has_item (link_register load) n) list.items
has_row n (thumb.TransferMultiple load rn list) = is_low n rn && list_all (has_item 0 n) list.items
has_row n (thumb.AdjustStack subtract offset) = true
has_row n (thumb.BranchConditional condition target) = true
has_row n (thumb.SoftwareInterrupt number) = true
has_row n (thumb.Branch target) = true
has_row n (thumb.BranchLink target) = true

-- the list of an instruction
abbrev pub thumb_list : ThumbLine → List ListItem
thumb_list (thumb.ShiftImmediate shift rd rs amount) = []
thumb_list (thumb.AddSubtract subtract rd rs o) = []
thumb_list (thumb.DataImmediate operation rd value) = []
thumb_list (thumb.DataRegister operation rd rs) = []
thumb_list (thumb.HighRegister operation rd rs) = []
thumb_list (thumb.LoadLiteral rd a) = []
thumb_list (thumb.TransferRegister load byte rd rn ro) = []
thumb_list (thumb.TransferSigned kind rd rn ro) = []
thumb_list (thumb.TransferImmediate load byte rd rn offset) = []
thumb_list (thumb.TransferHalf load rd rn offset) = []
thumb_list (thumb.TransferStack load rd offset) = []
thumb_list (thumb.LoadAddress stack rd offset) = []
thumb_list (thumb.AdjustStack subtract offset) = []
thumb_list (thumb.PushPop load list) = list.items
thumb_list (thumb.TransferMultiple load rn list) = list.items
thumb_list (thumb.BranchConditional condition target) = []
thumb_list (thumb.SoftwareInterrupt number) = []
thumb_list (thumb.Branch target) = []
thumb_list (thumb.BranchLink target) = []

abbrev pub arm_list : ArmLine → List ListItem
arm_list (arm.DataImmediate condition operation set_flags rd rn value) = []
arm_list (arm.DataShifted condition operation set_flags rd rn rm shift) = []
arm_list (arm.DataRegisterShifted condition operation set_flags rd rn rm shift rs) = []
arm_list (arm.Multiply condition accumulate set_flags rd rm rs rn) = []
arm_list (arm.MultiplyLong condition signed accumulate set_flags low high rm rs) = []
arm_list (arm.Swap condition byte rd rm rn) = []
arm_list (arm.BranchExchange condition rm) = []
arm_list (arm.ReadStatus condition status rd) = []
arm_list (arm.WriteStatus condition fields rm) = []
arm_list (arm.WriteStatusImmediate condition fields value) = []
arm_list (arm.TransferImmediate condition load byte rd a) = []
arm_list (arm.TransferShifted condition load byte rd rn indexing subtract rm shift) = []
arm_list (arm.TransferHalf condition load kind rd rn indexing offset) = []
arm_list (arm.TransferBlock condition load mode rn write_back list user) = list.items
arm_list (arm.Branch condition link target) = []
arm_list (arm.SoftwareInterrupt condition number) = []

-- the register of a literal or an address
abbrev pub has_pseudo : Numbers → PseudoLine → Bool
has_pseudo n (pseudo.LoadConstant condition rd value) = is_low n rd
has_pseudo n (pseudo.Address condition rd target) = is_low n rd
has_pseudo n (pseudo.LongAddress condition rd target) = true
has_pseudo n pseudo.NoOperation = true

-- operands that no instruction has: a range that falls, pc as the register of ADRL, and in Thumb state a register that the
-- row doesn't have
abbrev pub pseudo_kinds : Bool → List Named → PseudoLine → List LineKind
pseudo_kinds true known l = kind_if (not (has_pseudo (number_of known) l)) BadOperand
pseudo_kinds false known (pseudo.LoadConstant condition rd value) = []
pseudo_kinds false known (pseudo.Address condition rd target) = []
pseudo_kinds false known (pseudo.LongAddress condition rd target) = kind_if (is_pc (number_of known rd)) BadOperand
pseudo_kinds false known pseudo.NoOperation = []

abbrev pub operand_kinds : Bool → List Named → What → List LineKind
operand_kinds thumb known what.Nothing = []
operand_kinds thumb known (what.Arm l) = range_kinds known (arm_list l)
operand_kinds thumb known (what.Thumb l) = range_kinds known (thumb_list l) ++ kind_if (not (has_row (number_of known) l)) BadOperand
operand_kinds thumb known (what.Pseudo l) = pseudo_kinds thumb known l
operand_kinds thumb known (what.Directive l) = []

abbrev pub given_kinds : Names → Defined → List LineKind
given_kinds s (RegisterName name r) = fault_kinds (given s r)
given_kinds s _ = []

-- of a line behind others, in a source with these names for registers
abbrev pub register_kinds : List (List ℕ) → LaidLine → List LaidLine → List LineKind
register_kinds registers l before =
    given_kinds l.seen (defined_by l.statement)
    ++ names_kinds registers l.seen.list (registers_behind before) (registers_of l.statement.what)
    ++ operand_kinds l.thumb (registers_behind before) l.statement.what
