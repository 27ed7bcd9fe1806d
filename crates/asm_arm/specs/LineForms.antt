-- What the tokens behind an operation word say, in each form of an ARM line. The forms are those of the ARM SDT 2.50
-- Reference Guide, chapter on the assembler: data processing, multiplication, transfers, branches, status registers,
-- and the pseudo-instructions. A form that the tokens don't have is Syntax. Registers are judged by the row and not here,
-- and so are values.
use Rattle.std.specs.Prelude.{◌≡◌, ℕ, List, [], ◌∷◌, codes, not, ◌&&◌, Bool, true, false, Option, Some, None, Result, Ok, Err}
use Rattle.sdt_fault.specs.declared.kinds.LineKind.{LineKind}
use Rattle.sdt_fault.specs.declared.kinds.LineKind.TheVariants.{Syntax, FloatingPoint}
use Rattle.sdt_word.specs.declared.codes.Condition.{Condition}
use Rattle.arm_isa.specs.declared.instr.Operation.{Operation}
use Rattle.arm_isa.specs.declared.instr.HalfKind.{HalfKind}
use Rattle.arm_isa.specs.declared.instr.HalfKind.TheVariants as half
use Rattle.asm_model.specs.declared.tokens.Token.{Token}
use Rattle.asm_model.specs.declared.exprs.Expr.{Expr}
use Rattle.asm_model.specs.declared.arm_lines.ArmLine.TheVariants as line
use Rattle.asm_model.specs.declared.operands.Register.{Register}
use Rattle.asm_model.specs.declared.operands.ListItem.{ListItem}
use Rattle.asm_model.specs.declared.operands.StatusFields.{StatusFields}
use Rattle.asm_model.specs.declared.operands.Address.TheVariants as address
use Rattle.asm_model.specs.declared.operands.Indexing.{Indexing}
use Rattle.asm_model.specs.declared.operands.BlockMode.{BlockMode}
use Rattle.asm_model.specs.declared.statements.PseudoLine.TheVariants as pseudo
use Rattle.asm_model.specs.declared.statements.What.{What}
use Rattle.asm_model.specs.declared.statements.What.TheVariants as what
use Rattle.asm_model.specs.Grammar.{ParsesTokens}
use Rattle.asm_model.specs.Operands.{operands}
use Rattle.asm_model.specs.Readings.{and_then, both, mapped, on_both}
use Rattle.asm_model.specs.Says.{Expression}
use Rattle.asm_arm.specs.declared.mnemonics.Mnemonic.{Mnemonic}
use Rattle.asm_arm.specs.declared.mnemonics.Mnemonic.TheVariants as mnemonic
use Rattle.asm_arm.specs.declared.mnemonics.Shape.{Shape}
use Rattle.asm_arm.specs.declared.mnemonics.Shape.TheVariants as shape
use Rattle.asm_arm.specs.declared.operands.Second.{Second}
use Rattle.asm_arm.specs.declared.operands.Second.TheVariants as second
use Rattle.asm_arm.specs.declared.addresses.Offset.{Offset}
use Rattle.asm_arm.specs.declared.addresses.Offset.TheVariants as offset_is
use Rattle.asm_arm.specs.declared.addresses.Addressed.{Addressed}
use Rattle.asm_arm.specs.Addresses.{zero, ReadsBefore, ReadsAfter, base, before_as, after_as, half_offset}
use Rattle.asm_arm.specs.Lists as lists
use Rattle.asm_arm.specs.Operands.{Cuts, one, two, three, four, cut, without_first, no_register}
use Rattle.asm_arm.specs.Operands.{register, two_registers, three_registers, ReadsSecond}
use Rattle.asm_arm.specs.Mnemonics.{shape_of}

-- the signs in front of operands
abbrev pub hash : List ℕ
hash = codes "#"

abbrev pub equals : List ℕ
equals = codes "="

abbrev pub bracket : List ℕ
bracket = codes "["

-- data processing, from Rd, Rn and the second operand
abbrev pub data_line : Condition → Operation → Bool → Register → Register → Second → What
data_line c o s rd rn (second.Number v) = what.Arm (line.DataImmediate c o s rd rn v)
data_line c o s rd rn (second.Shifted rm sh) = what.Arm (line.DataShifted c o s rd rn rm sh)
data_line c o s rd rn (second.RegisterShifted rm k rs) = what.Arm (line.DataRegisterShifted c o s rd rn rm k rs)

-- a register that isn't named
abbrev pub absent : Result Register LineKind
absent = Ok no_register

-- Rd and Rn as they are read, and the second operand from its tokens
abbrev pub ReadsData : List ℕ → Condition → Operation → Bool → Result (Register × Register) LineKind → List Token → Option (List Token)
    → Result What LineKind → Type 0
ReadsData text c o s rs x sh r =
    (y : Result Second LineKind) × ReadsSecond text x sh y × (r ≡ on_both (λ p z. data_line c o s p.0 p.1 z) rs y)

-- the operands of MOV and MVN, of comparisons, which always set the flags, and of the others
abbrev pub ReadsMove : List ℕ → Condition → Operation → Bool → Cuts → Result What LineKind → Type 0
ReadsMove text c o s (two d x) r = ReadsData text c o s (both (register text d) absent) x None r
ReadsMove text c o s (three d x sh) r = ReadsData text c o s (both (register text d) absent) x (Some sh) r
ReadsMove text c o s _ r = r ≡ Err Syntax

abbrev pub ReadsComparison : List ℕ → Condition → Operation → Bool → Cuts → Result What LineKind → Type 0
ReadsComparison text c o s (two n x) r = ReadsData text c o s (both absent (register text n)) x None r
ReadsComparison text c o s (three n x sh) r = ReadsData text c o s (both absent (register text n)) x (Some sh) r
ReadsComparison text c o s _ r = r ≡ Err Syntax

abbrev pub ReadsSum : List ℕ → Condition → Operation → Bool → Cuts → Result What LineKind → Type 0
ReadsSum text c o s (three d n x) r = ReadsData text c o s (two_registers text d n) x None r
ReadsSum text c o s (four d n x sh) r = ReadsData text c o s (two_registers text d n) x (Some sh) r
ReadsSum text c o s _ r = r ≡ Err Syntax

abbrev pub ReadsShape : List ℕ → Condition → Operation → Bool → Shape → Cuts → Result What LineKind → Type 0
ReadsShape text c o s shape.Move os r = ReadsMove text c o s os r
ReadsShape text c o s shape.Comparison os r = ReadsComparison text c o true os r
ReadsShape text c o s shape.Sum os r = ReadsSum text c o s os r

-- Rd, Rm, Rs, and Rn where it accumulates
abbrev pub multiply : List ℕ → Condition → Bool → Bool → Cuts → Result What LineKind
multiply text c false s (three d m x) =
    mapped (λ p. what.Arm (line.Multiply c false s p.0.0 p.0.1 p.1 no_register)) (three_registers text d m x)
multiply text c true s (four d m x n) =
    mapped (λ p. what.Arm (line.Multiply c true s p.0.0 p.0.1 p.1.0 p.1.1)) (both (two_registers text d m) (two_registers text x n))
multiply text c a s _ = Err Syntax

-- the low and the high half of the result, Rm and Rs
abbrev pub multiply_long : List ℕ → Condition → Bool → Bool → Bool → Cuts → Result What LineKind
multiply_long text c g a s (four l h m x) =
    mapped (λ p. what.Arm (line.MultiplyLong c g a s p.0.0 p.0.1 p.1.0 p.1.1)) (both (two_registers text l h) (two_registers text m x))
multiply_long text c g a s _ = Err Syntax

-- a base alone in brackets
abbrev pub based : List ℕ → Option (List Token) → Result Register LineKind
based text None = Err Syntax
based text (Some ts) = register text ts

-- Rd, Rm and [Rn]
abbrev pub swap : List ℕ → Condition → Bool → Cuts → Result What LineKind
swap text c b (three d m a) =
    mapped (λ p. what.Arm (line.Swap c b p.0.0 p.0.1 p.1)) (both (two_registers text d m) (based text (base text a)))
swap text c b _ = Err Syntax

abbrev pub exchange : List ℕ → Condition → Cuts → Result What LineKind
exchange text c (one m) = mapped (λ rm. what.Arm (line.BranchExchange c rm)) (register text m)
exchange text c _ = Err Syntax

-- Rd and a status register
abbrev pub read_status : List ℕ → Condition → Cuts → Result What LineKind
read_status text c (two d p) = on_both (λ rd p. what.Arm (line.ReadStatus c p rd)) (register text d) (lists.status text p)
read_status text c _ = Err Syntax

abbrev pub ReadsStatusValue : List ℕ → Condition → Result (Option StatusFields) LineKind → List Token → Option (List Token)
    → Result What LineKind → Type 0
ReadsStatusValue text c f m (Some e) r =
    (v : Result Expr LineKind) × ParsesTokens text e v
    × (r ≡ on_both (λ p x. what.Arm (line.WriteStatusImmediate c p x)) f v)
ReadsStatusValue text c f m None r = r ≡ on_both (λ p rm. what.Arm (line.WriteStatus c p rm)) f (register text m)

-- a status register with its fields, and a register or a number
abbrev pub ReadsWriteStatus : List ℕ → Condition → Cuts → Result What LineKind → Type 0
ReadsWriteStatus text c (two p m) r = ReadsStatusValue text c (lists.fields text p) m (without_first text hash m) r
ReadsWriteStatus text c _ r = r ≡ Err Syntax

-- a transfer of a word or a byte, from its address
abbrev pub moved : Condition → Bool → Bool → Register → Indexing → Register → Offset → What
moved c l b rd i rn offset_is.Absent = what.Arm (line.TransferImmediate c l b rd (address.Based rn i zero))
moved c l b rd i rn (offset_is.Number v) = what.Arm (line.TransferImmediate c l b rd (address.Based rn i v))
moved c l b rd i rn (offset_is.Register subtract rm sh) = what.Arm (line.TransferShifted c l b rd rn i subtract rm sh)

abbrev pub transfer_line : Condition → Bool → Bool → Register → Addressed → What
transfer_line c l b rd a = moved c l b rd a.indexing a.rn a.offset

-- whether a transfer moves a word without translation, so that it takes a label
abbrev pub is_plain : Bool → Bool → Bool
is_plain b t = not b && not t

-- Rd and a number that is loaded, behind an equals sign
abbrev pub ReadsConstant : List ℕ → Condition → Bool → List Token → List Token → Result What LineKind → Type 0
ReadsConstant text c true d e r =
    (v : Result Expr LineKind) × ParsesTokens text e v × (r ≡ on_both (λ rd x. what.Pseudo (pseudo.LoadConstant c rd x)) (register text d)
    v)
ReadsConstant text c false d e r = r ≡ Err Syntax

-- Rd and a label
abbrev pub ReadsLabel : List ℕ → Condition → Bool → Bool → List Token → List Token → Result What LineKind → Type 0
ReadsLabel text c l true d e r =
    (v : Result Expr LineKind) × ParsesTokens text e v
    × (r ≡ on_both (λ rd x. what.Arm (line.TransferImmediate c l false rd (address.Label x))) (register text d) v)
ReadsLabel text c l false d e r = r ≡ Err Syntax

-- Rd and an address whose reading is known
abbrev pub transferred : List ℕ → Condition → Bool → Bool → List Token → Result Addressed LineKind → Result What LineKind
transferred text c l b d a = on_both (λ rd x. transfer_line c l b rd x) (register text d) a

abbrev pub ReadsOther : List ℕ → Condition → Bool → Bool → Bool → List Token → List Token → Option (List Token) → Result What LineKind
    → Type 0
ReadsOther text c l b t d a (Some e) r = ReadsConstant text c (l && is_plain b t) d e r
ReadsOther text c l b t d a None r = ReadsLabel text c l (is_plain b t) d a r

-- an address in brackets
abbrev pub ReadsBased : List ℕ → Condition → Bool → Bool → Bool → List Token → List Token → Result What LineKind → Type 0
ReadsBased text c l b t d a r =
    (p : Result Addressed LineKind) × ReadsBefore text true a p × (r ≡ transferred text c l b d (before_as text t a p))

-- one operand behind Rd: an address in brackets, a number behind an equals sign, or a label
abbrev pub ReadsPlace : List ℕ → Condition → Bool → Bool → Bool → List Token → List Token → Option (List Token) → Result What LineKind
    → Type 0
ReadsPlace text c l b t d a (Some e) r = ReadsBased text c l b t d a r
ReadsPlace text c l b t d a None r = ReadsOther text c l b t d a (without_first text equals a) r

abbrev pub ReadsMoved : List ℕ → Condition → Bool → Bool → Bool → List Token → List Token → List Token → Option (List Token)
    → Result What LineKind → Type 0
ReadsMoved text c l b t d a x sh r =
    (p : Result Addressed LineKind) × ReadsAfter text a x sh p × (r ≡ transferred text c l b d (after_as t p))

-- a transfer of a word or a byte
abbrev pub ReadsTransfer : List ℕ → Condition → Bool → Bool → Bool → Cuts → Result What LineKind → Type 0
ReadsTransfer text c l b t (two d a) r = ReadsPlace text c l b t d a (without_first text bracket a) r
ReadsTransfer text c l b t (three d a x) r = ReadsMoved text c l b t d a x None r
ReadsTransfer text c l b t (four d a x sh) r = ReadsMoved text c l b t d a x (Some sh) r
ReadsTransfer text c l b t _ r = r ≡ Err Syntax

-- a transfer of a half-word or a signed byte, from its address
abbrev pub half_line : Condition → Bool → HalfKind → Register → Addressed → Result What LineKind
half_line c l k rd a = mapped (λ o. what.Arm (line.TransferHalf c l k rd a.rn a.indexing o)) (half_offset a.offset)

abbrev pub half_moved : List ℕ → Condition → Bool → HalfKind → List Token → Result Addressed LineKind → Result What LineKind
half_moved text c l k d a = and_then (both (register text d) a) (λ p. half_line c l k p.0 p.1)

abbrev pub ReadsHalf : List ℕ → Condition → Bool → HalfKind → Cuts → Result What LineKind → Type 0
ReadsHalf text c l k (two d a) r = (p : Result Addressed LineKind) × ReadsBefore text false a p × (r ≡ half_moved text c l k d p)
ReadsHalf text c l k (three d a x) r = (p : Result Addressed LineKind) × ReadsAfter text a x None p × (r ≡ half_moved text c l k d p)
ReadsHalf text c l k _ r = r ≡ Err Syntax

-- a base and a register list
abbrev pub block_line : Condition → Bool → BlockMode → Register × Bool → List ListItem × Bool → What
block_line c l m b x = what.Arm (line.TransferBlock c l m b.0 b.1 (record { items = x.0 }) x.1)

abbrev pub block : List ℕ → Condition → Bool → BlockMode → Cuts → Result What LineKind
block text c l m (two b x) = on_both (λ p q. block_line c l m p q) (lists.base text b) (lists.register_list text x)
block text c l m _ = Err Syntax

-- a number, before which # may stand
abbrev pub without_hash : List Token → Option (List Token) → List Token
without_hash ts (Some e) = e
without_hash ts None = ts

-- ADR and ADRL, of Rd and a label
abbrev pub address_line : Condition → Bool → Register → Expr → What
address_line c false rd e = what.Pseudo (pseudo.Address c rd e)
address_line c true rd e = what.Pseudo (pseudo.LongAddress c rd e)

abbrev pub ReadsAddress : List ℕ → Condition → Bool → Cuts → Result What LineKind → Type 0
ReadsAddress text c long (two d e) r =
    (v : Result Expr LineKind) × ParsesTokens text e v × (r ≡ on_both (address_line c long) (register text d) v)
ReadsAddress text c long _ r = r ≡ Err Syntax

-- no operands
abbrev pub no_operation : List Token → Result What LineKind
no_operation [] = Ok (what.Pseudo pseudo.NoOperation)
no_operation (t ∷ ts) = Err Syntax

-- what the tokens behind an operation word say
abbrev pub ReadsWord : List ℕ → Mnemonic → Condition → List Token → Result What LineKind → Type 0
ReadsWord text (mnemonic.Data o s) c ts r = ReadsShape text c o s (shape_of o) (cut (operands text ts)) r
ReadsWord text (mnemonic.Multiply a s) c ts r = r ≡ multiply text c a s (cut (operands text ts))
ReadsWord text (mnemonic.MultiplyLong g a s) c ts r = r ≡ multiply_long text c g a s (cut (operands text ts))
ReadsWord text (mnemonic.Swap b) c ts r = r ≡ swap text c b (cut (operands text ts))
ReadsWord text mnemonic.BranchExchange c ts r = r ≡ exchange text c (cut (operands text ts))
ReadsWord text mnemonic.ReadStatus c ts r = r ≡ read_status text c (cut (operands text ts))
ReadsWord text mnemonic.WriteStatus c ts r = ReadsWriteStatus text c (cut (operands text ts)) r
ReadsWord text (mnemonic.Transfer l b t) c ts r = ReadsTransfer text c l b t (cut (operands text ts)) r
ReadsWord text (mnemonic.LoadHalf k) c ts r = ReadsHalf text c true k (cut (operands text ts)) r
ReadsWord text mnemonic.StoreHalf c ts r = ReadsHalf text c false half.Half (cut (operands text ts)) r
ReadsWord text (mnemonic.TransferBlock l m) c ts r = r ≡ block text c l m (cut (operands text ts))
ReadsWord text (mnemonic.Branch l) c ts r = Expression text (λ e. what.Arm (line.Branch c l e)) ts r
ReadsWord text mnemonic.SoftwareInterrupt c ts r =
    Expression text (λ e. what.Arm (line.SoftwareInterrupt c e)) (without_hash ts (without_first text hash ts)) r
ReadsWord text mnemonic.Address c ts r = ReadsAddress text c false (cut (operands text ts)) r
ReadsWord text mnemonic.LongAddress c ts r = ReadsAddress text c true (cut (operands text ts)) r
ReadsWord text mnemonic.NoOperation c ts r = r ≡ no_operation ts
ReadsWord text mnemonic.FloatingPoint c ts r = r ≡ Err FloatingPoint

-- the same, of an operation that may have no name, and the kind of the fault then
abbrev pub Reads : List ℕ → LineKind → Option (Mnemonic × Condition) → List Token → Result What LineKind → Type 0
Reads text k None ts r = r ≡ Err k
Reads text k (Some m) ts r = ReadsWord text m.0 m.1 ts r
