-- The lines of Thumb state, form by form.
use Rattle.std.proofs.Common.{◌≡◌, ℕ, ◌&&◌, ◌||◌, List, Bool, true, false, cond, refl, arith, Option, Some, None}
use Rattle.std.specs.Prelude.{codes, Result, Ok, Err}
use Rattle.sdt_fault.specs.declared.kinds.LineKind.{LineKind}
use Rattle.sdt_fault.specs.declared.kinds.LineKind.TheVariants.{Syntax, FloatingPoint}
use Rattle.sdt_word.specs.declared.codes.Width.{Width}
use Rattle.sdt_word.specs.declared.codes.Width.TheVariants as width
use Rattle.thumb_isa.specs.declared.instr.HighOperation.TheVariants as high
use Rattle.thumb_isa.specs.declared.instr.ImmediateOperation.{ImmediateOperation}
use Rattle.thumb_isa.specs.declared.instr.ImmediateOperation.TheVariants as immediate
use Rattle.thumb_isa.specs.declared.instr.SignedTransfer.{SignedTransfer}
use Rattle.thumb_isa.specs.declared.instr.ThumbOperation.{ThumbOperation}
use Rattle.thumb_isa.specs.declared.instr.ThumbShift.{ThumbShift}
use Rattle.asm_model.specs.declared.tokens.Token.{Token}
use Rattle.asm_model.specs.declared.exprs.Expr.{Expr}
use Rattle.asm_model.specs.declared.operands.Register.{Register}
use Rattle.asm_model.specs.declared.operands.ThumbOperand.TheVariants as operand
use Rattle.asm_model.specs.declared.statements.What.{What}
use Rattle.asm_model.specs.declared.statements.What.TheVariants as what
use Rattle.asm_model.specs.declared.thumb_lines.ThumbLine.TheVariants as line
use Rattle.asm_model.specs.Operands.{operands}
use Rattle.asm_model.specs.Readings.{and_then, mapped}
use Rattle.asm_arm.specs.Addresses.{zero}
use Rattle.asm_arm.specs.LineForms.{hash, equals, bracket, without_hash, no_operation}
use Rattle.asm_arm.specs.Lists as lists
use Rattle.asm_arm.specs.Operands.{Cuts, one, two, three, cut, between, marked, without_first, no_register, register, two_registers, three_registers}
use Rattle.asm_thumb.specs.declared.frames.Frame.{Frame}
use Rattle.asm_thumb.specs.declared.frames.Frame.TheVariants as frame
use Rattle.asm_thumb.specs.declared.mnemonics.Mnemonic.{Mnemonic}
use Rattle.asm_thumb.specs.declared.mnemonics.Mnemonic.TheVariants as mnemonic
use Rattle.asm_thumb.specs.Data.{sum_of, stack_frame, immediate_frame, high_line, low_line, pair_line, ReadsPair, sum_frame, ReadsSum, ReadsImmediate, registers_line, registers, shift_operation, shift_frame, ReadsShiftBy, ReadsShift}
use Rattle.asm_thumb.specs.Frames.{filled, ReadsWith, with_zero}
use Rattle.asm_thumb.specs.LineForms.{push_pop, multiple, exchange, ReadsAddress, ReadsWord, Reads}
use Rattle.asm_thumb.specs.Operands.{is_sp, is_pc, may_be_high, unmarked, register_list, written, written_base}
use Rattle.asm_thumb.specs.Transfers.{is_word, number_frame, based, register_line, ReadsOffset, ReadsInside, cuts_of, bracketed, ReadsBracketed, ReadsLoaded, ReadsPlace, ReadsTransfer, signed_inside, signed_transfer}
use Rattle.asm_model.specs.Said.{IsRead, RegisterSaid, AllItemsSaid, IsConditional}
use Rattle.asm_reading.proofs.ArmLemmas.{without_hash_form}
use Rattle.asm_reading.proofs.ExpressionLemmas.{zero_read, with_expression}
use Rattle.asm_reading.proofs.FormLemmas.{CutsHaveForm, SomeHaveForm, cuts_form, without_first_form, between_form}
use Rattle.asm_reading.proofs.GivesLemmas.{Gives, OptionGives, equal_gives, fault_gives, mapped_gives, followed_gives, both_give, cond_gives}
use Rattle.asm_reading.proofs.InstructionLemmas.{InstructionIn, SaidIn, idle_in}
use Rattle.asm_reading.proofs.ListLemmas.{BaseSaid, base_said, list_said}
use Rattle.asm_reading.proofs.OperandLemmas.{register_said, PairSaid, ThreeSaid, pair_said, three_said}
use Rattle.asm_reading.proofs.ThumbWordLemmas.{ThumbMnemonicSaid}
use Rattle.asm_reading.proofs.TokenLemmas.{EachHasForm}

abbrev InThumb : What → Type 0
InThumb w = InstructionIn true w

abbrev SaidInThumb : Result What LineKind → Type 0
SaidInThumb r = SaidIn true r

fault : (k : LineKind) (r : Result What LineKind) → r ≡ Err k → SaidInThumb r
fault k r h = fault_gives InThumb k r h

-- ---- lines but for their expression

abbrev FrameSaid : Frame → Type 0
FrameSaid (frame.Shift k rd rs) = RegisterSaid rd × RegisterSaid rs
FrameSaid (frame.Sum subtract rd rs) = RegisterSaid rd × RegisterSaid rs
FrameSaid (frame.Immediate o rd) = RegisterSaid rd
FrameSaid (frame.Literal rd) = RegisterSaid rd
FrameSaid (frame.Label rd) = RegisterSaid rd
FrameSaid (frame.Transfer load byte rd rn) = RegisterSaid rd × RegisterSaid rn
FrameSaid (frame.TransferHalf load rd rn) = RegisterSaid rd × RegisterSaid rn
FrameSaid (frame.TransferStack load rd) = RegisterSaid rd
FrameSaid (frame.LoadAddress stack rd) = RegisterSaid rd
FrameSaid (frame.BranchConditional c) = IsConditional c
FrameSaid (frame.Constant rd) = RegisterSaid rd
FrameSaid (frame.Address rd) = RegisterSaid rd
FrameSaid _ = Unit {0}

filled_said : (f : Frame) (e : Expr) → FrameSaid f → IsRead e → InThumb (filled f e)
filled_said (frame.Shift k rd rs) e h l = (h.0, h.1, l)
filled_said (frame.Sum subtract rd rs) e h l = (h.0, h.1, l)
filled_said (frame.Immediate o rd) e h l = (h, l)
filled_said (frame.Literal rd) e h l = (h, l)
filled_said (frame.Label rd) e h l = (h, l)
filled_said (frame.Transfer load byte rd rn) e h l = (h.0, h.1, l)
filled_said (frame.TransferHalf load rd rn) e h l = (h.0, h.1, l)
filled_said (frame.TransferStack load rd) e h l = (h, l)
filled_said (frame.LoadAddress stack rd) e h l = (h, l)
filled_said (frame.BranchConditional c) e h l = (h, l)
filled_said (frame.Constant rd) e h l = (h, l)
filled_said (frame.Address rd) e h l = (h, l)
filled_said f e h l = l

with_said : (text : List ℕ) (f : Result Frame LineKind) (ts : List Token) (r : Result What LineKind) → Gives FrameSaid f → EachHasForm text ts
    → ReadsWith text f ts r → SaidInThumb r
with_said text f ts r k g h = with_expression FrameSaid InThumb text filled f ts r g h filled_said k

zero_said : (f : Result Frame LineKind) → Gives FrameSaid f → SaidInThumb (with_zero f)
zero_said f k = mapped_gives FrameSaid InThumb (λ x. filled x zero) f (λ x p. filled_said x zero p zero_read) k

or_frame : (b : Bool) (x y : Frame) → FrameSaid x → FrameSaid y → FrameSaid (cond b x y)
or_frame true x y h k = h
or_frame false x y h k = k

-- a frame of one register, and of two
register_frame : (text : List ℕ) (make : Register → Frame) (d : List Token) → ((rd : Register) → RegisterSaid rd → FrameSaid (make rd))
    → Gives FrameSaid (mapped make (register text d))
register_frame text make d f = mapped_gives RegisterSaid FrameSaid make (register text d) f (register_said text d)

pair_frame : (text : List ℕ) (make : Register × Register → Frame) (d s : List Token) → ((p : Register × Register) → PairSaid p → FrameSaid (make p))
    → Gives FrameSaid (mapped make (two_registers text d s))
pair_frame text make d s f = mapped_gives PairSaid FrameSaid make (two_registers text d s) f (pair_said text d s)

-- ---- moves, comparisons and sums

stack_frame_said : (o : ImmediateOperation) (rd : Register) (s : Option Bool) → RegisterSaid rd → FrameSaid (stack_frame o rd s)
stack_frame_said o rd None h = h
stack_frame_said o rd (Some subtract) h = tt

immediate_frame_said : (o : ImmediateOperation) (r : Register) → RegisterSaid r → FrameSaid (immediate_frame o r)
immediate_frame_said o r h = or_frame (is_sp r) (stack_frame o r (sum_of o)) (frame.Immediate o r) (stack_frame_said o r (sum_of o) h) h

high_line_said : (o : ImmediateOperation) (rd rs : Register) → RegisterSaid rd → RegisterSaid rs → SaidInThumb (high_line o rd rs)
high_line_said immediate.Sub rd rs h k = tt
high_line_said o rd rs h k = (h, k, tt)

low_line_said : (o : ImmediateOperation) (rd rs : Register) → RegisterSaid rd → RegisterSaid rs → SaidInThumb (low_line o rd rs)
low_line_said immediate.Add rd rs h k = (h, h, k)
low_line_said immediate.Cmp rd rs h k = (h, k)
low_line_said immediate.Mov rd rs h k = zero_said (Ok (frame.Sum false rd rs)) (h, k)
low_line_said immediate.Sub rd rs h k = tt

pair_line_said : (o : ImmediateOperation) (p : Register × Register) → PairSaid p → SaidInThumb (pair_line o p.0 p.1)
pair_line_said o p h =
    cond_gives InThumb (may_be_high p.0 || may_be_high p.1) (high_line o p.0 p.1) (low_line o p.0 p.1) (high_line_said o p.0 p.1 h.0 h.1)
    (low_line_said o p.0 p.1 h.0 h.1)

pair_reads : (text : List ℕ) (o : ImmediateOperation) (d x : List Token) (n : Option (List Token)) (r : Result What LineKind) → SomeHaveForm text n
    → ReadsPair text o d x n r → SaidInThumb r
pair_reads text o d x (Some e) r f h =
    with_said text (mapped (immediate_frame o) (register text d)) e r (register_frame text (immediate_frame o) d (immediate_frame_said o)) f h
pair_reads text o d x None r f h =
    equal_gives InThumb r (and_then (two_registers text d x) (λ p. pair_line o p.0 p.1)) h
    (followed_gives PairSaid InThumb (two_registers text d x) (λ p. pair_line o p.0 p.1) (pair_line_said o) (pair_said text d x))

sum_frame_said : (subtract : Bool) (p : Register × Register) → PairSaid p → FrameSaid (sum_frame subtract p.0 p.1)
sum_frame_said true p h = h
sum_frame_said false p h =
    let from_pc = cond (is_pc p.1) (frame.LoadAddress false p.0) (frame.Sum false p.0 p.1) in
    or_frame (is_sp p.1) (frame.LoadAddress true p.0) from_pc h.0 (or_frame (is_pc p.1) (frame.LoadAddress false p.0) (frame.Sum false p.0 p.1) h.0 h)

sum_reads : (text : List ℕ) (sum : Option Bool) (d s x : List Token) (n : Option (List Token)) (r : Result What LineKind) → SomeHaveForm text n
    → ReadsSum text sum d s x n r → SaidInThumb r
sum_reads text None d s x n r f h = fault Syntax r h
sum_reads text (Some subtract) d s x (Some e) r f h =
    with_said text (mapped (λ p. sum_frame subtract p.0 p.1) (two_registers text d s)) e r
    (pair_frame text (λ p. sum_frame subtract p.0 p.1) d s (sum_frame_said subtract)) f h
sum_reads text (Some subtract) d s x None r f h =
    let make = λ (p : (Register × Register) × Register). what.Thumb (line.AddSubtract subtract p.0.0 p.0.1 (operand.Register p.1)) in
    equal_gives InThumb r (mapped make (three_registers text d s x)) h
    (mapped_gives ThreeSaid InThumb make (three_registers text d s x) (λ p q. (q.0.0, q.0.1, q.1)) (three_said text d s x))

immediate_reads : (text : List ℕ) (o : ImmediateOperation) (os : Cuts) (r : Result What LineKind) → CutsHaveForm text os → ReadsImmediate text o os r
    → SaidInThumb r
immediate_reads text o (two d x) r f h = pair_reads text o d x (without_first text hash x) r (without_first_form text hash x f.1) h
immediate_reads text o (three d s x) r f h = sum_reads text (sum_of o) d s x (without_first text hash x) r (without_first_form text hash x f.2) h
immediate_reads text o os r f h = fault Syntax r h

-- ---- operations of two registers, and shifts

registers_line_said : (text : List ℕ) (o : ThumbOperation) (d s : List Token) → SaidInThumb (registers_line text o d s)
registers_line_said text o d s =
    mapped_gives PairSaid InThumb (λ p. what.Thumb (line.DataRegister o p.0 p.1)) (two_registers text d s) (λ p q. (q.0, q.1)) (pair_said text d s)

registers_said : (text : List ℕ) (o : ThumbOperation) (os : Cuts) → SaidInThumb (registers text o os)
registers_said text o (two d s) = registers_line_said text o d s
registers_said text o os = tt

shift_by_reads : (text : List ℕ) (k : ThumbShift) (d s : List Token) (n : Option (List Token)) (r : Result What LineKind) → SomeHaveForm text n
    → ReadsShiftBy text k d s n r → SaidInThumb r
shift_by_reads text k d s None r f h = fault Syntax r h
shift_by_reads text k d s (Some e) r f h =
    with_said text (shift_frame k (two_registers text d s)) e r (pair_frame text (λ x. frame.Shift k x.0 x.1) d s (λ x p. (p.0, p.1))) f h

shift_reads : (text : List ℕ) (k : ThumbShift) (os : Cuts) (r : Result What LineKind) → CutsHaveForm text os → ReadsShift text k os r → SaidInThumb r
shift_reads text k (two d s) r f h =
    equal_gives InThumb r (registers_line text (shift_operation k) d s) h (registers_line_said text (shift_operation k) d s)
shift_reads text k (three d s x) r f h = shift_by_reads text k d s (without_first text hash x) r (without_first_form text hash x f.2) h
shift_reads text k os r f h = fault Syntax r h

-- ---- transfers

number_frame_said : (l : Bool) (w : Width) (p : Register × Register) → PairSaid p → FrameSaid (number_frame l w p.0 p.1)
number_frame_said l width.Byte p h = h
number_frame_said l width.Half p h = h
number_frame_said l width.Word p h =
    let literal = cond (l && is_pc p.1) (frame.Literal p.0) (frame.Transfer l false p.0 p.1) in
    or_frame (is_sp p.1) (frame.TransferStack l p.0) literal h.0 (or_frame (l && is_pc p.1) (frame.Literal p.0) (frame.Transfer l false p.0 p.1) h.0 h)

based_said : (text : List ℕ) (l : Bool) (w : Width) (d n : List Token) → Gives FrameSaid (based text l w d n)
based_said text l w d n = pair_frame text (λ p. number_frame l w p.0 p.1) d n (number_frame_said l w)

register_line_said : (l : Bool) (w : Width) (p : (Register × Register) × Register) → ThreeSaid p → InThumb (register_line l w p.0.0 p.0.1 p.1)
register_line_said l width.Byte p h = (h.0.0, h.0.1, h.1)
register_line_said l width.Half p h = (h.0.0, h.0.1, h.1)
register_line_said l width.Word p h = (h.0.0, h.0.1, h.1)

offset_reads : (text : List ℕ) (l : Bool) (w : Width) (d n x : List Token) (o : Option (List Token)) (r : Result What LineKind) → SomeHaveForm text o
    → ReadsOffset text l w d n x o r → SaidInThumb r
offset_reads text l w d n x (Some e) r f h = with_said text (based text l w d n) e r (based_said text l w d n) f h
offset_reads text l w d n x None r f h =
    let make = λ (p : (Register × Register) × Register). register_line l w p.0.0 p.0.1 p.1 in
    equal_gives InThumb r (mapped make (three_registers text d n x)) h
    (mapped_gives ThreeSaid InThumb make (three_registers text d n x) (register_line_said l w) (three_said text d n x))

inside_reads : (text : List ℕ) (l : Bool) (w : Width) (d : List Token) (os : Cuts) (r : Result What LineKind) → CutsHaveForm text os
    → ReadsInside text l w d os r → SaidInThumb r
inside_reads text l w d (one n) r f h = equal_gives InThumb r (with_zero (based text l w d n)) h (zero_said (based text l w d n) (based_said text l w d n))
inside_reads text l w d (two n x) r f h = offset_reads text l w d n x (without_first text hash x) r (without_first_form text hash x f.1) h
inside_reads text l w d os r f h = fault Syntax r h

bracketed_reads : (text : List ℕ) (l : Bool) (w : Width) (d : List Token) (o : Option (List Token)) (r : Result What LineKind) → SomeHaveForm text o
    → ReadsBracketed text l w d (cuts_of text o) r → SaidInThumb r
bracketed_reads text l w d None r f h = fault Syntax r h
bracketed_reads text l w d (Some ts) r f h = inside_reads text l w d (cut (operands text ts)) r (cuts_form text ts f) h

loaded_reads : (text : List ℕ) (l : Bool) (d a : List Token) (o : Option (List Token)) (r : Result What LineKind) → EachHasForm text a → SomeHaveForm text o
    → ReadsLoaded text l d a o r → SaidInThumb r
loaded_reads text false d a o r f g h = fault Syntax r h
loaded_reads text true d a (Some e) r f g h =
    with_said text (mapped (λ rd. frame.Constant rd) (register text d)) e r (register_frame text (λ rd. frame.Constant rd) d (λ rd p. p)) g h
loaded_reads text true d a None r f g h =
    with_said text (mapped (λ rd. frame.Label rd) (register text d)) a r (register_frame text (λ rd. frame.Label rd) d (λ rd p. p)) f h

place_reads : (text : List ℕ) (l : Bool) (w : Width) (d a : List Token) (o : Option (List Token)) (r : Result What LineKind) → EachHasForm text a
    → ReadsPlace text l w d a o r → SaidInThumb r
place_reads text l w d a (Some ts) r f h =
    bracketed_reads text l w d (between text bracket (codes "]") a) r (between_form text bracket (codes "]") a f) h
place_reads text l w d a None r f h =
    loaded_reads text (l && is_word w) d a (without_first text equals a) r f (without_first_form text equals a f) h

transfer_reads : (text : List ℕ) (l : Bool) (w : Width) (os : Cuts) (r : Result What LineKind) → CutsHaveForm text os → ReadsTransfer text l w os r
    → SaidInThumb r
transfer_reads text l w (two d a) r f h = place_reads text l w d a (without_first text bracket a) r f.1 h
transfer_reads text l w os r f h = fault Syntax r h

signed_inside_said : (text : List ℕ) (k : SignedTransfer) (d : List Token) (os : Option Cuts) → SaidInThumb (signed_inside text k d os)
signed_inside_said text k d (Some (two n x)) =
    mapped_gives ThreeSaid InThumb (λ p. what.Thumb (line.TransferSigned k p.0.0 p.0.1 p.1)) (three_registers text d n x) (λ p q. (q.0.0, q.0.1, q.1))
    (three_said text d n x)
signed_inside_said text k d os = tt

signed_said : (text : List ℕ) (k : SignedTransfer) (os : Cuts) → SaidInThumb (signed_transfer text k os)
signed_said text k (two d a) = signed_inside_said text k d (bracketed text a)
signed_said text k os = tt

-- ---- register lists

unmarked_said : (text : List ℕ) (us : List Token) (mark : Bool) → Gives AllItemsSaid (unmarked text (us, mark))
unmarked_said text us true = tt
unmarked_said text us false = list_said text us

register_list_said : (text : List ℕ) (ts : List Token) → Gives AllItemsSaid (register_list text ts)
register_list_said text ts = unmarked_said text (marked text (codes "^") ts).0 (marked text (codes "^") ts).1

written_said : (mark : Bool) (rn : Register) → RegisterSaid rn → Gives RegisterSaid (written mark rn)
written_said true rn h = h
written_said false rn h = tt

written_base_said : (text : List ℕ) (ts : List Token) → Gives RegisterSaid (written_base text ts)
written_base_said text ts =
    followed_gives BaseSaid RegisterSaid (lists.base text ts) (λ b. written b.1 b.0) (λ b p. written_said b.1 b.0 p) (base_said text ts)

push_pop_said : (text : List ℕ) (l : Bool) (os : Cuts) → SaidInThumb (push_pop text l os)
push_pop_said text l (one x) =
    mapped_gives AllItemsSaid InThumb (λ items. what.Thumb (line.PushPop l (record { items = items }))) (register_list text x) (λ items p. p)
    (register_list_said text x)
push_pop_said text l os = tt

multiple_said : (text : List ℕ) (l : Bool) (os : Cuts) → SaidInThumb (multiple text l os)
multiple_said text l (two b x) =
    both_give RegisterSaid AllItemsSaid InThumb (λ rn items. what.Thumb (line.TransferMultiple l rn (record { items = items }))) (written_base text b)
    (register_list text x) (λ rn items p q. (p, q)) (written_base_said text b) (register_list_said text x)
multiple_said text l os = tt

-- ---- all forms

exchange_said : (text : List ℕ) (os : Cuts) → SaidInThumb (exchange text os)
exchange_said text (one s) =
    mapped_gives RegisterSaid InThumb (λ rs. what.Thumb (line.HighRegister high.Bx no_register rs)) (register text s) (λ rs p. (omega arith, p, refl))
    (register_said text s)
exchange_said text os = tt

address_reads : (text : List ℕ) (os : Cuts) (r : Result What LineKind) → CutsHaveForm text os → ReadsAddress text os r → SaidInThumb r
address_reads text (two d e) r f h =
    with_said text (mapped (λ rd. frame.Address rd) (register text d)) e r (register_frame text (λ rd. frame.Address rd) d (λ rd p. p)) f.1 h
address_reads text os r f h = fault Syntax r h

word_reads : (text : List ℕ) (m : Mnemonic) (ts : List Token) (r : Result What LineKind) → ThumbMnemonicSaid m → EachHasForm text ts → ReadsWord text m ts r
    → SaidInThumb r
word_reads text m ts r k f = by_word m k
  where
    os : Cuts
    os = cut (operands text ts)

    by_word : (m : Mnemonic) → ThumbMnemonicSaid m → ReadsWord text m ts r → SaidInThumb r
    by_word (mnemonic.Immediate o) k h = immediate_reads text o os r (cuts_form text ts f) h
    by_word (mnemonic.Shift s) k h = shift_reads text s os r (cuts_form text ts f) h
    by_word (mnemonic.Register o) k h = equal_gives InThumb r (registers text o os) h (registers_said text o os)
    by_word (mnemonic.Transfer l w) k h = transfer_reads text l w os r (cuts_form text ts f) h
    by_word (mnemonic.TransferSigned s) k h = equal_gives InThumb r (signed_transfer text s os) h (signed_said text s os)
    by_word (mnemonic.PushPop l) k h = equal_gives InThumb r (push_pop text l os) h (push_pop_said text l os)
    by_word (mnemonic.TransferMultiple l) k h = equal_gives InThumb r (multiple text l os) h (multiple_said text l os)
    by_word (mnemonic.BranchConditional c) k h = with_said text (Ok (frame.BranchConditional c)) ts r k f h
    by_word mnemonic.Branch k h = with_said text (Ok frame.Branch) ts r tt f h
    by_word mnemonic.BranchLink k h = with_said text (Ok frame.BranchLink) ts r tt f h
    by_word mnemonic.BranchExchange k h = equal_gives InThumb r (exchange text os) h (exchange_said text os)
    by_word mnemonic.SoftwareInterrupt k h =
        let number = without_first text hash ts in
        with_said text (Ok frame.SoftwareInterrupt) (without_hash ts number) r tt (without_hash_form text ts number f (without_first_form text hash ts f)) h
    by_word mnemonic.Address k h = address_reads text os r (cuts_form text ts f) h
    by_word mnemonic.NoOperation k h = equal_gives InThumb r (no_operation ts) h (idle_in true ts)
    by_word mnemonic.FloatingPoint k h = fault FloatingPoint r h

pub thumb_instruction_said : (text : List ℕ) (unnamed : LineKind) (m : Option Mnemonic) (ts : List Token) (r : Result What LineKind)
    → OptionGives ThumbMnemonicSaid m
    → EachHasForm text ts → Reads text unnamed m ts r → SaidInThumb r
thumb_instruction_said text unnamed None ts r k f h = fault unnamed r h
thumb_instruction_said text unnamed (Some m) ts r k f h = word_reads text m ts r k f h
