-- The lines of ARM state, form by form.
use Rattle.std.proofs.Common.{◌≡◌, ℕ, ◌&&◌, List, Bool, true, false, refl, arith, Option, Some, None}
use Rattle.std.specs.Prelude.{Result, Ok, Err}
use Rattle.sdt_fault.specs.declared.kinds.LineKind.{LineKind}
use Rattle.sdt_fault.specs.declared.kinds.LineKind.TheVariants.{Syntax, FloatingPoint}
use Rattle.sdt_word.specs.declared.codes.Condition.{Condition}
use Rattle.arm_isa.specs.declared.instr.Operation.{Operation}
use Rattle.arm_isa.specs.declared.instr.Operation.TheVariants as operation
use Rattle.arm_isa.specs.declared.instr.HalfKind.{HalfKind}
use Rattle.arm_isa.specs.declared.instr.HalfKind.TheVariants as half
use Rattle.asm_model.specs.declared.tokens.Token.{Token}
use Rattle.asm_model.specs.declared.exprs.Expr.{Expr}
use Rattle.asm_model.specs.declared.arm_lines.ArmLine.TheVariants as line
use Rattle.asm_model.specs.declared.operands.Register.{Register}
use Rattle.asm_model.specs.declared.operands.Address.TheVariants as address
use Rattle.asm_model.specs.declared.operands.Indexing.{Indexing}
use Rattle.asm_model.specs.declared.operands.BlockMode.{BlockMode}
use Rattle.asm_model.specs.declared.statements.PseudoLine.TheVariants as pseudo
use Rattle.asm_model.specs.declared.statements.What.{What}
use Rattle.asm_model.specs.declared.statements.What.TheVariants as what
use Rattle.asm_model.specs.Operands.{operands}
use Rattle.asm_model.specs.Readings.{both, on_both}
use Rattle.asm_arm.specs.declared.mnemonics.Mnemonic.{Mnemonic}
use Rattle.asm_arm.specs.declared.mnemonics.Mnemonic.TheVariants as mnemonic
use Rattle.asm_arm.specs.declared.operands.Second.{Second}
use Rattle.asm_arm.specs.declared.operands.Second.TheVariants as second
use Rattle.asm_arm.specs.declared.addresses.Offset.{Offset}
use Rattle.asm_arm.specs.declared.addresses.Offset.TheVariants as offset_is
use Rattle.asm_arm.specs.declared.addresses.Addressed.{Addressed}
use Rattle.asm_arm.specs.Addresses.{base, before_as, after_as, half_offset}
use Rattle.asm_arm.specs.LineForms.{hash, equals, bracket, data_line, absent, ReadsData, ReadsMove, ReadsComparison, ReadsSum, ReadsShape, multiply, multiply_long, based, swap, exchange, read_status, ReadsStatusValue, ReadsWriteStatus, moved, transfer_line, is_plain, ReadsConstant, ReadsLabel, transferred, ReadsOther, ReadsPlace, ReadsMoved, ReadsTransfer, half_line, half_moved, ReadsHalf, block_line, block, without_hash, address_line, ReadsAddress, no_operation, ReadsWord, Reads}
use Rattle.asm_arm.specs.Lists as lists
use Rattle.asm_arm.specs.Operands.{Cuts, one, two, three, four, cut, without_first, no_register, register, two_registers, three_registers}
use Rattle.asm_arm.specs.Mnemonics.{shape_of}
use Rattle.asm_model.specs.Said.{IsRead, RegisterSaid, OperationSaid, HalfSaid, HalfOffsetSaid, FieldsSaid}
use Rattle.asm_reading.proofs.AddressLemmas.{OffsetSaid, AddressedSaid, PlacedSaid, before_said, after_said, before_as_said, after_as_said, half_offset_said}
use Rattle.asm_reading.proofs.ExpressionLemmas.{zero_read, expression_gives, with_expression}
use Rattle.asm_reading.proofs.FormLemmas.{CutsHaveForm, SomeHaveForm, cuts_form, without_first_form}
use Rattle.asm_reading.proofs.GivesLemmas.{Gives, equal_gives, fault_gives, any_gives, mapped_gives, followed_gives, both_give}
use Rattle.asm_reading.proofs.InstructionLemmas.{InstructionIn, SaidIn, idle_in}
use Rattle.asm_reading.proofs.ListLemmas.{BaseSaid, base_said, ListSaid, register_list_said, fields_said}
use Rattle.asm_reading.proofs.OperandLemmas.{register_said, PairSaid, ThreeSaid, FourSaid, pair_said, three_said, four_said, SecondSaid, second_said}
use Rattle.asm_reading.proofs.TokenLemmas.{EachHasForm}

abbrev InstructionSaid : What → Type 0
InstructionSaid w = InstructionIn false w

abbrev Said : Result What LineKind → Type 0
Said r = SaidIn false r

fault : (k : LineKind) (r : Result What LineKind) → r ≡ Err k → Said r
fault k r h = fault_gives InstructionSaid k r h

-- ---- data processing

-- Rd and Rn with what the operation leaves out
abbrev DataSaid : Operation → Bool → Register × Register → Type 0
DataSaid o s p = PairSaid p × OperationSaid o s p.0 p.1

data_line_said : (c : Condition) (o : Operation) (s : Bool) (p : Register × Register) (z : Second) → DataSaid o s p → SecondSaid z
    → InstructionSaid (data_line c o s p.0 p.1 z)
data_line_said c o s p (second.Number v) h k = (h.0.0, h.0.1, h.1, k)
data_line_said c o s p (second.Shifted rm by) h k = (h.0.0, h.0.1, h.1, k.0, k.1)
data_line_said c o s p (second.RegisterShifted rm g rs) h k = (h.0.0, h.0.1, h.1, k.0, k.1)

data_said : (text : List ℕ) (c : Condition) (o : Operation) (s : Bool) (rs : Result (Register × Register) LineKind) (x : List Token) (sh : Option (List Token))
    (r : Result What LineKind) → Gives (DataSaid o s) rs → EachHasForm text x → SomeHaveForm text sh → ReadsData text c o s rs x sh r → Said r
data_said text c o s rs x sh r d f g h =
    equal_gives InstructionSaid r (on_both (λ p z. data_line c o s p.0 p.1 z) rs h.0) h.2
    (both_give (DataSaid o s) SecondSaid InstructionSaid (λ p z. data_line c o s p.0 p.1 z) rs h.0 (data_line_said c o s) d (second_said text x sh h.0 f g h.1))

absent_said : RegisterSaid no_register
absent_said = omega arith

move_said : (text : List ℕ) (c : Condition) (o : Operation) (s : Bool) (os : Cuts) (r : Result What LineKind)
    → ((d : Register) → OperationSaid o s d no_register)
    → CutsHaveForm text os → ReadsMove text c o s os r → Said r
move_said text c o s os r m = by_operands os
  where
    of_register : (d : Result Register LineKind) → Gives RegisterSaid d → Gives (DataSaid o s) (both d absent)
    of_register (Ok d) h = ((h, absent_said), m d)
    of_register (Err k) h = tt

    by_operands : (os : Cuts) → CutsHaveForm text os → ReadsMove text c o s os r → Said r
    by_operands (two d x) f h = data_said text c o s (both (register text d) absent) x None r (of_register (register text d) (register_said text d)) f.1 tt h
    by_operands (three d x sh) f h =
        data_said text c o s (both (register text d) absent) x (Some sh) r (of_register (register text d) (register_said text d)) f.1 f.2 h
    by_operands os f h = fault Syntax r h

comparison_said : (text : List ℕ) (c : Condition) (o : Operation) (os : Cuts) (r : Result What LineKind) → ((n : Register) → OperationSaid o true no_register n)
    → CutsHaveForm text os → ReadsComparison text c o true os r → Said r
comparison_said text c o os r m = by_operands os
  where
    of_register : (n : Result Register LineKind) → Gives RegisterSaid n → Gives (DataSaid o true) (both absent n)
    of_register (Ok n) h = ((absent_said, h), m n)
    of_register (Err k) h = tt

    by_operands : (os : Cuts) → CutsHaveForm text os → ReadsComparison text c o true os r → Said r
    by_operands (two n x) f h = data_said text c o true (both absent (register text n)) x None r (of_register (register text n) (register_said text n)) f.1 tt h
    by_operands (three n x sh) f h =
        data_said text c o true (both absent (register text n)) x (Some sh) r (of_register (register text n) (register_said text n)) f.1 f.2 h
    by_operands os f h = fault Syntax r h

sum_said : (text : List ℕ) (c : Condition) (o : Operation) (s : Bool) (os : Cuts) (r : Result What LineKind) → ((p q : Register) → OperationSaid o s p q)
    → CutsHaveForm text os → ReadsSum text c o s os r → Said r
sum_said text c o s os r m = by_operands os
  where
    of_registers : (p : Result (Register × Register) LineKind) → Gives PairSaid p → Gives (DataSaid o s) p
    of_registers (Ok p) h = (h, m p.0 p.1)
    of_registers (Err k) h = tt

    by_operands : (os : Cuts) → CutsHaveForm text os → ReadsSum text c o s os r → Said r
    by_operands (three d n x) f h = data_said text c o s (two_registers text d n) x None r (of_registers (two_registers text d n) (pair_said text d n)) f.2 tt h
    by_operands (four d n x sh) f h =
        data_said text c o s (two_registers text d n) x (Some sh) r (of_registers (two_registers text d n) (pair_said text d n)) f.2 f.3 h
    by_operands os f h = fault Syntax r h

shape_said : (text : List ℕ) (c : Condition) (o : Operation) (s : Bool) (os : Cuts) (r : Result What LineKind) → CutsHaveForm text os
    → ReadsShape text c o s (shape_of o) os r → Said r
shape_said text c operation.Tst s os r f h = comparison_said text c operation.Tst os r (λ n. record { flags = refl; none = refl }) f h
shape_said text c operation.Teq s os r f h = comparison_said text c operation.Teq os r (λ n. record { flags = refl; none = refl }) f h
shape_said text c operation.Cmp s os r f h = comparison_said text c operation.Cmp os r (λ n. record { flags = refl; none = refl }) f h
shape_said text c operation.Cmn s os r f h = comparison_said text c operation.Cmn os r (λ n. record { flags = refl; none = refl }) f h
shape_said text c operation.Mov s os r f h = move_said text c operation.Mov s os r (λ d. refl) f h
shape_said text c operation.Mvn s os r f h = move_said text c operation.Mvn s os r (λ d. refl) f h
shape_said text c o s os r f h = sum_said text c o s os r (λ p q. tt) f h

-- ---- multiplication and the swap

multiply_said : (text : List ℕ) (c : Condition) (a s : Bool) (os : Cuts) → Said (multiply text c a s os)
multiply_said text c false s (three d m x) =
    mapped_gives ThreeSaid InstructionSaid (λ p. what.Arm (line.Multiply c false s p.0.0 p.0.1 p.1 no_register)) (three_registers text d m x)
    (λ p q. (q.0.0, q.0.1, q.1, absent_said, refl)) (three_said text d m x)
multiply_said text c true s (four d m x n) =
    mapped_gives FourSaid InstructionSaid (λ p. what.Arm (line.Multiply c true s p.0.0 p.0.1 p.1.0 p.1.1))
    (both (two_registers text d m) (two_registers text x n))
    (λ p q. (q.0.0, q.0.1, q.1.0, q.1.1, tt)) (four_said text d m x n)
multiply_said text c a s os = tt

multiply_long_said : (text : List ℕ) (c : Condition) (g a s : Bool) (os : Cuts) → Said (multiply_long text c g a s os)
multiply_long_said text c g a s (four l h m x) =
    mapped_gives FourSaid InstructionSaid (λ p. what.Arm (line.MultiplyLong c g a s p.0.0 p.0.1 p.1.0 p.1.1))
    (both (two_registers text l h) (two_registers text m x))
    (λ p q. (q.0.0, q.0.1, q.1.0, q.1.1)) (four_said text l h m x)
multiply_long_said text c g a s os = tt

based_said : (text : List ℕ) (o : Option (List Token)) → Gives RegisterSaid (based text o)
based_said text None = tt
based_said text (Some ts) = register_said text ts

swap_said : (text : List ℕ) (c : Condition) (b : Bool) (os : Cuts) → Said (swap text c b os)
swap_said text c b (three d m a) =
    mapped_gives ThreeSaid InstructionSaid (λ p. what.Arm (line.Swap c b p.0.0 p.0.1 p.1)) (both (two_registers text d m) (based text (base text a)))
    (λ p q. (q.0.0, q.0.1, q.1))
    (both_give PairSaid RegisterSaid ThreeSaid (λ x y. (x, y)) (two_registers text d m) (based text (base text a)) (λ x y p q. (p, q)) (pair_said text d m)
    (based_said text (base text a)))
swap_said text c b os = tt

exchange_said : (text : List ℕ) (c : Condition) (os : Cuts) → Said (exchange text c os)
exchange_said text c (one m) =
    mapped_gives RegisterSaid InstructionSaid (λ rm. what.Arm (line.BranchExchange c rm)) (register text m) (λ rm p. p) (register_said text m)
exchange_said text c os = tt

-- ---- status registers

read_status_said : (text : List ℕ) (c : Condition) (os : Cuts) → Said (read_status text c os)
read_status_said text c (two d p) =
    both_give RegisterSaid (λ s. Unit {0}) InstructionSaid (λ rd p. what.Arm (line.ReadStatus c p rd)) (register text d) (lists.status text p)
    (λ rd s p q. p)
    (register_said text d) (any_gives (lists.status text p))
read_status_said text c os = tt

status_value_said : (text : List ℕ) (c : Condition) (p m : List Token) (o : Option (List Token)) (r : Result What LineKind) → SomeHaveForm text o
    → ReadsStatusValue text c (lists.fields text p) m o r → Said r
status_value_said text c p m (Some e) r f h =
    with_expression FieldsSaid InstructionSaid text (λ q x. what.Arm (line.WriteStatusImmediate c q x)) (lists.fields text p) e r f h (λ q x a b. (a, b))
    (fields_said text p)
status_value_said text c p m None r f h =
    equal_gives InstructionSaid r (on_both (λ q rm. what.Arm (line.WriteStatus c q rm)) (lists.fields text p) (register text m)) h
    (both_give FieldsSaid RegisterSaid InstructionSaid (λ q rm. what.Arm (line.WriteStatus c q rm)) (lists.fields text p) (register text m)
    (λ q x a b. (a, b))
    (fields_said text p) (register_said text m))

write_status_said : (text : List ℕ) (c : Condition) (os : Cuts) (r : Result What LineKind) → CutsHaveForm text os → ReadsWriteStatus text c os r → Said r
write_status_said text c (two p m) r f h = status_value_said text c p m (without_first text hash m) r (without_first_form text hash m f.1) h
write_status_said text c os r f h = fault Syntax r h

-- ---- transfers of words and bytes

moved_said : (c : Condition) (l b : Bool) (rd : Register) (i : Indexing) (rn : Register) (o : Offset) → RegisterSaid rd → RegisterSaid rn → OffsetSaid o
    → InstructionSaid (moved c l b rd i rn o)
moved_said c l b rd i rn offset_is.Absent d n h = (d, (n, zero_read))
moved_said c l b rd i rn (offset_is.Number v) d n h = (d, (n, h))
moved_said c l b rd i rn (offset_is.Register subtract rm sh) d n h = (d, n, h.0, h.1)

transferred_said : (text : List ℕ) (c : Condition) (l b : Bool) (d : List Token) (a : Result Addressed LineKind) → Gives AddressedSaid a
    → Said (transferred text c l b d a)
transferred_said text c l b d a h =
    both_give RegisterSaid AddressedSaid InstructionSaid (λ rd x. transfer_line c l b rd x) (register text d) a
    (λ rd x p q. moved_said c l b rd x.indexing x.rn x.offset p q.0 q.1) (register_said text d) h

constant_said : (text : List ℕ) (c : Condition) (l : Bool) (d e : List Token) (r : Result What LineKind) → EachHasForm text e → ReadsConstant text c l d e r
    → Said r
constant_said text c true d e r f h =
    with_expression RegisterSaid InstructionSaid text (λ rd x. what.Pseudo (pseudo.LoadConstant c rd x)) (register text d) e r f h (λ rd x p q. (p, q))
    (register_said text d)
constant_said text c false d e r f h = fault Syntax r h

label_said : (text : List ℕ) (c : Condition) (l w : Bool) (d e : List Token) (r : Result What LineKind) → EachHasForm text e → ReadsLabel text c l w d e r
    → Said r
label_said text c l true d e r f h =
    with_expression RegisterSaid InstructionSaid text (λ rd x. what.Arm (line.TransferImmediate c l false rd (address.Label x))) (register text d) e r f h
    (λ rd x p q. (p, q)) (register_said text d)
label_said text c l false d e r f h = fault Syntax r h

other_said : (text : List ℕ) (c : Condition) (l b t : Bool) (d a : List Token) (o : Option (List Token)) (r : Result What LineKind) → EachHasForm text a
    → SomeHaveForm text o → ReadsOther text c l b t d a o r → Said r
other_said text c l b t d a (Some e) r f g h = constant_said text c (l && is_plain b t) d e r g h
other_said text c l b t d a None r f g h = label_said text c l (is_plain b t) d a r f h

place_said : (text : List ℕ) (c : Condition) (l b t : Bool) (d a : List Token) (o : Option (List Token)) (r : Result What LineKind) → EachHasForm text a
    → ReadsPlace text c l b t d a o r → Said r
place_said text c l b t d a (Some e) r f h =
    equal_gives InstructionSaid r (transferred text c l b d (before_as text t a h.0)) h.2
    (transferred_said text c l b d (before_as text t a h.0) (before_as_said text t a h.0 (before_said text true a h.0 f h.1)))
place_said text c l b t d a None r f h = other_said text c l b t d a (without_first text equals a) r f (without_first_form text equals a f) h

behind_moved_said : (text : List ℕ) (c : Condition) (l b t : Bool) (d a x : List Token) (sh : Option (List Token)) (r : Result What LineKind)
    → EachHasForm text x
    → SomeHaveForm text sh → ReadsMoved text c l b t d a x sh r → Said r
behind_moved_said text c l b t d a x sh r f g h =
    equal_gives InstructionSaid r (transferred text c l b d (after_as t h.0)) h.2
    (transferred_said text c l b d (after_as t h.0) (after_as_said t h.0 (after_said text a x sh h.0 f g h.1)))

transfer_said : (text : List ℕ) (c : Condition) (l b t : Bool) (os : Cuts) (r : Result What LineKind) → CutsHaveForm text os
    → ReadsTransfer text c l b t os r → Said r
transfer_said text c l b t (two d a) r f h = place_said text c l b t d a (without_first text bracket a) r f.1 h
transfer_said text c l b t (three d a x) r f h = behind_moved_said text c l b t d a x None r f.2 tt h
transfer_said text c l b t (four d a x sh) r f h = behind_moved_said text c l b t d a x (Some sh) r f.2 f.3 h
transfer_said text c l b t os r f h = fault Syntax r h

-- ---- half-words and signed bytes

abbrev HalfMovedSaid : Register × Addressed → Type 0
HalfMovedSaid p = RegisterSaid p.0 × PlacedSaid p.1

half_line_said : (c : Condition) (l : Bool) (k : HalfKind) (rd : Register) (a : Addressed) → HalfSaid l k → RegisterSaid rd → PlacedSaid a
    → Said (half_line c l k rd a)
half_line_said c l k rd a m d p =
    mapped_gives HalfOffsetSaid InstructionSaid (λ o. what.Arm (line.TransferHalf c l k rd a.rn a.indexing o)) (half_offset a.offset)
    (λ o q. (d, p.0.0, m, p.1, q)) (half_offset_said a.offset p.0.1)

half_moved_said : (text : List ℕ) (c : Condition) (l : Bool) (k : HalfKind) (d : List Token) (a : Result Addressed LineKind) → HalfSaid l k → Gives PlacedSaid a
    → Said (half_moved text c l k d a)
half_moved_said text c l k d a m h =
    followed_gives HalfMovedSaid InstructionSaid (both (register text d) a) (λ p. half_line c l k p.0 p.1) (λ p q. half_line_said c l k p.0 p.1 m q.0 q.1)
    (both_give RegisterSaid PlacedSaid HalfMovedSaid (λ x y. (x, y)) (register text d) a (λ x y p q. (p, q)) (register_said text d) h)

half_said : (text : List ℕ) (c : Condition) (l : Bool) (k : HalfKind) (os : Cuts) (r : Result What LineKind) → HalfSaid l k → CutsHaveForm text os
    → ReadsHalf text c l k os r → Said r
half_said text c l k (two d a) r m f h =
    equal_gives InstructionSaid r (half_moved text c l k d h.0) h.2 (half_moved_said text c l k d h.0 m (before_said text false a h.0 f.1 h.1))
half_said text c l k (three d a x) r m f h =
    equal_gives InstructionSaid r (half_moved text c l k d h.0) h.2 (half_moved_said text c l k d h.0 m (after_said text a x None h.0 f.2 tt h.1))
half_said text c l k os r m f h = fault Syntax r h

-- ---- blocks and addresses

block_said : (text : List ℕ) (c : Condition) (l : Bool) (m : BlockMode) (os : Cuts) → Said (block text c l m os)
block_said text c l m (two b x) =
    both_give BaseSaid ListSaid InstructionSaid (λ p q. block_line c l m p q) (lists.base text b) (lists.register_list text x) (λ p q u v. (u, v))
    (base_said text b) (register_list_said text x)
block_said text c l m os = tt

address_line_said : (c : Condition) (long : Bool) (rd : Register) (e : Expr) → RegisterSaid rd → IsRead e → InstructionSaid (address_line c long rd e)
address_line_said c false rd e p q = (p, q)
address_line_said c true rd e p q = (p, q)

address_said : (text : List ℕ) (c : Condition) (long : Bool) (os : Cuts) (r : Result What LineKind) → CutsHaveForm text os → ReadsAddress text c long os r
    → Said r
address_said text c long (two d e) r f h =
    with_expression RegisterSaid InstructionSaid text (address_line c long) (register text d) e r f.1 h (address_line_said c long) (register_said text d)
address_said text c long os r f h = fault Syntax r h

-- ---- all forms

pub without_hash_form : (text : List ℕ) (ts : List Token) (o : Option (List Token)) → EachHasForm text ts → SomeHaveForm text o
    → EachHasForm text (without_hash ts o)
without_hash_form text ts (Some e) f g = g
without_hash_form text ts None f g = f

word_said : (text : List ℕ) (m : Mnemonic) (c : Condition) (ts : List Token) (r : Result What LineKind) → EachHasForm text ts → ReadsWord text m c ts r → Said r
word_said text m c ts r f = by_word m
  where
    os : Cuts
    os = cut (operands text ts)

    by_word : (m : Mnemonic) → ReadsWord text m c ts r → Said r
    by_word (mnemonic.Data o s) h = shape_said text c o s os r (cuts_form text ts f) h
    by_word (mnemonic.Multiply a s) h = equal_gives InstructionSaid r (multiply text c a s os) h (multiply_said text c a s os)
    by_word (mnemonic.MultiplyLong g a s) h = equal_gives InstructionSaid r (multiply_long text c g a s os) h (multiply_long_said text c g a s os)
    by_word (mnemonic.Swap b) h = equal_gives InstructionSaid r (swap text c b os) h (swap_said text c b os)
    by_word mnemonic.BranchExchange h = equal_gives InstructionSaid r (exchange text c os) h (exchange_said text c os)
    by_word mnemonic.ReadStatus h = equal_gives InstructionSaid r (read_status text c os) h (read_status_said text c os)
    by_word mnemonic.WriteStatus h = write_status_said text c os r (cuts_form text ts f) h
    by_word (mnemonic.Transfer l b t) h = transfer_said text c l b t os r (cuts_form text ts f) h
    by_word (mnemonic.LoadHalf k) h = half_said text c true k os r tt (cuts_form text ts f) h
    by_word mnemonic.StoreHalf h = half_said text c false half.Half os r tt (cuts_form text ts f) h
    by_word (mnemonic.TransferBlock l m) h = equal_gives InstructionSaid r (block text c l m os) h (block_said text c l m os)
    by_word (mnemonic.Branch l) h = expression_gives InstructionSaid text (λ e. what.Arm (line.Branch c l e)) ts r f h (λ e p. p)
    by_word mnemonic.SoftwareInterrupt h =
        let number = without_first text hash ts in
        expression_gives InstructionSaid text (λ e. what.Arm (line.SoftwareInterrupt c e)) (without_hash ts number) r
        (without_hash_form text ts number f (without_first_form text hash ts f)) h (λ e p. p)
    by_word mnemonic.Address h = address_said text c false os r (cuts_form text ts f) h
    by_word mnemonic.LongAddress h = address_said text c true os r (cuts_form text ts f) h
    by_word mnemonic.NoOperation h = equal_gives InstructionSaid r (no_operation ts) h (idle_in false ts)
    by_word mnemonic.FloatingPoint h = fault FloatingPoint r h

pub instruction_said : (text : List ℕ) (unnamed : LineKind) (m : Option (Mnemonic × Condition)) (ts : List Token) (r : Result What LineKind)
    → EachHasForm text ts
    → Reads text unnamed m ts r → Said r
instruction_said text unnamed None ts r f h = fault unnamed r h
instruction_said text unnamed (Some m) ts r f h = word_said text m.0 m.1 ts r f h
