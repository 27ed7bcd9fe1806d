-- A line says one thing.
use Rattle.std.proofs.Common.{◌≡◌, ℕ, List, [], ◌∷◌, Bool, true, false, sym, ◌∙◌, ap, Option, Some, None, map}
use Rattle.std.specs.Prelude.{Result}
use Rattle.sdt_fault.specs.declared.kinds.LineKind.{LineKind}
use Rattle.sdt_word.specs.declared.codes.Condition.{Condition}
use Rattle.sdt_word.specs.declared.codes.ShiftKind.{ShiftKind}
use Rattle.arm_isa.specs.declared.instr.Operation.{Operation}
use Rattle.arm_isa.specs.declared.instr.HalfKind.{HalfKind}
use Rattle.arm_isa.specs.declared.instr.HalfKind.TheVariants as half
use Rattle.asm_model.specs.declared.tokens.Token.{Token}
use Rattle.asm_model.specs.declared.exprs.Expr.{Expr}
use Rattle.asm_model.specs.declared.operands.Register.{Register}
use Rattle.asm_model.specs.declared.operands.Indexing.{Indexing}
use Rattle.asm_model.specs.declared.operands.StatusFields.{StatusFields}
use Rattle.asm_model.specs.declared.statements.What.{What}
use Rattle.asm_model.specs.Grammar.{OneParse, ParsesTokens}
use Rattle.asm_model.specs.Operands.{operands}
use Rattle.asm_model.specs.Parts.{part_of}
use Rattle.asm_model.specs.Readings.{mapped}
use Rattle.asm_model.specs.Says.{Expression}
use Rattle.asm_arm.specs.declared.mnemonics.Mnemonic.{Mnemonic}
use Rattle.asm_arm.specs.declared.mnemonics.Mnemonic.TheVariants as mnemonic
use Rattle.asm_arm.specs.declared.mnemonics.Shape.{Shape}
use Rattle.asm_arm.specs.declared.mnemonics.Shape.TheVariants as shape
use Rattle.asm_arm.specs.declared.operands.Scale.{Scale}
use Rattle.asm_arm.specs.declared.operands.Second.{Second}
use Rattle.asm_arm.specs.declared.addresses.Offset.{Offset}
use Rattle.asm_arm.specs.declared.addresses.Addressed.{Addressed}
use Rattle.asm_arm.specs.Addresses.{ReadsPlainOffset, ReadsOffset, ReadsAt, ReadsScaledAt, ReadsInside, ReadsBracketed, ReadsBefore, ReadsBehind, ReadsAfter, bracketed, base}
use Rattle.asm_arm.specs.LineForms as lines
use Rattle.asm_arm.specs.Operands.{Cuts, none, one, two, three, four, more, cut, ReadsAmount, ReadsKind, ReadsScale, ReadsPlain, ReadsSecond}
use Rattle.asm_arm.specs.Mnemonics.{shape_of}

pub one_value : OneParse → (text : List ℕ) (ts : List Token) (a b : Result Expr LineKind) → ParsesTokens text ts a → ParsesTokens text ts b → a ≡ b
one_value law text ts a b p q = law (map (part_of text) ts) a b p q

one_expression : {A : Type 0} → OneParse → (text : List ℕ) (make : Expr → A) (ts : List Token) (a b : Result A LineKind) → Expression text make ts a
    → Expression text make ts b → a ≡ b
one_expression law text make ts a b p q = p.2 ∙ ap (mapped make) (one_value law text ts p.0 q.0 p.1 q.1) ∙ sym q.2

-- a reading that is made of another
pub one_made : {A B : Type 0} (Reading : Result A LineKind → Type 0) (make : Result A LineKind → Result B LineKind)
    → ((x y : Result A LineKind) → Reading x → Reading y → x ≡ y)
    → (a b : Result B LineKind) → ((x : Result A LineKind) × Reading x × (a ≡ make x)) → ((y : Result A LineKind) × Reading y × (b ≡ make y)) → a ≡ b
one_made Reading make law a b p q = p.2 ∙ ap make (law p.0 q.0 p.1 q.1) ∙ sym q.2

one_amount : OneParse → (text : List ℕ) (k : ShiftKind) (ts : List Token) (o : Option (List Token)) (a b : Result Scale LineKind) → ReadsAmount text k ts o a
    → ReadsAmount text k ts o b → a ≡ b
one_amount law text k ts (Some e) a b p q = one_expression law text _ e a b p q
one_amount law text k ts None a b p q = p ∙ sym q

one_kind : OneParse → (text : List ℕ) (k : Option ShiftKind) (ts : List Token) (a b : Result Scale LineKind) → ReadsKind text k ts a → ReadsKind text k ts b
    → a ≡ b
one_kind law text None ts a b p q = p ∙ sym q
one_kind law text (Some k) ts a b p q = one_amount law text k ts _ a b p q

one_scale : OneParse → (text : List ℕ) (ts : List Token) (a b : Result Scale LineKind) → ReadsScale text ts a → ReadsScale text ts b → a ≡ b
one_scale law text [] a b p q = p ∙ sym q
one_scale law text (t ∷ []) a b p q = p ∙ sym q
one_scale law text (t ∷ u ∷ ts) a b p q = one_kind law text _ (u ∷ ts) a b p q

one_plain : OneParse → (text : List ℕ) (x : List Token) (o : Option (List Token)) (a b : Result Second LineKind) → ReadsPlain text x o a → ReadsPlain text x o b
    → a ≡ b
one_plain law text x (Some e) a b p q = one_expression law text _ e a b p q
one_plain law text x None a b p q = p ∙ sym q

one_second : OneParse → (text : List ℕ) (x : List Token) (s : Option (List Token)) (a b : Result Second LineKind) → ReadsSecond text x s a
    → ReadsSecond text x s b → a ≡ b
one_second law text x None a b p q = one_plain law text x _ a b p q
one_second law text x (Some s) a b p q = one_made (ReadsScale text s) _ (one_scale law text s) a b p q

one_plain_offset : OneParse → (text : List ℕ) (x : List Token) (o : Option (List Token)) (a b : Result Offset LineKind) → ReadsPlainOffset text x o a
    → ReadsPlainOffset text x o b → a ≡ b
one_plain_offset law text x (Some e) a b p q = one_expression law text _ e a b p q
one_plain_offset law text x None a b p q = p ∙ sym q

one_offset : OneParse → (text : List ℕ) (x : List Token) (s : Option (List Token)) (a b : Result Offset LineKind) → ReadsOffset text x s a
    → ReadsOffset text x s b → a ≡ b
one_offset law text x None a b p q = one_plain_offset law text x _ a b p q
one_offset law text x (Some s) a b p q = one_made (ReadsScale text s) _ (one_scale law text s) a b p q

one_at : OneParse → (text : List ℕ) (i : Indexing) (n x : List Token) (s : Option (List Token)) (a b : Result Addressed LineKind) → ReadsAt text i n x s a
    → ReadsAt text i n x s b → a ≡ b
one_at law text i n x s a b p q = one_made (ReadsOffset text x s) _ (one_offset law text x s) a b p q

one_scaled_at : OneParse → (text : List ℕ) (i : Indexing) (w : Bool) (n x s : List Token) (a b : Result Addressed LineKind) → ReadsScaledAt text i w n x s a
    → ReadsScaledAt text i w n x s b → a ≡ b
one_scaled_at law text i true n x s a b p q = one_at law text i n x (Some s) a b p q
one_scaled_at law text i false n x s a b p q = p ∙ sym q

one_inside : OneParse → (text : List ℕ) (i : Indexing) (w : Bool) (os : Cuts) (a b : Result Addressed LineKind) → ReadsInside text i w os a
    → ReadsInside text i w os b → a ≡ b
one_inside law text i w none a b p q = p ∙ sym q
one_inside law text i w (one n) a b p q = p ∙ sym q
one_inside law text i w (two n x) a b p q = one_at law text i n x None a b p q
one_inside law text i w (three n x s) a b p q = one_scaled_at law text i w n x s a b p q
one_inside law text i w (four n x s t) a b p q = p ∙ sym q
one_inside law text i w more a b p q = p ∙ sym q

one_bracketed : OneParse → (text : List ℕ) (w : Bool) (o : Option (List Token)) (mark : Bool) (a b : Result Addressed LineKind)
    → ReadsBracketed text w (o, mark) a → ReadsBracketed text w (o, mark) b → a ≡ b
one_bracketed law text w None mark a b p q = p ∙ sym q
one_bracketed law text w (Some ts) mark a b p q = one_inside law text _ w (cut (operands text ts)) a b p q

one_before : OneParse → (text : List ℕ) (w : Bool) (x : List Token) (a b : Result Addressed LineKind) → ReadsBefore text w x a → ReadsBefore text w x b → a ≡ b
one_before law text w x a b p q = one_bracketed law text w (bracketed text x).0 (bracketed text x).1 a b p q

one_behind : OneParse → (text : List ℕ) (o : Option (List Token)) (x : List Token) (s : Option (List Token)) (a b : Result Addressed LineKind)
    → ReadsBehind text o x s a → ReadsBehind text o x s b → a ≡ b
one_behind law text None x s a b p q = p ∙ sym q
one_behind law text (Some n) x s a b p q = one_at law text _ n x s a b p q

one_after : OneParse → (text : List ℕ) (y x : List Token) (s : Option (List Token)) (a b : Result Addressed LineKind) → ReadsAfter text y x s a
    → ReadsAfter text y x s b → a ≡ b
one_after law text y x s a b p q = one_behind law text (base text y) x s a b p q

one_data : OneParse → (text : List ℕ) (c : Condition) (o : Operation) (s : Bool) (rs : Result (Register × Register) LineKind) (x : List Token)
    (sh : Option (List Token)) (a b : Result What LineKind)
    → lines.ReadsData text c o s rs x sh a → lines.ReadsData text c o s rs x sh b → a ≡ b
one_data law text c o s rs x sh a b p q = one_made (ReadsSecond text x sh) _ (one_second law text x sh) a b p q

one_move : OneParse → (text : List ℕ) (c : Condition) (o : Operation) (s : Bool) (os : Cuts) (a b : Result What LineKind) → lines.ReadsMove text c o s os a
    → lines.ReadsMove text c o s os b → a ≡ b
one_move law text c o s none a b p q = p ∙ sym q
one_move law text c o s (one d) a b p q = p ∙ sym q
one_move law text c o s (two d x) a b p q = one_data law text c o s _ x None a b p q
one_move law text c o s (three d x sh) a b p q = one_data law text c o s _ x (Some sh) a b p q
one_move law text c o s (four d x sh y) a b p q = p ∙ sym q
one_move law text c o s more a b p q = p ∙ sym q

one_comparison : OneParse → (text : List ℕ) (c : Condition) (o : Operation) (s : Bool) (os : Cuts) (a b : Result What LineKind)
    → lines.ReadsComparison text c o s os a → lines.ReadsComparison text c o s os b → a ≡ b
one_comparison law text c o s none a b p q = p ∙ sym q
one_comparison law text c o s (one d) a b p q = p ∙ sym q
one_comparison law text c o s (two d x) a b p q = one_data law text c o s _ x None a b p q
one_comparison law text c o s (three d x sh) a b p q = one_data law text c o s _ x (Some sh) a b p q
one_comparison law text c o s (four d x sh y) a b p q = p ∙ sym q
one_comparison law text c o s more a b p q = p ∙ sym q

one_sum : OneParse → (text : List ℕ) (c : Condition) (o : Operation) (s : Bool) (os : Cuts) (a b : Result What LineKind) → lines.ReadsSum text c o s os a
    → lines.ReadsSum text c o s os b → a ≡ b
one_sum law text c o s none a b p q = p ∙ sym q
one_sum law text c o s (one d) a b p q = p ∙ sym q
one_sum law text c o s (two d x) a b p q = p ∙ sym q
one_sum law text c o s (three d n x) a b p q = one_data law text c o s _ x None a b p q
one_sum law text c o s (four d n x sh) a b p q = one_data law text c o s _ x (Some sh) a b p q
one_sum law text c o s more a b p q = p ∙ sym q

one_shape : OneParse → (text : List ℕ) (c : Condition) (o : Operation) (s : Bool) (h : Shape) (os : Cuts) (a b : Result What LineKind)
    → lines.ReadsShape text c o s h os a → lines.ReadsShape text c o s h os b → a ≡ b
one_shape law text c o s shape.Move os a b p q = one_move law text c o s os a b p q
one_shape law text c o s shape.Comparison os a b p q = one_comparison law text c o true os a b p q
one_shape law text c o s shape.Sum os a b p q = one_sum law text c o s os a b p q

one_status_value : OneParse → (text : List ℕ) (c : Condition) (f : Result (Option StatusFields) LineKind) (m : List Token) (o : Option (List Token))
    (a b : Result What LineKind)
    → lines.ReadsStatusValue text c f m o a → lines.ReadsStatusValue text c f m o b → a ≡ b
one_status_value law text c f m (Some e) a b p q = one_made (ParsesTokens text e) _ (one_value law text e) a b p q
one_status_value law text c f m None a b p q = p ∙ sym q

one_write_status : OneParse → (text : List ℕ) (c : Condition) (os : Cuts) (a b : Result What LineKind) → lines.ReadsWriteStatus text c os a
    → lines.ReadsWriteStatus text c os b → a ≡ b
one_write_status law text c none a b p q = p ∙ sym q
one_write_status law text c (one d) a b p q = p ∙ sym q
one_write_status law text c (two f m) a b p q = one_status_value law text c _ m _ a b p q
one_write_status law text c (three d x y) a b p q = p ∙ sym q
one_write_status law text c (four d x y z) a b p q = p ∙ sym q
one_write_status law text c more a b p q = p ∙ sym q

one_constant : OneParse → (text : List ℕ) (c : Condition) (l : Bool) (d e : List Token) (a b : Result What LineKind) → lines.ReadsConstant text c l d e a
    → lines.ReadsConstant text c l d e b → a ≡ b
one_constant law text c true d e a b p q = one_made (ParsesTokens text e) _ (one_value law text e) a b p q
one_constant law text c false d e a b p q = p ∙ sym q

one_label : OneParse → (text : List ℕ) (c : Condition) (l w : Bool) (d e : List Token) (a b : Result What LineKind) → lines.ReadsLabel text c l w d e a
    → lines.ReadsLabel text c l w d e b → a ≡ b
one_label law text c l true d e a b p q = one_made (ParsesTokens text e) _ (one_value law text e) a b p q
one_label law text c l false d e a b p q = p ∙ sym q

one_other : OneParse → (text : List ℕ) (c : Condition) (l w t : Bool) (d x : List Token) (o : Option (List Token)) (a b : Result What LineKind)
    → lines.ReadsOther text c l w t d x o a → lines.ReadsOther text c l w t d x o b → a ≡ b
one_other law text c l w t d x (Some e) a b p q = one_constant law text c _ d e a b p q
one_other law text c l w t d x None a b p q = one_label law text c l _ d x a b p q

one_place : OneParse → (text : List ℕ) (c : Condition) (l w t : Bool) (d x : List Token) (o : Option (List Token)) (a b : Result What LineKind)
    → lines.ReadsPlace text c l w t d x o a → lines.ReadsPlace text c l w t d x o b → a ≡ b
one_place law text c l w t d x (Some e) a b p q = one_made (ReadsBefore text true x) _ (one_before law text true x) a b p q
one_place law text c l w t d x None a b p q = one_other law text c l w t d x _ a b p q

one_moved : OneParse → (text : List ℕ) (c : Condition) (l w t : Bool) (d x y : List Token) (s : Option (List Token)) (a b : Result What LineKind)
    → lines.ReadsMoved text c l w t d x y s a → lines.ReadsMoved text c l w t d x y s b → a ≡ b
one_moved law text c l w t d x y s a b p q = one_made (ReadsAfter text x y s) _ (one_after law text x y s) a b p q

one_transfer : OneParse → (text : List ℕ) (c : Condition) (l w t : Bool) (os : Cuts) (a b : Result What LineKind) → lines.ReadsTransfer text c l w t os a
    → lines.ReadsTransfer text c l w t os b → a ≡ b
one_transfer law text c l w t none a b p q = p ∙ sym q
one_transfer law text c l w t (one d) a b p q = p ∙ sym q
one_transfer law text c l w t (two d x) a b p q = one_place law text c l w t d x _ a b p q
one_transfer law text c l w t (three d x y) a b p q = one_moved law text c l w t d x y None a b p q
one_transfer law text c l w t (four d x y s) a b p q = one_moved law text c l w t d x y (Some s) a b p q
one_transfer law text c l w t more a b p q = p ∙ sym q

one_half : OneParse → (text : List ℕ) (c : Condition) (l : Bool) (k : HalfKind) (os : Cuts) (a b : Result What LineKind) → lines.ReadsHalf text c l k os a
    → lines.ReadsHalf text c l k os b → a ≡ b
one_half law text c l k none a b p q = p ∙ sym q
one_half law text c l k (one d) a b p q = p ∙ sym q
one_half law text c l k (two d x) a b p q = one_made (ReadsBefore text false x) _ (one_before law text false x) a b p q
one_half law text c l k (three d x y) a b p q = one_made (ReadsAfter text x y None) _ (one_after law text x y None) a b p q
one_half law text c l k (four d x y s) a b p q = p ∙ sym q
one_half law text c l k more a b p q = p ∙ sym q

one_address : OneParse → (text : List ℕ) (c : Condition) (long : Bool) (os : Cuts) (a b : Result What LineKind) → lines.ReadsAddress text c long os a
    → lines.ReadsAddress text c long os b → a ≡ b
one_address law text c long none a b p q = p ∙ sym q
one_address law text c long (one d) a b p q = p ∙ sym q
one_address law text c long (two d e) a b p q = one_made (ParsesTokens text e) _ (one_value law text e) a b p q
one_address law text c long (three d x y) a b p q = p ∙ sym q
one_address law text c long (four d x y s) a b p q = p ∙ sym q
one_address law text c long more a b p q = p ∙ sym q

one_word : OneParse → (text : List ℕ) (m : Mnemonic) (c : Condition) (ts : List Token) (a b : Result What LineKind) → lines.ReadsWord text m c ts a
    → lines.ReadsWord text m c ts b → a ≡ b
one_word law text (mnemonic.Data o s) c ts a b p q = one_shape law text c o s (shape_of o) (cut (operands text ts)) a b p q
one_word law text (mnemonic.Multiply x s) c ts a b p q = p ∙ sym q
one_word law text (mnemonic.MultiplyLong g x s) c ts a b p q = p ∙ sym q
one_word law text (mnemonic.Swap w) c ts a b p q = p ∙ sym q
one_word law text mnemonic.BranchExchange c ts a b p q = p ∙ sym q
one_word law text mnemonic.ReadStatus c ts a b p q = p ∙ sym q
one_word law text mnemonic.WriteStatus c ts a b p q = one_write_status law text c (cut (operands text ts)) a b p q
one_word law text (mnemonic.Transfer l w t) c ts a b p q = one_transfer law text c l w t (cut (operands text ts)) a b p q
one_word law text (mnemonic.LoadHalf k) c ts a b p q = one_half law text c true k (cut (operands text ts)) a b p q
one_word law text mnemonic.StoreHalf c ts a b p q = one_half law text c false half.Half (cut (operands text ts)) a b p q
one_word law text (mnemonic.TransferBlock l k) c ts a b p q = p ∙ sym q
one_word law text (mnemonic.Branch l) c ts a b p q = one_expression law text _ ts a b p q
one_word law text mnemonic.SoftwareInterrupt c ts a b p q = one_expression law text _ _ a b p q
one_word law text mnemonic.Address c ts a b p q = one_address law text c false (cut (operands text ts)) a b p q
one_word law text mnemonic.LongAddress c ts a b p q = one_address law text c true (cut (operands text ts)) a b p q
one_word law text mnemonic.NoOperation c ts a b p q = p ∙ sym q
one_word law text mnemonic.FloatingPoint c ts a b p q = p ∙ sym q

pub one_reading : OneParse → (text : List ℕ) (k : LineKind) (m : Option (Mnemonic × Condition)) (ts : List Token) (a b : Result What LineKind)
    → lines.Reads text k m ts a → lines.Reads text k m ts b → a ≡ b
one_reading law text k None ts a b p q = p ∙ sym q
one_reading law text k (Some m) ts a b p q = one_word law text m.0 m.1 ts a b p q
