-- A line says one thing.
use Rattle.std.proofs.Common.{◌≡◌, ℕ, List, Bool, true, false, sym, ◌∙◌, Option, Some, None, ◌&&◌}
use Rattle.std.specs.Prelude.{Result, Ok}
use Rattle.sdt_fault.specs.declared.kinds.LineKind.{LineKind}
use Rattle.sdt_word.specs.declared.codes.Width.{Width}
use Rattle.thumb_isa.specs.declared.instr.ImmediateOperation.{ImmediateOperation}
use Rattle.thumb_isa.specs.declared.instr.ThumbShift.{ThumbShift}
use Rattle.asm_model.specs.declared.tokens.Token.{Token}
use Rattle.asm_model.specs.declared.statements.What.{What}
use Rattle.asm_model.specs.Grammar.{OneParse, ParsesTokens}
use Rattle.asm_model.specs.Operands.{operands}
use Rattle.asm_arm.specs.LineForms.{hash, equals, bracket, without_hash}
use Rattle.asm_arm.specs.Operands.{Cuts, none, one, two, three, four, more, cut, without_first}
use Rattle.asm_arm.proofs.LawLemmas.{one_value, one_made}
use Rattle.asm_thumb.specs.declared.frames.Frame.{Frame}
use Rattle.asm_thumb.specs.declared.frames.Frame.TheVariants as frame
use Rattle.asm_thumb.specs.declared.mnemonics.Mnemonic.{Mnemonic}
use Rattle.asm_thumb.specs.declared.mnemonics.Mnemonic.TheVariants as mnemonic
use Rattle.asm_thumb.specs.Data as forms
use Rattle.asm_thumb.specs.LineForms as lines
use Rattle.asm_thumb.specs.Frames.{ReadsWith}
use Rattle.asm_thumb.specs.Transfers as transfers

one_with : OneParse → (text : List ℕ) (f : Result Frame LineKind) (e : List Token) (a b : Result What LineKind) → ReadsWith text f e a → ReadsWith text f e b
    → a ≡ b
one_with law text f e a b p q = one_made (ParsesTokens text e) _ (one_value law text e) a b p q

one_pair : OneParse → (text : List ℕ) (o : ImmediateOperation) (d x : List Token) (n : Option (List Token)) (a b : Result What LineKind)
    → forms.ReadsPair text o d x n a → forms.ReadsPair text o d x n b → a ≡ b
one_pair law text o d x (Some e) a b p q = one_with law text _ e a b p q
one_pair law text o d x None a b p q = p ∙ sym q

one_sum : OneParse → (text : List ℕ) (s : Option Bool) (d t x : List Token) (n : Option (List Token)) (a b : Result What LineKind)
    → forms.ReadsSum text s d t x n a → forms.ReadsSum text s d t x n b → a ≡ b
one_sum law text None d t x n a b p q = p ∙ sym q
one_sum law text (Some s) d t x (Some e) a b p q = one_with law text _ e a b p q
one_sum law text (Some s) d t x None a b p q = p ∙ sym q

one_immediate : OneParse → (text : List ℕ) (o : ImmediateOperation) (os : Cuts) (a b : Result What LineKind)
    → forms.ReadsImmediate text o os a → forms.ReadsImmediate text o os b → a ≡ b
one_immediate law text o none a b p q = p ∙ sym q
one_immediate law text o (one d) a b p q = p ∙ sym q
one_immediate law text o (two d x) a b p q = one_pair law text o d x (without_first text hash x) a b p q
one_immediate law text o (three d s x) a b p q = one_sum law text (forms.sum_of o) d s x (without_first text hash x) a b p q
one_immediate law text o (four d s x y) a b p q = p ∙ sym q
one_immediate law text o more a b p q = p ∙ sym q

one_shift_by : OneParse → (text : List ℕ) (k : ThumbShift) (d s : List Token) (n : Option (List Token)) (a b : Result What LineKind)
    → forms.ReadsShiftBy text k d s n a → forms.ReadsShiftBy text k d s n b → a ≡ b
one_shift_by law text k d s None a b p q = p ∙ sym q
one_shift_by law text k d s (Some e) a b p q = one_with law text _ e a b p q

one_shift : OneParse → (text : List ℕ) (k : ThumbShift) (os : Cuts) (a b : Result What LineKind)
    → forms.ReadsShift text k os a → forms.ReadsShift text k os b → a ≡ b
one_shift law text k none a b p q = p ∙ sym q
one_shift law text k (one d) a b p q = p ∙ sym q
one_shift law text k (two d s) a b p q = p ∙ sym q
one_shift law text k (three d s x) a b p q = one_shift_by law text k d s (without_first text hash x) a b p q
one_shift law text k (four d s x y) a b p q = p ∙ sym q
one_shift law text k more a b p q = p ∙ sym q

one_offset : OneParse → (text : List ℕ) (l : Bool) (w : Width) (d n x : List Token) (o : Option (List Token)) (a b : Result What LineKind)
    → transfers.ReadsOffset text l w d n x o a → transfers.ReadsOffset text l w d n x o b → a ≡ b
one_offset law text l w d n x (Some e) a b p q = one_with law text _ e a b p q
one_offset law text l w d n x None a b p q = p ∙ sym q

one_inside : OneParse → (text : List ℕ) (l : Bool) (w : Width) (d : List Token) (os : Cuts) (a b : Result What LineKind)
    → transfers.ReadsInside text l w d os a → transfers.ReadsInside text l w d os b → a ≡ b
one_inside law text l w d none a b p q = p ∙ sym q
one_inside law text l w d (one n) a b p q = p ∙ sym q
one_inside law text l w d (two n x) a b p q = one_offset law text l w d n x (without_first text hash x) a b p q
one_inside law text l w d (three n x y) a b p q = p ∙ sym q
one_inside law text l w d (four n x y z) a b p q = p ∙ sym q
one_inside law text l w d more a b p q = p ∙ sym q

one_bracketed : OneParse → (text : List ℕ) (l : Bool) (w : Width) (d : List Token) (os : Option Cuts) (a b : Result What LineKind)
    → transfers.ReadsBracketed text l w d os a → transfers.ReadsBracketed text l w d os b → a ≡ b
one_bracketed law text l w d None a b p q = p ∙ sym q
one_bracketed law text l w d (Some os) a b p q = one_inside law text l w d os a b p q

one_loaded : OneParse → (text : List ℕ) (l : Bool) (d x : List Token) (o : Option (List Token)) (a b : Result What LineKind)
    → transfers.ReadsLoaded text l d x o a → transfers.ReadsLoaded text l d x o b → a ≡ b
one_loaded law text false d x o a b p q = p ∙ sym q
one_loaded law text true d x (Some e) a b p q = one_with law text _ e a b p q
one_loaded law text true d x None a b p q = one_with law text _ x a b p q

one_place : OneParse → (text : List ℕ) (l : Bool) (w : Width) (d x : List Token) (o : Option (List Token)) (a b : Result What LineKind)
    → transfers.ReadsPlace text l w d x o a → transfers.ReadsPlace text l w d x o b → a ≡ b
one_place law text l w d x (Some ts) a b p q = one_bracketed law text l w d (transfers.bracketed text x) a b p q
one_place law text l w d x None a b p q =
    one_loaded law text (l && transfers.is_word w) d x (without_first text equals x) a b p q

one_transfer : OneParse → (text : List ℕ) (l : Bool) (w : Width) (os : Cuts) (a b : Result What LineKind)
    → transfers.ReadsTransfer text l w os a → transfers.ReadsTransfer text l w os b → a ≡ b
one_transfer law text l w none a b p q = p ∙ sym q
one_transfer law text l w (one d) a b p q = p ∙ sym q
one_transfer law text l w (two d x) a b p q = one_place law text l w d x (without_first text bracket x) a b p q
one_transfer law text l w (three d x y) a b p q = p ∙ sym q
one_transfer law text l w (four d x y z) a b p q = p ∙ sym q
one_transfer law text l w more a b p q = p ∙ sym q

one_address : OneParse → (text : List ℕ) (os : Cuts) (a b : Result What LineKind) → lines.ReadsAddress text os a → lines.ReadsAddress text os b → a ≡ b
one_address law text none a b p q = p ∙ sym q
one_address law text (one d) a b p q = p ∙ sym q
one_address law text (two d e) a b p q = one_with law text _ e a b p q
one_address law text (three d x y) a b p q = p ∙ sym q
one_address law text (four d x y z) a b p q = p ∙ sym q
one_address law text more a b p q = p ∙ sym q

one_word : OneParse → (text : List ℕ) (m : Mnemonic) (ts : List Token) (a b : Result What LineKind) → lines.ReadsWord text m ts a → lines.ReadsWord text m ts b
    → a ≡ b
one_word law text (mnemonic.Immediate o) ts a b p q = one_immediate law text o (cut (operands text ts)) a b p q
one_word law text (mnemonic.Shift k) ts a b p q = one_shift law text k (cut (operands text ts)) a b p q
one_word law text (mnemonic.Register o) ts a b p q = p ∙ sym q
one_word law text (mnemonic.Transfer l w) ts a b p q = one_transfer law text l w (cut (operands text ts)) a b p q
one_word law text (mnemonic.TransferSigned k) ts a b p q = p ∙ sym q
one_word law text (mnemonic.PushPop l) ts a b p q = p ∙ sym q
one_word law text (mnemonic.TransferMultiple l) ts a b p q = p ∙ sym q
one_word law text (mnemonic.BranchConditional c) ts a b p q = one_with law text (Ok (frame.BranchConditional c)) ts a b p q
one_word law text mnemonic.Branch ts a b p q = one_with law text (Ok frame.Branch) ts a b p q
one_word law text mnemonic.BranchLink ts a b p q = one_with law text (Ok frame.BranchLink) ts a b p q
one_word law text mnemonic.BranchExchange ts a b p q = p ∙ sym q
one_word law text mnemonic.SoftwareInterrupt ts a b p q = one_with law text (Ok frame.SoftwareInterrupt) (without_hash ts (without_first text hash ts)) a b p q
one_word law text mnemonic.Address ts a b p q = one_address law text (cut (operands text ts)) a b p q
one_word law text mnemonic.NoOperation ts a b p q = p ∙ sym q
one_word law text mnemonic.FloatingPoint ts a b p q = p ∙ sym q

pub one_reading : OneParse → (text : List ℕ) (k : LineKind) (m : Option Mnemonic) (ts : List Token) (a b : Result What LineKind) → lines.Reads text k m ts a
    → lines.Reads text k m ts b → a ≡ b
one_reading law text k None ts a b p q = p ∙ sym q
one_reading law text k (Some m) ts a b p q = one_word law text m ts a b p q
