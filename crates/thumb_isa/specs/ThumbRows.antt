-- The encodings of Thumb state, as the ARM Architecture Reference Manual prints them for ARMv4T: a row
-- for each instruction, its fields from the highest bit down, and its conditions.
use Rattle.std.specs.Prelude.{◌≡◌, ◌≢◌, ℕ, ◌<◌, List, [], ◌∷◌}
use Rattle.sdt_word.specs.Codes.{condition_code}
use Rattle.sdt_word.specs.Numbers.{flag}
use Rattle.sdt_word.specs.Rows.{FitsRow, Part, row, word_of}
use Rattle.thumb_isa.specs.Codes.{high_code, immediate_code, signed_code, thumb_operation_code, thumb_shift_code}
use Rattle.thumb_isa.specs.declared.instr.ThumbInstr.{ThumbInstr}
use Rattle.thumb_isa.specs.declared.instr.ThumbInstr.TheVariants.{ShiftImmediate, AddSubtract, DataImmediate, DataRegister, HighRegister, LoadLiteral, TransferRegister, TransferSigned, TransferImmediate, TransferHalf, TransferStack, LoadAddress, AdjustStack, PushPop, TransferMultiple, BranchConditional, SoftwareInterrupt, Branch, BranchLink, Undefined}

-- the row of an instruction
abbrev pub thumb_row : ThumbInstr → List Part
thumb_row (ShiftImmediate _ _ _ _) = row "000 oo iiiii sss ddd"
thumb_row (AddSubtract _ _ _ _ _) = row "00011 e o nnn sss ddd"
thumb_row (DataImmediate _ _ _) = row "001 oo ddd iiiiiiii"
thumb_row (DataRegister _ _ _) = row "010000 oooo sss ddd"
thumb_row (HighRegister _ _ _ _ _) = row "010001 oo h g sss ddd"
thumb_row (LoadLiteral _ _) = row "01001 ddd iiiiiiii"
thumb_row (TransferRegister _ _ _ _ _) = row "0101 l b 0 ooo nnn ddd"
thumb_row (TransferSigned _ _ _ _) = row "0101 hh 1 ooo nnn ddd"
thumb_row (TransferImmediate _ _ _ _ _) = row "011 b l iiiii nnn ddd"
thumb_row (TransferHalf _ _ _ _) = row "1000 l iiiii nnn ddd"
thumb_row (TransferStack _ _ _) = row "1001 l ddd iiiiiiii"
thumb_row (LoadAddress _ _ _) = row "1010 p ddd iiiiiiii"
thumb_row (AdjustStack _ _) = row "10110000 s iiiiiii"
thumb_row (PushPop _ _ _) = row "1011 l 10 r kkkkkkkk"
thumb_row (TransferMultiple _ _ _) = row "1100 l nnn kkkkkkkk"
thumb_row (BranchConditional _ _) = row "1101 cccc iiiiiiii"
thumb_row (SoftwareInterrupt _) = row "11011111 iiiiiiii"
thumb_row (Branch _) = row "11100 iiiiiiiiiii"
thumb_row (BranchLink _ _) = row "1111 h iiiiiiiiiii"
thumb_row (Undefined _) = row "11011110 iiiiiiii"

-- the numbers of its row's letters, in the row's order
abbrev pub thumb_fields : ThumbInstr → List ℕ
thumb_fields (ShiftImmediate o i s d) = thumb_shift_code o ∷ i ∷ s ∷ d ∷ []
thumb_fields (AddSubtract e o n s d) = flag e ∷ flag o ∷ n ∷ s ∷ d ∷ []
thumb_fields (DataImmediate o d i) = immediate_code o ∷ d ∷ i ∷ []
thumb_fields (DataRegister o s d) = thumb_operation_code o ∷ s ∷ d ∷ []
thumb_fields (HighRegister o h g s d) = high_code o ∷ flag h ∷ flag g ∷ s ∷ d ∷ []
thumb_fields (LoadLiteral d i) = d ∷ i ∷ []
thumb_fields (TransferRegister l b o n d) = flag l ∷ flag b ∷ o ∷ n ∷ d ∷ []
thumb_fields (TransferSigned h o n d) = signed_code h ∷ o ∷ n ∷ d ∷ []
thumb_fields (TransferImmediate b l i n d) = flag b ∷ flag l ∷ i ∷ n ∷ d ∷ []
thumb_fields (TransferHalf l i n d) = flag l ∷ i ∷ n ∷ d ∷ []
thumb_fields (TransferStack l d i) = flag l ∷ d ∷ i ∷ []
thumb_fields (LoadAddress p d i) = flag p ∷ d ∷ i ∷ []
thumb_fields (AdjustStack s i) = flag s ∷ i ∷ []
thumb_fields (PushPop l r k) = flag l ∷ flag r ∷ k ∷ []
thumb_fields (TransferMultiple l n k) = flag l ∷ n ∷ k ∷ []
thumb_fields (BranchConditional c i) = condition_code c ∷ i ∷ []
thumb_fields (SoftwareInterrupt i) = i ∷ []
thumb_fields (Branch i) = i ∷ []
thumb_fields (BranchLink h i) = flag h ∷ i ∷ []
thumb_fields (Undefined i) = i ∷ []

-- BX, code 3, names no Rd
pub record FitsHigh (o h d : ℕ) : Type 0 where
  pub no_high : o ≡ 3 → h ≡ 0
  pub no_rd : o ≡ 3 → d ≡ 0

-- the conditions of an instruction's row
abbrev pub FitsConditions : ThumbInstr → Type 0
FitsConditions (ShiftImmediate o i s d) = thumb_shift_code o ≢ 3
FitsConditions (HighRegister o h g s d) = FitsHigh (high_code o) (flag h) d
FitsConditions (BranchConditional c i) = condition_code c < 14
FitsConditions _ = Unit {0}

-- the half-word reads as the instruction: it has the row's digits and fields, and the fields fit and
-- keep the row's conditions
pub record ReadsThumb (h : ℕ) (i : ThumbInstr) : Type 0 where
  pub is_half : h ≡ word_of (thumb_row i) (thumb_fields i)
  pub fits : FitsRow (thumb_row i) (thumb_fields i)
  pub conditions : FitsConditions i

-- the half-word reads as no instruction
abbrev pub IsUnread : ℕ → Type 0
IsUnread h = (i : ThumbInstr) → ReadsThumb h i → ⊥

-- the instruction is read from no half-word
abbrev pub IsUnwritten : ThumbInstr → Type 0
IsUnwritten i = (h : ℕ) → ReadsThumb h i → ⊥
