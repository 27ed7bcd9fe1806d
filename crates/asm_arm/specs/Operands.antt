-- The operands of ARM instructions: registers, and the second operand of data processing. Each says what the tokens of
-- an operand read as. Values are judged elsewhere, and so are registers, by the row that they stand in; a name in the place
-- of one is that of an RN directive. ARM SDT 2.50 Reference Guide, chapter on the assembler.
use Rattle.std.specs.Prelude.{◌≡◌, ℕ, ◌-◌, Bool, true, false, if◌then◌else◌}
use Rattle.std.specs.Prelude.{List, [], ◌∷◌, length, take, codes, Option, Some, None, Result, Ok, Err}
use Rattle.std.specs.List.{slice_get}
use Rattle.sdt_fault.specs.declared.kinds.LineKind.{LineKind}
use Rattle.sdt_fault.specs.declared.kinds.LineKind.TheVariants.{Syntax}
use Rattle.sdt_word.specs.declared.codes.ShiftKind.{ShiftKind}
use Rattle.sdt_word.specs.declared.codes.ShiftKind.TheVariants as shift_kind
use Rattle.asm_model.specs.declared.tokens.Token.{Token}
use Rattle.asm_model.specs.declared.tokens.TokenKind.{TokenKind}
use Rattle.asm_model.specs.declared.tokens.TokenKind.TheVariants as kind
use Rattle.asm_model.specs.declared.operands.Register.{Register}
use Rattle.asm_model.specs.declared.operands.Register.TheVariants as register_is
use Rattle.asm_model.specs.declared.operands.Shift.TheVariants as shift
use Rattle.asm_model.specs.Directives.{row_of}
use Rattle.asm_model.specs.Forms.{same}
use Rattle.asm_model.specs.Parts.{piece}
use Rattle.asm_model.specs.Readings.{both, mapped, on_both}
use Rattle.asm_model.specs.Registers.{register_named}
use Rattle.asm_model.specs.Says.{between_bars, Expression}
use Rattle.asm_model.specs.Tokens.{is_called}
use Rattle.asm_arm.specs.declared.operands.Scale.{Scale}
use Rattle.asm_arm.specs.declared.operands.Scale.TheVariants as scale
use Rattle.asm_arm.specs.declared.operands.Second.{Second}
use Rattle.asm_arm.specs.declared.operands.Second.TheVariants as second

-- the operands of a line, up to four
pub data Cuts : Type 0 where
  none : Cuts
  one : List Token → Cuts
  two : List Token → List Token → Cuts
  three : List Token → List Token → List Token → Cuts
  four : List Token → List Token → List Token → List Token → Cuts
  more : Cuts

abbrev pub cut : List (List Token) → Cuts
cut [] = none
cut (a ∷ []) = one a
cut (a ∷ b ∷ []) = two a b
cut (a ∷ b ∷ c ∷ []) = three a b c
cut (a ∷ b ∷ c ∷ d ∷ []) = four a b c d
cut (a ∷ b ∷ c ∷ d ∷ e ∷ os) = more

-- the tokens behind a sign that stands in front
abbrev pub without_first : List ℕ → List ℕ → List Token → Option (List Token)
without_first text sign [] = None
without_first text sign (t ∷ ts) = if same (piece text t) sign then Some ts else None

-- the bytes of the last token
abbrev pub last_piece : List ℕ → List Token → List ℕ
last_piece text ts = piece_or (slice_get ts (length ts - 1))
  where
    piece_or : Option Token → List ℕ
    piece_or None = []
    piece_or (Some t) = piece text t

-- all tokens but the last
abbrev pub front : List Token → List Token
front ts = take (length ts - 1) ts

-- the tokens before a sign that stands at the end
abbrev pub without_last : List ℕ → List ℕ → List Token → Option (List Token)
without_last text sign ts = if same (last_piece text ts) sign then Some (front ts) else None

-- tokens behind which a mark may stand, and whether it does
abbrev pub marked : List ℕ → List ℕ → List Token → List Token × Bool
marked text mark ts = if same (last_piece text ts) mark then (front ts, true) else (ts, false)

-- what stands between two brackets
abbrev pub between : List ℕ → List ℕ → List ℕ → List Token → Option (List Token)
between text left right ts = closed (without_first text left ts)
  where
    closed : Option (List Token) → Option (List Token)
    closed None = None
    closed (Some us) = without_last text right us

-- a register that the form leaves out
abbrev pub no_register : Register
no_register = register_is.Number 0

-- a name as a register, which always has its own name
abbrev pub named : List ℕ → Option ℕ → Register
named s (Some n) = register_is.Number n
named s None = register_is.Named s

-- a token as a register
abbrev pub register_of : TokenKind → List ℕ → Result Register LineKind
register_of kind.Name s = Ok (named s (register_named s))
register_of kind.Barred s = Ok (register_is.Named (between_bars s))
register_of _ s = Err Syntax

-- tokens as a register alone
abbrev pub register : List ℕ → List Token → Result Register LineKind
register text [] = Err Syntax
register text (t ∷ []) = register_of t.kind (piece text t)
register text (t ∷ u ∷ ts) = Err Syntax

-- two of them, and three
abbrev pub two_registers : List ℕ → List Token → List Token → Result (Register × Register) LineKind
two_registers text a b = both (register text a) (register text b)

abbrev pub three_registers : List ℕ → List Token → List Token → List Token → Result ((Register × Register) × Register) LineKind
three_registers text a b c = both (two_registers text a b) (register text c)

-- the kind of a shift
unfoldable pub shift_named : List ℕ → Option ShiftKind
shift_named word = row_of word (
    (codes "LSL", shift_kind.Lsl) ∷ (codes "LSR", shift_kind.Lsr) ∷ (codes "ASR", shift_kind.Asr)
    ∷ (codes "ROR", shift_kind.Ror) ∷ [])

-- RRX stands alone
abbrev pub extended : List ℕ → Result Scale LineKind
extended word = if is_called (codes "RRX") word then Ok scale.Extended else Err Syntax

-- the amount of a shift: a number behind #, or a register
abbrev pub ReadsAmount : List ℕ → ShiftKind → List Token → Option (List Token) → Result Scale LineKind → Type 0
ReadsAmount text k ts (Some e) r = Expression text (λ a. scale.By k a) e r
ReadsAmount text k ts None r = r ≡ mapped (λ rs. scale.Register k rs) (register text ts)

abbrev pub ReadsKind : List ℕ → Option ShiftKind → List Token → Result Scale LineKind → Type 0
ReadsKind text None ts r = r ≡ Err Syntax
ReadsKind text (Some k) ts r = ReadsAmount text k ts (without_first text (codes "#") ts) r

-- a shift
abbrev pub ReadsScale : List ℕ → List Token → Result Scale LineKind → Type 0
ReadsScale text [] r = r ≡ Err Syntax
ReadsScale text (t ∷ []) r = r ≡ extended (piece text t)
ReadsScale text (t ∷ u ∷ ts) r = ReadsKind text (shift_named (piece text t)) (u ∷ ts) r

-- a register with a shift
abbrev pub scaled : Register → Scale → Second
scaled rm (scale.By k a) = second.Shifted rm (shift.By k a)
scaled rm (scale.Register k rs) = second.RegisterShifted rm k rs
scaled rm scale.Extended = second.Shifted rm shift.Extended

abbrev pub ReadsPlain : List ℕ → List Token → Option (List Token) → Result Second LineKind → Type 0
ReadsPlain text x (Some e) r = Expression text (λ v. second.Number v) e r
ReadsPlain text x None r = r ≡ mapped (λ rm. second.Shifted rm shift.Unshifted) (register text x)

-- the second operand: a number behind #, or a register, behind which a shift may stand
abbrev pub ReadsSecond : List ℕ → List Token → Option (List Token) → Result Second LineKind → Type 0
ReadsSecond text x None r = ReadsPlain text x (without_first text (codes "#") x) r
ReadsSecond text x (Some s) r =
    (sh : Result Scale LineKind) × ReadsScale text s sh × (r ≡ on_both (λ rm x. scaled rm x) (register text x) sh)
