-- The addresses of ARM transfers: a base in brackets, behind which `!` may stand, with an offset inside the brackets
-- or behind them. ARM SDT 2.50 Reference Guide, chapter on the assembler.
use Rattle.std.specs.Prelude.{◌≡◌, ℕ, List, [], ◌∷◌, codes, Bool, true, false, Option, Some, None, Result, Ok, Err}
use Rattle.sdt_fault.specs.declared.kinds.LineKind.{LineKind}
use Rattle.sdt_fault.specs.declared.kinds.LineKind.TheVariants.{Syntax}
use Rattle.asm_model.specs.declared.tokens.Token.{Token}
use Rattle.asm_model.specs.declared.exprs.Expr.{Expr}
use Rattle.asm_model.specs.declared.exprs.ExprItem.TheVariants as item
use Rattle.asm_model.specs.declared.values.Value.TheVariants as value
use Rattle.asm_model.specs.declared.operands.Register.{Register}
use Rattle.asm_model.specs.declared.operands.Shift.{Shift}
use Rattle.asm_model.specs.declared.operands.Shift.TheVariants as shift
use Rattle.asm_model.specs.declared.operands.Indexing.{Indexing}
use Rattle.asm_model.specs.declared.operands.Indexing.TheVariants as indexing_is
use Rattle.asm_model.specs.declared.operands.HalfOffset.{HalfOffset}
use Rattle.asm_model.specs.declared.operands.HalfOffset.TheVariants as half
use Rattle.asm_model.specs.Operands.{operands}
use Rattle.asm_model.specs.Readings.{and_then, mapped, on_both}
use Rattle.asm_model.specs.Says.{Expression}
use Rattle.asm_arm.specs.declared.operands.Scale.{Scale}
use Rattle.asm_arm.specs.declared.operands.Scale.TheVariants as scale
use Rattle.asm_arm.specs.declared.addresses.Offset.{Offset}
use Rattle.asm_arm.specs.declared.addresses.Offset.TheVariants as offset_is
use Rattle.asm_arm.specs.declared.addresses.Addressed.{Addressed}
use Rattle.asm_arm.specs.Operands.{Cuts, one, two, three, cut, without_first, marked, between, register, ReadsScale}

-- the number that an offset is which isn't written
abbrev pub zero : Expr
zero = record { items = item.Constant (value.Number 0) ∷ [] }

-- a register, before which a minus may stand
abbrev pub signed_by : List ℕ → List Token → Option (List Token) → Result (Bool × Register) LineKind
signed_by text ts (Some us) = mapped (λ rm. (true, rm)) (register text us)
signed_by text ts None = mapped (λ rm. (false, rm)) (register text ts)

abbrev pub signed_register : List ℕ → List Token → Result (Bool × Register) LineKind
signed_register text ts = signed_by text ts (without_first text (codes "-") ts)

-- a shift of an offset has no register
abbrev pub number_shift : Scale → Result Shift LineKind
number_shift (scale.By k a) = Ok (shift.By k a)
number_shift (scale.Register k rs) = Err Syntax
number_shift scale.Extended = Ok shift.Extended

abbrev pub ReadsPlainOffset : List ℕ → List Token → Option (List Token) → Result Offset LineKind → Type 0
ReadsPlainOffset text x (Some e) r = Expression text (λ v. offset_is.Number v) e r
ReadsPlainOffset text x None r = r ≡ mapped (λ p. offset_is.Register p.0 p.1 shift.Unshifted) (signed_register text x)

-- an offset: a number behind #, or a register, behind which a shift may stand
abbrev pub ReadsOffset : List ℕ → List Token → Option (List Token) → Result Offset LineKind → Type 0
ReadsOffset text x None r = ReadsPlainOffset text x (without_first text (codes "#") x) r
ReadsOffset text x (Some s) r =
    (sh : Result Scale LineKind) × ReadsScale text s sh
    × (r ≡ on_both (λ p x. offset_is.Register p.0 p.1 x) (signed_register text x) (and_then sh number_shift))

-- an address
abbrev pub at : Indexing → Register → Offset → Addressed
at i rn o = record { rn = rn; indexing = i; offset = o }

-- a base and an offset
abbrev pub ReadsAt : List ℕ → Indexing → List Token → List Token → Option (List Token) → Result Addressed LineKind → Type 0
ReadsAt text i n x s r =
    (o : Result Offset LineKind) × ReadsOffset text x s o × (r ≡ on_both (λ rn x. at i rn x) (register text n) o)

-- a base and an offset with a shift, where offsets have one
abbrev pub ReadsScaledAt : List ℕ → Indexing → Bool → List Token → List Token → List Token → Result Addressed LineKind → Type 0
ReadsScaledAt text i true n x s r = ReadsAt text i n x (Some s) r
ReadsScaledAt text i false n x s r = r ≡ Err Syntax

-- what stands in brackets, and whether an offset may have a shift
abbrev pub ReadsInside : List ℕ → Indexing → Bool → Cuts → Result Addressed LineKind → Type 0
ReadsInside text i w (one n) r = r ≡ mapped (λ rn. at i rn offset_is.Absent) (register text n)
ReadsInside text i w (two n x) r = ReadsAt text i n x None r
ReadsInside text i w (three n x s) r = ReadsScaledAt text i w n x s r
ReadsInside text i w _ r = r ≡ Err Syntax

-- the tokens in brackets, and whether `!` stands behind them
abbrev pub bracketed : List ℕ → List Token → Option (List Token) × Bool
bracketed text ts =
    (between text (codes "[") (codes "]") (marked text (codes "!") ts).0, (marked text (codes "!") ts).1)

-- `!` writes the base back
abbrev pub before_of : Bool → Indexing
before_of true = indexing_is.Before
before_of false = indexing_is.Offset

abbrev pub ReadsBracketed : List ℕ → Bool → Option (List Token) × Bool → Result Addressed LineKind → Type 0
ReadsBracketed text w (None, mark) r = r ≡ Err Syntax
ReadsBracketed text w (Some ts, mark) r = ReadsInside text (before_of mark) w (cut (operands text ts)) r

-- an address with its offset in the brackets
abbrev pub ReadsBefore : List ℕ → Bool → List Token → Result Addressed LineKind → Type 0
ReadsBefore text w a r = ReadsBracketed text w (bracketed text a) r

-- the base alone in brackets
abbrev pub base_in : List ℕ → Option (List Token) × Bool → Option (List Token)
base_in text (b, true) = None
base_in text (b, false) = b

abbrev pub base : List ℕ → List Token → Option (List Token)
base text a = base_in text (bracketed text a)

abbrev pub ReadsBehind : List ℕ → Option (List Token) → List Token → Option (List Token) → Result Addressed LineKind → Type 0
ReadsBehind text None x s r = r ≡ Err Syntax
ReadsBehind text (Some n) x s r = ReadsAt text indexing_is.After n x s r

-- an address with its offset behind the brackets
abbrev pub ReadsAfter : List ℕ → List Token → List Token → Option (List Token) → Result Addressed LineKind → Type 0
ReadsAfter text a x s r = ReadsBehind text (base text a) x s r

-- an address with the suffix T
abbrev pub translated_of : Indexing → Addressed → Addressed
translated_of i a = at i a.rn a.offset

-- a base alone
abbrev pub is_one : Cuts → Bool
is_one (one n) = true
is_one _ = false

abbrev pub is_base : List ℕ → Option (List Token) → Bool
is_base text None = false
is_base text (Some ts) = is_one (cut (operands text ts))

-- with the suffix T no offset stands in the brackets, and no `!` behind them
abbrev pub translated_before : Bool → Result Addressed LineKind → Result Addressed LineKind
translated_before true p = mapped (translated_of indexing_is.Translated) p
translated_before false p = mapped (translated_of indexing_is.TranslatedBefore) p

-- an address with its offset in the brackets, with the suffix T or without it
abbrev pub before_as : List ℕ → Bool → List Token → Result Addressed LineKind → Result Addressed LineKind
before_as text true a p = translated_before (is_base text (base text a)) p
before_as text false a p = p

-- the same of an address with its offset behind the brackets
abbrev pub after_as : Bool → Result Addressed LineKind → Result Addressed LineKind
after_as true p = mapped (translated_of indexing_is.Translated) p
after_as false p = p

-- the offset of a half-word, which has no shift
abbrev pub unshifted : Bool → Register → Shift → Result HalfOffset LineKind
unshifted subtract rm shift.Unshifted = Ok (half.Register subtract rm)
unshifted subtract rm _ = Err Syntax

abbrev pub half_offset : Offset → Result HalfOffset LineKind
half_offset offset_is.Absent = Ok (half.Number zero)
half_offset (offset_is.Number v) = Ok (half.Number v)
half_offset (offset_is.Register subtract rm s) = unshifted subtract rm s
