-- Addresses of transfers.
use Rattle.std.proofs.Common.{ℕ, List, Bool, true, false, Option, Some, None}
use Rattle.std.specs.Prelude.{codes, Result, Ok, Err}
use Rattle.sdt_fault.specs.declared.kinds.LineKind.{LineKind}
use Rattle.sdt_fault.specs.declared.kinds.LineKind.TheVariants.{Syntax}
use Rattle.asm_model.specs.declared.tokens.Token.{Token}
use Rattle.asm_model.specs.declared.operands.Register.{Register}
use Rattle.asm_model.specs.declared.operands.Shift.{Shift}
use Rattle.asm_model.specs.declared.operands.Shift.TheVariants as shift
use Rattle.asm_model.specs.declared.operands.Indexing.{Indexing}
use Rattle.asm_model.specs.declared.operands.Indexing.TheVariants as indexing_is
use Rattle.asm_model.specs.Operands.{operands}
use Rattle.asm_model.specs.Readings.{and_then, mapped, on_both}
use Rattle.asm_arm.specs.declared.operands.Scale.{Scale}
use Rattle.asm_arm.specs.declared.operands.Scale.TheVariants as scale
use Rattle.asm_arm.specs.declared.addresses.Offset.{Offset}
use Rattle.asm_arm.specs.declared.addresses.Offset.TheVariants as offset_is
use Rattle.asm_arm.specs.declared.addresses.Addressed.{Addressed}
use Rattle.asm_arm.specs.Addresses.{signed_by, signed_register, number_shift, ReadsPlainOffset, ReadsOffset, at, ReadsAt, ReadsScaledAt, ReadsInside, bracketed, before_of, ReadsBracketed, ReadsBefore, base, ReadsBehind, ReadsAfter, translated_of, is_base, translated_before, before_as, after_as, unshifted, half_offset}
use Rattle.asm_arm.specs.Operands.{Cuts, one, two, three, cut, without_first, register}
use Rattle.asm_model.specs.Said.{IsRead, RegisterSaid, ShiftSaid, HalfOffsetSaid, IsUntranslated}
use Rattle.asm_reading.proofs.ExpressionLemmas.{zero_read, expression_gives}
use Rattle.asm_reading.proofs.FormLemmas.{CutsHaveForm, SomeHaveForm, cuts_form, without_first_form, bracketed_form}
use Rattle.asm_reading.proofs.GivesLemmas.{Gives, equal_gives, fault_gives, mapped_gives, followed_gives, both_give}
use Rattle.asm_reading.proofs.OperandLemmas.{register_said, ScaleSaid, scale_said}
use Rattle.asm_reading.proofs.TokenLemmas.{EachHasForm}

-- ---- offsets

abbrev pub SignedSaid : Bool × Register → Type 0
SignedSaid p = RegisterSaid p.1

abbrev pub OffsetSaid : Offset → Type 0
OffsetSaid offset_is.Absent = Unit {0}
OffsetSaid (offset_is.Number v) = IsRead v
OffsetSaid (offset_is.Register subtract rm by) = RegisterSaid rm × ShiftSaid by

signed_by_said : (text : List ℕ) (ts : List Token) (o : Option (List Token)) → Gives SignedSaid (signed_by text ts o)
signed_by_said text ts (Some us) = mapped_gives RegisterSaid SignedSaid (λ rm. (true, rm)) (register text us) (λ rm p. p) (register_said text us)
signed_by_said text ts None = mapped_gives RegisterSaid SignedSaid (λ rm. (false, rm)) (register text ts) (λ rm p. p) (register_said text ts)

signed_said : (text : List ℕ) (ts : List Token) → Gives SignedSaid (signed_register text ts)
signed_said text ts = signed_by_said text ts (without_first text (codes "-") ts)

number_shift_said : (s : Scale) → ScaleSaid s → Gives ShiftSaid (number_shift s)
number_shift_said (scale.By k a) h = h
number_shift_said (scale.Register k rs) h = tt
number_shift_said scale.Extended h = tt

plain_offset_said : (text : List ℕ) (x : List Token) (o : Option (List Token)) (r : Result Offset LineKind) → SomeHaveForm text o
    → ReadsPlainOffset text x o r → Gives OffsetSaid r
plain_offset_said text x (Some e) r f h = expression_gives OffsetSaid text (λ v. offset_is.Number v) e r f h (λ v p. p)
plain_offset_said text x None r f h =
    equal_gives OffsetSaid r (mapped (λ p. offset_is.Register p.0 p.1 shift.Unshifted) (signed_register text x)) h
    (mapped_gives SignedSaid OffsetSaid (λ p. offset_is.Register p.0 p.1 shift.Unshifted) (signed_register text x) (λ p q. (q, tt)) (signed_said text x))

offset_said : (text : List ℕ) (x : List Token) (s : Option (List Token)) (r : Result Offset LineKind) → EachHasForm text x → SomeHaveForm text s
    → ReadsOffset text x s r → Gives OffsetSaid r
offset_said text x None r f g h = plain_offset_said text x (without_first text (codes "#") x) r (without_first_form text (codes "#") x f) h
offset_said text x (Some s) r f g h =
    equal_gives OffsetSaid r (on_both (λ p y. offset_is.Register p.0 p.1 y) (signed_register text x) (and_then h.0 number_shift)) h.2
    (both_give SignedSaid ShiftSaid OffsetSaid (λ p y. offset_is.Register p.0 p.1 y) (signed_register text x) (and_then h.0 number_shift) (λ p y a b. (a, b))
    (signed_said text x) (followed_gives ScaleSaid ShiftSaid h.0 number_shift number_shift_said (scale_said text s h.0 g h.1)))

-- ---- addresses

abbrev pub AddressedSaid : Addressed → Type 0
AddressedSaid a = RegisterSaid a.rn × OffsetSaid a.offset

abbrev pub PlacedSaid : Addressed → Type 0
PlacedSaid a = AddressedSaid a × IsUntranslated a.indexing

at_said : (text : List ℕ) (i : Indexing) (n x : List Token) (s : Option (List Token)) (r : Result Addressed LineKind) → IsUntranslated i
    → EachHasForm text x → SomeHaveForm text s → ReadsAt text i n x s r → Gives PlacedSaid r
at_said text i n x s r u f g h =
    equal_gives PlacedSaid r (on_both (λ rn y. at i rn y) (register text n) h.0) h.2
    (both_give RegisterSaid OffsetSaid PlacedSaid (λ rn y. at i rn y) (register text n) h.0 (λ rn y a b. ((a, b), u))
    (register_said text n) (offset_said text x s h.0 f g h.1))

scaled_at_said : (text : List ℕ) (i : Indexing) (w : Bool) (n x s : List Token) (r : Result Addressed LineKind) → IsUntranslated i
    → EachHasForm text x → EachHasForm text s → ReadsScaledAt text i w n x s r → Gives PlacedSaid r
scaled_at_said text i true n x s r u f g h = at_said text i n x (Some s) r u f g h
scaled_at_said text i false n x s r u f g h = fault_gives PlacedSaid Syntax r h

inside_said : (text : List ℕ) (i : Indexing) (w : Bool) (os : Cuts) (r : Result Addressed LineKind) → IsUntranslated i → CutsHaveForm text os
    → ReadsInside text i w os r → Gives PlacedSaid r
inside_said text i w (one n) r u f h =
    equal_gives PlacedSaid r (mapped (λ rn. at i rn offset_is.Absent) (register text n)) h
    (mapped_gives RegisterSaid PlacedSaid (λ rn. at i rn offset_is.Absent) (register text n) (λ rn p. ((p, tt), u)) (register_said text n))
inside_said text i w (two n x) r u f h = at_said text i n x None r u f.1 tt h
inside_said text i w (three n x s) r u f h = scaled_at_said text i w n x s r u f.1 f.2 h
inside_said text i w os r u f h = fault_gives PlacedSaid Syntax r h

before_untranslated : (mark : Bool) → IsUntranslated (before_of mark)
before_untranslated true = tt
before_untranslated false = tt

bracketed_said : (text : List ℕ) (w : Bool) (o : Option (List Token)) (mark : Bool) (r : Result Addressed LineKind) → SomeHaveForm text o
    → ReadsBracketed text w (o, mark) r → Gives PlacedSaid r
bracketed_said text w None mark r f h = fault_gives PlacedSaid Syntax r h
bracketed_said text w (Some ts) mark r f h =
    inside_said text (before_of mark) w (cut (operands text ts)) r (before_untranslated mark) (cuts_form text ts f) h

pub before_said : (text : List ℕ) (w : Bool) (a : List Token) (r : Result Addressed LineKind) → EachHasForm text a → ReadsBefore text w a r → Gives PlacedSaid r
before_said text w a r f h = bracketed_said text w (bracketed text a).0 (bracketed text a).1 r (bracketed_form text a f) h

behind_said : (text : List ℕ) (o : Option (List Token)) (x : List Token) (s : Option (List Token)) (r : Result Addressed LineKind)
    → EachHasForm text x → SomeHaveForm text s → ReadsBehind text o x s r → Gives PlacedSaid r
behind_said text None x s r f g h = fault_gives PlacedSaid Syntax r h
behind_said text (Some n) x s r f g h = at_said text indexing_is.After n x s r tt f g h

pub after_said : (text : List ℕ) (a x : List Token) (s : Option (List Token)) (r : Result Addressed LineKind)
    → EachHasForm text x → SomeHaveForm text s → ReadsAfter text a x s r → Gives PlacedSaid r
after_said text a x s r f g h = behind_said text (base text a) x s r f g h

-- ---- the suffix T

placed_addressed : (p : Result Addressed LineKind) → Gives PlacedSaid p → Gives AddressedSaid p
placed_addressed (Ok a) h = h.0
placed_addressed (Err k) h = tt

translated_said : (i : Indexing) (p : Result Addressed LineKind) → Gives PlacedSaid p → Gives AddressedSaid (mapped (translated_of i) p)
translated_said i p h = mapped_gives PlacedSaid AddressedSaid (translated_of i) p (λ a q. q.0) h

translated_before_said : (b : Bool) (p : Result Addressed LineKind) → Gives PlacedSaid p → Gives AddressedSaid (translated_before b p)
translated_before_said true p h = translated_said indexing_is.Translated p h
translated_before_said false p h = translated_said indexing_is.TranslatedBefore p h

pub before_as_said : (text : List ℕ) (t : Bool) (a : List Token) (p : Result Addressed LineKind) → Gives PlacedSaid p
    → Gives AddressedSaid (before_as text t a p)
before_as_said text true a p h = translated_before_said (is_base text (base text a)) p h
before_as_said text false a p h = placed_addressed p h

pub after_as_said : (t : Bool) (p : Result Addressed LineKind) → Gives PlacedSaid p → Gives AddressedSaid (after_as t p)
after_as_said true p h = translated_said indexing_is.Translated p h
after_as_said false p h = placed_addressed p h

-- ---- half-words

unshifted_said : (subtract : Bool) (rm : Register) (s : Shift) → RegisterSaid rm → Gives HalfOffsetSaid (unshifted subtract rm s)
unshifted_said subtract rm shift.Unshifted h = h
unshifted_said subtract rm s h = tt

pub half_offset_said : (o : Offset) → OffsetSaid o → Gives HalfOffsetSaid (half_offset o)
half_offset_said offset_is.Absent h = zero_read
half_offset_said (offset_is.Number v) h = h
half_offset_said (offset_is.Register subtract rm s) h = unshifted_said subtract rm s h.0
