-- What stands in an area: its instructions fit their rows, a branch that is left to the linker stands at a multiple of 4,
-- and words name areas of the source.
use Rattle.std.proofs.Common.{◌≡◌, ℕ, ◌+◌, ◌-◌, ◌%◌, ◌<◌, List, [], ◌∷◌, ◌++◌, length, Bool, true, false, cond, refl, sym, ◌∙◌, subst, arith, Option, Some, None, ◌⊎◌, inl, inr, nat_lt}
use Rattle.std.specs.Prelude.{Result, Ok, Err}
use Rattle.std.proofs.lemmas.Bool.{ltb-true}
use Rattle.sdt_fault.specs.declared.kinds.LineKind.{LineKind}
use Rattle.sdt_fault.specs.declared.kinds.LineKind.TheVariants.{OutOfRange}
use Rattle.arm_isa.specs.declared.instr.ArmInstr.{ArmInstr}
use Rattle.thumb_isa.specs.declared.instr.ThumbInstr.{ThumbInstr}
use Rattle.asm_model.specs.declared.arm_lines.ArmLine.{ArmLine}
use Rattle.asm_model.specs.declared.directives.DirectiveLine.TheVariants as line
use Rattle.asm_model.specs.declared.directives.Held.{Held}
use Rattle.asm_model.specs.declared.directives.Held.TheVariants as held
use Rattle.asm_model.specs.declared.directives.RnOperand.{RnOperand}
use Rattle.asm_model.specs.declared.directives.RnOperand.TheVariants as rn
use Rattle.asm_model.specs.declared.exprs.Expr.{Expr}
use Rattle.asm_model.specs.declared.thumb_lines.ThumbLine.{ThumbLine}
use Rattle.asm_model.specs.declared.thumb_lines.ThumbLine.TheVariants as thumb
use Rattle.asm_model.specs.declared.statements.PseudoLine.{PseudoLine}
use Rattle.asm_model.specs.declared.statements.Statement.{Statement}
use Rattle.asm_model.specs.declared.statements.What.{What}
use Rattle.asm_model.specs.declared.statements.What.TheVariants as what
use Rattle.asm_model.specs.declared.values.Value.{Value}
use Rattle.asm_model.specs.declared.names.Names.{Names}
use Rattle.asm_model.specs.DataItems.{held_by}
use Rattle.asm_model.specs.Forms.{same}
use Rattle.asm_model.specs.Extents.{Extent, Block, number_there, thumb_extent, value_there, extent_of}
use Rattle.asm_model.specs.Labels.{Defined, RegisterName, field_defines, defined_by, declared_names}
use Rattle.asm_model.specs.Laid.{LaidLine, statements_of, taken, pieces_of, laid}
use Rattle.asm_model.specs.Marks.{datum_names}
use Rattle.asm_model.specs.Offsets.{waiting, end_behind, start_from}
use Rattle.asm_model.specs.Readings.{and_then, mapped, on_both}
use Rattle.asm_model.specs.Sound.{IsSound}
use Rattle.layout_laws.proofs.SoundLemmas.{statements_kept}
use Rattle.asm_model.specs.Said.{GivenSaid, ArmSaid, ThumbSaid, PseudoSaid, WhatSaid, AllSaid}
use Rattle.source_model.specs.ArmForms.{arm_instruction}
use Rattle.source_model.specs.Contexts.{Context, value_of, number_in}
use Rattle.source_model.specs.Objects.{Piece, unit_bytes, units_from, or_none, source_of, IsAmong, StandsIn}
use Rattle.source_model.specs.PseudoForms.{pseudo_instructions}
use Rattle.source_model.specs.ThumbForms.{thumb_instruction, thumb_pseudo}
use Rattle.source_model.specs.declared.codes.ThumbCode.{ThumbCode}
use Rattle.source_model.specs.declared.codes.ThumbCode.TheVariants.{One, Pair}
use Rattle.source_model.specs.Registers.{Named, register_in, as_register, given, with_register, named_by, registers_behind}
use Rattle.source_model.specs.Units.{Emitted, Bytes, Word, Instruction, Half, LinkPair, stored, word_units, narrow, number_units, byte_operand, byte_units, branch_symbol, link_symbol, code_unit, instruction_units, pseudo_units, held_units, units}
use Rattle.asm_instructions.specs.Fits.{NamesRegisters, Fits, AllFit}
use Rattle.source_laws.specs.Laws.{word_among, context_behind}
use Rattle.asm_instructions.specs.ThumbFits.{ThumbFits, CodeFits}
use Rattle.asm_instructions.proofs.FitLemmas.{instruction_fits, pseudo_instructions_fit}
use Rattle.asm_instructions.proofs.ThumbFitLemmas.{thumb_instruction_fits, thumb_pseudo_fits}
use Rattle.source_laws.proofs.LineLemmas.{stands_in}
use Rattle.source_laws.proofs.ListedLemmas.{OwnUnit}
use Rattle.source_laws.proofs.PoolLemmas.{PoolWord, unit_or_word}
use Rattle.source_laws.proofs.ThingLemmas.{known_extent}

abbrev pub LinkedAligned : ℕ → Option (List ℕ) → Type 0
LinkedAligned at None = Unit {0}
LinkedAligned at (Some name) = at % 4 ≡ 0

abbrev pub IsGood : Piece → Type 0
IsGood (at, Bytes b) = Unit {0}
IsGood (at, Word w) = Unit {0}
IsGood (at, Instruction i symbol) = Fits i × LinkedAligned at symbol
IsGood (at, Half i) = ThumbFits i
IsGood (at, LinkPair first second symbol) = CodeFits (Pair first second) × (at % 2 ≡ 0)

abbrev pub AreGood : List Piece → Type 0
AreGood [] = Unit {0}
AreGood (p ∷ ps) = IsGood p × AreGood ps

good_among : (p : Piece) (ps : List Piece) → AreGood ps → IsAmong p ps → IsGood p
good_among p [] h k = absurd k
good_among p (q ∷ ps) h (inl e) = subst IsGood (sym e) h.0
good_among p (q ∷ ps) h (inr k) = good_among p ps h.1 k

abbrev pub ResultGood : ℕ → Result (List Emitted) LineKind → Type 0
ResultGood at (Ok us) = AreGood (units_from at us)
ResultGood at (Err k) = Unit {0}

-- ---- data

data_joined : {A : Type 0} → (f : A → Emitted) (at : ℕ) (x : Result A LineKind) (y : Result (List Emitted) LineKind) → ((a : A) (i : ℕ) → IsGood (i, f a))
    → ((i : ℕ) → ResultGood i y) → ResultGood at (on_both (λ a us. f a ∷ us) x y)
data_joined f at (Ok a) (Ok us) h k = (h a at, k (at + length (unit_bytes (f a))))
data_joined f at (Ok a) (Err j) h k = tt
data_joined f at (Err j) (Ok us) h k = tt
data_joined f at (Err j) (Err i) h k = tt

words_good : (c : Context) (d : List (List ℕ)) (es : List Expr) (at : ℕ) → ResultGood at (word_units c d es)
words_good c d [] at = tt
words_good c d (e ∷ es) at = data_joined Word at (stored c d (value_of c e)) (word_units c d es) (λ w i. tt) (words_good c d es)

numbers_good : (c : Context) (width : ℕ) (es : List Expr) (at : ℕ) → ResultGood at (number_units c width es)
numbers_good c width [] at = tt
numbers_good c width (e ∷ es) at =
    data_joined Bytes at (and_then (number_in c e) (narrow width)) (number_units c width es) (λ b i. tt) (numbers_good c width es)

bytes_good : (c : Context) (s : Names) (es : List Expr) (at : ℕ) → ResultGood at (byte_units c s es)
bytes_good c s [] at = tt
bytes_good c s (e ∷ es) at = data_joined Bytes at (byte_operand (value_there s e) (value_of c e)) (byte_units c s es) (λ b i. tt) (bytes_good c s es)

held_good : (at : ℕ) (c : Context) (d : List (List ℕ)) (s : Names) (h : Held) (es : List Expr) → ResultGood at (held_units c d s h es)
held_good at c d s held.Relocatable es = words_good c d es at
held_good at c d s (held.Fixed width) es = numbers_good c width es at
held_good at c d s held.Strings es = bytes_good c s es at

-- ---- instructions

instructions_good : (is : List ArmInstr) (at : ℕ) → AllFit is → AreGood (units_from at (instruction_units is))
instructions_good [] at h = tt
instructions_good (i ∷ is) at h = ((h.0, tt), instructions_good is (at + length (unit_bytes (Instruction i None))) h.1)

arm_good : (at : ℕ) (c : Context) (l : ArmLine) → NamesRegisters c → ArmSaid l → at % 4 ≡ 0
    → ResultGood at (mapped (λ i. Instruction i (branch_symbol c l) ∷ []) (arm_instruction c l))
arm_good at c l named said aligned = by_result (arm_instruction c l) refl
  where
    by_symbol : (o : Option (List ℕ)) → LinkedAligned at o
    by_symbol None = tt
    by_symbol (Some name) = aligned

    by_result : (r : Result ArmInstr LineKind) → arm_instruction c l ≡ r → ResultGood at (mapped (λ i. Instruction i (branch_symbol c l) ∷ []) r)
    by_result (Ok i) e = ((instruction_fits c named l i said e, by_symbol (branch_symbol c l)), tt)
    by_result (Err k) e = tt

thumb_good : (at : ℕ) (c : Context) (l : ThumbLine) → ThumbSaid l → at % 2 ≡ 0
    → ResultGood at (mapped (λ i. code_unit (link_symbol c l) i ∷ []) (thumb_instruction c l))
thumb_good at c l said even = by_result (thumb_instruction c l) refl
  where
    by_code : (i : ThumbCode) → CodeFits i → IsGood (at, code_unit (link_symbol c l) i)
    by_code (One i) h = h
    by_code (Pair first second) h = (h, even)

    by_result : (r : Result ThumbCode LineKind) → thumb_instruction c l ≡ r → ResultGood at (mapped (λ i. code_unit (link_symbol c l) i ∷ []) r)
    by_result (Ok i) e = (by_code i (thumb_instruction_fits c l i said e), tt)
    by_result (Err k) e = tt

pseudo_good : (at : ℕ) (c : Context) (word : Option ℕ) (l : PseudoLine) (thumb : Bool) → NamesRegisters c → PseudoSaid l
    → ResultGood at (pseudo_units thumb c word l)
pseudo_good at c word l true named said = by_result (thumb_pseudo c word l) refl
  where
    by_result : (r : Result ThumbInstr LineKind) → thumb_pseudo c word l ≡ r → ResultGood at (mapped (λ i. Half i ∷ []) r)
    by_result (Ok i) e = (thumb_pseudo_fits c word l i e, tt)
    by_result (Err k) e = tt
pseudo_good at c word l false named said = by_result (pseudo_instructions c word l) refl
  where
    by_result : (r : Result (List ArmInstr) LineKind) → pseudo_instructions c word l ≡ r → ResultGood at (mapped instruction_units r)
    by_result (Ok is) e = instructions_good is at (pseudo_instructions_fit c named word l is said e)
    by_result (Err k) e = tt

-- ---- lines

abbrev pub IsAligned : ℕ → What → Type 0
IsAligned at (what.Arm l) = at % 4 ≡ 0
IsAligned at (what.Thumb l) = at % 2 ≡ 0
IsAligned at _ = Unit {0}

line_good : (at : ℕ) (c : Context) (d : List (List ℕ)) (s : Names) (word : Option ℕ) (w : What) → NamesRegisters c → WhatSaid w → IsAligned at w
    → ResultGood at (units c d s word w)
line_good at c d s word what.Nothing named said aligned = tt
line_good at c d s word (what.Arm l) named said aligned = arm_good at c l named said aligned
line_good at c d s word (what.Thumb l) named said aligned = thumb_good at c l said aligned
line_good at c d s word (what.Pseudo l) named said aligned = pseudo_good at c word l c.line.thumb named said
line_good at c d s word (what.Directive (line.Constants item es)) named said aligned = held_good at c d s (held_by item) es
line_good at c d s word (what.Directive l) named said aligned = tt

raised_aligned : (at x : ℕ) → at ≡ x + (4 + 0 % 4 - x % 4) % 4 → at % 4 ≡ 0
raised_aligned at x h = omega arith

raised_even : (at x : ℕ) → at ≡ x + (2 + 0 % 2 - x % 2) % 2 → at % 2 ≡ 0
raised_even at x h = omega arith

thumb_block : (l : ThumbLine) → (n : ℕ) × (thumb_extent l ≡ Block 2 n)
thumb_block (thumb.BranchLink target) = (4, refl)
thumb_block l = (2, refl)

instruction_aligned : (s : Names) (w : What) (e : Extent) (x : ℕ) (ws : List Value) (at : ℕ) → extent_of s w ≡ Ok e → at ≡ start_from x ws e → IsAligned at w
instruction_aligned s (what.Arm l) e x ws at h k =
    let f : Block 4 4 ≡ e = cc in raised_aligned at x (subst (λ z. at ≡ start_from x ws z) (sym f) k)
instruction_aligned s (what.Thumb l) e x ws at h k =
    let f : thumb_extent l ≡ e = cc in raised_even at x (subst (λ z. at ≡ start_from x ws z) (sym f ∙ (thumb_block l).1) k)
instruction_aligned s what.Nothing e x ws at h k = tt
instruction_aligned s (what.Pseudo l) e x ws at h k = tt
instruction_aligned s (what.Directive l) e x ws at h k = tt

-- ---- names for registers

abbrev pub AreRegisters : List Named → Type 0
AreRegisters [] = Unit {0}
AreRegisters (r ∷ rs) = (r.1 < 16) × AreRegisters rs

registers_joined : (xs ys : List Named) → AreRegisters xs → AreRegisters ys → AreRegisters (xs ++ ys)
registers_joined [] ys h k = k
registers_joined (x ∷ xs) ys h k = (h.0, registers_joined xs ys h.1 k)

register_below : (rs : List Named) (q : List ℕ) (n : ℕ) → AreRegisters rs → register_in q rs ≡ Some n → n < 16
register_below [] q n h e = absurd (cc)
register_below (r ∷ rs) q n h e = by_test (same r.0 q) (register_below rs q n h.1) e
  where
    by_test : (b : Bool) → (register_in q rs ≡ Some n → n < 16) → cond b (Some r.1) (register_in q rs) ≡ Some n → n < 16
    by_test true rest k = let is : r.1 ≡ n = cc in subst (λ z. z < 16) is h.0
    by_test false rest k = rest k

number_below : (r : Result ℕ LineKind) (n : ℕ) → as_register r ≡ Ok n → n < 16
number_below (Ok m) n e = by_test (nat_lt m 16) refl e
  where
    by_test : (b : Bool) → nat_lt m 16 ≡ b → cond b (Ok m) (Err OutOfRange) ≡ Ok n → n < 16
    by_test true t k = let is : m ≡ n = cc in subst (λ z. z < 16) is (ltb-true m 16 t)
    by_test false t k = absurd (cc)
number_below (Err k) n e = absurd (cc)

given_below : (s : Names) (r : RnOperand) → GivenSaid r → (n : ℕ) → given s r ≡ Ok n → n < 16
given_below s (rn.Register m) h n e = let is : m ≡ n = cc in subst (λ z. z < 16) is h
given_below s (rn.Number e) h n k = number_below (number_there s e) n k

with_below : (name : List ℕ) (r : Result ℕ LineKind) → ((n : ℕ) → r ≡ Ok n → n < 16) → AreRegisters (with_register name r)
with_below name (Ok n) h = (h n refl, tt)
with_below name (Err k) h = tt

abbrev pub DefinedGiven : Defined → Type 0
DefinedGiven (RegisterName name r) = GivenSaid r
DefinedGiven _ = Unit {0}

named_below : (s : Names) (d : Defined) → DefinedGiven d → AreRegisters (named_by s d)
named_below s (RegisterName name r) h = with_below name (given s r) (given_below s r h)
named_below s d h = tt

defined_given : (label : Option (List ℕ)) (w : What) → WhatSaid w → DefinedGiven (field_defines label w)
defined_given None w h = tt
defined_given (Some name) (what.Directive (line.Equ e)) h = tt
defined_given (Some name) (what.Directive (line.Rn r)) h = h
defined_given (Some name) (what.Directive (line.Field e)) h = tt
defined_given (Some name) (what.Directive line.Rout) h = tt
defined_given (Some name) w h = tt

registers_good : (lines : List LaidLine) → AllSaid (statements_of lines) → AreRegisters (registers_behind lines)
registers_good [] h = tt
registers_good (l ∷ before) h =
    registers_joined (registers_behind before) (named_by l.seen (defined_by l.statement)) (registers_good before h.1)
    (named_below l.seen (defined_by l.statement) (defined_given l.statement.label l.statement.what h.0.read))

-- ---- contexts

said_behind : (after before : List LaidLine) → AllSaid (statements_of (after ++ before)) → AllSaid (statements_of before)
said_behind [] before h = h
said_behind (l ∷ after) before h = said_behind after before h.1

pub lines_said : (ss : List Statement) (after before : List LaidLine) (l : LaidLine) → AllSaid ss → laid ss ≡ after ++ l ∷ before
    → AllSaid (statements_of (l ∷ before))
lines_said ss after before l said e =
    said_behind after (l ∷ before) (subst (λ z. AllSaid (statements_of z)) e (subst AllSaid (sym (statements_kept (declared_names ss) ss)) said))

-- ---- things

pub good_thing : (ss : List Statement) → IsSound ss → AllSaid ss → (area : ℕ) (p : Piece) → StandsIn (source_of ss) area p → IsGood p
good_thing ss sound said area p x = by_kind (unit_or_word ss area p x)
  where
    aligned : (u : OwnUnit ss area p) → IsAligned u.owner.offset u.owner.statement.what
    aligned u =
        let l = u.owner in
        instruction_aligned l.seen l.statement.what (taken l.extent) (end_behind area (pieces_of u.before)) (waiting area (pieces_of u.before)) l.offset
        (known_extent ss sound u.after u.before l u.parts) (stands_in ss sound area u.after u.before l u.parts u.own).0

    by_result : (at : ℕ) (r : Result (List Emitted) LineKind) → ResultGood at r → IsAmong p (units_from at (or_none r)) → IsGood p
    by_result at (Ok us) f k = good_among p (units_from at us) f k
    by_result at (Err j) f k = absurd k

    by_kind : OwnUnit ss area p ⊎ PoolWord ss area p → IsGood p
    by_kind (inl u) =
        let l = u.owner in
        let c = context_behind ss l u.before in
        let own = lines_said ss u.after u.before l said u.parts in
        by_result l.offset (units c (datum_names ss) l.seen (word_among u.after l u.before) l.statement.what)
        (line_good l.offset c (datum_names ss) l.seen (word_among u.after l u.before) l.statement.what
        (λ q m e. register_below (registers_behind u.before) q m (registers_good u.before own.1) e) own.0.read (aligned u)) u.among
    by_kind (inr w) = subst IsGood (sym w.is) tt
