-- A statement by its units, and the zeros where a statement puts nothing.
use Rattle.std.proofs.Common.{◌≡◌, ℕ, ◌+◌, ◌<◌, ◌≤◌, List, [], ◌∷◌, ◌++◌, length, Bool, true, false, sym, ◌∙◌, ap, subst, arith, Option, Some, ◌⊎◌, inl, inr}
use Rattle.std.specs.Prelude.{Ok}
use Rattle.arm_isa.specs.declared.instr.ArmInstr.{ArmInstr}
use Rattle.thumb_isa.specs.declared.instr.ThumbInstr.{ThumbInstr}
use Rattle.asm_model.specs.declared.statements.PseudoLine.{PseudoLine}
use Rattle.asm_model.specs.declared.directives.DirectiveLine.TheVariants as line
use Rattle.asm_model.specs.declared.directives.Held.{Held}
use Rattle.asm_model.specs.declared.directives.Held.TheVariants as held
use Rattle.asm_model.specs.declared.exprs.Expr.{Expr}
use Rattle.asm_model.specs.declared.statements.Statement.{Statement}
use Rattle.asm_model.specs.declared.statements.What.{What}
use Rattle.asm_model.specs.declared.statements.What.TheVariants as what
use Rattle.asm_model.specs.declared.names.Names.{Names}
use Rattle.asm_model.specs.DataItems.{held_by}
use Rattle.asm_model.specs.Laid.{LaidLine, pieces_of, laid}
use Rattle.asm_model.specs.Marks.{datum_names}
use Rattle.asm_model.specs.Occupied.{Occupied, Items, Zeroes, UpTo, occupied}
use Rattle.asm_model.specs.Offsets.{area_size}
use Rattle.asm_model.specs.Sound.{IsSound}
use Rattle.source_model.specs.ArmForms.{arm_instruction}
use Rattle.source_model.specs.Objects.{Piece, unit_bytes, units_from, source_of}
use Rattle.source_model.specs.PseudoForms.{pseudo_instructions}
use Rattle.source_model.specs.ThumbForms.{thumb_instruction, thumb_pseudo}
use Rattle.source_model.specs.declared.codes.ThumbCode.{ThumbCode}
use Rattle.source_model.specs.Units.{Emitted, Instruction, Half, branch_symbol, link_symbol, code_unit, instruction_units, pseudo_units, held_units, occupied_units, units}
use Rattle.source_laws.specs.Laws.{is_filled}
use Rattle.source_laws.proofs.ApartLemmas.{IsAround, bare_line}
use Rattle.source_laws.proofs.LineLemmas.{statements_lie_in_areas}
use Rattle.patch_model.specs.Reaches.{View}
use Rattle.stand_model.specs.Placed.{ShowsZeros}
use Rattle.stand_model.specs.Stands.{HeldStand, OccupiedStands, PseudoStandsIn, ReadsHalfAt, Stands, address_behind}
use Rattle.stand_laws.proofs.ArmLemmas.{Ready, BranchMeets, arm_stands}
use Rattle.stand_laws.proofs.DataLemmas.{KnownStay, words_stand, numbers_stand, bytes_stand, first_shown}
use Rattle.stand_laws.proofs.PseudoLemmas.{PseudoHolds, pseudo_stands}
use Rattle.stand_laws.proofs.ResultLemmas.{mapped_ok}
use Rattle.stand_laws.proofs.ThumbLemmas.{LinkMeets, thumb_pseudo_stands, thumb_stands}
use Rattle.stand_laws.proofs.ValueLemmas.{Setting, lookup, AllShown, GapsShown}

-- ---- statements

-- what is asked of other statements than those that put something into their area
abbrev pub OccupiedZero : View → ℕ → ℕ → Occupied → Type 0
OccupiedZero view a size (Zeroes e) = ShowsZeros view a size
OccupiedZero view a size (UpTo b) = ShowsZeros view a size
OccupiedZero view a size o = Unit {0}

abbrev pub WhatMeets : Setting → ℕ → ℕ → Option ℕ → What → Type 0
WhatMeets k a size word what.Nothing = Unit {0}
WhatMeets k a size word (what.Arm l) = BranchMeets k l
WhatMeets k a size word (what.Thumb l) = LinkMeets k l
WhatMeets k a size word (what.Pseudo l) = PseudoHolds k word l
WhatMeets k a size word (what.Directive l) = OccupiedZero k.view a size (occupied l)

held_stand : (k : Setting) (area at a : ℕ) → Ready k area at → a ≡ k.base + at → (s : Names) (v : Held) (es : List Expr) (us : List Emitted)
    → held_units k.context (datum_names k.source.statements) s v es ≡ Ok us → AllShown k (units_from at us) → KnownStay k.context s
    → HeldStand (lookup k) a v es
held_stand k area at a ready x s held.Relocatable es us h shown stay = words_stand k es us a at ready.here x h shown
held_stand k area at a ready x s (held.Fixed width) es us h shown stay = numbers_stand k width es us a at ready.here x h shown
held_stand k area at a ready x s held.Strings es us h shown stay = bytes_stand k s es us a at ready.here stay x h shown

pub occupied_stands : (k : Setting) (area at a : ℕ) → Ready k area at → a ≡ k.base + at → (s : Names) (size : ℕ) (o : Occupied) (us : List Emitted)
    → occupied_units k.context (datum_names k.source.statements) s o ≡ Ok us → AllShown k (units_from at us) → KnownStay k.context s
    → OccupiedZero k.view a size o → OccupiedStands (lookup k) a size o
occupied_stands k area at a ready x s size (Items item es) us h shown stay zero = held_stand k area at a ready x s (held_by item) es us h shown stay
occupied_stands k area at a ready x s size (Zeroes e) us h shown stay zero = zero
occupied_stands k area at a ready x s size (UpTo b) us h shown stay zero = zero
occupied_stands k area at a ready x s size o us h shown stay zero = tt

-- in Thumb or ARM state
pseudo_in : (k : Setting) (area at a : ℕ) → Ready k area at → a ≡ k.base + at → (word : Option ℕ) (l : PseudoLine) (us : List Emitted) (thumb : Bool)
    → pseudo_units thumb k.context word l ≡ Ok us → AllShown k (units_from at us) → PseudoHolds k word l
    → PseudoStandsIn thumb (lookup k) a (address_behind k.base word) l
pseudo_in k area at a ready x word l us true h shown meets =
    let f : ThumbInstr → List Emitted = λ i. Half i ∷ [] in
    let m = mapped_ok f (thumb_pseudo k.context word l) us h in
    thumb_pseudo_stands k area at a ready x word l m.from m.is
    (subst (λ z. ReadsHalfAt k.view z m.from) (sym x) (first_shown k at (Half m.from) [] us m.gives shown).0) meets
pseudo_in k area at a ready x word l us false h shown meets =
    let m = mapped_ok instruction_units (pseudo_instructions k.context word l) us h in
    pseudo_stands k area at a ready x word l m.from m.is (subst (λ z. AllShown k (units_from at z)) (sym m.gives) shown) meets

pub line_stands : (k : Setting) (area at a : ℕ) → Ready k area at → a ≡ k.base + at → (s : Names) (size : ℕ) (word : Option ℕ) (w : What) (us : List Emitted)
    → units k.context (datum_names k.source.statements) s word w ≡ Ok us → AllShown k (units_from at us) → KnownStay k.context s
    → WhatMeets k a size word w → Stands (lookup k) a size (address_behind k.base word) w
line_stands k area at a ready x s size word what.Nothing us h shown stay meets = tt
line_stands k area at a ready x s size word (what.Arm l) us h shown stay meets =
    let f : ArmInstr → List Emitted = λ i. Instruction i (branch_symbol k.context l) ∷ [] in
    let m = mapped_ok f (arm_instruction k.context l) us h in
    arm_stands k area at a ready x l m.from m.is (first_shown k at (Instruction m.from (branch_symbol k.context l)) [] us m.gives shown).0 meets
line_stands k area at a ready x s size word (what.Thumb l) us h shown stay meets =
    let f : ThumbCode → List Emitted = λ i. code_unit (link_symbol k.context l) i ∷ [] in
    let m = mapped_ok f (thumb_instruction k.context l) us h in
    thumb_stands k area at a ready x l m.from m.is (first_shown k at (code_unit (link_symbol k.context l) m.from) [] us m.gives shown).0 meets
line_stands k area at a ready x s size word (what.Pseudo l) us h shown stay meets =
    pseudo_in k area at a ready x word l us k.context.line.thumb h shown meets
line_stands k area at a ready x s size word (what.Directive l) us h shown stay meets =
    occupied_stands k area at a ready x s size (occupied l) us h shown stay meets

-- ---- zeros

lies_inside : (i offset size all : ℕ) → i < size → offset + size ≤ all → offset + i < all
lies_inside i offset size all h k = omega arith

together : (b o i : ℕ) → b + o + i ≡ b + (o + i)
together b o i = omega arith

-- a statement that is neither an instruction nor data, and no pool
pub zeros_there : (ss : List Statement) → IsSound ss → (area : ℕ) (after before : List LaidLine) (l : LaidLine) → laid ss ≡ after ++ l ∷ before
    → l.area ≡ Some area → is_filled l.statement.what ≡ false → (l.statement.what ≡ what.Directive line.Ltorg → ⊥)
    → (view : View) (base : ℕ) → GapsShown (source_of ss) area view base → ShowsZeros view (base + l.offset) l.size
zeros_there ss sound area after before l e here bare no_pool view base gaps i small =
    let inside = statements_lie_in_areas ss sound area after before l e here in
    ap view (together base l.offset i)
    ∙ gaps (l.offset + i) (lies_inside i l.offset l.size (area_size area (pieces_of (laid ss))) small inside)
    (λ p h. away p (bare_line ss sound area after before l e here bare no_pool p h))
  where
    away : (p : Piece) → IsAround l p → (l.offset + i < p.0) ⊎ (p.0 + length (unit_bytes p.1) ≤ l.offset + i)
    away p (inl h) = inr (omega arith)
    away p (inr h) = inl (omega arith)
