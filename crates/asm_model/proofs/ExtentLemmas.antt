-- The alignment of a statement is that of what it takes up.
use Rattle.std.proofs.Common.{◌≡◌, ℕ, List, Bool, true, false, cond, refl, subst}
use Rattle.std.specs.Prelude.{Result, Ok, Err}
use Rattle.sdt_fault.specs.declared.kinds.LineKind.{LineKind}
use Rattle.asm_model.specs.declared.values.Value.{Value}
use Rattle.asm_model.specs.declared.values.Value.TheVariants.{Number, Truth, Words, Place}
use Rattle.asm_model.specs.declared.statements.What.{What}
use Rattle.asm_model.specs.declared.statements.What.TheVariants as what
use Rattle.asm_model.specs.declared.statements.PseudoLine.{PseudoLine}
use Rattle.asm_model.specs.declared.statements.PseudoLine.TheVariants as pseudo
use Rattle.asm_model.specs.declared.thumb_lines.ThumbLine.{ThumbLine}
use Rattle.asm_model.specs.declared.thumb_lines.ThumbLine.TheVariants as thumb
use Rattle.asm_model.specs.declared.directives.Boundary.{Boundary}
use Rattle.asm_model.specs.declared.directives.Boundary.TheVariants as limit
use Rattle.asm_model.specs.declared.names.Names.{Names}
use Rattle.asm_model.specs.Extents.{Extent, Block, Padding, Loading, number_there, literal_there, is_moved, instruction, loading, thumb_extent, pseudo_extent, as_multiple, padding, occupied_extent, extent_of, pseudo_alignment, occupied_alignment, alignment}
use Rattle.asm_model.specs.Occupied.{Occupied, Unplaced, Opening, Marking, Entering, Items, Zeroes, UpTo, Literals, occupied}
use Rattle.asm_model.specs.Offsets.{alignment_of}
use Rattle.asm_model.specs.Readings.{mapped, on_both}

abbrev AlignsAs : List Value → ℕ → Result Extent LineKind → Type 0
AlignsAs literals a (Ok e) = alignment_of literals e ≡ a
AlignsAs literals a (Err k) = Unit {0}

pub aligns_mapped : {A : Type 0} (literals : List Value) (a : ℕ) (f : A → Extent) (r : Result A LineKind)
    → ((x : A) → alignment_of literals (f x) ≡ a) → AlignsAs literals a (mapped f r)
aligns_mapped literals a f (Ok x) h = h x
aligns_mapped literals a f (Err k) h = tt

pub aligns_both : {A B : Type 0} (literals : List Value) (a : ℕ) (f : A → B → Extent) (r : Result A LineKind) (q : Result B LineKind)
    → ((x : A) (y : B) → alignment_of literals (f x y) ≡ a) → AlignsAs literals a (on_both f r q)
aligns_both literals a f (Ok x) (Ok y) h = h x y
aligns_both literals a f (Ok x) (Err k) h = tt
aligns_both literals a f (Err k) (Ok y) h = tt
aligns_both literals a f (Err k) (Err j) h = tt

pub aligns_instruction : (literals : List Value) (thumb : Bool) → alignment_of literals (instruction thumb) ≡ cond thumb 2 4
aligns_instruction literals true = refl
aligns_instruction literals false = refl

pub aligns_loading : (literals : List Value) (thumb : Bool) (v : Value) → alignment_of literals (loading thumb v) ≡ cond thumb 2 4
aligns_loading literals true (Number n) = refl
aligns_loading literals true (Truth b) = refl
aligns_loading literals true (Words w) = refl
aligns_loading literals true (Place s n) = refl
aligns_loading literals false (Number n) = by_test (is_moved n)
  where
    by_test : (b : Bool) → alignment_of literals (cond b (Block 4 4) (Loading 4 (Number n))) ≡ 4
    by_test true = refl
    by_test false = refl
aligns_loading literals false (Truth b) = refl
aligns_loading literals false (Words w) = refl
aligns_loading literals false (Place s n) = refl

pub aligns_thumb : (literals : List Value) (l : ThumbLine) → alignment_of literals (thumb_extent l) ≡ 2
aligns_thumb literals (thumb.BranchLink target) = refl
aligns_thumb literals l = refl

pub aligns_pseudo : (s : Names) (literals : List Value) (l : PseudoLine) → AlignsAs literals (pseudo_alignment s.thumb l) (pseudo_extent s l)
aligns_pseudo s literals (pseudo.LoadConstant condition rd value) =
    aligns_mapped literals (cond s.thumb 2 4) (loading s.thumb) (literal_there s value) (aligns_loading literals s.thumb)
aligns_pseudo s literals (pseudo.Address condition rd target) = aligns_instruction literals s.thumb
aligns_pseudo s literals (pseudo.LongAddress condition rd target) = refl
aligns_pseudo s literals pseudo.NoOperation = aligns_instruction literals s.thumb

pub aligns_padding : (s : Names) (literals : List Value) (b : Boundary) → AlignsAs literals 1 (padding s b)
aligns_padding s literals limit.Word = refl
aligns_padding s literals (limit.Multiple e) =
    aligns_mapped literals 1 (λ m. Padding m 0) (as_multiple (number_there s e)) (λ x. refl)
aligns_padding s literals (limit.Behind e f) =
    aligns_both literals 1 (λ m n. Padding m n) (as_multiple (number_there s e)) (number_there s f) (λ x y. refl)

pub aligns_entry : (literals : List Value) (thumb : Bool) → alignment_of literals (cond thumb (Block 2 0) (Block 4 0)) ≡ cond thumb 2 4
aligns_entry literals true = refl
aligns_entry literals false = refl

pub aligns_occupied : (s : Names) (literals : List Value) (o : Occupied) → AlignsAs literals (occupied_alignment s.thumb literals o) (occupied_extent s o)
aligns_occupied s literals Unplaced = refl
aligns_occupied s literals (Opening a) = refl
aligns_occupied s literals Marking = refl
aligns_occupied s literals Entering = aligns_entry literals s.thumb
aligns_occupied s literals (Items item es) = refl
aligns_occupied s literals (Zeroes e) = aligns_mapped literals 1 (λ n. Block 1 n) (number_there s e) (λ x. refl)
aligns_occupied s literals (UpTo b) = aligns_padding s literals b
aligns_occupied s literals Literals = refl

pub aligns : (s : Names) (literals : List Value) (w : What) → AlignsAs literals (alignment s.thumb literals w) (extent_of s w)
aligns s literals what.Nothing = refl
aligns s literals (what.Arm l) = refl
aligns s literals (what.Thumb l) = aligns_thumb literals l
aligns s literals (what.Pseudo l) = aligns_pseudo s literals l
aligns s literals (what.Directive l) = aligns_occupied s literals (occupied l)

pub alignments_agree : (s : Names) (w : What) (literals : List Value) (e : Extent)
    → extent_of s w ≡ Ok e → alignment_of literals e ≡ alignment s.thumb literals w
alignments_agree s w literals e h = subst (λ r. AlignsAs literals (alignment s.thumb literals w) r) h (aligns s literals w)
