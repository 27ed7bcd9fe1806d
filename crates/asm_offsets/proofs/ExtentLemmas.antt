-- What statements take up can be placed.
use Rattle.std.proofs.Common.{◌≡◌, ℕ, ◌≤◌, Bool, true, false, cond, refl, ap, ◌∙◌, subst, arith, zero, suc}
use Rattle.std.specs.Prelude.{Result, Ok, Err}
use Rattle.sdt_fault.specs.declared.kinds.LineKind.{LineKind}
use Rattle.sdt_fault.specs.declared.kinds.LineKind.TheVariants.{BadOperand}
use Rattle.asm_model.specs.declared.values.Value.{Value}
use Rattle.asm_model.specs.declared.values.Value.TheVariants.{Number, Truth, Words, Place}
use Rattle.asm_model.specs.declared.statements.What.{What}
use Rattle.asm_model.specs.declared.statements.What.TheVariants as what
use Rattle.asm_model.specs.declared.statements.PseudoLine.{PseudoLine}
use Rattle.asm_model.specs.declared.statements.PseudoLine.TheVariants as pseudo
use Rattle.asm_model.specs.declared.thumb_lines.ThumbLine.{ThumbLine}
use Rattle.asm_model.specs.declared.thumb_lines.ThumbLine.TheVariants as thumb
use Rattle.asm_model.specs.declared.directives.Boundary.{Boundary}
use Rattle.asm_model.specs.declared.directives.Boundary.TheVariants as limit
use Rattle.asm_model.specs.declared.directives.DataItem.{DataItem}
use Rattle.asm_model.specs.declared.directives.DataItem.TheVariants.{Word, UnalignedWord, HalfWord, Byte}
use Rattle.asm_model.specs.declared.names.Names.{Names}
use Rattle.asm_model.specs.DataItems.{item_alignment}
use Rattle.asm_model.specs.Occupied.{Occupied, Unplaced, Opening, Marking, Entering, Items, Zeroes, UpTo, Literals, occupied}
use Rattle.asm_model.specs.Extents.{Extent, Block, Padding, Loading, Pool, number_there, literal_there, is_moved, is_power, loading, thumb_extent, pseudo_extent, as_multiple, padding, occupied_extent, extent_of}
use Rattle.asm_model.specs.OffsetLaws.{IsLiteral}
use Rattle.asm_model.specs.Readings.{mapped, on_both}
use Rattle.asm_model.proofs.LaidLemmas.{loadings_are_literals}
use Rattle.asm_offsets.specs.Coded.{IsAlignment, IsExtent}
use Rattle.asm_offsets.specs.Laws.{ExtentsArePlaceable}

abbrev IsAligned : Extent → Type 0
IsAligned (Block alignment n) = IsAlignment alignment
IsAligned (Padding multiple n) = 1 ≤ multiple
IsAligned (Loading n v) = IsAlignment n
IsAligned Pool = Unit {0}

abbrev OkAligned : Result Extent LineKind → Type 0
OkAligned (Ok e) = IsAligned e
OkAligned (Err k) = Unit {0}

one : IsAlignment 1
one = record { some = omega arith; small = omega arith }

two : IsAlignment 2
two = record { some = omega arith; small = omega arith }

four : IsAlignment 4
four = record { some = omega arith; small = omega arith }

aligned_mapped : {A : Type 0} (f : A → Extent) (r : Result A LineKind) → ((x : A) → IsAligned (f x)) → OkAligned (mapped f r)
aligned_mapped f (Ok x) h = h x
aligned_mapped f (Err k) h = tt

aligned_instruction : (thumb : Bool) (n m : ℕ) → IsAligned (cond thumb (Block 2 n) (Block 4 m))
aligned_instruction true n m = two
aligned_instruction false n m = four

aligned_loading : (thumb : Bool) (v : Value) → IsAligned (loading thumb v)
aligned_loading true (Number n) = two
aligned_loading true (Truth b) = two
aligned_loading true (Words w) = two
aligned_loading true (Place s n) = two
aligned_loading false (Number n) = by_test (is_moved n)
  where
    by_test : (b : Bool) → IsAligned (cond b (Block 4 4) (Loading 4 (Number n)))
    by_test true = four
    by_test false = four
aligned_loading false (Truth b) = four
aligned_loading false (Words w) = four
aligned_loading false (Place s n) = four

aligned_thumb : (l : ThumbLine) → IsAligned (thumb_extent l)
aligned_thumb (thumb.BranchLink target) = two
aligned_thumb l = two

aligned_pseudo : (s : Names) (l : PseudoLine) → OkAligned (pseudo_extent s l)
aligned_pseudo s (pseudo.LoadConstant condition rd value) = aligned_mapped (loading s.thumb) (literal_there s value) (aligned_loading s.thumb)
aligned_pseudo s (pseudo.Address condition rd target) = aligned_instruction s.thumb 2 4
aligned_pseudo s (pseudo.LongAddress condition rd target) = four
aligned_pseudo s pseudo.NoOperation = aligned_instruction s.thumb 2 4

not_zero : is_power 0 ≡ false
unfolding is_power
not_zero = refl

power_some : (n : ℕ) → is_power n ≡ true → 1 ≤ n
power_some zero h = absurd (cc (not_zero))
power_some (suc n) h = omega arith

multiple_some : (r : Result ℕ LineKind) (n : ℕ) → OkAligned (mapped (λ m. Padding m n) (as_multiple r))
multiple_some (Ok m) n = by_test (is_power m) refl
  where
    by_test : (b : Bool) → is_power m ≡ b → OkAligned (mapped (λ m. Padding m n) (cond b (Ok m) (Err BadOperand)))
    by_test true e = power_some m e
    by_test false e = tt
multiple_some (Err k) n = tt

both_some : (r q : Result ℕ LineKind) → OkAligned (on_both (λ m n. Padding m n) (as_multiple r) q)
both_some (Ok m) (Ok n) = by_test (is_power m) refl
  where
    by_test : (b : Bool) → is_power m ≡ b → OkAligned (on_both (λ m n. Padding m n) (cond b (Ok m) (Err BadOperand)) (Ok n))
    by_test true e = power_some m e
    by_test false e = tt
both_some (Ok m) (Err k) = by_test (is_power m)
  where
    by_test : (b : Bool) → OkAligned (on_both (λ m n. Padding m n) (cond b (Ok m) (Err BadOperand)) (Err k))
    by_test true = tt
    by_test false = tt
both_some (Err j) (Ok n) = tt
both_some (Err j) (Err k) = tt

aligned_padding : (s : Names) (b : Boundary) → OkAligned (padding s b)
aligned_padding s limit.Word = omega arith
aligned_padding s (limit.Multiple e) = multiple_some (number_there s e) 0
aligned_padding s (limit.Behind e f) = both_some (number_there s e) (number_there s f)

pub aligned_item : (i : DataItem) → IsAlignment (item_alignment i)
aligned_item Word = four
aligned_item UnalignedWord = one
aligned_item HalfWord = two
aligned_item Byte = one

aligned_occupied : (s : Names) (o : Occupied) → OkAligned (occupied_extent s o)
aligned_occupied s Unplaced = one
aligned_occupied s (Opening a) = one
aligned_occupied s Marking = one
aligned_occupied s Entering = aligned_instruction s.thumb 0 0
aligned_occupied s (Items item es) = aligned_item item
aligned_occupied s (Zeroes e) = aligned_mapped (λ n. Block 1 n) (number_there s e) (λ x. one)
aligned_occupied s (UpTo b) = aligned_padding s b
aligned_occupied s Literals = tt

aligned : (s : Names) (w : What) → OkAligned (extent_of s w)
aligned s what.Nothing = one
aligned s (what.Arm l) = four
aligned s (what.Thumb l) = aligned_thumb l
aligned s (what.Pseudo l) = aligned_pseudo s l
aligned s (what.Directive l) = aligned_occupied s (occupied l)

with_literal : (e : Extent) → IsAligned e → ((n : ℕ) (v : Value) → e ≡ Loading n v → IsLiteral v) → IsExtent e
with_literal (Block alignment n) h l = h
with_literal (Padding multiple n) h l = h
with_literal (Loading n v) h l = record { alignment = h; literal = l n v refl }
with_literal Pool h l = tt

pub extents_are_placeable : ExtentsArePlaceable
extents_are_placeable s w e h =
    with_literal e (subst OkAligned h (aligned s w)) (λ n v l. loadings_are_literals s w n v (h ∙ ap Ok l))
