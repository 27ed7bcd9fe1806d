-- What directives take up by what they occupy.
use Rattle.std.proofs.Common.{◌≡◌, ℕ, List, ap, ◌∙◌}
use Rattle.std.specs.Prelude.{Result, Ok, Err, IfOk}
use Rattle.asm_model.specs.declared.exprs.Expr.{Expr}
use Rattle.asm_model.specs.declared.directives.DataItem.{DataItem}
use Rattle.asm_model.specs.declared.directives.DirectiveLine.{DirectiveLine}
use Rattle.asm_model.specs.declared.directives.Held.{Held}
use Rattle.asm_model.specs.declared.names.Names.{Names}
use Rattle.asm_model.specs.declared.statements.What.TheVariants as what
use Rattle.asm_model.specs.DataItems.{item_alignment, held_by}
use Rattle.asm_model.specs.Extents.{Block, held_size, occupied_extent}
use Rattle.asm_model.specs.Occupied.{Occupied, Items, occupied}
use Rattle.asm_laying.specs.declared.extents.SizedStatement.{SizedStatement}
use Rattle.asm_laying.specs.Reading.{all_capped, held_marks, occupied_marks, IsHeld, IsOccupied, IsTaken}

-- what data items take up by how they are held
items_there : (s : Names) (i : DataItem) (es : List Expr) (a : ℕ) (h : Held) (t : SizedStatement) → a ≡ item_alignment i → h ≡ held_by i → IsHeld s a h es t
    → IsOccupied s (Items i es) t
items_there s i es a h t e f x = record {
  extent = x.extent ∙ ap (λ (z : ℕ). all_capped (Ok (Block z (held_size s h es)))) e
      ∙ ap (λ (z : Held). all_capped (Ok (Block (item_alignment i) (held_size s z es)))) f;
  strings = x.strings ∙ ap (λ (z : Held). held_marks s z es) f;
}

pub items_taken : {E : Type 0} (s : Names) (i : DataItem) (es : List Expr) (a : ℕ) (h : Held) (r : Result SizedStatement E) → a ≡ item_alignment i
    → h ≡ held_by i
    → IfOk r (λ t. IsHeld s a h es t) → IfOk r (λ t. IsOccupied s (Items i es) t)
items_taken s i es a h (Ok t) e f x = items_there s i es a h t e f x
items_taken s i es a h (Err k) e f x = tt

-- what a directive takes up by what it occupies
there : (s : Names) (l : DirectiveLine) (o : Occupied) (t : SizedStatement) → o ≡ occupied l → IsOccupied s o t → IsTaken s (what.Directive l) t
there s l o t e h = record {
  extent = h.extent ∙ ap (λ z. all_capped (occupied_extent s z)) e;
  strings = h.strings ∙ ap (occupied_marks s) e;
}

pub occupied_taken : {E : Type 0} (s : Names) (l : DirectiveLine) (o : Occupied) (r : Result SizedStatement E) → o ≡ occupied l
    → IfOk r (λ t. IsOccupied s o t) → IfOk r (λ t. IsTaken s (what.Directive l) t)
occupied_taken s l o (Ok t) e h = there s l o t e h
occupied_taken s l o (Err k) e h = tt
