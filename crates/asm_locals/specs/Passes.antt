-- Steps of naming. References are named in two passes: forwards those that name labels before, backwards the others.
use Rattle.std.specs.Prelude.{◌≡◌, ◌<◌, ℕ, suc, List, [], ◌∷◌, length, slice_get, Bool, if◌then◌else◌, Option, Some, None}
use Rattle.std.specs.Option.{option_and_then}
use Rattle.asm_model.specs.declared.exprs.ExprItem.{ExprItem}
use Rattle.asm_model.specs.declared.exprs.ExprItem.TheVariants as item
use Rattle.asm_model.specs.declared.statements.Statement.{Statement}
use Rattle.asm_locals.specs.declared.labels.Nearest.{Nearest}
use Rattle.asm_locals.specs.declared.labels.Way.{Way}
use Rattle.asm_locals.specs.declared.labels.Way.TheVariants as way
use Rattle.asm_locals.specs.Labels.{local_number, is_number, label_behind, label_ahead, back_to, forth_to, number_behind}
use Rattle.asm_locals.specs.Naming.{named_label, named_what}

-- the entry of a number in a table of the nearest labels
abbrev pub entry : List (Option ℕ) → ℕ → Option ℕ
entry table n = option_and_then (λ o. o) (slice_get table n)

-- a table of these labels
pub record IsTable (table : List (Option ℕ)) (labels : ℕ → Option ℕ) : Type 0 where
  pub size : length table ≡ 100
  pub entries : (n : ℕ) → n < 100 → entry table n ≡ labels n

-- labels behind a line or ahead of it, with those of the line: a line may begin a stretch, and may have a label
abbrev pub begun : Bool → (ℕ → Option ℕ) → ℕ → Option ℕ
begun begins labels n = if begins then None else labels n

abbrev pub noted : Option ℕ → ℕ → (ℕ → Option ℕ) → ℕ → Option ℕ
noted number statement labels n = if is_number n number then Some statement else labels n

-- the number that a reference names on one side, and the statement of its label
abbrev pub number_at : Way → List ℕ → Option ℕ
number_at way.Back text = number_behind 66 70 text
number_at way.Forth text = number_behind 70 66 text

abbrev pub found : Nearest → List ℕ → Option ℕ
found nearest text = option_and_then (entry nearest.table.items) (number_at nearest.way text)

abbrev pub target_of : Nearest → ExprItem → Option ℕ
target_of nearest (item.Local text) = found nearest text
target_of nearest i = None

-- a statement with the references that name labels on it or before, behind those, the nearest first
abbrev pub named_back : List Statement → Statement → Statement
named_back before s = record s { what = named_what (back_to (label_behind (s ∷ before))) s.what }

abbrev pub looked_back : List Statement → List Statement → List Statement
looked_back before [] = []
looked_back before (s ∷ rest) = named_back before s ∷ looked_back (s ∷ before) rest

-- a statement, counted k, with its label and the references that name later ones
abbrev pub named_ahead : ℕ → Statement → List Statement → Statement
named_ahead k s rest =
    record s { label = named_label k (local_number s) s.label; what = named_what (forth_to (label_ahead (suc k) rest)) s.what }

abbrev pub looked_ahead : ℕ → List Statement → List Statement
looked_ahead k [] = []
looked_ahead k (s ∷ rest) = named_ahead k s rest ∷ looked_ahead (suc k) rest
