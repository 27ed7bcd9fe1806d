-- A literal has one word in all of its area.
use Rattle.std.proofs.Common.{◌≡◌, ℕ, List, [], ◌∷◌, ◌++◌, refl, sym, ◌∙◌, ap, subst, Option, Some, None}
use Rattle.std.specs.Prelude.{Result, Ok, Err}
use Rattle.sdt_fault.specs.declared.kinds.LineKind.{LineKind}
use Rattle.asm_model.specs.declared.exprs.BinaryOp.TheVariants.{Add}
use Rattle.asm_model.specs.declared.values.Value.{Value}
use Rattle.asm_model.specs.declared.values.Value.TheVariants.{Number, Truth, Words, Place}
use Rattle.asm_model.specs.declared.names.LaidName.{LaidName}
use Rattle.asm_model.specs.declared.names.Names.{Names}
use Rattle.asm_model.specs.declared.statements.Statement.{Statement}
use Rattle.asm_model.specs.Meaning.{named_in, entry_stands_at, in_area, binary, entry_value, value_of}
use Rattle.asm_model.specs.Labels.{declared_names}
use Rattle.asm_model.specs.Laid.{LaidLine, laid, final_names}
use Rattle.asm_model.specs.Marks.{datum_names}
use Rattle.asm_model.specs.Readings.{then_both}
use Rattle.asm_model.specs.Symbols.{literal_value}
use Rattle.source_model.specs.Contexts.{Context, sees}
use Rattle.source_model.specs.Objects.{source_of, context_in, literal_stored}
use Rattle.source_model.specs.Units.{placed, stored}
use Rattle.source_laws.specs.Laws.{context_behind}
use Rattle.source_laws.proofs.LineLemmas.{is_laid}

-- a line stands in its statement's area
pub line_area : (ss : List Statement) (after before : List LaidLine) (l : LaidLine) → laid ss ≡ after ++ l ∷ before → l.line.area ≡ l.area
line_area ss after before l e = subst (λ (z : LaidLine). z.line.area ≡ z.area) (sym (is_laid (declared_names ss) ss after before l e).1) refl

abbrev pub with_number : Names → Option LaidName → ℕ → Result Value LineKind
with_number names o n = then_both (value_of o) (Ok (Number n)) (binary names Add)

pub sum_same : (a b : Names) (o : Option LaidName) (n : ℕ) → with_number a o n ≡ with_number b o n
sum_same a b None n = refl
sum_same a b (Some e) n = by_value (entry_value e)
  where
    by_value : (r : Result Value LineKind) → then_both r (Ok (Number n)) (binary a Add) ≡ then_both r (Ok (Number n)) (binary b Add)
    by_value (Ok (Number m)) = refl
    by_value (Ok (Truth c)) = refl
    by_value (Ok (Words w)) = refl
    by_value (Ok (Place s p)) = refl
    by_value (Err k) = refl

-- the word of a literal of an area is that of a line there
pub literal_stored_there : (ss : List Statement) (area : ℕ) (after before : List LaidLine) (l : LaidLine) → laid ss ≡ after ++ l ∷ before → l.area ≡ Some area
    → (v : Value)
    → literal_stored (source_of ss) area v
    ≡ stored (context_behind ss l before) (datum_names ss) (literal_value (sees (context_behind ss l before)) v)
literal_stored_there ss area after before l e own v = by_value v
  where
    c : Context
    c = context_in (source_of ss) (Some area)

    there : Context
    there = context_behind ss l before

    put_same : (s : List ℕ) (n : ℕ) (o : Option (ℕ × ℕ)) → placed c (datum_names ss) s n o ≡ placed there (datum_names ss) s n o
    put_same s n None = refl
    put_same s n (Some a) = refl

    stored_same : (r : Result Value LineKind) → stored c (datum_names ss) r ≡ stored there (datum_names ss) r
    stored_same (Ok (Number n)) = refl
    stored_same (Ok (Truth b)) = refl
    stored_same (Ok (Words w)) = refl
    stored_same (Ok (Place [] n)) =
        ap Ok (put_same [] n (in_area (Some area) 0)) ∙ ap (λ z. Ok (placed there (datum_names ss) [] n (in_area z 0)))
        (sym (line_area ss after before l e ∙ own))
    stored_same (Ok (Place (x ∷ xs) n)) = ap Ok (put_same (x ∷ xs) n (entry_stands_at (named_in (x ∷ xs) (final_names (laid ss)))))
    stored_same (Err k) = refl

    by_value : (v : Value) → stored c (datum_names ss) (literal_value (sees c) v) ≡ stored there (datum_names ss) (literal_value (sees there) v)
    by_value (Place (x ∷ xs) n) =
        ap (stored c (datum_names ss)) (sum_same (sees c) (sees there) (named_in (x ∷ xs) (final_names (laid ss))) n)
        ∙ stored_same (with_number (sees there) (named_in (x ∷ xs) (final_names (laid ss))) n)
    by_value (Place [] n) = stored_same (Ok (Place [] n))
    by_value (Number n) = stored_same (Ok (Number n))
    by_value (Truth b) = stored_same (Ok (Truth b))
    by_value (Words w) = stored_same (Ok (Words w))
