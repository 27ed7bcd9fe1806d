-- The answers of evaluations at a line.
use Rattle.std.proofs.Common.{◌≡◌, List, true, false, sym, ◌∙◌, ap, subst}
use Rattle.std.specs.Prelude.{Result, Ok, Err}
use Rattle.sdt_fault.specs.declared.kinds.LineKind.{LineKind}
use Rattle.sdt_fault.specs.declared.kinds.LineKind.TheVariants.{UnknownWord}
use Rattle.asm_model.specs.declared.exprs.ExprItem.{ExprItem}
use Rattle.asm_model.specs.declared.values.Value.{Value}
use Rattle.asm_model.specs.declared.values.Value.TheVariants.{Number, Place}
use Rattle.asm_model.specs.declared.values.EvalFault.{EvalFault}
use Rattle.asm_model.specs.declared.values.EvalFault.TheVariants as eval
use Rattle.asm_model.specs.declared.names.Names.{Names}
use Rattle.asm_model.specs.AtLine.{kept_names, literal_or}
use Rattle.asm_model.specs.Grammar.{Tree}
use Rattle.asm_model.specs.Meaning.{meaning, IsValue, Evaluates}
use Rattle.asm_names.specs.Steps.{kept_items, is_settled, place_or_forward, SeesKept}
use Rattle.asm_names.specs.Values.{SeesLiteral}
use Rattle.asm_names.proofs.ItemLemmas.{kept_of_tree, kept_same, kept_spelled}

pub sees_kept : (s : Names) (items kept : List ExprItem) (r : Result Value EvalFault) → kept ≡ kept_items s items → Evaluates s kept r → SeesKept s items r
sees_kept s items kept r k h ps t d e =
    let spelled = kept_spelled s ps t d in
    h spelled.0 (kept_names s t) spelled.1 (k ∙ ap (kept_items s) e ∙ kept_of_tree s ps t d)

-- ---- literals

abbrev NoNumber : Result Value LineKind → Type 0
NoNumber (Ok (Number n)) = ⊥
NoNumber _ = Unit {0}

unsettled : (x : Result Value LineKind) (r : Result Value EvalFault) → IsValue x r → is_settled r ≡ false → NoNumber x
unsettled x (Ok (Number n)) h u = absurd (cc)
unsettled x (Err eval.NoMemory) h u = absurd (cc)
unsettled x (Ok w) h u = subst NoNumber (sym h) tt
unsettled x (Err (eval.Kind k)) h u = subst NoNumber (sym h) tt

literal_is : (x m : Result Value LineKind) (r : Result Value EvalFault) → NoNumber x → IsValue m r → IsValue (literal_or x m) (place_or_forward r)
literal_is (Ok (Number n)) m r h v = absurd h
literal_is x m (Err eval.NoMemory) h v = tt
literal_is x m (Ok (Place s p)) h v = ap (literal_or x) v
literal_is x m (Err (eval.Kind UnknownWord)) h v = ap (literal_or x) v
literal_is x m (Ok w) h v = ap (literal_or x) v
literal_is x m (Err (eval.Kind k)) h v = ap (literal_or x) v

pub sees_settled : (s : Names) (items : List ExprItem) (r : Result Value EvalFault) → Evaluates s items r → is_settled r ≡ true → SeesLiteral s items r
sees_settled s items r h u ps t d e = by_value r (h ps t d e) u
  where
    by_value : (r : Result Value EvalFault) → IsValue (meaning s t) r → is_settled r ≡ true → IsValue (literal_or (meaning s t) (meaning s (kept_names s t))) r
    by_value (Ok (Number n)) h u = ap (λ x. literal_or x (meaning s (kept_names s t))) h
    by_value (Ok (Place q p)) h u =
        ap (λ (v : Tree). literal_or (meaning s t) (meaning s v)) (kept_same s t (Place q p) h)
        ∙ ap (λ x. literal_or x x) h
    by_value (Err eval.NoMemory) h u = tt
    by_value (Ok w) h u = absurd (cc)
    by_value (Err (eval.Kind k)) h u = absurd (cc)

pub sees_literal : (s : Names) (items : List ExprItem) (r k : Result Value EvalFault) → Evaluates s items r → is_settled r ≡ false → SeesKept s items k
    → SeesLiteral s items (place_or_forward k)
sees_literal s items r k h u g ps t d e =
    literal_is (meaning s t) (meaning s (kept_names s t)) k (unsettled (meaning s t) r (h ps t d e) u) (g ps t d e)
