-- Values of expressions that tokens spell.
use Rattle.std.proofs.Common.{◌≡◌, ◌<◌, ℕ, zero, suc, List, [], ◌∷◌, length, get_or, sym, subst, arith, Option}
use Rattle.std.specs.Prelude.{Result}
use Rattle.asm_model.specs.declared.exprs.Expr.{Expr}
use Rattle.asm_model.specs.declared.values.Value.{Value}
use Rattle.asm_model.specs.declared.values.EvalFault.{EvalFault}
use Rattle.asm_model.specs.declared.names.Names.{Names}
use Rattle.asm_model.specs.Grammar.{Tree}
use Rattle.asm_model.specs.Meaning.{IsValue, Evaluates}
use Rattle.asm_model.specs.Extents.{tree_value, tree_literal, value_there, number_there, literal_there, as_number}
use Rattle.asm_model.proofs.TreeLemmas.{trees_read_back}
use Rattle.asm_names.specs.Values.{SeesNumber, SeesLiteral, IsNumber}
use Rattle.asm_model.specs.Said.{IsRead, AllRead}

pub value_read : (s : Names) (e : Expr) (r : Result Value EvalFault) → IsRead e → Evaluates s e.items r → IsValue (value_there s e) r
value_read s e r read sees =
    subst (λ (o : Option Tree). IsValue (tree_value s o) r) (sym (trees_read_back read.parts read.tree e read.spelled read.items))
    (sees read.parts read.tree read.spelled read.items)

pub number_read : (s : Names) (e : Expr) (r : Result ℕ EvalFault) → IsRead e → SeesNumber s e.items r → IsNumber (number_there s e) r
number_read s e r read sees =
    subst (λ (o : Option Tree). IsNumber (as_number (tree_value s o)) r) (sym (trees_read_back read.parts read.tree e read.spelled read.items))
    (sees read.parts read.tree read.spelled read.items)

pub literal_read : (s : Names) (e : Expr) (r : Result Value EvalFault) → IsRead e → SeesLiteral s e.items r → IsValue (literal_there s e) r
literal_read s e r read sees =
    subst (λ (o : Option Tree). IsValue (tree_literal s o) r) (sym (trees_read_back read.parts read.tree e read.spelled read.items))
    (sees read.parts read.tree read.spelled read.items)

-- one of several expressions
pub read_at : (es : List Expr) (i : ℕ) (e : Expr) → i < length es → e ≡ get_or es i e → AllRead es → IsRead e
read_at [] i e below is read = absurd (let x = below in omega arith)
read_at (x ∷ es) zero e below is read = subst IsRead (sym is) read.0
read_at (x ∷ es) (suc i) e below is read = read_at es i e (omega arith) is read.1
