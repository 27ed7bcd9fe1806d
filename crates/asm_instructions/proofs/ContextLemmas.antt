-- What a lookup finds is what each context finds that it shows.
use Rattle.std.proofs.Common.{◌≡◌, ℕ, List, Option, Some, None, refl, sym, ap, ◌∙◌, subst}
use Rattle.std.specs.Prelude.{Result, Ok, Err, IfOk}
use Rattle.asm_model.specs.declared.exprs.Expr.{Expr}
use Rattle.asm_model.specs.declared.operands.Register.{Register}
use Rattle.asm_model.specs.declared.operands.Register.TheVariants as reg
use Rattle.asm_model.specs.declared.values.Value.{Value}
use Rattle.asm_model.specs.declared.values.EvalFault.{EvalFault}
use Rattle.asm_model.specs.declared.names.Names.{Names}
use Rattle.asm_model.specs.AtLine.{with_names}
use Rattle.asm_model.specs.Forms.{same}
use Rattle.asm_model.specs.Grammar.{Tree}
use Rattle.asm_model.specs.Meaning.{named_in, meaning, IsValue, Evaluates}
use Rattle.asm_model.specs.Trees.{tree_of}
use Rattle.asm_model.proofs.TreeLemmas.{trees_read_back}
use Rattle.layout_laws.proofs.FoundLemmas.{tree_final, final_tree}
use Rattle.asm_names.specs.PlacedLines.{line_of, Sees}
use Rattle.asm_model.specs.Said.{IsRead}
use Rattle.source_model.specs.Contexts.{Context, sees, value_of, register, or_zero}
use Rattle.source_model.specs.Registers.{register_in}
use Rattle.asm_instructions.specs.declared.lookups.Lookup.{Lookup}
use Rattle.asm_instructions.specs.Lookups.{Shows, context_of}

-- ---- names

pub value_seen : (x : Lookup) (e : Expr) (r : Result Value EvalFault) → IsRead e → Evaluates (with_names (line_of x.line.now) x.names.now) e.items r
    → IsValue (value_of (context_of x) e) r
value_seen x e r read h =
    let f = line_of x.line.now in
    subst (λ v. IsValue v r)
    (sym (final_tree x.names.now f e (tree_of e) refl ∙ ap (tree_final x.names.now f) (trees_read_back read.parts read.tree e read.spelled read.items)))
    (h read.parts read.tree read.spelled read.items)

-- ---- contexts that find the same

pub record Alike (a b : Context) : Type 0 where
  pub value : (e : Expr) → value_of a e ≡ value_of b e
  pub number : (r : Register) → register a r ≡ register b r
  pub area : a.line.area ≡ b.line.area
  pub offset : a.line.offset ≡ b.line.offset
  pub thumb : a.line.thumb ≡ b.line.thumb
  pub entry : (q : List ℕ) → named_in q (sees a).list ≡ named_in q (sees b).list

module _ (x : Lookup) (c : Context) (names : c.names ≡ x.names.now) (line : Sees x.line.now c.line)
    (registers : (q : List ℕ) → register_in q x.registers.now ≡ register_in q c.registers) where
  sees_same : sees (context_of x) ≡ sees c
  sees_same = rw (names, line.area, line.offset, line.map, line.thumb) refl

  tree_same : (o : Option Tree) → tree_final x.names.now (line_of x.line.now) o ≡ tree_final c.names c.line o
  tree_same None = refl
  tree_same (Some t) = ap (λ (ns : Names). meaning ns t) sees_same

  number_same : (r : Register) → register (context_of x) r ≡ register c r
  number_same (reg.Number n) = refl
  number_same (reg.Named q) = ap or_zero (registers q)

  pub seen_alike : Alike (context_of x) c
  seen_alike = record {
    value = λ e. final_tree x.names.now (line_of x.line.now) e (tree_of e) refl ∙ tree_same (tree_of e) ∙ sym (final_tree c.names c.line e (tree_of e) refl);
    number = number_same;
    area = line.area;
    offset = line.offset;
    thumb = line.thumb;
    entry = λ q. ap (named_in q) (sym names);
  }

pub shown_alike : (x : Lookup) (c : Context) → Shows x c → Alike (context_of x) c
shown_alike x c s = seen_alike x c s.names s.line s.registers

pub all_shown : {A E : Type 0} → (x : Lookup) (f : Context → A) (r : Result A E) → ((c : Context) → Alike (context_of x) c → f (context_of x) ≡ f c)
    → IfOk r (λ v. v ≡ f (context_of x)) → IfOk r (λ v. (c : Context) → Shows x c → v ≡ f c)
all_shown x f (Ok v) same h = λ c s. h ∙ same c (shown_alike x c s)
all_shown x f (Err e) same h = tt

pub part_shown : {A B E : Type 0} → (x : Lookup) (part : A → B) (f : Context → B) (r : Result A E)
    → ((c : Context) → Alike (context_of x) c → f (context_of x) ≡ f c)
    → IfOk r (λ v. part v ≡ f (context_of x)) → IfOk r (λ v. (c : Context) → Shows x c → part v ≡ f c)
part_shown x part f (Ok v) same h = λ c s. h ∙ same c (shown_alike x c s)
part_shown x part f (Err e) same h = tt
