-- The top of a stack.
use Rattle.std.proofs.Common.{◌≡◌, ℕ, ◌<◌, List, [], ◌∷◌, ◌++◌, ◌+◌, ◌≤◌, length, drop, get_or, map, reverse, Option, Some, None, sym, ◌∙◌, ap, arith, refl, Bool, true, false}
use Rattle.std.specs.Prelude.{Ok, if◌then◌else◌}
use Rattle.std.specs.Option.{option_to_list}
use Rattle.std.proofs.lemmas.List.{drop_more, reverse-append, reverse-reverse}
use Rattle.std.proofs.Math.ListN.{drop_of_length-le}
use Rattle.asm_expr.specs.declared.parser.Held.{Held}
use Rattle.asm_model.specs.declared.exprs.ExprItem.{ExprItem}
use Rattle.asm_model.specs.declared.exprs.Part.{Part}
use Rattle.asm_model.specs.declared.exprs.Part.TheVariants as part
use Rattle.asm_model.specs.Grammar.{plain}
use Rattle.asm_expr.specs.Parsing.{State, is_tight, emptied, parsed, put, started, step, finished}
use Rattle.asm_expr.specs.Steps.{Pops, Takes}

pub pops_top : (limit : ℕ) (old new : List Held) (o : Option Held) (top : Held) → old ≡ new ++ option_to_list o → o ≡ Some top → is_tight limit top ≡ true
    → Pops limit old o new
pops_top limit old new o top e s t =
    let whole : old ≡ new ++ top ∷ [] = rw s at e in
    rw s (ap reverse whole ∙ reverse-append new (top ∷ []), t)

none_waits : (items : List ExprItem) (stack r : List Held) → reverse stack ≡ r → 0 < length stack → emptied (items, r) ≡ None
none_waits items stack [] e h = absurd (let l = ap length (sym (reverse-reverse stack) ∙ ap reverse e) in omega arith)
none_waits items stack (x ∷ xs) e h = refl

some_waits : (items : List ExprItem) (stack : List Held) → length stack ≡ 0 → emptied (items, reverse stack) ≡ Some items
some_waits items [] e = refl
some_waits items (x ∷ xs) e = absurd (omega arith)

-- what is left where nothing waits, and where something does
pub emptied_some : (items : List ExprItem) (stack : List Held) (s : List ExprItem × List Held) → (items, reverse stack) ≡ s → length stack ≡ 0
    → emptied s ≡ Some items
emptied_some items stack s e z = ap emptied (sym e) ∙ some_waits items stack z

pub emptied_none : (items : List ExprItem) (stack : List Held) (s : List ExprItem × List Held) → (items, reverse stack) ≡ s → 0 < length stack
    → emptied s ≡ None
emptied_none items stack s e h = ap emptied (sym e) ∙ none_waits items stack (reverse stack) refl h

-- the state after one part more, and after the last
pub taken_step : {A : Type 0} (f : A → Part) (xs : List A) (i : ℕ) (x : A) (p : Part) (old new : State) (b : Bool) (all : Option (List ExprItem))
    → i < length xs → p ≡ f (get_or xs i x) → Takes (step old p) (Ok b) new → b ≡ true → parsed (Some old) (map f (drop i xs)) ≡ all
    → parsed (Some new) (map f (drop (i + 1) xs)) ≡ all
taken_step f xs i x p old new false all h e t eb inv = absurd (cc)
taken_step f xs i x p old new true all h e t eb inv =
    let cons : drop i xs ≡ get_or xs i x ∷ drop (i + 1) xs = drop_more xs i x h in
    let before : parsed (step old (f (get_or xs i x))) (map f (drop (i + 1) xs)) ≡ all = rw cons at inv in
    let next : step old (f (get_or xs i x)) ≡ Some new = ap (step old) (sym e) ∙ t in
    rw next at before

pub taken_end : {A : Type 0} (f : A → Part) (xs : List A) (i : ℕ) (s : State) (all : Option (List ExprItem)) → length xs ≤ i
    → parsed (Some s) (map f (drop i xs)) ≡ all → all ≡ finished s
taken_end f xs i s all h inv = let none : drop i xs ≡ [] = drop_of_length-le xs h in sym (rw none at inv)

-- an item alone, where it is an operand and where it is none
put_read : (o : Option ExprItem) (i : ExprItem) → o ≡ Some i → parsed (put [] [] o) [] ≡ Some (i ∷ [])
unfolding finished
put_read o i e = rw e refl

put_nothing : (o : Option ExprItem) → o ≡ None → parsed (put [] [] o) [] ≡ None
put_nothing o e = rw e refl

pub operand_read : (i : ExprItem) (b : Bool) (items : List ExprItem) → plain i ≡ (if b then Some i else None) → b ≡ true → items ≡ i ∷ []
    → parsed (Some started) (part.Operand i ∷ []) ≡ Some items
unfolding step
operand_read i b items h t e = let p : plain i ≡ Some i = rw t at h in rw e (put_read (plain i) i p)

pub no_operand_read : (i : ExprItem) (b : Bool) → plain i ≡ (if b then Some i else None) → b ≡ false
    → parsed (Some started) (part.Operand i ∷ []) ≡ None
unfolding step
no_operand_read i b h t = let p : plain i ≡ None = rw t at h in put_nothing (plain i) p
