-- An expression has the tree that its tokens spell.
use Rattle.std.proofs.Common.{◌≡◌, ℕ, suc, List, [], ◌∷◌, ◌++◌, refl, sym, ◌∙◌, ap, append_assoc, append-nil, Some}
use Rattle.asm_model.specs.declared.exprs.Expr.{Expr}
use Rattle.asm_model.specs.declared.exprs.ExprItem.{ExprItem}
use Rattle.asm_model.specs.declared.exprs.ExprItem.TheVariants as item
use Rattle.asm_model.specs.declared.exprs.Part.{Part}
use Rattle.asm_model.specs.declared.exprs.Part.TheVariants as part
use Rattle.asm_model.specs.Grammar.{Tree, Leaf, Before, Between, postfix, plain, operand_of, Spells, operand, of_name, before, grouped, between, tighter, IsSpelled}
use Rattle.asm_model.specs.Trees.{grown, tree_behind, tree_of}

-- no item of the tree is an operator
abbrev pub IsPlain : Tree → Type 0
IsPlain (Leaf i) = plain i ≡ Some i
IsPlain (Before op t) = IsPlain t
IsPlain (Between op t u) = IsPlain t × IsPlain u

pub kept : (j i : ExprItem) → plain j ≡ Some i → plain i ≡ Some i
kept (item.Name n) i e = let x : item.Name n ≡ i = cc in rw (← x) refl
kept (item.Local n) i e = let x : item.Local n ≡ i = cc in rw (← x) refl
kept (item.Constant v) i e = let x : item.Constant v ≡ i = cc in rw (← x) refl
kept item.TooLarge i e = let x : item.TooLarge ≡ i = cc in rw (← x) refl
kept item.Here i e = let x : item.Here ≡ i = cc in rw (← x) refl
kept item.Map i e = let x : item.Map ≡ i = cc in rw (← x) refl
kept item.CodeSize i e = let x : item.CodeSize ≡ i = cc in rw (← x) refl
kept (item.Unary op) i e = absurd (cc)
kept (item.Binary op) i e = absurd (cc)

pub plain_operand : (p : Part) (i : ExprItem) → operand_of p ≡ Some i → plain i ≡ Some i
plain_operand (part.Operand j) i e = kept j i e
plain_operand part.Open i e = absurd (cc)
plain_operand part.Close i e = absurd (cc)
plain_operand (part.Prefix op) i e = absurd (cc)
plain_operand (part.OfName op) i e = absurd (cc)
plain_operand (part.Infix op) i e = absurd (cc)
plain_operand (part.Sum u b) i e = absurd (cc)
plain_operand part.Other i e = absurd (cc)

pub spelled_plain : (l : ℕ) (ps : List Part) (t : Tree) → Spells l ps t → IsPlain t
spelled_plain l ps t (operand p i e) = plain_operand p i e
spelled_plain l ps t (of_name op n) = refl
spelled_plain l ps t (before p op qs u e d) = spelled_plain 0 qs u d
spelled_plain l ps t (grouped qs u d) = spelled_plain 6 qs u d
spelled_plain l ps t (between k p op qs rs u v e lev d r) = (spelled_plain (suc k) qs u d, spelled_plain k rs v r)
spelled_plain l ps t (tighter k qs u d) = spelled_plain k qs u d

pub grown_leaf : (i : ExprItem) (ts : List Tree) → plain i ≡ Some i → grown i ts ≡ Some (Leaf i ∷ ts)
grown_leaf (item.Name n) ts e = refl
grown_leaf (item.Local n) ts e = refl
grown_leaf (item.Constant v) ts e = refl
grown_leaf item.TooLarge ts e = refl
grown_leaf item.Here ts e = refl
grown_leaf item.Map ts e = refl
grown_leaf item.CodeSize ts e = refl
grown_leaf (item.Unary op) ts e = absurd (cc)
grown_leaf (item.Binary op) ts e = absurd (cc)

pub read_back : (t : Tree) (ts : List Tree) (rest : List ExprItem) → IsPlain t
    → tree_behind (Some ts) (postfix t ++ rest) ≡ tree_behind (Some (t ∷ ts)) rest
read_back (Leaf i) ts rest p = ap (λ o. tree_behind o rest) (grown_leaf i ts p)
read_back (Before op t) ts rest p =
    ap (tree_behind (Some ts)) (append_assoc (postfix t) (item.Unary op ∷ []) rest)
    ∙ read_back t ts (item.Unary op ∷ rest) p
read_back (Between op t u) ts rest p =
    ap (tree_behind (Some ts)) (append_assoc (postfix t ++ postfix u) (item.Binary op ∷ []) rest)
    ∙ ap (tree_behind (Some ts)) (append_assoc (postfix t) (postfix u) (item.Binary op ∷ rest))
    ∙ read_back t ts (postfix u ++ item.Binary op ∷ rest) p.0
    ∙ read_back u (t ∷ ts) (item.Binary op ∷ rest) p.1

pub trees_read_back : (ps : List Part) (t : Tree) (e : Expr) → IsSpelled ps t → e.items ≡ postfix t → tree_of e ≡ Some t
trees_read_back ps t e d same =
    ap (tree_behind (Some [])) (same ∙ sym (append-nil (postfix t)))
    ∙ read_back t [] [] (spelled_plain 6 ps t d)
