-- What is spelled is parsed, and what is parsed is spelled.
use Rattle.std.proofs.Common.{cond, ◌≡◌, ℕ, zero, suc, ◌<◌, ◌≤◌, List, [], ◌∷◌, ◌++◌, Bool, true, false, not, refl, sym, ◌∙◌, ap, arith, Option, Some, None, append_assoc, append-nil, inl, inr}
use Rattle.std.specs.Prelude.{nat_le}
use Rattle.std.proofs.lemmas.Bool.{leb-true, leb-false, le-leb, lt-leb, cond-true, not-true, not_from_false, cases_order}
use Rattle.asm_model.specs.declared.exprs.ExprItem.{ExprItem}
use Rattle.asm_model.specs.declared.exprs.ExprItem.TheVariants as item
use Rattle.asm_model.specs.declared.exprs.Part.{Part}
use Rattle.asm_model.specs.declared.exprs.Part.TheVariants as part
use Rattle.asm_model.specs.declared.exprs.UnaryOp.{UnaryOp}
use Rattle.asm_model.specs.declared.exprs.BinaryOp.{BinaryOp}
use Rattle.asm_model.specs.declared.exprs.BinaryOp.TheVariants.{Multiply, Divide, Modulo, Left, Right, Concatenate, RotateLeft, RotateRight, ShiftLeft, ShiftRight, Add, Subtract, And, Or, ExclusiveOr, Equal, NotEqual, Less, LessEqual, Greater, GreaterEqual, LogicalAnd, LogicalOr, LogicalExclusiveOr}
use Rattle.asm_model.specs.Grammar.{level, Tree, Leaf, Before, Between, postfix, plain, operand_of, before_of, between_of, Spells, operand, of_name, before, grouped, between, tighter, IsSpelled}
use Rattle.asm_expr.specs.declared.parser.Stage.{Stage}
use Rattle.asm_expr.specs.declared.parser.Stage.TheVariants as stage
use Rattle.asm_expr.specs.declared.parser.Held.{Held}
use Rattle.asm_expr.specs.declared.parser.Held.TheVariants as held
use Rattle.asm_expr.specs.Parsing.{State, is_tight, item_of, settled, joined, closed, put, on_operand, on_name, on_operator, step, step_at, emptied, finished, finished_at, parsed, started}

-- an operator has one of the levels from 1 to 6
pub level_is : (op : BinaryOp) → (l : ℕ) × (level op ≡ suc l) × (suc l ≤ 6)
level_is Multiply = (0, refl, omega arith)
level_is Divide = (0, refl, omega arith)
level_is Modulo = (0, refl, omega arith)
level_is Left = (1, refl, omega arith)
level_is Right = (1, refl, omega arith)
level_is Concatenate = (1, refl, omega arith)
level_is RotateLeft = (2, refl, omega arith)
level_is RotateRight = (2, refl, omega arith)
level_is ShiftLeft = (2, refl, omega arith)
level_is ShiftRight = (2, refl, omega arith)
level_is Add = (3, refl, omega arith)
level_is Subtract = (3, refl, omega arith)
level_is And = (3, refl, omega arith)
level_is Or = (3, refl, omega arith)
level_is ExclusiveOr = (3, refl, omega arith)
level_is Equal = (4, refl, omega arith)
level_is NotEqual = (4, refl, omega arith)
level_is Less = (4, refl, omega arith)
level_is LessEqual = (4, refl, omega arith)
level_is Greater = (4, refl, omega arith)
level_is GreaterEqual = (4, refl, omega arith)
level_is LogicalAnd = (5, refl, omega arith)
level_is LogicalOr = (5, refl, omega arith)
level_is LogicalExclusiveOr = (5, refl, omega arith)

-- nothing of the level or tighter is on the top
abbrev pub blocked : ℕ → List Held → Bool
blocked l [] = true
blocked l (h ∷ hs) = not (is_tight l h)

tight_later : (l m : ℕ) (h : Held) → l ≤ m → is_tight l h ≡ true → is_tight m h ≡ true
tight_later l m held.Open le e = e
tight_later l m (held.Before op) le e = e
tight_later l m (held.Between op) le e = let a = leb-true (level op) l e in le-leb (level op) m (omega arith)

loose_before : (l m : ℕ) (h : Held) → l ≤ m → not (is_tight m h) ≡ true → not (is_tight l h) ≡ true
loose_before l m held.Open le e = e
loose_before l m (held.Before op) le e = e
loose_before l m (held.Between op) le e =
    let a : m < level op = leb-false (level op) m (not-true (nat_le (level op) m) e) in
    not_from_false (nat_le (level op) l) (lt-leb (level op) l (omega arith))

blocked_before : (l m : ℕ) (hs : List Held) → l ≤ m → blocked m hs ≡ true → blocked l hs ≡ true
blocked_before l m [] le e = refl
blocked_before l m (h ∷ hs) le e = loose_before l m h le e

settled_blocked : (l : ℕ) (items : List ExprItem) (hs : List Held) → blocked l hs ≡ true → settled l items hs ≡ (items, hs)
settled_blocked l items [] e = refl
settled_blocked l items (h ∷ hs) e = rw (not-true (is_tight l h) e) refl

settled_again : (l m : ℕ) (items : List ExprItem) (hs : List Held) → l ≤ m → settled m (settled l items hs).0 (settled l items hs).1 ≡ settled m items hs
settled_again l m items [] le = refl
settled_again l m items (h ∷ hs) le = chosen (settled_again l m (items ++ item_of h ∷ []) hs le) (is_tight l h) refl
  where
    chosen : settled m (settled l (items ++ item_of h ∷ []) hs).0 (settled l (items ++ item_of h ∷ []) hs).1 ≡ settled m (items ++ item_of h ∷ []) hs
        → (b : Bool) → is_tight l h ≡ b
        → settled m (cond b (settled l (items ++ item_of h ∷ []) hs) (items, h ∷ hs)).0
        (cond b (settled l (items ++ item_of h ∷ []) hs) (items, h ∷ hs)).1 ≡ settled m items (h ∷ hs)
    chosen again true e = again ∙ sym (cond-true (is_tight m h) _ _ (tight_later l m h le e))
    chosen again false e = refl

-- what is below what waits is looser than the level, or the level is that of a single operand
abbrev pub Above : ℕ → List Held → Type 0
Above zero hs = Unit {0}
Above (suc l) hs = blocked (suc l) hs ≡ true

above_before : (l : ℕ) (hs : List Held) → Above (suc l) hs → Above l hs
above_before zero hs h = tt
above_before (suc l) hs h = blocked_before (suc l) (suc (suc l)) hs (omega arith) h

above_operator : (k : ℕ) (op : BinaryOp) (hs : List Held) → level op ≡ suc k → Above k (held.Between op ∷ hs)
above_operator zero op hs e = tt
above_operator (suc k) op hs e = not_from_false (nat_le (level op) (suc k)) (lt-leb (level op) (suc k) (omega arith))

-- where parsing stands after the parts of a tree
record Stands (l : ℕ) (items : List ExprItem) (hs : List Held) (ps rest : List Part) (t : Tree) : Type 0 where
  out : List ExprItem
  stack : List Held
  runs : parsed (Some (record { due = stage.Operand; items = items; stack = hs })) (ps ++ rest) ≡ parsed
      (Some (record { due = stage.Operator; items = out; stack = stack })) rest
  settles : settled l out stack ≡ settled l (items ++ postfix t) hs

on_operand_is : (p : Part) (i : ExprItem) (items : List ExprItem) (hs : List Held) → operand_of p ≡ Some i
    → on_operand items hs p ≡ Some (record { due = stage.Operator; items = items ++ i ∷ []; stack = hs })
on_operand_is (part.Operand j) i items hs e = ap (put items hs) e
on_operand_is part.Open i items hs e = absurd (cc)
on_operand_is part.Close i items hs e = absurd (cc)
on_operand_is (part.Prefix op) i items hs e = absurd (cc)
on_operand_is (part.OfName op) i items hs e = absurd (cc)
on_operand_is (part.Infix op) i items hs e = absurd (cc)
on_operand_is (part.Sum u b) i items hs e = absurd (cc)
on_operand_is part.Other i items hs e = absurd (cc)

on_before_is : (p : Part) (op : UnaryOp) (items : List ExprItem) (hs : List Held) → before_of p ≡ Some op
    → on_operand items hs p ≡ Some (record { due = stage.Operand; items = items; stack = held.Before op ∷ hs })
on_before_is (part.Operand j) op items hs e = absurd (cc)
on_before_is part.Open op items hs e = absurd (cc)
on_before_is part.Close op items hs e = absurd (cc)
on_before_is (part.Prefix u) op items hs e = let x : u ≡ op = cc in rw x refl
on_before_is (part.OfName u) op items hs e = absurd (cc)
on_before_is (part.Infix u) op items hs e = absurd (cc)
on_before_is (part.Sum u b) op items hs e = let x : u ≡ op = cc in rw x refl
on_before_is part.Other op items hs e = absurd (cc)

on_between_is : (p : Part) (op : BinaryOp) (items : List ExprItem) (hs : List Held) → between_of p ≡ Some op
    → on_operator items hs p ≡ Some (joined op (settled (level op) items hs))
on_between_is (part.Operand j) op items hs e = absurd (cc)
on_between_is part.Open op items hs e = absurd (cc)
on_between_is part.Close op items hs e = absurd (cc)
on_between_is (part.Prefix u) op items hs e = absurd (cc)
on_between_is (part.OfName u) op items hs e = absurd (cc)
on_between_is (part.Infix b) op items hs e = let x : b ≡ op = cc in rw x refl
on_between_is (part.Sum u b) op items hs e = let x : b ≡ op = cc in rw x refl
on_between_is part.Other op items hs e = absurd (cc)

spelled : (l : ℕ) (ps : List Part) (t : Tree) → Spells l ps t → (items : List ExprItem) (hs : List Held) (rest : List Part) → Above l hs
    → Stands l items hs ps rest t
unfolding step finished
spelled l ps t (operand p i e) items hs rest above =
    record { out = items ++ i ∷ []; stack = hs; runs = ap (λ (s : Option State). parsed s rest) (on_operand_is p i items hs e); settles = refl }
spelled l ps t (of_name op name) items hs rest above =
    record { out = items ++ item.Name name ∷ item.Unary op ∷ []; stack = hs; runs = refl; settles = refl }
spelled l ps t (before p op qs u e s) items hs rest above =
    let inner = spelled 0 qs u s items (held.Before op ∷ hs) rest tt in
    record {
      out = inner.out;
      stack = inner.stack;
      runs = ap (λ (s : Option State). parsed s (qs ++ rest)) (on_before_is p op items hs e) ∙ inner.runs;
      settles = inner.settles ∙ ap (λ (x : List ExprItem). settled 0 x hs) (append_assoc items (postfix u) (item.Unary op ∷ []));
    }
spelled l ps t (grouped qs u s) items hs rest above =
    let inner = spelled 6 qs u s items (held.Open ∷ hs) (part.Close ∷ rest) refl in
    record {
      out = items ++ postfix u;
      stack = hs;
      runs =
          ap (λ (x : List Part). parsed (Some (record { due = stage.Operand; items = items; stack = held.Open ∷ hs })) x)
          (append_assoc qs (part.Close ∷ []) rest)
          ∙ inner.runs
          ∙ ap (λ (x : List ExprItem × List Held). parsed (closed x.0 x.1) rest) inner.settles;
      settles = refl;
    }
spelled l ps t (between k p op qs rs u v e lev s r) items hs rest above =
    let left = spelled (suc k) qs u s items hs (p ∷ rs ++ rest) above in
    let inside : settled (suc k) left.out left.stack ≡ (items ++ postfix u, hs) = left.settles ∙ settled_blocked (suc k) (items ++ postfix u) hs above in
    let right = spelled k rs v r (items ++ postfix u) (held.Between op ∷ hs) rest (above_operator k op hs lev) in
    record {
      out = right.out;
      stack = right.stack;
      runs =
          ap (λ (x : List Part). parsed (Some (record { due = stage.Operand; items = items; stack = hs })) x) (append_assoc qs (p ∷ rs) rest)
          ∙ left.runs
          ∙ ap (λ (x : Option State). parsed x (rs ++ rest)) (on_between_is p op left.out left.stack e)
          ∙ ap (λ (x : ℕ). parsed (Some (joined op (settled x left.out left.stack))) (rs ++ rest)) lev
          ∙ ap (λ (x : List ExprItem × List Held). parsed (Some (joined op x)) (rs ++ rest)) inside
          ∙ right.runs;
      settles =
          sym (settled_again k (suc k) right.out right.stack (omega arith))
          ∙ ap (λ (x : List ExprItem × List Held). settled (suc k) x.0 x.1) right.settles
          ∙ settled_again k (suc k) ((items ++ postfix u) ++ postfix v) (held.Between op ∷ hs) (omega arith)
          ∙ cond-true (nat_le (level op) (suc k)) _ _ (le-leb (level op) (suc k) (omega arith))
          ∙ ap (λ (x : List ExprItem). settled (suc k) x hs) (ap (λ (y : List ExprItem). y ++ item.Binary op ∷ []) (append_assoc items (postfix u) (postfix v))
          ∙ append_assoc items (postfix u ++ postfix v) (item.Binary op ∷ []));
    }
spelled l ps t (tighter k qs u s) items hs rest above =
    let inner = spelled k ps t s items hs rest (above_before k hs above) in
    record {
      out = inner.out;
      stack = inner.stack;
      runs = inner.runs;
      settles = sym (settled_again k (suc k) inner.out inner.stack (omega arith))
          ∙ ap (λ (x : List ExprItem × List Held). settled (suc k) x.0 x.1) inner.settles ∙ settled_again k (suc k) (items ++ postfix t) hs (omega arith);
    }

-- the parts of a tree are parsed as it
pub spelled_parsed : (ps : List Part) (t : Tree) → IsSpelled ps t → parsed (Some started) ps ≡ Some (postfix t)
unfolding finished
spelled_parsed ps t s =
    let whole = spelled 6 ps t s [] [] [] refl in
    ap (λ (x : List Part). parsed (Some started) x) (sym (append-nil ps)) ∙ whole.runs ∙ ap emptied whole.settles

-- what stands behind what waits: for each that waits, the parts that led to it, with the tree before it
Pend : List Held → List Part → List ExprItem → Type 0
Pend [] ps is = (ps ≡ []) × (is ≡ [])
Pend (held.Open ∷ hs) ps is = (front : List Part) × (ps ≡ front ++ part.Open ∷ []) × Pend hs front is
Pend (held.Before op ∷ hs) ps is =
    (front : List Part) × (p : Part) × (ps ≡ front ++ p ∷ []) × (before_of p ≡ Some op) × Pend hs front is
Pend (held.Between op ∷ hs) ps is =
    (front : List Part) × (qs : List Part) × (p : Part) × (js : List ExprItem) × (t : Tree) × (ps ≡ front ++ (qs ++ p ∷ [])) × (is ≡ js ++ postfix t)
    × (between_of p ≡ Some op) × Spells (level op) qs t × (blocked (level op) hs ≡ true) × Pend hs front js

-- a tree of a level stands behind what waits
record Whole (l : ℕ) (ps : List Part) (is : List ExprItem) (hs : List Held) : Type 0 where
  front : List Part
  qs : List Part
  js : List ExprItem
  tree : Tree
  parts : ps ≡ front ++ qs
  items : is ≡ js ++ postfix tree
  pend : Pend hs front js
  spells : Spells l qs tree

looser : (c l : ℕ) (qs : List Part) (t : Tree) → c ≤ l → Spells c qs t → Spells l qs t
looser c zero qs t le s = let z : c ≡ 0 = omega arith in rw z at s
looser c (suc l) qs t le s = elim (cases_order c (suc l)) [
  | inl e ↦ rw e at s
  | inr ne ↦ elim ne [ inl lt ↦ tighter l qs t (looser c l qs t (omega arith) s) | inr gt ↦ absurd (omega arith) ]
]

below : (c : ℕ) (op : BinaryOp) (hs : List Held) (k : ℕ) → level op ≡ suc k → Above c (held.Between op ∷ hs) → c ≤ k
below zero op hs k e above = omega arith
below (suc c) op hs k e above = let a = leb-false (level op) (suc c) (not-true (nat_le (level op) (suc c)) above) in omega arith

above_from : (l : ℕ) (hs : List Held) → blocked l hs ≡ true → Above l hs
above_from zero hs e = tt
above_from (suc l) hs e = e

-- after the operators of a level went out, a tree of that level stands there
settled_whole : (l c : ℕ) (ps : List Part) (is : List ExprItem) (hs : List Held) → c ≤ l → Above c hs → Whole c ps is hs
    → Whole l ps (settled l is hs).0 (settled l is hs).1 × (blocked l (settled l is hs).1 ≡ true)
unfolding Pend
settled_whole l c ps is [] le above w = (
  record {
    front = w.front;
    qs = w.qs;
    js = w.js;
    tree = w.tree;
    parts = w.parts;
    items = w.items;
    pend = w.pend;
    spells =
        looser c l w.qs w.tree le w.spells;
  },
  refl,
)
settled_whole l c ps is (held.Open ∷ hs) le above w = (
  record {
    front = w.front;
    qs = w.qs;
    js = w.js;
    tree = w.tree;
    parts = w.parts;
    items = w.items;
    pend = w.pend;
    spells =
        looser c l w.qs w.tree le w.spells;
  },
  refl,
)
settled_whole l zero ps is (held.Before op ∷ hs) le above w =
    let b = w.pend in
    settled_whole l 0 ps (is ++ item.Unary op ∷ []) hs le tt (record {
      front = b.0;
      qs = b.1 ∷ w.qs;
      js = w.js;
      tree = Before op w.tree;
      parts = w.parts ∙ ap (λ (x : List Part). x ++ w.qs) b.2 ∙ append_assoc b.0 (b.1 ∷ []) w.qs;
      items = ap (λ (x : List ExprItem). x ++ item.Unary op ∷ []) w.items ∙ append_assoc w.js (postfix w.tree) (item.Unary op ∷ []);
      pend = b.4;
      spells = before b.1 op w.qs w.tree b.3 w.spells;
    })
settled_whole l (suc c) ps is (held.Before op ∷ hs) le above w = absurd (cc)
settled_whole l c ps is (held.Between op ∷ hs) le above w =
    chosen (nat_le (level op) l) refl (λ le_l. settled_whole l (level op) ps (is ++ item.Binary op ∷ []) hs le_l (above_from (level op) hs b.9) bigger)
  where
    b : Pend (held.Between op ∷ hs) w.front w.js
    b = w.pend

    k : ℕ
    k = (level_is op).0

    lev : level op ≡ suc k
    lev = (level_is op).1

    bigger : Whole (level op) ps (is ++ item.Binary op ∷ []) hs
    bigger = record {
      front = b.0;
      qs = b.1 ++ b.2 ∷ w.qs;
      js = b.3;
      tree = Between op b.4 w.tree;
      parts = w.parts ∙ ap (λ (x : List Part). x ++ w.qs) b.5 ∙ append_assoc b.0 (b.1 ++ b.2 ∷ []) w.qs
          ∙ ap (λ (x : List Part). b.0 ++ x) (append_assoc b.1 (b.2 ∷ []) w.qs);
      items =
          ap (λ (x : List ExprItem). x ++ item.Binary op ∷ []) w.items
          ∙ ap (λ (x : List ExprItem). (x ++ postfix w.tree) ++ item.Binary op ∷ []) b.6
          ∙ ap (λ (x : List ExprItem). x ++ item.Binary op ∷ []) (append_assoc b.3 (postfix b.4) (postfix w.tree))
          ∙ append_assoc b.3 (postfix b.4 ++ postfix w.tree) (item.Binary op ∷ []);
      pend = b.10;
      spells = rw lev (between k b.2 op b.1 w.qs b.4 w.tree b.7 lev (rw lev at b.8) (looser c k w.qs w.tree (below c op hs k lev above) w.spells));
    }

    chosen : (t : Bool) → nat_le (level op) l ≡ t
        → (level op ≤ l → Whole l ps (settled l (is ++ item.Binary op ∷ []) hs).0 (settled l (is ++ item.Binary op ∷ []) hs).1
        × (blocked l (settled l (is ++ item.Binary op ∷ []) hs).1 ≡ true))
        → Whole l ps (cond t (settled l (is ++ item.Binary op ∷ []) hs) (is, held.Between op ∷ hs)).0
        (cond t (settled l (is ++ item.Binary op ∷ []) hs) (is, held.Between op ∷ hs)).1
        × (blocked l (cond t (settled l (is ++ item.Binary op ∷ []) hs) (is, held.Between op ∷ hs)).1 ≡ true)
    chosen true e more = more (leb-true (level op) l e)
    chosen false e more = (
      record {
        front = w.front;
        qs = w.qs;
        js = w.js;
        tree = w.tree;
        parts = w.parts;
        items = w.items;
        pend = w.pend;
        spells =
            looser c l w.qs w.tree le w.spells;
      },
      not_from_false (nat_le (level op) l) e,
    )

-- where a state stands behind the parts that led to it
Good : Stage → List ExprItem → List Held → List Part → Type 0
Good stage.Operand is hs ps = Pend hs ps is
Good (stage.Name op) is hs ps = (front : List Part) × (ps ≡ front ++ part.OfName op ∷ []) × Pend hs front is
Good stage.Operator is hs ps = Whole 0 ps is hs

GoodState : Option State → List Part → Type 0
unfolding Good
GoodState None ps = Unit {0}
GoodState (Some s) ps = Good s.due s.items s.stack ps

put_good : (is : List ExprItem) (hs : List Held) (ps : List Part) (i : ExprItem) (o : Option ExprItem) → plain i ≡ o → Pend hs ps is
    → GoodState (put is hs o) (ps ++ part.Operand i ∷ [])
unfolding GoodState Good Pend
put_good is hs ps i None e h = tt
put_good is hs ps i (Some j) e h =
    record {
      front = ps;
      qs = part.Operand i ∷ [];
      js = is;
      tree = Leaf j;
      parts = refl;
      items = refl;
      pend = h;
      spells = operand (part.Operand i) j e;
    }

operand_good : (is : List ExprItem) (hs : List Held) (ps : List Part) (p : Part) → Pend hs ps is → GoodState (on_operand is hs p) (ps ++ p ∷ [])
unfolding GoodState Good Pend
operand_good is hs ps (part.Operand i) h = put_good is hs ps i (plain i) refl h
operand_good is hs ps part.Open h = (ps, refl, h)
operand_good is hs ps part.Close h = tt
operand_good is hs ps (part.Prefix op) h = (ps, part.Prefix op, refl, refl, h)
operand_good is hs ps (part.OfName op) h = (ps, refl, h)
operand_good is hs ps (part.Infix op) h = tt
operand_good is hs ps (part.Sum u b) h = (ps, part.Sum u b, refl, refl, h)
operand_good is hs ps part.Other h = tt

name_good : (op : UnaryOp) (is : List ExprItem) (hs : List Held) (ps : List Part) (p : Part) → Good (stage.Name op) is hs ps
    → GoodState (on_name op is hs p) (ps ++ p ∷ [])
unfolding GoodState Good Pend
name_good op is hs ps (part.Operand (item.Name n)) h =
    record {
      front = h.0;
      qs = part.OfName op ∷ part.Operand (item.Name n) ∷ [];
      js = is;
      tree = Before op (Leaf (item.Name n));
      parts = ap (λ (x : List Part). x ++ part.Operand (item.Name n) ∷ []) h.1 ∙ append_assoc h.0 (part.OfName op ∷ []) (part.Operand (item.Name n) ∷ []);
      items = refl;
      pend = h.2;
      spells = of_name op n;
    }
name_good op is hs ps (part.Operand (item.Local n)) h = tt
name_good op is hs ps (part.Operand (item.Constant v)) h = tt
name_good op is hs ps (part.Operand item.TooLarge) h = tt
name_good op is hs ps (part.Operand item.Here) h = tt
name_good op is hs ps (part.Operand item.Map) h = tt
name_good op is hs ps (part.Operand item.CodeSize) h = tt
name_good op is hs ps (part.Operand (item.Unary u)) h = tt
name_good op is hs ps (part.Operand (item.Binary b)) h = tt
name_good op is hs ps part.Open h = tt
name_good op is hs ps part.Close h = tt
name_good op is hs ps (part.Prefix u) h = tt
name_good op is hs ps (part.OfName u) h = tt
name_good op is hs ps (part.Infix b) h = tt
name_good op is hs ps (part.Sum u b) h = tt
name_good op is hs ps part.Other h = tt

joined_good : (op : BinaryOp) (p : Part) (is : List ExprItem) (hs : List Held) (ps : List Part) → between_of p ≡ Some op → Whole (level op) ps is hs
    → blocked (level op) hs ≡ true
    → GoodState (Some (joined op (is, hs))) (ps ++ p ∷ [])
unfolding GoodState Good Pend
joined_good op p is hs ps e w free =
    (w.front, w.qs, p, w.js, w.tree, ap (λ (x : List Part). x ++ p ∷ []) w.parts ∙ append_assoc w.front w.qs (p ∷ []), w.items, e, w.spells, free, w.pend)

closed_good : (is : List ExprItem) (hs : List Held) (ps : List Part) → Whole 6 ps is hs → GoodState (closed is hs) (ps ++ part.Close ∷ [])
unfolding GoodState Good Pend
closed_good is [] ps w = tt
closed_good is (held.Before op ∷ hs) ps w = tt
closed_good is (held.Between op ∷ hs) ps w = tt
closed_good is (held.Open ∷ hs) ps w =
    let b = w.pend in
    record {
      front = b.0;
      qs = part.Open ∷ w.qs ++ part.Close ∷ [];
      js = w.js;
      tree = w.tree;
      parts = ap (λ (x : List Part). x ++ part.Close ∷ []) (w.parts ∙ ap (λ (x : List Part). x ++ w.qs) b.1 ∙ append_assoc b.0 (part.Open ∷ []) w.qs)
          ∙ append_assoc b.0 (part.Open ∷ w.qs) (part.Close ∷ []);
      items = w.items;
      pend = b.2;
      spells = grouped w.qs w.tree w.spells;
    }

operator_good : (is : List ExprItem) (hs : List Held) (ps : List Part) (p : Part) → Whole 0 ps is hs → GoodState (on_operator is hs p) (ps ++ p ∷ [])
unfolding GoodState
operator_good is hs ps (part.Operand i) w = tt
operator_good is hs ps part.Open w = tt
operator_good is hs ps part.Close w = let s = settled_whole 6 0 ps is hs (omega arith) tt w in closed_good (settled 6 is hs).0 (settled 6 is hs).1 ps s.0
operator_good is hs ps (part.Prefix op) w = tt
operator_good is hs ps (part.OfName op) w = tt
operator_good is hs ps (part.Infix op) w =
    let s = settled_whole (level op) 0 ps is hs (omega arith) tt w in
    joined_good op (part.Infix op) (settled (level op) is hs).0 (settled (level op) is hs).1 ps refl s.0 s.1
operator_good is hs ps (part.Sum u b) w =
    let s = settled_whole (level b) 0 ps is hs (omega arith) tt w in
    joined_good b (part.Sum u b) (settled (level b) is hs).0 (settled (level b) is hs).1 ps refl s.0 s.1
operator_good is hs ps part.Other w = tt

step_good : (due : Stage) (is : List ExprItem) (hs : List Held) (ps : List Part) (p : Part) → Good due is hs ps → GoodState (step_at due is hs p) (ps ++ p ∷ [])
unfolding Good
step_good stage.Operand is hs ps p h = operand_good is hs ps p h
step_good (stage.Name op) is hs ps p h = name_good op is hs ps p h
step_good stage.Operator is hs ps p h = operator_good is hs ps p h

finished_good : (due : Stage) (is : List ExprItem) (hs : List Held) (ps : List Part) (out : List ExprItem) → Good due is hs ps
    → finished_at due is hs ≡ Some out
    → (t : Tree) × IsSpelled ps t × (out ≡ postfix t)
unfolding Good Pend
finished_good stage.Operand is hs ps out h e = absurd (cc)
finished_good (stage.Name op) is hs ps out h e = absurd (cc)
finished_good stage.Operator is hs ps out h e =
    let s = settled_whole 6 0 ps is hs (omega arith) tt h in ends (settled 6 is hs).0 (settled 6 is hs).1 s.0 e
  where
    ends : (items : List ExprItem) (stack : List Held) → Whole 6 ps items stack → emptied (items, stack) ≡ Some out → (t : Tree) × IsSpelled ps t
        × (out ≡ postfix t)
    ends items (x ∷ xs) w e = absurd (cc)
    ends items [] w e =
        let p = w.pend in
        let whole : ps ≡ w.qs = w.parts ∙ ap (λ (x : List Part). x ++ w.qs) p.0 in
        let is_out : items ≡ out = cc in
        (w.tree, rw whole w.spells, sym is_out ∙ w.items ∙ ap (λ (x : List ExprItem). x ++ postfix w.tree) p.1)

good_parsed : (s : Option State) (front ps : List Part) (out : List ExprItem) → GoodState s front → parsed s ps ≡ Some out → (t : Tree)
    × IsSpelled (front ++ ps) t × (out ≡ postfix t)
unfolding GoodState step finished
good_parsed None front ps out h e = absurd (cc)
good_parsed (Some s) front [] out h e = rw (append-nil front) (finished_good s.due s.items s.stack front out h e)
good_parsed (Some s) front (p ∷ ps) out h e =
    let r = good_parsed (step_at s.due s.items s.stack p) (front ++ p ∷ []) ps out (step_good s.due s.items s.stack front p h) e in
    rw (append_assoc front (p ∷ []) ps) at r

-- what is parsed is spelled by a tree with its items
pub parsed_spelled : (ps : List Part) (out : List ExprItem) → parsed (Some started) ps ≡ Some out → (t : Tree) × IsSpelled ps t × (out ≡ postfix t)
unfolding GoodState Good Pend
parsed_spelled ps out e = good_parsed (Some started) [] ps out (refl, refl) e
