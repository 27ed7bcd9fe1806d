-- Under a name for an expression stands the entry of its line alone.
use Rattle.std.proofs.Common.{◌≡◌, ℕ, List, [], ◌∷◌, ◌++◌, ◌||◌, Bool, true, false, cond, refl, sym, ◌∙◌, ap, subst, Option, Some, None}
use Rattle.std.specs.List.{list_any}
use Rattle.std.proofs.lemmas.Bool.{or_parts, or_from}
use Rattle.asm_model.specs.declared.exprs.Expr.{Expr}
use Rattle.asm_model.specs.declared.names.LaidName.{LaidName}
use Rattle.asm_model.specs.declared.statements.Statement.{Statement}
use Rattle.asm_model.specs.Directives.{or_else}
use Rattle.asm_model.specs.Forms.{same}
use Rattle.asm_model.specs.Meaning.{named_in}
use Rattle.asm_model.proofs.WordLemmas.{same_refl, same_true}
use Rattle.asm_model.specs.Labels.{Equal, defined_by, imported_in}
use Rattle.asm_model.specs.Laid.{laid_of}
use Rattle.asm_model.specs.LayoutKinds.{own_name, listed, names_in, names_behind, is_repeated}
use Rattle.layout_laws.proofs.NamedLemmas.{sofar, own_of, imports_of, with_statement, AtMost, own_most, import_most, most_lacks, none_joined, lacks}
use Rattle.layout_laws.proofs.RoundLemmas.{named_joined}
use Rattle.layout_laws.proofs.SoundLemmas.{EachSound, any_parts}
use Rattle.asm_names.specs.Steps.{one_entry}
use Rattle.base_lemmas.proofs.BaseLemmas.{true_or as or_left, or_true as or_right}

-- ---- names that aren't repeated

pub any_front : {A : Type 0} → (f : A → Bool) (xs ys : List A) → list_any f xs ≡ true → list_any f (xs ++ ys) ≡ true
any_front f [] ys h = absurd (cc)
any_front f (x ∷ xs) ys h = by_test (f x) (any_front f xs ys) h
  where
    by_test : (b : Bool) → (list_any f xs ≡ true → list_any f (xs ++ ys) ≡ true) → (b || list_any f xs) ≡ true → (b || list_any f (xs ++ ys)) ≡ true
    by_test true rest k = refl
    by_test false rest k = rest k

pub any_back : {A : Type 0} → (f : A → Bool) (xs ys : List A) → list_any f ys ≡ true → list_any f (xs ++ ys) ≡ true
any_back f [] ys h = h
any_back f (x ∷ xs) ys h = or_right (f x) (list_any f (xs ++ ys)) (any_back f xs ys h)

-- a name that stands before isn't one of these
repeated_not : (bs ps : List (List ℕ)) (q : List ℕ) → is_repeated bs ps ≡ false → list_any (same q) bs ≡ true → list_any (same q) ps ≡ false
repeated_not bs [] q h k = refl
repeated_not bs (p ∷ ps) q h k =
    let r = or_parts (list_any (same p) bs) (is_repeated (p ∷ bs) ps) h in
    or_from (same q p) (list_any (same q) ps) (not_same (same q p) refl r.0)
    (repeated_not (p ∷ bs) ps q r.1 (or_right (same q p) (list_any (same q) bs) k))
  where
    not_same : (b : Bool) → same q p ≡ b → list_any (same p) bs ≡ false → b ≡ false
    not_same false e g = refl
    not_same true e g = let y : list_any (same p) bs ≡ true = subst (λ z. list_any (same z) bs ≡ true) (same_true q p e) k in absurd (cc)

-- one of these didn't stand before
repeated_new : (bs ps : List (List ℕ)) (q : List ℕ) → is_repeated bs ps ≡ false → list_any (same q) ps ≡ true → list_any (same q) bs ≡ false
repeated_new bs ps q h k = by_test (list_any (same q) bs) refl
  where
    by_test : (b : Bool) → list_any (same q) bs ≡ b → b ≡ false
    by_test false e = refl
    by_test true e = let x : list_any (same q) ps ≡ false = repeated_not bs ps q h e in absurd (cc)

-- and doesn't stand again
repeated_later : (bs ps rest : List (List ℕ)) (q : List ℕ) → is_repeated bs (ps ++ rest) ≡ false → list_any (same q) ps ≡ true → list_any (same q) rest ≡ false
repeated_later bs [] rest q h k = absurd (cc)
repeated_later bs (p ∷ ps) rest q h k =
    let r = or_parts (list_any (same p) bs) (is_repeated (p ∷ bs) (ps ++ rest)) h in
    by_test (same q p) refl r.1 (λ k. repeated_later (p ∷ bs) ps rest q r.1 k) k
  where
    by_test : (b : Bool) → same q p ≡ b → is_repeated (p ∷ bs) (ps ++ rest) ≡ false → (list_any (same q) ps ≡ true → list_any (same q) rest ≡ false)
        → (b || list_any (same q) ps) ≡ true → list_any (same q) rest ≡ false
    by_test true e g later k =
        (any_parts (same q) ps rest (repeated_not (p ∷ bs) (ps ++ rest) q g (or_left (same q p) (list_any (same q) bs) e))).1
    by_test false e g later k = later k

-- ---- what is found under a name

or_nothing : (o : Option LaidName) → or_else o None ≡ o
or_nothing None = refl
or_nothing (Some n) = refl

-- behind a statement, under a name that it defines
own_alone : (N : List LaidName) (d : List LaidName) (s : Statement) (ss : List Statement) (q : List ℕ)
    → is_repeated (names_behind ss) (names_in s) ≡ false → list_any (same q) (own_name (defined_by s)) ≡ true
    → named_in q (sofar N d (s ∷ ss)) ≡ named_in q (own_of N d s ss)
own_alone N d s ss q h k =
    let before = sofar N d ss in
    let own = own_of N d s ss in
    let imports = imports_of N d s ss in
    let new = repeated_new (names_behind ss) (names_in s) q h (any_front (same q) (own_name (defined_by s)) (listed (imported_in s.what)) k) in
    let other = repeated_later (names_behind ss) (own_name (defined_by s)) (listed (imported_in s.what)) q h k in
    ap (named_in q) (with_statement N d s ss)
    ∙ named_joined q before (own ++ imports)
    ∙ ap (λ o. or_else o (named_in q (own ++ imports))) (lacks N d q ss new)
    ∙ named_joined q own imports
    ∙ ap (or_else (named_in q own)) (most_lacks q (listed (imported_in s.what)) imports (import_most N s (laid_of d ss) (imported_in s.what)) other)
    ∙ or_nothing (named_in q own)

-- and under one that statements before define
own_other : (N : List LaidName) (d : List LaidName) (s : Statement) (ss : List Statement) (q : List ℕ)
    → is_repeated (names_behind ss) (names_in s) ≡ false → list_any (same q) (names_behind ss) ≡ true
    → named_in q (sofar N d (s ∷ ss)) ≡ named_in q (sofar N d ss)
own_other N d s ss q h k =
    let before = sofar N d ss in
    let own = own_of N d s ss in
    let imports = imports_of N d s ss in
    let p = any_parts (same q) (own_name (defined_by s)) (listed (imported_in s.what)) (repeated_not (names_behind ss) (names_in s) q h k) in
    ap (named_in q) (with_statement N d s ss)
    ∙ named_joined q before (own ++ imports)
    ∙ ap (or_else (named_in q before))
    (none_joined q own imports (most_lacks q (own_name (defined_by s)) own (own_most N d s ss) p.0)
    (most_lacks q (listed (imported_in s.what)) imports (import_most N s (laid_of d ss) (imported_in s.what)) p.1))
    ∙ or_nothing (named_in q before)

-- ---- names for expressions

one_of : (q : List ℕ) (ns : List LaidName) → AtMost (q ∷ []) ns → one_entry (named_in q ns) ≡ ns
one_of q [] h = refl
one_of q (n ∷ []) h =
    let x : q ≡ n.name = cc in
    let y : same n.name q ≡ true = subst (λ z. same z q ≡ true) x (same_refl q) in
    ap (λ b. one_entry (cond b (Some n) None)) y
one_of q (n ∷ m ∷ ns) h = absurd h

-- what is found in a list under each name for an expression is the entry of its line
abbrev pub EachFound : List LaidName → List LaidName → List LaidName → List Statement → Type 0
EachFound known N d [] = Unit {0}
EachFound known N d (s ∷ ss) =
    ((name : List ℕ) (e : Expr) → defined_by s ≡ Equal name e → one_entry (named_in name known) ≡ own_of N d s ss) × EachFound known N d ss

pub each_found : (all N : List LaidName) (d : List LaidName) (S : List (List ℕ)) (ss : List Statement) → EachSound S ss
    → ((q : List ℕ) → list_any (same q) (names_behind ss) ≡ true → named_in q all ≡ named_in q (sofar N d ss))
    → EachFound all N d ss
each_found all N d S [] sound h = tt
each_found all N d S (s ∷ ss) sound h = (
  λ name e x.
      let own : list_any (same name) (own_name (defined_by s)) ≡ true =
      subst (λ y. list_any (same name) (own_name y) ≡ true) (sym x) (or_left (same name name) false (same_refl name)) in
      ap one_entry
      (h name (any_front (same name) (names_in s) (names_behind ss) (any_front (same name) (own_name (defined_by s)) (listed (imported_in s.what)) own))
      ∙ own_alone N d s ss name sound.0 own)
      ∙ one_of name (own_of N d s ss) (subst (λ y. AtMost (own_name y) (own_of N d s ss)) x (own_most N d s ss)),
  each_found all N d S ss sound.2
      (λ q k. h q (any_back (same q) (names_in s) (names_behind ss) k) ∙ own_other N d s ss q sound.0 k),
)
