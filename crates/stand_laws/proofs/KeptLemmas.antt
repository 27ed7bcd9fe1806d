-- An expression in which names that a line doesn't know stay names, by what all names make of it.
use Rattle.std.proofs.Common.{◌≡◌, ℕ, List, [], ◌∷◌, Bool, true, false, cond, refl, sym, ◌∙◌, ap, subst, arith}
use Rattle.std.specs.Prelude.{Result, Ok, Err}
use Rattle.sdt_fault.specs.declared.kinds.LineKind.{LineKind}
use Rattle.asm_model.specs.declared.exprs.BinaryOp.{BinaryOp}
use Rattle.asm_model.specs.declared.exprs.BinaryOp.TheVariants.{Add}
use Rattle.asm_model.specs.declared.exprs.ExprItem.{ExprItem}
use Rattle.asm_model.specs.declared.exprs.ExprItem.TheVariants as item
use Rattle.asm_model.specs.declared.exprs.UnaryOp.{UnaryOp}
use Rattle.asm_model.specs.declared.exprs.UnaryOp.TheVariants as unary
use Rattle.asm_model.specs.declared.names.Names.{Names}
use Rattle.asm_model.specs.declared.values.Value.{Value}
use Rattle.asm_model.specs.declared.values.Value.TheVariants.{Number, Truth, Words, Place}
use Rattle.asm_model.specs.AtLine.{has_value, kept_name, kept_names}
use Rattle.asm_model.specs.Grammar.{Tree, Leaf, Before, Between}
use Rattle.asm_model.specs.Meaning.{named_in, binary, unary_of, Known, value_of, applied, meaning}
use Rattle.asm_model.proofs.LineLemmas.{applied_known}
use Rattle.asm_model.specs.PlacedLines.{IsName}
use Rattle.asm_model.specs.Readings.{and_then, then_both}
use Rattle.layout_laws.proofs.RoundLemmas.{ResultIs}
use Rattle.layout_laws.proofs.SettledLemmas.{HoldsConstant}
use Rattle.layout_laws.proofs.TreeLemmas.{TreeEach}
use Rattle.asm_model.specs.Named.{ItemNamed}
use Rattle.stand_laws.proofs.LiteralLemmas.{Plus, added_turns, moves, plus_moved, Later, Loads, exact, whole, places_kept}

-- ---- operators between values

both_given : (names : Names) (op : BinaryOp) (v w : Value) (r q : Result Value LineKind) → r ≡ Ok v → q ≡ Ok w
    → then_both r q (binary names op) ≡ binary names op v w
both_given names op v w r q h g = ap (λ z. then_both z q (binary names op)) h ∙ ap (λ z. then_both (Ok v) z (binary names op)) g

-- ---- operators before values

place_alone : (op : UnaryOp) (a : List ℕ) (p : ℕ) (x : Value) → unary_of op (Place a p) ≡ Ok x → ⊥
place_alone unary.Plus a p x h = absurd (cc)
place_alone op a p x h = absurd (cc)

-- ---- trees

abbrev pub IsLoaded : (List ℕ → Type 0) → ExprItem → Type 0
IsLoaded Own i = HoldsConstant Own i × ItemNamed i

pub constants_hold : (Own : List ℕ → Type 0) (t : Tree) → TreeEach (IsLoaded Own) t → TreeEach (HoldsConstant Own) t
constants_hold Own (Leaf i) h = h.0
constants_hold Own (Before op t) h = constants_hold Own t h
constants_hold Own (Between op t u) h = (constants_hold Own t h.0, constants_hold Own u h.1)

plus_nothing : (f : Value) (r : Result Value LineKind) → r ≡ Ok f → Plus f 0 r
plus_nothing (Number m) r h = (m, h, omega arith)
plus_nothing (Place q m) r h = (m, h, omega arith)
plus_nothing (Truth b) r h = tt
plus_nothing (Words w) r h = tt

-- a name that stays a name
name_kept : (final : Names) (q : List ℕ) (w : Value) → IsName q → Place q 0 ≡ w → Loads final w (value_of (named_in q final.list))
name_kept final [] w h e = absurd h
name_kept final (c ∷ cs) w h e =
    subst (λ z. Loads final z (value_of (named_in (c ∷ cs) final.list))) e (λ f g. plus_nothing f (value_of (named_in (c ∷ cs) final.list)) g)

-- an operator stays before what stays
kept_before : (s : Names) (op : UnaryOp) (t : Tree) → (u : Tree) × (kept_names s (Before op t) ≡ Before op u)
kept_before s unary.Size (Leaf i) = (Leaf i, refl)
kept_before s unary.Defined (Leaf i) = (Leaf i, refl)
kept_before s op t = (kept_names s t, refl)

over_before : (s : Names) (op o : UnaryOp) (t : Tree) → kept_names s (Before op (Before o t)) ≡ Before op (kept_names s (Before o t))
over_before s unary.Size o t = refl
over_before s op o t = refl

over_between : (s : Names) (op : UnaryOp) (o : BinaryOp) (t u : Tree) → kept_names s (Before op (Between o t u)) ≡ Before op (kept_names s (Between o t u))
over_between s unary.Size o t u = refl
over_between s op o t u = refl

-- ---- what a line knows of a tree, in the end

module _ (s final : Names) (Own : List ℕ → Type 0) (later : Later s final Own) where
  place_and_number : (op : BinaryOp) (a : List ℕ) (p n : ℕ) (x : Value) (r q : Result Value LineKind)
      → binary s op (Place a p) (Number n) ≡ Ok x → Loads final (Place a p) r → q ≡ Ok (Number n) → ResultIs Own (then_both r q (binary final op))
      → Loads final x (then_both r q (binary final op))
  place_and_number op [] p n x r q h g i own =
      exact s final Own later x (then_both r q (binary final op)) (both_given final op (Place [] p) (Number n) r q g i ∙ h) own
  place_and_number op (c ∷ cs) p n x r q h g i own =
      let m = moves final op (c ∷ cs) p n x h in
      subst (λ z. Loads final z (then_both r q (binary final op))) (sym m.is)
      (λ f e. plus_moved final op (c ∷ cs) p n x m f r q i (g f e))

  number_and_place : (op : BinaryOp) (a : List ℕ) (p n : ℕ) (x : Value) (r q : Result Value LineKind)
      → binary s op (Number n) (Place a p) ≡ Ok x → r ≡ Ok (Number n) → Loads final (Place a p) q → ResultIs Own (then_both r q (binary final op))
      → Loads final x (then_both r q (binary final op))
  number_and_place Add a p n x r q h g i own =
      let same : then_both r q (binary final Add) ≡ then_both q r (binary final Add) =
      ap (λ z. then_both z q (binary final Add)) g ∙ sym (added_turns final n q) ∙ ap (λ z. then_both q z (binary final Add)) (sym g) in
      subst (Loads final x) (sym same)
      (place_and_number Add a p n x q r (added_turns s n (Ok (Place a p)) ∙ h) i g (subst (ResultIs Own) same own))
  number_and_place op a p n x r q h g i own = absurd (cc)

  both_loads : (op : BinaryOp) (v w x : Value) (r q : Result Value LineKind)
      → binary s op v w ≡ Ok x → Loads final v r → Loads final w q → ResultIs Own (then_both r q (binary final op))
      → Loads final x (then_both r q (binary final op))
  both_loads op (Place a p) (Number n) x r q h g i own = place_and_number op a p n x r q h g i own
  both_loads op (Number m) (Place a p) x r q h g i own = number_and_place op a p m x r q h g i own
  both_loads op (Place a p) (Place b j) x r q h g i own =
      exact s final Own later x (then_both r q (binary final op)) (places_kept s final Own later op a b p j x r q h g i) own
  both_loads op (Place a p) (Truth b) x r q h g i own = absurd (cc)
  both_loads op (Place a p) (Words b) x r q h g i own = absurd (cc)
  both_loads op (Truth a) (Place b p) x r q h g i own = absurd (cc)
  both_loads op (Words a) (Place b p) x r q h g i own = absurd (cc)
  both_loads op v w x r q h g i own = exact s final Own later x (then_both r q (binary final op)) (both_given final op v w r q g i ∙ h) own

  between_loads : (op : BinaryOp) (a b r q : Result Value LineKind) (x : Value) → then_both a b (binary s op) ≡ Ok x
      → ((v : Value) → a ≡ Ok v → Loads final v r) → ((v : Value) → b ≡ Ok v → Loads final v q) → ResultIs Own (then_both r q (binary final op))
      → Loads final x (then_both r q (binary final op))
  between_loads op (Ok v) (Ok w) r q x h f g own = both_loads op v w x r q h (f v refl) (g w refl) own
  between_loads op (Err j) (Ok w) r q x h f g own = absurd (cc)
  between_loads op a b r q x h f g own = absurd (cc)

  one_loads : (op : UnaryOp) (v x : Value) (r : Result Value LineKind)
      → unary_of op v ≡ Ok x → Loads final v r → ResultIs Own (and_then r (unary_of op)) → Loads final x (and_then r (unary_of op))
  one_loads op (Place a p) x r h g own = absurd (place_alone op a p x h)
  one_loads op v x r h g own = exact s final Own later x (and_then r (unary_of op)) (ap (λ z. and_then z (unary_of op)) g ∙ h) own

  item_loads : (i : ExprItem) (w : Value) → IsLoaded Own i
      → meaning s (Leaf (kept_name s i)) ≡ Ok w → Loads final w (meaning final (Leaf i))
  item_loads (item.Name q) w each h = by_test (has_value (named_in q s.list)) h
    where
      by_test : (b : Bool) → meaning s (Leaf (cond b (item.Name q) (item.Constant (Place q 0)))) ≡ Ok w → Loads final w (meaning final (Leaf (item.Name q)))
      by_test true e = whole s final Own later (Leaf (item.Name q)) w each.0 e
      by_test false e = let same : Place q 0 ≡ w = cc in name_kept final q w each.1 same
  item_loads i w each h = whole s final Own later (Leaf i) w each.0 h

  -- an operator before something whose value is known, with a value known by then
  step_loads : (op : UnaryOp) (a r : Result Value LineKind) (w : Value)
      → and_then a (unary_of op) ≡ Ok w → ((v : Value) → a ≡ Ok v → Loads final v r) → ResultIs Own (and_then r (unary_of op))
      → Loads final w (and_then r (unary_of op))
  step_loads op (Ok v) r w h loads own = one_loads op v w r h (loads v refl) own
  step_loads op (Err j) r w h loads own = absurd (cc)

  before_loads : (op : UnaryOp) (a r : Result Value LineKind) (w : Value)
      → applied op (Known a) ≡ Ok w → ((v : Value) → a ≡ Ok v → Loads final v r) → ResultIs Own (applied op (Known r)) → Loads final w (applied op (Known r))
  before_loads op a r w h loads own =
      subst (Loads final w) (sym (applied_known op r))
      (step_loads op a r w (sym (applied_known op a) ∙ h) loads (subst (ResultIs Own) (applied_known op r) own))

  pub kept_loads : (t : Tree) (w : Value) → TreeEach (IsLoaded Own) t
      → meaning s (kept_names s t) ≡ Ok w → Loads final w (meaning final t)
  kept_loads (Leaf i) w each h = item_loads i w each h
  kept_loads (Before unary.Size (Leaf i)) w each h = whole s final Own later (Before unary.Size (Leaf i)) w each.0 h
  kept_loads (Before unary.Defined (Leaf i)) w each h = whole s final Own later (Before unary.Defined (Leaf i)) w each.0 h
  kept_loads (Before op (Leaf i)) w each h =
      step_loads op (meaning s (Leaf (kept_name s i))) (meaning final (Leaf i)) w h
      (λ v e. item_loads i v each e) (later.own (Before op (Leaf i)) each.0)
  kept_loads (Before op (Before o t)) w each h =
      let p = kept_before s o t in
      let means : applied op (Known (meaning s (Before o p.0))) ≡ Ok w = ap (meaning s) (sym (over_before s op o t ∙ ap (λ z. Before op z) p.1)) ∙ h in
      before_loads op (meaning s (Before o p.0)) (meaning final (Before o t)) w means
      (λ v e. kept_loads (Before o t) v each (ap (meaning s) p.1 ∙ e))
      (later.own (Before op (Before o t)) (constants_hold Own (Before op (Before o t)) each))
  kept_loads (Before op (Between o t u)) w each h =
      let means : applied op (Known (meaning s (kept_names s (Between o t u)))) ≡ Ok w = ap (meaning s) (sym (over_between s op o t u)) ∙ h in
      before_loads op (meaning s (kept_names s (Between o t u))) (meaning final (Between o t u)) w means
      (λ v e. kept_loads (Between o t u) v each e)
      (later.own (Before op (Between o t u)) (constants_hold Own (Before op (Between o t u)) each))
  kept_loads (Between op t u) w each h =
      between_loads op (meaning s (kept_names s t)) (meaning s (kept_names s u)) (meaning final t) (meaning final u) w h
      (λ v e. kept_loads t v each.0 e) (λ v e. kept_loads u v each.1 e) (later.own (Between op t u) (constants_hold Own (Between op t u) each))
