-- Steps of the two passes.
use Rattle.std.proofs.Common.{◌≡◌, ◌<◌, ℕ, suc, ◌+◌, List, [], ◌∷◌, ◌++◌, length, get_or, take, refl, sym, ◌∙◌, ap, subst, arith, Option, append_assoc, length-append}
use Rattle.std.proofs.Math.ListN.{set}
use Rattle.std.proofs.Math.Seq.{set-append_seam, get_or-append_seam, take-suc}
use Rattle.std.proofs.lemmas.List.{get_or_append_left, length-take-le, take_all}
use Rattle.asm_model.specs.declared.statements.Statement.{Statement}
use Rattle.asm_model.specs.Laid.{reversed}
use Rattle.asm_locals.specs.Labels.{label_behind, label_ahead}
use Rattle.asm_locals.specs.Passes.{IsTable, named_back, looked_back, named_ahead, looked_ahead}

pub looked_more : (before ys : List Statement) (s : Statement) → looked_back before (ys ++ s ∷ []) ≡ looked_back before ys ++ named_back (reversed ys before) s
    ∷ []
looked_more before [] s = refl
looked_more before (y ∷ ys) s = ap (λ z. named_back before y ∷ z) (looked_more (y ∷ before) ys s)

pub reversed_more : (ys before : List Statement) (s : Statement) → reversed (ys ++ s ∷ []) before ≡ s ∷ reversed ys before
reversed_more [] before s = refl
reversed_more (y ∷ ys) before s = reversed_more ys (y ∷ before) s

pub reversed_length : (ys before : List Statement) → length (reversed ys before) ≡ length (looked_back before ys) + length before
reversed_length [] before = omega arith
reversed_length (y ∷ ys) before = let e = reversed_length ys (y ∷ before) in omega arith

-- the statements that a pass has been through, and the others, where it goes forwards
pub record Behind (all now : List Statement) (at : ℕ) (table : List (Option ℕ)) : Type 0 where
  pub front : List Statement
  pub rest : List Statement
  pub whole : front ++ rest ≡ all
  pub long : length (looked_back [] front) ≡ at
  pub named : now ≡ looked_back [] front ++ rest
  pub labels : IsTable table (label_behind (reversed front []))

abbrev pub StepsBack : (s r : Statement) (at : ℕ) (old next : List (Option ℕ)) → Type 0
StepsBack s r at old next = (before : List Statement) → length before ≡ at → IsTable old (label_behind before)
    → IsTable next (label_behind (s ∷ before)) × (r ≡ named_back before s)

pub back_goes : (all now : List Statement) (at : ℕ) (s d r : Statement) (old next : List (Option ℕ)) → Behind all now at old → at < length now
    → s ≡ get_or now at d → StepsBack s r at old next → Behind all (set now at r) (suc at) next
back_goes all now at s d r old next b within item step = go b.rest b.whole b.named
  where
    go : (rest : List Statement) → b.front ++ rest ≡ all → now ≡ looked_back [] b.front ++ rest → Behind all (set now at r) (suc at) next
    go [] whole named = absurd (let e = ap length named in let l = length-append (looked_back [] b.front) [] in let k = b.long in omega arith)
    go (y ∷ rest) whole named =
        let same : s ≡ y = item ∙ ap (λ z. get_or z at d) named ∙ subst (λ n. get_or (looked_back [] b.front ++ y ∷ rest) n d ≡ y) b.long
        (get_or-append_seam (looked_back [] b.front) y rest d) in
        let count : length (reversed b.front []) ≡ at = let l = reversed_length b.front [] in let k = b.long in omega arith in
        let both = step (reversed b.front []) count b.labels in record {
          front = b.front ++ s ∷ [];
          rest = rest;
          whole = append_assoc b.front (s ∷ []) rest ∙ ap (λ z. b.front ++ z ∷ rest) same ∙ whole;
          long = ap length (looked_more [] b.front s) ∙ length-append (looked_back [] b.front) (named_back (reversed b.front []) s ∷ [])
              ∙ (let k = b.long in omega arith);
          named = ap (λ z. set z at r) named
              ∙ subst (λ n. set (looked_back [] b.front ++ y ∷ rest) n r ≡ looked_back [] b.front ++ r ∷ rest) b.long
              (set-append_seam (looked_back [] b.front) y rest r)
              ∙ ap (λ z. looked_back [] b.front ++ z ∷ rest) both.1
              ∙ sym (append_assoc (looked_back [] b.front) (named_back (reversed b.front []) s ∷ []) rest)
              ∙ ap (λ z. z ++ rest) (sym (looked_more [] b.front s));
          labels = subst (λ z. IsTable next (label_behind z)) (sym (reversed_more b.front [] s)) both.0;
        }

-- the same, where it goes backwards
pub record Ahead (all now : List Statement) (at : ℕ) (table : List (Option ℕ)) : Type 0 where
  pub front : List Statement
  pub rest : List Statement
  pub whole : front ++ rest ≡ all
  pub long : length front ≡ at
  pub named : now ≡ front ++ looked_ahead at rest
  pub labels : IsTable table (label_ahead at rest)

abbrev pub StepsAhead : (s r : Statement) (at : ℕ) (old next : List (Option ℕ)) → Type 0
StepsAhead s r at old next = (rest : List Statement) → IsTable old (label_ahead (suc at) rest)
    → IsTable next (label_ahead at (s ∷ rest)) × (r ≡ named_ahead at s rest)

pub ahead_goes : (all now : List Statement) (at : ℕ) (s d r : Statement) (old next : List (Option ℕ)) → Ahead all now (suc at) old
    → s ≡ get_or now at d → StepsAhead s r at old next → Ahead all (set now at r) at next
ahead_goes all now at s d r old next a item step =
    let within : at < length a.front = let k = a.long in omega arith in
    let same : s ≡ get_or a.front at d = item ∙ rw a.named (get_or_append_left a.front (looked_ahead (suc at) a.rest) d at within) in
    let ends : a.front ≡ take at a.front ++ s ∷ [] =
    sym (take_all (suc at) a.front (let k = a.long in omega arith)) ∙ take-suc a.front at d within ∙ ap (λ z. take at a.front ++ z ∷ []) (sym same) in
    let count : length (take at a.front) ≡ at = length-take-le at a.front (omega arith) in
    let both = step a.rest a.labels in
    let split : now ≡ take at a.front ++ s ∷ looked_ahead (suc at) a.rest =
    a.named ∙ ap (λ z. z ++ looked_ahead (suc at) a.rest) ends ∙ append_assoc (take at a.front) (s ∷ []) (looked_ahead (suc at) a.rest) in record {
      front = take at a.front;
      rest = s ∷ a.rest;
      whole = sym (append_assoc (take at a.front) (s ∷ []) a.rest) ∙ ap (λ z. z ++ a.rest) (sym ends) ∙ a.whole;
      long = count;
      named = ap (λ z. set z at r) split
          ∙ subst (λ n. set (take at a.front ++ s ∷ looked_ahead (suc at) a.rest) n r ≡ take at a.front ++ r ∷ looked_ahead (suc at) a.rest) count
          (set-append_seam (take at a.front) s (looked_ahead (suc at) a.rest) r)
          ∙ ap (λ z. take at a.front ++ z ∷ looked_ahead (suc at) a.rest) both.1;
      labels = both.0;
    }
