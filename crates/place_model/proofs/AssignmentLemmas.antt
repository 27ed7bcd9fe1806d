-- What is found for an area is its best selections.
use Rattle.std.proofs.Common.{◌≡◌, ℕ, zero, suc, ◌+◌, ◌<◌, ◌≤◌, ◌⊎◌, inl, inr, Bool, true, false, cond, ◌&&◌, ◌==◌, if◌then◌else◌, List, [], ◌∷◌, refl, sym, ap, ◌∙◌, arith, eqb-true, eq-eqb, Some}
use Rattle.std.specs.Prelude.{slice_get, is_some}
use Rattle.std.specs.List.{filter}
use Rattle.std.proofs.lemmas.Bool.{cases_lt}
use Rattle.base_lemmas.proofs.BaseLemmas.{both_true, same}
use Rattle.place_model.specs.Items.{Item}
use Rattle.place_model.specs.Assignment.{Offer, matches, is_named, rank, at_rank, first_filled, best, found}
use Rattle.place_model.specs.Laws.{IsBest, OfFound, AssignmentLaw}

-- ---- the first two items that pass

pub record IsOnly {X : Type 0} (test : X → Bool) (xs : List X) (o : X) : Type 0 where
  pub place : ℕ
  pub at : slice_get xs place ≡ Some o
  pub passes : test o ≡ true
  pub only : (k : ℕ) (x : X) → slice_get xs k ≡ Some x → test x ≡ true → k ≡ place

pub record AreFirst {X : Type 0} (test : X → Bool) (xs : List X) (o p : X) : Type 0 where
  pub first : ℕ
  pub second : ℕ
  pub order : first < second
  pub one_at : slice_get xs first ≡ Some o
  pub other_at : slice_get xs second ≡ Some p
  pub one_passes : test o ≡ true
  pub other_passes : test p ≡ true
  pub rest : (k : ℕ) (x : X) → slice_get xs k ≡ Some x → test x ≡ true → (k ≡ first) ⊎ (second ≤ k)

abbrev OfFirsts : {X : Type 0} → (X → Bool) → List X → List X → Type 0
OfFirsts {X} test xs [] = (k : ℕ) (x : X) → slice_get xs k ≡ Some x → test x ≡ true → ⊥
OfFirsts test xs (o ∷ []) = IsOnly test xs o
OfFirsts test xs (o ∷ p ∷ rest) = AreFirst test xs o p

false_true : (b : Bool) → b ≡ false → b ≡ true → ⊥
false_true b e h = absurd (let both : false ≡ true = sym e ∙ h in cc)

module _ {X : Type 0} (test : X → Bool) (x : X) (xs : List X) where
  -- behind an item that doesn't pass
  none_behind : test x ≡ false → OfFirsts test xs [] → (k : ℕ) (y : X) → slice_get (x ∷ xs) k ≡ Some y → test y ≡ true → ⊥
  none_behind e f zero y at h = false_true (test x) e (ap test (same x y at) ∙ h)
  none_behind e f (suc k) y at h = f k y at h

  only_behind : (o : X) → test x ≡ false → (f : IsOnly test xs o) → (k : ℕ) (y : X) → slice_get (x ∷ xs) k ≡ Some y → test y ≡ true → k ≡ suc f.place
  only_behind o e f zero y at h = absurd (false_true (test x) e (ap test (same x y at) ∙ h))
  only_behind o e f (suc k) y at h = let is = f.only k y at h in omega arith

  first_behind : (o p : X) → test x ≡ false → (f : AreFirst test xs o p) → (k : ℕ) (y : X) → slice_get (x ∷ xs) k ≡ Some y → test y ≡ true → (k ≡ suc f.first) ⊎ (suc f.second ≤ k)
  first_behind o p e f zero y at h = absurd (false_true (test x) e (ap test (same x y at) ∙ h))
  first_behind o p e f (suc k) y at h = go (f.rest k y at h)
    where
      go : (k ≡ f.first) ⊎ (f.second ≤ k) → (suc k ≡ suc f.first) ⊎ (suc f.second ≤ suc k)
      go (inl is) = inl (omega arith)
      go (inr le) = inr (omega arith)

  skipped : test x ≡ false → (ys : List X) → OfFirsts test xs ys → OfFirsts test (x ∷ xs) ys
  skipped e [] f = none_behind e f
  skipped e (o ∷ []) f = record { place = suc f.place; at = f.at; passes = f.passes; only = only_behind o e f }
  skipped e (o ∷ p ∷ rest) f = record {
    first = suc f.first;
    second = suc f.second;
    order = let lt = f.order in omega arith;
    one_at = f.one_at;
    other_at = f.other_at;
    one_passes = f.one_passes;
    other_passes = f.other_passes;
    rest = first_behind o p e f;
  }

  -- an item that passes is the first
  alone : OfFirsts test xs [] → (k : ℕ) (y : X) → slice_get (x ∷ xs) k ≡ Some y → test y ≡ true → k ≡ 0
  alone f zero y at h = refl
  alone f (suc k) y at h = absurd (f k y at h)

  then_only : (o : X) → (f : IsOnly test xs o) → (k : ℕ) (y : X) → slice_get (x ∷ xs) k ≡ Some y → test y ≡ true → (k ≡ 0) ⊎ (suc f.place ≤ k)
  then_only o f zero y at h = inl refl
  then_only o f (suc k) y at h = let is = f.only k y at h in inr (omega arith)

  then_first : (o p : X) → (f : AreFirst test xs o p) → (k : ℕ) (y : X) → slice_get (x ∷ xs) k ≡ Some y → test y ≡ true → (k ≡ 0) ⊎ (suc f.first ≤ k)
  then_first o p f zero y at h = inl refl
  then_first o p f (suc k) y at h = go (f.rest k y at h)
    where
      go : (k ≡ f.first) ⊎ (f.second ≤ k) → (suc k ≡ 0) ⊎ (suc f.first ≤ suc k)
      go (inl is) = inr (omega arith)
      go (inr le) = let lt = f.order in inr (omega arith)

  kept : test x ≡ true → (ys : List X) → OfFirsts test xs ys → OfFirsts test (x ∷ xs) (x ∷ ys)
  kept e [] f = record { place = 0; at = refl; passes = e; only = alone f }
  kept e (o ∷ []) f = record { first = 0; second = suc f.place; order = omega arith; one_at = refl; other_at = f.at; one_passes = e; other_passes = f.passes; rest = then_only o f }
  kept e (o ∷ p ∷ rest) f = record { first = 0; second = suc f.first; order = omega arith; one_at = refl; other_at = f.one_at; one_passes = e; other_passes = f.one_passes; rest = then_first o p f }

firsts : {X : Type 0} (test : X → Bool) (xs : List X) → OfFirsts test xs (filter test xs)
firsts test [] = λ k x at h. absurd cc
firsts {X} test (x ∷ xs) = go (test x) refl (firsts test xs)
  where
    go : (b : Bool) → test x ≡ b → OfFirsts test xs (filter test xs) → OfFirsts test (x ∷ xs) (cond b (x ∷ filter test xs) (filter test xs))
    go true e f = kept test x xs e (filter test xs) f
    go false e f = skipped test x xs e (filter test xs) f

-- ---- ranks

rank_small : (a b : Bool) → (if a then 0 else 2) + (if b then 0 else 1) ≤ 3
rank_small true true = omega arith
rank_small true false = omega arith
rank_small false true = omega arith
rank_small false false = omega arith

module _ (offers : List Offer) (i : Item) where
  abbrev at_level : ℕ → Offer → Bool
  at_level n o = rank o.selection == n && matches o.selection i

  -- what matches has at least this rank
  abbrev FromRank : ℕ → Type 0
  FromRank n = (k : ℕ) (o : Offer) → slice_get offers k ≡ Some o → matches o.selection i ≡ true → n ≤ rank o.selection

  level : (n : ℕ) (o : Offer) → rank o.selection ≡ n → matches o.selection i ≡ true → at_level n o ≡ true
  level n o e h = rw (eq-eqb (rank o.selection) n e) h

  is_best : (n place : ℕ) (o : Offer) → FromRank n → slice_get offers place ≡ Some o → at_level n o ≡ true → IsBest offers i place o
  is_best n place o low at h =
      let (is, matching) = both_true (rank o.selection == n) (matches o.selection i) h in
      let exact = eqb-true (rank o.selection) n is in
      record { at = at; matching = matching; none_better = λ k p there m. let least = low k p there m in omega arith }

  best_level : (n place k : ℕ) (o p : Offer) → FromRank n → slice_get offers place ≡ Some o → at_level n o ≡ true → IsBest offers i k p → at_level n p ≡ true
  best_level n place k o p low at h b =
      let (is, matching) = both_true (rank o.selection == n) (matches o.selection i) h in
      let exact = eqb-true (rank o.selection) n is in
      let least = low k p b.at b.matching in
      let most = b.none_better place o at matching in
      level n p (omega arith) b.matching

  filled : (n : ℕ) → FromRank n → (os : List Offer) → OfFirsts (at_level n) offers os → (rest : List (List Offer)) → (FromRank (suc n) → OfFound offers i (found (first_filled rest)))
      → OfFound offers i (found (first_filled (os ∷ rest)))
  filled n low [] none rest later = later (λ k o at m. above k o at m (cases (rank o.selection) n (low k o at m)))
    where
      cases : (r m : ℕ) → m ≤ r → (suc m ≤ r) ⊎ (r ≡ m)
      cases r m h = go (cases_lt m r)
        where
          go : (m < r) ⊎ (r ≤ m) → (suc m ≤ r) ⊎ (r ≡ m)
          go (inl lt) = inl (omega arith)
          go (inr le) = inr (omega arith)

      above : (k : ℕ) (o : Offer) → slice_get offers k ≡ Some o → matches o.selection i ≡ true → (suc n ≤ rank o.selection) ⊎ (rank o.selection ≡ n) → suc n ≤ rank o.selection
      above k o at m (inl h) = h
      above k o at m (inr e) = absurd (none k o at (level n o e m))
  filled n low (o ∷ []) f rest later = record {
    place = f.place;
    best = is_best n f.place o low f.at f.passes;
    only = λ k p b. f.only k p b.at (best_level n f.place k o p low f.at f.passes b);
  }
  filled n low (o ∷ p ∷ os) f rest later = record {
    first = f.first;
    second = f.second;
    order = f.order;
    one = is_best n f.first o low f.one_at f.one_passes;
    other = is_best n f.second p low f.other_at f.other_passes;
    none_between = λ k q b. f.rest k q b.at (best_level n f.first k o q low f.one_at f.one_passes b);
  }

  nothing_matches : FromRank 4 → (k : ℕ) (o : Offer) → slice_get offers k ≡ Some o → matches o.selection i ≡ false
  nothing_matches low k o at = go (matches o.selection i) refl
    where
      go : (b : Bool) → matches o.selection i ≡ b → matches o.selection i ≡ false
      go true e = let least = low k o at e in let most = rank_small (is_some o.selection.«module») (is_named o.selection.choice) in absurd (omega arith)
      go false e = e

  all_ranks : OfFound offers i (found (best offers i))
  all_ranks =
      filled 0 (λ k o at m. omega arith) (at_rank 0 offers i) (firsts (at_level 0) offers) _
      (λ from1. filled 1 from1 (at_rank 1 offers i) (firsts (at_level 1) offers) _
      (λ from2. filled 2 from2 (at_rank 2 offers i) (firsts (at_level 2) offers) _
      (λ from3. filled 3 from3 (at_rank 3 offers i) (firsts (at_level 3) offers) _
      (λ from4. nothing_matches from4))))

pub assignment_law : AssignmentLaw
assignment_law offers i = all_ranks offers i
