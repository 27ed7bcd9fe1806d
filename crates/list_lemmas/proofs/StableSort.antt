-- A stable sort by any order gives the list into which each item in turn is put behind those below it.
use Rattle.std.proofs.Common.{◌≡◌, ℕ, zero, suc, ◌<◌, Bool, true, false, cond, not, if◌then◌else◌, List, [], ◌∷◌, length, get_or, filter, refl, sym, ap, ◌∙◌, arith, inl, inr, suc-le-suc, zero-le}
use Rattle.std.specs.Cmp.{IsStrictWeakOrder}
use Rattle.std.specs.List.{AllByRecursion}
use Rattle.std.specs.List.Sorted.{ties, IsSortedBy, IsStableBy}
use Rattle.std.proofs.lemmas.Bool.{cases_Bool, and_parts, not-true, cond-true, cond-false}
use Rattle.std.proofs.lemmas.List.Sorted.{sorted_far}

module _ {X : Type 0} (lt : X → X → Bool) where
  abbrev pub put : X → List X → List X
  put x [] = x ∷ []
  put x (y ∷ ys) = if lt y x then y ∷ put x ys else x ∷ y ∷ ys

  abbrev pub ordered : List X → List X
  ordered [] = []
  ordered (x ∷ xs) = put x (ordered xs)

  -- none is below an item
  abbrev pub NoneBelow : X → List X → Type 0
  NoneBelow x ys = AllByRecursion (λ y. lt y x ≡ false) ys

  abbrev pub Rises : List X → Type 0
  Rises [] = Unit {0}
  Rises (y ∷ ys) = NoneBelow y ys × Rises ys

module _ {X : Type 0} (lt : X → X → Bool) (o : IsStrictWeakOrder lt) where
  not_itself : (x : X) → lt x x ≡ false
  not_itself x = elim (cases_Bool (lt x x)) [ inl below ↦ o.one_way x x below | inr apart ↦ apart ]

  none_below_at : (x : X) (ys : List X) → ((j : ℕ) → j < length ys → lt (get_or ys j x) x ≡ false) → NoneBelow lt x ys
  none_below_at x [] h = tt
  none_below_at x (y ∷ ys) h = (h zero (suc-le-suc zero-le), none_below_at x ys (λ j low. h (suc j) (suc-le-suc low)))

  rises_from : (ys : List X) → ((i j : ℕ) (d : X) → i < j → j < length ys → lt (get_or ys j d) (get_or ys i d) ≡ false) → Rises lt ys
  rises_from [] h = tt
  rises_from (y ∷ ys) h = (
    none_below_at y ys (λ j low. h zero (suc j) y (suc-le-suc zero-le) (suc-le-suc low)),
    rises_from ys (λ i j d less low. h (suc i) (suc j) d (suc-le-suc less) (suc-le-suc low)),
  )

  rises_sorted : (ys : List X) → IsSortedBy lt ys → Rises lt ys
  rises_sorted ys up = rises_from ys (λ i j d less low. sorted_far lt o ys up i j d (omega arith) low)

  below_weaker : (x y : X) (zs : List X) → lt y x ≡ false → NoneBelow lt y zs → NoneBelow lt x zs
  below_weaker x y [] h all = tt
  below_weaker x y (z ∷ zs) h all = (o.chain z y x all.0 h, below_weaker x y zs h all.1)

  none_below_put : (x y : X) (zs : List X) → lt x y ≡ false → NoneBelow lt y zs → NoneBelow lt y (put lt x zs)
  none_below_put x y [] h all = (h, tt)
  none_below_put x y (z ∷ zs) h all = go (lt z x) (none_below_put x y zs h all.1)
    where
      go : (b : Bool) → NoneBelow lt y (put lt x zs) → NoneBelow lt y (if b then z ∷ put lt x zs else x ∷ z ∷ zs)
      go true rest = (all.0, rest)
      go false rest = (h, all)

  rises_put : (x : X) (ys : List X) → Rises lt ys → Rises lt (put lt x ys)
  rises_put x [] up = (tt, tt)
  rises_put x (y ∷ ys) up = go (lt y x) refl (rises_put x ys up.1)
    where
      go : (b : Bool) → lt y x ≡ b → Rises lt (put lt x ys) → Rises lt (if b then y ∷ put lt x ys else x ∷ y ∷ ys)
      go true e rest = (none_below_put x y ys (o.one_way y x e) up.0, rest)
      go false e rest = ((e, below_weaker x y ys e up.0), up)

  rises_ordered : (xs : List X) → Rises lt (ordered lt xs)
  rises_ordered [] = tt
  rises_ordered (x ∷ xs) = rises_put x (ordered lt xs) (rises_ordered xs)

  -- ---- items that tie keep their order

  kept : (x y : X) (ys : List X) → ties lt x y ≡ true → filter (ties lt x) (y ∷ ys) ≡ y ∷ filter (ties lt x) ys
  kept x y ys h = cond-true _ _ _ h

  dropped : (x y : X) (ys : List X) → ties lt x y ≡ false → filter (ties lt x) (y ∷ ys) ≡ filter (ties lt x) ys
  dropped x y ys h = cond-false _ _ _ h

  not_above : (x y : X) → ties lt x y ≡ true → lt x y ≡ false
  not_above x y h = not-true _ (and_parts (not (lt x y)) (not (lt y x)) h).0

  not_below : (x y : X) → ties lt x y ≡ true → lt y x ≡ false
  not_below x y h = not-true _ (and_parts (not (lt x y)) (not (lt y x)) h).1

  tie : (x y : X) → lt x y ≡ false → lt y x ≡ false → ties lt x y ≡ true
  tie x y h k = rw (h, k) refl

  -- c stands behind d, and neither changes places with an item that ties with it
  filter_behind : (x c d : X) (ds : List X) → lt d c ≡ true → filter (ties lt x) (put lt c ds) ≡ filter (ties lt x) (c ∷ ds) → filter (ties lt x) (d ∷ put lt c ds) ≡ filter (ties lt x) (c ∷ d ∷ ds)
  filter_behind x c d ds e rest = elim (cases_Bool (ties lt x d)) [
    | inr apart ↦ dropped x d (put lt c ds) apart ∙ rest ∙ ap (λ l. cond (ties lt x c) (c ∷ l) l) (sym (dropped x d ds apart))
    | inl with ↦
        elim (cases_Bool (ties lt x c)) [
          | inl both ↦ absurd (let no : lt d c ≡ false = o.chain d x c (not_below x d with) (not_above x c both) in cc)
          | inr only ↦ kept x d (put lt c ds) with ∙ ap (λ l. d ∷ l) (rest ∙ dropped x c ds only) ∙ sym (dropped x c (d ∷ ds) only ∙ kept x d ds with)
        ]
  ]

  filter_put : (x c : X) (ds : List X) → filter (ties lt x) (put lt c ds) ≡ filter (ties lt x) (c ∷ ds)
  filter_put x c [] = refl
  filter_put x c (d ∷ ds) = go (lt d c) refl (filter_put x c ds)
    where
      go : (b : Bool) → lt d c ≡ b → filter (ties lt x) (put lt c ds) ≡ filter (ties lt x) (c ∷ ds) → filter (ties lt x) (if b then d ∷ put lt c ds else c ∷ d ∷ ds) ≡ filter (ties lt x) (c ∷ d ∷ ds)
      go false e rest = refl
      go true e rest = filter_behind x c d ds e rest

  filter_ordered : (x : X) (xs : List X) → filter (ties lt x) (ordered lt xs) ≡ filter (ties lt x) xs
  filter_ordered x [] = refl
  filter_ordered x (c ∷ cs) = filter_put x c (ordered lt cs) ∙ ap (λ l. cond (ties lt x c) (c ∷ l) l) (filter_ordered x cs)

  -- ---- lists that rise, and in which the same items tie in the same order, are the same

  found_above : (z y v : X) (ws vs : List X) → NoneBelow lt z ws → filter (ties lt y) ws ≡ v ∷ vs → lt y z ≡ false
  found_above z y v [] vs all e = absurd cc
  found_above z y v (w ∷ ws) vs all e = elim (cases_Bool (ties lt y w)) [
    | inl with ↦ o.chain y w z (not_above y w with) all.0
    | inr without ↦ found_above z y v ws vs all.1 (sym (dropped y w ws without) ∙ e)
  ]

  abbrev SameTies : List X → List X → Type 0
  SameTies ys zs = (x : X) → filter (ties lt x) ys ≡ filter (ties lt x) zs

  itself : (x : X) → ties lt x x ≡ true
  itself x = tie x x (not_itself x) (not_itself x)

  same_list : (ys zs : List X) → Rises lt ys → Rises lt zs → SameTies ys zs → ys ≡ zs
  same_list [] [] left right same = refl
  same_list [] (z ∷ zs) left right same = absurd (let clash = same z ∙ kept z z zs (itself z) in cc)
  same_list (y ∷ ys) [] left right same = absurd (let clash = sym (same y) ∙ kept y y ys (itself y) in cc)
  same_list (y ∷ ys) (z ∷ zs) left right same =
      let up : lt y z ≡ false = found_above z y y (z ∷ zs) _ (not_itself z, right.0) (sym (same y) ∙ kept y y ys (itself y)) in
      let down : lt z y ≡ false = found_above y z z (y ∷ ys) _ (not_itself y, left.0) (same z ∙ kept z z zs (itself z)) in
      let heads = sym (kept y y ys (itself y)) ∙ same y ∙ kept y z zs (tie y z up down) in
      let head : y ≡ z = cc in
      let tails : SameTies ys zs = λ x. elim (cases_Bool (ties lt x y)) [
        | inl with ↦ let both = sym (kept x y ys with) ∙ same x ∙ kept x z zs (ap (ties lt x) (sym head) ∙ with) in cc
        | inr without ↦ sym (dropped x y ys without) ∙ same x ∙ dropped x z zs (ap (ties lt x) (sym head) ∙ without)
      ] in
      ap (λ w. w ∷ ys) head ∙ ap (λ l. z ∷ l) (same_list ys zs left.1 right.1 tails)

  pub ordered_from_sort : (xs ys : List X) → IsSortedBy lt ys → IsStableBy lt xs ys → ys ≡ ordered lt xs
  ordered_from_sort xs ys up stable = same_list ys (ordered lt xs) (rises_sorted ys up) (rises_ordered xs) (λ x. stable x ∙ sym (filter_ordered x xs))
