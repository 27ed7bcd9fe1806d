-- Where nothing is unmovable, the shifts of a word are what is added there less what is taken away.
use Rattle.std.proofs.Common.{◌≡◌, ◌⊎◌, inl, inr, ℕ, zero, suc, ◌+◌, ◌-◌, ◌%◌, ◌<◌, ◌≤◌, Bool, true, false, not, cond, ◌==◌, if◌then◌else◌, List, [], ◌∷◌, ◌++◌, Option, Some, None, refl, sym, ap, subst, ◌∙◌, arith}
use Rattle.std.specs.Prelude.{◌&&◌, nat_le, nat_lt, count_by, slice_get, sum_by}
use Rattle.std.specs.List.{filter, filter_map, AllByRecursion}
use Rattle.std.proofs.lemmas.Bool.{leb-true, leb-false, ltb-false, eqb-true}
use Rattle.std.proofs.lemmas.List.Sums.{sum_by-cons}
use Rattle.base_lemmas.proofs.BaseLemmas.{all_weaker, both_true, neither}
use Rattle.sdt_word.specs.Numbers.{bits}
use Rattle.sdt_fault.specs.declared.refusal.Refusal.{Refusal}
use Rattle.aof_object.specs.declared.records.Area.{Area}
use Rattle.aof_object.specs.declared.records.Object.{Object}
use Rattle.aof_object.specs.declared.records.Reloc.{Reloc}
use Rattle.patch_model.specs.Fields.{Kind, Byte, Half, Word, Branch, Field, directives, field_of, is_field, is_same_kind, kind_by, kind_of, place_by}
use Rattle.place_model.proofs.ListLemmas.{none_given}
use Rattle.link_model.specs.declared.placing.PlacedArea.{PlacedArea}
use Rattle.link_model.specs.declared.placing.Placement.{Placement}
use Rattle.link_model.specs.declared.selection.Linked.{Linked}
use Rattle.link_model.specs.declared.selection.Named.{Named}
use Rattle.link_model.specs.Members.{Link, link_of, objects_in}
use Rattle.link_model.specs.RegionValues.{area_of}
use Rattle.link_values.specs.Placed.{base_in}
use Rattle.link_values.specs.Shifts.{area_shifts, gains, has_bad_shifts, image_base, is_bad_branch, is_unmovable, losses, names_moving, not_relocatable, shifts_at, shifts_in, shifts_of, unmovable, unmovable_from, unmovable_in, word_shifts}
use Rattle.link_shifts.specs.declared.balances.Balance.{Balance}
use Rattle.link_shifts.specs.Balances.{is_gain, is_loss, none}
use Rattle.link_shifts.specs.Changes.{area_change, AreChanges, Changes, change_by, change_of, is_word, is_word_at, times_in}
use Rattle.link_shifts.proofs.FieldLemmas.{count_among, step}

-- ---- the relocations whose field is a word at an address

abbrev word_at : ℕ → Field
word_at place = record { place = place; kind = Word }

no_both : (b : Bool) → false ≡ (b && false)
no_both true = refl
no_both false = refl

same_place : (o address x : ℕ) → address ≤ x → (address + o == x) ≡ ((o == x - address) && true)
same_place o address x h = grind arith

word_by : (t o address x : ℕ) → t < 4 → address ≤ x → (is_word (kind_by t (o % 2 == 1)) && (address + place_by t o == x)) ≡ ((place_by t o == x - address) && is_same_kind (kind_by t (o % 2 == 1)) Word)
word_by zero o address x ht h = no_both (o == x - address)
word_by (suc zero) o address x ht h = no_both (o == x - address)
word_by (suc (suc zero)) o address x ht h = same_place o address x h
word_by (suc (suc (suc zero))) o address x ht h = no_both (o - o % 2 == x - address)
word_by (suc (suc (suc (suc t)))) o address x ht h = absurd (omega (arith, ht))

same_word : (address x : ℕ) → address ≤ x → (r : Reloc) → is_word_at address x r ≡ is_field (word_at (x - address)) r
same_word address x h r = word_by (bits r.word 24 2) r.offset address x (omega arith) h

change_there : (moving : Reloc → Bool) (relocs : List Reloc) (address x : ℕ) → address ≤ x
    → change_by moving address x relocs ≡ record { more = gains moving (directives relocs (word_at (x - address))); less = losses moving (directives relocs (word_at (x - address))) }
change_there moving relocs address x h = λ i. record {
  more = count_among (is_word_at address x) (is_field (word_at (x - address))) (is_gain moving) (same_word address x h) relocs i;
  less = count_among (is_word_at address x) (is_field (word_at (x - address))) (is_loss moving) (same_word address x h) relocs i;
}

-- none is before its area
is_behind : (b : Bool) (o address x : ℕ) (c : Bool) → x < address → ((b && (address + o == x)) && c) ≡ false
is_behind b o address x c h = go b (address + o == x) (grind arith)
  where
    go : (b e : Bool) → e ≡ false → ((b && e) && c) ≡ false
    go true true f = absurd cc
    go true false f = refl
    go false e f = refl

count_none : (p : Reloc → Bool) → ((r : Reloc) → p r ≡ false) → (rs : List Reloc) → count_by p rs ≡ 0
count_none p never [] = refl
count_none p never (r ∷ rs) = step p r rs ∙ (λ i. cond (never r i) 1 0 + count_none p never rs i)

change_before : (moving : Reloc → Bool) (relocs : List Reloc) (address x : ℕ) → x < address → change_by moving address x relocs ≡ none
change_before moving relocs address x h = λ i. record {
  more = count_none (λ r. is_word_at address x r && is_gain moving r) (λ r. is_behind (is_word (field_of r).kind) (field_of r).place address x (is_gain moving r) h) relocs i;
  less = count_none (λ r. is_word_at address x r && is_loss moving r) (λ r. is_behind (is_word (field_of r).kind) (field_of r).place address x (is_loss moving r) h) relocs i;
}

-- ---- of what can be moved no more is taken away than is added

not_bad : (offset more less : ℕ) → has_bad_shifts Word offset more less ≡ false → less ≤ more
not_bad offset more less = go (offset % 4 == 0)
  where
    equal : (b : Bool) → (more == less) ≡ b → not b ≡ false → less ≤ more
    equal true e h = let same = eqb-true more less e in omega (arith, same)
    equal false e h = absurd cc

    go : (b : Bool) → (if b then nat_lt more less else not (more == less)) ≡ false → less ≤ more
    go true h = ltb-false more less h
    go false h = equal (more == less) refl h

is_kind : (k : Kind) → is_same_kind k Word ≡ true → k ≡ Word
is_kind Byte h = absurd cc
is_kind Half h = absurd cc
is_kind Word h = refl
is_kind (Branch b) h = absurd cc

is_it : (place : ℕ) (r : Reloc) → is_field (word_at place) r ≡ true → field_of r ≡ word_at place
is_it place r h =
    let parts = both_true ((field_of r).place == place) (is_same_kind (kind_of r) Word) h in
    λ i. record { place = eqb-true (field_of r).place place parts.0 i; kind = is_kind (kind_of r) parts.1 i }

abbrev AllMove : (Reloc → Bool) → (Reloc → ℕ) → List Reloc → List Reloc → Type 0
AllMove moving offset relocs rs = AllByRecursion (λ r. is_unmovable moving (offset r) relocs r ≡ false) rs

module _ (moving : Reloc → Bool) (offset : Reloc → ℕ) (relocs : List Reloc) (place : ℕ) where
  abbrev NoneLost : Type 0
  NoneLost = losses moving (directives relocs (word_at place)) ≤ gains moving (directives relocs (word_at place))

  of_word : (r : Reloc) → is_field (word_at place) r ≡ true → is_unmovable moving (offset r) relocs r ≡ false → NoneLost
  of_word r is moves =
      let bad : Field → Bool = λ f. has_bad_shifts f.kind (offset r) (gains moving (directives relocs f)) (losses moving (directives relocs f)) in
      let fair = (neither (is_bad_branch (field_of r).kind (moving r)) (bad (field_of r)) moves).1 in
      not_bad (offset r) (gains moving (directives relocs (word_at place))) (losses moving (directives relocs (word_at place))) (ap bad (sym (is_it place r is)) ∙ fair)

  among : (rs : List Reloc) → AllMove moving offset relocs rs → (filter (is_field (word_at place)) rs ≡ []) ⊎ NoneLost
  among [] all = inl refl
  among (r ∷ rs) all = by_test (is_field (word_at place) r) refl (among rs all.1)
    where
      by_test : (b : Bool) → is_field (word_at place) r ≡ b → (filter (is_field (word_at place)) rs ≡ []) ⊎ NoneLost
          → (cond b (r ∷ filter (is_field (word_at place)) rs) (filter (is_field (word_at place)) rs) ≡ []) ⊎ NoneLost
      by_test true e rest = inr (of_word r e all.0)
      by_test false e rest = rest

  none_lost : AllMove moving offset relocs relocs → NoneLost
  none_lost all = go (among relocs all)
    where
      go : (directives relocs (word_at place) ≡ []) ⊎ NoneLost → NoneLost
      go (inl nothing) = subst (λ (ds : List Reloc). losses moving ds ≤ gains moving ds) (sym nothing) (omega arith)
      go (inr h) = h

-- ---- each area of a link that can be moved

nothing : {X : Type 0} (xs : List X) → slice_get xs 0 ≡ None → xs ≡ []
nothing [] h = refl
nothing (x ∷ xs) h = absurd cc

both_nothing : {X : Type 0} (xs ys : List X) → xs ++ ys ≡ [] → (xs ≡ []) × (ys ≡ [])
both_nothing [] ys h = (refl, h)
both_nothing (x ∷ xs) ys h = absurd cc

module _ (l : Link) (p : Placement) (area : ℕ) (a : Area) where
  abbrev Moves : ℕ → ℕ → Type 0
  Moves object number = AllMove (names_moving l p object) (λ r. base_in p object number + (field_of r).place - image_base p) a.relocs a.relocs

  each_moves : (o : Named Object) (object number : ℕ) → filter_map (unmovable l p o object number a) a.relocs ≡ [] → Moves object number
  each_moves o object number h =
      all_weaker (λ r. unmovable l p o object number a r ≡ None) (λ r. is_unmovable (names_moving l p object) (base_in p object number + (field_of r).place - image_base p) a.relocs r ≡ false)
      (λ r. told (is_unmovable (names_moving l p object) (base_in p object number + (field_of r).place - image_base p) a.relocs r) _) a.relocs
      (none_given (unmovable l p o object number a) a.relocs (ap (λ (xs : List Refusal). slice_get xs 0) h))
    where
      told : (b : Bool) (refusal : Refusal) → (if b then Some refusal else None) ≡ None → b ≡ false
      told true refusal h = absurd cc
      told false refusal h = refl

  in_areas : (o : Named Object) (object k : ℕ) (areas : List Area) (n number : ℕ) → unmovable_in l p o object k areas ≡ [] → number ≡ k + n → slice_get areas n ≡ Some a → Moves object number
  in_areas o object k [] n number h e at = absurd cc
  in_areas o object k (b ∷ areas) zero number h e at =
      let is : b ≡ a = cc in
      let same : k ≡ number = omega (arith, e) in
      let own = (both_nothing (filter_map (unmovable l p o object k b) b.relocs) (unmovable_in l p o object (suc k) areas) h).0 in
      each_moves o object number ((λ i. filter_map (unmovable l p o object (sym same i) (sym is i)) (sym is i).relocs) ∙ own)
  in_areas o object k (b ∷ areas) (suc n) number h e at =
      in_areas o object (suc k) areas n number (both_nothing (filter_map (unmovable l p o object k b) b.relocs) (unmovable_in l p o object (suc k) areas) h).1 (omega (arith, e)) at

  in_objects : (k : ℕ) (os : List (Named Object)) (n object : ℕ) → unmovable_from l p k os ≡ [] → object ≡ k + n → area_of (objects_in os) (record { object = n; area = area }) ≡ Some a
      → Moves object area
  in_objects k [] n object h e at = absurd cc
  in_objects k (o ∷ os) zero object h e at =
      let same : k ≡ object = omega (arith, e) in
      let own = (both_nothing (unmovable_in l p o k 0 o.value.areas) (unmovable_from l p (suc k) os) h).0 in
      in_areas o object 0 o.value.areas area area (ap (λ z. unmovable_in l p o z 0 o.value.areas) (sym same) ∙ own) (omega arith) at
  in_objects k (o ∷ os) (suc n) object h e at =
      in_objects (suc k) os n object (both_nothing (unmovable_in l p o k 0 o.value.areas) (unmovable_from l p (suc k) os) h).1 (omega (arith, e)) at

-- ---- the shifts of areas

module _ (l : Linked) (p : Placement) (moves : not_relocatable l p ≡ None) (x : ℕ) (at : PlacedArea) where
  abbrev moving : Reloc → Bool
  moving = names_moving (link_of l) p at.area.object

  area_kept : (o : Option Area) → area_of (objects_in l.objects) at.area ≡ o → (change_of (link_of l) p x at o).less ≤ (change_of (link_of l) p x at o).more
  area_kept None e = omega arith
  area_kept (Some a) e = by_test (nat_le at.address x) refl
    where
      all : Moves (link_of l) p at.area.area a at.area.object at.area.area
      all = in_objects (link_of l) p at.area.area a 0 l.objects at.area.object at.area.object (nothing (unmovable_from (link_of l) p 0 l.objects) moves) (omega arith) e

      by_test : (b : Bool) → nat_le at.address x ≡ b → (change_by moving at.address x a.relocs).less ≤ (change_by moving at.address x a.relocs).more
      by_test true t =
          subst (λ (b : Balance). b.less ≤ b.more) (sym (change_there moving a.relocs at.address x (leb-true at.address x t)))
          (none_lost moving (λ r. base_in p at.area.object at.area.area + (field_of r).place - image_base p) a.relocs (x - at.address) all)
      by_test false t = subst (λ (b : Balance). b.less ≤ b.more) (sym (change_before moving a.relocs at.address x (leb-false at.address x t))) (omega arith)

  area_shifted : (o : Option Area) → shifts_in (link_of l) p x at o ≡ (change_of (link_of l) p x at o).more - (change_of (link_of l) p x at o).less
  area_shifted None = refl
  area_shifted (Some a) = by_test (nat_le at.address x) refl
    where
      by_test : (b : Bool) → nat_le at.address x ≡ b
          → (if b then word_shifts moving a.relocs (x - at.address) else 0) ≡ (change_by moving at.address x a.relocs).more - (change_by moving at.address x a.relocs).less
      by_test true t = sym (ap (λ (b : Balance). b.more - b.less) (change_there moving a.relocs at.address x (leb-true at.address x t)))
      by_test false t = sym (ap (λ (b : Balance). b.more - b.less) (change_before moving a.relocs at.address x (leb-false at.address x t)))

sum_of_parts : {A : Type 0} (f g h : A → ℕ) → ((x : A) → f x ≡ g x - h x) → ((x : A) → h x ≤ g x) → (xs : List A) → sum_by f xs + sum_by h xs ≡ sum_by g xs
sum_of_parts f g h is low [] = refl
sum_of_parts f g h is low (x ∷ xs) =
    let a = sum_by-cons f x xs in
    let b = sum_by-cons g x xs in
    let c = sum_by-cons h x xs in
    let own = is x in
    let below = low x in
    let rest = sum_of_parts f g h is low xs in
    omega (arith, a, b, c, own, below, rest)

pub times_same : (l : Linked) (p : Placement) (m : Changes) → not_relocatable l p ≡ None → AreChanges (link_of l) p m → (x : ℕ) → times_in m x ≡ shifts_at (link_of l) p x
times_same l p m moves are x =
    let g = are x in
    let more = g.more in
    let less = g.less in
    let areas = sum_of_parts (area_shifts (link_of l) p x) (λ at. (area_change (link_of l) p x at).more) (λ at. (area_change (link_of l) p x at).less)
    (λ at. area_shifted l p moves x at (area_of (objects_in l.objects) at.area)) (λ at. area_kept l p moves x at (area_of (objects_in l.objects) at.area) refl) p.areas in
    omega (arith, more, less, areas)

-- at each offset in the image
pub offsets_same : (l : Linked) (p : Placement) (m : Changes) (base : ℕ) → base ≡ image_base p → not_relocatable l p ≡ None → AreChanges (link_of l) p m
    → (λ (at : ℕ). times_in m (base + at)) ≡ shifts_of (link_of l) p
offsets_same l p m base is moves are = λ i at. (ap (λ z. times_in m (z + at)) is ∙ times_same l p m moves are (image_base p + at)) i
