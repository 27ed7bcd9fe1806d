-- The first that is told, one item after the other.
use Rattle.std.proofs.Common.{◌≡◌, ℕ, suc, ◌+◌, ◌<◌, Bool, true, false, not, List, ◌∷◌, ◌++◌, length, drop, get_or, Option, Some, None, refl, sym, ap, ◌∙◌, arith}
use Rattle.std.specs.Prelude.{◌||◌, slice_get}
use Rattle.std.specs.List.{filter_map}
use Rattle.std.proofs.lemmas.List.{drop_more}
use Rattle.sdt_fault.specs.declared.refusal.Refusal.{Refusal}
use Rattle.aof_object.specs.declared.records.Area.{Area}
use Rattle.aof_object.specs.declared.records.Object.{Object}
use Rattle.link_values.specs.Shifts.{unmovable, unmovable_from, unmovable_in}
use Rattle.link_values.proofs.FirstLemmas.{joined_met, joined_passed}
use Rattle.link_model.specs.declared.placing.Placement.{Placement}
use Rattle.link_model.specs.declared.selection.Named.{Named}
use Rattle.link_model.specs.Members.{Link}

pub by_symbol : (b moves result : Bool) → b ≡ true → result ≡ moves → result ≡ (not b || moves)
by_symbol true moves result e h = h
by_symbol false moves result e h = absurd (cc)

none_left : (o : Option Refusal) → ((r : Refusal) → o ≡ Some r → ⊥) → o ≡ None
none_left None never = refl
none_left (Some r) never = absurd (never r refl)

pub item : {A : Type 0} (xs : List A) (k : ℕ) (x : A) → k < length xs → x ≡ get_or xs k x → drop k xs ≡ x ∷ drop (k + 1) xs
item xs k x h e = drop_more xs k x h ∙ ap (λ y. y ∷ drop (k + 1) xs) (sym e)

next : (k : ℕ) → suc k ≡ k + 1
next k = omega arith

-- ---- of the areas of an object

module _ (l : Link) (p : Placement) (o : Named Object) (object k : ℕ) (areas : List Area) (a : Area) (h : k < length areas) (e : a ≡ get_or areas k a) where
  abbrev own : List Refusal
  own = filter_map (unmovable l p o object k a) a.relocs

  abbrev rest : List Refusal
  rest = unmovable_in l p o object (k + 1) (drop (k + 1) areas)

  split : unmovable_in l p o object k (drop k areas) ≡ own ++ rest
  split = ap (unmovable_in l p o object k) (item areas k a h e) ∙ ap (λ n. own ++ unmovable_in l p o object n (drop (k + 1) areas)) (next k)

  pub area_met : (found : Option Refusal) (r : Refusal) → found ≡ slice_get own 0 → found ≡ Some r → slice_get (unmovable_in l p o object k (drop k areas)) 0 ≡ Some r
  area_met found r is some = ap (λ xs. slice_get xs 0) split ∙ joined_met own rest r (sym is ∙ some)

  pub area_passed : (found : Option Refusal) → found ≡ slice_get own 0 → ((r : Refusal) → found ≡ Some r → ⊥) → slice_get (unmovable_in l p o object k (drop k areas)) 0 ≡ slice_get rest 0
  area_passed found is never = ap (λ xs. slice_get xs 0) split ∙ joined_passed own rest (sym is ∙ none_left found never)

-- ---- of objects

module _ (l : Link) (p : Placement) (i : ℕ) (os : List (Named Object)) (o : Named Object) (h : i < length os) (e : o ≡ get_or os i o) where
  abbrev its : List Refusal
  its = unmovable_in l p o i 0 o.value.areas

  abbrev others : List Refusal
  others = unmovable_from l p (i + 1) (drop (i + 1) os)

  divided : unmovable_from l p i (drop i os) ≡ its ++ others
  divided = ap (unmovable_from l p i) (item os i o h e) ∙ ap (λ n. its ++ unmovable_from l p n (drop (i + 1) os)) (next i)

  to_u32 : (n : ℕ) → n ≡ i → slice_get (unmovable_in l p o n 0 o.value.areas) 0 ≡ slice_get its 0
  to_u32 n e = ap (λ m. slice_get (unmovable_in l p o m 0 o.value.areas) 0) e

  pub object_met : (n : ℕ) → n ≡ i → (found : Option Refusal) (r : Refusal) → found ≡ slice_get (unmovable_in l p o n 0 o.value.areas) 0 → found ≡ Some r → slice_get (unmovable_from l p i (drop i os)) 0 ≡ Some r
  object_met n of found r is some = ap (λ xs. slice_get xs 0) divided ∙ joined_met its others r (sym (is ∙ to_u32 n of) ∙ some)

  pub object_passed : (n : ℕ) → n ≡ i → (found : Option Refusal) → found ≡ slice_get (unmovable_in l p o n 0 o.value.areas) 0 → ((r : Refusal) → found ≡ Some r → ⊥) → slice_get (unmovable_from l p i (drop i os)) 0 ≡ slice_get others 0
  object_passed n of found is never = ap (λ xs. slice_get xs 0) divided ∙ joined_passed its others (sym (is ∙ to_u32 n of) ∙ none_left found never)
