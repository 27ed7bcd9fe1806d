-- Areas that are assigned to regions by their names are the areas of those names.
use Rattle.std.proofs.Common.{◌≡◌, ℕ, zero, suc, ◌+◌, Bool, true, false, ◌==◌, if◌then◌else◌, List, [], ◌∷◌, length, map, refl, ap, subst, ◌∙◌, arith, eqb-true, Option, Some, None, Ok}
use Rattle.std.specs.Prelude.{slice_get}
use Rattle.std.specs.List.{cons_option, filter_map, AllByRecursion}
use Rattle.base_lemmas.proofs.BaseLemmas.{all_append, same}
use Rattle.aof_object.specs.declared.records.Area.{Area}
use Rattle.aof_object.specs.declared.records.Object.{Object}
use Rattle.place_model.specs.declared.scatter.Kind.{Kind}
use Rattle.place_model.specs.Assignment.{described_regions, Offer, offers_of, best, Found, Nowhere, Within, Unclear, found, refused, assignment_refusal, Kept, may_precede, put_in, in_order, kept_by, areas_of, lists_from, AreAssigned}
use Rattle.place_model.specs.Items.{Item}
use Rattle.place_model.proofs.ListLemmas.{all_map, none_given}
use Rattle.link_model.specs.declared.placing.Assigned.{Assigned}
use Rattle.link_model.specs.declared.selection.Named.{Named}
use Rattle.link_items.specs.LinkedItems.{items_of, items_from, items_in, item_at, name_of}
use Rattle.link_assign.specs.Assigning.{assignment_of, named}
use Rattle.link_assign.specs.Keeping.{report_name}
use Rattle.link_laws.proofs.ItemLemmas.{IsOwn}
use Rattle.link_laws.proofs.Made.AnswerLemmas.{not_refused}

-- ---- each area is the one of its name

areas_own : (os : List (Named Object)) (o : Named Object) (i : ℕ) → slice_get os i ≡ Some o → (j : ℕ) (areas : List Area) → ((k : ℕ) → slice_get o.value.areas (j + k) ≡ slice_get areas k)
    → AllByRecursion (IsOwn os) (items_of i o.«module» j areas)
areas_own os o i here j [] h = tt
areas_own os o i here j (a ∷ areas) h =
    let first : j ≡ j + 0 = omega arith in
    let at : slice_get o.value.areas j ≡ Some a = ap (slice_get o.value.areas) first ∙ h 0 in
    (rw here (rw at refl), areas_own os o i here (suc j) areas (λ k. let next : suc j + k ≡ j + suc k = omega arith in ap (slice_get o.value.areas) next ∙ h (suc k)))

objects_own : (os : List (Named Object)) (i : ℕ) (rest : List (Named Object)) → ((k : ℕ) → slice_get os (i + k) ≡ slice_get rest k) → AllByRecursion (IsOwn os) (items_from i rest)
objects_own os i [] h = tt
objects_own os i (o ∷ rest) h =
    let first : i ≡ i + 0 = omega arith in
    all_append (IsOwn os) (items_of i o.«module» 0 o.value.areas) (items_from (suc i) rest)
    (areas_own os o i (ap (slice_get os) first ∙ h 0) 0 o.value.areas (λ k. let e : 0 + k ≡ k = omega arith in ap (slice_get o.value.areas) e))
    (objects_own os (suc i) rest (λ k. let next : suc i + k ≡ i + suc k = omega arith in ap (slice_get os) next ∙ h (suc k)))

all_own : (os : List (Named Object)) → AllByRecursion (IsOwn os) (items_in os)
all_own os = objects_own os 0 os (λ k. let e : 0 + k ≡ k = omega arith in ap (slice_get os) e)

-- ---- what is in a region's list

-- the number of the region that takes it
abbrev pub region_of : Found → Option ℕ
region_of Nowhere = None
region_of (Within o) = Some o.region
region_of (Unclear o p) = None

all_put : (P : Kept → Type 0) (k : Kept) (ls : List Kept) → P k → AllByRecursion P ls → AllByRecursion P (put_in k ls)
all_put P k [] h all = (h, tt)
all_put P k (l ∷ ls) h all = go (may_precede k l) (all_put P k ls h all.1)
  where
    go : (b : Bool) → AllByRecursion P (put_in k ls) → AllByRecursion P (if b then k ∷ l ∷ ls else l ∷ put_in k ls)
    go true rest = (h, all)
    go false rest = (all.0, rest)

all_in_order : (P : Kept → Type 0) (ks : List Kept) → AllByRecursion P ks → AllByRecursion P (in_order ks)
all_in_order P [] all = tt
all_in_order P (k ∷ ks) all = all_put P k (in_order ks) all.0 (all_in_order P ks all.1)

kept_item : (n : ℕ) (i : Item) (f : Found) (y : Kept) → kept_by n i f ≡ Some y → (i ≡ y.item) × (region_of f ≡ Some n)
kept_item n i Nowhere y h = absurd cc
kept_item n i (Unclear o p) y h = absurd cc
kept_item n i (Within o) y h = go (o.region == n) refl h
  where
    go : (b : Bool) → (o.region == n) ≡ b → (if b then Some (record { item = i; edge = o.selection.edge }) else None) ≡ Some y → (i ≡ y.item) × (Some o.region ≡ Some n)
    go true e there = (ap (λ (q : Kept). q.item) (same (record { item = i; edge = o.selection.edge }) y there), ap Some (eqb-true o.region n e))
    go false e there = absurd cc

-- an item with P, by its own region
abbrev IsTaken : (Item → Type 0) → List Offer → ℕ → Item → Type 0
IsTaken P offers n i = P i × (region_of (found (best offers i)) ≡ Some n)

all_kept : (P : Item → Type 0) (offers : List Offer) (n : ℕ) (items : List Item) → AllByRecursion P items
    → AllByRecursion (λ k. IsTaken P offers n k.item) (filter_map (λ i. kept_by n i (found (best offers i))) items)
all_kept P offers n [] all = tt
all_kept P offers n (i ∷ items) all = go (kept_by n i (found (best offers i))) (λ y e. kept_item n i (found (best offers i)) y e) (all_kept P offers n items all.1)
  where
    taken : List Kept
    taken = filter_map (λ j. kept_by n j (found (best offers j))) items

    go : (o : Option Kept) → ((y : Kept) → o ≡ Some y → (i ≡ y.item) × (region_of (found (best offers i)) ≡ Some n)) → AllByRecursion (λ k. IsTaken P offers n k.item) taken
        → AllByRecursion (λ k. IsTaken P offers n k.item) (cons_option o taken)
    go None is rest = rest
    go (Some y) is rest = let (e, by) = is y refl in (subst (IsTaken P offers n) e (all.0, by), rest)

pub all_taken : (P : Item → Type 0) (offers : List Offer) (n : ℕ) (items : List Item) → AllByRecursion P items → AllByRecursion (IsTaken P offers n) (areas_of offers items n)
all_taken P offers n items all =
    let taken : List Kept = filter_map (λ i. kept_by n i (found (best offers i))) items in
    all_map (IsTaken P offers n) (λ k. k.item) (in_order taken) (all_in_order (λ k. IsTaken P offers n k.item) taken (all_kept P offers n items all))

-- ---- by their names

by_name : (os : List (Named Object)) (offers : List Offer) (n : ℕ) (items : List Item) → AllByRecursion (IsTaken (IsOwn os) offers n) items → filter_map (item_at os) (map name_of items) ≡ items
by_name os offers n [] all = refl
by_name os offers n (i ∷ items) all = let own = all.0.0 in let rest = by_name os offers n items all.1 in rw own (ap (λ (is : List Item). i ∷ is) rest)

lists_back : (os : List (Named Object)) (offers : List Offer) (k n : ℕ) → map (filter_map (item_at os)) (named (lists_from offers (items_in os) k n)) ≡ lists_from offers (items_in os) k n
lists_back os offers k zero = refl
lists_back os offers k (suc n) =
    let first = by_name os offers k (areas_of offers (items_in os) k) (all_taken (IsOwn os) offers k (items_in os) (all_own os)) in
    let rest = lists_back os offers (suc k) n in
    cc

-- ---- names of objects decide nothing

unrefused : (name other : List ℕ) (i : Item) (f : Found) → refused name i f ≡ None → refused other i f ≡ None
unrefused name other i Nowhere h = absurd cc
unrefused name other i (Within o) h = refl
unrefused name other i (Unclear o p) h = absurd cc

none_refused : (name other : ℕ → List ℕ) (offers : List Offer) (items : List Item) → AllByRecursion (λ i. refused (name i.object) i (found (best offers i)) ≡ None) items
    → assignment_refusal other offers items ≡ None
none_refused name other offers [] all = refl
none_refused name other offers (i ∷ items) all =
    let here : refused (other i.object) i (found (best offers i)) ≡ None = unrefused (name i.object) (other i.object) i (found (best offers i)) all.0 in
    rw here (none_refused name other offers items all.1)

pub are_assigned : (k : Kind) (os : List (Named Object)) (a : Assigned) → assignment_of k os ≡ Ok a → AreAssigned k (items_in os) (map (filter_map (item_at os)) a.regions)
are_assigned k os a h =
    let (none, is) = not_refused (assignment_refusal (report_name os) (offers_of k) (items_in os)) (record { regions = named (lists_from (offers_of k) (items_in os) 0 (length (described_regions k))) }) a h in
    record {
      all = λ name. none_refused (report_name os) name (offers_of k) (items_in os) (none_given (λ i. refused (report_name os i.object) i (found (best (offers_of k) i))) (items_in os) none);
      each = ap (λ (b : Assigned). map (filter_map (item_at os)) b.regions) is ∙ lists_back os (offers_of k) 0 (length (described_regions k));
    }
