-- Each area of a linked object is in the list of one region, and what is in the lists are areas of linked objects.
use Rattle.std.proofs.Common.{◌≡◌, ◌⊎◌, inl, inr, ℕ, zero, suc, ◌+◌, ◌<◌, Bool, true, false, if◌then◌else◌, ◌==◌, List, [], ◌∷◌, length, map, refl, sym, ap, subst, ◌∙◌, arith, eq-eqb, Option, Some, None}
use Rattle.std.specs.Prelude.{slice_get}
use Rattle.std.specs.List.{filter_map, AllByRecursion}
use Rattle.std.specs.Option.{option_map}
use Rattle.base_lemmas.proofs.BaseLemmas.{all_append, all_weaker, same, came_through}
use Rattle.aof_object.specs.declared.records.Area.{Area}
use Rattle.aof_object.specs.declared.records.Object.{Object}
use Rattle.aof_object.specs.Spelling.{area_names}
use Rattle.aof_object.specs.Validity.{IsArea, IsValid, head_of}
use Rattle.link_items.specs.LinkedItems.{item_of, items_of, items_from, items_in, item_in, item_at, name_of, contents_of}
use Rattle.link_model.specs.declared.placing.AreaName.{AreaName}
use Rattle.link_model.specs.declared.placing.Veneer.{Veneer}
use Rattle.link_model.specs.declared.selection.Named.{Named}
use Rattle.link_model.specs.Veneers.{IsIn}
use Rattle.place_model.specs.declared.scatter.Kind.{Kind}
use Rattle.place_model.specs.declared.scatter.ScatterRegion.{ScatterRegion}
use Rattle.place_model.specs.Assignment.{described_regions, Offer, offers_from, offers_of, best, Found, Nowhere, Within, Unclear, found, refused, Kept, may_precede, put_in, in_order, kept_by, areas_of, lists_from, AreAssigned}
use Rattle.place_model.specs.Items.{Item}
use Rattle.place_model.specs.Laws.{OfFound, IsOnlyBest, IsWholeItem}
use Rattle.place_model.proofs.AssignmentLemmas.{assignment_law}
use Rattle.place_model.proofs.ListLemmas.{all_at, all_filter_map, all_indexed, all_map, none_given}
use Rattle.link_laws.proofs.ListLemmas.{in_later, in_front, in_back, in_map, in_filter_map, each_at}

-- ---- each area is an item

items_there : (object : ℕ) (home : List ℕ) (k : ℕ) (areas : List Area) (n : ℕ) (a : Area) → slice_get areas n ≡ Some a → (m : ℕ) → m ≡ k + n
    → IsIn (items_of object home k areas) (item_of object home m a)
items_there object home k [] n a h m e = absurd cc
items_there object home k (x ∷ areas) zero a h m e =
    let there : x ≡ a = cc in
    let own : k ≡ m = omega (arith, e) in
    subst (λ (z : Area). IsIn (items_of object home k (x ∷ areas)) (item_of object home m z)) there
    (subst (λ (j : ℕ). IsIn (items_of object home k (x ∷ areas)) (item_of object home j x)) own (0, refl))
items_there object home k (x ∷ areas) (suc n) a h m e =
    in_later (item_of object home k x) (items_of object home (suc k) areas) (item_of object home m a) (items_there object home (suc k) areas n a h m (omega (arith, e)))

from_there : (i : ℕ) (os : List (Named Object)) (n : ℕ) (o : Named Object) (area : ℕ) (a : Area) → slice_get os n ≡ Some o → slice_get o.value.areas area ≡ Some a
    → (m : ℕ) → m ≡ i + n → IsIn (items_from i os) (item_of m o.«module» area a)
from_there i [] n o area a h there m e = absurd cc
from_there i (x ∷ os) zero o area a h there m e =
    let it : x ≡ o = cc in
    let own : i ≡ m = omega (arith, e) in
    let front : IsIn (items_of i o.«module» 0 o.value.areas) (item_of i o.«module» area a) = items_there i o.«module» 0 o.value.areas area a there area (omega arith) in
    let whole : IsIn (items_from i (o ∷ os)) (item_of i o.«module» area a) = in_front (items_of i o.«module» 0 o.value.areas) (items_from (suc i) os) (item_of i o.«module» area a) front in
    subst (λ (z : Named Object). IsIn (items_from i (z ∷ os)) (item_of m o.«module» area a)) (sym it)
    (subst (λ (j : ℕ). IsIn (items_from i (o ∷ os)) (item_of j o.«module» area a)) own whole)
from_there i (x ∷ os) (suc n) o area a h there m e =
    in_back (items_of i x.«module» 0 x.value.areas) (items_from (suc i) os) (item_of m o.«module» area a) (from_there (suc i) os n o area a h there m (omega (arith, e)))

pub item_there : (os : List (Named Object)) (own : ℕ) (o : Named Object) (area : ℕ) (a : Area) → slice_get os own ≡ Some o → slice_get o.value.areas area ≡ Some a
    → IsIn (items_in os) (item_of own o.«module» area a)
item_there os own o area a h there = from_there 0 os own o area a h there own (omega arith)

-- ---- which a region takes

is_within : (name : List ℕ) (i : Item) (f : Found) → refused name i f ≡ None → (o : Offer) × (f ≡ Within o)
is_within name i Nowhere h = absurd cc
is_within name i (Within o) h = (o, refl)
is_within name i (Unclear o p) h = absurd cc

offers_below : (n : ℕ) (rs : List ScatterRegion) → AllByRecursion (λ o. o.region < n + length rs) (offers_from n rs)
offers_below n [] = tt
offers_below n (r ∷ rs) =
    all_append (λ o. o.region < n + length (r ∷ rs)) (map (λ s. record { region = n; selection = s }) r.selections) (offers_from (suc n) rs)
    (all_map (λ o. o.region < n + length (r ∷ rs)) (λ s. record { region = n; selection = s }) r.selections (all_indexed (λ s. n < n + length (r ∷ rs)) r.selections (λ i s h. omega arith)))
    (all_weaker (λ o. o.region < suc n + length rs) (λ o. o.region < n + length (r ∷ rs)) (λ o h. omega (arith, h)) (offers_from (suc n) rs) (offers_below (suc n) rs))

put_keeps : (k x : Kept) (ls : List Kept) → (x ≡ k) ⊎ IsIn ls x → IsIn (put_in k ls) x
put_keeps k x [] (inl e) = (0, ap Some (sym e))
put_keeps k x [] (inr h) = absurd cc
put_keeps k x (l ∷ ls) h = go (may_precede k l) h (put_keeps k x ls)
  where
    go : (b : Bool) → (x ≡ k) ⊎ IsIn (l ∷ ls) x → ((x ≡ k) ⊎ IsIn ls x → IsIn (put_in k ls) x) → IsIn (if b then k ∷ l ∷ ls else l ∷ put_in k ls) x
    go true (inl e) rest = (0, ap Some (sym e))
    go true (inr at) rest = in_later k (l ∷ ls) x at
    go false (inl e) rest = in_later l (put_in k ls) x (rest (inl e))
    go false (inr (zero, e)) rest = (0, e)
    go false (inr (suc i, e)) rest = in_later l (put_in k ls) x (rest (inr (i, e)))

order_keeps : (x : Kept) (ks : List Kept) → IsIn ks x → IsIn (in_order ks) x
order_keeps x [] h = absurd cc
order_keeps x (k ∷ ks) (zero, e) = put_keeps k x (in_order ks) (inl (sym (same k x e)))
order_keeps x (k ∷ ks) (suc i, e) = put_keeps k x (in_order ks) (inr (order_keeps x ks (i, e)))

list_there : (offers : List Offer) (items : List Item) (k n j : ℕ) → j < n → (m : ℕ) → m ≡ k + j → slice_get (lists_from offers items k n) j ≡ Some (areas_of offers items m)
list_there offers items k zero j lt m e = absurd (omega arith)
list_there offers items k (suc n) zero lt m e = let own : k ≡ m = omega (arith, e) in ap (λ (i : ℕ). Some (areas_of offers items i)) own
list_there offers items k (suc n) (suc j) lt m e = list_there offers items (suc k) n j (omega arith) m (omega (arith, e))

kept_there : (offers : List Offer) (items : List Item) (i : Item) (o : Offer) → found (best offers i) ≡ Within o → IsIn items i → IsIn (areas_of offers items o.region) i
kept_there offers items i o within there =
    let kept : Kept = record { item = i; edge = o.selection.edge } in
    let own : kept_by o.region i (Within o) ≡ Some kept = let t : (o.region == o.region) ≡ true = eq-eqb o.region o.region refl in rw t refl in
    let by : kept_by o.region i (found (best offers i)) ≡ Some kept = ap (kept_by o.region i) within ∙ own in
    let taken : List Kept = filter_map (λ j. kept_by o.region j (found (best offers j))) items in
    in_map (λ k. k.item) (in_order taken) kept (order_keeps kept taken (in_filter_map (λ j. kept_by o.region j (found (best offers j))) items i kept by there))

-- a region of the description whose list has the item
pub record IsTaken (k : Kind) (lists : List (List Item)) (i : Item) : Type 0 where
  pub region : ℕ
  pub items : List Item
  pub below : region < length (described_regions k)
  pub list : slice_get lists region ≡ Some items
  pub there : IsIn items i

pub taken : (k : Kind) (items : List Item) (lists : List (List Item)) → AreAssigned k items lists → (i : Item) → IsIn items i → IsTaken k lists i
taken k items lists h i there =
    let offers = offers_of k in
    let none : AllByRecursion (λ j. refused [] j (found (best offers j)) ≡ None) items = none_given (λ j. refused [] j (found (best offers j))) items (h.all (λ n. [])) in
    let (o, within) = is_within [] i (found (best offers i)) (all_at (λ j. refused [] j (found (best offers j)) ≡ None) items there.0 i none there.1) in
    let only : IsOnlyBest offers i o = subst (OfFound offers i) within (assignment_law offers i) in
    let below : o.region < 0 + length (described_regions k) = all_at (λ p. p.region < 0 + length (described_regions k)) offers only.place o (offers_below 0 (described_regions k)) only.best.at in
    record {
      region = o.region;
      items = areas_of offers items o.region;
      below = omega (arith, below);
      list = ap (λ (ls : List (List Item)). slice_get ls o.region) h.each ∙ list_there offers items 0 (length (described_regions k)) o.region (omega (arith, below)) o.region (omega arith);
      there = kept_there offers items i o within there;
    }

-- ---- what is in the lists

-- the item is the area that its numbers name
abbrev pub IsOwn : List (Named Object) → Item → Type 0
IsOwn os i = item_at os (name_of i) ≡ Some i

named_own : (os : List (Named Object)) (a : AreaName) (i : Item) → item_at os a ≡ Some i → IsOwn os i
named_own os a i h =
    let (o, at, own) = came_through (item_in a) (slice_get os a.object) i h in
    go o (slice_get o.value.areas a.area) own
  where
    go : (o : Named Object) (x : Option Area) → option_map (item_of a.object o.«module» a.area) x ≡ Some i → IsOwn os i
    go o None e = absurd cc
    go o (Some x) e =
        let is : item_of a.object o.«module» a.area x ≡ i = same (item_of a.object o.«module» a.area x) i e in
        subst (λ (n : AreaName). item_at os n ≡ Some i) (ap name_of is) h

pub items_own : (os : List (Named Object)) (regions : List (List AreaName)) (veneers : List Veneer) → AllByRecursion (λ areas. AllByRecursion (IsOwn os) areas) (contents_of os regions veneers).areas
items_own os regions veneers =
    all_map (λ areas. AllByRecursion (IsOwn os) areas) (filter_map (item_at os)) regions
    (all_indexed (λ r. AllByRecursion (IsOwn os) (filter_map (item_at os) r)) regions (λ n r h. all_filter_map (IsOwn os) (item_at os) r (named_own os)))

pub area_valid : (o : Object) (area : ℕ) (a : Area) → IsValid o → slice_get o.areas area ≡ Some a → (names : List (List ℕ)) × IsArea names (head_of a)
area_valid o area a valid h = let (front, is) = each_at (λ before x. IsArea (area_names before) (head_of x)) [] o.areas area a valid.areas h in (area_names front, is)

pub own_whole : (os : List (Named Object)) → AllByRecursion (λ o. IsValid o.value) os → (i : Item) → IsOwn os i → IsWholeItem i
own_whole os valid i own =
    let (o, at, there) = came_through (item_in (name_of i)) (slice_get os i.object) i own in
    go o (slice_get o.value.areas i.area) refl (all_at (λ q. IsValid q.value) os i.object o valid at) there
  where
    go : (o : Named Object) (x : Option Area) → slice_get o.value.areas i.area ≡ x → IsValid o.value → option_map (item_of i.object o.«module» i.area) x ≡ Some i → IsWholeItem i
    go o None e v h = absurd cc
    go o (Some x) e v h =
        let is : item_of i.object o.«module» i.area x ≡ i = same (item_of i.object o.«module» i.area x) i h in
        let (names, area) = area_valid o.value i.area x v e in
        subst IsWholeItem is (record { size = area.whole_words; alignment = area.alignment_least })
