-- Areas that are assigned by name are the areas of those names.
use Rattle.std.proofs.Common.{◌≡◌, ℕ, zero, suc, ◌+◌, Bool, true, false, ◌==◌, if◌then◌else◌, List, [], ◌∷◌, length, map, refl, sym, ap, subst, ◌∙◌, arith, Option, Some, None, Result, Ok, Err}
use Rattle.std.specs.Prelude.{slice_get, IfOk}
use Rattle.std.specs.List.{cons_option, filter_map, AllByRecursion}
use Rattle.base_lemmas.proofs.BaseLemmas.{all_append}
use Rattle.sdt_fault.specs.declared.answer.Fault.{Fault}
use Rattle.chunk_file.specs.Reading.{Gives}
use Rattle.sdt_fault.specs.declared.refusal.Refusal.{Refusal}
use Rattle.aof_object.specs.declared.records.Area.{Area}
use Rattle.aof_object.specs.declared.records.Object.{Object}
use Rattle.link_model.specs.declared.placing.Assigned.{Assigned}
use Rattle.link_model.specs.declared.selection.Named.{Named}
use Rattle.link_model.specs.Options.{refused_or}
use Rattle.place_model.specs.declared.scatter.Kind.{Kind}
use Rattle.place_model.specs.Items.{Item}
use Rattle.place_model.specs.Assignment.{Offer, Found, Nowhere, Within, Unclear, Kept, found, best, kept_by, may_precede, put_in, in_order, refused, areas_of, lists_from, offers_of, described_regions, assignment_refusal, AreAssigned}
use Rattle.link_items.specs.LinkedItems.{item_at, item_of, items_of, items_from, items_in, name_of}
use Rattle.link_assign.specs.Keeping.{report_name}
use Rattle.link_assign.specs.Assigning.{assignment_of, named}

abbrev IsKnown : List (Named Object) → Item → Type 0
IsKnown os i = item_at os (name_of i) ≡ Some i

area_known : (os : List (Named Object)) (o : Named Object) (i j : ℕ) (a : Area) → slice_get os i ≡ Some o → slice_get o.value.areas j ≡ Some a → IsKnown os (item_of i o.«module» j a)
area_known os o i j a one at = rw one (rw at refl)

areas_known : (os : List (Named Object)) (o : Named Object) (i : ℕ) → slice_get os i ≡ Some o → (j : ℕ) (areas : List Area) → ((k : ℕ) → slice_get o.value.areas (j + k) ≡ slice_get areas k)
    → AllByRecursion (IsKnown os) (items_of i o.«module» j areas)
areas_known os o i one j [] h = tt
areas_known os o i one j (a ∷ areas) h = (
  area_known os o i j a one (let e : j ≡ j + 0 = omega arith in ap (slice_get o.value.areas) e ∙ h 0),
  areas_known os o i one (suc j) areas (λ k. let e : suc j + k ≡ j + suc k = omega arith in ap (slice_get o.value.areas) e ∙ h (suc k)),
)

objects_known : (os : List (Named Object)) (i : ℕ) (rest : List (Named Object)) → ((k : ℕ) → slice_get os (i + k) ≡ slice_get rest k) → AllByRecursion (IsKnown os) (items_from i rest)
objects_known os i [] h = tt
objects_known os i (o ∷ rest) h =
    all_append (IsKnown os) (items_of i o.«module» 0 o.value.areas) (items_from (suc i) rest)
    (areas_known os o i (let e : i ≡ i + 0 = omega arith in ap (slice_get os) e ∙ h 0) 0 o.value.areas (λ k. let e : 0 + k ≡ k = omega arith in ap (slice_get o.value.areas) e))
    (objects_known os (suc i) rest (λ k. let e : suc i + k ≡ i + suc k = omega arith in ap (slice_get os) e ∙ h (suc k)))

all_known : (os : List (Named Object)) → AllByRecursion (IsKnown os) (items_in os)
all_known os = objects_known os 0 os (λ k. let e : 0 + k ≡ k = omega arith in ap (slice_get os) e)

-- ---- the areas of a region are among them

module _ (P : Item → Type 0) where
  abbrev Keeps : Kept → Type 0
  Keeps k = P k.item

  kept_item : (region : ℕ) (i : Item) (f : Found) (k : Kept) → P i → kept_by region i f ≡ Some k → Keeps k
  kept_item region i Nowhere k h e = absurd cc
  kept_item region i (Within o) k h e = go (o.region == region) e
    where
      go : (b : Bool) → (if b then Some (record { item = i; edge = o.selection.edge }) else None) ≡ Some k → Keeps k
      go true s = let same : i ≡ k.item = ap (λ (l : Kept). l.item) (let is : record { item = i; edge = o.selection.edge } ≡ k = cc in is) in subst P same h
      go false s = absurd cc
  kept_item region i (Unclear o p) k h e = absurd cc

  all_more : (o : Option Kept) (rest : List Kept) → ((k : Kept) → o ≡ Some k → Keeps k) → AllByRecursion Keeps rest → AllByRecursion Keeps (cons_option o rest)
  all_more None rest h all = all
  all_more (Some k) rest h all = (h k refl, all)

  all_kept : (offers : List Offer) (region : ℕ) (items : List Item) → AllByRecursion P items → AllByRecursion Keeps (filter_map (λ i. kept_by region i (found (best offers i))) items)
  all_kept offers region [] all = tt
  all_kept offers region (i ∷ items) all =
      all_more (kept_by region i (found (best offers i))) (filter_map (λ j. kept_by region j (found (best offers j))) items)
      (λ k e. kept_item region i (found (best offers i)) k all.0 e) (all_kept offers region items all.1)

  all_put : (k : Kept) (ks : List Kept) → Keeps k → AllByRecursion Keeps ks → AllByRecursion Keeps (put_in k ks)
  all_put k [] h all = (h, tt)
  all_put k (l ∷ ls) h all = go (may_precede k l) (all_put k ls h all.1)
    where
      go : (b : Bool) → AllByRecursion Keeps (put_in k ls) → AllByRecursion Keeps (if b then k ∷ l ∷ ls else l ∷ put_in k ls)
      go true rest = (h, all)
      go false rest = (all.0, rest)

  all_ordered : (ks : List Kept) → AllByRecursion Keeps ks → AllByRecursion Keeps (in_order ks)
  all_ordered [] all = tt
  all_ordered (k ∷ ks) all = all_put k (in_order ks) all.0 (all_ordered ks all.1)

kept_back : (os : List (Named Object)) (ks : List Kept) → AllByRecursion (Keeps (IsKnown os)) ks → filter_map (item_at os) (map name_of (map (λ k. k.item) ks)) ≡ map (λ k. k.item) ks
kept_back os [] all = refl
kept_back os (k ∷ ks) all = let one = all.0 in let rest = kept_back os ks all.1 in rw one (ap (λ l. k.item ∷ l) rest)

lists_back : (os : List (Named Object)) (offers : List Offer) (k n : ℕ) → map (filter_map (item_at os)) (named (lists_from offers (items_in os) k n)) ≡ lists_from offers (items_in os) k n
lists_back os offers k zero = refl
lists_back os offers k (suc n) =
    let first = kept_back os (in_order (filter_map (λ i. kept_by k i (found (best offers i))) (items_in os)))
    (all_ordered (IsKnown os) _ (all_kept (IsKnown os) offers k (items_in os) (all_known os))) in
    let rest = lists_back os offers (suc k) n in
    ap (λ l. l ∷ map (filter_map (item_at os)) (named (lists_from offers (items_in os) (suc k) n))) first ∙ ap (λ l. areas_of offers (items_in os) k ∷ l) rest

-- ---- names of objects decide nothing

first_of : (o : Option Refusal) (rest : List Refusal) → slice_get (cons_option o rest) 0 ≡ None → (o ≡ None) × (slice_get rest 0 ≡ None)
first_of None rest h = (refl, h)
first_of (Some r) rest h = absurd cc

none_before : (o : Option Refusal) (rest : List Refusal) → o ≡ None → slice_get rest 0 ≡ None → slice_get (cons_option o rest) 0 ≡ None
none_before o rest e h = rw e h

unrefused : (name other : List ℕ) (i : Item) (f : Found) → refused name i f ≡ None → refused other i f ≡ None
unrefused name other i Nowhere h = absurd cc
unrefused name other i (Within o) h = refl
unrefused name other i (Unclear o p) h = absurd cc

none_refused : (name other : ℕ → List ℕ) (offers : List Offer) (items : List Item) → assignment_refusal name offers items ≡ None → assignment_refusal other offers items ≡ None
none_refused name other offers [] h = refl
none_refused name other offers (i ∷ items) h =
    let parts = first_of (refused (name i.object) i (found (best offers i))) _ h in
    none_before (refused (other i.object) i (found (best offers i))) _ (unrefused (name i.object) (other i.object) i (found (best offers i)) parts.0) (none_refused name other offers items parts.1)

-- ---- what assignment gives

unless_refused : {A : Type 0} (r : Option Refusal) (x y : A) → refused_or r x ≡ Ok y → (r ≡ None) × (x ≡ y)
unless_refused None x y h = (refl, cc)
unless_refused (Some r) x y h = absurd cc

are_assigned : (k : Kind) (os : List (Named Object)) (a : Assigned) → assignment_of k os ≡ Ok a → AreAssigned k (items_in os) (map (filter_map (item_at os)) a.regions)
are_assigned k os a h =
    let parts = unless_refused (assignment_refusal (report_name os) (offers_of k) (items_in os)) _ a h in
    record {
      all = λ name. none_refused (report_name os) name (offers_of k) (items_in os) parts.0;
      each = ap (λ (b : Assigned). map (filter_map (item_at os)) b.regions) (sym parts.1) ∙ lists_back os (offers_of k) 0 (length (described_regions k));
    }

pub given_assigned : (k : Kind) (os : List (Named Object)) (r : Result Assigned Fault) → Gives r (assignment_of k os) → IfOk r (λ a. AreAssigned k (items_in os) (map (filter_map (item_at os)) a.regions))
given_assigned k os (Ok a) h = are_assigned k os a h
given_assigned k os (Err f) h = tt
