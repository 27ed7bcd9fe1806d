-- What regions keep, area by area.
use Rattle.std.proofs.Common.{◌≡◌, ℕ, zero, suc, ◌+◌, ◌-◌, ◌<◌, List, [], ◌∷◌, ◌++◌, length, drop, get_or, map, refl, sym, ap, subst, ◌∙◌, arith, Result, Option, None, Some, Ok, Err}
use Rattle.std.specs.Prelude.{slice_get}
use Rattle.std.specs.List.{cons_option, filter_map, flat_map}
use Rattle.std.proofs.Math.Seq.{drop-cons}
use Rattle.std.specs.Option.{option_to_list}
use Rattle.std.proofs.lemmas.List.{append_assoc, length-append}
use Rattle.std.proofs.lemmas.List.Elements.{filter_map-append}
use Rattle.place_model.specs.declared.scatter.ScatterLoad.{ScatterLoad}
use Rattle.place_model.specs.declared.scatter.ScatterRegion.{ScatterRegion}
use Rattle.place_model.specs.Items as placing
use Rattle.place_model.specs.Assignment.{Kept as Placed, Offer, Found, Nowhere, Within, Unclear, best, found, kept_by, refused, in_order, areas_of, lists_from, offers_from, assignment_refusal}
use Rattle.sdt_fault.specs.declared.answer.Fault.{Fault}
use Rattle.sdt_fault.specs.declared.answer.Fault.TheVariants as fault
use Rattle.sdt_fault.specs.declared.refusal.Refusal.{Refusal}
use Rattle.sdt_fault.specs.declared.refusal.Refusal.TheVariants.{Unassigned, Ambiguous}
use Rattle.chunk_file.specs.Reading.{Gives}
use Rattle.aof_object.specs.declared.records.Object.{Object}
use Rattle.link_model.specs.declared.placing.AreaName.{AreaName}
use Rattle.link_model.specs.declared.placing.Assigned.{Assigned}
use Rattle.link_model.specs.declared.selection.Named.{Named}
use Rattle.link_items.specs.LinkedItems.{items_in, name_of}
use Rattle.link_assign.specs.declared.finding.Pick.{Pick}
use Rattle.link_assign.specs.declared.finding.Finding.TheVariants as finding
use Rattle.link_assign.specs.declared.items.Item.{Item}
use Rattle.link_assign.specs.declared.keeping.Kept.{Kept}
use Rattle.link_assign.specs.Finding.{told, pick_of}
use Rattle.link_assign.specs.Shown.{kept_here, kept_in, shown_item}
use Rattle.link_assign.specs.Keeping.{report_name, AreKept, Judges}
use Rattle.link_assign.specs.Assigning.{assigned_by, lists_kept, named, names_kept}

abbrev pub kept_at : Pick → Item → Kept
kept_at p i = record { region = p.region; edge = p.edge; item = i }

pub kept_found : (region : ℕ) (f : Found) (p : Pick) (i : Item) → finding.Within p ≡ told f → kept_here region (kept_at p i) ≡ kept_by region (shown_item i) f
kept_found region Nowhere p i e = absurd cc
kept_found region (Within o) p i e = let same : p ≡ pick_of o = cc in ap (λ (q : Pick). kept_here region (kept_at q i)) same
kept_found region (Unclear o q) p i e = absurd cc

-- ---- the refusal of what is found

pub nowhere_refused : (name : List ℕ) (i : placing.Item) (f : Found) → finding.Nowhere ≡ told f → refused name i f ≡ Some (Unassigned name i.name)
nowhere_refused name i Nowhere e = refl
nowhere_refused name i (Within o) e = absurd cc
nowhere_refused name i (Unclear o p) e = absurd cc

pub unclear_refused : (name : List ℕ) (i : placing.Item) (f : Found) (first second : ℕ) → finding.Unclear first second ≡ told f → refused name i f ≡ Some (Ambiguous name i.name first second)
unclear_refused name i Nowhere first second e = absurd cc
unclear_refused name i (Within o) first second e = absurd cc
unclear_refused name i (Unclear o p) first second e = cc

pub within_refused : (name : List ℕ) (i : placing.Item) (f : Found) (p : Pick) → finding.Within p ≡ told f → refused name i f ≡ None
within_refused name i Nowhere p e = absurd cc
within_refused name i (Within o) p e = refl
within_refused name i (Unclear o q) p e = absurd cc

-- ---- area by area

next_item : {X : Type 0} (xs : List X) (n : ℕ) (x : X) → n < length xs → x ≡ get_or xs n x → drop n xs ≡ x ∷ drop (n + 1) xs
next_item xs n x lt is = let e : suc n ≡ n + 1 = omega arith in drop-cons xs n x lt ∙ ap (λ y. y ∷ drop (suc n) xs) (sym is) ∙ ap (λ k. x ∷ drop k xs) e

first_of : (o : Option Refusal) (rest : List Refusal) → o ≡ None → slice_get (cons_option o rest) 0 ≡ slice_get rest 0
first_of o rest e = rw e refl

refused_first : (f : Fault) (o : Option Refusal) (rest : List Refusal) (all : Option Refusal) → Judges {A = Unit {0}} (Err f) o → slice_get (cons_option o rest) 0 ≡ all → Judges {A = Unit {0}} (Err f) all
refused_first fault.NoMemory o rest all h e = tt
refused_first (fault.Refused r) o rest all h e = sym e ∙ rw h refl
refused_first (fault.ReadFault name) o rest all h e = h

-- an area that has its region
pub judged_more : (name : ℕ → List ℕ) (offers : List Offer) (items : List Item) (n : ℕ) (i : Item) (all : Option Refusal) → n < length items → i ≡ get_or items n i
    → refused (name i.name.object) (shown_item i) (found (best offers (shown_item i))) ≡ None → assignment_refusal name offers (map shown_item (drop n items)) ≡ all → assignment_refusal name offers (map shown_item (drop (n + 1) items)) ≡ all
judged_more name offers items n i all lt same none before =
    sym (first_of (refused (name i.name.object) (shown_item i) (found (best offers (shown_item i)))) (filter_map (λ j. refused (name j.object) j (found (best offers j))) (map shown_item (drop (n + 1) items))) none)
    ∙ sym (ap (λ js. assignment_refusal name offers (map shown_item js)) (next_item items n i lt same)) ∙ before

-- the area that is refused
pub judged_last : (f : Fault) (name : ℕ → List ℕ) (offers : List Offer) (items : List Item) (n : ℕ) (i : Item) (all : Option Refusal) → n < length items → i ≡ get_or items n i
    → Judges {A = Unit {0}} (Err f) (refused (name i.name.object) (shown_item i) (found (best offers (shown_item i)))) → assignment_refusal name offers (map shown_item (drop n items)) ≡ all → Judges {A = Unit {0}} (Err f) all
judged_last f name offers items n i all lt same h before =
    refused_first f (refused (name i.name.object) (shown_item i) (found (best offers (shown_item i)))) (filter_map (λ j. refused (name j.object) j (found (best offers j))) (map shown_item (drop (n + 1) items))) all h
    (sym (ap (λ js. assignment_refusal name offers (map shown_item js)) (next_item items n i lt same)) ∙ before)

behind : {X : Type 0} (o : Option X) (xs : List X) → option_to_list o ++ xs ≡ cons_option o xs
behind None xs = refl
behind (Some x) xs = refl

pub kept_on : {X : Type 0} (f : placing.Item → Option X) (items : List Item) (n : ℕ) (i : Item) (old new all : List X) → n < length items → i ≡ get_or items n i → new ≡ old ++ option_to_list (f (shown_item i))
    → old ++ filter_map f (map shown_item (drop n items)) ≡ all → new ++ filter_map f (map shown_item (drop (n + 1) items)) ≡ all
kept_on {X} f items n i old new all lt same more before =
    let rest : List X = filter_map f (map shown_item (drop (n + 1) items)) in
    ap (λ l. l ++ rest) more ∙ append_assoc old (option_to_list (f (shown_item i))) rest ∙ ap (λ l. old ++ l) (behind (f (shown_item i)) rest)
    ∙ ap (λ js. old ++ filter_map f (map shown_item js)) (sym (next_item items n i lt same)) ∙ before

-- ---- lists of regions

lists_step : (ks : List Kept) (k n : ℕ) → k < n → lists_kept ks k (n - k) ≡ names_kept ks k ∷ lists_kept ks (k + 1) (n - (k + 1))
lists_step ks k n h = let e : n - k ≡ suc (n - (k + 1)) = omega arith in let f : k + 1 ≡ suc k = omega arith in rw (e, f) refl

pub lists_more : (ks : List Kept) (k n : ℕ) (old new : List (List AreaName)) (here : List AreaName) (all : List (List AreaName)) → k < n → here ≡ names_kept ks k → new ≡ old ++ here ∷ []
    → old ++ lists_kept ks k (n - k) ≡ all → new ++ lists_kept ks (k + 1) (n - (k + 1)) ≡ all
lists_more ks k n old new here all h e more before =
    ap (λ l. l ++ lists_kept ks (k + 1) (n - (k + 1))) more ∙ append_assoc old (here ∷ []) (lists_kept ks (k + 1) (n - (k + 1))) ∙ ap (λ x. old ++ (x ∷ lists_kept ks (k + 1) (n - (k + 1)))) e
    ∙ ap (λ l. old ++ l) (sym (lists_step ks k n h)) ∙ before

offers_append : (k : ℕ) (rs ss : List ScatterRegion) → offers_from k (rs ++ ss) ≡ offers_from k rs ++ offers_from (k + length rs) ss
offers_append k [] ss = let e : k ≡ k + 0 = omega arith in ap (λ n. offers_from n ss) e
offers_append k (r ∷ rs) ss =
    let e : suc k + length rs ≡ k + suc (length rs) = omega arith in
    let rest = offers_append (suc k) rs ss in
    grind (arith, append_assoc {A = Offer})

abbrev pub regions_in : List ScatterLoad → List ScatterRegion
regions_in ls = flat_map (λ load. load.regions) ls

-- a load region's regions behind those of the load regions before it
pub offers_more : (k next : ℕ) (l : ScatterLoad) (rest : List ScatterLoad) (old new all : List Offer) → next ≡ k + length l.regions → new ≡ old ++ offers_from k l.regions
    → old ++ offers_from k (regions_in (l ∷ rest)) ≡ all → new ++ offers_from next (regions_in rest) ≡ all
offers_more k next l rest old new all e more before =
    ap (λ os. os ++ offers_from next (regions_in rest)) more ∙ append_assoc old (offers_from k l.regions) (offers_from next (regions_in rest)) ∙ ap (λ n. old ++ (offers_from k l.regions ++ offers_from n (regions_in rest))) e
    ∙ ap (λ os. old ++ os) (sym (offers_append k l.regions (regions_in rest))) ∙ before

pub count_more : (k next n : ℕ) (l : ScatterLoad) (rest : List ScatterLoad) → next ≡ k + length l.regions → k + length (regions_in (l ∷ rest)) ≡ n → next + length (regions_in rest) ≡ n
count_more k next n l rest e before = let parts = length-append l.regions (regions_in rest) in omega arith

lists_same : (offers : List Offer) (items : List placing.Item) (ks : List Kept) → AreKept offers items ks → (k n : ℕ) → lists_kept ks k n ≡ named (lists_from offers items k n)
lists_same offers items ks a k zero = refl
lists_same offers items ks a k (suc n) =
    let first : names_kept ks k ≡ map name_of (areas_of offers items k) = ap (λ l. map name_of (map (λ p. p.item) (in_order l))) (a.each k) in
    let rest = lists_same offers items ks a (suc k) n in
    cc

pub assigned_ok : (offers : List Offer) (n : ℕ) (os : List (Named Object)) (items : List placing.Item) (ks : List Kept) (lists : List (List AreaName)) → items ≡ items_in os → assignment_refusal (report_name os) offers items ≡ None
    → AreKept offers items ks → lists ≡ lists_kept ks 0 n → assigned_by offers n os ≡ Ok (record { regions = lists })
assigned_ok offers n os items ks lists these none a e =
    let unrefused : assignment_refusal (report_name os) offers (items_in os) ≡ None = ap (assignment_refusal (report_name os) offers) (sym these) ∙ none in
    let here : named (lists_from offers (items_in os) 0 n) ≡ lists = ap (λ l. named (lists_from offers l 0 n)) (sym these) ∙ sym (lists_same offers items ks a 0 n) ∙ sym e in
    rw (unrefused, here) refl

pub same_assignment : (r : Result Assigned Fault) (os : List (Named Object)) (offers others : List Offer) (n m : ℕ) → offers ≡ others → n ≡ m → Gives r (assigned_by offers n os) → Gives r (assigned_by others m os)
same_assignment r os offers others n m e f h = subst (λ l. Gives r (assigned_by l m os)) e (subst (λ k. Gives r (assigned_by offers k os)) f h)

pub kept_more : (region : ℕ) (f : Found) (p : Pick) (i : Item) (ks ls : List Kept) → finding.Within p ≡ told f → ls ≡ ks ++ kept_at p i ∷ [] → kept_in region ls ≡ kept_in region ks ++ option_to_list (kept_by region (shown_item i) f)
kept_more region f p i ks ls e more =
    ap (kept_in region) more ∙ filter_map-append (kept_here region) ks (kept_at p i ∷ []) ∙ ap (λ o. kept_in region ks ++ cons_option o []) (kept_found region f p i e)
    ∙ one (kept_by region (shown_item i) f)
  where
    one : (o : Option Placed) → kept_in region ks ++ cons_option o [] ≡ kept_in region ks ++ option_to_list o
    one None = refl
    one (Some k) = refl
