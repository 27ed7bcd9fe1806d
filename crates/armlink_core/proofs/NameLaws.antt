-- What reports call the objects of a link decides nothing of its image, nor of its tables.
use Rattle.std.proofs.Common.{◌≡◌, ℕ, suc, ◌+◌, List, [], ◌∷◌, ◌++◌, length, map, slice_get, Bool, true, false, cond, Option, Some, None, Result, Ok, Err, refl, sym, ap, ◌∙◌, subst}
use Rattle.std.proofs.lemmas.List.Sums.{sum_by-cons}
use Rattle.std.proofs.lemmas.Option.{slice_get-map}
use Rattle.std.specs.List.{cons_option, filter_map, find, flat_map}
use Rattle.std.specs.Option.{option_and_then, option_map, option_or}
use Rattle.sdt_word.specs.declared.ranges.Range32.{Range32}
use Rattle.sdt_fault.specs.declared.refusal.Refusal.{Refusal}
use Rattle.sdt_fault.specs.declared.refusal.Refusal.TheVariants.{Duplicate, Undefined}
use Rattle.sdt_fault.specs.declared.kinds.Quantity.TheVariants.{Areas, Symbols}
use Rattle.chunk_file.specs.Reading.{◌>>=◌}
use Rattle.aof_object.specs.declared.records.Area.{Area}
use Rattle.aof_object.specs.declared.records.Entry.{Entry}
use Rattle.aof_object.specs.declared.records.Object.{Object}
use Rattle.aof_object.specs.declared.records.Symbol.{Symbol}
use Rattle.aof_object.specs.Checks.{is_exported}
use Rattle.patch_model.specs.Fields.{Values}
use Rattle.image_model.specs.AifFiles.{shifted_offsets}
use Rattle.link_model.specs.declared.images.Image.{Image}
use Rattle.link_model.specs.declared.placing.AreaName.{AreaName}
use Rattle.link_model.specs.declared.placing.Assigned.{Assigned}
use Rattle.link_model.specs.declared.placing.PlacedArea.{PlacedArea}
use Rattle.link_model.specs.declared.placing.Placement.{Placement}
use Rattle.link_model.specs.declared.placing.Veneer.{Veneer}
use Rattle.link_model.specs.declared.selection.Definition.{Definition}
use Rattle.link_model.specs.declared.selection.Linked.{Linked}
use Rattle.link_model.specs.declared.selection.LinkedEntry.{LinkedEntry}
use Rattle.link_model.specs.declared.selection.Named.{Named}
use Rattle.link_model.specs.Chosen.{exports, is_needed}
use Rattle.link_model.specs.Definitions.{definitions_from, linked_entry}
use Rattle.link_model.specs.Members.{Link, link_of, objects_in}
use Rattle.link_model.specs.Options.{first_given, refused_or}
use Rattle.link_model.specs.Veneers.{veneers_of}
use Rattle.place_model.specs.declared.scatter.Kind.{Kind}
use Rattle.place_model.specs.declared.scatter.Kind.TheVariants as kind
use Rattle.place_model.specs.declared.scatter.Scatter.{Scatter}
use Rattle.place_model.specs.Assignment.{Offer, assignment_refusal, best, described_regions, description, found, lists_from, offers_of}
use Rattle.place_model.specs.Assignment as assignment
use Rattle.place_model.specs.Items.{Item}
use Rattle.link_items.specs.LinkedItems.{contents_of, has_header, item_at, item_in, items_from, items_in, items_of, region_veneer}
use Rattle.scatter_text.specs.Reading.{scatter_of}
use Rattle.link_select.specs.declared.entries.Entered.{Entered}
use Rattle.link_select.specs.Entries.{entered_by, entered_from, only_entry}
use Rattle.link_select.specs.Exports.{clash, duplicate}
use Rattle.link_select.specs.Undefined.{is_known, lacking, lacking_in, undefined}
use Rattle.link_select.specs.Selection.{count_areas, count_symbols, judged, limited, refused, selection_of}
use Rattle.link_assign.specs.Assigning.{assigned_by, assignment_of, named}
use Rattle.link_assign.specs.Keeping.{report_name}
use Rattle.link_veneer.specs.Interworking.{not_interworking}
use Rattle.link_veneer.specs.Planning.{planned_veneers}
use Rattle.link_place.specs.Placed.{placed}
use Rattle.link_values.specs.Placed.{base_in, values_in}
use Rattle.link_values.specs.Shifts.{not_relocatable, shifts_of, unmovable, unmovable_from, unmovable_in}
use Rattle.link_shifts.specs.Moves.{moved, parts_words}
use Rattle.link_apply.specs.Applied.{applied}
use Rattle.link_apply.specs.Flaws.{apply_refusal, flaw_of, refusal_of, refusals_at, refusals_in, told}
use Rattle.link_apply.specs.RegionBytes.{regions_bytes}
use Rattle.link_apply.specs.Placed.{called}
use Rattle.elf_image.specs.declared.tables.Tables.{Tables}
use Rattle.link_symbols.specs.Sections.{sections_in}
use Rattle.link_symbols.specs.Shown.{Shown, shown_of}
use Rattle.link_symbols.specs.Symbols.{symbols_by, tables_in}
use Rattle.armlink_core.specs.declared.making.PlacedImage.{PlacedImage}
use Rattle.armlink_core.specs.Linking.{made_at, made_of, made_with, symbols_of}
use Rattle.armlink_core.specs.Images.{call_of, described, image_made, image_of, image_with, linking}
use Rattle.armlink_core.specs.Moves.{can_move, moves_in}
use Rattle.armlink_core.specs.Laws.{AreAlike, NamelessImages, NamelessScatters, NamelessScatterTables, NamelessTables, unnamed}
use Rattle.armlink_core.specs.Placing.{as_link, placed_by, placed_link}
use Rattle.armlink_core.specs.Tables.{link_tables, tables_by}

-- ---- where one gives nothing, the other gives nothing

came : {A B : Type 0} (x : Result A Refusal) (f : A → Result B Refusal) (b : B) → (x >>= f) ≡ Ok b → (a : A) × (x ≡ Ok a) × (f a ≡ Ok b)
came (Ok a) f b h = (a, refl, h)
came {B = B} (Err r) f b h = absurd (let bad : ◌≡◌ {A = Result B Refusal} (Err r) (Ok b) = h in cc)

goes_on : {A B : Type 0} (x : Result A Refusal) (f : A → Result B Refusal) (a : A) (r : Result B Refusal) → x ≡ Ok a → f a ≡ r → (x >>= f) ≡ r
goes_on x f a r e h = rw e h

nothing_mapped : {A B : Type 0} (f g : A → B) (o p : Option A) → (o ≡ None → p ≡ None) → option_map f o ≡ None → option_map g p ≡ None
nothing_mapped f g None p k h = rw (k refl) refl
nothing_mapped f g (Some x) p k h = absurd (let bad : Some (f x) ≡ None = h in cc)

nothing_tested : {A : Type 0} (b : Bool) (x y : Option A) → (x ≡ None → y ≡ None) → cond b x None ≡ None → cond b y None ≡ None
nothing_tested true x y f h = f h
nothing_tested false x y f h = refl

told_of_both : {A : Type 0} (b : Bool) (x y : A) → cond b (Some x) None ≡ None → cond b (Some y) None ≡ None
told_of_both true x y h = absurd (let bad : Some x ≡ None = h in cc)
told_of_both false x y h = refl

nothing_or : {A : Type 0} (a b c d : Option A) → (a ≡ None → c ≡ None) → (b ≡ None → d ≡ None) → option_or a b ≡ None → option_or c d ≡ None
nothing_or (Some x) b c d f g h = absurd (let bad : Some x ≡ None = h in cc)
nothing_or None b c d f g h = rw (f refl) (g h)

nothing_given : {A B : Type 0} (f g : A → Option B) → ((x : A) → f x ≡ None → g x ≡ None) → (xs : List A) → first_given f xs ≡ None → first_given g xs ≡ None
nothing_given f g each [] h = refl
nothing_given f g each (x ∷ xs) h = nothing_or (f x) (first_given f xs) (g x) (first_given g xs) (each x) (nothing_given f g each xs) h

nothing_joined : {A : Type 0} (xs ys us vs : List A) → (xs ≡ [] → us ≡ []) → (ys ≡ [] → vs ≡ []) → xs ++ ys ≡ [] → us ++ vs ≡ []
nothing_joined (x ∷ xs) ys us vs f g h = absurd (let bad : x ∷ (xs ++ ys) ≡ [] = h in cc)
nothing_joined [] ys us vs f g h = rw (f refl) (g h)

nothing_kept : {A B : Type 0} (f g : A → Option B) → ((x : A) → f x ≡ None → g x ≡ None) → (xs : List A) → filter_map f xs ≡ [] → filter_map g xs ≡ []
nothing_kept f g each [] h = refl
nothing_kept {B = B} f g each (x ∷ xs) h = by (f x) (each x) (nothing_kept f g each xs) h where
  by : (o : Option B) → (o ≡ None → g x ≡ None) → (filter_map f xs ≡ [] → filter_map g xs ≡ []) → cons_option o (filter_map f xs) ≡ [] → cons_option (g x) (filter_map g xs) ≡ []
  by None k rest h = rw (k refl) (rest h)
  by (Some y) k rest h = absurd (let bad : y ∷ filter_map f xs ≡ [] = h in cc)

nothing_flat : {A B : Type 0} (f g : A → List B) → ((x : A) → f x ≡ [] → g x ≡ []) → (xs : List A) → flat_map f xs ≡ [] → flat_map g xs ≡ []
nothing_flat f g each [] h = refl
nothing_flat f g each (x ∷ xs) h = nothing_joined (f x) (flat_map f xs) (g x) (flat_map g xs) (each x) (nothing_flat f g each xs) h

nothing_first : {A : Type 0} (xs ys : List A) → (xs ≡ [] → ys ≡ []) → slice_get xs 0 ≡ None → slice_get ys 0 ≡ None
nothing_first [] ys f h = rw (f refl) refl
nothing_first (x ∷ xs) ys f h = absurd (let bad : Some x ≡ None = h in cc)

refused_alike : {A : Type 0} (a b : Option Refusal) (x y z : A) → (a ≡ None → b ≡ None) → x ≡ y → refused_or a x ≡ Ok z → refused_or b y ≡ Ok z
refused_alike {A = A} (Some r) b x y z f e h = absurd (let bad : ◌≡◌ {A = Result A Refusal} (Err r) (Ok z) = h in cc)
refused_alike None b x y z f e h = rw (f refl, ← e) h

-- ---- objects under two names

record Twice : Type 0 where
  one : List ℕ
  other : List ℕ
  home : List ℕ
  value : Object

abbrev first : Twice → Named Object
first t = record { name = t.one; «module» = t.home; value = t.value }

abbrev second : Twice → Named Object
second t = record { name = t.other; «module» = t.home; value = t.value }

abbrev firsts : List Twice → List (Named Object)
firsts ts = map first ts

abbrev seconds : List Twice → List (Named Object)
seconds ts = map second ts

pair_up : (os ps : List (Named Object)) → AreAlike os ps → (ts : List Twice) × (firsts ts ≡ os) × (seconds ts ≡ ps)
pair_up [] [] h = ([], refl, refl)
pair_up [] (p ∷ ps) h = absurd (let bad : [] ≡ unnamed p ∷ map unnamed ps = h in cc)
pair_up (o ∷ os) [] h = absurd (let bad : unnamed o ∷ map unnamed os ≡ [] = h in cc)
pair_up (o ∷ os) (p ∷ ps) h =
    let cons : unnamed o ∷ map unnamed os ≡ unnamed p ∷ map unnamed ps = h in
    let head : unnamed o ≡ unnamed p = cc in
    let tail : map unnamed os ≡ map unnamed ps = cc in
    let (ts, e, f) = pair_up os ps tail in
    let t : Twice = record { one = o.name; other = p.name; home = o.«module»; value = o.value } in
    let same : second t ≡ p = ap (λ (q : List ℕ × Object). record { name = p.name; «module» = q.0; value = q.1 }) head in
    (t ∷ ts, ap (λ (rest : List (Named Object)). o ∷ rest) e, ap (λ (q : Named Object). q ∷ seconds ts) same ∙ ap (λ (rest : List (Named Object)). p ∷ rest) f)

same_objects : (ts : List Twice) → objects_in (firsts ts) ≡ objects_in (seconds ts)
same_objects [] = refl
same_objects (t ∷ ts) = ap (λ (os : List Object). t.value ∷ os) (same_objects ts)

-- ---- selection

find_alike : (test : Object → Bool) (ts : List Twice) → find (λ o. test o.value) (firsts ts) ≡ None → find (λ o. test o.value) (seconds ts) ≡ None
find_alike test [] h = refl
find_alike test (t ∷ ts) h = by (test t.value) (find_alike test ts) h where
  by : (b : Bool) → (find (λ o. test o.value) (firsts ts) ≡ None → find (λ o. test o.value) (seconds ts) ≡ None)
      → cond b (Some (first t)) (find (λ o. test o.value) (firsts ts)) ≡ None → cond b (Some (second t)) (find (λ o. test o.value) (seconds ts)) ≡ None
  by true rest h = absurd (let bad : Some (first t) ≡ None = h in cc)
  by false rest h = rest h

clash_alike : (t : Twice) (ts : List Twice) (s : Symbol) → clash t.one (firsts ts) s ≡ None → clash t.other (seconds ts) s ≡ None
clash_alike t ts s h =
    nothing_tested (is_exported s.attributes) _ _
    (nothing_mapped (λ o. Duplicate s.name t.one o.name) (λ o. Duplicate s.name t.other o.name) _ _ (find_alike (λ o. exports o s.name) ts)) h

duplicate_alike : (ts : List Twice) → duplicate (firsts ts) ≡ None → duplicate (seconds ts) ≡ None
duplicate_alike [] h = refl
duplicate_alike (t ∷ ts) h =
    nothing_or (first_given (clash t.one (firsts ts)) t.value.symbols) (duplicate (firsts ts)) (first_given (clash t.other (seconds ts)) t.value.symbols) (duplicate (seconds ts))
    (nothing_given (clash t.one (firsts ts)) (clash t.other (seconds ts)) (clash_alike t ts) t.value.symbols) (duplicate_alike ts) h

lacking_alike : (known : List ℕ → Bool) (t : Twice) (s : Symbol) → lacking known t.one s ≡ None → lacking known t.other s ≡ None
lacking_alike known t s h = by (is_needed s.attributes) (known s.name) h where
  by : (needed b : Bool) → cond needed (cond b None (Some (Undefined s.name t.one))) None ≡ None → cond needed (cond b None (Some (Undefined s.name t.other))) None ≡ None
  by true true h = refl
  by true false h = absurd (let bad : Some (Undefined s.name t.one) ≡ None = h in cc)
  by false b h = refl

undefined_alike : (known : List ℕ → Bool) (ts : List Twice) → first_given (lacking_in known) (firsts ts) ≡ None → first_given (lacking_in known) (seconds ts) ≡ None
undefined_alike known [] h = refl
undefined_alike known (t ∷ ts) h =
    nothing_or (lacking_in known (first t)) (first_given (lacking_in known) (firsts ts)) (lacking_in known (second t)) (first_given (lacking_in known) (seconds ts))
    (nothing_given (lacking known t.one) (lacking known t.other) (lacking_alike known t) t.value.symbols) (undefined_alike known ts) h

abbrev entries : List Entered → List LinkedEntry
entries es = map (λ e. e.entry) es

entered_alike : (i : ℕ) (ts : List Twice) → entries (entered_from i (firsts ts)) ≡ entries (entered_from i (seconds ts))
entered_alike i [] = refl
entered_alike i (t ∷ ts) = by t.value.entry (entered_alike (suc i) ts) where
  by : (e : Option Entry) → entries (entered_from (suc i) (firsts ts)) ≡ entries (entered_from (suc i) (seconds ts))
      → entries (entered_by i (first t) e ++ entered_from (suc i) (firsts ts)) ≡ entries (entered_by i (second t) e ++ entered_from (suc i) (seconds ts))
  by None h = h
  by (Some e) h = ap (λ (es : List LinkedEntry). linked_entry i t.value e ∷ es) h

only_alike : (es fs : List Entered) (x : LinkedEntry) → entries es ≡ entries fs → only_entry es ≡ Ok x → only_entry fs ≡ Ok x
only_alike [] fs x e h = absurd (let bad : only_entry [] ≡ Ok x = h in cc)
only_alike (a ∷ b ∷ es) fs x e h = absurd (let bad : only_entry (a ∷ b ∷ es) ≡ Ok x = h in cc)
only_alike (a ∷ []) [] x e h = absurd (let bad : a.entry ∷ [] ≡ [] = e in cc)
only_alike (a ∷ []) (b ∷ []) x e h = let one : a.entry ∷ [] ≡ b.entry ∷ [] = e in let same : a.entry ≡ b.entry = cc in rw (← same) h
only_alike (a ∷ []) (b ∷ c ∷ fs) x e h = absurd (let bad : a.entry ∷ [] ≡ b.entry ∷ c.entry ∷ entries fs = e in cc)

areas_alike : (ts : List Twice) → count_areas (firsts ts) ≡ count_areas (seconds ts)
areas_alike [] = refl
areas_alike (t ∷ ts) =
    sum_by-cons (λ o. length o.value.areas) (first t) (firsts ts) ∙ ap (λ (n : ℕ). length t.value.areas + n) (areas_alike ts)
    ∙ sym (sum_by-cons (λ o. length o.value.areas) (second t) (seconds ts))

symbols_alike : (ts : List Twice) → count_symbols (firsts ts) ≡ count_symbols (seconds ts)
symbols_alike [] = refl
symbols_alike (t ∷ ts) =
    sum_by-cons (λ o. length o.value.symbols) (first t) (firsts ts) ∙ ap (λ (n : ℕ). length t.value.symbols + n) (symbols_alike ts)
    ∙ sym (sum_by-cons (λ o. length o.value.symbols) (second t) (seconds ts))

refused_ok : {A : Type 0} (o : Option Refusal) (next : Result A Refusal) (x : A) → refused o next ≡ Ok x → (o ≡ None) × (next ≡ Ok x)
refused_ok None next x h = (refl, h)
refused_ok {A = A} (Some r) next x h = absurd (let bad : ◌≡◌ {A = Result A Refusal} (Err r) (Ok x) = h in cc)

abbrev counted : ℕ → ℕ → LinkedEntry → Result LinkedEntry Refusal
counted areas symbols e = limited Areas 65535 areas (limited Symbols 1000000 symbols (Ok e))

judged_alike : (regions : Option (List (List ℕ))) (ts : List Twice) (x : LinkedEntry) → judged regions (firsts ts) ≡ Ok x → judged regions (seconds ts) ≡ Ok x
judged_alike regions ts x h =
    let (d, hd) = refused_ok (duplicate (firsts ts)) _ x h in
    let (u, hu) = refused_ok (undefined regions (firsts ts)) _ x hd in
    let (e, only, he) = came (only_entry (entered_from 0 (firsts ts))) (counted (count_areas (firsts ts)) (count_symbols (firsts ts))) x hu in
    let known : undefined regions (seconds ts) ≡ None =
    subst (λ (os : List Object). first_given (lacking_in (is_known regions os)) (seconds ts) ≡ None) (same_objects ts) (undefined_alike (is_known regions (objects_in (firsts ts))) ts u) in
    rw (duplicate_alike ts d, known, only_alike _ _ e (entered_alike 0 ts) only, ← areas_alike ts, ← symbols_alike ts) he

abbrev linked_by : (Twice → Named Object) → List Twice → List Definition → LinkedEntry → Linked
linked_by name ts ds e = record { objects = map name ts; definitions = ds; entry = e }

record IsSelected (regions : Option (List (List ℕ))) (ts : List Twice) (l : Linked) : Type 0 where
  definitions : List Definition
  entry : LinkedEntry
  is : linked_by first ts definitions entry ≡ l
  other : selection_of regions (seconds ts) ≡ Ok (linked_by second ts definitions entry)

selected_alike : (regions : Option (List (List ℕ))) (ts : List Twice) (l : Linked) → selection_of regions (firsts ts) ≡ Ok l → IsSelected regions ts l
unfolding selection_of
selected_alike regions ts l h =
    let ds = definitions_from 0 (objects_in (firsts ts)) in
    let (e, judgement, he) = came (judged regions (firsts ts)) (λ e. Ok (linked_by first ts ds e)) l h in
    record {
      definitions = ds;
      entry = e;
      is = let same : ◌≡◌ {A = Result Linked Refusal} (Ok (linked_by first ts ds e)) (Ok l) = he in cc;
      other = rw (judged_alike regions ts e judgement) (ap (λ (os : List Object). Ok (linked_by second ts (definitions_from 0 os) e)) (sym (same_objects ts)));
    }

-- ---- regions of areas, veneers and places

items_alike : (i : ℕ) (ts : List Twice) → items_from i (firsts ts) ≡ items_from i (seconds ts)
items_alike i [] = refl
items_alike i (t ∷ ts) = ap (λ (items : List Item). items_of i t.home 0 t.value.areas ++ items) (items_alike (suc i) ts)

unassigned_alike : (one other : List ℕ) (i : Item) (f : assignment.Found) → assignment.refused one i f ≡ None → assignment.refused other i f ≡ None
unassigned_alike one other i assignment.Nowhere h = absurd (cc)
unassigned_alike one other i (assignment.Within o) h = refl
unassigned_alike one other i (assignment.Unclear o p) h = absurd (cc)

assigned_alike : (offers : List Offer) (count : ℕ) (ts : List Twice) (a : Assigned) → assigned_by offers count (firsts ts) ≡ Ok a → assigned_by offers count (seconds ts) ≡ Ok a
assigned_alike offers count ts a h =
    let refusals = λ (name : ℕ → List ℕ) (i : Item). assignment.refused (name i.object) i (found (best offers i)) in
    let one = report_name (firsts ts) in let other = report_name (seconds ts) in
    subst (λ (items : List Item). refused_or (assignment_refusal other offers items) (record { regions = named (lists_from offers items 0 count) }) ≡ Ok a) (items_alike 0 ts)
    (refused_alike (assignment_refusal one offers (items_in (firsts ts))) (assignment_refusal other offers (items_in (firsts ts))) _ _ a
    (nothing_first (filter_map (refusals one) (items_in (firsts ts))) (filter_map (refusals other) (items_in (firsts ts)))
    (nothing_kept (refusals one) (refusals other) (λ i. unassigned_alike (one i.object) (other i.object) i (found (best offers i))) (items_in (firsts ts))))
    refl h)

same_link : (ts : List Twice) (ds : List Definition) (e : LinkedEntry) → link_of (linked_by first ts ds e) ≡ link_of (linked_by second ts ds e)
same_link ts ds e = ap (λ (os : List Object). record { objects = os; definitions = ds; entry = e }) (same_objects ts)

veneers_alike : (ts : List Twice) (ds : List Definition) (e : LinkedEntry) (a : Assigned) (header : Bool)
    → planned_veneers (linked_by first ts ds e) a header ≡ planned_veneers (linked_by second ts ds e) a header
veneers_alike ts ds e a header = ap (λ (l : Link). refused_or (not_interworking l) (veneers_of l a.regions header)) (same_link ts ds e)

item_alike : (ts : List Twice) (a : AreaName) → item_at (firsts ts) a ≡ item_at (seconds ts) a
item_alike ts a = rw (slice_get-map first ts a.object, slice_get-map second ts a.object) (by (slice_get ts a.object)) where
  by : (t : Option Twice) → option_and_then (item_in a) (option_map first t) ≡ option_and_then (item_in a) (option_map second t)
  by None = refl
  by (Some t) = refl

contents_alike : (ts : List Twice) (regions : List (List AreaName)) (vs : List Veneer) → contents_of (firsts ts) regions vs ≡ contents_of (seconds ts) regions vs
contents_alike ts regions vs =
    let same : ◌≡◌ {A = AreaName → Option Item} (item_at (firsts ts)) (item_at (seconds ts)) = λ i a. item_alike ts a i in
    ap (λ (item : AreaName → Option Item). record { areas = map (filter_map item) regions; veneers = map region_veneer vs }) same

-- ---- relocations

flaws_alike : (p : Placement) (values : Values) (at : PlacedArea) (t : Twice) (a : Option Area) → refusals_in p values at (first t) a ≡ [] → refusals_in p values at (second t) a ≡ []
flaws_alike p values at t None h = refl
flaws_alike p values at t (Some a) h =
    nothing_kept (refusal_of p values at (first t) a) (refusal_of p values at (second t) a)
    (λ r. nothing_mapped (told t.one t.value a r) (told t.other t.value a r) (flaw_of p values at.region at.address at.area.area a r) _ (λ none. none)) a.relocs h

flaws_at : (one other : Linked) → link_of one ≡ link_of other → (p : Placement) (at : PlacedArea) (t : Option Twice)
    → refusals_at one p at (option_map first t) ≡ [] → refusals_at other p at (option_map second t) ≡ []
flaws_at one other same p at None h = refl
flaws_at one other same p at (Some t) h =
    let a = slice_get t.value.areas at.area.area in
    flaws_alike p (values_in (link_of other) p at.area.object) at t a
    (subst (λ (l : Link). refusals_in p (values_in l p at.area.object) at (first t) a ≡ []) same h)

applied_alike : (ts : List Twice) (ds : List Definition) (e : LinkedEntry) (p : Placement) (bytes : List (List ℕ))
    → applied (linked_by first ts ds e) p ≡ Ok bytes → applied (linked_by second ts ds e) p ≡ Ok bytes
applied_alike ts ds e p bytes h =
    let one = linked_by first ts ds e in let other = linked_by second ts ds e in
    let told_at = λ (l : Linked) (at : PlacedArea). refusals_at l p at (slice_get l.objects at.area.object) in
    refused_alike (apply_refusal one p) (apply_refusal other p) _ _ bytes
    (nothing_first (flat_map (told_at one) p.areas) (flat_map (told_at other) p.areas) (nothing_flat (told_at one) (told_at other)
    (λ at none. rw (slice_get-map second ts at.area.object) (flaws_at one other (same_link ts ds e) p at (slice_get ts at.area.object) (rw (slice_get-map first ts at.area.object) at none)))
    p.areas))
    (ap (λ (l : Link). regions_bytes l p) (same_link ts ds e)) h

-- ---- what moves

moves_alike_in : (l : Link) (p : Placement) (t : Twice) (object area : ℕ) (areas : List Area) → unmovable_in l p (first t) object area areas ≡ [] → unmovable_in l p (second t) object area areas ≡ []
moves_alike_in l p t object area [] h = refl
moves_alike_in l p t object area (a ∷ areas) h =
    let one = unmovable l p (first t) object area a in let other = unmovable l p (second t) object area a in
    nothing_joined (filter_map one a.relocs) (unmovable_in l p (first t) object (suc area) areas) (filter_map other a.relocs) (unmovable_in l p (second t) object (suc area) areas)
    (nothing_kept one other (λ r. told_of_both _ _ _) a.relocs) (moves_alike_in l p t object (suc area) areas) h

moves_alike_from : (l : Link) (p : Placement) (object : ℕ) (ts : List Twice) → unmovable_from l p object (firsts ts) ≡ [] → unmovable_from l p object (seconds ts) ≡ []
moves_alike_from l p object [] h = refl
moves_alike_from l p object (t ∷ ts) h =
    nothing_joined (unmovable_in l p (first t) object 0 t.value.areas) (unmovable_from l p (suc object) (firsts ts))
    (unmovable_in l p (second t) object 0 t.value.areas) (unmovable_from l p (suc object) (seconds ts))
    (moves_alike_in l p t object 0 t.value.areas) (moves_alike_from l p (suc object) ts) h

moves_alike : (k : Kind) (ts : List Twice) (ds : List Definition) (e : LinkedEntry) (p : Placement) (moves : List ℕ)
    → moves_in k (linked_by first ts ds e) p ≡ Ok moves → moves_in k (linked_by second ts ds e) p ≡ Ok moves
moves_alike k ts ds e p moves h = by (can_move k) h where
  by : (b : Bool) → cond b (moved (linked_by first ts ds e) p) (Ok []) ≡ Ok moves → cond b (moved (linked_by second ts ds e) p) (Ok []) ≡ Ok moves
  by false h = h
  by true h =
      refused_alike (not_relocatable (linked_by first ts ds e) p) (not_relocatable (linked_by second ts ds e) p) _ _ moves
      (nothing_first (unmovable_from (link_of (linked_by first ts ds e)) p 0 (firsts ts)) (unmovable_from (link_of (linked_by second ts ds e)) p 0 (seconds ts))
      (λ none. moves_alike_from (link_of (linked_by second ts ds e)) p 0 ts (subst (λ (l : Link). unmovable_from l p 0 (firsts ts) ≡ []) (same_link ts ds e) none)))
      (ap (λ (l : Link). shifted_offsets (shifts_of l p) 0 (parts_words p)) (same_link ts ds e)) h

-- ---- what is made

abbrev made_by : Linked → Assigned → List Veneer → Placement → List (List ℕ) → PlacedImage
made_by l a vs p bytes = record { linked = l; assigned = a; veneers = vs; placement = p; bytes = bytes }

record IsMade (k : Kind) (ram : Option (List Range32)) (ts : List Twice) (ds : List Definition) (e : LinkedEntry) (m : PlacedImage) : Type 0 where
  assigned : Assigned
  veneers : List Veneer
  placement : Placement
  bytes : List (List ℕ)
  is : made_by (linked_by first ts ds e) assigned veneers placement bytes ≡ m
  other : made_of k ram (linked_by second ts ds e) ≡ Ok (made_by (linked_by second ts ds e) assigned veneers placement bytes)

made_alike : (k : Kind) (ram : Option (List Range32)) (ts : List Twice) (ds : List Definition) (e : LinkedEntry) (m : PlacedImage)
    → made_of k ram (linked_by first ts ds e) ≡ Ok m → IsMade k ram ts ds e m
made_alike k ram ts ds e m h =
    let one = linked_by first ts ds e in let other = linked_by second ts ds e in
    let (a, ea, ha) = came (assignment_of k (firsts ts)) (made_with k ram one) m h in
    let (vs, ev, hv) = came (planned_veneers one a (has_header k)) (λ vs. placed k ram (contents_of (firsts ts) a.regions vs) >>= made_at one a vs) m ha in
    let (p, ep, hp) = came (placed k ram (contents_of (firsts ts) a.regions vs)) (made_at one a vs) m hv in
    let (bytes, eb, hb) = came (applied one p) (λ bytes. Ok (made_by one a vs p bytes)) m hp in
    let result = made_by other a vs p bytes in
    record {
      assigned = a;
      veneers = vs;
      placement = p;
      bytes = bytes;
      is = let same : ◌≡◌ {A = Result PlacedImage Refusal} (Ok (made_by one a vs p bytes)) (Ok m) = hb in cc;
      other =
          goes_on (assignment_of k (seconds ts)) (made_with k ram other) a (Ok result) (assigned_alike (offers_of k) (length (described_regions k)) ts a ea)
          (goes_on (planned_veneers other a (has_header k)) (λ ws. placed k ram (contents_of (seconds ts) a.regions ws) >>= made_at other a ws) vs (Ok result) (sym (veneers_alike ts ds e a (has_header k)) ∙ ev)
          (goes_on (placed k ram (contents_of (seconds ts) a.regions vs)) (made_at other a vs) p (Ok result) (ap (placed k ram) (sym (contents_alike ts a.regions vs)) ∙ ep)
          (goes_on (applied other p) (λ bs. Ok (made_by other a vs p bs)) bytes (Ok result) (applied_alike ts ds e p bytes eb) (refl {a = Ok result}))));
    }

-- ---- the image

called_alike : (thumb : Bool) (ts : List Twice) (ds : List Definition) (e : LinkedEntry) (p : Placement) → called thumb (linked_by first ts ds e) p ≡ called thumb (linked_by second ts ds e) p
called_alike false ts ds e p = refl
called_alike true ts ds e p = refl

call_alike : (k : Kind) (ts : List Twice) (ds : List Definition) (e : LinkedEntry) (p : Placement) → call_of k (linked_by first ts ds e) p ≡ call_of k (linked_by second ts ds e) p
call_alike (kind.Scatter s) ts ds e p = refl
call_alike (kind.Plain base) ts ds e p = refl
call_alike (kind.Aif base relocatable) ts ds e p = called_alike e.thumb ts ds e p

abbrev with_call : Image → ℕ → Image
with_call i call = record {
  kind = i.kind;
  loads = i.loads;
  regions = i.regions;
  start = i.start;
  entry = i.entry;
  call = call;
  thumb = i.thumb;
  bound = i.bound;
  moves = i.moves;
}

image_alike : (k : Kind) (ram : Option (List Range32)) (ts : List Twice) (ds : List Definition) (e : LinkedEntry) (i : Image)
    → image_with k ram (linked_by first ts ds e) ≡ Ok i → image_with k ram (linked_by second ts ds e) ≡ Ok i
image_alike k ram ts ds e i h =
    let (m, em, hm) = came (made_of k ram (linked_by first ts ds e)) (image_made k) i h in
    let made = made_alike k ram ts ds e m em in
    let p = made.placement in
    let one = made_by (linked_by first ts ds e) made.assigned made.veneers p made.bytes in
    let other = made_by (linked_by second ts ds e) made.assigned made.veneers p made.bytes in
    let whole : image_made k one ≡ Ok i = subst (λ (n : PlacedImage). image_made k n ≡ Ok i) (sym made.is) hm in
    let (moves, moving, hv) = came (moves_in k (linked_by first ts ds e) p) (λ moves. Ok (image_of k one moves)) i whole in
    goes_on (made_of k ram (linked_by second ts ds e)) (image_made k) other (Ok i) made.other
    (goes_on (moves_in k (linked_by second ts ds e) p) (λ ms. Ok (image_of k other ms)) moves (Ok i) (moves_alike k ts ds e p moves moving)
    (ap (λ (c : ℕ). Ok (with_call (image_of k one moves) c)) (sym (call_alike k ts ds e p)) ∙ hv))

linked_alike : (k : Kind) (ram : Option (List Range32)) (ts : List Twice) (i : Image) → linking k ram (firsts ts) ≡ Ok i → linking k ram (seconds ts) ≡ Ok i
linked_alike k ram ts i h =
    let (l, el, hl) = came (selection_of (Some (symbols_of k)) (firsts ts)) (image_with k ram) i h in
    let s = selected_alike (Some (symbols_of k)) ts l el in
    goes_on (selection_of (Some (symbols_of k)) (seconds ts)) (image_with k ram) (linked_by second ts s.definitions s.entry) (Ok i) s.other
    (image_alike k ram ts s.definitions s.entry i (subst (λ (n : Linked). image_with k ram n ≡ Ok i) (sym s.is) hl))

pub nameless_images : NamelessImages
nameless_images k ram os ps i alike h =
    let (ts, first_is, second_is) = pair_up os ps alike in
    subst (λ (qs : List (Named Object)). linking k ram qs ≡ Ok i) second_is
    (linked_alike k ram ts i (subst (λ (qs : List (Named Object)). linking k ram qs ≡ Ok i) (sym first_is) h))

described_alike : (d : Result Scatter Refusal) (ram : Option (List Range32)) (os ps : List (Named Object)) (i : Image)
    → AreAlike os ps → described d ram os ≡ Ok i → described d ram ps ≡ Ok i
described_alike (Ok s) ram os ps i alike h = nameless_images (kind.Scatter s) ram os ps i alike h
described_alike (Err r) ram os ps i alike h =
    let (l, el, hl) = came (selection_of None os) (λ l. Err r) i h in
    absurd (let bad : ◌≡◌ {A = Result Image Refusal} (Err r) (Ok i) = hl in cc)

pub nameless_scatters : NamelessScatters
nameless_scatters text ram os ps i alike h = described_alike (scatter_of text) ram os ps i alike h

-- ---- the tables

shown_alike : (ts : List Twice) (ds : List Definition) (e : LinkedEntry) (p : Placement) (loads : ℕ)
    → shown_of (linked_by first ts ds e) p loads ≡ shown_of (linked_by second ts ds e) p loads
shown_alike ts ds e p loads =
    ap (λ (l : Link). record { objects = l.objects; value = λ object k. (values_in l p object).symbol k; base_at = base_in p; sections = sections_in loads p.regions }) (same_link ts ds e)

tables_alike : (ts : List Twice) (ds : List Definition) (e : LinkedEntry) (p : Placement) (loads : ℕ)
    → tables_in (linked_by first ts ds e) p loads ≡ tables_in (linked_by second ts ds e) p loads
tables_alike ts ds e p loads = ap (λ (w : Shown). record { sections = w.sections; symbols = symbols_by w p }) (shown_alike ts ds e p loads)

selected_placed : (k : Kind) (ram : Option (List Range32)) (os : List (Named Object)) (l : Linked) (m : PlacedImage)
    → selection_of (Some (symbols_of k)) os ≡ Ok l → made_of k ram l ≡ Ok m → placed_link k ram os ≡ Ok (as_link k m)
selected_placed k ram os l m selected made =
    goes_on (selection_of (Some (symbols_of k)) os >>= λ l. made_of k ram l) (λ parts. Ok (as_link k parts)) m (Ok (as_link k m))
    (goes_on (selection_of (Some (symbols_of k)) os) (λ l. made_of k ram l) l (Ok m) selected made) refl

placed_alike : (k : Kind) (ram : Option (List Range32)) (ts : List Twice) (i : Image) → linking k ram (firsts ts) ≡ Ok i → link_tables k ram (firsts ts) ≡ link_tables k ram (seconds ts)
placed_alike k ram ts i h =
    let (l, el, hl) = came (selection_of (Some (symbols_of k)) (firsts ts)) (image_with k ram) i h in
    let s = selected_alike (Some (symbols_of k)) ts l el in
    let one = linked_by first ts s.definitions s.entry in let other = linked_by second ts s.definitions s.entry in
    let whole : image_with k ram one ≡ Ok i = subst (λ (n : Linked). image_with k ram n ≡ Ok i) (sym s.is) hl in
    let (m, em, hm) = came (made_of k ram one) (image_made k) i whole in
    let made = made_alike k ram ts s.definitions s.entry m em in
    let p = made.placement in
    let m1 = made_by one made.assigned made.veneers p made.bytes in
    let m2 = made_by other made.assigned made.veneers p made.bytes in
    let chosen : selection_of (Some (symbols_of k)) (firsts ts) ≡ Ok one = el ∙ ap (λ (n : Linked). Ok n) (sym s.is) in
    let is_made : made_of k ram one ≡ Ok m1 = em ∙ ap (λ (n : PlacedImage). Ok n) (sym made.is) in
    ap tables_by (selected_placed k ram (firsts ts) one m1 chosen is_made)
    ∙ tables_alike ts s.definitions s.entry p (length (description k))
    ∙ sym (ap tables_by (selected_placed k ram (seconds ts) other m2 s.other made.other))

pub nameless_tables : NamelessTables
nameless_tables k ram os ps i alike h =
    let (ts, first_is, second_is) = pair_up os ps alike in
    subst (λ (qs : List (Named Object)). link_tables k ram qs ≡ link_tables k ram ps) first_is
    (subst (λ (qs : List (Named Object)). link_tables k ram (firsts ts) ≡ link_tables k ram qs) second_is
    (placed_alike k ram ts i (subst (λ (qs : List (Named Object)). linking k ram qs ≡ Ok i) (sym first_is) h)))

described_tables : (d : Result Scatter Refusal) (ram : Option (List Range32)) (os ps : List (Named Object)) (i : Image)
    → AreAlike os ps → described d ram os ≡ Ok i → tables_by (placed_by d ram os) ≡ tables_by (placed_by d ram ps)
described_tables (Ok s) ram os ps i alike h = nameless_tables (kind.Scatter s) ram os ps i alike h
described_tables (Err r) ram os ps i alike h =
    let (l, el, hl) = came (selection_of None os) (λ l. Err r) i h in
    absurd (let bad : ◌≡◌ {A = Result Image Refusal} (Err r) (Ok i) = hl in cc)

pub nameless_scatter_tables : NamelessScatterTables
nameless_scatter_tables text ram os ps i alike h = described_tables (scatter_of text) ram os ps i alike h
