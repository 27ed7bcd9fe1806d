-- What is selected exports each name once and has one entry, and a link that is answered is made of it.
use Rattle.std.proofs.Common.{◌≡◌, inl, inr, ◌⊎◌, ℕ, zero, suc, ◌+◌, ◌%◌, ◌<◌, ◌≤◌, Bool, true, false, cond, ◌||◌, nat_lt, if◌then◌else◌, List, [], ◌∷◌, ◌++◌, Option, Some, None, Result, Ok, Err, refl, sym, ap, ◌∙◌, subst, arith}
use Rattle.std.specs.Prelude.{is_some, slice_get, IsSomeAnd}
use Rattle.std.specs.List.{AllByRecursion}
use Rattle.std.specs.Option.{option_map}
use Rattle.std.specs.Str.{bytes_eq}
use Rattle.std.proofs.lemmas.Bool.{cases_lt}
use Rattle.std.proofs.lemmas.Option.{slice_get-map}
use Rattle.std.proofs.lemmas.Slice.Eq.{bytes_eq-Decides}
use Rattle.sdt_word.specs.declared.ranges.Range32.{Range32}
use Rattle.sdt_fault.specs.declared.kinds.Quantity.{Quantity}
use Rattle.sdt_fault.specs.declared.kinds.Quantity.TheVariants.{Areas, Symbols}
use Rattle.sdt_fault.specs.declared.refusal.Refusal.{Refusal}
use Rattle.sdt_fault.specs.declared.refusal.Refusal.TheVariants.{TooLarge}
use Rattle.chunk_file.specs.Reading.{◌>>=◌, EachStands}
use Rattle.aof_object.specs.declared.areas.AreaHead.{AreaHead}
use Rattle.aof_object.specs.declared.records.Entry.{Entry}
use Rattle.aof_object.specs.declared.records.Object.{Object}
use Rattle.aof_object.specs.declared.records.Symbol.{Symbol}
use Rattle.aof_object.specs.Checks.{is_exported}
use Rattle.aof_object.specs.Names.{Lacks, among}
use Rattle.aof_object.specs.Objects.{exported}
use Rattle.aof_object.specs.Validity.{IsSymbol, IsValid, heads}
use Rattle.place_model.specs.declared.scatter.Kind.{Kind}
use Rattle.place_model.specs.Assignment.{description, described_regions}
use Rattle.place_model.specs.Laws.{IsWholeBase}
use Rattle.place_model.proofs.ListLemmas.{all_at}
use Rattle.link_model.specs.declared.images.Image.{Image}
use Rattle.link_model.specs.declared.placing.AreaName.{AreaName}
use Rattle.link_model.specs.declared.placing.Assigned.{Assigned}
use Rattle.link_model.specs.declared.placing.Placement.{Placement}
use Rattle.link_model.specs.declared.placing.Veneer.{Veneer}
use Rattle.link_model.specs.declared.selection.Linked.{Linked}
use Rattle.link_model.specs.declared.selection.LinkedEntry.{LinkedEntry}
use Rattle.link_model.specs.declared.selection.Named.{Named}
use Rattle.link_model.specs.Chosen.{exports}
use Rattle.link_model.specs.Definitions.{definitions_from, is_thumb, linked_entry}
use Rattle.link_model.specs.Members.{link_of, objects_in}
use Rattle.link_model.specs.Options.{refused_or}
use Rattle.link_model.specs.RegionValues.{number_of_region}
use Rattle.link_select.specs.declared.entries.Entered.{Entered}
use Rattle.link_select.specs.Entries.{entered_by, entered_from, only_entry}
use Rattle.link_select.specs.Exports.{duplicate}
use Rattle.link_select.specs.Laws.{AreDefinedOnce, ExportsAt, HaveMeanings, SaysDuplicate}
use Rattle.link_select.specs.Selection.{count_areas, count_symbols, judged, limited, refused, selection_of}
use Rattle.link_select.specs.Undefined.{undefined}
use Rattle.link_select.proofs.LawLemmas.{duplicate_law, kept}
use Rattle.link_select.proofs.MeaningLemmas.{meanings_exist}
use Rattle.link_items.specs.LinkedItems.{contents_of, has_header}
use Rattle.link_assign.specs.Assigning.{assignment_of}
use Rattle.link_veneer.specs.Planning.{planned_veneers}
use Rattle.link_place.specs.Placed.{placed, placement_of}
use Rattle.link_apply.specs.Applied.{applied}
use Rattle.link_apply.specs.Flaws.{apply_refusal}
use Rattle.link_apply.specs.Laws.{AreBytes}
use Rattle.link_apply.specs.RegionBytes.{regions_bytes}
use Rattle.link_laws.specs.Joins.{IsMade}
use Rattle.link_laws.specs.Placing.{IsPlacedLink, link_plan}
use Rattle.link_laws.specs.Plans.{AreExportedOnce, AreMeant, IsExport, IsSelection, numbers_by}
use Rattle.link_laws.proofs.Made.PlacedLemmas.{is_placement}
use Rattle.link_laws.proofs.Plans.Numbers.{numbered}
use Rattle.armlink_core.specs.declared.making.PlacedImage.{PlacedImage}
use Rattle.armlink_core.specs.Linking.{made_at, made_of, made_with, symbols_of}
use Rattle.armlink_core.specs.Images.{image_made, image_of, linking}
use Rattle.armlink_core.specs.Moves.{can_move, moves_in}
use Rattle.link_shifts.specs.Moves.{moved as moved_list}
use Rattle.sdt_toolkit.specs.Starting.{AreSound}

-- ---- answers

pub ok_same : {A : Type 0} (a b : A) → ◌≡◌ {A = Result A Refusal} (Ok a) (Ok b) → a ≡ b
ok_same a b h = cc

pub steps_ok : {A B : Type 0} (x : Result A Refusal) (f : A → Result B Refusal) (b : B) → (x >>= f) ≡ Ok b → (a : A) × (x ≡ Ok a) × (f a ≡ Ok b)
steps_ok (Ok a) f b h = (a, refl, h)
steps_ok {B = B} (Err r) f b h = absurd (let bad : ◌≡◌ {A = Result B Refusal} (Err r) (Ok b) = h in cc)

pub not_refused : {A : Type 0} (o : Option Refusal) (x y : A) → refused_or o x ≡ Ok y → (o ≡ None) × (y ≡ x)
not_refused None x y h = (refl, cc)
not_refused (Some r) x y h = absurd cc

past_refusal : {A : Type 0} (o : Option Refusal) (next : Result A Refusal) (a : A) → refused o next ≡ Ok a → next ≡ Ok a
past_refusal None next a h = h
past_refusal {A = A} (Some r) next a h = absurd (let bad : ◌≡◌ {A = Result A Refusal} (Err r) (Ok a) = h in cc)

past_limit : {A : Type 0} (q : Quantity) (limit n : ℕ) (next : Result A Refusal) (a : A) → limited q limit n next ≡ Ok a → next ≡ Ok a
past_limit {A = A} q limit n next a h = go (nat_lt limit n) h
  where
    go : (b : Bool) → cond b (Err (TooLarge q limit)) next ≡ Ok a → next ≡ Ok a
    go true e = absurd (let bad : ◌≡◌ {A = Result A Refusal} (Err (TooLarge q limit)) (Ok a) = e in cc)
    go false e = e

-- ---- exports of one object

lacks_among : (ns : List (List ℕ)) (q : List ℕ) → Lacks ns q → among q ns ≡ true → ⊥
lacks_among [] q lacks h = cc
lacks_among (n ∷ ns) q lacks h = go (bytes_eq n q) refl h (λ g. lacks_among ns q lacks.1 g)
  where
    go : (b : Bool) → bytes_eq n q ≡ b → (b || among q ns) ≡ true → (among q ns ≡ true → ⊥) → ⊥
    go true e g rest = lacks.0 ((bytes_eq-Decides n q).0 e)
    go false e g rest = rest g

among_there : (q : List ℕ) (ss : List Symbol) (k : ℕ) (s : Symbol) → slice_get ss k ≡ Some s → is_exported s.attributes ≡ true → s.name ≡ q → among q (exported ss) ≡ true
among_there q [] k s at is named = absurd cc
among_there q (t ∷ ss) zero s at is named =
    let same : t ≡ s = cc in
    let exports : is_exported t.attributes ≡ true = ap (λ (z : Symbol). is_exported z.attributes) same ∙ is in
    let equal : bytes_eq t.name q ≡ true = (bytes_eq-Decides t.name q).1 (ap (λ (z : Symbol). z.name) same ∙ named) in
    ap (λ (b : Bool). among q (cond b (t.name ∷ exported ss) (exported ss))) exports ∙ ap (λ (b : Bool). b || among q (exported ss)) equal
among_there q (t ∷ ss) (suc k) s at is named = go (is_exported t.attributes) (among_there q ss k s at is named)
  where
    any : (b : Bool) → among q (exported ss) ≡ true → (b || among q (exported ss)) ≡ true
    any true h = refl
    any false h = h

    go : (b : Bool) → among q (exported ss) ≡ true → among q (cond b (t.name ∷ exported ss) (exported ss)) ≡ true
    go true h = any (bytes_eq t.name q) h
    go false h = h

get_front : {X : Type 0} (xs ys : List X) (k : ℕ) (x : X) → slice_get xs k ≡ Some x → slice_get (xs ++ ys) k ≡ Some x
get_front [] ys k x h = absurd cc
get_front (z ∷ xs) ys zero x h = h
get_front (z ∷ xs) ys (suc k) x h = get_front xs ys k x h

get_last : {X : Type 0} (xs : List X) (x : X) → (k : ℕ) × (slice_get (xs ++ x ∷ []) k ≡ Some x)
get_last [] x = (0, refl)
get_last (z ∷ xs) x = let (k, e) = get_last xs x in (suc k, e)

abbrev Stand : List AreaHead → List Symbol → List Symbol → Type 0
Stand areas before ss = EachStands (λ past s. IsSymbol (exported past) areas s) before ss

-- no symbol behind some exports a name that one of these exports
fresh : (areas : List AreaHead) (before ss : List Symbol) → Stand areas before ss → (i j : ℕ) (s t : Symbol) → slice_get before i ≡ Some s → slice_get ss j ≡ Some t
    → is_exported s.attributes ≡ true → is_exported t.attributes ≡ true → s.name ≡ t.name → ⊥
fresh areas before [] h i j s t first second one other same = cc
fresh areas before (u ∷ ss) h i zero s t first second one other same =
    let is : u ≡ t = cc in
    let lacks : Lacks (exported before) t.name = subst (λ (z : Symbol). Lacks (exported before) z.name) is (h.0.fresh (ap (λ (z : Symbol). is_exported z.attributes) is ∙ other)) in
    lacks_among (exported before) t.name lacks (among_there t.name before i s first one same)
fresh areas before (u ∷ ss) h i (suc j) s t first second one other same = fresh areas (before ++ u ∷ []) ss h.1 i j s t (get_front before (u ∷ []) i s first) second one other same

apart : (areas : List AreaHead) (before ss : List Symbol) → Stand areas before ss → (k j : ℕ) (s t : Symbol) → k < j → slice_get ss k ≡ Some s → slice_get ss j ≡ Some t
    → is_exported s.attributes ≡ true → is_exported t.attributes ≡ true → s.name ≡ t.name → ⊥
apart areas before [] h k j s t lt first second one other same = cc
apart areas before (u ∷ ss) h k zero s t lt first second one other same = omega (arith, lt)
apart areas before (u ∷ ss) h zero (suc j) s t lt first second one other same =
    let (i, last) = get_last before u in
    let is : u ≡ s = cc in
    fresh areas (before ++ u ∷ []) ss h.1 i j s t (last ∙ ap Some is) second one other same
apart areas before (u ∷ ss) h (suc k) (suc j) s t lt first second one other same = apart areas (before ++ u ∷ []) ss h.1 k j s t (omega (arith, lt)) first second one other same

-- ---- exports of all objects

exports_there : (os : List (Named Object)) (q : List ℕ) (own k : ℕ) (s : Symbol) → IsExport os q own k s → ExportsAt (objects_in os) q own
exports_there os q own k s e =
    let at : slice_get (objects_in os) own ≡ Some e.object.value = slice_get-map (λ (o : Named Object). o.value) os own ∙ ap (option_map (λ (o : Named Object). o.value)) e.there in
    subst (λ (o : Option Object). IsSomeAnd o (λ v. exports v q ≡ true)) (sym at) (among_there q e.object.value.symbols k s e.symbol e.exported e.named)

defined_once : (os : List (Named Object)) → duplicate os ≡ None → AreDefinedOnce (objects_in os)
defined_once os none = subst (SaysDuplicate os) none (duplicate_law os)

module _ (os : List (Named Object)) (valid : AllByRecursion (λ o. IsValid o.value) os) (once : AreDefinedOnce (objects_in os)) (q : List ℕ) where
  one_object : (own k other j : ℕ) (s t : Symbol) → IsExport os q own k s → IsExport os q other j t → own ≡ other
  one_object own k other j s t e f = go (cases_lt own other) (cases_lt other own)
    where
      go : (own < other) ⊎ (other ≤ own) → (other < own) ⊎ (own ≤ other) → own ≡ other
      go (inl lt) two = absurd (once q own other lt (exports_there os q own k s e) (exports_there os q other j t f))
      go (inr le) (inl lt) = absurd (once q other own lt (exports_there os q other j t f) (exports_there os q own k s e))
      go (inr le) (inr ge) = omega (arith, le, ge)

  one_symbol : (own k j : ℕ) (s t : Symbol) → IsExport os q own k s → IsExport os q own j t → k ≡ j
  one_symbol own k j s t e f = go (cases_lt k j) (cases_lt j k)
    where
      same : e.object ≡ f.object
      same = let both : Some e.object ≡ Some f.object = sym e.there ∙ f.there in cc

      there : slice_get e.object.value.symbols j ≡ Some t
      there = ap (λ (o : Named Object). slice_get o.value.symbols j) same ∙ f.symbol

      stand : Stand (heads e.object.value.areas) [] e.object.value.symbols
      stand = let is : IsValid e.object.value = all_at (λ (o : Named Object). IsValid o.value) os own e.object valid e.there in is.symbols

      go : (k < j) ⊎ (j ≤ k) → (j < k) ⊎ (k ≤ j) → k ≡ j
      go (inl lt) two = absurd (apart (heads e.object.value.areas) [] e.object.value.symbols stand k j s t lt e.symbol there e.exported f.exported (e.named ∙ sym f.named))
      go (inr le) (inl lt) = absurd (apart (heads e.object.value.areas) [] e.object.value.symbols stand j k t s lt there e.symbol f.exported e.exported (f.named ∙ sym e.named))
      go (inr le) (inr ge) = omega (arith, le, ge)

exported_once : (os : List (Named Object)) → AllByRecursion (λ o. IsValid o.value) os → AreDefinedOnce (objects_in os) → AreExportedOnce os
exported_once os valid once q own k other j s t e f =
    let object : own ≡ other = one_object os valid once q own k other j s t e f in
    (object, one_symbol os valid once q own k j s t e (subst (λ (i : ℕ). IsExport os q i j t) (sym object) f))

-- ---- the entry

-- of objects that are counted from i on
record IsEntryFrom (i : ℕ) (os : List (Named Object)) (e : LinkedEntry) : Type 0 where
  pub place : ℕ
  pub object : Named Object
  pub at : slice_get os place ≡ Some object
  pub number : e.object ≡ i + place
  pub entry : object.value.entry ≡ Some (record { area = e.area; offset = e.offset })
  pub state : e.thumb ≡ is_thumb (slice_get object.value.areas e.area)
  pub only : (other : ℕ) (o : Named Object) (f : Entry) → slice_get os other ≡ Some o → o.value.entry ≡ Some f → other ≡ place

no_entry : (i : ℕ) (os : List (Named Object)) → entered_from i os ≡ [] → (other : ℕ) (o : Named Object) (f : Entry) → slice_get os other ≡ Some o → o.value.entry ≡ Some f → ⊥
no_entry i [] h other o f at is = cc
no_entry i (p ∷ os) h other o f at is = go p.value.entry refl h other at (λ g other at. no_entry (suc i) os g other o f at is)
  where
    go : (e : Option Entry) → p.value.entry ≡ e → entered_by i p e ++ entered_from (suc i) os ≡ [] → (other : ℕ) → slice_get (p ∷ os) other ≡ Some o
        → (entered_from (suc i) os ≡ [] → (other : ℕ) → slice_get os other ≡ Some o → ⊥) → ⊥
    go None e g zero at rest = let same : p ≡ o = cc in let none : None ≡ Some f = sym e ∙ ap (λ (z : Named Object). z.value.entry) same ∙ is in cc
    go None e g (suc other) at rest = rest g other at
    go (Some x) e g other at rest = cc

entry_here : (i : ℕ) (o : Named Object) (os : List (Named Object)) (f : Entry) → o.value.entry ≡ Some f → entered_from (suc i) os ≡ [] → IsEntryFrom i (o ∷ os) (linked_entry i o.value f)
entry_here i o os f h none = record { place = 0; object = o; at = refl; number = omega arith; entry = h; state = refl; only = alone }
  where
    alone : (other : ℕ) (p : Named Object) (g : Entry) → slice_get (o ∷ os) other ≡ Some p → p.value.entry ≡ Some g → other ≡ 0
    alone zero p g at is = refl
    alone (suc other) p g at is = absurd (no_entry (suc i) os none other p g at is)

entry_later : (i : ℕ) (o : Named Object) (os : List (Named Object)) (e : LinkedEntry) → o.value.entry ≡ None → IsEntryFrom (suc i) os e → IsEntryFrom i (o ∷ os) e
entry_later i o os e none f =
    record { place = suc f.place; object = f.object; at = f.at; number = omega (arith, f.number); entry = f.entry; state = f.state; only = alone }
  where
    alone : (other : ℕ) (p : Named Object) (g : Entry) → slice_get (o ∷ os) other ≡ Some p → p.value.entry ≡ Some g → other ≡ suc f.place
    alone zero p g at is = let same : o ≡ p = cc in absurd (let bad : None ≡ Some g = sym none ∙ ap (λ (z : Named Object). z.value.entry) same ∙ is in cc)
    alone (suc other) p g at is = ap suc (f.only other p g at is)

entry_from : (i : ℕ) (os : List (Named Object)) (x : Entered) → entered_from i os ≡ x ∷ [] → IsEntryFrom i os x.entry
entry_from i [] x h = absurd cc
entry_from i (o ∷ os) x h = go o.value.entry refl h (λ k. entry_from (suc i) os x k)
  where
    go : (e : Option Entry) → o.value.entry ≡ e → entered_by i o e ++ entered_from (suc i) os ≡ x ∷ [] → (entered_from (suc i) os ≡ x ∷ [] → IsEntryFrom (suc i) os x.entry)
        → IsEntryFrom i (o ∷ os) x.entry
    go None at k later = entry_later i o os x.entry at (later k)
    go (Some f) at k later =
        let first : record { name = o.name; entry = linked_entry i o.value f } ≡ x = cc in
        let none : entered_from (suc i) os ≡ [] = cc in
        subst (λ (y : Entered). IsEntryFrom i (o ∷ os) y.entry) first (entry_here i o os f at none)

only_one : (es : List Entered) (e : LinkedEntry) → only_entry es ≡ Ok e → (x : Entered) × (es ≡ x ∷ []) × (x.entry ≡ e)
only_one [] e h = absurd cc
only_one (x ∷ []) e h = (x, refl, ok_same x.entry e h)
only_one (x ∷ y ∷ es) e h = absurd cc

judged_entry : (regions : Option (List (List ℕ))) (os : List (Named Object)) (e : LinkedEntry) → judged regions os ≡ Ok e → IsEntryFrom 0 os e
judged_entry regions os e h =
    let limits : LinkedEntry → Result LinkedEntry Refusal = λ e. limited Areas 65535 (count_areas os) (limited Symbols 1000000 (count_symbols os) (Ok e)) in
    let chosen : Result LinkedEntry Refusal = only_entry (entered_from 0 os) >>= limits in
    let h1 : chosen ≡ Ok e = past_refusal (undefined regions os) chosen e (past_refusal (duplicate os) (refused (undefined regions os) chosen) e h) in
    let (f, only, within) = steps_ok (only_entry (entered_from 0 os)) limits e h1 in
    let same : f ≡ e = ok_same f e (past_limit Symbols 1000000 (count_symbols os) (Ok f) e (past_limit Areas 65535 (count_areas os) (limited Symbols 1000000 (count_symbols os) (Ok f)) e within)) in
    let (x, list, entry) = only_one (entered_from 0 os) f only in
    subst (IsEntryFrom 0 os) (entry ∙ same) (entry_from 0 os x list)

-- ---- what is selected

pub record IsSelected (os : List (Named Object)) (l : Linked) : Type 0 where
  pub objects : l.objects ≡ os
  pub selection : IsSelection l

selected_by : (os : List (Named Object)) (e : LinkedEntry) → AreExportedOnce os → IsEntryFrom 0 os e
    → IsSelected os (record { objects = os; definitions = definitions_from 0 (objects_in os); entry = e })
selected_by os e once f =
    let place : f.place ≡ e.object = let n = f.number in omega (arith, n) in
    record {
      objects = refl;
      selection = record {
        definitions = refl;
        once = once;
        entered = record { object = f.object; at = subst (λ (n : ℕ). slice_get os n ≡ Some f.object) place f.at; entry = f.entry; state = f.state };
        only = λ other o g at is. f.only other o g at is ∙ place;
      };
    }

pub selected : (regions : Option (List (List ℕ))) (os : List (Named Object)) (l : Linked) → AllByRecursion (λ o. IsValid o.value) os → selection_of regions os ≡ Ok l → IsSelected os l
unfolding selection_of
selected regions os l valid h =
    let (e, judge, is) = steps_ok (judged regions os) (λ e. Ok (record { objects = os; definitions = definitions_from 0 (objects_in os); entry = e })) l h in
    let one : Linked = record { objects = os; definitions = definitions_from 0 (objects_in os); entry = e } in
    subst (IsSelected os) (ok_same one l is)
    (selected_by os e (exported_once os valid (defined_once os (kept regions os l h).0)) (judged_entry regions os e judge))

-- where its regions have these symbols, each of its symbols has a meaning by its plan
pub meant_by : (k : Kind) (ram : Option (List Range32)) (l : Linked) (regions : List (List AreaName)) (vs : List Veneer) → IsPlacedLink k ram l regions vs
    → (names : List (List ℕ)) → HaveMeanings (Some names) l
    → ((q : List ℕ) → among q names ≡ true → is_some (number_of_region (placement_of (link_plan k l regions vs)) q) ≡ true) → AreMeant (link_plan k l regions vs) l
meant_by k ram l regions vs h names meanings each = λ own i s there scope.
    meanings (numbers_by (link_plan k l regions vs) l.objects) own i s (numbered k ram l regions vs h names each) there scope

-- ---- a link that is answered

abbrev pub made_by : (l : Linked) → Assigned → List Veneer → Placement → PlacedImage
made_by l a vs p = record { linked = l; assigned = a; veneers = vs; placement = p; bytes = regions_bytes (link_of l) p }

-- it is made with a placement, and the image is that
pub record IsAnsweredBy (k : Kind) (ram : Option (List Range32)) (i : Image) (l : Linked) (a : Assigned) (vs : List Veneer) (p : Placement) : Type 0 where
  pub made : IsMade k ram l a vs p
  pub moves : List ℕ
  pub listed : moves_in k l p ≡ Ok moves
  pub image : image_of k (made_by l a vs p) moves ≡ i

-- the placement is that of its plan
pub record IsAnswered (k : Kind) (ram : Option (List Range32)) (os : List (Named Object)) (i : Image) : Type 0 where
  pub linked : Linked
  pub assigned : Assigned
  pub veneers : List Veneer
  pub objects : linked.objects ≡ os
  pub selection : IsSelection linked
  pub meanings : HaveMeanings (Some (symbols_of k)) linked
  pub answer : IsAnsweredBy k ram i linked assigned veneers (placement_of (link_plan k linked assigned.regions veneers))

nothing_moves : (k : Kind) (l : Linked) (p : Placement) → can_move k ≡ false → moves_in k l p ≡ Ok []
nothing_moves k l p fixed = ap (λ (b : Bool). if b then moved_list l p else Ok []) fixed

-- the image of a link of which nothing moves
pub still_image : (k : Kind) (ram : Option (List Range32)) (i : Image) (l : Linked) (a : Assigned) (vs : List Veneer) (p : Placement) → can_move k ≡ false → (n : IsAnsweredBy k ram i l a vs p)
    → image_of k (made_by l a vs p) [] ≡ i
still_image k ram i l a vs p fixed n =
    let none : [] ≡ n.moves = ok_same [] n.moves (sym (nothing_moves k l p fixed) ∙ n.listed) in
    ap (λ (moves : List ℕ). image_of k (made_by l a vs p) moves) none ∙ n.image

module _ (k : Kind) (ram : Option (List Range32)) (os : List (Named Object)) (i : Image) (sound : AreSound os)
    (loads : AllByRecursion (λ load. load.base % 4 ≡ 0) (description k)) (bases : AllByRecursion (λ r. IsWholeBase r.base) (described_regions k)) where
  with_placement : (l : Linked) (a : Assigned) (vs : List Veneer) (p : Placement) (m : PlacedImage) (moves : List ℕ) → IsSelected os l → assignment_of k l.objects ≡ Ok a
      → planned_veneers l a (has_header k) ≡ Ok vs → placed k ram (contents_of l.objects a.regions vs) ≡ Ok p → made_at l a vs p ≡ Ok m
      → moves_in k m.linked m.placement ≡ Ok moves → image_of k m moves ≡ i → IsAnsweredBy k ram i l a vs p
  with_placement l a vs p m moves s assigned planned places made listed image =
      let (bytes, applies, is) = steps_ok (applied l p) (λ bytes. Ok (record { linked = l; assigned = a; veneers = vs; placement = p; bytes = bytes })) m made in
      let one : PlacedImage = record { linked = l; assigned = a; veneers = vs; placement = p; bytes = bytes } in
      let (none, same) = not_refused (apply_refusal l p) (regions_bytes (link_of l) p) bytes applies in
      record {
        made = record {
          valid = subst (λ (xs : List (Named Object)). AllByRecursion (λ o. IsValid o.value) xs) (sym s.objects) sound.valid;
          bytes = subst (λ (xs : List (Named Object)). AllByRecursion (λ o. AllByRecursion (λ z. AreBytes z.bytes) o.value.areas) xs) (sym s.objects) sound.bytes;
          loads = loads;
          bases = bases;
          entered = s.selection.entered;
          assigned = assigned;
          planned = planned;
          placed = places;
          sound = none;
        };
        moves = moves;
        listed = subst (λ (n : PlacedImage). moves_in k n.linked n.placement ≡ Ok moves) (sym (ok_same one m is)) listed;
        image = ap (λ (b : List (List ℕ)). image_of k (record { linked = l; assigned = a; veneers = vs; placement = p; bytes = b }) moves) (sym same)
            ∙ ap (λ (n : PlacedImage). image_of k n moves) (ok_same one m is) ∙ image;
      }

  pub answered : linking k ram os ≡ Ok i → IsAnswered k ram os i
  answered h =
      let (l, selection, behind) = steps_ok (selection_of (Some (symbols_of k)) os) (λ l. made_of k ram l >>= image_made k) i h in
      let (m, made, image) = steps_ok (made_of k ram l) (image_made k) i behind in
      let (moves, listed, is) = steps_ok (moves_in k m.linked m.placement) (λ moves. Ok (image_of k m moves)) i image in
      let (a, assigned, behind_regions) = steps_ok (assignment_of k l.objects) (made_with k ram l) m made in
      let (vs, planned, behind_veneers) = steps_ok (planned_veneers l a (has_header k)) (λ vs. placed k ram (contents_of l.objects a.regions vs) >>= made_at l a vs) m behind_regions in
      let (p, places, behind_places) = steps_ok (placed k ram (contents_of l.objects a.regions vs)) (made_at l a vs) m behind_veneers in
      let s : IsSelected os l = selected (Some (symbols_of k)) os l sound.valid selection in
      let answer : IsAnsweredBy k ram i l a vs p = with_placement l a vs p m moves s assigned planned places behind_places listed (ok_same (image_of k m moves) i is) in
      record {
        linked = l;
        assigned = a;
        veneers = vs;
        objects = s.objects;
        selection = s.selection;
        meanings = meanings_exist (Some (symbols_of k)) os (Ok l) selection;
        answer = subst (IsAnsweredBy k ram i l a vs) (is_placement k ram l a vs p answer.made) answer;
      }
