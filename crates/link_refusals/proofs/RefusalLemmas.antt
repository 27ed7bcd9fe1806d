-- What the refusals of a link say follows from the definitions that they are told by.
use Rattle.std.proofs.Common.{◌≡◌, ◌⊎◌, inl, inr, ℕ, zero, suc, ◌<◌, Bool, true, false, if◌then◌else◌, List, [], ◌∷◌, Option, Some, None, Result, Ok, Err, refl, sym, ap, subst, ◌∙◌, arith}
use Rattle.std.specs.Prelude.{slice_get, ◌↔◌}
use Rattle.std.specs.List.{cons_option, filter_map}
use Rattle.std.specs.Option.{option_map, option_or}
use Rattle.base_lemmas.proofs.BaseLemmas.{same}
use Rattle.sdt_word.specs.declared.ranges.Range32.{Range32}
use Rattle.sdt_fault.specs.declared.refusal.Refusal.{Refusal}
use Rattle.sdt_fault.specs.declared.refusal.Refusal.TheVariants.{Ambiguous, NoRoot, Unassigned}
use Rattle.chunk_file.specs.Reading.{◌>>=◌}
use Rattle.aof_object.specs.declared.records.Object.{Object}
use Rattle.place_model.specs.declared.scatter.Kind.{Kind}
use Rattle.place_model.specs.Items.{Item}
use Rattle.place_model.specs.Assignment.{Found, Nowhere, Offer, Unclear, Within, assignment_refusal, best, found, offers_of, refused as unplaced}
use Rattle.place_model.specs.Plans.{Plan, Planned, is_root, regions_of}
use Rattle.place_model.specs.Faults.{Meeting, aif_too_large, as_conflict, as_overlap, copy_conflict, execution_meeting, first_meeting, first_told, judged, load_meeting, not_writable, overfull, overlap, place_refusal, rootless, too_large, unwritable}
use Rattle.place_model.specs.Laws.{AssignmentLaw, IsFirstMeeting, IsFirstTold, IsOnlyBest, MeetingLaw, OfFirst, OfFound, OfMeeting, ToldLaw}
use Rattle.link_model.specs.declared.selection.Linked.{Linked}
use Rattle.link_model.specs.declared.selection.LinkedEntry.{LinkedEntry}
use Rattle.link_model.specs.declared.selection.Named.{Named}
use Rattle.link_model.specs.Definitions.{definitions_from}
use Rattle.link_model.specs.Members.{objects_in}
use Rattle.link_model.specs.Options.{refused_or}
use Rattle.link_items.specs.LinkedItems.{items_in}
use Rattle.link_assign.specs.Assigning.{assignment_of}
use Rattle.link_assign.specs.Keeping.{report_name}
use Rattle.link_select.specs.Exports.{duplicate}
use Rattle.link_select.specs.Laws.{DuplicateLaw, FirstLacking, SaysDuplicate, SaysUndefined, UndefinedLaw}
use Rattle.link_select.specs.Selection.{refused, selection_of}
use Rattle.link_select.specs.Undefined.{is_known, undefined}
use Rattle.link_refusals.specs.Refusals.{AreApart, FirstHomeless, HaveRoom, IsConflict, IsHomeless, IsOverlap, IsRootless, IsUnwritable, RefusalsLaw, SaysOfNames, SaysOfPlan, StartsInRoot, copies, entry_within, execution_ranges, load_ranges}

-- ---- steps that fail

pub err_inj : {A : Type 0} (r q : Refusal) → ◌≡◌ {A = Result A Refusal} (Err r) (Err q) → r ≡ q
err_inj {A} r q e = cc

-- a step fails, or what comes behind it does
pub bind_err : {A B : Type 0} (x : Result A Refusal) (f : A → Result B Refusal) (r : Refusal) → (x >>= f) ≡ Err r → (x ≡ Err r) ⊎ ((y : A) × (x ≡ Ok y) × (f y ≡ Err r))
bind_err (Ok y) f r e = inr (y, refl, e)
bind_err {A} {B} (Err q) f r e = inl (ap (λ (z : Refusal). Err z) (err_inj {A = B} q r e))

refused_err : {A : Type 0} (o : Option Refusal) (x : A) (r : Refusal) → refused_or o x ≡ Err r → o ≡ Some r
refused_err None x r e = absurd cc
refused_err {A} (Some q) x r e = ap (λ (z : Refusal). Some z) (err_inj {A = A} q r e)

or_split : (a b : Option Refusal) (r : Refusal) → option_or a b ≡ Some r → (a ≡ Some r) ⊎ ((a ≡ None) × (b ≡ Some r))
or_split None b r e = inr (refl, e)
or_split (Some q) b r e = inl e

map_split : (f : Meeting → Refusal) (o : Option Meeting) (r : Refusal) → option_map f o ≡ Some r → (m : Meeting) × (o ≡ Some m) × (r ≡ f m)
map_split f None r e = absurd cc
map_split f (Some m) r e = (m, refl, let same : ◌≡◌ {A = Option Refusal} (Some (f m)) (Some r) = e in let is : f m ≡ r = cc in sym is)

map_none : (f : Meeting → Refusal) (o : Option Meeting) → option_map f o ≡ None → o ≡ None
map_none f None e = refl
map_none f (Some m) e = absurd cc

or_none : (a b : Option Meeting) → option_or a b ≡ None → (a ≡ None) × (b ≡ None)
or_none None b e = (refl, e)
or_none (Some m) b e = absurd cc

or_some : (a b : Option Meeting) (m : Meeting) → option_or a b ≡ Some m → (a ≡ Some m) ⊎ ((a ≡ None) × (b ≡ Some m))
or_some None b m e = inr (refl, e)
or_some (Some n) b m e = inl e

-- ---- the plan

root_told : (p : Plan) (r : Refusal) (rs : List Planned) → regions_of p ≡ rs → rootless rs ≡ Some r → IsRootless p r
root_told p r [] e h = absurd cc
root_told p r (x ∷ xs) e h = go (is_root x) refl h
  where
    go : (b : Bool) → is_root x ≡ b → (if b then None else Some (NoRoot x.name)) ≡ Some r → IsRootless p r
    go true t k = absurd cc
    go false t k =
        let same : ◌≡◌ {A = Option Refusal} (Some (NoRoot x.name)) (Some r) = k in
        let is : NoRoot x.name ≡ r = cc in
        record { region = x; first = ap (λ (l : List Planned). slice_get l 0) e; moved = t; told = sym is }

root_there : (p : Plan) (rs : List Planned) → regions_of p ≡ rs → rootless rs ≡ None → StartsInRoot p
root_there p [] e h r at = absurd (let bad : ◌≡◌ {A = Option Planned} None (Some r) = sym (ap (λ (l : List Planned). slice_get l 0) e) ∙ at in cc)
root_there p (x ∷ xs) e h r at = go (is_root x) refl h
  where
    is : x ≡ r
    is = let same : ◌≡◌ {A = Option Planned} (Some x) (Some r) = sym (ap (λ (l : List Planned). slice_get l 0) e) ∙ at in cc

    go : (b : Bool) → is_root x ≡ b → (if b then None else Some (NoRoot x.name)) ≡ None → is_root r ≡ true
    go true t k = sym (ap is_root is) ∙ t
    go false t k = absurd cc

module _ (meetings : MeetingLaw) (law : ToldLaw) (k : Kind) (ram : Option (List Range32)) (p : Plan) (r : Refusal) where
  by_meeting : (o : Option Meeting) → first_meeting (load_ranges p) ≡ o → OfMeeting (load_ranges p) o
  by_meeting o e = subst (OfMeeting (load_ranges p)) e (meetings (load_ranges p))

  by_execution : (o : Option Meeting) → first_meeting (execution_ranges p) ≡ o → OfMeeting (execution_ranges p) o
  by_execution o e = subst (OfMeeting (execution_ranges p)) e (meetings (execution_ranges p))

  by_copies : (o : Option Meeting) → first_meeting (copies p) ≡ o → OfMeeting (copies p) o
  by_copies o e = subst (OfMeeting (copies p)) e (meetings (copies p))

  overlap_told : (m : Meeting) → overlap p ≡ Some m → IsFirstMeeting (load_ranges p) m ⊎ (OfMeeting (load_ranges p) None × IsFirstMeeting (execution_ranges p) m)
  overlap_told m e = go (or_some (load_meeting p) (execution_meeting p) m e)
    where
      go : (load_meeting p ≡ Some m) ⊎ ((load_meeting p ≡ None) × (execution_meeting p ≡ Some m)) → IsFirstMeeting (load_ranges p) m ⊎ (OfMeeting (load_ranges p) None × IsFirstMeeting (execution_ranges p) m)
      go (inl h) = inl (by_meeting (Some m) h)
      go (inr (none, h)) = inr (by_meeting None none, by_execution (Some m) h)

  apart : overlap p ≡ None → AreApart p
  apart e = let (loads, regions) = or_none (load_meeting p) (execution_meeting p) e in (by_meeting None loads, by_execution None regions)

  unwritable_told : (o : Option (List Range32)) → ram ≡ o → not_writable o p ≡ Some r → IsUnwritable ram p r
  unwritable_told None e h = absurd cc
  unwritable_told (Some ranges) e h = (ranges, e, subst (OfFirst (unwritable ranges) (regions_of p)) h (law.first_unwritable ranges p))

  abbrev sizes : Option Refusal
  sizes = option_or (too_large p) (aif_too_large k p)

  -- the last two, which stand one behind the other
  limits : option_or (too_large p) (option_or (aif_too_large k p) (not_writable ram p)) ≡ Some r → (sizes ≡ Some r) ⊎ ((sizes ≡ None) × IsUnwritable ram p r)
  limits e = go (too_large p) (aif_too_large k p) e
    where
      go : (a b : Option Refusal) → option_or a (option_or b (not_writable ram p)) ≡ Some r → (option_or a b ≡ Some r) ⊎ ((option_or a b ≡ None) × IsUnwritable ram p r)
      go (Some q) b h = inl h
      go None (Some q) h = inl h
      go None None h = inr (refl, unwritable_told ram refl h)

  conflict : option_or (option_map as_conflict (copy_conflict p)) (option_or (too_large p) (option_or (aif_too_large k p) (not_writable ram p))) ≡ Some r
      → IsConflict p r ⊎ (OfMeeting (copies p) None × ((sizes ≡ Some r) ⊎ ((sizes ≡ None) × IsUnwritable ram p r)))
  conflict e = go (or_split (option_map as_conflict (copy_conflict p)) _ r e)
    where
      go : (option_map as_conflict (copy_conflict p) ≡ Some r) ⊎ ((option_map as_conflict (copy_conflict p) ≡ None) × (option_or (too_large p) (option_or (aif_too_large k p) (not_writable ram p)) ≡ Some r))
          → IsConflict p r ⊎ (OfMeeting (copies p) None × ((sizes ≡ Some r) ⊎ ((sizes ≡ None) × IsUnwritable ram p r)))
      go (inl h) = let (m, at, is) = map_split as_conflict (copy_conflict p) r h in inl (m, is, by_copies (Some m) at)
      go (inr (none, rest)) = inr (by_copies None (map_none as_conflict (copy_conflict p) none), limits rest)

  abbrev behind_overlap : Option Refusal
  behind_overlap = option_or (option_map as_conflict (copy_conflict p)) (option_or (too_large p) (option_or (aif_too_large k p) (not_writable ram p)))

  meets : option_or (option_map as_overlap (overlap p)) behind_overlap ≡ Some r
      → IsOverlap p r ⊎ (AreApart p × (IsConflict p r ⊎ (OfMeeting (copies p) None × ((sizes ≡ Some r) ⊎ ((sizes ≡ None) × IsUnwritable ram p r)))))
  meets e = go (or_split (option_map as_overlap (overlap p)) behind_overlap r e)
    where
      go : (option_map as_overlap (overlap p) ≡ Some r) ⊎ ((option_map as_overlap (overlap p) ≡ None) × (behind_overlap ≡ Some r))
          → IsOverlap p r ⊎ (AreApart p × (IsConflict p r ⊎ (OfMeeting (copies p) None × ((sizes ≡ Some r) ⊎ ((sizes ≡ None) × IsUnwritable ram p r)))))
      go (inl h) = let (m, at, is) = map_split as_overlap (overlap p) r h in inl (m, is, overlap_told m at)
      go (inr (none, rest)) = inr (apart (map_none as_overlap (overlap p) none), conflict rest)

  abbrev behind_room : Option Refusal
  behind_room = option_or (option_map as_overlap (overlap p)) behind_overlap

  room : first_told overfull (judged k p) ≡ None → HaveRoom k p
  room e n j at = (law.room j).0 (subst (OfFirst overfull (judged k p)) e (law.first_overfull k p) n j at)

  abbrev BehindRoot : Type 0
  BehindRoot =
      IsFirstTold overfull (judged k p) r
      ⊎ (HaveRoom k p × (IsOverlap p r ⊎ (AreApart p × (IsConflict p r ⊎ (OfMeeting (copies p) None × ((sizes ≡ Some r) ⊎ ((sizes ≡ None) × IsUnwritable ram p r)))))))

  full : option_or (first_told overfull (judged k p)) behind_room ≡ Some r → BehindRoot
  full e = go (or_split (first_told overfull (judged k p)) behind_room r e)
    where
      go : (first_told overfull (judged k p) ≡ Some r) ⊎ ((first_told overfull (judged k p) ≡ None) × (behind_room ≡ Some r)) → BehindRoot
      go (inl h) = inl (subst (OfFirst overfull (judged k p)) h (law.first_overfull k p))
      go (inr (none, rest)) = inr (room none, meets rest)

  plan_says : place_refusal k ram p ≡ Some r → SaysOfPlan k ram p r
  plan_says e = go (or_split (rootless (regions_of p)) (option_or (first_told overfull (judged k p)) behind_room) r e)
    where
      go : (rootless (regions_of p) ≡ Some r) ⊎ ((rootless (regions_of p) ≡ None) × (option_or (first_told overfull (judged k p)) behind_room ≡ Some r)) → SaysOfPlan k ram p r
      go (inl h) = inl (root_told p r (regions_of p) refl h)
      go (inr (none, rest)) = inr (root_there p (regions_of p) refl none, full rest)

-- ---- areas

behind : {X : Type 0} (wrong : X → Option Refusal) (x : X) (xs : List X) (r : Refusal) → wrong x ≡ None → IsFirstTold wrong xs r → IsFirstTold wrong (x ∷ xs) r
behind {X} wrong x xs r e f = record { place = suc f.place; x = f.x; at = f.at; told = f.told; none_before = before }
  where
    before : (k : ℕ) (y : X) → slice_get (x ∷ xs) k ≡ Some y → k < suc f.place → wrong y ≡ None
    before zero y at lt = let is : x ≡ y = same x y at in sym (ap wrong is) ∙ e
    before (suc k) y at lt = f.none_before k y at (omega arith)

first_wrong : {X : Type 0} (wrong : X → Option Refusal) (xs : List X) (r : Refusal) → slice_get (filter_map wrong xs) 0 ≡ Some r → IsFirstTold wrong xs r
first_wrong wrong [] r h = absurd cc
first_wrong {X} wrong (x ∷ xs) r h = go (wrong x) refl h (first_wrong wrong xs r)
  where
    go : (o : Option Refusal) → wrong x ≡ o → slice_get (cons_option o (filter_map wrong xs)) 0 ≡ Some r
        → (slice_get (filter_map wrong xs) 0 ≡ Some r → IsFirstTold wrong xs r) → IsFirstTold wrong (x ∷ xs) r
    go None e at rest = behind wrong x xs r e (rest at)
    go (Some q) e at rest = record { place = 0; x = x; at = refl; told = e ∙ at; none_before = λ k y there lt. absurd (omega arith) }

homeless_by : (law : AssignmentLaw) (offers : List Offer) (name : List ℕ) (i : Item) (r : Refusal) (f : Found) → found (best offers i) ≡ f → unplaced name i f ≡ Some r → IsHomeless offers name i r
homeless_by law offers name i r Nowhere e h =
    let same : ◌≡◌ {A = Option Refusal} (Some (Unassigned name i.name)) (Some r) = h in
    let is : Unassigned name i.name ≡ r = cc in
    inl (sym is, subst (OfFound offers i) e (law offers i))
homeless_by law offers name i r (Within o) e h = absurd cc
homeless_by law offers name i r (Unclear o p) e h =
    let same : ◌≡◌ {A = Option Refusal} (Some (Ambiguous name i.name o.selection.line p.selection.line)) (Some r) = h in
    let is : Ambiguous name i.name o.selection.line p.selection.line ≡ r = cc in
    inr (o, p, sym is, subst (OfFound offers i) e (law offers i))

housed_by : (law : AssignmentLaw) (offers : List Offer) (name : List ℕ) (i : Item) (f : Found) → found (best offers i) ≡ f → unplaced name i f ≡ None → (o : Offer) × IsOnlyBest offers i o
housed_by law offers name i Nowhere e h = absurd cc
housed_by law offers name i (Within o) e h = (o, subst (OfFound offers i) e (law offers i))
housed_by law offers name i (Unclear o p) e h = absurd cc

areas_say : AssignmentLaw → (k : Kind) (os : List (Named Object)) (r : Refusal) → assignment_of k os ≡ Err r → FirstHomeless k os r
areas_say law k os r e =
    let offers = offers_of k in
    let wrong : Item → Option Refusal = λ i. unplaced (report_name os i.object) i (found (best offers i)) in
    let at = refused_err (assignment_refusal (report_name os) offers (items_in os)) _ r e in
    let f : IsFirstTold wrong (items_in os) r = first_wrong wrong (items_in os) r at in
    record {
      place = f.place;
      item = f.x;
      at = f.at;
      homeless = homeless_by law offers (report_name os f.x.object) f.x r (found (best offers f.x)) refl f.told;
      none_before = λ n i there lt. housed_by law offers (report_name os i.object) i (found (best offers i)) refl (f.none_before n i there lt);
    }

-- ---- names

refused_split : {A : Type 0} (o : Option Refusal) (x : Result A Refusal) (r : Refusal) → refused o x ≡ Err r → (o ≡ Some r) ⊎ ((o ≡ None) × (x ≡ Err r))
refused_split None x r e = inr (refl, e)
refused_split {A} (Some q) x r e = inl (ap (λ (z : Refusal). Some z) (err_inj {A = A} q r e))

module _ (duplicates : DuplicateLaw) (undefineds : UndefinedLaw) (regions : Option (List (List ℕ))) (os : List (Named Object)) (r : Refusal) where
  abbrev Unknown : Type 0
  Unknown = FirstLacking (is_known regions (objects_in os)) os r ⊎ (SaysUndefined (is_known regions (objects_in os)) os None × (entry_within os ≡ Err r))

  lacking : refused (undefined regions os) (entry_within os) ≡ Err r → Unknown
  lacking e = go (refused_split (undefined regions os) (entry_within os) r e)
    where
      go : (undefined regions os ≡ Some r) ⊎ ((undefined regions os ≡ None) × (entry_within os ≡ Err r)) → Unknown
      go (inl at) = inl (subst (SaysUndefined (is_known regions (objects_in os)) os) at (undefineds regions os))
      go (inr (none, at)) = inr (subst (SaysUndefined (is_known regions (objects_in os)) os) none (undefineds regions os), at)

  judged_says : refused (duplicate os) (refused (undefined regions os) (entry_within os)) ≡ Err r → SaysOfNames regions os r
  judged_says e = go (refused_split (duplicate os) (refused (undefined regions os) (entry_within os)) r e)
    where
      go : (duplicate os ≡ Some r) ⊎ ((duplicate os ≡ None) × (refused (undefined regions os) (entry_within os) ≡ Err r)) → SaysOfNames regions os r
      go (inl at) = inl (subst (SaysDuplicate os) at (duplicates os))
      go (inr (none, rest)) = inr (subst (SaysDuplicate os) none (duplicates os), lacking rest)

  names_say : selection_of regions os ≡ Err r → SaysOfNames regions os r
  unfolding selection_of
  names_say e = go (bind_err (refused (duplicate os) (refused (undefined regions os) (entry_within os))) _ r e)
    where
      go : (refused (duplicate os) (refused (undefined regions os) (entry_within os)) ≡ Err r)
          ⊎ ((entry : LinkedEntry) × (refused (duplicate os) (refused (undefined regions os) (entry_within os)) ≡ Ok entry) × (◌≡◌ {A = Result Linked Refusal} (Ok (record { objects = os; definitions = definitions_from 0 (objects_in os); entry = entry })) (Err r)))
          → SaysOfNames regions os r
      go (inl h) = judged_says h
      go (inr (entry, is, h)) = absurd cc

-- ---- the law

pub refusals_law : DuplicateLaw → UndefinedLaw → MeetingLaw → ToldLaw → AssignmentLaw → RefusalsLaw
refusals_law duplicates undefineds meetings law assignments = record {
  names = λ regions os r e. names_say duplicates undefineds regions os r e;
  areas = λ k os r e. areas_say assignments k os r e;
  plan = λ k ram p r e. plan_says meetings law k ram p r e;
}
