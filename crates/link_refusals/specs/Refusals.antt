-- What refusals of a link say, in the order in which they are told: of the linked objects' names, of the regions of their areas, and
-- of their plan, each the first (SDT 2.50 Reference Guide, armlink and scatter loading; the order is this project's).
use Rattle.std.specs.Prelude.{◌≡◌, ◌⊎◌, ℕ, ◌<◌, true, false, List, map, slice_get, Option, Some, None, Result, Ok, Err}
use Rattle.std.specs.Option.{option_or}
use Rattle.sdt_word.specs.declared.ranges.Range32.{Range32}
use Rattle.sdt_fault.specs.declared.kinds.Quantity.TheVariants.{Areas, Symbols}
use Rattle.sdt_fault.specs.declared.refusal.Refusal.{Refusal}
use Rattle.sdt_fault.specs.declared.refusal.Refusal.TheVariants.{Ambiguous, NoRoot, Unassigned}
use Rattle.chunk_file.specs.Reading.{◌>>=◌}
use Rattle.aof_object.specs.declared.records.Object.{Object}
use Rattle.place_model.specs.declared.scatter.Kind.{Kind}
use Rattle.place_model.specs.Items.{Item}
use Rattle.place_model.specs.Assignment.{Offer, matches, offers_of}
use Rattle.place_model.specs.Plans.{Plan, Planned, copied_regions, is_root, regions_of}
use Rattle.place_model.specs.Faults.{Judged, Meeting, Move, aif_too_large, as_conflict, as_overlap, copy_move, execution_span, judged, load_span, overfull, place_refusal, standing, too_large, unwritable}
use Rattle.place_model.specs.Laws.{AreFirstBest, HasRoom, IsFirstMeeting, IsFirstTold, IsOnlyBest, OfMeeting}
use Rattle.link_model.specs.declared.selection.LinkedEntry.{LinkedEntry}
use Rattle.link_model.specs.declared.selection.Named.{Named}
use Rattle.link_model.specs.Members.{objects_in}
use Rattle.link_items.specs.LinkedItems.{items_in}
use Rattle.link_assign.specs.Assigning.{assignment_of}
use Rattle.link_assign.specs.Keeping.{report_name}
use Rattle.link_select.specs.Entries.{entered_from, only_entry}
use Rattle.link_select.specs.Laws.{AreDefinedOnce, FirstClash, FirstLacking, SaysUndefined}
use Rattle.link_select.specs.Selection.{count_areas, count_symbols, limited, selection_of}
use Rattle.link_select.specs.Undefined.{is_known}

-- ---- names: one that two objects export, or else one without a meaning; then the entry and the counts of areas and symbols

-- the one entry, where there are no more areas and symbols than a link takes
abbrev pub entry_within : List (Named Object) → Result LinkedEntry Refusal
entry_within os =
    only_entry (entered_from 0 os) >>= λ e. limited Areas 65535 (count_areas os) (limited Symbols 1000000 (count_symbols os) (Ok e))

abbrev pub SaysOfNames : Option (List (List ℕ)) → List (Named Object) → Refusal → Type 0
SaysOfNames regions os r =
    FirstClash os r
    ⊎ (AreDefinedOnce (objects_in os) × (FirstLacking (is_known regions (objects_in os)) os r
    ⊎ (SaysUndefined (is_known regions (objects_in os)) os None × (entry_within os ≡ Err r))))

-- ---- areas: the first, in input order, that no selection matches, or that two match best

abbrev pub IsHomeless : List Offer → List ℕ → Item → Refusal → Type 0
IsHomeless offers name i r =
    ((r ≡ Unassigned name i.name) × ((k : ℕ) (o : Offer) → slice_get offers k ≡ Some o → matches o.selection i ≡ false))
    ⊎ ((o : Offer) × (p : Offer) × (r ≡ Ambiguous name i.name o.selection.line p.selection.line) × AreFirstBest offers i o p)

pub record FirstHomeless (k : Kind) (os : List (Named Object)) (r : Refusal) : Type 0 where
  pub place : ℕ
  pub item : Item
  pub at : slice_get (items_in os) place ≡ Some item
  pub homeless : IsHomeless (offers_of k) (report_name os item.object) item r
  pub none_before : (n : ℕ) (i : Item) → slice_get (items_in os) n ≡ Some i → n < place → (o : Offer) × IsOnlyBest (offers_of k) i o

-- ---- the plan

-- its first region isn't loaded where it runs
pub record IsRootless (p : Plan) (r : Refusal) : Type 0 where
  pub region : Planned
  pub first : slice_get (regions_of p) 0 ≡ Some region
  pub moved : is_root region ≡ false
  pub told : r ≡ NoRoot region.name

abbrev pub StartsInRoot : Plan → Type 0
StartsInRoot p = (r : Planned) → slice_get (regions_of p) 0 ≡ Some r → is_root r ≡ true

-- each load region and each execution region has room
abbrev pub HaveRoom : Kind → Plan → Type 0
HaveRoom k p = (n : ℕ) (j : Judged) → slice_get (judged k p) n ≡ Some j → HasRoom j

-- load ranges, and execution ranges
abbrev pub load_ranges : Plan → List Move
load_ranges p = map (λ l. standing (load_span l)) p

abbrev pub execution_ranges : Plan → List Move
execution_ranges p = map (λ r. standing (execution_span r)) (regions_of p)

-- two load ranges meet, or else two execution ranges; the first two, with the least address of both
abbrev pub IsOverlap : Plan → Refusal → Type 0
IsOverlap p r =
    (m : Meeting) × (r ≡ as_overlap m)
    × (IsFirstMeeting (load_ranges p) m ⊎ (OfMeeting (load_ranges p) None × IsFirstMeeting (execution_ranges p) m))

abbrev pub AreApart : Plan → Type 0
AreApart p = OfMeeting (load_ranges p) None × OfMeeting (execution_ranges p) None

-- a copy writes what a later copy reads
abbrev pub copies : Plan → List Move
copies p = map copy_move (copied_regions p)

abbrev pub IsConflict : Plan → Refusal → Type 0
IsConflict p r = (m : Meeting) × (r ≡ as_conflict m) × IsFirstMeeting (copies p) m

-- the first region that writes outside the ranges that can be written, with the least such address
abbrev pub IsUnwritable : Option (List Range32) → Plan → Refusal → Type 0
IsUnwritable ram p r = (ranges : List Range32) × (ram ≡ Some ranges) × IsFirstTold (unwritable ranges) (regions_of p) r

-- the first of these, and then of the limits of sizes, that the plan has
abbrev pub SaysOfPlan : Kind → Option (List Range32) → Plan → Refusal → Type 0
SaysOfPlan k ram p r =
    IsRootless p r
    ⊎ (StartsInRoot p × (IsFirstTold overfull (judged k p) r
    ⊎ (HaveRoom k p × (IsOverlap p r
    ⊎ (AreApart p × (IsConflict p r
    ⊎ (OfMeeting (copies p) None × ((option_or (too_large p) (aif_too_large k p) ≡ Some r)
    ⊎ ((option_or (too_large p) (aif_too_large k p) ≡ None) × IsUnwritable ram p r)))))))))

-- ---- the law

-- what is refused is so, as the first of what is told in this order
pub record RefusalsLaw : Type 0 where
  pub names : (regions : Option (List (List ℕ))) (os : List (Named Object)) (r : Refusal) → selection_of regions os ≡ Err r → SaysOfNames regions os r
  pub areas : (k : Kind) (os : List (Named Object)) (r : Refusal) → assignment_of k os ≡ Err r → FirstHomeless k os r
  pub plan : (k : Kind) (ram : Option (List Range32)) (p : Plan) (r : Refusal) → place_refusal k ram p ≡ Some r → SaysOfPlan k ram p r
