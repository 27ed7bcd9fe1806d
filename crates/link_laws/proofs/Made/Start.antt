-- A scatter image that is made starts.
use Rattle.std.proofs.Common.{◌≡◌, ◌≢◌, ℕ, ◌+◌, ◌%◌, ◌^◌, ◌<◌, Bool, true, false, ◌==◌, if◌then◌else◌, List, refl, sym, ap, subst, ◌∙◌, arith, Option, Some, None}
use Rattle.std.specs.Prelude.{slice_get}
use Rattle.std.specs.List.{AllByRecursion}
use Rattle.std.specs.Option.{option_map, IsSomeAnd}
use Rattle.std.proofs.lemmas.Option.{slice_get-map}
use Rattle.base_lemmas.proofs.BaseLemmas.{all_weaker}
use Rattle.sdt_word.specs.Numbers.{bit, flag}
use Rattle.sdt_word.specs.declared.ranges.Range32.{Range32}
use Rattle.aof_object.specs.declared.areas.AreaHead.{AreaHead}
use Rattle.aof_object.specs.declared.records.Area.{Area}
use Rattle.aof_object.specs.declared.records.Entry.{Entry}
use Rattle.aof_object.specs.Checks.{left_over}
use Rattle.aof_object.specs.Validity.{head_of, heads, IsEntered, IsValid}
use Rattle.place_model.specs.declared.scatter.Kind.{Kind}
use Rattle.place_model.specs.declared.scatter.Kind.TheVariants as kind
use Rattle.place_model.specs.Faults.{load_meeting, execution_meeting}
use Rattle.place_model.specs.Laws.{IsWholeItem}
use Rattle.place_model.specs.Plans.{Contents, Plan}
use Rattle.place_model.proofs.ListLemmas.{all_at}
use Rattle.place_model.proofs.SpanLemmas.{or_none}
use Rattle.image_model.specs.Views.{view_of, files_of}
use Rattle.image_laws.proofs.FileLemmas.{overlap_none, is_load_view}
use Rattle.image_laws.proofs.Placed.{image_boots}
use Rattle.image_laws.proofs.ViewLemmas.{is_view}
use Rattle.link_model.specs.declared.placing.Assigned.{Assigned}
use Rattle.link_model.specs.declared.placing.Placement.{Placement}
use Rattle.link_model.specs.declared.placing.Veneer.{Veneer}
use Rattle.link_model.specs.declared.selection.Linked.{Linked}
use Rattle.link_model.specs.Definitions.{is_thumb}
use Rattle.link_model.specs.Members.{link_of}
use Rattle.link_items.specs.LinkedItems.{contents_of}
use Rattle.link_values.specs.Placed.{base_in}
use Rattle.link_apply.specs.RegionBytes.{entry_of}
use Rattle.link_laws.specs.Placing.{bases_of, link_plan, IsPlacedLink}
use Rattle.link_laws.specs.Joins.{IsEntryOf, IsMade, given_in, filled_in, MadeStarts, MadeBoots}
use Rattle.link_laws.proofs.ItemLemmas.{IsOwn, items_own, own_whole}
use Rattle.link_laws.proofs.Made.AddressLemmas.{has_places}
use Rattle.link_laws.proofs.Made.PlacedLemmas.{is_placement, made_is_placed}
use Rattle.link_laws.proofs.Made.BytesLaws.{made_sized}
use Rattle.link_laws.proofs.PlacedLemmas.{objects_are_placed}

-- ---- the entry

-- an instruction's address, with bit 0 set for Thumb
pub record IsFair (entry : ℕ) : Type 0 where
  pub small : entry < 2 ^ 32
  pub fair : entry % 4 ≢ 2

fair_by : (base offset : ℕ) (thumb : Bool) → base % 4 ≡ 0 → (if thumb then offset % 2 else offset % 4) ≡ 0 → IsFair ((base + offset) % 2 ^ 32 + flag thumb)
fair_by base offset true whole own = record { small = omega (arith, whole, own); fair = λ e. absurd (omega (arith, whole, own, e)) }
fair_by base offset false whole own = record { small = omega (arith, whole, own); fair = λ e. absurd (omega (arith, whole, own, e)) }

abbrev Said : Entry → Option AreaHead → Type 0
Said e o = IsSomeAnd o (λ x. (e.offset < x.size) × (left_over x.attributes e.offset ≡ 0))

entered_at : (areas : List Area) (e : Entry) → IsEntered (heads areas) (Some e) → (a : Area) × (slice_get areas e.area ≡ Some a) × (left_over a.attributes e.offset ≡ 0)
entered_at areas e h = go (slice_get areas e.area) refl (subst (Said e) (slice_get-map head_of areas e.area) h)
  where
    go : (o : Option Area) → slice_get areas e.area ≡ o → Said e (option_map head_of o) → (a : Area) × (slice_get areas e.area ≡ Some a) × (left_over a.attributes e.offset ≡ 0)
    go None at x = absurd x
    go (Some a) at x = (a, at, x.1)

module _ (k : Kind) (ram : Option (List Range32)) (l : Linked) (a : Assigned) (vs : List Veneer) (p : Placement) (h : IsMade k ram l a vs p) where
  abbrev plan : Plan
  plan = link_plan k l a.regions vs

  placed : IsPlacedLink k ram l a.regions vs
  placed = made_is_placed k ram l a vs p h

  base_same : base_in p l.entry.object l.entry.area ≡ bases_of plan l.entry.object l.entry.area
  base_same =
      subst (λ (q : Placement). base_in q l.entry.object l.entry.area ≡ bases_of plan l.entry.object l.entry.area) (sym (is_placement k ram l a vs p h))
      ((has_places plan).bases l.entry.object l.entry.area)

  pub made_entry : IsFair (entry_of (link_of l) p)
  made_entry =
      let e : IsEntryOf l = h.entered in
      let entry : Entry = record { area = l.entry.area; offset = l.entry.offset } in
      let valid : IsValid e.object.value = all_at (λ o. IsValid o.value) l.objects l.entry.object e.object h.valid e.at in
      let (area, there, own) = entered_at e.object.value.areas entry (subst (IsEntered (heads e.object.value.areas)) e.entry valid.entry) in
      let state : bit area.attributes 20 == 1 ≡ l.entry.thumb = sym (e.state ∙ ap is_thumb there) in
      let whole : base_in p l.entry.object l.entry.area % 4 ≡ 0 =
      ap (λ (x : ℕ). x % 4) base_same ∙ (objects_are_placed k ram l a.regions vs (λ q. None) placed l.entry.object e.object e.at).aligned l.entry.area area there in
      fair_by (base_in p l.entry.object l.entry.area) l.entry.offset l.entry.thumb whole (ap (λ (b : Bool). if b then l.entry.offset % 2 else l.entry.offset % 4) (sym state) ∙ own)

-- ---- the image

pub made_starts : MadeStarts
made_starts s ram l a vs p boot h at =
    let k : Kind = kind.Scatter s in
    let c : Contents = contents_of l.objects a.regions vs in
    let plan : Plan = link_plan k l a.regions vs in
    let placed : IsPlacedLink k ram l a.regions vs = made_is_placed k ram l a vs p h in
    let sized = made_sized k ram l a vs p h refl in
    let entry = made_entry k ram l a vs p h in
    record {
      whole = record {
        loads = placed.loads;
        regions = placed.bases;
        items = all_weaker (λ areas. AllByRecursion (IsOwn l.objects) areas) (λ areas. AllByRecursion IsWholeItem areas)
            (λ areas all. all_weaker (IsOwn l.objects) IsWholeItem (own_whole l.objects placed.valid) areas all) c.areas (items_own l.objects a.regions vs);
      };
      accepted = placed.accepted;
      sized = sized;
      shows = is_view plan (filled_in l p plan) (or_none (load_meeting plan) (execution_meeting plan) (overlap_none k ram plan placed.accepted)).1 sized;
      loads = is_load_view k c ram (filled_in l p plan) placed.accepted sized;
      boot = sym (ap (λ (q : Placement). q.boot) (is_placement k ram l a vs p h)) ∙ at;
      entry_small = entry.small;
      entry_fair = entry.fair;
    }

pub made_boots : MadeBoots
made_boots s ram l a vs p boot h at =
    let plan : Plan = link_plan (kind.Scatter s) l a.regions vs in
    image_boots s (contents_of l.objects a.regions vs) (given_in (link_of l) p) ram (view_of plan (filled_in l p plan)) (files_of plan (filled_in l p plan)) boot
    (made_starts s ram l a vs p boot h at)
