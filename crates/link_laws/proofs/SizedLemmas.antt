-- Things of a plan whose bytes are applied have as many bytes as they take up.
use Rattle.std.proofs.Common.{◌≡◌, ℕ, zero, suc, ◌+◌, ◌-◌, ◌*◌, ◌≤◌, Bool, true, false, not, ◌==◌, List, [], ◌∷◌, ◌++◌, length, length-append, refl, ap, subst, ◌∙◌, arith, leb-true, Option, Some, None}
use Rattle.std.specs.Prelude.{slice_get}
use Rattle.std.specs.List.{AllByRecursion}
use Rattle.std.specs.Option.{option_map, IsSomeAnd}
use Rattle.base_lemmas.proofs.BaseLemmas.{came_through, same}
use Rattle.sdt_word.specs.Bytes.{bytes_of}
use Rattle.sdt_word.specs.Numbers.{bit}
use Rattle.sdt_word.specs.declared.ranges.Range32.{Range32}
use Rattle.sdt_word.proofs.BytesLemmas.{length-bytes_of}
use Rattle.aof_object.specs.declared.records.Area.{Area}
use Rattle.aof_object.specs.declared.records.Object.{Object}
use Rattle.aof_object.specs.Objects.{stored}
use Rattle.aof_object.specs.Validity.{Holds as HoldsArea, IsValid}
use Rattle.boot_code.specs.Startup.{table_list, zeros}
use Rattle.boot_code.specs.Words.{boot_list}
use Rattle.boot_code.proofs.ViewLemmas.{length-zeros}
use Rattle.boot_code.specs.Maps.{bytes_of_words}
use Rattle.patch_model.specs.Fields.{Home}
use Rattle.patch_model.specs.Patched.{AreaPatched}
use Rattle.patch_model.specs.Reaches.{HasVeneer}
use Rattle.place_model.specs.declared.scatter.Kind.{Kind}
use Rattle.place_model.specs.declared.scatter.Kind.TheVariants as kind
use Rattle.place_model.specs.Items.{Item, is_zero_initialised}
use Rattle.place_model.specs.Plans.{Contents, areas_in, header_in, startup_in, Planned, zero_base_of, Plan, regions_of, copies_of, parts_of, table_words, plan_of}
use Rattle.place_model.specs.Things.{Thing, Header, AnArea, AVeneer, Startup, size_of, Stood, stood}
use Rattle.place_model.proofs.ListLemmas.{all_at, all_indexed}
use Rattle.place_model.proofs.PlanLemmas.{table_law}
use Rattle.image_model.specs.Regions.{Given, startup_bytes, filled}
use Rattle.image_laws.proofs.RowLemmas.{table-length}
use Rattle.link_model.specs.declared.placing.AreaName.{AreaName}
use Rattle.link_model.specs.declared.placing.Veneer.{Veneer}
use Rattle.link_model.specs.declared.selection.Linked.{Linked}
use Rattle.link_model.specs.declared.selection.Named.{Named}
use Rattle.link_items.specs.LinkedItems.{item_of, item_in, name_of, contents_of}
use Rattle.link_laws.specs.Placing.{bases_of, region_with, veneers_in, values_in, link_plan, IsPlacedLink, IsVeneerApplied, AreApplied, IsHeaderOf}
use Rattle.link_laws.specs.Laws.{AppliedAreSized}
use Rattle.link_laws.proofs.ItemLemmas.{IsOwn}
use Rattle.link_laws.proofs.PlacedLemmas.{IsLoaded, loaded, shaped}
use Rattle.link_laws.proofs.RegionLemmas.{things_all, things_of_stood, IsWithin, stood_within}

-- ---- the startup code, and the header

pub words_length : (ws : List ℕ) → length (bytes_of_words ws) ≡ 4 * length ws
words_length [] = refl
words_length (w ∷ ws) = let rest = words_length ws in omega (arith, length-append (bytes_of w 4) (bytes_of_words ws), length-bytes_of w 4, rest)

-- the table has room
startup_length : (s : _) (c : Contents) (entry : ℕ)
    → length (startup_bytes (plan_of (kind.Scatter s) c) (table_words (kind.Scatter s) c) entry) ≡ size_of (Startup (table_words (kind.Scatter s) c))
startup_length s c entry =
    let p : Plan = plan_of (kind.Scatter s) c in
    let words : ℕ = table_words (kind.Scatter s) c in
    let table : List ℕ = table_list (copies_of p) (parts_of p) entry in
    let room : 3 * length (copies_of p) + 2 * length (parts_of p) + 6 ≤ words = leb-true (3 * length (copies_of p) + 2 * length (parts_of p) + 6) words (table_law s c).enough in
    omega (
      arith,
      room,
      table-length (copies_of p) (parts_of p) entry,
      length-append (bytes_of_words (boot_list ++ table)) (zeros (4 * (words - length table))),
      words_length (boot_list ++ table),
      length-append boot_list table,
      length-zeros (4 * (words - length table)),
    )

-- what isn't an area or a veneer has its size
abbrev IsFramed : Plan → Given → List ℕ → Thing → Type 0
IsFramed p g header Header = length header ≡ 128
IsFramed p g header (Startup words) = length (startup_bytes p words g.entry) ≡ size_of (Startup words)
IsFramed p g header _ = Unit {0}

framed_header : (k : Kind) (c : Contents) (g : Given) (header : List ℕ) (n : ℕ) → IsHeaderOf k header → AllByRecursion (IsFramed (plan_of k c) g header) (header_in k n)
framed_header (kind.Scatter s) c g header n h = tt
framed_header (kind.Plain base) c g header n h = tt
framed_header (kind.Aif base relocatable) c g header zero h = (h, tt)
framed_header (kind.Aif base relocatable) c g header (suc n) h = tt

framed_startup : (k : Kind) (c : Contents) (g : Given) (header : List ℕ) (n : ℕ) → AllByRecursion (IsFramed (plan_of k c) g header) (startup_in k n (table_words k c))
framed_startup (kind.Scatter s) c g header zero = (startup_length s c g.entry, tt)
framed_startup (kind.Scatter s) c g header (suc n) = tt
framed_startup (kind.Plain base) c g header n = tt
framed_startup (kind.Aif base relocatable) c g header n = tt

-- ---- veneers

veneer_length : (v target : ℕ) (thumb : Bool) (bytes : List ℕ) (t : Home) → HasVeneer v target thumb bytes → length bytes ≡ size_of (AVeneer t thumb)
veneer_length v target true bytes t h = ap length h.contents
veneer_length v target false bytes t h = ap length h.contents

-- ---- all things

module _ (k : Kind) (ram : Option (List Range32)) (l : Linked) (regions : List (List AreaName)) (veneers : List Veneer) (numbers : List ℕ → Option ℕ)
    (g : Given) (header : List ℕ)
    (h : IsPlacedLink k ram l regions veneers) (applied : AreApplied (link_plan k l regions veneers) l numbers g) (headed : IsHeaderOf k header) where
  abbrev p : Plan
  p = link_plan k l regions veneers

  abbrev c : Contents
  c = contents_of l.objects regions veneers

  area_length : (i : Item) → IsOwn l.objects i → is_zero_initialised i ≡ false → length (g.area i.object i.area) ≡ i.size
  area_length i own kept =
      let (o, at, there) = came_through (item_in (name_of i)) (slice_get l.objects i.object) i own in
      go o (slice_get o.value.areas i.area) refl at there
    where
      go : (o : Named Object) (x : Option Area) → slice_get o.value.areas i.area ≡ x → slice_get l.objects i.object ≡ Some o
          → option_map (item_of i.object o.«module» i.area) x ≡ Some i → length (g.area i.object i.area) ≡ i.size
      go o None e at there = absurd cc
      go o (Some a) e at there =
          let is : item_of i.object o.«module» i.area a ≡ i = same (item_of i.object o.«module» i.area a) i there in
          let unmarked : bit a.attributes 12 == 1 ≡ false = ap is_zero_initialised is ∙ kept in
          let patched = subst (λ (z : Option Area). IsSomeAnd z (λ (b : Area). AreaPatched b.relocs b.bytes (bases_of p i.object i.area) (values_in p l numbers i.object) (veneers_in (region_with p i.object i.area)) (g.area i.object i.area))) e (applied.areas i.object i.area o a at e unmarked) in
          let valid : IsValid o.value = all_at (λ q. IsValid q.value) l.objects i.object o h.valid at in
          let holds : HoldsArea (length o.value.areas) (length o.value.symbols) a = all_at (HoldsArea (length o.value.areas) (length o.value.symbols)) o.value.areas i.area a valid.contents e in
          let kept_size : stored a.attributes a.size ≡ a.size = rw unmarked refl in
          patched.size ∙ holds.bytes ∙ kept_size ∙ ap (λ (j : Item). j.size) is

  sized_thing : (r : Planned) (a : ℕ) (t : Thing) → IsLoaded l.objects t → IsFramed p g header t → IsVeneerApplied p g r a t → length (filled g p header r t) ≡ size_of t
  sized_thing r a Header own framed veneer = framed
  sized_thing r a (AnArea i) own framed veneer = area_length i own.0 own.1
  sized_thing r a (AVeneer target thumb) own framed veneer = veneer_length a _ thumb (g.veneer r.number target thumb) target veneer
  sized_thing r a (Startup words) own framed veneer = framed

  sized_region : (n : ℕ) (r : Planned) → slice_get (regions_of p) n ≡ Some r → AllByRecursion (λ t. length (filled g p header r t) ≡ size_of t) r.things
  sized_region n r at =
      let things : List Stood = stood r.origin r.base r.things in
      let framed : AllByRecursion (IsFramed p g header) r.things =
      things_all (IsFramed p g header) k c (table_words k c) r (shaped k ram l regions veneers h n r at) (framed_header k c g header r.number headed) (framed_startup k c g header r.number)
      (λ t b. tt) (all_indexed (λ i. not (is_zero_initialised i) ≡ true → IsFramed p g header (AnArea i)) (areas_in c r.number) (λ n i there e. tt)) in
      let frames = stood_within (IsFramed p g header) r.origin r.base r.things r.base (zero_base_of r) (omega arith) (omega arith) framed in
      let own : AllByRecursion (λ s. IsVeneerApplied p g r s.address s.thing) things =
      all_at (λ q. AllByRecursion (λ s. IsVeneerApplied p g q s.address s.thing) (stood q.origin q.base q.things)) (regions_of p) n r applied.veneers at in
      things_of_stood (λ t. length (filled g p header r t) ≡ size_of t) r.origin r.base r.things
      (all_indexed (λ s. length (filled g p header r s.thing) ≡ size_of s.thing) things (λ i s there.
      let within = all_at (IsWithin (IsLoaded l.objects) r.base (zero_base_of r)) things i s (loaded k ram l regions veneers h n r at) there in
      let frame = all_at (IsWithin (IsFramed p g header) r.base (zero_base_of r)) things i s frames there in
      sized_thing r s.address s.thing within.holds frame.holds (all_at (λ q. IsVeneerApplied p g r q.address q.thing) things i s own there)))

pub applied_are_sized : AppliedAreSized
applied_are_sized k ram l regions veneers numbers g header h applied headed =
    all_indexed (λ r. AllByRecursion (λ t. length (filled g (link_plan k l regions veneers) header r t) ≡ size_of t) r.things) (regions_of (link_plan k l regions veneers))
    (sized_region k ram l regions veneers numbers g header h applied headed)
