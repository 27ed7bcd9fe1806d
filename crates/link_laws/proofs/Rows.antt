-- One linked image, whole: an ARM image file at 0x8000 of an object that holds its own address. Each premise of the laws
-- is met, and the file starts.
use Rattle.std.proofs.Common.{◌≡◌, ℕ, zero, suc, ◌+◌, Bool, false, List, [], ◌∷◌, refl, sym, subst, ◌∙◌, arith, codes, Option, Some, None}
use Rattle.std.specs.Prelude.{slice_get}
use Rattle.sdt_word.specs.Bytes.{bytes_of}
use Rattle.sdt_word.specs.declared.ranges.Range32.{Range32}
use Rattle.aof_object.specs.declared.records.Area.{Area}
use Rattle.aof_object.specs.declared.records.Object.{Object}
use Rattle.aof_object.specs.Validity.{IsValid}
use Rattle.boot_code.specs.Aif.{file_at, aif_bound}
use Rattle.boot_code.specs.Boots.{ByteMap, Boots, covers}
use Rattle.boot_code.specs.Maps.{bytes_of_words}
use Rattle.place_model.specs.declared.scatter.Kind.{Kind}
use Rattle.place_model.specs.declared.scatter.Kind.TheVariants as kind
use Rattle.place_model.specs.Plans.{Contents, Plan}
use Rattle.image_model.specs.AifFiles.{parts_size, zero_size, header_words, with_header, fixed_aif, aif_view}
use Rattle.image_model.specs.Regions.{Given, AreSized}
use Rattle.image_model.specs.Views.{IsView}
use Rattle.image_laws.specs.AifLaws.{IsFixedImage}
use Rattle.image_laws.proofs.AifFixed.{fixed_image_boots}
use Rattle.image_laws.proofs.ViewLemmas.{is_view}
use Rattle.link_model.specs.declared.placing.AreaName.{AreaName}
use Rattle.link_model.specs.declared.selection.Linked.{Linked}
use Rattle.link_model.specs.declared.selection.Named.{Named}
use Rattle.link_items.specs.LinkedItems.{items_in, contents_of}
use Rattle.patch_model.specs.Patched.{Patched}
use Rattle.stand_model.specs.Placed.{IsPlaced, ShowsObject}
use Rattle.stand_model.proofs.OneWord.{at_start, number_kept, area_patched}
use Rattle.stand_model.proofs.Rows.{of_own_label}
use Rattle.link_laws.specs.Placing.{bases_of, region_with, veneers_in, link_plan, IsPlacedLink, values_in, IsApplied, AreApplied}
use Rattle.link_laws.specs.Laws.{AreRanges}
use Rattle.link_laws.proofs.PlacedLemmas.{objects_are_placed}
use Rattle.link_laws.proofs.ShownLemmas.{ranges_exist, objects_are_shown}
use Rattle.link_laws.proofs.SizedLemmas.{applied_are_sized}

-- ---- AREA words, DATA; EXPORT here; here DCD here

abbrev object : Named Object
object = record { name = codes "a"; «module» = codes "a"; value = of_own_label }

abbrev linked : Linked
linked = record { objects = object ∷ []; definitions = []; entry = record { object = 0; area = 0; offset = 0; thumb = false } }

valid : IsValid of_own_label
valid = record {
  areas = (
    record {
      fresh = tt;
      permitted = refl;
      alignment_least = omega arith;
      alignment_most = omega arith;
      whole_words = refl;
      size_most = omega arith;
      relocs_have_bytes = refl;
    },
    tt,
  );
  contents = (record { name = (λ e. absurd (omega arith), (λ e. absurd (omega arith), (λ e. absurd (omega arith), (λ e. absurd (omega arith), (λ e. absurd (omega arith), tt))))); bytes = refl; relocs = (record { form = refl; index = omega arith }, tt) }, tt);
  symbols = (record { fresh = λ e. tt; permitted = refl; scope = λ e. absurd (omega arith); lives = λ e. omega arith }, tt);
  symbol_names = ((λ e. absurd (omega arith), (λ e. absurd (omega arith), (λ e. absurd (omega arith), (λ e. absurd (omega arith), tt)))), tt);
  entry = tt;
}

-- ---- it stands in RW, behind the header

abbrev aif : Kind
aif = kind.Aif 0x8000 false

abbrev regions : List (List AreaName)
regions = [] ∷ (record { object = 0; area = 0 } ∷ []) ∷ [] ∷ []

abbrev contents : Contents
contents = contents_of linked.objects regions []

abbrev plan : Plan
plan = link_plan aif linked regions []

pub placed_link : IsPlacedLink aif None linked regions []
placed_link = record {
  valid = (valid, tt);
  loads = (refl, tt);
  bases = (refl, (refl, (refl, tt)));
  assigned = record { all = λ name. refl; each = refl };
  accepted = refl;
}

there : bases_of plan 0 0 ≡ 0x8080
there = refl

-- ---- its bytes

abbrev given : Given
given = record { area = λ own area. bytes_of 0x8080 4; veneer = λ region target thumb. []; entry = 0x8080; call = 0x8080 }

abbrev none : List ℕ → Option ℕ
none q = None

patched : Patched of_own_label 0 (values_in plan linked none 0) (veneers_in (region_with plan 0 0)) (bytes_of 0x8080 4)
patched =
    area_patched (at_start 0x82000000) 0 0x8080 0x8080 (values_in plan linked none 0) (veneers_in (region_with plan 0 0)) (record { start = refl; whole = refl })
    (number_kept 0x8080 ∙ omega arith)

areas_applied : (own area : ℕ) (o : Named Object) (a : Area) → slice_get linked.objects own ≡ Some o → slice_get o.value.areas area ≡ Some a
    → IsApplied plan linked none given own area o.value
areas_applied zero zero o a here there = let is : object ≡ o = cc in subst (λ (x : Named Object). IsApplied plan linked none given 0 0 x.value) is patched
areas_applied zero (suc area) o a here there = let is : object ≡ o = cc in let no : slice_get object.value.areas (suc area) ≡ Some a = subst (λ (x : Named Object). slice_get x.value.areas (suc area) ≡ Some a) (sym is) there in absurd cc
areas_applied (suc own) area o a here there = absurd cc

pub applied : AreApplied plan linked none given
applied = record { areas = λ own area o a here there kept. areas_applied own area o a here there; veneers = ((tt, tt), ((tt, tt), (tt, tt))) }

abbrev header : Bool → List ℕ
header moves = bytes_of_words (header_words moves plan 0x8000 0x8080)

sized : (moves : Bool) → AreSized (with_header moves plan 0x8000 given) plan
sized moves = applied_are_sized aif None linked regions [] none given (header moves) placed_link applied refl

abbrev view : ByteMap
view = aif_view 0x8000 false contents given

viewed : IsView plan (with_header false plan 0x8000 given) view
viewed = is_view plan (with_header false plan 0x8000 given) refl (sized false)

-- ---- what the laws say of it

pub placed : IsPlaced 0 of_own_label (values_in plan linked none 0) (bases_of plan)
placed = objects_are_placed aif None linked regions [] none placed_link 0 object refl

pub shown : (region : ℕ → Range32) × AreRanges plan 0 region × ShowsObject view of_own_label (values_in plan linked none 0) (bases_of plan) region (λ area. veneers_in (region_with plan 0 area))
shown =
    let ranges = ranges_exist aif None linked regions [] placed_link 0 in
    (ranges.0, ranges.1, objects_are_shown aif None linked regions [] none given (header false) view placed_link applied refl viewed 0 object refl ranges.0 ranges.1)

pub image : IsFixedImage 0x8000 contents (items_in linked.objects) given None view
image = record {
  image = record {
    whole = record { loads = placed_link.loads; regions = placed_link.bases; items = (tt, ((record { size = refl; alignment = omega arith }, tt), (tt, tt))) };
    assigned = placed_link.assigned;
    accepted = placed_link.accepted;
    sized = sized;
    no_veneers = refl;
    call_whole = refl;
    call_low = omega arith;
    call_high = omega arith;
  };
  shows = viewed;
}

pub boots : Boots (file_at (fixed_aif plan 0x8000 given) 0x8000) view (covers (0x8000 + parts_size plan) (zero_size plan)) 0x8000 (aif_bound 0 (zero_size plan)) 0x8080
boots = fixed_image_boots.in_arm 0x8000 contents (items_in linked.objects) given None view image refl
