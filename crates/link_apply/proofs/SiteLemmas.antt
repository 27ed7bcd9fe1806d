-- What stands fast of the areas of a placed link.
use Rattle.std.proofs.Common.{◌≡◌, ℕ, ◌≤◌, ◌^◌, Bool, true, false, cond, List, [], ◌∷◌, sym, ap, subst, ◌∙◌, arith}
use Rattle.std.specs.Prelude.{◌==◌, nat_eq, Option, Some, None, slice_get, unwrap_or}
use Rattle.std.specs.List.{AllByRecursion, find}
use Rattle.std.specs.Option.{option_map}
use Rattle.patch_model.specs.Fields.{Values}
use Rattle.link_model.specs.declared.placing.PlacedArea.{PlacedArea}
use Rattle.link_model.specs.declared.placing.Placement.{Placement}
use Rattle.link_model.specs.RegionValues.{reduced_by}
use Rattle.link_values.specs.declared.bases.AreaBases.{AreaBases}
use Rattle.link_values.specs.Bases.{base_of, AreBases}
use Rattle.link_values.specs.Placed.{is_area}
use Rattle.indexmap.specs.IndexMap.{get}
use Rattle.link_apply.specs.declared.sites.PlacedLink.{PlacedLink}
use Rattle.link_apply.specs.declared.sites.Site.{Site}
use Rattle.link_apply.specs.declared.starts.FieldDirectives.{FieldDirectives}
use Rattle.link_apply.proofs.StartLemmas.{AreFew, starts_few}
use Rattle.aof_object.specs.declared.records.Area.{Area}
use Rattle.aof_object.specs.declared.records.Object.{Object}
use Rattle.link_model.specs.declared.selection.Named.{Named}
use Rattle.link_apply.specs.Flaws.{refusals_in}
use Rattle.link_apply.specs.PatchedBytes.{patched_bytes}
use Rattle.sdt_word.specs.Numbers.{bit}
use Rattle.link_model.specs.Members.{link_of}
use Rattle.link_apply.specs.Patching.{first_refusal}
use Rattle.link_apply.specs.Pieces.{area_region_piece, site_piece}
use Rattle.link_apply.specs.Applied.{IsWithin}
use Rattle.link_apply.specs.Sites.{known_values, IsSite, Knows}
use Rattle.link_apply.specs.Starts.{starts, AreLow}

-- ---- addresses

reduced_le : (boot : Option ℕ) (n : ℕ) → n ≤ 2 ^ 32 → reduced_by boot n ≤ 2 ^ 32
reduced_le None n le = le
reduced_le (Some b) n le = omega arith

address_le : (boot : Option ℕ) (object area : ℕ) (areas : List PlacedArea) → AllByRecursion (λ a. a.address ≤ 2 ^ 32) areas
    → unwrap_or (option_map (λ a. reduced_by boot a.address) (find (is_area object area) areas)) 0 ≤ 2 ^ 32
address_le boot object area [] each = omega arith
address_le boot object area (a ∷ areas) each = by_test (is_area object area a) (address_le boot object area areas each.1)
  where
    by_test : (b : Bool) → unwrap_or (option_map (λ a. reduced_by boot a.address) (find (is_area object area) areas)) 0 ≤ 2 ^ 32
        → unwrap_or (option_map (λ a. reduced_by boot a.address) (cond b (Some a) (find (is_area object area) areas))) 0 ≤ 2 ^ 32
    by_test true h = reduced_le boot a.address each.0
    by_test false h = h

pub base_le : (p : Placement) (bases : AreaBases) → IsWithin p → AreBases p bases → (object area : ℕ) → base_of bases object area ≤ 2 ^ 32
base_le p bases within known object area = subst (λ n. n ≤ 2 ^ 32) (sym (known object area)) (address_le p.boot object area p.areas within.areas)

pub are_low : (known : PlacedLink) → Knows known → AreLow known.bases
are_low known h object area = let le = base_le known.placement.now known.bases h.within h.bases object area in omega arith

-- ---- what the relocations of an area do at a place

pub few_at : (known : PlacedLink) → Knows known → (site : Site) → IsSite known site → (place : ℕ) (s : FieldDirectives) → get nat_eq site.starts place ≡ Some s → AreFew s
few_at known h site at place s e =
    starts_few (base_of known.bases site.placed.area.object) site.symbols.now site.area.now.relocs (are_low known h site.placed.area.object) at.below at.few place s
    (ap (λ (v : Values). starts v site.area.now.relocs place) at.values ∙ sym (at.starts place) ∙ e)

-- ---- what is told of an area

pub refusals_same : (known : PlacedLink) (site : Site) (o : Named Object) (placed : PlacedArea) (area : Area) → site.placed ≡ placed → site.area.now ≡ area
    → first_refusal known site o site.area.now.relocs ≡ slice_get (refusals_in known.placement.now (known_values known placed.area.object) placed o (Some area)) 0
refusals_same known site o placed area e f =
    (λ i. slice_get (refusals_in known.placement.now (known_values known (e i).area.object) (e i) o (Some (f i))) 0)

pub piece_same : (known : PlacedLink) (site : Site) (placed : PlacedArea) (area : Area) → site.placed ≡ placed → site.area.now ≡ area
    → site_piece known site ≡ area_region_piece (link_of known.linked.now) known.placement.now placed (Some area)
piece_same known site placed area e f =
    (λ i. cond (bit (f i).attributes 12 == 1) None
    (Some (record { region = (e i).region; address = (e i).address; bytes = patched_bytes known.placement.now (known_values known (e i).area.object) (e i).region (e i).address (f i) })))
