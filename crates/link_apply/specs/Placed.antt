-- The veneers of a region, the addresses of their targets, and what an ARM image file's header calls. This project's.
use Rattle.std.specs.Prelude.{ℕ, ◌+◌, ◌^◌, ◌%◌, Bool, true, false, not, ◌&&◌, ◌==◌, unwrap_or}
use Rattle.std.specs.List.{find}
use Rattle.std.specs.Option.{option_map}
use Rattle.patch_model.specs.Fields.{Home}
use Rattle.patch_model.specs.Patched.{Veneers, other_state}
use Rattle.link_model.specs.declared.placing.Placement.{Placement}
use Rattle.link_model.specs.declared.placing.Veneer.{Veneer}
use Rattle.link_model.specs.declared.selection.Linked.{Linked}
use Rattle.link_model.specs.declared.selection.LinkedEntry.{LinkedEntry}
use Rattle.link_values.specs.Placed.{base_in}

abbrev pub leads_to : ℕ → Home → Bool → Veneer → Bool
leads_to region target thumb v =
    v.region == region && (v.area.object == target.object && (v.area.area == target.area && (v.offset == target.offset && not (other_state v.thumb thumb))))

abbrev pub veneers_at : Placement → ℕ → Veneers
veneers_at p region target thumb = option_map (λ v. v.address) (find (λ v. leads_to region target thumb v.veneer) p.veneers)

-- the address of a target, reduced modulo 2^32
abbrev pub target_in : Placement → Home → ℕ
target_in p target = (base_in p target.object target.area + target.offset) % 2 ^ 32

-- ---- the entry

abbrev pub home_of : LinkedEntry → Home
home_of e = record { object = e.object; area = e.area; offset = e.offset }

-- what an AIF's header calls: an entry in ARM state, or the veneer of its first region to one in Thumb state
abbrev pub called : Bool → Linked → Placement → ℕ
called false l p = target_in p (home_of l.entry)
called true l p = unwrap_or (veneers_at p 0 (home_of l.entry) true) 0
