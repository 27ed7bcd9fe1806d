use Rattle.std.proofs.Common.{false, true, List, ap}
use Rattle.link_model.specs.declared.placing.PlacedArea.{PlacedArea}
use Rattle.link_model.specs.declared.placing.PlacedVeneer.{PlacedVeneer}
use Rattle.link_report.specs.Regions.{areas_text, header_text, region_line, start_text, veneers_text, zero_text}
use Rattle.link_report.proofs.TextLemmas.{in_turn, same_text}
use Rattle.link_report.proofs.regions.push_region.Goals as goal

pub returns : goal.returns
returns c =
    let k = c.args.kind.now in
    let os = c.args.objects.now in
    let p = c.args.placement.now in
    let n = c.args.number in
    let r = c.args.region.now in
    let at_line = c.push_region_line.new.out.items in
    let at_header = c.push_header.new.out.items in
    let at_areas = c.push_areas.new.out.items in
    let at_veneers = c.push_veneers.new.out.items in
    let at_start = c.push_start.new.out.items in
    let at_zero = c.push_zero.new.out.items in
    let at_end = c.push_areas-2.new.out.items in
    let areas = same_text at_header at_areas (areas_text os n false c.as_slice-areas.result.now) (areas_text os n false p.areas) c.in_ok-push_areas.ensures (ap (λ (l : List PlacedArea). areas_text os n false l) c.as_slice-areas.ensures) in
    let veneers = same_text at_areas at_veneers (veneers_text os p n c.as_slice-veneers.result.now) (veneers_text os p n p.veneers) c.in_ok-push_veneers.ensures (ap (λ (l : List PlacedVeneer). veneers_text os p n l) c.as_slice-veneers.ensures) in
    let zeros = same_text at_zero at_end (areas_text os n true c.as_slice-areas.result.now) (areas_text os n true p.areas) c.in_ok-push_areas-2.ensures (ap (λ (l : List PlacedArea). areas_text os n true l) c.as_slice-areas.ensures) in
    in_turn c.args.out.now.items at_line at_header at_areas at_veneers at_start at_zero at_end
    (region_line r) (header_text k n r) (areas_text os n false p.areas) (veneers_text os p n p.veneers) (start_text p.boot n r) (zero_text r) (areas_text os n true p.areas)
    c.in_ok-push_region_line.ensures c.in_ok-push_header.ensures areas veneers c.in_ok-push_start.ensures c.in_ok-push_zero.ensures zeros
