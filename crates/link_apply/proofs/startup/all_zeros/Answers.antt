use Rattle.boot_code.specs.declared.rows.ZeroRow.{ZeroRow}
use Rattle.link_model.specs.declared.placing.Region.{Region}
use Rattle.std.proofs.Common.{◌+◌, Some, sym, ap, ◌∙◌}
use Rattle.std.specs.Prelude.{nat_lt}
use Rattle.link_apply.specs.Rows.{zeros_of}
use Rattle.std.proofs.lemmas.Option.{slice_get-get_or}
use Rattle.link_apply.specs.Applied.{IsRegionWithin}
use Rattle.link_apply.proofs.PatchingLemmas.{each_at}
use Rattle.link_apply.proofs.StartupLemmas.{filtered_more}
use Rattle.link_apply.proofs.startup.all_zeros.Goals as goal

pub add_zero-requires : goal.add_zero-requires
add_zero-requires c =
    each_at IsRegionWithin c.args.regions.now c.loop-region.region-index c.region-item.result c.requires
    (slice_get-get_or c.args.regions.now c.loop-region.region-index c.region-item.result c.loop-region-test.true ∙ ap Some (sym c.region-item.is))

pub loop-region-preserved : goal.loop-region-preserved
loop-region-preserved c =
    let row : Region → ZeroRow = λ r. record { base = r.base + r.length; size = r.zero } in
    filtered_more row (λ r. nat_lt 0 r.zero) c.args.regions.now c.loop-region.region-index c.region-item.result c.loop-region.rows.items c.add_zero.new.rows.items (zeros_of c.args.regions.now) c.loop-region-test.true c.region-item.is
    c.in_ok-add_zero.ensures c.loop-region.invariant
