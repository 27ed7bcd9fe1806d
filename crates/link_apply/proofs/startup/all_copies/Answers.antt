use Rattle.std.proofs.Common.{Some, sym, ap, ◌∙◌}
use Rattle.boot_code.specs.declared.rows.CopyRow.{CopyRow}
use Rattle.link_model.specs.declared.placing.Region.{Region}
use Rattle.link_apply.specs.RegionBytes.{is_copied}
use Rattle.link_apply.specs.Rows.{copies_of}
use Rattle.std.proofs.lemmas.Option.{slice_get-get_or}
use Rattle.link_apply.specs.Applied.{IsRegionWithin}
use Rattle.link_apply.proofs.PatchingLemmas.{each_at}
use Rattle.link_apply.proofs.StartupLemmas.{filtered_more}
use Rattle.link_apply.proofs.startup.all_copies.Goals as goal

pub add_copy-requires : goal.add_copy-requires
add_copy-requires c =
    each_at IsRegionWithin c.args.regions.now c.loop-region.region-index c.region-item.result c.requires
    (slice_get-get_or c.args.regions.now c.loop-region.region-index c.region-item.result c.loop-region-test.true ∙ ap Some (sym c.region-item.is))

pub loop-region-preserved : goal.loop-region-preserved
loop-region-preserved c =
    let row : Region → CopyRow = λ r. record { source = r.load; target = r.base; size = r.length } in
    filtered_more row is_copied c.args.regions.now c.loop-region.region-index c.region-item.result c.loop-region.rows.items c.add_copy.new.rows.items (copies_of c.args.regions.now) c.loop-region-test.true c.region-item.is
    c.in_ok-add_copy.ensures c.loop-region.invariant
