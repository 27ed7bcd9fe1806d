use Rattle.sdt_listing.proofs.Lines.{short_areas}
use Rattle.sdt_listing.proofs.listing.push_object.Goals as goal

pub push_areas-requires : goal.push_areas-requires
push_areas-requires c = rw c.as_slice-areas.ensures (short_areas c.args.o.now c.requires)
