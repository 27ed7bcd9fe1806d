use Rattle.std.proofs.Common.{sym, ◌∙◌}
use Rattle.armlink_core.specs.Tables.{no_tables}
use Rattle.sdt_toolkit.proofs.ImageLemmas.{long_load, mapped, short_loads}
use Rattle.sdt_toolkit.proofs.images.region_files.Goals as goal

pub returns-then-has_long_load-clause-value : goal.returns-then-has_long_load-clause-value
returns-then-has_long_load-clause-value c =
    let long = rw c.as_slice.ensures at c.has_long_load.ensures in
    rw c.too_large.ensures (long_load c.args.out.now no_tables c.args.image.now (sym long ∙ c.if-has_long_load.true))

pub load_files-requires-clause-loads : goal.load_files-requires-clause-loads
load_files-requires-clause-loads c =
    let long = rw c.as_slice.ensures at c.has_long_load.ensures in
    short_loads c.args.image.now.loads (sym long ∙ c.if-has_long_load.false)

pub load_files-requires-clause-regions : goal.load_files-requires-clause-regions
load_files-requires-clause-regions c = mapped c.args.image.now.regions c.requires
