use Rattle.std.proofs.Common.{sym, ◌∙◌}
use Rattle.sdt_toolkit.proofs.ImageLemmas.{long_named, short_named}
use Rattle.sdt_toolkit.proofs.named.named_file.Goals as goal

pub returns-then-is_long_named-clause-value : goal.returns-then-is_long_named-clause-value
returns-then-is_long_named-clause-value c =
    let long = rw c.as_slice.ensures at c.is_long_named.ensures in
    rw c.too_large.ensures (long_named c.args.out.now c.args.named.now.tables c.args.named.now.image (sym long ∙ c.if-is_long_named.true))

pub write_named_elf-requires-clause-sized : goal.write_named_elf-requires-clause-sized
write_named_elf-requires-clause-sized c =
    let long = rw c.as_slice.ensures at c.is_long_named.ensures in
    short_named c.args.named.now.image c.args.named.now.tables (sym long ∙ c.if-is_long_named.false)
