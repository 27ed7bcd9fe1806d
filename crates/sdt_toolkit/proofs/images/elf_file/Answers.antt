use Rattle.std.proofs.Common.{sym, ◌∙◌}
use Rattle.armlink_core.specs.Tables.{no_tables}
use Rattle.sdt_toolkit.proofs.ImageLemmas.{long_elf, short_elf}
use Rattle.sdt_toolkit.proofs.images.elf_file.Goals as goal

pub returns-then-is_long_elf-clause-value : goal.returns-then-is_long_elf-clause-value
returns-then-is_long_elf-clause-value c =
    let long = rw c.as_slice.ensures at c.is_long_elf.ensures in
    rw c.too_large.ensures (long_elf c.args.out.now no_tables c.args.image.now (sym long ∙ c.if-is_long_elf.true))

pub write_elf-requires-clause-sized : goal.write_elf-requires-clause-sized
write_elf-requires-clause-sized c =
    let long = rw c.as_slice.ensures at c.is_long_elf.ensures in
    short_elf c.args.image.now (sym long ∙ c.if-is_long_elf.false)
