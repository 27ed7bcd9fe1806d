use Rattle.std.specs.Option.{option_copied}
use Rattle.asm_units.proofs.LineLemmas.{line_answered}
use Rattle.asm_units.proofs.line_symbols.add_line.Goals as goal

pub returns : goal.returns
returns c =
    line_answered c.args.lookup.now (option_copied c.args.literal) c.args.lookup.now.line.now.statement.now.what c.args.symbols.now c.add_statement.new.symbols
    c.add_statement.result c.add_statement.ensures
