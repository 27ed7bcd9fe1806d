use Rattle.asm_units.proofs.KindLemmas.{statement_answered}
use Rattle.asm_units.proofs.kinds.statement_kind.Goals as goal

pub returns : goal.returns
returns c = statement_answered c.args.tables.now c.args.what.now c.statement_there.result c.statement_there.ensures
