use Rattle.asm_reading.proofs.LawLemmas.{one_line, one_reading}
use Rattle.asm_reading.proofs.laws.one_reading.Goals as goal

pub returns-clause-line : goal.returns-clause-line
returns-clause-line c = one_line c.one_parse.ensures c.one_directive.ensures c.one_scan.ensures

pub returns-clause-reading : goal.returns-clause-reading
returns-clause-reading c = one_reading (one_line c.one_parse.ensures c.one_directive.ensures c.one_scan.ensures)
