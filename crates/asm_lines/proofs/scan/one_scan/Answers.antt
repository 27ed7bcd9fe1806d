use Rattle.asm_lines.proofs.ScanLemmas.{one_scan}
use Rattle.asm_lines.proofs.scan.one_scan.Goals as goal

pub returns : goal.returns
returns c = one_scan
