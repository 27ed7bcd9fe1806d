use Rattle.std.proofs.Common.{refl}
use Rattle.asm_lines.specs.Lengths.{kind_of}
use Rattle.asm_lines.specs.declared.bytes.TheConstants.{KINDS}
use Rattle.asm_lines.proofs.TableLemmas.{entry_is}
use Rattle.asm_lines.proofs.bytes.kind_of.Goals as goal

pub returns : goal.returns
returns c = entry_is kind_of KINDS.now c.args.c refl c.ranges.c.fits
