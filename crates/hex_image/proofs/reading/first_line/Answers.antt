use Rattle.std.proofs.Common.{arith, sym}
use Rattle.std.proofs.lemmas.Grind.{common_steps}
use Rattle.hex_image.proofs.LineLemmas.{lines_last, lines_first}
use Rattle.hex_image.proofs.reading.first_line.Goals as goal

pub returns-in-None-clause-first : goal.returns-in-None-clause-first
returns-in-None-clause-first c =
    let e = lines_last c.args.text.now c.requires (sym c.in-None.ensures) in grind (arith, common_steps, e)

pub returns-in-Some-clause-first : goal.returns-in-Some-clause-first
returns-in-Some-clause-first c =
    let e = lines_first c.args.text.now c.in-Some.end (sym c.in-Some.ensures) in grind (arith, common_steps, e)
