use Rattle.std.proofs.Common.{◌≤◌, arith, sym, length-take}
use Rattle.asm_lines.proofs.LineLemmas.{last_from, first_from}
use Rattle.asm_lines.proofs.split.first_line.Goals as goal

pub returns-in-None-clause-first : goal.returns-in-None-clause-first
returns-in-None-clause-first c =
    last_from c.args.text.now c.args.from c.requires (rw c.behind-rest.ensures at (sym c.in-None.ensures))

pub returns-in-Some-clause-first : goal.returns-in-Some-clause-first
returns-in-Some-clause-first c =
    let within = simp length-take at (rw c.begin.ensures at c.len_without_return.ensures.within) in
    let le : c.len_without_return.result ≤ c.in-Some.len = omega arith in
    first_from c.args.text.now c.args.from c.in-Some.len c.len_without_return.result
    (rw c.behind-rest.ensures at (sym c.in-Some.ensures)) le
    (rw (c.begin.ensures, c.behind-rest.ensures) at c.len_without_return.ensures.bytes)
