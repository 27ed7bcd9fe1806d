use Rattle.std.proofs.Common.{◌≡◌, map, drop}
use Rattle.asm_arm.specs.Stems.{by_rows}
use Rattle.asm_arm.proofs.mnemonics.by_rows.Given as goal

abbrev pub invariant-loop-name : goal.invariant-loop-name
invariant-loop-name l =
    by_rows l.word (map (λ row. (row.0.now, row.1)) (drop l.name-index l.rows)) ≡ by_rows l.word (map (λ row. (row.0.now, row.1)) l.rows)
