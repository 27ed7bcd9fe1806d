-- What the statements before another say of it, as one record. SDT 2.50 Reference Guide, chapter on the assembler; how it is
-- kept is this project's.
use Rattle.std.specs.Prelude.{ℕ, ◌^◌, List}
use Rattle.asm_model.specs.declared.statements.Statement.{Statement}
use Rattle.asm_model.specs.declared.statements.What.{What}
use Rattle.asm_model.specs.Before.{state_behind, thumb_behind, code_from, code_behind}
use Rattle.asm_laying.specs.declared.carried.CarriedState.{CarriedState}

-- how many statements a source has at most
abbrev pub most_statements : ℕ
most_statements = 2 ^ 20

abbrev pub behind : List Statement → CarriedState
behind before = record { thumb = thumb_behind before; code = code_behind before }

-- the same, with a statement more
abbrev pub stepped : What → CarriedState → CarriedState
stepped w b = record { thumb = state_behind w b.thumb; code = code_from w b.code }
