-- Steps of the code that reads a directive. This project's.
use Rattle.std.specs.Prelude.{Result, Ok, Err}
use Rattle.sdt_fault.specs.declared.kinds.LineKind.{LineKind}
use Rattle.asm_model.specs.Kinds.{earlier}
use Rattle.asm_model.specs.Says as says
use Rattle.asm_expr.specs.declared.directives.Sentence.{Sentence}

-- the tokens of a line
abbrev pub sentence_of : Sentence → says.Sentence
sentence_of s = record { label = s.label; operation = s.operation; behind = s.behind.now }

-- the kind that is told where there is one already
abbrev pub told_with : {A : Type 0} → LineKind → Result A LineKind → LineKind
told_with k (Ok a) = k
told_with k (Err j) = earlier k j
