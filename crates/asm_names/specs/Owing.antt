-- What the code has of a name for an expression. This project's.
use Rattle.asm_names.specs.declared.dues.Due.{Due}
use Rattle.asm_names.specs.Source.{Owed}

abbrev pub owed_of : Due → Owed
owed_of d = record { name = d.name.now; value = d.value.now; line = d.line }
