-- Steps of the code of variables. This project's.
use Rattle.std.specs.Prelude.{◌≡◌, ℕ, List, ◌++◌, not, Option}
use Rattle.std.specs.Option.{is_some}
use Rattle.sdt_fault.specs.declared.kinds.LineKind.{LineKind}
use Rattle.sdt_fault.specs.declared.kinds.LineKind.TheVariants.{DuplicateName, Nesting, TooMany}
use Rattle.asm_model.specs.Kinds.{told_kind, kind_if}
use Rattle.expand_model.specs.declared.operations.Sort.{Sort}
use Rattle.expand_model.specs.Known.{Operand, long_kinds}
use Rattle.expand_model.specs.Prototypes.{is_long}
use Rattle.expand_model.specs.States.{found, locals_of, variable}
use Rattle.expand_model.specs.Steps.{label_kinds, target_kinds}
use Rattle.expand_model.specs.Words.{Words}
use Rattle.asm_variables.specs.declared.expansion.Expansion.{Expansion}
use Rattle.asm_variables.specs.Valued.{Values}

abbrev pub GlobalFault : Expansion → Words → List ℕ → Option LineKind → Type 0
GlobalFault c w name told =
    Values c (λ s. told ≡ told_kind
    (label_kinds w ++ kind_if (is_some (found name s.globals)) DuplicateName ++ kind_if (is_long name) TooMany))

abbrev pub LocalFault : Expansion → Words → List ℕ → Option LineKind → Type 0
LocalFault c w name told =
    Values c (λ s. told ≡ told_kind (label_kinds w ++ kind_if (is_some (found name (locals_of s.scope))) DuplicateName
    ++ kind_if (not (is_some s.scope)) Nesting ++ kind_if (is_long name) TooMany))

abbrev pub TargetFault : Expansion → Sort → List ℕ → Option LineKind → Type 0
TargetFault c sort name told = Values c (λ s. told ≡ told_kind (target_kinds sort (variable s name)))

abbrev pub SetFault : Expansion → Sort → List ℕ → Operand → Option LineKind → Type 0
SetFault c sort name x told =
    Values c (λ s. told ≡ told_kind (target_kinds sort (variable s name) ++ long_kinds x))
