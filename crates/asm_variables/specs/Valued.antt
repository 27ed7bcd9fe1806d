-- Steps of the code that finds values. This project's.
use Rattle.std.specs.Prelude.{◌≡◌, ℕ, List, Bool, Option, Result}
use Rattle.std.specs.Option.{is_some}
use Rattle.sdt_fault.specs.declared.kinds.LineKind.{LineKind}
use Rattle.asm_model.specs.declared.exprs.ExprItem.{ExprItem}
use Rattle.asm_model.specs.declared.exprs.Part.{Part}
use Rattle.asm_model.specs.declared.names.LaidName.{LaidName}
use Rattle.asm_model.specs.declared.values.EvalFault.{EvalFault}
use Rattle.asm_model.specs.declared.values.Value.{Value}
use Rattle.asm_model.specs.Grammar.{Tree, postfix, IsSpelled}
use Rattle.asm_model.specs.Kinds.{told_kind}
use Rattle.asm_model.specs.Meaning.{named_in, meaning, IsValue}
use Rattle.expand_model.specs.Known.{Operand, label_entries, names_with, value_with}
use Rattle.expand_model.specs.States.{State}
use Rattle.asm_variables.specs.declared.expansion.Expansion.{Expansion}
use Rattle.asm_variables.specs.declared.values.Visible.{Visible}
use Rattle.asm_expr.specs.Places.{one_entry}
use Rattle.asm_variables.specs.Entries.{item_entries, items_entries}
use Rattle.asm_variables.specs.Expanding.{Represents}
use Rattle.asm_variables.specs.Known as known

-- this holds of each state that the code has
abbrev pub Values : Expansion → (State → Type 0) → Type 0
Values c holds = (s : State) → Represents c s → holds s

abbrev pub IsNamed : Visible → Expansion → List ℕ → Option Value → Type 0
IsNamed v c q value = Values c (λ s. value ≡ known.value_in v s q)

abbrev pub HasValue : Visible → Expansion → List ℕ → Bool → Type 0
HasValue v c q b = Values c (λ s. b ≡ is_some (known.value_in v s q))

abbrev pub Knows : Visible → Expansion → List ℕ → Bool → Type 0
Knows v c q b = Values c (λ s. b ≡ is_some (named_in q (known.entries_in v s)))

abbrev pub IsLabel : Expansion → List ℕ → Option LaidName → Type 0
IsLabel c q entry = Values c (λ s. entry ≡ named_in q (label_entries s))

abbrev pub IsEntry : Visible → Expansion → List ℕ → Option LaidName → Type 0
IsEntry v c q entry = Values c (λ s. entry ≡ named_in q (known.all_entries v s))

-- the kind that is told of these faults, which names with values decide
abbrev pub IsTold : Visible → Expansion → (List LaidName → List LineKind) → Option LineKind → Type 0
IsTold v c kinds told = Values c (λ s. told ≡ told_kind (kinds (known.entries_in v s)))

abbrev pub HasEntry : Visible → Expansion → ExprItem → Option LaidName → Type 0
HasEntry v c i entry = Values c (λ s. one_entry entry ≡ item_entries (known.all_entries v s) i)

abbrev pub HasEntries : Visible → Expansion → List ExprItem → List LaidName → Type 0
HasEntries v c items list = Values c (λ s. list ≡ items_entries (known.all_entries v s) items)

-- the value of items that tokens spell
abbrev pub Gives : Visible → Expansion → List ExprItem → Result Value EvalFault → Type 0
Gives v c items result =
    Values c (λ s. (ps : List Part) (t : Tree)
    → IsSpelled ps t → items ≡ postfix t → IsValue (meaning (names_with s (known.all_entries v s)) t) result)

abbrev pub IsValueOf : Visible → Expansion → Operand → Result Value LineKind → Type 0
IsValueOf v c x value = Values c (λ s. value ≡ value_with s (known.entries_in v s) x)
