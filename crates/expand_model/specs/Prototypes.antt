-- The prototype of a macro: an optional `$label`, the name, and parameters `$p` or `$p=default`; and what the
-- parameters stand for in a call. ARM SDT 2.50 Reference Guide, chapter on the assembler. This project's: a missing
-- argument is empty, and one that is a lone bar takes the default.
use Rattle.std.specs.Prelude.{ℕ, ◌+◌, List, [], ◌∷◌, ◌++◌, length, take, drop, map, nat_lt, ◌==◌, ◌&&◌, ◌||◌, not, Bool, true, false, if◌then◌else◌, codes, Option, Some, None}
use Rattle.std.specs.List.{list_any, prefix_len}
use Rattle.sdt_fault.specs.declared.kinds.LineKind.{LineKind}
use Rattle.sdt_fault.specs.declared.kinds.LineKind.TheVariants.{Syntax, BadOperand, DuplicateName, TooMany}
use Rattle.asm_model.specs.Forms.{same, is_name, is_barred, is_short}
use Rattle.asm_model.specs.Kinds.{kind_if}
use Rattle.asm_model.specs.Limits.{name_bytes}
use Rattle.expand_model.specs.declared.macros.Macro.{Macro}
use Rattle.expand_model.specs.declared.macros.Parameter.{Parameter}
use Rattle.expand_model.specs.declared.macros.Prototype.{Prototype}
use Rattle.expand_model.specs.States.{Table, Scope}
use Rattle.expand_model.specs.Words.{Words, as_name, is_empty, listed, without_blanks, arguments}

-- a parameter's name behind its dollar
abbrev pub dollar_name : List ℕ → Option (List ℕ)
dollar_name [] = None
dollar_name (c ∷ cs) = if c == 36 && is_name cs then Some cs else None

abbrev pub parameter_with : Option (List ℕ) → List ℕ → Option Parameter
parameter_with None otherwise = None
parameter_with (Some name) otherwise = Some (record { name = name; otherwise = otherwise })

-- how many bytes stand before the sign of a default
abbrev pub name_part : List ℕ → ℕ
name_part s = prefix_len (λ c. not (c == 61)) s

abbrev pub parameter_of : List ℕ → Option Parameter
parameter_of s = parameter_with (dollar_name (take (name_part s) s)) (without_blanks (drop (name_part s + 1) s))

abbrev pub all_of : {A : Type 0} → Option A → Option (List A) → Option (List A)
all_of None rest = None
all_of (Some a) None = None
all_of (Some a) (Some more) = Some (a ∷ more)

abbrev pub parameters_of : List (List ℕ) → Option (List Parameter)
parameters_of [] = Some []
parameters_of (s ∷ ss) = all_of (parameter_of s) (parameters_of ss)

-- the label field: nothing, or a parameter
abbrev pub label_parameter : List ℕ → Option (Option (List ℕ))
label_parameter s = if is_empty s then Some None else given (dollar_name s)
  where
    given : Option (List ℕ) → Option (Option (List ℕ))
    given None = None
    given (Some name) = Some (Some name)

abbrev pub prototype_with : Option (Option (List ℕ)) → Option (List ℕ) → Option (List Parameter) → Option Prototype
prototype_with (Some label) (Some name) (Some ps) = Some (record { name = name; label = label; parameters = ps })
prototype_with _ _ _ = None

-- the prototype that a line is
unfoldable pub prototype_of : Words → Option Prototype
prototype_of w = prototype_with (label_parameter w.label) (as_name w.operation) (parameters_of (arguments w.behind))

-- ---- its faults

-- the names of the parameters
abbrev pub parameter_names : Prototype → List (List ℕ)
parameter_names p = listed p.label ++ map (λ q. q.name) p.parameters

abbrev pub is_repeated : List (List ℕ) → Bool
is_repeated [] = false
is_repeated (n ∷ ns) = list_any (same n) ns || is_repeated ns

abbrev pub is_long : List ℕ → Bool
is_long name = nat_lt name_bytes (length name)

-- the macro with the name
abbrev pub macro_named : List ℕ → List Macro → Option Macro
macro_named name [] = None
macro_named name (m ∷ ms) = if same m.prototype.name name then Some m else macro_named name ms

-- the name is that of a macro
abbrev pub is_macro : List Macro → List ℕ → Bool
is_macro macros name = list_any (λ m. same m.prototype.name name) macros

abbrev pub prototype_kinds : List Macro → Prototype → List LineKind
prototype_kinds macros p =
    kind_if (is_macro macros p.name || is_repeated (parameter_names p)) DuplicateName
    ++ kind_if (is_long p.name || list_any is_long (parameter_names p)) TooMany

-- ---- calls

abbrev pub argument_for : Parameter → List ℕ → List ℕ
argument_for p text = if same text (codes "|") then p.otherwise else text

abbrev pub argument_rows : List Parameter → List (List ℕ) → Table (List ℕ)
argument_rows [] texts = []
argument_rows (p ∷ ps) [] = (p.name, []) ∷ argument_rows ps []
argument_rows (p ∷ ps) (text ∷ texts) = (p.name, argument_for p text) ∷ argument_rows ps texts

-- the label as it is written, with its bars
abbrev pub label_rows : Option (List ℕ) → List ℕ → Table (List ℕ)
label_rows None text = []
label_rows (Some name) text = (name, text) ∷ []

-- what a call begins with
abbrev pub scope_of : Prototype → Words → Scope
scope_of p w = record { arguments = label_rows p.label w.label ++ argument_rows p.parameters (arguments w.behind); locals = [] }

abbrev pub takes_label : Option (List ℕ) → Bool
takes_label None = false
takes_label (Some name) = true

-- a label field that may be a line's label: a name, a name in bars, or the number of a local label
abbrev pub is_label : List ℕ → Bool
is_label s = is_name s || is_barred s || is_short s

-- a label field that is no label, more arguments than parameters, or a label that the prototype hasn't
abbrev pub call_kinds : Prototype → Words → List LineKind
call_kinds p w =
    kind_if (not (is_empty w.label) && not (is_label w.label)) Syntax
    ++ kind_if (nat_lt (length p.parameters) (length (arguments w.behind))) BadOperand
    ++ kind_if (not (is_empty w.label) && not (takes_label p.label)) BadOperand
