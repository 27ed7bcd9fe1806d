-- Steps of the code of definitions. This project's.
use Rattle.std.specs.Prelude.{◌≡◌, ℕ, List, map, ◌||◌, Bool, true, false, Option, Some, None, Result, Ok, Err}
use Rattle.std.specs.List.{list_any}
use Rattle.sdt_fault.specs.declared.kinds.LineKind.{LineKind}
use Rattle.sdt_fault.specs.declared.kinds.LineKind.TheVariants.{Syntax, Nesting}
use Rattle.asm_model.specs.declared.lines.Line.{Line}
use Rattle.asm_model.specs.Forms.{same}
use Rattle.asm_model.specs.Kinds.{told_kind}
use Rattle.expand_model.specs.declared.macros.Parameter.{Parameter}
use Rattle.expand_model.specs.declared.macros.Prototype.{Prototype}
use Rattle.expand_model.specs.declared.operations.Operation.{Operation}
use Rattle.expand_model.specs.declared.operations.Operation.TheVariants.{MEnd, Macro}
use Rattle.expand_model.specs.Pairing.{raw_operation, taken}
use Rattle.expand_model.specs.Prototypes.{is_repeated, prototype_kinds, prototype_of}
use Rattle.expand_model.specs.States.{State}
use Rattle.expand_model.specs.Steps.{Sources, Next, bad, defined_as, prototype_line}
use Rattle.expand_model.specs.Words.{raw_words_of}
use Rattle.asm_variables.specs.Maps.{Set, has_name}
use Rattle.asm_variables.specs.declared.expansion.Definition.{Definition}
use Rattle.asm_variables.specs.declared.expansion.Expansion.{Expansion}
use Rattle.asm_expand.specs.declared.line_cursors.LineCursor.{LineCursor}
use Rattle.asm_expand.specs.declared.steps.Next.{Next as CodeNext}
use Rattle.asm_variables.specs.Expanding.{Represents, macro_of}
use Rattle.asm_expand.specs.LineCursors.{cursor_lines}
use Rattle.asm_expand.specs.Saying.{IsFirst, Shows}
use Rattle.asm_variables.specs.Valued.{Values}

abbrev pub IsDefinition : Prototype → List Line → Definition → Type 0
IsDefinition p body d = macro_of d ≡ record { prototype = p; body = body }

-- what follows a prototype
abbrev pub Defines : LineCursor → LineCursor → Prototype → Expansion → Expansion → CodeNext → Type 0
Defines at body p old new n =
    (sources : Sources) (s : State) (l : Line) → IsFirst at l → Represents old s
    → Shows sources new n (defined_as p l s (taken s.visits (cursor_lines body)))

abbrev pub names_of : List Parameter → List (List ℕ)
names_of ps = map (λ p. p.name) ps

-- whether two parameters have one name, and else which names they have
abbrev pub IsRepeated : List Parameter → Bool → Set → Type 0
IsRepeated ps true seen = is_repeated (names_of ps) ≡ true
IsRepeated ps false seen =
    (is_repeated (names_of ps) ≡ false)
    × ((q : List ℕ) → has_name seen q ≡ list_any (λ n. same n q) (names_of ps))

-- whether a name is among these, and else it is noted
abbrev pub Notes : List ℕ → Bool → Set → Set → Type 0
Notes name true old new = has_name old name ≡ true
Notes name false old new =
    (has_name old name ≡ false)
    × ((q : List ℕ) → has_name new q ≡ (same name q || has_name old q))

abbrev pub PrototypeFault : Expansion → Prototype → Option LineKind → Type 0
PrototypeFault c p told = Values c (λ s. told ≡ told_kind (prototype_kinds s.macros p))

-- the fault of a word in the place of a prototype
abbrev pub word_kind : Option Operation → Option LineKind
word_kind (Some MEnd) = Some Syntax
word_kind (Some Macro) = Some Nesting
word_kind _ = None

abbrev pub read_as : Result Prototype LineKind → Line → State → Line → List Line → Next
read_as (Ok p) l s m rest = defined_as p l s (taken s.visits rest)
read_as (Err k) l s m rest = bad m k

-- what a line in the place of a prototype is
abbrev pub IsPrototype : Expansion → Line → Result Prototype LineKind → Type 0
IsPrototype c m read =
    Values c (λ s. (l : Line) (rest : List Line)
    → prototype_line (raw_operation m) (prototype_of (raw_words_of m.text)) l s m rest ≡ read_as read l s m rest)
