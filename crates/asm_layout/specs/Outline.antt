-- What laying a line needs to know of the whole source. This project's.
use Rattle.std.specs.Prelude.{◌≡◌, ℕ, List, [], ◌∷◌, ◌++◌, drop, map, Bool, true, false, not, if◌then◌else◌}
use Rattle.std.specs.List.{list_any}
use Rattle.asm_model.specs.declared.exprs.Expr.{Expr}
use Rattle.asm_model.specs.declared.statements.Statement.{Statement}
use Rattle.asm_model.specs.Forms.{same}
use Rattle.asm_model.specs.Labels.{Defined, Equal, defined_by, declared_names}
use Rattle.asm_model.specs.LayoutKinds.{names_in, names_behind, is_repeated, first_equal, equals_in, settled}
use Rattle.asm_model.specs.Laid.{reversed}
use Rattle.asm_checks.specs.States.{AreStates}
use Rattle.asm_laying.specs.declared.carried.CarriedState.{CarriedState}
use Rattle.asm_laying.specs.Carried.{behind}
use Rattle.asm_names.specs.declared.equals.Equal.{Equal as Code}
use Rattle.asm_names.specs.Equals.{pairs_of}
use Rattle.asm_names.specs.Order.{is_settled}
use Rattle.asm_layout.specs.declared.outline.Listed.{Listed}
use Rattle.asm_layout.specs.declared.outline.Outline.{Outline}

-- ---- names for expressions, one behind the other

-- whether a statement with a name for an expression is the first that defines the name
abbrev pub first_of : Defined → List Statement → List Bool
first_of (Equal name e) before = not (list_any (same name) (names_behind before)) ∷ []
first_of _ before = []

abbrev pub firsts_in : List Statement → List Bool
firsts_in [] = []
firsts_in (s ∷ before) = firsts_in before ++ first_of (defined_by s) before

-- whether its name depends on itself, or on one that does; of a statement that isn't the first that defines the name this isn't
-- asked
abbrev pub circle_of : List (List ℕ) → Defined → List Statement → List Bool
circle_of settled (Equal name e) before =
    (if list_any (same name) (names_behind before) then false else not (list_any (same name) settled)) ∷ []
circle_of settled _ before = []

abbrev pub circles_in : List (List ℕ) → List Statement → List Bool
circles_in settled [] = []
circles_in settled (s ∷ before) = circles_in settled before ++ circle_of settled (defined_by s) before

-- the marks of first definitions, of which each that is settled is told, among those of all
abbrev pub marks_of : List Bool → List Bool → List Bool
marks_of [] settled = []
marks_of (false ∷ firsts) settled = false ∷ marks_of firsts settled
marks_of (true ∷ firsts) [] = false ∷ marks_of firsts []
marks_of (true ∷ firsts) (b ∷ settled) = not b ∷ marks_of firsts settled

-- the mark of a definition before others, and how many that are settled are taken behind it
abbrev pub IsMarked : Bool → List Bool → ℕ → Bool → ℕ → Type 0
IsMarked first settled taken mark next =
    (rest : List Bool) → marks_of (first ∷ rest) (drop taken settled) ≡ mark ∷ marks_of rest (drop next settled)

-- ---- names that are defined again

-- whether a statement defines a name that one before it defines, or one name twice; of each
abbrev pub repeats_in : List Statement → List Bool
repeats_in [] = []
repeats_in (s ∷ before) = repeats_in before ++ is_repeated (names_behind before) (names_in s) ∷ []

-- ---- lists of code

-- whether each of the names is settled
abbrev pub settled_marks : List Code → List Bool
settled_marks equals = map (λ (e : Code). is_settled (pairs_of equals) e.name.now) equals

-- a name with its expression, where it is listed
abbrev pub pair_if : Bool → List ℕ → Expr → List (List ℕ × Expr)
pair_if true name e = (name, e) ∷ []
pair_if false name e = []

-- what is listed of statements, the last of them first
pub record IsListed (statements : List Statement) (l : Listed) : Type 0 where
  pub names : l.names ≡ declared_names statements
  pub equals : pairs_of l.equals.items ≡ equals_in statements
  pub firsts : l.firsts.items ≡ firsts_in statements
  pub repeats : l.repeated.items ≡ repeats_in statements

-- what is listed of statements of which these are left
pub record IsListing (statements left : List Statement) (b : CarriedState) (l : Listed) : Type 0 where
  -- those before, the last of them first
  pub before : List Statement
  pub whole : reversed left before ≡ reversed statements []
  pub standing : b ≡ behind before
  pub listed : IsListed before l

-- what is listed of a statement more, but for its names
pub record Lists (s : Statement) (old new : Listed) : Type 0 where
  pub names : new.names ≡ old.names
  pub repeats : new.repeated ≡ old.repeated
  pub equals : (before : List Statement) → old.names ≡ declared_names before
      → pairs_of new.equals.items ≡ pairs_of old.equals.items ++ first_equal (defined_by s) before
  pub firsts : (before : List Statement) → old.names ≡ declared_names before
      → new.firsts.items ≡ old.firsts.items ++ first_of (defined_by s) before

pub record IsOutline (statements : List Statement) (o : Outline) : Type 0 where
  pub names : o.names ≡ declared_names statements
  pub states : AreStates statements o.states
  pub marks : o.circular.items ≡ circles_in (settled (equals_in statements)) statements
  pub repeats : o.repeated.items ≡ repeats_in statements
