-- What is found under the names of a source without faults.
use Rattle.std.proofs.Common.{◌≡◌, ℕ, List, [], ◌∷◌, ◌++◌, refl, subst, Option, Some, None}
use Rattle.std.specs.Prelude.{Result, Err}
use Rattle.sdt_fault.specs.declared.kinds.LineKind.{LineKind}
use Rattle.sdt_fault.specs.declared.kinds.LineKind.TheVariants.{Syntax}
use Rattle.asm_model.specs.declared.exprs.Expr.{Expr}
use Rattle.asm_model.specs.declared.values.Value.{Value}
use Rattle.asm_model.specs.declared.names.LaidName.{LaidName}
use Rattle.asm_model.specs.declared.statements.Statement.{Statement}
use Rattle.asm_model.specs.AtLine.{SourceLine, with_names, HoldsEach}
use Rattle.asm_model.specs.Grammar.{Tree}
use Rattle.asm_model.specs.Meaning.{named_in, meaning}
use Rattle.asm_model.specs.Entries.{imported_entry}
use Rattle.asm_model.specs.Labels.{imported_in, declared_names}
use Rattle.asm_model.specs.Laid.{LaidLine, imported_lines, laid_of, laid, all_entries, final_names, final_value}
use Rattle.asm_model.specs.Trees.{tree_of}
use Rattle.asm_model.specs.Sound.{IsSound, ArePlain}
use Rattle.layout_laws.proofs.FinalLemmas.{statement_held, source_holds}
use Rattle.layout_laws.proofs.NamedLemmas.{sofar}

-- ---- the value of a tree

abbrev pub tree_final : List LaidName → SourceLine → Option Tree → Result Value LineKind
tree_final N l None = Err Syntax
tree_final N l (Some t) = meaning (with_names l N) t

pub final_tree : (N : List LaidName) (l : SourceLine) (e : Expr) (o : Option Tree) → tree_of e ≡ o
    → final_value N l e ≡ tree_final N l o
final_tree N l e None h = rw h refl
final_tree N l e (Some t) h = rw h refl

-- ---- names that lines import

abbrev pub IsImported : List LaidName → LaidLine → Type 0
IsImported N l = (name : List ℕ) → imported_in l.statement.what ≡ Some name → named_in name N ≡ Some (imported_entry name)

abbrev pub AllImported : List LaidName → List LaidLine → Type 0
AllImported N [] = Unit {0}
AllImported N (l ∷ before) = IsImported N l × AllImported N before

pub all_imported : (N d : List LaidName) (ss : List Statement) → HoldsEach N (sofar N d ss) → AllImported N (laid_of d ss)
all_imported N d [] h = tt
all_imported N d (s ∷ ss) h =
    let p = statement_held N d s ss h in (
      λ name e. (subst (λ z. HoldsEach N (all_entries N (imported_lines s (laid_of d ss) z))) e p.2).0,
      all_imported N d ss p.0,
    )

pub imported_there : (N : List LaidName) (after : List LaidLine) (l : LaidLine) (before : List LaidLine)
    → AllImported N (after ++ l ∷ before) → IsImported N l
imported_there N [] l before h = h.0
imported_there N (m ∷ after) l before h = imported_there N after l before h.1

pub imports_stand : (ss : List Statement) → IsSound ss → ArePlain ss
    → (after before : List LaidLine) (l : LaidLine) → laid ss ≡ after ++ l ∷ before
    → (name : List ℕ) → imported_in l.statement.what ≡ Some name
    → named_in name (final_names (laid ss)) ≡ Some (imported_entry name)
imports_stand ss h plain after before l split =
    let N = final_names (laid ss) in
    imported_there N after l before
    (subst (AllImported N) split (all_imported N (declared_names ss) ss (source_holds ss h plain)))
