-- What lines need is found by the entries of their names.
use Rattle.std.proofs.Common.{◌≡◌, ℕ, List, [], ◌∷◌, ◌++◌, Option, Some, None, refl, sym, ap, ◌∙◌}
use Rattle.std.specs.Prelude.{Result, Ok, Err, OnOk}
use Rattle.sdt_fault.specs.declared.kinds.LineKind.{LineKind}
use Rattle.asm_model.specs.declared.directives.DirectiveLine.{DirectiveLine}
use Rattle.asm_model.specs.declared.directives.DirectiveLine.TheVariants as line
use Rattle.asm_model.specs.declared.directives.Held.{Held}
use Rattle.asm_model.specs.declared.directives.Held.TheVariants as held
use Rattle.asm_model.specs.declared.exprs.Expr.{Expr}
use Rattle.asm_model.specs.declared.statements.What.{What}
use Rattle.asm_model.specs.declared.statements.What.TheVariants as what
use Rattle.asm_model.specs.declared.values.Value.{Value}
use Rattle.asm_model.specs.declared.values.Value.TheVariants.{Number, Truth, Words, Place}
use Rattle.asm_model.specs.AtLine.{SourceLine}
use Rattle.asm_model.specs.DataItems.{held_by}
use Rattle.asm_model.specs.Extents.{Extent, Block, Padding, Loading, Pool}
use Rattle.asm_model.specs.Symbols.{unless_placed, word_symbols, words_symbols, branch_symbols, target_symbols, arm_target, thumb_target, arm_symbols, thumb_symbols, held_symbols, literal_value, literal_symbols, directive_symbols, symbols_in, listed_behind}
use Rattle.source_model.specs.Contexts.{Context, sees, value_of}
use Rattle.asm_names.specs.PlacedLines.{line_of, Sees}
use Rattle.asm_instructions.specs.declared.lookups.Lookup.{Lookup}
use Rattle.asm_instructions.specs.Lookups.{context_of}
use Rattle.asm_instructions.proofs.AlikeLemmas.{stands_alike}
use Rattle.asm_instructions.proofs.ContextLemmas.{Alike, seen_alike}
use Rattle.asm_units.specs.Literals.{literal_in}
use Rattle.asm_units.proofs.KindLemmas.{literal_alike}
use Rattle.asm_units.specs.Listing.{loaded_symbols, statement_symbols}

module _ (a b : Context) (s : Alike a b) where
  word_alike : (v : Result Value LineKind) → word_symbols (sees a) v ≡ word_symbols (sees b) v
  word_alike (Ok (Place (x ∷ xs) n)) = ap (unless_placed (x ∷ xs)) (stands_alike a b s (x ∷ xs))
  word_alike (Ok (Place [] n)) = refl
  word_alike (Ok (Number n)) = refl
  word_alike (Ok (Truth t)) = refl
  word_alike (Ok (Words w)) = refl
  word_alike (Err k) = refl

  words_alike : (es : List Expr) → words_symbols a.names a.line es ≡ words_symbols b.names b.line es
  words_alike [] = refl
  words_alike (e ∷ es) =
      ap (λ z. z ++ words_symbols a.names a.line es) (ap (word_symbols (sees a)) (s.value e) ∙ word_alike (value_of b e))
      ∙ ap (λ z. word_symbols (sees b) (value_of b e) ++ z) (words_alike es)

  branch_alike : (v : Result Value LineKind) → branch_symbols (sees a) v ≡ branch_symbols (sees b) v
  branch_alike (Ok (Place (x ∷ xs) n)) = rw (s.area, stands_alike a b s (x ∷ xs), s.thumb, s.entry (x ∷ xs)) refl
  branch_alike (Ok (Place [] n)) = refl
  branch_alike (Ok (Number n)) = refl
  branch_alike (Ok (Truth t)) = refl
  branch_alike (Ok (Words w)) = refl
  branch_alike (Err k) = refl

  target_alike : (o : Option Expr) → target_symbols a.names a.line o ≡ target_symbols b.names b.line o
  target_alike None = refl
  target_alike (Some e) = ap (branch_symbols (sees a)) (s.value e) ∙ branch_alike (value_of b e)

  held_alike : (h : Held) (es : List Expr) → held_symbols a.names a.line h es ≡ held_symbols b.names b.line h es
  held_alike held.Relocatable es = words_alike es
  held_alike (held.Fixed width) es = refl
  held_alike held.Strings es = refl

  directive_alike : (l : DirectiveLine) → directive_symbols a.names a.line l ≡ directive_symbols b.names b.line l
  directive_alike (line.Constants item es) = held_alike (held_by item) es
  directive_alike _ = refl

  literal_there : (e : Extent) → loaded_symbols (sees a) (literal_in e) ≡ literal_symbols b.names b.line e
  literal_there (Loading n v) = ap (word_symbols (sees a)) (literal_alike (sees a) (sees b) s.entry v) ∙ word_alike (literal_value (sees b) v)
  literal_there (Block m n) = refl
  literal_there (Padding m n) = refl
  literal_there Pool = refl

  statement_there : (e : Extent) (w : What) → statement_symbols a.names a.line (literal_in e) w ≡ symbols_in b.names b.line e w
  statement_there e what.Nothing = refl
  statement_there e (what.Arm l) = target_alike (arm_target l)
  statement_there e (what.Thumb l) = target_alike (thumb_target l)
  statement_there e (what.Pseudo p) = literal_there e
  statement_there e (what.Directive l) = directive_alike l

-- the lookup's context, at a line as its expressions see it
abbrev at_line : Lookup → SourceLine → Context
at_line x f = record { names = x.names.now; line = f; registers = x.registers.now }

pub line_answered : {A E : Type 0} (x : Lookup) (literal : Option Value) (w : What) (old new : List (List ℕ)) (r : Result A E)
    → OnOk r (new ≡ listed_behind old (statement_symbols x.names.now (line_of x.line.now) literal w))
    → OnOk r ((f : SourceLine) (e : Extent) → Sees x.line.now f → literal_in e ≡ literal → new ≡ listed_behind old (symbols_in x.names.now f e w))
line_answered x literal w old new (Ok a) h = λ f e sight loaded.
    h
    ∙ ap (λ o. listed_behind old (statement_symbols x.names.now (line_of x.line.now) o w)) (sym loaded)
    ∙ ap (listed_behind old) (statement_there (context_of x) (at_line x f) (seen_alike x (at_line x f) refl sight (λ q. refl)) e w)
line_answered x literal w old new (Err k) h = tt
