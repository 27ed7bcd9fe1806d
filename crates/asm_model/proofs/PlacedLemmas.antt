-- All names of a source have symbols.
use Rattle.std.proofs.Common.{ℕ, zero, suc, List, [], ◌∷◌, ◌++◌, length, Bool, Option, Some, None}
use Rattle.std.specs.Prelude.{Result}
use Rattle.sdt_fault.specs.declared.kinds.LineKind.{LineKind}
use Rattle.asm_model.specs.declared.values.Value.{Value}
use Rattle.asm_model.specs.declared.values.Value.TheVariants.{Place}
use Rattle.asm_model.specs.declared.names.LaidName.{LaidName}
use Rattle.asm_model.specs.declared.statements.Statement.{Statement}
use Rattle.asm_model.specs.AtLine.{Definition, Nameless, Named, Equated, SourceLine, with_names}
use Rattle.asm_model.specs.Grammar.{Tree}
use Rattle.asm_model.specs.Meaning.{meaning}
use Rattle.asm_model.specs.Before.{area_behind, is_thumb_label}
use Rattle.asm_model.specs.Entries.{EachHasSymbol}
use Rattle.asm_model.specs.Labels.{Defined, Unnamed, Label, Equal, MapField, RegisterName, defined_by, imported_in, declared_names}
use Rattle.asm_model.specs.Laid.{LaidLine, statements_of, map_behind, offset_behind, tree_equated, definition_of, imported_lines, laid_behind, laid_of, laid, source_lines, entries_with, all_entries, names_after, final_names}
use Rattle.asm_model.specs.PlacedLines.{IsName, HasName, HasImport, AllNamed}
use Rattle.asm_model.specs.Placing.{HasSymbol, EntryHasSymbol}
use Rattle.asm_model.specs.Trees.{tree_of}
use Rattle.asm_model.proofs.EntryLemmas.{equal_names_have_symbols}

-- ---- names

abbrev MakesSymbols : Definition → Type 0
MakesSymbols Nameless = Unit {0}
MakesSymbols (Named n) = EntryHasSymbol n
MakesSymbols (Equated make t) = (r : Result Value LineKind) → EntryHasSymbol (make r)

abbrev EachMakes : List SourceLine → Type 0
EachMakes [] = Unit {0}
EachMakes (l ∷ ls) = MakesSymbols l.definition × EachMakes ls

pub makes_joined : (ls ms : List SourceLine) → EachMakes ls → EachMakes ms → EachMakes (ls ++ ms)
makes_joined [] ms h g = g
makes_joined (l ∷ ls) ms h g = (h.0, makes_joined ls ms h.1 g)

pub symbols_joined : (ns ms : List LaidName) → EachHasSymbol ns → EachHasSymbol ms → EachHasSymbol (ns ++ ms)
symbols_joined [] ms h g = g
symbols_joined (n ∷ ns) ms h g = (h.0, symbols_joined ns ms h.1 g)

pub entry_symbols : (names : List LaidName) (l : SourceLine) (d : Definition) → MakesSymbols d → EachHasSymbol (entries_with names l d)
entry_symbols names l Nameless h = tt
entry_symbols names l (Named n) h = (h, tt)
entry_symbols names l (Equated make t) h = (h (meaning (with_names l names) t), tt)

pub all_symbols : (names : List LaidName) (ls : List SourceLine) → EachMakes ls → EachHasSymbol (all_entries names ls)
all_symbols names [] h = tt
all_symbols names (l ∷ ls) h =
    symbols_joined (entries_with names l l.definition) (all_entries names ls) (entry_symbols names l l.definition h.0) (all_symbols names ls h.1)

pub after_symbols : (k : ℕ) (ls : List SourceLine) → EachMakes ls → EachHasSymbol (names_after k ls)
after_symbols zero ls h = all_symbols [] ls h
after_symbols (suc k) ls h = all_symbols (names_after k ls) ls h

-- ---- definitions

pub equated_makes : (names : List LaidName) (area : Option ℕ) (name : List ℕ) (o : Option Tree) → IsName name → MakesSymbols (tree_equated names area name o)
equated_makes names area name None h = tt
equated_makes names area [] (Some t) h = absurd h
equated_makes names area (c ∷ cs) (Some t) h = equal_names_have_symbols names area c cs

pub named_symbol : (name : List ℕ) → IsName name → HasSymbol (Place name 0)
named_symbol [] h = absurd h
named_symbol (c ∷ cs) h = tt

pub definition_makes : (names : List LaidName) (x : Defined) (area : Option ℕ) (offset : ℕ) (size : Option ℕ) (thumb : Bool) (m : ℕ) → HasName x
    → MakesSymbols (definition_of names x area offset size thumb m)
definition_makes names Unnamed area offset size thumb m h = tt
definition_makes names (Label name) area offset size thumb m h = named_symbol name h
definition_makes names (Equal name e) area offset size thumb m h = equated_makes names area name (tree_of e) h
definition_makes names (MapField name) area offset size thumb m h = tt
definition_makes names (RegisterName name r) area offset size thumb m h = tt

pub imported_makes : (s : Statement) (before : List LaidLine) (o : Option (List ℕ)) → HasImport o → EachMakes (imported_lines s before o)
imported_makes s before None h = tt
imported_makes s before (Some name) h = (named_symbol name h, tt)

pub lines_make : (d : List LaidName) (ss : List Statement) → AllNamed ss → EachMakes (source_lines (laid_of d ss))
lines_make d [] h = tt
lines_make d (s ∷ ss) h =
    makes_joined (source_lines (laid_of d ss)) ((laid_behind d s (laid_of d ss)).line ∷ imported_lines s (laid_of d ss) (imported_in s.what))
    (lines_make d ss h.2) (
      definition_makes d (defined_by s) (area_behind (s ∷ statements_of (laid_of d ss))) (offset_behind s (laid_of d ss))
          (Some (laid_behind d s (laid_of d ss)).size) (is_thumb_label s (statements_of (laid_of d ss))) (map_behind (laid_of d ss)) h.0,
      imported_makes s (laid_of d ss) (imported_in s.what) h.1,
    )

pub final_names_have_symbols : (statements : List Statement) → AllNamed statements → EachHasSymbol (final_names (laid statements))
final_names_have_symbols ss h = after_symbols (length (laid ss)) (source_lines (laid ss)) (lines_make (declared_names ss) ss h)
