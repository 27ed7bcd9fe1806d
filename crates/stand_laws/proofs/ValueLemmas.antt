-- Values of expressions where each name has its address.
use Rattle.std.proofs.Common.{◌≡◌, ℕ, ◌+◌, ◌<◌, List, refl, sym, ◌∙◌, Option, Some, None}
use Rattle.std.specs.Prelude.{Result, Ok, Err}
use Rattle.sdt_fault.specs.declared.kinds.LineKind.{LineKind}
use Rattle.sdt_word.specs.declared.ranges.Range32.{Range32}
use Rattle.asm_model.specs.declared.exprs.Expr.{Expr}
use Rattle.asm_model.specs.declared.statements.Statement.{Statement}
use Rattle.asm_model.specs.declared.values.Value.{Value}
use Rattle.asm_model.specs.declared.values.Value.TheVariants.{Number, Truth, Words, Place}
use Rattle.asm_model.specs.Grammar.{Tree}
use Rattle.asm_model.specs.Extents.{as_number}
use Rattle.asm_model.specs.Laid.{LaidLine, pieces_of}
use Rattle.asm_model.specs.Marks.{datum_names}
use Rattle.asm_model.specs.Offsets.{area_size}
use Rattle.asm_model.specs.Placing.{placed_value, HaveSymbols}
use Rattle.asm_model.specs.Trees.{tree_of}
use Rattle.asm_model.proofs.PlacingLemmas.{placing_law}
use Rattle.layout_laws.proofs.FoundLemmas.{tree_final, final_tree}
use Rattle.patch_model.specs.Fields.{Values}
use Rattle.patch_model.specs.Reaches.{View}
use Rattle.source_model.specs.Contexts.{Context, sees, value_of, number_in}
use Rattle.source_model.specs.Objects.{Piece, Source, source_of, symbol_number, IsAmong, StandsIn}
use Rattle.source_laws.specs.Laws.{context_behind}
use Rattle.stand_model.specs.Shown.{IsShown}
use Rattle.stand_model.specs.Stands.{Lookup, value_placed, IsNumber, IsGap, placing_of}

-- a source that is placed, with the base of an area and what a line of it sees
pub record Setting : Type 0 where
  pub source : Source
  pub values : Values
  pub view : View
  pub region : Range32
  pub base : ℕ
  pub context : Context

abbrev pub lookup : Setting → Lookup
lookup k = record {
  view = k.view;
  region = k.region;
  placing = placing_of k.source k.values;
  meant = λ name. k.values.symbol (symbol_number k.source name);
  data_names = datum_names k.source.statements;
  context = k.context;
}

abbrev pub setting : List Statement → Values → View → Range32 → ℕ → LaidLine → List LaidLine → Setting
setting ss values view region area l before = record {
  source = source_of ss;
  values = values;
  view = view;
  region = region;
  base = values.base area;
  context = context_behind ss l before;
}

abbrev pub Shown : Setting → Piece → Type 0
Shown k p = IsShown k.source k.values k.view k.region k.base p

abbrev pub AllShown : Setting → List Piece → Type 0
AllShown k ps = (p : Piece) → IsAmong p ps → Shown k p

-- all that stands in an area
abbrev pub ThingsShown : Setting → ℕ → Type 0
ThingsShown k area = (p : Piece) → StandsIn k.source area p → Shown k p

-- and zeros where nothing stands
abbrev pub GapsShown : Source → ℕ → View → ℕ → Type 0
GapsShown s area view base = (i : ℕ) → i < area_size area (pieces_of s.lines) → IsGap s area i → view (base + i) ≡ Some 0

pub value_stands : (s : Lookup) (e : Expr) (v : Value) → HaveSymbols (sees s.context) → value_of s.context e ≡ Ok v
    → value_placed s e ≡ Ok (placed_value s.placing (sees s.context) v)
value_stands s e v here h = by_tree (tree_of e) refl
  where
    by_tree : (o : Option Tree) → tree_of e ≡ o → value_placed s e ≡ Ok (placed_value s.placing (sees s.context) v)
    by_tree None x = let y : tree_final s.context.names s.context.line None ≡ Ok v = sym (final_tree s.context.names s.context.line e None x) ∙ h in absurd (cc)
    by_tree (Some t) x = rw x (placing_law s.placing (sees s.context) t v here (sym (final_tree s.context.names s.context.line e (Some t) x) ∙ h))

pub number_only : (r : Result Value LineKind) (n : ℕ) → as_number r ≡ Ok n → r ≡ Ok (Number n)
number_only (Ok (Number m)) n h = cc
number_only (Ok (Truth b)) n h = absurd (cc)
number_only (Ok (Words w)) n h = absurd (cc)
number_only (Ok (Place q m)) n h = absurd (cc)
number_only (Err k) n h = absurd (cc)

pub number_stands : (s : Lookup) (e : Expr) (n : ℕ) → HaveSymbols (sees s.context) → number_in s.context e ≡ Ok n → IsNumber s e n
number_stands s e n here h = value_stands s e (Number n) here (number_only (value_of s.context e) n h)
