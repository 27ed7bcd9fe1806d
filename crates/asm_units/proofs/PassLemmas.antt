-- Pass 2 of a line gives what definitions have.
use Rattle.std.proofs.Common.{◌≡◌, ℕ, List, ◌++◌, map, Option, Some, refl, sym, ap, ◌∙◌, subst, append_assoc}
use Rattle.std.specs.Prelude.{Result, Ok, Err}
use Rattle.sdt_fault.specs.declared.kinds.LineKind.{LineKind}
use Rattle.asm_model.specs.declared.statements.What.{What}
use Rattle.asm_model.specs.declared.values.Value.{Value}
use Rattle.asm_model.specs.declared.names.Names.{Names}
use Rattle.asm_model.specs.Extents.{Extent, Block, Padding, Loading, Pool}
use Rattle.asm_model.specs.FaultSets.{first_told}
use Rattle.asm_model.specs.Kinds.{told_kind}
use Rattle.asm_model.specs.LayoutKinds.{fault_kinds}
use Rattle.asm_model.specs.Symbols.{literal_value}
use Rattle.asm_model.proofs.SharedLemmas.{told_of_two}
use Rattle.source_model.specs.Contexts.{Context, sees}
use Rattle.source_model.specs.Units.{stored, units}
use Rattle.source_model.specs.ValueKinds.{literal_kinds, statement_kinds, value_kinds}
use Rattle.asm_units.specs.declared.tables.LineTables.{LineTables}
use Rattle.asm_units.specs.declared.emitted.Emission.{Emission}
use Rattle.asm_units.specs.declared.emitted.LineUnits.{LineUnits}
use Rattle.asm_units.specs.Emitting.{all_emitted, emitted_of, units_in}
use Rattle.asm_units.specs.Literals.{literal_in}
use Rattle.asm_units.specs.Passing.{AreJoined, IsNumber, IsPassTwo}
use Rattle.asm_units.specs.Showing.{ShowsTables, ShowsNames}
use Rattle.asm_units.proofs.KindLemmas.{fault_mapped}

-- ---- literals

pub loaded_kinds : (c : Context) (data_names : List (List ℕ)) (e : Extent) (v : Value) → literal_in e ≡ Some v
    → literal_kinds c data_names e ≡ fault_kinds (stored c data_names (literal_value (sees c) v))
loaded_kinds c data_names (Loading n u) v e = let same : u ≡ v = cc in ap (λ z. fault_kinds (stored c data_names (literal_value (sees c) z))) same
loaded_kinds c data_names (Block m n) v e = absurd (cc)
loaded_kinds c data_names (Padding m n) v e = absurd (cc)
loaded_kinds c data_names Pool v e = absurd (cc)

-- the tables of a line show a context's names
pub names_shown : (x : LineTables) (c : Context) (data_names : List (List ℕ)) (sizes : ℕ → ℕ) (s : Names) (word : Option ℕ) (w : What)
    → ShowsTables x c data_names sizes s word w
    → ShowsNames x.lookup.names.now x.data.now x.lookup.line.now.place.area c data_names
names_shown x c data_names sizes s word w h = record { names = h.lookup.names; area = sym h.lookup.line.area; labels = h.labels }

-- ---- all parts of a line

module _ (c : Context) (data_names : List (List ℕ)) (sizes : ℕ → ℕ) (s : Names) (e : Extent) (word : Option ℕ) (w : What)
    (us : Result Emission LineKind) (loads said both : Option LineKind) (number : Result ℕ LineKind) where
  told_all : both ≡ first_told loads said → all_emitted us ≡ units c data_names s word w → loads ≡ told_kind (literal_kinds c data_names e)
      → said ≡ told_kind (statement_kinds c sizes w) → first_told (told_kind (fault_kinds us)) both ≡ told_kind (value_kinds c data_names sizes s e word w)
  told_all joins puts literal tells =
      let own = fault_kinds (units c data_names s word w) in
      let literals = literal_kinds c data_names e in
      let statements = statement_kinds c sizes w in
      told_of_two (told_kind (fault_kinds us)) both own (literals ++ statements)
      (ap told_kind (sym (fault_mapped (λ (vs : Emission). map emitted_of (units_in vs)) us) ∙ ap fault_kinds puts))
      (joins ∙ told_of_two loads said literals statements literal tells)
      ∙ ap told_kind (sym (append_assoc own literals statements))

  pub passed : (r : Result LineUnits LineKind) → AreJoined us both number r → both ≡ first_told loads said → all_emitted us ≡ units c data_names s word w
      → loads ≡ told_kind (literal_kinds c data_names e) → said ≡ told_kind (statement_kinds c sizes w) → IsNumber c w number
      → IsPassTwo c data_names sizes s e word w r
  passed (Ok u) h joins puts literal tells is = record {
    faultless = sym (told_all joins puts literal tells) ∙ rw (h.0, h.1) refl;
    all = sym puts ∙ ap all_emitted h.0;
    number = subst (IsNumber c w) h.2 is;
  }
  passed (Err k) h joins puts literal tells is = sym (told_all joins puts literal tells) ∙ h
