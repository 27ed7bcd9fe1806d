-- The kinds of values are those that each context gives that is shown.
use Rattle.std.proofs.Common.{◌≡◌, ℕ, ◌+◌, ◌%◌, ◌^◌, ◌<◌, List, [], ◌∷◌, length, Option, Some, None, refl, sym, ap, ◌∙◌}
use Rattle.std.specs.Prelude.{Result, Ok, Err, IfOk, nat_le, slice_index}
use Rattle.std.proofs.lemmas.Option.{slice_get-get_or}
use Rattle.sdt_fault.specs.declared.kinds.LineKind.{LineKind}
use Rattle.sdt_fault.specs.declared.kinds.LineKind.TheVariants.{WrongType}
use Rattle.asm_model.specs.declared.exprs.BinaryOp.TheVariants.{Add}
use Rattle.asm_model.specs.declared.directives.DirectiveLine.{DirectiveLine}
use Rattle.asm_model.specs.declared.directives.DirectiveLine.TheVariants as line
use Rattle.asm_model.specs.declared.names.LaidName.{LaidName}
use Rattle.asm_model.specs.declared.names.Names.{Names}
use Rattle.asm_model.specs.declared.statements.What.{What}
use Rattle.asm_model.specs.declared.statements.What.TheVariants as what
use Rattle.asm_model.specs.declared.values.Value.{Value}
use Rattle.asm_model.specs.declared.values.Value.TheVariants.{Number, Truth, Words, Place}
use Rattle.asm_model.specs.Kinds.{told_kind}
use Rattle.asm_model.specs.Meaning.{named_in, stands_at, entry_value, value_of, binary}
use Rattle.asm_model.specs.LayoutKinds.{fault_kinds}
use Rattle.asm_model.specs.Readings.{mapped, then_both}
use Rattle.asm_model.specs.Symbols.{literal_value}
use Rattle.source_model.specs.Contexts.{Context, sees}
use Rattle.source_model.specs.ValueKinds.{lies_within, kinds_unless, exported_kinds, export_kinds, assert_kinds, directive_kinds, statement_kinds}
use Rattle.asm_instructions.specs.Lookups.{context_of}
use Rattle.asm_instructions.proofs.AlikeLemmas.{stands_alike}
use Rattle.asm_instructions.proofs.ContextLemmas.{shown_alike}
use Rattle.asm_units.specs.declared.tables.LineTables.{LineTables}
use Rattle.asm_units.specs.Literals.{moved}
use Rattle.asm_units.specs.Showing.{ShowsTables, sizes_of}

pub fault_mapped : {A B : Type 0} (f : A → B) (r : Result A LineKind) → fault_kinds (mapped f r) ≡ fault_kinds r
fault_mapped f (Ok a) = refl
fault_mapped f (Err k) = refl

-- ---- literals

value_moved : (names : Names) (r : Result Value LineKind) (n : ℕ) → then_both r (Ok (Number n)) (binary names Add) ≡ moved r n
value_moved names (Ok (Number m)) n = refl
value_moved names (Ok (Truth t)) n = refl
value_moved names (Ok (Words w)) n = refl
value_moved names (Ok (Place q m)) n = refl
value_moved names (Err k) n = refl

pub literal_alike : (s t : Names) → ((q : List ℕ) → named_in q s.list ≡ named_in q t.list) → (v : Value) → literal_value s v ≡ literal_value t v
literal_alike s t same (Place (x ∷ xs) n) =
    value_moved s (value_of (named_in (x ∷ xs) s.list)) n
    ∙ ap (λ o. moved (value_of o) n) (same (x ∷ xs))
    ∙ sym (value_moved t (value_of (named_in (x ∷ xs) t.list)) n)
literal_alike s t same (Place [] n) = refl
literal_alike s t same (Number n) = refl
literal_alike s t same (Truth b) = refl
literal_alike s t same (Words w) = refl

-- ---- EXPORT and KEEP

module _ (x : LineTables) (c : Context) (data_names : List (List ℕ)) (sizes : ℕ → ℕ) (s : Names) (word : Option ℕ) (w : What)
    (h : ShowsTables x c data_names sizes s word w) where
  lies_shown : (p : Option (ℕ × ℕ)) (n : ℕ) → ((area o : ℕ) → p ≡ Some (area, o) → area < length x.sizes.now)
      → lies_within (sizes_of x) p n ≡ lies_within sizes p n
  lies_shown None n within = refl
  lies_shown (Some a) n within =
      ap (nat_le ((a.1 + n) % 2 ^ 32)) (h.measured a.0 (slice_index x.sizes.now a.0) (slice_get-get_or x.sizes.now a.0 0 (within a.0 a.1 refl)))

  value_shown : (r : Result Value LineKind) → exported_kinds (context_of x.lookup) (sizes_of x) r ≡ exported_kinds c sizes r
  value_shown (Ok (Number n)) = refl
  value_shown (Ok (Truth t)) = refl
  value_shown (Ok (Words ws)) = refl
  value_shown (Ok (Place q n)) =
      ap (λ p. kinds_unless (lies_within (sizes_of x) p n) WrongType) (stands_alike (context_of x.lookup) c (shown_alike x.lookup c h.lookup) q)
      ∙ ap (λ t. kinds_unless t WrongType) (lies_shown (stands_at (sees c) q) n (λ area o. h.within q area o))
  value_shown (Err k) = refl

  entry_shown : (o : Option LaidName) → export_kinds (context_of x.lookup) (sizes_of x) o ≡ export_kinds c sizes o
  entry_shown None = refl
  entry_shown (Some n) = value_shown (entry_value n)

  export_shown : (name : List ℕ) → export_kinds (context_of x.lookup) (sizes_of x) (named_in name x.lookup.names.now) ≡ export_kinds c sizes
      (named_in name c.names)
  export_shown name =
      entry_shown (named_in name x.lookup.names.now) ∙ ap (λ names. export_kinds c sizes (named_in name names)) (sym h.lookup.names)

  directive_shown : (l : DirectiveLine) → directive_kinds (context_of x.lookup) (sizes_of x) l ≡ directive_kinds c sizes l
  directive_shown (line.Export name) = export_shown name
  directive_shown (line.Keep name) = export_shown name
  directive_shown (line.Equ e) = ap fault_kinds ((shown_alike x.lookup c h.lookup).value e)
  directive_shown (line.Assert e) = ap assert_kinds ((shown_alike x.lookup c h.lookup).value e)
  directive_shown _ = refl

  statement_shown : (u : What) → statement_kinds (context_of x.lookup) (sizes_of x) u ≡ statement_kinds c sizes u
  statement_shown (what.Directive l) = directive_shown l
  statement_shown _ = refl

pub statement_answered : {E : Type 0} (x : LineTables) (w : What) (r : Result (Option LineKind) E)
    → IfOk r (λ kind. kind ≡ told_kind (statement_kinds (context_of x.lookup) (sizes_of x) w))
    → IfOk r
    (λ kind. (c : Context) (data_names : List (List ℕ)) (sizes : ℕ → ℕ) (s : Names) (word : Option ℕ) → ShowsTables x c data_names sizes s word w
    → kind ≡ told_kind (statement_kinds c sizes w))
statement_answered x w (Ok kind) e = λ c data_names sizes s word h. e ∙ ap told_kind (statement_shown x c data_names sizes s word w h w)
statement_answered x w (Err k) e = tt
