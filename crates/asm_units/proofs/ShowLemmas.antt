-- What code finds is what each context finds that it shows.
use Rattle.std.proofs.Common.{◌≡◌, ℕ, ◌&&◌, Bool, false, not, List, [], ◌∷◌, Option, Some, None, refl, ap, ◌∙◌}
use Rattle.std.specs.Prelude.{Result, Ok, Err, IfOk}
use Rattle.std.specs.List.{list_any}
use Rattle.sdt_fault.specs.declared.kinds.LineKind.{LineKind}
use Rattle.asm_model.specs.declared.exprs.Expr.{Expr}
use Rattle.asm_model.specs.declared.directives.DirectiveLine.{DirectiveLine}
use Rattle.asm_model.specs.declared.directives.Held.{Held}
use Rattle.asm_model.specs.declared.directives.Held.TheVariants as held
use Rattle.asm_model.specs.declared.statements.What.TheVariants as what
use Rattle.asm_model.specs.declared.values.Value.{Value}
use Rattle.asm_model.specs.declared.values.Value.TheVariants.{Number, Truth, Words, Place}
use Rattle.asm_model.specs.declared.names.Names.{Names}
use Rattle.asm_model.specs.Forms.{same}
use Rattle.asm_model.specs.Meaning.{named_in, stands_at}
use Rattle.asm_model.specs.Entries.{thumb_of}
use Rattle.asm_model.specs.Extents.{value_there}
use Rattle.asm_model.specs.DataItems.{held_by}
use Rattle.asm_model.specs.Marks.{counts_one}
use Rattle.asm_model.specs.Occupied.{Occupied, Unplaced, Opening, Marking, Entering, Items, Zeroes, UpTo, Literals, occupied}
use Rattle.asm_model.specs.Readings.{on_both}
use Rattle.source_model.specs.Contexts.{Context, sees, value_of}
use Rattle.source_model.specs.Units.{Emitted, Bytes, Stored, placed, stored, word_units, number_units, byte_operand, byte_units, held_units, occupied_units, directive_units}
use Rattle.asm_instructions.specs.Lookups.{context_of}
use Rattle.asm_instructions.proofs.AlikeLemmas.{number_alike, stands_alike}
use Rattle.asm_instructions.proofs.ContextLemmas.{Alike, shown_alike}
use Rattle.asm_laying.specs.Reading.{is_words, marks, held_marks, occupied_marks, string_marks}
use Rattle.asm_units.specs.declared.tables.LineTables.{LineTables}
use Rattle.asm_units.specs.declared.emitted.Emission.{Emission}
use Rattle.asm_units.specs.Emitting.{all_emitted}
use Rattle.asm_units.specs.Marked.{marked_operand, marked_units, marked_held, marked_occupied, marked_directive}
use Rattle.asm_units.specs.Showing.{ShowsTables}

-- ---- contexts that find the same

module _ (a b : Context) (s : Alike a b) where
  module _ (ds es : List (List ℕ)) (d : (q : List ℕ) → list_any (same q) ds ≡ list_any (same q) es) where
    counts_alike : (q : List ℕ) → counts_one ds (sees a) q ≡ counts_one es (sees b) q
    counts_alike q =
        ap (λ t. thumb_of t && not (list_any (same q) ds)) (s.entry q)
        ∙ ap (λ t. thumb_of (named_in q (sees b).list) && not t) (d q)

    placed_alike : (q : List ℕ) (n : ℕ) (p : Option (ℕ × ℕ)) → placed a ds q n p ≡ placed b es q n p
    placed_alike q n None = refl
    placed_alike q n (Some p) = rw (counts_alike q) refl

    pub stored_alike : (v : Result Value LineKind) → stored a ds v ≡ stored b es v
    stored_alike (Ok (Number n)) = refl
    stored_alike (Ok (Place q n)) =
        ap (λ p. Ok (placed a ds q n p)) (stands_alike a b s q) ∙ ap (λ (z : Stored). Ok z) (placed_alike q n (stands_at (sees b) q))
    stored_alike (Ok (Truth t)) = refl
    stored_alike (Ok (Words w)) = refl
    stored_alike (Err k) = refl

    words_alike : (es' : List Expr) → word_units a ds es' ≡ word_units b es es'
    words_alike [] = refl
    words_alike (e ∷ rest) = rw (s.value e, stored_alike (value_of b e), words_alike rest) refl

    numbers_alike : (width : ℕ) (es' : List Expr) → number_units a width es' ≡ number_units b width es'
    numbers_alike width [] = refl
    numbers_alike width (e ∷ rest) = rw (number_alike a b s e, numbers_alike width rest) refl

    marked_alike : (ms : List Bool) (es' : List Expr) → marked_units a ms es' ≡ marked_units b ms es'
    marked_alike ms [] = refl
    marked_alike [] (e ∷ rest) = rw (s.value e, marked_alike [] rest) refl
    marked_alike (m ∷ ms) (e ∷ rest) = rw (s.value e, marked_alike ms rest) refl

    held_alike : (ms : List Bool) (h : Held) (vs : List Expr) → marked_held a ds ms h vs ≡ marked_held b es ms h vs
    held_alike ms held.Relocatable vs = words_alike vs
    held_alike ms (held.Fixed width) vs = numbers_alike width vs
    held_alike ms held.Strings vs = marked_alike ms vs

    pub occupied_alike : (ms : List Bool) (o : Occupied) → marked_occupied a ds ms o ≡ marked_occupied b es ms o
    occupied_alike ms (Items item vs) = held_alike ms (held_by item) vs
    occupied_alike ms _ = refl

-- ---- strings that are known where their line is laid

module _ (c : Context) (s : Names) (known : (e : Expr) (v : Value) → value_there s e ≡ Ok v → value_of c e ≡ Ok v) where
  -- what is no string there is one too late
  late_operand : (there final : Result Value LineKind) → is_words there ≡ false → marked_operand false final ≡ byte_operand there final
  late_operand (Ok (Words w)) final e = cc
  late_operand (Ok (Number n)) (Ok (Words w)) e = refl
  late_operand (Ok (Number n)) (Ok (Number m)) e = refl
  late_operand (Ok (Number n)) (Ok (Truth t)) e = refl
  late_operand (Ok (Number n)) (Ok (Place q m)) e = refl
  late_operand (Ok (Number n)) (Err k) e = refl
  late_operand (Ok (Truth t)) (Ok (Words w)) e = refl
  late_operand (Ok (Truth t)) (Ok (Number m)) e = refl
  late_operand (Ok (Truth t)) (Ok (Truth u)) e = refl
  late_operand (Ok (Truth t)) (Ok (Place q m)) e = refl
  late_operand (Ok (Truth t)) (Err k) e = refl
  late_operand (Ok (Place q n)) (Ok (Words w)) e = refl
  late_operand (Ok (Place q n)) (Ok (Number m)) e = refl
  late_operand (Ok (Place q n)) (Ok (Truth u)) e = refl
  late_operand (Ok (Place q n)) (Ok (Place r m)) e = refl
  late_operand (Ok (Place q n)) (Err k) e = refl
  late_operand (Err j) (Ok (Words w)) e = refl
  late_operand (Err j) (Ok (Number m)) e = refl
  late_operand (Err j) (Ok (Truth u)) e = refl
  late_operand (Err j) (Ok (Place r m)) e = refl
  late_operand (Err j) (Err k) e = refl

  operand_marked : (e : Expr) (there : Result Value LineKind) → value_there s e ≡ there
      → marked_operand (is_words there) (value_of c e) ≡ byte_operand there (value_of c e)
  operand_marked e (Ok (Words w)) h = rw (known e (Words w) h) refl
  operand_marked e (Ok (Number n)) h = late_operand (Ok (Number n)) (value_of c e) refl
  operand_marked e (Ok (Truth t)) h = late_operand (Ok (Truth t)) (value_of c e) refl
  operand_marked e (Ok (Place q n)) h = late_operand (Ok (Place q n)) (value_of c e) refl
  operand_marked e (Err k) h = late_operand (Err k) (value_of c e) refl

  bytes_marked : (es : List Expr) → marked_units c (marks s es) es ≡ byte_units c s es
  bytes_marked [] = refl
  bytes_marked (e ∷ es) =
      ap (λ t. on_both (λ b us. Bytes b ∷ us) t (marked_units c (marks s es) es)) (operand_marked e (value_there s e) refl)
      ∙ ap (on_both (λ b us. Bytes b ∷ us) (byte_operand (value_there s e) (value_of c e))) (bytes_marked es)

  held_marked : (data_names : List (List ℕ)) (ms : List Bool) (h : Held) (es : List Expr) → ms ≡ held_marks s h es
      → marked_held c data_names ms h es ≡ held_units c data_names s h es
  held_marked ds ms held.Relocatable es e = refl
  held_marked ds ms (held.Fixed width) es e = refl
  held_marked ds ms held.Strings es e = rw e (bytes_marked es)

  occupied_marked : (data_names : List (List ℕ)) (ms : List Bool) (o : Occupied) → ms ≡ occupied_marks s o
      → marked_occupied c data_names ms o ≡ occupied_units c data_names s o
  occupied_marked ds ms (Items item es) e = held_marked ds ms (held_by item) es e
  occupied_marked ds ms _ e = refl

directive_shown : (x : LineTables) (l : DirectiveLine) (us : Result (List Emitted) LineKind) (c : Context) (data_names : List (List ℕ)) (sizes : ℕ → ℕ)
    (s : Names) (word : Option ℕ)
    → us ≡ marked_directive (context_of x.lookup) x.data.now x.strings.now l
    → ShowsTables x c data_names sizes s word (what.Directive l) → us ≡ directive_units c data_names s l
directive_shown x l us c data_names sizes s word e h =
    e
    ∙ occupied_alike (context_of x.lookup) c (shown_alike x.lookup c h.lookup) x.data.now data_names h.labels x.strings.now (occupied l)
    ∙ occupied_marked c s h.known data_names x.strings.now (occupied l) h.strings

pub directive_answered : {E : Type 0} (x : LineTables) (l : DirectiveLine) (r : Result (Result Emission LineKind) E)
    → IfOk r (λ us. all_emitted us ≡ marked_directive (context_of x.lookup) x.data.now x.strings.now l)
    → IfOk r
    (λ us. (c : Context) (data_names : List (List ℕ)) (sizes : ℕ → ℕ) (s : Names) (word : Option ℕ) → ShowsTables x c data_names sizes s word (what.Directive l)
    → all_emitted us ≡ directive_units c data_names s l)
directive_answered x l (Ok us) e = λ c data_names sizes s word h. directive_shown x l (all_emitted us) c data_names sizes s word e h
directive_answered x l (Err k) e = tt
