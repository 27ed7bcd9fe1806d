-- The symbols of an object are valid.
use Rattle.std.proofs.Common.{◌≡◌, ◌≢◌, ℕ, zero, suc, ◌+◌, ◌%◌, ◌^◌, ◌<◌, ◌≤◌, List, [], ◌∷◌, ◌++◌, append_assoc, length, Bool, true, false, cond, ◌||◌, ◌&&◌, not, refl, sym, ◌∙◌, ap, subst, arith, Option, Some, None}
use Rattle.std.specs.Prelude.{Result, Ok, Err, slice_get, map, IsSomeAnd}
use Rattle.std.specs.List.{AllByRecursion, list_any}
use Rattle.std.proofs.lemmas.Bool.{leb-true, and_parts}
use Rattle.sdt_fault.specs.declared.kinds.LineKind.{LineKind}
use Rattle.sdt_fault.specs.declared.kinds.LineKind.TheVariants.{BadOperand, WrongType}
use Rattle.chunk_file.specs.Reading.{EachStands}
use Rattle.aof_object.specs.declared.records.Area.{Area}
use Rattle.aof_object.specs.declared.records.Object.{Object}
use Rattle.aof_object.specs.declared.records.Symbol.{Symbol}
use Rattle.aof_object.specs.Checks.{is_exported, is_placed}
use Rattle.aof_object.specs.Names.{IsText, Lacks}
use Rattle.aof_object.specs.Objects.{exported}
use Rattle.aof_object.specs.Validity.{head_of, heads, Lives, IsSymbol}
use Rattle.arm_isa.specs.declared.instr.ArmInstr.TheVariants as instr
use Rattle.asm_model.specs.declared.arm_lines.ArmLine.{ArmLine}
use Rattle.asm_model.specs.declared.arm_lines.ArmLine.TheVariants as arm
use Rattle.asm_model.specs.declared.directives.DirectiveLine.TheVariants as line
use Rattle.asm_model.specs.declared.directives.Held.{Held}
use Rattle.asm_model.specs.declared.directives.Held.TheVariants as held
use Rattle.asm_model.specs.declared.exprs.Expr.{Expr}
use Rattle.asm_model.specs.declared.names.LaidName.{LaidName}
use Rattle.asm_model.specs.declared.names.Meaning.{Meaning}
use Rattle.asm_model.specs.declared.names.Meaning.TheVariants as means
use Rattle.asm_model.specs.declared.statements.Statement.{Statement}
use Rattle.asm_model.specs.declared.statements.What.{What}
use Rattle.asm_model.specs.declared.statements.What.TheVariants as what
use Rattle.asm_model.specs.declared.thumb_lines.ThumbLine.{ThumbLine}
use Rattle.asm_model.specs.declared.thumb_lines.ThumbLine.TheVariants as thumb
use Rattle.asm_model.specs.declared.values.Value.{Value}
use Rattle.asm_model.specs.declared.values.Value.TheVariants.{Number, Truth, Words, Place}
use Rattle.asm_model.specs.DataItems.{held_by}
use Rattle.asm_model.specs.Forms.{same}
use Rattle.asm_model.specs.Meaning.{named_in, in_area, entry_stands_at, stands_at, meant, entry_value, value_of as value_of_name}
use Rattle.asm_model.specs.Before.{with_name, areas_behind}
use Rattle.asm_model.specs.Entries.{imported_entry, equal_entry, thumb_of}
use Rattle.asm_model.specs.Extents.{Extent, Block, Padding, Loading, Pool}
use Rattle.asm_model.specs.Labels.{imported_in, is_hidden}
use Rattle.asm_model.specs.Laid.{LaidLine, taken, laid, final_names}
use Rattle.asm_model.specs.Marks.{datum_names}
use Rattle.asm_model.specs.Readings.{and_then, mapped}
use Rattle.asm_model.specs.Sound.{IsSound}
use Rattle.asm_model.specs.Symbols.{literal_value, unless_placed, word_symbols, words_symbols, branch_symbols, literal_symbols, held_symbols, symbols_in, listed_behind, symbols_of}
use Rattle.layout_laws.proofs.FoundLemmas.{imports_stand}
use Rattle.layout_laws.proofs.RoundLemmas.{ResultIs}
use Rattle.asm_model.specs.Fit.{AllPlaceless, HeldFit, WhatFits, IsFit}
use Rattle.asm_model.specs.Said.{what_names, HoldsNoZero, HasTexts}
use Rattle.source_model.specs.ArmForms.{is_settled, has_symbol, branch_from, branch_displacement, branch_field, arm_instruction}
use Rattle.source_model.specs.Contexts.{Context, sees, is_symbol, is_symbol_entry, may_have_symbol, value_of}
use Rattle.source_model.specs.Objects.{Source, source_of, At, is_exported as is_exported_name, is_weak, scope, contents_of, holds_code, symbol_placed, context_in, symbol_valued, symbol_named, IsObject}
use Rattle.source_model.specs.ThumbForms.{half_words, pair_fields, thumb_displacement, thumb_from, thumb_instruction}
use Rattle.source_model.specs.Units.{Emitted, Instruction, branch_symbol, link_symbol, code_unit, units}
use Rattle.source_model.specs.ValueKinds.{lies_within, kinds_unless, exported_kinds, export_kinds, statement_kinds}
use Rattle.source_laws.specs.Laws.{word_among, context_behind}
use Rattle.source_laws.proofs.FaultlessLemmas.{layout_sound}
use Rattle.source_laws.proofs.LineLemmas.{statements_lie_in_areas}
use Rattle.source_laws.proofs.NameLemmas.{each_joined, final_each}
use Rattle.source_laws.proofs.WithinLemmas.{area_stands}
use Rattle.object_laws.specs.Laws.{AreFaultless}
use Rattle.object_laws.proofs.AreaLemmas.{AreApart, apart_with}
use Rattle.object_laws.proofs.BitLemmas.{IsAllowed, reference_allowed, placed_allowed, absolute_allowed}
use Rattle.object_laws.proofs.EachLemmas.{each_there, names_text, name_text, line_below, name_below}
use Rattle.object_laws.proofs.FaultLemmas.{sizes_of, line_valued}
use Rattle.object_laws.proofs.OriginLemmas.{IsOwn, named_name, value_own, literal_own}
use Rattle.asm_model.proofs.SaidLemmas.{are_plain as said_plain}

-- ---- one symbol

abbrev pub LivesBelow : ℕ → (ℕ → ℕ) → ℕ → ℕ → Option ℕ → Type 0
LivesBelow count sizes attributes value None = is_placed attributes ≡ false
LivesBelow count sizes attributes value (Some k) = (k < count) × (value ≤ sizes k)

-- a symbol in one of so many areas, or in none
pub record IsGood (count : ℕ) (sizes : ℕ → ℕ) (s : Symbol) : Type 0 where
  pub allowed : IsAllowed s.attributes
  pub lives : LivesBelow count sizes s.attributes s.value s.area

abbrev pub EndsBelow : ℕ → (ℕ → ℕ) → ℕ → Option (ℕ × ℕ) → Type 0
EndsBelow count sizes n o = (a : ℕ × ℕ) → o ≡ Some a → (a.0 < count) × ((a.1 + n) % 2 ^ 32 ≤ sizes a.0)

pub scope_small : (b : Bool) → (1 ≤ cond b 3 1) × (cond b 3 1 ≤ 3)
scope_small true = (omega arith, omega arith)
scope_small false = (omega arith, omega arith)

pub placed_good : (count : ℕ) (sizes : ℕ → ℕ) (s : Source) (name label : List ℕ) (n : ℕ) (o : Option (ℕ × ℕ)) → EndsBelow count sizes n o
    → IsGood count sizes (symbol_placed s name label n o)
placed_good count sizes s name label n None f =
    let b = reference_allowed (is_weak s name) in record { allowed = b.0; lives = b.1 }
placed_good count sizes s name label n (Some a) f =
    let b = scope_small (is_exported_name s name) in
    record {
      allowed = placed_allowed (scope s name) (list_any (same label) (datum_names s.statements) && holds_code (contents_of a.0 s.lines))
          (thumb_of (named_in label s.names)) b.0 b.1;
      lives = f a refl;
    }

pub absolute_good : (count : ℕ) (sizes : ℕ → ℕ) (s : Source) (name : List ℕ) (n : ℕ) → IsGood count sizes (symbol_valued s name (Ok (Number n)))
absolute_good count sizes s name n =
    let b = scope_small (is_exported_name s name) in
    let a = absolute_allowed (scope s name) b.0 b.1 in record { allowed = a.0; lives = a.1 }

-- a name that stands for itself
pub own_place_good : (count : ℕ) (sizes : ℕ → ℕ) (s : Source) (q : List ℕ) (f : LaidName) → named_in q s.names ≡ Some f
    → EndsBelow count sizes 0 (in_area f.area f.offset) → IsGood count sizes (symbol_valued s q (Ok (Place q 0)))
own_place_good count sizes s [] f e h = placed_good count sizes s [] [] 0 None (λ a x. absurd (cc))
own_place_good count sizes s (c ∷ cs) f e h =
    placed_good count sizes s (c ∷ cs) (c ∷ cs) 0 (stands_at (sees (context_in s None)) (c ∷ cs))
    (λ a x. h a (ap entry_stands_at (sym e) ∙ x))

pub own_good : (count : ℕ) (sizes : ℕ → ℕ) (s : Source) (q : List ℕ) (own : IsOwn s.names q)
    → EndsBelow count sizes 0 (in_area own.0.area own.0.offset) → IsGood count sizes (symbol_named s q)
own_good count sizes s q own h =
    subst (λ r. IsGood count sizes (symbol_valued s q r)) (sym (ap value_of_name own.1 ∙ own.2)) (own_place_good count sizes s q own.0 own.1 h)

-- ---- names

abbrev pub IsGoodName : List Statement → List ℕ → Type 0
IsGoodName ss q =
    IsGood (length (areas_behind ss)) (sizes_of ss) (symbol_named (source_of ss) q) × HoldsNoZero q

abbrev pub AreGoodNames : List Statement → List (List ℕ) → Type 0
AreGoodNames ss names = AllByRecursion (IsGoodName ss) names

pub no_area : (offset : ℕ) (a : ℕ × ℕ) → in_area None offset ≡ Some a → ⊥
no_area offset a e = absurd (cc)

pub start_small : (o s n : ℕ) → o + s ≤ n → (o + 0) % 2 ^ 32 ≤ n
start_small o s n h = omega arith

pub label_ends : (count : ℕ) (sizes : ℕ → ℕ) (area : Option ℕ) (offset size : ℕ) → ((k : ℕ) → area ≡ Some k → (k < count) × (offset + size ≤ sizes k))
    → EndsBelow count sizes 0 (in_area area offset)
label_ends count sizes None offset size f a e = absurd (cc)
label_ends count sizes (Some k) offset size f a e =
    let x : (k, offset) ≡ a = cc in
    let p = f k refl in
    subst (λ (z : ℕ × ℕ). (z.0 < count) × ((z.1 + 0) % 2 ^ 32 ≤ sizes z.0)) x (p.0, start_small offset size (sizes k) p.1)

-- a name that may have a symbol ends in its area
abbrev pub Ends : List Statement → LaidName → Type 0
Ends ss n = is_symbol n.meaning ≡ true → EndsBelow (length (areas_behind ss)) (sizes_of ss) 0 (in_area n.area n.offset)

equal_ends : (ss : List Statement) (names : List LaidName) (area : Option ℕ) (name : List ℕ) (r : Result Value LineKind)
    → Ends ss (equal_entry names area name r)
equal_ends ss names area name (Ok (Place [] n)) k = absurd (cc)
equal_ends ss names area name r k = absurd (cc)

pub name_ends : (ss : List Statement) → IsSound ss → (q : List ℕ) (n : LaidName) → named_in q (final_names (laid ss)) ≡ Some n → Ends ss n
name_ends ss sound = final_each ss (Ends ss) (record {
  label = λ l at name x thumb is. label_ends (length (areas_behind ss)) (sizes_of ss) l.area l.offset l.size (line_ends l at);
  equal = λ l at name e x names r. equal_ends ss names l.area name r;
  field = λ l at name x m is. absurd (cc);
  register = λ l at name r x is. absurd (cc);
  imported = λ l at name x is a e. absurd (no_area 0 a e);
})
  where
    line_ends : (l : LaidLine) → At (source_of ss) l → (k : ℕ) → l.area ≡ Some k → (k < length (areas_behind ss)) × (l.offset + l.size ≤ sizes_of ss k)
    line_ends l at k own =
        (line_below ss at.rest at.before l at.parts k own, statements_lie_in_areas ss sound k at.rest at.before l at.parts own)

pub own_name_good : (ss : List Statement) → AreFaultless ss → (q : List ℕ) (own : IsOwn (final_names (laid ss)) q)
    → EndsBelow (length (areas_behind ss)) (sizes_of ss) 0 (in_area own.0.area own.0.offset) → IsGoodName ss q
own_name_good ss h q own ends = (
  own_good (length (areas_behind ss)) (sizes_of ss) (source_of ss) q own ends,
  subst HoldsNoZero (named_name q (final_names (laid ss)) own.0 own.1) (name_text ss h.texts q own.0 own.1),
)

pub symbol_own : (name : List ℕ) (m : Meaning) → is_symbol m ≡ true → meant name m ≡ Ok (Place name 0)
symbol_own name means.Label h = refl
symbol_own name means.Imported h = refl
symbol_own name m h = absurd (cc)

-- labels and imports are good names
pub symbol_good : (ss : List Statement) → AreFaultless ss → (q : List ℕ) (hidden : Bool)
    → (is_symbol_entry (named_in q (final_names (laid ss))) && hidden) ≡ true → IsGoodName ss q
symbol_good ss h q hidden k = by_entry (named_in q (final_names (laid ss))) refl k
  where
    by_entry : (o : Option LaidName) → named_in q (final_names (laid ss)) ≡ o → (is_symbol_entry o && hidden) ≡ true → IsGoodName ss q
    by_entry None e k = absurd (cc)
    by_entry (Some n) e k =
        let is = (and_parts (is_symbol n.meaning) hidden k).0 in
        own_name_good ss h q
        (n, e, symbol_own n.name n.meaning is ∙ ap (λ z. Ok (Place z 0)) (named_name q (final_names (laid ss)) n e))
        (name_ends ss (layout_sound ss h.layout) q n e is)

pub import_good : (ss : List Statement) → AreFaultless ss → (after before : List LaidLine) (l : LaidLine) → laid ss ≡ after ++ l ∷ before
    → (q : List ℕ) → imported_in l.statement.what ≡ Some q → IsGoodName ss q
import_good ss h after before l e q x =
    own_name_good ss h q
    (imported_entry q, imports_stand ss (layout_sound ss h.layout) (said_plain ss h.said) after before l e q x, refl)
    (λ a y. absurd (no_area 0 a y))

-- ---- words

-- a name that stands for itself in no area
pub loose_good : (ss : List Statement) → AreFaultless ss → (q : List ℕ) → IsOwn (final_names (laid ss)) q → (o : Option (ℕ × ℕ))
    → ((n : LaidName) → named_in q (final_names (laid ss)) ≡ Some n → o ≡ in_area n.area n.offset) → AreGoodNames ss (unless_placed q o)
loose_good ss h q own (Some a) f = tt
loose_good ss h q own None f = (own_name_good ss h q own (λ a y. let z = f own.0 own.1 in absurd (cc)), tt)

pub word_good : (ss : List Statement) → AreFaultless ss → (before : List LaidLine) (l : LaidLine) (r : Result Value LineKind)
    → ResultIs (IsOwn (final_names (laid ss))) r
    → AreGoodNames ss (word_symbols (sees (context_behind ss l before)) r)
word_good ss h before l (Ok (Place (x ∷ xs) n)) own =
    let c = context_behind ss l before in
    loose_good ss h (x ∷ xs) own (stands_at (sees c) (x ∷ xs))
    (λ m e. ap entry_stands_at e)
word_good ss h before l (Ok (Place [] n)) own = tt
word_good ss h before l (Ok (Number n)) own = tt
word_good ss h before l (Ok (Truth b)) own = tt
word_good ss h before l (Ok (Words w)) own = tt
word_good ss h before l (Err k) own = tt

pub words_good : (ss : List Statement) → AreFaultless ss → (before : List LaidLine) (l : LaidLine)
    → (es : List Expr) → AllPlaceless es → AreGoodNames ss (words_symbols (final_names (laid ss)) (context_behind ss l before).line es)
words_good ss h before l [] k = tt
words_good ss h before l (x ∷ xs) k =
    let c = context_behind ss l before in
    each_joined (IsGoodName ss) (word_symbols (sees c) (value_of c x)) (words_symbols c.names c.line xs)
    (word_good ss h before l (value_of c x) (value_own ss (layout_sound ss h.layout) (said_plain ss h.said) before l x k.0))
    (words_good ss h before l xs k.1)

pub literals_good : (ss : List Statement) → AreFaultless ss → (before : List LaidLine) (l : LaidLine)
    → (t : Extent) → AreGoodNames ss (literal_symbols (final_names (laid ss)) (context_behind ss l before).line t)
literals_good ss h before l (Loading n v) =
    let c = context_behind ss l before in
    word_good ss h before l (literal_value (sees c) v) (literal_own ss (layout_sound ss h.layout) (said_plain ss h.said) before l v)
literals_good ss h before l (Block a n) = tt
literals_good ss h before l (Padding m n) = tt
literals_good ss h before l Pool = tt

-- ---- branches

pub allowed_only : {A : Type 0} → (b : Bool) (x y : A) (k : LineKind) → cond b (Ok x) (Err k) ≡ Ok y → b ≡ true
allowed_only true x y k e = refl
allowed_only false x y k e = absurd (cc)

pub linked_good : (ss : List Statement) → AreFaultless ss → (c : Context) → c.names ≡ final_names (laid ss) → (q : List ℕ) (b : Bool)
    → (b || may_have_symbol c q) ≡ true → AreGoodNames ss (cond b [] (q ∷ []))
linked_good ss h c names q true k = tt
linked_good ss h c names q false k =
    (symbol_good ss h q (not (is_hidden q)) (subst (λ z. (is_symbol_entry (named_in q z) && not (is_hidden q)) ≡ true) names k), tt)

-- the symbol of a branch that isn't settled is one of the source
abbrev pub HasSymbol : Context → Result Value LineKind → Type 0
HasSymbol c (Ok (Place s n)) = has_symbol c s ≡ true
HasSymbol c r = Unit {0}

pub branch_good : (ss : List Statement) → AreFaultless ss → (before : List LaidLine) (l : LaidLine) (r : Result Value LineKind)
    → HasSymbol (context_behind ss l before) r → AreGoodNames ss (branch_symbols (sees (context_behind ss l before)) r)
branch_good ss h before l (Ok (Place (x ∷ xs) n)) has =
    linked_good ss h (context_behind ss l before) refl (x ∷ xs) (is_settled (context_behind ss l before) (x ∷ xs)) has
branch_good ss h before l (Ok (Place [] n)) has = tt
branch_good ss h before l (Ok (Number n)) has = tt
branch_good ss h before l (Ok (Truth b)) has = tt
branch_good ss h before l (Ok (Words w)) has = tt
branch_good ss h before l (Err k) has = tt

pub branch_has : (c : Context) (r : Result Value LineKind) (d : ℕ) → branch_displacement c r ≡ Ok d → HasSymbol c r
branch_has c (Ok (Place s n)) d e = allowed_only (has_symbol c s) (branch_from c s n) d BadOperand e
branch_has c (Ok (Number n)) d e = tt
branch_has c (Ok (Truth b)) d e = tt
branch_has c (Ok (Words w)) d e = tt
branch_has c (Err k) d e = tt

pub link_has : (c : Context) (r : Result Value LineKind) (d : ℕ) → thumb_displacement true c r ≡ Ok d → HasSymbol c r
link_has c (Ok (Place s n)) d e = allowed_only (has_symbol c s) (thumb_from c s n) d BadOperand e
link_has c (Ok (Number n)) d e = tt
link_has c (Ok (Truth b)) d e = tt
link_has c (Ok (Words w)) d e = tt
link_has c (Err k) d e = tt

pub mapped_known : {A B : Type 0} → (f : A → B) (r : Result A LineKind) (b : B) → mapped f r ≡ Ok b → (a : A) × (r ≡ Ok a)
mapped_known f (Ok a) b e = (a, refl)
mapped_known f (Err k) b e = absurd (cc)

pub then_known : {A B : Type 0} → (f : A → Result B LineKind) (r : Result A LineKind) (b : B) → and_then r f ≡ Ok b → (a : A) × (r ≡ Ok a)
then_known f (Ok a) b e = (a, refl)
then_known f (Err k) b e = absurd (cc)

-- ---- EXPORT and KEEP

pub unless_none : (b : Bool) (k : LineKind) → kinds_unless b k ≡ [] → b ≡ true
unless_none true k e = refl
unless_none false k e = absurd (cc)

pub within_ends : (count : ℕ) (sizes : ℕ → ℕ) (o : Option (ℕ × ℕ)) (n : ℕ) → ((a : ℕ × ℕ) → o ≡ Some a → a.0 < count) → lies_within sizes o n ≡ true
    → EndsBelow count sizes n o
within_ends count sizes None n f h a e = absurd (cc)
within_ends count sizes (Some b) n f h a e =
    let x : b ≡ a = cc in
    subst (λ (z : ℕ × ℕ). (z.0 < count) × ((z.1 + n) % 2 ^ 32 ≤ sizes z.0)) x (f b refl, leb-true ((b.1 + n) % 2 ^ 32) (sizes b.0) h)

-- a place that a name stands for
pub export_place_good : (ss : List Statement) → AreFaultless ss → (c : Context) → c.names ≡ final_names (laid ss) → (name q : List ℕ) (n : ℕ)
    → lies_within (sizes_of ss) (stands_at (sees c) q) n ≡ true
    → IsGood (length (areas_behind ss)) (sizes_of ss) (symbol_valued (source_of ss) name (Ok (Place q n)))
export_place_good ss h c names name [] n within =
    placed_good (length (areas_behind ss)) (sizes_of ss) (source_of ss) name [] n None (λ a x. absurd (cc))
export_place_good ss h c names name (x ∷ xs) n within = by_entry (named_in (x ∷ xs) N) refl
  where
    N : List LaidName
    N = final_names (laid ss)

    count : ℕ
    count = length (areas_behind ss)

    s : Source
    s = source_of ss

    here : (f : LaidName) → named_in (x ∷ xs) N ≡ Some f → stands_at (sees c) (x ∷ xs) ≡ in_area f.area f.offset
    here f e = ap entry_stands_at (ap (named_in (x ∷ xs)) names ∙ e)

    by_entry : (o : Option LaidName) → named_in (x ∷ xs) N ≡ o → IsGood count (sizes_of ss) (symbol_valued s name (Ok (Place (x ∷ xs) n)))
    by_entry None e =
        subst (λ z. IsGood count (sizes_of ss) (symbol_placed s name (x ∷ xs) n z)) (sym (ap entry_stands_at e))
        (placed_good count (sizes_of ss) s name (x ∷ xs) n None (λ a y. absurd (cc)))
    by_entry (Some f) e =
        subst (λ z. IsGood count (sizes_of ss) (symbol_placed s name (x ∷ xs) n z)) (sym (ap entry_stands_at e))
        (placed_good count (sizes_of ss) s name (x ∷ xs) n (in_area f.area f.offset)
        (within_ends count (sizes_of ss) (in_area f.area f.offset) n
        (λ a. area_stands count f.area f.offset a.0 a.1 (name_below ss (x ∷ xs) f e))
        (subst (λ z. lies_within (sizes_of ss) z n ≡ true) (here f e) within)))

pub export_value_good : (ss : List Statement) → AreFaultless ss → (c : Context) → c.names ≡ final_names (laid ss) → (name : List ℕ) (r : Result Value LineKind)
    → exported_kinds c (sizes_of ss) r ≡ []
    → IsGood (length (areas_behind ss)) (sizes_of ss) (symbol_valued (source_of ss) name r)
export_value_good ss h c names name (Ok (Number n)) e = absolute_good (length (areas_behind ss)) (sizes_of ss) (source_of ss) name n
export_value_good ss h c names name (Ok (Place q n)) e =
    export_place_good ss h c names name q n (unless_none (lies_within (sizes_of ss) (stands_at (sees c) q) n) WrongType e)
export_value_good ss h c names name r e = absurd (cc)

pub export_good : (ss : List Statement) → AreFaultless ss → (c : Context) → c.names ≡ final_names (laid ss) → (name : List ℕ)
    → export_kinds c (sizes_of ss) (named_in name c.names) ≡ [] → IsGood (length (areas_behind ss)) (sizes_of ss) (symbol_named (source_of ss) name)
export_good ss h c names name e =
    subst (λ z. IsGood (length (areas_behind ss)) (sizes_of ss) (symbol_valued (source_of ss) name (value_of_name (named_in name z)))) names
    (by_entry (named_in name c.names) e)
  where
    by_entry : (o : Option LaidName) → export_kinds c (sizes_of ss) o ≡ []
        → IsGood (length (areas_behind ss)) (sizes_of ss) (symbol_valued (source_of ss) name (value_of_name o))
    by_entry None k = absurd (cc)
    by_entry (Some n) k = export_value_good ss h c names name (entry_value n) k

-- ---- the symbols of a line

-- what is known of a line
pub record Known (ss : List Statement) (before : List LaidLine) (l : LaidLine) (word : Option ℕ) (w : What) : Type 0 where
  pub emitted : List Emitted
  pub emits : units (context_behind ss l before) (datum_names ss) l.seen word w ≡ Ok emitted
  pub kinds : statement_kinds (context_behind ss l before) (sizes_of ss) w ≡ []
  pub fits : WhatFits w
  pub texts : AllByRecursion HoldsNoZero (what_names w)
  pub imports : (q : List ℕ) → imported_in w ≡ Some q → IsGoodName ss q

pub arm_good : (ss : List Statement) → AreFaultless ss → (before : List LaidLine) (l : LaidLine) (a : ArmLine) (us : List Emitted)
    → mapped (λ i. Instruction i (branch_symbol (context_behind ss l before) a) ∷ []) (arm_instruction (context_behind ss l before) a) ≡ Ok us
    → (t : Extent) → AreGoodNames ss (symbols_in (final_names (laid ss)) (context_behind ss l before).line t (what.Arm a))
arm_good ss h before l (arm.Branch condition link target) us e t =
    let c = context_behind ss l before in
    let i = mapped_known (λ i. Instruction i (branch_symbol c (arm.Branch condition link target)) ∷ []) (arm_instruction c (arm.Branch condition link target))
    us e in
    let d = then_known (λ d. mapped (λ f. instr.Branch condition link f) (branch_field d)) (branch_displacement c (value_of c target)) i.0 i.1 in
    branch_good ss h before l (value_of c target) (branch_has c (value_of c target) d.0 d.1)
arm_good ss h before l a us e t = tt

pub thumb_good : (ss : List Statement) → AreFaultless ss → (before : List LaidLine) (l : LaidLine) (a : ThumbLine) (us : List Emitted)
    → mapped (λ i. code_unit (link_symbol (context_behind ss l before) a) i ∷ []) (thumb_instruction (context_behind ss l before) a) ≡ Ok us
    → (t : Extent) → AreGoodNames ss (symbols_in (final_names (laid ss)) (context_behind ss l before).line t (what.Thumb a))
thumb_good ss h before l (thumb.BranchLink target) us e t =
    let c = context_behind ss l before in
    let f = and_then (thumb_displacement true c (value_of c target)) (half_words (2 ^ 22)) in
    let i = mapped_known (λ i. code_unit (link_symbol c (thumb.BranchLink target)) i ∷ []) (mapped pair_fields f) us e in
    let p = mapped_known pair_fields f i.0 i.1 in
    let d = then_known (half_words (2 ^ 22)) (thumb_displacement true c (value_of c target)) p.0 p.1 in
    branch_good ss h before l (value_of c target) (link_has c (value_of c target) d.0 d.1)
thumb_good ss h before l a us e t = tt

held_good : (ss : List Statement) → AreFaultless ss → (before : List LaidLine) (l : LaidLine) (v : Held) (es : List Expr) → HeldFit v es
    → AreGoodNames ss (held_symbols (final_names (laid ss)) (context_behind ss l before).line v es)
held_good ss h before l held.Relocatable es k = words_good ss h before l es k
held_good ss h before l (held.Fixed width) es k = tt
held_good ss h before l held.Strings es k = tt

pub line_good : (ss : List Statement) → AreFaultless ss → (before : List LaidLine) (l : LaidLine)
    → (word : Option ℕ) (t : Extent) (w : What) → Known ss before l word w
    → AreGoodNames ss (symbols_in (final_names (laid ss)) (context_behind ss l before).line t w)
line_good ss h before l word t what.Nothing k = tt
line_good ss h before l word t (what.Arm a) k = arm_good ss h before l a k.emitted k.emits t
line_good ss h before l word t (what.Thumb a) k = thumb_good ss h before l a k.emitted k.emits t
line_good ss h before l word t (what.Pseudo p) k = literals_good ss h before l t
line_good ss h before l word t (what.Directive (line.Export name)) k =
    ((export_good ss h (context_behind ss l before) refl name k.kinds, k.texts.0), tt)
line_good ss h before l word t (what.Directive (line.Keep name)) k =
    ((export_good ss h (context_behind ss l before) refl name k.kinds, k.texts.0), tt)
line_good ss h before l word t (what.Directive (line.Import name mark)) k = (k.imports name refl, tt)
line_good ss h before l word t (what.Directive (line.Constants item es)) k = held_good ss h before l (held_by item) es k.fits
line_good ss h before l word t (what.Directive d) k = tt

pub line_here : (ss : List Statement) → AreFaultless ss → (after before : List LaidLine) (l : LaidLine) → laid ss ≡ after ++ l ∷ before
    → AreGoodNames ss (symbols_in (final_names (laid ss)) l.line (taken l.extent) l.statement.what)
line_here ss h after before l e =
    let v = line_valued ss h.values after before l e in
    line_good ss h before l (word_among after l before) (taken l.extent) l.statement.what
    (record {
      emitted = v.0.0;
      emits = v.0.1;
      kinds = v.1;
      fits = each_there IsFit ss h.fit after before l e;
      texts = names_text l.statement (each_there HasTexts ss h.texts after before l e);
      imports = import_good ss h after before l e;
    })

-- ---- the symbols of the source

pub with_all : (P : List ℕ → Type 0) (n : List ℕ) (xs : List (List ℕ)) → P n → AllByRecursion P xs → AllByRecursion P (with_name (Some n) xs)
with_all P n xs h k = by_test (list_any (same n) xs)
  where
    by_test : (b : Bool) → AllByRecursion P (cond b xs (xs ++ n ∷ []))
    by_test true = k
    by_test false = each_joined P xs (n ∷ []) k (h, tt)

pub listed_all : (P : List ℕ → Type 0) (xs ss : List (List ℕ)) → AllByRecursion P xs → AllByRecursion P ss → AllByRecursion P (listed_behind xs ss)
listed_all P xs [] h k = h
listed_all P xs (s ∷ ss) h k = listed_all P (with_name (Some s) xs) ss (with_all P s xs k.0 h) k.1

pub symbols_all : (ss : List Statement) → AreFaultless ss → (after lines : List LaidLine) → laid ss ≡ after ++ lines
    → AreGoodNames ss (symbols_of (final_names (laid ss)) lines)
symbols_all ss h after [] e = tt
symbols_all ss h after (l ∷ ls) e =
    let names = final_names (laid ss) in
    listed_all (IsGoodName ss) (symbols_of names ls) (symbols_in names l.line (taken l.extent) l.statement.what)
    (symbols_all ss h (after ++ l ∷ []) ls (e ∙ sym (append_assoc after (l ∷ []) ls))) (line_here ss h after ls l e)

pub listed_apart : (xs ss : List (List ℕ)) → AreApart [] xs → AreApart [] (listed_behind xs ss)
listed_apart xs [] h = h
listed_apart xs (s ∷ ss) h = listed_apart (with_name (Some s) xs) ss (apart_with s xs h)

pub symbols_apart : (ss : List Statement) (lines : List LaidLine) → AreApart [] (symbols_of (final_names (laid ss)) lines)
symbols_apart ss [] = tt
symbols_apart ss (l ∷ ls) =
    listed_apart (symbols_of (final_names (laid ss)) ls)
    (symbols_in (final_names (laid ss)) l.line (taken l.extent) l.statement.what) (symbols_apart ss ls)

-- ---- records

pub placed_name : (s : Source) (name label : List ℕ) (n : ℕ) (o : Option (ℕ × ℕ)) → (symbol_placed s name label n o).name ≡ name
placed_name s name label n None = refl
placed_name s name label n (Some a) = refl

pub symbol_name : (s : Source) (name : List ℕ) (r : Result Value LineKind) → (symbol_valued s name r).name ≡ name
symbol_name s name (Ok (Number n)) = refl
symbol_name s name (Ok (Place q n)) = placed_name s name q n (stands_at (sees (context_in s None)) q)
symbol_name s name r = refl

pub exported_lacks : (s : Source) (q : List ℕ) (names : List (List ℕ)) → Lacks names q → Lacks (exported (map (symbol_named s) names)) q
exported_lacks s q [] h = tt
exported_lacks s q (n ∷ ns) h = by_test (is_exported (symbol_named s n).attributes) (exported_lacks s q ns h.1)
  where
    by_test : (b : Bool) → Lacks (exported (map (symbol_named s) ns)) q → Lacks
        (cond b ((symbol_named s n).name ∷ exported (map (symbol_named s) ns)) (exported (map (symbol_named s) ns))) q
    by_test true k = (subst (λ z. z ≢ q) (sym (symbol_name s n (value_of_name (named_in n s.names)))) h.0, k)
    by_test false k = k

pub map_end : {A B : Type 0} → (f : A → B) (xs : List A) (x : A) → map f (xs ++ x ∷ []) ≡ map f xs ++ f x ∷ []
map_end f [] x = refl
map_end f (y ∷ ys) x = ap (λ z. f y ∷ z) (map_end f ys x)

-- areas of these sizes
abbrev pub HaveSizes : List Area → (ℕ → ℕ) → Type 0
HaveSizes areas sizes = (k : ℕ) (a : Area) → slice_get areas k ≡ Some a → a.size ≡ sizes k

pub within : {A : Type 0} → (xs : List A) (k : ℕ) → k < length xs → (x : A) × (slice_get xs k ≡ Some x)
within [] k less = absurd (omega (arith, less))
within (x ∷ xs) zero less = (x, refl)
within (x ∷ xs) (suc k) less = within xs k (omega (arith, less))

pub head_there : (areas : List Area) (k : ℕ) (a : Area) → slice_get areas k ≡ Some a → slice_get (heads areas) k ≡ Some (head_of a)
head_there [] k a e = absurd (cc)
head_there (b ∷ areas) zero a e = let x : b ≡ a = cc in ap (λ z. Some (head_of z)) x
head_there (b ∷ areas) (suc k) a e = head_there areas k a e

pub lives : (areas : List Area) (sizes : ℕ → ℕ) → HaveSizes areas sizes → (attributes value : ℕ) (o : Option ℕ)
    → LivesBelow (length areas) sizes attributes value o
    → Lives (heads areas) attributes value o
lives areas sizes f attributes value None h = h
lives areas sizes f attributes value (Some k) h =
    let a = within areas k h.0 in
    subst (λ o. IsSomeAnd o (λ t. is_placed attributes ≡ true → value ≤ t.size)) (sym (head_there areas k a.0 a.1))
    (λ p. subst (λ z. value ≤ z) (sym (f k a.0 a.1)) h.1)

pub records_stand : (s : Source) (areas : List Area) (sizes : ℕ → ℕ) → HaveSizes areas sizes → (before names : List (List ℕ)) → AreApart before names
    → AllByRecursion (λ q. IsGood (length areas) sizes (symbol_named s q)) names
    → EachStands (λ b t. IsSymbol (exported b) (heads areas) t) (map (symbol_named s) before) (map (symbol_named s) names)
records_stand s areas sizes f before [] h k = tt
records_stand s areas sizes f before (q ∷ names) h k = (
  record {
    fresh = λ e. subst (Lacks (exported (map (symbol_named s) before))) (sym (symbol_name s q (value_of_name (named_in q s.names))))
        (exported_lacks s q before h.0);
    permitted = k.0.allowed.permitted;
    scope = k.0.allowed.scope;
    lives = lives areas sizes f (symbol_named s q).attributes (symbol_named s q).value (symbol_named s q).area k.0.lives;
  },
  subst (λ z. EachStands (λ b t. IsSymbol (exported b) (heads areas) t) z (map (symbol_named s) names)) (map_end (symbol_named s) before q)
      (records_stand s areas sizes f (before ++ q ∷ []) names h.1 k.1),
)

pub records_text : (s : Source) (names : List (List ℕ)) → AllByRecursion HoldsNoZero names → AllByRecursion (λ t. IsText t.name) (map (symbol_named s) names)
records_text s [] h = tt
records_text s (q ∷ names) h = (subst HoldsNoZero (sym (symbol_name s q (value_of_name (named_in q s.names)))) h.0, records_text s names h.1)

pub each_good : (ss : List Statement) (count : ℕ) → length (areas_behind ss) ≡ count → (names : List (List ℕ)) → AreGoodNames ss names
    → AllByRecursion (λ q. IsGood count (sizes_of ss) (symbol_named (source_of ss) q)) names × AllByRecursion HoldsNoZero names
each_good ss count e [] h = (tt, tt)
each_good ss count e (q ∷ names) h =
    let p = each_good ss count e names h.1 in
    ((subst (λ z. IsGood z (sizes_of ss) (symbol_named (source_of ss) q)) e h.0.0, p.0), (h.0.1, p.1))

pub symbols_are_valid : (ss : List Statement) (o : Object) → AreFaultless ss → IsObject ss o
    → EachStands (λ before s. IsSymbol (exported before) (heads o.areas) s) [] o.symbols × AllByRecursion (λ s. IsText s.name) o.symbols
symbols_are_valid ss o h x =
    let s = source_of ss in
    let names = symbols_of s.names s.lines in
    let good = each_good ss (length o.areas) (sym x.count) names (symbols_all ss h [] (laid ss) refl) in (
      subst (λ z. EachStands (λ before t. IsSymbol (exported before) (heads o.areas) t) [] z) (sym x.symbols)
          (records_stand s o.areas (sizes_of ss) (λ k a e. (x.areas k a e).size) [] names (symbols_apart ss (laid ss)) good.0),
      subst (λ z. AllByRecursion (λ t. IsText t.name) z) (sym x.symbols) (records_text s names good.1),
    )
