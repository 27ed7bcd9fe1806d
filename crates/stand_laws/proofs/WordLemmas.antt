-- The word of a line's literal holds the value of its expression.
use Rattle.std.proofs.Common.{◌≡◌, ℕ, ◌+◌, ◌%◌, ◌^◌, List, [], ◌∷◌, ◌++◌, Bool, true, false, cond, refl, sym, ◌∙◌, ap, subst, arith, Option, Some, None}
use Rattle.std.specs.Prelude.{Result, Ok, Err}
use Rattle.sdt_fault.specs.declared.kinds.LineKind.{LineKind}
use Rattle.sdt_fault.specs.declared.kinds.LineKind.TheVariants.{UnknownWord}
use Rattle.sdt_word.specs.declared.codes.Condition.{Condition}
use Rattle.sdt_word.specs.declared.ranges.Range32.{Range32}
use Rattle.asm_model.specs.declared.exprs.BinaryOp.TheVariants.{Add}
use Rattle.asm_model.specs.declared.exprs.Expr.{Expr}
use Rattle.asm_model.specs.declared.exprs.ExprItem.{ExprItem}
use Rattle.asm_model.specs.declared.names.Names.{Names}
use Rattle.asm_model.specs.declared.operands.Register.{Register}
use Rattle.asm_model.specs.declared.statements.PseudoLine.TheVariants as pseudo
use Rattle.asm_model.specs.declared.statements.Statement.{Statement}
use Rattle.asm_model.specs.declared.statements.What.TheVariants as what
use Rattle.asm_model.specs.declared.values.Value.{Value}
use Rattle.asm_model.specs.declared.values.Value.TheVariants.{Number, Truth, Words, Place}
use Rattle.asm_model.specs.AtLine.{with_names, kept_names, literal_or}
use Rattle.asm_model.specs.Grammar.{Tree}
use Rattle.asm_model.specs.Meaning.{named_in, entry_stands_at, stands_at, binary, value_of as entry_value, meaning}
use Rattle.asm_model.specs.Extents.{Extent, Block, Loading, is_moved, loading, tree_literal, literal_there, extent_of}
use Rattle.asm_model.specs.Laid.{LaidLine, taken, pieces_of, laid, final_names}
use Rattle.asm_model.specs.Marks.{datum_names}
use Rattle.asm_model.specs.Offsets.{Piece as LaidPiece, literal_word}
use Rattle.asm_model.specs.Placing.{HaveSymbols}
use Rattle.asm_model.specs.Readings.{then_both}
use Rattle.asm_model.specs.Symbols.{literal_value}
use Rattle.asm_model.specs.Trees.{tree_of}
use Rattle.asm_model.specs.Sound.{IsSound, HaveNoPlaces, ArePlain}
use Rattle.layout_laws.proofs.FinalLemmas.{AllKnownFinally, known_there, source_known}
use Rattle.layout_laws.proofs.FoundLemmas.{final_tree}
use Rattle.layout_laws.proofs.RoundLemmas.{ResultIs}
use Rattle.object_laws.proofs.FaultLemmas.{literal_known}
use Rattle.object_laws.proofs.OriginLemmas.{IsOwn, tree_to, names_own, anything, any_tree}
use Rattle.patch_model.specs.Fields.{Values}
use Rattle.patch_model.specs.Reaches.{View, ShowsWord}
use Rattle.asm_model.specs.Said.{WhatSaid, AllSaid}
use Rattle.source_model.specs.Contexts.{Context, sees, value_of}
use Rattle.source_model.specs.Objects.{in_order, source_of, StandsIn}
use Rattle.source_model.specs.SourceFaults.{word_of}
use Rattle.source_model.specs.Units.{Word, Stored, Nothing, placed, stored}
use Rattle.source_laws.specs.Laws.{context_behind, word_among}
use Rattle.layout_laws.proofs.SettledLemmas.{no_place_holds}
use Rattle.layout_laws.proofs.TreeLemmas.{ItemsEach, TreeEach, tree_each}
use Rattle.source_laws.proofs.FaultlessLemmas.{layout_sound}
use Rattle.source_laws.proofs.AgreeLemmas.{literal_stored_there}
use Rattle.source_laws.proofs.PoolLemmas.{Loads as LineLoads, literal_stands}
use Rattle.source_laws.proofs.ThingLemmas.{known_extent}
use Rattle.stand_model.specs.Stands.{WordStands}
use Rattle.asm_model.specs.Named.{AllItemsNamed}
use Rattle.stand_laws.specs.Laws.{IsFaultless}
use Rattle.stand_laws.proofs.DataLemmas.{total_of, word_stands}
use Rattle.stand_laws.proofs.GoodLemmas.{lines_said}
use Rattle.stand_laws.proofs.KeptLemmas.{IsLoaded, constants_hold, kept_loads}
use Rattle.stand_laws.proofs.LiteralLemmas.{Same32, Plus, Later, Loads, stands_finally}
use Rattle.stand_laws.proofs.SymbolLemmas.{stands_own}
use Rattle.stand_laws.proofs.PseudoLemmas.{LiteralHolds}
use Rattle.stand_laws.proofs.ResultLemmas.{mapped_ok}
use Rattle.stand_laws.proofs.ValueLemmas.{Setting, lookup, ThingsShown, setting}
use Rattle.asm_model.specs.declared.names.LaidName.{LaidName}
use Rattle.asm_model.proofs.SaidLemmas.{are_plain}

-- ---- one word

-- a result is stored as a word that comes to the same
abbrev pub StoresSame : Setting → Result Value LineKind → Stored → Type 0
StoresSame k r st = (w : Stored) × (stored k.context (datum_names k.source.statements) r ≡ Ok w) × (total_of k w ≡ total_of k st)

pub sum_same : (k j t : ℕ) → Same32 k j → (k + t) % 2 ^ 32 ≡ (j + t) % 2 ^ 32
sum_same k j t h = omega (arith, h)

pub offset_same : (o k j t b : ℕ) → Same32 k j → ((o + k + t) % 2 ^ 32 + b) % 2 ^ 32 ≡ ((o + j + t) % 2 ^ 32 + b) % 2 ^ 32
offset_same o k j t b h = omega (arith, h)

pub placed_same : (k : Setting) (q : List ℕ) (m n : ℕ) (o : Option (ℕ × ℕ)) → Same32 m n
    → total_of k (placed k.context (datum_names k.source.statements) q m o) ≡ total_of k (placed k.context (datum_names k.source.statements) q n o)
placed_same k q m n None h = sum_same m n _ h
placed_same k q m n (Some a) h = offset_same a.1 m n _ _ h

pub mod_same : (k m n : ℕ) → Same32 k (m + n) → Same32 k ((m + n) % 2 ^ 32)
mod_same k m n h = omega (arith, h)

-- a name's value plus the number
pub sum_stored : (k : Setting) (n : ℕ) (f r : Result Value LineKind) (st : Stored) → ((v : Value) → f ≡ Ok v → Plus v n r)
    → stored k.context (datum_names k.source.statements) (then_both f (Ok (Number n)) (binary (sees k.context) Add)) ≡ Ok st → StoresSame k r st
sum_stored k n (Ok (Number m)) r st plus h =
    let p = plus (Number m) refl in
    let w : Stored = record { number = p.0; target = Nothing } in
    let d = datum_names k.source.statements in
    let there : record { number = (m + n) % 2 ^ 32; target = Nothing } ≡ st = cc in
    (w, ap (stored k.context d) p.1, sum_same p.0 ((m + n) % 2 ^ 32) 0 (mod_same p.0 m n p.2) ∙ ap (total_of k) there)
sum_stored k n (Ok (Place q m)) r st plus h =
    let p = plus (Place q m) refl in
    let d = datum_names k.source.statements in
    let o = stands_at (sees k.context) q in
    let there : placed k.context d q ((m + n) % 2 ^ 32) o ≡ st = cc in
    (placed k.context d q p.0 o, ap (stored k.context d) p.1, placed_same k q p.0 ((m + n) % 2 ^ 32) o (mod_same p.0 m n p.2) ∙ ap (total_of k) there)
sum_stored k n (Ok (Truth b)) r st plus h = absurd (cc)
sum_stored k n (Ok (Words w)) r st plus h = absurd (cc)
sum_stored k n (Err j) r st plus h = absurd (cc)

word_same : (k : Setting) (v : Value) (r : Result Value LineKind) (st : Stored) → Loads (sees k.context) v r
    → stored k.context (datum_names k.source.statements) (literal_value (sees k.context) v) ≡ Ok st → StoresSame k r st
word_same k (Number n) r st h e = (st, ap (stored k.context (datum_names k.source.statements)) h ∙ e, refl)
word_same k (Place [] n) r st h e = (st, ap (stored k.context (datum_names k.source.statements)) h ∙ e, refl)
word_same k (Place (c ∷ cs) n) r st h e = sum_stored k n (entry_value (named_in (c ∷ cs) (sees k.context).list)) r st h e
word_same k (Truth b) r st h e = absurd (cc)
word_same k (Words w) r st h e = absurd (cc)

-- ---- the literal of a line

pub loads_by : (s final : Names) (Own : List ℕ → Type 0) → Later s final Own → (t : Tree) → TreeEach (IsLoaded Own) t → ResultIs Own (meaning final t)
    → (x y : Result Value LineKind) → meaning s t ≡ x → meaning s (kept_names s t) ≡ y → (v : Value) → literal_or x y ≡ Ok v → Loads final v (meaning final t)
loads_by s final Own later t each own (Ok (Number n)) y h g v e =
    let same : Number n ≡ v = cc in
    subst (λ z. Loads final z (meaning final t)) same (later.known t (Number n) h)
loads_by s final Own later t each own x (Ok (Place q n)) h g v e =
    let same : Place q n ≡ v = cc in
    subst (λ z. Loads final z (meaning final t)) same (kept_loads s final Own later t (Place q n) each g)
loads_by s final Own later t each own x (Err UnknownWord) h g v e = absurd (cc)
loads_by s final Own later t each own x y h g v e = absurd (cc)

pub loading_is : (thumb : Bool) (u v : Value) (n : ℕ) → loading thumb u ≡ Loading n v → u ≡ v
loading_is true (Number m) v n h = cc
loading_is false (Number m) v n h = by_test (is_moved m) h
  where
    by_test : (b : Bool) → cond b (Block 4 4) (Loading 4 (Number m)) ≡ Loading n v → Number m ≡ v
    by_test true e = absurd (cc)
    by_test false e = cc
loading_is thumb u v n h = cc

-- ---- a line

pub items_loaded : (Own : List ℕ → Type 0) (is : List ExprItem) → HaveNoPlaces is → AllItemsNamed is → ItemsEach (IsLoaded Own) is
items_loaded Own [] h g = tt
items_loaded Own (i ∷ is) h g = ((no_place_holds Own i h.0, g.0), items_loaded Own is h.1 g.1)

-- a symbol that stands in an area stands for itself
own_there : (ss : List Statement) (c : ℕ) (cs : List ℕ) (a : ℕ × ℕ) → entry_stands_at (named_in (c ∷ cs) (final_names (laid ss))) ≡ Some a
    → entry_value (named_in (c ∷ cs) (final_names (laid ss))) ≡ Ok (Place (c ∷ cs) 0)
own_there ss c cs a h = by_entry (named_in (c ∷ cs) (final_names (laid ss))) refl h
  where
    by_entry : (o : Option LaidName) → named_in (c ∷ cs) (final_names (laid ss)) ≡ o → entry_stands_at o ≡ Some a → entry_value o ≡ Ok (Place (c ∷ cs) 0)
    by_entry None e k = absurd (cc)
    by_entry (Some n) e k = stands_own ss (c ∷ cs) n a e k

pub line_later : (ss : List Statement) → IsSound ss → ArePlain ss → (after before : List LaidLine) (l : LaidLine) → laid ss ≡ after ++ l ∷ before
    → Later l.seen (sees (context_behind ss l before)) (IsOwn (final_names (laid ss)))
line_later ss sound plain after before l e =
    let N = final_names (laid ss) in
    let known = known_there N after l before (subst (AllKnownFinally N) e (source_known ss sound plain)) in
    record {
      known = known;
      own = λ t h. tree_to anything (IsOwn N) l.line N (λ q n x. names_own ss sound plain q n) t (any_tree t) h;
      entry = λ q h. ap entry_value h.1 ∙ h.2;
      stands = λ c cs a h. let p = stands_finally l.seen (with_names l.line N) known (c ∷ cs) a h in own_there ss c cs p.0 p.1;
    }

-- the literal of a line whose statement loads the expression
pub line_loads : (ss : List Statement) → IsSound ss → AllSaid ss → (after before : List LaidLine) (l : LaidLine) → laid ss ≡ after ++ l ∷ before
    → (condition : Condition) (rd : Register) (e : Expr) → l.statement.what ≡ what.Pseudo (pseudo.LoadConstant condition rd e)
    → (n : ℕ) (v : Value) → taken l.extent ≡ Loading n v
    → Loads (sees (context_behind ss l before)) v (value_of (context_behind ss l before) e)
line_loads ss sound said after before l split condition rd e w n v x =
    let thumb = l.seen.thumb in
    let known : extent_of l.seen (what.Pseudo (pseudo.LoadConstant condition rd e)) ≡ Ok (Loading n v) =
    ap (extent_of l.seen) (sym w) ∙ known_extent ss sound after before l split ∙ ap Ok x in
    let m = mapped_ok (loading thumb) (literal_there l.seen e) (Loading n v) known in
    by_tree (tree_of e) refl (m.is ∙ ap Ok (loading_is thumb m.from v n m.gives))
  where
    Own : List ℕ → Type 0
    Own = IsOwn (final_names (laid ss))

    c : Context
    c = context_behind ss l before

    each : (t : Tree) → tree_of e ≡ Some t → TreeEach (IsLoaded Own) t
    each t h =
        let is = (subst WhatSaid w (lines_said ss after before l said split).0.read).1 in
        tree_each (IsLoaded Own) e.items (Some []) t (items_loaded Own e.items is.plain is.named) tt h

    by_tree : (o : Option Tree) → tree_of e ≡ o → literal_there l.seen e ≡ Ok v → Loads (sees c) v (value_of c e)
    by_tree None h g = let y : tree_literal l.seen None ≡ Ok v = ap (tree_literal l.seen) (sym h) ∙ g in absurd (cc)
    by_tree (Some t) h g =
        let y : tree_literal l.seen (Some t) ≡ Ok v = ap (tree_literal l.seen) (sym h) ∙ g in
        subst (λ z. Loads (sees c) v z) (sym (final_tree c.names c.line e (Some t) h))
        (loads_by l.seen (sees c) Own (line_later ss sound (are_plain ss said) after before l split) t (each t h)
        ((line_later ss sound (are_plain ss said) after before l split).own t (constants_hold Own t (each t h)))
        (meaning l.seen t) (meaning l.seen (kept_names l.seen t)) refl refl v y)

-- a line with a word loads a literal
pub word_loads : (area : ℕ) (x : Extent) (before rest : List LaidPiece) (w : ℕ) → word_of (Some area) x before rest ≡ Some w
    → (n : ℕ) × (v : Value) × (x ≡ Loading n v) × (literal_word area before rest v ≡ w)
word_loads area (Loading n v) before rest w h = (n, v, refl, cc)
word_loads area x before rest w h = absurd (cc)

pub word_holds : (k : Setting) (a : ℕ) (e : Expr) (st : Stored) → HaveSymbols (sees k.context) → StoresSame k (value_of k.context e) st
    → ShowsWord k.view a (total_of k st) → WordStands (lookup k) a e
word_holds k a e st here s h = word_stands k a e (value_of k.context e) s.0 here refl s.1 (subst (ShowsWord k.view a) (sym s.2) h)

-- the word of a line's literal, where memory shows what stands in the area
pub literal_holds : (ss : List Statement) → IsFaultless ss → (values : Values) (view : View) (region : Range32) (area : ℕ) (after before : List LaidLine)
    (l : LaidLine)
    → laid ss ≡ after ++ l ∷ before → l.area ≡ Some area → HaveSymbols (sees (context_behind ss l before))
    → ThingsShown (setting ss values view region area l before) area
    → (condition : Condition) (rd : Register) (x : Expr) → l.statement.what ≡ what.Pseudo (pseudo.LoadConstant condition rd x)
    → (word : Option ℕ) → word_among after l before ≡ word → LiteralHolds (setting ss values view region area l before) x word
literal_holds ss fine values view region area after before l e own here shown condition rd x w None h = tt
literal_holds ss fine values view region area after before l e own here shown condition rd x w (Some place) h =
    let k = setting ss values view region area l before in
    let c = context_behind ss l before in
    let all = pieces_of (l ∷ before) in
    let rest = pieces_of (in_order after []) in
    let q = word_loads area (taken l.extent) all rest place (ap (λ z. word_of z (taken l.extent) all rest) (sym own) ∙ h) in
    let loads : LineLoads area (laid ss) q.1 = record { loader = l; after = after; before = before; parts = e; own = own; size = q.0; extent = q.2 } in
    let st = literal_known ss fine.valued area q.1 loads in
    word_holds k (values.base area + place) x st.0 here
    (word_same k q.1 (value_of c x) st.0
    (line_loads ss (layout_sound ss fine.laid_out) fine.said after before l e condition rd x w q.0 q.1 q.2)
    (sym (literal_stored_there ss area after before l e own q.1) ∙ st.1))
    (shown (place, Word st.0)
    (subst (λ z. StandsIn (source_of ss) area (z, Word st.0)) q.3 (literal_stands ss area after before l q.0 q.1 st.0 e own q.2 st.1)))
