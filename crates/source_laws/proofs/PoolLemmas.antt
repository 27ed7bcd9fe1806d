-- The words of pools are those of the literals that lines load: each word is that of a line's literal, and the literal of a
-- line has its word.
use Rattle.std.proofs.Common.{◌≡◌, ℕ, ◌+◌, ◌*◌, ◌&&◌, ◌||◌, List, [], ◌∷◌, ◌++◌, append_assoc, Bool, true, false, cond, refl, sym, ◌∙◌, ap, subst, arith, Some, ◌⊎◌, inl, inr}
use Rattle.std.specs.Prelude.{Result, Ok, Err}
use Rattle.std.specs.List.{AllByRecursion, list_any}
use Rattle.sdt_fault.specs.declared.kinds.LineKind.{LineKind}
use Rattle.asm_model.specs.declared.statements.Statement.{Statement}
use Rattle.asm_model.specs.declared.values.Value.{Value}
use Rattle.asm_model.specs.Extents.{Extent, Loading, Pool}
use Rattle.asm_model.specs.Laid.{LaidLine, taken, pieces_of, laid}
use Rattle.asm_model.specs.OffsetLaws.{joined}
use Rattle.asm_model.specs.Offsets.{Piece as LaidPiece, is_of, same_literal, waiting_behind, waiting, start_in, place_among, word_behind, is_pool, is_pool_of, literal_word, words_from, pool_behind, pooled, all_pooled}
use Rattle.asm_model.proofs.OffsetLemmas.{behind_keeps}
use Rattle.source_model.specs.Objects.{Piece, Source, source_of, in_order, literal_stored, word_piece, words_of, things_behind, IsAmong, StandsIn}
use Rattle.source_model.specs.Units.{Word, Stored}
use Rattle.source_laws.proofs.LineLemmas.{piece_of}
use Rattle.source_laws.proofs.ListedLemmas.{among_either, among_first, among_last, owned, OwnUnit, owner_of}
use Rattle.source_laws.proofs.NameLemmas.{each_joined}
use Rattle.source_laws.proofs.WordLemmas.{Waits, no_pool_of, literal_next, same_value, pieces_before, waits_behind}

-- ---- each word is that of a line's literal

pub each_weaker : {A : Type 0} (P Q : A → Type 0) → ((x : A) → P x → Q x) → (xs : List A) → AllByRecursion P xs → AllByRecursion Q xs
each_weaker P Q f [] h = tt
each_weaker P Q f (x ∷ xs) h = (f x h.0, each_weaker P Q f xs h.1)

-- a line of the area among these loads the literal
pub record Loads (area : ℕ) (lines : List LaidLine) (v : Value) : Type 0 where
  pub loader : LaidLine
  pub after : List LaidLine
  pub before : List LaidLine
  pub parts : lines ≡ after ++ loader ∷ before
  pub own : loader.area ≡ Some area
  pub size : ℕ
  pub extent : taken loader.extent ≡ Loading size v

abbrev loads_later : (area : ℕ) (l : LaidLine) (lines : List LaidLine) (v : Value) → Loads area lines v → Loads area (l ∷ lines) v
loads_later area l lines v x = record {
  loader = x.loader;
  after = l ∷ x.after;
  before = x.before;
  parts = ap (λ z. l ∷ z) x.parts;
  own = x.own;
  size = x.size;
  extent = x.extent;
}

-- and its word is in the next pool behind these
pub record Awaits (area : ℕ) (lines : List LaidLine) (v : Value) : Type 0 where
  pub loads : Loads area lines v
  pub word : (rest : List LaidLine)
      → literal_word area (pieces_of (loads.loader ∷ loads.before)) (pieces_of (in_order loads.after rest)) v
      ≡ literal_word area (pieces_of lines) (pieces_of rest) v

pub waiting_loaded : (area : ℕ) (lines : List LaidLine) → AllByRecursion (Awaits area lines) (waiting area (pieces_of lines))
waiting_loaded area [] = tt
waiting_loaded area (l ∷ lines) = by_area (waiting_loaded area lines) (is_of area l.area) refl
  where
    ws : List Value
    ws = waiting area (pieces_of lines)

    Now : Value → Type 0
    Now = Awaits area (l ∷ lines)

    later : AllByRecursion (Awaits area lines) ws → is_pool_of area (piece_of l) ≡ false → AllByRecursion Now ws
    later older no_pool =
        each_weaker (Awaits area lines) Now
        (λ v x.
        record {
          loads = loads_later area l lines v x.loads;
          word = λ rest. x.word (l ∷ rest) ∙ literal_next area (pieces_of lines) (pieces_of rest) (piece_of l) v no_pool;
        }) ws older

    by_noted : AllByRecursion Now ws → (v : Value) → Now v → (b : Bool) → AllByRecursion Now (cond b ws (ws ++ v ∷ []))
    by_noted older v x true = older
    by_noted older v x false = each_joined Now ws (v ∷ []) older (x, tt)

    by_extent : AllByRecursion (Awaits area lines) ws → l.area ≡ Some area → (e : Extent) → taken l.extent ≡ e → AllByRecursion Now (waiting_behind e ws)
    by_extent older own (Loading n v) x =
        let loads : Loads area (l ∷ lines) v = record { loader = l; after = []; before = lines; parts = refl; own = own; size = n; extent = x } in
        by_noted (later older (no_pool_of area (piece_of l) (ap is_pool x))) v (record { loads = loads; word = λ rest. refl }) (list_any (same_literal v) ws)
    by_extent older own Pool x = tt
    by_extent older own e x = later older (no_pool_of area (piece_of l) (ap is_pool x))

    by_area : AllByRecursion (Awaits area lines) ws → (b : Bool) → is_of area l.area ≡ b → AllByRecursion Now (cond b (waiting_behind (taken l.extent) ws) ws)
    by_area older true x = by_extent older (owned area l.area x) (taken l.extent) refl
    by_area older false x = later older (ap (λ b. b && is_pool (taken l.extent)) x)

abbrev pub EachLoads : ℕ → List LaidLine → List (Value × ℕ) → Type 0
EachLoads area lines words = AllByRecursion (λ w. Loads area lines w.0) words

words_loaded : (P : Value → Type 0) (at : ℕ) (ws : List Value) → AllByRecursion P ws → AllByRecursion (λ w. P w.0) (words_from at ws)
words_loaded P at [] h = tt
words_loaded P at (w ∷ ws) h = (h.0, words_loaded P (at + 4) ws h.1)

pool_loaded : (area : ℕ) (lines : List LaidLine) → EachLoads area lines (pool_behind area (pieces_of lines))
pool_loaded area lines =
    let ws = waiting area (pieces_of lines) in
    words_loaded (Loads area lines) (start_in area (pieces_of lines) Pool) ws
    (each_weaker (Awaits area lines) (Loads area lines) (λ v x. x.loads) ws (waiting_loaded area lines))

pooled_loaded : (area : ℕ) (lines : List LaidLine) → EachLoads area lines (pooled area (pieces_of lines))
pooled_loaded area [] = tt
pooled_loaded area (l ∷ lines) = by_pool (pooled_loaded area lines) (is_pool_of area (piece_of l))
  where
    front : List (Value × ℕ)
    front = pooled area (pieces_of lines)

    pool : List (Value × ℕ)
    pool = pool_behind area (pieces_of lines)

    later : (words : List (Value × ℕ)) → EachLoads area lines words → EachLoads area (l ∷ lines) words
    later words h = each_weaker (λ w. Loads area lines w.0) (λ w. Loads area (l ∷ lines) w.0) (λ w. loads_later area l lines w.0) words h

    by_pool : EachLoads area lines front → (b : Bool) → EachLoads area (l ∷ lines) (cond b (front ++ pool) front)
    by_pool older true = each_joined (λ w. Loads area (l ∷ lines) w.0) front pool (later front older) (later pool (pool_loaded area lines))
    by_pool older false = later front older

pub words_are_loaded : (area : ℕ) (lines : List LaidLine) → EachLoads area lines (all_pooled area (pieces_of lines))
words_are_loaded area lines =
    each_joined (λ w. Loads area lines w.0) (pooled area (pieces_of lines)) (pool_behind area (pieces_of lines))
    (pooled_loaded area lines) (pool_loaded area lines)

-- ---- what a thing is

pub record PoolWord (ss : List Statement) (area : ℕ) (p : Piece) : Type 0 where
  pub value : Value
  pub place : ℕ
  pub holds : Stored
  pub loads : Loads area (laid ss) value
  pub stores : literal_stored (source_of ss) area value ≡ Ok holds
  pub is : p ≡ (place, Word holds)

word_among : (ss : List Statement) (area : ℕ) (p : Piece) (words : List (Value × ℕ)) → EachLoads area (laid ss) words
    → IsAmong p (words_of (source_of ss) area words) → PoolWord ss area p
word_among ss area p [] each h = absurd h
word_among ss area p (w ∷ words) each h =
    elim (among_either p (word_piece w.1 (literal_stored (source_of ss) area w.0)) (words_of (source_of ss) area words) h)
    [ inl k ↦ by_result (literal_stored (source_of ss) area w.0) refl k | inr k ↦ word_among ss area p words each.1 k ]
  where
    by_result : (r : Result Stored LineKind) → literal_stored (source_of ss) area w.0 ≡ r → IsAmong p (word_piece w.1 r) → PoolWord ss area p
    by_result (Ok x) e (inl k) = record { value = w.0; place = w.1; holds = x; loads = each.0; stores = e; is = k }
    by_result (Ok x) e (inr k) = absurd k
    by_result (Err j) e k = absurd k

pub unit_or_word : (ss : List Statement) (area : ℕ) (p : Piece) → StandsIn (source_of ss) area p → OwnUnit ss area p ⊎ PoolWord ss area p
unit_or_word ss area p h =
    let words = all_pooled area (pieces_of (laid ss)) in
    elim (among_either p (things_behind (source_of ss) area (laid ss) []) (words_of (source_of ss) area words) h)
    [ inl k ↦ inl (owner_of ss area p k) | inr k ↦ inr (word_among ss area p words (words_are_loaded area (laid ss)) k) ]

-- ---- a line's literal has its word

pub words_joined : (s : Source) (area : ℕ) (xs ys : List (Value × ℕ)) → words_of s area (xs ++ ys) ≡ words_of s area xs ++ words_of s area ys
words_joined s area [] ys = refl
words_joined s area (x ∷ xs) ys =
    let word = word_piece x.1 (literal_stored s area x.0) in
    ap (λ z. word ++ z) (words_joined s area xs ys) ∙ sym (append_assoc word (words_of s area xs) (words_of s area ys))

pub words_first : (s : Source) (area : ℕ) (p : Piece) (xs ys : List (Value × ℕ)) → IsAmong p (words_of s area xs) → IsAmong p (words_of s area (xs ++ ys))
words_first s area p xs ys h =
    subst (IsAmong p) (sym (words_joined s area xs ys)) (among_first p (words_of s area xs) (words_of s area ys) h)

pub words_last : (s : Source) (area : ℕ) (p : Piece) (xs ys : List (Value × ℕ)) → IsAmong p (words_of s area ys) → IsAmong p (words_of s area (xs ++ ys))
words_last s area p xs ys h =
    subst (IsAmong p) (sym (words_joined s area xs ys)) (among_last p (words_of s area xs) (words_of s area ys) h)

pub words_either : (s : Source) (area : ℕ) (p : Piece) (xs ys : List (Value × ℕ)) → IsAmong p (words_of s area (xs ++ ys))
    → IsAmong p (words_of s area xs) ⊎ IsAmong p (words_of s area ys)
words_either s area p xs ys h = among_either p (words_of s area xs) (words_of s area ys) (subst (IsAmong p) (words_joined s area xs ys) h)

at_first : (at : ℕ) → at + 4 * 0 ≡ at
at_first at = omega arith

at_next : (at k : ℕ) → at + 4 + 4 * k ≡ at + 4 * (k + 1)
at_next at k = omega arith

-- a literal that waits has its word there
word_there : (s : Source) (area at : ℕ) (ws : List Value) (v : Value) (x : Stored) → literal_stored s area v ≡ Ok x → Waits v ws
    → IsAmong (at + 4 * place_among v ws, Word x) (words_of s area (words_from at ws))
word_there s area at [] v x e h = absurd (cc)
word_there s area at (w ∷ ws) v x e h = by_test (same_literal v w) refl h (word_there s area (at + 4) ws v x e)
  where
    first : Result Stored LineKind
    first = literal_stored s area w

    rest : List Piece
    rest = words_of s area (words_from (at + 4) ws)

    by_test : (b : Bool) → same_literal v w ≡ b → (b || list_any (same_literal v) ws) ≡ true
        → (Waits v ws → IsAmong (at + 4 + 4 * place_among v ws, Word x) rest)
        → IsAmong (at + 4 * cond b 0 (place_among v ws + 1), Word x) (word_piece at first ++ rest)
    by_test true y k later =
        subst (λ r. IsAmong (at + 4 * 0, Word x) (word_piece at r ++ rest)) (sym e ∙ ap (literal_stored s area) (same_value v w y))
        (inl (ap (λ z. (z, Word x)) (at_first at)))
    by_test false y k later =
        among_last (at + 4 * (place_among v ws + 1), Word x) (word_piece at first) rest
        (subst (λ z. IsAmong (z, Word x) rest) (at_next at (place_among v ws)) (later k))

-- what is in a pool stays there
pooled_kept : (s : Source) (area : ℕ) (p : Piece) (before rest : List LaidPiece) → IsAmong p (words_of s area (pooled area before))
    → IsAmong p (words_of s area (all_pooled area (joined before rest)))
pooled_kept s area p before [] h = words_first s area p (pooled area before) (pool_behind area before) h
pooled_kept s area p before (m ∷ rest) h = pooled_kept s area p (m ∷ before) rest (by_pool (is_pool_of area m))
  where
    by_pool : (b : Bool) → IsAmong p (words_of s area (cond b (pooled area before ++ pool_behind area before) (pooled area before)))
    by_pool true = words_first s area p (pooled area before) (pool_behind area before) h
    by_pool false = h

word_pooled_now : (s : Source) (area : ℕ) (v : Value) (x : Stored) → literal_stored s area v ≡ Ok x → (before : List LaidPiece) → Waits v (waiting area before)
    → IsAmong (word_behind area before v, Word x) (words_of s area (all_pooled area before))
word_pooled_now s area v x e before h =
    words_last s area (word_behind area before v, Word x) (pooled area before) (pool_behind area before)
    (word_there s area (start_in area before Pool) (waiting area before) v x e h)

word_pooled : (s : Source) (area : ℕ) (v : Value) (x : Stored) → literal_stored s area v ≡ Ok x → (before rest : List LaidPiece) → Waits v (waiting area before)
    → IsAmong (literal_word area before rest v, Word x) (words_of s area (all_pooled area (joined before rest)))
word_pooled s area v x e before [] h = word_pooled_now s area v x e before h
word_pooled s area v x e before (m ∷ rest) h =
    by_pool (is_pool_of area m) refl (λ k. word_pooled s area v x e (m ∷ before) rest (behind_keeps v (is_of area m.area) m.extent (waiting area before) k h))
  where
    all : List Piece
    all = words_of s area (all_pooled area (joined (m ∷ before) rest))

    here : is_pool_of area m ≡ true → IsAmong (word_behind area before v, Word x) (words_of s area (pooled area (m ∷ before)))
    here y =
        subst (λ b. IsAmong (word_behind area before v, Word x) (words_of s area (cond b (all_pooled area before) (pooled area before)))) (sym y)
        (word_pooled_now s area v x e before h)

    by_pool : (b : Bool) → is_pool_of area m ≡ b → (is_pool_of area m ≡ false → IsAmong (literal_word area (m ∷ before) rest v, Word x) all)
        → IsAmong (cond b (word_behind area before v) (literal_word area (m ∷ before) rest v), Word x) all
    by_pool true y later = pooled_kept s area (word_behind area before v, Word x) (m ∷ before) rest (here y)
    by_pool false y later = later y

-- the word of a line's literal stands in the line's area
pub literal_stands : (ss : List Statement) (area : ℕ) (after before : List LaidLine) (l : LaidLine) (n : ℕ) (v : Value) (x : Stored)
    → laid ss ≡ after ++ l ∷ before → l.area ≡ Some area → taken l.extent ≡ Loading n v → literal_stored (source_of ss) area v ≡ Ok x
    → StandsIn (source_of ss) area (literal_word area (pieces_of (l ∷ before)) (pieces_of (in_order after [])) v, Word x)
literal_stands ss area after before l n v x e own loads stores =
    let p : Piece = (literal_word area (pieces_of (l ∷ before)) (pieces_of (in_order after [])) v, Word x) in
    among_last p (things_behind (source_of ss) area (laid ss) []) (words_of (source_of ss) area (all_pooled area (pieces_of (laid ss))))
    (subst (λ z. IsAmong p (words_of (source_of ss) area (all_pooled area z))) (pieces_before after (l ∷ before) ∙ ap pieces_of (sym e))
    (word_pooled (source_of ss) area v x stores (pieces_of (l ∷ before)) (pieces_of (in_order after [])) (waits_behind ss area after before l n v e own loads)))
