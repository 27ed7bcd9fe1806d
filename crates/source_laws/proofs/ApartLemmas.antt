-- What stands in an area stands apart: what a line puts lies where the line stands, the words of a pool lie where its LTORG
-- stands or behind all lines, and lines stand one behind the other.
use Rattle.std.proofs.Common.{◌≡◌, ℕ, ◌+◌, ◌*◌, ◌≤◌, List, [], ◌∷◌, ◌++◌, append_assoc, length, Bool, true, false, cond, refl, sym, ◌∙◌, ap, subst, arith, Some, ◌⊎◌, inl, inr}
use Rattle.std.specs.Prelude.{Ok}
use Rattle.std.proofs.lemmas.Bool.{and_parts}
use Rattle.asm_model.specs.declared.statements.Statement.{Statement}
use Rattle.asm_model.specs.declared.directives.DirectiveLine.TheVariants as line
use Rattle.asm_model.specs.declared.statements.What.TheVariants as what
use Rattle.asm_model.specs.declared.values.Value.{Value}
use Rattle.asm_model.specs.Extents.{Extent, Pool}
use Rattle.asm_model.specs.Laid.{LaidLine, taken, pieces_of, laid}
use Rattle.asm_model.specs.Offsets.{Piece as LaidPiece, is_of, waiting, size_of, lacking, alignment_of, end_behind, start_in, end_from, area_size, pool_behind, is_pool, is_pool_of, pooled, all_pooled}
use Rattle.asm_model.specs.Marks.{datum_names}
use Rattle.asm_model.specs.Sound.{IsSound}
use Rattle.asm_model.proofs.OffsetLemmas.{more, through, up_to_size}
use Rattle.source_model.specs.Objects.{Piece, unit_bytes, units_bytes, units_from, or_none, source_of, in_order, things_of, things_behind, words_of, IsAmong, StandsIn}
use Rattle.source_model.specs.SourceFaults.{word_of}
use Rattle.source_laws.specs.Laws.{StandApart, is_filled, context_behind}
use Rattle.source_laws.proofs.LineLemmas.{piece_of, stands_in, line_ends, line_starts, pieces_rise}
use Rattle.source_laws.proofs.ListedLemmas.{among_either, own_things, owned}
use Rattle.source_laws.proofs.PoolLemmas.{words_either}
use Rattle.source_laws.proofs.SizeLemmas.{other_units_are_none, pools_are_said}
use Rattle.source_laws.proofs.ThingLemmas.{units_with, known_extent, own_fit}
use Rattle.source_laws.proofs.UnitLemmas.{Fills, filled_by, filled_both, none_fill, units_fill, words_fill}

-- ---- one line

-- the words of the pool that a line is, if it is one
abbrev pub pool_words : List Statement → ℕ → LaidLine → List LaidLine → List Piece
pool_words ss area l before = words_of (source_of ss) area (cond (is_pool_of area (piece_of l)) (pool_behind area (pieces_of before)) [])

-- a line of the area puts this thing there, where these lines stand behind it
abbrev pub PutBy : List Statement → ℕ → LaidLine → List LaidLine → List LaidLine → Piece → Type 0
PutBy ss area l before rest p = IsAmong p (own_things ss l before rest) ⊎ IsAmong p (pool_words ss area l before)

is_pool_true : (x : Extent) → is_pool x ≡ true → x ≡ Pool
is_pool_true Pool h = refl
is_pool_true x h = absurd (cc)

-- a pool is an LTORG
pool_line : (ss : List Statement) → IsSound ss → (area : ℕ) (after before : List LaidLine) (l : LaidLine) → laid ss ≡ after ++ l ∷ before
    → is_pool_of area (piece_of l) ≡ true → (taken l.extent ≡ Pool) × (l.statement.what ≡ what.Directive line.Ltorg)
pool_line ss sound area after before l e h =
    let x = is_pool_true (taken l.extent) (and_parts (is_of area l.area) (is_pool (taken l.extent)) h).1 in
    (x, pools_are_said l.seen l.statement.what (known_extent ss sound after before l e ∙ ap Ok x))

no_units : (ss : List Statement) (before rest : List LaidLine) (l : LaidLine) (p : Piece) → is_filled l.statement.what ≡ false
    → IsAmong p (own_things ss l before rest) → ⊥
no_units ss before rest l p bare h =
    let word = word_of l.area (taken l.extent) (pieces_of (l ∷ before)) (pieces_of rest) in
    let none = other_units_are_none (context_behind ss l before) (datum_names ss) l.seen word l.statement.what bare in
    subst (λ r. IsAmong p (units_from l.offset (or_none r))) none h

line_fill : (ss : List Statement) → IsSound ss → (area : ℕ) (after before : List LaidLine) (l : LaidLine) → laid ss ≡ after ++ l ∷ before → l.area ≡ Some area
    → (rest : List LaidLine) → Fills (PutBy ss area l before rest) l.offset (l.offset + l.size)
line_fill ss sound area after before l e here rest = by_pool (is_pool_of area (piece_of l)) refl
  where
    Own : Piece → Type 0
    Own p = IsAmong p (own_things ss l before rest)

    Words : Bool → Piece → Type 0
    Words b p = IsAmong p (words_of (source_of ss) area (cond b (pool_behind area (pieces_of before)) []))

    end : ℕ
    end = l.offset + l.size

    by_pool : (b : Bool) → is_pool_of area (piece_of l) ≡ b → Fills (λ p. Own p ⊎ Words b p) l.offset end
    by_pool false y =
        let word = word_of l.area (taken l.extent) (pieces_of (l ∷ before)) (pieces_of rest) in
        let us = units_with ss l before word in
        let fit = own_fit ss sound area after before l e here word in
        filled_by Own (λ p. Own p ⊎ Words false p) l.offset (l.offset + length (units_bytes us)) end (omega arith)
        (λ p h. elim h [ inl k ↦ k | inr k ↦ absurd k ]) (units_fill l.offset us)
    by_pool true y =
        let pool = pool_line ss sound area after before l e y in
        let at = start_in area (pieces_of before) Pool in
        let ws = waiting area (pieces_of before) in
        let stands = subst (λ z. (l.offset ≡ start_in area (pieces_of before) z) × (l.size ≡ size_of ws (start_in area (pieces_of before) z) z)) pool.0
        (stands_in ss sound area after before l e here) in
        filled_by (Words true) (λ p. Own p ⊎ Words true p) l.offset end end (omega arith)
        (λ p h. elim h [ inl k ↦ absurd (no_units ss before rest l p (ap is_filled pool.1) k) | inr k ↦ k ])
        (subst (λ o. Fills (Words true) o (o + l.size)) (sym stands.0)
        (subst (λ n. Fills (Words true) at (at + n)) (sym stands.1) (words_fill (source_of ss) area at ws)))

-- ---- lines

abbrev pub PutBehind : List Statement → ℕ → List LaidLine → List LaidLine → Piece → Type 0
PutBehind ss area lines rest p =
    IsAmong p (things_behind (source_of ss) area lines rest) ⊎ IsAmong p (words_of (source_of ss) area (pooled area (pieces_of lines)))

-- the last of these lines puts it, or one before
abbrev Split : List Statement → ℕ → LaidLine → List LaidLine → List LaidLine → Piece → Type 0
Split ss area l before rest p = PutBehind ss area before (l ∷ rest) p ⊎ ((is_of area l.area ≡ true) × PutBy ss area l before rest p)

put_split : (ss : List Statement) (area : ℕ) (l : LaidLine) (before rest : List LaidLine) (p : Piece) → PutBehind ss area (l ∷ before) rest p
    → Split ss area l before rest p
put_split ss area l before rest p h =
    elim h [
      | inl k ↦
          elim (among_either p (things_behind (source_of ss) area before (l ∷ rest)) (things_of (source_of ss) area l before rest) k)
          [ inl j ↦ inl (inl j) | inr j ↦ of_line (is_of area l.area) refl j ]
      | inr k ↦ of_pool (is_pool_of area (piece_of l)) refl k
    ]
  where
    front : List (Value × ℕ)
    front = pooled area (pieces_of before)

    pool : List (Value × ℕ)
    pool = pool_behind area (pieces_of before)

    of_line : (b : Bool) → is_of area l.area ≡ b → IsAmong p (cond b (own_things ss l before rest) []) → Split ss area l before rest p
    of_line true e k = inr (e, inl k)
    of_line false e k = absurd k

    of_pool : (b : Bool) → is_pool_of area (piece_of l) ≡ b → IsAmong p (words_of (source_of ss) area (cond b (front ++ pool) front))
        → Split ss area l before rest p
    of_pool true e k =
        elim (words_either (source_of ss) area p front pool k) [
          | inl j ↦ inl (inr j)
          | inr j ↦
              inr (
                (and_parts (is_of area l.area) (is_pool (taken l.extent)) e).0,
                inr (subst (λ b. IsAmong p (words_of (source_of ss) area (cond b pool []))) (sym e) j),
              )
        ]
    of_pool false e k = inl (inr k)

-- what lines put lies before the end of their area's statements
lines_fill : (ss : List Statement) → IsSound ss → (area : ℕ) (after lines : List LaidLine) → laid ss ≡ after ++ lines → (rest : List LaidLine)
    → Fills (PutBehind ss area lines rest) 0 (end_behind area (pieces_of lines))
lines_fill ss sound area after [] e rest =
    filled_by (λ p. ⊥) (PutBehind ss area [] rest) 0 0 0 (omega arith) (λ p h. elim h [ inl k ↦ k | inr k ↦ k ]) (none_fill 0 0)
lines_fill ss sound area after (l ∷ before) e rest =
    by_area (lines_fill ss sound area (after ++ l ∷ []) before (e ∙ sym (append_assoc after (l ∷ []) before)) (l ∷ rest)) (is_of area l.area) refl
  where
    end : ℕ
    end = end_behind area (pieces_of before)

    Put : Piece → Type 0
    Put = PutBehind ss area (l ∷ before) rest

    by_area : Fills (PutBehind ss area before (l ∷ rest)) 0 end → (b : Bool) → is_of area l.area ≡ b → Fills Put 0 (end_behind area (pieces_of (l ∷ before)))
    by_area older true x =
        let own = owned area l.area x in
        subst (Fills Put 0) (line_ends ss sound area after before l e own)
        (filled_both (PutBehind ss area before (l ∷ rest)) (PutBy ss area l before rest) Put 0 end l.offset (l.offset + l.size)
        (omega arith) (line_starts ss sound area after before l e own) (omega arith)
        (λ p h. elim (put_split ss area l before rest p h) [ inl k ↦ inl k | inr k ↦ inr k.1 ]) older (line_fill ss sound area after before l e own rest))
    by_area older false x =
        subst (λ b. Fills Put 0 (cond b (end_from end (waiting area (pieces_of before)) (taken l.extent)) end)) (sym x)
        (filled_by (PutBehind ss area before (l ∷ rest)) Put 0 end end (omega arith)
        (λ p h. elim (put_split ss area l before rest p h) [ inl k ↦ k | inr k ↦ absurd (false_true (sym x ∙ k.0)) ]) older)
      where
        false_true : false ≡ true → ⊥
        false_true y = cc

-- ---- areas

-- in the pool at the area's end
abbrev pub AtEnd : List Statement → ℕ → Piece → Type 0
AtEnd ss area p = IsAmong p (words_of (source_of ss) area (pool_behind area (pieces_of (laid ss))))

stands_split : (ss : List Statement) (area : ℕ) (p : Piece) → StandsIn (source_of ss) area p → PutBehind ss area (laid ss) [] p ⊎ AtEnd ss area p
stands_split ss area p h =
    let all = pieces_of (laid ss) in
    elim (among_either p (things_behind (source_of ss) area (laid ss) []) (words_of (source_of ss) area (all_pooled area all)) h) [
      | inl k ↦ inl (inl k)
      | inr k ↦ elim (words_either (source_of ss) area p (pooled area all) (pool_behind area all) k) [ inl j ↦ inl (inr j) | inr j ↦ inr j ]
    ]

pool_starts : (area : ℕ) (all : List LaidPiece) → end_behind area all ≤ start_in area all Pool
pool_starts area all = more (end_behind area all) (lacking (end_behind area all) (alignment_of (waiting area all) Pool) 0)

area_fill : (ss : List Statement) → IsSound ss → (area : ℕ) → Fills (StandsIn (source_of ss) area) 0 (area_size area (pieces_of (laid ss)))
area_fill ss sound area =
    let all = pieces_of (laid ss) in
    let start = start_in area all Pool in
    let end = end_from (end_behind area all) (waiting area all) Pool in
    let size = area_size area all in
    filled_both (PutBehind ss area (laid ss) []) (AtEnd ss area) (StandsIn (source_of ss) area) 0 (end_behind area all) start size (omega arith)
    (pool_starts area all) (through start end size (more start (4 * length (waiting area all))) (up_to_size area all)) (stands_split ss area)
    (lines_fill ss sound area [] (laid ss) refl [])
    (filled_by (AtEnd ss area) (AtEnd ss area) start end size (up_to_size area all) (λ p h. h) (words_fill (source_of ss) area start (waiting area all)))

pub things_stand_apart : (ss : List Statement) → IsSound ss
    → (area : ℕ) (p q : Piece) → StandsIn (source_of ss) area p → StandsIn (source_of ss) area q → (p ≡ q) ⊎ StandApart p q
things_stand_apart ss sound area = (area_fill ss sound area).apart

pub things_lie_in_areas : (ss : List Statement) → IsSound ss
    → (area : ℕ) (p : Piece) → StandsIn (source_of ss) area p → p.0 + length (unit_bytes p.1) ≤ area_size area (pieces_of (laid ss))
things_lie_in_areas ss sound area p h = ((area_fill ss sound area).within p h).1

-- ---- around a line

-- what lines put is put by the first of them, or lies behind these
put_or_behind : (ss : List Statement) → IsSound ss → (area : ℕ) (later after lines : List LaidLine) → laid ss ≡ later ++ (after ++ lines)
    → (rest : List LaidLine) (p : Piece)
    → PutBehind ss area (after ++ lines) rest p → PutBehind ss area lines (in_order after rest) p ⊎ (end_behind area (pieces_of lines) ≤ p.0)
put_or_behind ss sound area later [] lines e rest p h = inl h
put_or_behind ss sound area later (x ∷ after) lines e rest p h =
    elim (put_split ss area x (after ++ lines) rest p h) [
      | inl k ↦ put_or_behind ss sound area (later ++ x ∷ []) after lines (e ∙ sym (append_assoc later (x ∷ []) (after ++ lines))) (x ∷ rest) p k
      | inr k ↦ behind (owned area x.area k.0) k.1
    ]
  where
    behind : x.area ≡ Some area → PutBy ss area x (after ++ lines) rest p
        → PutBehind ss area lines (in_order after (x ∷ rest)) p ⊎ (end_behind area (pieces_of lines) ≤ p.0)
    behind own k =
        let low = line_starts ss sound area later (after ++ lines) x e own in
        let rises = pieces_rise area after lines in
        let there = ((line_fill ss sound area later (after ++ lines) x e own rest).within p k).0 in inr (omega arith)

-- before a line, or behind it
abbrev pub IsAround : LaidLine → Piece → Type 0
IsAround l p = (p.0 + length (unit_bytes p.1) ≤ l.offset) ⊎ (l.offset + l.size ≤ p.0)

-- where a line is neither an instruction nor data nor LTORG nothing stands
pub bare_line : (ss : List Statement) → IsSound ss → (area : ℕ) (after before : List LaidLine) (l : LaidLine) → laid ss ≡ after ++ l ∷ before
    → l.area ≡ Some area
    → is_filled l.statement.what ≡ false → (l.statement.what ≡ what.Directive line.Ltorg → ⊥) → (p : Piece) → StandsIn (source_of ss) area p → IsAround l p
bare_line ss sound area after before l e here bare no_pool p h =
    elim (stands_split ss area p h) [
      | inl k ↦
          elim (put_or_behind ss sound area [] after (l ∷ before) e [] p (subst (λ z. PutBehind ss area z [] p) e k)) [
            | inl j ↦ elim (put_split ss area l before (in_order after []) p j) [ inl i ↦ inl (earlier i) | inr i ↦ absurd (nothing i.1) ]
            | inr j ↦ inr (subst (λ n. n ≤ p.0) (sym end) j)
          ]
      | inr k ↦ inr (later k)
    ]
  where
    end : l.offset + l.size ≡ end_behind area (pieces_of (l ∷ before))
    end = line_ends ss sound area after before l e here

    earlier : PutBehind ss area before (l ∷ in_order after []) p → p.0 + length (unit_bytes p.1) ≤ l.offset
    earlier k =
        let below = ((lines_fill ss sound area (after ++ l ∷ []) before (e ∙ sym (append_assoc after (l ∷ []) before)) (l ∷ in_order after [])).within p k).1 in
        through (p.0 + length (unit_bytes p.1)) (end_behind area (pieces_of before)) l.offset below (line_starts ss sound area after before l e here)

    no_words : (b : Bool) → is_pool_of area (piece_of l) ≡ b → IsAmong p (words_of (source_of ss) area (cond b (pool_behind area (pieces_of before)) [])) → ⊥
    no_words true x k = no_pool (pool_line ss sound area after before l e x).1
    no_words false x k = k

    nothing : PutBy ss area l before (in_order after []) p → ⊥
    nothing (inl k) = no_units ss before (in_order after []) l p bare k
    nothing (inr k) = no_words (is_pool_of area (piece_of l)) refl k

    later : AtEnd ss area p → l.offset + l.size ≤ p.0
    later k =
        let all = pieces_of (laid ss) in
        let is = end in
        let rises = subst (λ z. end_behind area (pieces_of (l ∷ before)) ≤ end_behind area (pieces_of z)) (sym e) (pieces_rise area after (l ∷ before)) in
        let low = pool_starts area all in
        let there = ((words_fill (source_of ss) area (start_in area all Pool) (waiting area all)).within p k).0 in omega arith
