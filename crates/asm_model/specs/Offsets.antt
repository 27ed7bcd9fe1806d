-- Where statements stand in their areas. A statement starts at the end of the statement before it in the same area,
-- raised to its alignment; an area that is named again goes on. A pool stands at each LTORG and at the area's end,
-- aligned to 4 where it isn't empty, with a word for each distinct literal since the pool before, in order of first use.
-- SDT 2.50 Reference Guide, chapter on the assembler. Statements before another are listed with the nearest first.
use Rattle.std.specs.Prelude.{ℕ, ◌+◌, ◌-◌, ◌*◌, ◌%◌, ◌==◌, ◌&&◌, Bool, true, false, if◌then◌else◌}
use Rattle.std.specs.Prelude.{List, [], ◌∷◌, ◌++◌, length, Option, Some, None}
use Rattle.std.specs.List.{list_any}
use Rattle.asm_model.specs.declared.values.Value.{Value}
use Rattle.asm_model.specs.declared.values.Value.TheVariants.{Number, Place}
use Rattle.asm_model.specs.Forms.{same}
use Rattle.asm_model.specs.Extents.{Extent, Block, Padding, Loading, Pool, pool_alignment}

-- a statement: its area, none before the first, and what it takes up there
pub record Piece : Type 0 where
  pub area : Option ℕ
  pub extent : Extent

abbrev pub is_of : ℕ → Option ℕ → Bool
is_of area None = false
is_of area (Some a) = a == area

-- the bytes from an offset up to the next that is a multiple plus a number
abbrev pub lacking : ℕ → ℕ → ℕ → ℕ
lacking at multiple n = (multiple + n % multiple - at % multiple) % multiple

-- an offset raised to an alignment
abbrev pub raised : ℕ → ℕ → ℕ
raised at alignment = at + lacking at alignment 0

-- ---- literals

-- equal numbers, or the same symbol and number
abbrev pub same_literal : Value → Value → Bool
same_literal (Number m) (Number n) = m == n
same_literal (Place s p) (Place t q) = same s t && p == q
same_literal _ _ = false

abbrev pub noted : Value → List Value → List Value
noted v literals = if list_any (same_literal v) literals then literals else literals ++ v ∷ []

abbrev pub waiting_behind : Extent → List Value → List Value
waiting_behind (Loading n v) literals = noted v literals
waiting_behind Pool literals = []
waiting_behind _ literals = literals

-- the literals of an area that wait for a pool behind these statements
abbrev pub waiting : ℕ → List Piece → List Value
waiting area [] = []
waiting area (s ∷ before) =
    if is_of area s.area then waiting_behind s.extent (waiting area before) else waiting area before

-- ---- offsets

-- the alignment of a statement, where these literals wait
abbrev pub alignment_of : List Value → Extent → ℕ
alignment_of literals (Block alignment n) = alignment
alignment_of literals (Padding multiple n) = 1
alignment_of literals (Loading n v) = n
alignment_of literals Pool = pool_alignment literals

-- the size of a statement that starts at the offset
abbrev pub size_of : List Value → ℕ → Extent → ℕ
size_of literals at (Block alignment n) = n
size_of literals at (Padding multiple n) = lacking at multiple n
size_of literals at (Loading n v) = n
size_of literals at Pool = 4 * length literals

-- where a statement starts and ends behind an end
abbrev pub start_from : ℕ → List Value → Extent → ℕ
start_from at literals e = raised at (alignment_of literals e)

abbrev pub end_at : ℕ → List Value → Extent → ℕ
end_at start literals e = start + size_of literals start e

abbrev pub end_from : ℕ → List Value → Extent → ℕ
end_from at literals e = end_at (start_from at literals e) literals e

-- the end of an area's statements among these
abbrev pub end_behind : ℕ → List Piece → ℕ
end_behind area [] = 0
end_behind area (s ∷ before) =
    if is_of area s.area then end_from (end_behind area before) (waiting area before) s.extent else end_behind area before

-- where a statement of the area starts behind these
abbrev pub start_in : ℕ → List Piece → Extent → ℕ
start_in area before e = start_from (end_behind area before) (waiting area before) e

-- a statement's offset behind these; 0 before the first area
abbrev pub offset_of : Option ℕ → List Piece → Extent → ℕ
offset_of None before e = 0
offset_of (Some area) before e = start_in area before e

-- a statement's size behind these
abbrev pub size_behind : Option ℕ → List Piece → Extent → ℕ
size_behind None before e = 0
size_behind (Some area) before e = size_of (waiting area before) (start_in area before e) e

-- an area's size, with the pool at its end, padded to 4
abbrev pub area_size : ℕ → List Piece → ℕ
area_size area all = raised (end_from (end_behind area all) (waiting area all) Pool) 4

-- ---- pools

-- literals with the offsets of their words, one behind the other
abbrev pub words_from : ℕ → List Value → List (Value × ℕ)
words_from at [] = []
words_from at (v ∷ vs) = (v, at) ∷ words_from (at + 4) vs

-- the pool of the area's literals that wait behind these statements
abbrev pub pool_behind : ℕ → List Piece → List (Value × ℕ)
pool_behind area before = words_from (start_in area before Pool) (waiting area before)

abbrev pub is_pool : Extent → Bool
is_pool Pool = true
is_pool _ = false

-- whether a statement is a pool of the area
abbrev pub is_pool_of : ℕ → Piece → Bool
is_pool_of area s = is_of area s.area && is_pool s.extent

-- the words of the area's pools among these statements
abbrev pub pooled : ℕ → List Piece → List (Value × ℕ)
pooled area [] = []
pooled area (s ∷ before) = if is_pool_of area s then pooled area before ++ pool_behind area before else pooled area before

-- all, with those of the pool at the area's end
abbrev pub all_pooled : ℕ → List Piece → List (Value × ℕ)
all_pooled area all = pooled area all ++ pool_behind area all

-- ---- the word of a literal

-- the place of a literal among those that wait
abbrev pub place_among : Value → List Value → ℕ
place_among v [] = 0
place_among v (w ∷ ws) = if same_literal v w then 0 else place_among v ws + 1

-- the word of a literal in the pool behind these statements
abbrev pub word_behind : ℕ → List Piece → Value → ℕ
word_behind area before v = start_in area before Pool + 4 * place_among v (waiting area before)

-- the offset of a literal's word: in the next pool of the area, among these statements, or at the area's end
abbrev pub literal_word : ℕ → List Piece → List Piece → Value → ℕ
literal_word area before [] v = word_behind area before v
literal_word area before (s ∷ rest) v =
    if is_pool_of area s then word_behind area before v else literal_word area (s ∷ before) rest v
