-- The image that a text of records tells: each line that isn't blank says an item, the items stand in order, and the image is
-- what they tell. This project's.
use Rattle.std.specs.Prelude.{◌≡◌, ◌≢◌, ℕ, ◌+◌, ◌%◌, ◌^◌, ◌≤◌, Bool, true, false, not, nat_lt, List, [], ◌∷◌, length, map, filter, Result, Ok}
use Rattle.std.specs.List.{AllByRecursion}
use Rattle.std.specs.Str.Lines.{lines}
use Rattle.sdt_fault.specs.declared.kinds.RecordKind.{RecordKind}
use Rattle.hex_image.specs.declared.records.Burn.{Burn}
use Rattle.hex_image.specs.declared.records.Form.{Form}
use Rattle.hex_image.specs.declared.records.Form.TheVariants.{Ihex, Srec}
use Rattle.hex_image.specs.declared.records.Item.{Item}
use Rattle.hex_image.specs.declared.records.Item.TheVariants.{Data, Base, Start, End, EndAt, Nothing}
use Rattle.hex_image.specs.declared.records.Piece.{Piece}
use Rattle.hex_image.specs.Images.{EachApart, end_of, piece}
use Rattle.hex_image.specs.Reading.{is_blank, said}

-- ---- what items tell

-- the bytes of each data record, above the base that is told before it, from a base on
abbrev pub placed : ℕ → List Item → List Piece
placed base [] = []
placed base (Data address bytes ∷ is) = piece (base + address) bytes ∷ placed base is
placed base (Base b ∷ is) = placed b is
placed base (Start a ∷ is) = placed base is
placed base (End ∷ is) = placed base is
placed base (EndAt a ∷ is) = placed base is
placed base (Nothing ∷ is) = placed base is

abbrev pub has_bytes : Piece → Bool
has_bytes p = nat_lt 0 (length p.bytes)

-- the last start that is told, or this one
abbrev pub started : ℕ → List Item → ℕ
started start [] = start
started start (Data address bytes ∷ is) = started start is
started start (Base b ∷ is) = started start is
started start (Start a ∷ is) = started a is
started start (End ∷ is) = started start is
started start (EndAt a ∷ is) = started a is
started start (Nothing ∷ is) = started start is

-- ---- their order

abbrev pub is_end : Item → Bool
is_end End = true
is_end (EndAt a) = true
is_end other = false

-- the last is the end, and no other is
abbrev pub EndsLast : List Item → Type 0
EndsLast [] = ⊥
EndsLast (i ∷ []) = is_end i ≡ true
EndsLast (i ∷ j ∷ is) = (is_end i ≡ false) × EndsLast (j ∷ is)

-- bits 1 and 0 of a start aren't 10
abbrev pub SaysState : Item → Type 0
SaysState (Start a) = a % 4 ≢ 2
SaysState (EndAt a) = a % 4 ≢ 2
SaysState other = Unit {0}

-- ---- texts

-- The lines that aren't blank say items, of which the last is the one end; starts say a state; data ends at 2^32 or below; no
-- address is told twice; and the image has a piece for each data record with bytes, and the last start, or 0.
pub record Reads (form : Form) (text : List ℕ) (burn : Burn) : Type 0 where
  pub items : List Item
  pub spelled : map (said form) (filter (λ l. not (is_blank l)) (lines text)) ≡ map {B = Result Item RecordKind} (λ i. Ok i) items
  pub ends : EndsLast items
  pub states : AllByRecursion SaysState items
  pub in_space : AllByRecursion (λ p. end_of p ≤ 2 ^ 32) (placed 0 items)
  pub once : EachApart [] (filter has_bytes (placed 0 items))
  pub pieces : burn.pieces ≡ filter has_bytes (placed 0 items)
  pub start : burn.start ≡ started 0 items

abbrev pub ReadsIhex : List ℕ → Burn → Type 0
ReadsIhex text burn = Reads Ihex text burn

abbrev pub ReadsSrec : List ℕ → Burn → Type 0
ReadsSrec text burn = Reads Srec text burn
