-- What a stream of bytes says: packets, each `$`, a content without `$` and `#`, `#` and two digits of the content's sum, and
-- single bytes between them. gdb's manual, "Remote Serial Protocol", Overview.
use Rattle.std.specs.Prelude.{◌≡◌, ◌≢◌, ℕ, ◌≤◌, ◌<◌, ◌%◌, ◌&&◌, ◌||◌, ◌==◌, not, Bool, true, false, List, [], ◌∷◌, ◌++◌, length, sum}
use Rattle.std.specs.List.{list_all}
use Rattle.gdb_packets.specs.declared.framing.Heard.{Heard}
use Rattle.gdb_packets.specs.declared.framing.Heard.TheVariants as heard
use Rattle.gdb_packets.specs.Framing.{Hearing, after, told, idle, framed, writes}

pub data Event : Type 0 where
  Accepted : Event
  Again : Event
  Interrupt : Event
  Packet : List ℕ → Event
  Broken : Event
  TooLong : Event

-- no `$` and no `#`
abbrev pub is_plain : ℕ → Bool
is_plain b = not (b == 36) && not (b == 35)

abbrev pub IsContent : List ℕ → Type 0
IsContent content = list_all is_plain content ≡ true

-- two digits that are right for a content; where sums aren't checked all are
abbrev pub is_right : Bool → List ℕ → ℕ → ℕ → Bool
is_right checked content high low = not checked || writes high low (sum content % 256)

pub data Stream (checked : Bool) : List ℕ → List Event → Type 0 where
  ends : Stream checked [] []
  -- ---- between packets
  accepted : {rest : List ℕ} {events : List Event} → Stream checked rest events → Stream checked (43 ∷ rest) (Accepted ∷ events)
  again : {rest : List ℕ} {events : List Event} → Stream checked rest events → Stream checked (45 ∷ rest) (Again ∷ events)
  interrupt : {rest : List ℕ} {events : List Event} → Stream checked rest events → Stream checked (3 ∷ rest) (Interrupt ∷ events)
  noise : {rest : List ℕ} {events : List Event} (b : ℕ) → b ≢ 36 → b ≢ 43 → b ≢ 45 → b ≢ 3
      → Stream checked rest events → Stream checked (b ∷ rest) events
  -- ---- packets
  packet : {events : List Event} (content rest : List ℕ) (high low : ℕ) → IsContent content → length content ≤ 65536
      → is_right checked content high low ≡ true
      → Stream checked rest events → Stream checked (36 ∷ (content ++ 35 ∷ high ∷ low ∷ rest)) (Packet content ∷ events)
  too_long : {events : List Event} (content rest : List ℕ) (high low : ℕ) → IsContent content → 65536 < length content
      → is_right checked content high low ≡ true
      → Stream checked rest events → Stream checked (36 ∷ (content ++ 35 ∷ high ∷ low ∷ rest)) (TooLong ∷ events)
  broken : {events : List Event} (content rest : List ℕ) (high low : ℕ) → IsContent content
      → is_right checked content high low ≡ false
      → Stream checked rest events → Stream checked (36 ∷ (content ++ 35 ∷ high ∷ low ∷ rest)) (Broken ∷ events)
  -- ---- a packet that another cuts off, and one that the stream cuts off
  cut_off : {events : List Event} (content rest : List ℕ) → IsContent content
      → Stream checked (36 ∷ rest) events → Stream checked (36 ∷ (content ++ 36 ∷ rest)) events
  open_content : (content : List ℕ) → IsContent content → Stream checked (36 ∷ content) []
  open_sum : (content : List ℕ) → IsContent content → Stream checked (36 ∷ (content ++ 35 ∷ [])) []
  open_digit : (content : List ℕ) (high : ℕ) → IsContent content → Stream checked (36 ∷ (content ++ 35 ∷ high ∷ [])) []

-- what `told` tells byte by byte, with the content that is held then
abbrev pub add : Heard → List ℕ → List Event → List Event
add heard.Nothing content events = events
add heard.Accepted content events = Accepted ∷ events
add heard.Again content events = Again ∷ events
add heard.Interrupt content events = Interrupt ∷ events
add heard.Packet content events = Packet content ∷ events
add heard.Broken content events = Broken ∷ events
add heard.TooLong content events = TooLong ∷ events

abbrev pub heard_from : Bool → Hearing → List ℕ → List Event
heard_from checked h [] = []
heard_from checked h (b ∷ rest) = add (told checked h b) h.content (heard_from checked (after h b) rest)

-- what is heard is what the stream says
abbrev pub HearsStream : Type 0
HearsStream =
    ((checked : Bool) (bytes : List ℕ) (events : List Event) → Stream checked bytes events → heard_from checked idle bytes ≡ events)
    × ((checked : Bool) (bytes : List ℕ) → Stream checked bytes (heard_from checked idle bytes))

-- a framed content is heard as that content
abbrev pub HearsFramed : Type 0
HearsFramed = (checked : Bool) (content rest : List ℕ) → IsContent content → length content ≤ 65536
    → heard_from checked idle (framed content ++ rest) ≡ Packet content ∷ heard_from checked idle rest
