-- Binary data as packets spell it. gdb's manual, "Remote Serial Protocol", Overview: behind `}` stands a byte with its bit 5
-- changed, which it must for `#`, `$`, `}` and, in what a server says, `*`.
use Rattle.std.specs.Prelude.{◌≡◌, ◌≢◌, ℕ, ◌||◌, ◌==◌, Bool, false, bit_xor, if◌then◌else◌, List, [], ◌∷◌}
use Rattle.gdb_packets.specs.Fields.{unescaped}
use Rattle.gdb_packets.specs.Heard.{IsContent}

-- a text spells bytes
pub data Spells : List ℕ → List ℕ → Type 0 where
  none : Spells [] []
  plain : {text bytes : List ℕ} (b : ℕ) → b ≢ 125 → Spells text bytes → Spells (b ∷ text) (b ∷ bytes)
  changed : {text bytes : List ℕ} (b : ℕ) → Spells text bytes → Spells (125 ∷ b ∷ text) (bit_xor b 32 ∷ bytes)

-- bytes as they are spelled where only what must be is changed
abbrev pub must : ℕ → Bool
must b = b == 35 || b == 36 || b == 42 || b == 125

abbrev pub escaped : List ℕ → List ℕ
escaped [] = []
escaped (b ∷ rest) = if must b then 125 ∷ bit_xor b 32 ∷ escaped rest else b ∷ escaped rest

-- what is spelled is read, and each list of bytes has a spelling, which a packet can hold
abbrev pub ReadsEscapes : Type 0
ReadsEscapes = ((text bytes : List ℕ) → Spells text bytes → unescaped false text ≡ bytes)
    × ((bytes : List ℕ) → Spells (escaped bytes) bytes × IsContent (escaped bytes))
