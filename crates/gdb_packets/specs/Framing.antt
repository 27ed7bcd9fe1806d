-- Packets among bytes: `$`, the content, `#`, and the low byte of the content's sum in two digits. gdb's manual, "Remote
-- Serial Protocol", Overview and Packet Acknowledgment.
use Rattle.std.specs.Prelude.{ℕ, ◌+◌, ◌*◌, ◌/◌, ◌%◌, ◌==◌, ◌&&◌, ◌||◌, not, nat_lt, Bool, true, false, if◌then◌else◌}
use Rattle.std.specs.Prelude.{List, [], ◌∷◌, ◌++◌, length, sum}
use Rattle.std.specs.Char.{digit_value}
use Rattle.std.specs.Fmt.{digit_glyph}
use Rattle.gdb_packets.specs.declared.framing.Heard.{Heard}
use Rattle.gdb_packets.specs.declared.framing.Heard.TheVariants.{Nothing, Accepted, Again, Interrupt, Packet, Broken, TooLong}
use Rattle.gdb_packets.specs.declared.framing.Place.{Place}
use Rattle.gdb_packets.specs.declared.framing.Place.TheVariants.{Between, Inside, First, Second}

-- where the next byte stands, and of the packet that began last its content, the sum so far, and whether bytes were left out
pub record Hearing : Type 0 where
  pub place : Place
  pub content : List ℕ
  pub sum : ℕ
  pub long : Bool

abbrev pub idle : Hearing
idle = record { place = Between; content = []; sum = 0; long = false }

abbrev pub begun : Hearing
begun = record { place = Inside; content = []; sum = 0; long = false }

-- behind one more byte of the content, of which 65,536 are kept
abbrev pub kept : Hearing → ℕ → Hearing
kept h b =
    if nat_lt (length h.content) 65536 then record h { content = h.content ++ b ∷ []; sum = (h.sum + b) % 256 }
    else record h { sum = (h.sum + b) % 256; long = true }

-- a `$` never stands in a packet, so there another begins
abbrev pub inside : Hearing → ℕ → Hearing
inside h b = if b == 36 then begun else (if b == 35 then record h { place = First } else kept h b)

abbrev pub after_at : Place → Hearing → ℕ → Hearing
after_at Between h b = if b == 36 then begun else h
after_at Inside h b = inside h b
after_at First h b = record h { place = Second b }
after_at (Second high) h b = record h { place = Between }

-- behind a byte
abbrev pub after : Hearing → ℕ → Hearing
after h b = after_at h.place h b

-- two digits, in either case, that write a sum
abbrev pub writes : ℕ → ℕ → ℕ → Bool
writes high low sum =
    nat_lt (digit_value high) 16 && nat_lt (digit_value low) 16 && (16 * digit_value high + digit_value low == sum)

abbrev pub between : ℕ → Heard
between b = if b == 43 then Accepted else (if b == 45 then Again else (if b == 3 then Interrupt else Nothing))

abbrev pub ended : Bool → Bool → Heard
ended right long = if not right then Broken else (if long then TooLong else Packet)

abbrev pub told_at : Place → Bool → Hearing → ℕ → Heard
told_at Between checked h b = between b
told_at Inside checked h b = Nothing
told_at First checked h b = Nothing
told_at (Second high) checked h b = ended (not checked || writes high b h.sum) h.long

-- what a byte comes to
abbrev pub told : Bool → Hearing → ℕ → Heard
told checked h b = told_at h.place checked h b

-- the low byte of a content's sum in two digits, and a packet with its content
abbrev pub sum_digits : List ℕ → List ℕ
sum_digits content = digit_glyph false (sum content % 256 / 16) ∷ digit_glyph false (sum content % 16) ∷ []

abbrev pub framed : List ℕ → List ℕ
framed content = 36 ∷ content ++ 35 ∷ sum_digits content
