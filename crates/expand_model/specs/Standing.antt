-- Where each byte of a line stands: open, in quotes, between bars, or in the comment, which `;` begins outside quotes
-- and bars. ARM SDT 2.50 Reference Guide, chapter on the assembler. This project's: quotes that nothing closes reach to
-- the end of the line, and a bar that no name and second bar follow is open.
use Rattle.std.specs.Prelude.{ℕ, zero, suc, ◌+◌, ◌-◌, List, [], ◌∷◌, length, drop, nat_lt, ◌==◌, ◌&&◌, not, Bool, true, false, if◌then◌else◌}
use Rattle.std.specs.List.{filter, prefix_len}
use Rattle.expand_model.specs.declared.standing.Standing.{Standing}
use Rattle.expand_model.specs.declared.standing.Standing.TheVariants.{Open, Quoted, Barred, Comment}
use Rattle.asm_model.specs.Forms.{is_between_bars}

-- a byte of a line, and where it stands
abbrev pub Byte : Type 0
Byte = ℕ × Standing

abbrev pub begins_bar : List ℕ → Bool
begins_bar [] = false
begins_bar (c ∷ cs) = c == 124

-- how many bytes a name of n bytes between bars has, where these stand behind the first bar; 0 where none closes it
abbrev pub closed_width : ℕ → List ℕ → ℕ
closed_width n cs = if nat_lt 0 n && begins_bar (drop n cs) then n + 2 else 0

-- how many bytes a name between bars has that begins at a byte before these; 0 where none does
abbrev pub bars_width : ℕ → List ℕ → ℕ
bars_width c cs = if c == 124 then closed_width (prefix_len is_between_bars cs) cs else 0

-- an ASCII character and a single quote
abbrev pub ends_character : List ℕ → Bool
ends_character (c ∷ d ∷ cs) = nat_lt c 128 && d == 39
ends_character _ = false

-- whether a character between single quotes begins at a byte before these
abbrev pub begins_character : ℕ → List ℕ → Bool
begins_character c cs = c == 39 && ends_character cs

-- what begins at a byte before these, and how many bytes it has
abbrev pub begun_at : ℕ → List ℕ → Standing × ℕ
begun_at c cs =
    if c == 34 then (Quoted, prefix_len (λ d. not (d == 34)) cs + 2)
    else if begins_character c cs then (Quoted, 3)
    else if nat_lt 0 (bars_width c cs) then (Barred, bars_width c cs)
    else if c == 59 then (Comment, length cs + 1)
    else (Open, 1)

-- bytes of which the first n stand there
abbrev pub standing_from : Standing → ℕ → List ℕ → List Byte
standing_from s n [] = []
standing_from s zero (c ∷ cs) = (c, (begun_at c cs).0) ∷ standing_from (begun_at c cs).0 ((begun_at c cs).1 - 1) cs
standing_from s (suc n) (c ∷ cs) = (c, s) ∷ standing_from s n cs

unfoldable pub standing : List ℕ → List Byte
standing text = standing_from Open 0 text

abbrev pub is_in_comment : Standing → Bool
is_in_comment Comment = true
is_in_comment _ = false

-- the bytes before the comment
abbrev pub before_comment : List ℕ → List Byte
before_comment text = filter (λ b. not (is_in_comment b.1)) (standing text)
