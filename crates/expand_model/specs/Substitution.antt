-- Substitution: `$name` outside bars and comments is replaced by a parameter's text or a variable's value, a dot
-- directly behind the name is taken away, and `$$` becomes `$`; a dollar before neither stays. What is put in is not
-- read again. ARM SDT 2.50 Reference Guide, chapter on the assembler.
use Rattle.std.specs.Prelude.{ℕ, zero, suc, ◌+◌, List, [], ◌∷◌, ◌++◌, take, drop, map, nat_lt, ◌==◌, ◌&&◌, Bool, true, false, if◌then◌else◌, Option, Some, None, Result, Ok, Err}
use Rattle.std.specs.List.{prefix_len}
use Rattle.sdt_fault.specs.declared.kinds.LineKind.{LineKind}
use Rattle.sdt_fault.specs.declared.kinds.LineKind.TheVariants.{UnknownWord}
use Rattle.asm_model.specs.Forms.{is_word, is_letter}
use Rattle.asm_model.specs.Readings.{mapped}
use Rattle.expand_model.specs.declared.standing.Standing.{Standing}
use Rattle.expand_model.specs.declared.standing.Standing.TheVariants.{Open, Quoted}
use Rattle.expand_model.specs.Standing.{Byte, standing}
use Rattle.expand_model.specs.States.{State, text_named}

-- where dollars have their meaning
abbrev pub takes_dollar : Standing → Bool
takes_dollar Open = true
takes_dollar Quoted = true
takes_dollar _ = false

-- how many bytes a name at the front has; 0 where there is none
abbrev pub name_width : List ℕ → ℕ
name_width [] = 0
name_width (c ∷ cs) = if is_letter c then prefix_len is_word (c ∷ cs) else 0

abbrev pub begins_with : ℕ → List ℕ → Bool
begins_with c [] = false
begins_with c (d ∷ ds) = d == c

-- a name of n bytes, and the dot behind it
abbrev pub taken_width : ℕ → List ℕ → ℕ
taken_width n cs = if begins_with 46 (drop n cs) then n + 1 else n

-- what a dollar before these bytes becomes, and how many of them it takes
abbrev pub dollar : (List ℕ → Option (List ℕ)) → List ℕ → Option (List ℕ) × ℕ
dollar texts cs =
    if begins_with 36 cs then (Some (36 ∷ []), 1)
    else if nat_lt 0 (name_width cs) then (texts (take (name_width cs) cs), taken_width (name_width cs) cs)
    else (Some (36 ∷ []), 0)

-- a text before the others
abbrev pub put : Option (List ℕ) → Result (List ℕ) LineKind → Result (List ℕ) LineKind
put None rest = Err UnknownWord
put (Some text) rest = mapped (λ r. text ++ r) rest

abbrev pub plain : List Byte → List ℕ
plain bs = map (λ b. b.0) bs

-- bytes of which the first n are taken away
abbrev pub substituted_from : (List ℕ → Option (List ℕ)) → ℕ → List Byte → Result (List ℕ) LineKind
substituted_from texts n [] = Ok []
substituted_from texts (suc n) (b ∷ bs) = substituted_from texts n bs
substituted_from texts zero (b ∷ bs) =
    if b.0 == 36 && takes_dollar b.1 then put (dollar texts (plain bs)).0 (substituted_from texts (dollar texts (plain bs)).1 bs)
    else put (Some (b.0 ∷ [])) (substituted_from texts 0 bs)

-- a line's text after substitution, or UnknownWord where nothing has one of its names
unfoldable pub substituted : State → List ℕ → Result (List ℕ) LineKind
substituted s text = substituted_from (text_named s) 0 (standing text)
