-- Registers by the first letters of their names.
use Rattle.std.proofs.Common.{◌≡◌, ℕ, List, [], ◌∷◌, ◌++◌, length, get_or, false, None, refl, sym, ◌∙◌, ap, codes, arith, ◌==◌}
use Rattle.std.specs.Char.{to_ascii_lowercase}
use Rattle.asm_model.specs.Directives.{row_of, or_else}
use Rattle.asm_model.specs.Registers.{register_named, numbered_register, special_register, call_register}
use Rattle.asm_expr.specs.Beginnings.{BeginsWith}
use Rattle.asm_expr.proofs.RowLemmas.{lowered_row, at_letter, few, begun_by, kept, appended}

abbrev numbered_rows : List (List ℕ × ℕ)
numbered_rows = (codes "r0", 0) ∷ (codes "r1", 1) ∷ (codes "r2", 2) ∷ (codes "r3", 3) ∷ (codes "r4", 4) ∷ (codes "r5", 5)
    ∷ (codes "r6", 6) ∷ (codes "r7", 7) ∷ (codes "r8", 8) ∷ (codes "r9", 9) ∷ (codes "r10", 10) ∷ (codes "r11", 11)
    ∷ (codes "r12", 12) ∷ (codes "r13", 13) ∷ (codes "r14", 14) ∷ (codes "r15", 15) ∷ []

abbrev special_rows : List (List ℕ × ℕ)
special_rows = (codes "sb", 9) ∷ (codes "sl", 10) ∷ (codes "fp", 11) ∷ (codes "ip", 12) ∷ (codes "sp", 13) ∷ (codes "lr", 14)
    ∷ (codes "pc", 15) ∷ []

abbrev call_rows : List (List ℕ × ℕ)
call_rows = (codes "a1", 0) ∷ (codes "a2", 1) ∷ (codes "a3", 2) ∷ (codes "a4", 3) ∷ (codes "v1", 4) ∷ (codes "v2", 5)
    ∷ (codes "v3", 6) ∷ (codes "v4", 7) ∷ (codes "v5", 8) ∷ (codes "v6", 9) ∷ (codes "v7", 10) ∷ (codes "v8", 11)
    ∷ []

abbrev pub all_rows : List (List ℕ × ℕ)
all_rows = numbered_rows ++ (special_rows ++ call_rows)

all_are : (word : List ℕ) → row_of word all_rows ≡ register_named word
unfolding register_named numbered_register special_register call_register
all_are word =
    appended word numbered_rows (special_rows ++ call_rows) ∙ ap (or_else (row_of word numbered_rows)) (appended word special_rows call_rows)

-- the rows for words with this first letter
pub named : (letter k : ℕ) (word : List ℕ) → letter ≡ k → BeginsWith letter word → row_of word (begun_by k all_rows) ≡ register_named word
named letter k word e h = few letter k word (begun_by k all_rows) all_rows e h (λ s. kept k s all_rows) ∙ all_are word

-- a letter that begins no name
pub not_named : (letter : ℕ) (word : List ℕ) → BeginsWith letter word
    → (letter == 97) ≡ false → (letter == 102) ≡ false → (letter == 105) ≡ false → (letter == 108) ≡ false
    → (letter == 112) ≡ false → (letter == 114) ≡ false → (letter == 115) ≡ false → (letter == 118) ≡ false
    → None ≡ register_named word
not_named letter word h a f i l p r s v =
    few letter letter word [] all_rows refl h (λ z. rw (a, f, i, l, p, r, s, v) refl) ∙ all_are word

-- an R and one byte more
pub digit_named : (word : List ℕ) (k z : ℕ) → length word ≡ 2 → get_or word 1 z ≡ k → BeginsWith 114 word
    → lowered_row (114 ∷ to_ascii_lowercase k ∷ []) all_rows ≡ register_named word
digit_named [] k z n e h = absurd h
digit_named (c ∷ []) k z n e h = absurd (omega arith)
digit_named (c ∷ d ∷ []) k z n e h =
    ap (λ x. lowered_row (114 ∷ to_ascii_lowercase x ∷ []) all_rows) (sym e) ∙ sym (at_letter 114 114 (c ∷ d ∷ []) all_rows refl h) ∙ all_are (c ∷ d ∷ [])
digit_named (c ∷ d ∷ b ∷ cs) k z n e h = absurd (omega arith)

pub empty_named : (word : List ℕ) → length word ≡ 0 → register_named word ≡ None
empty_named [] h = sym (all_are [])
empty_named (c ∷ cs) h = absurd (omega arith)
