-- The names of registers, read in any case. ARM SDT 2.50 Reference Guide, chapter on the assembler.
use Rattle.std.specs.Prelude.{ℕ, List, [], ◌∷◌, codes, Option}
use Rattle.asm_model.specs.Directives.{row_of, or_else}

unfoldable pub numbered_register : List ℕ → Option ℕ
numbered_register word = row_of word (
    (codes "r0", 0) ∷ (codes "r1", 1) ∷ (codes "r2", 2) ∷ (codes "r3", 3) ∷ (codes "r4", 4) ∷ (codes "r5", 5)
    ∷ (codes "r6", 6) ∷ (codes "r7", 7) ∷ (codes "r8", 8) ∷ (codes "r9", 9) ∷ (codes "r10", 10) ∷ (codes "r11", 11)
    ∷ (codes "r12", 12) ∷ (codes "r13", 13) ∷ (codes "r14", 14) ∷ (codes "r15", 15) ∷ [])

unfoldable pub special_register : List ℕ → Option ℕ
special_register word = row_of word (
    (codes "sb", 9) ∷ (codes "sl", 10) ∷ (codes "fp", 11) ∷ (codes "ip", 12) ∷ (codes "sp", 13) ∷ (codes "lr", 14)
    ∷ (codes "pc", 15) ∷ [])

-- arguments and variables
unfoldable pub call_register : List ℕ → Option ℕ
call_register word = row_of word (
    (codes "a1", 0) ∷ (codes "a2", 1) ∷ (codes "a3", 2) ∷ (codes "a4", 3) ∷ (codes "v1", 4) ∷ (codes "v2", 5)
    ∷ (codes "v3", 6) ∷ (codes "v4", 7) ∷ (codes "v5", 8) ∷ (codes "v6", 9) ∷ (codes "v7", 10) ∷ (codes "v8", 11)
    ∷ [])

-- the register that a word names, 0 to 15
unfoldable pub register_named : List ℕ → Option ℕ
register_named word = or_else (numbered_register word) (or_else (special_register word) (call_register word))
