-- The words of a generated source's two areas (ARM Architecture Reference Manual, data-processing instructions and SWI).
use Rattle.std.specs.Prelude.{ℕ, ◌+◌, ◌%◌, List, [], ◌∷◌, ◌++◌, map}
use Rattle.std.specs.List.{range_with_len}

-- ADD r4,r4,#b, where b is k modulo 256
abbrev pub step_word : ℕ → ℕ
step_word k = 0xE2844000 + k % 256

-- MOV r4,#0; the steps; MOV r0,r4; SWI 0x11
abbrev pub code_words : ℕ → List ℕ
code_words n = 0xE3A04000 ∷ (map step_word (range_with_len 0 n) ++ (0xE1A00004 ∷ 0xEF000011 ∷ []))

abbrev pub data_words : ℕ → List ℕ
data_words n = range_with_len 0 n
