-- The text of a generated source of n steps and n words of data, and what its program adds up. This project's.
use Rattle.std.specs.Prelude.{ℕ, zero, suc, ◌+◌, ◌%◌, List, [], ◌∷◌, ◌++◌, map, codes}
use Rattle.std.specs.Fmt.{decimal}
use Rattle.std.specs.List.{range_with_len}

-- the label of step k
abbrev pub label_of : ℕ → List ℕ
label_of k = codes "f" ++ decimal k

-- the line that adds k modulo 256 to r4, and the line of its word of data
abbrev pub step_line : ℕ → List ℕ
step_line k = label_of k ++ (codes " ADD r4,r4,#" ++ decimal (k % 256))

abbrev pub data_line : ℕ → List ℕ
data_line k = codes " DCD " ++ decimal k

-- the lines, without their ends
abbrev pub big_lines : ℕ → List (List ℕ)
big_lines n =
    codes " AREA big, CODE, READONLY" ∷ codes " ENTRY" ∷ codes " MOV r4,#0"
    ∷ (map step_line (range_with_len 0 n)
    ++ (codes " MOV r0,r4" ∷ codes " SWI 0x11" ∷ codes " AREA bigrw, DATA, READWRITE"
    ∷ (map data_line (range_with_len 0 n) ++ (codes " END" ∷ []))))

-- lines as a text: each ends with a line feed
abbrev pub spelled : List (List ℕ) → List ℕ
spelled [] = []
spelled (line ∷ lines) = line ++ (codes "\n" ++ spelled lines)

abbrev pub big_text : ℕ → List ℕ
big_text n = spelled (big_lines n)

-- the sum of k modulo 256 for each k below n
abbrev pub big_sum : ℕ → ℕ
big_sum zero = 0
big_sum (suc k) = big_sum k + k % 256
