-- Strings.
use Rattle.std.proofs.Common.{◌≡◌, ℕ, List, [], ◌∷◌, refl, ◌≢◌}
use Rattle.std.proofs.lemmas.Bool.{ne_eqb}
use Rattle.asm_lines.specs.Lengths.{string_len, added}

-- a byte that is no quote
pub string_len-other : (c : ℕ) (cs : List ℕ) → c ≢ 34 → string_len (c ∷ cs) ≡ added 1 (string_len cs)
string_len-other c [] h = rw (ne_eqb c 34 h) refl
string_len-other c (d ∷ ds) h = rw (ne_eqb c 34 h) refl
