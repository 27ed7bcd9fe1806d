-- Words that are equal, in any case.
use Rattle.std.proofs.Common.{◌≡◌, ℕ, List, [], ◌∷◌, Bool, true, false, refl, sym, map, ◌==◌, eq-eqb}
use Rattle.std.specs.Prelude.{IsTrue, ◌↔◌}
use Rattle.std.specs.Char.{to_ascii_lowercase}
use Rattle.std.proofs.lemmas.Bool.{false_from_ne_true, eqb-true, and_from, and_parts}
use Rattle.asm_model.specs.Forms.{same}
use Rattle.asm_model.specs.Tokens.{is_called}

pub same_refl : (s : List ℕ) → same s s ≡ true
same_refl [] = refl
same_refl (c ∷ cs) = and_from (c == c) (same cs cs) (eq-eqb c c refl) (same_refl cs)

pub same_true : (s t : List ℕ) → same s t ≡ true → s ≡ t
same_true [] [] e = refl
same_true [] (d ∷ ds) e = absurd (cc)
same_true (c ∷ cs) [] e = absurd (cc)
same_true (c ∷ cs) (d ∷ ds) e =
    let h = and_parts (c == d) (same cs ds) e in
    let x = eqb-true c d h.0 in
    let y = same_true cs ds h.1 in
    cc

pub called : (name word : List ℕ) (b : Bool) → IsTrue b ↔ (map to_ascii_lowercase word ≡ map to_ascii_lowercase name) → b ≡ is_called name word
called name word true h = sym (rw (h.0 refl) (same_refl (map to_ascii_lowercase name)))
called name word false h =
    sym (false_from_ne_true (is_called name word) (λ e. let z = h.1 (same_true (map to_ascii_lowercase word) (map to_ascii_lowercase name) e) in absurd (cc)))
