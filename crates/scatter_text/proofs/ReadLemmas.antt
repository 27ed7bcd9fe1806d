-- Parts in their order.
use Rattle.std.proofs.Common.{◌≡◌, ◌∙◌, ℕ, List, ◌∷◌, take, drop, false, Ok, Err, ap, sym, subst}
use Rattle.scatter_text.specs.declared.reading.Reader.{Reader}
use Rattle.scatter_text.specs.declared.stops.Stop.{Stop}
use Rattle.scatter_text.specs.declared.stops.Stop.TheVariants as stop
use Rattle.scatter_text.specs.Parts.{parts, opened, part_len}
use Rattle.scatter_text.specs.Reading.{Reading, behind, step, read, refusal, stopped, Leaves, Gives}
use Rattle.scatter_text.specs.Steps.{IsBegun}
use Rattle.scatter_text.proofs.CutLemmas.{cut_from, cut_is}

-- the place of a part in a text
pub record Stands (depth at line : ℕ) (rest part after : List ℕ) (first : ℕ) : Type 0 where
  pub begun : List ℕ
  pub back : List ℕ
  pub gap : parts false depth at begun ≡ parts false depth line rest
  pub front : begun ≡ first ∷ back
  pub begins : IsBegun begun
  pub part_is : part ≡ take (part_len depth begun) begun
  pub after_is : after ≡ drop (part_len depth begun) begun

cut_front : (depth at : ℕ) (begun : List ℕ) (first : ℕ) (back : List ℕ) → begun ≡ first ∷ back → IsBegun begun → parts false depth at begun ≡ cut_from depth (opened depth first) at begun
cut_front depth at begun first back front begins =
    let P : List ℕ → Type 0 = λ xs. IsBegun xs → parts false depth at xs ≡ cut_from depth (opened depth first) at xs in
    subst P (sym front) (λ seen. cut_is back depth at first seen) begins

stands_is : {depth at line : ℕ} {rest part after : List ℕ} {first : ℕ} → Stands depth at line rest part after first → parts false depth line rest ≡ record { line = at; text = part } ∷ parts false (opened depth first) at after
stands_is {depth} {at} {line} {rest} {part} {after} {first} s =
    rw (s.part_is, s.after_is) (sym s.gap ∙ cut_front depth at s.begun first s.back s.front s.begins)

pub at_next : (end depth at line : ℕ) (rest part after : List ℕ) (first : ℕ) (s t : Reader) (whole : Reading) → Stands depth at line rest part after first → step s (record { line = at; text = part }) ≡ Ok t → read end s (parts false depth line rest) ≡ whole → read end t (parts false (opened depth first) at after) ≡ whole
at_next end depth at line rest part after first s t whole stands next so_far =
    sym (ap (behind at (λ t. read end t (parts false (opened depth first) at after))) next) ∙ sym (ap (read end s) (stands_is stands)) ∙ so_far

pub at_stop : (end depth at line : ℕ) (rest part after : List ℕ) (first : ℕ) (s t : Reader) (whole : Reading) (halt : Stop) → Stands depth at line rest part after first → Leaves {U = Unit {0}} (Err halt) t (step s (record { line = at; text = part })) → read end s (parts false depth line rest) ≡ whole → Gives (Err (stopped at halt)) (refusal whole)
at_stop end depth at line rest part after first s t whole (stop.At k) stands next so_far =
    ap refusal (sym so_far ∙ ap (read end s) (stands_is stands) ∙ ap (behind at (λ t. read end t (parts false (opened depth first) at after))) next)
at_stop end depth at line rest part after first s t whole stop.NoMemory stands next so_far = tt
