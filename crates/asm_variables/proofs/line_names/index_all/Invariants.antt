use Rattle.std.proofs.Common.{◌≡◌, ◌||◌, ℕ, List, length}
use Rattle.std.specs.List.{list_any}
use Rattle.asm_model.specs.Forms.{same}
use Rattle.asm_variables.specs.Maps.{has_name}
use Rattle.asm_variables.proofs.line_names.index_all.Given as goal

abbrev pub invariant-names : goal.invariant-names
invariant-names l =
    (q : List ℕ)
    → (list_any (λ n. same n q) l.waiting.items || has_name l.index q)
    ≡ (list_any (λ n. same n q) l.fn.waiting.items || has_name l.fn.index q)

abbrev pub decreases-names : goal.decreases-names
decreases-names l = length l.waiting.items
