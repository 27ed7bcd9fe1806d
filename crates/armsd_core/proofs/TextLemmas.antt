-- Lines that are put together.
use Rattle.std.proofs.Common.{◌≡◌, ◌∙◌, ℕ, List, [], ◌++◌, ap, append_assoc, rules}
use Rattle.armsd_core.specs.Texts.{register_line}

behind_name : (name : List ℕ) (word : ℕ) → name ++ register_line [] word ≡ register_line name word
behind_name name word = search (rules, append_assoc)

-- the end of a register's line behind its name
pub line_behind : (first name a b c : List ℕ) (word : ℕ) → a ≡ first → b ≡ a ++ name → c ≡ b ++ register_line [] word → c ≡ first ++ register_line name word
line_behind first name a b c word e f h =
    h ∙ ap (λ (x : List ℕ). x ++ register_line [] word) f ∙ append_assoc a name (register_line [] word)
    ∙ ap (λ (x : List ℕ). a ++ x) (behind_name name word) ∙ ap (λ (x : List ℕ). x ++ register_line name word) e
