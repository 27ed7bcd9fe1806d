-- The entries of register lists, one after another.
use Rattle.std.proofs.Common.{◌≡◌, ℕ, List, [], ◌∷◌, ◌++◌, refl, sym, ◌∙◌, ap, append_assoc, Some, None}
use Rattle.std.specs.Prelude.{Result, Ok, Err}
use Rattle.sdt_fault.specs.declared.kinds.LineKind.{LineKind}
use Rattle.asm_model.specs.declared.tokens.Token.{Token}
use Rattle.asm_model.specs.declared.operands.ListItem.{ListItem}
use Rattle.asm_model.specs.Operands.{operands_at}
use Rattle.asm_model.specs.Readings.{on_both}
use Rattle.asm_expr.specs.Steps.{CutsOperands}
use Rattle.asm_arm.specs.Lists.{item, items}
use Rattle.asm_model.proofs.KindLemmas.{both_assoc}

nothing_behind : (s : Result (List ListItem) LineKind) (e : Result ListItem LineKind)
    → on_both (λ es fs. es ++ fs) s (on_both (λ x xs. x ∷ xs) e (Ok [])) ≡ on_both (λ es x. es ++ x ∷ []) s e
nothing_behind (Ok es) (Ok e) = refl
nothing_behind (Ok es) (Err k) = refl
nothing_behind (Err k) (Ok e) = refl
nothing_behind (Err k) (Err j) = refl

one_between : (s : Result (List ListItem) LineKind) (e : Result ListItem LineKind) (b : Result (List ListItem) LineKind)
    → on_both (λ es fs. es ++ fs) s (on_both (λ x xs. x ∷ xs) e b) ≡ on_both (λ es fs. es ++ fs) (on_both (λ es x. es ++ x ∷ []) s e) b
one_between s e b =
    both_assoc s e b (λ es x. es ++ x ∷ []) (λ es fs. es ++ fs) (λ x xs. x ∷ xs) (λ es fs. es ++ fs) (λ es x fs. sym (append_assoc es (x ∷ []) fs))

pub entries_step : (text : List ℕ) (all : Result (List ListItem) LineKind) (left o behind : List Token) (s n : Result (List ListItem) LineKind)
    (e : Result ListItem LineKind)
    → CutsOperands text left o (Some behind) → e ≡ item text o → n ≡ on_both (λ es x. es ++ x ∷ []) s e
    → on_both (λ es fs. es ++ fs) s (items text (operands_at text 0 left)) ≡ all
    → on_both (λ es fs. es ++ fs) n (items text (operands_at text 0 behind)) ≡ all
entries_step text all left o behind s n e cut read more inv =
    ap (λ x. on_both (λ es fs. es ++ fs) x (items text (operands_at text 0 behind))) more
    ∙ sym (one_between s e (items text (operands_at text 0 behind)))
    ∙ ap (λ x. on_both (λ es fs. es ++ fs) s (on_both (λ y ys. y ∷ ys) x (items text (operands_at text 0 behind)))) read
    ∙ ap (λ x. on_both (λ es fs. es ++ fs) s (items text x)) (sym cut.0) ∙ inv

pub entries_end : (text : List ℕ) (all : Result (List ListItem) LineKind) (left o : List Token) (s n : Result (List ListItem) LineKind)
    (e : Result ListItem LineKind)
    → CutsOperands text left o None → e ≡ item text o → n ≡ on_both (λ es x. es ++ x ∷ []) s e
    → on_both (λ es fs. es ++ fs) s (items text (operands_at text 0 left)) ≡ all → n ≡ all
entries_end text all left o s n e cut read more inv =
    more ∙ sym (nothing_behind s e)
    ∙ ap (λ x. on_both (λ es fs. es ++ fs) s (on_both (λ y ys. y ∷ ys) x (Ok []))) read
    ∙ ap (λ x. on_both (λ es fs. es ++ fs) s (items text x)) (sym cut) ∙ inv
