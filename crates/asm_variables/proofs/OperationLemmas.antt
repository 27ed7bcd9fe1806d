-- Words of expansion with three letters.
use Rattle.std.proofs.Common.{◌≡◌, ℕ, ◌==◌, List, [], ◌∷◌, length, Bool, true, false, cond, refl, ◌∙◌, Some, None}
use Rattle.std.specs.Prelude.{codes}
use Rattle.std.specs.List.{filter}
use Rattle.std.proofs.lemmas.Bool.{eq-eqb}
use Rattle.asm_model.specs.Directives.{or_else, row_of}
use Rattle.asm_model.specs.Tokens.{is_called}
use Rattle.asm_expr.proofs.RowLemmas.{other_length}
use Rattle.expand_model.specs.declared.operations.Operation.{Operation}
use Rattle.expand_model.specs.declared.operations.Operation.TheVariants.{If, Else, EndIf, While, WEnd, Macro, MEnd, MExit, Get, Global, Local, Set}
use Rattle.expand_model.specs.declared.operations.Sort.TheVariants.{Arithmetic, Logical, Textual}
use Rattle.expand_model.specs.Operations.{operation_of, structure_word, variable_word}

-- a word is named by none of the rows that have other lengths
of_length : {A : Type 0} (n : ℕ) (word : List ℕ) (rows : List (List ℕ × A)) → length word ≡ n
    → row_of word rows ≡ row_of word (filter (λ row. length row.0 == n) rows)
of_length n word [] h = refl
of_length {A} n word (row ∷ rows) h = by (length row.0 == n) refl (of_length n word rows h)
  where
    kept : List (List ℕ × A)
    kept = filter (λ r. length r.0 == n) rows

    by : (b : Bool) → (length row.0 == n) ≡ b → row_of word rows ≡ row_of word kept
        → row_of word (row ∷ rows) ≡ row_of word (cond b (row ∷ kept) kept)
    by true e more = rw more refl
    by false e more = rw (other_length row.0 word (λ same. absurd (let z = eq-eqb (length row.0) n (same ∙ h) in cc))) more

-- the tables of words, as they stand in the definitions
abbrev structure_rows : List (List ℕ × Operation)
structure_rows =
    (codes "IF", If) ∷ (codes "[", If) ∷ (codes "ELSE", Else) ∷ (codes "|", Else) ∷ (codes "ENDIF", EndIf)
    ∷ (codes "]", EndIf) ∷ (codes "WHILE", While) ∷ (codes "WEND", WEnd) ∷ (codes "MACRO", Macro)
    ∷ (codes "MEND", MEnd) ∷ (codes "MEXIT", MExit) ∷ (codes "GET", Get) ∷ (codes "INCLUDE", Get) ∷ []

abbrev variable_rows : List (List ℕ × Operation)
variable_rows =
    (codes "GBLA", Global Arithmetic) ∷ (codes "GBLL", Global Logical) ∷ (codes "GBLS", Global Textual)
    ∷ (codes "LCLA", Local Arithmetic) ∷ (codes "LCLL", Local Logical) ∷ (codes "LCLS", Local Textual)
    ∷ (codes "SETA", Set Arithmetic) ∷ (codes "SETL", Set Logical) ∷ (codes "SETS", Set Textual) ∷ []

of_get : (word : List ℕ) → length word ≡ 3 → operation_of word ≡ cond (is_called (codes "GET") word) (Some Get) None
unfolding operation_of structure_word variable_word
of_get word h =
    let structure : structure_word word ≡ cond (is_called (codes "GET") word) (Some Get) None = of_length 3 word structure_rows h in
    let variable : variable_word word ≡ None = of_length 3 word variable_rows h in
    rw (structure, variable) (by (is_called (codes "GET") word))
  where
    by : (b : Bool) → or_else (cond b (Some Get) None) None ≡ cond b (Some Get) None
    by true = refl
    by false = refl

pub get_of_three : (word : List ℕ) → length word ≡ 3 → is_called (codes "GET") word ≡ true → operation_of word ≡ Some Get
get_of_three word h e = of_get word h ∙ rw e refl

pub none_of_three : (word : List ℕ) → length word ≡ 3 → is_called (codes "GET") word ≡ false → operation_of word ≡ None
none_of_three word h e = of_get word h ∙ rw e refl
