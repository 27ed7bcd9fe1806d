-- Readings of operands, one after another.
use Rattle.std.proofs.Common.{◌≡◌, ℕ, ◌<◌, ◌≤◌, ◌-◌, length, take, drop, get_or, arith, subst, List, [], ◌∷◌, ◌++◌, ◌||◌, Bool, true, false, refl, sym, ◌∙◌, ap, append_assoc, Option, Some, None}
use Rattle.std.specs.Prelude.{Result, Ok, Err}
use Rattle.std.specs.List.{list_any}
use Rattle.sdt_fault.specs.declared.kinds.LineKind.{LineKind}
use Rattle.sdt_fault.specs.declared.kinds.LineKind.TheVariants.{Syntax}
use Rattle.asm_model.specs.declared.tokens.Token.{Token}
use Rattle.asm_model.specs.declared.exprs.Expr.{Expr}
use Rattle.asm_model.specs.declared.directives.AreaAttributes.{AreaAttributes}
use Rattle.asm_model.specs.declared.directives.Attribute.{Attribute}
use Rattle.asm_model.specs.Areas.{attributes_in, attribute_in, is_bad_word, attributes_of, listed, joined, ReadsAttribute, ReadsAttributes}
use Rattle.asm_model.specs.Grammar.{ParsesTokens}
use Rattle.asm_model.specs.Operands.{operands, operands_at, lengthened}
use Rattle.asm_model.specs.Readings.{mapped, on_both}
use Rattle.asm_model.specs.Says.{Expressions, Aligned, Area, import_of, name_alone}
use Rattle.asm_model.specs.declared.directives.DirectiveLine.{DirectiveLine}
use Rattle.asm_model.specs.declared.directives.DirectiveLine.TheVariants as line
use Rattle.asm_expr.specs.AreaSteps.{ReadsBehind, operands_behind, has_bad_word_in, with_alignment}
use Rattle.asm_expr.specs.Steps.{CutsOperands}
use Rattle.asm_expr.proofs.OperandLemmas.{begins}
use Rattle.asm_model.proofs.KindLemmas.{both_assoc}
use Rattle.std.proofs.Math.Seq.{take-length}

nothing_behind : (s : Result (List Expr) LineKind) (e : Result Expr LineKind)
    → on_both (λ es fs. es ++ fs) s (on_both (λ x xs. x ∷ xs) e (Ok [])) ≡ on_both (λ es x. es ++ x ∷ []) s e
nothing_behind (Ok es) (Ok e) = refl
nothing_behind (Ok es) (Err k) = refl
nothing_behind (Err k) (Ok e) = refl
nothing_behind (Err k) (Err j) = refl

one_between : (s : Result (List Expr) LineKind) (e : Result Expr LineKind) (b : Result (List Expr) LineKind)
    → on_both (λ es fs. es ++ fs) s (on_both (λ x xs. x ∷ xs) e b) ≡ on_both (λ es fs. es ++ fs) (on_both (λ es x. es ++ x ∷ []) s e) b
one_between s e b =
    both_assoc s e b (λ es x. es ++ x ∷ []) (λ es fs. es ++ fs) (λ x xs. x ∷ xs) (λ es fs. es ++ fs) (λ es x fs. sym (append_assoc es (x ∷ []) fs))

pub expressions_step : (text : List ℕ) (all : List (List Token)) (left o behind : List Token) (s n : Result (List Expr) LineKind) (e : Result Expr LineKind)
    → CutsOperands text left o (Some behind) → ParsesTokens text o e → n ≡ on_both (λ es x. es ++ x ∷ []) s e
    → ((b : Result (List Expr) LineKind) → Expressions text (operands_at text 0 left) b → Expressions text all (on_both (λ es fs. es ++ fs) s b))
    → (b : Result (List Expr) LineKind) → Expressions text (operands_at text 0 behind) b → Expressions text all (on_both (λ es fs. es ++ fs) n b)
expressions_step text all left o behind s n e cut parsed more inv b h =
    let before : Expressions text (operands_at text 0 left) (on_both (λ x xs. x ∷ xs) e b) = rw cut.0 (e, b, parsed, h, refl) in
    let next = inv (on_both (λ x xs. x ∷ xs) e b) before in
    rw more (rw one_between at next)

pub expressions_end : (text : List ℕ) (all : List (List Token)) (left o : List Token) (s n : Result (List Expr) LineKind) (e : Result Expr LineKind)
    → CutsOperands text left o None → ParsesTokens text o e → n ≡ on_both (λ es x. es ++ x ∷ []) s e
    → ((b : Result (List Expr) LineKind) → Expressions text (operands_at text 0 left) b → Expressions text all (on_both (λ es fs. es ++ fs) s b))
    → Expressions text all n
expressions_end text all left o s n e cut parsed more inv =
    let before : Expressions text (operands_at text 0 left) (on_both (λ x xs. x ∷ xs) e (Ok [])) = rw cut (e, Ok [], parsed, refl, refl) in
    let next = inv (on_both (λ x xs. x ∷ xs) e (Ok [])) before in
    rw more (rw nothing_behind at next)

-- three operands or more
pub some_operand : (front : List Token) (os : List (List Token)) → (o : List Token) × (rest : List (List Token)) × (lengthened front os ≡ o ∷ rest)
some_operand front [] = (front, [], refl)
some_operand front (o ∷ os) = (front ++ o, os, refl)

pub past_two : (text : List ℕ) (os : List (List Token)) (o p ts : List Token) → os ≡ o ∷ p ∷ operands_at text 0 ts → Aligned text os (Err Syntax)
past_two text os o p ts e =
    let more = some_operand [] (operands_at text 0 ts) in
    rw (e, begins text 0 ts, more.2) refl

-- the numbers of alignments behind others
abbrev pub both_lists : Result (List Expr) LineKind → Result (List Expr) LineKind → Result (List Expr) LineKind
both_lists s b = on_both (λ es fs. es ++ fs) s b

last_alignment : (s : Result (List Expr) LineKind) (a : Result (Option Expr) LineKind) → both_lists s (joined a (Ok [])) ≡ with_alignment s a
last_alignment (Ok es) (Ok None) = refl
last_alignment (Ok es) (Ok (Some e)) = refl
last_alignment (Ok es) (Err k) = refl
last_alignment (Err k) (Ok e) = refl
last_alignment (Err k) (Err j) = refl

next_alignment : (s : Result (List Expr) LineKind) (a : Result (Option Expr) LineKind) (b : Result (List Expr) LineKind)
    → both_lists s (joined a b) ≡ both_lists (with_alignment s a) b
next_alignment s a b =
    both_assoc s a b (λ es e. es ++ listed e) (λ es fs. es ++ fs) (λ e fs. listed e ++ fs) (λ es fs. es ++ fs) (λ es e fs. sym (append_assoc es (listed e) fs))

pub attribute_step : (text : List ℕ) (all : List (List Token)) (left o behind : List Token) (s n : Result (List Expr) LineKind)
    (a : Result (Option Expr) LineKind)
    → CutsOperands text left o (Some behind) → ReadsAttribute text o a → n ≡ with_alignment s a
    → ((b : Result (List Expr) LineKind) → ReadsAttributes text (operands_at text 0 left) b → ReadsAttributes text all (both_lists s b))
    → (b : Result (List Expr) LineKind) → ReadsAttributes text (operands_at text 0 behind) b → ReadsAttributes text all (both_lists n b)
attribute_step text all left o behind s n a cut reads more inv b h =
    let before : ReadsAttributes text (operands_at text 0 left) (joined a b) = rw cut.0 (a, b, reads, h, refl) in
    let next = inv (joined a b) before in
    rw more (rw next_alignment at next)

pub attribute_end : (text : List ℕ) (all : List (List Token)) (left o : List Token) (s n : Result (List Expr) LineKind) (a : Result (Option Expr) LineKind)
    → CutsOperands text left o None → ReadsAttribute text o a → n ≡ with_alignment s a
    → ((b : Result (List Expr) LineKind) → ReadsAttributes text (operands_at text 0 left) b → ReadsAttributes text all (both_lists s b))
    → ReadsAttributes text all n
attribute_end text all left o s n a cut reads more inv =
    let before : ReadsAttributes text (operands_at text 0 left) (joined a (Ok [])) = rw cut (a, Ok [], reads, refl, refl) in
    let next = inv (joined a (Ok [])) before in
    rw more (rw last_alignment at next)

-- the words of operands
words_cons : (text : List ℕ) (o : List Token) (os : List (List Token)) → attributes_in text (o ∷ os) ≡ attributes_in text (o ∷ []) ++ attributes_in text os
words_cons text o os = by_word (attribute_in text o)
  where
    by_word : (w : Option Attribute) → listed w ++ attributes_in text os ≡ (listed w ++ []) ++ attributes_in text os
    by_word None = refl
    by_word (Some a) = refl

pub words_step : (text : List ℕ) (all : List Attribute) (left o behind : List Token) (s n : List Attribute)
    → CutsOperands text left o (Some behind) → n ≡ s ++ attributes_in text (o ∷ [])
    → s ++ attributes_in text (operands_at text 0 left) ≡ all → n ++ attributes_in text (operands_at text 0 behind) ≡ all
words_step text all left o behind s n cut more inv =
    ap (λ x. x ++ attributes_in text (operands_at text 0 behind)) more
    ∙ append_assoc s (attributes_in text (o ∷ [])) (attributes_in text (operands_at text 0 behind))
    ∙ ap (λ x. s ++ x) (sym (words_cons text o (operands_at text 0 behind)))
    ∙ ap (λ x. s ++ attributes_in text x) (sym cut.0) ∙ inv

pub words_end : (text : List ℕ) (all : List Attribute) (left o : List Token) (s n : List Attribute)
    → CutsOperands text left o None → n ≡ s ++ attributes_in text (o ∷ [])
    → s ++ attributes_in text (operands_at text 0 left) ≡ all → n ≡ all
words_end text all left o s n cut more inv = more ∙ ap (λ x. s ++ attributes_in text x) (sym cut) ∙ inv

-- whether one of the operands writes no attribute
or_nothing : (a b : Bool) → a || (b || false) ≡ a || b
or_nothing true b = refl
or_nothing false true = refl
or_nothing false false = refl

or_between : (a b c : Bool) → a || (b || c) ≡ (a || b) || c
or_between true b c = refl
or_between false b c = refl

pub other_step : (text : List ℕ) (all : Bool) (left o behind : List Token) (s n : Bool)
    → CutsOperands text left o (Some behind) → n ≡ s || is_bad_word text o
    → s || list_any (is_bad_word text) (operands_at text 0 left) ≡ all → n || list_any (is_bad_word text) (operands_at text 0 behind) ≡ all
other_step text all left o behind s n cut more inv =
    ap (λ x. x || list_any (is_bad_word text) (operands_at text 0 behind)) more
    ∙ sym (or_between s (is_bad_word text o) (list_any (is_bad_word text) (operands_at text 0 behind)))
    ∙ ap (λ x. s || list_any (is_bad_word text) x) (sym cut.0) ∙ inv

pub other_end : (text : List ℕ) (all : Bool) (left o : List Token) (s n : Bool)
    → CutsOperands text left o None → n ≡ s || is_bad_word text o
    → s || list_any (is_bad_word text) (operands_at text 0 left) ≡ all → n ≡ all
other_end text all left o s n cut more inv =
    more ∙ sym (or_nothing s (is_bad_word text o)) ∙ ap (λ x. s || list_any (is_bad_word text) x) (sym cut) ∙ inv

-- a name and attributes, and no operands
pub area_read : (text : List ℕ) (ts first : List Token) (behind : Option (List Token)) (n : Result (List ℕ) LineKind) (a : Result AreaAttributes LineKind)
    (r : Result DirectiveLine LineKind)
    → 0 < length ts → CutsOperands text ts first behind → n ≡ name_alone text first → ReadsBehind text (operands_behind text behind) a
    → r ≡ on_both (λ n a. line.Area n a) n a → Area text (operands text ts) r
area_read text [] first behind n a r h cut en reads er = absurd (omega arith)
area_read text (t ∷ ts) first None n a r h cut en reads er =
    subst (λ os. Area text os r) (sym cut) (reads.0, reads.1, er ∙ rw (en, reads.2) refl)
area_read text (t ∷ ts) first (Some rest) n a r h cut en reads er =
    subst (λ os. Area text os r) (sym cut.0) (reads.0, reads.1, er ∙ rw (en, reads.2) refl)

pub no_area : (text : List ℕ) (ts : List Token) → length ts ≡ 0 → Area text (operands text ts) (Err Syntax)
no_area text [] e = refl
no_area text (t ∷ ts) e = absurd (omega arith)

-- the attributes behind the name of an area
pub attributes_behind : (text : List ℕ) (os : List (List Token)) (words : List Attribute) (other : Bool) (alignments : Result (List Expr) LineKind)
    (r : Result AreaAttributes LineKind)
    → words ≡ attributes_in text os → other ≡ list_any (is_bad_word text) os → ReadsAttributes text os alignments
    → r ≡ mapped (attributes_of words (has_bad_word_in words other)) alignments → ReadsBehind text os r
attributes_behind text os words other alignments r ew eo reads e = (alignments, reads, rw (e, ew, eo) refl)

-- a name with what stands behind it, and no tokens
pub first_and_rest : {A : Type 0} (ts : List A) (d : A) → 1 ≤ length ts → get_or ts 0 d ∷ take (length ts - 1) (drop 1 ts) ≡ ts
first_and_rest [] d h = absurd (omega arith)
first_and_rest (t ∷ ts) d h = let n : length (t ∷ ts) - 1 ≡ length ts = omega arith in rw (n, take-length) refl

pub no_import : (text : List ℕ) (ts : List Token) → length ts < 1 → Err Syntax ≡ import_of text ts
no_import text [] h = refl
no_import text (t ∷ ts) h = absurd (omega arith)
