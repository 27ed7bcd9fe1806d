-- Units one behind the other.
use Rattle.std.proofs.Common.{◌≡◌, ◌≤◌, ◌-◌, List, [], ◌∷◌, ◌++◌, length, take, drop, get_or, refl, sym, ap, ◌∙◌, subst, append_assoc}
use Rattle.std.specs.Prelude.{Result, Ok, Err}
use Rattle.sdt_fault.specs.declared.kinds.LineKind.{LineKind}
use Rattle.asm_model.specs.declared.exprs.Expr.{Expr}
use Rattle.asm_model.specs.Readings.{mapped, on_both}
use Rattle.asm_model.specs.Said.{AllRead}
use Rattle.source_model.specs.Units.{Emitted}
use Rattle.asm_units.specs.Emitting.{with_next}
use Rattle.asm_model.proofs.KindLemmas.{earlier_assoc}
use Rattle.base_lemmas.proofs.BaseLemmas.{rest_of as first_and_rest}

-- units with others behind them
abbrev pub joined : Result (List Emitted) LineKind → Result (List Emitted) LineKind → Result (List Emitted) LineKind
joined us vs = on_both (λ (xs ys : List Emitted). xs ++ ys) us vs

joined_next : {A : Type 0} (f : A → Emitted) (us : Result (List Emitted) LineKind) (a : Result A LineKind) (rest : Result (List Emitted) LineKind)
    → joined (with_next us (mapped f a)) rest ≡ joined us (on_both (λ x vs. f x ∷ vs) a rest)
joined_next f (Ok us) (Ok a) (Ok rest) = ap (λ (z : List Emitted). Ok z) (append_assoc us (f a ∷ []) rest)
joined_next f (Ok us) (Ok a) (Err k) = refl
joined_next f (Ok us) (Err j) (Ok rest) = refl
joined_next f (Ok us) (Err j) (Err k) = refl
joined_next f (Err i) (Ok a) (Ok rest) = refl
joined_next f (Err i) (Ok a) (Err k) = refl
joined_next f (Err i) (Err j) (Ok rest) = refl
joined_next f (Err i) (Err j) (Err k) = ap (λ (z : LineKind). Err z) (sym (earlier_assoc i j k))

-- a unit more of those that are left
unit_next : {A : Type 0} (f : A → Emitted) (us more : Result (List Emitted) LineKind) (u : Result Emitted LineKind) (a : Result A LineKind)
    (rest all : Result (List Emitted) LineKind)
    → more ≡ with_next us u → u ≡ mapped f a → joined us (on_both (λ x vs. f x ∷ vs) a rest) ≡ all → joined more rest ≡ all
unit_next f us more u a rest all m e h = rw (m, e) (joined_next f us a rest ∙ h)

-- an operand more of those that are left
pub operand_next : {A : Type 0} (f : A → Emitted) (value : Expr → Result A LineKind) (now behind : List Expr → Result (List Emitted) LineKind)
    → ((e : Expr) (es : List Expr) → now (e ∷ es) ≡ on_both (λ x vs. f x ∷ vs) (value e) (behind es))
    → (left : List Expr) (e : Expr) (us more : Result (List Emitted) LineKind) (u : Result Emitted LineKind) (all : Result (List Emitted) LineKind)
    → AllRead left × (joined us (now left) ≡ all) → 1 ≤ length left → e ≡ get_or left 0 e → more ≡ with_next us u → u ≡ mapped f (value e)
    → AllRead (take (length left - 1) (drop 1 left)) × (joined more (behind (take (length left - 1) (drop 1 left))) ≡ all)
operand_next f value now behind step left e us more u all h some at m is =
    let rest = take (length left - 1) (drop 1 left) in
    let there = subst (λ (l : List Expr). AllRead l × (joined us (now l) ≡ all)) (first_and_rest left e some at) h in
    (there.0.1, unit_next f us more u (value e) (behind rest) all m is (ap (joined us) (sym (step e rest)) ∙ there.1))
