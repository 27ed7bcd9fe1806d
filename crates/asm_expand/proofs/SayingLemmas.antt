-- What a line says, where a fault is told of it or none.
use Rattle.std.proofs.Common.{◌≡◌, List, [], ◌∷◌, refl, sym, ◌∙◌, ap, Option, Some, None}
use Rattle.std.specs.Prelude.{Result, Ok, Err}
use Rattle.sdt_fault.specs.declared.kinds.LineKind.{LineKind}
use Rattle.asm_model.specs.declared.lines.Line.{Line}
use Rattle.asm_model.specs.FaultSets.{first_told}
use Rattle.asm_model.specs.Kinds.{earliest, earlier, told_kind}
use Rattle.asm_model.proofs.FaultLemmas.{told_by_parts}
use Rattle.expand_model.specs.Steps.{Sources, Next, bad, judged, valued}
use Rattle.asm_variables.specs.declared.expansion.Expansion.{Expansion}
use Rattle.asm_expand.specs.declared.line_cursors.LineCursor.{LineCursor}
use Rattle.asm_expand.specs.declared.steps.Next.TheVariants as next
use Rattle.asm_expand.specs.LineCursors.{cursor_lines}
use Rattle.asm_expand.specs.Saying.{Shows, settled}

pub shows_bad : (sources : Sources) (c : Expansion) (at : LineCursor) (k : LineKind) (l : Line) (ls : List Line) → cursor_lines at ≡ l ∷ ls
    → Shows sources c (next.Bad at k) (bad l k)
shows_bad sources c at k l ls h = (refl, (l, (ls, h), refl, refl))

told_first : (k : LineKind) (kinds : List LineKind) (o : Option LineKind) → told_kind kinds ≡ o → Some (earliest k kinds) ≡ first_told (Some k) o
told_first k kinds o e = told_by_parts (k ∷ []) kinds ∙ ap (λ (x : Option LineKind). first_told (Some k) x) e

abbrev after : {A : Type 0} → Line → (A → Next) → Result A LineKind → Next
after l f (Ok a) = f a
after l f (Err k) = bad l k

valued_settled : {A : Type 0} (l : Line) (kinds : List LineKind) (r : Result A LineKind) (f : A → Next) (o : Option LineKind) → told_kind kinds ≡ o
    → valued l kinds r f ≡ after l f (settled o r)
valued_settled l kinds (Ok a) f None e = ap (λ (x : Option LineKind). judged l x (f a)) e
valued_settled l kinds (Ok a) f (Some j) e = ap (λ (x : Option LineKind). judged l x (f a)) e
valued_settled l kinds (Err k) f None e =
    let h : Some (earliest k kinds) ≡ Some k = told_first k kinds None e in
    let g : earliest k kinds ≡ k = cc in
    ap (λ (j : LineKind). bad l j) g
valued_settled l kinds (Err k) f (Some j) e =
    let h : Some (earliest k kinds) ≡ Some (earlier k j) = told_first k kinds (Some j) e in
    let g : earliest k kinds ≡ earlier k j = cc in
    ap (λ (i : LineKind). bad l i) g

-- a fault is told
pub valued_bad : {A : Type 0} (l : Line) (kinds : List LineKind) (r : Result A LineKind) (f : A → Next) (o : Option LineKind) (given : Result A LineKind)
    (k : LineKind)
    → o ≡ told_kind kinds → given ≡ r → Err k ≡ settled o given → valued l kinds r f ≡ bad l k
valued_bad l kinds r f o given k told same h =
    valued_settled l kinds r f o (sym told) ∙ ap (after l f) (ap (λ x. settled o x) (sym same) ∙ sym h)
