use Rattle.std.proofs.Common.{◌≡◌, ◌<◌, ◌-◌, ◌∷◌, List, [], take, drop, length, refl, sym, ◌∙◌, subst, arith}
use Rattle.asm_laying.specs.declared.laying.LaidStatement.{LaidStatement}
use Rattle.asm_layout.specs.Late.{IsLeft}
use Rattle.asm_layout.proofs.LateLemmas.{first_left, next_of, stands, told_here, none_here, none_left}
use Rattle.base_lemmas.proofs.BaseLemmas.{rest_of}
use Rattle.asm_layout.proofs.late.cleared.Goals as goal

pub lines-init : goal.lines-init
lines-init c = λ all w h. first_left all c.args.laid.now h

pub returns-in-empty : goal.returns-in-empty
returns-in-empty c =
    λ all w h. none_left all (subst (λ (xs : List LaidStatement). IsLeft all xs) (nothing c.lines.left.now c.in-empty.len_below) (c.lines.invariant all w h))
  where
    nothing : (xs : List LaidStatement) → length xs < 1 → xs ≡ []
    nothing [] less = refl
    nothing (x ∷ xs) less = absurd (omega arith)

pub returns-in-Some : goal.returns-in-Some
returns-in-Some c = λ all w h.
    let x = c.next-item.result in
    let more = take (length c.lines.left.now - 1) (drop 1 c.lines.left.now) in
    let n = next_of all x more (subst (λ (xs : List LaidStatement). IsLeft all xs) (rest_of c.lines.left.now x c.in-len1-up.len_at_least c.next-item.is)
    (c.lines.invariant all w h)) in
    told_here all x more n c.in-Some.kind c.told_of.result
    (sym c.in-Some.is ∙ c.late_kind.ensures all n.before n.rest n.l w (rw c.position_of.ensures (stands all x more n))) c.told_of.ensures

pub lines-preserved : goal.lines-preserved
lines-preserved c = λ all w h.
    let x = c.next-item.result in
    let more = take (length c.lines.left.now - 1) (drop 1 c.lines.left.now) in
    let n = next_of all x more (subst (λ (xs : List LaidStatement). IsLeft all xs) (rest_of c.lines.left.now x c.in-len1-up.len_at_least c.next-item.is)
    (c.lines.invariant all w h)) in
    none_here all x more n (sym c.in_default.is ∙ c.late_kind.ensures all n.before n.rest n.l w (rw c.position_of.ensures (stands all x more n)))
