use Rattle.std.proofs.Common.{arith, ap, sym, ◌∙◌, ◌≡◌, ◌≤◌, ◌-◌, ℕ, List, length, take, drop, ◌+◌, ◌<◌, ◌^◌}
use Rattle.asm_model.proofs.TextLemmas.{part_of_part, within_part}
use Rattle.asm_model.proofs.shared_texts.SharedText.part.Goals as goal

reaches : (c : goal.In_ok-clone) → c.self.inside.start + c.args.to ≤ c.self.inside.end
reaches c = within_part c.self.inside.whole.value c.self.inside.start c.self.inside.end c.args.to c.args.self.now (sym c.self.view_is)
    c.self.inside.within.0 c.self.inside.within.1 c.requires.1

below : (c : goal.In_ok-clone) → c.self.inside.end < 2 ^ 32
below c = c.self.inside.within.2

pub overflow_cast-result : goal.overflow_cast-result
overflow_cast-result c = let inside = reaches c in let few = below c in let ordered = c.requires.0 in omega arith

pub overflow_add-result : goal.overflow_add-result
overflow_add-result c = let inside = reaches c in let few = below c in let ordered = c.requires.0 in omega arith

pub overflow_cast-result-2 : goal.overflow_cast-result-2
overflow_cast-result-2 c = let inside = reaches c in let few = below c in omega arith

pub overflow_add-result-2 : goal.overflow_add-result-2
overflow_add-result-2 c = let inside = reaches c in let few = below c in omega arith

pub invariant_of-result : goal.invariant_of-result
invariant_of-result c =
    let inside = reaches c in
    let few = below c in
    let ordered = c.requires.0 in
    let whole = c.self.inside.within.1 in
    let same : length c.in_ok-clone.field-0.value ≡ length c.self.inside.whole.value = ap length c.in_ok-clone.ensures.cases in
    ((omega arith, omega arith, omega arith), tt)

pub returns : goal.returns
returns c =
    let start = c.self.inside.start in
    let end = c.self.inside.end in
    let whole = c.self.inside.whole.value in
    let reach = within_part whole start end c.args.to c.args.self.now (sym c.self.view_is) c.self.inside.within.0 c.self.inside.within.1 c.requires.1 in
    ap (λ w. take ((start + c.args.to) - (start + c.args.from)) (drop (start + c.args.from) w)) c.in_ok-clone.ensures.cases
    ∙ part_of_part whole start end c.args.from c.args.to c.self.inside.within.0 c.requires.0 (omega arith)
    ∙ ap (λ t. take (c.args.to - c.args.from) (drop c.args.from t)) c.self.view_is
