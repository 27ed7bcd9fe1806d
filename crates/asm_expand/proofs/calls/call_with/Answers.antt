use Rattle.std.proofs.Common.{◌≡◌, ℕ, List, [], ◌++◌, None, Some, drop, ap, subst, sym, ◌∙◌}
use Rattle.asm_model.specs.declared.lines.Line.{Line}
use Rattle.asm_model.specs.Kinds.{told_kind}
use Rattle.expand_model.specs.declared.macros.Prototype.{Prototype}
use Rattle.expand_model.specs.Prototypes.{argument_rows, call_kinds, label_rows, scope_of}
use Rattle.expand_model.specs.Steps.{depth_kinds}
use Rattle.asm_variables.specs.declared.expansion.Scope.{Scope}
use Rattle.asm_variables.specs.Expanding.{HasScope}
use Rattle.asm_expand.specs.Saying.{depth_of}
use Rattle.asm_variables.specs.Steps.{words_shown}
use Rattle.asm_expand.proofs.calls.call_with.Goals as goal

pub returns-clause-says : goal.returns-clause-says
returns-clause-says c =
    λ sources s l ls a r.
    let w = words_shown c.args.words in
    let d = depth_of c.args.depth in
    let told : told_kind (call_kinds c.args.called.now.prototype.value w ++ depth_kinds d) ≡ None =
    sym (c.call_fault.ensures ∙ ap (λ (p : Prototype). told_kind (call_kinds p w ++ depth_kinds d)) c.as_ref-prototype.ensures) ∙ c.in_default.is in
    let of_prototype =
    subst
    (λ (p : Prototype). HasScope c.in-Ok.scope (Some (record {
      arguments =
          label_rows p.label c.args.words.label.now ++ argument_rows p.parameters c.args.texts.now;
      locals = [];
    })))
    c.as_ref-prototype.ensures c.in-Ok.ensures in
    let of_texts =
    subst
    (λ (ts : List (List ℕ)). HasScope c.in-Ok.scope (Some (record {
      arguments =
          label_rows c.args.called.now.prototype.value.label c.args.words.label.now ++ argument_rows c.args.called.now.prototype.value.parameters ts;
      locals = [];
    })))
    c.requires of_prototype in
    let entered = c.enter-outer.ensures.state s (Some (scope_of c.args.called.now.prototype.value w)) r of_texts in
    rw told ((subst (λ (x : Scope). HasScope x s.scope) (sym c.in-Ok-new.ensures.ok) entered.1, c.past.ensures ∙ ap (λ (xs : List Line). drop 1 xs) a), entered.0, c.in-Ok-of_body.ensures)
