use Rattle.std.proofs.Common.{List, ap, drop, take, ◌∙◌}
use Rattle.asm_model.specs.declared.lines.Line.{Line}
use Rattle.expand_model.specs.declared.macros.Macro.{Macro}
use Rattle.asm_expand.specs.LineCursors.{cursor_lines}
use Rattle.asm_expand.proofs.DefiningLemmas.{whole_defined}
use Rattle.asm_expand.proofs.definitions.defined.Goals as goal

pub returns-in-Ok-define-clause-says : goal.returns-in-Ok-define-clause-says
returns-in-Ok-define-clause-says c =
    λ sources s l first r.
    let body_of : List Line → Macro = λ xs. record { prototype = c.args.prototype; body = take c.in-Whole.count xs } in
    whole_defined sources c.args.state.now c.define.new.self c.pass.new.self c.pass-in-Whole.new.self c.args.prototype l s
    c.rest.result.now (cursor_lines c.args.body) c.in-Whole.count c.in-Ok.definition c.past-in-Whole-2.result r
    c.rest.ensures c.in-Whole.ensures (c.in-Ok.ensures ∙ ap body_of c.rest-in-Whole.ensures)
    c.in-Ok-define.ensures.state c.pass.ensures.state c.pass-in-Whole.ensures.state
    (c.past-in-Whole-2.ensures ∙ ap (λ (xs : List Line). drop 1 xs) c.past-in-Whole.ensures)
