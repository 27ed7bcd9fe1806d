use Rattle.std.proofs.Common.{arith}
use Rattle.expand_model.specs.States.{text_named}
use Rattle.expand_model.specs.Standing.{standing_from}
use Rattle.asm_variables.proofs.SubstitutionLemmas.{begun, ended_line, failed_line, passed_line, inside_one, plain_standing}
use Rattle.asm_variables.proofs.substitution.substitute_dollars.Goals as goal

pub bytes-init : goal.bytes-init
bytes-init c = (omega arith, λ s has. rw c.new-out.ensures.items (begun (text_named s) c.args.text.now))

pub returns-in_default : goal.returns-in_default
returns-in_default c = λ s has. ended_line s _ _ _ _ _ _ (c.bytes.invariant.1 s has) c.in_default.ensures

pub returns-in_default-2 : goal.returns-in_default-2
returns-in_default-2 c =
    let at = c.standing_at-begun.result in
    let rest = c.in-Some.rest.now in
    λ s has.
    failed_line s _ _ _ _ _ _ (c.bytes.invariant.1 s has) c.in-Some.first rest c.in-Some.ensures at.0 at.1 c.standing_at-begun.ensures
    c.in_ok-taken.field-0 c.pass.new.out.items c.in_default-2.is (c.in_ok-taken.ensures s (standing_from at.0 at.1 rest) has (plain_standing at.0 at.1 rest))

pub bytes-preserved : goal.bytes-preserved
bytes-preserved c =
    let at = c.standing_at-begun.result in
    let rest = c.in-Some.rest.now in (
      inside_one _ _ _ _ c.in-Some.ensures,
      λ s has.
          passed_line s _ _ _ _ _ _ (c.bytes.invariant.1 s has) c.in-Some.first rest c.in-Some.ensures at.0 at.1 c.standing_at-begun.ensures
          c.in_ok-taken.field-0 c.in-Some-2.taken c.pass.new.out.items c.in-Some-2.is
          (c.in_ok-taken.ensures s (standing_from at.0 at.1 rest) has (plain_standing at.0 at.1 rest)),
    )
