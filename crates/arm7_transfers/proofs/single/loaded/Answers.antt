use Rattle.std.proofs.Common.{ap, ◌∙◌, is_some}
use Rattle.arm7_model.specs.declared.state.ArmState.{ArmState}
use Rattle.arm7_model.specs.Registers.{with_result}
use Rattle.arm7_model.specs.Transfers.{with_base}
use Rattle.arm7_transfers.proofs.SingleLemmas.{load_none, load_odd, load_ran}
use Rattle.arm7_transfers.proofs.single.loaded.Goals as goal

pub returns-in_default-clause-done : goal.returns-in_default-clause-done
returns-in_default-clause-done g c =
    load_none c.args.signed c.args.width c.args.a c.args.rd (with_base c.args.by.pre c.args.by.up c.args.by.write_back c.args.by.register c.args.by.offset)
    c.args.core.now _ c.aligned-at.result _ (is_some c.load.result)
    c.requires.ready c.aligned-at.ensures c.load.ensures.there (ap is_some c.in_default.is) (c.load.ensures.same c.in_default.is)

pub returns-then-is_no_address-clause-done : goal.returns-then-is_no_address-clause-done
returns-then-is_no_address-clause-done g c =
    load_odd c.args.signed c.args.width c.args.a c.args.rd (with_base c.args.by.pre c.args.by.up c.args.by.write_back c.args.by.register c.args.by.offset)
    c.args.core.now _ c.aligned-at.result _ (is_some c.load.result) c.is_no_address.result c.in-Some.found c.loaded_value-v.result
    c.requires.ready c.aligned-at.ensures c.load.ensures.there (ap is_some c.in-Some.is)
    c.in-Some.ensures.value c.loaded_value-v.ensures c.is_no_address.ensures c.if-is_no_address.true c.load.ensures.after

pub returns-clause-done : goal.returns-clause-done
returns-clause-done g c =
    load_ran c.args.signed c.args.width c.args.a c.args.rd (with_base c.args.by.pre c.args.by.up c.args.by.write_back c.args.by.register c.args.by.offset)
    c.args.core.now _ c.aligned-at.result c.set_result.new.state _ (is_some c.load.result) c.is_no_address.result c.in-Some.found c.loaded_value-v.result
    c.requires.ready c.aligned-at.ensures c.load.ensures.there (ap is_some c.in-Some.is)
    c.in-Some.ensures.value c.loaded_value-v.ensures c.is_no_address.ensures c.if-is_no_address.false c.load.ensures.after
    (c.set_result.ensures ∙ ap (λ (s : ArmState). with_result s c.args.rd c.loaded_value-v.result) c.set_base.ensures)
