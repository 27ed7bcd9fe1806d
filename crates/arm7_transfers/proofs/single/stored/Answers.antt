use Rattle.std.proofs.Common.{refl}
use Rattle.arm7_model.specs.Transfers.{with_base}
use Rattle.arm7_transfers.proofs.SingleLemmas.{store_absent, store_protected, store_unframed, store_ran}
use Rattle.arm7_transfers.proofs.single.stored.Goals as goal

pub returns-in-Ok-clause-done : goal.returns-in-Ok-clause-done
returns-in-Ok-clause-done g c =
    store_ran c.args.width c.args.a c.args.rd (with_base c.args.by.pre c.args.by.up c.args.by.write_back c.args.by.register c.args.by.offset)
    c.args.core.now _ c.aligned-at.result c.set_base.new.state _ _ _ c.stored_at.result
    c.requires.ready c.aligned-at.type_inv c.aligned-at.ensures refl c.in-Ok.ensures.judged.0
    refl c.in-Ok.ensures.judged.1 c.stored_at.ensures c.in-Ok.ensures.after c.set_base.ensures

pub returns-in-NoFrame-clause-done : goal.returns-in-NoFrame-clause-done
returns-in-NoFrame-clause-done g c = (
  store_unframed c.args.width c.args.a c.args.rd (with_base c.args.by.pre c.args.by.up c.args.by.write_back c.args.by.register c.args.by.offset)
      c.args.core.now _ c.aligned-at.result _ c.in-Err.fault
      c.requires.ready c.aligned-at.type_inv c.aligned-at.ensures c.in-NoFrame.is c.in-Err.ensures.judged,
  refl,
  c.in-Err.ensures.same,
)

pub returns-in-Absent-clause-done : goal.returns-in-Absent-clause-done
returns-in-Absent-clause-done g c =
    store_absent c.args.width c.args.a c.args.rd (with_base c.args.by.pre c.args.by.up c.args.by.write_back c.args.by.register c.args.by.offset)
    c.args.core.now _ c.aligned-at.result _ c.in-Err.fault
    c.requires.ready c.aligned-at.ensures c.in-Absent.is c.in-Err.ensures.judged c.in-Err.ensures.same

pub returns-in-ReadOnly-clause-done : goal.returns-in-ReadOnly-clause-done
returns-in-ReadOnly-clause-done g c =
    store_protected c.args.width c.args.a c.args.rd (with_base c.args.by.pre c.args.by.up c.args.by.write_back c.args.by.register c.args.by.offset)
    c.args.core.now _ c.aligned-at.result _ c.in-Err.fault
    c.requires.ready c.aligned-at.ensures c.in-ReadOnly.is c.in-Err.ensures.judged c.in-Err.ensures.same
