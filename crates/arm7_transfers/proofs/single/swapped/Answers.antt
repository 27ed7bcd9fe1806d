use Rattle.std.proofs.Common.{refl}
use Rattle.arm7_transfers.proofs.SingleLemmas.{swap_refused, swap_lacking, swap_ran}
use Rattle.arm7_transfers.proofs.single.swapped.Goals as goal

pub returns-then-not-may_store-clause-done : goal.returns-then-not-may_store-clause-done
returns-then-not-may_store-clause-done g c =
    swap_refused c.args.width c.args.rn c.args.rd c.args.rm c.args.core.now _ c.register-a.result c.aligned-place.result c.may_store.result
    c.requires.ready c.register-a.ensures c.aligned-place.ensures c.may_store.ensures c.if-not-may_store.true

pub returns-then-lacks_frame-clause-done : goal.returns-then-lacks_frame-clause-done
returns-then-lacks_frame-clause-done g c = (
  swap_lacking c.args.width c.args.rn c.args.rd c.args.rm c.args.core.now _ c.register-a.result c.aligned-place.result c.may_store.result c.lacks_frame.result
      c.requires.ready c.aligned-place.type_inv c.register-a.ensures c.aligned-place.ensures c.may_store.ensures c.if-not-may_store.false
      c.lacks_frame.ensures c.if-lacks_frame.true,
  refl,
  refl,
)

pub returns-clause-done : goal.returns-clause-done
returns-clause-done g c =
    swap_ran c.args.width c.args.rn c.args.rd c.args.rm c.args.core.now _ c.register-a.result c.aligned-place.result c.set_register.new.state _ _ c.may_store.result c.lacks_frame.result
    c.read.result c.loaded_value-v.result c.register.result
    c.requires.ready c.aligned-place.type_inv c.register-a.ensures c.aligned-place.ensures c.may_store.ensures c.if-not-may_store.false
    c.lacks_frame.ensures c.if-lacks_frame.false c.read.ensures.value c.loaded_value-v.ensures c.read.ensures.after
    c.register.ensures c.write.ensures.after c.set_register.ensures
