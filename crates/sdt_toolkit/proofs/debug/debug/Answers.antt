use Rattle.sdt_toolkit.proofs.DebugLemmas.{behind_script}
use Rattle.sdt_toolkit.proofs.debug.debug.Goals as goal

pub returns-in-Ok : goal.returns-in-Ok
returns-in-Ok g c =
    let script = rw (c.in-Some.ensures, c.deref.ensures.value) at c.in-Ok.ensures.script in
    let answer = rw (c.as_slice.ensures, c.commands_in.ensures.files) at c.debug_image.ensures.answer in
    behind_script c.args.words.now c.in-Ok.commands (g.S.Store.files c.args.store.now) (g.S.Store.files c.debug_image.new.store)
    (g.K.Sink.bytes c.args.sink.now) (g.K.Sink.bytes c.debug_image.new.sink) (g.S.Store.read_faults c.args.store.now)
    (g.S.Store.read_faults c.commands_in.new.store) (g.S.Store.read_faults c.debug_image.new.store) (g.S.Store.write_faults c.args.store.now)
    (g.S.Store.write_faults c.commands_in.new.store) (g.S.Store.write_faults c.debug_image.new.store) (g.K.Sink.faults c.args.sink.now)
    (g.K.Sink.faults c.debug_image.new.sink) _ _ c.commands_in.ensures.read_faults c.debug_image.ensures.read_faults script c.debug_image.result answer
