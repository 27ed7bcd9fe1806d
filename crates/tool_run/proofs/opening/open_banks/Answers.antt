use Rattle.std.proofs.lemmas.Result.{IfErr-weaker}
use Rattle.tool_run.proofs.RunLemmas.{closed_so}
use Rattle.tool_run.proofs.opening.open_banks.Goals as goal

pub returns-clause-closed : goal.returns-clause-closed
returns-clause-closed g c =
    let closed = rw (c.as_slice.ensures.value, c.as_slice-2.ensures.value) at c.open.ensures.closed in
    IfErr-weaker c.open.result _ _
    (λ e h. closed_so e.fault c.args.memory.now c.args.rom.now c.in-Ok.memory.items c.in-Ok-ranges.rom.items _ c.args.image.now
    c.in-Ok.ensures.told c.in-Ok-ranges.ensures.told h)
    closed
