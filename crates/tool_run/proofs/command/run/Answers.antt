use Rattle.std.proofs.Common.{refl}
use Rattle.tool_run.proofs.RunLemmas.{image_run, unopened}
use Rattle.tool_run.proofs.command.run.Goals as goal

pub returns-in-Err : goal.returns-in-Err
returns-in-Err g c =
    let why = rw (c.as_slice-memory.ensures, c.as_slice-rom.ensures) at c.in-Err.ensures.unopened in
    rw c.image_answer.ensures (unopened c.in-Err.end c.args.words.now _ _ _ why (record {
      outside = record { files = c.open_image.ensures.files; sink = refl };
      devices = c.in-Err.ensures.devices;
    }))

pub returns-in-Ok : goal.returns-in-Ok
returns-in-Ok g c =
    let opened = rw (c.as_slice-memory.ensures, c.as_slice-rom.ensures) at c.in-Ok.ensures.opened in
    rw c.stop_answer.ensures (image_run c.args.words.now _ _ _ _ _ opened c.open_image.ensures.files c.run_on-ended.result.stop c.run_on-ended.ensures.run)
