use Rattle.sdt_toolkit.proofs.DebugLemmas.{script_refused}
use Rattle.sdt_toolkit.proofs.debug.commands_in.Goals as goal

pub returns-clause-script : goal.returns-clause-script
returns-clause-script g c =
    let gives = rw c.as_slice.ensures at c.in-Err-read_script.ensures.exact in
    rw c.fault_answer.ensures (script_refused c.args.file.now c.args.devices c.in-Err-read_script.fault c.named_fault.result _ _ c.in-Ok.text c.in-Ok.ensures.found gives c.named_fault.ensures)
