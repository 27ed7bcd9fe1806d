use Rattle.std.proofs.Common.{ℕ, List, Ok, Err, refl, sym, ◌∙◌, subst, arith}
use Rattle.tool_answers.specs.Outcomes.{unprinted}
use Rattle.sdt_toolkit.specs.Reads.{IsAmong, Told, reads_of}
use Rattle.sdt_toolkit.specs.Sources.{SpellsAs}
use Rattle.sdt_toolkit.proofs.EndLemmas.{refused, too_long, unread, wrote_object}
use Rattle.sdt_toolkit.proofs.assemble.assemble_file.Goals as goal
use Rattle.sdt_outside.proofs.SharedLemmas.{got_none}

pub returns-in-Err : goal.returns-in-Err
returns-in-Err g c = λ shown faults.
    let o = unprinted shown faults (g.S.Store.files c.args.store.now) (g.S.Store.files c.read_input_up_to.new.store) (g.S.Store.read_faults c.args.store.now) (g.S.Store.read_faults c.read_input_up_to.new.store) (g.S.Store.write_faults c.args.store.now) (g.S.Store.write_faults c.read_input_up_to.new.store) in
    rw c.end_answer.ensures (unread c.in-Err.end c.args.source.now c.args.output o c.in-Err.ensures.end (record { files = c.read_input_up_to.ensures.files; sink = refl }))

pub returns-in-Ok-None : goal.returns-in-Ok-None
returns-in-Ok-None g c = λ shown faults.
    let o = unprinted shown faults (g.S.Store.files c.args.store.now) (g.S.Store.files c.read_input_up_to.new.store) (g.S.Store.read_faults c.args.store.now) (g.S.Store.read_faults c.read_input_up_to.new.store) (g.S.Store.write_faults c.args.store.now) (g.S.Store.write_faults c.read_input_up_to.new.store) in
    let found = rw c.in-Ok-None.field-0-is at c.in-Ok-None.ensures.found in
    rw (c.fault_answer.ensures, c.long_source.ensures)
    (too_long c.args.source.now c.args.output found.0 o found.1 found.2 (record { files = c.read_input_up_to.ensures.files; sink = refl }))

pub returns-in-Ok : goal.returns-in-Ok
unfolding Told
returns-in-Ok g c = λ shown faults.
    let o = unprinted shown faults (g.S.Store.files c.args.store.now) (g.S.Store.files c.write.new.store) (g.S.Store.read_faults c.args.store.now) (g.S.Store.read_faults c.write.new.store) (g.S.Store.write_faults c.args.store.now) (g.S.Store.write_faults c.write.new.store) in
    let among : IsAmong (g.S.Store.files c.read_input_up_to.new.store) (g.S.Store.read_faults c.read_input_up_to.new.store) (g.S.Store.read_faults c.object_file.new.store) (reads_of o) =
    record { files = sym c.read_input_up_to.ensures.files; first = c.read_input_up_to.ensures.read_faults; last = omega (arith, c.write.ensures.reads) } in
    let spells = subst (λ (t : List ℕ). SpellsAs (reads_of o) c.args.source.now t (Ok c.in-Ok.object)) c.as_slice.ensures (c.in-Ok.ensures.spells (reads_of o) among) in
    let says = rw (c.as_slice-in-Ok.ensures, c.object_file.ensures.files, c.read_input_up_to.ensures.files, c.object_file.ensures.write_faults, c.read_input_up_to.ensures.write_faults) at c.write.ensures.says in
    wrote_object c.write.result c.args.source.now c.args.output c.in-Ok-Some.text c.in-Ok.object o (rw c.in-Ok-Some.field-0-is at c.in-Ok-Some.ensures.found).0 spells (got_none shown) refl says

pub returns-in-Err-object_file : goal.returns-in-Err-object_file
unfolding Told
returns-in-Err-object_file g c = λ shown faults.
    let o = unprinted shown faults (g.S.Store.files c.args.store.now) (g.S.Store.files c.object_file.new.store) (g.S.Store.read_faults c.args.store.now) (g.S.Store.read_faults c.object_file.new.store) (g.S.Store.write_faults c.args.store.now) (g.S.Store.write_faults c.object_file.new.store) in
    let among : IsAmong (g.S.Store.files c.read_input_up_to.new.store) (g.S.Store.read_faults c.read_input_up_to.new.store) (g.S.Store.read_faults c.object_file.new.store) (reads_of o) =
    record { files = sym c.read_input_up_to.ensures.files; first = c.read_input_up_to.ensures.read_faults; last = omega arith } in
    let spells = subst (λ (t : List ℕ). SpellsAs (reads_of o) c.args.source.now t (Err c.in-Err-object_file.fault)) c.as_slice.ensures (c.in-Err-object_file.ensures.spells (reads_of o) among) in
    rw c.fault_answer-in-Err-object_file.ensures (refused c.in-Err-object_file.fault c.args.source.now c.args.output c.in-Ok-Some.text o (rw c.in-Ok-Some.field-0-is at c.in-Ok-Some.ensures.found).0 spells
    (record { files = c.object_file.ensures.files ∙ c.read_input_up_to.ensures.files; sink = refl }))
