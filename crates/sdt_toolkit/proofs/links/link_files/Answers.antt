use Rattle.std.proofs.Common.{refl, sym, ◌∙◌, ◌++◌, arith}
use Rattle.tool_answers.specs.Outcomes.{unprinted}
use Rattle.sdt_outside.proofs.SharedLemmas.{got_none}
use Rattle.sdt_toolkit.specs.Reads.{IsAmong, Told, reads_of}
use Rattle.sdt_toolkit.proofs.ContentLemmas.{files_counted}
use Rattle.sdt_toolkit.proofs.LinkLemmas.{unread, refused, wrote}
use Rattle.sdt_toolkit.proofs.links.link_files.Goals as goal

pub returns-in-Err : goal.returns-in-Err
returns-in-Err g c = λ shown faults.
    let o = unprinted shown faults (g.S.Store.files c.args.store.now) (g.S.Store.files c.read_files.new.store) (g.S.Store.read_faults c.args.store.now) (g.S.Store.read_faults c.read_files.new.store) (g.S.Store.write_faults c.args.store.now) (g.S.Store.write_faults c.read_files.new.store) in
    let end = rw c.as_slice.ensures at c.in-Err.ensures.end in
    rw c.end_answer.ensures (unread c.in-Err.end c.args.sources c.args.words.now o end (record { files = c.read_files.ensures.files; sink = refl }))

pub returns-in-Ok-made : goal.returns-in-Ok-made
unfolding Told
returns-in-Ok-made g c = λ shown faults.
    let words = c.args.words.now in
    let read = c.in-Ok.read in
    let o = unprinted shown faults (g.S.Store.files c.args.store.now) (g.S.Store.files c.write_files.new.store) (g.S.Store.read_faults c.args.store.now) (g.S.Store.read_faults c.write_files.new.store) (g.S.Store.write_faults c.args.store.now) (g.S.Store.write_faults c.write_files.new.store) in
    let among : IsAmong (g.S.Store.files c.read_files.new.store) (g.S.Store.read_faults c.read_files.new.store) (g.S.Store.read_faults c.made.new.store) (reads_of o) =
    record { files = sym c.read_files.ensures.files; first = c.read_files.ensures.read_faults; last = omega (arith, c.write_files.ensures.reads) } in
    let found = rw c.as_slice.ensures at c.in-Ok.ensures.found in
    let counted = rw c.as_slice.ensures at c.in-Ok.ensures.counted in
    let count = files_counted c.args.sources words.placement words.names read found.inputs counted found.agree in
    let makes = c.in-Ok-made.ensures.makes found.inputs found.agree (reads_of o) among in
    let says = rw (c.as_slice-in-Ok-made.ensures, c.made.ensures.files, c.read_files.ensures.files, c.made.ensures.write_faults, c.read_files.ensures.write_faults) at c.write_files.ensures.says in
    wrote c.write_files.result c.args.sources words (read.texts ++ found.inputs) c.in-Ok-made.files o found.found count makes (got_none shown) refl says

pub returns : goal.returns
unfolding Told
returns g c = λ shown faults.
    let words = c.args.words.now in
    let read = c.in-Ok.read in
    let o = unprinted shown faults (g.S.Store.files c.args.store.now) (g.S.Store.files c.made.new.store) (g.S.Store.read_faults c.args.store.now) (g.S.Store.read_faults c.made.new.store) (g.S.Store.write_faults c.args.store.now) (g.S.Store.write_faults c.made.new.store) in
    let among : IsAmong (g.S.Store.files c.read_files.new.store) (g.S.Store.read_faults c.read_files.new.store) (g.S.Store.read_faults c.made.new.store) (reads_of o) =
    record { files = sym c.read_files.ensures.files; first = c.read_files.ensures.read_faults; last = omega arith } in
    let found = rw c.as_slice.ensures at c.in-Ok.ensures.found in
    let counted = rw c.as_slice.ensures at c.in-Ok.ensures.counted in
    let count = files_counted c.args.sources words.placement words.names read found.inputs counted found.agree in
    let makes = c.in-Err-made.ensures.makes found.inputs found.agree (reads_of o) among in
    rw c.fault_answer.ensures (refused c.in-Err-made.fault c.args.sources words (read.texts ++ found.inputs) o found.found count makes
    (record { files = c.made.ensures.files ∙ c.read_files.ensures.files; sink = refl }))
