use Rattle.std.proofs.Common.{true, refl, sym, ◌∙◌, ◌++◌, arith}
use Rattle.sdt_toolkit.specs.Reads.{IsAmong, Told, outside_of, reads_of}
use Rattle.sdt_toolkit.proofs.ContentLemmas.{files_counted}
use Rattle.sdt_toolkit.proofs.ReportLemmas.{printed, refused, unread}
use Rattle.sdt_toolkit.proofs.report.print_report.Goals as goal

pub returns-in-Err : goal.returns-in-Err
returns-in-Err g c =
    let o = outside_of (g.S.Store.files c.args.store.now) (g.S.Store.files c.read_files.new.store) (g.K.Sink.bytes c.args.sink.now) (g.K.Sink.bytes c.args.sink.now) (g.S.Store.read_faults c.args.store.now) (g.S.Store.read_faults c.read_files.new.store) (g.S.Store.write_faults c.args.store.now) (g.S.Store.write_faults c.read_files.new.store) (g.K.Sink.faults c.args.sink.now) (g.K.Sink.faults c.args.sink.now) in
    let end = rw c.as_slice.ensures at c.in-Err.ensures.end in
    rw c.end_answer.ensures (unread c.in-Err.end c.args.words.now o end (record { files = c.read_files.ensures.files; sink = refl }))

pub returns-in-Ok-contents_report : goal.returns-in-Ok-contents_report
unfolding Told
returns-in-Ok-contents_report g c =
    let words = c.args.words.now in
    let read = c.in-Ok.read in
    let o = outside_of (g.S.Store.files c.args.store.now) (g.S.Store.files c.contents_report.new.store) (g.K.Sink.bytes c.args.sink.now) (g.K.Sink.bytes c.print.new.sink) (g.S.Store.read_faults c.args.store.now) (g.S.Store.read_faults c.contents_report.new.store) (g.S.Store.write_faults c.args.store.now) (g.S.Store.write_faults c.contents_report.new.store) (g.K.Sink.faults c.args.sink.now) (g.K.Sink.faults c.print.new.sink) in
    let among : IsAmong (g.S.Store.files c.read_files.new.store) (g.S.Store.read_faults c.read_files.new.store) (g.S.Store.read_faults c.contents_report.new.store) (reads_of o) =
    record { files = sym c.read_files.ensures.files; first = c.read_files.ensures.read_faults; last = omega arith } in
    let found = rw c.as_slice.ensures at c.in-Ok.ensures.found in
    let counted = rw c.as_slice.ensures at c.in-Ok.ensures.counted in
    let count = files_counted true words.placement words.names read found.inputs counted found.agree in
    let told = c.in-Ok-contents_report.ensures.reports found.inputs found.agree (reads_of o) among in
    let says = rw c.as_slice-in-Ok-contents_report.ensures at c.print.ensures.says in
    printed c.print.result words (read.texts ++ found.inputs) c.in-Ok-contents_report.text o found.found count told (c.contents_report.ensures.files ∙ c.read_files.ensures.files) says

pub returns : goal.returns
unfolding Told
returns g c =
    let words = c.args.words.now in
    let read = c.in-Ok.read in
    let o = outside_of (g.S.Store.files c.args.store.now) (g.S.Store.files c.contents_report.new.store) (g.K.Sink.bytes c.args.sink.now) (g.K.Sink.bytes c.args.sink.now) (g.S.Store.read_faults c.args.store.now) (g.S.Store.read_faults c.contents_report.new.store) (g.S.Store.write_faults c.args.store.now) (g.S.Store.write_faults c.contents_report.new.store) (g.K.Sink.faults c.args.sink.now) (g.K.Sink.faults c.args.sink.now) in
    let among : IsAmong (g.S.Store.files c.read_files.new.store) (g.S.Store.read_faults c.read_files.new.store) (g.S.Store.read_faults c.contents_report.new.store) (reads_of o) =
    record { files = sym c.read_files.ensures.files; first = c.read_files.ensures.read_faults; last = omega arith } in
    let found = rw c.as_slice.ensures at c.in-Ok.ensures.found in
    let counted = rw c.as_slice.ensures at c.in-Ok.ensures.counted in
    let count = files_counted true words.placement words.names read found.inputs counted found.agree in
    let told = c.in-Err-contents_report.ensures.reports found.inputs found.agree (reads_of o) among in
    rw c.fault_answer.ensures (refused c.in-Err-contents_report.fault words (read.texts ++ found.inputs) o found.found count told
    (record { files = c.contents_report.ensures.files ∙ c.read_files.ensures.files; sink = refl }))
