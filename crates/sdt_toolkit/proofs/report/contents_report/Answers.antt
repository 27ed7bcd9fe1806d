use Rattle.std.proofs.Common.{◌++◌}
use Rattle.sdt_toolkit.proofs.ContentLemmas.{inputs_behind, text_first}
use Rattle.sdt_toolkit.proofs.ReportLemmas.{inputs_told, no_inputs}
use Rattle.sdt_toolkit.specs.Reads.{Told}
use Rattle.sdt_toolkit.proofs.report.contents_report.Goals as goal

pub returns-in-Ok-clause-reports : goal.returns-in-Ok-clause-reports
unfolding Told
returns-in-Ok-clause-reports g c = λ inputs agree s among.
    let words = c.args.words.now in
    let read = c.args.read.now in
    let judged = rw (c.as_slice-2.ensures, c.as_slice-3.ensures) at c.in-Ok.ensures.value inputs agree s among in
    let told = rw (c.text_in-text.ensures, c.as_slice.ensures) at c.inputs_report.ensures in
    inputs_told s words (read.texts ++ inputs) c.in-Ok.inputs c.inputs_report.result
    (rw (inputs_behind words.placement read.texts inputs c.requires.counted.texts) judged) (rw (text_first words.placement read.texts inputs c.requires.counted.texts) told)

pub returns-in-Err-clause-reports : goal.returns-in-Err-clause-reports
unfolding Told
returns-in-Err-clause-reports g c = λ inputs agree s among.
    let words = c.args.words.now in
    let read = c.args.read.now in
    let judged = rw (c.as_slice-2.ensures, c.as_slice-3.ensures) at c.in-Err.ensures.value inputs agree s among in
    no_inputs s words (read.texts ++ inputs) c.in-Err.fault (rw (inputs_behind words.placement read.texts inputs c.requires.counted.texts) judged)
