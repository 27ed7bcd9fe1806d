use Rattle.std.proofs.Common.{◌++◌}
use Rattle.sdt_toolkit.proofs.ContentLemmas.{inputs_behind, text_first}
use Rattle.sdt_toolkit.proofs.LinkLemmas.{inputs_made, no_inputs}
use Rattle.sdt_toolkit.specs.Reads.{Told}
use Rattle.sdt_toolkit.proofs.links.made.Goals as goal

pub returns-in-Ok-clause-makes : goal.returns-in-Ok-clause-makes
unfolding Told
returns-in-Ok-clause-makes g c = λ inputs agree s among.
    let words = c.args.words.now in
    let read = c.args.read.now in
    let judged = rw (c.as_slice-2.ensures, c.as_slice-3.ensures) at c.in-Ok.ensures.value inputs agree s among in
    let files = rw (c.text_in-text.ensures, c.as_slice.ensures) at c.files_by.ensures.makes in
    inputs_made s c.args.sources words (read.texts ++ inputs) c.in-Ok.inputs c.files_by.result
    (rw (inputs_behind words.placement read.texts inputs c.requires.counted.texts) judged) (rw (text_first words.placement read.texts inputs c.requires.counted.texts) files)

pub returns-in-Err-clause-makes : goal.returns-in-Err-clause-makes
unfolding Told
returns-in-Err-clause-makes g c = λ inputs agree s among.
    let words = c.args.words.now in
    let read = c.args.read.now in
    let judged = rw (c.as_slice-2.ensures, c.as_slice-3.ensures) at c.in-Err.ensures.value inputs agree s among in
    no_inputs s c.args.sources words (read.texts ++ inputs) c.in-Err.fault (rw (inputs_behind words.placement read.texts inputs c.requires.counted.texts) judged)
