use Rattle.std.proofs.Common.{subst}
use Rattle.tool_words.specs.declared.command.Container.{Container}
use Rattle.sdt_toolkit.specs.Links.{IsWritable}
use Rattle.sdt_toolkit.proofs.ImageLemmas.{image_writable}
use Rattle.sdt_toolkit.proofs.LinkLemmas.{is_scattered, named_is, named_made, no_named_made}
use Rattle.sdt_toolkit.proofs.links.named_files.Goals as goal

pub named_file-requires-clause-counted : goal.named_file-requires-clause-counted
named_file-requires-clause-counted c =
    let words = c.args.words.now in
    let form = is_scattered words.placement words.container c.requires.named c.requires.good.written in
    let has = rw c.into_vec.ensures at c.in-Ok.ensures.value form.0 in
    let is = named_is words c.args.text.now c.args.inputs form.0 form.1 c.in-Ok.named has in
    let can = image_writable c.image_sizes.ensures.linked c.image_sizes.ensures.scattered c.reading_law.ensures words.placement words.container c.args.text.now words.ram
    c.args.inputs c.in-Ok.named.image c.in-Ok.named.tables c.requires.good.written is in
    (subst (λ (q : Container). IsWritable q c.in-Ok.named.image) form.2 can).loads

pub returns-in-Ok-clause-makes : goal.returns-in-Ok-clause-makes
returns-in-Ok-clause-makes c =
    let words = c.args.words.now in
    let form = is_scattered words.placement words.container c.requires.named c.requires.good.written in
    let has = rw c.into_vec.ensures at c.in-Ok.ensures.value form.0 in
    named_made words c.args.text.now c.args.inputs form.0 form.1 c.in-Ok.named c.named_file.result form.2 has c.named_file.ensures.value

pub returns-in-Err-clause-makes : goal.returns-in-Err-clause-makes
returns-in-Err-clause-makes c =
    let words = c.args.words.now in
    let form = is_scattered words.placement words.container c.requires.named c.requires.good.written in
    let has = rw c.into_vec.ensures at c.in-Err.ensures.value form.0 in
    no_named_made words c.args.text.now c.args.inputs form.0 form.1 c.in-Err.fault has
