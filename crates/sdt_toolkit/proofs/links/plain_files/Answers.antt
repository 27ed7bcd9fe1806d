use Rattle.sdt_toolkit.proofs.ImageLemmas.{image_writable}
use Rattle.sdt_toolkit.proofs.LinkLemmas.{no_image_made, plain_made}
use Rattle.sdt_toolkit.proofs.links.plain_files.Goals as goal

pub files_of-requires-clause-writable : goal.files_of-requires-clause-writable
files_of-requires-clause-writable c =
    let is = rw c.into_vec.ensures at c.in-Ok.ensures in
    image_writable c.image_sizes.ensures.linked c.image_sizes.ensures.scattered c.reading_law.ensures c.args.words.now.placement c.args.words.now.container c.args.text.now c.args.words.now.ram
    c.args.inputs c.in-Ok.image is.0 c.requires.good.written is.1

pub returns-in-Ok-clause-makes : goal.returns-in-Ok-clause-makes
returns-in-Ok-clause-makes c =
    let is = rw c.into_vec.ensures at c.in-Ok.ensures in
    plain_made c.args.words.now c.args.text.now c.args.inputs c.in-Ok.image c.files_of.result c.requires.plain is c.files_of.ensures.value

pub returns-in-Err-clause-makes : goal.returns-in-Err-clause-makes
returns-in-Err-clause-makes c =
    let is = rw c.into_vec.ensures at c.in-Err.ensures in
    no_image_made c.args.words.now c.args.text.now c.args.inputs c.in-Err.fault is
