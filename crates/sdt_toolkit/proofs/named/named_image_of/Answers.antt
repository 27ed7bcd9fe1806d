use Rattle.sdt_toolkit.proofs.ImageLemmas.{sound_inputs, told_named}
use Rattle.sdt_toolkit.proofs.InputLemmas.{valid_archives, valid_objects}
use Rattle.sdt_toolkit.proofs.named.named_image_of.Goals as goal

pub scatter_image-requires-clause-objects : goal.scatter_image-requires-clause-objects
scatter_image-requires-clause-objects c = rw c.in_ok-parts.ensures.objects (valid_objects c.args.inputs.items c.requires.inputs)

pub scatter_image-requires-clause-archives : goal.scatter_image-requires-clause-archives
scatter_image-requires-clause-archives c = rw c.in_ok-parts.ensures.archives (valid_archives c.args.inputs.items c.requires.inputs)

pub returns-clause-value : goal.returns-clause-value
returns-clause-value c = λ file.
    let exact = rw (c.in_ok-parts.ensures.objects, c.in_ok-parts.ensures.archives) at c.scatter_image.ensures.value in
    let objects = rw (c.as_slice.ensures.value, c.in_ok-parts.ensures.objects) at c.objects_fit.ensures in
    let archives = rw (c.as_slice-2.ensures.value, c.in_ok-parts.ensures.archives) at c.archives_fit.ensures in
    told_named c.images_start.ensures c.args.text.now c.args.ram.now file c.args.inputs.items (sound_inputs c.args.inputs.items c.requires.inputs objects archives) c.scatter_image.result exact
