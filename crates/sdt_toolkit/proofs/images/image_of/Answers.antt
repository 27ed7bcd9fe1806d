use Rattle.tool_words.specs.declared.command.LinkPlacement.TheVariants as placement
use Rattle.sdt_toolkit.specs.Inputs.{archives_among, objects_among}
use Rattle.sdt_toolkit.specs.Links.{IsAifImage, IsScatterImage}
use Rattle.sdt_toolkit.proofs.ImageLemmas.{IsPlainImage, as_plain, sound_inputs, told_image}
use Rattle.sdt_toolkit.proofs.InputLemmas.{valid_archives, valid_objects}
use Rattle.sdt_toolkit.proofs.images.image_of.Goals as goal

pub link_plain-requires-clause-objects : goal.link_plain-requires-clause-objects
link_plain-requires-clause-objects c = rw c.in_ok-parts.ensures.objects (valid_objects c.args.inputs.items c.requires.inputs)

pub link_plain-requires-clause-archives : goal.link_plain-requires-clause-archives
link_plain-requires-clause-archives c = rw c.in_ok-parts.ensures.archives (valid_archives c.args.inputs.items c.requires.inputs)

pub scatter_image-requires-clause-objects : goal.scatter_image-requires-clause-objects
scatter_image-requires-clause-objects c = rw c.in_ok-parts.ensures.objects (valid_objects c.args.inputs.items c.requires.inputs)

pub scatter_image-requires-clause-archives : goal.scatter_image-requires-clause-archives
scatter_image-requires-clause-archives c = rw c.in_ok-parts.ensures.archives (valid_archives c.args.inputs.items c.requires.inputs)

pub aif_image-requires-clause-objects : goal.aif_image-requires-clause-objects
aif_image-requires-clause-objects c = rw c.in_ok-parts.ensures.objects (valid_objects c.args.inputs.items c.requires.inputs)

pub aif_image-requires-clause-archives : goal.aif_image-requires-clause-archives
aif_image-requires-clause-archives c = rw c.in_ok-parts.ensures.archives (valid_archives c.args.inputs.items c.requires.inputs)

pub returns-in-Aif : goal.returns-in-Aif
returns-in-Aif c =
    let exact = rw (c.in_ok-parts.ensures.objects, c.in_ok-parts.ensures.archives) at c.aif_image.ensures in
    let objects = rw (c.as_slice.ensures.value, c.in_ok-parts.ensures.objects) at c.objects_fit.ensures in
    let archives = rw (c.as_slice-2.ensures.value, c.in_ok-parts.ensures.archives) at c.archives_fit.ensures in
    let whole = rw c.in-Aif.is at c.requires.based in
    rw c.in-Aif.is (told_image c.images_start.ensures c.args.text.now c.args.ram.now (placement.Aif c.in-Aif.base c.in-Aif.relocatable) c.args.inputs.items whole
    (sound_inputs c.args.inputs.items c.requires.inputs objects archives)
    (IsAifImage (objects_among c.args.inputs.items) (archives_among c.args.inputs.items) c.in-Aif.base c.in-Aif.relocatable c.args.ram.now) (λ image h. h) c.aif_image.result exact)

pub returns-in-Plain : goal.returns-in-Plain
returns-in-Plain c =
    let exact = rw (c.in_ok-parts.ensures.objects, c.in_ok-parts.ensures.archives) at c.link_plain.ensures.exact in
    let objects = rw (c.as_slice.ensures.value, c.in_ok-parts.ensures.objects) at c.objects_fit.ensures in
    let archives = rw (c.as_slice-2.ensures.value, c.in_ok-parts.ensures.archives) at c.archives_fit.ensures in
    let whole = rw c.in-Plain.is at c.requires.based in
    rw c.in-Plain.is (told_image c.images_start.ensures c.args.text.now c.args.ram.now (placement.Plain c.in-Plain.base) c.args.inputs.items whole
    (sound_inputs c.args.inputs.items c.requires.inputs objects archives)
    (IsPlainImage (objects_among c.args.inputs.items) (archives_among c.args.inputs.items) c.in-Plain.base) (λ image h. h) c.link_plain.result
    (as_plain (objects_among c.args.inputs.items) (archives_among c.args.inputs.items) c.in-Plain.base c.link_plain.result exact))

pub returns-in-Scatter : goal.returns-in-Scatter
returns-in-Scatter c =
    let exact = rw (c.in_ok-parts.ensures.objects, c.in_ok-parts.ensures.archives) at c.scatter_image.ensures in
    let objects = rw (c.as_slice.ensures.value, c.in_ok-parts.ensures.objects) at c.objects_fit.ensures in
    let archives = rw (c.as_slice-2.ensures.value, c.in_ok-parts.ensures.archives) at c.archives_fit.ensures in
    rw c.in-Scatter.is (told_image c.images_start.ensures c.args.text.now c.args.ram.now (placement.Scatter c.in-Scatter.file) c.args.inputs.items tt
    (sound_inputs c.args.inputs.items c.requires.inputs objects archives)
    (IsScatterImage (objects_among c.args.inputs.items) (archives_among c.args.inputs.items) c.args.text.now c.args.ram.now) (λ image h. h) c.scatter_image.result exact)
