use Rattle.sdt_toolkit.proofs.BigAnswer.{image_needed, is_built, program_regions, short_source}
use Rattle.sdt_toolkit.proofs.big_image.build_program.Goals as goal

pub run_image-requires : goal.run_image-requires
run_image-requires c =
    program_regions c.big_law.ensures.starts c.args.name.now c.args.count c.requires.some c.requires.few c.in_ok-parts.ensures.valid c.in_ok-parts.ensures.bytes c.in_ok-parts.parts.image c.in_ok-parts.ensures.image

pub returns-clause-short : goal.returns-clause-short
returns-clause-short c = short_source c.big_law.ensures.short c.args.count c.requires.few c.in_ok-parts.parts.source c.in_ok-parts.ensures.source

pub returns-clause-built : goal.returns-clause-built
returns-clause-built c = is_built c.big_law.ensures.made c.args.name.now c.args.count c.requires.some c.requires.few c.big_law.ensures.assembled c.in_ok-parts.ensures.told

pub returns-clause-needed : goal.returns-clause-needed
returns-clause-needed c = image_needed c.in_ok-parts.parts.image c.in_ok-image.image c.in_ok-image.ensures
