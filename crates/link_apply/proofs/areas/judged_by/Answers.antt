use Rattle.patch_model.specs.Fields.{field_of}
use Rattle.link_apply.proofs.SiteLemmas.{few_at}
use Rattle.link_apply.proofs.areas.judged_by.Goals as goal

pub flaw_of_relocation-flaw-requires-clause-added : goal.flaw_of_relocation-flaw-requires-clause-added
flaw_of_relocation-flaw-requires-clause-added c =
    (few_at c.args.known.now c.requires.known c.args.site.now c.requires.site (field_of c.args.reloc).place c.args.start c.requires.there).added

pub flaw_of_relocation-flaw-requires-clause-relative : goal.flaw_of_relocation-flaw-requires-clause-relative
flaw_of_relocation-flaw-requires-clause-relative c =
    (few_at c.args.known.now c.requires.known c.args.site.now c.requires.site (field_of c.args.reloc).place c.args.start c.requires.there).relative

pub new_number-requires-clause-added : goal.new_number-requires-clause-added
new_number-requires-clause-added c =
    (few_at c.args.known.now c.requires.known c.args.site.now c.requires.site (field_of c.args.reloc).place c.args.start c.requires.there).added

pub new_number-requires-clause-relative : goal.new_number-requires-clause-relative
new_number-requires-clause-relative c =
    (few_at c.args.known.now c.requires.known c.args.site.now c.requires.site (field_of c.args.reloc).place c.args.start c.requires.there).relative
