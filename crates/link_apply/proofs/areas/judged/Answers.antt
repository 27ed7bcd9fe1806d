use Rattle.std.proofs.Common.{sym, ◌∙◌}
use Rattle.patch_model.specs.Fields.{field_of}
use Rattle.link_apply.specs.Sites.{values_at}
use Rattle.link_apply.proofs.StartLemmas.{start_there}
use Rattle.link_apply.proofs.areas.judged.Goals as goal

pub returns-in_default-clause-exact : goal.returns-in_default-clause-exact
returns-in_default-clause-exact c =
    absurd (start_there (values_at c.args.known.now c.args.site.now) c.args.site.now.area.now.relocs c.requires.own.0 c.args.reloc c.requires.own.1
    (sym (c.requires.site.starts (field_of c.args.reloc).place) ∙ sym c.start_at.ensures ∙ c.in_default.is))
