use Rattle.std.proofs.Common.{◌≡◌, drop}
use Rattle.link_model.specs.Members.{link_of}
use Rattle.link_model.specs.Options.{first_given}
use Rattle.link_veneer.specs.Interworking.{refused_by}
use Rattle.link_veneer.proofs.interworking.refusal_with.Given as goal

abbrev pub invariant-loop-reloc : goal.invariant-loop-reloc
invariant-loop-reloc l = first_given (refused_by (link_of l.linked) l.name l.area) (drop l.reloc-index l.area.relocs) ≡ first_given (refused_by (link_of l.linked) l.name l.area) l.area.relocs
