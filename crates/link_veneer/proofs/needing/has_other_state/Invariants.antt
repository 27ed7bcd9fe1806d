use Rattle.std.proofs.Common.{◌≡◌, ℕ, drop}
use Rattle.std.specs.List.{filter_map}
use Rattle.link_model.specs.Members.{link_of}
use Rattle.link_model.specs.Options.{first_given}
use Rattle.link_model.specs.Veneers.{needed_by}
use Rattle.link_veneer.specs.Interworking.{refused_by}
use Rattle.link_veneer.proofs.needing.has_other_state.Given as goal

abbrev pub invariant-loop-reloc : goal.invariant-loop-reloc
invariant-loop-reloc l = record {
  needs : (region : ℕ) → filter_map (needed_by (link_of l.linked) region l.name l.area) (drop l.reloc-index l.area.relocs) ≡ filter_map (needed_by (link_of l.linked) region l.name l.area) l.area.relocs;
  refusals : first_given (refused_by (link_of l.linked) l.name l.area) (drop l.reloc-index l.area.relocs) ≡ first_given (refused_by (link_of l.linked) l.name l.area) l.area.relocs;
}
