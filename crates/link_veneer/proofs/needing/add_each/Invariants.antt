use Rattle.std.proofs.Common.{◌≡◌, drop}
use Rattle.std.specs.List.{filter_map}
use Rattle.link_model.specs.Members.{link_of}
use Rattle.link_model.specs.Veneers.{needed_by}
use Rattle.link_veneer.specs.Needing.{with_all}
use Rattle.link_veneer.proofs.needing.add_each.Given as goal

abbrev pub invariant-loop-reloc : goal.invariant-loop-reloc
invariant-loop-reloc l = with_all l.needs.keys (filter_map (needed_by (link_of l.linked) l.region l.name l.area) (drop l.reloc-index l.relocs)) ≡ with_all l.initial.needs.keys (filter_map (needed_by (link_of l.linked) l.region l.name l.area) l.area.relocs)
