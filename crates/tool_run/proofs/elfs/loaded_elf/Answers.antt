use Rattle.std.proofs.Common.{◌∙◌}
use Rattle.tool_run.proofs.ElfLemmas.{are_segments}
use Rattle.tool_run.proofs.NeedLemmas.{elf_needed}
use Rattle.tool_run.proofs.elfs.loaded_elf.Goals as goal

pub loads_of-requires : goal.loads_of-requires
loads_of-requires c = rw c.as_slice-segments.ensures (are_segments c.args.bytes.now c.args.elf.now c.requires)

pub returns-clause-needed : goal.returns-clause-needed
returns-clause-needed c =
    let loads = rw c.as_slice-segments.ensures at c.in_ok-loads.ensures in
    let needs = rw c.as_slice-segments.ensures at c.in_ok-needs.ensures in
    elf_needed c.args.bytes.now c.args.elf.now _ _ c.requires (c.from_vec.ensures ∙ loads) (c.from_vec-2.ensures ∙ needs)
