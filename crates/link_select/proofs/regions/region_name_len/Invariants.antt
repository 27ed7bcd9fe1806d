use Rattle.std.proofs.Common.{◌≡◌, ◌+◌, drop}
use Rattle.std.specs.List.{prefix_len}
use Rattle.link_model.specs.RegionNames.{is_region_char}
use Rattle.link_select.proofs.regions.region_name_len.Given as goal

abbrev pub invariant-loop-i : goal.invariant-loop-i
invariant-loop-i l = l.i + prefix_len is_region_char (drop l.i l.bytes) ≡ prefix_len is_region_char l.bytes
