use Rattle.std.proofs.Common.{◌≡◌, map, take}
use Rattle.std.specs.List.{flat_map}
use Rattle.asm_names.specs.Owing.{owed_of}
use Rattle.asm_names.specs.Source.{owed_in}
use Rattle.asm_names.proofs.dues.dues_of.Given as goal

abbrev pub invariant-lines : goal.invariant-lines
invariant-lines l = map owed_of l.dues.items ≡ flat_map owed_in (take l.line-index l.lines)
