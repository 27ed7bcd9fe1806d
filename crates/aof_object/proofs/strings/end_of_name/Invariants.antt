use Rattle.std.proofs.Common.{◌≡◌, ◌++◌, take, drop}
use Rattle.std.specs.Option.{option_map}
use Rattle.aof_object.specs.Names.{terminated}
use Rattle.aof_object.proofs.strings.end_of_name.Given as goal

abbrev pub invariant-loop-i : goal.invariant-loop-i
invariant-loop-i l = terminated l.bytes ≡ option_map (λ n. take l.i l.bytes ++ n) (terminated (drop l.i l.bytes))
