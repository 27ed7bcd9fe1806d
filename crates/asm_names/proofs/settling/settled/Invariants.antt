use Rattle.std.proofs.Common.{map, take}
use Rattle.asm_names.specs.Owing.{owed_of}
use Rattle.asm_names.specs.Source.{Settles}
use Rattle.asm_names.proofs.settling.settled.Given as goal

abbrev pub invariant-places : goal.invariant-places
invariant-places l = Settles l.declared (map owed_of l.dues) l.fn.first (take l.place-index l.places) l.known
