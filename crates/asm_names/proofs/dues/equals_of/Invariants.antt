use Rattle.std.proofs.Common.{◌≡◌, length, map, take}
use Rattle.asm_names.specs.Equals.{pairs_of}
use Rattle.asm_names.specs.Owing.{owed_of}
use Rattle.asm_names.specs.Source.{equal_pair}
use Rattle.asm_names.proofs.dues.equals_of.Given as goal

abbrev pub invariant-dues : goal.invariant-dues
invariant-dues l = record {
  pairs : pairs_of l.equals.items ≡ map (λ d. equal_pair (owed_of d)) (take l.due-index l.dues);
  count : length l.equals.items ≡ l.due-index;
}
