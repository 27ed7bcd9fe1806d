use Rattle.std.proofs.Common.{◌≡◌, ◌≢◌, ℕ, ◌%◌, drop}
use Rattle.patch_model.specs.Fields.{Values}
use Rattle.link_apply.specs.Starts.{starts}
use Rattle.link_apply.proofs.starts.are_even.Given as goal

abbrev pub invariant-loop-reloc : goal.invariant-loop-reloc
invariant-loop-reloc l = (values : Values) (p : ℕ) → p % 4 ≢ 0 → starts values (drop l.reloc-index l.relocs) p ≡ starts values l.relocs p
