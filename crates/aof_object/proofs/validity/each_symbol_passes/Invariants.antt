use Rattle.std.proofs.Common.{◌≡◌, [], ℕ, List, take, drop}
use Rattle.std.specs.Prelude.{is_some}
use Rattle.aof_object.specs.Names.{among}
use Rattle.aof_object.specs.Index.{number_in}
use Rattle.aof_object.specs.Objects.{exported}
use Rattle.aof_object.specs.Tests.{all_pass, symbol_ok}
use Rattle.aof_object.proofs.validity.each_symbol_passes.Given as goal

abbrev pub invariant-loop-symbol : goal.invariant-loop-symbol
invariant-loop-symbol l = record {
  so_far : all_pass (symbol_ok l.areas) (take l.symbol-index l.symbols) (drop l.symbol-index l.symbols) ≡ all_pass (symbol_ok l.areas) [] l.symbols;
  known : (q : List ℕ) → is_some (number_in l.taken q) ≡ among q (exported (take l.symbol-index l.symbols));
}
