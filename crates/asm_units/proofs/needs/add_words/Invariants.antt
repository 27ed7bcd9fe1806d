use Rattle.std.proofs.Common.{◌≡◌, length}
use Rattle.asm_model.specs.Symbols.{listed_behind, words_symbols}
use Rattle.asm_model.specs.Said.{AllRead}
use Rattle.asm_names.specs.PlacedLines.{line_of}
use Rattle.asm_units.proofs.needs.add_words.Given as goal

abbrev pub invariant-operands : goal.invariant-operands
invariant-operands l = record {
  read : AllRead l.left;
  same : listed_behind l.symbols (words_symbols l.lookup.names.now (line_of l.lookup.line.now) l.left)
      ≡ listed_behind l.initial.symbols (words_symbols l.lookup.names.now (line_of l.lookup.line.now) l.operands);
}

abbrev pub decreases-operands : goal.decreases-operands
decreases-operands l = length l.left
