use Rattle.std.proofs.Common.{◌≡◌, ◌∙◌, sym, ap, take, ℕ, List, true, subst, Bool}
use Rattle.std.specs.Prelude.{is_some, ◌&&◌, ◌||◌}
use Rattle.std.specs.Str.{bytes_eq}
use Rattle.aof_object.specs.Index.{number_in}
use Rattle.aof_object.specs.Names.{among}
use Rattle.aof_object.specs.Checks.{is_exported}
use Rattle.aof_object.specs.Objects.{exported}
use Rattle.aof_object.specs.Tests.{symbol_ok, symbol_by}
use Rattle.aof_object.proofs.ValidLaw.{pass_more, exported_after}
use Rattle.aof_object.proofs.validity.each_symbol_passes.Goals as goal

pub loop-symbol-preserved : goal.loop-symbol-preserved
loop-symbol-preserved c =
    let xs = c.args.symbols.now in
    let areas = c.args.areas.now in
    let i = c.loop-symbol.symbol-index in
    let x = c.symbol-item.result in
    let repeated : c.in_ok-repeated.repeated ≡ (is_exported x.attributes && among x.name (exported (take i xs))) =
    c.in_ok-repeated.ensures.repeated ∙ ap (λ (n : List ℕ). is_exported x.attributes && is_some (number_in c.loop-symbol.taken n)) c.as_slice.ensures
    ∙ ap (λ (b : Bool). is_exported x.attributes && b) (c.loop-symbol.invariant.known x.name) in
    let ok : symbol_by (is_exported x.attributes && among x.name (exported (take i xs))) areas x ≡ true =
    subst (λ (b : Bool). symbol_by b areas x ≡ true) repeated (sym c.if-not-symbol_passes.ensures) in
    record {
      so_far = pass_more (symbol_ok areas) xs i x _ c.loop-symbol-test.true c.symbol-item.is ok c.loop-symbol.invariant.so_far;
      known = exported_after c.loop-symbol.taken c.note_exported.new.taken xs i x c.loop-symbol-test.true c.symbol-item.is c.loop-symbol.invariant.known
          (λ q. c.in_ok-repeated.ensures.noted q ∙ ap (λ (n : List ℕ). is_some (number_in c.loop-symbol.taken q) || (is_exported x.attributes && bytes_eq n q)) c.as_slice.ensures);
    }
