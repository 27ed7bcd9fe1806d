use Rattle.std.proofs.Common.{◌≡◌, List, [], ◌∷◌, ◌++◌, take, sym, ap, ◌∙◌}
use Rattle.std.proofs.lemmas.List.{take_all, take_more}
use Rattle.aof_object.specs.declared.records.Symbol.{Symbol}
use Rattle.aof_object.proofs.copies.copy_symbols.Goals as goal

pub loop-symbol-preserved : goal.loop-symbol-preserved
loop-symbol-preserved c =
    let i = c.loop-symbol.symbol-index in
    let copy = c.in_ok-try_clone.field-0 in
    let front = take i c.args.symbols.now in
    let pushed : c.push.new.self.items ≡ c.loop-symbol.copy.items ++ copy ∷ [] = c.in_ok-push.ensures.items in
    let same : copy ≡ c.symbol-item.result = c.in_ok-try_clone.ensures in
    pushed ∙ ap (λ (l : List Symbol). l ++ copy ∷ []) c.loop-symbol.invariant ∙ ap (λ (x : Symbol). front ++ x ∷ []) (same ∙ c.symbol-item.is)
    ∙ sym (take_more c.args.symbols.now i c.symbol-item.result c.loop-symbol-test.true)

pub returns : goal.returns
returns c = c.from_vec.ensures ∙ c.loop-symbol.invariant ∙ take_all c.loop-symbol.symbol-index c.args.symbols.now c.loop-symbol-test.false
