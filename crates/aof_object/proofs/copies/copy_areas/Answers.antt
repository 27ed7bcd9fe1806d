use Rattle.std.proofs.Common.{◌≡◌, List, [], ◌∷◌, ◌++◌, take, sym, ap, ◌∙◌}
use Rattle.std.proofs.lemmas.List.{take_all, take_more}
use Rattle.aof_object.specs.declared.records.Area.{Area}
use Rattle.aof_object.proofs.copies.copy_areas.Goals as goal

pub loop-area-preserved : goal.loop-area-preserved
loop-area-preserved c =
    let i = c.loop-area.area-index in
    let copy = c.in_ok-try_clone.field-0 in
    let front = take i c.args.areas.now in
    let pushed : c.push.new.self.items ≡ c.loop-area.copy.items ++ copy ∷ [] = c.in_ok-push.ensures.items in
    let same : copy ≡ c.area-item.result = c.in_ok-try_clone.ensures in
    pushed ∙ ap (λ (l : List Area). l ++ copy ∷ []) c.loop-area.invariant ∙ ap (λ (x : Area). front ++ x ∷ []) (same ∙ c.area-item.is)
    ∙ sym (take_more c.args.areas.now i c.area-item.result c.loop-area-test.true)

pub returns : goal.returns
returns c = c.from_vec.ensures ∙ c.loop-area.invariant ∙ take_all c.loop-area.area-index c.args.areas.now c.loop-area-test.false
