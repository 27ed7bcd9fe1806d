use Rattle.std.proofs.Common.{Bool, List, ℕ, [], ◌∷◌, length, sym, ap, ◌∙◌, subst}
use Rattle.std.specs.List.{AllByRecursion}
use Rattle.asm_names.specs.declared.search.Waiting.{Waiting}
use Rattle.asm_names.specs.Equals.{pairs_of}
use Rattle.asm_names.specs.Index.{IsWithin}
use Rattle.asm_names.specs.Search.{IsReached, known_names}
use Rattle.asm_names.proofs.IndexLemmas.{numbered_within}
use Rattle.asm_names.proofs.SearchLemmas.{looked}
use Rattle.asm_names.proofs.search.look_at_all.Goals as goal
use Rattle.base_lemmas.proofs.BaseLemmas.{all_back}

pub look_at-requires-clause-within : goal.look_at-requires-clause-within
look_at-requires-clause-within c =
    subst (λ (n : ℕ). IsWithin c.args.index.now n) (sym (ap (λ (l : List Bool). length l) c.as_slice.ensures.value ∙ c.loop-waiting.invariant.0.size))
    (numbered_within (pairs_of c.args.equals.now) c.args.index.now c.loop-waiting.invariant.0.index)

pub look_at-requires-clause-waiting : goal.look_at-requires-clause-waiting
look_at-requires-clause-waiting c =
    let reached =
    IsReached (pairs_of c.args.equals.now) (known_names (pairs_of c.args.equals.now) c.loop-waiting.progress.done c.loop-waiting.progress.places.items) in
    (all_back reached c.pop.new.self.items (c.in-Some.waiting ∷ []) (subst (λ (l : List Waiting). AllByRecursion reached l) c.in-Some.ensures.items
    c.loop-waiting.invariant.0.reached)).0.can

pub loop-waiting-preserved : goal.loop-waiting-preserved
loop-waiting-preserved c = (
  looked (pairs_of c.args.equals.now) c.args.index.now c.loop-waiting.progress.known.items c.loop-waiting.progress.waits.items c.look_at.new.waits.items
      c.loop-waiting.progress.places.items
      c.look_at.new.places.items c.loop-waiting.progress.done c.loop-waiting.hand.items c.pop.new.self.items c.in-Some.waiting c.loop-waiting.invariant.0
      c.in-Some.ensures.items
      (rw c.as_slice.ensures.value at c.in_ok-look_at.ensures),
  c.loop-waiting.invariant.1,
)
