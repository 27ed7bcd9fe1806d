use Rattle.std.proofs.Common.{ℕ, Bool, List, length, sym, ap, ◌∙◌, subst, map}
use Rattle.asm_names.specs.declared.equals.Equal.{Equal}
use Rattle.asm_names.specs.Equals.{pairs_of}
use Rattle.asm_names.specs.Index.{IsWithin}
use Rattle.asm_names.specs.Search.{is_known}
use Rattle.asm_names.proofs.CallLemmas.{marks_settled}
use Rattle.asm_names.proofs.IndexLemmas.{numbered_within}
use Rattle.asm_names.proofs.OrderLemmas.{known_settled, is_order}
use Rattle.asm_names.proofs.ordering.order_of.Goals as goal

pub marks_of-requires : goal.marks_of-requires
marks_of-requires c =
    subst (λ (n : ℕ). IsWithin c.in_ok-index.index n) (sym (ap (λ (l : List Bool). length l) c.as_slice.ensures.value ∙ c.in_ok-progress.ensures.kept.size))
    (numbered_within (pairs_of c.args.equals.now) c.in_ok-index.index c.in_ok-progress.ensures.kept.index)

pub returns-clause-settled : goal.returns-clause-settled
returns-clause-settled c =
    c.in_ok-settled.ensures ∙ ap (λ (l : List Bool). map (λ (e : Equal). is_known c.in_ok-index.index l e.name.now) c.args.equals.now) c.as_slice.ensures.value
    ∙ marks_settled (pairs_of c.args.equals.now) c.in_ok-index.index c.in_ok-progress.progress.known.items
    (known_settled (pairs_of c.args.equals.now) c.in_ok-index.index c.in_ok-progress.progress.known.items c.in_ok-progress.progress.waits.items
    c.in_ok-progress.progress.places.items
    c.in_ok-progress.progress.done c.in_ok-progress.ensures.kept c.in_ok-progress.ensures.done)
    c.args.equals.now

pub returns-clause-places : goal.returns-clause-places
returns-clause-places c =
    is_order (pairs_of c.args.equals.now) c.in_ok-index.index c.in_ok-progress.progress.known.items c.in_ok-progress.progress.waits.items
    c.in_ok-progress.progress.places.items
    c.in_ok-progress.progress.done c.in_ok-progress.ensures.kept c.in_ok-progress.ensures.done
