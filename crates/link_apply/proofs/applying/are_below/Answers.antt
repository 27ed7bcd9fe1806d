use Rattle.std.proofs.Common.{◌≡◌, true, sym, subst, take, length, refl}
use Rattle.std.proofs.lemmas.List.{take_all}
use Rattle.std.proofs.lemmas.Option.{slice_get_read}
use Rattle.link_apply.specs.Sites.{AreAllBelow}
use Rattle.link_apply.specs.Starts.{AreBelow}
use Rattle.link_apply.proofs.PatchingLemmas.{each_more, next_taken}
use Rattle.link_apply.proofs.applying.are_below.Goals as goal

pub values-preserved : goal.values-preserved
values-preserved c =
    let xs = c.args.values.now in
    let i = c.values.symbols-index in
    let there = slice_get_read xs (length xs) i c.symbols-item.result refl c.values-test.true c.symbols-item.is in
    let fine : c.is_below.result ≡ true = c.if-not-is_below.false in
    subst AreAllBelow (sym (next_taken xs i c.symbols-item.result there))
    (each_more AreBelow (take i xs) c.symbols-item.result c.values.invariant (subst AreBelow c.as_slice.ensures (c.is_below.ensures fine)))

pub returns : goal.returns
returns c = λ _. subst AreAllBelow (take_all c.values.symbols-index c.args.values.now c.values-test.false) c.values.invariant
