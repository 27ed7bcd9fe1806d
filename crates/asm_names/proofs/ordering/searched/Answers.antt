use Rattle.std.proofs.Common.{◌≡◌, ℕ, ◌-◌, ◌+◌, ◌<◌, ◌≤◌, length, arith, []}
use Rattle.std.proofs.lemmas.List.{length-map}
use Rattle.asm_names.specs.Equals.{pair_of, pairs_of}
use Rattle.asm_names.proofs.CallLemmas.{places_fit}
use Rattle.asm_names.proofs.ordering.searched.Goals as goal

nearer : (n m done now places : ℕ) → m ≡ n → places ≤ m → done < places → now ≡ done + 1 → n - now < n - done
nearer n m done now places e fit next more = omega arith

pub places-smaller : goal.places-smaller
places-smaller c =
    let h = c.places.invariant in
    let fit = places_fit (pairs_of c.args.equals.now) c.args.index.now c.places.progress.known.items c.places.progress.waits.items
    c.places.progress.places.items c.places.progress.done [] h in
    let ok = c.places.progress.places.ok in
    let test = c.places-test.true in
    let len = c.len.ensures in
    nearer (length c.args.equals.now) (length (pairs_of c.args.equals.now)) c.places.progress.done c.settle_next.new.progress.done
    (length c.places.progress.places.items)
    (length-map c.args.equals.now pair_of) fit (omega (arith, test, len, ok)) c.in_ok-settle_next.ensures.done
