use Rattle.std.proofs.Common.{ℕ, ◌<◌, length, refl, subst, arith, [], get_or}
use Rattle.std.proofs.lemmas.List.{length-map}
use Rattle.std.proofs.lemmas.Option.{slice_get_read}
use Rattle.asm_names.specs.Equals.{pair_of, pairs_of}
use Rattle.asm_names.proofs.IndexLemmas.{is_numbered, numbered_within}
use Rattle.asm_names.proofs.CallLemmas.{pair_there, place_within}
use Rattle.asm_names.proofs.SearchLemmas.{settle}
use Rattle.asm_names.proofs.search.settle_next.Goals as goal

pub bounds-equals-equal : goal.bounds-equals-equal
bounds-equals-equal c =
    subst (λ (n : ℕ). c.index.result.now < n) (length-map c.args.equals.now pair_of)
    (place_within (pairs_of c.args.equals.now) c.args.index.now c.args.progress.now.known.items c.args.progress.now.waits.items c.args.progress.now.places.items
    c.args.progress.now.done [] c.requires.kept c.args.progress.now.done c.index.result.now
    (slice_get_read c.args.progress.now.places.items (length c.args.progress.now.places.items) c.args.progress.now.done c.index.result.now refl c.requires.next
    c.index.ensures))

pub bounds-equals-equal-2 : goal.bounds-equals-equal-2
bounds-equals-equal-2 c =
    subst (λ (n : ℕ). c.index.result.now < n) (length-map c.args.equals.now pair_of)
    (place_within (pairs_of c.args.equals.now) c.args.index.now c.args.progress.now.known.items c.args.progress.now.waits.items c.args.progress.now.places.items
    c.args.progress.now.done [] c.requires.kept c.args.progress.now.done c.index.result.now
    (slice_get_read c.args.progress.now.places.items (length c.args.progress.now.places.items) c.args.progress.now.done c.index.result.now refl c.requires.next
    c.index.ensures))

pub number_of-number-requires : goal.number_of-number-requires
number_of-number-requires c =
    is_numbered (pairs_of c.args.equals.now) c.args.index.now c.requires.kept.index c.index.result.now
    (pair_of (get_or c.args.equals.now c.index.result.now c.index-equals-equal.result))
    (pair_there c.args.equals.now c.index.result.now c.index-equals-equal.result
    (subst (λ (n : ℕ). c.index.result.now < n) (length-map c.args.equals.now pair_of)
    (place_within (pairs_of c.args.equals.now) c.args.index.now c.args.progress.now.known.items c.args.progress.now.waits.items c.args.progress.now.places.items
    c.args.progress.now.done [] c.requires.kept c.args.progress.now.done c.index.result.now
    (slice_get_read c.args.progress.now.places.items (length c.args.progress.now.places.items) c.args.progress.now.done c.index.result.now refl c.requires.next
    c.index.ensures))))

pub index_mut-requires : goal.index_mut-requires
index_mut-requires c =
    let below : c.number_of-number.result < length (pairs_of c.args.equals.now) =
    (numbered_within (pairs_of c.args.equals.now) c.args.index.now c.requires.kept.index).below
    (pair_of (get_or c.args.equals.now c.index.result.now c.index-equals-equal.result)).0 c.number_of-number.result c.number_of-number.ensures in
    let size = c.requires.kept.size in
    let ok = c.args.progress.now.known.ok in
    omega (arith, below, size, ok)

pub take_waiting-hand-requires : goal.take_waiting-hand-requires
take_waiting-hand-requires c =
    let below : c.number_of-number.result < length (pairs_of c.args.equals.now) =
    (numbered_within (pairs_of c.args.equals.now) c.args.index.now c.requires.kept.index).below
    (pair_of (get_or c.args.equals.now c.index.result.now c.index-equals-equal.result)).0 c.number_of-number.result c.number_of-number.ensures in
    let lists = c.requires.kept.lists in
    omega (arith, below, lists)

pub look_at_all-requires : goal.look_at_all-requires
look_at_all-requires c =
    settle (pairs_of c.args.equals.now) c.args.index.now c.args.progress.now.known.items c.args.progress.now.waits.items c.take_waiting-hand.new.waits.items
    c.args.progress.now.places.items
    c.args.progress.now.done c.index.result.now c.number_of-number.result (pair_of (get_or c.args.equals.now c.index.result.now c.index-equals-equal.result))
    c.take_waiting-hand.result.items c.requires.kept c.requires.next (slice_get_read c.args.progress.now.places.items
    (length c.args.progress.now.places.items) c.args.progress.now.done c.index.result.now refl c.requires.next c.index.ensures)
    (pair_there c.args.equals.now c.index.result.now c.index-equals-equal.result
    (subst (λ (n : ℕ). c.index.result.now < n) (length-map c.args.equals.now pair_of)
    (place_within (pairs_of c.args.equals.now) c.args.index.now c.args.progress.now.known.items c.args.progress.now.waits.items c.args.progress.now.places.items
    c.args.progress.now.done [] c.requires.kept c.args.progress.now.done c.index.result.now
    (slice_get_read c.args.progress.now.places.items (length c.args.progress.now.places.items) c.args.progress.now.done c.index.result.now refl c.requires.next
    c.index.ensures)))) c.number_of-number.ensures c.take_waiting-hand.ensures
