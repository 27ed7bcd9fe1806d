use Rattle.std.proofs.Common.{◌≡◌, arith, [], ◌++◌, ◌∷◌, Ok, Err}
use Rattle.std.proofs.lemmas.Result.{err_from_is_err_and}
use Rattle.std.proofs.lemmas.List.{length_push}
use Rattle.chunk_file.specs.Reading.{Gives}
use Rattle.aof_object.specs.Objects.{next_area}
use Rattle.aof_object.proofs.Rows.{of_goes_on, of_ends, of_is_done, total_more, total_room}
use Rattle.aof_object.proofs.areas.read_areas.Goals as goal

pub read_area-requires : goal.read_area-requires
read_area-requires c =
    let room = total_room c.args.heads.now c.loop-head.head-index c.head-item.result c.loop-head-test.true c.head-item.is in
    record { room = omega (arith, room, c.loop-head.invariant.place, c.requires.room); place = c.requires.place }

pub overflow_add-at : goal.overflow_add-at
overflow_add-at c =
    let room = total_room c.args.heads.now c.loop-head.head-index c.head-item.result c.loop-head-test.true c.head-item.is in
    omega (arith, room, c.loop-head.invariant.place, c.requires.room, c.requires.place, c.extent_of-at.ensures.exact)

pub returns-in_err-area : goal.returns-in_err-area
returns-in_err-area c =
    let p = err_from_is_err_and c.from_residual-in_err-area.result c.from_residual-in_err-area.ensures.1 in
    let step = next_area c.args.heads.now c.args.symbols c.args.start c.args.content.now in
    let h : Gives (Err c.in_err-area.field-0.0) (step c.loop-head.areas.items c.head-item.result) = rw (c.loop-head.invariant.many, ← c.loop-head.invariant.place) c.in_err-area.ensures in
    rw (p.1, p.2) (of_ends c.in_err-area.field-0.0 step c.loop-head.areas.items c.args.heads.now c.loop-head.head-index c.head-item.result _ c.loop-head-test.true c.head-item.is h c.loop-head.invariant.so_far)

pub loop-head-preserved : goal.loop-head-preserved
loop-head-preserved c =
    let step = next_area c.args.heads.now c.args.symbols c.args.start c.args.content.now in
    let area = c.in_ok-area.area in
    let h : step c.loop-head.areas.items c.head-item.result ≡ Ok area = rw (c.loop-head.invariant.many, ← c.loop-head.invariant.place) c.in_ok-area.ensures in
    let pushed : c.push.new.self.items ≡ c.loop-head.areas.items ++ area ∷ [] = c.in_ok-push.ensures.items in
    let long = length_push c.loop-head.areas.items area in
    let more = total_more c.args.heads.now c.loop-head.head-index c.head-item.result c.loop-head-test.true c.head-item.is in
    record {
      so_far = rw pushed (of_goes_on step c.loop-head.areas.items c.args.heads.now c.loop-head.head-index c.head-item.result area _ c.loop-head-test.true c.head-item.is h c.loop-head.invariant.so_far);
      many = rw pushed (omega (arith, long, c.loop-head.invariant.many));
      place = omega (arith, more, c.loop-head.invariant.place, c.extent_of-at.ensures.exact);
    }

pub returns : goal.returns
returns c = rw c.from_vec.ensures (of_is_done (next_area c.args.heads.now c.args.symbols c.args.start c.args.content.now) c.loop-head.areas.items c.args.heads.now c.loop-head.head-index _ c.loop-head-test.false c.loop-head.invariant.so_far)
