use Rattle.std.proofs.Common.{arith}
use Rattle.chunk_file.proofs.Places.{after-room}
use Rattle.chunk_file.proofs.writing.push_table.Goals as goal

pub push_row-requires : goal.push_row-requires
push_row-requires c =
    let item = c.chunk-item.result in
    let room = after-room c.loop-chunk.at c.args.list.now c.loop-chunk.chunk-index item c.loop-chunk-test.true in
    rw c.chunk-item.is (omega (arith, room, c.loop-chunk.invariant.room, c.requires))
