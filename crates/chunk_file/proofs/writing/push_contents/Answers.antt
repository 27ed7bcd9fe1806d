use Rattle.std.proofs.Common.{arith, drop, length}
use Rattle.chunk_file.proofs.Places.{start-le-end}
use Rattle.chunk_file.proofs.writing.push_contents.Goals as goal

pub push_chunk-requires : goal.push_chunk-requires
push_chunk-requires c =
    let room = start-le-end (length c.loop-chunk.out.items) (drop c.loop-chunk.chunk-index c.args.list.now) in
    omega (arith, room, c.loop-chunk.invariant.room, c.requires)
