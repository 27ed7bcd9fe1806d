use Rattle.std.proofs.Common.{◌≡◌, ℕ, ◌^◌, ◌≤◌, ◌<◌, arith, List, length, drop, get_or, Option}
use Rattle.chunk_file.specs.declared.records.Chunk.{Chunk}
use Rattle.chunk_file.specs.Chunks.{end_from, end_after}
use Rattle.chunk_file.proofs.Places.{after-room}
use Rattle.chunk_file.proofs.writing.end_of.Goals as goal

-- an entry that ends at 2^32 or beyond ends no later than the whole list
beyond : (at i : ℕ) (es : List (Option Chunk)) (e : Option Chunk) (whole : ℕ) → i < length es → e ≡ get_or es i e → end_from at (drop i es) ≡ whole → 2 ^ 32 ≤ end_after at e → 2 ^ 32 ≤ whole
beyond at i es e whole lt is total big =
    let room = after-room at es i e lt in
    let here : end_after at e ≤ end_from at (drop i es) = rw is room in
    omega (arith, here, total, big)

pub returns-in_err-end : goal.returns-in_err-end
returns-in_err-end c =
    rw c.from_residual.ensures (beyond c.loop-chunk.end c.loop-chunk.chunk-index c.args.list.now c.chunk-item.result _ c.loop-chunk-test.true c.chunk-item.is c.loop-chunk.invariant.0 c.in_err-end.ensures)
