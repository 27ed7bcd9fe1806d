use Rattle.std.proofs.Common.{◌+◌, ◌*◌, ◌^◌, ◌≤◌, arith, length, List, Option, ℕ}
use Rattle.chunk_file.specs.declared.records.Chunk.{Chunk}
use Rattle.chunk_file.specs.Chunks.{end_from}
use Rattle.chunk_file.proofs.Places.{start-le-end}
use Rattle.chunk_file.proofs.writing.spelled_len.Goals as goal

many : (n : ℕ) (es : List (Option Chunk)) → 2 ^ 28 ≤ n → 2 ^ 32 ≤ end_from (12 + 16 * n) es
many n es h = let room = start-le-end (12 + 16 * n) es in omega (arith, room)

pub returns-then-list : goal.returns-then-list
returns-then-list c = many (length c.args.c.now.list) c.args.c.now.list (rw (← c.as_slice-list.ensures) c.if-list.true)
