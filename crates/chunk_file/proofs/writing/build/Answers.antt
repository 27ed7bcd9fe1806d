use Rattle.std.proofs.Common.{◌≡◌, ◌+◌, ◌*◌, ◌^◌, ◌<◌, ◌++◌, ℕ, List, [], Option, length, arith, ap, ◌∙◌}
use Rattle.chunk_file.specs.declared.records.Chunk.{Chunk}
use Rattle.chunk_file.specs.Chunks.{end_from, head}
use Rattle.chunk_file.proofs.Places.{start-le-end}
use Rattle.chunk_file.proofs.writing.build.Goals as goal

room : (n : ℕ) (es : List (Option Chunk)) → end_from (12 + 16 * n) es < 2 ^ 32 → n < 2 ^ 32
room n es h = let r = start-le-end (12 + 16 * n) es in omega (arith, r)

pub push_head-requires : goal.push_head-requires
push_head-requires c = rw c.as_slice-list.ensures (room (length c.args.c.now.list) c.args.c.now.list c.requires)

behind : (out headed tabled : List ℕ) (list es : List (Option Chunk)) → out ≡ [] → headed ≡ out ++ head (length list) → length tabled ≡ length headed + 16 * length list
    → list ≡ es → end_from (12 + 16 * length es) es < 2 ^ 32 → end_from (length tabled) list < 2 ^ 32
behind out headed tabled list es empty h t same fits =
    let long : length headed ≡ 12 = ap length h ∙ ap (λ (x : List ℕ). length (x ++ head (length list))) empty in
    let at : length tabled ≡ 12 + 16 * length list = omega (arith, long, t) in
    rw (at, same) fits

pub push_contents-requires : goal.push_contents-requires
push_contents-requires c = behind _ _ _ _ _ c.in_ok-out.ensures.items c.in_ok-push_head.ensures c.in_ok-push_table.ensures.long c.as_slice-list.ensures c.requires
