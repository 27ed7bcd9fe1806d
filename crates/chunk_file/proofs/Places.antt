-- Where chunks stand that follow one another, and how long their bytes are.
use Rattle.std.proofs.Common.{◌≡◌, ℕ, zero, ◌-◌, ◌+◌, ◌≤◌, ◌<◌, List, [], ◌∷◌, ◌++◌, length, drop, Option, Some, None, sym, ap, ◌∙◌, append_assoc, arith, replicate, get_or}
use Rattle.std.specs.List.{flat_map}
use Rattle.std.proofs.lemmas.List.{length-append, length-replicate, at_drop_more}
use Rattle.chunk_file.specs.declared.records.Chunk.{Chunk}
use Rattle.chunk_file.specs.Chunks.{raised, span_at, spans_from, row, content, contents, end_after, end_from}

-- a chunk ends not before it begins
pub after-le : (at : ℕ) (e : Option Chunk) → at ≤ end_after at e
after-le at None = omega arith
after-le at (Some c) = omega arith

pub start-le-end : (at : ℕ) (es : List (Option Chunk)) → at ≤ end_from at es
start-le-end at [] = omega arith
start-le-end at (e ∷ es) = let h = start-le-end (end_after at e) es in omega (arith, h, after-le at e)

-- a chunk's bytes reach from what is before it to its end
pub length-content : (at : ℕ) (e : Option Chunk) → at + length (content at e) ≡ end_after at e
length-content at None = omega arith
length-content at (Some c) =
    let a = length-append (replicate (raised at - at) 0) c.bytes in
    omega (arith, a, length-replicate (raised at - at) zero)

pub length-contents : (at : ℕ) (es : List (Option Chunk)) → at + length (contents at es) ≡ end_from at es
length-contents at [] = omega arith
length-contents at (e ∷ es) =
    let h = length-contents (end_after at e) es in
    let a = length-append (content at e) (contents (end_after at e) es) in
    omega (arith, h, a, length-content at e)

-- ---- a loop over the entries: at the entry i, and behind the last

pub end_more : (at : ℕ) (es : List (Option Chunk)) (i : ℕ) (d : Option Chunk) → i < length es → end_from at (drop i es) ≡ end_from (end_after at (get_or es i d)) (drop (i + 1) es)
end_more at es i d lt = at_drop_more (λ rest. end_from at rest) es i d lt

pub after-room : (at : ℕ) (es : List (Option Chunk)) (i : ℕ) (d : Option Chunk) → i < length es → end_after at (get_or es i d) ≤ end_from at (drop i es)
after-room at es i d lt = let e = end_more at es i d lt in let h = start-le-end (end_after at (get_or es i d)) (drop (i + 1) es) in omega (arith, e, h)

abbrev rows_from : ℕ → List (Option Chunk) → List ℕ
rows_from at es = flat_map row (spans_from at es)

pub rows_more : (out : List ℕ) (at : ℕ) (es : List (Option Chunk)) (i : ℕ) (d : Option Chunk) → i < length es
    → out ++ flat_map row (spans_from at (drop i es)) ≡ (out ++ row (span_at at (get_or es i d))) ++ flat_map row (spans_from (end_after at (get_or es i d)) (drop (i + 1) es))
rows_more out at es i d lt =
    let e = at_drop_more (λ rest. flat_map row (spans_from at rest)) es i d lt in
    ap (λ (x : List ℕ). out ++ x) e ∙ sym (append_assoc out (row (span_at at (get_or es i d))) (flat_map row (spans_from (end_after at (get_or es i d)) (drop (i + 1) es))))

pub contents_more : (out : List ℕ) (at : ℕ) (es : List (Option Chunk)) (i : ℕ) (d : Option Chunk) → i < length es
    → out ++ contents at (drop i es) ≡ (out ++ content at (get_or es i d)) ++ contents (end_after at (get_or es i d)) (drop (i + 1) es)
contents_more out at es i d lt =
    let e = at_drop_more (λ rest. contents at rest) es i d lt in
    ap (λ (x : List ℕ). out ++ x) e ∙ sym (append_assoc out (content at (get_or es i d)) (contents (end_after at (get_or es i d)) (drop (i + 1) es)))
