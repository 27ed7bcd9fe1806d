-- Writing members one after the other, as a loop does; and a member that is too large for any file.
use Rattle.std.proofs.Common.{◌≡◌, ℕ, zero, suc, ◌+◌, ◌^◌, ◌≤◌, ◌<◌, List, [], ◌∷◌, ◌++◌, length, drop, take, map, get_or, Option, Err, sym, ap, ◌∙◌, append_assoc, arith}
use Rattle.std.proofs.lemmas.List.{drop_more, map_more}
use Rattle.sdt_fault.specs.declared.answer.Fault.{Fault}
use Rattle.sdt_fault.specs.declared.answer.Fault.TheVariants as fault
use Rattle.chunk_file.specs.declared.records.Chunk.{Chunk}
use Rattle.chunk_file.specs.Chunks.{end_after, end_from}
use Rattle.chunk_file.proofs.Places.{start-le-end}
use Rattle.aof_object.specs.Spelling as object
use Rattle.alf_archive.specs.declared.records.Member.{Member}
use Rattle.alf_archive.specs.Numbered.{numbered}
use Rattle.alf_archive.specs.Spelling.{member_chunk, SpellsMember, SpellsMembers}

pub four : (o o1 o2 o3 o4 a b c d : List ℕ) → o1 ≡ o ++ a → o2 ≡ o1 ++ b → o3 ≡ o2 ++ c → o4 ≡ o3 ++ d → o4 ≡ o ++ (a ++ (b ++ (c ++ d)))
four o o1 o2 o3 o4 a b c d e1 e2 e3 e4 =
    let whole : o4 ≡ ((o ++ a) ++ b) ++ c ++ d =
    e4 ∙ ap (λ (x : List ℕ). x ++ d) (e3 ∙ ap (λ (x : List ℕ). x ++ c) (e2 ∙ ap (λ (x : List ℕ). x ++ b) e1)) in
    let grouped : ((o ++ a) ++ b) ++ c ++ d ≡ o ++ (a ++ (b ++ (c ++ d))) = simp append_assoc in
    whole ∙ grouped

pub numbered_more : {A B : Type 0} (f : ℕ → A → List B) (xs : List A) (w : List B) (i at next : ℕ) (x : A) (so_far after : List B) → i < length xs → x ≡ get_or xs i x → next ≡ at + 1 → after ≡ so_far ++ f at x
    → so_far ++ numbered f at (drop i xs) ≡ w → after ++ numbered f next (drop (i + 1) xs) ≡ w
numbered_more {A} {B} f xs w i at next x so_far after lt is step more h =
    let rest = drop (i + 1) xs in
    let d : drop i xs ≡ x ∷ rest = drop_more xs i x lt ∙ ap (λ y. y ∷ rest) (sym is) in
    ap (λ (k : ℕ). after ++ numbered f k rest) step ∙ ap (λ (b : List B). b ++ numbered f (at + 1) rest) more ∙ append_assoc so_far (f at x) (numbered f (at + 1) rest)
    ∙ sym (ap (λ (ys : List A). so_far ++ numbered f at ys) d) ∙ h

-- ---- the members' chunks

pub chunks_more : (old so_far after : List (Option Chunk)) (ms : List Member) (i : ℕ) (x : Member) (e : Option Chunk) → i < length ms → x ≡ get_or ms i x → e ≡ member_chunk x
    → so_far ≡ old ++ map member_chunk (take i ms) → after ≡ so_far ++ e ∷ [] → after ≡ old ++ map member_chunk (take (i + 1) ms)
chunks_more old so_far after ms i x e lt is chunk before more =
    let front : List (Option Chunk) = map member_chunk (take i ms) in
    let next : map member_chunk (take (i + 1) ms) ≡ front ++ member_chunk x ∷ [] = map_more member_chunk ms i x lt ∙ ap (λ (y : Member). front ++ member_chunk y ∷ []) (sym is) in
    more ∙ ap (λ (y : Option Chunk). so_far ++ y ∷ []) chunk ∙ ap (λ (z : List (Option Chunk)). z ++ member_chunk x ∷ []) before ∙ append_assoc old front (member_chunk x ∷ [])
    ∙ sym (ap (λ (z : List (Option Chunk)). old ++ z) next)

large_end : (at : ℕ) (ms : List Member) (i : ℕ) (x : Member) → i < length ms → x ≡ get_or ms i x → 2 ^ 32 ≤ length (object.spelled x.object) → 2 ^ 32 ≤ end_from at (map member_chunk ms)
large_end at [] i x lt is big = absurd (omega arith)
large_end at (m ∷ ms) zero x lt is big =
    let same : length (object.spelled x.object) ≡ length (object.spelled m.object) = ap (λ (y : Member). length (object.spelled y.object)) is in
    let room = start-le-end (end_after at (member_chunk m)) (map member_chunk ms) in
    omega (arith, room, same, big)
large_end at (m ∷ ms) (suc i) x lt is big = large_end (end_after at (member_chunk m)) ms i x (omega arith) is big

pub members_fail : (e : Fault) (before after : List (Option Chunk)) (ms : List Member) (i : ℕ) (x : Member) → i < length ms → x ≡ get_or ms i x → SpellsMember (Err e) x → SpellsMembers (Err e) before after ms
members_fail fault.NoMemory before after ms i x lt is h = tt
members_fail (fault.Refused r) before after ms i x lt is h = (h.0, λ at. large_end at ms i x lt is h.1)
members_fail (fault.ReadFault name) before after ms i x lt is h = h
