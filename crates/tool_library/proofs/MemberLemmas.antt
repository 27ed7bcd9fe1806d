-- Members one after the other.
use Rattle.std.proofs.Common.{◌≡◌, ℕ, suc, ◌+◌, ◌<◌, List, ◌∷◌, ◌++◌, length, drop, get_or, Result, Ok, Err, sym, ap, ◌∙◌, subst, bytes_eq, true, cond}
use Rattle.std.proofs.Math.Seq.{drop-cons}
use Rattle.sdt_fault.specs.declared.refusal.Refusal.{Refusal}
use Rattle.chunk_file.specs.Reading.{◌>>=◌}
use Rattle.alf_archive.specs.declared.records.Member.{Member}
use Rattle.tool_library.specs.Libraries.{member_named, extract_from}
use Rattle.chunk_file.specs.Reading.{Gives}
use Rattle.aof_object.specs.Spelling as object
use Rattle.sdt_fault.specs.declared.answer.Fault.{Fault}

-- what others give, behind some members
abbrev pub behind : List Member → Result (List Member) Refusal → Result (List Member) Refusal
behind ms (Ok others) = Ok (ms ++ others)
behind ms (Err r) = Err r

-- the member at a place where the name was found
pub placed : (ms : List Member) (place : ℕ) (name : List ℕ) (r m : Member) → place < length ms → r ≡ get_or ms place r → m ≡ get_or ms place m → bytes_eq r.name name ≡ true
    → member_named name (drop place ms) ≡ member_named name ms → member_named name ms ≡ Ok m
placed ms place name r m lt er em test left =
    let dr : drop place ms ≡ r ∷ drop (suc place) ms = drop-cons ms place r lt ∙ ap (λ (x : Member). x ∷ drop (suc place) ms) (sym er) in
    let dm : drop place ms ≡ m ∷ drop (suc place) ms = drop-cons ms place m lt ∙ ap (λ (x : Member). x ∷ drop (suc place) ms) (sym em) in
    let same : r ≡ m = (let e : r ∷ drop (suc place) ms ≡ m ∷ drop (suc place) ms = sym dr ∙ dm in cc) in
    let here : member_named name (r ∷ drop (suc place) ms) ≡ Ok r = ap (λ b. cond b (Ok r) (member_named name (drop (suc place) ms))) test in
    sym left ∙ (ap (member_named name) dr ∙ (here ∙ ap Ok same))

pub taken : (name : List ℕ) (ms : List Member) (m : Member) (r : Result (List ℕ) Fault) → member_named name ms ≡ Ok m → Gives r (object.written m.object) → Gives r (extract_from name ms)
taken name ms m r e h = subst (Gives r) (sym (ap (λ x. x >>= λ m'. object.written m'.object) e)) h
