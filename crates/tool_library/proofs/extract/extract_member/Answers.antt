use Rattle.std.proofs.Common.{ℕ, List, [], ◌∷◌, Result, Ok, ap, refl}
use Rattle.sdt_fault.specs.declared.refusal.Refusal.{Refusal}
use Rattle.chunk_file.specs.Reading.{◌>>=◌}
use Rattle.tool_answers.specs.Outcomes.{Outcome, OfOne, writes_one, unprinted}
use Rattle.tool_library.specs.Libraries.{extract, extracted}
use Rattle.tool_library.proofs.AnswerLemmas.{one_unread, refused, wrote, asked_of_one}
use Rattle.tool_library.proofs.extract.extract_member.Goals as goal
use Rattle.sdt_outside.proofs.SharedLemmas.{got_none}

outcome : List ℕ → List ℕ → Result Outcome Refusal
outcome output bytes = Ok (writes_one output bytes)

asked : List ℕ → List ℕ → List ℕ → List ℕ → Result Outcome Refusal
unfolding outcome
asked name member output bytes = extract name member bytes >>= outcome output

pub returns-in-Err : goal.returns-in-Err
unfolding asked outcome
returns-in-Err g c = λ shown faults.
    let o = unprinted shown faults (g.S.Store.files c.args.store.now) (g.S.Store.files c.read_input.new.store) (g.S.Store.read_faults c.args.store.now) (g.S.Store.read_faults c.read_input.new.store) (g.S.Store.write_faults c.args.store.now) (g.S.Store.write_faults c.read_input.new.store) in
    rw c.end_answer.ensures (one_unread c.in-Err.end c.args.library.now (asked c.args.library.now c.args.member.now c.args.output) o c.in-Err.ensures.end (record { files = c.read_input.ensures.files; sink = refl }))

pub returns-in-Ok-extract : goal.returns-in-Ok-extract
unfolding asked outcome
returns-in-Ok-extract g c = λ shown faults.
    let o = unprinted shown faults (g.S.Store.files c.args.store.now) (g.S.Store.files c.write.new.store) (g.S.Store.read_faults c.args.store.now) (g.S.Store.read_faults c.write.new.store) (g.S.Store.write_faults c.args.store.now) (g.S.Store.write_faults c.write.new.store) in
    let f = asked c.args.library.now c.args.member.now c.args.output in
    let is = asked_of_one (g.S.Store.files c.args.store.now) c.args.library.now c.in-Ok.bytes f _ c.in-Ok.ensures.found in
    let made = rw c.as_slice.ensures at c.in-Ok-extract.ensures.value in
    let says = rw (c.as_slice-in-Ok-extract.ensures, c.read_input.ensures.files, c.read_input.ensures.write_faults) at c.write.ensures.says in
    wrote c.write.result c.args.output c.in-Ok-extract.object (f c.in-Ok.bytes) (c.args.library.now ∷ []) (extracted c.args.library.now c.args.member.now c.args.output) (OfOne f) o is
    (ap (λ x. x >>= outcome c.args.output) made) (got_none shown) refl says

pub returns-in-Err-extract : goal.returns-in-Err-extract
unfolding asked outcome
returns-in-Err-extract g c = λ shown faults.
    let o = unprinted shown faults (g.S.Store.files c.args.store.now) (g.S.Store.files c.read_input.new.store) (g.S.Store.read_faults c.args.store.now) (g.S.Store.read_faults c.read_input.new.store) (g.S.Store.write_faults c.args.store.now) (g.S.Store.write_faults c.read_input.new.store) in
    let f = asked c.args.library.now c.args.member.now c.args.output in
    let is = asked_of_one (g.S.Store.files c.args.store.now) c.args.library.now c.in-Ok.bytes f _ c.in-Ok.ensures.found in
    let gives = rw c.as_slice.ensures at c.in-Err-extract.ensures.value in
    rw c.fault_answer.ensures (refused c.in-Err-extract.fault (extract c.args.library.now c.args.member.now c.in-Ok.bytes) (outcome c.args.output) (c.args.library.now ∷ []) (extracted c.args.library.now c.args.member.now c.args.output) (OfOne f) o gives is (record { files = c.read_input.ensures.files; sink = refl }))
