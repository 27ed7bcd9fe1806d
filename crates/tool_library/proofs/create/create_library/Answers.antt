use Rattle.std.proofs.Common.{ℕ, List, Result, Ok, ap, refl}
use Rattle.sdt_fault.specs.declared.refusal.Refusal.{Refusal}
use Rattle.chunk_file.specs.Reading.{◌>>=◌}
use Rattle.tool_answers.specs.Outcomes.{Outcome, OfAll, writes_one, unprinted}
use Rattle.tool_library.specs.Libraries.{library_of, created}
use Rattle.tool_library.proofs.AnswerLemmas.{unread, refused, wrote, asked_of_all}
use Rattle.tool_library.proofs.create.create_library.Goals as goal
use Rattle.sdt_outside.proofs.SharedLemmas.{got_none}

outcome : List ℕ → List ℕ → Result Outcome Refusal
outcome output bytes = Ok (writes_one output bytes)

asked : List ℕ → List (List ℕ) → List (List ℕ) → Result Outcome Refusal
unfolding outcome
asked output names contents = library_of names contents >>= outcome output

pub returns-in-Err : goal.returns-in-Err
unfolding asked outcome
returns-in-Err g c = λ shown faults.
    let o = unprinted shown faults (g.S.Store.files c.args.store.now) (g.S.Store.files c.read_inputs.new.store) (g.S.Store.read_faults c.args.store.now) (g.S.Store.read_faults c.read_inputs.new.store) (g.S.Store.write_faults c.args.store.now) (g.S.Store.write_faults c.read_inputs.new.store) in
    rw c.end_answer.ensures (unread c.in-Err.end c.args.objects.now (asked c.args.library c.args.objects.now) o c.in-Err.ensures.end (record { files = c.read_inputs.ensures.files; sink = refl }))

pub returns-in-Ok-library_of : goal.returns-in-Ok-library_of
unfolding asked outcome
returns-in-Ok-library_of g c = λ shown faults.
    let o = unprinted shown faults (g.S.Store.files c.args.store.now) (g.S.Store.files c.write.new.store) (g.S.Store.read_faults c.args.store.now) (g.S.Store.read_faults c.write.new.store) (g.S.Store.write_faults c.args.store.now) (g.S.Store.write_faults c.write.new.store) in
    let is = asked_of_all (g.S.Store.files c.args.store.now) c.args.objects.now c.in-Ok.contents.items (asked c.args.library c.args.objects.now) _ c.in-Ok.ensures.found c.in-Ok.ensures.count in
    let made = rw c.as_slice.ensures.value at c.in-Ok-library_of.ensures.value in
    let says = rw (c.as_slice-in-Ok-library_of.ensures, c.read_inputs.ensures.files, c.read_inputs.ensures.write_faults) at c.write.ensures.says in
    wrote c.write.result c.args.library c.in-Ok-library_of.bytes (asked c.args.library c.args.objects.now c.in-Ok.contents.items) c.args.objects.now (created c.args.library c.args.objects.now) (OfAll (asked c.args.library c.args.objects.now) c.args.objects.now) o is
    (ap (λ x. x >>= outcome c.args.library) made) (got_none shown) refl says

pub returns-in-Err-library_of : goal.returns-in-Err-library_of
unfolding asked outcome
returns-in-Err-library_of g c = λ shown faults.
    let o = unprinted shown faults (g.S.Store.files c.args.store.now) (g.S.Store.files c.read_inputs.new.store) (g.S.Store.read_faults c.args.store.now) (g.S.Store.read_faults c.read_inputs.new.store) (g.S.Store.write_faults c.args.store.now) (g.S.Store.write_faults c.read_inputs.new.store) in
    let is = asked_of_all (g.S.Store.files c.args.store.now) c.args.objects.now c.in-Ok.contents.items (asked c.args.library c.args.objects.now) _ c.in-Ok.ensures.found c.in-Ok.ensures.count in
    let gives = rw c.as_slice.ensures.value at c.in-Err-library_of.ensures.value in
    rw c.fault_answer.ensures (refused c.in-Err-library_of.fault (library_of c.args.objects.now c.in-Ok.contents.items) (outcome c.args.library) c.args.objects.now (created c.args.library c.args.objects.now) (OfAll (asked c.args.library c.args.objects.now) c.args.objects.now) o gives is (record { files = c.read_inputs.ensures.files; sink = refl }))
