use Rattle.std.proofs.Common.{ℕ, List, [], ◌∷◌, Result, Ok, ap, refl}
use Rattle.sdt_fault.specs.declared.refusal.Refusal.{Refusal}
use Rattle.chunk_file.specs.Reading.{◌>>=◌}
use Rattle.tool_answers.specs.Outcomes.{Outcome, OfOne, prints_only, unprinted}
use Rattle.tool_library.specs.Shown.{asked, prints, text_shown}
use Rattle.tool_library.proofs.AnswerLemmas.{one_unread, refused, printed, asked_of_one}
use Rattle.tool_library.proofs.printing.print_file.Goals as goal

abbrev outcome : List ℕ → Result Outcome Refusal
outcome text = Ok (prints_only text)

pub returns-in-Err : goal.returns-in-Err
returns-in-Err g c =
    rw c.end_answer.ensures (one_unread c.in-Err.end c.args.file.now (prints c.args.shown c.args.file.now)
    (unprinted (g.K.Sink.bytes c.args.sink.now) (g.K.Sink.faults c.args.sink.now)
    (g.S.Store.files c.args.store.now) (g.S.Store.files c.read_input.new.store)
    (g.S.Store.read_faults c.args.store.now) (g.S.Store.read_faults c.read_input.new.store)
    (g.S.Store.write_faults c.args.store.now) (g.S.Store.write_faults c.read_input.new.store))
    c.in-Err.ensures.end (record { files = c.read_input.ensures.files; sink = refl }))

pub returns-in-Ok-text_of : goal.returns-in-Ok-text_of
returns-in-Ok-text_of g c =
    let f = prints c.args.shown c.args.file.now in
    let is = asked_of_one (g.S.Store.files c.args.store.now) c.args.file.now c.in-Ok.bytes f _ c.in-Ok.ensures.found in
    let made = rw c.as_slice.ensures at c.in-Ok-text_of.ensures in
    let says = rw c.as_slice-in-Ok-text_of.ensures at c.print.ensures.says in
    printed c.print.result c.in-Ok-text_of.text (f c.in-Ok.bytes) (c.args.file.now ∷ []) (asked c.args.shown c.args.file.now) (OfOne f)
    (record {
      before = g.S.Store.files c.args.store.now;
      after = g.S.Store.files c.read_input.new.store;
      printed = g.K.Sink.bytes c.args.sink.now;
      prints = g.K.Sink.bytes c.print.new.sink;
      reads = g.S.Store.read_faults c.args.store.now;
      reads_now = g.S.Store.read_faults c.read_input.new.store;
      writes = g.S.Store.write_faults c.args.store.now;
      writes_now = g.S.Store.write_faults c.read_input.new.store;
      faults = g.K.Sink.faults c.args.sink.now;
      faults_now = g.K.Sink.faults c.print.new.sink;
    }) is (ap (λ x. x >>= outcome) {x = text_shown c.args.shown c.args.file.now c.in-Ok.bytes} made) c.read_input.ensures.files says

pub returns : goal.returns
returns g c =
    let f = prints c.args.shown c.args.file.now in
    let is = asked_of_one (g.S.Store.files c.args.store.now) c.args.file.now c.in-Ok.bytes f _ c.in-Ok.ensures.found in
    let gives = rw c.as_slice.ensures at c.in-Err-text_of.ensures in
    rw c.fault_answer.ensures (refused c.in-Err-text_of.fault (text_shown c.args.shown c.args.file.now c.in-Ok.bytes) outcome
    (c.args.file.now ∷ []) (asked c.args.shown c.args.file.now) (OfOne f)
    (unprinted (g.K.Sink.bytes c.args.sink.now) (g.K.Sink.faults c.args.sink.now)
    (g.S.Store.files c.args.store.now) (g.S.Store.files c.read_input.new.store)
    (g.S.Store.read_faults c.args.store.now) (g.S.Store.read_faults c.read_input.new.store)
    (g.S.Store.write_faults c.args.store.now) (g.S.Store.write_faults c.read_input.new.store))
    gives is (record { files = c.read_input.ensures.files; sink = refl }))
