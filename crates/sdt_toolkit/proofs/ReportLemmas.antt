-- What files report and ask for, and answers to it, by their ends.
use Rattle.std.proofs.Common.{◌≡◌, ℕ, List, [], ◌∷◌, length, true, Option, Some, None, Result, Ok, Err, refl, sym, ap, ◌∙◌, subst, inl, inr}
use Rattle.sdt_word.specs.declared.ranges.Range32.{Range32}
use Rattle.sdt_fault.specs.declared.answer.Answer.{Answer}
use Rattle.sdt_fault.specs.declared.answer.Answer.TheVariants as answer
use Rattle.sdt_fault.specs.declared.answer.Fault.{Fault}
use Rattle.sdt_fault.specs.declared.answer.Fault.TheVariants as fault
use Rattle.sdt_fault.specs.declared.refusal.Refusal.{Refusal}
use Rattle.sdt_fault.specs.declared.refusal.Refusal.TheVariants.{Missing}
use Rattle.sdt_outside.specs.Counts.{Rose}
use Rattle.sdt_outside.specs.Files.{Files}
use Rattle.chunk_file.specs.Reading.{◌>>=◌}
use Rattle.aof_object.specs.declared.records.Object.{Object}
use Rattle.armasm_core.specs.Assembling.{OneAssembly}
use Rattle.link_model.specs.declared.selection.Named.{Named}
use Rattle.link_model.specs.Chosen.{LinkedLaw}
use Rattle.tool_words.specs.declared.command.Bank.{Bank}
use Rattle.tool_words.specs.declared.command.LinkPlacement.{LinkPlacement}
use Rattle.tool_words.specs.declared.command.ReportWords.{ReportWords}
use Rattle.tool_answers.specs.declared.inputs.InputEnd.{InputEnd}
use Rattle.tool_answers.specs.declared.inputs.InputEnd.TheVariants as end
use Rattle.tool_answers.specs.Inputs.{AreInputs, InputsEnd, inputs_of}
use Rattle.tool_answers.specs.Outcomes.{AreWritten, IsLeft, Outcome, Outside, Prints, prints_only}
use Rattle.tool_library.specs.declared.linkables.Linkable.{Linkable}
use Rattle.tool_library.specs.Libraries.{end_answer, fault_answer}
use Rattle.sdt_toolkit.specs.Inputs.{InputsAre, IsGot, Tells, archives_among, objects_among}
use Rattle.sdt_toolkit.specs.Links.{inputs_in, text_in}
use Rattle.sdt_toolkit.specs.Reads.{Reads, TellsOf, reads_of}
use Rattle.sdt_toolkit.specs.Reports.{FilesAsk, InputsReport, OneReportAsked, ReadAsks, ReportAnswers, ReportAsked, ReportAsks, ReportIs, Reports, prints_text, report_as, report_reads}
use Rattle.sdt_toolkit.proofs.LinkOnce.{OverFiles, inputs_once, ram_once}

-- ---- what is reported

abbrev pub Told : Reads → ReportWords → List (List ℕ) → Result (List ℕ) Fault → Type 0
Told s w contents r = TellsOf s r (Reports s w contents) (IsGot s.told true w.names (inputs_in w.placement contents))

pub no_inputs : (s : Reads) (w : ReportWords) (contents : List (List ℕ)) (f : Fault)
    → TellsOf {A = List (Named Linkable)} s (Err f) (InputsAre s true w.names (inputs_in w.placement contents)) (IsGot s.told true w.names (inputs_in w.placement contents))
    → Told s w contents (Err f)
no_inputs s w contents (fault.Refused r) h = record { inputs = Err r; judged = h; told = refl }
no_inputs s w contents (fault.ReadFault q) h = h
no_inputs s w contents fault.NoMemory h = tt

pub inputs_told : (s : Reads) (w : ReportWords) (contents : List (List ℕ)) (inputs : List (Named Linkable)) (r : Result (List ℕ) Fault)
    → InputsAre s true w.names (inputs_in w.placement contents) (Ok inputs) → Tells r (InputsReport w (text_in w.placement contents) (Ok inputs)) → Told s w contents r
inputs_told s w contents inputs (Ok text) judged h = record { inputs = Ok inputs; judged = judged; told = h }
inputs_told s w contents inputs (Err (fault.Refused r)) judged h = record { inputs = Ok inputs; judged = judged; told = h }
inputs_told s w contents inputs (Err (fault.ReadFault q)) judged h = absurd h
inputs_told s w contents inputs (Err fault.NoMemory) judged h = tt

-- ---- what is asked

contents_ask : (told : Option Files) (s : Reads) (w : ReportWords) (contents : List (List ℕ)) (asked : Result Outcome Refusal)
    → AreInputs told (report_reads w) contents → length contents ≡ length (report_reads w) → ReportAsks s w contents asked → FilesAsk told s w asked
contents_ask None s w contents asked read count asks = inl (contents, count, asks)
contents_ask (Some files) s w contents asked read count asks =
    subst (λ (x : Result (List (List ℕ)) Refusal). ReadAsks s w x asked) (sym read) asks

missing_asks : (told : Option Files) (s : Reads) (w : ReportWords) (name : List ℕ) → InputsEnd (end.Missing name) told (report_reads w) (Rose s.before s.now)
    → FilesAsk told s w (Err (Missing name))
missing_asks None s w name h = inr (name, refl, h.0, h.1)
missing_asks (Some files) s w name h =
    subst (λ (x : Result (List (List ℕ)) Refusal). ReadAsks s w x (Err (Missing name))) (sym h) refl

-- ---- answers

pub unread : (e : InputEnd) (w : ReportWords) (o : Outside) → InputsEnd e o.before (report_reads w) (Rose o.reads o.reads_now) → IsLeft o → ReportAnswers w o (end_answer e)
unfolding ReportAnswers
unread (end.Missing name) w o h left = (Err (Missing name), missing_asks o.before (reads_of o) w name h, (refl, left))
unread (end.Failed name) w o h left = (h.0, inl h.1, left)
unread end.NoMemory w o h left = left

pub refused : (f : Fault) (w : ReportWords) (contents : List (List ℕ)) (o : Outside) → AreInputs o.before (report_reads w) contents → length contents ≡ length (report_reads w)
    → Told (reads_of o) w contents (Err f) → IsLeft o → ReportAnswers w o (fault_answer f)
unfolding ReportAnswers
refused (fault.Refused r) w contents o read count h left =
    let asks : ReportAsks (reads_of o) w contents (Err r) = record { report = Err r; reports = h; outcome = refl } in
    (Err r, contents_ask o.before (reads_of o) w contents (Err r) read count asks, (refl, left))
refused (fault.ReadFault q) w contents o read count h left = (h.0, inr (contents, read, h.1), left)
refused fault.NoMemory w contents o read count h left = left

none_written : (before after : Option Files) → after ≡ before → AreWritten before after []
none_written None after h = h
none_written (Some files) after h = h

by_answer : (a : Answer) (w : ReportWords) (text : List ℕ) (o : Outside) → ReportAsked (reads_of o) w (Ok (prints_only text)) → o.after ≡ o.before
    → Prints text o.printed o.prints (Rose o.faults o.faults_now) a → ReportAnswers w o a
unfolding ReportAnswers
by_answer answer.Done w text o asked same h = (Ok (prints_only text), asked, (prints_only text, refl, none_written o.before o.after same, h))
by_answer answer.SinkFault w text o asked same h = (Ok (prints_only text), asked, (h.0, (prints_only text, refl, none_written o.before o.after same, h.1)))
by_answer (answer.WriteFault q) w text o asked same h = absurd h
by_answer answer.NoMemory w text o asked same h = absurd h
by_answer (answer.Refused r) w text o asked same h = absurd h
by_answer (answer.ReadFault q) w text o asked same h = absurd h
by_answer (answer.Stopped stop) w text o asked same h = absurd h

pub printed : (a : Answer) (w : ReportWords) (contents : List (List ℕ)) (text : List ℕ) (o : Outside) → AreInputs o.before (report_reads w) contents
    → length contents ≡ length (report_reads w) → Told (reads_of o) w contents (Ok text) → o.after ≡ o.before
    → Prints text o.printed o.prints (Rose o.faults o.faults_now) a → ReportAnswers w o a
printed a w contents text o read count h same prints =
    let asks : ReportAsks (reads_of o) w contents (Ok (prints_only text)) = record { report = Ok text; reports = h; outcome = refl } in
    by_answer a w text o (contents_ask o.before (reads_of o) w contents (Ok (prints_only text)) read count asks) same prints

-- ---- once

report_once : LinkedLaw → (f : LinkPlacement) (text : List ℕ) (banks : Option (List Bank)) (inputs : List (Named Linkable)) (x y : Result (List ℕ) Refusal)
    → ReportIs f text banks inputs x → ReportIs f text banks inputs y → x ≡ y
report_once law f text banks inputs x y h k =
    let given : ℕ = length (objects_among inputs) in
    let objects : h.objects ≡ k.objects = law (objects_among inputs) (archives_among inputs) h.objects k.objects h.linked k.linked in
    h.made ∙ (ap (λ (os : List (Named Object)). report_as f text h.ram given os) objects
    ∙ (ap (λ (ram : Option (List Range32)). report_as f text ram given k.objects) (ram_once banks h.ram k.ram h.writable k.writable) ∙ sym k.made))

inputs_report_once : LinkedLaw → (w : ReportWords) (text : List ℕ) (inputs : Result (List (Named Linkable)) Refusal) (x y : Result (List ℕ) Refusal)
    → InputsReport w text inputs x → InputsReport w text inputs y → x ≡ y
inputs_report_once law w text (Err r) x y h k = h ∙ sym k
inputs_report_once law w text (Ok inputs) x y h k = report_once law w.placement text w.ram inputs x y h k

reports_once : OneAssembly → LinkedLaw → (s : Reads) (files : Files) → OverFiles s files → (w : ReportWords) (contents : List (List ℕ)) (x y : Result (List ℕ) Refusal)
    → Reports s w contents x → Reports s w contents y → x ≡ y
reports_once law linked s files is w contents x y h k =
    let same : h.inputs ≡ k.inputs = inputs_once law s files is true w.names (inputs_in w.placement contents) h.inputs k.inputs h.judged k.judged in
    inputs_report_once linked w (text_in w.placement contents) k.inputs x y
    (subst (λ (i : Result (List (Named Linkable)) Refusal). InputsReport w (text_in w.placement contents) i x) same h.told) k.told

read_once : OneAssembly → LinkedLaw → (s : Reads) (files : Files) → OverFiles s files → (w : ReportWords) (contents : Result (List (List ℕ)) Refusal)
    (a b : Result Outcome Refusal) → ReadAsks s w contents a → ReadAsks s w contents b → a ≡ b
read_once law linked s files is w (Err r) a b h k = h ∙ sym k
read_once law linked s files is w (Ok contents) a b h k =
    let same : h.report ≡ k.report = reports_once law linked s files is w contents h.report k.report h.reports k.reports in
    h.outcome ∙ (ap (λ (r : Result (List ℕ) Refusal). r >>= prints_text) same ∙ sym k.outcome)

pub one_report_asked : OneAssembly → LinkedLaw → OneReportAsked
one_report_asked law linked s w files a b is h k =
    let told = λ (x : Result Outcome Refusal) (asks : ReportAsked s w x). subst (λ (t : Option Files). FilesAsk t s w x) is asks in
    read_once law linked s files is w (inputs_of files (report_reads w)) a b (told a h) (told b k)
