-- Answers to `asm`, by its ends.
use Rattle.std.proofs.Common.{◌≡◌, inl, inr, ℕ, ◌<◌, List, [], ◌∷◌, length, Option, Some, None, Result, Ok, Err, refl, sym, ap, subst}
use Rattle.sdt_fault.specs.declared.answer.Answer.{Answer}
use Rattle.sdt_fault.specs.declared.answer.Answer.TheVariants as answer
use Rattle.sdt_fault.specs.declared.answer.Fault.{Fault}
use Rattle.sdt_fault.specs.declared.answer.Fault.TheVariants as fault
use Rattle.sdt_fault.specs.declared.refusal.Refusal.{Refusal}
use Rattle.sdt_fault.specs.declared.kinds.Quantity.TheVariants.{SourceBytes}
use Rattle.sdt_fault.specs.declared.refusal.Refusal.TheVariants.{Missing, TooLarge}
use Rattle.armasm_core.specs.Assembling.{most_bytes}
use Rattle.sdt_outside.specs.Counts.{Rose}
use Rattle.sdt_outside.specs.Files.{Files, IsFound}
use Rattle.sdt_outside.specs.Sinks.{Got}
use Rattle.tool_answers.specs.declared.inputs.InputEnd.{InputEnd}
use Rattle.tool_answers.specs.declared.inputs.InputEnd.TheVariants as end
use Rattle.tool_answers.specs.Inputs.{IsEnd, IsReached}
use Rattle.tool_answers.specs.Outcomes.{Outcome, Outside, IsLeft, IsAsked, Answers, Says, Writes, writes_one}
use Rattle.tool_library.specs.Libraries.{end_answer, fault_answer}
use Rattle.tool_library.proofs.AnswerLemmas.{wrote}
use Rattle.sdt_toolkit.specs.Reads.{Reads, HasFailed, reads_of}
use Rattle.sdt_toolkit.specs.Sources.{AssemblyAnswers, FilesAsk, SpellsAs, TextAsks, SourceAsks}
use Rattle.sdt_toolkit.proofs.AskLemmas.{text_asks, text_refused, source_asks, source_missing}
use Rattle.tool_library.proofs.AnswerLemmas.{first_reached as reached}

missing_named : (q name : List ℕ) → q ≡ name → ◌≡◌ {A = Result Outcome Refusal} (Err (Missing name)) (Err (Missing q))
missing_named q name e = ap (λ (n : List ℕ). Err (Missing n)) (sym e)

pub unread : (e : InputEnd) (name output : List ℕ) (o : Outside) → IsEnd e o.before name (Rose o.reads o.reads_now) → IsLeft o → AssemblyAnswers name output o (end_answer e)
unread (end.Missing q) name output o h left =
    (Err (Missing name), source_missing (reads_of o) name output h.1, (missing_named q name h.0, left))
unread (end.Failed q) name output o h left = (h.1, inl (subst (IsReached o.before (name ∷ [])) (sym h.0) (reached o.before name)), left)
unread end.NoMemory name output o h left = left

pub refused : (f : Fault) (name output text : List ℕ) (o : Outside) → IsFound o.before name text → SpellsAs (reads_of o) name text (Err f) → IsLeft o → AssemblyAnswers name output o (fault_answer f)
refused (fault.Refused r) name output text o found h left =
    (Err r, source_asks (reads_of o) name output text (Err r) found (text_refused (reads_of o) name output text r h), (refl, left))
refused (fault.ReadFault q) name output text o found h left = (h.0, inr (text, found, h.1), left)
refused fault.NoMemory name output text o found h left = left

-- a source that is too long, whatever it holds
pub too_long : (name output text : List ℕ) (o : Outside) → IsFound o.before name text → most_bytes < length text → IsLeft o
    → AssemblyAnswers name output o (fault_answer (fault.Refused (TooLarge SourceBytes most_bytes)))
too_long name output text o found long left =
    refused (fault.Refused (TooLarge SourceBytes most_bytes)) name output text o found
    (record { made = Err (TooLarge SourceBytes most_bytes); assembled = inl (long, refl); caused = tt; sound = λ object e. absurd cc; spelled = refl }) left

-- what some text asks for
abbrev OfText : Reads → List ℕ → List ℕ → Result Outcome Refusal → Type 0
OfText s name output asked = (text : List ℕ) × TextAsks s name output text asked

asked_one : (told : Option Files) (s : Reads) (name output : List ℕ) (w : Result Outcome Refusal) → FilesAsk told s name output w
    → IsAsked (λ files. w) (OfText s name output) told (name ∷ []) (HasFailed s) w
asked_one None s name output w h = h
asked_one (Some files) s name output w h = refl

one_asks : (told : Option Files) (s : Reads) (name output : List ℕ) (w x : Result Outcome Refusal) → FilesAsk told s name output w
    → IsAsked (λ files. w) (OfText s name output) told (name ∷ []) (HasFailed s) x → FilesAsk told s name output x
one_asks None s name output w x h k = k
one_asks (Some files) s name output w x h k =
    let same : x ≡ w = k in
    subst (λ (y : Result Outcome Refusal). FilesAsk (Some files) s name output y) (sym same) h

abbrev IsSaid : List ℕ → List ℕ → Outside → Answer → Type 0
IsSaid name output o a = (asked : Result Outcome Refusal) × SourceAsks (reads_of o) name output asked × Says asked (name ∷ []) o a

says : (a : Answer) (name output bytes : List ℕ) (o : Outside) → SourceAsks (reads_of o) name output (Ok (writes_one output bytes))
    → Got o.printed o.prints [] → o.prints ≡ o.printed → Writes output bytes o.before o.after (Rose o.writes o.writes_now) a → IsSaid name output o a
says a name output bytes o asks got same h =
    let w : Result Outcome Refusal = Ok (writes_one output bytes) in
    let r : Answers (λ files. w) (OfText (reads_of o) name output) (name ∷ []) o a =
    wrote a output bytes w (name ∷ []) (λ files. w) (OfText (reads_of o) name output) o (asked_one o.before (reads_of o) name output w asks) refl got same h in
    (r.0, one_asks o.before (reads_of o) name output w r.0 asks r.1, r.2)

by_answer : (a : Answer) (name output bytes : List ℕ) (o : Outside) → SourceAsks (reads_of o) name output (Ok (writes_one output bytes))
    → Got o.printed o.prints [] → o.prints ≡ o.printed → Writes output bytes o.before o.after (Rose o.writes o.writes_now) a → AssemblyAnswers name output o a
by_answer answer.Done name output bytes o asks got same h = says answer.Done name output bytes o asks got same h
by_answer (answer.WriteFault q) name output bytes o asks got same h = says (answer.WriteFault q) name output bytes o asks got same h
by_answer answer.NoMemory name output bytes o asks got same h = record { files = h; sink = same }
by_answer (answer.Refused r) name output bytes o asks got same h = absurd h
by_answer (answer.ReadFault q) name output bytes o asks got same h = absurd h
by_answer answer.SinkFault name output bytes o asks got same h = absurd h
by_answer (answer.Stopped stop) name output bytes o asks got same h = absurd h

pub wrote_object : (a : Answer) (name output text bytes : List ℕ) (o : Outside) → IsFound o.before name text → SpellsAs (reads_of o) name text (Ok bytes) → Got o.printed o.prints [] → o.prints ≡ o.printed
    → Writes output bytes o.before o.after (Rose o.writes o.writes_now) a → AssemblyAnswers name output o a
wrote_object a name output text bytes o found spells got same h =
    by_answer a name output bytes o
    (source_asks (reads_of o) name output text (Ok (writes_one output bytes)) found (text_asks (reads_of o) name output text bytes spells)) got same h
