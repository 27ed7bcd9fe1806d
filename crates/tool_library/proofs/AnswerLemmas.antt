-- Answers of commands, by their ends.
use Rattle.std.proofs.Common.{◌≡◌, ℕ, List, [], ◌∷◌, length, Option, Some, None, Result, Ok, Err, refl, sym, ap, subst, inl, inr}
use Rattle.sdt_fault.specs.declared.answer.Answer.{Answer}
use Rattle.sdt_fault.specs.declared.answer.Answer.TheVariants as answer
use Rattle.sdt_fault.specs.declared.answer.Fault.{Fault}
use Rattle.sdt_fault.specs.declared.answer.Fault.TheVariants as fault
use Rattle.sdt_fault.specs.declared.refusal.Refusal.{Refusal}
use Rattle.sdt_fault.specs.declared.refusal.Refusal.TheVariants.{Missing}
use Rattle.sdt_outside.specs.Counts.{Rose}
use Rattle.sdt_outside.specs.Files.{Files, content, IsFound, IsMissing, IsWritten}
use Rattle.sdt_outside.specs.Sinks.{Got}
use Rattle.chunk_file.specs.Reading.{◌>>=◌, Gives}
use Rattle.tool_answers.specs.declared.inputs.InputEnd.{InputEnd}
use Rattle.tool_answers.specs.declared.inputs.InputEnd.TheVariants as end
use Rattle.tool_answers.specs.Inputs.{found_or, inputs_of, input_of, AreInputs, InputsEnd, IsEnd, IsReached}
use Rattle.tool_answers.specs.Outcomes.{Outcome, Outside, IsLeft, AreWritten, IsAsked, OfAll, OfOne, Answers, Writes, Prints, writes_one, prints_only}
use Rattle.tool_library.specs.Libraries.{end_answer, fault_answer}

-- ---- what is asked

any_asked : (judge : Files → Result Outcome Refusal) (some_ask : Result Outcome Refusal → Type 0) (told : Option Files) (names : List (List ℕ)) (rose : Type 0)
    → (any : Result Outcome Refusal) → some_ask any → (asked : Result Outcome Refusal) × IsAsked judge some_ask told names rose asked
any_asked judge some_ask None names rose any asks = (any, inl asks)
any_asked judge some_ask (Some files) names rose any asks = (judge files, refl)

-- by the contents of files that were read
pub asked_of_all : (told : Option Files) (names contents : List (List ℕ)) (f : List (List ℕ) → Result Outcome Refusal) (rose : Type 0)
    → AreInputs told names contents → length contents ≡ length names → IsAsked (λ files. inputs_of files names >>= f) (OfAll f names) told names rose (f contents)
asked_of_all None names contents f rose h count = inl (contents, count, refl)
asked_of_all (Some files) names contents f rose h count = sym (ap (λ x. x >>= f) h)

pub asked_of_one : (told : Option Files) (name bytes : List ℕ) (f : List ℕ → Result Outcome Refusal) (rose : Type 0)
    → IsFound told name bytes → IsAsked (λ files. input_of files name >>= f) (OfOne f) told (name ∷ []) rose (f bytes)
asked_of_one None name bytes f rose h = inl (bytes, refl)
asked_of_one (Some files) name bytes f rose h = sym (ap (λ x. found_or name x >>= f) h)

-- ---- an input that was not read

missing : (name : List ℕ) (names : List (List ℕ)) (judge : Files → Result Outcome Refusal) (some_ask : Result Outcome Refusal → Type 0) (o : Outside) (told : Option Files) → o.before ≡ told
    → (told ≡ None → Rose o.reads o.reads_now × IsReached None names name) → ((files : Files) → told ≡ Some files → judge files ≡ Err (Missing name))
    → IsLeft o → Answers judge some_ask names o (answer.Refused (Missing name))
missing name names judge some_ask o None is lost h left =
    (Err (Missing name), subst (λ b. IsAsked judge some_ask b names (Rose o.reads o.reads_now) (Err (Missing name))) (sym is) (inr (name, refl, (lost refl).0, (lost refl).1)), (refl, left))
missing name names judge some_ask o (Some files) is lost h left =
    (Err (Missing name), subst (λ b. IsAsked judge some_ask b names (Rose o.reads o.reads_now) (Err (Missing name))) (sym is) (sym (h files refl)), (refl, left))

none_read : (told : Option Files) → AreInputs told [] []
none_read None = tt
none_read (Some files) = refl

all_missing : (told : Option Files) (name : List ℕ) (names : List (List ℕ)) (rose : Type 0) → InputsEnd (end.Missing name) told names rose → (files : Files) → told ≡ Some files → inputs_of files names ≡ Err (Missing name)
all_missing None name names rose h files is = absurd (let bad : None ≡ Some files = is in cc)
all_missing (Some g) name names rose h files is = let same : g ≡ files = cc in subst (λ (x : Files). inputs_of x names ≡ Err (Missing name)) same h

all_lost : (told : Option Files) (name : List ℕ) (names : List (List ℕ)) (rose : Type 0) → InputsEnd (end.Missing name) told names rose → told ≡ None → rose × IsReached None names name
all_lost None name names rose h is = h
all_lost (Some g) name names rose h is = absurd (let bad : Some g ≡ None = is in cc)

pub unread : (e : InputEnd) (names : List (List ℕ)) (f : List (List ℕ) → Result Outcome Refusal) (o : Outside) → InputsEnd e o.before names (Rose o.reads o.reads_now) → IsLeft o
    → Answers (λ files. inputs_of files names >>= f) (OfAll f names) names o (end_answer e)
unread (end.Missing name) names f o h left =
    missing name names (λ files. inputs_of files names >>= f) (OfAll f names) o o.before refl (all_lost o.before name names _ h) (λ files is. ap (λ x. x >>= f) (all_missing o.before name names _ h files is)) left
unread (end.Failed name) names f o h left =
    let any = any_asked (λ files. inputs_of files names >>= f) (OfAll f names) o.before names (Rose o.reads o.reads_now) (f names) (names, refl, refl) in
    (any.0, any.1, (h.0, h.1, left))
unread end.NoMemory names f o h left =
    let any = any_asked (λ files. inputs_of files names >>= f) (OfAll f names) o.before names (Rose o.reads o.reads_now) (f names) (names, refl, refl) in
    (any.0, any.1, inr left)

one_missing : (told : Option Files) (name : List ℕ) (rose : Type 0) → IsMissing told name rose → (files : Files) → told ≡ Some files → input_of files name ≡ Err (Missing name)
one_missing None name rose h files is = absurd (let bad : None ≡ Some files = is in cc)
one_missing (Some g) name rose h files is = let same : g ≡ files = cc in ap (found_or name) (subst (λ (x : Files). content x name ≡ None) same h)

pub first_reached : (told : Option Files) (name : List ℕ) → IsReached told (name ∷ []) name
first_reached told name = record { front = []; rest = []; names_are = refl; contents = []; read_before = none_read told }

one_lost : (told : Option Files) (name : List ℕ) (rose : Type 0) → IsMissing told name rose → told ≡ None → rose × IsReached None (name ∷ []) name
one_lost None name rose h is = (h, first_reached None name)
one_lost (Some g) name rose h is = absurd (let bad : Some g ≡ None = is in cc)

pub one_unread : (e : InputEnd) (name : List ℕ) (f : List ℕ → Result Outcome Refusal) (o : Outside) → IsEnd e o.before name (Rose o.reads o.reads_now) → IsLeft o
    → Answers (λ files. input_of files name >>= f) (OfOne f) (name ∷ []) o (end_answer e)
one_unread (end.Missing q) name f o h left =
    rw h.0 (missing name (name ∷ []) (λ files. input_of files name >>= f) (OfOne f) o o.before refl (one_lost o.before name _ h.1) (λ files is. ap (λ x. x >>= f) (one_missing o.before name _ h.1 files is)) left)
one_unread (end.Failed q) name f o h left =
    let any = any_asked (λ files. input_of files name >>= f) (OfOne f) o.before (name ∷ []) (Rose o.reads o.reads_now) (f name) (name, refl) in
    (any.0, any.1, (h.1, rw h.0 (first_reached o.before name), left))
one_unread end.NoMemory name f o h left =
    let any = any_asked (λ files. input_of files name >>= f) (OfOne f) o.before (name ∷ []) (Rose o.reads o.reads_now) (f name) (name, refl) in
    (any.0, any.1, inr left)

-- memory was refused before anything was done
pub no_memory : (judge : Files → Result Outcome Refusal) (some_ask : Result Outcome Refusal → Type 0) (names : List (List ℕ)) (o : Outside) (any : Result Outcome Refusal) → some_ask any → IsLeft o → Answers judge some_ask names o answer.NoMemory
no_memory judge some_ask names o any asks left = let a = any_asked judge some_ask o.before names (Rose o.reads o.reads_now) any asks in (a.0, a.1, inr left)

-- ---- a file that is refused

pub refused : (e : Fault) (x : Result (List ℕ) Refusal) (g : List ℕ → Result Outcome Refusal) (names : List (List ℕ)) (judge : Files → Result Outcome Refusal) (some_ask : Result Outcome Refusal → Type 0) (o : Outside)
    → Gives {A = List ℕ} (Err e) x → IsAsked judge some_ask o.before names (Rose o.reads o.reads_now) (x >>= g) → IsLeft o → Answers judge some_ask names o (fault_answer e)
refused (fault.Refused r) x g names judge some_ask o h asked left = (x >>= g, asked, (ap (λ y. y >>= g) h, left))
refused (fault.ReadFault name) x g names judge some_ask o h asked left = absurd h
refused fault.NoMemory x g names judge some_ask o h asked left = (x >>= g, asked, inr left)

-- ---- the two ends

written_one : (before after : Option Files) (name bytes : List ℕ) → IsWritten before after name bytes → AreWritten before after ((name, bytes) ∷ [])
written_one None after name bytes h = h
written_one (Some files) after name bytes h = h

written_none : (before : Option Files) → AreWritten before before []
written_none None = refl
written_none (Some files) = refl

pub wrote : (a : Answer) (name bytes : List ℕ) (asked : Result Outcome Refusal) (names : List (List ℕ)) (judge : Files → Result Outcome Refusal) (some_ask : Result Outcome Refusal → Type 0) (o : Outside)
    → IsAsked judge some_ask o.before names (Rose o.reads o.reads_now) asked → asked ≡ Ok (writes_one name bytes) → Got o.printed o.prints [] → o.prints ≡ o.printed
    → Writes name bytes o.before o.after (Rose o.writes o.writes_now) a → Answers judge some_ask names o a
wrote answer.Done name bytes asked names judge some_ask o is e got same h = (asked, is, (writes_one name bytes, e, written_one o.before o.after name bytes h, got))
wrote (answer.WriteFault q) name bytes asked names judge some_ask o is e got same h = (
  asked,
  is,
  (
    h.1,
    (
      writes_one name bytes,
      e,
      record {
        done = [];
        bytes = bytes;
        rest = [];
        outputs = rw h.0 refl;
        between = o.before;
        written_before = written_none o.before;
        others = rw h.0 h.2;
      },
    ),
    same,
  ),
)
wrote answer.NoMemory name bytes asked names judge some_ask o is e got same h = (asked, is, inr (record { files = h; sink = same }))
wrote (answer.Refused r) name bytes asked names judge some_ask o is e got same h = absurd h
wrote (answer.ReadFault q) name bytes asked names judge some_ask o is e got same h = absurd h
wrote answer.SinkFault name bytes asked names judge some_ask o is e got same h = absurd h
wrote (answer.Stopped stop) name bytes asked names judge some_ask o is e got same h = absurd h

pub printed : (a : Answer) (shown : List ℕ) (asked : Result Outcome Refusal) (names : List (List ℕ)) (judge : Files → Result Outcome Refusal) (some_ask : Result Outcome Refusal → Type 0) (o : Outside)
    → IsAsked judge some_ask o.before names (Rose o.reads o.reads_now) asked → asked ≡ Ok (prints_only shown) → o.after ≡ o.before
    → Prints shown o.printed o.prints (Rose o.faults o.faults_now) a → Answers judge some_ask names o a
printed answer.Done shown asked names judge some_ask o is e same h = (asked, is, (prints_only shown, e, rw same (written_none o.before), h))
printed answer.SinkFault shown asked names judge some_ask o is e same h = (asked, is, (h.0, (prints_only shown, e, rw same (written_none o.before), h.1)))
printed (answer.WriteFault q) shown asked names judge some_ask o is e same h = absurd h
printed answer.NoMemory shown asked names judge some_ask o is e same h = absurd h
printed (answer.Refused r) shown asked names judge some_ask o is e same h = absurd h
printed (answer.ReadFault q) shown asked names judge some_ask o is e same h = absurd h
printed (answer.Stopped stop) shown asked names judge some_ask o is e same h = absurd h
