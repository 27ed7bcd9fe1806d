-- What the command `make-big` answers and leaves: a generated source is written, and the image that `build` makes of it is run in
-- the default bank, with its words, its steps from the entry on and its sum in a line. This project's.
use Rattle.std.specs.Prelude.{◌≡◌, ◌⊎◌, ℕ, ◌+◌, ◌-◌, ◌*◌, ◌/◌, ◌≤◌, true, false}
use Rattle.std.specs.Prelude.{List, [], ◌∷◌, ◌++◌, length, codes, Option, Some, None, Result, Ok}
use Rattle.std.specs.Fmt.{decimal}
use Rattle.sdt_fault.specs.declared.answer.Answer.{Answer}
use Rattle.sdt_fault.specs.declared.answer.Answer.TheVariants as answer
use Rattle.sdt_fault.specs.declared.answer.Stop.{Stop}
use Rattle.sdt_fault.specs.declared.answer.Stop.TheVariants as stop
use Rattle.sdt_fault.specs.declared.refusal.Refusal.{Refusal}
use Rattle.sdt_fault.specs.declared.refusal.Refusal.TheVariants.{BankOverlap}
use Rattle.sdt_fault.specs.Digits.{hexadecimal}
use Rattle.sdt_outside.specs.Counts.{Rose}
use Rattle.sdt_outside.specs.Files.{Files, IsWritten, SameBut, content, files_of}
use Rattle.sdt_outside.specs.Sinks.{Got, GotPart}
use Rattle.aof_object.specs.declared.records.Area.{Area}
use Rattle.aof_object.specs.declared.records.Object.{Object}
use Rattle.aof_object.specs.Validity.{IsValid}
use Rattle.arm7_model.specs.declared.state.ArmState.{ArmState}
use Rattle.arm7_model.specs.Registers.{register}
use Rattle.arm7_bus.specs.declared.memory.Bank.{Bank}
use Rattle.arm7_bus.specs.Meets.{IsLeast, IsNowhere}
use Rattle.arm7_bus.specs.Seats.{Seat}
use Rattle.arm7_bus.specs.States.{State}
use Rattle.arm7_core.specs.Resets.{IsReset}
use Rattle.arm7_run.specs.Runs.{Runs}
use Rattle.arm7_transfers.specs.Ready.{IsReady}
use Rattle.run_laws.specs.Devices.{ticked_for, touches_of}
use Rattle.run_opening.specs.Banks.{IsDefect, IsRoomy, banks_of, two_have}
use Rattle.run_opening.specs.Openings.{IsOpening}
use Rattle.armasm_core.specs.Assembling.{AssembledFrom}
use Rattle.armlink_core.specs.Images.{scatter_linking}
use Rattle.boot_code.specs.Boots.{ByteMap}
use Rattle.link_model.specs.declared.images.Image.{Image}
use Rattle.big_faults.specs.Big.{big_object}
use Rattle.big_model.specs.Sources.{big_sum, big_text}
use Rattle.big_place.specs.Big.{big_description}
use Rattle.tool_answers.specs.Outcomes.{Outside}
use Rattle.tool_run.specs.Runs.{IsUntouched}
use Rattle.tool_words.specs.declared.command.Command.{Command}
use Rattle.tool_words.specs.declared.command.Command.TheVariants as command
use Rattle.tool_words.specs.declared.command.LinkPlacement.TheVariants as placement
use Rattle.tool_words.specs.declared.command.LinkWords.{LinkWords}
use Rattle.sdt_toolkit.specs.BigMade.{big_image, big_named}
use Rattle.sdt_toolkit.specs.BigStarts.{big_startup, big_view}
use Rattle.sdt_toolkit.specs.Headline.{IsLinkedInto}
use Rattle.sdt_toolkit.specs.Inputs.{is_source_name, module_of}
use Rattle.sdt_toolkit.specs.RunImages.{needs_of, run_image}
use Rattle.sdt_toolkit.specs.Runs.{HasStarted, map_booting}
use Rattle.sdt_toolkit.specs.Starting.{HasBytes}

-- ---- the image

-- What a `build` makes that is done, of the source in the file of this name and of a file that has the description, without ranges
-- that can be written, is this image.
abbrev pub IsBuilt : List ℕ → ℕ → Image → Type 0
IsBuilt name n i =
    (w : LinkWords) (before : Files) (after : Option Files) (made : Image) (views : ℕ → ByteMap) (description : List ℕ)
    → w.names ≡ name ∷ [] → w.placement ≡ placement.Scatter description → w.ram ≡ None → is_source_name name ≡ true
    → content before name ≡ Some (big_text n) → content before description ≡ Some big_description
    → IsLinkedInto true w before after made views → made ≡ i

-- Of the source of this name, whatever files there are beside it, the object is this one and nothing is refused; the image is
-- that of this one object and the description, placed by their plan.
pub record IsBigImage (name : List ℕ) (n : ℕ) (i : Image) : Type 0 where
  pub assembled : AssembledFrom (Some (files_of [])) name (big_text n) (Ok (big_object n))
  pub only : (files : Files) (made : Result Object Refusal) → AssembledFrom (Some files) name (big_text n) made → made ≡ Ok (big_object n)
  pub linked : scatter_linking big_description None (big_named name (module_of name) n ∷ []) ≡ Ok i
  pub placed : i ≡ big_image name (module_of name) n
  pub built : IsBuilt name n i

-- the words of an object's area `big`, which is the first one
abbrev pub first_words : List Area → ℕ
first_words [] = 0
first_words (a ∷ others) = a.size / 4

-- ---- the run

-- the bank of a run of which no bank is told
abbrev pub default_banks : List Bank
default_banks = banks_of [] []

-- The image was run in the default bank, for at most 5 n + 51 steps: its first steps are the startup code's, which lead to its
-- entry with memory as the view of its plan, and touch no device; n + 3 steps behind these it ended by SWI 0x11, without a text and
-- with the sum in r4. Devices are as time alone makes them.
pub record IsBigRun (n : ℕ) (i : Image) (view : ByteMap) (seats left : List Seat) : Type 0 where
  pub started : HasStarted (map_booting i view) default_banks (5 * n + 51) stop.Exit (Some []) (Some []) (Rose 0 0) seats left
  pub count : started.ran.is_run.made ≡ length started.steps + (n + 3)
  pub sum : register started.ran.is_run.core' 4 ≡ big_sum n
  pub ticked : left ≡ ticked_for (length started.steps + (n + 3)) seats
  pub touches : touches_of left ≡ touches_of seats

-- the line that tells words, steps and sum
abbrev pub big_line : ℕ → ℕ → ℕ → ℕ → List ℕ
big_line n words steps sum =
    codes "big " ++ (decimal n ++ (codes " words " ++ (decimal words ++ (codes " steps " ++ (decimal steps ++ (codes " sum "
    ++ (hexadecimal sum ++ codes "\n")))))))

-- the words of the object's code, the steps behind those of the startup code, and the sum
abbrev pub big_report : ℕ → List ℕ
big_report n = big_line n (first_words (big_object n).areas) (n + 3) (big_sum n)

-- ---- answers

-- the source was written, and the image that `build` makes of it was run
pub record HasRunBig (n : ℕ) (output : List ℕ) (o : Outside) (seats left : List Seat) : Type 0 where
  pub image : Image
  pub is_image : IsBigImage output n image
  pub ran : IsBigRun n image (big_view output (module_of output) n) seats left
  pub written : IsWritten o.before o.after output (big_text n)

-- the refusal names the least address that the default bank and a device have, or two devices
abbrev pub IsMeeting : List Seat → Refusal → Type 0
IsMeeting seats (BankOverlap a) = IsLeast (two_have default_banks seats) a
IsMeeting seats other = ⊥

-- the answer to `make-big` of a count and a file; it never stops and reads nothing
abbrev pub BigAnswers : ℕ → List ℕ → Outside → List Seat → List Seat → Answer → Type 0
BigAnswers n output o seats left answer.Done = HasRunBig n output o seats left × Got o.printed o.prints (big_report n)
BigAnswers n output o seats left (answer.Refused r) = IsMeeting seats r × IsUntouched o seats left
BigAnswers n output o seats left (answer.ReadFault name) = ⊥
BigAnswers n output o seats left (answer.WriteFault name) =
    IsNowhere (two_have default_banks seats) × (name ≡ output) × Rose o.writes o.writes_now × SameBut o.before o.after output
    × (o.prints ≡ o.printed) × (left ≡ seats)
BigAnswers n output o seats left answer.SinkFault =
    HasRunBig n output o seats left × Rose o.faults o.faults_now × GotPart o.printed o.prints (big_report n)
BigAnswers n output o seats left (answer.Stopped why) = ⊥
BigAnswers n output o seats left answer.NoMemory =
    IsUntouched o seats left ⊎ (HasRunBig n output o seats left × (o.prints ≡ o.printed))

-- ---- clause of the top call

-- done; memory may be refused besides
abbrev pub IsBigDone : ℕ → List ℕ → Outside → List Seat → List Seat → Answer → Type 0
IsBigDone n output o seats left answer.Done = BigAnswers n output o seats left answer.Done
IsBigDone n output o seats left answer.NoMemory = BigAnswers n output o seats left answer.NoMemory
IsBigDone n output o seats left other = ⊥

-- where devices meet neither the default bank nor each other, and neither the store counted a fault of a write nor the sink one,
-- each count that is asked for is done
abbrev pub MakesBig : Result Command ℕ → Outside → List Seat → List Seat → Answer → Type 0
MakesBig asked o seats left a =
    (n : ℕ) (output : List ℕ) → asked ≡ Ok (command.MakeBig n output) → IsNowhere (two_have default_banks seats)
    → (Rose o.writes o.writes_now → ⊥) → (Rose o.faults o.faults_now → ⊥) → (1 ≤ n) × (n ≤ 50000) × IsBigDone n output o seats left a

-- ---- inside

-- a run of at most 5 n + 51 steps from reset ended so; the steps that are told are those behind the startup code's
pub record HasEnded (start n : ℕ) (begin : State) (why : Stop) (steps sum : ℕ) (left : List Seat) : Type 0 where
  pub core : ArmState
  pub reset : IsReset start false core
  pub made : ℕ
  pub text : List ℕ
  pub core' : ArmState
  pub end : State
  pub runs : Runs (5 * n + 51) core begin why made text core' end
  pub counted : steps ≡ made - big_startup n
  pub added : sum ≡ register core' 4
  pub devices : left ≡ end.devices

-- a line was printed, or why not
abbrev pub PrintsLine : List ℕ → Option (List ℕ) → Option (List ℕ) → Type 0 → Answer → Type 0
PrintsLine line before after rose answer.Done = Got before after line
PrintsLine line before after rose answer.SinkFault = rose × GotPart before after line
PrintsLine line before after rose answer.NoMemory = after ≡ before
PrintsLine line before after rose other = ⊥

-- of a run that ended by SWI 0x11
abbrev pub Reports : Stop → List ℕ → Option (List ℕ) → Option (List ℕ) → Type 0 → Answer → Type 0
Reports stop.Exit line before after rose a = PrintsLine line before after rose a
Reports other line before after rose a = Unit {0}

-- ---- laws

-- of an image and a view: a run of it in the default bank ends by SWI 0x11, with its steps and its sum
pub record IsBigOutcome (n : ℕ) (i : Image) (view : ByteMap) (seats left : List Seat) (why : Stop) (steps sum : ℕ) : Type 0 where
  pub exits : why ≡ stop.Exit
  pub count : steps ≡ n + 3
  pub total : sum ≡ big_sum n
  pub ran : IsBigRun n i view seats left

abbrev pub BigImagesRun : Type 0
BigImagesRun =
    (name home : List ℕ) (n : ℕ) → 1 ≤ n → n ≤ 50000 → IsValid (big_object n) → HasBytes (big_object n)
    → (seats left : List Seat) (begin : State) (why : Stop) (steps sum : ℕ)
    → IsRoomy default_banks seats (needs_of (big_image name home n))
    → IsOpening default_banks (run_image (big_image name home n)) seats begin → IsReady begin
    → HasEnded (big_image name home n).start n begin why steps sum left
    → IsBigOutcome n (big_image name home n) (big_view name home n) seats left why steps sum

-- and nothing but a meeting refuses it
abbrev pub BigImagesFit : Type 0
BigImagesFit =
    (name home : List ℕ) (n : ℕ) → 1 ≤ n → n ≤ 50000 → IsValid (big_object n) → HasBytes (big_object n)
    → (seats : List Seat) (r : Refusal) → IsDefect default_banks seats (needs_of (big_image name home n)) r → IsMeeting seats r
