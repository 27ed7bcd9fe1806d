-- A run that devices interrupt, over the handler of the interrupt kit: where the program keeps the rules, the run without
-- interrupts ends as it does, and prints the same. This project's.
use Rattle.std.specs.Prelude.{◌≡◌, ℕ, ◌+◌, ◌%◌, ◌^◌, ◌<◌, ◌≤◌, Bool, true, false, List, map, slice_get, Option, Some, Result, Ok}
use Rattle.std.specs.List.{list_any}
use Rattle.sdt_fault.specs.declared.answer.Answer.{Answer}
use Rattle.sdt_fault.specs.declared.answer.Answer.TheVariants as answer
use Rattle.sdt_outside.specs.declared.device.DeviceState.TheVariants.{Quiet}
use Rattle.sdt_outside.specs.Files.{Files}
use Rattle.arm7_model.specs.declared.state.ArmState.{ArmState}
use Rattle.arm7_model.specs.Outcomes.{Stepped}
use Rattle.arm7_model.specs.Runs.{behind}
use Rattle.arm7_bus.specs.declared.memory.Bank.{Bank}
use Rattle.arm7_bus.specs.Seats.{Seat, has_access}
use Rattle.arm7_bus.specs.States.{State, protected_at}
use Rattle.arm7_core.specs.Resets.{IsReset}
use Rattle.arm7_transfers.specs.Boards.{board_of, over}
use Rattle.kit_laws.specs.Rules.{KeepsRules}
use Rattle.irq_kit.specs.Kit.{kit_of}
use Rattle.run_opening.specs.Openings.{IsOpening}
use Rattle.boot_code.specs.Boots.{ByteMap}
use Rattle.place_model.specs.Plans.{Plan}
use Rattle.link_model.specs.declared.images.Image.{Image}
use Rattle.link_model.specs.declared.selection.Linked.{Linked}
use Rattle.link_model.specs.declared.selection.Named.{Named}
use Rattle.link_laws.specs.Placing.{bases_of}
use Rattle.bin_image.specs.Fields.{lacks}
use Rattle.bin_image.specs.Files.{map_name}
use Rattle.aof_object.specs.declared.records.Object.{Object}
use Rattle.tool_answers.specs.Outcomes.{Outside}
use Rattle.tool_words.specs.declared.command.Command.{Command}
use Rattle.tool_words.specs.declared.command.Command.TheVariants as command
use Rattle.tool_words.specs.declared.command.Container.TheVariants as container
use Rattle.tool_words.specs.declared.command.LinkPlacement.TheVariants as placement
use Rattle.tool_words.specs.declared.command.LinkWords.{LinkWords}
use Rattle.tool_words.specs.declared.command.RunImage.TheVariants as image
use Rattle.tool_words.specs.declared.command.RunWords.{RunWords}
use Rattle.tool_run.specs.Images.{has_zero}
use Rattle.tool_run.specs.Openings.{AreBanks}
use Rattle.tool_run.specs.Runs.{RunAnswers}
use Rattle.sdt_toolkit.specs.Headline.{IsLinkedInto}
use Rattle.sdt_toolkit.specs.Plans.{plan_at}
use Rattle.sdt_toolkit.specs.RunImages.{run_image}
use Rattle.sdt_toolkit.specs.Runs.{Allow, AreStartup, map_booting}
use Rattle.sdt_toolkit.specs.Starting.{written_in}

-- ---- the kit in an image

-- One of the linked objects is the kit's, whose handler acknowledges to an address. The plan has its vectors at 0, and its
-- work area elsewhere, behind the vectors.
pub record IsInForce (ack work : ℕ) (plan : Plan) (l : Linked) : Type 0 where
  pub own : ℕ
  pub object : Named Object
  pub there : slice_get l.objects own ≡ Some object
  pub words : object.value ≡ kit_of ack
  pub whole : ack % 4 ≡ 0
  pub small : ack < 2 ^ 32
  pub vectors_at : bases_of plan own 0 ≡ 0
  pub work_at : bases_of plan own 1 ≡ work
  pub behind : 0x50 ≤ work

-- one device has the whole word at an address
abbrev pub has_word : List Seat → ℕ → Bool
has_word seats a = list_any (λ d. has_access d.base d.size a 4) seats

-- ---- the program

-- from the entry, to which startup code leads in these banks, the program keeps the rules; the work area may be written
pub record MayBeInterrupted (i : Image) (view : ByteMap) (banks : List Bank) (seats : List Seat) (work : ℕ) : Type 0 where
  pub allow : Allow banks seats (written_in i)
  pub free : (k : ℕ) → k < 12 → protected_at banks (work + k) ≡ false
  pub rules : (core : ArmState) (s : State) (steps : List Stepped) → IsReset i.start false core → IsOpening banks (run_image i) seats s
      → AreStartup (map_booting i view) core s steps → KeepsRules (board_of s) work (behind (over core s) steps)

-- ---- the run without interrupts

-- in the place of each device one that raises no line
abbrev pub silenced : List Seat → List Seat
silenced seats = map (λ (d : Seat). record d { state = Quiet }) seats

-- Over the load files and the map as `link` or `build` left them of a scatter image in which the kit is in force, where the
-- program keeps the rules: to the same words, over silent devices, the answer is done too, with the same text.
abbrev pub IsHidden : RunWords → Outside → List Seat → Type 0
IsHidden r o seats =
    (sources : Bool) (w : LinkWords) (description : List ℕ) (before : Files) (after : Option Files) (i : Image) (views : ℕ → ByteMap)
    (work ack : ℕ) → w.placement ≡ placement.Scatter description
    → w.container ≡ container.LoadFiles → lacks 10 w.output ≡ true → has_zero w.output ≡ false
    → (h : IsLinkedInto sources w before after i views)
    → IsInForce ack work (plan_at h.shape h.placed.link h.placed.assigned h.placed.veneers i.start) h.placed.link
    → o.before ≡ after → r.image ≡ image.Map (map_name w.output) → has_word seats ack ≡ true
    → ((banks : List Bank) → AreBanks r.memory r.rom banks → MayBeInterrupted i (views i.start) banks seats work)
    → (left : List Seat) × RunAnswers r o (silenced seats) left answer.Done

-- so it is where a run ended by SWI 0x11
abbrev pub InterruptsAreHidden : Type 0
InterruptsAreHidden = (r : RunWords) (o : Outside) (seats left : List Seat) → RunAnswers r o seats left answer.Done → IsHidden r o seats

-- and so where the words asked for it, and the answer tells that it ended so
abbrev pub HidesInterrupts : Result Command ℕ → Outside → List Seat → Answer → Type 0
HidesInterrupts asked o seats a = (r : RunWords) → asked ≡ Ok (command.Run r) → a ≡ answer.Done → IsHidden r o seats
