-- The run of the image of a generated source in the default bank: what refuses it, and how it ends.
use Rattle.std.proofs.Common.{◌≡◌, inl, ℕ, ◌+◌, ◌-◌, ◌*◌, ◌/◌, ◌%◌, ◌<◌, ◌≤◌, ◌==◌, Bool, true, false, cond, List, [], ◌∷◌, length, Option, Some, refl, sym, ap, ◌∙◌, subst, arith, nat_lt}
use Rattle.std.specs.List.{AllByRecursion}
use Rattle.std.proofs.lemmas.Bool.{lt-ltb}
use Rattle.sdt_word.specs.Numbers.{flag}
use Rattle.sdt_fault.specs.declared.answer.Stop.{Stop}
use Rattle.sdt_fault.specs.declared.answer.Stop.TheVariants as stop
use Rattle.sdt_fault.specs.declared.refusal.Refusal.{Refusal}
use Rattle.sdt_fault.specs.declared.refusal.Refusal.TheVariants.{BankOverlap, NoRoom, TooLarge}
use Rattle.sdt_outside.specs.Counts.{Rose}
use Rattle.arm7_model.specs.declared.state.ArmState.{ArmState}
use Rattle.arm7_model.specs.declared.event.Event.TheVariants as event
use Rattle.arm7_model.specs.Memory.{Board}
use Rattle.arm7_model.specs.Outcomes.{Stepped}
use Rattle.arm7_model.specs.Registers.{State as Whole, register}
use Rattle.arm7_core.specs.Resets.{IsReset}
use Rattle.arm7_model.specs.Runs.{accesses_of}
use Rattle.arm7_bus.specs.Meets.{IsLeast}
use Rattle.arm7_bus.specs.Seats.{Seat}
use Rattle.arm7_bus.specs.States.{State}
use Rattle.arm7_bus.specs.WholeWords.{AreWholeSeats}
use Rattle.arm7_run.specs.Runs.{Runs, RunsInto}
use Rattle.arm7_transfers.specs.Boards.{board_of, over}
use Rattle.arm7_transfers.specs.Ready.{IsReady}
use Rattle.boot_code.specs.Boots.{AreOrdinary, BootSteps, BootsIn, ByteMap, CanStart}
use Rattle.boot_code.specs.Maps.{map_of}
use Rattle.run_laws.specs.Devices.{lines_for, ticked_for, touches_of}
use Rattle.run_laws.specs.Laws.{BusRunIsOne, MadeStepsAreOne}
use Rattle.run_laws.specs.Silent.{AreQuiet}
use Rattle.run_opening.specs.declared.image.Need.{Need}
use Rattle.run_opening.specs.Banks.{IsDefect, IsRoomy, two_have}
use Rattle.run_opening.specs.Openings.{IsOpening}
use Rattle.link_model.specs.declared.images.Image.{Image}
use Rattle.tool_run.specs.Runs.{Ran}
use Rattle.big_entry.specs.Entries.{ProgramIsEntered}
use Rattle.room_laws.specs.Rooms.{DefaultBankHasRoom}
use Rattle.sdt_toolkit.specs.Big.{BigImagesFit, BigImagesRun, HasEnded, IsBigOutcome, IsMeeting, default_banks}
use Rattle.sdt_toolkit.specs.BigEnds.{BigRunEnds}
use Rattle.sdt_toolkit.specs.BigMade.{big_image}
use Rattle.sdt_toolkit.specs.BigStarts.{ImageStarts, IsBigStart, big_startup, big_view}
use Rattle.sdt_toolkit.specs.RunImages.{needs_of, run_image}
use Rattle.sdt_toolkit.specs.Runs.{Allow, CanBoot, HasStarted, entry_of, map_booting}
use Rattle.sdt_toolkit.specs.Starting.{segments_of, written_in}
use Rattle.sdt_toolkit.proofs.RunOnce.{frames_there, least_once, nowhere}
use Rattle.sdt_toolkit.proofs.RunBooting.{map_can}
use Rattle.sdt_toolkit.proofs.RunOpened.{IsOpened, can_start, opened, valid}
use Rattle.sdt_toolkit.proofs.RunStartup.{each_used, exact_startup}
use Rattle.sdt_toolkit.proofs.RunSteps.{starts}

-- ---- what a run says that prints to nothing

quiet : (most made : ℕ) (core : ArmState) (begin : State) (why : Stop) (core' : ArmState) (end : State) (before after : Option (List ℕ))
    → RunsInto most core begin why made core' end before after (Rose 0 0) → (text : List ℕ) × Runs most core begin why made text core' end
quiet most made core begin stop.Exit core' end before after (text, runs, got) = (text, runs)
quiet most made core begin stop.Budget core' end before after (text, runs, got) = (text, runs)
quiet most made core begin (stop.Unpredictable a w) core' end before after (text, runs, got) = (text, runs)
quiet most made core begin (stop.BadString a) core' end before after (text, runs, got) = (text, runs)
quiet most made core begin (stop.NoFrame a) core' end before after (text, runs, got) = (text, runs)
quiet most made core begin stop.Sink core' end before after c = absurd (let rose = c.chokes.counted in omega arith)

pub has_ended : (start n most : ℕ) (core : ArmState) (begin : State) (why : Stop) (made : ℕ) (core' : ArmState) (end : State) (before after : Option (List ℕ))
    (steps sum words : ℕ) (left : List Seat)
    → IsReset start false core → most ≡ 5 * n + 51 → RunsInto most core begin why made core' end before after (Rose 0 0)
    → words ≡ big_startup n → steps ≡ made - words → sum ≡ register core' 4 → left ≡ end.devices → HasEnded start n begin why steps sum left
has_ended start n most core begin why made core' end before after steps sum words left reset bound runs_into startup counted added devices =
    let (text, runs) = quiet most made core begin why core' end before after runs_into in
    record {
      core = core;
      reset = reset;
      made = made;
      text = text;
      core' = core';
      end = end;
      runs = subst (λ (x : ℕ). Runs x core begin why made text core' end) bound runs;
      counted = counted ∙ ap (λ (x : ℕ). made - x) startup;
      added = added;
      devices = devices;
    }

-- ---- what refuses it

pub meeting_by : (seats : List Seat) (r : Refusal) → IsMeeting seats r → (a : ℕ) × (r ≡ BankOverlap a) × IsLeast (two_have default_banks seats) a
meeting_by seats (BankOverlap a) h = (a, refl, h)
meeting_by seats other h = absurd h

pub meeting_once : (seats : List Seat) (r q : Refusal) → IsMeeting seats r → IsMeeting seats q → r ≡ q
meeting_once seats r q h k =
    let (a, is, least) = meeting_by seats r h in
    let (b, other, lesser) = meeting_by seats q k in
    is ∙ ap BankOverlap (least_once (two_have default_banks seats) a b least lesser) ∙ sym other

fits : DefaultBankHasRoom → (needs : List Need) → AllByRecursion (λ r. r.base + r.size ≤ 0x01000000) needs
    → (seats : List Seat) (r : Refusal) → IsDefect default_banks seats needs r → IsMeeting seats r
fits law needs low seats (BankOverlap a) h = h
fits law needs low seats (NoRoom a) h = absurd (nowhere _ a (law needs low).0 h.1)
fits law needs low seats (TooLarge quantity limit) h = absurd (frames_there default_banks needs (law needs low).1 h.4)
fits law needs low seats other h = absurd h

pub big_images_fit : ImageStarts → DefaultBankHasRoom → BigImagesFit
big_images_fit start law name home n some few valid bytes seats r h =
    fits law (needs_of (big_image name home n)) (start name home n some few valid bytes).low seats r h

-- ---- the startup code's steps

eighths : (n q t : ℕ) (b : Bool) → n ≤ 50000 → q ≡ 4 * n / 32 → t ≡ 4 * n % 32 / 4 → 10 + (cond b (6 + 5 * q) (9 + 5 * q + 4 * t) + 2 + 0) + 0 ≤ 48 + 4 * n
eighths n q t true few e f = omega (arith, few, e, f)
eighths n q t false few e f = omega (arith, few, e, f)

pub startup_few : (n : ℕ) → n ≤ 50000 → big_startup n ≤ 48 + 4 * n
startup_few n few =
    let upwards : nat_lt (4 * n + 216) 8388608 ≡ true = lt-ltb _ _ (omega (arith, few)) in
    rw upwards (eighths n (4 * n / 32) (4 * n % 32 / 4) ((4 * n % 32 / 4) == 0) few refl refl)

by_eights : (q t : ℕ) (b : Bool) → 10 + (cond b (6 + 5 * q) (9 + 5 * q + 4 * t) + 2 + 0) + 0 ≡ cond b (18 + 5 * q) (21 + 5 * q + 4 * t)
by_eights q t true = omega arith
by_eights q t false = omega arith

-- eight words at once, and others
pub startup_is : (n : ℕ) → n ≤ 50000 → big_startup n ≡ cond ((n % 8) == 0) (18 + 5 * (n / 8)) (21 + 5 * (n / 8) + 4 * (n % 8))
startup_is n few =
    let upwards : nat_lt (4 * n + 216) 8388608 ≡ true = lt-ltb _ _ (omega (arith, few)) in
    let eights : 4 * n / 32 ≡ n / 8 = omega arith in
    let others : 4 * n % 32 / 4 ≡ n % 8 = omega arith in
    rw (upwards, eights, others) (by_eights (n / 8) (n % 8) ((n % 8) == 0))

-- ---- the run

ordinary : (steps : List Stepped) → AreOrdinary steps → AllByRecursion (λ x. x.event ≡ event.Ran) steps
ordinary [] h = tt
ordinary (x ∷ xs) h = (h.0, ordinary xs h.1)

behind_startup : (made startup count n : ℕ) → count ≡ startup → made ≡ count + (n + 3) → made - startup ≡ n + 3
behind_startup made startup count n e f = omega (arith, e, f)

module _ (ends : BigRunEnds) (program : ProgramIsEntered) (one : BusRunIsOne) (once : MadeStepsAreOne) (n : ℕ) (few : n ≤ 50000) (i : Image) (view : ByteMap) (start : IsBigStart n i view)
    (seats : List Seat) (s : State) (roomy : IsRoomy default_banks seats (needs_of i)) (opening : IsOpening default_banks (run_image i) seats s) (is_ready : IsReady s) where
  entry : entry_of i ≡ 0
  entry = ap (λ (e : ℕ). e + flag i.thumb) start.entry ∙ ap (λ (t : Bool). 0 + flag t) start.arm

  allow : Allow default_banks seats (written_in i)
  allow = record {
    banks_whole = ((refl, refl), tt);
    seats_whole = subst AreWholeSeats opening.devices is_ready.laid_out.devices;
    writable = λ x e. refl;
  }

  o : IsOpened (map_booting i view) s
  o = opened (map_booting i view) default_banks seats s roomy allow (inl start.can.ranged) opening

  exact : (board : Board) (t : Whole) → CanStart (map_of (segments_of i)) view (written_in i) i.start board t
      → BootsIn (big_startup n) (map_of (segments_of i)) view (entry_of i) board t
  exact board t can = subst (λ (e : ℕ). BootsIn (big_startup n) (map_of (segments_of i)) view e board t) (sym entry) (start.exact board t can)

  within : big_startup n ≤ i.bound
  within = subst (λ (b : ℕ). big_startup n ≤ b) (sym start.bound) (startup_few n few)

  boots : CanBoot (map_booting i view)
  boots = map_can i view (record { boots = λ board t can. (big_startup n, within, exact board t can); can = start.can })

  outcome : (left : List Seat) (why : Stop) (steps sum : ℕ) → HasEnded i.start n s why steps sum left → IsBigOutcome n i view seats left why steps sum
  outcome left why steps sum h =
      let most : ℕ = 5 * n + 51 in
      let can = can_start o boots h.core h.reset in
      let (front, count, p) = exact_startup o boots h.core (big_startup n) within (exact (board_of s) (over h.core s) can) in
      let quiet : AreQuiet h.core s front = record { are = p.given; ordinary = ordinary front p.are.boot.ordinary; off = p.are.off; used = each_used o boots start.can.ranged (accesses_of front) p.are.boot.booted.safe } in
      let boot : BootSteps (length front) (map_of (segments_of i)) view 0 (board_of s) (over h.core s) (lines_for (length front) s.devices) front =
      subst (λ (e : ℕ). BootSteps (length front) (map_of (segments_of i)) view e (board_of s) (over h.core s) (lines_for (length front) s.devices) front) entry p.are.boot in
      let entered =
      program n (length front) i.start (map_of (segments_of i)) view (written_in i) (board_of s) (over h.core s) (lines_for (length front) s.devices) front few start.shown can boot in
      let enough : length front + (n + 3) ≤ most = (let bound = start.bound in let least = p.are.few in omega (arith, bound, least)) in
      let end = ends n 0 most h.made h.core h.core' s h.end front why h.text few is_ready (valid o boots h.core h.reset) quiet entered enough h.runs in
      let runs : Runs most h.core s stop.Exit h.made [] h.core' h.end =
      subst (λ (t : List ℕ). Runs most h.core s stop.Exit h.made t h.core' h.end) end.unprinted
      (subst (λ (w : Stop). Runs most h.core s w h.made h.text h.core' h.end) end.exits h.runs) in
      let ran : Ran default_banks (run_image i) most stop.Exit (Some []) (Some []) (Rose 0 0) seats left = record {
        roomy = roomy;
        begin = s;
        opening = opening;
        is_run = record {
          core = h.core;
          reset = h.reset;
          made = h.made;
          few = (let c = end.count in omega (arith, c, enough));
          core' = h.core';
          end = h.end;
          runs = ([], runs, refl);
          devices = h.devices;
        };
      } in
      let started : HasStarted (map_booting i view) default_banks most stop.Exit (Some []) (Some []) (Rose 0 0) seats left = record {
        ran = ran;
        steps = front;
        starts = starts one once o boots h.core h.reset front p most stop.Exit h.made h.core' h.end (Some []) (Some []) (Rose 0 0) ([], runs, refl);
        devices = opening.devices;
        devices_left = h.devices;
      } in
      record {
        exits = end.exits;
        count = h.counted ∙ behind_startup h.made (big_startup n) (length front) n count end.count;
        total = h.added ∙ end.sum;
        ran = record {
          started = started;
          count = end.count;
          sum = end.sum;
          ticked = h.devices ∙ end.devices ∙ ap (λ (k : ℕ). ticked_for k s.devices) end.count ∙ ap (ticked_for (length front + (n + 3))) opening.devices;
          touches = ap touches_of h.devices ∙ end.touches ∙ ap touches_of opening.devices;
        };
      }

pub big_images_run : ImageStarts → BigRunEnds → ProgramIsEntered → BusRunIsOne → MadeStepsAreOne → BigImagesRun
big_images_run starts ends program one once name home n some few valid bytes seats left begin why steps sum roomy opening ready ended =
    outcome ends program one once n few (big_image name home n) (big_view name home n) (starts name home n some few valid bytes) seats begin roomy opening ready left why steps sum ended
