-- The kit in an image, and the run of a program that keeps the rules over silent devices.
use Rattle.std.proofs.Common.{◌≡◌, inl, ℕ, zero, suc, ◌+◌, ◌-◌, ◌%◌, ◌^◌, ◌<◌, ◌≤◌, true, false, List, [], ◌∷◌, length, get_or, Option, Some, Result, Ok, refl, sym, ap, ◌∙◌, subst, arith}
use Rattle.std.specs.List.{AllByRecursion}
use Rattle.sdt_fault.specs.declared.answer.Answer.{Answer}
use Rattle.sdt_fault.specs.declared.answer.Answer.TheVariants as answer
use Rattle.sdt_fault.specs.declared.answer.Stop.TheVariants as stop
use Rattle.sdt_fault.specs.declared.refusal.Refusal.{Refusal}
use Rattle.sdt_outside.specs.Counts.{Rose}
use Rattle.sdt_outside.specs.Files.{Files}
use Rattle.aof_object.specs.declared.records.Object.{Object}
use Rattle.arm7_model.specs.declared.event.Event.TheVariants as event
use Rattle.arm7_model.specs.Memory.{Board, Bytes}
use Rattle.arm7_model.specs.Outcomes.{Stepped}
use Rattle.arm7_model.specs.Runs.{accesses_of, behind}
use Rattle.arm7_bus.specs.declared.memory.Bank.{Bank}
use Rattle.arm7_bus.specs.Seats.{Seat}
use Rattle.arm7_bus.specs.States.{State, protected_at}
use Rattle.arm7_transfers.specs.Boards.{board_of, over}
use Rattle.arm7_transfers.proofs.ReadyLemmas.{board-same, ready-same}
use Rattle.boot_code.specs.Boots.{AreOrdinary, ByteMap}
use Rattle.patch_model.specs.Fields.{Values}
use Rattle.patch_model.specs.Patched.{AreaPatched, Patched, Veneers}
use Rattle.patch_model.specs.Reaches.{Shows}
use Rattle.stand_model.specs.Placed.{ShowsZeros}
use Rattle.place_model.specs.declared.scatter.Kind.{Kind}
use Rattle.place_model.specs.declared.scatter.Kind.TheVariants as kind
use Rattle.place_model.specs.Plans.{Plan}
use Rattle.link_model.specs.declared.images.Image.{Image}
use Rattle.link_model.specs.declared.selection.Linked.{Linked}
use Rattle.link_laws.specs.Placing.{region_with, veneers_in}
use Rattle.link_laws.specs.Plans.{IsShownBy, values_by}
use Rattle.kit_laws.specs.Handler.{IsKit}
use Rattle.kit_laws.specs.Rules.{KeepsRules}
use Rattle.irq_kit.specs.Kit.{kit_of, vector_relocs, vectors_of, work_area}
use Rattle.irq_kit.specs.Transparent.{Holds}
use Rattle.irq_kit.proofs.KitWords.{is-kit}
use Rattle.run_laws.specs.Laws.{StartedExitsAlike}
use Rattle.run_laws.specs.Silent.{AreQuiet, HasWork}
use Rattle.run_laws.proofs.Boards.{board-is-one}
use Rattle.run_opening.specs.declared.image.Image.{Image as RunImage}
use Rattle.tool_words.specs.declared.command.Command.{Command}
use Rattle.tool_words.specs.declared.command.Command.TheVariants as command
use Rattle.tool_words.specs.declared.command.Container.{Container}
use Rattle.tool_words.specs.declared.command.LinkPlacement.{LinkPlacement}
use Rattle.tool_words.specs.declared.command.LinkPlacement.TheVariants as placement
use Rattle.tool_words.specs.declared.command.RunImage.{RunImage as Named}
use Rattle.tool_answers.specs.Outcomes.{Outside, written}
use Rattle.bin_image.specs.Files.{load_files}
use Rattle.tool_run.specs.Images.{IsRead}
use Rattle.tool_run.specs.Runs.{Ran}
use Rattle.sdt_toolkit.specs.Commands.{Commanded}
use Rattle.sdt_toolkit.specs.Interrupts.{HidesInterrupts, InterruptsAreHidden, IsInForce, MayBeInterrupted, has_word, silenced}
use Rattle.sdt_toolkit.specs.Links.{IsAskedAs, image_files, outputs, text_in}
use Rattle.sdt_toolkit.specs.RunImages.{is_needed, needs_of, run_image}
use Rattle.sdt_toolkit.specs.Runs.{FilesAreRead, map_booting}
use Rattle.sdt_toolkit.specs.Starting.{FitsAt, ReachesEntry}
use Rattle.sdt_toolkit.proofs.RunLinked.{stand}
use Rattle.sdt_toolkit.proofs.RunNeeds.{needed_page}
use Rattle.sdt_toolkit.proofs.RunBooting.{Reaches as Ways, map_can}
use Rattle.sdt_toolkit.proofs.RunOpened.{IsOpened, bank_there, opened, ready, valid}
use Rattle.sdt_toolkit.proofs.RunSilenced.{are_silent, device_word, no_bank, roomy_silenced, same_places, silent_bus}
use Rattle.sdt_toolkit.proofs.RunStartup.{each_used, startup}

-- ---- what the view shows of the kit

shown_byte : (view : ByteMap) (a : ℕ) (bytes : List ℕ) (i : ℕ) → Shows view a bytes → i < length bytes → view (a + i) ≡ Some (get_or bytes i 0)
shown_byte view a [] i shows lt = absurd (omega arith)
shown_byte view a (b ∷ bs) zero shows lt = (let same : a + 0 ≡ a = omega arith in ap view same) ∙ shows.0
shown_byte view a (b ∷ bs) (suc i) shows lt = (let same : a + suc i ≡ suc a + i = omega arith in ap view same) ∙ shown_byte view (suc a) bs i shows.1 (omega arith)

-- the kit's object, as a view shows it: its patched vectors at 0, and its work area
pub record IsSeen (ack work : ℕ) (view : ByteMap) : Type 0 where
  pub values : Values
  pub veneers : Veneers
  pub bytes : List ℕ
  pub patched : Patched (kit_of ack) 0 values veneers bytes
  pub work_at : values.base 1 ≡ work
  pub shown : (i : ℕ) → i < 0x50 → view i ≡ Some (get_or bytes i 0)
  pub zeros : (i : ℕ) → i < 12 → view (work + i) ≡ Some 0
  pub whole : work % 4 ≡ 0
  pub high : work + 12 ≤ 2 ^ 32

pub kit_seen : (ack work : ℕ) (plan : Plan) (l : Linked) (view : ByteMap) (f : IsInForce ack work plan l) → IsShownBy plan l f.own f.object.value view → IsSeen ack work view
kit_seen ack work plan l view f by = go (subst (λ (o : Object). IsShownBy plan l f.own o view) f.words by)
  where
    go : IsShownBy plan l f.own (kit_of ack) view → IsSeen ack work view
    go h =
        let values = values_by plan l f.own in
        let (region, ranges) = h.ranges in
        let show = h.shown region ranges in
        let vectors : (out : List ℕ) × Patched (kit_of ack) 0 values (veneers_in (region_with plan f.own 0)) out × Shows view (values.base 0) out = show.areas 0 (vectors_of ack) refl in
        let (out, patched, shows) = vectors in
        let zeros : ShowsZeros view (values.base 1) 12 = show.areas 1 work_area refl in
        let first : values.base 0 ≡ 0 = sym (h.placed.addresses 0) ∙ f.vectors_at in
        let second : values.base 1 ≡ work = sym (h.placed.addresses 1) ∙ f.work_at in
        let at_zero : Shows view 0 out = subst (λ (a : ℕ). Shows view a out) first shows in
        let area : AreaPatched vector_relocs (vectors_of ack).bytes (values.base 0) values (veneers_in (region_with plan f.own 0)) out = patched in
        let size : length out ≡ 0x50 = area.size in
        let ends : values.base 1 + 12 ≤ 2 ^ 32 = h.placed.ends 1 work_area refl in
        record {
          values = values;
          veneers = veneers_in (region_with plan f.own 0);
          bytes = out;
          patched = patched;
          work_at = second;
          shown = λ i lt. (let same : i ≡ 0 + i = omega arith in ap view same) ∙ shown_byte view 0 out i at_zero (omega (arith, lt, size));
          zeros = λ i lt. ap (λ (a : ℕ). view (a + i)) (sym second) ∙ zeros i lt;
          whole = ap (λ (a : ℕ). a % 4) (sym second) ∙ h.placed.aligned 1 work_area refl;
          high = subst (λ (a : ℕ). a + 12 ≤ 2 ^ 32) second ends;
        }

-- ---- over a bus that was opened

ordinary : (steps : List Stepped) → AreOrdinary steps → AllByRecursion (λ x. x.event ≡ event.Ran) steps
ordinary [] h = tt
ordinary (x ∷ xs) h = (h.0, ordinary xs h.1)

module _ {i : Image} {view : ByteMap} {s : State} (o : IsOpened (map_booting i view) s) (r : Ways i view) (ack work : ℕ) (seen : IsSeen ack work view)
    (low : 0x50 ≤ work) (whole : ack % 4 ≡ 0) (small : ack < 2 ^ 32) (has : has_word s.devices ack ≡ true) (free : (k : ℕ) → k < 12 → protected_at s.contents.banks (work + k) ≡ false) where
  there : (x b : ℕ) → view x ≡ Some b → (board_of s).memory x ≡ true
  there x b e = bank_there o x (r.can.ranged x b e)

  page : (x b : ℕ) → view x ≡ Some b → is_needed (needs_of i) x ≡ true
  page x b e = r.can.ranged x b e

  -- the kit holds where memory is the view
  holds : (m : Bytes) → ((x b : ℕ) → view x ≡ Some b → m x ≡ b) → Holds (kit_of ack) (board_of s) work m
  unfolding board_of
  holds m shows = record {
    values = seen.values;
    veneers = seen.veneers;
    bytes = seen.bytes;
    patched = seen.patched;
    placed = seen.work_at;
    mapped = λ a lo hi. there a (get_or seen.bytes a 0) (seen.shown a hi);
    shown = λ a lo hi. shows a (get_or seen.bytes a 0) (seen.shown a hi);
    whole = seen.whole;
    low = low;
    high = seen.high;
    ram = λ k lt. there (work + k) 0 (seen.zeros k lt);
    free = free;
  }

  has_work : HasWork work ack s.contents
  unfolding board_of
  has_work =
      let used = λ (x : ℕ) (e : view x ≡ Some 0). needed_page s.contents.banks (needs_of i) o.roomy.room s.contents.used x o.used (page x 0 e) in
      let word = device_word s ack (board-is-one s (ready o)) has in
      record {
        first = used work ((let same : work ≡ work + 0 = omega arith in ap view same) ∙ seen.zeros 0 (omega arith));
        second = used (work + 4) (seen.zeros 4 (omega arith));
        third = used (work + 8) (seen.zeros 8 (omega arith));
        device = no_bank s.contents.banks ack ((let same : ack ≡ ack + 0 = omega arith in ap (λ (a : ℕ). (board_of s).memory a) same) ∙ word.memory 0 (omega arith));
      }

  kit_over : (m : Bytes) → ((x b : ℕ) → view x ≡ Some b → m x ≡ b) → IsKit (board_of s) work ack m
  kit_over m shows = is-kit (board_of s) work ack m whole small (holds m shows) (device_word s ack (board-is-one s (ready o)) has)

-- ---- the run

-- the run of an image over silent devices
module _ (law : StartedExitsAlike) (i : Image) (view : ByteMap) (banks : List Bank) (seats left : List Seat) (most ack work : ℕ) (before after : Option (List ℕ)) (rose : Type 0)
    (r : Ways i view) (seen : IsSeen ack work view) (low : 0x50 ≤ work) (whole : ack % 4 ≡ 0) (small : ack < 2 ^ 32) (has : has_word seats ack ≡ true)
    (may : MayBeInterrupted i view banks seats work) where
  pub silent_run : Ran banks (run_image i) most stop.Exit before after rose seats left
      → (left' : List Seat) × Ran banks (run_image i) most stop.Exit before after rose (silenced seats) left'
  silent_run ran =
      let t = ran.begin in
      let q = silent_bus t in
      let run = ran.is_run in
      let can = map_can i view r in
      let o : IsOpened (map_booting i view) t = opened (map_booting i view) banks seats t ran.roomy may.allow (inl (λ x v e. r.can.ranged x v e)) ran.opening in
      let (steps, p) = startup o can run.core run.reset in
      let (text, runs, got) = run.runs in
      let has_t : has_word t.devices ack ≡ true = subst (λ (ds : List Seat). has_word ds ack ≡ true) (sym ran.opening.devices) has in
      let free_t = λ (k : ℕ) (lt : k < 12). subst (λ (bs : List Bank). protected_at bs (work + k) ≡ false) (sym ran.opening.banks_are) (may.free k lt) in
      let board : board_of q ≡ board_of t = board-same t q (same_places t) in
      let ready_q = ready-same t q (same_places t) refl (ready o).room (ready o) in
      let quiet : AreQuiet run.core t steps = record { are = p.given; ordinary = ordinary steps p.are.boot.ordinary; off = p.are.off; used = each_used o can (λ x v e. r.can.ranged x v e) (accesses_of steps) p.are.boot.booted.safe } in
      let kit_t = kit_over o r ack work seen low whole small has_t free_t (behind (over run.core t) steps).memory p.are.boot.booted.shown in
      let kit_q : IsKit (board_of q) work ack (behind (over run.core t) steps).memory =
      subst (λ (b : Board). IsKit b work ack (behind (over run.core t) steps).memory) (sym board) kit_t in
      let rules_t = may.rules run.core t steps run.reset ran.opening p.are in
      let (made, fewer, core, end, silent) =
      law work ack most run.made run.core run.core' q t run.end steps text ready_q (ready o) (are_silent t.devices) (has_work o r ack work seen low whole small has_t free_t) refl (sym board)
      (valid o can run.core run.reset) quiet kit_q (subst (λ (b : Board). KeepsRules b work (behind (over run.core t) steps)) (sym board) rules_t) runs in (
        end.devices,
        record {
          roomy = roomy_silenced banks seats (needs_of i) ran.roomy;
          begin = q;
          opening = record {
            banks_are = ran.opening.banks_are;
            memory = ran.opening.memory;
            used = ran.opening.used;
            frames = ran.opening.frames;
            stores = ran.opening.stores;
            devices = ap silenced ran.opening.devices;
          };
          is_run = record { core = run.core; reset = run.reset; made = made; few = (let most_made = run.few in omega (arith, fewer, most_made)); core' = core; end = end; runs = (text, silent, got); devices = refl {a = end.devices} };
        },
      )

-- ---- the law

same_image : (a b : RunImage) (read : Result RunImage Refusal) → read ≡ Ok a → read ≡ Ok b → a ≡ b
same_image a b read e f = let same : ◌≡◌ {A = Result RunImage Refusal} (Ok a) (Ok b) = sym e ∙ f in cc

pub interrupts_are_hidden : FilesAreRead → StartedExitsAlike → InterruptsAreHidden
interrupts_are_hidden files_law law r o seats left answers sources w description before after i views work ack is_scatter are_loads line some link force told by_map has may =
    let asked : IsAskedAs (placement.Scatter description) (text_in w.placement link.contents) w.ram link.shape link.ram =
    subst (λ (p : LinkPlacement). IsAskedAs p (text_in w.placement link.contents) w.ram link.shape link.ram) is_scatter link.asked in
    let (boots, can) : ReachesEntry (kind.Scatter asked.0) i views = subst (λ (k : Kind). ReachesEntry k i views) asked.2 link.placed.reaches in
    let fits : FitsAt link.shape i i.start = subst (λ (k : Kind). FitsAt k i i.start) (sym asked.2) refl in
    let by = (link.placed.seen i.start fits).objects force.own force.object force.there in
    let seen = kit_seen ack work _ link.placed.link (views i.start) force by in
    let files : Files = written before (outputs (load_files i w.output)) in
    let are : o.before ≡ Some files = told ∙ link.left ∙ ap (λ (c : Container). Some (written before (outputs (image_files c w.output link.tables i)))) are_loads in
    let read = answers.read in
    let by_files = subst (λ (f : Option Files). IsRead f (Rose o.reads o.reads_now) r.image read) are answers.read_so in
    let read_map = subst (λ (x : Named). IsRead (Some files) (Rose o.reads o.reads_now) x read) by_map by_files in
    let is = files_law i w.output files o.reads o.reads_now read (can.filed w.output line some) (stand before (load_files i w.output) (can.named w.output)) read_map in
    let u = answers.says in
    let ran : Ran u.banks (run_image i) r.steps stop.Exit o.printed o.prints (Rose o.faults o.faults_now) seats left =
    subst (λ (x : RunImage). Ran u.banks x r.steps stop.Exit o.printed o.prints (Rose o.faults o.faults_now) seats left) (same_image u.image (run_image i) read u.read_so is) u.ran in
    let (left', silent) =
    silent_run law i (views i.start) u.banks seats left r.steps ack work o.printed o.prints (Rose o.faults o.faults_now) (record { boots = boots; can = can }) seen force.behind
    force.whole force.small has (may u.banks u.are_banks) ran in
    (left', record { read = read; read_so = answers.read_so; says = record { image = run_image i; read_so = is; banks = u.banks; are_banks = u.are_banks; ran = silent; files = u.files } })

-- ---- the clause of the top call

pub hides_of : InterruptsAreHidden → (asked : Result Command ℕ) (o : Outside) (seats left : List Seat) (a : Answer) → Commanded asked o seats left a → HidesInterrupts asked o seats a
unfolding Commanded
hides_of law asked o seats left a commanded r is done =
    let ran : Commanded (Ok (command.Run r)) o seats left answer.Done =
    subst (λ (x : Answer). Commanded (Ok (command.Run r)) o seats left x) done (subst (λ (x : Result Command ℕ). Commanded x o seats left a) is commanded) in
    law r o seats left ran
