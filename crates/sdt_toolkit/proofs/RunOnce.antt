-- Words, files and devices decide what `run` answers and what it leaves.
use Rattle.std.proofs.Common.{◌≡◌, ◌≢◌, ℕ, ◌<◌, ◌≤◌, ◌==◌, Bool, true, false, List, [], ◌∷◌, ◌++◌, length, map, drop, Option, Some, None, Result, Ok, Err, ◌⊎◌, inl, inr, refl, sym, ap, ◌∙◌, subst, arith}
use Rattle.std.specs.Prelude.{MatchBool, slice_index}
use Rattle.std.specs.List.{AllByRecursion}
use Rattle.std.proofs.lemmas.Bool.Decides.{eqb_tells}
use Rattle.std.proofs.lemmas.Grind.{same_number_lists}
use Rattle.sdt_word.specs.declared.ranges.Range32.{Range32}
use Rattle.sdt_fault.specs.declared.answer.Answer.{Answer}
use Rattle.sdt_fault.specs.declared.answer.Answer.TheVariants as answer
use Rattle.sdt_fault.specs.declared.answer.Stop.{Stop}
use Rattle.sdt_fault.specs.declared.answer.Stop.TheVariants as stop
use Rattle.sdt_fault.specs.declared.kinds.Quantity.{Quantity}
use Rattle.sdt_fault.specs.declared.kinds.Quantity.TheVariants.{MemoryBytes}
use Rattle.sdt_fault.specs.declared.refusal.Refusal.{Refusal}
use Rattle.sdt_fault.specs.declared.refusal.Refusal.TheVariants.{BankOverlap, NoRoom, TooLarge}
use Rattle.sdt_outside.specs.Counts.{Rose}
use Rattle.sdt_outside.specs.Files.{Files, content}
use Rattle.arm7_model.specs.declared.state.ArmState.{ArmState}
use Rattle.arm7_model.specs.Memory.{Bytes}
use Rattle.arm7_model.specs.Registers.{IsValidState, register}
use Rattle.arm7_bus.specs.declared.memory.Bank.{Bank as MemoryBank}
use Rattle.arm7_bus.specs.Meets.{IsLeast, IsNowhere}
use Rattle.arm7_bus.specs.Paging.{used_count}
use Rattle.arm7_bus.specs.Seats.{Seat}
use Rattle.arm7_bus.specs.States.{State}
use Rattle.arm7_bus.specs.WholeWords.{AreWholeBanks, AreWholeSeats, IsWhole}
use Rattle.arm7_core.specs.Resets.{IsReset}
use Rattle.arm7_run.specs.Runs.{Runs, is_sink}
use Rattle.arm7_run.proofs.ChokeLemmas.{ended_by}
use Rattle.arm7_transfers.specs.Boards.{over}
use Rattle.arm7_transfers.specs.Ready.{IsReady}
use Rattle.run_laws.specs.Laws.{BusRunIsOne}
use Rattle.run_opening.specs.declared.image.Image.{Image}
use Rattle.run_opening.specs.declared.image.Load.{Load}
use Rattle.run_opening.specs.declared.image.Need.{Need}
use Rattle.run_opening.specs.Banks.{HasFrames, IsDefect, IsRoomy, LacksFrames, banks_of, frames_of, is_lacking, memory_bank, rom_bank, two_have}
use Rattle.run_opening.specs.Openings.{IsOpening}
use Rattle.chunk_file.specs.Grammar.{AreBytes}
use Rattle.chunk_file.specs.Reading.{◌>>=◌}
use Rattle.chunk_file.proofs.Loops.{bind_ok}
use Rattle.aif_image.specs.Reading.{aif_of}
use Rattle.bin_image.specs.declared.records.MapLoad.{MapLoad}
use Rattle.bin_image.specs.Reading.{map_of}
use Rattle.elf_image.specs.declared.records.Segment.{Segment}
use Rattle.elf_image.specs.Reading.{elf_of}
use Rattle.hex_image.specs.declared.records.Burn.{Burn}
use Rattle.hex_image.specs.Reading.{burn_of}
use Rattle.tool_answers.specs.Inputs.{and_others, found_or, input_of, inputs_of}
use Rattle.tool_answers.specs.Outcomes.{Outside}
use Rattle.tool_words.specs.declared.command.Bank.{Bank}
use Rattle.tool_words.specs.declared.command.Command.TheVariants as command
use Rattle.tool_words.specs.declared.command.RunImage.{RunImage}
use Rattle.tool_words.specs.declared.command.RunImage.TheVariants as image
use Rattle.tool_words.specs.declared.command.RunWords.{RunWords}
use Rattle.tool_words.specs.Commands.{IsBank, command_of}
use Rattle.tool_run.specs.Aifs.{aif_at, base_for, loaded_aif, placed_aif}
use Rattle.tool_run.specs.Burned.{burned_image, form_in, loaded_burn}
use Rattle.tool_run.specs.Elfs.{elf_image, load_of, loaded_elf}
use Rattle.tool_run.specs.Ends.{named_by, stop_answer}
use Rattle.tool_run.specs.Images.{IsRead, all_named, binary_image, files_in, front_of, image_of, lengths_judged, loaded_image, loads_of, map_image, mapped_image, unnamed}
use Rattle.tool_run.specs.Openings.{AreBanks, AreRanges, IsRefusal}
use Rattle.tool_run.specs.Runs.{HasRun, IsStopped, IsUntouched, Ran, RunSays}
use Rattle.sdt_toolkit.specs.Runs.{HoldBytes, IsDecided, OneRun}
use Rattle.sdt_toolkit.proofs.CommandLemmas.{good_command}
use Rattle.sdt_toolkit.proofs.LinkOnce.{first_same, ranges_once}
use Rattle.sdt_toolkit.proofs.RunCommands.{same_image}
use Rattle.sdt_toolkit.proofs.RunLoads.{loaded_bytes}
use Rattle.sdt_toolkit.proofs.RunNeeds.{same_used}
use Rattle.sdt_toolkit.proofs.RunOpened.{ready_for}
use Rattle.sdt_toolkit.proofs.RunRecords.{drop_bytes, records_bytes, take_bytes}

-- ---- the load files are bytes

abbrev OfBytes : List Load → Type 0
OfBytes loads = AllByRecursion (λ (l : Load). AreBytes l.bytes) loads

found_bytes : (files : Files) → HoldBytes files → (name bytes : List ℕ) (o : Option (List ℕ)) → content files name ≡ o → found_or name o ≡ Ok bytes → AreBytes bytes
found_bytes files hold name bytes None e h = absurd cc
found_bytes files hold name bytes (Some xs) e h = let same : xs ≡ bytes = cc in subst AreBytes same (hold name xs e)

input_bytes : (files : Files) → HoldBytes files → (name bytes : List ℕ) → input_of files name ≡ Ok bytes → AreBytes bytes
input_bytes files hold name bytes h = found_bytes files hold name bytes (content files name) refl h

both_bytes : (first : Result (List ℕ) Refusal) (others : Result (List (List ℕ)) Refusal) (contents : List (List ℕ))
    → ((bytes : List ℕ) → first ≡ Ok bytes → AreBytes bytes) → ((rest : List (List ℕ)) → others ≡ Ok rest → AllByRecursion AreBytes rest)
    → and_others first others ≡ Ok contents → AllByRecursion AreBytes contents
both_bytes (Ok bytes) (Ok rest) contents f g h =
    let same : bytes ∷ rest ≡ contents = cc in subst (λ (cs : List (List ℕ)). AllByRecursion AreBytes cs) same (f bytes refl, g rest refl)
both_bytes (Ok bytes) (Err r) contents f g h = absurd cc
both_bytes (Err r) others contents f g h = absurd cc

inputs_bytes : (files : Files) → HoldBytes files → (names contents : List (List ℕ)) → inputs_of files names ≡ Ok contents → AllByRecursion AreBytes contents
inputs_bytes files hold [] contents h = let same : [] ≡ contents = cc in subst (λ (cs : List (List ℕ)). AllByRecursion AreBytes cs) same tt
inputs_bytes files hold (name ∷ names) contents h =
    both_bytes (input_of files name) (inputs_of files names) contents (input_bytes files hold name) (inputs_bytes files hold names) h

loads_bytes : (lines : List MapLoad) (contents : List (List ℕ)) → AllByRecursion AreBytes contents → OfBytes (loads_of lines contents)
loads_bytes [] contents h = tt
loads_bytes (l ∷ ls) [] h = tt
loads_bytes (l ∷ ls) (bytes ∷ contents) h = (h.0, loads_bytes ls contents h.1)

segments_bytes : (b : List ℕ) → AreBytes b → (ss : List Segment) → OfBytes (map (load_of b) ss)
segments_bytes b h [] = tt
segments_bytes b h (s ∷ ss) = (take_bytes s.file_size (drop s.offset b) (drop_bytes s.offset b h), segments_bytes b h ss)

made_bytes : (x y : Image) → ◌≡◌ {A = Result Image Refusal} (Ok x) (Ok y) → OfBytes x.loads → OfBytes y.loads
made_bytes x y h bytes = let same : x ≡ y = cc in subst (λ (i : Image). OfBytes i.loads) same bytes

named_ok : (name : List ℕ) (r : Result Burn Refusal) (b : Burn) → named_by name r ≡ Ok b → r ≡ Ok b
named_ok name (Ok x) b h = h
named_ok name (Err r) b h = absurd cc

image_bytes : (files : Files) → HoldBytes files → (named : RunImage) (i : Image) → image_of named files ≡ Ok i → OfBytes i.loads
image_bytes files hold (image.Binary file at) i h =
    let (bytes, read, made) = bind_ok (input_of files file) (λ bytes. Ok (binary_image at bytes)) i h in
    made_bytes (binary_image at bytes) i made (input_bytes files hold file bytes read, tt)
image_bytes files hold (image.Aif file at) i h =
    let (bytes, read, placed) = bind_ok (input_of files file) (λ bytes. aif_at file at bytes) i h in
    let (a, is_aif, based) = bind_ok (named_by file (aif_of bytes)) (λ a. placed_aif file at bytes a) i placed in
    let (base, is_base, made) = bind_ok (base_for file at a) (λ base. Ok (loaded_aif base a bytes)) i based in
    made_bytes (loaded_aif base a bytes) i made (input_bytes files hold file bytes read, tt)
image_bytes files hold (image.Elf file) i h =
    let (bytes, read, loaded) = bind_ok (input_of files file) (λ bytes. elf_image file bytes) i h in
    let (e, is_elf, made) = bind_ok (named_by file (elf_of bytes)) (λ e. Ok (loaded_elf bytes e)) i loaded in
    made_bytes (loaded_elf bytes e) i made (segments_bytes bytes (input_bytes files hold file bytes read) e.segments)
image_bytes files hold (image.Burned file) i h =
    let (text, read, loaded) = bind_ok (input_of files file) (λ text. burned_image file text) i h in
    let (b, is_burn, made) = bind_ok (named_by file (burn_of (form_in text) text)) (λ b. Ok (loaded_burn b)) i loaded in
    made_bytes (loaded_burn b) i made (records_bytes (form_in text) text b (named_ok file (burn_of (form_in text) text) b is_burn))
image_bytes files hold (image.Map file) i h =
    let (text, read, mapped) = bind_ok (input_of files file) (λ text. named_by file (map_of text) >>= λ m. mapped_image m files) i h in
    let (m, is_map, filed) = bind_ok (named_by file (map_of text)) (λ m. mapped_image m files) i mapped in
    let names = front_of (files_in m) (unnamed (files_in m)) in
    let (contents, got, named) = bind_ok (inputs_of files names) (λ contents. all_named (files_in m) (unnamed (files_in m)) >>= λ right. loaded_image m contents) i filed in
    let (right, all, judged) = bind_ok (all_named (files_in m) (unnamed (files_in m))) (λ right. loaded_image m contents) i named in
    let (good, lengths, made) = bind_ok (lengths_judged m.loads contents) (λ good. Ok (map_image m contents)) i judged in
    made_bytes (map_image m contents) i made (loads_bytes m.loads contents (inputs_bytes files hold names contents got))

-- ---- the banks are one list, of whole words

banks_once : (told told_rom : List Bank) (banks others : List MemoryBank) → AreBanks told told_rom banks → AreBanks told told_rom others → banks ≡ others
banks_once told told_rom banks others x y =
    let memory = ranges_once x.memory y.memory (x.memory_told ∙ sym y.memory_told) in
    let rom = ranges_once x.rom y.rom (x.rom_told ∙ sym y.rom_told) in
    x.banks_are ∙ ap (λ (rs : List Range32). banks_of rs x.rom) memory ∙ ap (λ (rs : List Range32). banks_of y.memory rs) rom ∙ sym y.banks_are

abbrev AreWhole : List Range32 → Type 0
AreWhole ranges = AllByRecursion (λ (r : Range32). IsWhole r.base r.size) ranges

told_whole : (told : List Bank) (ranges : List Range32) → AreRanges told ranges → AllByRecursion IsBank told → AreWhole ranges
told_whole told [] e good = tt
told_whole [] (r ∷ rs) e good = absurd (let bad : ◌≡◌ {A = List (ℕ × ℕ)} ((r.base, r.size) ∷ map (λ x. (x.base, x.size)) rs) [] = e in cc)
told_whole (b ∷ bs) (r ∷ rs) e (one, good) =
    let (same, rest) = first_same (r.base, r.size) (b.base, b.size) (map (λ (x : Range32). (x.base, x.size)) rs) (map (λ (x : Bank). (x.base, x.size)) bs) e in
    let base : r.base ≡ b.base = ap (λ (p : ℕ × ℕ). p.0) same in
    let size : r.size ≡ b.size = ap (λ (p : ℕ × ℕ). p.1) same in
    ((rw base one.base, rw size one.size), told_whole bs rs rest good)

memory_whole : (ranges : List Range32) → AreWhole ranges → AreWholeBanks (map memory_bank ranges)
memory_whole [] h = tt
memory_whole (r ∷ rs) h = (h.0, memory_whole rs h.1)

both_whole : (memory rom : List Range32) → AreWhole memory → AreWhole rom → AreWholeBanks (map memory_bank memory ++ map rom_bank rom)
both_whole [] [] a b = tt
both_whole [] (r ∷ rom) a b = (b.0, both_whole [] rom a b.1)
both_whole (r ∷ memory) rom a b = (a.0, both_whole memory rom a.1 b)

all_whole : (memory rom : List Range32) → AreWhole memory → AreWhole rom → AreWholeBanks (banks_of memory rom)
all_whole [] [] a b = ((refl, refl), tt)
all_whole [] (r ∷ rom) a b = both_whole [] (r ∷ rom) a b
all_whole (m ∷ memory) rom a b = both_whole (m ∷ memory) rom a b

pub banks_whole : (words : List (List ℕ)) (w : RunWords) (banks : List MemoryBank) → command_of words ≡ Ok (command.Run w) → AreBanks w.memory w.rom banks → AreWholeBanks banks
banks_whole words w banks h are =
    let (placed, memory, rom) = good_command words (command.Run w) h in
    subst AreWholeBanks (sym are.banks_are) (all_whole are.memory are.rom (told_whole w.memory are.memory are.memory_told memory) (told_whole w.rom are.rom are.rom_told rom))

-- ---- what a run begins with is one

core_of : (r high r13 r14 : List ℕ) (cpsr : ℕ) (spsr : List ℕ) → ArmState
core_of r high r13 r14 cpsr spsr = record { r = r; banks = record { high = high; r13 = r13; r14 = r14 }; cpsr = cpsr; spsr = spsr }

core_once : (r r' high high' r13 r13' r14 r14' : List ℕ) (cpsr cpsr' : ℕ) (spsr spsr' : List ℕ) → r ≡ r' → high ≡ high' → r13 ≡ r13' → r14 ≡ r14' → cpsr ≡ cpsr' → spsr ≡ spsr'
    → core_of r high r13 r14 cpsr spsr ≡ core_of r' high' r13' r14' cpsr' spsr'
core_once r r' high high' r13 r13' r14 r14' cpsr cpsr' spsr spsr' a b c d e f = rw (a, b, c, d, e, f) refl

zeros_once : (xs ys : List ℕ) (n : ℕ) → length xs ≡ n → length ys ≡ n → ((k : ℕ) → slice_index xs k ≡ 0) → ((k : ℕ) → slice_index ys k ≡ 0) → xs ≡ ys
zeros_once xs ys n e f x y = same_number_lists xs ys (e ∙ sym f) (λ k lt. x k ∙ sym (y k))

reset_once : (pc : ℕ) (thumb : Bool) (c d : ArmState) → IsReset pc thumb c → IsReset pc thumb d → c ≡ d
unfolding register core_of
reset_once pc thumb c d x y =
    core_once c.r d.r c.banks.high d.banks.high c.banks.r13 d.banks.r13 c.banks.r14 d.banks.r14 c.cpsr d.cpsr c.spsr d.spsr
    (same_number_lists c.r d.r (x.valid.visible.count ∙ sym y.valid.visible.count) (λ k lt. visible k (eqb_tells k 15)))
    (zeros_once c.banks.high d.banks.high 5 x.valid.high.count y.valid.high.count x.high y.high)
    (zeros_once c.banks.r13 d.banks.r13 6 x.valid.r13.count y.valid.r13.count x.r13 y.r13)
    (zeros_once c.banks.r14 d.banks.r14 6 x.valid.r14.count y.valid.r14.count x.r14 y.r14)
    (x.status ∙ sym y.status)
    (zeros_once c.spsr d.spsr 5 x.valid.saved_count y.valid.saved_count x.saved y.saved)
  where
    visible : (k : ℕ) → (((k == 15) ≡ true) × (k ≡ 15)) ⊎ (((k == 15) ≡ false) × (k ≢ 15)) → slice_index c.r k ≡ slice_index d.r k
    visible k (inl (e, same)) = rw same (x.address ∙ sym y.address)
    visible k (inr (e, other)) = x.others k other ∙ sym (y.others k other)

bus_of : List MemoryBank → (ℕ → ℕ) → List Bool → ℕ → List (ℕ × ℕ) → List Seat → State
bus_of banks memory used frames stores devices =
    record { contents = record { banks = banks; memory = memory; used = used; frames = frames; stores = stores }; devices = devices }

bus_once : (banks banks' : List MemoryBank) (memory memory' : ℕ → ℕ) (used used' : List Bool) (frames frames' : ℕ) (stores stores' : List (ℕ × ℕ)) (devices devices' : List Seat)
    → banks ≡ banks' → memory ≡ memory' → used ≡ used' → frames ≡ frames' → stores ≡ stores' → devices ≡ devices'
    → bus_of banks memory used frames stores devices ≡ bus_of banks' memory' used' frames' stores' devices'
bus_once banks banks' memory memory' used used' frames frames' stores stores' devices devices' a b c d e f = rw (a, b, c, d, e, f) refl

opening_once : (banks : List MemoryBank) (i : Image) (seats : List Seat) (s t : State) → IsOpening banks i seats s → IsOpening banks i seats t → s ≡ t
unfolding bus_of
opening_once banks i seats s t x y =
    bus_once s.contents.banks t.contents.banks s.contents.memory t.contents.memory s.contents.used t.contents.used s.contents.frames t.contents.frames s.contents.stores t.contents.stores s.devices t.devices
    (x.banks_are ∙ sym y.banks_are) (x.memory ∙ sym y.memory) (same_used s.contents.used t.contents.used i.needs x.used y.used)
    (x.frames ∙ sym y.frames) (x.stores ∙ sym y.stores) (x.devices ∙ sym y.devices)

-- ---- the run is one

unsunk : (b : Bool) (X Y : Type 0) → b ≡ false → MatchBool b X Y → Y
unsunk b X Y e h = subst (λ (t : Bool). MatchBool t X Y) e h

module _ (law : BusRunIsOne) (banks : List MemoryBank) (whole : AreWholeBanks banks) (seats : List Seat) (placed : AreWholeSeats seats) (i : Image) (bytes : OfBytes i.loads)
    (most : ℕ) (printed : List ℕ) where
  ready : (s : State) → IsRoomy banks seats i.needs → IsOpening banks i seats s → IsReady s
  ready s roomy o =
      let b = o.banks_are in let d = o.devices in
      ready_for i.needs s
      (subst (λ (bs : List MemoryBank). IsRoomy bs s.devices i.needs) (sym b) (subst (λ (ds : List Seat). IsRoomy banks ds i.needs) (sym d) roomy))
      (subst AreWholeBanks (sym b) whole) (subst AreWholeSeats (sym d) placed) o.used (o.frames ∙ ap frames_of (sym b))

  valid : (s : State) (core : ArmState) → IsOpening banks i seats s → IsReset i.start i.thumb core → IsValidState (over core s)
  valid s core o reset = record {
    core = reset.valid;
    memory = λ x. subst (λ (m : Bytes). m x < 256) (sym o.memory) (loaded_bytes (λ a. 0) i.loads (λ y. omega arith) bytes x);
  }

  ran_once : (why why' : Stop) (after after' : Option (List ℕ)) (rose rose' : Type 0) (left left' : List Seat) → is_sink why ≡ false → is_sink why' ≡ false
      → Ran banks i most why (Some printed) after rose seats left → Ran banks i most why' (Some printed) after' rose' seats left' → (why ≡ why') × (left ≡ left') × (after ≡ after')
  ran_once why why' after after' rose rose' left left' e e' x y =
      let (text, ended) = ended_by most x.is_run.core x.begin why x.is_run.made x.is_run.core' x.is_run.end (Some printed) after rose x.is_run.runs in
      let (text', ended') = ended_by most y.is_run.core y.begin why' y.is_run.made y.is_run.core' y.is_run.end (Some printed) after' rose' y.is_run.runs in
      let (run, got) = unsunk (is_sink why) _ _ e ended in
      let (run', got') = unsunk (is_sink why') _ _ e' ended' in
      let core = reset_once i.start i.thumb y.is_run.core x.is_run.core y.is_run.reset x.is_run.reset in
      let begin = opening_once banks i seats y.begin x.begin y.opening x.opening in
      let run1 = subst (λ (c : ArmState). Runs most c y.begin why' y.is_run.made text' y.is_run.core' y.is_run.end) core run' in
      let run2 = subst (λ (s : State). Runs most x.is_run.core s why' y.is_run.made text' y.is_run.core' y.is_run.end) begin run1 in
      let (same, made, texts, cores, ends) = law most x.is_run.core x.begin why why' x.is_run.made y.is_run.made text text' x.is_run.core' y.is_run.core' x.is_run.end y.is_run.end
      (ready x.begin x.roomy x.opening) (valid x.begin x.is_run.core x.opening x.is_run.reset) run run2 in (
        same,
        x.is_run.devices ∙ ap (λ (s : State). s.devices) ends ∙ sym y.is_run.devices,
        got ∙ ap (λ (t : List ℕ). Some (printed ++ t)) texts ∙ sym got',
      )

-- ---- the defect is one

pub least_once : (test : ℕ → Bool) (a b : ℕ) → IsLeast test a → IsLeast test b → a ≡ b
least_once test a b x y = let le = x.least b y.passes in let ge = y.least a x.passes in omega arith

pub nowhere : (test : ℕ → Bool) (a : ℕ) → IsNowhere test → IsLeast test a → ⊥
nowhere test a none least = let bad : true ≡ false = sym least.passes ∙ none.none a in cc

pub frames_there : (banks : List MemoryBank) (needs : List Need) → HasFrames banks needs → LacksFrames banks needs → ⊥
frames_there banks needs has lacks =
    let same = same_used has.used lacks.used needs has.are_used lacks.are_used in
    let enough = subst (λ (us : List Bool). used_count us ≤ frames_of banks) same has.enough in
    let many = lacks.too_many in omega arith

module _ (banks : List MemoryBank) (seats : List Seat) (needs : List Need) where
  -- the three kinds of defects
  record Pages (r : Refusal) : Type 0 where
    pub is : r ≡ TooLarge MemoryBytes 0x10000000
    pub apart : IsNowhere (two_have banks seats)
    pub room : IsNowhere (is_lacking banks needs)
    pub lacks : LacksFrames banks needs

  abbrev Kinds : Refusal → Type 0
  Kinds r =
      ((a : ℕ) × (r ≡ BankOverlap a) × IsLeast (two_have banks seats) a)
      ⊎ ((a : ℕ) × (r ≡ NoRoom a) × IsNowhere (two_have banks seats) × IsLeast (is_lacking banks needs) a) ⊎ Pages r

  kinds : (r : Refusal) → IsDefect banks seats needs r → Kinds r
  kinds (BankOverlap a) h = inl (a, refl, h)
  kinds (NoRoom a) h = inr (inl (a, refl, h.0, h.1))
  kinds (TooLarge quantity limit) h =
      inr (inr (record { is = ap (λ (q : Quantity). TooLarge q limit) h.0 ∙ ap (TooLarge MemoryBytes) h.1; apart = h.2; room = h.3; lacks = h.4 }))
  kinds other h = absurd h

  kind_once : (r q : Refusal) → Kinds r → Kinds q → r ≡ q
  kind_once r q (inl (a, e, x)) (inl (b, f, y)) = e ∙ ap BankOverlap (least_once (two_have banks seats) a b x y) ∙ sym f
  kind_once r q (inl (a, e, x)) (inr (inl (b, f, none, y))) = absurd (nowhere (two_have banks seats) a none x)
  kind_once r q (inl (a, e, x)) (inr (inr p)) = absurd (nowhere (two_have banks seats) a p.apart x)
  kind_once r q (inr (inl (a, e, none, x))) (inl (b, f, y)) = absurd (nowhere (two_have banks seats) b none y)
  kind_once r q (inr (inl (a, e, none, x))) (inr (inl (b, f, none', y))) = e ∙ ap NoRoom (least_once (is_lacking banks needs) a b x y) ∙ sym f
  kind_once r q (inr (inl (a, e, none, x))) (inr (inr p)) = absurd (nowhere (is_lacking banks needs) a p.room x)
  kind_once r q (inr (inr p)) (inl (b, f, y)) = absurd (nowhere (two_have banks seats) b p.apart y)
  kind_once r q (inr (inr p)) (inr (inl (b, f, none, y))) = absurd (nowhere (is_lacking banks needs) b p.room y)
  kind_once r q (inr (inr p)) (inr (inr o)) = p.is ∙ sym o.is

  defect_once : (r q : Refusal) → IsDefect banks seats needs r → IsDefect banks seats needs q → r ≡ q
  defect_once r q x y = kind_once r q (kinds r x) (kinds q y)

  no_defect : (r : Refusal) → IsRoomy banks seats needs → Kinds r → ⊥
  no_defect r roomy (inl (a, e, x)) = nowhere (two_have banks seats) a roomy.apart x
  no_defect r roomy (inr (inl (a, e, none, x))) = nowhere (is_lacking banks needs) a roomy.room x
  no_defect r roomy (inr (inr p)) = frames_there banks needs roomy.frames p.lacks

-- ---- the answer is one

told_stop : (why : Stop) → IsStopped why → (answer.Stopped why ≡ stop_answer why) × (is_sink why ≡ false)
told_stop stop.Exit h = absurd h
told_stop stop.Budget h = (refl, refl)
told_stop (stop.Unpredictable a v) h = (refl, refl)
told_stop (stop.BadString a) h = (refl, refl)
told_stop (stop.NoFrame a) h = (refl, refl)
told_stop stop.Sink h = absurd h

-- an image was run up to a stop of its own
record HasEnded (w : RunWords) (read : Result Image Refusal) (o : Outside) (seats left : List Seat) (a : Answer) : Type 0 where
  pub why : Stop
  pub is : a ≡ stop_answer why
  pub own : is_sink why ≡ false
  pub run : HasRun w read why o seats left

record IsRefused (w : RunWords) (read : Result Image Refusal) (o : Outside) (seats left : List Seat) (a : Answer) : Type 0 where
  pub refusal : Refusal
  pub is : a ≡ answer.Refused refusal
  pub says : IsRefusal w.memory w.rom read seats refusal
  pub untouched : IsUntouched o seats left

abbrev Decided : RunWords → Result Image Refusal → Outside → List Seat → List Seat → Answer → Type 0
Decided w read o seats left a = HasEnded w read o seats left a ⊎ IsRefused w read o seats left a

decided : (w : RunWords) (read : Result Image Refusal) (o : Outside) (seats left : List Seat) (a : Answer) → IsDecided a → RunSays w read o seats left a → Decided w read o seats left a
decided w read o seats left answer.Done d h = inl (record { why = stop.Exit; is = refl; own = refl; run = h })
decided w read o seats left (answer.Stopped why) d h = let (is, own) = told_stop why h.0 in inl (record { why = why; is = is; own = own; run = h.1 })
decided w read o seats left (answer.Refused r) d h = inr (record { refusal = r; is = refl; says = h.0; untouched = h.1 })
decided w read o seats left (answer.ReadFault name) d h = absurd d
decided w read o seats left (answer.WriteFault name) d h = absurd d
decided w read o seats left answer.SinkFault d h = absurd d
decided w read o seats left answer.NoMemory d h = absurd d

module _ (memory rom : List Bank) (seats : List Seat) where
  pub refusal_once : (p q : Refusal) (read : Result Image Refusal) → IsRefusal memory rom read seats p → IsRefusal memory rom read seats q → p ≡ q
  refusal_once p q (Err told) h k = h ∙ sym k
  refusal_once p q (Ok i) (banks, are, h) (others, are', k) =
      defect_once banks seats i.needs p q h (subst (λ (bs : List MemoryBank). IsDefect bs seats i.needs q) (banks_once memory rom others banks are' are) k)

  -- what has room has no defect
  pub no_refusal : (banks : List MemoryBank) (i : Image) (r : Refusal) → AreBanks memory rom banks → IsRoomy banks seats i.needs
      → IsRefusal memory rom (Ok i) seats r → ⊥
  no_refusal banks i r are roomy (others, are', h) =
      let here = subst (λ (bs : List MemoryBank). IsDefect bs seats i.needs r) (banks_once memory rom others banks are' are) h in
      no_defect banks seats i.needs r roomy (kinds banks seats i.needs r here)

module _ (law : BusRunIsOne) (w : RunWords) (whole : (banks : List MemoryBank) → AreBanks w.memory w.rom banks → AreWholeBanks banks) (seats : List Seat) (placed : AreWholeSeats seats)
    (printed : List ℕ) (files : Files) (read : Result Image Refusal) (bytes : (i : Image) → read ≡ Ok i → OfBytes i.loads) (o p : Outside) (left left' : List Seat) (a b : Answer)
    (before : o.before ≡ Some files) (before' : p.before ≡ Some files) (sink : o.printed ≡ Some printed) (sink' : p.printed ≡ Some printed) where
  abbrev Alike : Type 0
  Alike = (a ≡ b) × (left ≡ left') × (o.prints ≡ p.prints) × (o.after ≡ p.after)

  ended : HasEnded w read o seats left a → HasEnded w read p seats left' b → Alike
  ended x y =
      let i = x.run.image in
      let banks = x.run.banks in
      let rose = Rose o.faults o.faults_now in
      let rose' = Rose p.faults p.faults_now in
      let one = subst (λ (t : Option (List ℕ)). Ran banks i w.steps x.why t o.prints rose seats left) sink x.run.ran in
      let two1 = subst (λ (t : Option (List ℕ)). Ran y.run.banks y.run.image w.steps y.why t p.prints rose' seats left') sink' y.run.ran in
      let two2 = subst (λ (z : Image). Ran y.run.banks z w.steps y.why (Some printed) p.prints rose' seats left') (same_image y.run.image i read y.run.read_so x.run.read_so) two1 in
      let two3 = subst (λ (bs : List MemoryBank). Ran bs i w.steps y.why (Some printed) p.prints rose' seats left') (banks_once w.memory w.rom y.run.banks banks y.run.are_banks x.run.are_banks) two2 in
      let (why, devices, text) = ran_once law banks (whole banks x.run.are_banks) seats placed i (bytes i x.run.read_so) w.steps printed x.why y.why o.prints p.prints rose rose' left left' x.own y.own one two3 in
      (x.is ∙ ap stop_answer why ∙ sym y.is, devices, text, x.run.files ∙ before ∙ sym (y.run.files ∙ before'))

  refused : IsRefused w read o seats left a → IsRefused w read p seats left' b → Alike
  refused x y = (
    x.is ∙ ap answer.Refused (refusal_once w.memory w.rom seats x.refusal y.refusal read x.says y.says) ∙ sym y.is,
    x.untouched.devices ∙ sym y.untouched.devices,
    x.untouched.outside.sink ∙ sink ∙ sym (y.untouched.outside.sink ∙ sink'),
    x.untouched.outside.files ∙ before ∙ sym (y.untouched.outside.files ∙ before'),
  )

-- what was run has no defect
pub ran_fine : (w : RunWords) (read : Result Image Refusal) (o : Outside) (seats left : List Seat) (why : Stop) (r : Refusal) → HasRun w read why o seats left → IsRefusal w.memory w.rom read seats r → ⊥
ran_fine w read o seats left why r run refusal =
    no_refusal w.memory w.rom seats run.banks run.image r run.are_banks run.ran.roomy
    (subst (λ (x : Result Image Refusal). IsRefusal w.memory w.rom x seats r) run.read_so refusal)

not_both : (w : RunWords) (read : Result Image Refusal) (o p : Outside) (seats left left' : List Seat) (a b : Answer) → HasEnded w read o seats left a → IsRefused w read p seats left' b → ⊥
not_both w read o p seats left left' a b x y = ran_fine w read o seats left x.why y.refusal x.run y.says

pub one_run : BusRunIsOne → OneRun
one_run law words w files printed o p seats left left' a b asked hold placed before before' sink sink' x y d e =
    go (decided w read o seats left a d (subst (λ (r : Result Image Refusal). RunSays w r o seats left a) first x.says))
    (decided w read p seats left' b e (subst (λ (r : Result Image Refusal). RunSays w r p seats left' b) second y.says))
  where
    read : Result Image Refusal
    read = image_of w.image files

    first : x.read ≡ read
    first = subst (λ (t : Option Files). IsRead t (Rose o.reads o.reads_now) w.image x.read) before x.read_so

    second : y.read ≡ read
    second = subst (λ (t : Option Files). IsRead t (Rose p.reads p.reads_now) w.image y.read) before' y.read_so

    go : Decided w read o seats left a → Decided w read p seats left' b → (a ≡ b) × (left ≡ left') × (o.prints ≡ p.prints) × (o.after ≡ p.after)
    go (inl h) (inl k) =
        ended law w (λ banks are. banks_whole words w banks asked are) seats placed printed files read (image_bytes files hold w.image) o p left left' a b before before' sink sink' h k
    go (inl h) (inr k) = absurd (not_both w read o p seats left left' a b h k)
    go (inr h) (inl k) = absurd (not_both w read p o seats left' left b a k h)
    go (inr h) (inr k) =
        refused law w (λ banks are. banks_whole words w banks asked are) seats placed printed files read (image_bytes files hold w.image) o p left left' a b before before' sink sink' h k
