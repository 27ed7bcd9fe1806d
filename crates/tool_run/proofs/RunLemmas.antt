-- The answer to a run, by its opening and its stop.
use Rattle.std.proofs.Common.{◌≡◌, ℕ, suc, List, [], ◌∷◌, length, Option, Some, None, Result, Ok, Err, refl, ap, inl}
use Rattle.sdt_word.specs.declared.ranges.Range32.{Range32}
use Rattle.sdt_fault.specs.declared.answer.Answer.TheVariants as answer
use Rattle.sdt_fault.specs.declared.answer.Fault.{Fault}
use Rattle.sdt_fault.specs.declared.answer.Fault.TheVariants as fault
use Rattle.sdt_fault.specs.declared.answer.Stop.{Stop}
use Rattle.sdt_fault.specs.declared.answer.Stop.TheVariants as stop
use Rattle.sdt_fault.specs.declared.refusal.Refusal.{Refusal}
use Rattle.sdt_outside.specs.Counts.{Rose}
use Rattle.sdt_outside.specs.Files.{Files}
use Rattle.arm7_bus.specs.Seats.{Seat}
use Rattle.arm7_bus.specs.States.{State}
use Rattle.bin_image.specs.declared.records.MapFile.{MapFile}
use Rattle.bin_image.specs.Reading.{map_of}
use Rattle.run_opening.specs.declared.image.Image.{Image}
use Rattle.run_opening.specs.Banks.{banks_of}
use Rattle.run_opening.specs.Openings as opening
use Rattle.tool_answers.specs.Outcomes.{Outside}
use Rattle.tool_words.specs.declared.command.Bank.{Bank}
use Rattle.tool_words.specs.declared.command.RunImage.{RunImage}
use Rattle.tool_words.specs.declared.command.RunImage.TheVariants as image
use Rattle.tool_words.specs.declared.command.RunWords.{RunWords}
use Rattle.tool_run.specs.declared.ends.ImageEnd.{ImageEnd}
use Rattle.tool_run.specs.declared.ends.ImageEnd.TheVariants as end
use Rattle.tool_run.specs.Ends.{Reads, fault_end, image_answer, named_by, stop_answer}
use Rattle.tool_run.specs.Images.{IsInput, IsRead, SomeGive, SomeMapped, files_in, front_of, image_of, unnamed}
use Rattle.tool_run.specs.Openings.{AreRanges, IsClosed, IsOpen, IsUnopened}
use Rattle.tool_run.specs.Runs.{HasRun, IsRun, IsUntouched, RunAnswers}

-- ---- some contents

blanks : List (List ℕ) → List (List ℕ)
blanks [] = []
blanks (name ∷ names) = [] ∷ blanks names

as_many : (names : List (List ℕ)) → length (blanks names) ≡ length names
unfolding blanks
as_many [] = refl
as_many (name ∷ names) = ap suc (as_many names)

any_mapped : (m : Result MapFile Refusal) → (read : Result Image Refusal) × SomeMapped m read
any_mapped (Err r) = (Err r, refl)
any_mapped (Ok m) = let names = front_of (files_in m) (unnamed (files_in m)) in (_, (blanks names, as_many names, refl))

any_given : (image : RunImage) → (read : Result Image Refusal) × SomeGive image read
any_given (image.Binary file at) = (_, ([], refl))
any_given (image.Aif file at) = (_, ([], refl))
any_given (image.Elf file) = (_, ([], refl))
any_given (image.Burned file) = (_, ([], refl))
any_given (image.Map file) = let (read, is) = any_mapped (named_by file (map_of [])) in (read, ([], is))

pub any_read : (told : Option Files) (rose : Type 0) (image : RunImage) → (read : Result Image Refusal) × IsRead told rose image read
any_read None rose image = let (read, is) = any_given image in (read, inl is)
any_read (Some files) rose image = (image_of image files, refl)

-- ---- openings

-- an image that was not read
pub unread : (e : ImageEnd) (words : RunImage) (memory rom : List Bank) (told : Option Files) (rose : Type 0) (seats : List Seat)
    → Reads (IsRead told rose words) rose (IsInput told words) (Err e) → IsUnopened words memory rom told rose seats e
unread (end.Refused r) words memory rom told rose seats h = (Err r, h, refl)
unread (end.Failed name) words memory rom told rose seats h = h
unread end.NoMemory words memory rom told rose seats h = tt

-- the fault of an opening over the ranges that were told
pub closed_so : (f : Fault) (told told_rom : List Bank) (memory rom : List Range32) (seats : List Seat) (image : Image)
    → AreRanges told memory → AreRanges told_rom rom → opening.IsClosed (banks_of memory rom) seats image f
    → IsClosed told told_rom image seats f
closed_so (fault.Refused r) told told_rom memory rom seats image m t h =
    (_, record { memory = memory; memory_told = m; rom = rom; rom_told = t; banks_are = refl }, h)
closed_so (fault.ReadFault name) told told_rom memory rom seats image m t h = absurd h
closed_so fault.NoMemory told told_rom memory rom seats image m t h = tt

-- one that was not loaded
pub unloaded : (f : Fault) (words : RunImage) (memory rom : List Bank) (told : Option Files) (rose : Type 0) (seats : List Seat)
    (image : Image) → IsRead told rose words (Ok image) → IsClosed memory rom image seats f → IsUnopened words memory rom told rose seats (fault_end f)
unloaded (fault.Refused r) words memory rom told rose seats image read h = (Ok image, read, h)
unloaded (fault.ReadFault name) words memory rom told rose seats image read h = absurd h
unloaded fault.NoMemory words memory rom told rose seats image read h = tt

-- ---- answers

pub no_memory : (run : RunWords) (o : Outside) (seats left : List Seat) → IsUntouched o seats left → RunAnswers run o seats left answer.NoMemory
no_memory run o seats left h = let any = any_read o.before (Rose o.reads o.reads_now) run.image in record { read = any.0; read_so = any.1; says = h }

pub unopened : (e : ImageEnd) (run : RunWords) (o : Outside) (seats left : List Seat)
    → IsUnopened run.image run.memory run.rom o.before (Rose o.reads o.reads_now) seats e
    → IsUntouched o seats left → RunAnswers run o seats left (image_answer e)
unopened (end.Refused r) run o seats left h left_so = record { read = h.0; read_so = h.1; says = (h.2, left_so) }
unopened (end.Failed name) run o seats left h left_so =
    let any = any_read o.before (Rose o.reads o.reads_now) run.image in record { read = any.0; read_so = any.1; says = (h.0, h.1, left_so) }
unopened end.NoMemory run o seats left h left_so = no_memory run o seats left left_so

module _ (run : RunWords) (o : Outside) (seats left : List Seat) (image : Image) (s : State)
    (opened : IsOpen run.image run.memory run.rom o.before (Rose o.reads o.reads_now) seats image s) (files : o.after ≡ o.before) where
  has_run : (why : Stop) → IsRun image.start image.thumb run.steps s why o.printed o.prints (Rose o.faults o.faults_now) left
      → HasRun run (Ok image) why o seats left
  has_run why is_run = record {
    image = image;
    read_so = refl;
    banks = opened.filled.banks;
    are_banks = opened.filled.are_banks;
    ran = record { roomy = opened.filled.roomy; begin = s; opening = opened.filled.opening; is_run = is_run };
    files = files;
  }

  pub image_run : (why : Stop) → IsRun image.start image.thumb run.steps s why o.printed o.prints (Rose o.faults o.faults_now) left
      → RunAnswers run o seats left (stop_answer why)
  image_run stop.Exit is_run = record { read = Ok image; read_so = opened.read_so; says = has_run stop.Exit is_run }
  image_run stop.Sink is_run = record { read = Ok image; read_so = opened.read_so; says = has_run stop.Sink is_run }
  image_run why is_run = record { read = Ok image; read_so = opened.read_so; says = (tt, has_run why is_run) }
