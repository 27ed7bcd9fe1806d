-- What a link leaves in the store are the files of its image, so that each run by their map starts.
use Rattle.std.proofs.Common.{◌≡◌, inl, inr, ℕ, Bool, true, false, cond, List, [], ◌∷◌, map, Option, Some, None, Result, Ok, refl, sym, ap, ◌∙◌, subst}
use Rattle.std.specs.List.{AllByRecursion}
use Rattle.std.specs.Ordering.{eq_by_cmp, nat_cmp}
use Rattle.std.specs.Cmp.{eq_by_cmp_equiv}
use Rattle.std.specs.Cmp.Lexicographic.{slice_cmp, nat_list_cmp_total}
use Rattle.std.specs.FinMap.{get-insert, insert}
use Rattle.std.proofs.lemmas.Map.Lookups.{exact_bytes}
use Rattle.std.proofs.lemmas.Map.Views.{tells_apart}
use Rattle.sdt_fault.specs.declared.answer.Answer.{Answer}
use Rattle.sdt_fault.specs.declared.refusal.Refusal.{Refusal}
use Rattle.sdt_outside.specs.Counts.{Rose}
use Rattle.sdt_outside.specs.Files.{Files, content}
use Rattle.arm7_bus.specs.declared.memory.Bank.{Bank}
use Rattle.arm7_bus.specs.Seats.{Seat}
use Rattle.boot_code.specs.Boots.{ByteMap}
use Rattle.boot_code.specs.Maps.{map_of}
use Rattle.chunk_file.specs.Reading.{◌>>=◌}
use Rattle.link_model.specs.declared.images.Image.{Image}
use Rattle.scatter_text.specs.Validity.{AreDistinct}
use Rattle.place_model.specs.declared.scatter.Kind.{Kind}
use Rattle.place_model.specs.declared.scatter.Kind.TheVariants as kind
use Rattle.bin_image.specs.declared.records.OutFile.{OutFile}
use Rattle.bin_image.specs.Files.{load_files, map_name}
use Rattle.aif_image.specs.Checks.{ReadsAif}
use Rattle.aif_image.specs.Files.{aif_file, aif_record}
use Rattle.aif_image.specs.Reading.{AifLaw}
use Rattle.elf_image.specs.declared.records.Elf.{Elf}
use Rattle.elf_image.specs.Files.{elf_file, elf_load}
use Rattle.elf_image.specs.Tables.{named_file}
use Rattle.elf_image.specs.Reading.{ElfLaw, elf_of}
use Rattle.run_opening.specs.declared.image.Image.{Image as RunImage}
use Rattle.tool_answers.specs.Inputs.{found_or}
use Rattle.tool_answers.specs.Outcomes.{Outside, written}
use Rattle.tool_words.specs.declared.command.Container.{Container}
use Rattle.tool_words.specs.declared.command.Container.TheVariants as container
use Rattle.tool_words.specs.declared.command.LinkPlacement.{LinkPlacement}
use Rattle.tool_words.specs.declared.command.LinkPlacement.TheVariants as placement
use Rattle.tool_words.specs.declared.command.LinkWords.{LinkWords}
use Rattle.tool_words.specs.declared.command.RunImage.{RunImage as Named}
use Rattle.tool_words.specs.declared.command.RunImage.TheVariants as image
use Rattle.tool_words.specs.declared.command.RunWords.{RunWords}
use Rattle.tool_words.specs.Commands.{ComeTogether}
use Rattle.tool_run.specs.Aifs.{aif_at, base_for, loaded_aif, placed_aif}
use Rattle.tool_run.specs.Elfs.{ElfLoadLaw, elf_image, loaded_elf}
use Rattle.tool_run.specs.Ends.{named_by}
use Rattle.tool_run.specs.Images.{IsRead}
use Rattle.tool_run.specs.Openings.{AreBanks}
use Rattle.tool_run.specs.Runs.{RunAnswers}
use Rattle.sdt_toolkit.specs.Containers.{FilesHold, IsElfFile, IsNamedFile}
use Rattle.sdt_toolkit.specs.Headline.{IsLinkedInto}
use Rattle.sdt_toolkit.specs.Links.{IsAskedAs, image_files, outputs, text_in}
use Rattle.sdt_toolkit.specs.RunImages.{HasFiles, run_image}
use Rattle.sdt_toolkit.specs.Runs.{Allow, AnswerStarts, Booting, CommandsStart, FilesAreRead, HaveRanges, LinkedRunsStart, Names, PutAt, TakeView, aif_booting, elf_booting, executable, map_booting}
use Rattle.sdt_toolkit.specs.Starting.{CanLoad, FitsAt, ReachesEntry, segments_of}
use Rattle.sdt_toolkit.proofs.RunBooting.{Reaches, aif_based, aif_boots, aif_can, aif_load, aif_ranged, elf_can, map_can}

-- ---- files that are written

abbrev is_same : List ℕ → List ℕ → Bool
is_same a b = eq_by_cmp (slice_cmp nat_cmp) a b

own_content : (files : Files) (name bytes : List ℕ) → content (insert files name bytes) name ≡ Some bytes
own_content files name bytes =
    get-insert nat_list_cmp_total files name bytes name ∙ ap (λ (b : Bool). cond b (Some bytes) (content files name)) ((eq_by_cmp_equiv nat_list_cmp_total).refl name)

other_content : (files : Files) (name bytes other : List ℕ) → (other ≡ name → ⊥) → content (insert files name bytes) other ≡ content files other
other_content files name bytes other differ =
    get-insert nat_list_cmp_total files name bytes other ∙ go (is_same other name) refl
  where
    go : (b : Bool) → is_same other name ≡ b → cond b (Some bytes) (content files other) ≡ content files other
    go true e = absurd (differ (tells_apart exact_bytes other name e))
    go false e = refl

abbrev names_of : List OutFile → List (List ℕ)
names_of fs = map (λ f. f.name) fs

stays : (files : Files) (fs : List OutFile) (name bytes : List ℕ) → content files name ≡ Some bytes → AllByRecursion (λ other. name ≡ other → ⊥) (names_of fs) → content (written files (outputs fs)) name ≡ Some bytes
stays files [] name bytes h differ = h
stays files (f ∷ fs) name bytes h differ = stays (insert files f.name f.bytes) fs name bytes (other_content files f.name f.bytes name differ.0 ∙ h) differ.1

pub stand : (files : Files) (fs : List OutFile) → AreDistinct (names_of fs) → HasFiles (written files (outputs fs)) fs
stand files [] differ = tt
stand files (f ∷ fs) differ = (
  stays (insert files f.name f.bytes) fs f.name f.bytes (own_content files f.name f.bytes) differ.0,
  stand (insert files f.name f.bytes) fs differ.1,
)

-- ---- those of a scatter image

same_record : (x y : Elf) (read : Result Elf Refusal) → read ≡ Ok x → read ≡ Ok y → x ≡ y
same_record x y read e f = let same : ◌≡◌ {A = Result Elf Refusal} (Ok x) (Ok y) = sym e ∙ f in cc

module _ (files_law : FilesAreRead) (elf_law : ElfLaw) (load_law : ElfLoadLaw) (aif_law : AifLaw) (law : CommandsStart) (sources : Bool) (w : LinkWords) (before : Files) (after : Option Files) (i : Image)
    (views : ℕ → ByteMap) (b : Booting) (r : RunWords) (o : Outside) (seats left : List Seat) (a : Answer) (link : IsLinkedInto sources w before after i views) (told : o.before ≡ after)
    (answers : RunAnswers r o seats left a) where
  abbrev view : ByteMap
  view = views i.start

  abbrev rose : Type 0
  rose = Rose o.reads o.reads_now

  scatter_reaches : (description : List ℕ) → w.placement ≡ placement.Scatter description → Reaches i view
  scatter_reaches description is_scatter =
      let asked : IsAskedAs (placement.Scatter description) (text_in w.placement link.contents) w.ram link.shape link.ram =
      subst (λ (p : LinkPlacement). IsAskedAs p (text_in w.placement link.contents) w.ram link.shape link.ram) is_scatter link.asked in
      let (boots, can) : ReachesEntry (kind.Scatter asked.0) i views = subst (λ (k : Kind). ReachesEntry k i views) asked.2 link.placed.reaches in
      record { boots = boots; can = can }

  abbrev files : Container → Files
  files c = written before (outputs (image_files c w.output link.tables i))

  -- what is read of them by the words
  read_of : (c : Container) (named : Named) (read : Result RunImage Refusal) → w.container ≡ c → r.image ≡ named → IsRead o.before rose r.image read → IsRead (Some (files c)) rose named read
  read_of c named read is_c is_named h =
      let are : o.before ≡ Some (files c) = told ∙ link.left ∙ ap (λ (x : Container). Some (files x)) is_c in
      subst (λ (x : Named). IsRead (Some (files c)) rose x read) is_named (subst (λ (f : Option Files). IsRead f rose r.image read) are h)

  by_map : Reaches i view → w.container ≡ container.LoadFiles → Names container.LoadFiles link.shape w.output link.tables i views r.image b
      → ((banks : List Bank) → AreBanks r.memory r.rom banks → HaveRanges container.LoadFiles b.view banks × Allow banks seats b.written) → AnswerStarts b r o seats left a
  by_map reaches is_c (line, some, by, is_b) allow =
      let can = reaches.can in
      let reads : (read : Result RunImage Refusal) → IsRead o.before rose r.image read → read ≡ Ok (run_image i) =
      λ read h. files_law i w.output (files container.LoadFiles) o.reads o.reads_now read (can.filed w.output line some) (stand before (load_files i w.output) (can.named w.output))
      (read_of container.LoadFiles (image.Map (map_name w.output)) read is_c by h) in
      subst (λ (x : Booting). AnswerStarts x r o seats left a) (sym is_b)
      (law (map_booting i view) r o seats left a (map_can i view reaches) reads
      (λ banks are. (inl (λ x v e. can.ranged x v e), subst (λ (x : Booting). Allow banks seats x.written) is_b (allow banks are).1)) answers)

  -- the executable reads as the image and loads its load regions, and stands under its name
  held : (symbols : Bool) → w.container ≡ container.Elf symbols → IsElfFile i view (executable symbols i link.tables)
  held false is_c = subst (λ (c : Container). FilesHold c w.output link.tables i views) is_c link.holds
  held true is_c =
      let all : IsNamedFile i link.tables view (named_file i link.tables) = subst (λ (c : Container). FilesHold c w.output link.tables i views) is_c link.holds in all.elf

  stands : (symbols : Bool) → content (files (container.Elf symbols)) w.output ≡ Some (executable symbols i link.tables)
  stands false = own_content before w.output (elf_file i)
  stands true = own_content before w.output (named_file i link.tables)

  by_elf : (symbols : Bool) → Reaches i view → w.container ≡ container.Elf symbols → Names (container.Elf symbols) link.shape w.output link.tables i views r.image b
      → ((banks : List Bank) → AreBanks r.memory r.rom banks → HaveRanges (container.Elf symbols) b.view banks × Allow banks seats b.written) → AnswerStarts b r o seats left a
  by_elf symbols reaches is_c (e, read_so, by, is_b) allow =
      let file = executable symbols i link.tables in
      let h = held symbols is_c in
      let is_e = same_record e h.elf (elf_of file) ((elf_law file e).1 read_so) ((elf_law file h.elf).1 h.reads) in
      let entry : e.entry ≡ i.start = ap (λ (x : Elf). x.entry) is_e ∙ h.entry in
      let loads : elf_load file e ≡ map_of (segments_of i) = ap (elf_load file) is_e ∙ h.loads in
      let reads : (read : Result RunImage Refusal) → IsRead o.before rose r.image read → read ≡ Ok (loaded_elf file e) =
      λ read k. read_of (container.Elf symbols) (image.Elf w.output) read is_c by k
      ∙ ap (λ x. found_or w.output x >>= λ bytes. elf_image w.output bytes) (stands symbols)
      ∙ ap (λ x. named_by w.output x >>= λ y. Ok (loaded_elf file y)) ((elf_law file e).1 read_so) in
      subst (λ (x : Booting). AnswerStarts x r o seats left a) (sym is_b)
      (law (elf_booting i view file e) r o seats left a (elf_can load_law i view file e read_so entry loads reaches) reads
      (λ banks are. (inr (subst (λ (x : Booting). TakeView x.view banks) is_b (allow banks are).0), subst (λ (x : Booting). Allow banks seats x.written) is_b (allow banks are).1)) answers)

  -- what the words read of an ARM image file that is put somewhere
  aif_read : (to : ℕ) (at : Option ℕ) (read : Result RunImage Refusal) → w.container ≡ container.ImageFile → r.image ≡ image.Aif w.output at → ReadsAif (aif_file i) (aif_record i)
      → base_for w.output at (aif_record i) ≡ Ok to → IsRead o.before rose r.image read → read ≡ Ok (loaded_aif to (aif_record i) (aif_file i))
  aif_read to at read is_c by reads based h =
      let one : content (files container.ImageFile) w.output ≡ Some (aif_file i) = own_content before w.output (aif_file i) in
      read_of container.ImageFile (image.Aif w.output at) read is_c by h
      ∙ ap (λ x. found_or w.output x >>= λ bytes. aif_at w.output at bytes) one
      ∙ ap (λ x. named_by w.output x >>= λ y. placed_aif w.output at (aif_file i) y) ((aif_law (aif_file i) (aif_record i)).1 reads)
      ∙ ap (λ x. x >>= λ n. Ok (loaded_aif n (aif_record i) (aif_file i))) based

  by_aif : (base : ℕ) (relocatable : Bool) → w.placement ≡ placement.Aif base relocatable → w.container ≡ container.ImageFile → Names container.ImageFile link.shape w.output link.tables i views r.image b
      → ((banks : List Bank) → AreBanks r.memory r.rom banks → HaveRanges container.ImageFile b.view banks × Allow banks seats b.written) → AnswerStarts b r o seats left a
  by_aif base relocatable is_aif is_c (to, fits, by, is_b) allow =
      let k : Kind = kind.Aif base relocatable in
      let asked : IsAskedAs (placement.Aif base relocatable) (text_in w.placement link.contents) w.ram link.shape link.ram =
      subst (λ (p : LinkPlacement). IsAskedAs p (text_in w.placement link.contents) w.ram link.shape link.ram) is_aif link.asked in
      let reaches : ReachesEntry k i views = subst (λ (x : Kind). ReachesEntry x i views) asked.0 link.placed.reaches in
      let fits_k : FitsAt k i to = subst (λ (x : Kind). FitsAt x i to) asked.0 fits in
      let is_k : b ≡ aif_booting k i views to = is_b ∙ ap (λ (x : Kind). aif_booting x i views to) asked.0 in
      let can : CanLoad k i views = aif_load base relocatable i views reaches in
      let reads : (read : Result RunImage Refusal) → IsRead o.before rose r.image read → read ≡ Ok (loaded_aif to (aif_record i) (aif_file i)) =
      λ read h. put to can fits_k by read is_c h in
      subst (λ (x : Booting). AnswerStarts x r o seats left a) (sym is_k)
      (law (aif_booting k i views to) r o seats left a (aif_can base relocatable i views to can fits_k (aif_boots base relocatable i views to reaches fits_k)) reads
      (λ banks are. (inl (aif_ranged base relocatable i views to can fits_k), subst (λ (x : Booting). Allow banks seats x.written) is_k (allow banks are).1)) answers)
    where
      put : (to : ℕ) → CanLoad (kind.Aif base relocatable) i views → FitsAt (kind.Aif base relocatable) i to → PutAt w.output i r.image to → (read : Result RunImage Refusal)
          → w.container ≡ container.ImageFile → IsRead o.before rose r.image read → read ≡ Ok (loaded_aif to (aif_record i) (aif_file i))
      put to can fits (inl there) read is_c h = aif_read to (Some to) read is_c there can.reads (aif_based base relocatable i views to w.output (Some to) can fits (inl refl)) h
      put to can fits (inr (there, own)) read is_c h = aif_read to None read is_c there can.reads (aif_based base relocatable i views to w.output None can fits (inr (refl, own))) h

  by_words : (p : LinkPlacement) (c : Container) → w.placement ≡ p → w.container ≡ c → ComeTogether p c → Names c link.shape w.output link.tables i views r.image b
      → ((banks : List Bank) → AreBanks r.memory r.rom banks → HaveRanges c b.view banks × Allow banks seats b.written) → AnswerStarts b r o seats left a
  by_words (placement.Scatter d) container.LoadFiles is_p is_c together names allow = by_map (scatter_reaches d is_p) is_c names allow
  by_words (placement.Scatter d) (container.Elf symbols) is_p is_c together names allow = by_elf symbols (scatter_reaches d is_p) is_c names allow
  by_words (placement.Aif base relocatable) container.ImageFile is_p is_c together names allow = by_aif base relocatable is_p is_c names allow
  by_words (placement.Scatter d) container.ImageFile is_p is_c together names allow = absurd together
  by_words (placement.Plain base) container.ImageFile is_p is_c together names allow = absurd together
  by_words (placement.Plain base) container.LoadFiles is_p is_c together names allow = absurd together
  by_words (placement.Plain base) (container.Elf symbols) is_p is_c together names allow = absurd together
  by_words (placement.Aif base relocatable) container.LoadFiles is_p is_c together names allow = absurd together
  by_words (placement.Aif base relocatable) (container.Elf symbols) is_p is_c together names allow = absurd together
  by_words p container.Binary is_p is_c together names allow = absurd names

pub linked_runs_start : FilesAreRead → ElfLaw → ElfLoadLaw → AifLaw → CommandsStart → LinkedRunsStart
linked_runs_start files_law elf_law load_law aif_law law sources w before after i views b r o seats left a together link told names allow answers =
    by_words files_law elf_law load_law aif_law law sources w before after i views b r o seats left a link told answers w.placement w.container refl refl together names allow
