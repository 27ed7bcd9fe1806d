-- What `burn` writes over the files of a scatter image tells the image.
use Rattle.std.proofs.Common.{◌≡◌, ◌≢◌, ℕ, ◌+◌, ◌-◌, ◌%◌, ◌<◌, ◌^◌, ◌≤◌, nat_le, Bool, true, false, cond, List, [], ◌∷◌, ◌++◌, length, map, Option, Some, None, Result, Ok, Err, refl, sym, ap, ◌∙◌, subst, arith}
use Rattle.std.specs.Prelude.{slice_index}
use Rattle.std.specs.List.{AllByRecursion}
use Rattle.base_lemmas.proofs.BaseLemmas.{all_append}
use Rattle.sdt_word.specs.Numbers.{flag}
use Rattle.sdt_fault.specs.declared.answer.Answer.{Answer}
use Rattle.sdt_fault.specs.declared.answer.Answer.TheVariants as answer
use Rattle.sdt_fault.specs.declared.refusal.Refusal.{Refusal}
use Rattle.sdt_outside.specs.Counts.{Rose}
use Rattle.sdt_outside.specs.Files.{Files, IsWritten}
use Rattle.arm7_bus.specs.Seats.{Seat}
use Rattle.boot_code.specs.Boots.{Boots, ByteMap}
use Rattle.boot_code.specs.Maps.{map_of}
use Rattle.chunk_file.specs.Reading.{◌>>=◌}
use Rattle.chunk_file.proofs.Loops.{bind_ok}
use Rattle.hex_image.specs.declared.records.Burn.{Burn}
use Rattle.hex_image.specs.declared.records.Form.{Form}
use Rattle.hex_image.specs.declared.records.Form.TheVariants.{Ihex, Srec}
use Rattle.hex_image.specs.declared.records.Piece.{Piece}
use Rattle.hex_image.specs.Images as hex
use Rattle.hex_image.specs.Images.{EachApart, end_of, told}
use Rattle.hex_image.specs.Laws.{IhexLaw, IsBurn, SrecLaw, TellsSame}
use Rattle.hex_image.specs.Reading.{burn_of}
use Rattle.hex_image.specs.Writing.{ihex_end, ihex_rest, rows_of}
use Rattle.hex_image.proofs.ReadLemmas.{text_found}
use Rattle.hex_image.proofs.ToldLemmas.{parts_of}
use Rattle.place_model.specs.declared.scatter.Kind.{Kind}
use Rattle.place_model.specs.declared.scatter.Kind.TheVariants as kind
use Rattle.link_model.specs.declared.images.Image.{Image}
use Rattle.link_model.specs.declared.images.LoadRegion.{LoadRegion}
use Rattle.bin_image.specs.Files.{load_files, map_load}
use Rattle.bin_image.specs.Files as files
use Rattle.bin_image.specs.Maps as maps
use Rattle.run_opening.specs.declared.image.Image.{Image as RunImage}
use Rattle.tool_answers.specs.Outcomes.{AreWritten, Outcome, Outside, written, writes_one}
use Rattle.tool_words.specs.declared.command.BurnForm.{BurnForm}
use Rattle.tool_words.specs.declared.command.BurnForm.TheVariants as form
use Rattle.tool_words.specs.declared.command.Command.{Command}
use Rattle.tool_words.specs.declared.command.Command.TheVariants as command
use Rattle.tool_words.specs.declared.command.Container.{Container}
use Rattle.tool_words.specs.declared.command.LinkPlacement.{LinkPlacement}
use Rattle.tool_words.specs.declared.command.LinkPlacement.TheVariants as placement
use Rattle.tool_words.specs.declared.command.RunImage.TheVariants as image
use Rattle.tool_words.specs.Commands.{command_of}
use Rattle.tool_run.specs.Burned.{burned_image, form_in, loaded_burn}
use Rattle.tool_run.specs.Burns.{BurnAnswers, asked_by, burn_in, burnt, piece_of, text_of, too_large, writing}
use Rattle.tool_run.specs.Ends.{named_by}
use Rattle.tool_run.specs.Images.{IsRead}
use Rattle.sdt_toolkit.specs.Burns.{BurnsAsLinked, IsBurnText, LinkedBurns, ReadsText}
use Rattle.sdt_toolkit.specs.Commands.{Commanded}
use Rattle.sdt_toolkit.specs.Links.{IsAskedAs, image_files, outputs, text_in}
use Rattle.sdt_toolkit.specs.RunImages.{AreBytes, load_of, run_image}
use Rattle.sdt_toolkit.specs.Runs.{BootsTo, FilesAreRead}
use Rattle.sdt_toolkit.specs.Starting.{ReachesEntry, segments_of, written_in}
use Rattle.sdt_toolkit.proofs.RunLinked.{stand}

-- ---- the image's load regions as pieces

abbrev pieces_in : List LoadRegion → List Piece
pieces_in ls = map piece_of (map load_of ls)

bytes_are : (ls : List LoadRegion) → AreBytes ls → AllByRecursion (λ p. (k : ℕ) → slice_index p.bytes k < 256) (pieces_in ls)
bytes_are [] h = tt
bytes_are (l ∷ ls) h = (h.0, bytes_are ls h.1)

in_space : (out : List ℕ) (ls : List LoadRegion) → AllByRecursion maps.IsLoad (map (map_load out) ls) → AllByRecursion (λ p. end_of p ≤ 2 ^ 32) (pieces_in ls)
in_space out [] h = tt
in_space out (l ∷ ls) h = (h.0.in_space, in_space out ls h.1)

abbrev AreApartFrom : List Piece → List Piece → Type 0
AreApartFrom before ps = AllByRecursion (λ p. AllByRecursion (hex.AreApart p) before) ps

apart_more : (out : List ℕ) (before : List Piece) (l : LoadRegion) (ls : List LoadRegion) → AreApartFrom before (pieces_in ls)
    → AllByRecursion (maps.IsApart (map_load out l)) (map (map_load out) ls) → AreApartFrom (before ++ piece_of (load_of l) ∷ []) (pieces_in ls)
apart_more out before l [] h apart = tt
apart_more out before l (m ∷ ms) h apart = (
  all_append (hex.AreApart (piece_of (load_of m))) before (piece_of (load_of l) ∷ []) h.0
      ((λ a in_m in_l. apart.0 a (parts_of a (piece_of (load_of l)) in_l) (parts_of a (piece_of (load_of m)) in_m)), tt),
  apart_more out before l ms h.1 apart.1,
)

each_apart : (out : List ℕ) (before : List Piece) (ls : List LoadRegion) → AreApartFrom before (pieces_in ls) → maps.AreApart (map (map_load out) ls) → EachApart before (pieces_in ls)
each_apart out before [] h apart = tt
each_apart out before (l ∷ ls) h apart = (h.0, each_apart out (before ++ piece_of (load_of l) ∷ []) ls (apart_more out before l ls h.1 apart.0) apart.1)

none_before : (ls : List LoadRegion) → AreApartFrom [] (pieces_in ls)
none_before [] = tt
none_before (l ∷ ls) = (tt, none_before ls)

no_half : (n : ℕ) → n % 4 ≡ 0 → n % 4 ≢ 2
no_half n h e = omega (arith, h, e)

is_burn : (i : Image) (out : List ℕ) → maps.IsValid (files.map_of i out) → AreBytes i.loads → IsBurn (burn_in (run_image i))
is_burn i out valid bytes = record {
  are_bytes = bytes_are i.loads bytes;
  in_space = in_space out i.loads valid.loads;
  apart = each_apart out [] i.loads (none_before i.loads) valid.apart;
  start_fits = valid.start_fits;
  start_state = no_half i.start valid.start_aligned;
}

told_loads : (ls : List LoadRegion) (a : ℕ) → told (pieces_in ls) a ≡ map_of (map (λ (l : LoadRegion). record { base = l.base; bytes = l.bytes }) ls) a
told_loads [] a = refl
told_loads (l ∷ ls) a = ap (λ (o : Option ℕ). cond (hex.holds a (piece_of (load_of l))) (Some (slice_index l.bytes (a - l.base))) o) (told_loads ls a)

-- ---- the text

abbrev hex_form : BurnForm → Form
hex_form form.IntelHex = Ihex
hex_form form.SRecords = Srec

-- it is read as what it was written as
begins_ihex : (rows : List Piece) (start : ℕ) → form_in (ihex_rest None rows ++ ihex_end start) ≡ Ihex
begins_ihex [] start = refl
begins_ihex (p ∷ ps) start = refl

begins_as : (records : BurnForm) (b : Burn) → form_in (text_of records b) ≡ hex_form records
begins_as form.IntelHex b = begins_ihex (rows_of b.pieces) b.start
begins_as form.SRecords b = refl

same_told : (records : BurnForm) (b : Burn) → IhexLaw → SrecLaw → IsBurn b → TellsSame (hex_form records) (text_of records b) b
same_told form.IntelHex b ihex srec is = ihex b is
same_told form.SRecords b ihex srec is = srec b is

found_as : (records : BurnForm) (text : List ℕ) (b : Burn) → burn_of (hex_form records) text ≡ Ok b → ReadsText records text b
found_as form.IntelHex text b h = text_found Ihex text b h
found_as form.SRecords text b h = text_found Srec text b h

run_as : (f : BurnForm) (text : List ℕ) (b : Burn) (name : List ℕ) → form_in text ≡ hex_form f → burn_of (hex_form f) text ≡ Ok b
    → burned_image name text ≡ Ok (loaded_burn b)
run_as f text b name begins reads =
    ap (λ (x : Form). named_by name (burn_of x text) >>= λ b. Ok (loaded_burn b)) begins
    ∙ ap (λ (r : Result Burn Refusal). named_by name r >>= λ x. Ok (loaded_burn x)) reads

boots_as : (i : Image) (view bytes : ByteMap) (start : ℕ) → bytes ≡ map_of (segments_of i) → start ≡ i.start → BootsTo i view (written_in i)
    → Boots bytes view (written_in i) start i.bound (i.entry + flag i.thumb)
boots_as i view bytes start same at boots = rw (same, at) boots

is_text : (records : BurnForm) (i : Image) (view : ByteMap) → IhexLaw → SrecLaw → IsBurn (burn_in (run_image i)) → BootsTo i view (written_in i)
    → IsBurnText records i view (text_of records (burn_in (run_image i)))
is_text records i view ihex srec is boots =
    let b : Burn = burn_in (run_image i) in
    let text : List ℕ = text_of records b in
    let t : TellsSame (hex_form records) text b = same_told records b ihex srec is in
    let same : (a : ℕ) → told t.read.pieces a ≡ map_of (segments_of i) a = λ a. t.same a ∙ told_loads i.loads a in
    let tells : told t.read.pieces ≡ map_of (segments_of i) = λ j a. same a j in
    record {
      burn = t.read;
      reads = found_as records text t.read t.reads;
      start = t.start;
      tells = tells;
      boots = boots_as i view (told t.read.pieces) t.read.start tells t.start boots;
      runs = λ name. run_as records text t.read name (begins_as records b) t.reads;
    }

-- ---- what was written

one_written : (before after : Option Files) (name bytes : List ℕ) → AreWritten before after ((name, bytes) ∷ []) → IsWritten before after name bytes
one_written None after name bytes h = h
one_written (Some files) after name bytes h = h

-- a text that isn't too long is the image's
whole_text : (t : Bool) (made text : List ℕ) → cond t (Err too_large) (Ok made) ≡ Ok text → made ≡ text
whole_text true made text h = absurd (let bad : ◌≡◌ {A = Result (List ℕ) Refusal} (Err too_large) (Ok text) = h in cc)
whole_text false made text h = cc

same_outcome : (x y : Outcome) → ◌≡◌ {A = Result Outcome Refusal} (Ok x) (Ok y) → x ≡ y
same_outcome x y h = cc

burnt_text : (records : BurnForm) (i : RunImage) (output : List ℕ) (out : Outcome) → asked_by records output (Ok i) ≡ Ok out
    → out ≡ writes_one output (text_of records (burn_in i))
burnt_text records i output out h =
    let (text, made, is) = bind_ok (burnt records i) (writing output) out h in
    let same : text_of records (burn_in i) ≡ text = whole_text (nat_le (2 ^ 32) (length (text_of records (burn_in i)))) (text_of records (burn_in i)) text made in
    sym (same_outcome (writes_one output text) out is) ∙ ap (writes_one output) (sym same)

pub linked_burns : FilesAreRead → IhexLaw → SrecLaw → LinkedBurns
linked_burns law ihex srec records file output o answers sources w description before after i views is_scatter are_loads line some link told by_map =
    let asked : IsAskedAs (placement.Scatter description) (text_in w.placement link.contents) w.ram link.shape link.ram =
    subst (λ (p : LinkPlacement). IsAskedAs p (text_in w.placement link.contents) w.ram link.shape link.ram) is_scatter link.asked in
    let (boots, can) : ReachesEntry (kind.Scatter asked.0) i views = subst (λ (k : Kind). ReachesEntry k i views) asked.2 link.placed.reaches in
    let left : Files = written before (outputs (load_files i w.output)) in
    let are : o.before ≡ Some left = told ∙ link.left ∙ ap (λ (c : Container). Some (written before (outputs (image_files c w.output link.tables i)))) are_loads in
    let filed = can.filed w.output line some in
    let by_files = subst (λ (t : Option Files). IsRead t (Rose o.reads o.reads_now) (image.Map file) answers.read) are answers.read_so in
    let by_name = subst (λ (name : List ℕ). IsRead (Some left) (Rose o.reads o.reads_now) (image.Map name) answers.read) by_map by_files in
    let is = law i w.output left o.reads o.reads_now answers.read filed (stand before (load_files i w.output) (can.named w.output)) by_name in
    let (out, asks, wrote, got) = answers.says in
    let one = burnt_text records (run_image i) output out (ap (asked_by records output) (sym is) ∙ asks) in (
      text_of records (burn_in (run_image i)),
      one_written o.before o.after output (text_of records (burn_in (run_image i))) (subst (λ (x : Outcome). AreWritten o.before o.after x.files) one wrote),
      is_text records i (views i.start) ihex srec (is_burn i w.output filed.map can.bytes) boots,
    )

-- ---- the clause of the top call

burn_answers : (asked : Result Command ℕ) (o : Outside) (seats left : List Seat) (a : Answer) (records : BurnForm) (file output : List ℕ) → Commanded asked o seats left a
    → asked ≡ Ok (command.Burn records file output) → a ≡ answer.Done → BurnAnswers records file output o answer.Done
unfolding Commanded
burn_answers asked o seats left a records file output h is done =
    (subst (λ (x : Answer). Commanded (Ok (command.Burn records file output)) o seats left x) done (subst (λ (x : Result Command ℕ). Commanded x o seats left a) is h)).0

pub burns_told : LinkedBurns → (words : List (List ℕ)) (o : Outside) (seats left : List Seat) (a : Answer) → Commanded (command_of words) o seats left a
    → BurnsAsLinked (command_of words) o a
burns_told law words o seats left a h records file output is done =
    law records file output o (burn_answers (command_of words) o seats left a records file output h is done)
