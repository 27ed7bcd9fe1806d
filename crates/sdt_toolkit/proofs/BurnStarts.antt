-- A run of the text that `burn` wrote of a scatter image starts as one by the image's map.
use Rattle.std.proofs.Common.{◌≡◌, inr, ℕ, ◌-◌, ◌%◌, ◌<◌, Bool, true, false, cond, ◌||◌, List, [], ◌∷◌, length, map, Option, Some, None, Result, Ok, refl, sym, ap, ◌∙◌, subst, arith}
use Rattle.std.specs.Prelude.{slice_index, unwrap_or}
use Rattle.sdt_fault.specs.declared.answer.Answer.{Answer}
use Rattle.sdt_fault.specs.declared.refusal.Refusal.{Refusal}
use Rattle.sdt_outside.specs.Counts.{Rose}
use Rattle.sdt_outside.specs.Files.{Files, content}
use Rattle.chunk_file.specs.Reading.{◌>>=◌}
use Rattle.arm7_bus.specs.Seats.{Seat, has_access}
use Rattle.boot_code.specs.Boots.{Boots, ByteMap}
use Rattle.boot_code.specs.Maps.{map_of}
use Rattle.place_model.specs.declared.scatter.Kind.{Kind}
use Rattle.place_model.specs.declared.scatter.Kind.TheVariants as kind
use Rattle.hex_image.specs.declared.records.Burn.{Burn}
use Rattle.hex_image.specs.declared.records.Form.{Form}
use Rattle.hex_image.specs.declared.records.Form.TheVariants.{Ihex, Srec}
use Rattle.hex_image.specs.declared.records.Piece.{Piece}
use Rattle.hex_image.specs.Images.{holds, told}
use Rattle.hex_image.specs.Reads.{Reads}
use Rattle.link_model.specs.declared.images.Image.{Image}
use Rattle.run_opening.specs.declared.image.Image.{Image as RunImage}
use Rattle.run_opening.specs.Openings.{loaded}
use Rattle.tool_answers.specs.Inputs.{found_or}
use Rattle.tool_answers.specs.Outcomes.{Outside}
use Rattle.tool_words.specs.declared.command.BurnForm.{BurnForm}
use Rattle.tool_words.specs.declared.command.BurnForm.TheVariants as form
use Rattle.tool_words.specs.declared.command.Command.{Command}
use Rattle.tool_words.specs.declared.command.Command.TheVariants as command
use Rattle.tool_words.specs.declared.command.LinkPlacement.{LinkPlacement}
use Rattle.tool_words.specs.declared.command.LinkPlacement.TheVariants as placement
use Rattle.tool_words.specs.declared.command.RunImage.{RunImage as Named}
use Rattle.tool_words.specs.declared.command.RunImage.TheVariants as image
use Rattle.tool_words.specs.Commands.{command_of}
use Rattle.tool_run.specs.Burned.{BurnLoadLaw, burned_image, loaded_burn, need_of}
use Rattle.tool_run.specs.Images.{IsRead}
use Rattle.sdt_toolkit.specs.Burns.{IsBurnText, ReadsText, StartsAsBurned, burn_booting}
use Rattle.sdt_toolkit.specs.Commands.{Commanded}
use Rattle.sdt_toolkit.specs.Links.{IsAskedAs, text_in}
use Rattle.sdt_toolkit.specs.RunImages.{is_needed}
use Rattle.sdt_toolkit.specs.Runs.{CanBoot, CommandsStart, entry_of}
use Rattle.sdt_toolkit.specs.Starting.{ReachesEntry, segments_of, written_in}
use Rattle.sdt_toolkit.proofs.RunBooting.{Reaches, even, map_can, whole}
use Rattle.sdt_toolkit.proofs.RunClauses.{run_answers}
use Rattle.sdt_toolkit.proofs.RunLoads.{inside}
use Rattle.sdt_toolkit.proofs.RunOnce.{banks_whole}

either : (a b : Bool) → b ≡ true → (a || b) ≡ true
either true b h = refl
either false b h = h

-- what the pieces tell is needed
pieces_needed : (ps : List Piece) (x v : ℕ) → told ps x ≡ Some v → is_needed (map need_of ps) x ≡ true
pieces_needed [] x v e = absurd (let bad : ◌≡◌ {A = Option ℕ} None (Some v) = e in cc)
pieces_needed (p ∷ ps) x v e = go (holds x p) refl e (pieces_needed ps x v)
  where
    go : (c : Bool) → holds x p ≡ c → cond c (Some (slice_index p.bytes (x - p.base))) (told ps x) ≡ Some v → (told ps x ≡ Some v → is_needed (map need_of ps) x ≡ true)
        → is_needed (map need_of (p ∷ ps)) x ≡ true
    go true f h rest = let there : has_access p.base (length p.bytes) x 1 ≡ true = inside p.base (length p.bytes) x f in rw there refl
    go false f h rest = either (has_access p.base (length p.bytes) x 1) (is_needed (map need_of ps) x) (rest h)

abbrev form_of : BurnForm → Form
form_of form.IntelHex = Ihex
form_of form.SRecords = Srec

reads_as : (records : BurnForm) (text : List ℕ) (b : Burn) → ReadsText records text b → Reads (form_of records) text b
reads_as form.IntelHex text b h = h
reads_as form.SRecords text b h = h

module _ (law : BurnLoadLaw) (records : BurnForm) (i : Image) (view : ByteMap) (text : List ℕ) (h : IsBurnText records i view text) (r : Reaches i view) where
  aligned : h.burn.start % 4 ≡ 0
  aligned = ap (λ (n : ℕ). n % 4) h.start ∙ (r.can.filed [] refl refl).map.start_aligned

  start : (loaded_burn h.burn).start ≡ i.start
  start = whole h.burn.start aligned ∙ h.start

  -- memory holds the load regions
  byte : (x : ℕ) → loaded (λ a. 0) (loaded_burn h.burn).loads x ≡ unwrap_or (map_of (segments_of i) x) 0
  byte x = law (form_of records) text h.burn (reads_as records text h.burn h.reads) x ∙ ap (λ (m : ByteMap). unwrap_or (m x) 0) h.tells

  small : (x : ℕ) → unwrap_or (map_of (segments_of i) x) 0 < 256
  small x = go (map_of (segments_of i) x) refl
    where
      go : (o : Option ℕ) → map_of (segments_of i) x ≡ o → unwrap_or o 0 < 256
      go (Some v) f = let m = map_can i view r in subst (λ (n : ℕ). n < 256) (m.holds x v f) (m.small x)
      go None f = omega arith

  text_can : CanBoot (burn_booting i view h.burn)
  text_can = record {
    boots = subst (λ (n : ℕ). Boots (told h.burn.pieces) view (written_in i) n i.bound (entry_of i)) (sym (whole h.burn.start aligned)) h.boots;
    arm = even h.burn.start aligned;
    small = λ x. subst (λ (n : ℕ). n < 256) (sym (byte x)) (small x);
    holds = λ x v f. byte x ∙ ap (λ (o : Option ℕ). unwrap_or o 0) (sym (ap (λ (m : ByteMap). m x) h.tells) ∙ f);
    needed = λ x v f. pieces_needed h.burn.pieces x v f;
  }

-- what is read of a text that stands in a store
text_read : (files : Files) (name text : List ℕ) (b : Burn) (rose : Type 0) (read : Result RunImage Refusal) → content files name ≡ Some text → burned_image name text ≡ Ok (loaded_burn b)
    → IsRead (Some files) rose (image.Burned name) read → read ≡ Ok (loaded_burn b)
text_read files name text b rose read is runs h = h ∙ ap (λ x. found_or name x >>= burned_image name) is ∙ runs

pub burned_start : BurnLoadLaw → CommandsStart → (words : List (List ℕ)) (o : Outside) (seats left : List Seat) (a : Answer) → Commanded (command_of words) o seats left a → StartsAsBurned (command_of words) o seats left a
burned_start load_law law words o seats left a commanded r is sources w description before after i views records name text files is_scatter link h told there by placed suit =
    let asked : IsAskedAs (placement.Scatter description) (text_in w.placement link.contents) w.ram link.shape link.ram =
    subst (λ (p : LinkPlacement). IsAskedAs p (text_in w.placement link.contents) w.ram link.shape link.ram) is_scatter link.asked in
    let (boots, can) : ReachesEntry (kind.Scatter asked.0) i views = subst (λ (k : Kind). ReachesEntry k i views) asked.2 link.placed.reaches in
    let reaches : Reaches i (views i.start) = record { boots = boots; can = can } in
    let reads : (read : Result RunImage Refusal) → IsRead o.before (Rose o.reads o.reads_now) r.image read → read ≡ Ok (loaded_burn h.burn) =
    λ read k. text_read files name text h.burn (Rose o.reads o.reads_now) read there (h.runs name)
    (subst (λ (x : Named). IsRead (Some files) (Rose o.reads o.reads_now) x read) by (subst (λ (f : Option Files). IsRead f (Rose o.reads o.reads_now) r.image read) told k)) in
    law (burn_booting i (views i.start) h.burn) r o seats left a (text_can load_law records i (views i.start) text h reaches) reads
    (λ banks are. let s = suit banks are in (inr s.ranges, record { banks_whole = banks_whole words r banks is are; seats_whole = placed; writable = s.writable }))
    (run_answers words o seats left a commanded r is)
