-- The answers of `burn`; and the load files of a map end at 2^32 or below.
use Rattle.std.proofs.Common.{◌≡◌, ℕ, ◌^◌, ◌≤◌, inl, inr, List, [], ◌∷◌, map, Option, Some, None, Result, Ok, Err, refl, sym, ap, subst, arith}
use Rattle.std.specs.List.{AllByRecursion}
use Rattle.sdt_fault.specs.declared.answer.Answer.{Answer}
use Rattle.sdt_fault.specs.declared.answer.Answer.TheVariants as answer
use Rattle.sdt_fault.specs.declared.answer.Fault.{Fault}
use Rattle.sdt_fault.specs.declared.answer.Fault.TheVariants as fault
use Rattle.sdt_fault.specs.declared.refusal.Refusal.{Refusal}
use Rattle.sdt_fault.specs.declared.refusal.Refusal.TheVariants.{Missing}
use Rattle.sdt_outside.specs.Counts.{Rose}
use Rattle.sdt_outside.specs.Files.{Files, IsWritten}
use Rattle.sdt_outside.specs.Sinks.{Got}
use Rattle.chunk_file.specs.Reading.{◌>>=◌, Gives}
use Rattle.chunk_file.proofs.Loops.{bind_ok}
use Rattle.bin_image.specs.declared.records.MapFile.{MapFile}
use Rattle.bin_image.specs.declared.records.MapLoad.{MapLoad}
use Rattle.bin_image.specs.Maps.{IsLoad, IsValid}
use Rattle.bin_image.specs.Reading.{MapLaw, map_of}
use Rattle.hex_image.specs.Images.{end_of}
use Rattle.run_opening.specs.declared.image.Image.{Image}
use Rattle.run_opening.specs.declared.image.Load.{Load}
use Rattle.tool_answers.specs.Inputs.{input_of, inputs_of}
use Rattle.tool_answers.specs.Outcomes.{Outside, AreWritten, IsLeft, Writes, writes_one}
use Rattle.tool_words.specs.declared.command.BurnForm.{BurnForm}
use Rattle.tool_words.specs.declared.command.RunImage.TheVariants as image
use Rattle.tool_run.specs.declared.ends.ImageEnd.{ImageEnd}
use Rattle.tool_run.specs.declared.ends.ImageEnd.TheVariants as end
use Rattle.tool_run.specs.Burns.{AreInSpace, BurnAnswers, burnt, piece_of, writing}
use Rattle.tool_run.specs.Ends.{Reads, fault_end, image_answer, named_by}
use Rattle.tool_run.specs.Images.{IsInput, IsRead, SomeMapped, all_named, files_in, front_of, lengths_judged, loaded_image, loads_of, map_image, mapped_image, unnamed}
use Rattle.tool_run.proofs.NeedLemmas.{judged_one}
use Rattle.tool_run.proofs.RunLemmas.{any_read}

-- ---- where the load files of a map end

lines_in_space : (lines : List MapLoad) (contents : List (List ℕ)) → AllByRecursion IsLoad lines → lengths_judged lines contents ≡ Ok tt → AreInSpace (loads_of lines contents)
lines_in_space [] contents valid h = tt
lines_in_space (l ∷ ls) [] valid h = tt
lines_in_space (l ∷ ls) (b ∷ bs) valid h =
    let (long, others) = judged_one l b (lengths_judged ls bs) h in
    let space = valid.0.in_space in
    (omega (arith, long, space), lines_in_space ls bs valid.1 others)

same_space : (i j : Image) → ◌≡◌ {A = Result Image Refusal} (Ok i) (Ok j) → AreInSpace i.loads → AreInSpace j.loads
same_space i j h space = let same : i ≡ j = cc in subst (λ (k : Image). AreInSpace k.loads) same space

loaded_in_space : (m : MapFile) (contents : List (List ℕ)) (i : Image) → IsValid m → loaded_image m contents ≡ Ok i → AreInSpace i.loads
loaded_in_space m contents i valid h =
    let (right, judged, made) = bind_ok (lengths_judged m.loads contents) (λ right. Ok (map_image m contents)) i h in
    same_space (map_image m contents) i made (lines_in_space m.loads contents valid.loads judged)

named_in_space : (m : MapFile) (contents : List (List ℕ)) (i : Image) → IsValid m
    → (all_named (files_in m) (unnamed (files_in m)) >>= λ right. loaded_image m contents) ≡ Ok i → AreInSpace i.loads
named_in_space m contents i valid h =
    let (right, all, loaded) = bind_ok (all_named (files_in m) (unnamed (files_in m))) (λ right. loaded_image m contents) i h in
    loaded_in_space m contents i valid loaded

named_ok : (name : List ℕ) (r : Result MapFile Refusal) (m : MapFile) → named_by name r ≡ Ok m → r ≡ Ok m
named_ok name (Ok n) m h = h
named_ok name (Err r) m h = absurd cc

module _ (law : MapLaw) (file : List ℕ) (i : Image) where
  is_valid : (text : List ℕ) (m : MapFile) → named_by file (map_of text) ≡ Ok m → IsValid m
  is_valid text m h = ((law text m).0 (named_ok file (map_of text) m h)).1

  some_in_space : (r : Result MapFile Refusal) → ((m : MapFile) → r ≡ Ok m → IsValid m) → SomeMapped r (Ok i) → AreInSpace i.loads
  some_in_space (Ok m) valid (contents, count, is) = named_in_space m contents i (valid m refl) (sym is)
  some_in_space (Err r) valid h = absurd (let bad : ◌≡◌ {A = Result Image Refusal} (Ok i) (Err r) = h in cc)

  pub in_space : (told : Option Files) (rose : Type 0) → IsRead told rose (image.Map file) (Ok i) → AreInSpace i.loads
  in_space None rose (inl (text, some)) = some_in_space (named_by file (map_of text)) (is_valid text) some
  in_space None rose (inr (name, is, rises, lost)) = absurd (let bad : ◌≡◌ {A = Result Image Refusal} (Ok i) (Err (Missing name)) = is in cc)
  in_space (Some files) rose h =
      let (text, read, mapped) = bind_ok (input_of files file) (λ text. named_by file (map_of text) >>= λ m. mapped_image m files) i (sym h) in
      let (m, is_map, filed) = bind_ok (named_by file (map_of text)) (λ m. mapped_image m files) i mapped in
      let names = front_of (files_in m) (unnamed (files_in m)) in
      let (contents, got, named) = bind_ok (inputs_of files names) (λ contents. all_named (files_in m) (unnamed (files_in m)) >>= λ right. loaded_image m contents) i filed in
      named_in_space m contents i (is_valid text m is_map) named

pub pieces_in_space : (loads : List Load) → AreInSpace loads → AllByRecursion (λ p. end_of p ≤ 2 ^ 32) (map piece_of loads)
pieces_in_space [] h = tt
pieces_in_space (l ∷ ls) h = (h.0, pieces_in_space ls h.1)

-- ---- answers

written_one : (before after : Option Files) (name bytes : List ℕ) → IsWritten before after name bytes → AreWritten before after ((name, bytes) ∷ [])
written_one None after name bytes h = h
written_one (Some files) after name bytes h = h

written_none : (before : Option Files) → AreWritten before before []
written_none None = refl
written_none (Some files) = refl

module _ (records : BurnForm) (file output : List ℕ) (o : Outside) where
  abbrev IsReadAs : Result Image Refusal → Type 0
  IsReadAs read = IsRead o.before (Rose o.reads o.reads_now) (image.Map file) read

  pub no_memory : IsLeft o → BurnAnswers records file output o answer.NoMemory
  no_memory left =
      let any = any_read o.before (Rose o.reads o.reads_now) (image.Map file) in record { read = any.0; read_so = any.1; says = inr left }

  pub unread : (e : ImageEnd) → Reads IsReadAs (Rose o.reads o.reads_now) (IsInput o.before (image.Map file)) (Err e) → IsLeft o
      → BurnAnswers records file output o (image_answer e)
  unread (end.Refused r) h left = record { read = Err r; read_so = h; says = (refl, left) }
  unread (end.Failed name) h left =
      let any = any_read o.before (Rose o.reads o.reads_now) (image.Map file) in record { read = any.0; read_so = any.1; says = (h.0, h.1, left) }
  unread end.NoMemory h left = no_memory left

  pub refused : (e : Fault) (i : Image) → IsReadAs (Ok i) → Gives {A = List ℕ} (Err e) (burnt records i) → IsLeft o
      → BurnAnswers records file output o (image_answer (fault_end e))
  refused (fault.Refused r) i read h left = record { read = Ok i; read_so = read; says = (ap (λ x. x >>= writing output) h, left) }
  refused (fault.ReadFault name) i read h left = absurd h
  refused fault.NoMemory i read h left = no_memory left

  pub wrote : (a : Answer) (i : Image) (text : List ℕ) → IsReadAs (Ok i) → burnt records i ≡ Ok text → Got o.printed o.prints [] → o.prints ≡ o.printed
      → Writes output text o.before o.after (Rose o.writes o.writes_now) a → BurnAnswers records file output o a
  wrote answer.Done i text read made got same h = record {
    read = Ok i;
    read_so = read;
    says = (writes_one output text, ap (λ x. x >>= writing output) made, written_one o.before o.after output text h, got);
  }
  wrote (answer.WriteFault q) i text read made got same h = record {
    read = Ok i;
    read_so = read;
    says = (
      h.1,
      (
        writes_one output text,
        ap (λ x. x >>= writing output) made,
        record {
          done = [];
          bytes = text;
          rest = [];
          outputs = rw h.0 refl;
          between = o.before;
          written_before = written_none o.before;
          others = rw h.0 h.2;
        },
      ),
      same,
    );
  }
  wrote answer.NoMemory i text read made got same h = no_memory (record { files = h; sink = same })
  wrote (answer.Refused r) i text read made got same h = absurd h
  wrote (answer.ReadFault q) i text read made got same h = absurd h
  wrote answer.SinkFault i text read made got same h = absurd h
  wrote (answer.Stopped stop) i text read made got same h = absurd h
