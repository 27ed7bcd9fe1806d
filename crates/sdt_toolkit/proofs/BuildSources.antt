-- Where a build asks for files, `asm` of each of its sources asks for the file of its object.
use Rattle.std.proofs.Common.{◌≡◌, ℕ, List, [], ◌∷◌, Bool, true, Option, Some, None, Result, Ok, Err, refl, sym, ap, ◌∙◌, subst}
use Rattle.std.specs.List.{AllByRecursion}
use Rattle.sdt_fault.specs.declared.refusal.Refusal.{Refusal}
use Rattle.sdt_outside.specs.Files.{Files, content}
use Rattle.chunk_file.specs.Reading.{◌>>=◌}
use Rattle.aof_object.specs.declared.records.Object.{Object}
use Rattle.aof_object.specs.Spelling.{written}
use Rattle.armasm_core.specs.Assembling.{AssembledFrom}
use Rattle.tool_words.specs.declared.command.LinkPlacement.{LinkPlacement}
use Rattle.tool_words.specs.declared.command.LinkPlacement.TheVariants as placement
use Rattle.tool_words.specs.declared.command.LinkWords.{LinkWords}
use Rattle.tool_answers.specs.Inputs.{and_others, found_or, inputs_of}
use Rattle.tool_answers.specs.Outcomes.{Outcome, writes_one}
use Rattle.tool_library.specs.declared.linkables.Linkable.{Linkable}
use Rattle.tool_library.specs.declared.linkables.Linkable.TheVariants as input
use Rattle.bin_image.specs.declared.records.OutFile.{OutFile}
use Rattle.sdt_toolkit.specs.Builds.{AsksAlone, EachAsksAlone}
use Rattle.sdt_toolkit.specs.Inputs.{InputBy, InputsAre, IsSource, is_source_name}
use Rattle.sdt_toolkit.specs.Links.{FilesAsk as WordsFilesAsk, InputsMake, LinkAsks, ReadAsks, WordsAsk, inputs_in, files_read, read_by, text_in, writes_all}
use Rattle.sdt_toolkit.specs.Reads.{Reads}
use Rattle.sdt_toolkit.specs.Sources.{FilesAsk, FoundAsks, IsObjectOf, SourceAsks, Spells, TextAsks}
use Rattle.sdt_toolkit.proofs.BuildLaws.{Inputs, came, first_is}

module _ (s : Reads) (files : Files) (told : s.told ≡ Some files) where
  -- what the text under a name asks for, the file does
  asked : (name output text : List ℕ) (a : Result Outcome Refusal) → content files name ≡ Some text → TextAsks s name output text a → SourceAsks s name output a
  asked name output text a is h =
      subst (λ t. FilesAsk t s name output a) (sym told) (subst (λ (found : Option (List ℕ)). FoundAsks s name output found a) (sym is) h)

  spelled_as : (name text : List ℕ) (made : Result Linkable Refusal) (o : Object) (bytes : Result (List ℕ) Refusal) (h : IsSource s name text made)
      → h.object ≡ Ok o → written o ≡ bytes → Spells s name text bytes
  spelled_as name text made o bytes h is e = record {
    made = h.object;
    assembled = h.assembled;
    caused = h.caused;
    sound = h.sound;
    spelled = sym (ap (λ (x : Result Object Refusal). x >>= written) is ∙ e);
  }

  alone : (name text : List ℕ) (x : Linkable) → content files name ≡ Some text → IsSource s name text (Ok x) → AsksAlone s files name
  alone name text x is h =
      let (o, made, as_input) = came h.object (λ (p : Object). Ok (input.Object p)) x h.as_input in
      record {
        text = text;
        object = o;
        source = is;
        assembled = subst (λ (t : Option Files). AssembledFrom t name text (Ok o)) told (subst (λ (m : Result Object Refusal). AssembledFrom s.told name text m) made h.assembled);
        sound = subst (λ (t : Option Files). IsObjectOf t name text o) told (h.sound o made);
        asks = λ output.
            asked name output text (written o >>= λ bytes. Ok (writes_one output bytes)) is
            (record { bytes = written o; spells = spelled_as name text (Ok x) o (written o) h made refl; outcome = refl });
      }

  -- ---- what is read

  record IsRead (name : List ℕ) (names contents : List (List ℕ)) : Type 0 where
    text : List ℕ
    rest : List (List ℕ)
    there : content files name ≡ Some text
    others : inputs_of files names ≡ Ok rest
    all : contents ≡ text ∷ rest

  read_first : (name : List ℕ) (names contents : List (List ℕ)) → inputs_of files (name ∷ names) ≡ Ok contents → IsRead name names contents
  read_first name names contents h = by (content files name) (inputs_of files names) refl refl h where
    by : (x : Option (List ℕ)) (others : Result (List (List ℕ)) Refusal) → content files name ≡ x → inputs_of files names ≡ others
        → and_others (found_or name x) others ≡ Ok contents → IsRead name names contents
    by None others ex eo k = absurd (let bad : ◌≡◌ {A = Result (List (List ℕ)) Refusal} (and_others (found_or name None) others) (Ok contents) = k in cc)
    by (Some text) (Err r) ex eo k = absurd (let bad : ◌≡◌ {A = Result (List (List ℕ)) Refusal} (Err r) (Ok contents) = k in cc)
    by (Some text) (Ok rest) ex eo k =
        let same : ◌≡◌ {A = Result (List (List ℕ)) Refusal} (Ok (text ∷ rest)) (Ok contents) = k in
        record { text = text; rest = rest; there = ex; others = eo; all = cc }

  each : (names contents : List (List ℕ)) (xs : Inputs) → inputs_of files names ≡ Ok contents → InputsAre s true names contents (Ok xs)
      → AllByRecursion (λ name. is_source_name name ≡ true → AsksAlone s files name) names
  each [] contents xs read h = tt
  each (name ∷ names) contents xs read h =
      let r = read_first name names contents read in
      let k : InputsAre s true (name ∷ names) (r.text ∷ r.rest) (Ok xs) = subst (λ (cs : List (List ℕ)). InputsAre s true (name ∷ names) cs (Ok xs)) r.all h in
      let f = first_is s true name r.text (InputsAre s true names r.rest) k.0 xs k.1 k.2 in (
        λ e. alone name r.text f.value r.there (subst (λ (b : Bool). InputBy s b name r.text (Ok f.value)) e f.is),
        each names r.rest f.rest r.others f.others,
      )

  -- behind the description, where there is one
  under_names : (p : LinkPlacement) (names contents : List (List ℕ)) → inputs_of files (read_by p names) ≡ Ok contents → inputs_of files names ≡ Ok (inputs_in p contents)
  under_names (placement.Scatter file) names contents h =
      let r = read_first file names contents h in
      subst (λ (cs : List (List ℕ)). inputs_of files names ≡ Ok (inputs_in (placement.Scatter file) cs)) (sym r.all) r.others
  under_names (placement.Aif base relocatable) names contents h = h
  under_names (placement.Plain base) names contents h = h

  contents_asked : (w : LinkWords) (contents : List (List ℕ)) (out : Outcome) → inputs_of files (files_read w) ≡ Ok contents → LinkAsks s true w contents (Ok out) → EachAsksAlone s files w
  contents_asked w contents out read h =
      let (fs, made, written_are) = came h.made writes_all out h.outcome in
      by fs h.makes.inputs h.makes.judged (subst (InputsMake w (text_in w.placement contents) h.makes.inputs) made h.makes.files)
    where
      by : (fs : List OutFile) (inputs : Result Inputs Refusal) → InputsAre s true w.names (inputs_in w.placement contents) inputs
          → InputsMake w (text_in w.placement contents) inputs (Ok fs) → EachAsksAlone s files w
      by fs (Err r) judged make = absurd (let bad : ◌≡◌ {A = Result (List OutFile) Refusal} (Ok fs) (Err r) = make in cc)
      by fs (Ok xs) judged make = each w.names (inputs_in w.placement contents) xs (under_names w.placement w.names contents read) judged

  pub sources_asked : (w : LinkWords) (out : Outcome) → WordsAsk s true w (Ok out) → EachAsksAlone s files w
  sources_asked w out h = by (inputs_of files (files_read w)) refl (subst (λ t. WordsFilesAsk t s true w (Ok out)) told h) where
    by : (read : Result (List (List ℕ)) Refusal) → inputs_of files (files_read w) ≡ read → ReadAsks s true w read (Ok out) → EachAsksAlone s files w
    by (Ok contents) e k = contents_asked w contents out e k
    by (Err r) e k = absurd (let bad : ◌≡◌ {A = Result Outcome Refusal} (Ok out) (Err r) = k in cc)
