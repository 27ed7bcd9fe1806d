-- What a source asks for.
use Rattle.std.proofs.Common.{◌≡◌, inl, inr, ℕ, List, Option, Some, None, Result, Ok, Err, refl, sym, ap, ◌∙◌, subst}
use Rattle.sdt_fault.specs.declared.answer.Fault.{Fault}
use Rattle.sdt_fault.specs.declared.answer.Fault.TheVariants as fault
use Rattle.sdt_fault.specs.declared.refusal.Refusal.{Refusal}
use Rattle.sdt_fault.specs.declared.refusal.Refusal.TheVariants.{Missing}
use Rattle.sdt_outside.specs.Counts.{Rose}
use Rattle.sdt_outside.specs.Files.{Files, content, IsFound, IsMissing}
use Rattle.chunk_file.specs.Reading.{◌>>=◌, Gives}
use Rattle.aof_object.specs.declared.records.Object.{Object}
use Rattle.aof_object.specs.Spelling.{written}
use Rattle.armasm_core.specs.Assembling.{Assembles, AssembledFrom, IsCaused, OneAssembly}
use Rattle.tool_answers.specs.Outcomes.{Outcome, writes_one}
use Rattle.sdt_toolkit.specs.Reads.{Reads, HasFailed, IsAmong}
use Rattle.sdt_toolkit.specs.Sources.{IsObjectOf, Spells, TextAsks, SpellsAs, FilesAsk, FoundAsks, SourceAsks, OneAsked}
use Rattle.sdt_toolkit.proofs.ReadLemmas.{assembled_among, cause_among, failed_among, got_among}
use Rattle.tool_library.proofs.AnswerLemmas.{first_reached as reached}

-- ---- a text

module _ (told : Option Files) (before now : ℕ) (s : Reads) (among : IsAmong told before now s) where
  pub spells_none : (name text : List ℕ) (f : Fault) → Assembles told name text (Err f) → IsCaused told (Rose before now) f → SpellsAs s name text (Err f)
  spells_none name text (fault.Refused r) h cause = record {
    made = Err r;
    assembled = assembled_among told before now s among name text (Err r) h;
    caused = cause_among told before now s among r cause;
    sound = λ o e. absurd (let bad : ◌≡◌ {A = Result Object Refusal} (Err r) (Ok o) = e in cc);
    spelled = refl;
  }
  spells_none name text (fault.ReadFault n) h cause = (failed_among told before now s among cause, got_among told before now s among name text n h)
  spells_none name text fault.NoMemory h cause = tt

  spelled : (name text : List ℕ) (o : Object) (r : Result (List ℕ) Refusal) → Assembles told name text (Ok o) → IsObjectOf told name text o → r ≡ written o → Spells s name text r
  spelled name text o r h is k = record {
    made = Ok o;
    assembled = assembled_among told before now s among name text (Ok o) h;
    caused = tt;
    sound = λ p e.
        let same : ◌≡◌ {A = Result Object Refusal} (Ok o) (Ok p) = e in
        let one : o ≡ p = cc in
        subst (IsObjectOf s.told name text) one (subst (λ (t : Option Files). IsObjectOf t name text o) (sym among.files) is);
    spelled = k;
  }

  pub spells_object : (name text : List ℕ) (o : Object) (r : Result (List ℕ) Fault) → Assembles told name text (Ok o) → IsObjectOf told name text o → Gives r (written o)
      → SpellsAs s name text r
  spells_object name text o (Ok bytes) h is k = spelled name text o (Ok bytes) h is (sym k)
  spells_object name text o (Err (fault.Refused r)) h is k = spelled name text o (Err r) h is (sym k)
  spells_object name text o (Err (fault.ReadFault n)) h is k = absurd k
  spells_object name text o (Err fault.NoMemory) h is k = tt

asks_bytes : (output : List ℕ) → List ℕ → Result Outcome Refusal
asks_bytes output b = Ok (writes_one output b)

pub text_asks : (s : Reads) (name output text bytes : List ℕ) → Spells s name text (Ok bytes) → TextAsks s name output text (Ok (writes_one output bytes))
text_asks s name output text bytes h = record { bytes = Ok bytes; spells = h; outcome = refl }

pub text_refused : (s : Reads) (name output text : List ℕ) (r : Refusal) → Spells s name text (Err r) → TextAsks s name output text (Err r)
text_refused s name output text r h = record { bytes = Err r; spells = h; outcome = refl }

-- ---- a file

files_ask : (told : Option Files) (s : Reads) (name output text : List ℕ) (asked : Result Outcome Refusal) → IsFound told name text
    → TextAsks s name output text asked → FilesAsk told s name output asked
files_ask None s name output text asked found h = inl (text, h)
files_ask (Some files) s name output text asked found h =
    subst (λ (x : Option (List ℕ)). FoundAsks s name output x asked) (sym found) h

pub source_asks : (s : Reads) (name output text : List ℕ) (asked : Result Outcome Refusal) → IsFound s.told name text → TextAsks s name output text asked
    → SourceAsks s name output asked
source_asks s name output text asked found h = files_ask s.told s name output text asked found h

files_miss : (told : Option Files) (s : Reads) (name output : List ℕ) → IsMissing told name (HasFailed s) → FilesAsk told s name output (Err (Missing name))
files_miss None s name output h = inr (name, refl, h, reached None name)
files_miss (Some files) s name output h =
    subst (λ (x : Option (List ℕ)). FoundAsks s name output x (Err (Missing name))) (sym h) refl

pub source_missing : (s : Reads) (name output : List ℕ) → IsMissing s.told name (HasFailed s) → SourceAsks s name output (Err (Missing name))
source_missing s name output h = files_miss s.told s name output h

-- ---- once

text_once : OneAssembly → (s : Reads) (files : Files) → s.told ≡ Some files → (name output text : List ℕ) (a b : Result Outcome Refusal)
    → TextAsks s name output text a → TextAsks s name output text b → a ≡ b
unfolding asks_bytes
text_once law s files is name output text a b h k =
    let told = λ (r : Result Object Refusal) (x : AssembledFrom s.told name text r). subst (λ (t : Option Files). AssembledFrom t name text r) is x in
    let made : h.spells.made ≡ k.spells.made =
    law (content files) name text h.spells.made k.spells.made (told h.spells.made h.spells.assembled) (told k.spells.made k.spells.assembled) in
    let bytes : h.bytes ≡ k.bytes = h.spells.spelled ∙ ap (λ (x : Result Object Refusal). x >>= written) made ∙ sym k.spells.spelled in
    h.outcome ∙ ap (λ (x : Result (List ℕ) Refusal). x >>= asks_bytes output) bytes ∙ sym k.outcome

found_once : OneAssembly → (s : Reads) (files : Files) → s.told ≡ Some files → (name output : List ℕ) (c : Option (List ℕ)) (a b : Result Outcome Refusal)
    → FoundAsks s name output c a → FoundAsks s name output c b → a ≡ b
found_once law s files is name output None a b h k = let e : a ≡ Err (Missing name) = h in let f : b ≡ Err (Missing name) = k in e ∙ sym f
found_once law s files is name output (Some text) a b h k = text_once law s files is name output text a b h k

pub one_asked : OneAssembly → OneAsked
one_asked law s name output files a b is h k =
    let told = λ (x : Result Outcome Refusal) (asks : SourceAsks s name output x). subst (λ (t : Option Files). FilesAsk t s name output x) is asks in
    found_once law s files is name output (content files name) a b (told a h) (told b k)
