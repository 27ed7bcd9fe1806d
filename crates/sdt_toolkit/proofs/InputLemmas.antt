-- Names of inputs, and inputs one after the other.
use Rattle.std.proofs.Common.{◌≡◌, ◌≢◌, inl, inr, ℕ, zero, suc, ◌+◌, ◌==◌, ◌<◌, List, [], ◌∷◌, ◌++◌, length, drop, get_or, Bool, true, false, cond, ◌&&◌, Option, Some, None, Result, Ok, Err, refl, sym, ap, ◌∙◌, subst, append_assoc, add-one}
use Rattle.std.proofs.Math.Seq.{drop-cons}
use Rattle.std.proofs.lemmas.Bool.{ne_eqb}
use Rattle.std.proofs.lemmas.List.{append-nil}
use Rattle.std.specs.List.{list_any, cons_option, AllByRecursion}
use Rattle.sdt_fault.specs.declared.answer.Fault.{Fault}
use Rattle.sdt_fault.specs.declared.answer.Fault.TheVariants as fault
use Rattle.sdt_fault.specs.declared.refusal.Refusal.{Refusal}
use Rattle.sdt_outside.specs.Counts.{Rose}
use Rattle.sdt_outside.specs.Files.{Files}
use Rattle.chunk_file.specs.Reading.{◌>>=◌, Gives}
use Rattle.aof_object.specs.declared.records.Object.{Object}
use Rattle.aof_object.specs.Validity as object
use Rattle.alf_archive.specs.declared.records.Archive.{Archive}
use Rattle.alf_archive.specs.Grammar as library
use Rattle.armasm_core.specs.Assembling.{Assembles, IsCaused, MayGet}
use Rattle.link_model.specs.declared.selection.Named.{Named}
use Rattle.tool_library.specs.declared.linkables.Linkable.{Linkable}
use Rattle.tool_library.specs.declared.linkables.Linkable.TheVariants as input
use Rattle.tool_library.specs.Linkables.{linkable_of, IsValidInput}
use Rattle.sdt_toolkit.specs.Inputs.{AreValid, InputBy, InputIs, InputsAre, IsGot, IsGotBy, IsSource, NamedIs, archives_among, as_archive, as_object, is_source_name, last_part, named, objects_among}
use Rattle.sdt_toolkit.specs.Reads.{Reads, IsAmong, TellsOf, Told}
use Rattle.sdt_toolkit.specs.Sources.{IsObjectOf}
use Rattle.sdt_toolkit.proofs.ReadLemmas.{assembled_among, cause_among, failed_among, got_among}

-- ---- the last part of a name

-- the last part of a name, of which a beginning is read
abbrev pub part_behind : List ℕ → List ℕ → List ℕ
part_behind part rest = cond (list_any (λ d. d == 47) rest) (last_part rest) part

whole_part : (cs : List ℕ) → last_part cs ≡ part_behind cs cs
whole_part [] = refl
whole_part (c ∷ cs) = by_test (list_any (λ d. d == 47) (c ∷ cs)) where
  by_test : (b : Bool) → cond b (last_part cs) (c ∷ cs) ≡ cond b (cond b (last_part cs) (c ∷ cs)) (c ∷ cs)
  by_test true = refl
  by_test false = refl

slash_test : (c : ℕ) (cs part : List ℕ) (b : Bool) → (c == 47) ≡ b → part_behind part (c ∷ cs) ≡ cond b (last_part cs) (part_behind part cs)
slash_test c cs part true e = rw e refl
slash_test c cs part false e = rw e (by_test (list_any (λ d. d == 47) cs)) where
  by_test : (b : Bool) → cond b (cond b (last_part cs) (c ∷ cs)) part ≡ cond b (last_part cs) part
  by_test true = refl
  by_test false = refl

byte_at : (name : List ℕ) (i : ℕ) → i < length name → drop i name ≡ get_or name i 0 ∷ drop (i + 1) name
byte_at name i lt = rw add-one (drop-cons name i 0 lt)

pub part_start : (name : List ℕ) → part_behind name (drop 0 name) ≡ last_part name
part_start name = sym (whole_part name)

pub part_slash : (name part : List ℕ) (i : ℕ) → i < length name → get_or name i 0 ≡ 47 → part_behind part (drop i name) ≡ last_part name
    → part_behind (drop (i + 1) name) (drop (i + 1) name) ≡ last_part name
part_slash name part i lt is h =
    let e : (get_or name i 0 == 47) ≡ true = rw is refl in
    sym (whole_part (drop (i + 1) name))
    ∙ (sym (slash_test (get_or name i 0) (drop (i + 1) name) part true e) ∙ (ap (part_behind part) (sym (byte_at name i lt)) ∙ h))

pub part_other : (name part : List ℕ) (i : ℕ) → i < length name → get_or name i 0 ≢ 47 → part_behind part (drop i name) ≡ last_part name
    → part_behind part (drop (i + 1) name) ≡ last_part name
part_other name part i lt differs h =
    let e : (get_or name i 0 == 47) ≡ false = ne_eqb (get_or name i 0) 47 differs in
    sym (slash_test (get_or name i 0) (drop (i + 1) name) part false e) ∙ (ap (part_behind part) (sym (byte_at name i lt)) ∙ h)

-- ---- an input

module _ (told : Option Files) (before now : ℕ) (s : Reads) (among : IsAmong told before now s) where
  pub assembled_as : (name bytes : List ℕ) (o : Object) → Assembles told name bytes (Ok o) → IsObjectOf told name bytes o → IsSource s name bytes (Ok (input.Object o))
  assembled_as name bytes o h sound = record {
    object = Ok o;
    assembled = assembled_among told before now s among name bytes (Ok o) h;
    caused = tt;
    as_input = refl;
    sound = λ p e.
        let same : ◌≡◌ {A = Result Object Refusal} (Ok o) (Ok p) = e in
        let is : o ≡ p = cc in
        subst (IsObjectOf s.told name bytes) is (subst (λ (t : Option Files). IsObjectOf t name bytes o) (sym among.files) sound);
  }

  pub unassembled_as : (name bytes : List ℕ) (f : Fault) → Assembles told name bytes (Err f) → IsCaused told (Rose before now) f
      → TellsOf {A = Linkable} s (Err f) (IsSource s name bytes) (MayGet s.told name bytes)
  unassembled_as name bytes (fault.Refused r) h cause = record {
    object = Err r;
    assembled = assembled_among told before now s among name bytes (Err r) h;
    caused = cause_among told before now s among r cause;
    as_input = refl;
    sound = λ p e. absurd (let bad : ◌≡◌ {A = Result Object Refusal} (Err r) (Ok p) = e in cc);
  }
  unassembled_as name bytes (fault.ReadFault q) h cause = (failed_among told before now s among cause, got_among told before now s among name bytes q h)
  unassembled_as name bytes fault.NoMemory h cause = tt

abbrev InputTold : Reads → Bool → Bool → List ℕ → List ℕ → Result Linkable Fault → Type 0
InputTold s sources b name bytes r = TellsOf s r (InputBy s b name bytes) (IsGotBy s.told sources name bytes)

-- a read of a source may fail
source_told : (s : Reads) (sources : Bool) (name bytes : List ℕ) (r : Result Linkable Fault) → (sources && is_source_name name) ≡ true
    → TellsOf s r (IsSource s name bytes) (MayGet s.told name bytes) → InputTold s sources true name bytes r
source_told s sources name bytes (Ok x) is h = h
source_told s sources name bytes (Err (fault.Refused r)) is h = h
source_told s sources name bytes (Err (fault.ReadFault q)) is h = (h.0, (is, h.1))
source_told s sources name bytes (Err fault.NoMemory) is h = tt

by_source : (s : Reads) (sources : Bool) (name bytes : List ℕ) (r : Result Linkable Fault) → (sources && is_source_name name) ≡ true
    → TellsOf s r (IsSource s name bytes) (MayGet s.told name bytes) → InputTold s sources (sources && is_source_name name) name bytes r
by_source s sources name bytes r is h =
    subst (λ (x : Bool). InputTold s sources x name bytes r) (sym is) (source_told s sources name bytes r is h)

file_told : (s : Reads) (sources : Bool) (name bytes : List ℕ) (r : Result Linkable Fault) → Gives r (linkable_of name bytes) → InputTold s sources false name bytes r
file_told s sources name bytes (Ok x) h = sym h
file_told s sources name bytes (Err (fault.Refused e)) h = sym h
file_told s sources name bytes (Err (fault.ReadFault q)) h = absurd h
file_told s sources name bytes (Err fault.NoMemory) h = tt

by_file : (s : Reads) (sources : Bool) (name bytes : List ℕ) (r : Result Linkable Fault) → (sources && is_source_name name) ≡ false → Gives r (linkable_of name bytes)
    → InputTold s sources (sources && is_source_name name) name bytes r
by_file s sources name bytes r is h =
    subst (λ (x : Bool). InputTold s sources x name bytes r) (sym is) (file_told s sources name bytes r h)

named_so : (s : Reads) (sources : Bool) (name bytes : List ℕ) (x : Linkable) → InputIs s sources name bytes (Ok x) → NamedIs s sources name bytes (Ok (named name x))
named_so s sources name bytes x h = (Ok x, h, refl)

unnamed : (s : Reads) (sources : Bool) (name bytes : List ℕ) (f : Fault) → TellsOf {A = Linkable} s (Err f) (InputIs s sources name bytes) (IsGotBy s.told sources name bytes)
    → TellsOf {A = Named Linkable} s (Err f) (NamedIs s sources name bytes) (IsGotBy s.told sources name bytes)
unnamed s sources name bytes (fault.Refused r) h = (Err r, h, refl)
unnamed s sources name bytes (fault.ReadFault q) h = h
unnamed s sources name bytes fault.NoMemory h = tt

-- the same whichever reads a call is among
module _ (told : Option Files) (before now : ℕ) (sources : Bool) (name bytes : List ℕ) where
  pub source_judged : (r : Result Linkable Fault) → (sources && is_source_name name) ≡ true
      → Told told before now r (λ s. IsSource s name bytes) (λ s. MayGet s.told name bytes)
      → Told told before now r (λ s. InputIs s sources name bytes) (λ s. IsGotBy s.told sources name bytes)
  unfolding Told
  source_judged r is h = λ s among. by_source s sources name bytes r is (h s among)

  pub file_judged : (r : Result Linkable Fault) → (sources && is_source_name name) ≡ false → Gives r (linkable_of name bytes)
      → Told told before now r (λ s. InputIs s sources name bytes) (λ s. IsGotBy s.told sources name bytes)
  unfolding Told
  file_judged r is h = λ s among. by_file s sources name bytes r is h

  pub named_judged : (x : Linkable) → Told told before now (Ok x) (λ s. InputIs s sources name bytes) (λ s. IsGotBy s.told sources name bytes)
      → Told told before now (Ok (named name x)) (λ s. NamedIs s sources name bytes) (λ s. IsGotBy s.told sources name bytes)
  unfolding Told
  named_judged x h = λ s among. named_so s sources name bytes x (h s among)

  pub unnamed_judged : (f : Fault) → Told {A = Linkable} told before now (Err f) (λ s. InputIs s sources name bytes) (λ s. IsGotBy s.told sources name bytes)
      → Told {A = Named Linkable} told before now (Err f) (λ s. NamedIs s sources name bytes) (λ s. IsGotBy s.told sources name bytes)
  unfolding Told
  unnamed_judged f h = λ s among. unnamed s sources name bytes f (h s among)

-- want of memory is free
pub none_judged : {A : Type 0} (told : Option Files) (before now : ℕ) (is : Reads → Result A Refusal → Type 0) (gets : Reads → List ℕ → Type 0)
    → Told {A = A} told before now (Err fault.NoMemory) is gets
unfolding Told
none_judged told before now is gets = λ s among. tt

-- ---- inputs in order

abbrev pub Inputs : Type 0
Inputs = List (Named Linkable)

-- what others give, behind some inputs
abbrev pub behind : Inputs → Result Inputs Refusal → Result Inputs Refusal
behind xs (Ok ys) = Ok (xs ++ ys)
behind xs (Err r) = Err r

pub behind_none : (r : Result Inputs Refusal) → behind [] r ≡ r
behind_none (Ok ys) = refl
behind_none (Err r) = refl

behind_one : (xs : Inputs) (x : Named Linkable) (rest : Result Inputs Refusal) → behind xs (rest >>= λ ys. Ok (x ∷ ys)) ≡ behind (xs ++ x ∷ []) rest
behind_one xs x (Ok ys) = ap Ok (sym (append_assoc xs (x ∷ []) ys))
behind_one xs x (Err r) = refl

-- what the inputs from a place on give, behind those before it, is what all give
abbrev pub IsBehind : Reads → Bool → List (List ℕ) → List (List ℕ) → ℕ → Inputs → Type 0
IsBehind s sources names contents k xs =
    (rest : Result Inputs Refusal) → InputsAre s sources (drop k names) (drop k contents) rest → InputsAre s sources names contents (behind xs rest)

pub begun : (s : Reads) (sources : Bool) (names contents : List (List ℕ)) → IsBehind s sources names contents 0 []
begun s sources names contents = λ rest h. subst (InputsAre s sources names contents) (sym (behind_none rest)) h

at_place : (xs : List (List ℕ)) (k : ℕ) (x : List ℕ) → k < length xs → x ≡ get_or xs k x → drop k xs ≡ x ∷ drop (k + 1) xs
at_place xs k x lt is = rw add-one (drop-cons xs k x lt ∙ ap (λ (y : List ℕ). y ∷ drop (suc k) xs) (sym is))

-- a file that the source at a place gets is one that a source gets
got_at : (told : Option Files) (sources : Bool) (k : ℕ) (names contents ns ts : List (List ℕ)) (name bytes file : List ℕ) → drop k names ≡ name ∷ ns → drop k contents ≡ bytes ∷ ts
    → IsGotBy told sources name bytes file → IsGot told sources names contents file
got_at told sources zero names contents ns ts name bytes file e f h = rw (e, f) (inl h)
got_at told sources (suc k) [] contents ns ts name bytes file e f h = absurd cc
got_at told sources (suc k) (n ∷ names) [] ns ts name bytes file e f h = absurd cc
got_at told sources (suc k) (n ∷ names) (t ∷ contents) ns ts name bytes file e f h = inr (got_at told sources k names contents ns ts name bytes file e f h)

-- the same among all reads that these are among
abbrev pub AreBehind : Option Files → ℕ → ℕ → Bool → List (List ℕ) → List (List ℕ) → ℕ → Inputs → Type 0
AreBehind told before now sources names contents k xs = (s : Reads) → IsAmong told before now s → IsBehind s sources names contents k xs

module _ (s : Reads) (sources : Bool) (names contents : List (List ℕ)) (k : ℕ) (xs : Inputs) (name bytes : List ℕ) (lt : k < length names) (name_is : name ≡ get_or names k name)
    (lt' : k < length contents) (bytes_is : bytes ≡ get_or contents k bytes) (before : IsBehind s sources names contents k xs) where
  pub one_more : (x : Named Linkable) → NamedIs s sources name bytes (Ok x) → IsBehind s sources names contents (k + 1) (xs ++ x ∷ [])
  one_more x is = λ rest h.
      let here : InputsAre s sources (name ∷ drop (k + 1) names) (bytes ∷ drop (k + 1) contents) (rest >>= λ ys. Ok (x ∷ ys)) = (Ok x, is, (rest, h, refl)) in
      let there : InputsAre s sources (drop k names) (drop k contents) (rest >>= λ ys. Ok (x ∷ ys)) = rw (at_place names k name lt name_is, at_place contents k bytes lt' bytes_is) here in
      subst (InputsAre s sources names contents) (behind_one xs x rest) (before (rest >>= λ ys. Ok (x ∷ ys)) there)

  pub one_refused : (f : Fault) → TellsOf {A = Named Linkable} s (Err f) (NamedIs s sources name bytes) (IsGotBy s.told sources name bytes)
      → TellsOf {A = Inputs} s (Err f) (InputsAre s sources names contents) (IsGot s.told sources names contents)
  one_refused (fault.Refused r) is =
      let here : InputsAre s sources (name ∷ drop (k + 1) names) (bytes ∷ drop (k + 1) contents) (Err r) = (Err r, is, refl) in
      let there : InputsAre s sources (drop k names) (drop k contents) (Err r) = rw (at_place names k name lt name_is, at_place contents k bytes lt' bytes_is) here in
      before (Err r) there
  one_refused (fault.ReadFault q) is = (
    is.0,
    got_at s.told sources k names contents (drop (k + 1) names) (drop (k + 1) contents) name bytes q (at_place names k name lt name_is) (at_place contents k bytes lt' bytes_is) is.1,
  )
  one_refused fault.NoMemory is = tt

pub all_judged : (s : Reads) (sources : Bool) (names contents : List (List ℕ)) (k : ℕ) (xs : Inputs) → drop k names ≡ [] → IsBehind s sources names contents k xs
    → InputsAre s sources names contents (Ok xs)
all_judged s sources names contents k xs none before =
    let there : InputsAre s sources (drop k names) (drop k contents) (Ok []) = rw none refl in
    subst (λ (ys : Inputs). InputsAre s sources names contents (Ok ys)) (append-nil xs) (before (Ok []) there)

-- ---- objects and libraries among them

abbrev ValidObjects : List (Named Object) → Type 0
ValidObjects os = AllByRecursion (λ o. object.IsValid o.value) os

abbrev ValidArchives : List (Named Archive) → Type 0
ValidArchives xs = AllByRecursion (λ a. library.IsValid a.value) xs

first_object : (name part : List ℕ) (v : Linkable) (rest : List (Named Object)) → IsValidInput v → ValidObjects rest → ValidObjects (cons_option (as_object name part v) rest)
first_object name part (input.Object o) rest valid others = (valid, others)
first_object name part (input.Library a) rest valid others = others

first_archive : (name part : List ℕ) (v : Linkable) (rest : List (Named Archive)) → IsValidInput v → ValidArchives rest → ValidArchives (cons_option (as_archive name part v) rest)
first_archive name part (input.Object o) rest valid others = others
first_archive name part (input.Library a) rest valid others = (valid, others)

pub valid_objects : (xs : Inputs) → AreValid xs → ValidObjects (objects_among xs)
valid_objects [] h = tt
valid_objects (x ∷ xs) h = first_object x.name x.«module» x.value (objects_among xs) h.0 (valid_objects xs h.1)

pub valid_archives : (xs : Inputs) → AreValid xs → ValidArchives (archives_among xs)
valid_archives [] h = tt
valid_archives (x ∷ xs) h = first_archive x.name x.«module» x.value (archives_among xs) h.0 (valid_archives xs h.1)

joined : {X : Type 0} (o : Option X) (xs ys : List X) → cons_option o (xs ++ ys) ≡ cons_option o xs ++ ys
joined None xs ys = refl
joined (Some x) xs ys = refl

pub objects_both : (xs ys : Inputs) → objects_among (xs ++ ys) ≡ objects_among xs ++ objects_among ys
objects_both [] ys = refl
objects_both (x ∷ xs) ys = ap (cons_option (as_object x.name x.«module» x.value)) (objects_both xs ys) ∙ joined (as_object x.name x.«module» x.value) (objects_among xs) (objects_among ys)

pub archives_both : (xs ys : Inputs) → archives_among (xs ++ ys) ≡ archives_among xs ++ archives_among ys
archives_both [] ys = refl
archives_both (x ∷ xs) ys = ap (cons_option (as_archive x.name x.«module» x.value)) (archives_both xs ys) ∙ joined (as_archive x.name x.«module» x.value) (archives_among xs) (archives_among ys)

-- one more input, an object or a library
pub object_more : (ys : Inputs) (x : Named Linkable) (o : Object) (os : List (Named Object)) → os ≡ objects_among ys → x.value ≡ input.Object o
    → os ++ (record { name = x.name; «module» = x.«module»; value = o }) ∷ [] ≡ objects_among (ys ++ x ∷ [])
object_more ys x o os before is =
    ap (λ (zs : List (Named Object)). zs ++ (record { name = x.name; «module» = x.«module»; value = o }) ∷ []) before
    ∙ (ap (λ (v : Linkable). objects_among ys ++ cons_option (as_object x.name x.«module» v) []) (sym is) ∙ sym (objects_both ys (x ∷ [])))

pub object_same : (ys : Inputs) (x : Named Linkable) (a : Archive) (os : List (Named Object)) → os ≡ objects_among ys → x.value ≡ input.Library a → os ≡ objects_among (ys ++ x ∷ [])
object_same ys x a os before is =
    before ∙ (sym (append-nil (objects_among ys))
    ∙ (ap (λ (v : Linkable). objects_among ys ++ cons_option (as_object x.name x.«module» v) []) (sym is) ∙ sym (objects_both ys (x ∷ []))))

pub archive_more : (ys : Inputs) (x : Named Linkable) (a : Archive) (xs : List (Named Archive)) → xs ≡ archives_among ys → x.value ≡ input.Library a
    → xs ++ (record { name = x.name; «module» = x.«module»; value = a }) ∷ [] ≡ archives_among (ys ++ x ∷ [])
archive_more ys x a xs before is =
    ap (λ (zs : List (Named Archive)). zs ++ (record { name = x.name; «module» = x.«module»; value = a }) ∷ []) before
    ∙ (ap (λ (v : Linkable). archives_among ys ++ cons_option (as_archive x.name x.«module» v) []) (sym is) ∙ sym (archives_both ys (x ∷ [])))

pub archive_same : (ys : Inputs) (x : Named Linkable) (o : Object) (xs : List (Named Archive)) → xs ≡ archives_among ys → x.value ≡ input.Object o → xs ≡ archives_among (ys ++ x ∷ [])
archive_same ys x o xs before is =
    before ∙ (sym (append-nil (archives_among ys))
    ∙ (ap (λ (v : Linkable). archives_among ys ++ cons_option (as_archive x.name x.«module» v) []) (sym is) ∙ sym (archives_both ys (x ∷ []))))
