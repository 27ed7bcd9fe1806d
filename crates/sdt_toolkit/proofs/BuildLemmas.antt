-- What a build reads under a name, and what the link of its objects reads: the same input, of the same module.
use Rattle.std.proofs.Common.{◌≡◌, ℕ, ◌-◌, ◌<◌, ◌^◌, ◌==◌, nat_lt, List, [], ◌∷◌, ◌++◌, length, length-append, take, drop, codes, Bool, true, false, cond, Option, Some, Result, Ok, Err, refl, sym, ap, ◌∙◌, subst, arith}
use Rattle.std.proofs.lemmas.Bool.{ltb-true}
use Rattle.std.proofs.lemmas.Bool.Decides.{Decides-eqb}
use Rattle.std.proofs.lemmas.List.{take-append-le}
use Rattle.std.proofs.lemmas.Slice.Eq.{ends_is}
use Rattle.std.specs.Cmp.Lexicographic.{pointwise}
use Rattle.std.specs.Prelude.{nat_eq}
use Rattle.std.specs.List.{list_any}
use Rattle.sdt_fault.specs.declared.refusal.Refusal.{Refusal}
use Rattle.sdt_fault.specs.declared.refusal.Refusal.TheVariants.{TooLarge}
use Rattle.sdt_fault.specs.declared.kinds.Quantity.TheVariants.{FileBytes}
use Rattle.sdt_outside.specs.Files.{Files}
use Rattle.chunk_file.specs.declared.records.Chunks.{Chunks}
use Rattle.chunk_file.specs.declared.records.Span.{Span}
use Rattle.chunk_file.specs.Chunks.{file_size, spans_from, table_of}
use Rattle.chunk_file.specs.Chunks as file
use Rattle.chunk_file.specs.Grammar.{AreChunks}
use Rattle.chunk_file.specs.Reading.{◌>>=◌}
use Rattle.chunk_file.proofs.Spelling.{length-spelled, spelled_table}
use Rattle.chunk_file.proofs.Table.{table_law}
use Rattle.aof_object.specs.declared.records.Object.{Object}
use Rattle.aof_object.specs.Grammar.{Fits}
use Rattle.aof_object.specs.Objects.{object_of}
use Rattle.aof_object.specs.Spelling.{chunks_of, spelled, written}
use Rattle.aof_object.specs.Validity.{IsValid}
use Rattle.aof_object.proofs.ObjectLaw.{object_law}
use Rattle.aof_object.proofs.SpelledObject.{spelling_law}
use Rattle.alf_archive.specs.Archives.{is_library, is_library_by}
use Rattle.armasm_core.specs.Assembling.{AssembledFrom}
use Rattle.tool_library.specs.declared.linkables.Linkable.{Linkable}
use Rattle.tool_library.specs.declared.linkables.Linkable.TheVariants as input
use Rattle.tool_library.specs.Linkables.{linkable_of}
use Rattle.sdt_toolkit.specs.Builds.{IsObjectFile, link_name}
use Rattle.sdt_toolkit.specs.Inputs.{InputBy, is_source_name, last_part, module_of, object_name}
use Rattle.sdt_toolkit.specs.Reads.{Reads}
use Rattle.sdt_toolkit.specs.Sources.{IsObjectOf}

-- ---- the file of an object

fits_file : (c : Chunks) (bytes : List ℕ) → file.written c ≡ Ok bytes → (file_size c < 2 ^ 32) × (file.spelled c ≡ bytes)
fits_file c bytes h = by (nat_lt (file_size c) (2 ^ 32)) refl h where
  by : (b : Bool) → nat_lt (file_size c) (2 ^ 32) ≡ b → cond b (Ok (file.spelled c)) (Err (TooLarge FileBytes 0xFFFFFFFF)) ≡ Ok bytes
      → (file_size c < 2 ^ 32) × (file.spelled c ≡ bytes)
  by true e k = (ltb-true (file_size c) (2 ^ 32) e, let same : ◌≡◌ {A = Result (List ℕ) Refusal} (Ok (file.spelled c)) (Ok bytes) = k in cc)
  by false e k = absurd (let bad : ◌≡◌ {A = Result (List ℕ) Refusal} (Err (TooLarge FileBytes 0xFFFFFFFF)) (Ok bytes) = k in cc)

-- it is read as the object
object_read : (name bytes : List ℕ) (o : Object) → IsValid o → Fits o → written o ≡ Ok bytes → linkable_of name bytes ≡ Ok (input.Object o)
unfolding linkable_of is_library
object_read name bytes o valid fits h =
    let c = chunks_of o in
    let named : AreChunks c = (refl, (refl, (refl, (refl, (refl, tt))))) in
    let f = fits_file c bytes h in
    let small : length (spelled o) < 2 ^ 32 = subst (λ (n : ℕ). n < 2 ^ 32) (sym (length-spelled c named)) f.0 in
    let spans : List (Option Span) = spans_from 92 c.list in
    let table : table_of (spelled o) ≡ Ok spans = (table_law (spelled o) spans).1 (spelled_table c named small) in
    let apart : is_library_by (table_of (spelled o)) ≡ false = ap is_library_by table in
    let object : object_of (spelled o) ≡ Ok o = (object_law (spelled o) o).1 (spelling_law o valid fits small) in
    subst (λ (b : List ℕ). linkable_of name b ≡ Ok (input.Object o)) f.1 (rw (apart, object) refl)

-- ---- names

cut : (stem ending : List ℕ) → length ending ≡ 2 → length (stem ++ ending) - 2 ≡ length stem
cut stem ending two = omega (arith, length-append stem ending, two)

stem_of : (stem ending : List ℕ) → length ending ≡ 2 → take (length (stem ++ ending) - 2) (stem ++ ending) ≡ stem
stem_of stem ending two = rw (cut stem ending two) (take-append-le (length stem) stem ending (omega arith) ∙ take_all stem) where
  take_all : (xs : List ℕ) → take (length xs) xs ≡ xs
  take_all [] = refl
  take_all (x ∷ xs) = ap (λ (ys : List ℕ). x ∷ ys) (take_all xs)

ending_of : (stem ending : List ℕ) → length ending ≡ 2 → drop (length (stem ++ ending) - 2) (stem ++ ending) ≡ ending
ending_of stem ending two = rw (cut stem ending two) (dropped stem) where
  dropped : (xs : List ℕ) → drop (length xs) (xs ++ ending) ≡ ending
  dropped [] = refl
  dropped (x ∷ xs) = dropped xs

ends_in_s : (stem : List ℕ) → is_source_name (stem ++ codes ".s") ≡ true
ends_in_s stem = ap (λ (e : List ℕ). pointwise nat_eq (codes ".s") e) (ending_of stem (codes ".s") refl)

ends_in_o : (stem : List ℕ) → is_source_name (stem ++ codes ".o") ≡ false
ends_in_o stem = ap (λ (e : List ℕ). pointwise nat_eq (codes ".s") e) (ending_of stem (codes ".o") refl)

object_of_stem : (stem : List ℕ) → object_name (stem ++ codes ".s") ≡ stem ++ codes ".o"
object_of_stem stem = ap (λ (s : List ℕ). s ++ codes ".o") (stem_of stem (codes ".s") refl)

-- an ending without a '/'
record IsPlain (ending : List ℕ) : Type 0 where
  none : list_any (λ d. d == 47) ending ≡ false
  whole : last_part ending ≡ ending

any_in_front : (xs ending : List ℕ) → IsPlain ending → list_any (λ d. d == 47) (xs ++ ending) ≡ list_any (λ d. d == 47) xs
any_in_front [] ending plain = plain.none
any_in_front (x ∷ xs) ending plain = rw (any_in_front xs ending plain) refl

last_of : (stem ending : List ℕ) → IsPlain ending → last_part (stem ++ ending) ≡ last_part stem ++ ending
last_of [] ending plain = plain.whole
last_of (c ∷ cs) ending plain = rw (any_in_front (c ∷ cs) ending plain) (by (list_any (λ d. d == 47) (c ∷ cs)) (last_of cs ending plain)) where
  by : (b : Bool) → last_part (cs ++ ending) ≡ last_part cs ++ ending → cond b (last_part (cs ++ ending)) (c ∷ (cs ++ ending)) ≡ cond b (last_part cs) (c ∷ cs) ++ ending
  by true rest = rest
  by false rest = refl

module_of_source : (stem : List ℕ) → module_of (stem ++ codes ".s") ≡ last_part stem ++ codes ".o"
module_of_source stem =
    let plain : IsPlain (codes ".s") = record { none = refl; whole = refl } in
    rw (last_of stem (codes ".s") plain, ends_in_s (last_part stem)) (object_of_stem (last_part stem))

module_of_object : (stem : List ℕ) → module_of (stem ++ codes ".o") ≡ last_part stem ++ codes ".o"
module_of_object stem =
    let plain : IsPlain (codes ".o") = record { none = refl; whole = refl } in
    rw (last_of stem (codes ".o") plain, ends_in_o (last_part stem)) refl

-- a source and its object are of one module
pub same_module : (name : List ℕ) → module_of name ≡ module_of (link_name name)
same_module name = by (is_source_name name) refl where
  by : (b : Bool) → is_source_name name ≡ b → module_of name ≡ module_of (cond b (object_name name) name)
  by false e = refl
  by true e =
      let stem = take (length name - 2) name in
      let is : name ≡ stem ++ codes ".s" = (ends_is Decides-eqb name (codes ".s") (is_source_name name) refl).0 e in
      ap module_of is ∙ module_of_source stem ∙ sym (module_of_object stem)

-- ---- an input

-- what a build reads under a name, and what the link reads
abbrev pub IsFor : Files → Bool → List ℕ → List ℕ → List ℕ → Type 0
IsFor files true name bytes others = IsObjectFile files name bytes others
IsFor files false name bytes others = others ≡ bytes

abbrev pub OneOf : Files → List ℕ → List ℕ → Type 0
OneOf files name text =
    (x y : Result Object Refusal) → AssembledFrom (Some files) name text x → AssembledFrom (Some files) name text y → x ≡ y

as_input : Object → Result Linkable Refusal
as_input o = Ok (input.Object o)

pub linked_as : (s : Reads) (files : Files) → s.told ≡ Some files → (b : Bool) (name bytes others : List ℕ) → OneOf files name bytes → IsFor files b name bytes others
    → (v : Linkable) → InputBy s b name bytes (Ok v) → Ok v ≡ linkable_of (cond b (object_name name) name) others
unfolding as_input
linked_as s files told false name bytes others one f v h = h ∙ ap (linkable_of name) (sym f)
linked_as s files told true name bytes others one f v h =
    let from : AssembledFrom (Some files) name bytes h.object = subst (λ (t : Option Files). AssembledFrom t name bytes h.object) told h.assembled in
    let same : h.object ≡ Ok f.object = one h.object (Ok f.object) from f.assembled in
    h.as_input ∙ ap (λ (o : Result Object Refusal). o >>= as_input) same ∙ sym (object_read (object_name name) others f.object f.sound.valid f.sound.fits f.spelled)

pub built_as : (s : Reads) (files : Files) → s.told ≡ Some files → (b : Bool) (name bytes others : List ℕ) → IsFor files b name bytes others
    → (v : Linkable) → Ok v ≡ linkable_of (cond b (object_name name) name) others → InputBy s b name bytes (Ok v)
built_as s files told false name bytes others f v h = h ∙ ap (linkable_of name) f
built_as s files told true name bytes others f v h = record {
  object = Ok f.object;
  assembled = subst (λ (t : Option Files). AssembledFrom t name bytes (Ok f.object)) (sym told) f.assembled;
  caused = tt;
  as_input = h ∙ object_read (object_name name) others f.object f.sound.valid f.sound.fits f.spelled;
  sound = λ o e.
      let same : ◌≡◌ {A = Result Object Refusal} (Ok f.object) (Ok o) = e in
      let is : f.object ≡ o = cc in
      subst (IsObjectOf s.told name bytes) is (subst (λ (t : Option Files). IsObjectOf t name bytes f.object) (sym told) f.sound);
}
