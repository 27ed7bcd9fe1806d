-- What is written has fewer than 2^32 bytes.
use Rattle.std.proofs.Common.{◌≡◌, ℕ, ◌<◌, ◌^◌, List, [], ◌∷◌, length, map, Bool, true, false, cond, nat_lt, Result, Ok, Err, IfOk, refl, sym, ap, ◌∙◌, subst, arith}
use Rattle.std.specs.List.{AllByRecursion}
use Rattle.std.proofs.lemmas.Bool.Decides.{nat_tests}
use Rattle.sdt_fault.specs.declared.refusal.Refusal.{Refusal}
use Rattle.sdt_fault.specs.declared.refusal.Refusal.TheVariants.{TooLarge}
use Rattle.sdt_fault.specs.declared.kinds.Quantity.TheVariants.{FileBytes}
use Rattle.sdt_fault.specs.declared.answer.Fault.{Fault}
use Rattle.chunk_file.specs.declared.records.Chunks.{Chunks}
use Rattle.chunk_file.specs.Chunks.{file_size, spelled, written}
use Rattle.chunk_file.specs.Grammar.{IsNamed, AreChunks, SizeLaw}
use Rattle.chunk_file.specs.Reading.{Gives}
use Rattle.aof_object.specs.declared.records.Object.{Object}
use Rattle.aof_object.specs.Spelling as object
use Rattle.alf_archive.specs.declared.records.Member.{Member}
use Rattle.alf_archive.specs.Spelling as library

short : SizeLaw → (c : Chunks) (b : List ℕ) → AreChunks c → written c ≡ Ok b → length b < 2 ^ 32
short law c b named h = by_test (nat_lt (file_size c) (2 ^ 32)) refl h where
  by_test : (t : Bool) → nat_lt (file_size c) (2 ^ 32) ≡ t → cond t (Ok (spelled c)) (Err (TooLarge FileBytes 0xFFFFFFFF)) ≡ Ok b → length b < 2 ^ 32
  by_test true e k =
      let same : spelled c ≡ b = (let is : ◌≡◌ {A = Result (List ℕ) Refusal} (Ok (spelled c)) (Ok b) = k in cc) in
      let size : length b ≡ file_size c = ap length (sym same) ∙ law c named in
      let fits : file_size c < 2 ^ 32 = grind (arith, nat_tests) in
      subst (λ (n : ℕ). n < 2 ^ 32) (sym size) fits
  by_test false e k = absurd (let bad : ◌≡◌ {A = Result (List ℕ) Refusal} (Err (TooLarge FileBytes 0xFFFFFFFF)) (Ok b) = k in cc)

named_all : (ms : List Member) → AllByRecursion IsNamed (map library.member_chunk ms)
named_all [] = tt
named_all (m ∷ ms) = (refl, named_all ms)

pub short_library : SizeLaw → (ms : List Member) (b : List ℕ) → library.written (record { members = ms }) ≡ Ok b → length b < 2 ^ 32
short_library law ms b h = short law (library.chunks_of (record { members = ms })) b (refl, (refl, (refl, (refl, (refl, named_all ms))))) h

pub short_object : SizeLaw → (o : Object) (b : List ℕ) → object.written o ≡ Ok b → length b < 2 ^ 32
short_object law o b h = short law (object.chunks_of o) b (refl, (refl, (refl, (refl, (refl, tt))))) h

pub library_short : SizeLaw → (ms : List Member) (r : Result (List ℕ) Fault) → Gives r (library.written (record { members = ms })) → IfOk r (λ b. length b < 2 ^ 32)
library_short law ms (Ok b) h = short_library law ms b h
library_short law ms (Err e) h = tt

pub object_short : SizeLaw → (o : Object) (r : Result (List ℕ) Fault) → Gives r (object.written o) → IfOk r (λ b. length b < 2 ^ 32)
object_short law o (Ok b) h = short_object law o b h
object_short law o (Err e) h = tt
