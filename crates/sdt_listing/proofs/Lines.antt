-- Lines for numbers in a row, and areas that are short.
use Rattle.std.proofs.Common.{◌≡◌, ℕ, suc, ◌+◌, ◌-◌, ◌<◌, ◌≤◌, ◌^◌, ◌==◌, Bool, true, false, cond, List, [], ◌∷◌, ◌++◌, length, flat_map, All, refl, sym, ap, ◌∙◌, append_assoc, arith}
use Rattle.std.specs.List.{AllByRecursion}
use Rattle.std.proofs.lemmas.List.Elements.{All-from_recursion}
use Rattle.sdt_word.specs.Numbers.{bit}
use Rattle.chunk_file.specs.Reading.{EachStands}
use Rattle.aof_object.specs.declared.records.Area.{Area}
use Rattle.aof_object.specs.declared.records.Object.{Object}
use Rattle.aof_object.specs.Spelling.{area_names}
use Rattle.aof_object.specs.Validity.{Holds, IsArea, IsValid, head_of}
use Rattle.sdt_listing.specs.Listings.{from}

one_less : (k n : ℕ) → k < n → n - k ≡ suc (n - (k + 1))
one_less k n lt = omega arith

from_first : (k n : ℕ) → k < n → from k (n - k) ≡ k ∷ from (k + 1) (n - (k + 1))
from_first k n lt = let after : k + 1 ≡ suc k = omega arith in rw (one_less k n lt, after) refl

pub more_lines : (f : ℕ → List ℕ) (out now all : List ℕ) (k n : ℕ) → k < n → now ≡ out ++ f k → out ++ flat_map f (from k (n - k)) ≡ all → now ++ flat_map f (from (k + 1) (n - (k + 1))) ≡ all
more_lines f out now all k n lt e h =
    let rest = flat_map f (from (k + 1) (n - (k + 1))) in
    ap (λ o. o ++ rest) e ∙ (append_assoc out (f k) rest ∙ (ap (λ ks. out ++ flat_map f ks) (sym (from_first k n lt)) ∙ h))

-- ---- areas

chosen : (b : Bool) (size : ℕ) → cond b 0 size ≤ size
chosen true size = omega arith
chosen false size = omega arith

small : (names : List (List ℕ)) (areas symbols : ℕ) (a : Area) → IsArea names (head_of a) → Holds areas symbols a → length a.bytes < 2 ^ 32
small names areas symbols a is h =
    let most = is.size_most in
    let size = h.bytes in
    let kept = chosen (bit a.attributes 12 == 1) a.size in
    omega arith

are_short : (areas symbols : ℕ) (before after : List Area) → EachStands (λ b a. IsArea (area_names b) (head_of a)) before after → AllByRecursion (Holds areas symbols) after → AllByRecursion (λ a. length a.bytes < 2 ^ 32) after
are_short areas symbols before [] e h = tt
are_short areas symbols before (a ∷ rest) e h = (small (area_names before) areas symbols a e.0 h.0, are_short areas symbols (before ++ a ∷ []) rest e.1 h.1)

pub short_areas : (o : Object) → IsValid o → All (λ a. length a.bytes < 2 ^ 32) o.areas
short_areas o v = All-from_recursion (λ a. length a.bytes < 2 ^ 32) o.areas (are_short (length o.areas) (length o.symbols) [] o.areas v.areas v.contents)
