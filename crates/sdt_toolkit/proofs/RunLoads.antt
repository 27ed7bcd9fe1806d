-- Memory that load regions were put into, of which no two meet.
use Rattle.std.proofs.Common.{◌≡◌, ℕ, ◌+◌, ◌-◌, ◌<◌, ◌≤◌, Bool, true, false, cond, List, [], ◌∷◌, ◌++◌, ◌||◌, length, map, Option, Some, None, refl, ◌∙◌, arith, ◌⊎◌, inl, inr}
use Rattle.std.specs.Prelude.{slice_index}
use Rattle.std.specs.List.{AllByRecursion}
use Rattle.std.proofs.lemmas.Bool.Decides.{nat_tests}
use Rattle.arm7_model.specs.Memory.{Bytes, store}
use Rattle.arm7_model.proofs.MemoryLemmas.{below_or_not, bytes-store, store-above, store-below, store-in}
use Rattle.arm7_bus.specs.Seats.{has_access}
use Rattle.boot_code.specs.Boots.{covers}
use Rattle.boot_code.proofs.ViewLemmas.{covers-true}
use Rattle.boot_code.specs.Maps.{Segment, map_of}
use Rattle.chunk_file.specs.Grammar.{AreBytes}
use Rattle.link_model.specs.declared.images.LoadRegion.{LoadRegion}
use Rattle.bin_image.specs.Files.{map_load}
use Rattle.bin_image.specs.Maps.{AreApart, IsApart}
use Rattle.run_opening.specs.declared.image.Load.{Load}
use Rattle.run_opening.specs.declared.image.Need.{Need}
use Rattle.run_opening.specs.Openings.{loaded}
use Rattle.sdt_toolkit.specs.RunImages.{is_needed, load_need, load_of}

-- where a loader puts them
abbrev segments_in : List LoadRegion → List Segment
segments_in loads = map (λ l. record { base = l.base; bytes = l.bytes }) loads

abbrev IsOff : ℕ → LoadRegion → Type 0
IsOff x l = l.base ≤ x → x < l.base + length l.bytes → ⊥

loaded_off : (m : Bytes) (ls : List LoadRegion) (x : ℕ) → AllByRecursion (IsOff x) ls → loaded m (map load_of ls) x ≡ m x
loaded_off m [] x off = refl
loaded_off m (l ∷ ls) x (one, off) = loaded_off (store m l.base l.bytes) ls x off ∙ at (below_or_not x l.base) (below_or_not x (l.base + length l.bytes))
  where
    at : (x < l.base) ⊎ (l.base ≤ x) → (x < l.base + length l.bytes) ⊎ (l.base + length l.bytes ≤ x) → store m l.base l.bytes x ≡ m x
    at (inl lt) other = store-below m l.base l.bytes x lt
    at (inr le) (inl lt) = absurd (one le lt)
    at (inr le) (inr above) = store-above m l.base l.bytes x above

others_off : (out : List ℕ) (l : LoadRegion) (ls : List LoadRegion) (x : ℕ) → AllByRecursion (IsApart (map_load out l)) (map (map_load out) ls)
    → l.base ≤ x → x < l.base + length l.bytes → AllByRecursion (IsOff x) ls
others_off out l [] x apart lo hi = tt
others_off out l (k ∷ ks) x (one, apart) lo hi = (λ low high. one x (lo, hi) (low, high), others_off out l ks x apart lo hi)

some_same : (a b : ℕ) → Some a ≡ Some b → a ≡ b
some_same a b e = cc

pub loaded_at : (m : Bytes) (out : List ℕ) (ls : List LoadRegion) (x b : ℕ) → AreApart (map (map_load out) ls) → map_of (segments_in ls) x ≡ Some b
    → loaded m (map load_of ls) x ≡ b
loaded_at m out [] x b apart e = absurd (let bad : ◌≡◌ {A = Option ℕ} None (Some b) = e in cc)
loaded_at m out (l ∷ ls) x b (one, apart) e = go (covers l.base (length l.bytes) x) refl e (loaded_at (store m l.base l.bytes) out ls x b apart)
  where
    go : (c : Bool) → covers l.base (length l.bytes) x ≡ c → cond c (Some (slice_index l.bytes (x - l.base))) (map_of (segments_in ls) x) ≡ Some b
        → (map_of (segments_in ls) x ≡ Some b → loaded (store m l.base l.bytes) (map load_of ls) x ≡ b) → loaded (store m l.base l.bytes) (map load_of ls) x ≡ b
    go true f h more =
        let (lo, hi) = covers-true l.base (length l.bytes) x f in
        loaded_off (store m l.base l.bytes) ls x (others_off out l ls x one lo hi) ∙ store-in m l.base l.bytes x lo hi ∙ some_same _ b h
    go false f h more = more h

pub loaded_bytes : (m : Bytes) (ls : List Load) → ((x : ℕ) → m x < 256) → AllByRecursion (λ (l : Load). AreBytes l.bytes) ls → (x : ℕ) → loaded m ls x < 256
loaded_bytes m [] small bytes x = small x
loaded_bytes m (l ∷ ls) small (one, bytes) x = loaded_bytes (store m l.base l.bytes) ls (bytes-store m l.base l.bytes small one) bytes x

-- a byte of the load regions is needed
pub inside : (base size x : ℕ) → covers base size x ≡ true → has_access base size x 1 ≡ true
inside base size x e = grind (arith, nat_tests)

pub load_needed : (ls : List LoadRegion) (more : List Need) (x b : ℕ) → map_of (segments_in ls) x ≡ Some b → is_needed (map load_need ls ++ more) x ≡ true
load_needed [] more x b e = absurd (let bad : ◌≡◌ {A = Option ℕ} None (Some b) = e in cc)
load_needed (l ∷ ls) more x b e = go (covers l.base (length l.bytes) x) refl e (load_needed ls more x b)
  where
    go : (c : Bool) → covers l.base (length l.bytes) x ≡ c → cond c (Some (slice_index l.bytes (x - l.base))) (map_of (segments_in ls) x) ≡ Some b
        → (map_of (segments_in ls) x ≡ Some b → is_needed (map load_need ls ++ more) x ≡ true) → is_needed (map load_need (l ∷ ls) ++ more) x ≡ true
    go true f h rest = rw (inside l.base (length l.bytes) x f) refl
    go false f h rest = either (has_access l.base (length l.bytes) x 1) (rest h)
      where
        either : (a : Bool) → is_needed (map load_need ls ++ more) x ≡ true → (a || is_needed (map load_need ls ++ more) x) ≡ true
        either true p = refl
        either false p = p
