-- Load files lie in what is needed.
use Rattle.std.proofs.Common.{◌≡◌, ℕ, ◌≤◌, List, [], ◌∷◌, ◌++◌, length, map, Result, Ok, Err, refl, sym, subst, arith, true, false, ◌⊎◌, inl, inr, ◌≢◌}
use Rattle.std.specs.Prelude.{◌==◌}
use Rattle.std.specs.List.{AllByRecursion}
use Rattle.std.proofs.lemmas.Bool.Decides.{eqb_tells, nat_tests}
use Rattle.sdt_fault.specs.declared.kinds.FileKind.TheVariants as kind
use Rattle.sdt_fault.specs.declared.refusal.Refusal.{Refusal}
use Rattle.sdt_fault.specs.declared.refusal.Refusal.TheVariants.{BadImage}
use Rattle.chunk_file.specs.Reading.{◌>>=◌}
use Rattle.arm7_bus.specs.Seats.{has_access}
use Rattle.bin_image.specs.declared.records.MapFile.{MapFile}
use Rattle.bin_image.specs.declared.records.MapLoad.{MapLoad}
use Rattle.elf_image.specs.declared.records.Elf.{Elf}
use Rattle.elf_image.specs.declared.records.Segment.{Segment}
use Rattle.elf_image.specs.Checks.{IsSegment, ReadsElf}
use Rattle.hex_image.specs.declared.records.Piece.{Piece}
use Rattle.run_opening.specs.declared.image.Image.{Image}
use Rattle.run_opening.specs.declared.image.Load.{Load}
use Rattle.run_opening.specs.declared.image.Need.{Need}
use Rattle.run_opening.specs.Openings.{AreNeeded, IsNeeded}
use Rattle.tool_run.specs.Burned as burned
use Rattle.tool_run.specs.Elfs as elfs
use Rattle.tool_run.specs.Elfs.{need_of}
use Rattle.tool_run.specs.Images.{length_judged, lengths_judged, load_need, load_of, loads_of, map_image, region_need}
use Rattle.tool_run.proofs.ElfLemmas.{are_segments, file_length}
use Rattle.base_lemmas.proofs.BaseLemmas.{or_true, true_or}

itself : (a n size : ℕ) → n ≤ size → has_access a size a n ≡ true
itself a n size e = grind (arith, nat_tests)

first_has : (needs : List Need) (n : Need) (l : Load) → n.base ≡ l.base → length l.bytes ≤ n.size → IsNeeded (n ∷ needs) l
first_has needs n l base size = record {
  within = λ some. true_or (has_access n.base n.size l.base (length l.bytes)) _ (subst (λ (a : ℕ). has_access a n.size l.base (length l.bytes) ≡ true) (sym base) (itself l.base (length l.bytes) n.size size));
}

one_more : (needs : List Need) (n : Need) (l : Load) → IsNeeded needs l → IsNeeded (n ∷ needs) l
one_more needs n l h = record { within = λ some. or_true (has_access n.base n.size l.base (length l.bytes)) _ (h.within some) }

all_more : (needs : List Need) (n : Need) (loads : List Load) → AllByRecursion (IsNeeded needs) loads → AllByRecursion (IsNeeded (n ∷ needs)) loads
all_more needs n [] h = tt
all_more needs n (l ∷ ls) h = (one_more needs n l h.0, all_more needs n ls h.1)

pub judged_one : (l : MapLoad) (b : List ℕ) (others : Result Unit Refusal) → (length_judged l b >>= λ right. others) ≡ Ok tt → (length b ≡ l.size) × (others ≡ Ok tt)
judged_one l b others h = split (eqb_tells (length b) l.size)
  where
    split : (((length b == l.size) ≡ true) × (length b ≡ l.size)) ⊎ (((length b == l.size) ≡ false) × (length b ≢ l.size)) → (length b ≡ l.size) × (others ≡ Ok tt)
    split (inl (e, same)) = (same, rw e at h)
    split (inr (e, other)) = absurd (let bad : ◌≡◌ {A = Result Unit Refusal} (Err (BadImage l.file (length b) kind.Length)) (Ok tt) = (rw e at h) in cc)

loads_needed : (lines : List MapLoad) (contents : List (List ℕ)) (others : List Need) → lengths_judged lines contents ≡ Ok tt
    → AllByRecursion (IsNeeded (map load_need lines ++ others)) (loads_of lines contents)
loads_needed [] contents others h = tt
loads_needed (l ∷ ls) [] others h = tt
loads_needed (l ∷ ls) (b ∷ bs) others h =
    let one = judged_one l b (lengths_judged ls bs) h in (
      first_has (map load_need ls ++ others) (load_need l) (load_of (l, b)) refl (omega (arith, one.0)),
      all_more (map load_need ls ++ others) (load_need l) (loads_of ls bs) (loads_needed ls bs others one.1),
    )

pub map_needed : (m : MapFile) (contents : List (List ℕ)) (i : Image) (u : Unit {0}) → i ≡ map_image m contents → lengths_judged m.loads contents ≡ Ok u → AreNeeded i
map_needed m contents i u is h = subst AreNeeded (sym is) (loads_needed m.loads contents (map region_need m.regions) h)

-- ---- an ELF executable

segments_needed : (b : List ℕ) (ss : List Segment) → AllByRecursion (IsSegment (length b)) ss → AllByRecursion (IsNeeded (map need_of ss)) (map (elfs.load_of b) ss)
segments_needed b [] h = tt
segments_needed b (s ∷ ss) h = (
  first_has (map need_of ss) (need_of s) (elfs.load_of b s) refl (let held = h.0.held in omega (arith, file_length b s h.0)),
  all_more (map need_of ss) (need_of s) (map (elfs.load_of b) ss) (segments_needed b ss h.1),
)

pub elf_needed : (b : List ℕ) (e : Elf) (loads : List Load) (needs : List Need) → ReadsElf b e → loads ≡ map (elfs.load_of b) e.segments → needs ≡ map need_of e.segments
    → AllByRecursion (IsNeeded needs) loads
elf_needed b e loads needs h loads_are needs_are = rw (loads_are, needs_are) (segments_needed b e.segments (are_segments b e h))

-- ---- a text of records

each_needed : (ps : List Piece) → AllByRecursion (IsNeeded (map burned.need_of ps)) (map burned.load_of ps)
each_needed [] = tt
each_needed (p ∷ ps) = (
  first_has (map burned.need_of ps) (burned.need_of p) (burned.load_of p) refl (omega arith),
  all_more (map burned.need_of ps) (burned.need_of p) (map burned.load_of ps) (each_needed ps),
)

pub pieces_needed : (ps : List Piece) (loads : List Load) (needs : List Need) → loads ≡ map burned.load_of ps → needs ≡ map burned.need_of ps
    → AllByRecursion (IsNeeded needs) loads
pieces_needed ps loads needs loads_are needs_are = rw (loads_are, needs_are) (each_needed ps)
