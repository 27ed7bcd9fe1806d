-- The rows of areas and of relocations, and areas in OBJ_AREA: what is read is what stands there.
use Rattle.std.proofs.Common.{◌≡◌, ℕ, ◌+◌, ◌*◌, List, [], ◌∷◌, ◌++◌, length, take, drop, Some, Result, Ok, refl, sym, ap, subst, ◌∙◌, arith, append_assoc}
use Rattle.std.specs.Prelude.{◌↔◌}
use Rattle.std.specs.List.{AllByRecursion}
use Rattle.std.proofs.lemmas.List.{length-map, length-take, length-drop, take_at, map-append}
use Rattle.sdt_word.specs.Bytes.{word_in}
use Rattle.sdt_fault.specs.declared.kinds.FileKind.TheVariants.{Name}
use Rattle.sdt_fault.specs.declared.refusal.Refusal.{Refusal}
use Rattle.sdt_fault.specs.declared.refusal.Refusal.TheVariants.{BadObject}
use Rattle.chunk_file.specs.Reading.{each, EachStands}
use Rattle.chunk_file.proofs.Loops.{bind_ok, each_law, Agrees}
use Rattle.aof_object.specs.declared.areas.AreaHead.{AreaHead}
use Rattle.aof_object.specs.declared.records.Area.{Area}
use Rattle.aof_object.specs.declared.records.Reloc.{Reloc}
use Rattle.aof_object.specs.Names.{name_at, among}
use Rattle.aof_object.specs.Checks.{area_flaw, reloc_flaw}
use Rattle.aof_object.specs.Objects.{head_names, head_at, next_head, stored, extent, total, reloc_at, next_reloc, area_at, next_area}
use Rattle.aof_object.specs.Validity.{head_of, heads, IsArea, IsReloc}
use Rattle.aof_object.specs.Grammar.{SaysHead, SaysReloc, SaysArea}
use Rattle.aof_object.proofs.NameLaw.{name_law, lacks_law}
use Rattle.aof_object.proofs.Checked.{judged_law, read_or, AreaPasses, area_law, reloc_law}
use Rattle.aof_object.proofs.Lists.{weaker, all_of, with_all, AgreesOf}
use Rattle.aof_object.proofs.Rows.{total-append}

-- ---- heads

head_takes : (strings : List ℕ) (names : List (List ℕ)) (at : ℕ) (row : List ℕ) (h : AreaHead) → head_at strings (λ q. among q names) at row ≡ Ok h → SaysHead strings row h × IsArea names h
unfolding head_at
head_takes strings names at row h e =
    let n = read_or (name_at strings (word_in row 0)) (BadObject [] at Name) _ h e in
    let made : AreaHead = record { name = n.0; attributes = word_in row 4; size = word_in row 8; count = word_in row 12 } in
    let j = (judged_law at (area_flaw (among n.0 names) (word_in row 4) (word_in row 8) (word_in row 12) (word_in row 16)) made h).0 n.2 in
    let p = (area_law (among n.0 names) (word_in row 4) (word_in row 8) (word_in row 12) (word_in row 16)).0 j.0 in
    let says : SaysHead strings row made = record { name = (name_law strings (word_in row 0) n.0).0 n.1; attributes = refl; size = refl; count = refl; base = p.no_base } in
    let is : IsArea names made = record { fresh = (lacks_law names n.0).0 p.fresh; permitted = p.permitted; alignment_least = p.least; alignment_most = p.most; whole_words = p.whole; size_most = p.small; relocs_have_bytes = p.bytes } in
    subst (λ (x : AreaHead). SaysHead strings row x × IsArea names x) j.1 (says, is)

head_again : (strings : List ℕ) (names : List (List ℕ)) (at : ℕ) (row : List ℕ) (h : AreaHead) → SaysHead strings row h → IsArea names h → head_at strings (λ q. among q names) at row ≡ Ok h
unfolding head_at
head_again strings names at row h says is =
    let n : name_at strings (word_in row 0) ≡ Some h.name = (name_law strings (word_in row 0) h.name).1 says.name in
    let p : AreaPasses (among h.name names) h.attributes h.size h.count (word_in row 16) = record { fresh = (lacks_law names h.name).1 is.fresh; permitted = is.permitted; least = is.alignment_least; most = is.alignment_most; whole = is.whole_words; small = is.size_most; bytes = is.relocs_have_bytes; no_base = says.base } in
    let clear = (area_law (among h.name names) h.attributes h.size h.count (word_in row 16)).1 p in
    rw (n, ← says.attributes, ← says.size, ← says.count, clear) refl

pub heads_agree : (strings head : List ℕ) (start : ℕ) → Agrees (next_head strings start head) (λ before h. SaysHead strings (drop (24 + 20 * length before) head) h × IsArea (head_names before) h)
heads_agree strings head start before h =
    let at = start + (24 + 20 * length before) in
    let row = drop (24 + 20 * length before) head in
    (head_takes strings (head_names before) at row h, λ s. head_again strings (head_names before) at row h s.0 s.1)

-- ---- relocations

reloc_at_law : (areas symbols place : ℕ) (row : List ℕ) (r : Reloc) → (reloc_at areas symbols place row ≡ Ok r) ↔ (SaysReloc row r × IsReloc areas symbols r)
unfolding reloc_at
reloc_at_law areas symbols place row r = (
  λ e. let made : Reloc = record { offset = word_in row 0; word = word_in row 4 } in
      let j = (judged_law place (reloc_flaw areas symbols (word_in row 4)) made r).0 e in
      let p = (reloc_law areas symbols (word_in row 4)).0 j.0 in
      let says : SaysReloc row made = record { offset = refl; word = refl } in
      let is : IsReloc areas symbols made = record { form = p.0; index = p.1 } in
      subst (λ (x : Reloc). SaysReloc row x × IsReloc areas symbols x) j.1 (says, is),
  λ s. let clear = (reloc_law areas symbols r.word).1 (s.1.form, s.1.index) in
      let w = s.0.word in
      let o = s.0.offset in
      rw (← w, ← o, clear) refl,
)

abbrev pub RelocStands : ℕ → ℕ → List ℕ → ℕ → List Reloc → Reloc → Type 0
RelocStands areas symbols content at before r = SaysReloc (drop (at + 8 * length before) content) r × IsReloc areas symbols r

pub relocs_agree : (areas symbols start : ℕ) (content : List ℕ) (at : ℕ) → Agrees (next_reloc areas symbols start content at) (RelocStands areas symbols content at)
relocs_agree areas symbols start content at before r = reloc_at_law areas symbols (start + (at + 8 * length before)) (drop (at + 8 * length before) content) r

-- ---- areas

head_is : (h : AreaHead) (n : ℕ) → n ≡ h.count → record { name = h.name; attributes = h.attributes; size = h.size; count = n } ≡ h
head_is h n e = rw e refl

abbrev pub AreaStands : ℕ → ℕ → List ℕ → ℕ → Area → Type 0
AreaStands areas symbols content at a = SaysArea content at a × AllByRecursion (IsReloc areas symbols) a.relocs

abbrev made_area : List ℕ → ℕ → AreaHead → List Reloc → Area
made_area content at h relocs = record { name = h.name; attributes = h.attributes; size = h.size; bytes = take (stored h.attributes h.size) (drop at content); relocs = relocs }

abbrev area : Area → Result Area Refusal
area a = Ok a

area_is : (a b : Area) → area a ≡ area b → a ≡ b
area_is a b e = cc

area_takes : (areas symbols start : ℕ) (content : List ℕ) (at : ℕ) (h : AreaHead) (a : Area) → area_at areas symbols start content at h ≡ Ok a → (head_of a ≡ h) × AreaStands areas symbols content at a
unfolding area_at
area_takes areas symbols start content at h a e =
    let place = at + stored h.attributes h.size in
    let b = bind_ok (each (next_reloc areas symbols start content place) h.count []) (λ relocs. Ok (made_area content at h relocs)) a e in
    let r = (each_law (next_reloc areas symbols start content place) (RelocStands areas symbols content place) (relocs_agree areas symbols start content place) h.count b.0).0 b.1 in
    let says : SaysArea content at (made_area content at h b.0) = record {
      bytes = refl;
      relocs = weaker (RelocStands areas symbols content place) (λ before x. SaysReloc (drop (place + 8 * length before) content) x) (λ before x s. s.0) [] b.0 r.1;
    } in
    let all = all_of (RelocStands areas symbols content place) (IsReloc areas symbols) (λ before x s. s.1) [] b.0 r.1 in
    subst (λ (x : Area). (head_of x ≡ h) × AreaStands areas symbols content at x) (area_is (made_area content at h b.0) a b.2) (head_is h (length b.0) r.0, (says, all))

area_again : (areas symbols start : ℕ) (content : List ℕ) (at : ℕ) (a : Area) → AreaStands areas symbols content at a → area_at areas symbols start content at (head_of a) ≡ Ok a
unfolding area_at
area_again areas symbols start content at a s =
    let place = at + stored a.attributes a.size in
    let each_one : EachStands (RelocStands areas symbols content place) [] a.relocs =
    with_all (λ before x. SaysReloc (drop (place + 8 * length before) content) x) (IsReloc areas symbols) (RelocStands areas symbols content place) (λ before x p q. (p, q)) [] a.relocs s.0.relocs s.1 in
    let read = (each_law (next_reloc areas symbols start content place) (RelocStands areas symbols content place) (relocs_agree areas symbols start content place) (length a.relocs) a.relocs).1 (refl, each_one) in
    let bytes = s.0.bytes in
    rw (read, ← bytes) refl

pub areas_agree : (hs : List AreaHead) (symbols start : ℕ) (content : List ℕ)
    → AgreesOf head_of (next_area hs symbols start content) (λ before a. AreaStands (length hs) symbols content (total (take (length before) hs)) a)
areas_agree hs symbols start content before h a =
    let at = total (take (length before) hs) in (
      area_takes (length hs) symbols start content at h a,
      λ s. subst (λ (k : AreaHead). area_at (length hs) symbols start content at k ≡ Ok a) s.0 (area_again (length hs) symbols start content at a s.1),
    )

-- each area has the bytes that its head asks for
pub bytes_long : (content : List ℕ) (before rest : List Area) → total (heads (before ++ rest)) ≡ length content
    → EachStands (λ b a. SaysArea content (total (take (length b) (heads (before ++ rest)))) a) before rest → AllByRecursion (λ a. length a.bytes ≡ stored a.attributes a.size) rest
bytes_long content before [] whole says = tt
bytes_long content before (a ∷ rest) whole says =
    let split : heads (before ++ (a ∷ rest)) ≡ heads before ++ heads (a ∷ rest) = map-append head_of before (a ∷ rest) in
    let front : take (length before) (heads (before ++ (a ∷ rest))) ≡ heads before = ap (take (length before)) split ∙ take_at (heads before) (heads (a ∷ rest)) (length before) (length-map before head_of) in
    let at : total (take (length before) (heads (before ++ (a ∷ rest)))) ≡ total (heads before) = ap total front in
    let sum : total (heads before) + (extent (head_of a) + total (heads rest)) ≡ length content = sym (total-append (heads before) (heads (a ∷ rest))) ∙ sym (ap total split) ∙ whole in
    let place = total (take (length before) (heads (before ++ (a ∷ rest)))) in
    let bytes = says.0.bytes in
    let cut = length-take (stored a.attributes a.size) (drop place content) in
    let left = length-drop place content in
    let long : length a.bytes ≡ stored a.attributes a.size = rw bytes (omega (arith, cut, left, at, sum)) in
    let same : (before ++ a ∷ []) ++ rest ≡ before ++ (a ∷ rest) = append_assoc before (a ∷ []) rest in (
      long,
      bytes_long content (before ++ a ∷ []) rest (ap (λ (xs : List Area). total (heads xs)) same ∙ whole)
          (subst (λ (xs : List Area). EachStands (λ b x. SaysArea content (total (take (length b) (heads xs))) x) (before ++ a ∷ []) rest) (sym same) says.1),
    )
