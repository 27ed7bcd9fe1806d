-- What is spelled is read: each row, the areas behind one another, and the entry.
use Rattle.std.proofs.Common.{◌≡◌, ℕ, ◌+◌, ◌*◌, ◌^◌, ◌<◌, List, [], ◌∷◌, ◌++◌, length, take, drop, Option, Some, None, refl, sym, ap, subst, ◌∙◌, append_assoc, arith}
use Rattle.std.specs.List.{flat_map, AllByRecursion}
use Rattle.std.proofs.lemmas.List.{length-append, drop_at, take_at, length-map, map-append}
use Rattle.sdt_word.specs.Bytes.{bytes_of, word_in}
use Rattle.sdt_word.proofs.BytesLemmas.{number_of-bytes_of}
use Rattle.chunk_file.specs.Reading.{EachStands}
use Rattle.aof_object.specs.declared.records.Area.{Area}
use Rattle.aof_object.specs.declared.records.Entry.{Entry}
use Rattle.aof_object.specs.declared.records.Reloc.{Reloc}
use Rattle.aof_object.specs.declared.records.Symbol.{Symbol}
use Rattle.aof_object.specs.Names.{IsNameAt}
use Rattle.aof_object.specs.Objects.{stored, extent, total}
use Rattle.aof_object.specs.Spelling.{strings_of, place, area_row, entry_row, reloc_row, content_of, area_word, symbol_row}
use Rattle.aof_object.specs.Validity.{head_of, heads}
use Rattle.aof_object.specs.Grammar.{SaysHead, SaysReloc, SaysArea, SaysHome, SaysSymbol, SaysEntry}
use Rattle.aof_object.proofs.SpelledNames.{Placed, rows_stand, length-rows}
use Rattle.aof_object.proofs.Rows.{total-append}

-- ---- rows

pub record AreaReady (ns : List (List ℕ)) (a : Area) : Type 0 where
  pub name : Placed ns a.name
  pub at : place ns a.name < 2 ^ 32
  pub attributes : a.attributes < 2 ^ 32
  pub size : a.size < 2 ^ 32
  pub few : length a.relocs < 2 ^ 32

pub area_says : (ns : List (List ℕ)) (a : Area) (rest : List ℕ) → AreaReady ns a → SaysHead (strings_of ns) (area_row ns a ++ rest) (head_of a)
area_says ns a rest r =
    let at : word_in (area_row ns a ++ rest) 0 ≡ place ns a.name = number_of-bytes_of (place ns a.name) 4 r.at in
    record {
      name = subst (λ (k : ℕ). IsNameAt (strings_of ns) k a.name) (sym at) r.name.stands;
      attributes = sym (number_of-bytes_of a.attributes 4 r.attributes);
      size = sym (number_of-bytes_of a.size 4 r.size);
      count = sym (number_of-bytes_of (length a.relocs) 4 r.few);
      base = refl;
    }

pub area_long : (ns : List (List ℕ)) (a : Area) → length (area_row ns a) ≡ 20
area_long ns a = refl

abbrev pub RelocReady : Reloc → Type 0
RelocReady r = (r.offset < 2 ^ 32) × (r.word < 2 ^ 32)

pub reloc_says : (r : Reloc) (rest : List ℕ) → RelocReady r → SaysReloc (reloc_row r ++ rest) r
reloc_says r rest h = record { offset = sym (number_of-bytes_of r.offset 4 h.0); word = sym (number_of-bytes_of r.word 4 h.1) }

pub reloc_long : (r : Reloc) → length (reloc_row r) ≡ 8
reloc_long r = refl

pub record SymbolReady (ns : List (List ℕ)) (names : List (List ℕ)) (areas : List Area) (s : Symbol) : Type 0 where
  pub name : Placed ns s.name
  pub at : place ns s.name < 2 ^ 32
  pub attributes : s.attributes < 2 ^ 32
  pub value : s.value < 2 ^ 32
  pub home : SaysHome (strings_of ns) names (area_word ns areas s.area) s.area
  pub home_at : area_word ns areas s.area < 2 ^ 32

pub symbol_says : (ns names : List (List ℕ)) (areas : List Area) (s : Symbol) (rest : List ℕ) → SymbolReady ns names areas s → SaysSymbol (strings_of ns) names (symbol_row ns areas s ++ rest) s
symbol_says ns names areas s rest r =
    let at : word_in (symbol_row ns areas s ++ rest) 0 ≡ place ns s.name = number_of-bytes_of (place ns s.name) 4 r.at in
    let home : word_in (symbol_row ns areas s ++ rest) 12 ≡ area_word ns areas s.area = number_of-bytes_of (area_word ns areas s.area) 4 r.home_at in
    record {
      name = subst (λ (k : ℕ). IsNameAt (strings_of ns) k s.name) (sym at) r.name.stands;
      attributes = sym (number_of-bytes_of s.attributes 4 r.attributes);
      value = sym (number_of-bytes_of s.value 4 r.value);
      area = subst (λ (k : ℕ). SaysHome (strings_of ns) names k s.area) (sym home) r.home;
    }

pub symbol_long : (ns : List (List ℕ)) (areas : List Area) (s : Symbol) → length (symbol_row ns areas s) ≡ 16
symbol_long ns areas s = refl

-- ---- areas behind one another

pub place_is : (before rest : List Area) → total (take (length before) (heads (before ++ rest))) ≡ total (heads before)
place_is before rest = ap total (ap (take (length before)) (map-append head_of before rest) ∙ take_at (heads before) (heads rest) (length before) (length-map before head_of))

pub record BodyReady (a : Area) : Type 0 where
  pub bytes : length a.bytes ≡ stored a.attributes a.size
  pub relocs : AllByRecursion RelocReady a.relocs

pub length-content : (a : Area) → BodyReady a → length (content_of a) ≡ extent (head_of a)
length-content a r =
    let l = length-append a.bytes (flat_map reloc_row a.relocs) in
    let rows = length-rows reloc_row 8 reloc_long a.relocs in
    let b = r.bytes in
    omega (arith, l, rows, b)

pub length-contents : (areas : List Area) → AllByRecursion BodyReady areas → length (flat_map content_of areas) ≡ total (heads areas)
length-contents [] h = refl
length-contents (a ∷ areas) h =
    let rest = length-contents areas h.1 in
    let one = length-content a h.0 in
    let l = length-append (content_of a) (flat_map content_of areas) in
    omega (arith, rest, one, l)

pub bodies_say : (content : List ℕ) (before rest : List Area) (front : List ℕ) → AllByRecursion BodyReady rest → content ≡ front ++ flat_map content_of rest → length front ≡ total (heads before)
    → EachStands (λ b a. SaysArea content (total (take (length b) (heads (before ++ rest)))) a) before rest
bodies_say content before [] front all parts len = tt
bodies_say content before (a ∷ rest) front all parts len =
    let others : List ℕ = flat_map content_of rest in
    let relocs : List ℕ = flat_map reloc_row a.relocs in
    let at = total (take (length before) (heads (before ++ (a ∷ rest)))) in
    let here : at ≡ total (heads before) = place_is before (a ∷ rest) in
    let fits : length front ≡ at = len ∙ sym here in
    let bytes = all.0.bytes in
    let inner : content_of a ++ others ≡ a.bytes ++ (relocs ++ others) = append_assoc a.bytes relocs others in
    let there : drop at content ≡ a.bytes ++ (relocs ++ others) = ap (drop at) parts ∙ drop_at front (content_of a ++ others) at fits ∙ inner in
    let own : take (stored a.attributes a.size) (drop at content) ≡ a.bytes = ap (take (stored a.attributes a.size)) there ∙ take_at a.bytes (relocs ++ others) (stored a.attributes a.size) bytes in
    let behind : content ≡ (front ++ a.bytes) ++ (relocs ++ others) = parts ∙ ap (λ (x : List ℕ). front ++ x) inner ∙ sym (append_assoc front a.bytes (relocs ++ others)) in
    let reach : length (front ++ a.bytes) ≡ at + stored a.attributes a.size + 8 * 0 = omega (arith, length-append front a.bytes, fits, bytes) in
    let rows = rows_stand content reloc_row 8 (λ n. at + stored a.attributes a.size + 8 * n) (λ n. omega arith) SaysReloc RelocReady reloc_long reloc_says [] a.relocs (front ++ a.bytes) others all.0.relocs behind reach in
    let same : (before ++ a ∷ []) ++ rest ≡ before ++ (a ∷ rest) = append_assoc before (a ∷ []) rest in
    let sum : total (heads (before ++ a ∷ [])) ≡ total (heads before) + total (heads (a ∷ [])) = ap total (map-append head_of before (a ∷ [])) ∙ total-append (heads before) (heads (a ∷ [])) in
    let one = length-content a all.0 in
    let next : length (front ++ content_of a) ≡ total (heads (before ++ a ∷ [])) = omega (arith, length-append front (content_of a), one, sum, len) in
    let later = bodies_say content (before ++ a ∷ []) rest (front ++ content_of a) all.1 (parts ∙ sym (append_assoc front (content_of a) others)) next in (
      record { bytes = sym own; relocs = rows },
      subst (λ (xs : List Area). EachStands (λ b x. SaysArea content (total (take (length b) (heads xs))) x) (before ++ a ∷ []) rest) same later,
    )

-- ---- the entry

abbrev pub head_with : ℕ → ℕ → Option Entry → List ℕ
head_with n m e = bytes_of 0xC5E2D080 4 ++ (bytes_of 310 4 ++ (bytes_of n 4 ++ (bytes_of m 4 ++ entry_row e)))

pub head_long : (n m : ℕ) (e : Option Entry) → length (head_with n m e) ≡ 24
head_long n m None = refl
head_long n m (Some e) = refl

abbrev pub EntryReady : Option Entry → Type 0
EntryReady None = Unit {0}
EntryReady (Some e) = (e.area + 1 < 2 ^ 32) × (e.offset < 2 ^ 32)

pub entry_says : (n m : ℕ) (e : Option Entry) (rest : List ℕ) → EntryReady e → SaysEntry (word_in (head_with n m e ++ rest) 16) (word_in (head_with n m e ++ rest) 20) e
entry_says n m None rest h = refl
entry_says n m (Some e) rest h = (number_of-bytes_of (e.area + 1) 4 h.0, number_of-bytes_of e.offset 4 h.1)
