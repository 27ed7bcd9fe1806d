-- What is spelled is read: the whole object.
use Rattle.std.proofs.Common.{◌≡◌, ℕ, zero, suc, ◌+◌, ◌*◌, ◌^◌, ◌≤◌, ◌<◌, true, List, [], ◌∷◌, ◌++◌, length, Option, Some, None, refl, sym, ap, subst, ◌∙◌, append-nil, arith, slice_get}
use Rattle.std.specs.Prelude.{IsSomeAnd}
use Rattle.std.specs.Option.{option_map}
use Rattle.std.specs.List.{flat_map, AllByRecursion}
use Rattle.std.proofs.lemmas.List.{length-append}
use Rattle.std.proofs.lemmas.Option.{slice_get-map}
use Rattle.sdt_word.specs.Bytes.{word_in}
use Rattle.sdt_word.proofs.BytesLemmas.{number_of-bytes_of}
use Rattle.chunk_file.specs.declared.records.Chunk.{Chunk}
use Rattle.chunk_file.specs.declared.records.Span.{Span}
use Rattle.chunk_file.specs.Reading.{EachStands}
use Rattle.chunk_file.specs.Chunks.{bytes_at, spans_from}
use Rattle.chunk_file.specs.Grammar.{ReadsTable, AreChunks}
use Rattle.chunk_file.proofs.Spelling.{spelled_table, spelled_chunks}
use Rattle.aof_object.specs.declared.areas.AreaHead.{AreaHead}
use Rattle.aof_object.specs.declared.parts.Parts.{Parts}
use Rattle.aof_object.specs.declared.records.Area.{Area}
use Rattle.aof_object.specs.declared.records.Entry.{Entry}
use Rattle.aof_object.specs.declared.records.Object.{Object}
use Rattle.aof_object.specs.declared.records.Symbol.{Symbol}
use Rattle.aof_object.specs.Names.{among, Lacks, number_from}
use Rattle.aof_object.specs.Objects.{total}
use Rattle.aof_object.specs.Spelling.{area_names, symbol_names, names_of, ended, strings_of, place, area_row, content_of, area_place, area_word, symbol_row, head_row, head_bytes, symbol_bytes, chunks_of, spelled}
use Rattle.aof_object.specs.Validity.{head_of, heads, IsArea, Lives, IsEntered, IsValid}
use Rattle.aof_object.specs.Grammar.{HasParts, SaysHead, SaysHome, SaysSymbol, SaysObject, ReadsObject, Fits}
use Rattle.aof_object.proofs.Lists.{weaker, all_of, all_and, to_map}
use Rattle.aof_object.proofs.SpelledNames.{gathered-has, all_among, among-in-front, all_mapped, Placed, placed, numbered_from, rows_stand, length-rows}
use Rattle.aof_object.proofs.SpelledRows.{AreaReady, area_says, area_long, SymbolReady, symbol_says, symbol_long, BodyReady, length-contents, bodies_say, head_long, EntryReady, entry_says}

-- ---- items by their number

pub all_get : {A : Type 0} (P : A → Type 0) (xs : List A) (k : ℕ) (x : A) → AllByRecursion P xs → slice_get xs k ≡ Some x → P x
all_get P [] k x h e = absurd cc
all_get P (y ∷ xs) zero x h e = let same : y ≡ x = cc in subst P same h.0
all_get P (y ∷ xs) (suc k) x h e = all_get P xs k x h.1 e

get_below : {A : Type 0} (xs : List A) (k : ℕ) (x : A) → slice_get xs k ≡ Some x → k < length xs
get_below [] k x e = absurd cc
get_below (y ∷ xs) zero x e = omega arith
get_below (y ∷ xs) (suc k) x e = let r = get_below xs k x e in omega (arith, r)

some_area : (o : Option Area) (P : AreaHead → Type 0) → IsSomeAnd (option_map head_of o) P → (a : Area) × (o ≡ Some a) × P (head_of a)
some_area None P h = absurd h
some_area (Some a) P h = (a, refl, h)

area_of : (areas : List Area) (k : ℕ) (P : AreaHead → Type 0) → IsSomeAnd (slice_get (heads areas) k) P → (a : Area) × (slice_get areas k ≡ Some a) × P (head_of a)
area_of areas k P h = some_area (slice_get areas k) P (subst (λ (o : Option AreaHead). IsSomeAnd o P) (slice_get-map head_of areas k) h)

few_relocs : (areas : List Area) (limit : ℕ) → total (heads areas) < limit → AllByRecursion (λ a. length a.relocs < limit) areas
few_relocs [] limit h = tt
few_relocs (a ∷ areas) limit h = (omega (arith, h), few_relocs areas limit (omega (arith, h)))

-- ---- the parts of a spelling

module _ (o : Object) (v : IsValid o) (f : Fits o) (head_fits : length (head_bytes o) < 2 ^ 32) (content_fits : length (flat_map content_of o.areas) < 2 ^ 32) (table_fits : length (symbol_bytes o) < 2 ^ 32)
    (strings_fit : length (strings_of (names_of o)) < 2 ^ 32) where
  bodies : AllByRecursion BodyReady o.areas
  bodies = all_and _ _ BodyReady (λ a h w. record { bytes = h.bytes; relocs = w.relocs }) o.areas v.contents f.areas

  area_place_of : AllByRecursion (λ a. Placed (names_of o) a.name) o.areas
  area_place_of =
      let has : AllByRecursion (λ a. among a.name (area_names o.areas) ≡ true) o.areas = all_mapped (λ (a : Area). a.name) (λ q. among q (area_names o.areas) ≡ true) o.areas (all_among [] (area_names o.areas)) in
      all_and _ _ (λ a. Placed (names_of o) a.name)
      (λ a m h. placed (names_of o) a.name (gathered-has a.name [] (area_names o.areas ++ symbol_names o.symbols) (among-in-front a.name (area_names o.areas) (symbol_names o.symbols) m)) h.name) o.areas has v.contents

  symbol_place_of : AllByRecursion (λ s. Placed (names_of o) s.name) o.symbols
  symbol_place_of =
      let has : AllByRecursion (λ s. among s.name (area_names o.areas ++ symbol_names o.symbols) ≡ true) o.symbols =
      all_mapped (λ (s : Symbol). s.name) (λ q. among q (area_names o.areas ++ symbol_names o.symbols) ≡ true) o.symbols (all_among (area_names o.areas) (symbol_names o.symbols)) in
      all_and _ _ (λ s. Placed (names_of o) s.name) (λ s m t. placed (names_of o) s.name (gathered-has s.name [] (area_names o.areas ++ symbol_names o.symbols) m) t) o.symbols has v.symbol_names

  sizes : AllByRecursion (λ a. a.size ≤ 2 ^ 24) o.areas
  sizes = all_of (λ b a. IsArea (area_names b) (head_of a)) (λ a. a.size ≤ 2 ^ 24) (λ b a h. h.size_most) [] o.areas v.areas

  reach : length (flat_map content_of o.areas) ≡ total (heads o.areas)
  reach = length-contents o.areas bodies

  areas_ready : AllByRecursion (AreaReady (names_of o)) o.areas
  areas_ready =
      let few = few_relocs o.areas (2 ^ 32) (omega (arith, reach, content_fits)) in
      let sized = all_and _ _ (λ a. (a.size ≤ 2 ^ 24) × (length a.relocs < 2 ^ 32)) (λ a s k. (s, k)) o.areas sizes few in
      let fit = all_and _ _ (λ a. (a.attributes < 2 ^ 32) × ((a.size ≤ 2 ^ 24) × (length a.relocs < 2 ^ 32))) (λ a w k. (w.attributes, k)) o.areas f.areas sized in
      all_and _ _ (AreaReady (names_of o)) (λ a p k. ready a p k) o.areas area_place_of fit
    where
      ready : (a : Area) → Placed (names_of o) a.name → (a.attributes < 2 ^ 32) × ((a.size ≤ 2 ^ 24) × (length a.relocs < 2 ^ 32)) → AreaReady (names_of o) a
      ready a p k = let b = p.below in let s = k.1.0 in record { name = p; at = omega (arith, b, strings_fit); attributes = k.0; size = omega (arith, s); few = k.1.1 }

  names_differ : EachStands (λ b n. Lacks b n) [] (area_names o.areas)
  names_differ = to_map (λ (a : Area). a.name) (λ b n. Lacks b n) [] o.areas (weaker (λ b a. IsArea (area_names b) (head_of a)) (λ b a. Lacks (area_names b) a.name) (λ b a h. h.fresh) [] o.areas v.areas)

  home_of : (attributes value : ℕ) (area : Option ℕ) → Lives (heads o.areas) attributes value area → SaysHome (strings_of (names_of o)) (area_names o.areas) (area_word (names_of o) o.areas area) area × (area_word (names_of o) o.areas area < 2 ^ 32)
  home_of attributes value None h = (refl, omega arith)
  home_of attributes value (Some k) h =
      let x = area_of o.areas k _ h in
      let a = x.0 in
      let p : Placed (names_of o) a.name = all_get (λ y. Placed (names_of o) y.name) o.areas k a area_place_of x.1 in
      let word : area_word (names_of o) o.areas (Some k) ≡ place (names_of o) a.name = ap (area_place (names_of o)) x.1 in
      let there : slice_get (area_names o.areas) k ≡ Some a.name = slice_get-map (λ (y : Area). y.name) o.areas k ∙ ap (λ (y : Option Area). option_map (λ (z : Area). z.name) y) x.1 in
      let num : number_from 0 a.name (area_names o.areas) ≡ Some (0 + k) = numbered_from 0 [] (area_names o.areas) k a.name names_differ there in
      let zero_k : 0 + k ≡ k = omega arith in
      let b = p.below in
      rw word ((a.name, p.stands, num ∙ ap (λ (m : ℕ). Some m) zero_k), omega (arith, b, strings_fit))

  symbols_ready : AllByRecursion (SymbolReady (names_of o) (area_names o.areas) o.areas) o.symbols
  symbols_ready =
      let lives : AllByRecursion (λ s. Lives (heads o.areas) s.attributes s.value s.area) o.symbols = all_of _ (λ s. Lives (heads o.areas) s.attributes s.value s.area) (λ b s h. h.lives) [] o.symbols v.symbols in
      let fit = all_and _ _ (λ s. ((s.attributes < 2 ^ 32) × (s.value < 2 ^ 32)) × Lives (heads o.areas) s.attributes s.value s.area) (λ s w l. (w, l)) o.symbols f.symbols lives in
      all_and _ _ (SymbolReady (names_of o) (area_names o.areas) o.areas) (λ s p k. ready s p k) o.symbols symbol_place_of fit
    where
      ready : (s : Symbol) → Placed (names_of o) s.name → ((s.attributes < 2 ^ 32) × (s.value < 2 ^ 32)) × Lives (heads o.areas) s.attributes s.value s.area → SymbolReady (names_of o) (area_names o.areas) o.areas s
      ready s p k =
          let h = home_of s.attributes s.value s.area k.1 in
          let b = p.below in
          record { name = p; at = omega (arith, b, strings_fit); attributes = k.0.0; value = k.0.1; home = h.0; home_at = h.1 }

  area_count : length o.areas < 2 ^ 32
  area_count =
      let rows = length-rows (area_row (names_of o)) 20 (area_long (names_of o)) o.areas in
      omega (arith, length-append (head_row o) (flat_map (area_row (names_of o)) o.areas), rows, head_fits)

  symbol_count : length o.symbols < 2 ^ 32
  symbol_count = let rows = length-rows (symbol_row (names_of o) o.areas) 16 (symbol_long (names_of o) o.areas) o.symbols in omega (arith, rows, table_fits)

  entered : (e : Option Entry) → IsEntered (heads o.areas) e → EntryReady e
  entered None h = tt
  entered (Some e) h =
      let x = area_of o.areas e.area _ h in
      let below = get_below o.areas e.area x.0 x.1 in
      let size : x.0.size ≤ 2 ^ 24 = all_get (λ y. y.size ≤ 2 ^ 24) o.areas e.area x.0 sizes x.1 in
      let off = x.2.0 in
      let rows = length-rows (area_row (names_of o)) 20 (area_long (names_of o)) o.areas in
      (omega (arith, below, length-append (head_row o) (flat_map (area_row (names_of o)) o.areas), rows, head_fits), omega (arith, off, size))

  says_object : SaysObject (head_bytes o) (flat_map content_of o.areas) (strings_of (names_of o)) (symbol_bytes o) o
  says_object =
      let ns = names_of o in
      let rows : List ℕ = flat_map (area_row ns) o.areas in
      let long_rows = length-rows (area_row ns) 20 (area_long ns) o.areas in
      let own : length (head_row o) ≡ 24 = head_long (length o.areas) (length o.symbols) o.entry in
      let long : length (head_bytes o) ≡ 24 + 20 * length o.areas = omega (arith, length-append (head_row o) rows, own, long_rows) in
      let areas_word : word_in (head_bytes o) 8 ≡ length o.areas = number_of-bytes_of (length o.areas) 4 area_count in
      let symbols_word : word_in (head_bytes o) 12 ≡ length o.symbols = number_of-bytes_of (length o.symbols) 4 symbol_count in
      let names : List ℕ = flat_map ended ns in
      let strings_word : word_in (strings_of ns) 0 ≡ 4 + length names = number_of-bytes_of (4 + length names) 4 (omega (arith, strings_fit)) in
      let table_rows = length-rows (symbol_row ns o.areas) 16 (symbol_long ns o.areas) o.symbols in
      let area_rows = rows_stand (head_bytes o) (area_row ns) 20 (λ n. 24 + 20 * n) (λ n. omega arith) (λ row a. SaysHead (strings_of ns) row (head_of a)) (AreaReady ns) (area_long ns) (area_says ns)
      [] o.areas (head_row o) [] areas_ready (ap (λ (x : List ℕ). head_row o ++ x) (sym (append-nil rows))) own in
      let symbol_rows = rows_stand (symbol_bytes o) (symbol_row ns o.areas) 16 (λ n. 16 * n) (λ n. omega arith) (SaysSymbol (strings_of ns) (area_names o.areas)) (SymbolReady ns (area_names o.areas) o.areas)
      (symbol_long ns o.areas) (symbol_says ns (area_names o.areas) o.areas) [] o.symbols [] [] symbols_ready (sym (append-nil (symbol_bytes o))) refl in
      record {
        long = omega (arith, long);
        long_for_areas = omega (arith, long, areas_word);
        magic = refl;
        version = refl;
        strings_long = omega arith;
        strings_length = strings_word ∙ omega arith;
        area_count = sym areas_word;
        area_rows = area_rows;
        area_bytes = sym reach;
        areas = bodies_say (flat_map content_of o.areas) [] o.areas [] bodies refl refl;
        symbol_bytes = omega (arith, table_rows, symbols_word);
        symbol_count = sym symbols_word;
        symbol_rows = symbol_rows;
        entry = entry_says (length o.areas) (length o.symbols) o.entry rows (entered o.entry v.entry);
        valid = v;
      }

-- ---- the file

nth : ℕ → List (Option Chunk) → List ℕ
nth k [] = []
nth zero (None ∷ es) = []
nth zero (Some c ∷ es) = c.bytes
nth (suc k) (e ∷ es) = nth k es

span_at : ℕ → List (Option Span) → Span
span_at k [] = record { name = []; offset = 0; size = 0 }
span_at zero (None ∷ es) = record { name = []; offset = 0; size = 0 }
span_at zero (Some s ∷ es) = s
span_at (suc k) (e ∷ es) = span_at k es

pub spelling_law : (o : Object) → IsValid o → Fits o → length (spelled o) < 2 ^ 32 → ReadsObject (spelled o) o
unfolding nth span_at
spelling_law o v f small =
    let file : List ℕ = spelled o in
    let c = chunks_of o in
    let named : AreChunks c = (refl, (refl, (refl, (refl, (refl, tt))))) in
    let spans : List (Option Span) = spans_from 92 c.list in
    let table : ReadsTable file spans = spelled_table c named small in
    let bytes = spelled_chunks c named in
    let e = table.each_entry in
    let p : Parts = record { head = span_at 0 spans; areas = span_at 1 spans; strings = span_at 4 spans; symbols = span_at 3 spans } in
    let head : bytes_at file p.head ≡ head_bytes o = ap (nth 0) bytes in
    let content : bytes_at file p.areas ≡ flat_map content_of o.areas = ap (nth 1) bytes in
    let symbols : bytes_at file p.symbols ≡ symbol_bytes o = ap (nth 3) bytes in
    let strings : bytes_at file p.strings ≡ strings_of (names_of o) = ap (nth 4) bytes in
    let w0 : p.head.offset + length (head_bytes o) ≤ length file = e.0.within in
    let w1 : p.areas.offset + length (flat_map content_of o.areas) ≤ length file = e.1.0.within in
    let w3 : p.symbols.offset + length (symbol_bytes o) ≤ length file = e.1.1.1.0.within in
    let w4 : p.strings.offset + length (strings_of (names_of o)) ≤ length file = e.1.1.1.1.0.within in
    let says = says_object o v f (omega (arith, w0, small)) (omega (arith, w1, small)) (omega (arith, w3, small)) (omega (arith, w4, small)) in
    let has : HasParts file spans p = record { head = refl; areas = refl; strings = refl; symbols = refl } in
    (spans, p, table, has, rw (head, content, symbols, strings) says)
