-- ELF executables with symbols: their size, how many sections there are, and that a debugger finds the tables.
use Rattle.std.proofs.Common.{◌≡◌, ℕ, zero, suc, ◌+◌, ◌*◌, ◌-◌, ◌^◌, ◌<◌, ◌≤◌, ◌==◌, Bool, true, false, cond, List, [], ◌∷◌, ◌++◌, length, map, refl, sym, ap, ◌∙◌, subst, arith}
use Rattle.std.specs.Prelude.{replicate}
use Rattle.std.specs.List.{flat_map}
use Rattle.std.proofs.lemmas.List.{length-append, length-map}
use Rattle.sdt_word.specs.Numbers.{flag}
use Rattle.boot_code.specs.Boots.{ByteMap, Boots}
use Rattle.boot_code.specs.Maps.{bytes_of_words, map_of}
use Rattle.place_model.specs.declared.scatter.Kind.{Kind}
use Rattle.place_model.specs.declared.scatter.ScatterLoad.{ScatterLoad}
use Rattle.place_model.specs.declared.scatter.ScatterRegion.{ScatterRegion}
use Rattle.place_model.specs.Assignment.{described_regions, description}
use Rattle.place_model.specs.Plans.{Contents, Planned, end_of, length_of, loads_from, plan_of, planned, planned_from, table_words}
use Rattle.link_model.specs.declared.images.Image.{Image}
use Rattle.link_model.specs.declared.placing.Placement.{Placement}
use Rattle.link_model.specs.declared.placing.Region.{Region}
use Rattle.link_model.specs.declared.selection.Linked.{Linked}
use Rattle.link_place.specs.Placed.{placed_region, placed_regions, placement_of}
use Rattle.elf_image.specs.declared.tables.ElfSymbol.{ElfSymbol}
use Rattle.elf_image.specs.declared.tables.Section.{Section}
use Rattle.elf_image.specs.declared.tables.Tables.{Tables}
use Rattle.elf_image.specs.Files.{elf_record, file_size, first_offset, headers_bytes, loads_bytes, IsElf}
use Rattle.elf_image.specs.Symbols.{CanName}
use Rattle.elf_image.specs.Tables.{end_from, named_file, named_header, named_of, named_size, names_of, padding_of, section_headers, section_strings_header, section_table, strings_of, symbol_strings_header, symbol_table, symbols_words, symtab_header, table_headers, tables_at, tables_bytes}
use Rattle.elf_image.proofs.NamedLemmas.{front_length, loads as loads_are, reads as reads_back}
use Rattle.elf_image.proofs.SectionLemmas.{sections_law}
use Rattle.elf_image.proofs.SymbolLemmas.{sections_length, symbols_law}
use Rattle.elf_image.proofs.WrittenLemmas.{words_length}
use Rattle.link_symbols.specs.Laws.{Fits}
use Rattle.link_symbols.specs.Sections.{bytes_section, bytes_sections, region_sections, sections_from, zeros_section, zeros_sections}
use Rattle.link_symbols.specs.Symbols.{tables_in}
use Rattle.link_symbols.proofs.TableLemmas.{fits_law}
use Rattle.sdt_toolkit.specs.Containers.{IsNamedFile}
use Rattle.sdt_toolkit.specs.Starting.{segments_of, written_in}

-- ---- the size

replicated : (n : ℕ) → length {A = ℕ} (replicate n 0) ≡ n
replicated zero = refl
replicated (suc n) = ap suc (replicated n)

symbols_length : (name : ℕ) (ss : List ElfSymbol) → length (symbols_words name ss) ≡ 4 * length ss
symbols_length name [] = refl
symbols_length name (s ∷ ss) = let rest = symbols_length (name + (length (s.name ++ 0 ∷ []))) ss in omega (arith, rest)

headers_size : (sections : List Section) → length (bytes_of_words (section_headers sections)) ≡ 40 * (length sections + 1)
unfolding section_headers
headers_size sections =
    let a = words_length (section_headers sections) in
    let b = sections_length 27 sections in
    omega (arith, a, b)

symbols_size : (symbols : List ElfSymbol) → length (bytes_of_words (symbol_table symbols)) ≡ 16 * (length symbols + 1)
unfolding symbol_table
symbols_size symbols =
    let a = words_length (symbol_table symbols) in
    let b = symbols_length 1 symbols in
    omega (arith, a, b)

table_headers_size : (at : ℕ) (t : Tables) → length (table_headers at t) ≡ 120
unfolding table_headers symtab_header symbol_strings_header section_strings_header
table_headers_size at t = refl

tables_size : (at : ℕ) (t : Tables) → at + length (tables_bytes at t) ≡ end_from at t
unfolding tables_bytes section_table
tables_size at t =
    let h = bytes_of_words (section_headers t.sections) in
    let s = bytes_of_words (symbol_table t.symbols) in
    let a = length-append (h ++ table_headers at t) (s ++ (strings_of t.symbols ++ names_of t.sections)) in
    let b = length-append h (table_headers at t) in
    let c = length-append s (strings_of t.symbols ++ names_of t.sections) in
    let d = length-append (strings_of t.symbols) (names_of t.sections) in
    let e = headers_size t.sections in
    let f = symbols_size t.symbols in
    let g = table_headers_size at t in
    omega (arith, a, b, c, d, e, f, g)

pub named_length : (i : Image) (t : Tables) → length (named_file i t) ≡ named_size i.loads t
unfolding named_of
named_length i t =
    let head = bytes_of_words (named_header i.start (length i.loads) (tables_at i.loads) (length t.sections)) in
    let h = headers_bytes (first_offset (length i.loads)) i.loads in
    let l = loads_bytes i.loads in
    let p = padding_of i.loads in
    let tables = tables_bytes (tables_at i.loads) t in
    let a : first_offset (length i.loads) ≡ length (head ++ h) = front_length i t in
    let b = length-append head h in
    let c = length-append head (h ++ (l ++ (p ++ tables))) in
    let d = length-append h (l ++ (p ++ tables)) in
    let e = length-append l (p ++ tables) in
    let f = length-append p tables in
    let g : length p ≡ tables_at i.loads - file_size i.loads = replicated (tables_at i.loads - file_size i.loads) in
    let k = tables_size (tables_at i.loads) t in
    omega (arith, a, b, c, d, e, f, g, k)

-- it is longer than without
pub plain_shorter : (i : Image) (t : Tables) → file_size i.loads ≤ named_size i.loads t
plain_shorter i t = omega arith

-- ---- how many sections there are

at_most_one : (b : Bool) (s : Section) → length (cond b [] (s ∷ [])) ≤ 1
at_most_one true s = omega arith
at_most_one false s = omega arith

two_each : (offset : ℕ) (r : Region) → length (region_sections offset r) ≤ 2
two_each offset r =
    let a = length-append (bytes_sections offset r) (zeros_sections offset r) in
    let b : length (bytes_sections offset r) ≤ 1 = at_most_one (r.length == 0) (bytes_section offset r) in
    let c : length (zeros_sections offset r) ≤ 1 = at_most_one (r.zero == 0) (zeros_section offset r) in
    omega (arith, a, b, c)

two_of_all : (offset : ℕ) (rs : List Region) → length (sections_from offset rs) ≤ 2 * length rs
two_of_all offset [] = omega arith
two_of_all offset (r ∷ rs) =
    let a = length-append (region_sections offset r) (sections_from (offset + r.length) rs) in
    let b = two_each offset r in
    let c = two_of_all (offset + r.length) rs in
    omega (arith, a, b, c)

planned_count : (k : Kind) (c : Contents) (words region : ℕ) (rs : List ScatterRegion) (before load : ℕ) → length (planned_from k c words region rs before load) ≡ length rs
planned_count k c words region [] before load = refl
planned_count k c words region (r ∷ rs) before load =
    let p = planned k c words region r before load in
    ap suc (planned_count k c words (suc region) rs (end_of p) (load + length_of p))

regions_count : (k : Kind) (c : Contents) (words number region : ℕ) (ls : List ScatterLoad)
    → length (placed_regions number (loads_from k c words region ls)) ≡ length (flat_map (λ l. l.regions) ls)
regions_count k c words number region [] = refl
regions_count k c words number region (l ∷ ls) =
    let own : List Planned = planned_from k c words region l.regions l.base l.base in
    let rest = placed_regions (suc number) (loads_from k c words (region + length l.regions) ls) in
    let a = length-append (map (placed_region number) own) rest in
    let b = length-map own (placed_region number) in
    let counts = planned_count k c words region l.regions l.base l.base in
    let d = regions_count k c words (suc number) (region + length l.regions) ls in
    let e = length-append l.regions (flat_map (λ l. l.regions) ls) in
    omega (arith, a, b, counts, d, e)

pub few_sections : (k : Kind) (c : Contents) (l : Linked) (loads : ℕ) → length (described_regions k) ≤ 64
    → length (tables_in l (placement_of (plan_of k c)) loads).sections < 0xFEFC
few_sections k c l loads few =
    let a : length (tables_in l (placement_of (plan_of k c)) loads).sections ≤ 2 * length (placement_of (plan_of k c)).regions =
    two_of_all (first_offset loads) (placement_of (plan_of k c)).regions in
    let b : length (placement_of (plan_of k c)).regions ≡ length (described_regions k) = regions_count k c (table_words k c) 0 0 (description k) in
    omega (arith, a, b, few)

-- ---- the file

module _ (i : Image) (t : Tables) (l : Linked) (p : Placement) (is : t ≡ tables_in l p (length i.loads)) (few : length t.sections < 0xFEFC)
    (sized : named_size i.loads t < 2 ^ 32) where
  fits : Fits t
  fits = subst Fits (sym is) (fits_law l p (length i.loads))

  pub can_name : CanName i t
  can_name = record { sized = sized; values = fits.values; places = fits.places few }

  pub is_named_file : (view : ByteMap) → IsElf i → Boots (map_of (segments_of i)) view (written_in i) i.start i.bound (i.entry + flag i.thumb) → IsNamedFile i t view (named_file i t)
  is_named_file view elf boots = record {
    elf = record {
      elf = elf_record i;
      reads = reads_back i t elf;
      entry = refl;
      loads = loads_are i t;
      boots = subst (λ (m : ByteMap). Boots m view (written_in i) i.start i.bound (i.entry + flag i.thumb)) (sym (loads_are i t)) boots;
    };
    sections = sections_law i t can_name few fits.sections;
    symbols = symbols_law i t can_name;
  }
