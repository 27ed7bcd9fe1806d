-- A debugger finds the symbols of a file that is written with them.
use Rattle.std.proofs.Common.{◌≡◌, ℕ, zero, suc, ◌+◌, ◌-◌, ◌*◌, ◌^◌, ◌<◌, List, [], ◌∷◌, ◌++◌, length, take, drop, replicate, get_or, refl, sym, ap, ◌∙◌, subst, append_assoc, arith}
use Rattle.std.specs.List.{AllByRecursion}
use Rattle.std.proofs.lemmas.List.{length-append}
use Rattle.std.proofs.Math.Seq.{drop-append_seam, take-append_seam}
use Rattle.sdt_word.specs.Bytes.{number_of, word_in}
use Rattle.sdt_word.proofs.BytesLemmas.{number_of-bytes_of}
use Rattle.boot_code.specs.Maps.{bytes_of_words}
use Rattle.link_model.specs.declared.images.Image.{Image}
use Rattle.elf_image.specs.declared.tables.Binding.{Binding}
use Rattle.elf_image.specs.declared.tables.Binding.TheVariants as binding
use Rattle.elf_image.specs.declared.tables.ElfSymbol.{ElfSymbol}
use Rattle.elf_image.specs.declared.tables.Section.{Section}
use Rattle.elf_image.specs.declared.tables.SymbolKind.{SymbolKind}
use Rattle.elf_image.specs.declared.tables.SymbolKind.TheVariants as symbol
use Rattle.elf_image.specs.declared.tables.Tables.{Tables}
use Rattle.elf_image.specs.Files.{file_size, first_offset, headers_bytes, loads_bytes}
use Rattle.elf_image.specs.Symbols.{CanName, HasString, HasSymbols, IsSymbol, SymbolsLaw, contents_at, linked_at, section_header, symbol_at}
use Rattle.elf_image.specs.Tables.{binding_number, end_from, kind_number, named_file, named_header, named_of, names_of, padding_of, place_number, section_headers, section_strings_header, section_table, sections_words, string_of, strings_from, strings_of, symbol_strings, symbol_strings_header, symbol_table, symbol_words, symbols_from, symbols_words, symtab_header, table_headers, tables_at, tables_bytes}
use Rattle.elf_image.proofs.NamedLemmas as named
use Rattle.elf_image.proofs.NamedLemmas.{skip}
use Rattle.elf_image.proofs.WrittenLemmas.{word_behind, word_there, words_length}

-- ---- bytes behind others

pub behind : (front rest : List ℕ) (k : ℕ) → word_in (front ++ rest) (length front + k) ≡ word_in rest k
behind front rest k = ap (λ bs. number_of (take 4 bs)) (skip front rest k)

pub string_there : (front name rest : List ℕ) → HasString (front ++ (string_of name ++ rest)) (length front) name
string_there front name rest =
    let one : length name + 1 ≡ length (string_of name) = sym (length-append name (0 ∷ [])) in
    ap (λ n. take n (drop (length front) (front ++ (string_of name ++ rest)))) one
    ∙ (ap (λ bs. take (length (string_of name)) bs) (drop-append_seam front (string_of name ++ rest)) ∙ take-append_seam (string_of name) rest)

-- ---- symbols one behind the other

strings_append : (xs ys : List ElfSymbol) → symbol_strings (xs ++ ys) ≡ symbol_strings xs ++ symbol_strings ys
strings_append [] ys = refl
strings_append (x ∷ xs) ys = ap (λ bs. string_of x.name ++ bs) (strings_append xs ys) ∙ sym (append_assoc (string_of x.name) (symbol_strings xs) (symbol_strings ys))

further : (name : ℕ) (x : ElfSymbol) (xs : List ElfSymbol) → name + length (string_of x.name) + length (symbol_strings xs) ≡ name + length (symbol_strings (x ∷ xs))
further name x xs = let e = length-append (string_of x.name) (symbol_strings xs) in omega (arith, e)

words_append : (name : ℕ) (xs ys : List ElfSymbol) → symbols_words name (xs ++ ys) ≡ symbols_words name xs ++ symbols_words (name + length (symbol_strings xs)) ys
words_append name [] ys = let e : name ≡ name + 0 = omega arith in ap (λ (o : ℕ). symbols_words o ys) e
words_append name (x ∷ xs) ys =
    ap (λ ws. symbol_words name x ++ ws) (words_append (name + length (string_of x.name)) xs ys ∙ ap (λ o. symbols_words (name + length (string_of x.name)) xs ++ symbols_words o ys) (further name x xs))

symbols_length : (name : ℕ) (xs : List ElfSymbol) → length (symbols_words name xs) ≡ 4 * length xs
symbols_length name [] = refl
symbols_length name (x ∷ xs) = let e = symbols_length (name + length (string_of x.name)) xs in omega (arith, e)

pub sections_length : (name : ℕ) (xs : List Section) → length (sections_words name xs) ≡ 10 * length xs
sections_length name [] = refl
sections_length name (x ∷ xs) = let e = sections_length (name + length (string_of x.name)) xs in omega (arith, e)

pub all_last : {A : Type 0} (P : A → Type 0) (xs : List A) (y : A) (ys : List A) → AllByRecursion P (xs ++ y ∷ ys) → P y
all_last P [] y ys h = h.0
all_last P (x ∷ xs) y ys h = all_last P xs y ys h.1

small_info : (b : Binding) (k : SymbolKind) → 16 * binding_number b + kind_number k < 2 ^ 16
small_info binding.Local symbol.Untyped = omega arith
small_info binding.Local symbol.Object = omega arith
small_info binding.Local symbol.Function = omega arith
small_info binding.Global symbol.Untyped = omega arith
small_info binding.Global symbol.Object = omega arith
small_info binding.Global symbol.Function = omega arith
small_info binding.Weak symbol.Untyped = omega arith
small_info binding.Weak symbol.Object = omega arith
small_info binding.Weak symbol.Function = omega arith

-- ---- the parts of the file

abbrev head : Image → Tables → List ℕ
head i t = bytes_of_words (named_header i.start (length i.loads) (tables_at i.loads) (length t.sections))

replicate_length : (n : ℕ) → length {A = ℕ} (replicate n 0) ≡ n
replicate_length zero = refl
replicate_length (suc n) = ap suc (replicate_length n)

module _ (i : Image) (t : Tables) (can : CanName i t) where
  pub at : ℕ
  at = tables_at i.loads

  pub front : List ℕ
  front = head i t ++ (headers_bytes (first_offset (length i.loads)) i.loads ++ (loads_bytes i.loads ++ padding_of i.loads))

  -- with the section headers, with that of the symbols, with all, with the symbols
  to_symtab : List ℕ
  to_symtab = front ++ bytes_of_words (section_headers t.sections)

  pub to_strtab : List ℕ
  to_strtab = to_symtab ++ bytes_of_words (symtab_header at t)

  unfoldable pub to_symbols : List ℕ
  to_symbols = front ++ section_table at t

  pub to_strings : List ℕ
  to_strings = to_symbols ++ bytes_of_words (symbol_table t.symbols)

  pub behind_headers : List ℕ
  behind_headers = bytes_of_words (symbol_table t.symbols) ++ (strings_of t.symbols ++ names_of t.sections)

  unfoldable pub behind_strtab : List ℕ
  behind_strtab = bytes_of_words (section_strings_header at t) ++ behind_headers

  file : named_file i t ≡ front ++ tables_bytes at t
  unfolding at front named_of
  file =
      let h = headers_bytes (first_offset (length i.loads)) i.loads in
      let l = loads_bytes i.loads in
      let p = padding_of i.loads in
      let tables = tables_bytes (tables_at i.loads) t in
      ap (λ bs. head i t ++ bs) (ap (λ bs. h ++ bs) (sym (append_assoc l p tables)) ∙ sym (append_assoc h (l ++ p) tables))
      ∙ sym (append_assoc (head i t) (h ++ (l ++ p)) tables)

  pub by_symbols : named_file i t ≡ to_symbols ++ behind_headers
  unfolding to_symbols behind_headers tables_bytes
  by_symbols = file ∙ sym (append_assoc front (section_table at t) (bytes_of_words (symbol_table t.symbols) ++ (strings_of t.symbols ++ names_of t.sections)))

  pub by_strings : named_file i t ≡ to_strings ++ (strings_of t.symbols ++ names_of t.sections)
  unfolding to_strings behind_headers
  by_strings = by_symbols ∙ sym (append_assoc to_symbols (bytes_of_words (symbol_table t.symbols)) (strings_of t.symbols ++ names_of t.sections))

  by_symtab : named_file i t ≡ to_symtab ++ (bytes_of_words (symtab_header at t) ++ (bytes_of_words (symbol_strings_header at t) ++ behind_strtab))
  unfolding to_symtab to_symbols behind_strtab section_table table_headers
  by_symtab =
      let h = bytes_of_words (section_headers t.sections) in
      let a = bytes_of_words (symtab_header at t) in
      let b = bytes_of_words (symbol_strings_header at t) in
      let c = bytes_of_words (section_strings_header at t) in
      let inner : (h ++ (a ++ (b ++ c))) ++ behind_headers ≡ h ++ (a ++ (b ++ (c ++ behind_headers))) =
      append_assoc h (a ++ (b ++ c)) behind_headers
      ∙ ap (λ bs. h ++ bs) (append_assoc a (b ++ c) behind_headers ∙ ap (λ bs. a ++ bs) (append_assoc b c behind_headers)) in
      by_symbols
      ∙ (append_assoc front (h ++ (a ++ (b ++ c))) behind_headers
      ∙ (ap (λ bs. front ++ bs) inner ∙ sym (append_assoc front h (a ++ (b ++ (c ++ behind_headers))))))

  pub by_strtab : named_file i t ≡ to_strtab ++ (bytes_of_words (symbol_strings_header at t) ++ behind_strtab)
  unfolding to_strtab
  by_strtab = by_symtab ∙ sym (append_assoc to_symtab (bytes_of_words (symtab_header at t)) (bytes_of_words (symbol_strings_header at t) ++ behind_strtab))

  -- ---- where they begin

  pub front_length : length front ≡ at
  unfolding front at
  front_length =
      let h = headers_bytes (first_offset (length i.loads)) i.loads in
      let l = loads_bytes i.loads in
      let p = padding_of i.loads in
      let a : first_offset (length i.loads) ≡ length (head i t ++ h) = named.front_length i t in
      let b = length-append (head i t) h in
      let c = length-append (head i t) (h ++ (l ++ p)) in
      let d = length-append h (l ++ p) in
      let e = length-append l p in
      let f : length p ≡ tables_at i.loads - file_size i.loads = replicate_length (tables_at i.loads - file_size i.loads) in
      omega (arith, a, b, c, d, e, f)

  headers_length : length (bytes_of_words (section_headers t.sections)) ≡ 40 * (length t.sections + 1)
  unfolding section_headers
  headers_length =
      let a = words_length (section_headers t.sections) in
      let b = sections_length 27 t.sections in
      omega (arith, a, b)

  symtab_at : length to_symtab ≡ at + 40 * (length t.sections + 1)
  unfolding to_symtab
  symtab_at =
      let a = length-append front (bytes_of_words (section_headers t.sections)) in
      let b = front_length in
      let c = headers_length in
      omega (arith, a, b, c)

  pub strtab_at : length to_strtab ≡ at + 40 * (length t.sections + 2)
  unfolding to_strtab symtab_header
  strtab_at =
      let a = length-append to_symtab (bytes_of_words (symtab_header at t)) in
      let b = symtab_at in
      let c = words_length (symtab_header at t) in
      omega (arith, a, b, c)

  symbols_at : length to_symbols ≡ symbols_from at t
  unfolding to_symbols section_table table_headers symtab_header symbol_strings_header section_strings_header
  symbols_at =
      let a = length-append front (section_table at t) in
      let b = front_length in
      let c = length-append (bytes_of_words (section_headers t.sections)) (table_headers at t) in
      let d = headers_length in
      omega (arith, a, b, c, d)

  pub strings_at : length to_strings ≡ strings_from at t
  unfolding to_strings symbol_table
  strings_at =
      let a = length-append to_symbols (bytes_of_words (symbol_table t.symbols)) in
      let b = symbols_at in
      let c = words_length (symbol_table t.symbols) in
      let d = symbols_length 1 t.symbols in
      omega (arith, a, b, c, d)

  pub sized : end_from at t < 2 ^ 32
  unfolding at
  sized = can.sized

  -- ---- the headers of the tables

  pub offset : word_in (named_file i t) 0x20 ≡ at
  unfolding at named_of named_header
  offset = let s = can.sized in number_of-bytes_of (tables_at i.loads) 4 (omega (arith, s))

  symtab_word : (j : ℕ) → j < 10 → get_or (symtab_header at t) j 0 < 2 ^ 32
      → word_in (named_file i t) (section_header (named_file i t) (length t.sections + 1) + 4 * j) ≡ get_or (symtab_header at t) j 0
  unfolding symtab_header
  symtab_word j lt small =
      let o = offset in
      let l = symtab_at in
      let place : section_header (named_file i t) (length t.sections + 1) + 4 * j ≡ length to_symtab + 4 * j = omega (arith, o, l) in
      ap (λ (a : ℕ). word_in (named_file i t) a) place
      ∙ (ap (λ bs. word_in bs (length to_symtab + 4 * j)) by_symtab
      ∙ (behind to_symtab _ (4 * j) ∙ word_there (symtab_header at t) _ j lt small))

  strtab_word : (j : ℕ) → j < 10 → get_or (symbol_strings_header at t) j 0 < 2 ^ 32
      → word_in (named_file i t) (section_header (named_file i t) (length t.sections + 2) + 4 * j) ≡ get_or (symbol_strings_header at t) j 0
  unfolding symbol_strings_header
  strtab_word j lt small =
      let o = offset in
      let l = strtab_at in
      let place : section_header (named_file i t) (length t.sections + 2) + 4 * j ≡ length to_strtab + 4 * j = omega (arith, o, l) in
      ap (λ (a : ℕ). word_in (named_file i t) a) place
      ∙ (ap (λ bs. word_in bs (length to_strtab + 4 * j)) by_strtab
      ∙ (behind to_strtab _ (4 * j) ∙ word_there (symbol_strings_header at t) _ j lt small))

  contents : contents_at (named_file i t) (length t.sections + 1) ≡ symbols_from at t
  unfolding symtab_header
  contents = let s = sized in symtab_word 4 (omega arith) (omega (arith, s))

  linked : linked_at (named_file i t) (length t.sections + 1) ≡ length t.sections + 2
  unfolding symtab_header
  linked = let s = sized in symtab_word 6 (omega arith) (omega (arith, s))

  strings : contents_at (named_file i t) (linked_at (named_file i t) (length t.sections + 1)) ≡ strings_from at t
  unfolding symbol_strings_header
  strings =
      let s = sized in
      ap (λ (k : ℕ). contents_at (named_file i t) k) linked ∙ strtab_word 4 (omega arith) (omega (arith, s))

  -- ---- a symbol

  module _ (before : List ElfSymbol) (s : ElfSymbol) (after : List ElfSymbol) (all : t.symbols ≡ before ++ s ∷ after) where
    name_at : ℕ
    name_at = 1 + length (symbol_strings before)

    earlier : List ℕ
    earlier = 0 ∷ 0 ∷ 0 ∷ 0 ∷ symbols_words 1 before

    earlier_length : length earlier ≡ 4 * (length before + 1)
    unfolding earlier
    earlier_length = let e = symbols_length 1 before in omega (arith, e)

    split : symbol_table t.symbols ≡ earlier ++ (symbol_words name_at s ++ symbols_words (name_at + length (string_of s.name)) after)
    unfolding earlier name_at symbol_table
    split = ap (λ ss. symbol_table ss) all ∙ ap (λ ws. 0 ∷ 0 ∷ 0 ∷ 0 ∷ ws) (words_append 1 before (s ∷ after))

    word : (j : ℕ) → j < 4 → get_or (symbol_words name_at s) j 0 < 2 ^ 32
        → word_in (named_file i t) (symbol_at (named_file i t) (length t.sections + 1) (length before + 1) + 4 * j) ≡ get_or (symbol_words name_at s) j 0
    unfolding behind_headers
    word j lt small =
        let c = contents in
        let l = symbols_at in
        let e = earlier_length in
        let place : symbol_at (named_file i t) (length t.sections + 1) (length before + 1) + 4 * j ≡ length to_symbols + 4 * (length earlier + j) = omega (arith, c, l, e) in
        ap (λ (a : ℕ). word_in (named_file i t) a) place
        ∙ (ap (λ bs. word_in bs (length to_symbols + 4 * (length earlier + j))) by_symbols
        ∙ (behind to_symbols _ (4 * (length earlier + j))
        ∙ (ap (λ ws. word_in (bytes_of_words ws ++ (strings_of t.symbols ++ names_of t.sections)) (4 * (length earlier + j))) split
        ∙ word_behind earlier (symbol_words name_at s) (symbols_words (name_at + length (string_of s.name)) after) (strings_of t.symbols ++ names_of t.sections) j lt small)))

    strings_split : strings_of t.symbols ≡ (0 ∷ symbol_strings before) ++ (string_of s.name ++ symbol_strings after)
    strings_split = ap (λ ss. strings_of ss) all ∙ ap (λ bs. 0 ∷ bs) (strings_append before (s ∷ after))

    small_name : name_at < 2 ^ 32
    unfolding name_at
    small_name =
        let z = sized in
        let e = ap length strings_split in
        let f = length-append (0 ∷ symbol_strings before) (string_of s.name ++ symbol_strings after) in
        omega (arith, z, e, f)

    string : HasString (named_file i t) (strings_from at t + name_at) s.name
    unfolding name_at
    string =
        let more = symbol_strings after ++ names_of t.sections in
        let tail : strings_of t.symbols ++ names_of t.sections ≡ (0 ∷ symbol_strings before) ++ (string_of s.name ++ more) =
        ap (λ bs. bs ++ names_of t.sections) strings_split
        ∙ (append_assoc (0 ∷ symbol_strings before) (string_of s.name ++ symbol_strings after) (names_of t.sections)
        ∙ ap (λ bs. (0 ∷ symbol_strings before) ++ bs) (append_assoc (string_of s.name) (symbol_strings after) (names_of t.sections))) in
        let whole : named_file i t ≡ (to_strings ++ (0 ∷ symbol_strings before)) ++ (string_of s.name ++ more) =
        by_strings ∙ (ap (λ bs. to_strings ++ bs) tail ∙ sym (append_assoc to_strings (0 ∷ symbol_strings before) (string_of s.name ++ more))) in
        let l = strings_at in
        let m = length-append to_strings (0 ∷ symbol_strings before) in
        let place : strings_from at t + (1 + length (symbol_strings before)) ≡ length (to_strings ++ (0 ∷ symbol_strings before)) = omega (arith, l, m) in
        ap (λ (a : ℕ). take (length s.name + 1) (drop a (named_file i t))) place
        ∙ (ap (λ bs. take (length s.name + 1) (drop (length (to_strings ++ (0 ∷ symbol_strings before))) bs)) whole
        ∙ string_there (to_strings ++ (0 ∷ symbol_strings before)) s.name more)

    value_small : s.value < 2 ^ 32
    value_small = all_last (λ q. q.value < 2 ^ 32) before s after (subst (λ qs. AllByRecursion (λ q. q.value < 2 ^ 32) qs) all can.values)

    place_small : place_number s.place < 2 ^ 16
    place_small = all_last (λ q. place_number q.place < 2 ^ 16) before s after (subst (λ qs. AllByRecursion (λ q. place_number q.place < 2 ^ 16) qs) all can.places)

    first : word_in (named_file i t) (symbol_at (named_file i t) (length t.sections + 1) (length before + 1)) ≡ name_at
    first =
        let none : symbol_at (named_file i t) (length t.sections + 1) (length before + 1) ≡ symbol_at (named_file i t) (length t.sections + 1) (length before + 1) + 4 * 0 = omega arith in
        ap (λ (a : ℕ). word_in (named_file i t) a) none ∙ word 0 (omega arith) small_name

    is_symbol : IsSymbol (named_file i t) (length t.sections + 1) (length before + 1) s
    is_symbol =
        let p = small_info s.binding s.kind in
        let q = place_small in
        record {
          name = subst (λ (a : ℕ). HasString (named_file i t) a s.name) (sym (ap (λ (a : ℕ). a + word_in (named_file i t) (symbol_at (named_file i t) (length t.sections + 1) (length before + 1))) strings ∙ ap (λ (a : ℕ). strings_from at t + a) first)) string;
          value = word 1 (omega arith) value_small;
          rest = word 3 (omega arith) (omega (arith, p, q));
        }

  has_symbols : HasSymbols (named_file i t) (length t.sections + 1) t.symbols
  unfolding symtab_header
  has_symbols =
      let s = sized in
      record {
        kind = symtab_word 1 (omega arith) (omega arith);
        size = symtab_word 5 (omega arith) (omega (arith, s));
        each = is_symbol;
      }

pub symbols_law : SymbolsLaw
symbols_law = has_symbols
