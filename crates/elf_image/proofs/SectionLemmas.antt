-- A debugger finds the sections of a file that is written with them.
use Rattle.std.proofs.Common.{◌≡◌, ℕ, ◌+◌, ◌*◌, ◌/◌, ◌%◌, ◌^◌, ◌<◌, List, [], ◌∷◌, ◌++◌, length, take, drop, get_or, refl, sym, ap, ◌∙◌, subst, append_assoc, arith}
use Rattle.std.specs.List.{AllByRecursion}
use Rattle.std.proofs.lemmas.List.{length-append}
use Rattle.sdt_word.specs.Bytes.{half_in, word_in}
use Rattle.boot_code.specs.Maps.{bytes_of_words}
use Rattle.link_model.specs.declared.images.Image.{Image}
use Rattle.elf_image.specs.declared.tables.Section.{Section}
use Rattle.elf_image.specs.declared.tables.SectionKind.{SectionKind}
use Rattle.elf_image.specs.declared.tables.SectionKind.TheVariants as section
use Rattle.elf_image.specs.declared.tables.Tables.{Tables}
use Rattle.elf_image.specs.Symbols.{AreFields, CanName, HasString, IsSection, SectionsLaw, contents_at, section_header}
use Rattle.elf_image.specs.Tables.{named_file, named_header, named_of, names_from, names_of, section_headers, section_strings, section_strings_header, section_table, section_words, sections_words, string_of, strings_of, symbol_strings_header, table_headers, table_names, type_number}
use Rattle.elf_image.proofs.SymbolLemmas as symbols
use Rattle.elf_image.proofs.SymbolLemmas.{all_last, at, behind, behind_headers, behind_strtab, by_strings, by_strtab, by_symbols, front, front_length, offset, sections_length, sized, string_there, strings_at, strtab_at, to_strings, to_strtab, to_symbols}
use Rattle.elf_image.proofs.WrittenLemmas.{word_behind, word_there, words_length}

strings_append : (xs ys : List Section) → section_strings (xs ++ ys) ≡ section_strings xs ++ section_strings ys
strings_append [] ys = refl
strings_append (x ∷ xs) ys = ap (λ bs. string_of x.name ++ bs) (strings_append xs ys) ∙ sym (append_assoc (string_of x.name) (section_strings xs) (section_strings ys))

further : (name : ℕ) (x : Section) (xs : List Section) → name + length (string_of x.name) + length (section_strings xs) ≡ name + length (section_strings (x ∷ xs))
further name x xs = let e = length-append (string_of x.name) (section_strings xs) in omega (arith, e)

words_append : (name : ℕ) (xs ys : List Section) → sections_words name (xs ++ ys) ≡ sections_words name xs ++ sections_words (name + length (section_strings xs)) ys
words_append name [] ys = let e : name ≡ name + 0 = omega arith in ap (λ (o : ℕ). sections_words o ys) e
words_append name (x ∷ xs) ys =
    ap (λ ws. section_words name x ++ ws) (words_append (name + length (string_of x.name)) xs ys ∙ ap (λ o. sections_words (name + length (string_of x.name)) xs ++ sections_words o ys) (further name x xs))

small_type : (k : SectionKind) → type_number k < 2 ^ 32
small_type section.Bytes = omega arith
small_type section.Zeros = omega arith

module _ (i : Image) (t : Tables) (can : CanName i t) where
  after_headers : List ℕ
  after_headers = table_headers (at i t can) t ++ behind_headers i t can

  by_headers : named_file i t ≡ front i t can ++ (bytes_of_words (section_headers t.sections) ++ after_headers)
  unfolding to_symbols section_table after_headers
  by_headers =
      let h = bytes_of_words (section_headers t.sections) in
      let ts = table_headers (at i t can) t in
      by_symbols i t can
      ∙ (append_assoc (front i t can) (h ++ ts) (behind_headers i t can)
      ∙ ap (λ bs. front i t can ++ bs) (append_assoc h ts (behind_headers i t can)))

  to_last : List ℕ
  to_last = to_strtab i t can ++ bytes_of_words (symbol_strings_header (at i t can) t)

  by_last : named_file i t ≡ to_last ++ (bytes_of_words (section_strings_header (at i t can) t) ++ behind_headers i t can)
  unfolding to_last behind_strtab
  by_last = by_strtab i t can ∙ sym (append_assoc (to_strtab i t can) (bytes_of_words (symbol_strings_header (at i t can) t)) (bytes_of_words (section_strings_header (at i t can) t) ++ behind_headers i t can))

  last_at : length to_last ≡ at i t can + 40 * (length t.sections + 3)
  unfolding to_last symbol_strings_header
  last_at =
      let a = length-append (to_strtab i t can) (bytes_of_words (symbol_strings_header (at i t can) t)) in
      let b = strtab_at i t can in
      let c = words_length (symbol_strings_header (at i t can) t) in
      omega (arith, a, b, c)

  last_word : word_in (named_file i t) (section_header (named_file i t) (length t.sections + 3) + 16) ≡ names_from (at i t can) t
  unfolding section_strings_header
  last_word =
      let o = offset i t can in
      let l = last_at in
      let s = sized i t can in
      let place : section_header (named_file i t) (length t.sections + 3) + 16 ≡ length to_last + 4 * 4 = omega (arith, o, l) in
      ap (λ (a : ℕ). word_in (named_file i t) a) place
      ∙ (ap (λ bs. word_in bs (length to_last + 4 * 4)) by_last
      ∙ (behind to_last (bytes_of_words (section_strings_header (at i t can) t) ++ behind_headers i t can) (4 * 4)
      ∙ word_there (section_strings_header (at i t can) t) (behind_headers i t can) 4 (omega arith) (omega (arith, s))))

  module _ (few : length t.sections < 0xFEFC) where
    strings_number : half_in (named_file i t) 0x32 ≡ length t.sections + 3
    unfolding named_of named_header
    strings_number = omega (arith, few)

    names : contents_at (named_file i t) (half_in (named_file i t) 0x32) ≡ names_from (at i t can) t
    names = ap (λ (k : ℕ). contents_at (named_file i t) k) strings_number ∙ last_word

    module _ (before : List Section) (s : Section) (after : List Section) (all : t.sections ≡ before ++ s ∷ after) where
      name_at : ℕ
      name_at = 27 + length (section_strings before)

      earlier : List ℕ
      earlier = 0 ∷ 0 ∷ 0 ∷ 0 ∷ 0 ∷ 0 ∷ 0 ∷ 0 ∷ 0 ∷ 0 ∷ sections_words 27 before

      earlier_length : length earlier ≡ 10 * (length before + 1)
      unfolding earlier
      earlier_length = let e = sections_length 27 before in omega (arith, e)

      split : section_headers t.sections ≡ earlier ++ (section_words name_at s ++ sections_words (name_at + length (string_of s.name)) after)
      unfolding earlier name_at section_headers
      split = ap (λ ss. section_headers ss) all ∙ ap (λ ws. 0 ∷ 0 ∷ 0 ∷ 0 ∷ 0 ∷ 0 ∷ 0 ∷ 0 ∷ 0 ∷ 0 ∷ ws) (words_append 27 before (s ∷ after))

      word : (j : ℕ) → j < 10 → get_or (section_words name_at s) j 0 < 2 ^ 32
          → word_in (named_file i t) (section_header (named_file i t) (length before + 1) + 4 * j) ≡ get_or (section_words name_at s) j 0
      word j lt small =
          let o = offset i t can in
          let l = front_length i t can in
          let e = earlier_length in
          let place : section_header (named_file i t) (length before + 1) + 4 * j ≡ length (front i t can) + 4 * (length earlier + j) = omega (arith, o, l, e) in
          ap (λ (a : ℕ). word_in (named_file i t) a) place
          ∙ (ap (λ bs. word_in bs (length (front i t can) + 4 * (length earlier + j))) by_headers
          ∙ (behind (front i t can) _ (4 * (length earlier + j))
          ∙ (ap (λ ws. word_in (bytes_of_words ws ++ after_headers) (4 * (length earlier + j))) split
          ∙ word_behind earlier (section_words name_at s) (sections_words (name_at + length (string_of s.name)) after) after_headers j lt small)))

      names_split : names_of t.sections ≡ (table_names ++ section_strings before) ++ (string_of s.name ++ section_strings after)
      names_split =
          ap (λ ss. names_of ss) all
          ∙ (ap (λ bs. table_names ++ bs) (strings_append before (s ∷ after))
          ∙ sym (append_assoc table_names (section_strings before) (string_of s.name ++ section_strings after)))

      ahead : length (table_names ++ section_strings before) ≡ name_at
      unfolding name_at
      ahead = length-append table_names (section_strings before)

      small_name : name_at < 2 ^ 32
      small_name =
          let z = sized i t can in
          let e = ap length names_split in
          let f = length-append (table_names ++ section_strings before) (string_of s.name ++ section_strings after) in
          let g = ahead in
          omega (arith, z, e, f, g)

      string : HasString (named_file i t) (names_from (at i t can) t + name_at) s.name
      string =
          let head = to_strings i t can ++ strings_of t.symbols in
          let front_names = table_names ++ section_strings before in
          let more = section_strings after in
          let whole : named_file i t ≡ (head ++ front_names) ++ (string_of s.name ++ more) =
          by_strings i t can
          ∙ (ap (λ bs. to_strings i t can ++ (strings_of t.symbols ++ bs)) names_split
          ∙ (sym (append_assoc (to_strings i t can) (strings_of t.symbols) (front_names ++ (string_of s.name ++ more)))
          ∙ sym (append_assoc head front_names (string_of s.name ++ more)))) in
          let l = strings_at i t can in
          let m = length-append (to_strings i t can) (strings_of t.symbols) in
          let n = length-append head front_names in
          let g = ahead in
          let place : names_from (at i t can) t + name_at ≡ length (head ++ front_names) = omega (arith, l, m, n, g) in
          ap (λ (a : ℕ). take (length s.name + 1) (drop a (named_file i t))) place
          ∙ (ap (λ bs. take (length s.name + 1) (drop (length (head ++ front_names)) bs)) whole
          ∙ string_there (head ++ front_names) s.name more)

      first : word_in (named_file i t) (section_header (named_file i t) (length before + 1)) ≡ name_at
      first =
          let none : section_header (named_file i t) (length before + 1) ≡ section_header (named_file i t) (length before + 1) + 4 * 0 = omega arith in
          ap (λ (a : ℕ). word_in (named_file i t) a) none ∙ word 0 (omega arith) small_name

      is_section : AllByRecursion AreFields t.sections → IsSection (named_file i t) (length before + 1) s
      is_section fields =
          let f = all_last AreFields before s after (subst (λ ss. AllByRecursion AreFields ss) all fields) in
          let p = small_type s.kind in
          record {
            name = subst (λ (a : ℕ). HasString (named_file i t) a s.name) (sym (ap (λ (a : ℕ). a + word_in (named_file i t) (section_header (named_file i t) (length before + 1))) names ∙ ap (λ (a : ℕ). names_from (at i t can) t + a) first)) string;
            kind = word 1 (omega arith) p;
            address = word 3 (omega arith) f.address;
            offset = word 4 (omega arith) f.offset;
            size = word 5 (omega arith) f.size;
          }

pub sections_law : SectionsLaw
sections_law i t can few fields before s after all = is_section i t can few before s after all fields
