-- Worked images: their files word by word, and what the program sees. The numbers are worked out by hand.
use Rattle.std.proofs.Common.{◌≡◌, ℕ, zero, suc, ◌+◌, ◌==◌, if◌then◌else◌, true, false, List, [], ◌∷◌, ◌++◌, length, Option, Some, None, refl}
use Rattle.std.specs.Prelude.{codes, map}
use Rattle.sdt_word.specs.Bytes.{bytes_of}
use Rattle.boot_code.specs.Boots.{ByteMap}
use Rattle.boot_code.specs.Words.{boot_list, zero_list, relocator_list}
use Rattle.boot_code.specs.Maps.{bytes_of_words}
use Rattle.place_model.specs.declared.scatter.Kind.TheVariants as kind
use Rattle.place_model.specs.Plans.{Contents, plan_of}
use Rattle.place_model.proofs.Rows.{area, code, contents, plan, copy_and_zero, three_areas, over_source, with_words, hello, hello_areas}
use Rattle.image_model.specs.Regions.{Given, filled}
use Rattle.image_model.specs.Views.{view_of, files_of}
use Rattle.image_model.specs.AifFiles.{fixed_aif, relocatable_aif, aif_plan, aif_view}

-- the bytes of areas by their numbers
abbrev pub numbered : List (List ℕ) → ℕ → List ℕ
numbered [] n = []
numbered (x ∷ xs) zero = x
numbered (x ∷ xs) (suc n) = numbered xs n

-- areas of one object, an entry, and no veneer
abbrev pub given : List (List ℕ) → ℕ → Given
given areas entry = record { area = λ object number. numbered areas number; veneer = λ region target thumb. []; entry = entry; call = entry }

-- the word that a view has at an address, from four bytes that are there
abbrev seen : ByteMap → ℕ → List (Option ℕ)
seen view a = view a ∷ view (a + 1) ∷ view (a + 2) ∷ view (a + 3) ∷ []

abbrev shown : ℕ → List (Option ℕ)
shown w = map Some (bytes_of w 4)

abbrev nothing : List (Option ℕ)
nothing = None ∷ None ∷ None ∷ None ∷ []

-- ---- one copy and one zero part

abbrev pub copy_and_zero-given : Given
copy_and_zero-given = given (bytes_of 0xEF000011 4 ∷ bytes_of 7 4 ∷ []) 0x8000

copy_and_zero-file : files_of (plan copy_and_zero three_areas) (filled copy_and_zero-given (plan copy_and_zero three_areas) [])
    ≡ (record { base = 0x8000; bytes = bytes_of_words (0xEF000011 ∷ (boot_list ++ (0x80D8 ∷ 0x9000 ∷ 4 ∷ 0 ∷ 0 ∷ 0 ∷ 0x9004 ∷ 8 ∷ 0 ∷ 0 ∷ 0x8000 ∷ 7 ∷ []))) }) ∷ []
copy_and_zero-file = refl

abbrev copy_and_zero-view : ByteMap
copy_and_zero-view = view_of (plan copy_and_zero three_areas) (filled copy_and_zero-given (plan copy_and_zero three_areas) [])

copy_and_zero-copied : seen copy_and_zero-view 0x9000 ≡ shown 7
copy_and_zero-copied = refl

copy_and_zero-cleared : seen copy_and_zero-view 0x9008 ≡ shown 0
copy_and_zero-cleared = refl

copy_and_zero-behind : seen copy_and_zero-view 0x900C ≡ nothing
copy_and_zero-behind = refl

-- ---- a copy over its own source: the file ends where the copy begins

abbrev eight_words : List ℕ
eight_words = 1 ∷ 2 ∷ 3 ∷ 4 ∷ 5 ∷ 6 ∷ 7 ∷ 8 ∷ []

over_source-file : files_of (plan over_source (with_words 32)) (filled (given (bytes_of 0xEF000011 4 ∷ bytes_of_words eight_words ∷ []) 0x8000) (plan over_source (with_words 32)) [])
    ≡ (record { base = 0x8000; bytes = bytes_of_words (0xEF000011 ∷ (boot_list ++ (0x80D0 ∷ 0x80D4 ∷ 32 ∷ 0 ∷ 0 ∷ 0 ∷ 0 ∷ 0 ∷ 0x8000 ∷ eight_words))) }) ∷ []
over_source-file = refl

-- ---- the program that prints hello

abbrev hello-object : ℕ → List (List ℕ)
hello-object zero = bytes_of_words (0xEA000009 ∷ 0xEAFFFFFE ∷ []) ∷ []
hello-object (suc zero) = bytes_of_words (0xE59FD008 ∷ 0xE59F0008 ∷ 0xEB000002 ∷ 0xEF000011 ∷ 0x10408 ∷ 0x10000 ∷ []) ∷ bytes_of_words (0x6C6C6568 ∷ 0x6F ∷ []) ∷ []
hello-object (suc (suc n)) = bytes_of_words (0xE92D4000 ∷ 0xEF000002 ∷ 0xE8BD8000 ∷ []) ∷ []

abbrev hello-given : Given
hello-given = record { area = λ object number. numbered (hello-object object) number; veneer = λ region target thumb. []; entry = 8; call = 8 }

abbrev hello-words : List ℕ
hello-words =
    0xEA000009 ∷ 0xEAFFFFFE ∷ 0xE59FD008 ∷ 0xE59F0008 ∷ 0xEB000002 ∷ 0xEF000011 ∷ 0x10408 ∷ 0x10000 ∷ 0xE92D4000 ∷ 0xEF000002 ∷ 0xE8BD8000
    ∷ (boot_list ++ (0x100 ∷ 0x10000 ∷ 8 ∷ 0 ∷ 0 ∷ 0 ∷ 0x10008 ∷ 0x400 ∷ 0 ∷ 0 ∷ 8 ∷ 0x6C6C6568 ∷ 0x6F ∷ []))

hello-file : files_of (plan hello hello_areas) (filled hello-given (plan hello hello_areas) []) ≡ (record { base = 0; bytes = bytes_of_words hello-words }) ∷ []
hello-file = refl

hello-size : length (bytes_of_words hello-words) ≡ 0x108
hello-size = refl

-- ---- ARM image files: here SWI 0x11, DCD here

abbrev two_words : ℕ → Contents
two_words zeros = contents (kind.Aif 0x8000 true) (code 8 ∷ area 1 (codes "z") 0x1002 zeros ∷ [])

-- linked at a base, where the second word is the address of the first
abbrev at_base : ℕ → Given
at_base base = given (bytes_of_words (0xEF000011 ∷ (base + 0x80) ∷ []) ∷ []) (base + 0x80)

-- so many shifts of the word at 84
abbrev at_84 : ℕ → ℕ → ℕ
at_84 count offset = if offset == 0x84 then count else 0

abbrev header : ℕ → ℕ → ℕ → ℕ → List ℕ
header move clear base zeros =
    0xE1A00000 ∷ move ∷ clear ∷ 0xEB00001B ∷ 0xEF000011 ∷ 0x88 ∷ 0 ∷ 0 ∷ zeros ∷ 0 ∷ base ∷ 0 ∷ 32 ∷ 0 ∷ 0 ∷ 0 ∷ zero_list

relocatable_aif-file : relocatable_aif (aif_plan 0x8000 true (two_words 0)) 0x8000 (at_base 0x8000) (at_84 1)
    ≡ bytes_of_words (header 0xEB00001F 0xE1A00000 0x8000 0 ++ (0xEF000011 ∷ 0x8080 ∷ (relocator_list ++ (0x84 ∷ 0xFFFFFFFF ∷ []))))
relocatable_aif-file = refl

relocatable_aif-size : length (relocatable_aif (aif_plan 0x8000 true (two_words 0)) 0x8000 (at_base 0x8000) (at_84 1)) ≡ 0xCC
relocatable_aif-size = refl

-- a word with two shifts is listed twice
two_shifts-file : relocatable_aif (aif_plan 0x8000 true (two_words 0)) 0x8000 (given (bytes_of_words (0xEF000011 ∷ 0x10100 ∷ []) ∷ []) 0x8080) (at_84 2)
    ≡ bytes_of_words (header 0xEB00001F 0xE1A00000 0x8000 0 ++ (0xEF000011 ∷ 0x10100 ∷ (relocator_list ++ (0x84 ∷ 0x84 ∷ 0xFFFFFFFF ∷ []))))
two_shifts-file = refl

-- with a zero part, which begins at the relocator
zero_part-file : relocatable_aif (aif_plan 0x8000 true (two_words 4)) 0x8000 (at_base 0x8000) (at_84 1)
    ≡ bytes_of_words (header 0xEB00001F 0xEB00000C 0x8000 4 ++ (0xEF000011 ∷ 0x8080 ∷ (relocator_list ++ (0x84 ∷ 0xFFFFFFFF ∷ []))))
zero_part-file = refl

-- an image that can't be moved
fixed_aif-file : fixed_aif (aif_plan 0x8000 false (two_words 4)) 0x8000 (at_base 0x8000) ≡ bytes_of_words (header 0xE1A00000 0xEB00000C 0x8000 4 ++ (0xEF000011 ∷ 0x8080 ∷ []))
fixed_aif-file = refl

-- what is seen at another base: no call, that base, the moved word, and zeros
abbrev moved : ByteMap
moved = aif_view 0x12340 true (two_words 4) (at_base 0x12340)

moved-call : seen moved 0x12344 ≡ shown 0xE1A00000
moved-call = refl

moved-base : seen moved 0x12368 ≡ shown 0x12340
moved-base = refl

moved-word : seen moved 0x123C4 ≡ shown 0x123C0
moved-word = refl

moved-zero : seen moved 0x123C8 ≡ shown 0
moved-zero = refl

moved-behind : seen moved 0x123CC ≡ nothing
moved-behind = refl

-- ---- a Thumb entry: the header calls a veneer behind the area

abbrev thumb_entry : Contents
thumb_entry = record {
  areas = (area 0 (codes "t") 0x102202 4 ∷ []) ∷ [] ∷ [] ∷ [];
  veneers = (record { region = 0; target = record { object = 0; area = 0; offset = 0 }; thumb = true }) ∷ [];
}

thumb_entry-file : relocatable_aif (aif_plan 0x8000 true thumb_entry) 0x8000
    (record { area = λ object number. bytes_of 0xDF11 4; veneer = λ region target thumb. bytes_of_words (0xE59FC000 ∷ 0xE12FFF1C ∷ 0x8081 ∷ []); entry = 0x8081; call = 0x8084 })
    (λ offset. if offset == 0x8C then 1 else 0)
    ≡ bytes_of_words ((0xE1A00000 ∷ 0xEB000021 ∷ 0xE1A00000 ∷ 0xEB00001C ∷ 0xEF000011 ∷ 0x90 ∷ 0 ∷ 0 ∷ 0 ∷ 0 ∷ 0x8000 ∷ 0 ∷ 32 ∷ 0 ∷ 0 ∷ 0 ∷ zero_list)
    ++ (0xDF11 ∷ 0xE59FC000 ∷ 0xE12FFF1C ∷ 0x8081 ∷ (relocator_list ++ (0x8C ∷ 0xFFFFFFFF ∷ []))))
thumb_entry-file = refl

-- ---- the bytes alone: ARM code that calls Thumb code by a veneer behind both

abbrev arm_calls_thumb : Contents
arm_calls_thumb = record {
  areas = (area 0 (codes "main") 0x2202 8 ∷ area 1 (codes "t") 0x502202 4 ∷ []) ∷ [] ∷ [] ∷ [];
  veneers = (record { region = 0; target = record { object = 0; area = 1; offset = 0 }; thumb = true }) ∷ [];
}

arm_calls_thumb-file : files_of (plan_of (kind.Plain 0x8000) arm_calls_thumb)
    (filled (record {
      area = λ object number. numbered (bytes_of_words (0xEB000001 ∷ 0xEF000011 ∷ []) ∷ bytes_of 0x47702001 4 ∷ []) number;
      veneer = λ region target thumb. bytes_of_words (0xE59FC000 ∷ 0xE12FFF1C ∷ 0x8009 ∷ []);
      entry = 0x8000;
      call = 0x8000;
    }) (plan_of (kind.Plain 0x8000) arm_calls_thumb) [])
    ≡ (record { base = 0x8000; bytes = bytes_of_words (0xEB000001 ∷ 0xEF000011 ∷ 0x47702001 ∷ 0xE59FC000 ∷ 0xE12FFF1C ∷ 0x8009 ∷ []) }) ∷ []
arm_calls_thumb-file = refl
