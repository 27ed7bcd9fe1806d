-- Worked images: the steps of their starts, by the definitions.
use Rattle.std.proofs.Common.{◌≡◌, ℕ, ◌+◌, [], ◌∷◌, refl}
use Rattle.boot_code.specs.declared.rows.CopyRow.{CopyRow}
use Rattle.boot_code.specs.declared.rows.ZeroRow.{ZeroRow}
use Rattle.boot_code.specs.Startup.{startup_steps, table_list}
use Rattle.boot_code.specs.Laws.{bound_of}
use Rattle.boot_code.specs.Aif.{aif_steps}

abbrev copy : ℕ → ℕ → ℕ → CopyRow
copy source target size = record { source = source; target = target; size = size }

abbrev part : ℕ → ℕ → ZeroRow
part base size = record { base = base; size = size }

one_copy_and_one_zero_part : startup_steps (copy 0x80D8 0x9000 4 ∷ []) (part 0x9004 8 ∷ []) ≡ 35
one_copy_and_one_zero_part = refl

one_copy_and_one_zero_part-bound : bound_of (copy 0x80D8 0x9000 4 ∷ []) (part 0x9004 8 ∷ []) ≡ 70
one_copy_and_one_zero_part-bound = refl

one_copy_and_one_zero_part-table : table_list (copy 0x80D8 0x9000 4 ∷ []) (part 0x9004 8 ∷ []) 0x8000
    ≡ 0x80D8 ∷ 0x9000 ∷ 4 ∷ 0 ∷ 0 ∷ 0 ∷ 0x9004 ∷ 8 ∷ 0 ∷ 0 ∷ 0x8000 ∷ []
one_copy_and_one_zero_part-table = refl

copy_over_its_own_source : startup_steps (copy 0x80D0 0x80D4 32 ∷ []) [] ≡ 23
copy_over_its_own_source = refl

copy_over_its_own_source-nine_words : startup_steps (copy 0x80D0 0x80D4 36 ∷ []) [] ≡ 30
copy_over_its_own_source-nine_words = refl

copy_conflict-one_copy : startup_steps (copy 0x80D8 0x9000 4 ∷ []) [] ≡ 25
copy_conflict-one_copy = refl

copy_conflict-two_copies : startup_steps (copy 0x80DC 0x9000 16 ∷ copy 0x80EC 0x80DC 4 ∷ []) [] ≡ 50
copy_conflict-two_copies = refl

hello : startup_steps (copy 0x100 0x10000 8 ∷ []) (part 0x10008 0x400 ∷ []) ≡ 801
hello = refl

hello-bound : bound_of (copy 0x100 0x10000 8 ∷ []) (part 0x10008 0x400 ∷ []) ≡ 836
hello-bound = refl

relocatable_aif-own_base : aif_steps 0x8000 0x8000 0 1 ≡ 11
relocatable_aif-own_base = refl

relocatable_aif-from_zero : aif_steps 0 0x8000 0 1 ≡ 25
relocatable_aif-from_zero = refl

relocatable_aif-elsewhere : aif_steps 0x12340 0x8000 0 1 ≡ 25
relocatable_aif-elsewhere = refl

relocatable_aif-zero_part : aif_steps 0 0x8000 4 1 ≡ 37
relocatable_aif-zero_part = refl

relocatable_aif-erased : aif_steps 0 0x8000 0x100 1 ≡ 226
relocatable_aif-erased = refl

two_shifts_of_one_word : aif_steps 0 0x8000 0 2 ≡ 31
two_shifts_of_one_word = refl

thumb_entry_aif : aif_steps 0x8000 0x8000 0 1 + 2 ≡ 13
thumb_entry_aif = refl

thumb_entry_aif-from_zero : aif_steps 0 0x8000 0 1 + 2 ≡ 27
thumb_entry_aif-from_zero = refl
