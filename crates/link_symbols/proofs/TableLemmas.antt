-- What holds of each symbol holds of all, which local ones begin, and what symbols and sections have are words and half-words.
use Rattle.std.proofs.Common.{◌≡◌, ℕ, suc, ◌+◌, ◌*◌, ◌%◌, ◌^◌, ◌<◌, Bool, true, false, cond, List, [], ◌∷◌, ◌++◌, length, map, Option, Some, None, refl, ap, ◌∙◌, arith}
use Rattle.std.proofs.lemmas.Bool.Decides.{nat_tests}
use Rattle.std.specs.Prelude.{◌==◌}
use Rattle.std.specs.List.{flat_map, AllByRecursion}
use Rattle.std.specs.Option.{option_or}
use Rattle.sdt_word.specs.Numbers.{flag}
use Rattle.aof_object.specs.declared.records.Area.{Area}
use Rattle.aof_object.specs.declared.records.Object.{Object}
use Rattle.aof_object.specs.declared.records.Symbol.{Symbol}
use Rattle.aof_object.specs.Flags.{is_exported, is_weak, is_zero_initialised}
use Rattle.elf_image.specs.declared.tables.Binding.TheVariants as binding
use Rattle.elf_image.specs.declared.tables.ElfSymbol.{ElfSymbol}
use Rattle.elf_image.specs.declared.tables.Section.{Section}
use Rattle.elf_image.specs.Symbols.{AreFields}
use Rattle.elf_image.specs.Tables.{is_local, place_number}
use Rattle.link_model.specs.declared.placing.Placement.{Placement}
use Rattle.link_model.specs.declared.placing.PlacedVeneer.{PlacedVeneer}
use Rattle.link_model.specs.declared.placing.Region.{Region}
use Rattle.link_model.specs.RegionValues.{numbers_by}
use Rattle.patch_model.specs.Fields.{Home, Meant, is_thumb_label}
use Rattle.link_symbols.specs.declared.labels.Listed.{Listed}
use Rattle.link_symbols.specs.declared.labels.Listed.TheVariants.{Marks, Locals, Exported}
use Rattle.link_symbols.specs.declared.marks.Content.{Content}
use Rattle.link_symbols.specs.declared.marks.Content.TheVariants.{Arm, Thumb, Data}
use Rattle.link_symbols.specs.Laws.{FitsLaw, LocalsLaw}
use Rattle.link_symbols.specs.Marks.{boot_marks, content_by, first_content, is_marked, mark, told_at_start, veneer_marks}
use Rattle.link_symbols.specs.Sections.{bytes_section, bytes_sections, ends_at, holds, number_where, place_by, place_of, region_sections, sections_from, zeros_section, zeros_sections}
use Rattle.link_symbols.specs.Shown.{Shown, shown_of}
use Rattle.link_symbols.specs.Symbols.{area_symbol, area_symbols, areas_by, areas_from, binding_of, definition, global_symbols, listed, listed_from, listed_in, local_symbols, region_symbol, place_in, scoped, start_marks}

-- ---- lists

all_append : {A : Type 0} (P : A → Type 0) (xs ys : List A) → AllByRecursion P xs → AllByRecursion P ys → AllByRecursion P (xs ++ ys)
all_append P [] ys hx hy = hy
all_append P (x ∷ xs) ys hx hy = (hx.0, all_append P xs ys hx.1 hy)

one : {A : Type 0} (P : A → Type 0) (x : A) → P x → AllByRecursion P (x ∷ [])
one P x h = (h, tt)

one_if : {A : Type 0} (P : A → Type 0) (x : A) (b : Bool) → (b ≡ true → P x) → AllByRecursion P (cond b (x ∷ []) [])
one_if P x true h = (h refl, tt)
one_if P x false h = tt

one_unless : {A : Type 0} (P : A → Type 0) (x : A) (b : Bool) → P x → AllByRecursion P (cond b [] (x ∷ []))
one_unless P x true h = tt
one_unless P x false h = (h, tt)

all_flat : {A B : Type 0} (P : B → Type 0) (f : A → List B) (xs : List A) → ((x : A) → AllByRecursion P (f x)) → AllByRecursion P (flat_map f xs)
all_flat P f [] h = tt
all_flat P f (x ∷ xs) h = all_append P (f x) (flat_map f xs) (h x) (all_flat P f xs h)

all_mapped : {A B : Type 0} (P : B → Type 0) (f : A → B) (xs : List A) → ((x : A) → P (f x)) → AllByRecursion P (map f xs)
all_mapped P f [] h = tt
all_mapped P f (x ∷ xs) h = (h x, all_mapped P f xs h)

-- ---- symbols

module _ (P : ElfSymbol → Type 0) (w : Shown) where
  all_in : (which : Listed) → ((s : Symbol) (m : Meant) → AllByRecursion P (listed w which s m))
      → (object n : ℕ) (symbols : List Symbol) → AllByRecursion P (listed_in w which object n symbols)
  all_in which h object n [] = tt
  all_in which h object n (s ∷ symbols) =
      all_append P (listed w which s (w.value object n)) (listed_in w which object (suc n) symbols) (h s (w.value object n))
      (all_in which h object (suc n) symbols)

  all_from : (which : Listed) → ((s : Symbol) (m : Meant) → AllByRecursion P (listed w which s m))
      → (n : ℕ) (os : List Object) → AllByRecursion P (listed_from w which n os)
  all_from which h n [] = tt
  all_from which h n (o ∷ os) =
      all_append P (listed_in w which n 0 o.symbols) (listed_from w which (suc n) os) (all_in which h n 0 o.symbols) (all_from which h (suc n) os)

  all_scoped : (scope : ℕ) → ((s : Symbol) (m : Meant) → (s.attributes % 4 == scope) ≡ true → P (definition w s m))
      → (s : Symbol) (m : Meant) → AllByRecursion P (scoped w scope s m)
  all_scoped scope h s m = one_if P (definition w s m) (s.attributes % 4 == scope) (h s m)

  module _ (marked : (content : Content) (address : ℕ) → P (mark w.sections content address))
      (named : (name : List ℕ) (base : ℕ) → P (area_symbol w.sections name base)) where
    all_starts : (told : Option Content) (a : Area) (base : ℕ) → AllByRecursion P (start_marks w.sections told a base)
    all_starts told a base =
        one_unless P (mark w.sections (first_content a.attributes told) base) (is_zero_initialised a.attributes) (marked (first_content a.attributes told) base)

    all_area : (told : Option Content) (a : Area) (base : ℕ) → AllByRecursion P (area_symbols w.sections told a base)
    all_area told a base = by_size (a.size == 0)
      where
        by_size : (b : Bool) → AllByRecursion P (cond b [] (area_symbol w.sections a.name base ∷ start_marks w.sections told a base))
        by_size true = tt
        by_size false = (named a.name base, all_starts told a base)

    all_areas_by : (told : ℕ → Option Content) (object n : ℕ) (areas : List Area) → AllByRecursion P (areas_by w told object n areas)
    all_areas_by told object n [] = tt
    all_areas_by told object n (a ∷ areas) =
        all_append P (area_symbols w.sections (told n) a (w.base_at object n)) (areas_by w told object (suc n) areas)
        (all_area (told n) a (w.base_at object n)) (all_areas_by told object (suc n) areas)

    all_areas : (n : ℕ) (os : List Object) → AllByRecursion P (areas_from w n os)
    all_areas n [] = tt
    all_areas n (o ∷ os) =
        all_append P (areas_by w (told_at_start o.symbols) n 0 o.areas) (areas_from w (suc n) os)
        (all_areas_by (told_at_start o.symbols) n 0 o.areas) (all_areas (suc n) os)

    all_veneer : (v : PlacedVeneer) → AllByRecursion P (veneer_marks w.sections v)
    all_veneer v = by_state v.veneer.thumb
      where
        by_state : (b : Bool)
            → AllByRecursion P (cond b (mark w.sections Arm v.address ∷ mark w.sections Data (v.address + 8) ∷ [])
            (mark w.sections Thumb v.address ∷ mark w.sections Arm (v.address + 4) ∷ []))
        by_state true = (marked Arm v.address, (marked Data (v.address + 8), tt))
        by_state false = (marked Thumb v.address, (marked Arm (v.address + 4), tt))

    all_boot : (boot : Option ℕ) → AllByRecursion P (boot_marks w.sections boot)
    all_boot None = tt
    all_boot (Some boot) = (marked Arm boot, (marked Data (boot + 168), tt))

    all_marks : (s : Symbol) (m : Meant) → AllByRecursion P (listed w Marks s m)
    all_marks s m =
        one_if P (mark w.sections (content_by m.datum m.thumb) m.number) (is_marked w.objects m.home) (λ h. marked (content_by m.datum m.thumb) m.number)

    all_locals : ((s : Symbol) (m : Meant) → (s.attributes % 4 == 1) ≡ true → P (definition w s m))
        → (p : Placement) → AllByRecursion P (local_symbols w p)
    all_locals own p =
        let marks = listed_from w Marks 0 w.objects in
        let locals = listed_from w Locals 0 w.objects in
        let boots = boot_marks w.sections p.boot in
        let veneers = flat_map (veneer_marks w.sections) p.veneers in
        all_append P (areas_from w 0 w.objects) (veneers ++ (boots ++ (marks ++ locals))) (all_areas 0 w.objects)
        (all_append P veneers (boots ++ (marks ++ locals)) (all_flat P (veneer_marks w.sections) p.veneers all_veneer)
        (all_append P boots (marks ++ locals) (all_boot p.boot)
        (all_append P marks locals (all_from Marks all_marks 0 w.objects) (all_from Locals (all_scoped 1 own) 0 w.objects))))

  all_globals : ((s : Symbol) (m : Meant) → (s.attributes % 4 == 3) ≡ true → P (definition w s m)) → ((e : List ℕ × ℕ) → P (region_symbol e))
      → (p : Placement) → AllByRecursion P (global_symbols w p)
  all_globals own region p =
      all_append P (listed_from w Exported 0 w.objects) (map region_symbol (numbers_by p.boot p.regions))
      (all_from Exported (all_scoped 3 own) 0 w.objects) (all_mapped P region_symbol (numbers_by p.boot p.regions) region)

-- ---- local ones stand first

local_binding : (a : ℕ) → (a % 4 == 1) ≡ true → is_local (binding_of a) ≡ true
local_binding a h = ap (λ (b : Bool). is_local (cond b (cond (is_weak a) binding.Weak binding.Global) binding.Local)) (not_exported a h)
  where
    not_exported : (a : ℕ) → (a % 4 == 1) ≡ true → is_exported a ≡ false
    not_exported a h = grind (arith, nat_tests)

global_binding : (a : ℕ) → (a % 4 == 3) ≡ true → is_local (binding_of a) ≡ false
global_binding a h = ap (λ (b : Bool). is_local (cond b (cond (is_weak a) binding.Weak binding.Global) binding.Local)) h ∙ by_weak (is_weak a)
  where
    by_weak : (b : Bool) → is_local (cond b binding.Weak binding.Global) ≡ false
    by_weak true = refl
    by_weak false = refl

pub locals_law : LocalsLaw
locals_law l p loads =
    let w = shown_of l p loads in
    record {
      locals = local_symbols w p;
      others = global_symbols w p;
      parts = refl;
      are_local = all_locals (λ s. is_local s.binding ≡ true) w (λ c a. refl) (λ n a. refl) (λ s m h. local_binding s.attributes h) p;
      are_not = all_globals (λ s. is_local s.binding ≡ false) w (λ s m h. global_binding s.attributes h) (λ e. refl) p;
    }

-- ---- words and half-words

low : (x : ℕ) → x % 2 ^ 32 < 2 ^ 32
low x = omega arith

counted : (test : Section → Bool) (n : ℕ) (sections : List Section) (k : ℕ) → number_where test n sections ≡ Some k → k < n + length sections
counted test n [] k h = absurd (cc)
counted test n (s ∷ sections) k h = by_test (test s) (counted test (suc n) sections k) h
  where
    by_test : (b : Bool) → (number_where test (suc n) sections ≡ Some k → k < suc n + length sections)
        → cond b (Some n) (number_where test (suc n) sections) ≡ Some k → k < n + suc (length sections)
    by_test true later e = let same : n ≡ k = cc in omega (arith, same)
    by_test false later e = let r = later e in omega (arith, r)

half_word : (sections : List Section) → length sections < 0xFEFC → (o : Option ℕ) → ((k : ℕ) → o ≡ Some k → k < 1 + length sections) → place_number (place_by o) < 2 ^ 16
half_word sections few None h = omega arith
half_word sections few (Some k) h = let r = h k refl in omega (arith, few, r)

either : (o u : Option ℕ) (k : ℕ) → option_or o u ≡ Some k → (n : ℕ) → ((k : ℕ) → o ≡ Some k → k < n) → ((k : ℕ) → u ≡ Some k → k < n) → k < n
either None u k e n ho hu = hu k e
either (Some x) u k e n ho hu = ho k e

placed : (address : ℕ) (sections : List Section) → length sections < 0xFEFC → place_number (place_of address sections) < 2 ^ 16
placed address sections few =
    half_word sections few (option_or (number_where (holds address) 1 sections) (number_where (ends_at address) 1 sections))
    (λ k e. either (number_where (holds address) 1 sections) (number_where (ends_at address) 1 sections) k e (1 + length sections)
    (counted (holds address) 1 sections) (counted (ends_at address) 1 sections))

absolute : 0xFFF1 < 2 ^ 16
absolute = omega arith

fields : (offset : ℕ) (r : Region) → AllByRecursion AreFields (region_sections offset r)
fields offset r =
    all_append AreFields (bytes_sections offset r) (zeros_sections offset r)
    (one_unless AreFields (bytes_section offset r) (r.length == 0) (record { address = low r.base; offset = low offset; size = low r.length }))
    (one_unless AreFields (zeros_section offset r) (r.zero == 0) (record { address = low (r.base + r.length); offset = low (offset + r.length); size = low r.zero }))

all_fields : (offset : ℕ) (regions : List Region) → AllByRecursion AreFields (sections_from offset regions)
all_fields offset [] = tt
all_fields offset (r ∷ regions) =
    all_append AreFields (region_sections offset r) (sections_from (offset + r.length) regions) (fields offset r) (all_fields (offset + r.length) regions)

home_placed : (sections : List Section) → length sections < 0xFEFC → (number : ℕ) (o : Option Home) → place_number (place_in sections number o) < 2 ^ 16
home_placed sections few number None = absolute
home_placed sections few number (Some h) = placed (number % 2 ^ 32) sections few

pub fits_law : FitsLaw
fits_law l p loads =
    let w = shown_of l p loads in
    record {
      values =
          all_append (λ s. s.value < 2 ^ 32) (local_symbols w p) (global_symbols w p)
          (all_locals (λ s. s.value < 2 ^ 32) w (λ c a. low a) (λ n a. low a) (λ s m h. low (m.number + flag (is_thumb_label m))) p)
          (all_globals (λ s. s.value < 2 ^ 32) w (λ s m h. low (m.number + flag (is_thumb_label m))) (λ e. low e.1) p);
      places = λ few.
          all_append (λ s. place_number s.place < 2 ^ 16) (local_symbols w p) (global_symbols w p)
          (all_locals (λ s. place_number s.place < 2 ^ 16) w (λ c a. placed (a % 2 ^ 32) w.sections few) (λ n a. placed (a % 2 ^ 32) w.sections few)
          (λ s m h. home_placed w.sections few m.number m.home) p)
          (all_globals (λ s. place_number s.place < 2 ^ 16) w (λ s m h. home_placed w.sections few m.number m.home) (λ e. absolute) p);
      sections = all_fields (52 + 32 * loads) p.regions;
    }
