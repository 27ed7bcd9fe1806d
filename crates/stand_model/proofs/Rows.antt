-- Worked rows: a placed object, and memory that shows it. Each object is what the assembler makes of one statement, and
-- memory holds nothing but its patched word, and the veneer, if it has one.
use Rattle.std.proofs.Common.{◌≡◌, lit<, ℕ, zero, suc, ◌+◌, ◌*◌, ◌%◌, ◌^◌, ◌<◌, ◌≤◌, ◌==◌, Bool, true, false, if◌then◌else◌, List, [], ◌∷◌, ◌++◌, Option, refl, subst, ◌∙◌, codes, arith}
use Rattle.std.specs.Prelude.{Some, None}
use Rattle.sdt_word.specs.Bytes.{bytes_of, number_of}
use Rattle.sdt_word.specs.Ranges.{Covers}
use Rattle.sdt_word.specs.declared.ranges.Range32.{Range32}
use Rattle.aof_object.specs.declared.records.Object.{Object}
use Rattle.aof_object.specs.declared.records.Symbol.{Symbol}
use Rattle.patch_model.specs.Fields.{Meant, Values}
use Rattle.patch_model.specs.Patched.{total, biased_displacement, bias, Veneers, LeadsAt}
use Rattle.patch_model.specs.Reaches.{View, Shows, IsVeneer, VeneersStand}
use Rattle.patch_model.proofs.PatchLemmas.{one_patched}
use Rattle.patch_model.proofs.VeneerLemmas.{shows_parts, veneer_law}
use Rattle.stand_model.specs.Placed.{IsMeantIn, IsMeant, ShowsObject}
use Rattle.stand_model.proofs.OneWord.{memory, memory_shows, at_start, word_area, object, values_by, IsPlacedAndShown, number_kept, area_patched, placed_and_shown}

abbrev pub none : ℕ → Veneers
none area target state = None

none_stand : (view : View) (region : ℕ → Range32) (area_at : ℕ → ℕ → ℕ) (area : ℕ) → VeneersStand view (region area) area_at (none area)
none_stand view region area_at area target state v e = absurd (cc)

-- ---- here DCD here, exported from an area of data: the word is relocated by its area

abbrev pub here : Symbol
here = record { name = codes "here"; attributes = 3; value = 0; area = Some 0 }

abbrev pub meant_here : ℕ → ℕ → Meant
meant_here own base = record { number = base; thumb = false; datum = false; home = Some (record { object = own; area = 0; offset = 0 }) }

here_is_meant : (own base : ℕ) → IsMeant own (λ _. base) here (meant_here own base)
here_is_meant own base area e =
    let same : 0 ≡ area = cc in
    subst (IsMeantIn own (λ _. base) here (meant_here own base)) same (record { number = omega arith; thumb = refl; datum = refl; home = refl })

abbrev pub of_own_label : Object
of_own_label = object (word_area 2 0 0x82000000) here

pub own_label : (own base : ℕ) (region : ℕ → Range32) → base % 4 ≡ 0 → base + 4 ≤ 2 ^ 32
    → IsPlacedAndShown own of_own_label (values_by base (meant_here own base)) (λ _ _. base) (memory base (bytes_of base 4)) region none
own_label own base region aligned ends =
    placed_and_shown own base 2 0 0x82000000 base here (meant_here own base) (λ _ _. base) (memory base (bytes_of base 4)) region none aligned ends
    (here_is_meant own base) (omega arith) (λ area. refl) refl (record { start = refl; whole = refl }) (number_kept base ∙ omega arith)
    (memory_shows base (bytes_of base 4))
    (none_stand (memory base (bytes_of base 4)) region (λ _ _. base))

-- any memory that shows the object shows that word
pub own_label_word : (own base : ℕ) (view : View) (area_at : ℕ → ℕ → ℕ) (region : ℕ → Range32) (veneers : ℕ → Veneers)
    → ShowsObject view of_own_label (values_by base (meant_here own base)) area_at region veneers → Shows view base (bytes_of base 4)
own_label_word own base view area_at region veneers shown =
    let found = shown.areas 0 (word_area 2 0 0x82000000) refl in
    let values : Values = values_by base (meant_here own base) in
    let patched = area_patched (at_start 0x82000000) 0 base base values (veneers 0) (record { start = refl; whole = refl }) (number_kept base ∙ omega arith) in
    subst (Shows view base) (one_patched (at_start 0x82000000 ∷ []) (bytes_of 0 4) base values (veneers 0) found.0 (bytes_of base 4) found.1 patched) found.2

-- ---- DCD far + 4, where far is imported: the word is relocated by a symbol, which has any value

abbrev pub far : Symbol
far = record { name = codes "far"; attributes = 2; value = 0; area = None }

abbrev pub valued : ℕ → Meant
valued value = record { number = value; thumb = false; datum = false; home = None }

abbrev pub of_imported_word : Object
of_imported_word = object (word_area 2 4 0x8A000000) far

pub imported_word : (own base value : ℕ) (region : ℕ → Range32) → base % 4 ≡ 0 → base + 4 ≤ 2 ^ 32
    → IsPlacedAndShown own of_imported_word (values_by base (valued value)) (λ _ _. base) (memory base (bytes_of (value + 4) 4)) region none
imported_word own base value region aligned ends =
    placed_and_shown own base 2 4 0x8A000000 (value + 4) far (valued value) (λ _ _. base) (memory base (bytes_of (value + 4) 4)) region none aligned ends
    (λ e. absurd (omega arith)) tt (λ area. refl) refl (record { start = refl; whole = refl }) (number_kept (value + 4) ∙ omega arith)
    (memory_shows base (bytes_of (value + 4) 4))
    (none_stand (memory base (bytes_of (value + 4) 4)) region (λ _ _. base))

-- ---- far is code of object 1, of Thumb state where true

abbrev pub areas_at : ℕ → ℕ → ℕ → ℕ → ℕ
areas_at base target zero area = base
areas_at base target (suc object) area = target

abbrev pub code_at : Bool → ℕ → Meant
code_at thumb target = record { number = target; thumb = thumb; datum = false; home = Some (record { object = 1; area = 0; offset = 0 }) }

-- ---- B far, from ARM code to ARM code that stands so many words behind it, in reach

abbrev pub branch_over : ℕ → ℕ
branch_over words = 0xEA000000 + (words + 0xFFFFFE) % 2 ^ 24

abbrev pub of_branch : Object
of_branch = object (word_area 0x2202 0xEAFFFFFE 0x8F000000) far

pub near_branch : (base words : ℕ) (region : ℕ → Range32) → base % 4 ≡ 0 → base + 4 ≤ 2 ^ 32 → words < 2 ^ 23
    → IsPlacedAndShown 0 of_branch (values_by base (code_at false (base + 4 * words))) (areas_at base (base + 4 * words))
    (memory base (bytes_of (branch_over words) 4)) region none
near_branch base words region aligned ends reach =
    let new : number_of (bytes_of (branch_over words) 4) ≡ branch_over words = number_kept (branch_over words) ∙ omega arith in
    placed_and_shown 0 base 0x2202 0xEAFFFFFE 0x8F000000 (branch_over words) far (code_at false (base + 4 * words)) (areas_at base (base + 4 * words))
    (memory base (bytes_of (branch_over words) 4)) region none aligned ends (λ e. absurd (omega arith)) (omega arith) (λ area. refl) refl
    (record { start = refl; whole = refl })
    (record { branch = (lit< tt, refl); rest = omega (arith, new); leads = omega (arith, new, reach) }) (memory_shows base (bytes_of (branch_over words) 4))
    (none_stand (memory base (bytes_of (branch_over words) 4)) region (areas_at base (base + 4 * words)))

-- ---- BL far, from ARM code to Thumb code: it goes by a veneer, which stands behind the area

abbrev pub veneer_to : ℕ → ℕ → ℕ → Option ℕ
veneer_to base target address = if address == target then Some (base + 4) else None

abbrev pub veneers_to : ℕ → ℕ → ℕ → Veneers
veneers_to base target area home state = if state then veneer_to base target ((areas_at base target home.object home.area + home.offset) % 2 ^ 32) else None

abbrev pub veneer : ℕ → List ℕ
veneer target = bytes_of 0xE59FC000 4 ++ bytes_of 0xE12FFF1C 4 ++ bytes_of ((target + 1) % 2 ^ 32) 4

abbrev pub with_veneer : ℕ → ℕ → View
with_veneer base target = memory base (bytes_of 0xEBFFFFFF 4 ++ veneer target)

abbrev pub around : (base : ℕ) → base + 16 ≤ 2 ^ 32 → ℕ → Range32
around base ends area = record { base = base; size = 16; in_space = ends }

parts : (base target : ℕ) → Shows (with_veneer base target) base (bytes_of 0xEBFFFFFF 4) × Shows (with_veneer base target) (base + 4) (veneer target)
parts base target =
    shows_parts (with_veneer base target) base (bytes_of 0xEBFFFFFF 4) (veneer target) (memory_shows base (bytes_of 0xEBFFFFFF 4 ++ veneer target))

veneer_leads : (base target address : ℕ) → address ≡ target → LeadsAt false (base + 0 + 8) 0xEBFFFFFF (veneer_to base target address)
veneer_leads base target address e = let same : address == target ≡ true = grind arith in rw same (omega arith)

veneer_stands : (base target : ℕ) (ends : base + 16 ≤ 2 ^ 32) → target % 2 ≡ 0 → (area : ℕ)
    → VeneersStand (with_veneer base target) (around base ends area) (areas_at base target) (veneers_to base target area)
veneer_stands base target ends even area home false v e = absurd (cc)
veneer_stands base target ends even area home true v e =
    by_test ((areas_at base target home.object home.area + home.offset) % 2 ^ 32)
    (((areas_at base target home.object home.area + home.offset) % 2 ^ 32) == target) refl e
  where
    there : IsVeneer (with_veneer base target) (base + 4) target true
    there = veneer_law.reads (with_veneer base target) (base + 4) target true (veneer target) (parts base target).1 (record { even = even; contents = refl })

    by_test : (address : ℕ) (test : Bool) → address == target ≡ test → veneer_to base target address ≡ Some v
        → Covers (around base ends area) v × IsVeneer (with_veneer base target) v address true
    by_test address false t e = let none : veneer_to base target address ≡ None = rw t refl in absurd (cc)
    by_test address true t e =
        let some : veneer_to base target address ≡ Some (base + 4) = rw t refl in
        let same : target ≡ address = grind arith in
        let at : base + 4 ≡ v = cc in
        let Stands : ℕ → ℕ → Type 0 = λ w n. Covers (around base ends area) w × IsVeneer (with_veneer base target) w n true in
        subst (λ w. Stands w address) at (subst (Stands (base + 4)) same (record { from_base = omega arith; below_end = omega arith }, there))

abbrev pub of_call : Object
of_call = object (word_area 0x2202 0xEBFFFFFE 0x8F000000) far

pub call_by_veneer : (base target : ℕ) → base % 4 ≡ 0 → (ends : base + 16 ≤ 2 ^ 32) → target % 2 ≡ 0 → target < 2 ^ 32
    → IsPlacedAndShown 0 of_call (values_by base (code_at true target)) (areas_at base target) (with_veneer base target) (around base ends)
    (veneers_to base target)
call_by_veneer base target aligned ends even small =
    let named : ℕ =
    (target + total (0 + total (base + 0 + 8 + biased_displacement false 0xEBFFFFFE) 0 (bias false)) (target + 0 + 0) (base * 1 + 0 + target)) % 2 ^ 32 in
    placed_and_shown 0 base 0x2202 0xEBFFFFFE 0x8F000000 0xEBFFFFFF far (code_at true target) (areas_at base target) (with_veneer base target)
    (around base ends)
    (veneers_to base target) aligned (omega arith) (λ e. absurd (omega arith)) (omega arith) (λ area. refl) refl (record { start = refl; whole = refl })
    (record { branch = (lit< tt, refl); rest = refl; leads = veneer_leads base target named (omega arith) }) (parts base target).0
    (veneer_stands base target ends even)
