-- The bytes of veneers where the image is moved.
use Rattle.std.proofs.Common.{◌≡◌, ℕ, ◌+◌, ◌-◌, ◌*◌, ◌/◌, ◌%◌, ◌^◌, ◌≤◌, Bool, true, false, ◌&&◌, ◌==◌, List, [], ◌++◌, refl, sym, ap, ◌∙◌, arith, Option, Some, None}
use Rattle.std.specs.Prelude.{is_some}
use Rattle.std.specs.List.{find}
use Rattle.std.specs.Option.{option_map, option_map_or}
use Rattle.sdt_word.specs.Bytes.{bytes_of, number_of}
use Rattle.sdt_word.specs.Numbers.{flag}
use Rattle.sdt_word.proofs.BytesLemmas.{number_of-bytes_of}
use Rattle.patch_model.specs.Fields.{Home}
use Rattle.patch_model.specs.Patched.{total}
use Rattle.link_model.specs.declared.placing.Placement.{Placement}
use Rattle.link_model.specs.Members.{Link}
use Rattle.link_values.specs.Placed.{is_area, base_in}
use Rattle.link_apply.specs.PatchedBytes.{veneer_bytes}
use Rattle.link_apply.specs.Placed.{veneers_at, target_in}
use Rattle.link_laws.specs.AifJoins.{shift_between, shifted_words}
use Rattle.link_laws.specs.Joins.{given_in}
use Rattle.link_laws.proofs.Shifts.Words.{shifted_none}
use Rattle.link_laws.proofs.Shifts.Placement.{moved_placement, place_moves, veneers_move}

-- ---- plain numbers

-- the target's word
target_moves : (x o b c : ℕ) → b ≤ 2 ^ 32 → ((x + c + o) % 2 ^ 32 + 1) % 2 ^ 32 ≡ (((x + b + o) % 2 ^ 32 + 1) % 2 ^ 32 + (c + 2 ^ 32 - b) % 2 ^ 32 * 1) % 2 ^ 32
target_moves x o b c low = omega arith

-- the branch's displacement
branch_moves : (x o b c y : ℕ) → total ((x + c + o) % 2 ^ 32) (2 ^ 25) (y + c + 4 + 8) ≡ total ((x + b + o) % 2 ^ 32) (2 ^ 25) (y + b + 4 + 8)
branch_moves x o b c y = omega arith

-- ---- one veneer

-- how often the word at a place of a veneer is shifted
abbrev pub own_shifts : Bool → ℕ → ℕ
own_shifts thumb place = flag (thumb && 8 == place)

module _ (p : Placement) (region : ℕ) (target : Home) (b c : ℕ) (low : b ≤ 2 ^ 32) (there : is_some (find (is_area target.object target.area) p.areas) ≡ true) where
  abbrev x : ℕ
  x = base_in p target.object target.area

  target_at : (by : ℕ) → target_in (moved_placement by p) target ≡ (x + by + target.offset) % 2 ^ 32
  target_at by = place_moves by p target.object target.area target.offset there

  thumb_bytes : (y : ℕ) → veneer_bytes (y + c) (target_in (moved_placement c p) target) true
      ≡ shifted_words (shift_between b c) (own_shifts true) 0 (veneer_bytes (y + b) (target_in (moved_placement b p) target) true)
  thumb_bytes y =
      let n : ℕ = (target_in (moved_placement b p) target + 1) % 2 ^ 32 in
      let m : ℕ = (target_in (moved_placement c p) target + 1) % 2 ^ 32 in
      let number : number_of (bytes_of n 4) ≡ n = number_of-bytes_of n 4 (omega arith) in
      let here = target_at b in
      let after = target_at c in
      let value : m ≡ (n + shift_between b c * 1) % 2 ^ 32 =
      ap (λ z. (z + 1) % 2 ^ 32) after ∙ target_moves x target.offset b c low ∙ ap (λ z. ((z + 1) % 2 ^ 32 + shift_between b c * 1) % 2 ^ 32) (sym here) in
      ap (λ z. bytes_of 0xE59FC000 4 ++ bytes_of 0xE12FFF1C 4 ++ bytes_of z 4) (value ∙ ap (λ z. (z + shift_between b c * 1) % 2 ^ 32) (sym number))

  arm_bytes : (y : ℕ) → veneer_bytes (y + c) (target_in (moved_placement c p) target) false ≡ veneer_bytes (y + b) (target_in (moved_placement b p) target) false
  arm_bytes y =
      let Bytes : ℕ → List ℕ = λ to. bytes_of 0x4778 2 ++ bytes_of 0x46C0 2 ++ bytes_of (0xEA000000 / 2 ^ 24 * 2 ^ 24 + (to / 4 + 2 ^ 23) % 2 ^ 24) 4 in
      ap (λ (t : ℕ). Bytes (total t (2 ^ 25) (y + c + 4 + 8))) (target_at c)
      ∙ ap Bytes (branch_moves x target.offset b c y)
      ∙ ap (λ (t : ℕ). Bytes (total t (2 ^ 25) (y + b + 4 + 8))) (sym (target_at b))

  bytes_by : (thumb : Bool) (y : ℕ) → veneer_bytes (y + c) (target_in (moved_placement c p) target) thumb
      ≡ shifted_words (shift_between b c) (own_shifts thumb) 0 (veneer_bytes (y + b) (target_in (moved_placement b p) target) thumb)
  bytes_by true y = thumb_bytes y
  bytes_by false y =
      arm_bytes y
      ∙ sym (shifted_none (shift_between b c) (own_shifts false) 0 (veneer_bytes (y + b) (target_in (moved_placement b p) target) false) (λ i lt. refl))

  -- where it stands
  pub veneer_shifts : (l : Link) (thumb : Bool) → (given_in l (moved_placement c p)).veneer region target thumb
      ≡ shifted_words (shift_between b c) (own_shifts thumb) 0 ((given_in l (moved_placement b p)).veneer region target thumb)
  veneer_shifts l thumb = go (veneers_at p region target thumb) refl
    where
      Given : ℕ → Option ℕ → List ℕ
      Given by o = option_map_or (λ w. veneer_bytes w (target_in (moved_placement by p) target) thumb) o []

      there_at : (by : ℕ) (o : Option ℕ) → veneers_at p region target thumb ≡ o → veneers_at (moved_placement by p) region target thumb ≡ option_map (λ y. y + by) o
      there_at by o e = veneers_move by p region target thumb ∙ ap (option_map (λ y. y + by)) e

      go : (o : Option ℕ) → veneers_at p region target thumb ≡ o
          → Given c (veneers_at (moved_placement c p) region target thumb) ≡ shifted_words (shift_between b c) (own_shifts thumb) 0 (Given b (veneers_at (moved_placement b p) region target thumb))
      go None e = ap (Given c) (there_at c None e) ∙ ap (λ (o : Option ℕ). shifted_words (shift_between b c) (own_shifts thumb) 0 (Given b o)) (sym (there_at b None e))
      go (Some y) e =
          ap (Given c) (there_at c (Some y) e) ∙ bytes_by thumb y
          ∙ ap (λ (o : Option ℕ). shifted_words (shift_between b c) (own_shifts thumb) 0 (Given b o)) (sym (there_at b (Some y) e))
