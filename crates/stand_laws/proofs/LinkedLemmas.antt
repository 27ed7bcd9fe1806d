-- A branch that is left to the linker, by numbers.
use Rattle.std.proofs.Common.{◌≡◌, ℕ, ◌+◌, ◌-◌, ◌*◌, ◌/◌, ◌%◌, ◌^◌, ◌<◌, Bool, false, true, if◌then◌else◌, List, take, drop, Option, None, Some, ap, ◌∙◌, subst, arith, nat_lt}
use Rattle.std.specs.Prelude.{slice_get}
use Rattle.sdt_word.specs.Bytes.{bytes_of, number_of, word_in}
use Rattle.sdt_word.specs.Numbers.{bits, sign_extended}
use Rattle.sdt_word.specs.declared.codes.Condition.{Condition}
use Rattle.arm_isa.specs.ArmRows.{ReadsArm}
use Rattle.arm_isa.specs.declared.instr.ArmInstr.TheVariants as instr
use Rattle.thumb_isa.specs.declared.instr.ThumbInstr.TheVariants.{BranchLink}
use Rattle.aof_object.specs.declared.records.Reloc.{Reloc}
use Rattle.patch_model.specs.Fields.{Kind, Branch, Values, field_of, kind_of, directives, added, taken, size_of}
use Rattle.patch_model.specs.Laws.{StandsAt, StandsTo}
use Rattle.patch_model.specs.Reaches.{View, Shows, ShowsHalf}
use Rattle.source_model.specs.Objects.{half_of, link_word}
use Rattle.patch_model.specs.Patched.{total, IsBranch, SameBranch, Veneers, first_symbol, AddsUp, AreaPatched}

pub branch_word : (c : Condition) (link : Bool) (d w : ℕ) → ReadsArm w (instr.Branch c link d) → (w < 2 ^ 32) × (w % 2 ^ 24 ≡ d)
branch_word c link d w reads = (grind arith, grind arith)

pub extended_low : (w d : ℕ) → w % 2 ^ 24 ≡ d → sign_extended w 24 ≡ sign_extended d 24
extended_low w d h =
    let same : w % 2 ^ 24 ≡ d % 2 ^ 24 = omega arith in
    ap (λ (u : ℕ). if nat_lt u (2 ^ (24 - 1)) then u else u + (2 ^ 32 - 2 ^ 24)) same

pub target_sum : (base at p more less number s : ℕ) → (0 + s * 4 + 2 ^ 25) % 2 ^ 32 ≡ (0 + p) % 2 ^ 32 → more ≡ number → less ≡ base
    → total (base + at + 8 + p) more (2 ^ 25 + less) ≡ (at + 8 + s * 4 + number) % 2 ^ 32
target_sum base at p more less number s h e f = omega arith

-- all but the displacement is as it was
pub same_branch : (relocs : List Reloc) (old : List ℕ) (base : ℕ) (values : Values) (veneers : Veneers) (new : List ℕ) (k : ℕ) (r : Reloc) (thumb : Bool)
    → AreaPatched relocs old base values veneers new → slice_get relocs k ≡ Some r → kind_of r ≡ Branch thumb
    → SameBranch thumb (word_in old (field_of r).place) (word_in new (field_of r).place)
same_branch relocs old base values veneers new k r thumb patched there is_branch =
    let Adds : Kind → Type 0 = λ kind.
    AddsUp kind (base + (field_of r).place) values veneers (number_of (take (size_of kind) (drop (field_of r).place old)))
    (number_of (take (size_of kind) (drop (field_of r).place new)))
    (added values (directives relocs (field_of r))) (taken base (directives relocs (field_of r))) (first_symbol (directives relocs (field_of r))) in
    (subst Adds is_branch (patched.fields k r there)).rest

pub stands_to : (area_at : ℕ → ℕ → ℕ) (values : Values) → ((k : ℕ) → StandsAt area_at (values.symbol k) (values.symbol k).home)
    → (symbol : Option ℕ) → StandsTo area_at values symbol
stands_to area_at values homes None = tt
stands_to area_at values homes (Some n) = homes n

-- ---- the pair of Thumb state

-- a word is the pair of these fields
pub record IsPair (first second w : ℕ) : Type 0 where
  pub small : w < 2 ^ 32
  pub branch : IsBranch true w
  pub field : bits w 0 11 * 2 ^ 11 + bits w 16 11 ≡ first * 2 ^ 11 + second

pub pair_word : (first second : ℕ) → first < 2 ^ 11 → second < 2 ^ 11 → IsPair first second (link_word first second)
pair_word first second f s = record { small = grind arith; branch = (grind arith, grind arith); field = grind arith }

pub halves_shown : (view : View) (a w : ℕ) → Shows view a (bytes_of w 4) → ShowsHalf view a (w % 2 ^ 16) × ShowsHalf view (a + 2) (w / 2 ^ 16)
halves_shown view a w (e0, (e1, (e2, (e3, e)))) = (
  (e0 ∙ ap Some (omega arith), (e1 ∙ ap Some (omega arith), tt)),
  (
    ap view (omega arith) ∙ e2 ∙ ap Some (omega arith),
    (ap view (omega arith) ∙ e3 ∙ ap Some (omega arith), tt),
  ),
)

pub pair_halves : (view : View) (a first second : ℕ) → first < 2 ^ 11 → second < 2 ^ 11 → Shows view a (bytes_of (link_word first second) 4)
    → ShowsHalf view a (half_of (BranchLink false first)) × ShowsHalf view (a + 2) (half_of (BranchLink true second))
pair_halves view a first second f s shows =
    let h = halves_shown view a (link_word first second) shows in
    let low : link_word first second % 2 ^ 16 ≡ half_of (BranchLink false first) = grind arith in
    let high : link_word first second / 2 ^ 16 ≡ half_of (BranchLink true second) = grind arith in
    (subst (ShowsHalf view a) low h.0, subst (ShowsHalf view (a + 2)) high h.1)

pub pair_target : (base at p more less number s : ℕ) → (0 + s * 2 + 2 ^ 22) % 2 ^ 32 ≡ (0 + p) % 2 ^ 32 → more ≡ number → less ≡ base
    → total (base + at + 4 + p) more (2 ^ 22 + less) ≡ (at + 4 + s * 2 + number) % 2 ^ 32
pair_target base at p more less number s h e f = omega arith
