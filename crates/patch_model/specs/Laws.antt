-- What follows from the definitions of patched bytes and of branches. This project's.
use Rattle.std.specs.Prelude.{◌≡◌, ◌≢◌, ◌++◌, ℕ, ◌+◌, ◌*◌, ◌/◌, ◌%◌, ◌^◌, ◌<◌, ◌≤◌, Bool, true, false, List, [], ◌∷◌, take, drop, slice_get, Decides, Option, Some, None}
use Rattle.sdt_word.specs.Bytes.{bytes_of, word_in}
use Rattle.sdt_word.specs.Numbers.{bits, sign_extended}
use Rattle.sdt_word.specs.declared.codes.Condition.{Condition}
use Rattle.arm_isa.specs.ArmRows.{ReadsArm}
use Rattle.arm_isa.specs.declared.instr.ArmInstr.TheVariants as arm
use Rattle.thumb_isa.specs.ThumbRows.{ReadsThumb}
use Rattle.thumb_isa.specs.declared.instr.ThumbInstr.TheVariants as thumb
use Rattle.aof_object.specs.declared.records.Object.{Object}
use Rattle.aof_object.specs.declared.records.Reloc.{Reloc}
use Rattle.sdt_word.specs.declared.ranges.Range32.{Range32}
use Rattle.patch_model.specs.Fields.{Word, Branch, Field, Home, Meant, Values, field_of, kind_of, directives, added, taken}
use Rattle.patch_model.specs.Patched.{total, IsBranch, is_branch, SameBranch, biased_displacement, bias, pc_offset, Veneers, Way, Directly, ByVeneer, first_symbol, way_to, IsOutside, AreaPatched, Patched}
use Rattle.patch_model.specs.Reaches.{View, Shows, BranchesTo, IsVeneer, HasVeneer, VeneersStand, Reaches}

-- ---- bytes

-- an area has at most one list of patched bytes
abbrev pub OnePatched : Type 0
OnePatched =
    (relocs : List Reloc) (old : List ℕ) (base : ℕ) (values : Values) (veneers : Veneers) (new other : List ℕ)
    → AreaPatched relocs old base values veneers new → AreaPatched relocs old base values veneers other → new ≡ other

abbrev pub OneObjectPatched : Type 0
OneObjectPatched =
    (object : Object) (area : ℕ) (values : Values) (veneers : Veneers) (new other : List ℕ)
    → Patched object area values veneers new → Patched object area values veneers other → new ≡ other

-- bytes that no field has are as they were
abbrev pub OutsideLaw : Type 0
OutsideLaw =
    (relocs : List Reloc) (old : List ℕ) (base : ℕ) (values : Values) (veneers : Veneers) (new : List ℕ) (place size : ℕ)
    → AreaPatched relocs old base values veneers new → ((i : ℕ) → place ≤ i → i < place + size → IsOutside relocs i)
    → take size (drop place new) ≡ take size (drop place old)

-- ---- sums

-- which directives a field has
pub record DirectiveLaw : Type 0 where
  pub joined : (f : Field) (xs ys : List Reloc) → directives (xs ++ ys) f ≡ directives xs f ++ directives ys f
  -- none where all others begin elsewhere, and one beside those
  pub none : (f : Field) (xs : List Reloc) → ((k : ℕ) (r : Reloc) → slice_get xs k ≡ Some r → (field_of r).place ≢ f.place) → directives xs f ≡ []
  pub own : (r : Reloc) → directives (r ∷ []) (field_of r) ≡ r ∷ []

-- the number of a word field
abbrev pub WordLaw : Type 0
WordLaw =
    (relocs : List Reloc) (old : List ℕ) (base : ℕ) (values : Values) (veneers : Veneers) (new : List ℕ) (k : ℕ) (r : Reloc)
    → AreaPatched relocs old base values veneers new → slice_get relocs k ≡ Some r → kind_of r ≡ Word
    → word_in new (field_of r).place
    ≡ total (word_in old (field_of r).place) (added values (directives relocs (field_of r))) (taken base (directives relocs (field_of r)))

-- ---- branches

-- the test is true of branches and of no other word
abbrev pub TestLaw : Type 0
TestLaw = (thumb : Bool) (w : ℕ) → Decides (is_branch thumb w) (IsBranch thumb w)

pub record BranchLaw : Type 0 where
  -- bytes that read as a branch lead where its displacement says
  pub leads : (view : View) (thumb : Bool) (a w target : ℕ) → Shows view a (bytes_of w 4) → w < 2 ^ 32 → IsBranch thumb w
      → (a + pc_offset thumb + biased_displacement thumb w) % 2 ^ 32 ≡ (target + bias thumb) % 2 ^ 32 → BranchesTo view thumb a target
  -- a displacement as two's complement
  pub arm_displacement : (a w : ℕ) → (a + sign_extended w 24 * 4 + bias false) % 2 ^ 32 ≡ (a + biased_displacement false w) % 2 ^ 32
  pub pair_displacement : (a w : ℕ) → (a + sign_extended (bits w 0 11 * 2 ^ 11 + bits w 16 11) 22 * 2 + bias true) % 2 ^ 32 ≡ (a + biased_displacement true w) % 2 ^ 32
  -- a patched branch is the same instruction with another field
  pub arm_stays : (condition : Condition) (link : Bool) (field old new : ℕ) → ReadsArm old (arm.Branch condition link field) → new < 2 ^ 32
      → SameBranch false old new → ReadsArm new (arm.Branch condition link (new % 2 ^ 24))
  pub pair_stays : (old new : ℕ) → new < 2 ^ 32 → IsBranch true old → SameBranch true old new
      → ReadsThumb (new % 2 ^ 16) (thumb.BranchLink false (bits new 0 11)) × ReadsThumb (new / 2 ^ 16) (thumb.BranchLink true (bits new 16 11))

-- in a view: to what the old branch names with its directives, or to the veneer
abbrev pub LeadsBy : View → Veneers → Bool → ℕ → ℕ → ℕ → ℕ → Way → Type 0
LeadsBy view veneers thumb a old more less Directly = BranchesTo view thumb a (total (a + pc_offset thumb + biased_displacement thumb old) more (bias thumb + less))
LeadsBy view veneers thumb a old more less (ByVeneer target state) = (v : ℕ) × (veneers target state ≡ Some v) × BranchesTo view thumb a v

-- where a patched branch leads, in a view that shows the area's bytes
abbrev pub PatchedBranchLaw : Type 0
PatchedBranchLaw =
    (relocs : List Reloc) (old : List ℕ) (base : ℕ) (values : Values) (veneers : Veneers) (new : List ℕ) (k : ℕ) (r : Reloc) (thumb : Bool) (view : View)
    → AreaPatched relocs old base values veneers new → slice_get relocs k ≡ Some r → kind_of r ≡ Branch thumb → Shows view base new
    → LeadsBy view veneers thumb (base + (field_of r).place) (word_in old (field_of r).place) (added values (directives relocs (field_of r)))
    (taken base (directives relocs (field_of r)))
    (way_to thumb (total (base + (field_of r).place + pc_offset thumb + biased_displacement thumb (word_in old (field_of r).place)) 0 (bias thumb))
    (added values (directives relocs (field_of r))) (taken base (directives relocs (field_of r))) values (first_symbol (directives relocs (field_of r))))

-- the state in which a branch of a state reaches a symbol: that of a symbol in an area, and else the branch's own
abbrev pub state_of : Bool → Meant → Option Home → Bool
state_of thumb m None = thumb
state_of thumb m (Some h) = m.thumb

-- where a symbol in an area stands
abbrev pub StandsAt : (ℕ → ℕ → ℕ) → Meant → Option Home → Type 0
StandsAt area_at m None = Unit {0}
StandsAt area_at m (Some h) = m.number % 2 ^ 32 ≡ (area_at h.object h.area + h.offset) % 2 ^ 32

-- the same for the first symbol of directives, if there is one
abbrev pub state_to : Bool → Values → Option ℕ → Bool
state_to thumb values None = thumb
state_to thumb values (Some n) = state_of thumb (values.symbol n) (values.symbol n).home

abbrev pub StandsTo : (ℕ → ℕ → ℕ) → Values → Option ℕ → Type 0
StandsTo area_at values None = Unit {0}
StandsTo area_at values (Some n) = StandsAt area_at (values.symbol n) (values.symbol n).home

-- a patched branch reaches what it names, in a view that shows the area's bytes and the veneers
abbrev pub ReachLaw : Type 0
ReachLaw =
    (relocs : List Reloc) (old : List ℕ) (base : ℕ) (values : Values) (veneers : Veneers) (new : List ℕ) (k : ℕ) (r : Reloc) (thumb : Bool)
    (view : View) (region : Range32) (area_at : ℕ → ℕ → ℕ)
    → AreaPatched relocs old base values veneers new → slice_get relocs k ≡ Some r → kind_of r ≡ Branch thumb → Shows view base new
    → VeneersStand view region area_at veneers → StandsTo area_at values (first_symbol (directives relocs (field_of r)))
    → Reaches view region thumb (base + (field_of r).place)
    (total (base + (field_of r).place + pc_offset thumb + biased_displacement thumb (word_in old (field_of r).place)) (added values (directives relocs (field_of r)))
    (bias thumb + taken base (directives relocs (field_of r))))
    (state_to thumb values (first_symbol (directives relocs (field_of r))))

-- ---- veneers

pub record VeneerLaw : Type 0 where
  -- a veneer's bytes read as its instructions
  pub reads : (view : View) (v target : ℕ) (state : Bool) (bytes : List ℕ) → Shows view v bytes → HasVeneer v target state bytes → IsVeneer view v target state
  -- a veneer has at most one spelling
  pub once : (v target : ℕ) (state : Bool) (bytes other : List ℕ) → HasVeneer v target state bytes → HasVeneer v target state other → bytes ≡ other
