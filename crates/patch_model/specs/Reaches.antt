-- How a branch reaches what it names: itself, or by a veneer (ARM Architecture Reference Manual, the encodings of
-- branches, LDR, BX and MOV; the veneers' instructions are this project's).
use Rattle.std.specs.Prelude.{◌≡◌, ◌≢◌, ◌⊎◌, ℕ, suc, ◌+◌, ◌*◌, ◌%◌, ◌^◌, ◌<◌, Bool, true, false, List, [], ◌∷◌, ◌++◌, Option, Some}
use Rattle.sdt_word.specs.Bytes.{bytes_of}
use Rattle.sdt_word.specs.Numbers.{sign_extended}
use Rattle.sdt_word.specs.Ranges.{Covers}
use Rattle.sdt_word.specs.declared.ranges.Range32.{Range32}
use Rattle.sdt_word.specs.declared.codes.Condition.{Condition}
use Rattle.sdt_word.specs.declared.codes.Condition.TheVariants.{Al}
use Rattle.arm_isa.specs.ArmRows.{ReadsArm}
use Rattle.arm_isa.specs.declared.instr.ArmInstr.TheVariants as arm
use Rattle.thumb_isa.specs.ThumbRows.{ReadsThumb}
use Rattle.thumb_isa.specs.declared.instr.ThumbInstr.TheVariants as thumb
use Rattle.thumb_isa.specs.declared.instr.HighOperation.TheVariants as high
use Rattle.patch_model.specs.Fields.{Home}
use Rattle.patch_model.specs.Patched.{Veneers, biased_displacement, bias, pc_offset}

-- what is seen of memory
abbrev pub View : Type 0
View = ℕ → Option ℕ

-- the bytes from an address on
abbrev pub Shows : View → ℕ → List ℕ → Type 0
Shows view a [] = Unit {0}
Shows view a (b ∷ bs) = (view a ≡ Some b) × Shows view (suc a) bs

abbrev pub ShowsWord : View → ℕ → ℕ → Type 0
ShowsWord view a w = Shows view a (bytes_of w 4)

abbrev pub ShowsHalf : View → ℕ → ℕ → Type 0
ShowsHalf view a h = Shows view a (bytes_of h 2)

-- ---- branches, with the address that each leads to

-- B or BL, with any condition
pub record ArmBranch (view : View) (a target : ℕ) : Type 0 where
  pub condition : Condition
  pub link : Bool
  pub field : ℕ
  pub word : ℕ
  pub shows : ShowsWord view a word
  pub reads : ReadsArm word (arm.Branch condition link field)
  pub leads : (a + 8 + sign_extended field 24 * 4) % 2 ^ 32 ≡ target % 2 ^ 32

-- the pair of BL
pub record ThumbPair (view : View) (a target : ℕ) : Type 0 where
  pub first : ℕ
  pub second : ℕ
  pub high_half : ℕ
  pub low_half : ℕ
  pub shows_high : ShowsHalf view a high_half
  pub shows_low : ShowsHalf view (a + 2) low_half
  pub reads_high : ReadsThumb high_half (thumb.BranchLink false first)
  pub reads_low : ReadsThumb low_half (thumb.BranchLink true second)
  pub leads : (a + 4 + sign_extended (first * 2 ^ 11 + second) 22 * 2) % 2 ^ 32 ≡ target % 2 ^ 32

-- B, and B with a condition
pub record ThumbBranch (view : View) (a target : ℕ) : Type 0 where
  pub field : ℕ
  pub half : ℕ
  pub shows : ShowsHalf view a half
  pub reads : ReadsThumb half (thumb.Branch field)
  pub leads : (a + 4 + sign_extended field 11 * 2) % 2 ^ 32 ≡ target % 2 ^ 32

pub record ThumbConditional (view : View) (a target : ℕ) : Type 0 where
  pub condition : Condition
  pub field : ℕ
  pub half : ℕ
  pub shows : ShowsHalf view a half
  pub reads : ReadsThumb half (thumb.BranchConditional condition field)
  pub leads : (a + 4 + sign_extended field 8 * 2) % 2 ^ 32 ≡ target % 2 ^ 32

-- the branch at an address, in ARM or, where true, Thumb state
abbrev pub BranchesTo : View → Bool → ℕ → ℕ → Type 0
BranchesTo view false a target = ArmBranch view a target
BranchesTo view true a target = ThumbPair view a target ⊎ ThumbBranch view a target ⊎ ThumbConditional view a target

-- ---- veneers

-- LDR r12 from the word behind the next, BX r12, and the target, which is even, with bit 0 set
pub record VeneerToThumb (view : View) (v target : ℕ) : Type 0 where
  pub even : target % 2 ≡ 0
  pub load : ℕ
  pub exchange : ℕ
  pub shows_load : ShowsWord view v load
  pub shows_exchange : ShowsWord view (v + 4) exchange
  pub shows_target : ShowsWord view (v + 8) ((target + 1) % 2 ^ 32)
  pub reads_load : ReadsArm load (arm.TransferImmediate Al true true false false true 15 12 0)
  pub reads_exchange : ReadsArm exchange (arm.BranchExchange Al 12)

-- BX pc, a MOV that does nothing, and B to the target in ARM state, at a whole word
pub record VeneerToArm (view : View) (v target : ℕ) : Type 0 where
  pub aligned : v % 4 ≡ 0
  pub exchange : ℕ
  pub nothing : ℕ
  pub branch : ℕ
  pub field : ℕ
  pub shows_exchange : ShowsHalf view v exchange
  pub shows_nothing : ShowsHalf view (v + 2) nothing
  pub shows_branch : ShowsWord view (v + 4) branch
  pub reads_exchange : ReadsThumb exchange (thumb.HighRegister high.Bx false true 7 0)
  pub reads_nothing : ReadsThumb nothing (thumb.HighRegister high.Mov true true 0 0)
  pub reads_branch : ReadsArm branch (arm.Branch Al false field)
  pub leads : (v + 12 + sign_extended field 24 * 4) % 2 ^ 32 ≡ target % 2 ^ 32

-- a veneer of a target, entered in the other state than the target's, which is Thumb where true
abbrev pub IsVeneer : View → ℕ → ℕ → Bool → Type 0
IsVeneer view v target true = VeneerToThumb view v target
IsVeneer view v target false = VeneerToArm view v target

-- the bytes of a veneer to ARM code, whose branch has this field
pub record HasArmVeneer (v target : ℕ) (bytes : List ℕ) : Type 0 where
  pub aligned : v % 4 ≡ 0
  pub field : ℕ
  pub fits : field < 2 ^ 24
  pub contents : bytes ≡ bytes_of 0x4778 2 ++ bytes_of 0x46C0 2 ++ bytes_of (0xEA000000 + field) 4
  pub leads : (v + 4 + pc_offset false + biased_displacement false (0xEA000000 + field)) % 2 ^ 32 ≡ (target + bias false) % 2 ^ 32

-- the bytes of a veneer to Thumb code
pub record HasThumbVeneer (target : ℕ) (bytes : List ℕ) : Type 0 where
  pub even : target % 2 ≡ 0
  pub contents : bytes ≡ bytes_of 0xE59FC000 4 ++ bytes_of 0xE12FFF1C 4 ++ bytes_of ((target + 1) % 2 ^ 32) 4

-- the bytes of a veneer at an address
abbrev pub HasVeneer : ℕ → ℕ → Bool → List ℕ → Type 0
HasVeneer v target true bytes = HasThumbVeneer target bytes
HasVeneer v target false bytes = HasArmVeneer v target bytes

-- the veneers stand in the region, each with the target's address, by the addresses of areas
abbrev pub VeneersStand : View → Range32 → (ℕ → ℕ → ℕ) → Veneers → Type 0
VeneersStand view region area_at veneers =
    (target : Home) (state : Bool) (v : ℕ) → veneers target state ≡ Some v
    → Covers region v × IsVeneer view v ((area_at target.object target.area + target.offset) % 2 ^ 32) state

-- ---- reaching

-- by a veneer in the branch's own region
pub record ByVeneer (view : View) (region : Range32) (from : Bool) (a target : ℕ) (state : Bool) : Type 0 where
  pub veneer : ℕ
  pub leads : BranchesTo view from a veneer
  pub own : Covers region veneer
  pub enters : IsVeneer view veneer target state
  pub other : from ≢ state

-- the branch in a state at an address leads to the target and keeps the target's state, or goes by a veneer
abbrev pub Reaches : View → Range32 → Bool → ℕ → ℕ → Bool → Type 0
Reaches view region from a target state =
    (BranchesTo view from a target × (from ≡ state)) ⊎ ByVeneer view region from a target state
