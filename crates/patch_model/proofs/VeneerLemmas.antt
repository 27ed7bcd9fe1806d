-- A veneer's bytes read as its instructions.
use Rattle.std.proofs.Common.{◌≡◌, ℕ, suc, ◌+◌, ◌%◌, ◌^◌, ◌<◌, Bool, true, false, List, [], ◌∷◌, ◌++◌, length, sym, ap, subst, ◌∙◌, arith}
use Rattle.sdt_word.specs.Bytes.{bytes_of}
use Rattle.sdt_word.specs.declared.codes.Condition.TheVariants.{Al}
use Rattle.arm_isa.specs.ArmRows.{ReadsArm}
use Rattle.arm_isa.specs.declared.instr.ArmInstr.TheVariants as arm
use Rattle.thumb_isa.specs.ThumbRows.{ReadsThumb}
use Rattle.thumb_isa.specs.declared.instr.ThumbInstr.TheVariants as thumb
use Rattle.thumb_isa.specs.declared.instr.HighOperation.TheVariants as high
use Rattle.patch_model.specs.Patched.{biased_displacement, bias, pc_offset}
use Rattle.patch_model.proofs.BranchLemmas.{displacement_arm}
use Rattle.patch_model.specs.Laws.{VeneerLaw}
use Rattle.patch_model.specs.Reaches.{View, Shows, VeneerToThumb, VeneerToArm, IsVeneer, HasVeneer}

reads_load : ReadsArm 0xE59FC000 (arm.TransferImmediate Al true true false false true 15 12 0)
reads_load = grind arith

reads_exchange : ReadsArm 0xE12FFF1C (arm.BranchExchange Al 12)
reads_exchange = grind arith

reads_thumb_exchange : ReadsThumb 0x4778 (thumb.HighRegister high.Bx false true 7 0)
reads_thumb_exchange = grind arith

reads_nothing : ReadsThumb 0x46C0 (thumb.HighRegister high.Mov true true 0 0)
reads_nothing = grind arith

reads_branch : (field : ℕ) → field < 2 ^ 24 → ReadsArm (0xEA000000 + field) (arm.Branch Al false field)
reads_branch field h = grind arith

pub shows_parts : (view : View) (a : ℕ) (xs ys : List ℕ) → Shows view a (xs ++ ys) → Shows view a xs × Shows view (a + length xs) ys
shows_parts view a [] ys shows = let At : ℕ → Type 0 = λ n. Shows view n ys in let e : a ≡ a + 0 = omega arith in (tt, subst At e shows)
shows_parts view a (x ∷ xs) ys (here, rest) =
    let parts = shows_parts view (suc a) xs ys rest in
    let At : ℕ → Type 0 = λ n. Shows view n ys in
    let e : suc a + length xs ≡ a + length (x ∷ xs) = omega arith in
    ((here, parts.0), subst At e parts.1)

to_thumb : (view : View) (v target : ℕ) → target % 2 ≡ 0 → Shows view v (bytes_of 0xE59FC000 4 ++ bytes_of 0xE12FFF1C 4 ++ bytes_of ((target + 1) % 2 ^ 32) 4) → VeneerToThumb view v target
to_thumb view v target even shows =
    let first = shows_parts view v (bytes_of 0xE59FC000 4 ++ bytes_of 0xE12FFF1C 4) (bytes_of ((target + 1) % 2 ^ 32) 4) shows in
    let second = shows_parts view v (bytes_of 0xE59FC000 4) (bytes_of 0xE12FFF1C 4) first.0 in
    record {
      even = even;
      load = 0xE59FC000;
      exchange = 0xE12FFF1C;
      shows_load = second.0;
      shows_exchange = second.1;
      shows_target = first.1;
      reads_load = reads_load;
      reads_exchange = reads_exchange;
    }

to_arm : (view : View) (v field target : ℕ) → v % 4 ≡ 0 → Shows view v (bytes_of 0x4778 2 ++ bytes_of 0x46C0 2 ++ bytes_of (0xEA000000 + field) 4) → field < 2 ^ 24
    → (v + 4 + pc_offset false + biased_displacement false (0xEA000000 + field)) % 2 ^ 32 ≡ (target + bias false) % 2 ^ 32 → VeneerToArm view v target
to_arm view v field target aligned shows small leads =
    let first = shows_parts view v (bytes_of 0x4778 2 ++ bytes_of 0x46C0 2) (bytes_of (0xEA000000 + field) 4) shows in
    let second = shows_parts view v (bytes_of 0x4778 2) (bytes_of 0x46C0 2) first.0 in
    let low : (0xEA000000 + field) % 2 ^ 24 ≡ field = omega arith in
    let s = displacement_arm (v + 4) (0xEA000000 + field) in
    let t = rw low at s in
    record {
      aligned = aligned;
      exchange = 0x4778;
      nothing = 0x46C0;
      branch = 0xEA000000 + field;
      field = field;
      shows_exchange = second.0;
      shows_nothing = second.1;
      shows_branch = first.1;
      reads_exchange = reads_thumb_exchange;
      reads_nothing = reads_nothing;
      reads_branch = reads_branch field small;
      leads = omega arith;
    }

reads : (view : View) (v target : ℕ) (state : Bool) (bytes : List ℕ) → Shows view v bytes → HasVeneer v target state bytes → IsVeneer view v target state
reads view v target true bytes shows has = let Here : List ℕ → Type 0 = λ l. Shows view v l in to_thumb view v target has.even (subst Here has.contents shows)
reads view v target false bytes shows has =
    let Here : List ℕ → Type 0 = λ l. Shows view v l in to_arm view v has.field target has.aligned (subst Here has.contents shows) has.fits has.leads

field_once : (v target f g : ℕ) → f < 2 ^ 24 → g < 2 ^ 24 → (v + 4 + pc_offset false + biased_displacement false (0xEA000000 + f)) % 2 ^ 32 ≡ (target + bias false) % 2 ^ 32
    → (v + 4 + pc_offset false + biased_displacement false (0xEA000000 + g)) % 2 ^ 32 ≡ (target + bias false) % 2 ^ 32 → f ≡ g
field_once v target f g hf hg e d = omega arith

once : (v target : ℕ) (state : Bool) (bytes other : List ℕ) → HasVeneer v target state bytes → HasVeneer v target state other → bytes ≡ other
once v target true bytes other h g = h.contents ∙ sym g.contents
once v target false bytes other h g =
    h.contents ∙ ap (λ f. bytes_of 0x4778 2 ++ bytes_of 0x46C0 2 ++ bytes_of (0xEA000000 + f) 4) (field_once v target h.field g.field h.fits g.fits h.leads g.leads) ∙ sym g.contents

pub veneer_law : VeneerLaw
veneer_law = record { reads = reads; once = once }
