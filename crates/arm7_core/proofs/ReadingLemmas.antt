-- A word or a half-word reads as an instruction in one way at most.
use Rattle.std.proofs.Common.{◌≡◌, ℕ, List, [], ◌∷◌, ap, arith, inl, inr, subst}
use Rattle.std.specs.Prelude.{◌⊎◌}
use Rattle.std.proofs.Math.Logic.{∥∥₁_elim}
use Rattle.std.proofs.Props.{props}
use Rattle.sdt_word.specs.Rows.{FitsRow, Part}
use Rattle.sdt_word.specs.Rows.Part.{Digit, Field, Blank}
use Rattle.arm_isa.specs.ArmRows.{FitsConditions, ReadsArm, arm_fields, arm_row}
use Rattle.arm_isa.specs.declared.instr.ArmInstr.{ArmInstr}
use Rattle.arm_isa.specs.declared.instr.ArmInstr.TheVariants.{DataImmediate, DataShifted, DataRegisterShifted, Multiply, TransferHalf, Undefined}
use Rattle.thumb_isa.specs.ThumbRows.{FitsConditions as FitsThumb, ReadsThumb, thumb_fields, thumb_row}
use Rattle.thumb_isa.specs.declared.instr.ThumbInstr.{ThumbInstr}
use Rattle.thumb_isa.specs.declared.instr.ThumbInstr.TheVariants as thumb

row-prop : (row : List Part) (fields : List ℕ) → IsProp (FitsRow row fields)
row-prop [] [] = hlevel props
row-prop [] (x ∷ fields) = hlevel props
row-prop (Digit d ∷ row) fields = row-prop row fields
row-prop (Field letter n ∷ row) [] = hlevel props
row-prop (Field letter n ∷ row) (x ∷ fields) = hlevel (props, row-prop row fields)
row-prop (Blank ∷ row) fields = row-prop row fields

apart-prop : (A B : Type 0) → IsProp A → IsProp B → (A → B → ⊥) → IsProp (A ⊎ B)
apart-prop A B p q n (inl a) (inl b) = ap inl (p a b)
apart-prop A B p q n (inl a) (inr b) = absurd (n a b)
apart-prop A B p q n (inr a) (inl b) = absurd (n b a)
apart-prop A B p q n (inr a) (inr b) = ap inr (q a b)

conditions-prop : (i : ArmInstr) → IsProp (FitsConditions i)
conditions-prop (DataImmediate c o s n d r i) = hlevel props
conditions-prop (DataShifted c o s n d a t m) = hlevel props
conditions-prop (DataRegisterShifted c o s n d rs t m) = hlevel props
conditions-prop (Multiply c a s d n rs m) = hlevel props
conditions-prop (TransferHalf c p u e w l n d h y k) = hlevel props
conditions-prop (Undefined c u) =
    apart-prop _ _ (hlevel props) (apart-prop _ _ (hlevel props) (hlevel props) (λ a b. omega (arith, a, b)))
    (λ a b. omega (arith, a, b))
conditions-prop _ = hlevel props

reads-prop : (w : ℕ) (i : ArmInstr) → IsProp (ReadsArm w i)
reads-prop w i = hlevel (props, row-prop (arm_row i) (arm_fields i), conditions-prop i)

-- what an entry of the word reads as
pub reads_known : (w v : ℕ) (i : ArmInstr) → ∥ ReadsArm v i ∥₁ → v ≡ w → ReadsArm w i
reads_known w v i r e = subst (λ (w : ℕ). ReadsArm w i) e (∥∥₁_elim r (reads-prop v i) (λ r. r))

thumb_conditions-prop : (i : ThumbInstr) → IsProp (FitsThumb i)
thumb_conditions-prop (thumb.ShiftImmediate o i s d) = hlevel props
thumb_conditions-prop (thumb.HighRegister o h g s d) = hlevel props
thumb_conditions-prop (thumb.BranchConditional c i) = hlevel props
thumb_conditions-prop _ = hlevel props

thumb-prop : (h : ℕ) (i : ThumbInstr) → IsProp (ReadsThumb h i)
thumb-prop h i = hlevel (props, row-prop (thumb_row i) (thumb_fields i), thumb_conditions-prop i)

-- what an entry of the half-word reads as
pub half_known : (w h : ℕ) (i : ThumbInstr) → ∥ ReadsThumb h i ∥₁ → h ≡ w → ReadsThumb w i
half_known w h i r e = subst (λ (w : ℕ). ReadsThumb w i) e (∥∥₁_elim r (thumb-prop h i) (λ r. r))
