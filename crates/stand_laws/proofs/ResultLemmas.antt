-- What results that are put together say of their parts.
use Rattle.std.proofs.Common.{◌≡◌, refl}
use Rattle.std.specs.Prelude.{Result, Ok, Err}
use Rattle.sdt_fault.specs.declared.kinds.LineKind.{LineKind}
use Rattle.asm_model.specs.Readings.{and_then, mapped, on_both}

abbrev pub ok_or : {A : Type 0} → A → Result A LineKind → A
ok_or a (Ok x) = x
ok_or a (Err k) = a

pub record Both {A B C : Type 0} (f : A → B → C) (r : Result A LineKind) (q : Result B LineKind) (z : C) : Type 0 where
  pub first : A
  pub second : B
  pub is_first : r ≡ Ok first
  pub is_second : q ≡ Ok second
  pub gives : f first second ≡ z

pub both_ok : {A B C : Type 0} → (f : A → B → C) (r : Result A LineKind) (q : Result B LineKind) (z : C) → on_both f r q ≡ Ok z → Both f r q z
both_ok f (Ok a) (Ok b) z e = record { first = a; second = b; is_first = refl; is_second = refl; gives = cc }
both_ok f (Ok a) (Err k) z e = absurd (cc)
both_ok f (Err k) (Ok b) z e = absurd (cc)
both_ok f (Err k) (Err j) z e = absurd (cc)

pub record Mapped {A B : Type 0} (f : A → B) (r : Result A LineKind) (z : B) : Type 0 where
  pub from : A
  pub is : r ≡ Ok from
  pub gives : f from ≡ z

pub mapped_ok : {A B : Type 0} → (f : A → B) (r : Result A LineKind) (z : B) → mapped f r ≡ Ok z → Mapped f r z
mapped_ok f (Ok a) z e = record { from = a; is = refl; gives = cc }
mapped_ok f (Err k) z e = absurd (cc)

pub record Behind {A B : Type 0} (f : A → Result B LineKind) (r : Result A LineKind) (z : B) : Type 0 where
  pub from : A
  pub is : r ≡ Ok from
  pub gives : f from ≡ Ok z

pub then_ok : {A B : Type 0} → (f : A → Result B LineKind) (r : Result A LineKind) (z : B) → and_then r f ≡ Ok z → Behind f r z
then_ok f (Ok a) z e = record { from = a; is = refl; gives = e }
then_ok f (Err k) z e = absurd (cc)
