-- What is asked of readings without a fault, and of rows.
use Rattle.std.proofs.Common.{◌≡◌, Bool, true, false, cond, sym, subst, Option, Some, None}
use Rattle.std.specs.Prelude.{Result, Ok, Err}
use Rattle.sdt_fault.specs.declared.kinds.LineKind.{LineKind}
use Rattle.asm_model.specs.Directives.{or_else}
use Rattle.asm_model.specs.Readings.{and_then, mapped, on_both}

abbrev pub Gives : {A : Type 0} → (A → Type 0) → Result A LineKind → Type 0
Gives P (Ok a) = P a
Gives P (Err k) = Unit {0}

abbrev pub OptionGives : {A : Type 0} → (A → Type 0) → Option A → Type 0
OptionGives P None = Unit {0}
OptionGives P (Some a) = P a

pub any_gives : {A : Type 0} (r : Result A LineKind) → Gives (λ a. Unit {0}) r
any_gives (Ok a) = tt
any_gives (Err k) = tt

pub equal_gives : {A : Type 0} (P : A → Type 0) (r s : Result A LineKind) → r ≡ s → Gives P s → Gives P r
equal_gives P r s e h = subst (Gives P) (sym e) h

pub fault_gives : {A : Type 0} (P : A → Type 0) (k : LineKind) (r : Result A LineKind) → r ≡ Err k → Gives P r
fault_gives P k r e = equal_gives P r (Err k) e tt

pub mapped_gives : {A B : Type 0} (P : A → Type 0) (Q : B → Type 0) (make : A → B) (r : Result A LineKind)
    → ((a : A) → P a → Q (make a)) → Gives P r → Gives Q (mapped make r)
mapped_gives P Q make (Ok a) f h = f a h
mapped_gives P Q make (Err k) f h = tt

-- a reading of a reading
pub followed_gives : {A B : Type 0} (P : A → Type 0) (Q : B → Type 0) (r : Result A LineKind) (f : A → Result B LineKind)
    → ((a : A) → P a → Gives Q (f a)) → Gives P r → Gives Q (and_then r f)
followed_gives P Q (Ok a) f g h = g a h
followed_gives P Q (Err k) f g h = tt

pub both_give : {A B C : Type 0} (P : A → Type 0) (Q : B → Type 0) (R : C → Type 0) (make : A → B → C) (x : Result A LineKind) (y : Result B LineKind)
    → ((a : A) (b : B) → P a → Q b → R (make a b)) → Gives P x → Gives Q y → Gives R (on_both make x y)
both_give P Q R make (Ok a) (Ok b) f h k = f a b h k
both_give P Q R make (Ok a) (Err j) f h k = tt
both_give P Q R make (Err i) (Ok b) f h k = tt
both_give P Q R make (Err i) (Err j) f h k = tt

pub cond_gives : {A : Type 0} (P : A → Type 0) (b : Bool) (x y : Result A LineKind) → Gives P x → Gives P y → Gives P (cond b x y)
cond_gives P true x y h k = h
cond_gives P false x y h k = k

pub or_else_gives : {A : Type 0} (P : A → Type 0) (x y : Option A) → OptionGives P x → OptionGives P y → OptionGives P (or_else x y)
or_else_gives P (Some a) y h k = h
or_else_gives P None y h k = k

pub option_gives : {A : Type 0} (P : A → Type 0) (b : Bool) (x y : Option A) → OptionGives P x → OptionGives P y → OptionGives P (cond b x y)
option_gives P true x y h k = h
option_gives P false x y h k = k
