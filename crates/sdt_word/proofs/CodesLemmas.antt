-- A condition, a kind of shift and a truth value are found again by their numbers.
use Rattle.std.proofs.Common.{◌≡◌, ℕ, Bool, false, true, [], ◌∷◌, get_or, refl}
use Rattle.sdt_word.specs.Codes.{condition_code, shift_code}
use Rattle.sdt_word.specs.Numbers.{flag}
use Rattle.sdt_word.specs.declared.codes.Condition.{Condition}
use Rattle.sdt_word.specs.declared.codes.Condition.TheVariants.{Eq, Ne, Cs, Cc, Mi, Pl, Vs, Vc, Hi, Ls, Ge, Lt, Gt, Le, Al}
use Rattle.sdt_word.specs.declared.codes.ShiftKind.{ShiftKind}
use Rattle.sdt_word.specs.declared.codes.ShiftKind.TheVariants.{Lsl, Lsr, Asr, Ror}

pub condition_at : ℕ → Condition
condition_at n = get_or (Eq ∷ Ne ∷ Cs ∷ Cc ∷ Mi ∷ Pl ∷ Vs ∷ Vc ∷ Hi ∷ Ls ∷ Ge ∷ Lt ∷ Gt ∷ Le ∷ []) n Al

pub condition_at-code : (c : Condition) → condition_at (condition_code c) ≡ c
unfolding condition_at
condition_at-code Eq = refl
condition_at-code _ = refl

pub shift_at : ℕ → ShiftKind
shift_at n = get_or (Lsl ∷ Lsr ∷ Asr ∷ []) n Ror

pub shift_at-code : (t : ShiftKind) → shift_at (shift_code t) ≡ t
unfolding shift_at
shift_at-code Lsl = refl
shift_at-code _ = refl

pub flag_at : ℕ → Bool
flag_at n = get_or (false ∷ []) n true

pub flag_at-flag : (b : Bool) → flag_at (flag b) ≡ b
unfolding flag_at
flag_at-flag false = refl
flag_at-flag true = refl
