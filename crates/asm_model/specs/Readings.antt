-- Two readings of one line, each with a value or the kind of its faults that is told: where both have faults, the earlier
-- kind in the order of the kinds is told. This project's.
use Rattle.std.specs.Prelude.{Result, Ok, Err}
use Rattle.sdt_fault.specs.declared.kinds.LineKind.{LineKind}
use Rattle.asm_model.specs.Kinds.{earlier}

-- what is made of a value
abbrev pub mapped : {A B : Type 0} → (A → B) → Result A LineKind → Result B LineKind
mapped f (Ok a) = Ok (f a)
mapped f (Err k) = Err k

-- what is read with a value
abbrev pub and_then : {A B : Type 0} → Result A LineKind → (A → Result B LineKind) → Result B LineKind
and_then (Ok a) f = f a
and_then (Err k) f = Err k

-- what is read with two values
abbrev pub then_both : {A B C : Type 0} → Result A LineKind → Result B LineKind → (A → B → Result C LineKind) → Result C LineKind
then_both (Ok a) (Ok b) f = f a b
then_both (Ok a) (Err k) f = Err k
then_both (Err k) (Ok b) f = Err k
then_both (Err k) (Err j) f = Err (earlier k j)

-- what is made of two values
abbrev pub on_both : {A B C : Type 0} → (A → B → C) → Result A LineKind → Result B LineKind → Result C LineKind
on_both f a b = then_both a b (λ x y. Ok (f x y))

-- two values
abbrev pub both : {A B : Type 0} → Result A LineKind → Result B LineKind → Result (A × B) LineKind
both a b = on_both (λ x y. (x, y)) a b
