-- The earlier of two kinds, and two readings of which each may have one.
use Rattle.std.proofs.Common.{◌≡◌, ℕ, ◌≤◌, Bool, true, false, refl, sym, ◌∙◌, ap, arith, inl, inr}
use Rattle.std.specs.Prelude.{◌⊎◌, Result, Ok, Err, nat_lt}
use Rattle.std.proofs.lemmas.Bool.{cond-true, cond-false, ltb-true, ltb-false, lt-ltb, le-ltb}
use Rattle.sdt_fault.specs.declared.kinds.LineKind.{LineKind}
use Rattle.asm_model.specs.Kinds.{rank, earlier}
use Rattle.asm_model.specs.Readings.{on_both}

pub takes : (a b : LineKind) → nat_lt (rank b) (rank a) ≡ true → earlier a b ≡ b
takes a b h = cond-true (nat_lt (rank b) (rank a)) b a h

pub stays : (a b : LineKind) → nat_lt (rank b) (rank a) ≡ false → earlier a b ≡ a
stays a b h = cond-false (nat_lt (rank b) (rank a)) b a h

-- the earlier of two is one of them, and no later than both
pub record IsEarlier (a b c : LineKind) : Type 0 where
  pub one : (c ≡ a) ⊎ (c ≡ b)
  pub first : rank c ≤ rank a
  pub second : rank c ≤ rank b

pub is_earlier : (a b : LineKind) → IsEarlier a b (earlier a b)
is_earlier a b = by_test (nat_lt (rank b) (rank a)) refl
  where
    by_test : (t : Bool) → nat_lt (rank b) (rank a) ≡ t → IsEarlier a b (earlier a b)
    by_test true t =
        let before = ltb-true (rank b) (rank a) t in
        rw (takes a b t) (record { one = inr refl; first = omega arith; second = omega arith })
    by_test false t =
        let behind = ltb-false (rank b) (rank a) t in
        rw (stays a b t) (record { one = inl refl; first = omega arith; second = omega arith })

pub below_trans : (x y z : ℕ) → nat_lt y x ≡ true → nat_lt z y ≡ true → nat_lt z x ≡ true
below_trans x y z h k = let a = ltb-true y x h in let b = ltb-true z y k in lt-ltb z x (omega arith)

pub above_trans : (x y z : ℕ) → nat_lt y x ≡ false → nat_lt z y ≡ false → nat_lt z x ≡ false
above_trans x y z h k = let a = ltb-false y x h in let b = ltb-false z y k in le-ltb z x (omega arith)

pub earlier_assoc : (a b c : LineKind) → earlier a (earlier b c) ≡ earlier (earlier a b) c
earlier_assoc a b c = by_tests (nat_lt (rank b) (rank a)) (nat_lt (rank c) (rank b)) refl refl
  where
    by_tests : (p q : Bool) → nat_lt (rank b) (rank a) ≡ p → nat_lt (rank c) (rank b) ≡ q → earlier a (earlier b c) ≡ earlier (earlier a b) c
    by_tests true true p q =
        ap (earlier a) (takes b c q) ∙ takes a c (below_trans (rank a) (rank b) (rank c) p q) ∙ sym (takes b c q) ∙ ap (λ x. earlier x c) (sym (takes a b p))
    by_tests true false p q = ap (earlier a) (stays b c q) ∙ takes a b p ∙ sym (stays b c q) ∙ ap (λ x. earlier x c) (sym (takes a b p))
    by_tests false true p q = ap (earlier a) (takes b c q) ∙ ap (λ x. earlier x c) (sym (stays a b p))
    by_tests false false p q =
        ap (earlier a) (stays b c q) ∙ stays a b p ∙ sym (stays a c (above_trans (rank a) (rank b) (rank c) p q)) ∙ ap (λ x. earlier x c) (sym (stays a b p))

-- of three readings it doesn't count which two are joined first
pub both_assoc : {A B C D E F : Type 0} (r : Result A LineKind) (q : Result B LineKind) (s : Result C LineKind)
    → (f : A → B → D) (g : D → C → F) (h : B → C → E) (k : A → E → F) → ((a : A) (b : B) (c : C) → k a (h b c) ≡ g (f a b) c)
    → on_both k r (on_both h q s) ≡ on_both g (on_both f r q) s
both_assoc (Ok a) (Ok b) (Ok c) f g h k same = ap Ok (same a b c)
both_assoc (Ok a) (Ok b) (Err i) f g h k same = refl
both_assoc (Ok a) (Err i) (Ok c) f g h k same = refl
both_assoc (Ok a) (Err i) (Err j) f g h k same = refl
both_assoc (Err i) (Ok b) (Ok c) f g h k same = refl
both_assoc (Err i) (Ok b) (Err j) f g h k same = refl
both_assoc (Err i) (Err j) (Ok c) f g h k same = refl
both_assoc (Err i) (Err j) (Err l) f g h k same = ap Err (earlier_assoc i j l)
