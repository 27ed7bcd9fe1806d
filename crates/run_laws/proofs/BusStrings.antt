-- A string that lies off the work area is printed alike.
use Rattle.std.proofs.Common.{eqb-true, ◌≡◌, ◌≢◌, ℕ, zero, suc, ◌+◌, ◌%◌, ◌^◌, ◌<◌, ◌≤◌, ◌==◌, Bool, true, false, List, [], ◌∷◌, ◌++◌, Option, None, Some, refl, sym, ap, subst, ◌∙◌, arith, cond}
use Rattle.std.proofs.lemmas.Bool.{eqb-false}
use Rattle.std.specs.Prelude.{unwrap_or}
use Rattle.std.specs.Prelude.{MatchBool}
use Rattle.arm7_model.specs.declared.state.ArmState.{ArmState}
use Rattle.arm7_model.specs.declared.event.Event.{Event}
use Rattle.arm7_model.specs.declared.event.Event.TheVariants as event
use Rattle.arm7_model.specs.Registers.{register}
use Rattle.arm7_bus.specs.States.{Contents, State, bank_has, peeked}
use Rattle.arm7_run.specs.Runs.{GoesOn}
use Rattle.arm7_run.specs.Strings.{HasByte, IsString, byte_behind, bytes_behind}
use Rattle.kit_laws.specs.Beside.{Scratch, with_irq}
use Rattle.kit_laws.specs.Rules.{IsOff, HasOwnString}
use Rattle.kit_laws.proofs.BesideMemory.{off-store}
use Rattle.run_laws.proofs.BusBeside.{beside_contents}

module _ (work : ℕ) (k : Scratch) (c d : Contents) (same : d ≡ beside_contents work k d.stores c) (a : ℕ) where
  -- a byte off the work area
  alike-at : (i : ℕ) → IsOff work ((a + i) % 2 ^ 32) → byte_behind d a i ≡ byte_behind c a i
  alike-at i off =
      ap (λ (x : Contents). peeked x ((a + i) % 2 ^ 32)) same
      ∙ ap (λ (v : ℕ). cond (bank_has c.banks ((a + i) % 2 ^ 32) 1) (Some v) None) (off-store c.memory work k ((a + i) % 2 ^ 32) off)

  -- a byte that is there and isn't zero
  not-zero : (i : ℕ) → HasByte c a i → c.memory ((a + i) % 2 ^ 32) ≢ 0
  not-zero i h = go (bank_has c.banks ((a + i) % 2 ^ 32) 1) h.there
    where
      go : (b : Bool) → cond b (Some (c.memory ((a + i) % 2 ^ 32))) None ≡ Some h.byte → c.memory ((a + i) % 2 ^ 32) ≢ 0
      go true e z = let f : c.memory ((a + i) % 2 ^ 32) ≡ h.byte = cc in h.not_zero (sym f ∙ z)
      go false e z = absurd cc

  has-byte : (i : ℕ) → IsOff work ((a + i) % 2 ^ 32) → HasByte d a i → HasByte c a i
  has-byte i off h = record { byte = h.byte; there = sym (alike-at i off) ∙ h.there; not_zero = h.not_zero }

  module _ (own : (n : ℕ) → n < 2 ^ 32 → ((i : ℕ) → i < n → c.memory ((a + i) % 2 ^ 32) ≢ 0) → IsOff work ((a + n) % 2 ^ 32)) where
    one-more : (m : ℕ) → suc m < 2 ^ 32 → ((i : ℕ) → i < suc m → HasByte d a i) → ((i : ℕ) → i ≤ m → IsOff work ((a + i) % 2 ^ 32))
        → (i : ℕ) → i ≤ suc m → IsOff work ((a + i) % 2 ^ 32)
    one-more m lt each before i le = go (i == suc m) refl
      where
        here : IsOff work ((a + suc m) % 2 ^ 32)
        here = own (suc m) lt (λ j h. not-zero j (has-byte j (before j (omega arith)) (each j h)))

        go : (b : Bool) → (i == suc m) ≡ b → IsOff work ((a + i) % 2 ^ 32)
        go true e = let f : i ≡ suc m = eqb-true i (suc m) e in subst (λ (j : ℕ). IsOff work ((a + j) % 2 ^ 32)) (sym f) here
        go false e = let f = eqb-false i (suc m) e in before i (omega arith)

    -- the first m bytes lie off the work area, and the next one too
    off-below : (m : ℕ) → m < 2 ^ 32 → ((i : ℕ) → i < m → HasByte d a i) → (i : ℕ) → i ≤ m → IsOff work ((a + i) % 2 ^ 32)
    off-below zero lt each i le = let e : i ≡ 0 = omega arith in subst (λ (j : ℕ). IsOff work ((a + j) % 2 ^ 32)) (sym e) (own 0 (omega arith) (λ j h. absurd (omega arith)))
    off-below (suc m) lt each i le = one-more m lt each (off-below m (omega arith) (λ j h. each j (omega arith))) i le

    bytes-alike : (n : ℕ) → ((i : ℕ) → i < n → IsOff work ((a + i) % 2 ^ 32)) → bytes_behind d a n ≡ bytes_behind c a n
    bytes-alike zero off = refl
    bytes-alike (suc n) off =
        ap (λ (l : List ℕ). l ++ unwrap_or (byte_behind d a n) 0 ∷ []) (bytes-alike n (λ i h. off i (omega arith)))
        ∙ ap (λ (o : Option ℕ). bytes_behind c a n ++ unwrap_or o 0 ∷ []) (alike-at n (off n (omega arith)))

    pub string-alike : (piece : List ℕ) → IsString d a piece → IsString c a piece
    string-alike piece (n, reaches, is) = (
      n,
      record {
        most = reaches.most;
        each = λ i h. has-byte i (off i h) (reaches.each i h);
        ended = λ h. sym (alike-at n (off-below n h reaches.each n (omega arith))) ∙ reaches.ended h;
      },
      is ∙ bytes-alike n off,
    )
      where
        off : (i : ℕ) → i < n → IsOff work ((a + i) % 2 ^ 32)
        off i h = let most = reaches.most in off-below i (omega arith) (λ j g. reaches.each j (omega arith)) i (omega arith)

-- what a step prints
pub prints-alike : (work : ℕ) (k : Scratch) (core : ArmState) (q t : State) (e : Event) (piece : List ℕ) → t.contents ≡ beside_contents work k t.contents.stores q.contents
    → (e ≡ event.Host 0x02 → HasOwnString work (record { core = core; memory = q.contents.memory }))
    → GoesOn e (with_irq k core) t piece → GoesOn e core q piece
unfolding register with_irq
prints-alike work k core q t event.Ran piece same own on = on
prints-alike work k core q t (event.Took x) piece same own on = on
prints-alike work k core q t (event.Host n) piece same own on = go (n == 0x00) (n == 0x02) refl (n == 0x11) on
  where
    a : ℕ
    a = register core 0

    go : (x y : Bool) → (n == 0x02) ≡ y → (z : Bool)
        → MatchBool x (piece ≡ register core 0 % 256 ∷ []) (MatchBool y (IsString t.contents (register core 0) piece) (MatchBool z ⊥ (piece ≡ [])))
        → MatchBool x (piece ≡ register core 0 % 256 ∷ []) (MatchBool y (IsString q.contents (register core 0) piece) (MatchBool z ⊥ (piece ≡ [])))
    go true y e z h = h
    go false true e z h = string-alike work k q.contents t.contents same (register core 0) (own (ap event.Host (eqb-true n 2 e))) piece h
    go false false e true h = h
    go false false e false h = h
prints-alike work k core q t (event.Unpredictable w) piece same own on = on
prints-alike work k core q t (event.NoFrame a) piece same own on = on
