-- A number that no device has takes none out.
use Rattle.std.proofs.Common.{◌≡◌, ◌∙◌, ℕ, suc, ◌<◌, ◌≤◌, Bool, true, false, List, [], ◌++◌, length, take, drop, Result, Ok, Err, refl, sym, ap, subst, take_all, drop_of_length-le, arith, leb-true, leb-false, nat_le}
use Rattle.std.specs.Prelude.{◌↔◌, IsOk, OnErr, OnOk, remove}
use Rattle.std.proofs.lemmas.List.{append-nil}
use Rattle.arm7_bus.specs.Buses.{after_detach}
use Rattle.arm7_bus.specs.Seats.{Seat}
use Rattle.arm7_bus.specs.States.{State}
use Rattle.arm7_transfers.specs.Ready.{IsReady}
use Rattle.arm7_core.proofs.ReadyBuses.{ready-detach}

beyond : (ds : List Seat) (i : ℕ) → length ds ≤ i → remove ds i ≡ ds
beyond ds i le =
    let past : length ds ≤ suc i = omega arith in
    ap (λ (rest : List Seat). take i ds ++ rest) (drop_of_length-le ds past) ∙ append-nil (take i ds) ∙ take_all i ds le

module _ {E : Type 0} where
  pub detached : (s t : State) (i : ℕ) (r : Result Unit E) → (IsOk r ↔ (i < length s.devices)) → OnOk r (t ≡ after_detach s i) → OnErr r (t ≡ s) → t ≡ after_detach s i
  detached s t i (Ok x) answer ok err = ok
  detached s t i (Err e) answer ok err = go (nat_le (length s.devices) i) refl
    where
      go : (b : Bool) → nat_le (length s.devices) i ≡ b → t ≡ after_detach s i
      go true h = err ∙ sym (ap (λ (ds : List Seat). record s { devices = ds }) (beyond s.devices i (leb-true (length s.devices) i h)))
      go false h = absurd (let bad : false ≡ true = answer.1 (leb-false (length s.devices) i h) in cc)

  pub ready_detached : (s t : State) (i : ℕ) (r : Result Unit E) → IsReady s → (IsOk r ↔ (i < length s.devices)) → OnOk r (t ≡ after_detach s i) → OnErr r (t ≡ s) → IsReady t
  ready_detached s t i r ready answer ok err = subst (λ (x : State). IsReady x) (sym (detached s t i r answer ok err)) (ready-detach s i ready)
