-- The board of a bus that is ready.
use Rattle.std.proofs.Common.{◌≡◌, ℕ, ◌+◌, ◌-◌, ◌%◌, ◌<◌, Bool, true, false, ◌||◌, List, [], ◌∷◌, refl, sym, ap, ◌∙◌, arith}
use Rattle.std.specs.Prelude.{◌&&◌}
use Rattle.sdt_word.specs.declared.codes.Width.TheVariants.{Word}
use Rattle.arm7_bus.specs.declared.memory.Bank.{Bank}
use Rattle.arm7_bus.specs.Meets.{seats_have}
use Rattle.arm7_bus.specs.Seats.{has_access}
use Rattle.arm7_bus.specs.States.{State, bank_has, protected_at}
use Rattle.arm7_transfers.specs.Boards.{board_of}
use Rattle.arm7_transfers.specs.Ready.{IsReady}
use Rattle.arm7_transfers.proofs.BoardLemmas.{bank-whole, seat-whole}
use Rattle.run_laws.specs.Laws.{BoardIsOne}

protected-there : (banks : List Bank) (a : ℕ) → protected_at banks a ≡ true → bank_has banks a 1 ≡ true
protected-there [] a e = e
protected-there (b ∷ bs) a e = go b.read_only (has_access b.range.base b.range.size a 1) (protected_at bs a) e (protected-there bs a)
  where
    go : (r h p : Bool) → ((r && h) || p) ≡ true → (p ≡ true → bank_has bs a 1 ≡ true) → (h || bank_has bs a 1) ≡ true
    go r true p e more = refl
    go true false p e more = more e
    go false false p e more = more e

whole : (a : ℕ) → (a - a % 4) % 4 ≡ 0
whole a = omega arith

below : (a : ℕ) → a % 4 < 4
below a = omega arith

sum : (a : ℕ) → a - a % 4 + a % 4 ≡ a
sum a = omega arith

banks-alike : (s : State) (a : ℕ) → IsReady s → bank_has s.contents.banks a 1 ≡ bank_has s.contents.banks (a - a % 4) 1
banks-alike s a r =
    let banks = s.contents.banks in
    let b = a - a % 4 in
    let start : b + 0 ≡ b = omega arith in
    ap (λ (x : ℕ). bank_has banks x 1) (sym (sum a))
    ∙ bank-whole banks b (a % 4) Word r.laid_out.banks (whole a) (below a)
    ∙ sym (bank-whole banks b 0 Word r.laid_out.banks (whole a) (omega arith))
    ∙ ap (λ (x : ℕ). bank_has banks x 1) start

seats-alike : (s : State) (a : ℕ) → IsReady s → seats_have s.devices a ≡ seats_have s.devices (a - a % 4)
seats-alike s a r =
    let b = a - a % 4 in
    let start : b + 0 ≡ b = omega arith in
    ap (λ (x : ℕ). seats_have s.devices x) (sym (sum a))
    ∙ seat-whole s.devices b (a % 4) Word r.laid_out.devices (whole a) (below a)
    ∙ sym (seat-whole s.devices b 0 Word r.laid_out.devices (whole a) (omega arith))
    ∙ ap (λ (x : ℕ). seats_have s.devices x) start

pub board-is-one : BoardIsOne
unfolding board_of
board-is-one s r = record {
  apart = r.laid_out.apart;
  protected = protected-there s.contents.banks;
  words_of_memory = λ a. banks-alike s a r;
  words_of_devices = λ a. seats-alike s a r;
}
