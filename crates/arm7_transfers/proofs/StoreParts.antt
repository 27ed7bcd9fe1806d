-- The store of one register, and the swap.
use Rattle.std.proofs.Common.{◌≡◌, ℕ, ◌%◌, ◌^◌, ◌<◌, Bool, true, false, not, List, [], ◌∷◌, ◌++◌, refl, sym, ap, ◌∙◌, append_assoc, append-nil}
use Rattle.std.specs.Prelude.{◌&&◌}
use Rattle.sdt_word.specs.declared.codes.Width.{Width}
use Rattle.sdt_word.specs.Codes.{bytes_in}
use Rattle.arm7_model.specs.declared.state.ArmState.{ArmState}
use Rattle.arm7_model.specs.Accesses.{Load, Store, aligned, after_load}
use Rattle.arm7_model.specs.Accesses.{after_store as model_store}
use Rattle.arm7_model.specs.Memory.{Board, is_there}
use Rattle.arm7_model.specs.Outcomes.{ran}
use Rattle.arm7_model.specs.Registers.{register, with_register, stored_at}
use Rattle.arm7_model.specs.Transfers.{stored, swapped, loaded_value}
use Rattle.arm7_bus.specs.Buses.{after_read, after_write, has_whole}
use Rattle.arm7_bus.specs.States.{State, Contents, is_protected}
use Rattle.arm7_transfers.specs.declared.outcome.Outcome.TheVariants as outcome
use Rattle.arm7_transfers.specs.Boards.{working}
use Rattle.arm7_transfers.specs.Done.{Part, Makes, Lacks}
use Rattle.arm7_transfers.specs.Frames.{lacks_frame, may_be_stored}
use Rattle.arm7_transfers.specs.Ready.{IsReady}
use Rattle.arm7_transfers.specs.Served.{given, value_at}
use Rattle.arm7_transfers.proofs.BoardLemmas.{there-whole, may-whole, reads, loads, contents-read}
use Rattle.arm7_transfers.proofs.ReadyLemmas.{ready-read, board-read}
use Rattle.arm7_transfers.proofs.DoneLemmas.{makes-nothing, aligned-whole}
use Rattle.arm7_transfers.proofs.StoreLemmas.{CanStore, can-store, stores-word, one-frame, one-least}
use Rattle.arm7_model.proofs.ValidThumb.{never as false-true}

abbrev pub store_part : Width → ℕ → ℕ → (ArmState → ArmState) → Part
store_part width a rd based u w = stored u width a rd (based w.core) w

left-true : (x y : Bool) → (x && not y) ≡ true → x ≡ true
left-true true y h = refl
left-true false y h = h

right-false : (x y : Bool) → (x && not y) ≡ true → y ≡ false
right-false true true h = false-true h
right-false true false h = refl
right-false false y h = false-true h

pub may-can : (s : State) (a n : ℕ) → may_be_stored s a n ≡ true → lacks_frame s a n ≡ false → CanStore s a n
may-can s a n m l =
    can-store s a n (left-true (has_whole s a n) (is_protected s.contents.banks a n) m) (right-false (has_whole s a n) (is_protected s.contents.banks a n) m) l

pub store-refused : (width : Width) (a rd : ℕ) (based : ArmState → ArmState) (core : ArmState) (s : State) → IsReady s
    → may_be_stored s (aligned a (bytes_in width)) (bytes_in width) ≡ false
    → Makes (store_part width a rd based) core s outcome.Aborted core s
unfolding stored
store-refused width a rd based core s r h =
    makes-nothing (store_part width a rd based) core core s outcome.Aborted r
    (λ u later before e. rw (e, may-whole s (aligned a (bytes_in width)) width r (aligned-whole a width) ∙ h) refl)
    (refl, refl)

pub store-lacking : (width : Width) (a rd : ℕ) (based : ArmState → ArmState) (core : ArmState) (s : State) → IsReady s
    → may_be_stored s (aligned a (bytes_in width)) (bytes_in width) ≡ true → lacks_frame s (aligned a (bytes_in width)) (bytes_in width) ≡ true
    → aligned a (bytes_in width) < 2 ^ 32
    → Lacks (store_part width a rd based) core s (aligned a (bytes_in width))
unfolding stored ran model_store
store-lacking width a rd based core s r m l lt = record {
  asked = Store (aligned a (bytes_in width)) width (stored_at core rd % 256 ^ bytes_in width) ∷ [];
  exact = λ u later before e. rw (e, may-whole s (aligned a (bytes_in width)) width r (aligned-whole a width) ∙ m) refl;
  frames = one-frame s (aligned a (bytes_in width)) width (stored_at core rd % 256 ^ bytes_in width) r lt ∙ ap not l;
  least = one-least s (aligned a (bytes_in width)) width (stored_at core rd % 256 ^ bytes_in width) l;
}

pub store-ran : (width : Width) (a rd : ℕ) (based : ArmState → ArmState) (core : ArmState) (s : State) → IsReady s
    → may_be_stored s (aligned a (bytes_in width)) (bytes_in width) ≡ true → lacks_frame s (aligned a (bytes_in width)) (bytes_in width) ≡ false
    → aligned a (bytes_in width) < 2 ^ 32
    → Makes (store_part width a rd based) core s outcome.Ran (based core) (after_write s (aligned a (bytes_in width)) width (stored_at core rd % 256 ^ bytes_in width))
unfolding stored ran
store-ran width a rd based core s r m l lt = record {
  made = Store (aligned a (bytes_in width)) width (stored_at core rd % 256 ^ bytes_in width) ∷ [];
  exact = λ u later before e.
      rw (
        e,
        may-whole s (aligned a (bytes_in width)) width r (aligned-whole a width) ∙ m,
        stores-word s (aligned a (bytes_in width)) width (stored_at core rd) core later before r (aligned-whole a width) (may-can s (aligned a (bytes_in width)) (bytes_in width) m l),
      ) refl;
  after = refl;
  frames = one-frame s (aligned a (bytes_in width)) width (stored_at core rd % 256 ^ bytes_in width) r lt ∙ ap not l;
  kept = tt;
}

-- ---- the swap

abbrev pub swap_part : Width → ℕ → ℕ → ℕ → Part
swap_part width rn rd rm u w = swapped u width rn rd rm w

pub swap-refused : (width : Width) (rn rd rm : ℕ) (core : ArmState) (s : State) → IsReady s
    → may_be_stored s (aligned (register core rn) (bytes_in width)) (bytes_in width) ≡ false
    → Makes (swap_part width rn rd rm) core s outcome.Aborted core s
unfolding swapped
swap-refused width rn rd rm core s r h =
    makes-nothing (swap_part width rn rd rm) core core s outcome.Aborted r
    (λ u later before e. rw (e, may-whole s (aligned (register core rn) (bytes_in width)) width r (aligned-whole (register core rn) width) ∙ h) refl)
    (refl, refl)

-- a read leaves what decides on a store at the same place
whole-read : (s : State) (a : ℕ) (width : Width) → IsReady s → a % bytes_in width ≡ 0 → has_whole (after_read s a width) a (bytes_in width) ≡ has_whole s a (bytes_in width)
whole-read s a width r h =
    sym (there-whole (after_read s a width) a width (ready-read s a width r) h)
    ∙ ap (λ (b : Board). is_there b a (bytes_in width)) (board-read s a width)
    ∙ there-whole s a width r h

lacks-read : (s : State) (a : ℕ) (width : Width) → lacks_frame (after_read s a width) a (bytes_in width) ≡ lacks_frame s a (bytes_in width)
lacks-read s a width = ap (λ (c : Contents). lacks_frame (record s { contents = c }) a (bytes_in width)) (contents-read s a width)

may-read : (s : State) (a : ℕ) (width : Width) → IsReady s → a % bytes_in width ≡ 0 → may_be_stored (after_read s a width) a (bytes_in width) ≡ may_be_stored s a (bytes_in width)
may-read s a width r h =
    ap (λ (b : Bool). b && not (is_protected (after_read s a width).contents.banks a (bytes_in width))) (whole-read s a width r h)
    ∙ ap (λ (c : Contents). has_whole s a (bytes_in width) && not (is_protected c.banks a (bytes_in width))) (contents-read s a width)

pub swap-lacking : (width : Width) (rn rd rm : ℕ) (core : ArmState) (s : State) → IsReady s
    → may_be_stored s (aligned (register core rn) (bytes_in width)) (bytes_in width) ≡ true → lacks_frame s (aligned (register core rn) (bytes_in width)) (bytes_in width) ≡ true
    → aligned (register core rn) (bytes_in width) < 2 ^ 32
    → Lacks (swap_part width rn rd rm) core s (aligned (register core rn) (bytes_in width))
unfolding swapped ran model_store after_load
swap-lacking width rn rd rm core s r m l lt = record {
  asked = Load (aligned (register core rn) (bytes_in width)) width ∷ Store (aligned (register core rn) (bytes_in width)) width (register core rm % 256 ^ bytes_in width) ∷ [];
  exact = λ u later before e. rw (e, may-whole s (aligned (register core rn) (bytes_in width)) width r (aligned-whole (register core rn) width) ∙ m)
      (append_assoc before (Load (aligned (register core rn) (bytes_in width)) width ∷ []) (Store (aligned (register core rn) (bytes_in width)) width (register core rm % 256 ^ bytes_in width) ∷ []));
  frames = one-frame s (aligned (register core rn) (bytes_in width)) width (register core rm % 256 ^ bytes_in width) r lt ∙ ap not l;
  least = one-least s (aligned (register core rn) (bytes_in width)) width (register core rm % 256 ^ bytes_in width) l;
}

pub swap-ran : (width : Width) (rn rd rm : ℕ) (core : ArmState) (s : State) (v : ℕ) → IsReady s
    → may_be_stored s (aligned (register core rn) (bytes_in width)) (bytes_in width) ≡ true → lacks_frame s (aligned (register core rn) (bytes_in width)) (bytes_in width) ≡ false
    → aligned (register core rn) (bytes_in width) < 2 ^ 32
    → v ≡ loaded_value false width (register core rn) (value_at s (aligned (register core rn) (bytes_in width)) width)
    → Makes (swap_part width rn rd rm) core s outcome.Ran (with_register core rd v)
    (after_write (after_read s (aligned (register core rn) (bytes_in width)) width) (aligned (register core rn) (bytes_in width)) width (register core rm % 256 ^ bytes_in width))
unfolding swapped ran
swap-ran width rn rd rm core s v r m l lt ev =
    let a = aligned (register core rn) (bytes_in width) in
    let h : aligned (register core rn) (bytes_in width) % bytes_in width ≡ 0 = aligned-whole (register core rn) width in
    let there = left-true (has_whole s a (bytes_in width)) (is_protected s.contents.banks a (bytes_in width)) m in
    let can = may-can (after_read s a width) a (bytes_in width) (may-read s a width r h ∙ m) (lacks-read s a width ∙ l) in
    record {
      made = Load a width ∷ Store a width (register core rm % 256 ^ bytes_in width) ∷ [];
      exact = λ u later before e.
          ap (λ (answers : List ℕ). swapped u width rn rd rm (working core s (answers ++ later) before)) (append-nil (given s a width))
          ∙ rw (
            e,
            may-whole s a width r h ∙ m,
            (reads s a width core later before r h there).0,
            loads s a width core later before r h there,
            sym (board-read s a width),
            stores-word (after_read s a width) a width (register core rm) core later (before ++ Load a width ∷ []) (ready-read s a width r) h can,
            append_assoc before (Load a width ∷ []) (Store a width (register core rm % 256 ^ bytes_in width) ∷ []),
            ev,
          ) refl;
      after = refl;
      frames = one-frame s a width (register core rm % 256 ^ bytes_in width) r lt ∙ ap not l;
      kept = tt;
    }
