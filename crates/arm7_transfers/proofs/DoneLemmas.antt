-- Parts of an instruction that make no access, or one read.
use Rattle.std.proofs.Common.{◌≡◌, ℕ, ◌%◌, ◌≤◌, Bool, true, false, not, ◌==◌, List, [], ◌∷◌, ◌++◌, refl, sym, ap, ◌∙◌, arith, append-nil}
use Rattle.std.specs.Prelude.{◌&&◌, nat_le}
use Rattle.sdt_word.specs.declared.codes.Width.{Width}
use Rattle.sdt_word.specs.declared.codes.Width.TheVariants.{Byte, Half, Word}
use Rattle.sdt_word.specs.Codes.{bytes_in}
use Rattle.arm7_model.specs.declared.state.ArmState.{ArmState}
use Rattle.arm7_model.specs.Accesses.{Access, Load, aligned}
use Rattle.arm7_model.specs.Outcomes.{Stepped, Under, given_back}
use Rattle.arm7_model.specs.Registers.{with_result}
use Rattle.arm7_model.specs.Transfers.{loaded, load_end, loaded_value}
use Rattle.arm7_bus.specs.Buses.{after_read, has_whole}
use Rattle.arm7_bus.specs.States.{State, Contents}
use Rattle.arm7_transfers.specs.declared.outcome.Outcome.{Outcome}
use Rattle.arm7_transfers.specs.declared.outcome.Outcome.TheVariants as outcome
use Rattle.arm7_transfers.specs.Boards.{board_of, working}
use Rattle.arm7_transfers.specs.Done.{Part, Makes, IsDone, IsKept, ended_by}
use Rattle.arm7_transfers.specs.Ready.{IsReady}
use Rattle.arm7_transfers.specs.Served.{given, value_at, answers_to}
use Rattle.arm7_transfers.proofs.BoardLemmas.{there-whole, reads, loads, contents-read}

pub fits : (x y : ℕ) → x ≤ y → nat_le x y ≡ true
fits x y h = grind arith

-- a part that makes no access
pub makes-nothing : (part : Part) (core core' : ArmState) (s : State) (o : Outcome) → IsReady s
    → ((u : Under) (later : List ℕ) (before : List Access) → u.board ≡ board_of s
    → part u (working core s later before) ≡ ended_by u o (working core' s later before))
    → IsKept o core s core' s → Makes part core s o core' s
makes-nothing part core core' s o r exact kept = record {
  made = [];
  exact = λ u later before e. exact u later before e ∙ ap (λ (l : List Access). ended_by u o (working core' s later l)) (sym (append-nil before));
  after = refl;
  frames = fits _ _ r.room;
  kept = kept;
}

-- a part that makes one read
pub makes-read : (part : Part) (core core' : ArmState) (s : State) (a : ℕ) (width : Width) (o : Outcome) → IsReady s
    → ((u : Under) (later : List ℕ) (before : List Access) → u.board ≡ board_of s
    → part u (working core s (given s a width ++ later) before) ≡ ended_by u o (working core' (after_read s a width) later (before ++ Load a width ∷ [])))
    → IsKept o core s core' (after_read s a width) → Makes part core s o core' (after_read s a width)
makes-read part core core' s a width o r exact kept = record {
  made = Load a width ∷ [];
  exact = λ u later before e.
      ap (λ (l : List ℕ). part u (working core s (l ++ later) before)) (append-nil (given s a width)) ∙ exact u later before e;
  after = refl;
  frames = fits _ _ r.room;
  kept = kept;
}

pub memory-read : (s : State) (a : ℕ) (width : Width) → (after_read s a width).contents.memory ≡ s.contents.memory
memory-read s a width = ap (λ (c : Contents). c.memory) (contents-read s a width)

-- a part that is another, at these registers and this bus, is done where the other is
abbrev pub Same : Part → Part → ArmState → State → Type 0
Same part other core s = (u : Under) (later : List ℕ) (before : List Access) → other u (working core s later before) ≡ part u (working core s later before)

makes-as : (part other : Part) (core : ArmState) (s : State) (o : Outcome) (core' : ArmState) (s' : State) → Same part other core s
    → Makes part core s o core' s' → Makes other core s o core' s'
makes-as part other core s o core' s' same m = record {
  made = m.made;
  exact = λ u later before e. same u (answers_to s m.made ++ later) before ∙ m.exact u later before e;
  after = m.after;
  frames = m.frames;
  kept = m.kept;
}

pub done-as : (part other : Part) (core : ArmState) (s : State) (o : Outcome) (core' : ArmState) (s' : State) → Same part other core s
    → IsDone part core s o core' s' → IsDone other core s o core' s'
done-as part other core s outcome.Ran core' s' same m = makes-as part other core s outcome.Ran core' s' same m
done-as part other core s outcome.Aborted core' s' same m = makes-as part other core s outcome.Aborted core' s' same m
done-as part other core s outcome.Unpredictable core' s' same m = makes-as part other core s outcome.Unpredictable core' s' same m
done-as part other core s (outcome.Raised e) core' s' same m = makes-as part other core s (outcome.Raised e) core' s' same m
done-as part other core s (outcome.Host n) core' s' same m = makes-as part other core s (outcome.Host n) core' s' same m
done-as part other core s (outcome.NoFrame a) core' s' same m = (
  record {
    asked = m.0.asked;
    exact = λ u later before e. ap (λ (t : Stepped). t.accesses) (same u (answers_to s m.0.asked ++ later) before) ∙ m.0.exact u later before e;
    frames = m.0.frames;
    least = m.0.least;
  },
  m.1,
  m.2,
)

-- ---- an address that is aligned

pub aligned-whole : (a : ℕ) (width : Width) → aligned a (bytes_in width) % bytes_in width ≡ 0
aligned-whole a Byte = omega arith
aligned-whole a Half = omega arith
aligned-whole a Word = omega arith

-- ---- a load

abbrev pub load_part : Bool → Width → ℕ → ℕ → (ArmState → ArmState) → Part
load_part signed width a rd based u w = loaded u signed width a rd (based w.core) w

pub load-absent : (signed : Bool) (width : Width) (a rd : ℕ) (based : ArmState → ArmState) (core : ArmState) (s : State) → IsReady s
    → has_whole s (aligned a (bytes_in width)) (bytes_in width) ≡ false
    → Makes (load_part signed width a rd based) core s outcome.Aborted core s
unfolding loaded
load-absent signed width a rd based core s r h =
    makes-nothing (load_part signed width a rd based) core core s outcome.Aborted r
    (λ u later before e. rw (e, there-whole s (aligned a (bytes_in width)) width r (aligned-whole a width) ∙ h) refl)
    (refl, refl)

load-made : (signed : Bool) (width : Width) (a rd : ℕ) (based : ArmState → ArmState) (core : ArmState) (s : State) (v : ℕ) → IsReady s
    → has_whole s (aligned a (bytes_in width)) (bytes_in width) ≡ true
    → v ≡ loaded_value signed width a (value_at s (aligned a (bytes_in width)) width)
    → (u : Under) (later : List ℕ) (before : List Access) → u.board ≡ board_of s
    → load_part signed width a rd based u (working core s (given s (aligned a (bytes_in width)) width ++ later) before)
    ≡ load_end u rd v (working (based core) (after_read s (aligned a (bytes_in width)) width) later (before ++ Load (aligned a (bytes_in width)) width ∷ []))
unfolding loaded
load-made signed width a rd based core s v r h e u later before b =
    let whole = aligned-whole a width in
    let found = reads s (aligned a (bytes_in width)) width core later before r whole h in
    let left = loads s (aligned a (bytes_in width)) width core later before r whole h in
    rw (b, there-whole s (aligned a (bytes_in width)) width r whole ∙ h, found.0, left, e) refl

pub load-odd : (signed : Bool) (width : Width) (a rd : ℕ) (based : ArmState → ArmState) (core : ArmState) (s : State) (v : ℕ) → IsReady s
    → has_whole s (aligned a (bytes_in width)) (bytes_in width) ≡ true
    → v ≡ loaded_value signed width a (value_at s (aligned a (bytes_in width)) width)
    → (rd == 15 && not (v % 4 == 0)) ≡ true
    → Makes (load_part signed width a rd based) core s outcome.Unpredictable core (after_read s (aligned a (bytes_in width)) width)
unfolding load_end given_back
load-odd signed width a rd based core s v r h e odd =
    makes-read (load_part signed width a rd based) core core s (aligned a (bytes_in width)) width outcome.Unpredictable r
    (λ u later before b. load-made signed width a rd based core s v r h e u later before b ∙ rw odd refl)
    (refl, memory-read s (aligned a (bytes_in width)) width)

pub load-ran : (signed : Bool) (width : Width) (a rd : ℕ) (based : ArmState → ArmState) (core : ArmState) (s : State) (v : ℕ) → IsReady s
    → has_whole s (aligned a (bytes_in width)) (bytes_in width) ≡ true
    → v ≡ loaded_value signed width a (value_at s (aligned a (bytes_in width)) width)
    → (rd == 15 && not (v % 4 == 0)) ≡ false
    → Makes (load_part signed width a rd based) core s outcome.Ran (with_result (based core) rd v) (after_read s (aligned a (bytes_in width)) width)
unfolding load_end
load-ran signed width a rd based core s v r h e odd =
    makes-read (load_part signed width a rd based) core (with_result (based core) rd v) s (aligned a (bytes_in width)) width outcome.Ran r
    (λ u later before b. load-made signed width a rd based core s v r h e u later before b ∙ rw odd refl)
    tt
