-- The two blocks, as the code does them.
use Rattle.std.proofs.Common.{◌≡◌, ℕ, ◌%◌, ◌^◌, ◌<◌, ◌≤◌, Bool, true, false, not, ◌==◌, List, [], ◌∷◌, ◌++◌, length, Some, refl, sym, ap, ◌∙◌, subst, arith, append-nil, append_assoc}
use Rattle.std.specs.Prelude.{◌&&◌, nat_le}
use Rattle.arm7_model.specs.declared.state.ArmState.{ArmState}
use Rattle.sdt_word.specs.declared.codes.Width.TheVariants.{Word}
use Rattle.arm7_model.specs.Accesses.{Access, Store, Working, aligned, next_word}
use Rattle.arm7_model.specs.Accesses.{after_store as model_store}
use Rattle.arm7_model.specs.Blocks.{all_there, all_may_store, listed_at, lists, block_moved, block_start, block_end, block_loaded, block_stored, take_end, give_all, with_block_base, with_loaded_pc}
use Rattle.arm7_model.specs.Memory.{Board}
use Rattle.arm7_model.specs.Outcomes.{Under, ran, given_back}
use Rattle.arm7_model.specs.Registers.{register}
use Rattle.arm7_bus.specs.Paging.{used_count}
use Rattle.arm7_bus.specs.States.{State, Contents}
use Rattle.arm7_transfers.specs.declared.outcome.Outcome.TheVariants as outcome
use Rattle.arm7_transfers.specs.BlockAccesses.{loads_of, stores_of, taken, words_in}
use Rattle.arm7_transfers.specs.Boards.{board_of, working}
use Rattle.arm7_transfers.specs.Done.{Part, Makes, Lacks, IsDone}
use Rattle.arm7_transfers.specs.declared.outcome.Outcome.{Outcome}
use Rattle.sdt_word.specs.Numbers.{registers}
use Rattle.arm7_transfers.specs.Frames.{has_frames, least_unused, used_with}
use Rattle.arm7_transfers.specs.Ready.{IsReady}
use Rattle.arm7_transfers.specs.Served.{served, answers_to}
use Rattle.arm7_transfers.proofs.BlockLemmas.{contents-loads, no-stores, take-served, no-answers, stored-words, give-served}
use Rattle.arm7_transfers.proofs.DoneLemmas.{done-as, makes-nothing, fits}

-- ---- stores

abbrev pub give_part : Bool → Bool → List ℕ → ℕ → ℕ → ℕ → Part
give_part user write_back ks a rn end u w = block_stored u user write_back ks a rn end w

pub give_refused : (user write_back : Bool) (ks : List ℕ) (a rn end : ℕ) (core : ArmState) (s : State) (may : Bool) → IsReady s
    → may ≡ all_may_store (board_of s) ks a → may ≡ false
    → Makes (give_part user write_back ks a rn end) core s outcome.Aborted core s
unfolding block_stored
give_refused user write_back ks a rn end core s may r h t =
    makes-nothing (give_part user write_back ks a rn end) core core s outcome.Aborted r
    (λ u later before e. rw (e, sym h ∙ t) refl) (refl, refl)

-- the accesses of a block that is stored don't hang on what is stored
given-accesses : (board : Board) (user : Bool) (core : ArmState) (ks : List ℕ) (a : ℕ) (w : Working) → (give_all board user core ks a w).accesses ≡ w.accesses ++ stores_of user core ks a
unfolding model_store
given-accesses board user core [] a w = sym (append-nil w.accesses)
given-accesses board user core (k ∷ ks) a w =
    given-accesses board user core ks (next_word a) (model_store board w a Word (listed_at user core k))
    ∙ append_assoc w.accesses (Store a Word (listed_at user core k % 256 ^ 4) ∷ []) (stores_of user core ks (next_word a))

frames-words : (user : Bool) (core : ArmState) (ks : List ℕ) (a : ℕ) (s : State)
    → has_frames s (stores_of user core ks a) ≡ nat_le (used_count (used_with s.contents.used (words_in s.contents.banks ks a))) s.contents.frames
frames-words user core ks a s = ap (λ (l : List ℕ). nat_le (used_count (used_with s.contents.used l)) s.contents.frames) (stored-words user core ks a s.contents.banks)

le-false : (x y : ℕ) → y < x → nat_le x y ≡ false
le-false x y h = grind arith

pub give_lacking : (user write_back : Bool) (ks : List ℕ) (a rn end x : ℕ) (core : ArmState) (s : State) (may : Bool) → IsReady s
    → may ≡ all_may_store (board_of s) ks a → may ≡ true
    → s.contents.frames < used_count (used_with s.contents.used (words_in s.contents.banks ks a))
    → least_unused s.contents.used (words_in s.contents.banks ks a) ≡ Some x
    → Lacks (give_part user write_back ks a rn end) core s x
unfolding block_stored ran
give_lacking user write_back ks a rn end x core s may r h t more least = record {
  asked = stores_of user core ks a;
  exact = λ u later before e. rw (e, sym h ∙ t) (given-accesses (board_of s) user core ks a (working (with_block_base write_back rn end core) s (answers_to s (stores_of user core ks a) ++ later) before));
  frames = frames-words user core ks a s ∙ le-false _ _ more;
  least = ap (λ (l : List ℕ). least_unused s.contents.used l) (stored-words user core ks a s.contents.banks) ∙ least;
}

pub give_ran : (user write_back : Bool) (ks : List ℕ) (a rn end : ℕ) (core core' : ArmState) (s s' : State) (may : Bool) → IsReady s → a % 4 ≡ 0 → a < 2 ^ 32
    → may ≡ all_may_store (board_of s) ks a → may ≡ true
    → used_count (used_with s.contents.used (words_in s.contents.banks ks a)) ≤ s.contents.frames
    → s' ≡ served s (stores_of user core ks a) → core' ≡ with_block_base write_back rn end core
    → Makes (give_part user write_back ks a rn end) core s outcome.Ran core' s'
unfolding block_stored
give_ran user write_back ks a rn end core core' s s' may r whole lt h t room after result = record {
  made = stores_of user core ks a;
  exact = λ u later before e.
      ap (λ (l : List ℕ). block_stored u user write_back ks a rn end (working core s (l ++ later) before)) (no-answers user core ks a s)
      ∙ rw (e, sym h ∙ t) (ap ran (give-served user core (with_block_base write_back rn end core) ks a s later before r whole lt (sym h ∙ t) room))
      ∙ ap (λ (c : ArmState). ran (working c (served s (stores_of user core ks a)) later (before ++ stores_of user core ks a))) (sym result)
      ∙ ap (λ (x : State). ran (working core' x later (before ++ stores_of user core ks a))) (sym after);
  after = after;
  frames = frames-words user core ks a s ∙ fits _ _ room;
  kept = tt;
}

-- what is done of a bus is done of one with the same state
pub done_from : (part : Part) (core core' : ArmState) (s t s' : State) (o : Outcome) → t ≡ s → IsDone part core t o core' s' → IsDone part core s o core' s'
done_from part core core' s t s' o e d = subst (λ (x : State). IsDone part core x o core' s') e d

-- ---- loads

abbrev pub take_part : Bool → Bool → Bool → List ℕ → ℕ → ℕ → ℕ → Bool → Part
take_part thumb user write_back ks a rn end loads_pc u w = block_loaded u thumb user write_back ks a rn end loads_pc w

pub take_absent : (thumb user write_back : Bool) (ks : List ℕ) (a rn end : ℕ) (loads_pc : Bool) (core : ArmState) (s : State) (held : Bool) → IsReady s
    → held ≡ all_there (board_of s) ks a → held ≡ false
    → Makes (take_part thumb user write_back ks a rn end loads_pc) core s outcome.Aborted core s
unfolding block_loaded
take_absent thumb user write_back ks a rn end loads_pc core s held r h t =
    makes-nothing (take_part thumb user write_back ks a rn end loads_pc) core core s outcome.Aborted r
    (λ u later before e. rw (e, sym h ∙ t) refl) (refl, refl)

-- the same, of what a call left as it was
pub absent_from : (thumb user write_back : Bool) (ks : List ℕ) (a rn end : ℕ) (loads_pc : Bool) (core : ArmState) (s s' : State) (held : Bool) → IsReady s
    → held ≡ all_there (board_of s) ks a → held ≡ false → s' ≡ s
    → Makes (take_part thumb user write_back ks a rn end loads_pc) core s outcome.Aborted core s'
absent_from thumb user write_back ks a rn end loads_pc core s s' held r h t e =
    subst (λ (x : State). Makes (take_part thumb user write_back ks a rn end loads_pc) core s outcome.Aborted core x) (sym e) (take_absent thumb user write_back ks a rn end loads_pc core s held r h t)

pub left_absent : (thumb user write_back : Bool) (ks : List ℕ) (a rn end : ℕ) (loads_pc : Bool) (core core' : ArmState) (s s' : State) (held : Bool) → IsReady s
    → held ≡ all_there (board_of s) ks a → held ≡ false → core' ≡ core → s' ≡ s
    → Makes (take_part thumb user write_back ks a rn end loads_pc) core s outcome.Aborted core' s'
left_absent thumb user write_back ks a rn end loads_pc core core' s s' held r h t e f =
    subst (λ (x : ArmState). Makes (take_part thumb user write_back ks a rn end loads_pc) core s outcome.Aborted x s') (sym e) (absent_from thumb user write_back ks a rn end loads_pc core s s' held r h t f)

-- the registers are loaded, and what is left is the end
take-made : (thumb user write_back : Bool) (ks : List ℕ) (a rn end : ℕ) (loads_pc : Bool) (core : ArmState) (s : State) → IsReady s → a % 4 ≡ 0
    → all_there (board_of s) ks a ≡ true
    → (u : Under) (later : List ℕ) (before : List Access) → u.board ≡ board_of s
    → block_loaded u thumb user write_back ks a rn end loads_pc (working core s (answers_to s (loads_of ks a) ++ later) before)
    ≡ take_end u thumb user loads_pc (working (taken (user && not loads_pc) ks a (with_block_base write_back rn end core) s) (served s (loads_of ks a)) later (before ++ loads_of ks a))
unfolding block_loaded take_end given_back
take-made thumb user write_back ks a rn end loads_pc core s r whole t u later before e =
    rw (e, t) (ap (take_end u thumb user loads_pc) (take-served (user && not loads_pc) ks a (with_block_base write_back rn end core) s later before r whole t))

frames-loads : (ks : List ℕ) (a : ℕ) (s : State) → IsReady s → has_frames s (loads_of ks a) ≡ true
frames-loads ks a s r = ap (λ (l : List ℕ). nat_le (used_count (used_with s.contents.used l)) s.contents.frames) (no-stores ks a s.contents.banks) ∙ fits _ _ r.room

memory-loads : (ks : List ℕ) (a : ℕ) (s : State) → (served s (loads_of ks a)).contents.memory ≡ s.contents.memory
memory-loads ks a s = ap (λ (c : Contents). c.memory) (contents-loads ks a s)

module _ (thumb user write_back : Bool) (ks : List ℕ) (a rn end : ℕ) (loads_pc : Bool) (core : ArmState) (s : State) where
  pub take_ran : (core' next : ArmState) (s' : State) (held : Bool) → IsReady s → a % 4 ≡ 0 → held ≡ all_there (board_of s) ks a → held ≡ true
      → next ≡ taken (user && not loads_pc) ks a (with_block_base write_back rn end core) s → s' ≡ served s (loads_of ks a)
      → loads_pc ≡ false → core' ≡ next
      → Makes (take_part thumb user write_back ks a rn end loads_pc) core s outcome.Ran core' s'
  unfolding take_end
  take_ran core' next s' held r whole h t n after none result = record {
    made = loads_of ks a;
    exact = λ u later before e.
        take-made thumb user write_back ks a rn end loads_pc core s r whole (sym h ∙ t) u later before e
        ∙ ap (λ (c : ArmState). take_end u thumb user loads_pc (working c (served s (loads_of ks a)) later (before ++ loads_of ks a))) (sym n ∙ sym result)
        ∙ ap (λ (x : State). take_end u thumb user loads_pc (working core' x later (before ++ loads_of ks a))) (sym after)
        ∙ rw none refl;
    after = after;
    frames = frames-loads ks a s r;
    kept = tt;
  }

  pub take_odd : (next : ArmState) (s' : State) (held odd : Bool) → IsReady s → a % 4 ≡ 0 → held ≡ all_there (board_of s) ks a → held ≡ true
      → next ≡ taken (user && not loads_pc) ks a (with_block_base write_back rn end core) s → s' ≡ served s (loads_of ks a)
      → loads_pc ≡ true → odd ≡ (not thumb && (not user && not (register next 15 % 4 == 0))) → odd ≡ true
      → Makes (take_part thumb user write_back ks a rn end loads_pc) core s outcome.Unpredictable core s'
  unfolding take_end given_back
  take_odd next s' held odd r whole h t n after some o p = record {
    made = loads_of ks a;
    exact = λ u later before e.
        take-made thumb user write_back ks a rn end loads_pc core s r whole (sym h ∙ t) u later before e
        ∙ ap (λ (c : ArmState). take_end u thumb user loads_pc (working c (served s (loads_of ks a)) later (before ++ loads_of ks a))) (sym n)
        ∙ rw (some, sym o ∙ p) refl;
    after = after;
    frames = frames-loads ks a s r;
    kept = (refl, ap (λ (x : State). x.contents.memory) after ∙ memory-loads ks a s);
  }

  pub take_pc : (core' next : ArmState) (s' : State) (held odd : Bool) → IsReady s → a % 4 ≡ 0 → held ≡ all_there (board_of s) ks a → held ≡ true
      → next ≡ taken (user && not loads_pc) ks a (with_block_base write_back rn end core) s → s' ≡ served s (loads_of ks a)
      → loads_pc ≡ true → odd ≡ (not thumb && (not user && not (register next 15 % 4 == 0))) → odd ≡ false → core' ≡ with_loaded_pc user next
      → Makes (take_part thumb user write_back ks a rn end loads_pc) core s outcome.Ran core' s'
  unfolding take_end
  take_pc core' next s' held odd r whole h t n after some o p result = record {
    made = loads_of ks a;
    exact = λ u later before e.
        take-made thumb user write_back ks a rn end loads_pc core s r whole (sym h ∙ t) u later before e
        ∙ ap (λ (c : ArmState). take_end u thumb user loads_pc (working c (served s (loads_of ks a)) later (before ++ loads_of ks a))) (sym n)
        ∙ ap (λ (x : State). take_end u thumb user loads_pc (working next x later (before ++ loads_of ks a))) (sym after)
        ∙ rw (some, sym o ∙ p) (ap (λ (c : ArmState). ran (working c s' later (before ++ loads_of ks a))) (sym result));
    after = after;
    frames = frames-loads ks a s r;
    kept = tt;
  }

-- ---- what the calls of the code gave
pub taken_plain : (user write_back : Bool) (ks : List ℕ) (a rn end : ℕ) (loads_pc : Bool) (core next : ArmState) (s : State) → loads_pc ≡ false
    → next ≡ taken user ks a (with_block_base write_back rn end core) s → next ≡ taken (user && not loads_pc) ks a (with_block_base write_back rn end core) s
taken_plain user write_back ks a rn end loads_pc core next s none h = h ∙ ap (λ (n : Bool). taken n ks a (with_block_base write_back rn end core) s) (go user loads_pc none)
  where
    go : (x y : Bool) → y ≡ false → x ≡ (x && not y)
    go true true e = e
    go true false e = refl
    go false y e = refl

pub taken_pc : (user write_back : Bool) (ks : List ℕ) (a rn end : ℕ) (loads_pc : Bool) (core next : ArmState) (s : State) → loads_pc ≡ true
    → next ≡ taken false ks a (with_block_base write_back rn end core) s → next ≡ taken (user && not loads_pc) ks a (with_block_base write_back rn end core) s
taken_pc user write_back ks a rn end loads_pc core next s some h = h ∙ ap (λ (n : Bool). taken n ks a (with_block_base write_back rn end core) s) (go user loads_pc some)
  where
    go : (x y : Bool) → y ≡ true → false ≡ (x && not y)
    go true true e = refl
    go true false e = e
    go false y e = refl

pub no_return : (thumb user : Bool) (next : ArmState) (pc : ℕ) (odd : Bool) → pc ≡ register next 15 → odd ≡ (not thumb && (not user && not (pc % 4 == 0)))
    → odd ≡ (not thumb && (not user && not (register next 15 % 4 == 0)))
no_return thumb user next pc odd e h = h ∙ ap (λ (v : ℕ). not thumb && (not user && not (v % 4 == 0))) e

module _ (thumb load pre up user write_back : Bool) (rn list : ℕ) (core core' : ArmState) (s s' : State) (o : Outcome) (n b begin a end : ℕ) where
  pub move_load : load ≡ true → n ≡ length (registers 16 list) → b ≡ register core rn → begin ≡ block_start pre up b n → a ≡ aligned begin 4 → end ≡ block_end up b n
      → IsDone (take_part thumb user write_back (registers 16 list) a rn end (lists list 15)) core s o core' s'
      → IsDone (λ u w. block_moved u thumb load pre up user write_back rn list w) core s o core' s'
  unfolding block_moved
  move_load l en eb eg ea ee d =
      done-as (take_part thumb user write_back (registers 16 list) a rn end (lists list 15)) (λ u w. block_moved u thumb load pre up user write_back rn list w) core s o core' s'
      (λ u later before. rw (l, ea, eg, ee, eb, en) refl) d

  pub move_store : load ≡ false → n ≡ length (registers 16 list) → b ≡ register core rn → begin ≡ block_start pre up b n → a ≡ aligned begin 4 → end ≡ block_end up b n
      → IsDone (give_part user write_back (registers 16 list) a rn end) core s o core' s'
      → IsDone (λ u w. block_moved u thumb load pre up user write_back rn list w) core s o core' s'
  unfolding block_moved
  move_store l en eb eg ea ee d =
      done-as (give_part user write_back (registers 16 list) a rn end) (λ u w. block_moved u thumb load pre up user write_back rn list w) core s o core' s'
      (λ u later before. rw (l, ea, eg, ee, eb, en) refl) d
