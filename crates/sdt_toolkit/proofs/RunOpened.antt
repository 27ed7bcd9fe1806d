-- A bus that was opened for an image: it is ready, and the startup code may run over it.
use Rattle.std.proofs.Common.{◌≡◌, ◌⊎◌, inl, inr, ℕ, ◌<◌, ◌≤◌, Bool, true, false, ◌||◌, List, Some, refl, sym, ap, ◌∙◌, subst}
use Rattle.std.specs.Prelude.{◌&&◌}
use Rattle.sdt_word.specs.Numbers.{bit, bits}
use Rattle.arm7_model.specs.declared.state.ArmState.{ArmState}
use Rattle.arm7_model.specs.Memory.{Bytes}
use Rattle.arm7_model.specs.Registers.{IsValidState}
use Rattle.arm7_bus.specs.declared.memory.Bank.{Bank}
use Rattle.arm7_bus.specs.Meets.{seats_have, seats_share}
use Rattle.arm7_bus.specs.Paging.{used_count}
use Rattle.arm7_bus.specs.Seats.{Seat}
use Rattle.arm7_bus.specs.States.{State, bank_has}
use Rattle.arm7_bus.specs.WholeWords.{AreWholeBanks, AreWholeSeats}
use Rattle.arm7_core.specs.Resets.{IsReset}
use Rattle.arm7_transfers.specs.Boards.{board_of, over}
use Rattle.arm7_transfers.specs.Ready.{IsReady}
use Rattle.boot_code.specs.Boots.{CanStart}
use Rattle.run_opening.specs.declared.image.Need.{Need}
use Rattle.run_opening.specs.Banks.{AreUsed, IsRoomy, banks_share, frames_of}
use Rattle.run_opening.specs.Openings.{IsOpening, loaded}
use Rattle.run_laws.proofs.SmallBanks.{HasAll, opened-with-all}
use Rattle.sdt_toolkit.specs.RunImages.{is_needed}
use Rattle.sdt_toolkit.specs.Runs.{Allow, Booting, CanBoot, HasView}
use Rattle.sdt_toolkit.proofs.RunNeeds.{needed_bank, none_left, none_right, same_used}

-- where the view has a byte, a page that the image uses; or memory, with a frame for each page that can be stored to
pub record HasFrames (b : Booting) (s : State) : Type 0 where
  pub there : (x v : ℕ) → b.view x ≡ Some v → bank_has s.contents.banks x 1 ≡ true
  pub all : HasAll s.contents

abbrev pub IsViewed : Booting → State → Type 0
IsViewed b s = ((x v : ℕ) → b.view x ≡ Some v → is_needed b.run.needs x ≡ true) ⊎ HasFrames b s

-- a bus that has room for the image, as its opening left it
pub record IsOpened (b : Booting) (s : State) : Type 0 where
  pub roomy : IsRoomy s.contents.banks s.devices b.run.needs
  pub allow : Allow s.contents.banks s.devices b.written
  pub memory : s.contents.memory ≡ loaded (λ a. 0) b.run.loads
  pub used : AreUsed s.contents.used b.run.needs
  pub frames : s.contents.frames ≡ frames_of s.contents.banks
  pub viewed : IsViewed b s

is_viewed : (b : Booting) (banks : List Bank) (seats : List Seat) (s : State) → IsRoomy banks seats b.run.needs → IsOpening banks b.run seats s → HasView b banks → IsViewed b s
is_viewed b banks seats s roomy o (inl h) = inl h
is_viewed b banks seats s roomy o (inr t) = inr (record {
  there = λ x v e. subst (λ (bs : List Bank). bank_has bs x 1 ≡ true) (sym o.banks_are) (t.there x v e);
  all = opened-with-all banks seats b.run s t.pages roomy o;
})

pub opened : (b : Booting) (banks : List Bank) (seats : List Seat) (s : State) → IsRoomy banks seats b.run.needs → Allow banks seats b.written → HasView b banks
    → IsOpening banks b.run seats s → IsOpened b s
opened b banks seats s roomy allow has o =
    let k = o.banks_are in let d = o.devices in
    record {
      roomy = subst (λ (bs : List Bank). IsRoomy bs s.devices b.run.needs) (sym k) (subst (λ (ds : List Seat). IsRoomy banks ds b.run.needs) (sym d) roomy);
      allow = subst (λ (bs : List Bank). Allow bs s.devices b.written) (sym k) (subst (λ (ds : List Seat). Allow banks ds b.written) (sym d) allow);
      memory = o.memory;
      used = o.used;
      frames = o.frames ∙ ap frames_of (sym k);
      viewed = is_viewed b banks seats s roomy o has;
    }

not_both : (x y : Bool) → (x && y) ≡ false → y ≡ true → x ≡ false
not_both true y e h = absurd (let bad : true ≡ false = sym h ∙ e in cc)
not_both false y e h = refl

-- a bus that has room, of whole words, is one on which the machine can step
pub ready_for : (needs : List Need) (s : State) → IsRoomy s.contents.banks s.devices needs → AreWholeBanks s.contents.banks → AreWholeSeats s.devices
    → AreUsed s.contents.used needs → s.contents.frames ≡ frames_of s.contents.banks → IsReady s
ready_for needs s roomy banks seats used frames = record {
  laid_out = record {
    banks = banks;
    devices = seats;
    apart = λ a h. not_both (bank_has s.contents.banks a 1) (seats_have s.devices a)
        (none_right (banks_share s.contents.banks a || seats_share s.devices a) (bank_has s.contents.banks a 1 && seats_have s.devices a) (both a)) h;
    alone = record {
      none = λ a. none_right (banks_share s.contents.banks a) (seats_share s.devices a)
          (none_left (banks_share s.contents.banks a || seats_share s.devices a) (bank_has s.contents.banks a 1 && seats_have s.devices a) (both a));
    };
  };
  started = used.pages;
  room =
      let same = same_used roomy.frames.used s.contents.used needs roomy.frames.are_used used in
      subst (λ (n : ℕ). used_count s.contents.used ≤ n) (sym frames) (subst (λ (us : List Bool). used_count us ≤ frames_of s.contents.banks) same roomy.frames.enough);
}
  where
    both : (a : ℕ) → (banks_share s.contents.banks a || seats_share s.devices a || (bank_has s.contents.banks a 1 && seats_have s.devices a)) ≡ false
    both a = roomy.apart.none a

module _ {b : Booting} {s : State} (o : IsOpened b s) where
  pub ready : IsReady s
  ready = ready_for b.run.needs s o.roomy o.allow.banks_whole o.allow.seats_whole o.used o.frames

  pub bank_there : (x : ℕ) → is_needed b.run.needs x ≡ true → (board_of s).memory x ≡ true
  unfolding board_of
  bank_there x e = needed_bank s.contents.banks b.run.needs o.roomy.room x e

  pub view_there : (x v : ℕ) → b.view x ≡ Some v → (board_of s).memory x ≡ true
  unfolding board_of
  view_there x v e = go o.viewed
    where
      go : IsViewed b s → (board_of s).memory x ≡ true
      go (inl ranged) = needed_bank s.contents.banks b.run.needs o.roomy.room x (ranged x v e)
      go (inr t) = t.there x v e

  module _ (can : CanBoot b) where
    pub valid : (core : ArmState) → IsReset b.run.start false core → IsValidState (over core s)
    valid core reset = record {
      core = reset.valid;
      memory = λ x. subst (λ (m : Bytes). m x < 256) (sym o.memory) (can.small x);
    }

    pub can_start : (core : ArmState) → IsReset b.run.start false core → CanStart b.files b.view b.written b.run.start (board_of s) (over core s)
    unfolding board_of
    can_start core reset = record {
      valid = valid core reset;
      loaded = λ x v e. (bank_there x (can.needed x v e), ap (λ (m : Bytes). m x) o.memory ∙ can.holds x v e);
      there = view_there;
      writable = o.allow.writable;
      supervisor = ap (λ (n : ℕ). bits n 0 5) reset.status;
      arm = ap (λ (n : ℕ). bit n 5) reset.status;
      fiq_masked = ap (λ (n : ℕ). bit n 6) reset.status;
      irq_masked = ap (λ (n : ℕ). bit n 7) reset.status;
      pc = reset.address;
    }
