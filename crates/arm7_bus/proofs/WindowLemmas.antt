-- The windows: what they say of an access in their page, and what keeps them.
use Rattle.std.proofs.Common.{◌≡◌, ℕ, ◌+◌, ◌-◌, ◌*◌, ◌/◌, ◌%◌, ◌^◌, ◌<◌, ◌≤◌, true, false, List, set, Option, Some, None, sym, ap, ◌∙◌, arith, ◌⊎◌, inl, inr, ◌≢◌}
use Rattle.std.proofs.Math.Seq.{get_or-set_other}
use Rattle.arm7_bus.specs.declared.memory.Bank.{Bank}
use Rattle.arm7_bus.specs.Lookups.{IsBankAt}
use Rattle.arm7_bus.specs.Paging.{frame_of}
use Rattle.arm7_bus.specs.States.{bank_has, is_protected}
use Rattle.arm7_bus.specs.Windows.{IsDataWindow, IsWindow, KeepsFrames}
use Rattle.arm7_bus.proofs.LookupLemmas.{has_at}
use Rattle.arm7_bus.proofs.PagingLemmas.{same_or_not}
use Rattle.arm7_bus.proofs.StoreLemmas.{free_part, part_of}

-- ---- an access in the window's page
pub window_has : (bs : List Bank) (table : List (Option ℕ)) (page shift a n : ℕ) → IsWindow bs table page shift → page ≡ a / 4096 → a < 2 ^ 32 → a % 4096 + n ≤ 4096
    → bank_has bs a n ≡ true
window_has bs table page shift a n w e small inside = part_of bs (4096 * page) 4096 a n (omega arith) (omega arith) (w.has (omega arith))

place_shifted : (page shift a at : ℕ) → page ≡ a / 4096 → a < 2 ^ 32 → shift % 4096 ≡ 0 → at ≡ (a + shift) % 2 ^ 32
    → ((4096 * page + shift) % 2 ^ 32 / 4096 ≡ at / 4096) × (at % 4096 ≡ a % 4096)
place_shifted page shift a at e small whole is = (omega arith, omega arith)

pub window_place : (bs : List Bank) (table : List (Option ℕ)) (page shift a at : ℕ) → IsWindow bs table page shift → page ≡ a / 4096 → a < 2 ^ 32
    → at ≡ (a + shift) % 2 ^ 32 → (frame_of table (a / 4096) ≡ Some (at / 4096)) × (at % 4096 ≡ a % 4096)
window_place bs table page shift a at w e small is =
    let place = place_shifted page shift a at e small w.whole is in
    (ap (frame_of table) (sym e) ∙ w.frame (omega arith) ∙ ap Some place.0, place.1)

-- ---- what makes and keeps it
pub window_closed : (bs : List Bank) (table : List (Option ℕ)) → IsWindow bs table 4294967295 0
window_closed bs table = record {
  has = λ lt. absurd (omega arith);
  frame = λ lt. absurd (omega arith);
  whole = omega arith;
}

pub window_moved : (bs : List Bank) (table : List (Option ℕ)) (i first shift a frame : ℕ) → IsBankAt bs i first 4096 → first ≡ a - a % 4096 → frame < 65536
    → shift ≡ (frame * 4096 + (2 ^ 32 - first)) % 2 ^ 32 → a < 2 ^ 32 → frame_of table (a / 4096) ≡ Some frame → IsWindow bs table (a / 4096) shift
window_moved bs table i first shift a frame b e few s small is = record {
  has = λ lt. ap (λ (x : ℕ). bank_has bs x 4096) (omega arith) ∙ has_at bs i first 4096 b;
  frame = λ lt. is ∙ ap Some (omega arith);
  whole = omega arith;
}

pub window_stored : (bs : List Bank) (table new : List (Option ℕ)) (page shift : ℕ) → IsWindow bs table page shift → KeepsFrames table new → IsWindow bs new page shift
window_stored bs table new page shift w k = record {
  has = w.has;
  frame = λ lt. k.each page ((4096 * page + shift) % 2 ^ 32 / 4096) (w.frame lt);
  whole = w.whole;
}

-- ---- frames that stay
pub frames_same : (old new : List (Option ℕ)) → new ≡ old → KeepsFrames old new
frames_same old new e = rw e (record { each = λ page frame is. is })

pub frames_claimed : (old new : List (Option ℕ)) (page frame : ℕ) → frame_of old page ≡ None → new ≡ set old page (Some frame) → KeepsFrames old new
frames_claimed old new page frame fresh e = rw e (record { each = λ q f is. go q f is (same_or_not q page) })
  where
    go : (q f : ℕ) → frame_of old q ≡ Some f → (q ≡ page) ⊎ (q ≢ page) → frame_of (set old page (Some frame)) q ≡ Some f
    go q f is (inl same) = absurd (let here = ap (frame_of old) (sym same) ∙ is in cc)
    go q f is (inr other) = get_or-set_other old page q (Some frame) None other ∙ is

-- ---- the window of loads and stores, whose page isn't protected
pub data_has : (bs : List Bank) (table : List (Option ℕ)) (page shift a n : ℕ) → IsDataWindow bs table page shift → page ≡ a / 4096 → a < 2 ^ 32 → a % 4096 + n ≤ 4096
    → bank_has bs a n ≡ true
data_has bs table page shift a n w e small inside = window_has bs table page shift a n w.window e small inside

pub data_free : (bs : List Bank) (table : List (Option ℕ)) (page shift a n : ℕ) → IsDataWindow bs table page shift → page ≡ a / 4096 → a < 2 ^ 32 → a % 4096 + n ≤ 4096
    → is_protected bs a n ≡ false
data_free bs table page shift a n w e small inside = free_part bs (4096 * page) 4096 a n (omega arith) (omega arith) (w.free (omega arith))

pub data_place : (bs : List Bank) (table : List (Option ℕ)) (page shift a at : ℕ) → IsDataWindow bs table page shift → page ≡ a / 4096 → a < 2 ^ 32
    → at ≡ (a + shift) % 2 ^ 32 → (frame_of table (a / 4096) ≡ Some (at / 4096)) × (at % 4096 ≡ a % 4096)
data_place bs table page shift a at w e small is = window_place bs table page shift a at w.window e small is

pub data_closed : (bs : List Bank) (table : List (Option ℕ)) → IsDataWindow bs table 4294967295 0
data_closed bs table = record { window = window_closed bs table; free = λ lt. absurd (omega arith) }

pub data_stored : (bs : List Bank) (table new : List (Option ℕ)) (page shift : ℕ) → IsDataWindow bs table page shift → KeepsFrames table new → IsDataWindow bs new page shift
data_stored bs table new page shift w k = record { window = window_stored bs table new page shift w.window k; free = w.free }

pub data_moved : (bs : List Bank) (table : List (Option ℕ)) (page shift first a : ℕ) → IsWindow bs table page shift → page ≡ a / 4096 → first ≡ a - a % 4096
    → is_protected bs first 4096 ≡ false → IsDataWindow bs table page shift
data_moved bs table page shift first a w is e free = record { window = w; free = λ lt. ap (λ (x : ℕ). is_protected bs x 4096) (omega arith) ∙ free }
