-- One placed image, whole: a copy and a zero part. It has a view and files, there is a state in which it can
-- start, and from there it reaches its entry.
use Rattle.std.proofs.Common.{◌≡◌, ℕ, zero, suc, ◌-◌, ◌^◌, ◌<◌, ◌≤◌, Bool, true, false, nat_lt, if◌then◌else◌, List, [], ◌∷◌, refl, ap, arith, Option, Some, None}
use Rattle.std.specs.Prelude.{codes, replicate, slice_index, unwrap_or}
use Rattle.std.specs.List.{list_all, AllByRecursion}
use Rattle.base_lemmas.proofs.BaseLemmas.{both_true, same}
use Rattle.arm7_model.specs.Memory.{Board}
use Rattle.arm7_model.specs.Registers.{State, IsStatus, register, has_mode, mode_named, bank_in, mode_in, is_thumb}
use Rattle.boot_code.specs.Boots.{ByteMap, CanStart, Boots, BootsIn}
use Rattle.boot_code.specs.Laws.{written_by}
use Rattle.boot_code.specs.Maps.{Segment, has, map_of}
use Rattle.place_model.specs.declared.scatter.Choice.TheVariants as choice
use Rattle.place_model.specs.declared.scatter.Kind.TheVariants as kind
use Rattle.place_model.specs.declared.scatter.Scatter.{Scatter}
use Rattle.place_model.specs.declared.scatter.ScatterBase.TheVariants.{At}
use Rattle.place_model.specs.Plans.{Contents, Plan, copies_of, parts_of}
use Rattle.place_model.specs.Laws.{AreWhole}
use Rattle.place_model.proofs.Rows.{any, region, code_region, contents, three_areas}
use Rattle.place_model.proofs.SpanLemmas.{lt-true}
use Rattle.image_model.specs.Regions.{Filling, AreSized, filled}
use Rattle.image_model.specs.Views.{view_of, files_of}
use Rattle.image_model.proofs.Rows.{copy_and_zero-given}
use Rattle.image_laws.specs.Laws.{scatter_plan, IsImage}
use Rattle.image_laws.proofs.FileLemmas.{is_load_view}
use Rattle.image_laws.proofs.Placed.{image_boots}
use Rattle.image_laws.proofs.ViewLemmas.{is_view}

-- ---- a state in which files of bytes can start

index_below : (most : ℕ) (xs : List ℕ) → 0 < most → list_all (λ v. nat_lt v most) xs ≡ true → (k : ℕ) → slice_index xs k < most
index_below most [] some h k = some
index_below most (x ∷ xs) some h zero = lt-true x most (both_true (nat_lt x most) (list_all (λ v. nat_lt v most) xs) h).0
index_below most (x ∷ xs) some h (suc k) = index_below most xs some (both_true (nat_lt x most) (list_all (λ v. nat_lt v most) xs) h).1 k

abbrev pub AreBytes : List Segment → Type 0
AreBytes ss = AllByRecursion (λ s. list_all (λ v. nat_lt v 256) s.bytes ≡ true) ss

byte_of : (ss : List Segment) → AreBytes ss → (x b : ℕ) → map_of ss x ≡ Some b → b < 256
byte_of [] all x b h = absurd cc
byte_of (s ∷ ss) all x b h = go (has x s) (byte_of ss all.1 x b) h
  where
    go : (d : Bool) → (map_of ss x ≡ Some b → b < 256) → (if d then Some (slice_index s.bytes (x - s.base)) else map_of ss x) ≡ Some b → b < 256
    go true rest e = let small = index_below 256 s.bytes (omega arith) all.0 (x - s.base) in let is = same (slice_index s.bytes (x - s.base)) b e in omega (arith, small, is)
    go false rest e = rest e

index_all : (xs : List ℕ) → AllByRecursion (λ v. v < 2 ^ 32) xs → (k : ℕ) → slice_index xs k < 2 ^ 32
index_all [] all k = omega arith
index_all (x ∷ xs) all zero = all.0
index_all (x ∷ xs) all (suc k) = index_all xs all.1 k

status_of_zeros : (n k : ℕ) → IsStatus (slice_index (replicate n 0) k)
status_of_zeros zero k = record { is_word = omega arith; reserved = refl }
status_of_zeros (suc n) zero = record { is_word = omega arith; reserved = refl }
status_of_zeros (suc n) (suc k) = status_of_zeros n k

-- all addresses are memory, none is read-only, and what no file has is 0
abbrev board : Board
board = record { memory = λ x. true; device = λ x. false; read_only = λ x. false }

abbrev registers : ℕ → List ℕ
registers start = 0 ∷ 0 ∷ 0 ∷ 0 ∷ 0 ∷ 0 ∷ 0 ∷ 0 ∷ 0 ∷ 0 ∷ 0 ∷ 0 ∷ 0 ∷ 0 ∷ 0 ∷ start ∷ []

abbrev reset : List Segment → ℕ → State
reset files start = record {
  core = record {
    r = registers start;
    cpsr = 0xD3;
    spsr = 0 ∷ 0 ∷ 0 ∷ 0 ∷ 0 ∷ [];
    banks = record { high = 0 ∷ 0 ∷ 0 ∷ 0 ∷ 0 ∷ []; r13 = 0 ∷ 0 ∷ 0 ∷ 0 ∷ 0 ∷ 0 ∷ []; r14 = 0 ∷ 0 ∷ 0 ∷ 0 ∷ 0 ∷ 0 ∷ [] };
  };
  memory = λ x. unwrap_or (map_of files x) 0;
}

small_registers : (start k : ℕ) → start < 2 ^ 32 → slice_index (registers start) k < 2 ^ 32
small_registers start k h =
    let z : 0 < 2 ^ 32 = omega arith in
    index_all (registers start) (z, (z, (z, (z, (z, (z, (z, (z, (z, (z, (z, (z, (z, (z, (z, (h, tt)))))))))))))))) k

small_byte : (files : List Segment) → AreBytes files → (x : ℕ) → unwrap_or (map_of files x) 0 < 256
small_byte files all x = go (map_of files x) (byte_of files all x)
  where
    go : (o : Option ℕ) → ((b : ℕ) → o ≡ Some b → b < 256) → unwrap_or o 0 < 256
    go None h = omega arith
    go (Some b) h = h b refl

pub can_start : (files : List Segment) (view : ByteMap) (written : ℕ → Bool) (start : ℕ) → AreBytes files → start < 2 ^ 32 → CanStart (map_of files) view written start board (reset files start)
unfolding register has_mode mode_named bank_in mode_in is_thumb
can_start files view written start all h = record {
  valid = record {
    core = record {
      visible = record { count = refl; each = λ k. small_registers start k h };
      high = record { count = refl; each = index_below (2 ^ 32) (0 ∷ 0 ∷ 0 ∷ 0 ∷ 0 ∷ []) (omega arith) refl };
      r13 = record { count = refl; each = index_below (2 ^ 32) (0 ∷ 0 ∷ 0 ∷ 0 ∷ 0 ∷ 0 ∷ []) (omega arith) refl };
      r14 = record { count = refl; each = index_below (2 ^ 32) (0 ∷ 0 ∷ 0 ∷ 0 ∷ 0 ∷ 0 ∷ []) (omega arith) refl };
      no_r13 = refl;
      no_r14 = refl;
      mode = refl;
      status = record { is_word = omega arith; reserved = refl };
      saved_count = refl;
      saved_status = status_of_zeros 5;
      even = λ e. absurd (cc e);
    };
    memory = small_byte files all;
  };
  loaded = λ x b e. (refl, ap (λ (o : Option ℕ). unwrap_or o 0) e);
  there = λ x b e. refl;
  writable = λ x e. refl;
  supervisor = refl;
  arm = refl;
  fiq_masked = refl;
  irq_masked = refl;
  pc = refl;
}

-- ---- the image of one area of code, one of data, which is copied, and one of zeros

abbrev description : Scatter
description = record {
  loads =
      (record {
        name = codes "L";
        base = 0x8000;
        max = None;
        regions = code_region ∷ region (codes "Y") (At 0x9000) (any choice.Rw ∷ any choice.Zi ∷ []) ∷ [];
      }) ∷ [];
}

abbrev placed : Contents
placed = contents (kind.Scatter description) three_areas

abbrev plan : Plan
plan = scatter_plan description placed

abbrev held : Filling
held = filled copy_and_zero-given plan []

abbrev files : List Segment
files = files_of plan held

abbrev view : ByteMap
view = view_of plan held

whole : AreWhole (kind.Scatter description) placed
whole = record {
  loads = (refl, tt);
  regions = (refl, (refl, tt));
  items = (
    (record { size = refl; alignment = omega arith }, tt),
    ((record { size = refl; alignment = omega arith }, (record { size = refl; alignment = omega arith }, tt)), tt),
  );
}

sized : AreSized held plan
sized = ((refl, (refl, tt)), ((refl, tt), tt))

pub image : IsImage description placed copy_and_zero-given None view files 0x8004
image = record {
  whole = whole;
  accepted = refl;
  sized = sized;
  shows = is_view plan held refl sized;
  loads = is_load_view (kind.Scatter description) placed None held refl sized;
  boot = refl;
  entry_small = omega arith;
  entry_fair = λ e. absurd (omega arith);
}

-- it boots within its bound, whatever else the memory holds
pub boots : Boots (map_of files) view (written_by (copies_of plan) (parts_of plan)) 0x8004 70 0x8000
boots = image_boots description placed copy_and_zero-given None view files 0x8004 image

-- and there is a state from which it does
pub starts : CanStart (map_of files) view (written_by (copies_of plan) (parts_of plan)) 0x8004 board (reset files 0x8004)
starts = can_start files view (written_by (copies_of plan) (parts_of plan)) 0x8004 (refl, tt) (omega arith)

pub reaches_entry : (n : ℕ) × (n ≤ 70) × BootsIn n (map_of files) view 0x8000 board (reset files 0x8004)
reaches_entry = boots board (reset files 0x8004) starts
