-- Pages that become used one after another.
use Rattle.std.proofs.Common.{◌≡◌, ℕ, zero, suc, ◌+◌, ◌-◌, ◌/◌, ◌<◌, ◌≤◌, Bool, true, false, List, length, get_or, set, cond, Option, Some, None, is_some, refl, sym, ap, ◌∙◌, arith}
use Rattle.std.proofs.lemmas.List.{length-set, get_or-set_other}
use Rattle.std.proofs.lemmas.List.Sums.{sum_by-set}
use Rattle.arm7_bus.specs.Paging.{IsPaging, frame_of, used_in, used_count}
use Rattle.arm7_bus.specs.States.{claimed, pages_of}
use Rattle.arm7_bus.proofs.PagingLemmas.{used_at, used_counted, used_length, used_still}

pub claimed_length : (used : List Bool) (first n : ℕ) → length (claimed used first n) ≡ length used
claimed_length used first zero = refl
claimed_length used first (suc n) = length-set (claimed used first n) (first + n) true ∙ claimed_length used first n

-- the pages after them stay
later : (used : List Bool) (first n p : ℕ) → first + n ≤ p → get_or (claimed used first n) p false ≡ get_or used p false
later used first zero p le = refl
later used first (suc n) p le = get_or-set_other (claimed used first n) (first + n) p true false (omega arith) ∙ later used first n p (omega arith)

pub count_fresh : (us : List Bool) (p : ℕ) → p < length us → get_or us p false ≡ false → used_count (set us p true) ≡ used_count us + 1
count_fresh us p lt e = let h = rw e at (sum_by-set (λ (u : Bool). cond u 1 0) us p true false lt) in omega (arith, h)

count_used : (us : List Bool) (p : ℕ) → p < length us → get_or us p false ≡ true → used_count (set us p true) ≡ used_count us
count_used us p lt e = let h = rw e at (sum_by-set (λ (u : Bool). cond u 1 0) us p true false lt) in omega (arith, h)

-- one more page
fresh_next : (us : List Bool) (first n : ℕ) → first + n < length us → get_or us (first + n) false ≡ false
    → used_count (claimed us first (suc n)) ≡ used_count (claimed us first n) + 1
fresh_next us first n lt e =
    let l = claimed_length us first n in
    count_fresh (claimed us first n) (first + n) (omega arith) (later us first n (first + n) (omega arith) ∙ e)

used_next : (us : List Bool) (first n : ℕ) → first + n < length us → get_or us (first + n) false ≡ true
    → used_count (claimed us first (suc n)) ≡ used_count (claimed us first n)
used_next us first n lt e =
    let l = claimed_length us first n in
    count_used (claimed us first n) (first + n) (omega arith) (later us first n (first + n) (omega arith) ∙ e)

pub fresh_more : (us : List Bool) (first n : ℕ) → first + n < length us → get_or us (first + n) false ≡ false
    → used_count (claimed us first (n + 1)) ≡ used_count (claimed us first n) + 1
fresh_more us first n lt e = let s : n + 1 ≡ suc n = omega arith in rw s (fresh_next us first n lt e)

pub used_more : (us : List Bool) (first n : ℕ) → first + n < length us → get_or us (first + n) false ≡ true
    → used_count (claimed us first (n + 1)) ≡ used_count (claimed us first n)
used_more us first n lt e = let s : n + 1 ≡ suc n = omega arith in rw s (used_next us first n lt e)

grows : (us : List Bool) (first n : ℕ) (b : Bool) → first + n < length us → get_or us (first + n) false ≡ b
    → used_count (claimed us first n) ≤ used_count (claimed us first (suc n))
grows us first n true lt e = let h = used_next us first n lt e in omega arith
grows us first n false lt e = let h = fresh_next us first n lt e in omega arith

grows_by : (us : List Bool) (first n m : ℕ) → first + (n + m) ≤ length us → used_count (claimed us first n) ≤ used_count (claimed us first (n + m))
grows_by us first n zero le = let s : n + 0 ≡ n = omega arith in rw s (omega arith)
grows_by us first n (suc m) le =
    let s : n + suc m ≡ suc (n + m) = omega arith in
    let a = grows_by us first n m (omega arith) in
    let b = grows us first (n + m) (get_or us (first + (n + m)) false) (omega arith) refl in
    rw s (omega arith)

-- no more pages are used before the last one is than after it
pub claimed_within : (us : List Bool) (first n count : ℕ) → n ≤ count → first + count ≤ length us
    → used_count (claimed us first n) ≤ used_count (claimed us first count)
claimed_within us first n count le room =
    let s : n + (count - n) ≡ count = omega arith in
    rw s at (grows_by us first n (count - n) (omega arith))

-- a page by its frame
frame_none : (o : Option ℕ) → is_some o ≡ false → o ≡ None
frame_none None e = refl
frame_none (Some x) e = absurd (cc)

pub page_fresh : (table : List (Option ℕ)) (page : ℕ) → get_or (used_in table) page false ≡ false → frame_of table page ≡ None
page_fresh table page e = frame_none (frame_of table page) (sym (used_at table page) ∙ e)

kept : (table : List (Option ℕ)) (page : ℕ) (o : Option ℕ) → frame_of table page ≡ o → is_some o ≡ true → set (used_in table) page true ≡ used_in table
kept table page None f e = absurd (cc)
kept table page (Some x) f e = used_still table page x f

pub page_kept : (table : List (Option ℕ)) (page : ℕ) → get_or (used_in table) page false ≡ true → set (used_in table) page true ≡ used_in table
page_kept table page e = kept table page (frame_of table page) refl (sym (used_at table page) ∙ e)

pub page_room : (table : List (Option ℕ)) (bytes : List ℕ) (used room page : ℕ) → IsPaging table bytes used room → page < length table
    → get_or (used_in table) page false ≡ false → used_count (set (used_in table) page true) ≤ room → used < room
page_room table bytes used room page p lt e le =
    let a = count_fresh (used_in table) page (let l = used_length table in omega arith) e in
    let b = used_counted table in
    let c = p.counted in
    omega (arith, a, b, c)

added_by : (us : List Bool) (first n x : ℕ) (b : Bool) → first + n < length us → get_or us (first + n) false ≡ b → x ≡ cond b 0 1
    → used_count (claimed us first (n + 1)) ≡ used_count (claimed us first n) + x
added_by us first n x true lt e h = let a = used_more us first n lt e in omega arith
added_by us first n x false lt e h = let a = fresh_more us first n lt e in omega arith

pub added_more : (us : List Bool) (first n x : ℕ) → first + n < length us → x ≡ cond (get_or us (first + n) false) 0 1
    → used_count (claimed us first (n + 1)) ≡ used_count (claimed us first n) + x
added_more us first n x lt h = added_by us first n x (get_or us (first + n) false) lt refl h

pub paging_count : (table : List (Option ℕ)) (bytes : List ℕ) (used room : ℕ) → IsPaging table bytes used room
    → (used_count (used_in table) ≡ used) × (used ≤ room)
paging_count table bytes used room p = (used_counted table ∙ p.counted, p.fits)

pub one_at_most : (b : Bool) (x : ℕ) → x ≡ cond b 0 1 → x ≤ 1
one_at_most true x e = omega arith
one_at_most false x e = omega arith

pub use_room : (us now : List Bool) (first k count room left : ℕ) → now ≡ claimed us first k → k < count → first + count ≤ length us
    → used_count (claimed us first count) ≤ room → left ≡ room → used_count (set now (first + k) true) ≤ left
use_room us now first k count room left e lt len fits same =
    let a : used_count (claimed us first (suc k)) ≤ used_count (claimed us first count) = claimed_within us first (suc k) count (omega arith) len in
    rw (e, same) (omega arith)

pub use_length : (table before : List (Option ℕ)) (first k : ℕ) → used_in table ≡ claimed (used_in before) first k → length table ≡ length before
use_length table before first k e = sym (used_length table) ∙ ap length e ∙ claimed_length (used_in before) first k ∙ used_length before

-- how many pages a range touches
pub pages_none : (base size : ℕ) → size ≡ 0 → pages_of base size ≡ 0
pages_none base zero e = refl
pages_none base (suc size) e = absurd (omega arith)

pub pages_some : (base size : ℕ) → 0 < size → pages_of base size ≡ (base + (size - 1)) / 4096 + 1 - base / 4096
pages_some base zero lt = absurd (omega arith)
pages_some base (suc size) lt = let s : suc size - 1 ≡ size = omega arith in rw s refl
