-- Pages: what an access in one page reads and writes, and what a page that takes a frame changes.
use Rattle.std.proofs.Common.{◌≡◌, ◌≢◌, ℕ, zero, suc, ◌+◌, ◌-◌, ◌*◌, ◌/◌, ◌%◌, ◌<◌, ◌≤◌, Bool, true, false, List, [], ◌∷◌, ◌++◌, length, take, drop, get_or, set, Option, Some, None, is_some, count_by, cond, refl, sym, ap, ◌∙◌, arith, ◌⊎◌, inl, inr, length-take-le, replicate, drop-cons, ◌==◌, eqb-true, eq-eqb}
use Rattle.std.proofs.Math.ListN.{get_or-append}
use Rattle.std.proofs.Math.Seq.{get_or-append_right, get_or-take, get_or-drop, get_or-set_same, get_or-set_other, map-set}
use Rattle.std.proofs.lemmas.List.Sums.{sum_by-cons, sum_by-set}
use Rattle.std.proofs.Math.Path.{fun_ext}
use Rattle.std.proofs.lemmas.Bool.{true≢false}
use Rattle.sdt_word.specs.Bytes.{load, number_of, written}
use Rattle.sdt_word.specs.Codes.{bytes_in}
use Rattle.sdt_word.specs.declared.codes.Width.{Width}
use Rattle.sdt_word.specs.declared.codes.Width.TheVariants.{Byte, Half, Word}
use Rattle.sdt_word.proofs.BytesLemmas.{length-written}
use Rattle.arm7_model.specs.Memory.{store}
use Rattle.arm7_model.proofs.MemoryLemmas.{below_or_not, store-below, store-above, store-in}
use Rattle.arm7_bus.specs.Paging.{frame_of, byte_of, memory_in, used_in, IsPaging, IsUnused}

-- ---- bytes written over others
written_before : (old bs : List ℕ) (at i : ℕ) → at + length bs ≤ length old → i < at → get_or (written old at bs) i 0 ≡ get_or old i 0
written_before old bs at i room h =
    let front : length (take at old) ≡ at = length-take-le at old (omega arith) in
    get_or-append (take at old) (bs ++ drop (at + length bs) old) 0 i (omega arith) ∙ get_or-take at old i 0 h

written_in : (old bs : List ℕ) (at i : ℕ) → at + length bs ≤ length old → at ≤ i → i < at + length bs → get_or (written old at bs) i 0 ≡ get_or bs (i - at) 0
written_in old bs at i room low high =
    let front : length (take at old) ≡ at = length-take-le at old (omega arith) in
    get_or-append_right (take at old) (bs ++ drop (at + length bs) old) i 0 (omega arith)
    ∙ ap (λ (n : ℕ). get_or (bs ++ drop (at + length bs) old) (i - n) 0) front
    ∙ get_or-append bs (drop (at + length bs) old) 0 (i - at) (omega arith)

written_after : (old bs : List ℕ) (at i : ℕ) → at + length bs ≤ length old → at + length bs ≤ i → get_or (written old at bs) i 0 ≡ get_or old i 0
written_after old bs at i room h =
    let front : length (take at old) ≡ at = length-take-le at old (omega arith) in
    get_or-append_right (take at old) (bs ++ drop (at + length bs) old) i 0 (omega arith)
    ∙ ap (λ (n : ℕ). get_or (bs ++ drop (at + length bs) old) (i - n) 0) front
    ∙ get_or-append_right bs (drop (at + length bs) old) (i - at) 0 (omega arith)
    ∙ get_or-drop (at + length bs) old (i - at - length bs) 0
    ∙ ap (λ (n : ℕ). get_or old n 0) (omega arith)

-- ---- an access lies in one page
pub in_page : (width : Width) (a : ℕ) → a % bytes_in width ≡ 0 → a % 4096 + bytes_in width ≤ 4096
in_page Byte a h = omega arith
in_page Half a h = omega arith
in_page Word a h = omega arith

memory_at : (table : List (Option ℕ)) (bytes : List ℕ) (a k : ℕ) → a % 4096 + k < 4096
    → memory_in table bytes (a + k) ≡ byte_of bytes (a % 4096 + k) (frame_of table (a / 4096))
unfolding memory_in
memory_at table bytes a k h =
    let place : (a + k) % 4096 ≡ a % 4096 + k = omega arith in
    let page : (a + k) / 4096 ≡ a / 4096 = omega arith in
    rw (place, page) refl

-- bytes that stand in a list are loaded as they stand there
load_list : (m : ℕ → ℕ) (bytes : List ℕ) (a o n : ℕ) → o + n ≤ length bytes → ((k : ℕ) → k < n → m (a + k) ≡ get_or bytes (o + k) 0) → load m a n ≡ take n (drop o bytes)
load_list m bytes a o zero room h = refl
load_list m bytes a o (suc n) room h =
    let first : m a ≡ get_or bytes o 0 = ap m (omega arith) ∙ h 0 (omega arith) ∙ ap (λ (k : ℕ). get_or bytes k 0) (omega arith) in
    let rest = load_list m bytes (suc a) (suc o) n (omega arith) (λ k lt. ap m (omega arith) ∙ h (suc k) (omega arith) ∙ ap (λ (k : ℕ). get_or bytes k 0) (omega arith)) in
    rw (drop-cons bytes o 0 (omega arith), first, rest) refl

-- the access reads the bytes of its page's frame
pub load_frame : (table : List (Option ℕ)) (bytes : List ℕ) (a n frame : ℕ) → a % 4096 + n ≤ 4096 → frame_of table (a / 4096) ≡ Some frame → 4096 * frame + 4096 ≤ length bytes
    → load (memory_in table bytes) a n ≡ take n (drop (frame * 4096 + a % 4096) bytes)
load_frame table bytes a n frame inside is room =
    load_list (memory_in table bytes) bytes a (frame * 4096 + a % 4096) n (omega arith)
    (λ k lt. memory_at table bytes a k (omega arith) ∙ ap (byte_of bytes (a % 4096 + k)) is ∙ ap (λ (i : ℕ). get_or bytes i 0) (omega arith))

load_zeros : (m : ℕ → ℕ) (a n : ℕ) → ((k : ℕ) → k < n → m (a + k) ≡ 0) → number_of (load m a n) ≡ 0
load_zeros m a zero h = refl
load_zeros m a (suc n) h =
    let first : m a ≡ 0 = ap m (omega arith) ∙ h 0 (omega arith) in
    let rest = load_zeros m (suc a) n (λ k lt. ap m (omega arith) ∙ h (suc k) (omega arith)) in
    omega arith

-- a page without a frame is read as zeros
pub load_none : (table : List (Option ℕ)) (bytes : List ℕ) (a n : ℕ) → a % 4096 + n ≤ 4096 → frame_of table (a / 4096) ≡ None → number_of (load (memory_in table bytes) a n) ≡ 0
load_none table bytes a n inside is =
    load_zeros (memory_in table bytes) a n (λ k lt. memory_at table bytes a k (omega arith) ∙ ap (byte_of bytes (a % 4096 + k)) is)

-- ---- a page takes a frame
pub same_or_not : (x a : ℕ) → (x ≡ a) ⊎ (x ≢ a)
same_or_not x a = go (x == a) refl
  where
    go : (b : Bool) → (x == a) ≡ b → (x ≡ a) ⊎ (x ≢ a)
    go true e = inl (eqb-true x a e)
    go false e = inr (λ same. absurd (true≢false (sym (eq-eqb x a same) ∙ e)))

byte_clear : (bytes : List ℕ) (used : ℕ) → ((k : ℕ) → 4096 * used ≤ k → get_or bytes k 0 ≡ 0) → (at : ℕ) → byte_of bytes at (Some used) ≡ 0
byte_clear bytes used clear at = clear (4096 * used + at) (omega arith)

pub claim-memory : (table : List (Option ℕ)) (bytes : List ℕ) (used room page : ℕ) → IsPaging table bytes used room → page < length table → frame_of table page ≡ None
    → memory_in (set table page (Some used)) bytes ≡ memory_in table bytes
unfolding memory_in
claim-memory table bytes used room page p lt fresh = fun_ext (λ a. go a (same_or_not (a / 4096) page))
  where
    go : (a : ℕ) → (a / 4096 ≡ page) ⊎ (a / 4096 ≢ page)
        → byte_of bytes (a % 4096) (get_or (set table page (Some used)) (a / 4096) None) ≡ byte_of bytes (a % 4096) (get_or table (a / 4096) None)
    go a (inl same) =
        rw same (ap (byte_of bytes (a % 4096)) (get_or-set_same table page (Some used) None lt)
        ∙ byte_clear bytes used p.clear (a % 4096) ∙ ap (byte_of bytes (a % 4096)) (sym fresh))
    go a (inr other) = ap (byte_of bytes (a % 4096)) (get_or-set_other table page (a / 4096) (Some used) None other)

some_same : (m n : ℕ) → Some m ≡ Some n → m ≡ n
some_same m n e = cc

abbrev one : Option ℕ → ℕ
one o = cond (is_some o) 1 0

abbrev as_one : Bool → ℕ
as_one u = cond u 1 0

module _ (table : List (Option ℕ)) (bytes : List ℕ) (used room page : ℕ) (p : IsPaging table bytes used room) (lt : page < length table) (fresh : frame_of table page ≡ None) (left : used < room) where
  here : frame_of (set table page (Some used)) page ≡ Some used
  here = get_or-set_same table page (Some used) None lt

  there : (q : ℕ) → q ≢ page → frame_of (set table page (Some used)) q ≡ frame_of table q
  there q other = get_or-set_other table page q (Some used) None other

  is_below : (q frame : ℕ) → (q ≡ page) ⊎ (q ≢ page) → frame_of (set table page (Some used)) q ≡ Some frame → frame < used + 1
  is_below q frame (inl same) e =
      let value : used ≡ frame = some_same used frame (sym here ∙ ap (frame_of (set table page (Some used))) (sym same) ∙ e) in
      omega arith
  is_below q frame (inr other) e = let h = p.below q frame (sym (there q other) ∙ e) in omega arith

  is_distinct : (q r frame : ℕ) → (q ≡ page) ⊎ (q ≢ page) → (r ≡ page) ⊎ (r ≢ page)
      → frame_of (set table page (Some used)) q ≡ Some frame → frame_of (set table page (Some used)) r ≡ Some frame → q ≡ r
  is_distinct q r frame (inl a) (inl b) e f = a ∙ sym b
  is_distinct q r frame (inl a) (inr b) e f =
      let value : used ≡ frame = some_same used frame (sym here ∙ ap (frame_of (set table page (Some used))) (sym a) ∙ e) in
      let h = p.below r frame (sym (there r b) ∙ f) in
      absurd (omega arith)
  is_distinct q r frame (inr a) (inl b) e f =
      let value : used ≡ frame = some_same used frame (sym here ∙ ap (frame_of (set table page (Some used))) (sym b) ∙ f) in
      let h = p.below q frame (sym (there q a) ∙ e) in
      absurd (omega arith)
  is_distinct q r frame (inr a) (inr b) e f = p.distinct q r frame (sym (there q a) ∙ e) (sym (there r b) ∙ f)

  is_counted : count_by is_some (set table page (Some used)) ≡ used + 1
  is_counted =
      let h = sum_by-set one table page (Some used) None lt in
      let none : one (get_or table page None) ≡ 0 = ap one fresh in
      omega (arith, h, none, p.counted)

  pub claim-paging : IsPaging (set table page (Some used)) bytes (used + 1) room
  claim-paging = record {
    size = p.size;
    fits = omega arith;
    few = p.few;
    counted = is_counted;
    below = λ q frame e. is_below q frame (same_or_not q page) e;
    distinct = λ q r frame e f. is_distinct q r frame (same_or_not q page) (same_or_not r page) e f;
    clear = λ k h. p.clear k (omega arith);
  }

-- ---- a write to a page's frame
module _ (table : List (Option ℕ)) (bytes : List ℕ) (used room frame a : ℕ) (bs : List ℕ) (p : IsPaging table bytes used room)
    (is : frame_of table (a / 4096) ≡ Some frame) (inside : a % 4096 + length bs ≤ 4096) where
  frame_room : 4096 * frame + 4096 ≤ length bytes
  frame_room = let h = p.below (a / 4096) frame is in let s = p.size in let f = p.fits in omega arith

  room_at : frame * 4096 + a % 4096 + length bs ≤ length bytes
  room_at = let h = frame_room in omega arith

  -- in another frame, or elsewhere in this one
  byte_same : (x g : ℕ) → frame_of table (x / 4096) ≡ Some g → (x < a) ⊎ (a + length bs ≤ x)
      → get_or (written bytes (frame * 4096 + a % 4096) bs) (4096 * g + x % 4096) 0 ≡ get_or bytes (4096 * g + x % 4096) 0
  byte_same x g e out = go (below_or_not g frame) (below_or_not frame g) out
    where
      go : (g < frame) ⊎ (frame ≤ g) → (frame < g) ⊎ (g ≤ frame) → (x < a) ⊎ (a + length bs ≤ x)
          → get_or (written bytes (frame * 4096 + a % 4096) bs) (4096 * g + x % 4096) 0 ≡ get_or bytes (4096 * g + x % 4096) 0
      go (inl h) _ _ = written_before bytes bs (frame * 4096 + a % 4096) (4096 * g + x % 4096) room_at (omega arith)
      go (inr h) (inl k) _ = written_after bytes bs (frame * 4096 + a % 4096) (4096 * g + x % 4096) room_at (omega arith)
      go (inr h) (inr k) (inl l) =
          let same : g ≡ frame = omega arith in
          let page : x / 4096 ≡ a / 4096 = p.distinct (x / 4096) (a / 4096) frame (e ∙ ap Some same) is in
          written_before bytes bs (frame * 4096 + a % 4096) (4096 * g + x % 4096) room_at (omega arith)
      go (inr h) (inr k) (inr l) =
          let same : g ≡ frame = omega arith in
          let page : x / 4096 ≡ a / 4096 = p.distinct (x / 4096) (a / 4096) frame (e ∙ ap Some same) is in
          written_after bytes bs (frame * 4096 + a % 4096) (4096 * g + x % 4096) room_at (omega arith)

  byte_out : (x : ℕ) (o : Option ℕ) → frame_of table (x / 4096) ≡ o → (x < a) ⊎ (a + length bs ≤ x)
      → byte_of (written bytes (frame * 4096 + a % 4096) bs) (x % 4096) o ≡ byte_of bytes (x % 4096) o
  byte_out x None e out = refl
  byte_out x (Some g) e out = byte_same x g e out

  byte_in : (x : ℕ) → a ≤ x → x < a + length bs
      → byte_of (written bytes (frame * 4096 + a % 4096) bs) (x % 4096) (frame_of table (x / 4096)) ≡ get_or bs (x - a) 0
  byte_in x low high =
      let page : x / 4096 ≡ a / 4096 = omega arith in
      let place : 4096 * frame + x % 4096 - (frame * 4096 + a % 4096) ≡ x - a = omega arith in
      ap (λ (q : ℕ). byte_of (written bytes (frame * 4096 + a % 4096) bs) (x % 4096) (frame_of table q)) page
      ∙ ap (byte_of (written bytes (frame * 4096 + a % 4096) bs) (x % 4096)) is
      ∙ written_in bytes bs (frame * 4096 + a % 4096) (4096 * frame + x % 4096) room_at (omega arith) (omega arith)
      ∙ ap (λ (i : ℕ). get_or bs i 0) place

  pub put-memory : memory_in table (written bytes (frame * 4096 + a % 4096) bs) ≡ store (memory_in table bytes) a bs
  unfolding memory_in
  put-memory = fun_ext (λ x. go x (below_or_not x a) (below_or_not x (a + length bs)))
    where
      go : (x : ℕ) → (x < a) ⊎ (a ≤ x) → (x < a + length bs) ⊎ (a + length bs ≤ x)
          → byte_of (written bytes (frame * 4096 + a % 4096) bs) (x % 4096) (frame_of table (x / 4096)) ≡ store (memory_in table bytes) a bs x
      go x (inl h) _ = byte_out x (frame_of table (x / 4096)) refl (inl h) ∙ sym (store-below (memory_in table bytes) a bs x h)
      go x (inr h) (inl k) = byte_in x h k ∙ sym (store-in (memory_in table bytes) a bs x h k)
      go x (inr h) (inr k) = byte_out x (frame_of table (x / 4096)) refl (inr k) ∙ sym (store-above (memory_in table bytes) a bs x k)

  length_same : length (written bytes (frame * 4096 + a % 4096) bs) ≡ length bytes
  length_same = length-written bytes bs (frame * 4096 + a % 4096) room_at

  pub put-paging : IsPaging table (written bytes (frame * 4096 + a % 4096) bs) used room
  put-paging = record {
    size = length_same ∙ p.size;
    fits = p.fits;
    few = p.few;
    counted = p.counted;
    below = p.below;
    distinct = p.distinct;
    clear = λ k h. written_after bytes bs (frame * 4096 + a % 4096) k room_at (let b = p.below (a / 4096) frame is in omega arith) ∙ p.clear k h;
  }

-- ---- which pages are used
pub used_at : (table : List (Option ℕ)) (page : ℕ) → get_or (used_in table) page false ≡ is_some (frame_of table page)
used_at [] page = refl
used_at (o ∷ os) zero = refl
used_at (o ∷ os) (suc page) = used_at os page

pub used_claim : (table : List (Option ℕ)) (page frame : ℕ) → used_in (set table page (Some frame)) ≡ set (used_in table) page true
used_claim table page frame = map-set is_some table page (Some frame)

pub used_still : (table : List (Option ℕ)) (page frame : ℕ) → frame_of table page ≡ Some frame → set (used_in table) page true ≡ used_in table
used_still [] page frame e = refl
used_still (o ∷ os) zero frame e = ap (λ (b : Bool). b ∷ used_in os) (sym (ap is_some e))
used_still (o ∷ os) (suc page) frame e = ap (λ (bs : List Bool). is_some o ∷ bs) (used_still os page frame e)

pub used_counted : (table : List (Option ℕ)) → count_by (λ (u : Bool). u) (used_in table) ≡ count_by is_some table
used_counted [] = refl
used_counted (o ∷ os) =
    let left = sum_by-cons (λ (u : Bool). as_one u) (is_some o) (used_in os) in
    let right = sum_by-cons one o os in
    let rest = used_counted os in
    omega (arith, left, right, rest)

-- ---- pages before any is used
pub none_at : (n page : ℕ) → frame_of (replicate n None) page ≡ None
none_at zero page = refl
none_at (suc n) zero = refl
none_at (suc n) (suc page) = none_at n page

pub fresh-memory : (table : List (Option ℕ)) (bytes : List ℕ) (n : ℕ) (before : List (Option ℕ)) (old : List ℕ) → IsUnused table n → length (used_in before) ≡ 0 → memory_in table bytes ≡ memory_in before old
unfolding memory_in
fresh-memory table bytes n [] old u e = fun_ext (λ a. ap (byte_of bytes (a % 4096)) (u.none (a / 4096)))
fresh-memory table bytes n (o ∷ os) old u e = absurd (omega arith)

pub unused_at : (table : List (Option ℕ)) (n page : ℕ) → IsUnused table n → get_or (used_in table) page false ≡ false
unused_at table n page u = used_at table page ∙ ap is_some (u.none page)

pub used_length : (table : List (Option ℕ)) → length (used_in table) ≡ length table
used_length [] = refl
used_length (o ∷ os) = let rest = used_length os in omega arith

-- no page has a frame
pub memory_clear : (table : List (Option ℕ)) (bytes : List ℕ) (a : ℕ) → table ≡ [] → memory_in table bytes a ≡ 0
unfolding memory_in
memory_clear table bytes a e = rw e refl

-- the same, where the number of pages is known
pub memory_before : (table : List (Option ℕ)) (bytes : List ℕ) (a : ℕ) → length (used_in table) ≡ 0 → memory_in table bytes a ≡ 0
unfolding memory_in
memory_before [] bytes a e = refl
memory_before (o ∷ os) bytes a e = absurd (omega arith)

-- memory holds bytes
byte_small : (bytes : List ℕ) (at : ℕ) (o : Option ℕ) → ((k : ℕ) → get_or bytes k 0 < 256) → byte_of bytes at o < 256
byte_small bytes at None h = omega arith
byte_small bytes at (Some frame) h = h (4096 * frame + at)

pub memory_small : (table : List (Option ℕ)) (bytes : List ℕ) (a : ℕ) → ((k : ℕ) → get_or bytes k 0 < 256) → memory_in table bytes a < 256
unfolding memory_in
memory_small table bytes a h = byte_small bytes (a % 4096) (frame_of table (a / 4096)) h
