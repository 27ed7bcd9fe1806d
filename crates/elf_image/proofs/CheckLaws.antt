-- The laws: what reading gives is what the bytes say, and what it tells is the first check that fails.
use Rattle.std.proofs.Common.{◌≡◌, ℕ, ◌+◌, ◌-◌, ◌*◌, ◌/◌, ◌%◌, ◌≤◌, ◌⊎◌, inl, inr, Bool, true, false, cond, not, ◌&&◌, ◌||◌, ◌==◌, nat_le, nat_lt, List, [], ◌∷◌, ◌++◌, length, Option, Some, None, Result, Ok, Err, refl, sym, ap, subst, ◌∙◌, arith}
use Rattle.std.specs.Prelude.{◌↔◌, IfErr}
use Rattle.std.specs.List.{AllByRecursion, list_any}
use Rattle.std.proofs.lemmas.Bool.{eqb-true, eq-eqb, leb-true, leb-false, le-leb, lt-ltb, ltb-true, and_parts, and_from, or_cases, or_left, or_right, or_parts, or_from, both_ways, false_from_ne_true}
use Rattle.sdt_word.specs.Bytes.{word_in}
use Rattle.sdt_fault.specs.declared.answer.Fault.{Fault}
use Rattle.sdt_fault.specs.declared.answer.Fault.TheVariants as fault
use Rattle.sdt_fault.specs.declared.kinds.FileKind.{FileKind}
use Rattle.sdt_fault.specs.declared.kinds.FileKind.TheVariants as kind
use Rattle.sdt_fault.specs.declared.refusal.Refusal.{Refusal}
use Rattle.sdt_fault.specs.declared.refusal.Refusal.TheVariants.{BadImage}
use Rattle.chunk_file.specs.Reading.{◌>>=◌, Gives}
use Rattle.elf_image.specs.declared.records.Elf.{Elf}
use Rattle.elf_image.specs.declared.records.Segment.{Segment}
use Rattle.elf_image.specs.Checks.{Check, Long, Magic, Class, Executable, Arm, HeaderSize, Table, Fits, Apart, Enters, head_checks, load_checks, checks, Holds, IsApart, IsSegment, entry_of, header_at, header_count, header_size, table_at, segment_at, segments_before, kind_of, place_of, told, IsFirstFailed, ReadsElf}
use Rattle.elf_image.specs.Reading.{is_load, is_segment, meets, holds, judged, count_of, elf_of, record_of, IsFaultOf}

-- ---- what a test says

either : (m n i j : ℕ) → (m == n || i == j) ≡ true → (m ≡ n) ⊎ (i ≡ j)
either m n i j h = elim (or_cases (m == n) (i == j) h) [ inl p ↦ inl (eqb-true m n p) | inr q ↦ inr (eqb-true i j q) ]

either_again : (m n i j : ℕ) → (m ≡ n) ⊎ (i ≡ j) → (m == n || i == j) ≡ true
either_again m n i j (inl p) = or_left (m == n) (i == j) (eq-eqb m n p)
either_again m n i j (inr q) = or_right (m == n) (i == j) (eq-eqb i j q)

below : (m n i j : ℕ) → (m == n || nat_le i j) ≡ true → (m ≡ n) ⊎ (i ≤ j)
below m n i j h = elim (or_cases (m == n) (nat_le i j) h) [ inl p ↦ inl (eqb-true m n p) | inr q ↦ inr (leb-true i j q) ]

below_again : (m n i j : ℕ) → (m ≡ n) ⊎ (i ≤ j) → (m == n || nat_le i j) ≡ true
below_again m n i j (inl p) = or_left (m == n) (nat_le i j) (eq-eqb m n p)
below_again m n i j (inr q) = or_right (m == n) (nat_le i j) (le-leb i j q)

is_one : (n : ℕ) (s : Segment) → is_segment n s ≡ true → IsSegment n s
is_one n s h =
    let p = and_parts _ _ h in
    let q = and_parts _ _ p.0 in
    record { within = below s.file_size 0 (s.offset + s.file_size) n q.0; held = leb-true _ _ q.1; in_space = leb-true _ _ p.1 }

one_is : (n : ℕ) (s : Segment) → IsSegment n s → is_segment n s ≡ true
one_is n s h = and_from _ _ (and_from _ _ (below_again s.file_size 0 (s.offset + s.file_size) n h.within) (le-leb _ _ h.held)) (le-leb _ _ h.in_space)

-- ---- segments apart

apart_is : (s t : Segment) → meets s t ≡ false → IsApart s t
apart_is s t h a sa ta =
    let p1 = lt-ltb 0 s.memory_size (omega arith) in
    let p2 = lt-ltb 0 t.memory_size (omega arith) in
    let p3 = lt-ltb s.address (t.address + t.memory_size) (omega arith) in
    let p4 = lt-ltb t.address (s.address + s.memory_size) (omega arith) in
    let met : meets s t ≡ true = rw (p1, p2, p3, p4) refl in
    absurd (cc)

apart_read : (s t : Segment) → IsApart s t → meets s t ≡ false
apart_read s t h = by_test (meets s t) refl where
  shared : nat_lt 0 s.memory_size ≡ true → nat_lt 0 t.memory_size ≡ true → nat_lt s.address (t.address + t.memory_size) ≡ true → nat_lt t.address (s.address + s.memory_size) ≡ true → (b : Bool) → nat_le s.address t.address ≡ b → ⊥
  shared p1 p2 p3 p4 true e =
      let q1 = ltb-true _ _ p1 in let q2 = ltb-true _ _ p2 in let q3 = ltb-true _ _ p3 in let q4 = ltb-true _ _ p4 in
      let o = leb-true _ _ e in
      h t.address (omega arith, omega arith) (omega arith, omega arith)
  shared p1 p2 p3 p4 false e =
      let q1 = ltb-true _ _ p1 in let q2 = ltb-true _ _ p2 in let q3 = ltb-true _ _ p3 in let q4 = ltb-true _ _ p4 in
      let o = leb-false _ _ e in
      h s.address (omega arith, omega arith) (omega arith, omega arith)

  by_test : (b : Bool) → meets s t ≡ b → b ≡ false
  by_test false e = refl
  by_test true e =
      let a = and_parts (nat_lt 0 s.memory_size && nat_lt 0 t.memory_size && nat_lt s.address (t.address + t.memory_size)) (nat_lt t.address (s.address + s.memory_size)) e in
      let b = and_parts (nat_lt 0 s.memory_size && nat_lt 0 t.memory_size) (nat_lt s.address (t.address + t.memory_size)) a.0 in
      let c = and_parts (nat_lt 0 s.memory_size) (nat_lt 0 t.memory_size) b.0 in
      absurd (shared c.0 c.1 b.1 a.1 (nat_le s.address t.address) refl)

all_apart : (s : Segment) (ts : List Segment) → list_any (meets s) ts ≡ false → AllByRecursion (IsApart s) ts
all_apart s [] h = tt
all_apart s (t ∷ ts) h = let p = or_parts (meets s t) (list_any (meets s) ts) h in (apart_is s t p.0, all_apart s ts p.1)

apart_all : (s : Segment) (ts : List Segment) → AllByRecursion (IsApart s) ts → list_any (meets s) ts ≡ false
apart_all s [] h = refl
apart_all s (t ∷ ts) h = or_from (meets s t) (list_any (meets s) ts) (apart_read s t h.0) (apart_all s ts h.1)

-- ---- checks of what is loaded alone

follows : (p q : Bool) → (not p || q) ≡ true → p ≡ true → q ≡ true
follows true q h e = h
follows false q h e = absurd (cc)

following : (p q : Bool) → (p ≡ true → q ≡ true) → (not p || q) ≡ true
following true q h = h refl
following false q h = refl

is_not : (p : Bool) → not p ≡ true → p ≡ false
is_not true h = absurd (cc)
is_not false h = refl

not_is : (p : Bool) → p ≡ false → not p ≡ true
not_is true h = absurd (cc)
not_is false h = refl

apart_says : (p : Bool) (s : Segment) (ts : List Segment) → (not p || not (list_any (meets s) ts)) ≡ true → p ≡ true → AllByRecursion (IsApart s) ts
apart_says p s ts h e = all_apart s ts (is_not (list_any (meets s) ts) (follows p (not (list_any (meets s) ts)) h e))

apart_said : (p : Bool) (s : Segment) (ts : List Segment) → (p ≡ true → AllByRecursion (IsApart s) ts) → (not p || not (list_any (meets s) ts)) ≡ true
apart_said p s ts h = following p (not (list_any (meets s) ts)) (λ e. not_is (list_any (meets s) ts) (apart_all s ts (h e)))

pub says : (c : Check) (b : List ℕ) → holds c b ≡ true → Holds c b
says Long b h = leb-true _ _ h
says Magic b h = eqb-true _ _ h
says Class b h = let p = and_parts _ _ h in (eqb-true _ _ p.0, eqb-true _ _ p.1)
says Executable b h = eqb-true _ _ h
says Arm b h = eqb-true _ _ h
says HeaderSize b h = either (header_count b) 0 (header_size b) 32 h
says Table b h = below (header_count b) 0 (header_at b (header_count b)) (length b) h
says (Fits k) b h = λ e. is_one (length b) (segment_at b (header_at b k)) (follows (is_load b (header_at b k)) (is_segment (length b) (segment_at b (header_at b k))) h (eq-eqb (word_in b (header_at b k)) 1 e))
says (Apart k) b h = λ e. apart_says (is_load b (header_at b k)) (segment_at b (header_at b k)) (segments_before b k) h (eq-eqb (word_in b (header_at b k)) 1 e)
says Enters b h = λ e. both_ways (entry_of b % 4 == 2) (is_not (entry_of b % 4 == 2) h) (eq-eqb (entry_of b % 4) 2 e)

pub said : (c : Check) (b : List ℕ) → Holds c b → holds c b ≡ true
said Long b h = le-leb _ _ h
said Magic b h = eq-eqb _ _ h
said Class b h = and_from _ _ (eq-eqb _ _ h.0) (eq-eqb _ _ h.1)
said Executable b h = eq-eqb _ _ h
said Arm b h = eq-eqb _ _ h
said HeaderSize b h = either_again (header_count b) 0 (header_size b) 32 h
said Table b h = below_again (header_count b) 0 (header_at b (header_count b)) (length b) h
said (Fits k) b h = following (is_load b (header_at b k)) (is_segment (length b) (segment_at b (header_at b k))) (λ e. one_is (length b) (segment_at b (header_at b k)) (h (eqb-true (word_in b (header_at b k)) 1 e)))
said (Apart k) b h = apart_said (is_load b (header_at b k)) (segment_at b (header_at b k)) (segments_before b k) (λ e. h (eqb-true (word_in b (header_at b k)) 1 e))
said Enters b h = not_is (entry_of b % 4 == 2) (false_from_ne_true (entry_of b % 4 == 2) (λ e. h (eqb-true (entry_of b % 4) 2 e)))

-- ---- which check is told

check_of : FileKind → ℕ → ℕ → Option Check
check_of kind.Short at table = Some Long
check_of kind.Magic at table = Some Magic
check_of kind.Class at table = Some Class
check_of kind.ElfType at table = Some Executable
check_of kind.Machine at table = Some Arm
check_of kind.Headers at table = Some (cond (at == 0x2A) HeaderSize Table)
check_of kind.Segment at table = Some (Fits ((at - table) / 32))
check_of kind.Overlap at table = Some (Apart ((at - table) / 32))
check_of kind.Entry at table = Some Enters
check_of _ at table = None

number : (table k : ℕ) → (table + 32 * k - table) / 32 ≡ k
number table k = omega arith

found_again : (c : Check) (b : List ℕ) → check_of (kind_of c) (place_of c b) (table_at b) ≡ Some c
unfolding check_of
found_again Long b = refl
found_again Magic b = refl
found_again Class b = refl
found_again Executable b = refl
found_again Arm b = refl
found_again HeaderSize b = refl
found_again Table b = refl
found_again (Fits k) b = ap (λ j. Some (Fits j)) (number (table_at b) k)
found_again (Apart k) b = ap (λ j. Some (Apart j)) (number (table_at b) k)
found_again Enters b = refl

same_kind : (at place : ℕ) (k l : FileKind) → BadImage [] at k ≡ BadImage [] place l → k ≡ l
same_kind at place k l e = cc

same_place : (at place : ℕ) (k l : FileKind) → BadImage [] at k ≡ BadImage [] place l → at ≡ place
same_place at place k l e = cc

same : (c d : Check) → Some c ≡ Some d → c ≡ d
same c d e = cc

same_check : (b : List ℕ) (c d : Check) → told c b ≡ told d b → c ≡ d
same_check b c d e =
    let k = same_kind (place_of c b) (place_of d b) (kind_of c) (kind_of d) e in
    let p = same_place (place_of c b) (place_of d b) (kind_of c) (kind_of d) e in
    same c d (sym (found_again c b) ∙ (ap (λ (f : FileKind). check_of f (place_of c b) (table_at b)) k ∙ (ap (λ at. check_of (kind_of d) at (table_at b)) p ∙ found_again d b)))

-- ---- the checks one after the other

abbrev AllHold : List Check → List ℕ → Type 0
AllHold cs b = AllByRecursion (λ c. Holds c b) cs

abbrev read : {A : Type 0} → A → Result A Refusal
read x = Ok x

abbrev refused : {A : Type 0} → Refusal → Result A Refusal
refused r = Err r

same_value : {A : Type 0} (x y : A) → read x ≡ read y → x ≡ y
same_value x y e = cc

same_refusal : {A : Type 0} (q r : Refusal) → refused {A = A} q ≡ refused r → q ≡ r
same_refusal q r e = cc

-- where no check of these fails
record Passed {A : Type 0} (cs : List Check) (b : List ℕ) (x y : A) : Type 0 where
  all : AllHold cs b
  value : x ≡ y

passed_one : {A : Type 0} (c : Check) (cs : List Check) (b : List ℕ) (x y : A) → (judged cs b x ≡ read y → Passed cs b x y) → (t : Bool) → holds c b ≡ t → cond t (judged cs b x) (refused (told c b)) ≡ read y → Passed (c ∷ cs) b x y
passed_one c cs b x y next true h k = let p = next k in record { all = (says c b h, p.all); value = p.value }
passed_one c cs b x y next false h k = absurd (cc)

passed : {A : Type 0} (cs : List Check) (b : List ℕ) (x y : A) → judged cs b x ≡ read y → Passed cs b x y
passed [] b x y e = record { all = tt; value = same_value x y e }
passed (c ∷ cs) b x y e = passed_one c cs b x y (passed cs b x y) (holds c b) refl e

passes : {A : Type 0} (cs : List Check) (b : List ℕ) (x : A) → AllHold cs b → judged cs b x ≡ read x
passes [] b x h = refl
passes (c ∷ cs) b x h = rw (said c b h.0) (passes cs b x h.1)

-- where one fails
record Stopped (cs : List Check) (b : List ℕ) (r : Refusal) : Type 0 where
  check : Check
  before : List Check
  after : List Check
  order : cs ≡ before ++ check ∷ after
  held : AllHold before b
  failed : Holds check b → ⊥
  tells : r ≡ told check b

stopped_one : {A : Type 0} (c : Check) (cs : List Check) (b : List ℕ) (x : A) (r : Refusal) → (judged cs b x ≡ refused r → Stopped cs b r) → (t : Bool) → holds c b ≡ t → cond t (judged cs b x) (refused (told c b)) ≡ refused r → Stopped (c ∷ cs) b r
stopped_one c cs b x r next true h k =
    let s = next k in
    record { check = s.check; before = c ∷ s.before; after = s.after; order = ap (λ ds. c ∷ ds) s.order; held = (says c b h, s.held); failed = s.failed; tells = s.tells }
stopped_one {A} c cs b x r next false h k =
    record { check = c; before = []; after = cs; order = refl; held = tt; failed = λ is. both_ways (holds c b) h (said c b is); tells = sym (same_refusal {A = A} (told c b) r k) }

stopped : {A : Type 0} (cs : List Check) (b : List ℕ) (x : A) (r : Refusal) → judged cs b x ≡ refused r → Stopped cs b r
stopped [] b x r e = absurd (cc)
stopped (c ∷ cs) b x r e = stopped_one c cs b x r (stopped cs b x r) (holds c b) refl e

stops : {A : Type 0} (before : List Check) (c : Check) (after : List Check) (b : List ℕ) (x : A) → AllHold before b → (Holds c b → ⊥) → judged (before ++ c ∷ after) b x ≡ refused (told c b)
stops [] c after b x h f = rw (false_from_ne_true (holds c b) (λ t. f (says c b t))) refl
stops (d ∷ before) c after b x h f = rw (said d b h.0) (stops before c after b x h.1 f)

-- ---- one list of checks behind another

behind_one : {A B : Type 0} (t : Bool) (r : Refusal) (y : Result A Refusal) (z : Result B Refusal) (f : A → Result B Refusal) → (y >>= f) ≡ z → (cond t y (refused r) >>= f) ≡ cond t z (refused r)
behind_one true r y z f e = e
behind_one false r y z f e = refl

behind : {A B : Type 0} (cs ds : List Check) (b : List ℕ) (x : A) (y : B) (f : A → Result B Refusal) → f x ≡ judged ds b y → (judged cs b x >>= f) ≡ judged (cs ++ ds) b y
behind [] ds b x y f e = e
behind (c ∷ cs) ds b x y f e = behind_one (holds c b) (told c b) (judged cs b x) (judged (cs ++ ds) b y) f (behind cs ds b x y f e)

abbrev whole_of : List ℕ → Elf
whole_of b = record_of b (segments_before b (header_count b))

all_judged : (b : List ℕ) → elf_of b ≡ judged (checks b) b (whole_of b)
unfolding elf_of count_of
all_judged b =
    behind head_checks (load_checks 0 (header_count b) ++ Enters ∷ []) b (header_count b) (whole_of b) (λ n. judged (load_checks 0 n) b (segments_before b n) >>= λ segments. judged (Enters ∷ []) b (record_of b segments))
    (behind (load_checks 0 (header_count b)) (Enters ∷ []) b (segments_before b (header_count b)) (whole_of b) (λ segments. judged (Enters ∷ []) b (record_of b segments)) refl)

-- ---- the laws

is_record : (b : List ℕ) → AllHold (checks b) b → ReadsElf b (whole_of b)
is_record b h = record { checked = h; entry = refl; segments = refl }

-- a record is its two fields
fields_are : (e f : Elf) → e.entry ≡ f.entry → e.segments ≡ f.segments → e ≡ f
fields_are e f p s = let built : Elf = record { entry = e.entry; segments = e.segments } in
    let is : built ≡ f = rw (p, s) refl in is

is_its_record : (b : List ℕ) (e : Elf) → ReadsElf b e → whole_of b ≡ e
is_its_record b e h = fields_are (whole_of b) e (sym h.entry) (sym h.segments)

pub elf_law : (b : List ℕ) (e : Elf) → (elf_of b ≡ Ok e) ↔ ReadsElf b e
elf_law b e = (
  λ k. let p = passed (checks b) b (whole_of b) e (sym (all_judged b) ∙ k) in subst (λ (x : Elf). ReadsElf b x) p.value (is_record b p.all),
  λ h. all_judged b ∙ (passes (checks b) b (whole_of b) h.checked ∙ ap (λ (x : Elf). read x) (is_its_record b e h)),
)

pub one_record : (b : List ℕ) (e f : Elf) → ReadsElf b e → ReadsElf b f → e ≡ f
one_record b e f h k = sym (is_its_record b e h) ∙ is_its_record b f k

is_first : (b : List ℕ) (r : Refusal) (s : Stopped (checks b) b r) → IsFirstFailed b s.check
is_first b r s = record { before = s.before; after = s.after; order = s.order; held = s.held; failed = s.failed }

pub first_failed_law : (b : List ℕ) (c : Check) → (elf_of b ≡ Err (told c b)) ↔ IsFirstFailed b c
first_failed_law b c = (
  λ k. let s = stopped (checks b) b (whole_of b) (told c b) (sym (all_judged b) ∙ k) in
      subst (λ (x : Check). IsFirstFailed b x) (sym (same_check b c s.check s.tells)) (is_first b (told c b) s),
  λ h. all_judged b ∙ (ap (λ cs. judged cs b (whole_of b)) h.order ∙ stops h.before c h.after b (whole_of b) h.held h.failed),
)

-- ---- a call that gives what reading gives

abbrev fault_of : Fault → Result Elf Fault
fault_of e = Err e

first : (b : List ℕ) (e : Fault) → Gives (fault_of e) (elf_of b) → IsFaultOf b e
first b fault.NoMemory h = tt
first b (fault.Refused r) h =
    let s = stopped (checks b) b (whole_of b) r (sym (all_judged b) ∙ h) in (s.check, s.tells, is_first b r s)
first b (fault.ReadFault name) h = h

pub first_failed : (b : List ℕ) (r : Result Elf Fault) → Gives r (elf_of b) → IfErr r (IsFaultOf b)
first_failed b (Ok e) h = tt
first_failed b (Err e) h = first b e h
