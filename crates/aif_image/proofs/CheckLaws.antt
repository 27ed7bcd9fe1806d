-- The laws: what reading gives is what the bytes say, and what it tells is the first check that fails.
use Rattle.std.proofs.Common.{◌≡◌, ℕ, ◌/◌, ◌^◌, ◌⊎◌, inl, inr, Bool, true, false, cond, ◌||◌, List, [], ◌∷◌, ◌++◌, Option, Some, None, Result, Ok, Err, refl, sym, ap, subst, ◌∙◌}
use Rattle.std.specs.Prelude.{◌↔◌, IsTrue, IfOk, IfErr}
use Rattle.std.specs.List.{AllByRecursion}
use Rattle.std.proofs.lemmas.Bool.{eqb-true, eq-eqb, leb-true, le-leb, and_parts, and_from, or_cases, or_left, or_right, both_ways, false_from_ne_true}
use Rattle.sdt_word.specs.Bytes.{word_in}
use Rattle.sdt_fault.specs.declared.answer.Fault.{Fault}
use Rattle.sdt_fault.specs.declared.answer.Fault.TheVariants as fault
use Rattle.sdt_fault.specs.declared.kinds.FileKind.{FileKind}
use Rattle.sdt_fault.specs.declared.kinds.FileKind.TheVariants as kind
use Rattle.sdt_fault.specs.declared.refusal.Refusal.{Refusal}
use Rattle.sdt_fault.specs.declared.refusal.Refusal.TheVariants.{BadImage}
use Rattle.link_model.specs.declared.images.Aif.{Aif}
use Rattle.chunk_file.specs.Reading.{Gives}
use Rattle.aif_image.specs.Checks.{Check, Long, Plain, Relocates, Enters, Sized, Mode32, checks, Holds, HasSizes, IsCall, kind_of, place_of, told, IsFirstFailed, ReadsAif}
use Rattle.aif_image.specs.Reading.{is_call, is_nop, has_sizes, holds, judged, record_of, aif_of, IsFaultOf}

-- ---- what a test says

has_all : (b : List ℕ) → has_sizes b ≡ true → HasSizes b
has_all b h =
    let p = and_parts _ _ h in
    let q = and_parts _ _ p.0 in
    let r = and_parts _ _ q.0 in
    let s = and_parts _ _ r.0 in
    record {
      ro_whole = eqb-true _ _ s.0;
      rw_whole = eqb-true _ _ s.1;
      zero_whole = eqb-true _ _ r.1;
      header = leb-true _ _ q.1;
      within = leb-true _ _ p.1;
    }

all_had : (b : List ℕ) → HasSizes b → has_sizes b ≡ true
all_had b h =
    and_from _ _ (and_from _ _ (and_from _ _ (and_from _ _ (eq-eqb _ _ h.ro_whole) (eq-eqb _ _ h.rw_whole)) (eq-eqb _ _ h.zero_whole)) (le-leb _ _ h.header)) (le-leb _ _ h.within)

either : (w : ℕ) → (is_nop w || is_call w) ≡ true → (w ≡ 0xE1A00000) ⊎ IsCall w
either w h = elim (or_cases (is_nop w) (is_call w) h) [ inl n ↦ inl (eqb-true w 0xE1A00000 n) | inr c ↦ inr (eqb-true (w / 2 ^ 24) 0xEB c) ]

pub says : (c : Check) (b : List ℕ) → holds c b ≡ true → Holds c b
says Long b h = leb-true _ _ h
says Plain b h = eqb-true _ _ h
says Relocates b h = either (word_in b 4) h
says Enters b h = eqb-true _ _ h
says Sized b h = has_all b h
says Mode32 b h = eqb-true _ _ h

again : (w : ℕ) → (w ≡ 0xE1A00000) ⊎ IsCall w → (is_nop w || is_call w) ≡ true
again w (inl n) = or_left (is_nop w) (is_call w) (eq-eqb w 0xE1A00000 n)
again w (inr c) = or_right (is_nop w) (is_call w) (eq-eqb (w / 2 ^ 24) 0xEB c)

pub said : (c : Check) (b : List ℕ) → Holds c b → holds c b ≡ true
said Long b h = le-leb _ _ h
said Plain b h = eq-eqb _ _ h
said Relocates b h = again (word_in b 4) h
said Enters b h = eq-eqb _ _ h
said Sized b h = all_had b h
said Mode32 b h = eq-eqb _ _ h

-- ---- which check is told

check_of : FileKind → Option Check
check_of kind.Short = Some Long
check_of kind.Compressed = Some Plain
check_of kind.Header = Some Relocates
check_of kind.NotExecutable = Some Enters
check_of kind.Sizes = Some Sized
check_of kind.Mode = Some Mode32
check_of _ = None

found_again : (c : Check) → check_of (kind_of c) ≡ Some c
unfolding check_of
found_again Long = refl
found_again Plain = refl
found_again Relocates = refl
found_again Enters = refl
found_again Sized = refl
found_again Mode32 = refl

same_kind : (at place : ℕ) (k l : FileKind) → BadImage [] at k ≡ BadImage [] place l → k ≡ l
same_kind at place k l e = cc

same : (c d : Check) → Some c ≡ Some d → c ≡ d
same c d e = cc

same_check : (b : List ℕ) (c d : Check) → told c b ≡ told d b → c ≡ d
same_check b c d e =
    let k = same_kind (place_of c b) (place_of d b) (kind_of c) (kind_of d) e in
    same c d (sym (found_again c) ∙ (ap check_of k ∙ found_again d))

-- ---- the checks one after the other

-- all of these hold
abbrev AllHold : List Check → List ℕ → Type 0
AllHold cs b = AllByRecursion (λ c. Holds c b) cs

abbrev read : Aif → Result Aif Refusal
read a = Ok a

abbrev refused : Refusal → Result Aif Refusal
refused r = Err r

same_record : (a c : Aif) → read a ≡ read c → a ≡ c
same_record a c e = cc

same_refusal : (q r : Refusal) → refused q ≡ refused r → q ≡ r
same_refusal q r e = cc

-- where no check of these fails
record Passed (cs : List Check) (b : List ℕ) (a : Aif) : Type 0 where
  all : AllHold cs b
  value : record_of b ≡ a

passed_one : (c : Check) (cs : List Check) (b : List ℕ) (a : Aif) → (judged cs b ≡ read a → Passed cs b a) → (t : Bool) → holds c b ≡ t → cond t (judged cs b) (refused (told c b)) ≡ read a → Passed (c ∷ cs) b a
passed_one c cs b a next true h k = let p = next k in record { all = (says c b h, p.all); value = p.value }
passed_one c cs b a next false h k = absurd (cc)

passed : (cs : List Check) (b : List ℕ) (a : Aif) → judged cs b ≡ read a → Passed cs b a
passed [] b a e = record { all = tt; value = same_record (record_of b) a e }
passed (c ∷ cs) b a e = passed_one c cs b a (passed cs b a) (holds c b) refl e

passes : (cs : List Check) (b : List ℕ) → AllHold cs b → judged cs b ≡ read (record_of b)
passes [] b h = refl
passes (c ∷ cs) b h = rw (said c b h.0) (passes cs b h.1)

-- where one fails
record Stopped (cs : List Check) (b : List ℕ) (r : Refusal) : Type 0 where
  check : Check
  before : List Check
  after : List Check
  order : cs ≡ before ++ check ∷ after
  held : AllHold before b
  failed : Holds check b → ⊥
  tells : r ≡ told check b

stopped_one : (c : Check) (cs : List Check) (b : List ℕ) (r : Refusal) → (judged cs b ≡ refused r → Stopped cs b r) → (t : Bool) → holds c b ≡ t → cond t (judged cs b) (refused (told c b)) ≡ refused r → Stopped (c ∷ cs) b r
stopped_one c cs b r next true h k =
    let s = next k in
    record { check = s.check; before = c ∷ s.before; after = s.after; order = ap (λ x. c ∷ x) s.order; held = (says c b h, s.held); failed = s.failed; tells = s.tells }
stopped_one c cs b r next false h k =
    record { check = c; before = []; after = cs; order = refl; held = tt; failed = λ x. both_ways (holds c b) h (said c b x); tells = sym (same_refusal (told c b) r k) }

stopped : (cs : List Check) (b : List ℕ) (r : Refusal) → judged cs b ≡ refused r → Stopped cs b r
stopped [] b r e = absurd (cc)
stopped (c ∷ cs) b r e = stopped_one c cs b r (stopped cs b r) (holds c b) refl e

stops : (before : List Check) (c : Check) (after : List Check) (b : List ℕ) → AllHold before b → (Holds c b → ⊥) → judged (before ++ c ∷ after) b ≡ refused (told c b)
stops [] c after b h f = rw (false_from_ne_true (holds c b) (λ t. f (says c b t))) refl
stops (d ∷ before) c after b h f = rw (said d b h.0) (stops before c after b h.1 f)

-- ---- the laws

each : (b : List ℕ) → AllHold checks b → (c : Check) → Holds c b
each b h Long = h.0
each b h Plain = h.1.0
each b h Relocates = h.1.1.0
each b h Enters = h.1.1.1.0
each b h Sized = h.1.1.1.1.0
each b h Mode32 = h.1.1.1.1.1.0

of_each : (b : List ℕ) → ((c : Check) → Holds c b) → AllHold checks b
of_each b h = (h Long, (h Plain, (h Relocates, (h Enters, (h Sized, (h Mode32, tt))))))

is_record : (b : List ℕ) → ((c : Check) → Holds c b) → ReadsAif b (record_of b)
is_record b h = record {
  checked = h;
  ro = refl;
  rw = refl;
  zero = refl;
  base = refl;
  relocatable = (λ t. eqb-true (word_in b 4 / 2 ^ 24) 0xEB t, λ e. eq-eqb (word_in b 4 / 2 ^ 24) 0xEB e);
}

same_test : (x y : Bool) → (IsTrue x → IsTrue y) → (IsTrue y → IsTrue x) → x ≡ y
same_test true true f g = refl
same_test true false f g = sym (f refl)
same_test false true f g = g refl
same_test false false f g = refl

-- a record is its five fields
fields_are : (a c : Aif) → a.ro ≡ c.ro → a.rw ≡ c.rw → a.zero ≡ c.zero → a.base ≡ c.base → a.relocatable ≡ c.relocatable → a ≡ c
fields_are a c o w z s r = let built : Aif = record { ro = a.ro; rw = a.rw; zero = a.zero; base = a.base; relocatable = a.relocatable } in
    let e : built ≡ c = rw (o, w, z, s, r) refl in e

is_its_record : (b : List ℕ) (a : Aif) → ReadsAif b a → record_of b ≡ a
is_its_record b a h =
    fields_are (record_of b) a (sym h.ro) (sym h.rw) (sym h.zero) (sym h.base)
    (same_test (is_call (word_in b 4)) a.relocatable (λ t. h.relocatable.1 (eqb-true (word_in b 4 / 2 ^ 24) 0xEB t)) (λ t. eq-eqb (word_in b 4 / 2 ^ 24) 0xEB (h.relocatable.0 t)))

pub aif_law : (b : List ℕ) (a : Aif) → (aif_of b ≡ Ok a) ↔ ReadsAif b a
unfolding aif_of
aif_law b a = (
  λ e. let p = passed checks b a e in let whole = is_record b (each b p.all) in subst (λ (x : Aif). ReadsAif b x) p.value whole,
  λ h. passes checks b (of_each b h.checked) ∙ ap (λ (x : Aif). read x) (is_its_record b a h),
)

pub first_failed_law : (b : List ℕ) (c : Check) → (aif_of b ≡ Err (told c b)) ↔ IsFirstFailed b c
unfolding aif_of
first_failed_law b c = (
  λ e. let s = stopped checks b (told c b) e in
      let is : IsFirstFailed b s.check = record { before = s.before; after = s.after; order = s.order; held = s.held; failed = s.failed } in
      subst (λ (x : Check). IsFirstFailed b x) (sym (same_check b c s.check s.tells)) is,
  λ h. ap (λ cs. judged cs b) h.order ∙ stops h.before c h.after b h.held h.failed,
)

-- ---- a call that gives what reading gives

pub found : (b : List ℕ) (r : Result Aif Fault) → Gives r (aif_of b) → IfOk r (ReadsAif b)
found b (Ok a) h = (aif_law b a).0 h
found b (Err e) h = tt

pub only : (b : List ℕ) (r : Result Aif Fault) → Gives r (aif_of b) → (a : Aif) → ReadsAif b a → Gives r (Ok a)
only b r h a is = subst (λ (x : Result Aif Refusal). Gives r x) ((aif_law b a).1 is) h

abbrev fault_of : Fault → Result Aif Fault
fault_of e = Err e

first : (b : List ℕ) (e : Fault) → Gives (fault_of e) (aif_of b) → IsFaultOf b e
unfolding aif_of
first b fault.NoMemory h = tt
first b (fault.Refused r) h =
    let s = stopped checks b r h in (s.check, s.tells, record { before = s.before; after = s.after; order = s.order; held = s.held; failed = s.failed })
first b (fault.ReadFault name) h = h

pub first_failed : (b : List ℕ) (r : Result Aif Fault) → Gives r (aif_of b) → IfErr r (IsFaultOf b)
first_failed b (Ok a) h = tt
first_failed b (Err e) h = first b e h
