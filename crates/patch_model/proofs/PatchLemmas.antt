-- Fields of patched bytes.
use Rattle.std.proofs.Common.{◌≡◌, ◌⊎◌, inl, inr, ℕ, zero, suc, ◌+◌, ◌-◌, ◌%◌, ◌^◌, ◌<◌, ◌≤◌, Bool, true, false, List, [], ◌∷◌, length, take, drop, get_or, length-take-le, length-drop, refl, sym, ap, subst, ◌∙◌, arith}
use Rattle.std.specs.Prelude.{Option, Some, None, slice_get, if◌then◌else◌}
use Rattle.std.proofs.lemmas.List.{get_or-take, get_or-drop, get_or_past, take-append-drop, length-take}
use Rattle.std.proofs.lemmas.Grind.{same_number_lists}
use Rattle.std.proofs.lemmas.Bool.{cases_lt}
use Rattle.sdt_word.specs.Bytes.{bytes_of, number_of, word_in}
use Rattle.sdt_word.proofs.BytesLemmas.{number_of-lt, bytes_of-number_of}
use Rattle.std.specs.Option.{IsSomeAnd}
use Rattle.sdt_word.specs.declared.ranges.Range32.{Range32}
use Rattle.aof_object.specs.declared.records.Area.{Area}
use Rattle.aof_object.specs.declared.records.Reloc.{Reloc}
use Rattle.patch_model.specs.Fields.{Kind, Byte, Half, Word, Branch, Home, Meant, Values, field_of, directives, added, taken, size_of, number_in}
use Rattle.patch_model.specs.Patched.{total, biased_displacement, bias, pc_offset, Veneers, Way, Directly, ByVeneer, first_symbol, other_state, way_home, way_to, LeadsAt, Leads, Turned, AddsUp, IsOutside, AreaPatched}
use Rattle.patch_model.specs.Laws.{OnePatched, OneObjectPatched, OutsideLaw, WordLaw, LeadsBy, PatchedBranchLaw, ReachLaw, state_of, StandsAt, state_to, StandsTo}
use Rattle.patch_model.specs.Reaches.{View, Shows, IsVeneer, VeneersStand, Reaches}
use Rattle.sdt_word.specs.Ranges.{Covers}
use Rattle.patch_model.proofs.BranchLemmas.{leads_to, arm_same, pair_same, branch_stays}
use Rattle.patch_model.proofs.VeneerLemmas.{shows_parts}

-- ---- parts of bytes

abbrev pub AreBytes : List ℕ → Type 0
AreBytes xs = (i : ℕ) → get_or xs i 0 < 2 ^ 8

length_part : (xs : List ℕ) (n p : ℕ) → p + n ≤ length xs → length (take n (drop p xs)) ≡ n
length_part xs n p h = length-take-le n (drop p xs) (omega (arith, length-drop p xs))

get_part : (xs : List ℕ) (n p i : ℕ) → i < n → get_or (take n (drop p xs)) i 0 ≡ get_or xs (p + i) 0
get_part xs n p i h = get_or-take n (drop p xs) i 0 h ∙ get_or-drop p xs i 0

part_bytes : (xs : List ℕ) (n p : ℕ) → p + n ≤ length xs → AreBytes xs → AreBytes (take n (drop p xs))
part_bytes xs n p within bytes i = by_place (cases_lt i n)
  where
    by_place : (i < n) ⊎ (n ≤ i) → get_or (take n (drop p xs)) i 0 < 2 ^ 8
    by_place (inl h) = rw (get_part xs n p i h) (bytes (p + i))
    by_place (inr h) = let e = length_part xs n p within in let past = get_or_past (take n (drop p xs)) i 0 (omega arith) in omega arith

-- the bytes of a part are those of its number
pub part_is : (xs : List ℕ) (n p : ℕ) → p + n ≤ length xs → AreBytes xs → take n (drop p xs) ≡ bytes_of (number_of (take n (drop p xs))) n
part_is xs n p within bytes =
    let e = length_part xs n p within in
    sym (bytes_of-number_of (take n (drop p xs)) (part_bytes xs n p within bytes)) ∙ ap (λ k. bytes_of (number_of (take n (drop p xs))) k) e

pub part_lt : (xs : List ℕ) (n p : ℕ) → p + n ≤ length xs → AreBytes xs → number_of (take n (drop p xs)) < 256 ^ n
part_lt xs n p within bytes =
    let e = length_part xs n p within in
    let h = number_of-lt (take n (drop p xs)) (part_bytes xs n p within bytes) in
    rw e at h

-- equal parts
parts_same : (xs ys : List ℕ) (n p : ℕ) → length xs ≡ length ys → ((i : ℕ) → p ≤ i → i < p + n → get_or xs i 0 ≡ get_or ys i 0) → take n (drop p xs) ≡ take n (drop p ys)
parts_same xs ys n p size same =
    let ex = length-take n (drop p xs) in
    let ey = length-take n (drop p ys) in
    let dx = length-drop p xs in
    let dy = length-drop p ys in
    same_number_lists (take n (drop p xs)) (take n (drop p ys)) (omega arith)
    (λ k h. let in_part : k < n = omega arith in get_part xs n p k in_part ∙ same (p + k) (omega arith) (omega arith) ∙ sym (get_part ys n p k in_part))

-- ---- words

pub word_law : WordLaw
word_law relocs old base values veneers new k r patched there is_word =
    let Adds : Kind → Type 0 = λ kind.
    AddsUp kind (base + (field_of r).place) values veneers (number_of (take (size_of kind) (drop (field_of r).place old))) (number_of (take (size_of kind) (drop (field_of r).place new)))
    (added values (directives relocs (field_of r))) (taken base (directives relocs (field_of r))) (first_symbol (directives relocs (field_of r))) in
    subst Adds is_word (patched.fields k r there)

-- ---- branches

-- what a view shows of a part
pub shows_part : (view : View) (base : ℕ) (xs : List ℕ) (n p : ℕ) → p + n ≤ length xs → AreBytes xs → Shows view base xs → Shows view (base + p) (bytes_of (number_of (take n (drop p xs))) n)
shows_part view base xs n p within bytes shows =
    let Here : List ℕ → Type 0 = λ l. Shows view base l in
    let At : ℕ → Type 0 = λ a. Shows view a (drop p xs) in
    let Part : List ℕ → Type 0 = λ l. Shows view (base + p) l in
    let behind = shows_parts view base (take p xs) (drop p xs) (subst Here (sym (take-append-drop p xs)) shows) in
    let e = length-take-le p xs (omega arith) in
    let from : base + length (take p xs) ≡ base + p = omega arith in
    let front = shows_parts view (base + p) (take n (drop p xs)) (drop n (drop p xs)) (subst Part (sym (take-append-drop n (drop p xs))) (subst At from behind.1)) in
    subst Part (part_is xs n p within bytes) front.0

leads_by : (view : View) (veneers : Veneers) (t : Bool) (a old new more less : ℕ) (way : Way) → Shows view a (bytes_of new 4) → new < 2 ^ 32
    → Turned t (a + pc_offset t) veneers old new more less way → LeadsBy view veneers t a old more less way
leads_by view veneers t a old new more less Directly shows small turned =
    let e = turned.leads in
    leads_to view t a new (total (a + pc_offset t + biased_displacement t old) more (bias t + less)) shows small (branch_stays t old new turned.branch turned.rest) (omega arith)
leads_by view veneers t a old new more less (ByVeneer target state) shows small turned = by_veneer (veneers target state) refl turned.leads
  where
    by_veneer : (o : Option ℕ) → veneers target state ≡ o → LeadsAt t (a + pc_offset t) new o → LeadsBy view veneers t a old more less (ByVeneer target state)
    by_veneer None e leads = absurd leads
    by_veneer (Some v) e leads = (v, e, leads_to view t a new v shows small (branch_stays t old new turned.branch turned.rest) (ap (λ n. n % 2 ^ 32) leads))

pub patched_branch_law : PatchedBranchLaw
patched_branch_law relocs old base values veneers new k r t view patched there is_branch shows =
    let p = (field_of r).place in
    let Within : Kind → Type 0 = λ kind. (field_of r).place + size_of kind ≤ length old in
    let room = subst Within is_branch (patched.within k r there) in
    let size = patched.size in
    let within : (field_of r).place + 4 ≤ length new = omega arith in
    let small = part_lt new 4 (field_of r).place within patched.bytes in
    let Adds : Kind → Type 0 = λ kind.
    AddsUp kind (base + (field_of r).place) values veneers (number_of (take (size_of kind) (drop (field_of r).place old))) (number_of (take (size_of kind) (drop (field_of r).place new)))
    (added values (directives relocs (field_of r))) (taken base (directives relocs (field_of r))) (first_symbol (directives relocs (field_of r))) in
    let turned = subst Adds is_branch (patched.fields k r there) in
    leads_by view veneers t (base + (field_of r).place) (word_in old (field_of r).place) (word_in new (field_of r).place) (added values (directives relocs (field_of r)))
    (taken base (directives relocs (field_of r)))
    (way_to t (total (base + (field_of r).place + pc_offset t + biased_displacement t (word_in old (field_of r).place)) 0 (bias t))
    (added values (directives relocs (field_of r))) (taken base (directives relocs (field_of r))) values (first_symbol (directives relocs (field_of r))))
    (shows_part view base new 4 (field_of r).place within patched.bytes shows) small turned

-- ---- bytes

pub outside_law : OutsideLaw
outside_law relocs old base values veneers new place size patched outside =
    parts_same new old size place patched.size (λ i from below. patched.others i (outside i from below))

-- the field that a place is in
record Covered (relocs : List Reloc) (i : ℕ) : Type 0 where
  number : ℕ
  reloc : Reloc
  there : slice_get relocs number ≡ Some reloc
  from : (field_of reloc).place ≤ i
  below : i < (field_of reloc).place + size_of (field_of reloc).kind

covered : (relocs : List Reloc) (i : ℕ) → IsOutside relocs i ⊎ Covered relocs i
covered [] i = inl (λ k r e. absurd (cc))
covered (r ∷ rs) i = by_place (cases_lt i (field_of r).place) (cases_lt i ((field_of r).place + size_of (field_of r).kind)) (covered rs i)
  where
    later : (i < (field_of r).place) ⊎ ((field_of r).place + size_of (field_of r).kind ≤ i) → IsOutside rs i → IsOutside (r ∷ rs) i
    later here out zero q e = let same : r ≡ q = cc in let Out : Reloc → Type 0 = λ s. (i < (field_of s).place) ⊎ ((field_of s).place + size_of (field_of s).kind ≤ i) in subst Out same here
    later here out (suc k) q e = out k q e

    among : (i < (field_of r).place) ⊎ ((field_of r).place + size_of (field_of r).kind ≤ i) → IsOutside rs i ⊎ Covered rs i → IsOutside (r ∷ rs) i ⊎ Covered (r ∷ rs) i
    among here (inl out) = inl (later here out)
    among here (inr c) = inr (record { number = suc c.number; reloc = c.reloc; there = c.there; from = c.from; below = c.below })

    by_place : (i < (field_of r).place) ⊎ ((field_of r).place ≤ i) → (i < (field_of r).place + size_of (field_of r).kind) ⊎ ((field_of r).place + size_of (field_of r).kind ≤ i)
        → IsOutside rs i ⊎ Covered rs i → IsOutside (r ∷ rs) i ⊎ Covered (r ∷ rs) i
    by_place (inl h) s rest = among (inl h) rest
    by_place (inr h) (inr g) rest = among (inr g) rest
    by_place (inr h) (inl g) rest = inr (record { number = 0; reloc = r; there = refl; from = h; below = g })

-- ---- at most one

at_once : (t : Bool) (from new other : ℕ) (o : Option ℕ) → LeadsAt t from new o → LeadsAt t from other o → biased_displacement t new ≡ biased_displacement t other
at_once t from new other None n m = absurd n
at_once t from new other (Some v) n m = omega arith

span_once : (t : Bool) (from : ℕ) (veneers : Veneers) (old new other more less : ℕ) (way : Way)
    → Leads t from veneers old new more less way → Leads t from veneers old other more less way → biased_displacement t new ≡ biased_displacement t other
span_once t from veneers old new other more less Directly n m = omega arith
span_once t from veneers old new other more less (ByVeneer target state) n m = at_once t from new other (veneers target state) n m

turned_once : (t : Bool) (from : ℕ) (veneers : Veneers) (old new other more less : ℕ) (way : Way) → new < 2 ^ 32 → other < 2 ^ 32
    → Turned t from veneers old new more less way → Turned t from veneers old other more less way → new ≡ other
turned_once false from veneers old new other more less way small low n m =
    arm_same old new other small low (n.rest ∙ sym m.rest) (span_once false from veneers old new other more less way n.leads m.leads)
turned_once true from veneers old new other more less way small low n m =
    pair_same new other small low (n.rest.0 ∙ sym m.rest.0) (n.rest.1 ∙ sym m.rest.1) (span_once true from veneers old new other more less way n.leads m.leads)

adds_once : (kind : Kind) (at : ℕ) (values : Values) (veneers : Veneers) (old new other more less : ℕ) (symbol : Option ℕ)
    → new < 256 ^ size_of kind → other < 256 ^ size_of kind
    → AddsUp kind at values veneers old new more less symbol → AddsUp kind at values veneers old other more less symbol → new ≡ other
adds_once Byte at values veneers old new other more less symbol small low n m = n.1 ∙ sym m.1
adds_once Half at values veneers old new other more less symbol small low n m = n.1 ∙ sym m.1
adds_once Word at values veneers old new other more less symbol small low n m = n ∙ sym m
adds_once (Branch t) at values veneers old new other more less symbol small low n m =
    turned_once t (at + pc_offset t) veneers old new other more less
    (way_to t (total (at + pc_offset t + biased_displacement t old) 0 (bias t)) more less values symbol) small low n m

in_field : (xs ys : List ℕ) (n p i : ℕ) → p ≤ i → i < p + n → take n (drop p xs) ≡ take n (drop p ys) → get_or xs i 0 ≡ get_or ys i 0
in_field xs ys n p i from below e =
    let At : ℕ → Type 0 = λ k. get_or xs k 0 ≡ get_or ys k 0 in
    let back : p + (i - p) ≡ i = omega arith in
    let inside : i - p < n = omega arith in
    subst At back (sym (get_part xs n p (i - p) inside) ∙ ap (λ l. get_or l (i - p) 0) e ∙ get_part ys n p (i - p) inside)

pub one_patched : OnePatched
one_patched relocs old base values veneers new other n m =
    same_number_lists new other (n.size ∙ sym m.size) (λ i h. by_place i (covered relocs i))
  where
    by_field : (i : ℕ) (c : Covered relocs i) → get_or new i 0 ≡ get_or other i 0
    by_field i c =
        let f = field_of c.reloc in
        let room = n.within c.number c.reloc c.there in
        let sizes = n.size in
        let others = m.size in
        let first : (field_of c.reloc).place + size_of (field_of c.reloc).kind ≤ length new = omega arith in
        let second : (field_of c.reloc).place + size_of (field_of c.reloc).kind ≤ length other = omega arith in
        let number = adds_once (field_of c.reloc).kind (base + (field_of c.reloc).place) values veneers (number_in old (field_of c.reloc)) (number_in new (field_of c.reloc))
        (number_in other (field_of c.reloc)) (added values (directives relocs (field_of c.reloc))) (taken base (directives relocs (field_of c.reloc)))
        (first_symbol (directives relocs (field_of c.reloc)))
        (part_lt new (size_of (field_of c.reloc).kind) (field_of c.reloc).place first n.bytes)
        (part_lt other (size_of (field_of c.reloc).kind) (field_of c.reloc).place second m.bytes)
        (n.fields c.number c.reloc c.there) (m.fields c.number c.reloc c.there) in
        in_field new other (size_of (field_of c.reloc).kind) (field_of c.reloc).place i c.from c.below
        (part_is new (size_of (field_of c.reloc).kind) (field_of c.reloc).place first n.bytes
        ∙ ap (λ v. bytes_of v (size_of (field_of c.reloc).kind)) number
        ∙ sym (part_is other (size_of (field_of c.reloc).kind) (field_of c.reloc).place second m.bytes))

    by_place : (i : ℕ) → IsOutside relocs i ⊎ Covered relocs i → get_or new i 0 ≡ get_or other i 0
    by_place i (inl out) = n.others i out ∙ sym (m.others i out)
    by_place i (inr c) = by_field i c

pub one_object : OneObjectPatched
one_object object area values veneers new other = by_area (slice_get object.areas area)
  where
    by_area : (o : Option Area) → IsSomeAnd o (λ (a : Area). AreaPatched a.relocs a.bytes (values.base area) values veneers new)
        → IsSomeAnd o (λ (a : Area). AreaPatched a.relocs a.bytes (values.base area) values veneers other) → new ≡ other
    by_area None n m = absurd n
    by_area (Some a) n m = one_patched a.relocs a.bytes (values.base area) values veneers new other n m

-- ---- reaching

-- the address of a veneer's target
target_address : (start offset number a s d more less : ℕ) → number % 2 ^ 32 ≡ (start + offset) % 2 ^ 32
    → (start + total (offset + total (a + s) 0 d) more (less + number)) % 2 ^ 32 ≡ total (a + s) more (d + less)
target_address start offset number a s d more less e = omega arith

reach_state : (view : View) (region : Range32) (veneers : Veneers) (t state : Bool) (a old more less goal : ℕ) (target : Home)
    → ((v : ℕ) → veneers target state ≡ Some v → Covers region v × IsVeneer view v goal state)
    → goal ≡ total (a + pc_offset t + biased_displacement t old) more (bias t + less)
    → LeadsBy view veneers t a old more less (if other_state t state then ByVeneer target state else Directly)
    → Reaches view region t a (total (a + pc_offset t + biased_displacement t old) more (bias t + less)) state
reach_state view region veneers true true a old more less goal target stand e leads = inl (leads, refl)
reach_state view region veneers false false a old more less goal target stand e leads = inl (leads, refl)
reach_state view region veneers true false a old more less goal target stand e (v, there, leads) =
    let Enters : ℕ → Type 0 = λ n. IsVeneer view v n false in
    let stands = stand v there in
    inr (record { veneer = v; leads = leads; own = stands.0; enters = subst Enters e stands.1; other = λ same. absurd (cc) })
reach_state view region veneers false true a old more less goal target stand e (v, there, leads) =
    let Enters : ℕ → Type 0 = λ n. IsVeneer view v n true in
    let stands = stand v there in
    inr (record { veneer = v; leads = leads; own = stands.0; enters = subst Enters e stands.1; other = λ same. absurd (cc) })

reach_home : (view : View) (region : Range32) (area_at : ℕ → ℕ → ℕ) (veneers : Veneers) (t : Bool) (a old more less : ℕ) (m : Meant) (home : Option Home)
    → VeneersStand view region area_at veneers → StandsAt area_at m home
    → LeadsBy view veneers t a old more less (way_home t (total (a + pc_offset t + biased_displacement t old) 0 (bias t)) more less m home)
    → Reaches view region t a (total (a + pc_offset t + biased_displacement t old) more (bias t + less)) (state_of t m home)
reach_home view region area_at veneers t a old more less m None stand at leads = inl (leads, refl)
reach_home view region area_at veneers t a old more less m (Some h) stand at leads =
    let target : Home = record { object = h.object; area = h.area; offset = total (h.offset + total (a + pc_offset t + biased_displacement t old) 0 (bias t)) more (less + m.number) } in
    reach_state view region veneers t m.thumb a old more less ((area_at h.object h.area + target.offset) % 2 ^ 32) target (λ v there. stand target m.thumb v there)
    (target_address (area_at h.object h.area) h.offset m.number (a + pc_offset t) (biased_displacement t old) (bias t) more less at) leads

reach_symbol : (view : View) (region : Range32) (area_at : ℕ → ℕ → ℕ) (values : Values) (veneers : Veneers) (t : Bool) (a old more less : ℕ) (symbol : Option ℕ)
    → VeneersStand view region area_at veneers → StandsTo area_at values symbol
    → LeadsBy view veneers t a old more less (way_to t (total (a + pc_offset t + biased_displacement t old) 0 (bias t)) more less values symbol)
    → Reaches view region t a (total (a + pc_offset t + biased_displacement t old) more (bias t + less)) (state_to t values symbol)
reach_symbol view region area_at values veneers t a old more less None stand at leads = inl (leads, refl)
reach_symbol view region area_at values veneers t a old more less (Some n) stand at leads =
    reach_home view region area_at veneers t a old more less (values.symbol n) (values.symbol n).home stand at leads

pub reach_law : ReachLaw
reach_law relocs old base values veneers new k r t view region area_at patched there is_branch shows stand at =
    reach_symbol view region area_at values veneers t (base + (field_of r).place) (word_in old (field_of r).place) (added values (directives relocs (field_of r)))
    (taken base (directives relocs (field_of r))) (first_symbol (directives relocs (field_of r))) stand at
    (patched_branch_law relocs old base values veneers new k r t view patched there is_branch shows)
