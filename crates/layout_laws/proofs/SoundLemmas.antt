-- What a source without faults has at each line: new names, and names for expressions that are settled.
use Rattle.std.proofs.Common.{◌≡◌, ℕ, ◌+◌, List, [], ◌∷◌, ◌++◌, Bool, true, false, not, cond, refl, sym, ◌∙◌, ap, subst, Option, Some, None, append-nil, ◌||◌, ◌&&◌, nat_lt}
use Rattle.std.specs.List.{list_any}
use Rattle.std.proofs.lemmas.Bool.{or_parts, or_from}
use Rattle.sdt_fault.specs.declared.kinds.LineKind.{LineKind}
use Rattle.sdt_fault.specs.declared.kinds.LineKind.TheVariants.{DuplicateName, Forward, TooMany}
use Rattle.asm_model.specs.declared.exprs.Expr.{Expr}
use Rattle.asm_model.specs.declared.statements.Statement.{Statement}
use Rattle.asm_model.specs.Directives.{or_else}
use Rattle.asm_model.specs.Forms.{same}
use Rattle.asm_model.specs.Kinds.{told_kind, kind_if}
use Rattle.asm_model.proofs.WordLemmas.{same_refl, same_true}
use Rattle.asm_model.specs.Labels.{Defined, Equal, defined_by, imported_in}
use Rattle.asm_model.specs.Laid.{LaidLine, statements_of, area_bytes, laid_behind, laid_of}
use Rattle.asm_model.specs.LayoutKinds.{fault_kinds, map_kinds, no_area_kinds, contents_kinds, contents_behind, area_kinds, own_name, listed, names_in, names_behind, is_entry, is_repeated, name_kinds, first_equal, equals_in, are_settled, settled_by, settled_kinds, state_kinds, layout_kinds, told_at, first_fault}
use Rattle.asm_model.specs.OwnKinds.{own_kinds}
use Rattle.asm_model.specs.Sound.{HaveNoPlaces, IsPlain, ArePlain}
use Rattle.layout_laws.proofs.EqualLemmas.{equal_of, all_equals, EachEqual, equal_both, equal_joined}
use Rattle.base_lemmas.proofs.BaseLemmas.{not_false}
use Rattle.asm_model.specs.declared.names.LaidName.{LaidName}

-- ---- tests

pub same_flip : (a b : List ℕ) → same a b ≡ false → same b a ≡ false
same_flip a b h = by_test (same b a) refl
  where
    by_test : (c : Bool) → same b a ≡ c → c ≡ false
    by_test false e = refl
    by_test true e = let x : same a b ≡ true = subst (λ z. same a z ≡ true) (sym (same_true b a e)) (same_refl a) in absurd (cc)

pub any_parts : {A : Type 0} → (f : A → Bool) (xs ys : List A) → list_any f (xs ++ ys) ≡ false → (list_any f xs ≡ false) × (list_any f ys ≡ false)
any_parts f [] ys h = (refl, h)
any_parts f (x ∷ xs) ys h =
    let p = or_parts (f x) (list_any f (xs ++ ys)) h in
    let q = any_parts f xs ys p.1 in (or_from (f x) (list_any f xs) p.0 q.0, q.1)

pub or_none : {A : Type 0} → (o p : Option A) → or_else o p ≡ None → (o ≡ None) × (p ≡ None)
or_none None p h = (refl, h)
or_none (Some x) p h = absurd (cc)

pub both_empty : (ks js : List LineKind) → ks ++ js ≡ [] → (ks ≡ []) × (js ≡ [])
both_empty [] js h = (refl, h)
both_empty (k ∷ ks) js h = absurd (cc)

pub told_none : (s : Statement) (ks : List LineKind) → told_at s (told_kind ks) ≡ None → ks ≡ []
told_none s [] h = refl
told_none s (k ∷ ks) h = absurd (cc)

pub kind_none : (b : Bool) (k : LineKind) → kind_if b k ≡ [] → b ≡ false
kind_none true k h = absurd (cc)
kind_none false k h = refl

abbrev pub EachSound : List (List ℕ) → List Statement → Type 0
EachSound S [] = Unit {0}
EachSound S (s ∷ before) =
    (is_repeated (names_behind before) (names_in s) ≡ false) × (settled_kinds S (equal_of (defined_by s)) ≡ []) × EachSound S before

-- a name for an expression that stands nowhere before is the first
pub first_new : (x : Defined) (i : List (List ℕ)) (before : List Statement) → is_repeated (names_behind before) (own_name x ++ i) ≡ false
    → first_equal x before ≡ equal_of x
first_new (Equal name e) i before h =
    ap (λ b. cond b [] ((name, e) ∷ [])) (or_parts (list_any (same name) (names_behind before)) (is_repeated (name ∷ names_behind before) i) h).0
first_new x i before h = refl

pub equals_are_all : (S : List (List ℕ)) (ss : List Statement) → EachSound S ss → equals_in ss ≡ all_equals ss
equals_are_all S [] h = refl
equals_are_all S (s ∷ ss) h =
    ap (λ z. z ++ first_equal (defined_by s) ss) (equals_are_all S ss h.2)
    ∙ ap (λ z. all_equals ss ++ z) (first_new (defined_by s) (listed (imported_in s.what)) ss h.0)

pub statements_kept : (d : List LaidName) (ss : List Statement) → statements_of (laid_of d ss) ≡ ss
statements_kept d [] = refl
statements_kept d (s ∷ ss) = ap (λ z. s ∷ z) (statements_kept d ss)

pub line_sound : (S : List (List ℕ)) (all : List Statement) (l : LaidLine) (before : List LaidLine) → layout_kinds S all l before ≡ []
    → (is_repeated (names_behind (statements_of before)) (names_in l.statement) ≡ false)
    × (settled_kinds S (first_equal (defined_by l.statement) (statements_of before)) ≡ [])
line_sound S all l before h =
    let a = fault_kinds l.extent ++ map_kinds l.seen l.statement.what ++ no_area_kinds l.area (defined_by l.statement) l.statement.what
    ++ contents_kinds (contents_behind (l.statement ∷ statements_of before)) l.thumb l.statement.what
    ++ area_kinds l.seen l.statement.what before in
    let b = name_kinds l.statement (statements_of before) in
    let c = settled_kinds S (first_equal (defined_by l.statement) (statements_of before)) in
    let d = state_kinds l.area l.thumb l.statement.what all in
    let e = kind_if (nat_lt area_bytes (l.offset + l.size)) TooMany in
    let n = both_empty (a ++ b ++ c ++ d ++ e) (own_kinds l.statement) h in
    let o = both_empty (a ++ b ++ c ++ d) e n.0 in
    let p = both_empty (a ++ b ++ c) d o.0 in
    let q = both_empty (a ++ b) c p.0 in
    let r = both_empty a b q.0 in
    let t = or_parts (is_repeated (names_behind (statements_of before)) (names_in l.statement))
    (is_entry l.statement.what && list_any (λ t. is_entry t.what) (statements_of before))
    (kind_none (is_repeated (names_behind (statements_of before)) (names_in l.statement)
    || (is_entry l.statement.what && list_any (λ t. is_entry t.what) (statements_of before))) DuplicateName r.1) in
    (t.0, q.1)

pub sound_each : (S : List (List ℕ)) (all : List Statement) (d : List LaidName) (ss : List Statement) → first_fault S all (laid_of d ss) ≡ None → EachSound S ss
sound_each S all d [] h = tt
sound_each S all d (s ∷ ss) h =
    let l = laid_behind d s (laid_of d ss) in
    let p = or_none (first_fault S all (laid_of d ss)) (told_at s (told_kind (layout_kinds S all l (laid_of d ss)))) h in
    let q = line_sound S all l (laid_of d ss) (told_none s (layout_kinds S all l (laid_of d ss)) p.1) in
    let fresh = subst (λ z. is_repeated (names_behind z) (names_in s) ≡ false) (statements_kept d ss) q.0 in
    let first = ap (first_equal (defined_by s)) (statements_kept d ss) ∙ first_new (defined_by s) (listed (imported_in s.what)) ss fresh in
    (fresh, subst (λ z. settled_kinds S z ≡ []) first q.1, sound_each S all d ss p.0)

-- ---- names for expressions

pub equal_apart : (q : List ℕ) (x : Defined) → list_any (same q) (own_name x) ≡ false → EachEqual (λ p e. same q p ≡ false) (equal_of x)
equal_apart q (Equal name e) h = ((or_parts (same q name) false h).0, tt)
equal_apart q x h = tt

pub equals_apart : (q : List ℕ) (ss : List Statement) → list_any (same q) (names_behind ss) ≡ false → EachEqual (λ p e. same q p ≡ false) (all_equals ss)
equals_apart q [] h = tt
equals_apart q (s ∷ ss) h =
    let p = any_parts (same q) (names_in s) (names_behind ss) h in
    let r = any_parts (same q) (own_name (defined_by s)) (listed (imported_in s.what)) p.0 in
    equal_joined (λ p e. same q p ≡ false) (all_equals ss) (equal_of (defined_by s)) (equals_apart q ss p.1) (equal_apart q (defined_by s) r.0)

abbrev pub AreDistinct : List (List ℕ × Expr) → Type 0
AreDistinct [] = Unit {0}
AreDistinct (x ∷ xs) = EachEqual (λ p e. same x.0 p ≡ false) xs × AreDistinct xs

pub distinct_end : (xs : List (List ℕ × Expr)) (q : List ℕ) (e : Expr) → AreDistinct xs → EachEqual (λ p f. same q p ≡ false) xs
    → AreDistinct (xs ++ (q, e) ∷ [])
distinct_end [] q e h k = (tt, tt)
distinct_end (x ∷ xs) q e h k = (
  equal_joined (λ p f. same x.0 p ≡ false) xs ((q, e) ∷ []) h.0 (same_flip q x.0 k.0, tt),
  distinct_end xs q e h.1 k.1,
)

pub distinct_with : (x : Defined) (i : List (List ℕ)) (ss : List Statement) → is_repeated (names_behind ss) (own_name x ++ i) ≡ false
    → AreDistinct (all_equals ss) → AreDistinct (all_equals ss ++ equal_of x)
distinct_with (Equal name e) i ss h k =
    distinct_end (all_equals ss) name e k
    (equals_apart name ss (or_parts (list_any (same name) (names_behind ss)) (is_repeated (name ∷ names_behind ss) i) h).0)
distinct_with x i ss h k = subst AreDistinct (sym (append-nil (all_equals ss))) k

pub equals_distinct : (S : List (List ℕ)) (ss : List Statement) → EachSound S ss → AreDistinct (all_equals ss)
equals_distinct S [] h = tt
equals_distinct S (s ∷ ss) h = distinct_with (defined_by s) (listed (imported_in s.what)) ss h.0 (equals_distinct S ss h.2)

pub equal_settled : (S : List (List ℕ)) (x : Defined) → settled_kinds S (equal_of x) ≡ [] → EachEqual (λ p e. list_any (same p) S ≡ true) (equal_of x)
equal_settled S (Equal name e) h = (not_false (list_any (same name) S) (kind_none (not (list_any (same name) S)) Forward h), tt)
equal_settled S x h = tt

pub equals_settled : (S : List (List ℕ)) (ss : List Statement) → EachSound S ss → EachEqual (λ p e. list_any (same p) S ≡ true) (all_equals ss)
equals_settled S [] h = tt
equals_settled S (s ∷ ss) h =
    equal_joined (λ p e. list_any (same p) S ≡ true) (all_equals ss) (equal_of (defined_by s)) (equals_settled S ss h.2) (equal_settled S (defined_by s) h.1)

abbrev pub IsPlainEqual : List ℕ → Expr → Type 0
IsPlainEqual p e = HaveNoPlaces e.items

pub equal_plain : (x : Defined) → IsPlain x → EachEqual IsPlainEqual (equal_of x)
equal_plain (Equal name e) h = (h, tt)
equal_plain x h = tt

pub equals_plain : (ss : List Statement) → ArePlain ss → EachEqual IsPlainEqual (all_equals ss)
equals_plain [] h = tt
equals_plain (s ∷ ss) h =
    equal_joined IsPlainEqual (all_equals ss) (equal_of (defined_by s)) (equals_plain ss h.1) (equal_plain (defined_by s) h.0)

-- ---- settled names

pub settled_apart : (E : List (List ℕ × Expr)) (S : List (List ℕ)) (q : List ℕ) (es : List (List ℕ × Expr)) → EachEqual (λ p e. same q p ≡ false) es
    → list_any (same q) (settled_by E S es) ≡ false
settled_apart E S q [] h = refl
settled_apart E S q (x ∷ xs) h = by_test (are_settled E S x.1.items) (settled_apart E S q xs h.1)
  where
    by_test : (b : Bool) → list_any (same q) (settled_by E S xs) ≡ false → list_any (same q) (cond b (x.0 ∷ settled_by E S xs) (settled_by E S xs)) ≡ false
    by_test true k = or_from (same q x.0) (list_any (same q) (settled_by E S xs)) h.0 k
    by_test false k = k

abbrev pub IsSettledIn : List (List ℕ × Expr) → List (List ℕ) → List (List ℕ) → List ℕ → Expr → Type 0
IsSettledIn E S all p e = list_any (same p) all ≡ true → are_settled E S e.items ≡ true

pub in_rest : (b : Bool) (p q : List ℕ) (rest : List (List ℕ)) → same p q ≡ false → list_any (same p) (cond b (q ∷ rest) rest) ≡ true
    → list_any (same p) rest ≡ true
in_rest true p q rest h k = ap (λ c. c || list_any (same p) rest) (sym h) ∙ k
in_rest false p q rest h k = k

pub settled_head : (b : Bool) (q : List ℕ) (rest : List (List ℕ)) → list_any (same q) rest ≡ false → list_any (same q) (cond b (q ∷ rest) rest) ≡ true
    → b ≡ true
settled_head true q rest h k = refl
settled_head false q rest h k = absurd (cc)

pub settled_unique : (E : List (List ℕ × Expr)) (S : List (List ℕ)) (es : List (List ℕ × Expr)) → AreDistinct es
    → EachEqual (IsSettledIn E S (settled_by E S es)) es
settled_unique E S [] h = tt
settled_unique E S (x ∷ xs) h = (
  settled_head (are_settled E S x.1.items) x.0 (settled_by E S xs) (settled_apart E S x.0 xs h.0),
  equal_both (λ p e. same x.0 p ≡ false) (IsSettledIn E S (settled_by E S xs)) (IsSettledIn E S (settled_by E S (x ∷ xs)))
      (λ p e a f k. f (in_rest (are_settled E S x.1.items) p x.0 (settled_by E S xs) (same_flip x.0 p a) k)) xs h.0 (settled_unique E S xs h.1),
)
