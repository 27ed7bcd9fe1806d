-- Areas with a line more.
use Rattle.std.proofs.Common.{◌≡◌, ◌≢◌, ◌<◌, ◌≤◌, ℕ, zero, suc, ◌+◌, ◌||◌, Bool, true, false, cond, List, [], ◌∷◌, ◌++◌, length, map, Option, Some, None, refl, sym, ap, ◌∙◌, arith, length-append}
use Rattle.std.specs.Prelude.{◌==◌, Result}
use Rattle.std.specs.List.{list_any, slice_get}
use Rattle.std.proofs.lemmas.Option.{slice_get_past}
use Rattle.sdt_fault.specs.declared.kinds.LineKind.{LineKind}
use Rattle.asm_model.specs.declared.directives.AreaAttributes.{AreaAttributes}
use Rattle.asm_model.specs.declared.directives.DirectiveLine.TheVariants as line
use Rattle.asm_model.specs.declared.statements.Statement.{Statement}
use Rattle.asm_model.specs.declared.statements.What.TheVariants as what
use Rattle.asm_model.specs.Forms.{same}
use Rattle.asm_model.proofs.WordLemmas.{same_refl}
use Rattle.asm_model.specs.Before.{with_name, areas_behind, place_of}
use Rattle.asm_model.specs.Laid.{LaidLine, statements_of}
use Rattle.asm_model.specs.LayoutKinds.{is_thumb_area, in_thumb_area, exponent}
use Rattle.asm_model.specs.Offsets.{is_of}
use Rattle.source_model.specs.Objects.{says_area}
use Rattle.asm_checks.specs.declared.starts.AreaStart.{AreaStart}
use Rattle.asm_checks.specs.Starts.{IsStart, AreStarts, IsLineOf, begun, is_next, with_area}

-- ---- lists

past : (xs : List AreaStart) (k : ℕ) → slice_get xs k ≡ None → length xs ≤ k
past [] k e = omega arith
past (x ∷ xs) zero e = absurd (cc)
past (x ∷ xs) (suc k) e = let r = past xs k e in omega arith

get_first : (xs ys : List AreaStart) (k : ℕ) (x : AreaStart) → slice_get xs k ≡ Some x → slice_get (xs ++ ys) k ≡ Some x
get_first [] ys k x e = absurd (cc)
get_first (z ∷ zs) ys zero x e = e
get_first (z ∷ zs) ys (suc k) x e = get_first zs ys k x e

get_last : (xs : List AreaStart) (y : AreaStart) → slice_get (xs ++ y ∷ []) (length xs) ≡ Some y
get_last [] y = refl
get_last (z ∷ zs) y = get_last zs y

unequal : (m n : ℕ) → m < n → (m == n) ≡ false
unequal m n less = by_test (m == n) refl
  where
    by_test : (b : Bool) → (m == n) ≡ b → b ≡ false
    by_test true t = let e : m ≡ n = grind arith in absurd (omega arith)
    by_test false t = refl

pub self : (n : ℕ) → (n == n) ≡ true
self n = grind arith

-- ---- the area of a line

pub place_old : (n : List ℕ) (ms : List (List ℕ)) → list_any (same n) ms ≡ true → place_of n ms < length ms
place_old n [] e = absurd (cc)
place_old n (m ∷ ms) e = by_test (same n m) e (place_old n ms)
  where
    by_test : (b : Bool) → (b || list_any (same n) ms) ≡ true → (list_any (same n) ms ≡ true → place_of n ms < length ms)
        → cond b 0 (place_of n ms + 1) < length (m ∷ ms)
    by_test true e rest = omega arith
    by_test false e rest = let r = rest e in omega arith

pub place_new : (n : List ℕ) (ms : List (List ℕ)) → list_any (same n) ms ≡ false → place_of n (ms ++ n ∷ []) ≡ length ms
place_new n [] e = ap (λ b. cond b 0 (0 + 1)) (same_refl n)
place_new n (m ∷ ms) e = by_test (same n m) e (place_new n ms)
  where
    by_test : (b : Bool) → (b || list_any (same n) ms) ≡ false → (list_any (same n) ms ≡ false → place_of n (ms ++ n ∷ []) ≡ length ms)
        → cond b 0 (place_of n (ms ++ n ∷ []) + 1) ≡ length (m ∷ ms)
    by_test true e rest = absurd (cc)
    by_test false e rest = let r = rest e in omega arith

-- ---- parts of a line more

is_other : (k : ℕ) (o : Option ℕ) (n : ℕ) → ((a : ℕ) → o ≡ Some a → a < n) → n ≤ k → is_of k o ≡ false
is_other k None n less past = refl
is_other k (Some a) n less past = let h : a < n = less a refl in by_test (a == k) refl h
  where
    by_test : (b : Bool) → (a == k) ≡ b → a < n → b ≡ false
    by_test true t h = let e : a ≡ k = grind arith in absurd (omega arith)
    by_test false t h = refl

-- the names of areas are as many as the areas
as_many : (all : List Statement) (before : List LaidLine) (starts : List AreaStart) → AreStarts all before starts
    → length starts ≡ length (areas_behind (statements_of before))
as_many all before starts h = sym (length_map starts) ∙ ap (λ (ns : List (List ℕ)). length ns) h.names
  where
    length_map : (xs : List AreaStart) → length (map (λ (s : AreaStart). s.name) xs) ≡ length xs
    length_map [] = refl
    length_map (x ∷ xs) = ap suc (length_map xs)

-- ---- an AREA more

abbrev IsArea : LaidLine → List ℕ → AreaAttributes → Type 0
IsArea l name a = l.statement.what ≡ what.Directive (line.Area name a)

kept_some : (all : List Statement) (l : LaidLine) (before : List LaidLine) (k : ℕ) (x : AreaStart) → IsStart all before k (Some x)
    → IsStart all (l ∷ before) k (Some x)
kept_some all l before k x h = rw h refl

kept_none : (all : List Statement) (l : LaidLine) (before : List LaidLine) (name : List ℕ) (a : AreaAttributes) (k : ℕ) → IsArea l name a
    → is_of k l.area ≡ false
    → IsStart all before k None → IsStart all (l ∷ before) k None
kept_none all l before name a k w e h = rw (h, w, e) refl

says_word : (k : ℕ) (l : LaidLine) (name : List ℕ) (a : AreaAttributes) (thumb : Bool) (x : Result ℕ LineKind) → IsArea l name a → is_of k l.area ≡ true
    → x ≡ exponent l.seen a.alignments → says_area k l l.statement.what thumb ≡ Some (begun name a thumb x).attributes
says_word k l name a thumb x w e is = rw (w, e, sym is) refl

-- an area that is there goes on
old_area : (all : List Statement) (l : LaidLine) (before : List LaidLine) (starts : List AreaStart) (name : List ℕ) (a : AreaAttributes) → IsArea l name a
    → list_any (same name) (areas_behind (statements_of before)) ≡ true → ((i : ℕ) → l.area ≡ Some i → i < length starts)
    → AreStarts all before starts → AreStarts all (l ∷ before) starts
old_area all l before starts name a w there within h = record {
  names = h.names ∙ sym (rw (w, there) refl);
  each = λ k. by_start k (slice_get starts k) refl (h.each k);
}
  where
    by_start : (k : ℕ) (o : Option AreaStart) → slice_get starts k ≡ o → IsStart all before k o → IsStart all (l ∷ before) k o
    by_start k (Some x) e s = kept_some all l before k x s
    by_start k None e s = kept_none all l before name a k w (is_other k l.area (length starts) within (past starts k e)) s

-- and a new one stands behind the others
new_area : (all : List Statement) (l : LaidLine) (before : List LaidLine) (starts : List AreaStart) (name : List ℕ) (a : AreaAttributes) (thumb : Bool)
    (x : Result ℕ LineKind)
    → IsArea l name a → thumb ≡ is_thumb_area (length starts) all
    → list_any (same name) (areas_behind (statements_of before)) ≡ false → l.area ≡ Some (length starts) → x ≡ exponent l.seen a.alignments
    → AreStarts all before starts → AreStarts all (l ∷ before) (starts ++ begun name a thumb x ∷ [])
new_area all l before starts name a thumb x w state there at is h = record {
  names = map_more starts new ∙ ap (λ (ns : List (List ℕ)). ns ++ name ∷ []) h.names ∙ sym (rw (w, there) refl);
  each = λ k. by_start k (slice_get starts k) refl (h.each k);
}
  where
    new : AreaStart
    new = begun name a thumb x

    map_more : (xs : List AreaStart) (y : AreaStart) → map (λ (s : AreaStart). s.name) (xs ++ y ∷ []) ≡ map (λ (s : AreaStart). s.name) xs ++ y.name ∷ []
    map_more [] y = refl
    map_more (z ∷ zs) y = ap (λ (ns : List (List ℕ)). z.name ∷ ns) (map_more zs y)

    by_place : (k : ℕ) (b : Bool) → (length starts == k) ≡ b → length starts ≤ k → IsStart all before k None
        → IsStart all (l ∷ before) k (slice_get (starts ++ new ∷ []) k)
    by_place k true t far s =
        let e : k ≡ length starts = grind arith in
        let own : is_of k l.area ≡ true = rw at t in
        let turned : is_thumb_area k all ≡ thumb = ap (λ (i : ℕ). is_thumb_area i all) e ∙ sym state in
        rw (ap (slice_get (starts ++ new ∷ [])) e ∙ get_last starts new, s)
        (says_word k l name a (is_thumb_area k all) x w own is ∙ ap (λ (t : Bool). Some (begun name a t x).attributes) turned)
    by_place k false t far s =
        let long : length (starts ++ new ∷ []) ≡ length starts + 1 = length-append starts (new ∷ []) in
        let n : length starts ≢ k = λ e. let g : (length starts == k) ≡ true = grind arith in cc in
        let beyond : length (starts ++ new ∷ []) ≤ k = omega arith in
        rw (slice_get_past (starts ++ new ∷ []) k beyond)
        (kept_none all l before name a k w (rw at t) s)

    by_start : (k : ℕ) (o : Option AreaStart) → slice_get starts k ≡ o → IsStart all before k o
        → IsStart all (l ∷ before) k (slice_get (starts ++ new ∷ []) k)
    by_start k (Some y) e s = rw (get_first starts (new ∷ []) k y e) (kept_some all l before k y s)
    by_start k None e s = by_place k (length starts == k) refl (past starts k e) s

pub area_more : (all : List Statement) (l : LaidLine) (before : List LaidLine) (starts : List AreaStart) (name : List ℕ) (a : AreaAttributes) (area : Option ℕ)
    (thumb : Bool) (x : Result ℕ LineKind)
    → AreStarts all before starts → IsLineOf all (what.Directive (line.Area name a)) area thumb x l before
    → AreStarts all (l ∷ before) (with_area name a area thumb x starts)
area_more all l before starts name a area thumb x h i = by_test (list_any (same name) (areas_behind (statements_of before))) refl
  where
    stands : l.area ≡ Some (place_of name (with_name (Some name) (areas_behind (statements_of before))))
    stands = i.counted ∙ rw i.said refl

    many : length starts ≡ length (areas_behind (statements_of before))
    many = as_many all before starts h

    by_test : (b : Bool) → list_any (same name) (areas_behind (statements_of before)) ≡ b → AreStarts all (l ∷ before) (with_area name a area thumb x starts)
    by_test true t =
        let here : l.area ≡ Some (place_of name (areas_behind (statements_of before))) =
        stands ∙ ap (λ b. Some (place_of name (cond b (areas_behind (statements_of before)) (areas_behind (statements_of before) ++ name ∷ [])))) t in
        let low : place_of name (areas_behind (statements_of before)) < length starts = let p : place_of name (areas_behind (statements_of before)) < length
        (areas_behind (statements_of before)) = place_old name (areas_behind (statements_of before)) t in
        let m : length starts ≡ length (areas_behind (statements_of before)) = many in omega arith in
        let no : is_next area (length starts) ≡ false =
        rw (sym i.stands ∙ here) (unequal (place_of name (areas_behind (statements_of before))) (length starts) low) in
        rw no (old_area all l before starts name a i.said t (λ k e. let g : place_of name (areas_behind (statements_of before)) ≡ k = cc in omega arith) h)
    by_test false t =
        let here : l.area ≡ Some (length starts) =
        stands ∙ ap (λ b. Some (place_of name (cond b (areas_behind (statements_of before)) (areas_behind (statements_of before) ++ name ∷ [])))) t
        ∙ ap Some (place_new name (areas_behind (statements_of before)) t ∙ sym many) in
        let yes : is_next area (length starts) ≡ true = rw (sym i.stands ∙ here) (self (length starts)) in
        let state : thumb ≡ is_thumb_area (length starts) all = i.state ∙ ap (λ (o : Option ℕ). in_thumb_area o all) (sym i.stands ∙ here) in
        rw yes (new_area all l before starts name a thumb x i.said state t here i.aligned.0 h)
