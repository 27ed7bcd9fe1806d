-- Areas whose relocations are judged one by one.
use Rattle.std.proofs.Common.{◌≡◌, ℕ, zero, suc, ◌+◌, ◌<◌, ◌≤◌, ◌^◌, List, [], ◌∷◌, ◌++◌, length, map, get_or, take, drop, Result, Ok, Err, refl, sym, ap, subst, ◌∙◌, append_assoc, append-nil, length-append, arith}
use Rattle.std.specs.Prelude.{Option, Some, None, slice_get}
use Rattle.std.specs.List.{AllByRecursion, filter_map, flat_map, cons_option}
use Rattle.std.specs.Result.{IsErrAnd}
use Rattle.std.proofs.Math.Seq.{take-append_seam}
use Rattle.std.proofs.lemmas.List.{drop_all}
use Rattle.sdt_fault.specs.declared.answer.Fault.{Fault}
use Rattle.sdt_fault.specs.declared.answer.Fault.TheVariants as fault
use Rattle.sdt_fault.specs.declared.refusal.Refusal.{Refusal}
use Rattle.aof_object.specs.declared.records.Reloc.{Reloc}
use Rattle.chunk_file.specs.Reading.{Gives}
use Rattle.link_model.specs.Options.{refused_or}
use Rattle.patch_model.specs.Fields.{field_of, kind_of, size_of}
use Rattle.link_values.proofs.FirstLemmas.{first_passed, first_met, joined_passed, joined_met}
use Rattle.link_apply.specs.Written.{AreFitting, AreInside}

-- ---- answers

pub ok_sound : {A B : Type 0} (o : Option B) (x y : A) → Ok y ≡ refused_or o x → o ≡ None
ok_sound None x y e = refl
ok_sound (Some r) x y e = absurd (cc)

pub ok_same : {A B : Type 0} (o : Option B) (x y : A) → Ok y ≡ refused_or o x → y ≡ x
ok_same None x y e = cc
ok_same (Some r) x y e = absurd (cc)

pub err_refused : {A B : Type 0} (o : Option B) (x : A) (r : B) → Err r ≡ refused_or o x → o ≡ Some r
err_refused None x r e = absurd (cc)
err_refused (Some s) x r e = cc

-- ---- numbers that fit

pub fitting_more : (relocs : List Reloc) (numbers : List ℕ) (r : Reloc) (n : ℕ) → length numbers ≡ length relocs → AreFitting relocs numbers → n < 256 ^ size_of (kind_of r)
    → AreFitting (relocs ++ r ∷ []) (numbers ++ n ∷ [])
fitting_more [] [] r n many fits below zero q there = let same : r ≡ q = cc in subst (λ x. n < 256 ^ size_of (kind_of x)) same below
fitting_more [] [] r n many fits below (suc k) q there = absurd (cc)
fitting_more [] (m ∷ ms) r n many fits below k q there = absurd (omega arith)
fitting_more (x ∷ xs) [] r n many fits below k q there = absurd (omega arith)
fitting_more (x ∷ xs) (m ∷ ms) r n many fits below zero q there = fits 0 q there
fitting_more (x ∷ xs) (m ∷ ms) r n many fits below (suc k) q there = fitting_more xs ms r n (omega arith) (λ j y at. fits (suc j) y at) below k q there

pub inside_more : (size : ℕ) (relocs : List Reloc) (r : Reloc) → AreInside size relocs → (field_of r).place + size_of (kind_of r) ≤ size → AreInside size (relocs ++ r ∷ [])
inside_more size [] r inside here zero q there = let same : r ≡ q = cc in subst (λ x. (field_of x).place + size_of (kind_of x) ≤ size) same here
inside_more size [] r inside here (suc k) q there = absurd (cc)
inside_more size (x ∷ xs) r inside here zero q there = inside 0 q there
inside_more size (x ∷ xs) r inside here (suc k) q there = inside_more size xs r (λ j y at. inside (suc j) y at) here k q there

pub get_map : {A : Type 0} (f : A → ℕ) (xs : List A) (k : ℕ) (x : A) → slice_get xs k ≡ Some x → get_or (map f xs) k 0 ≡ f x
get_map f [] k x there = absurd (cc)
get_map f (y ∷ ys) zero x there = let same : y ≡ x = cc in ap f same
get_map f (y ∷ ys) (suc k) x there = get_map f ys k x there

pub item_there : {A : Type 0} (xs : List A) (k : ℕ) (x : A) → slice_get xs k ≡ Some x → drop k xs ≡ x ∷ drop (suc k) xs
item_there [] k x there = absurd (cc)
item_there (y ∷ ys) zero x there = let same : y ≡ x = cc in ap (λ z. z ∷ ys) same
item_there (y ∷ ys) (suc k) x there = item_there ys k x there

pub item_more : {A : Type 0} (xs : List A) (k : ℕ) (x : A) → slice_get xs k ≡ Some x → take (suc k) xs ≡ take k xs ++ x ∷ []
item_more [] k x there = absurd (cc)
item_more (y ∷ ys) zero x there = let same : y ≡ x = cc in ap (λ z. z ∷ []) same
item_more (y ∷ ys) (suc k) x there = ap (λ l. y ∷ l) (item_more ys k x there)

pub each_at : {A : Type 0} (P : A → Type 0) (xs : List A) (k : ℕ) (x : A) → AllByRecursion P xs → slice_get xs k ≡ Some x → P x
each_at P [] k x each there = absurd (cc)
each_at P (y ∷ ys) zero x each there = let same : y ≡ x = cc in subst P same each.0
each_at P (y ∷ ys) (suc k) x each there = each_at P ys k x each.1 there

pub next_taken : {A : Type 0} (xs : List A) (k : ℕ) (x : A) → slice_get xs k ≡ Some x → take (k + 1) xs ≡ take k xs ++ x ∷ []
next_taken xs k x there = let next : k + 1 ≡ suc k = omega arith in ap (λ n. take n xs) next ∙ item_more xs k x there

-- ---- one more relocation

pub pushed_many : (xs new : List ℕ) (n i : ℕ) → new ≡ xs ++ n ∷ [] → length xs ≡ i → length new ≡ i + 1
pushed_many xs new n i e many = omega (arith, ap length e, length-append xs (n ∷ []), many)

pub pushed_numbers : {A : Type 0} (f : A → ℕ) (xs : List A) (k : ℕ) (x : A) (old new : List ℕ) (n : ℕ) → slice_get xs k ≡ Some x → new ≡ old ++ n ∷ [] → n ≡ f x
    → old ++ map f (drop k xs) ≡ map f xs → new ++ map f (drop (k + 1) xs) ≡ map f xs
pushed_numbers f xs k x old new n there e same known =
    let next : k + 1 ≡ suc k = omega arith in
    (λ i. e i ++ map f (drop (next i) xs)) ∙ append_assoc old (n ∷ []) (map f (drop (suc k) xs))
    ∙ (λ i. old ++ (same i ∷ map f (drop (suc k) xs))) ∙ ap (λ l. old ++ map f l) (sym (item_there xs k x there)) ∙ known

pub first_dropped : {A B : Type 0} (f : A → Option B) (xs : List A) (k : ℕ) (x : A) (first : Option B) → slice_get xs k ≡ Some x → f x ≡ None
    → first ≡ slice_get (filter_map f (drop k xs)) 0 → first ≡ slice_get (filter_map f (drop (k + 1) xs)) 0
first_dropped f xs k x first there none known =
    let next : suc k ≡ k + 1 = omega arith in
    known ∙ ap (λ l. slice_get (filter_map f l) 0) (item_there xs k x there) ∙ first_passed f x (drop (suc k) xs) none ∙ ap (λ n. slice_get (filter_map f (drop n xs)) 0) next

pub first_stopped : {A B C : Type 0} (f : A → Option B) (xs : List A) (k : ℕ) (x : A) (y : B) (first : Option B) (other : C) → slice_get xs k ≡ Some x → f x ≡ Some y
    → first ≡ slice_get (filter_map f (drop k xs)) 0 → refused_or first other ≡ Err y
first_stopped f xs k x y first other there some known =
    ap (λ o. refused_or o other) (known ∙ ap (λ l. slice_get (filter_map f l) 0) (item_there xs k x there) ∙ first_met f x (drop (suc k) xs) y some)

-- ---- one more area

pub joined_dropped : {A B : Type 0} (f : A → List B) (xs : List A) (k : ℕ) (x : A) (first : Option B) → slice_get xs k ≡ Some x → slice_get (f x) 0 ≡ None
    → first ≡ slice_get (flat_map f (drop k xs)) 0 → first ≡ slice_get (flat_map f (drop (k + 1) xs)) 0
joined_dropped f xs k x first there none known =
    let next : suc k ≡ k + 1 = omega arith in
    known ∙ ap (λ l. slice_get (flat_map f l) 0) (item_there xs k x there) ∙ joined_passed (f x) (flat_map f (drop (suc k) xs)) none ∙ ap (λ n. slice_get (flat_map f (drop n xs)) 0) next

pub joined_stopped : {A B : Type 0} (f : A → List B) (xs : List A) (k : ℕ) (x : A) (y : B) (first : Option B) → slice_get xs k ≡ Some x → slice_get (f x) 0 ≡ Some y
    → first ≡ slice_get (flat_map f (drop k xs)) 0 → first ≡ Some y
joined_stopped f xs k x y first there some known =
    known ∙ ap (λ l. slice_get (flat_map f l) 0) (item_there xs k x there) ∙ joined_met (f x) (flat_map f (drop (suc k) xs)) y some

pub pieces_dropped : {A B : Type 0} (f : A → Option B) (xs : List A) (k : ℕ) (x : A) (o : Option B) (old new : List B) → slice_get xs k ≡ Some x → f x ≡ o
    → ((rest : List B) → new ++ rest ≡ old ++ cons_option o rest) → old ++ filter_map f (drop k xs) ≡ filter_map f xs → new ++ filter_map f (drop (k + 1) xs) ≡ filter_map f xs
pieces_dropped f xs k x o old new there same pushed known =
    let next : k + 1 ≡ suc k = omega arith in
    pushed (filter_map f (drop (k + 1) xs)) ∙ (λ i. old ++ cons_option (sym same i) (filter_map f (drop (next i) xs)))
    ∙ ap (λ l. old ++ filter_map f l) (sym (item_there xs k x there)) ∙ known

pub each_more : {A : Type 0} (P : A → Type 0) (xs : List A) (x : A) → ((k : ℕ) (a : A) → slice_get xs k ≡ Some a → P a) → P x
    → (k : ℕ) (a : A) → slice_get (xs ++ x ∷ []) k ≡ Some a → P a
each_more P [] x each here zero a there = let same : x ≡ a = cc in subst P same here
each_more P [] x each here (suc k) a there = absurd (cc)
each_more P (y ∷ ys) x each here zero a there = each 0 a there
each_more P (y ∷ ys) x each here (suc k) a there = each_more P ys x (λ j b at. each (suc j) b at) here k a there

-- ---- refusals that are handed on

pub err_is : {B : Type 0} (r : Result B Fault) (f : Fault) → IsErrAnd r (λ e. e ≡ f) → r ≡ Err f
err_is (Ok x) f h = absurd h
err_is (Err e) f h = ap Err h

pub gives_by : {A B : Type 0} (o q : Option Refusal) (x : A) (y : B) (e : Fault) → ((r : Refusal) → o ≡ Some r → q ≡ Some r) → Gives {A = A} (Err e) (refused_or o x)
    → Gives {A = B} (Err e) (refused_or q y)
gives_by o q x y fault.NoMemory more h = tt
gives_by None q x y (fault.Refused r) more h = absurd (cc)
gives_by (Some s) q x y (fault.Refused r) more h = let same : s ≡ r = cc in ap (λ o. refused_or o y) (more r (ap Some same))
gives_by o q x y (fault.ReadFault n) more h = h

pub taken_front : {A : Type 0} (n : ℕ) (xs ys : List A) → n ≡ length xs → take n (xs ++ ys) ≡ xs
taken_front n xs ys e = ap (λ k. take k (xs ++ ys)) e ∙ take-append_seam xs ys

-- all are judged, and none is refused
pub all_numbers : {A B : Type 0} (f : A → ℕ) (first : List A → Option B) (xs : List A) (n : ℕ) (numbers result : List ℕ) → length xs ≤ n → first [] ≡ None
    → numbers ++ map f (drop n xs) ≡ map f xs → first xs ≡ first (drop n xs) → result ≡ numbers → refused_or (first xs) (map f xs) ≡ Ok result
all_numbers f first xs n numbers result end none known sound same =
    let gone = drop_all n xs end in
    ap (λ (o : Option _). refused_or o (map f xs)) (sound ∙ ap first gone ∙ none)
    ∙ ap Ok (sym known ∙ ap (λ (l : List _). numbers ++ map f l) gone ∙ append-nil numbers ∙ sym same)
