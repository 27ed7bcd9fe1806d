-- Reading items one after the other, as a loop does, and the law of items that were read so.
use Rattle.std.proofs.Common.{◌≡◌, ℕ, zero, suc, ◌-◌, ◌+◌, ◌≤◌, ◌<◌, List, [], ◌∷◌, ◌++◌, length, Result, Ok, Err, refl, sym, ap, subst, ◌∙◌, append_assoc, append-nil, arith}
use Rattle.std.specs.Prelude.{◌↔◌}
use Rattle.sdt_fault.specs.declared.answer.Fault.{Fault}
use Rattle.sdt_fault.specs.declared.answer.Fault.TheVariants as fault
use Rattle.sdt_fault.specs.declared.refusal.Refusal.{Refusal}
use Rattle.chunk_file.specs.Reading.{◌>>=◌, Gives, each, EachStands}

-- ---- steps

-- the value of a step that did not fail
pub bind_ok : {A B : Type 0} (r : Result A Refusal) (f : A → Result B Refusal) (y : B) → (r >>= f) ≡ Ok y → (x : A) × (r ≡ Ok x) × (f x ≡ Ok y)
bind_ok (Ok x) f y e = (x, refl, e)
bind_ok (Err d) f y e = absurd cc

-- a step that fails ends the reading with its failure
pub fails : {A B : Type 0} (e : Fault) (r : Result A Refusal) (f : A → Result B Refusal) (total : Result B Refusal) → Gives (Err e) r → (r >>= f) ≡ total → Gives (Err e) total
fails fault.NoMemory r f total h t = tt
fails (fault.Refused d) r f total h t = sym t ∙ ap (λ s. s >>= f) h
fails (fault.ReadFault name) r f total h t = absurd h

-- ---- a loop over items

pub goes_on : {A : Type 0} (step : List A → Result A Refusal) (before : List A) (n i : ℕ) (x : A) (total : Result (List A) Refusal) → i < n → step before ≡ Ok x
    → each step (n - i) before ≡ total → each step (n - (i + 1)) (before ++ x ∷ []) ≡ total
goes_on step before n i x total lt h so_far =
    let k : n - i ≡ suc (n - (i + 1)) = omega arith in
    let one : each step (n - i) before ≡ each step (n - (i + 1)) (before ++ x ∷ []) = rw (k, h) refl in
    sym one ∙ so_far

pub ends : {A : Type 0} (e : Fault) (step : List A → Result A Refusal) (before : List A) (n i : ℕ) (total : Result (List A) Refusal) → i < n → Gives (Err e) (step before)
    → each step (n - i) before ≡ total → Gives (Err e) total
ends e step before n i total lt h so_far =
    let k : n - i ≡ suc (n - (i + 1)) = omega arith in
    fails e (step before) (λ x. each step (n - (i + 1)) (before ++ x ∷ [])) total h (ap (λ (m : ℕ). each step m before) (sym k) ∙ so_far)

pub is_done : {A : Type 0} (step : List A → Result A Refusal) (before : List A) (n i : ℕ) (total : Result (List A) Refusal) → n ≤ i → each step (n - i) before ≡ total → total ≡ Ok before
is_done step before n i total le so_far =
    let k : n - i ≡ 0 = omega arith in
    sym so_far ∙ ap (λ (m : ℕ). each step m before) k

-- ---- the law of items

-- what a step gives is what stands in the relation
abbrev pub Agrees : {A : Type 0} → (List A → Result A Refusal) → (List A → A → Type 0) → Type 0
Agrees {A} step stands = (before : List A) (x : A) → (step before ≡ Ok x) ↔ stands before x

pub push : {A : Type 0} (before : List A) (x : A) (ys : List A) → (before ++ x ∷ []) ++ ys ≡ before ++ (x ∷ ys)
push before x ys = append_assoc before (x ∷ []) ys

pub each_stands : {A : Type 0} (step : List A → Result A Refusal) (stands : List A → A → Type 0) → Agrees step stands
    → (n : ℕ) (before all : List A) → each step n before ≡ Ok all → (ys : List A) × (all ≡ before ++ ys) × (length ys ≡ n) × EachStands stands before ys
each_stands step stands agrees zero before all e = let same : before ≡ all = cc in ([], sym same ∙ sym (append-nil before), refl, tt)
each_stands {A} step stands agrees (suc n) before all e =
    let b = bind_ok (step before) (λ x. each step n (before ++ x ∷ [])) all e in
    let rest = each_stands step stands agrees n (before ++ b.0 ∷ []) all b.2 in
    (b.0 ∷ rest.0, rest.1 ∙ push before b.0 rest.0, ap suc rest.2, ((agrees before b.0).0 b.1, rest.3))

pub each_again : {A : Type 0} (step : List A → Result A Refusal) (stands : List A → A → Type 0) → Agrees step stands
    → (before ys : List A) → EachStands stands before ys → each step (length ys) before ≡ Ok (before ++ ys)
each_again step stands agrees before [] h = ap (λ zs. Ok zs) (sym (append-nil before))
each_again step stands agrees before (y ∷ ys) h =
    let first : step before ≡ Ok y = (agrees before y).1 h.0 in
    let rest = each_again step stands agrees (before ++ y ∷ []) ys h.1 in
    rw first (rest ∙ ap (λ zs. Ok zs) (push before y ys))

-- the items that are read are those that stand in the relation
pub each_law : {A : Type 0} (step : List A → Result A Refusal) (stands : List A → A → Type 0) → Agrees step stands
    → (n : ℕ) (xs : List A) → (each step n [] ≡ Ok xs) ↔ ((length xs ≡ n) × EachStands stands [] xs)
each_law {A} step stands agrees n xs = (
  λ e. let r = each_stands step stands agrees n [] xs e in
      subst (λ (zs : List A). (length zs ≡ n) × EachStands stands [] zs) (sym r.1) (r.2, r.3),
  λ h. ap (λ (m : ℕ). each step m []) (sym h.0) ∙ each_again step stands agrees [] xs h.1,
)
