-- Items that stand in two relations at once, in one that looks at no item before, or over other items;
-- and the law of items that are read one for each head.
use Rattle.std.proofs.Common.{◌≡◌, ℕ, ◌+◌, ◌<◌, List, [], ◌∷◌, ◌++◌, map, length, take, get_or, Result, Ok, refl, sym, ap, subst, ◌∙◌, append-nil}
use Rattle.std.specs.Prelude.{◌↔◌}
use Rattle.std.specs.List.{AllByRecursion, flat_map}
use Rattle.std.proofs.lemmas.List.{flat_map_more, map_push, take_more}
use Rattle.sdt_fault.specs.declared.refusal.Refusal.{Refusal}
use Rattle.chunk_file.specs.Reading.{EachStands}
use Rattle.chunk_file.proofs.Loops.{bind_ok}
use Rattle.aof_object.specs.Objects.{each_of}
use Rattle.chunk_file.proofs.Loops.{push}

pub both : {A : Type 0} (R S : List A → A → Type 0) (before xs : List A) → EachStands R before xs → EachStands S before xs → EachStands (λ b x. R b x × S b x) before xs
both R S before [] h k = tt
both R S before (x ∷ xs) h k = ((h.0, k.0), both R S (before ++ x ∷ []) xs h.1 k.1)

pub weaker : {A : Type 0} (R S : List A → A → Type 0) → ((before : List A) (x : A) → R before x → S before x) → (before xs : List A) → EachStands R before xs → EachStands S before xs
weaker R S f before [] h = tt
weaker R S f before (x ∷ xs) h = (f before x h.0, weaker R S f (before ++ x ∷ []) xs h.1)

pub all_of : {A : Type 0} (R : List A → A → Type 0) (P : A → Type 0) → ((before : List A) (x : A) → R before x → P x) → (before xs : List A) → EachStands R before xs → AllByRecursion P xs
all_of R P f before [] h = tt
all_of R P f before (x ∷ xs) h = (f before x h.0, all_of R P f (before ++ x ∷ []) xs h.1)

-- with a fact of each item
pub with_all : {A : Type 0} (R : List A → A → Type 0) (P : A → Type 0) (S : List A → A → Type 0) → ((before : List A) (x : A) → R before x → P x → S before x)
    → (before xs : List A) → EachStands R before xs → AllByRecursion P xs → EachStands S before xs
with_all R P S f before [] h k = tt
with_all R P S f before (x ∷ xs) h k = (f before x h.0 k.0, with_all R P S f (before ++ x ∷ []) xs h.1 k.1)

pub all_and : {A : Type 0} (P Q S : A → Type 0) → ((x : A) → P x → Q x → S x) → (xs : List A) → AllByRecursion P xs → AllByRecursion Q xs → AllByRecursion S xs
all_and P Q S f [] h k = tt
all_and P Q S f (x ∷ xs) h k = (f x h.0 k.0, all_and P Q S f xs h.1 k.1)

-- over what a function makes of the items
pub from_map : {A B : Type 0} (f : A → B) (R : List B → B → Type 0) (before xs : List A) → EachStands R (map f before) (map f xs) → EachStands (λ b x. R (map f b) (f x)) before xs
from_map f R before [] h = tt
from_map {A} {B} f R before (x ∷ xs) h =
    (h.0, from_map f R (before ++ x ∷ []) xs (subst (λ (b : List B). EachStands R b (map f xs)) (sym (map_push f before x)) h.1))

pub to_map : {A B : Type 0} (f : A → B) (R : List B → B → Type 0) (before xs : List A) → EachStands (λ b x. R (map f b) (f x)) before xs → EachStands R (map f before) (map f xs)
to_map f R before [] h = tt
to_map {A} {B} f R before (x ∷ xs) h =
    (h.0, subst (λ (b : List B). EachStands R b (map f xs)) (map_push f before x) (to_map f R (before ++ x ∷ []) xs h.1))

-- ---- one item for each head

abbrev pub AgreesOf : {H A : Type 0} → (A → H) → (List A → H → Result A Refusal) → (List A → A → Type 0) → Type 0
AgreesOf {H} {A} key step stands = (before : List A) (h : H) (x : A) → (step before h ≡ Ok x) ↔ ((key x ≡ h) × stands before x)

of_stands : {H A : Type 0} (key : A → H) (step : List A → H → Result A Refusal) (stands : List A → A → Type 0) → AgreesOf key step stands
    → (hs : List H) (before all : List A) → each_of step hs before ≡ Ok all → (ys : List A) × (all ≡ before ++ ys) × (map key ys ≡ hs) × EachStands stands before ys
of_stands key step stands agrees [] before all e = let same : before ≡ all = cc in ([], sym same ∙ sym (append-nil before), refl, tt)
of_stands {H} {A} key step stands agrees (h ∷ hs) before all e =
    let b = bind_ok (step before h) (λ x. each_of step hs (before ++ x ∷ [])) all e in
    let first = (agrees before h b.0).0 b.1 in
    let rest = of_stands key step stands agrees hs (before ++ b.0 ∷ []) all b.2 in
    let keys : key b.0 ∷ map key rest.0 ≡ h ∷ hs = ap (λ (k : H). k ∷ map key rest.0) first.0 ∙ ap (λ (ks : List H). h ∷ ks) rest.2 in
    (b.0 ∷ rest.0, rest.1 ∙ push before b.0 rest.0, keys, (first.1, rest.3))

of_again : {H A : Type 0} (key : A → H) (step : List A → H → Result A Refusal) (stands : List A → A → Type 0) → AgreesOf key step stands
    → (before ys : List A) → EachStands stands before ys → each_of step (map key ys) before ≡ Ok (before ++ ys)
of_again key step stands agrees before [] h = ap (λ zs. Ok zs) (sym (append-nil before))
of_again key step stands agrees before (y ∷ ys) h =
    let first : step before (key y) ≡ Ok y = (agrees before (key y) y).1 (refl, h.0) in
    let rest = of_again key step stands agrees (before ++ y ∷ []) ys h.1 in
    rw first (rest ∙ ap (λ zs. Ok zs) (push before y ys))

pub each_of_law : {H A : Type 0} (key : A → H) (step : List A → H → Result A Refusal) (stands : List A → A → Type 0) → AgreesOf key step stands
    → (hs : List H) (xs : List A) → (each_of step hs [] ≡ Ok xs) ↔ ((map key xs ≡ hs) × EachStands stands [] xs)
each_of_law {H} {A} key step stands agrees hs xs = (
  λ e. let r = of_stands key step stands agrees hs [] xs e in
      subst (λ (zs : List A). (map key zs ≡ hs) × EachStands stands [] zs) (sym r.1) (r.2, r.3),
  λ h. ap (λ (ks : List H). each_of step ks []) (sym h.0) ∙ of_again key step stands agrees [] xs h.1,
)

-- a loop that appends a row for each item
pub rows_at : {X A : Type 0} (f : X → List A) (xs : List X) (i : ℕ) (d : X) (old before after : List A) → i < length xs → before ≡ old ++ flat_map f (take i xs) → after ≡ before ++ f (get_or xs i d)
    → after ≡ old ++ flat_map f (take (i + 1) xs)
rows_at f xs i d old before after h known added =
    added ∙ ap (λ (l : List _). l ++ f (get_or xs i d)) known ∙ flat_map_more f old (take i xs) (get_or xs i d)
    ∙ ap (λ (l : List _). old ++ flat_map f l) (sym (take_more xs i d h))

pub rows_more : {X A : Type 0} (f : X → List A) (xs : List X) (i : ℕ) (x : X) (old before after : List A) → i < length xs → x ≡ get_or xs i x → before ≡ old ++ flat_map f (take i xs) → after ≡ before ++ f x
    → after ≡ old ++ flat_map f (take (i + 1) xs)
rows_more f xs i x old before after h e known added = rows_at f xs i x old before after h known (added ∙ ap (λ (y : _). before ++ f y) e)
