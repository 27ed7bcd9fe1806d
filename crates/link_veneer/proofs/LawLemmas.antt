-- The first refusal of a branch in input order.
use Rattle.std.proofs.Common.{◌≡◌, ℕ, zero, suc, ◌+◌, ◌<◌, inl, inr, Bool, true, false, ◌==◌, if◌then◌else◌, List, [], ◌∷◌, Option, Some, None, refl, sym, ap, subst, ◌∙◌, arith}
use Rattle.std.specs.Prelude.{◌≢◌, slice_get}
use Rattle.std.specs.Option.{option_and_then, option_map, option_or}
use Rattle.std.proofs.lemmas.Bool.{eqb-true, eq-eqb}
use Rattle.sdt_word.specs.Numbers.{bit}
use Rattle.sdt_fault.specs.declared.refusal.Refusal.{Refusal}
use Rattle.sdt_fault.specs.declared.refusal.Refusal.TheVariants.{NotInterworking}
use Rattle.base_lemmas.proofs.BaseLemmas.{came_through}
use Rattle.aof_object.specs.declared.records.Area.{Area}
use Rattle.aof_object.specs.declared.records.Object.{Object}
use Rattle.aof_object.specs.declared.records.Reloc.{Reloc}
use Rattle.aof_object.specs.declared.records.Symbol.{Symbol}
use Rattle.patch_model.specs.Fields.{number_named}
use Rattle.link_model.specs.declared.placing.AreaName.{AreaName}
use Rattle.link_model.specs.declared.placing.Veneer.{Veneer}
use Rattle.link_model.specs.Meaning.{symbol_of}
use Rattle.link_model.specs.Members.{Link}
use Rattle.link_model.specs.Options.{first_given}
use Rattle.link_model.specs.RegionValues.{area_of}
use Rattle.link_model.specs.Veneers.{needed_by}
use Rattle.link_veneer.specs.Interworking.{lacking_bit, not_interworking, refusal_by, refused_by, refused_from, refused_in}
use Rattle.link_veneer.specs.Laws.{IsBefore, IsRefused, FirstRefused, InterworkingLaw, OfRefused, refused_at, refused_in_object, refused_of}

-- ---- the first of a list that gives something, by a function of its number

abbrev at : {X R : Type 0} → (ℕ → X → Option R) → List X → ℕ → Option R
at f xs k = option_and_then (f k) (slice_get xs k)

record IsFirstAt {X R : Type 0} (f : ℕ → X → Option R) (xs : List X) (r : R) : Type 0 where
  pub place : ℕ
  pub here : at f xs place ≡ Some r
  pub before : (k : ℕ) → k < place → at f xs k ≡ None

abbrev OfFirst : {X R : Type 0} → (ℕ → X → Option R) → List X → Option R → Type 0
OfFirst f xs None = (k : ℕ) → at f xs k ≡ None
OfFirst f xs (Some r) = IsFirstAt f xs r

first_of : {X R : Type 0} (f : ℕ → X → Option R) (x : X) (xs : List X) (o rest : Option R) → f 0 x ≡ o → OfFirst (λ k. f (suc k)) xs rest → OfFirst f (x ∷ xs) (option_or o rest)
first_of f x xs (Some r) rest e h = record { place = 0; here = e; before = λ k low. absurd (omega arith) }
first_of f x xs None None e h = none
  where
    none : (k : ℕ) → at f (x ∷ xs) k ≡ None
    none zero = e
    none (suc k) = h k
first_of f x xs None (Some r) e h = record { place = suc h.place; here = h.here; before = before }
  where
    before : (k : ℕ) → k < suc h.place → at f (x ∷ xs) k ≡ None
    before zero low = e
    before (suc k) low = h.before k (omega arith)

given_first : {X R : Type 0} (f : X → Option R) (xs : List X) → OfFirst (λ k x. f x) xs (first_given f xs)
given_first f [] = λ k. refl
given_first f (x ∷ xs) = first_of (λ k y. f y) x xs (f x) (first_given f xs) refl (given_first f xs)

-- ---- areas of an object, and objects

abbrev of_area : Link → ℕ → ℕ → Area → Option Refusal
of_area l i j a = first_given (refused_by l (record { object = i; area = j }) a) a.relocs

in_first : (l : Link) (i k : ℕ) (areas : List Area) → OfFirst (λ n a. of_area l i (k + n) a) areas (refused_in l i k areas)
in_first l i k [] = λ n. refl
in_first l i k (a ∷ areas) =
    let here : k + 0 ≡ k = omega arith in
    let next : (n : ℕ) → suc k + n ≡ k + suc n = λ n. omega arith in
    let P : (ℕ → Area → Option Refusal) → Type 0 = λ f. OfFirst f areas (refused_in l i (suc k) areas) in
    first_of (λ n b. of_area l i (k + n) b) a areas (of_area l i k a) (refused_in l i (suc k) areas) (ap (λ n. of_area l i n a) here) (subst P (λ p n b. of_area l i (next n p) b) (in_first l i (suc k) areas))

from_first : (l : Link) (i : ℕ) (os : List Object) → OfFirst (λ n o. refused_in l (i + n) 0 o.areas) os (refused_from l i os)
from_first l i [] = λ n. refl
from_first l i (o ∷ os) =
    let here : i + 0 ≡ i = omega arith in
    let next : (n : ℕ) → suc i + n ≡ i + suc n = λ n. omega arith in
    let P : (ℕ → Object → Option Refusal) → Type 0 = λ f. OfFirst f os (refused_from l (suc i) os) in
    first_of (λ n q. refused_in l (i + n) 0 q.areas) o os (refused_in l i 0 o.areas) (refused_from l (suc i) os) (ap (λ n. refused_in l n 0 o.areas) here)
    (subst P (λ p n q. refused_in l (next n p) 0 q.areas) (from_first l (suc i) os))

areas_first : (l : Link) (i : ℕ) (areas : List Area) → OfFirst (of_area l i) areas (refused_in l i 0 areas)
areas_first l i areas =
    let plain : (n : ℕ) → 0 + n ≡ n = λ n. omega arith in
    let P : (ℕ → Area → Option Refusal) → Type 0 = λ f. OfFirst f areas (refused_in l i 0 areas) in subst P (λ p n a. of_area l i (plain n p) a) (in_first l i 0 areas)

objects_first : (l : Link) → OfFirst (λ i o. refused_in l i 0 o.areas) l.objects (not_interworking l)
objects_first l =
    let plain : (n : ℕ) → 0 + n ≡ n = λ n. omega arith in
    let P : (ℕ → Object → Option Refusal) → Type 0 = λ f. OfFirst f l.objects (not_interworking l) in subst P (λ p n o. refused_in l (plain n p) 0 o.areas) (from_first l 0 l.objects)

-- ---- where the first of a part is none, no relocation of it is refused

lift : {X R S : Type 0} (f : X → Option R) (g : X → Option S) → ((x : X) → f x ≡ None → g x ≡ None) → (o : Option X) → option_and_then f o ≡ None → option_and_then g o ≡ None
lift f g h None e = refl
lift f g h (Some x) e = h x e

none_in_area : (l : Link) (i j : ℕ) (a : Area) → of_area l i j a ≡ None → (k : ℕ) → refused_of l i j k a ≡ None
none_in_area l i j a e k =
    let f = refused_by l (record { object = i; area = j }) a in
    let P : Option Refusal → Type 0 = λ o. OfFirst (λ n r. f r) a.relocs o in
    let all : OfFirst (λ n r. f r) a.relocs None = subst P e (given_first f a.relocs) in all k

none_in_object : (l : Link) (i : ℕ) (o : Object) → refused_in l i 0 o.areas ≡ None → (j k : ℕ) → refused_in_object l i j k o ≡ None
none_in_object l i o e j k =
    let P : Option Refusal → Type 0 = λ q. OfFirst (of_area l i) o.areas q in
    let all : OfFirst (of_area l i) o.areas None = subst P e (areas_first l i o.areas) in
    lift (of_area l i j) (refused_of l i j k) (λ a none. none_in_area l i j a none k) (slice_get o.areas j) (all j)

abbrev object_of : Link → ℕ → Object → Option Refusal
object_of l i o = refused_in l i 0 o.areas

none_at : (l : Link) (i j k : ℕ) → at (object_of l) l.objects i ≡ None → refused_at l i j k ≡ None
none_at l i j k e = lift (object_of l i) (refused_in_object l i j k) (λ o none. none_in_object l i o none j k) (slice_get l.objects i) e

none_refused : (l : Link) → not_interworking l ≡ None → OfRefused l None
none_refused l e =
    let P : Option Refusal → Type 0 = λ q. OfFirst (object_of l) l.objects q in
    let all : OfFirst (object_of l) l.objects None = subst P e (objects_first l) in λ i j k. none_at l i j k (all i)

-- ---- the first one

module _ (l : Link) (i j : ℕ) (o : Object) (a : Area) (one : slice_get l.objects i ≡ Some o) (two : slice_get o.areas j ≡ Some a) where
  of_object : (n p : ℕ) → refused_at l i n p ≡ refused_in_object l i n p o
  of_object n p = ap (option_and_then (refused_in_object l i n p)) one

  of_both : (p : ℕ) → refused_at l i j p ≡ refused_of l i j p a
  of_both p = of_object j p ∙ ap (option_and_then (refused_of l i j p)) two

  first_there : (k : ℕ) (told : Refusal) → refused_of l i j k a ≡ Some told → ((m : ℕ) → m < i → at (object_of l) l.objects m ≡ None) → ((n : ℕ) → n < j → at (of_area l i) o.areas n ≡ None)
      → ((p : ℕ) → p < k → refused_of l i j p a ≡ None) → FirstRefused l told
  first_there k told here top mid low = record { i = i; j = j; k = k; at = of_both k ∙ here; earliest = before }
    where
      before : (m n p : ℕ) → IsBefore m n p i j k → refused_at l m n p ≡ None
      before m n p (inl less) = none_at l m n p (top m less)
      before m n p (inr (same, inl less)) =
          ap (λ q. refused_at l q n p) same ∙ of_object n p ∙ lift (of_area l i n) (refused_of l i n p) (λ b none. none_in_area l i n b none p) (slice_get o.areas n) (mid n less)
      before m n p (inr (same, inr (alike, less))) = ap (λ q. refused_at l q n p) same ∙ ap (λ q. refused_at l i q p) alike ∙ of_both p ∙ low p less

first_refused : (l : Link) (told : Refusal) → not_interworking l ≡ Some told → FirstRefused l told
first_refused l told e =
    let P : Option Refusal → Type 0 = λ q. OfFirst (object_of l) l.objects q in
    let top : IsFirstAt (object_of l) l.objects told = subst P e (objects_first l) in
    let one = came_through (object_of l top.place) (slice_get l.objects top.place) told top.here in
    let Q : Option Refusal → Type 0 = λ q. OfFirst (of_area l top.place) one.0.areas q in
    let mid : IsFirstAt (of_area l top.place) one.0.areas told = subst Q one.2 (areas_first l top.place one.0.areas) in
    let two = came_through (of_area l top.place mid.place) (slice_get one.0.areas mid.place) told mid.here in
    let f = refused_by l (record { object = top.place; area = mid.place }) two.0 in
    let R : Option Refusal → Type 0 = λ q. OfFirst (λ n r. f r) two.0.relocs q in
    let low : IsFirstAt (λ n r. f r) two.0.relocs told = subst R two.2 (given_first f two.0.relocs) in
    first_there l top.place mid.place one.0 two.0 one.1 two.1 low.place told low.here top.before mid.before low.before

of_refused : (l : Link) (o : Option Refusal) → not_interworking l ≡ o → OfRefused l o
of_refused l None e = none_refused l e
of_refused l (Some told) e = first_refused l told e

-- ---- what one refusal says

module _ (l : Link) (name : AreaName) (a : Area) (r : Reloc) (told : Refusal) where
  said_of : (s : Symbol) (v : Veneer) → symbol_of l.objects name.object (number_named r) ≡ Some s → needed_by l 0 name a r ≡ Some v → (o : Option Area) → area_of l.objects v.area ≡ o
      → option_map (NotInterworking s.name) (lacking_bit o) ≡ Some told → IsRefused l name a r told
  said_of s v named needs None target h = absurd cc
  said_of s v named needs (Some home) target h = by (bit home.attributes 22 == 1) refl h
    where
      by : (b : Bool) → (bit home.attributes 22 == 1) ≡ b → option_map (NotInterworking s.name) (if b then None else Some home.name) ≡ Some told → IsRefused l name a r told
      by true has g = absurd cc
      by false has g = record {
        symbol = s;
        need = v;
        home = home;
        named = named;
        needs = needs;
        target = target;
        lacks = λ is. let yes_bit = eq-eqb (bit home.attributes 22) 1 is in cc;
        says = cc;
      }

  said : (s : Option Symbol) (v : Option Veneer) → symbol_of l.objects name.object (number_named r) ≡ s → needed_by l 0 name a r ≡ v → refusal_by l.objects s v ≡ Some told → IsRefused l name a r told
  said None v named needs h = absurd cc
  said (Some s) None named needs h = absurd cc
  said (Some s) (Some v) named needs h = said_of s v named needs (area_of l.objects v.area) refl h

  without_bit : (n : ℕ) → n ≢ 1 → (n == 1) ≡ false
  without_bit n h = by (n == 1) refl
    where
      by : (b : Bool) → (n == 1) ≡ b → b ≡ false
      by true e = absurd (h (eqb-true n 1 e))
      by false e = refl

  gives : IsRefused l name a r told → refused_by l name a r ≡ Some told
  gives h =
      (λ p. refusal_by l.objects (h.named p) (h.needs p)) ∙ ap (λ o. option_map (NotInterworking h.symbol.name) (lacking_bit o)) h.target
      ∙ ap (λ b. option_map (NotInterworking h.symbol.name) (if b then None else Some h.home.name)) (without_bit (bit h.home.attributes 22) h.lacks) ∙ sym (ap Some h.says)

pub interworking : InterworkingLaw
interworking = record {
  refused = λ l name a r told. (λ h. said l name a r told _ _ refl refl h, gives l name a r told);
  first = λ l. of_refused l (not_interworking l) refl;
}
