-- The member at the place of a number is the member of that number in library order.
use Rattle.std.proofs.Common.{◌≡◌, ℕ, zero, suc, ◌+◌, ◌-◌, ◌<◌, ◌≤◌, length, List, [], ◌∷◌, ◌++◌, map, Option, Some, refl, sym, ap, ◌∙◌, inl, inr, arith, length-append, append_assoc}
use Rattle.std.specs.Prelude.{slice_get, IsSomeAnd, ◌⊎◌}
use Rattle.std.proofs.lemmas.Bool.{cases_lt}
use Rattle.std.specs.Option.{option_map}
use Rattle.aof_object.specs.declared.records.Object.{Object}
use Rattle.aof_object.specs.declared.records.Symbol.{Symbol}
use Rattle.alf_archive.specs.declared.records.Member.{Member}
use Rattle.alf_archive.specs.declared.records.Archive.{Archive}
use Rattle.link_model.specs.declared.selection.Named.{Named}
use Rattle.link_model.specs.Members.{named_member, members_in, members_of, objects_in}
use Rattle.link_select.specs.declared.members.MemberPlace.{MemberPlace}
use Rattle.link_select.specs.Places.{places_in, places_from, member_in, member_at}
use Rattle.base_lemmas.proofs.BaseLemmas.{get_back, get_before as get_front}

get_map : {X Y : Type 0} (f : X → Y) (xs : List X) (i : ℕ) → slice_get (map f xs) i ≡ option_map f (slice_get xs i)
get_map f [] i = refl
get_map f (x ∷ xs) zero = refl
get_map f (x ∷ xs) (suc i) = get_map f xs i

length_from_map : {X Y : Type 0} (f : X → Y) (xs : List X) → length (map f xs) ≡ length xs
length_from_map f [] = refl
length_from_map f (x ∷ xs) = ap suc (length_from_map f xs)

length_in : (a k : ℕ) (ms : List Member) → length (places_in a k ms) ≡ length ms
length_in a k [] = refl
length_in a k (m ∷ ms) = ap suc (length_in a (suc k) ms)

place_in : (a k : ℕ) (ms : List Member) (i : ℕ) (p : MemberPlace) → slice_get (places_in a k ms) i ≡ Some p → (p.archive ≡ a) × (p.member ≡ k + i)
place_in a k [] i p h = absurd (cc)
place_in a k (m ∷ ms) zero p h =
    let e : record { archive = a; member = k } ≡ p = cc in
    (sym (ap (λ (r : MemberPlace). r.archive) e), sym (ap (λ (r : MemberPlace). r.member) e) ∙ omega arith)
place_in a k (m ∷ ms) (suc i) p h = let r = place_in a (suc k) ms i p h in (r.0, omega (arith, r.1))

get_seam : {X : Type 0} (xs ys : List X) (x : X) → slice_get (xs ++ x ∷ ys) (length xs) ≡ Some x
get_seam [] ys x = refl
get_seam (z ∷ zs) ys x = get_seam zs ys x

pub length_from : (a : ℕ) (xs : List (Named Archive)) → length (places_from a xs) ≡ length (members_of xs)
length_from a [] = refl
length_from a (x ∷ xs) =
    length-append (places_in a 0 x.value.members) (places_from (suc a) xs)
    ∙ (λ i. (length_in a 0 x.value.members ∙ sym (length_from_map (named_member x.name) x.value.members)) i + length_from (suc a) xs i)
    ∙ sym (length-append (members_in x) (members_of xs))

place_from : (all front xs : List (Named Archive)) (a : ℕ) → all ≡ front ++ xs → length front ≡ a → (i : ℕ) (p : MemberPlace) → slice_get (places_from a xs) i ≡ Some p → member_at all p ≡ slice_get (members_of xs) i
place_from all front [] a e len i p h = absurd (cc)
place_from all front (x ∷ xs) a e len i p h = by (cases_lt i (length x.value.members)) (place_from all (front ++ x ∷ []) xs (suc a) longer_all longer)
  where
    longer_all : all ≡ (front ++ x ∷ []) ++ xs
    longer_all = e ∙ sym (append_assoc front (x ∷ []) xs)

    longer : length (front ++ x ∷ []) ≡ suc a
    longer = let n = length-append front (x ∷ []) in omega arith

    here : slice_get all a ≡ Some x
    here = ap (λ (l : List (Named Archive)). slice_get l a) e ∙ ap (slice_get (front ++ x ∷ xs)) (sym len) ∙ get_seam front xs x

    by : (i < length x.value.members) ⊎ (length x.value.members ≤ i)
        → ((j : ℕ) (r : MemberPlace) → slice_get (places_from (suc a) xs) j ≡ Some r → member_at all r ≡ slice_get (members_of xs) j)
        → member_at all p ≡ slice_get (members_in x ++ members_of xs) i
    by (inl lt) rest =
        let within : i < length (places_in a 0 x.value.members) = let n = length_in a 0 x.value.members in omega arith in
        let r = place_in a 0 x.value.members i p (sym (get_front (places_in a 0 x.value.members) (places_from (suc a) xs) i within) ∙ h) in
        let at : p.member ≡ i = omega (arith, r.1) in
        ap (λ (o : Option (Named Archive)). member_in p.member o) (ap (slice_get all) r.0 ∙ here)
        ∙ ap (λ (k : ℕ). option_map (named_member x.name) (slice_get x.value.members k)) at
        ∙ sym (get_map (named_member x.name) x.value.members i)
        ∙ sym (get_front (members_in x) (members_of xs) i (let n = length_from_map (named_member x.name) x.value.members in omega arith))
    by (inr ge) rest =
        let j : ℕ = i - length x.value.members in
        let at : length (places_in a 0 x.value.members) + j ≡ i = let n = length_in a 0 x.value.members in omega arith in
        let at' : length (members_in x) + j ≡ i = let n = length_from_map (named_member x.name) x.value.members in omega arith in
        rest j p (sym (get_back (places_in a 0 x.value.members) (places_from (suc a) xs) j) ∙ ap (slice_get (places_in a 0 x.value.members ++ places_from (suc a) xs)) at ∙ h)
        ∙ sym (get_back (members_in x) (members_of xs) j) ∙ ap (slice_get (members_in x ++ members_of xs)) at'

-- the member at the place of a number
pub member_at_place : (archives : List (Named Archive)) (i : ℕ) (p : MemberPlace) → slice_get (places_from 0 archives) i ≡ Some p → member_at archives p ≡ slice_get (members_of archives) i
member_at_place archives i p h = place_from archives [] archives 0 refl refl i p h

-- ---- the members as objects

pub length_values : (os : List (Named Object)) → length (objects_in os) ≡ length os
length_values os = length_from_map (λ (o : Named Object). o.value) os

pub objects_from : (archives : List (Named Archive)) → length (places_from 0 archives) ≡ length (objects_in (members_of archives))
objects_from archives = length_from 0 archives ∙ sym (length_values (members_of archives))

pub value_there : (os : List (Named Object)) (i : ℕ) (ss : List Symbol) → IsSomeAnd (slice_get os i) (λ o. o.value.symbols ≡ ss) → IsSomeAnd (slice_get (objects_in os) i) (λ o. o.symbols ≡ ss)
value_there [] i ss h = h
value_there (o ∷ os) zero ss h = h
value_there (o ∷ os) (suc i) ss h = value_there os i ss h
