-- The search: what holds while members wait to be looked at, and that it ends with the least set.
use Rattle.std.proofs.Common.{◌≡◌, ℕ, zero, suc, ◌+◌, ◌<◌, Bool, true, false, true≢false, cond, length, List, [], ◌∷◌, ◌++◌, Option, Some, None, refl, sym, ap, ◌∙◌, subst, inl, inr, arith, replicate, length-append}
use Rattle.std.specs.Prelude.{◌⊎◌, slice_get, IsSomeAnd}
use Rattle.std.specs.List.{AllByRecursion, flat_map, filter_map, cons_option}
use Rattle.std.specs.Option.{option_to_list}
use Rattle.aof_object.specs.declared.records.Symbol.{Symbol}
use Rattle.aof_object.specs.declared.records.Object.{Object}
use Rattle.link_model.specs.Chosen.{HasAll, asked, is_needed, wanted, IsClosed, IsLeast}
use Rattle.link_select.specs.Search.{marked, unmarked, is_in, Takes, IsWithin}
use Rattle.link_select.proofs.MarkLemmas.{is_in_front, is_in_back, is_in_either, is_the_one, has_one, marked_within}
use Rattle.base_lemmas.proofs.BaseLemmas.{all_append, all_back, all_front, all_weaker}

-- what is marked is in every set that the rules close, and each marked member waits or has what it asks for
pub record Searched (supply : List ℕ → Option ℕ) (objects members : List Object) (marks : List Bool) (waiting : List ℕ) : Type 0 where
  pub size : length marks ≡ length members
  pub waits : HasAll (marked marks) waiting
  pub looked : (k : ℕ) (m : Object) → marked marks k ≡ true → slice_get members k ≡ Some m → (is_in k waiting ≡ true) ⊎ HasAll (marked marks) (wanted supply m)
  pub roots : HasAll (marked marks) (flat_map (wanted supply) objects)
  pub least : (other : ℕ → Bool) → IsClosed supply objects members other → (k : ℕ) → marked marks k ≡ true → other k ≡ true

none_marked : (n k : ℕ) → marked (replicate n false) k ≡ true → ⊥
none_marked zero k h = true≢false (sym h)
none_marked (suc n) zero h = true≢false (sym h)
none_marked (suc n) (suc k) h = none_marked n k h

pub searched_start : (supply : List ℕ → Option ℕ) (objects members : List Object) (n : ℕ) (marks : List Bool) (waiting : List ℕ) → n ≡ length members → length (replicate n false) ≡ n
    → Takes (replicate n false) marks [] waiting (flat_map (wanted supply) objects) → Searched supply objects members marks waiting
searched_start supply objects members n marks waiting e len t = record {
  size = t.marks.size ∙ len ∙ e;
  waits = subst (λ (l : List ℕ). HasAll (marked marks) l) (sym t.behind) t.marks.added_marked;
  looked = λ k m h at. inl (fresh k (t.marks.waits k h));
  roots = t.marks.all;
  least = λ other closed k h. in_other other closed k (t.marks.only k h);
}
  where
    fresh : (k : ℕ) → (marked (replicate n false) k ≡ true) ⊎ (is_in k t.added ≡ true) → is_in k waiting ≡ true
    fresh k (inl e) = absurd (none_marked n k e)
    fresh k (inr e) = subst (λ (l : List ℕ). is_in k l ≡ true) (sym t.behind) e

    in_other : (other : ℕ → Bool) → IsClosed supply objects members other → (k : ℕ) → (marked (replicate n false) k ≡ true) ⊎ (is_in k (flat_map (wanted supply) objects) ≡ true) → other k ≡ true
    in_other other closed k (inl e) = absurd (none_marked n k e)
    in_other other closed k (inr e) = has_one other k (flat_map (wanted supply) objects) e closed.of_objects

-- the last of the waiting members is looked at
pub searched_next : (supply : List ℕ → Option ℕ) (objects members : List Object) (marks after : List Bool) (rest wait : List ℕ) (i : ℕ) (m : Object)
    → Searched supply objects members marks (rest ++ i ∷ []) → slice_get members i ≡ Some m → Takes marks after rest wait (wanted supply m) → Searched supply objects members after wait
searched_next supply objects members marks after rest wait i m s at t = record {
  size = t.marks.size ∙ s.size;
  waits = subst (λ (l : List ℕ). HasAll (marked after) l) (sym t.behind)
      (all_append (λ k. marked after k ≡ true) rest t.added (more rest (all_front (λ k. marked marks k ≡ true) rest (i ∷ []) s.waits)) t.marks.added_marked);
  looked = λ k n h there. fresh k n there (t.marks.waits k h);
  roots = more (flat_map (wanted supply) objects) s.roots;
  least = λ other closed k h. in_other other closed k (t.marks.only k h);
}
  where
    more : (ks : List ℕ) → HasAll (marked marks) ks → HasAll (marked after) ks
    more ks a = all_weaker (λ k. marked marks k ≡ true) (λ k. marked after k ≡ true) t.marks.kept ks a

    this : marked marks i ≡ true
    this = (all_back (λ k. marked marks k ≡ true) rest (i ∷ []) s.waits).0

    here : (k : ℕ) (n : Object) → slice_get members k ≡ Some n → i ≡ k → HasAll (marked after) (wanted supply n)
    here k n there e =
        let same : m ≡ n = let f : Some m ≡ Some n = sym at ∙ ap (λ (j : ℕ). slice_get members j) e ∙ there in cc in
        subst (λ (o : Object). HasAll (marked after) (wanted supply o)) same t.marks.all

    waiting_or : (k : ℕ) (n : Object) → slice_get members k ≡ Some n → (is_in k rest ≡ true) ⊎ (is_in k (i ∷ []) ≡ true) → (is_in k wait ≡ true) ⊎ HasAll (marked after) (wanted supply n)
    waiting_or k n there (inl e) = inl (subst (λ (l : List ℕ). is_in k l ≡ true) (sym t.behind) (is_in_front k rest t.added e))
    waiting_or k n there (inr e) = inr (here k n there (is_the_one k i e))

    before : (k : ℕ) (n : Object) → slice_get members k ≡ Some n → (is_in k (rest ++ i ∷ []) ≡ true) ⊎ HasAll (marked marks) (wanted supply n) → (is_in k wait ≡ true) ⊎ HasAll (marked after) (wanted supply n)
    before k n there (inl e) = waiting_or k n there (is_in_either k rest (i ∷ []) e)
    before k n there (inr a) = inr (more (wanted supply n) a)

    fresh : (k : ℕ) (n : Object) → slice_get members k ≡ Some n → (marked marks k ≡ true) ⊎ (is_in k t.added ≡ true) → (is_in k wait ≡ true) ⊎ HasAll (marked after) (wanted supply n)
    fresh k n there (inl e) = before k n there (s.looked k n e there)
    fresh k n there (inr e) = inl (subst (λ (l : List ℕ). is_in k l ≡ true) (sym t.behind) (is_in_back k rest t.added e))

    in_other : (other : ℕ → Bool) → IsClosed supply objects members other → (k : ℕ) → (marked marks k ≡ true) ⊎ (is_in k (wanted supply m) ≡ true) → other k ≡ true
    in_other other closed k (inl e) = s.least other closed k e
    in_other other closed k (inr e) = has_one other k (wanted supply m) e (closed.of_members i m (s.least other closed i this) at)

pub searched_end : (supply : List ℕ → Option ℕ) (objects members : List Object) (marks : List Bool) → Searched supply objects members marks [] → IsLeast supply objects members (marked marks)
searched_end supply objects members marks s = record {
  closed = record { of_objects = s.roots; of_members = λ k m h at. done k m (s.looked k m h at) };
  least = λ other closed k h. s.least other closed k h;
}
  where
    done : (k : ℕ) (m : Object) → (is_in k [] ≡ true) ⊎ HasAll (marked marks) (wanted supply m) → HasAll (marked marks) (wanted supply m)
    done k m (inl e) = absurd (true≢false (sym e))
    done k m (inr a) = a

-- what an object asks for has numbers below the number of members
within_one : (supply : List ℕ → Option ℕ) (n : ℕ) → IsWithin supply n → (s : Symbol) (o : Option ℕ) → asked supply s ≡ o → AllByRecursion (λ k. k < n) (option_to_list o)
within_one supply n w s None e = tt
within_one supply n w s (Some k) e = (by (is_needed s.attributes) e, tt)
  where
    by : (b : Bool) → cond b (supply s.name) None ≡ Some k → k < n
    by true h = w.below s.name k h
    by false h = absurd (cc)

consed : (o : Option ℕ) (ks : List ℕ) → cons_option o ks ≡ option_to_list o ++ ks
consed None ks = refl
consed (Some k) ks = refl

pub within_all : (supply : List ℕ → Option ℕ) (n : ℕ) → IsWithin supply n → (ss : List Symbol) → AllByRecursion (λ k. k < n) (filter_map (asked supply) ss)
within_all supply n w [] = tt
within_all supply n w (s ∷ ss) =
    subst (λ (l : List ℕ). AllByRecursion (λ k. k < n) l) (sym (consed (asked supply s) (filter_map (asked supply) ss)))
    (all_append (λ k. k < n) (option_to_list (asked supply s)) (filter_map (asked supply) ss) (within_one supply n w s (asked supply s) refl) (within_all supply n w ss))

pub within_these : (supply : List ℕ → Option ℕ) (m n : ℕ) → IsWithin supply n → m ≡ n → (ss : List Symbol) (ks : List ℕ) → ks ≡ filter_map (asked supply) ss → AllByRecursion (λ k. k < m) ks
within_these supply m n w e ss ks same =
    subst (λ (j : ℕ). AllByRecursion (λ k. k < j) ks) (sym e) (subst (λ (l : List ℕ). AllByRecursion (λ k. k < n) l) (sym same) (within_all supply n w ss))

-- the waiting member of a number, whose symbols these are, is looked at
pub searched_look : (supply : List ℕ → Option ℕ) (objects members : List Object) (marks after : List Bool) (waited rest wait : List ℕ) (i : ℕ) (ss : List Symbol)
    → Searched supply objects members marks waited → waited ≡ rest ++ i ∷ [] → IsSomeAnd (slice_get members i) (λ m. m.symbols ≡ ss) → Takes marks after rest wait (filter_map (asked supply) ss)
    → Searched supply objects members after wait
searched_look supply objects members marks after waited rest wait i ss s popped here t = by (slice_get members i) refl here
  where
    by : (r : Option (Object)) → slice_get members i ≡ r → IsSomeAnd r (λ m. m.symbols ≡ ss) → Searched supply objects members after wait
    by None e none = absurd none
    by (Some m) e same =
        searched_next supply objects members marks after rest wait i m (subst (λ (l : List ℕ). Searched supply objects members marks l) popped s) e
        (subst (λ (l : List Symbol). Takes marks after rest wait (filter_map (asked supply) l)) (sym same) t)

-- and it is one of the members
pub waiting_within : (supply : List ℕ → Option ℕ) (objects members : List Object) (marks : List Bool) (waited rest : List ℕ) (i n : ℕ) → Searched supply objects members marks waited → waited ≡ rest ++ i ∷ [] → length members ≡ n → i < n
waiting_within supply objects members marks waited rest i n s popped e =
    let here = all_back (λ k. marked marks k ≡ true) rest (i ∷ []) (subst (λ (l : List ℕ). HasAll (marked marks) l) popped s.waits) in
    let within = marked_within marks i here.0 in
    let size = s.size in
    omega arith

pub fewer_left : (before after : List Bool) (waited rest wait asked_for : List ℕ) (i : ℕ) → waited ≡ rest ++ i ∷ [] → Takes before after rest wait asked_for → unmarked after + length wait < unmarked before + length waited
fewer_left before after waited rest wait asked_for i popped t =
    let a : length waited ≡ length rest + 1 = ap (λ (l : List ℕ). length l) popped ∙ length-append rest (i ∷ []) in
    let b : length wait ≡ length rest + length t.added = ap (λ (l : List ℕ). length l) t.behind ∙ length-append rest t.added in
    let c = t.marks.fewer in
    omega arith
