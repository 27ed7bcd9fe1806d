-- The key of an area's best selections, and sets of keys that grow.
use Rattle.std.proofs.Common.{◌≡◌, ◌⊎◌, inl, inr, ℕ, suc, ◌+◌, ◌<◌, ◌≤◌, Bool, true, false, cond, ◌&&◌, ◌||◌, ◌==◌, if◌then◌else◌, List, [], ◌∷◌, ◌++◌, length, get_or, drop, map, flat_map, Option, Some, None, refl, sym, ap, ◌∙◌, subst, arith, append_assoc, append-nil}
use Rattle.std.specs.Prelude.{is_some}
use Rattle.std.specs.List.{filter, list_any}
use Rattle.std.proofs.lemmas.Bool.{cases_lt, eqb-true}
use Rattle.std.proofs.lemmas.List.{at_drop_all, at_drop_more}
use Rattle.std.proofs.lemmas.List.Folds.{list_any-append}
use Rattle.aof_object.specs.declared.records.Area.{Area}
use Rattle.aof_object.specs.declared.records.Object.{Object}
use Rattle.link_model.specs.declared.selection.Named.{Named}
use Rattle.link_items.specs.LinkedItems.{item_of, items_from, items_of}
use Rattle.place_model.specs.declared.scatter.Choice.{Choice}
use Rattle.place_model.specs.declared.scatter.ScatterLoad.{ScatterLoad}
use Rattle.place_model.specs.declared.scatter.ScatterRegion.{ScatterRegion}
use Rattle.place_model.specs.declared.scatter.Selection.{Selection}
use Rattle.place_model.specs.Assignment.{Offer, at_rank, best, first_filled, is_named, is_of, matches, offers_from, rank, takes}
use Rattle.place_model.specs.Items.{Item}
use Rattle.link_report.specs.declared.selections.Key.{Key}
use Rattle.link_report.specs.Keys.{AreSought, Keys, NoneBelow, choice_in, has_key, has_rank, home_in, is_alike, same_key, selection_at}
use Rattle.place_model.specs.Keys.{same_choice, same_module}
use Rattle.link_report.specs.Selections.{has_taken, is_as_good, takes_area}
use Rattle.place_model.proofs.KeyLemmas.{IsKeyOf}
use Rattle.link_report.proofs.KeyLemmas.{flip_alike, key_plain}

-- ---- sets that grow

in_turn : (a r h : Bool) → ((a || r) || h) ≡ (r || (a || h))
in_turn true true h = refl
in_turn true false h = refl
in_turn false r h = refl

pub cond_or : (b x : Bool) → cond b true x ≡ (b || x)
cond_or true x = refl
cond_or false x = refl

-- one more of a list whose others are still to come
pub one_more : {X : Type 0} (p : X → Bool) (x : X) (rest : List X) (h g : Bool) → g ≡ (p x || h) → (list_any p rest || g) ≡ (list_any p (x ∷ rest) || h)
one_more p x rest h g e = ap (λ b. list_any p rest || b) e ∙ sym (in_turn (p x) (list_any p rest) h)

-- and some more
pub some_more : {X : Type 0} (p : X → Bool) (xs rest : List X) (h g : Bool) → g ≡ (list_any p xs || h) → (list_any p rest || g) ≡ (list_any p (xs ++ rest) || h)
some_more p xs rest h g e =
    ap (λ b. list_any p rest || b) e ∙ sym (in_turn (list_any p xs) (list_any p rest) h) ∙ ap (λ b. b || h) (sym (list_any-append p xs rest))

-- ---- selections of regions

map_any : (region : ℕ) (p : Selection → Bool) (ss : List Selection) → list_any (λ (o : Offer). p o.selection) (map (λ (s : Selection). record { region = region; selection = s }) ss) ≡ list_any p ss
map_any region p [] = refl
map_any region p (s ∷ ss) = ap (λ b. p s || b) (map_any region p ss)

pub offers_any : (k : ℕ) (p : Selection → Bool) (rs : List ScatterRegion) → list_any (λ (o : Offer). p o.selection) (offers_from k rs) ≡ list_any p (flat_map (λ (r : ScatterRegion). r.selections) rs)
offers_any k p [] = refl
offers_any k p (r ∷ rs) =
    list_any-append (λ (o : Offer). p o.selection) (map (λ (s : Selection). record { region = k; selection = s }) r.selections) (offers_from (suc k) rs)
    ∙ ap (λ (b : Bool). b || list_any (λ (o : Offer). p o.selection) (offers_from (suc k) rs)) (map_any k p r.selections)
    ∙ ap (λ (b : Bool). list_any p r.selections || b) (offers_any (suc k) p rs)
    ∙ sym (list_any-append p r.selections (flat_map (λ (q : ScatterRegion). q.selections) rs))

-- ---- those that pass a test

record IsFilled (p : Offer → Bool) (os : List Offer) : Type 0 where
  pub first : Offer
  pub others : List Offer
  pub are : filter p os ≡ first ∷ others
  pub passes : p first ≡ true

filled : (p : Offer → Bool) (os : List Offer) → list_any p os ≡ true → IsFilled p os
filled p [] h = absurd (cc)
filled p (o ∷ os) h = go (p o) refl h (λ e. filled p os e)
  where
    go : (b : Bool) → p o ≡ b → (b || list_any p os) ≡ true → (list_any p os ≡ true → IsFilled p os) → IsFilled p (o ∷ os)
    go true e k later = record { first = o; others = filter p os; are = rw e refl; passes = e }
    go false e k later = let f = later k in record { first = f.first; others = f.others; are = rw e f.are; passes = f.passes }

empty : (p : Offer → Bool) (os : List Offer) → list_any p os ≡ false → filter p os ≡ []
empty p [] h = refl
empty p (o ∷ os) h = go (p o) refl h (λ e. empty p os e)
  where
    go : (b : Bool) → p o ≡ b → (b || list_any p os) ≡ false → (list_any p os ≡ false → filter p os ≡ []) → filter p (o ∷ os) ≡ []
    go true e k later = absurd (cc)
    go false e k later = rw e (later k)

-- ---- the best selections of an area

and_first : (a b : Bool) → (a && b) ≡ true → a ≡ true
and_first true b h = refl
and_first false b h = h

same_rank : (m n : ℕ) → (m == n) ≡ true → m ≡ n
same_rank m n h = eqb-true m n h

module _ (offers : List Offer) (i : Item) where
  -- the first rank of some is that of all that take the area
  of_rank : (n : ℕ) (f : IsFilled (λ o. rank o.selection == n && matches o.selection i) offers) → best offers i ≡ f.first ∷ f.others
      → (s : Selection) → takes_area offers s i ≡ (rank s == n && matches s i)
  of_rank n f e s =
      let r : rank f.first.selection ≡ n = same_rank (rank f.first.selection) n (and_first (rank f.first.selection == n) (matches f.first.selection i) f.passes) in
      ap (λ (os : List Offer). is_as_good s os && matches s i) e ∙ ap (λ (m : ℕ). rank s == m && matches s i) r

  abbrev at : ℕ → List Offer
  at n = at_rank n offers i

  past_one : NoneBelow offers i 1 → best offers i ≡ first_filled (at 1 ∷ at 2 ∷ at 3 ∷ [])
  past_one none = ap (λ (os : List Offer). first_filled (os ∷ at 1 ∷ at 2 ∷ at 3 ∷ [])) (empty (λ o. rank o.selection == 0 && matches o.selection i) offers (none 0 (omega arith)))

  past_two : NoneBelow offers i 2 → best offers i ≡ first_filled (at 2 ∷ at 3 ∷ [])
  past_two none =
      past_one (λ m lt. none m (omega (arith, lt)))
      ∙ ap (λ (os : List Offer). first_filled (os ∷ at 2 ∷ at 3 ∷ [])) (empty (λ o. rank o.selection == 1 && matches o.selection i) offers (none 1 (omega arith)))

  past_three : NoneBelow offers i 3 → best offers i ≡ first_filled (at 3 ∷ [])
  past_three none =
      past_two (λ m lt. none m (omega (arith, lt)))
      ∙ ap (λ (os : List Offer). first_filled (os ∷ at 3 ∷ [])) (empty (λ o. rank o.selection == 2 && matches o.selection i) offers (none 2 (omega arith)))

  -- of the first rank that has some
  abbrev pub TakesAt : ℕ → Type 0
  TakesAt n = (s : Selection) → takes_area offers s i ≡ (rank s == n && matches s i)

  pub takes_first : has_rank offers i 0 ≡ true → TakesAt 0
  takes_first h s =
      let f = filled (λ o. rank o.selection == 0 && matches o.selection i) offers h in
      of_rank 0 f (ap (λ (os : List Offer). first_filled (os ∷ at 1 ∷ at 2 ∷ at 3 ∷ [])) f.are) s

  pub takes_second : NoneBelow offers i 1 → has_rank offers i 1 ≡ true → TakesAt 1
  takes_second none h s =
      let f = filled (λ o. rank o.selection == 1 && matches o.selection i) offers h in
      of_rank 1 f (past_one none ∙ ap (λ (os : List Offer). first_filled (os ∷ at 2 ∷ at 3 ∷ [])) f.are) s

  pub takes_third : NoneBelow offers i 2 → has_rank offers i 2 ≡ true → TakesAt 2
  takes_third none h s =
      let f = filled (λ o. rank o.selection == 2 && matches o.selection i) offers h in
      of_rank 2 f (past_two none ∙ ap (λ (os : List Offer). first_filled (os ∷ at 3 ∷ [])) f.are) s

  pub takes_fourth : NoneBelow offers i 3 → has_rank offers i 3 ≡ true → TakesAt 3
  takes_fourth none h s =
      let f = filled (λ o. rank o.selection == 3 && matches o.selection i) offers h in
      of_rank 3 f (past_three none ∙ ap (λ (os : List Offer). first_filled (os ∷ [])) f.are) s

  pub takes_none : NoneBelow offers i 3 → has_rank offers i 3 ≡ false → (s : Selection) → takes_area offers s i ≡ false
  takes_none none h s =
      ap (λ (os : List Offer). is_as_good s os && matches s i)
      (past_three none ∙ ap (λ (os : List Offer). first_filled (os ∷ [])) (empty (λ o. rank o.selection == 3 && matches o.selection i) offers h))

  -- one rank more has none
  pub none_more : (n : ℕ) → NoneBelow offers i n → has_rank offers i n ≡ false → NoneBelow offers i (suc n)
  none_more n none h m lt = go (cases_lt m n)
    where
      go : (m < n) ⊎ (n ≤ m) → has_rank offers i m ≡ false
      go (inl less) = none m less
      go (inr le) = let same : n ≡ m = omega (arith, le, lt) in subst (λ (k : ℕ). has_rank offers i k ≡ false) same h

  pub none_first : NoneBelow offers i 0
  none_first m lt = absurd (omega (arith, lt))

-- ---- found by its keys

module _ (offers : List Offer) (ks : Keys) (sought : AreSought offers ks) (i : Item) (n : ℕ) (home : Option (List ℕ)) (c : Choice) (is : IsKeyOf n i home c)
    (k : Key) (homed : home_in k.home ≡ home) (chosen : choice_in k.sought ≡ c) where
  alike_rank : (s : Selection) → is_alike s (selection_at k) ≡ (rank s == n && matches s i)
  alike_rank s =
      flip_alike s (selection_at k) ∙ ap (λ (h : Option (List ℕ)). same_module h s.«module» && same_choice (choice_in k.sought) s.choice) homed
      ∙ ap (λ (d : Choice). same_module home s.«module» && same_choice d s.choice) chosen ∙ sym (is s.«module» s.choice)

  -- a set of keys has that of a rank where a selection of the rank matches
  pub key_rank : has_key ks k ≡ has_rank offers i n
  key_rank = sought k ∙ ap (λ (p : Offer → Bool). list_any p offers) (λ j o. alike_rank o.selection j)

  key_here : (found : Bool) → found ≡ has_key ks k → (b : Bool) → found ≡ b → has_rank offers i n ≡ b
  key_here found e b f = sym key_rank ∙ sym e ∙ f

  pub key_found : (found : Bool) → found ≡ has_key ks k → found ≡ true → (has_rank offers i n ≡ true → TakesAt offers i n) → (q : Key)
      → same_key k q ≡ takes_area offers (selection_at q) i
  key_found found e f takes q =
      key_plain k q ∙ flip_alike (selection_at k) (selection_at q) ∙ alike_rank (selection_at q) ∙ sym (takes (key_here found e true f) (selection_at q))

  pub key_missed : (found : Bool) → found ≡ has_key ks k → found ≡ false → has_rank offers i n ≡ false
  key_missed found e f = key_here found e false f

-- ---- alike selections

same_ranks : (s t : Selection) → s.«module» ≡ t.«module» → s.choice ≡ t.choice → rank s ≡ rank t
same_ranks s t home chosen =
    ap (λ (h : Option (List ℕ)). (if is_some h then 0 else 2) + (if is_named s.choice then 0 else 1)) home
    ∙ ap (λ (c : Choice). (if is_some t.«module» then 0 else 2) + (if is_named c then 0 else 1)) chosen

as_good_alike : (s t : Selection) → rank s ≡ rank t → (os : List Offer) → is_as_good s os ≡ is_as_good t os
as_good_alike s t e [] = refl
as_good_alike s t e (o ∷ os) = ap (λ (n : ℕ). n == rank o.selection) e

takes_alike : (offers : List Offer) (s t : Selection) → s.«module» ≡ t.«module» → s.choice ≡ t.choice → (i : Item) → takes_area offers s i ≡ takes_area offers t i
takes_alike offers s t home chosen i =
    ap (λ (b : Bool). b && matches s i) (as_good_alike s t (same_ranks s t home chosen) (best offers i))
    ∙ ap (λ (h : Option (List ℕ)). is_as_good t (best offers i) && (is_of h i && takes s.choice i)) home
    ∙ ap (λ (c : Choice). is_as_good t (best offers i) && (is_of t.«module» i && takes c i)) chosen

pub taken_alike : (offers : List Offer) (items : List Item) (k : Key) (s : Selection) → home_in k.home ≡ s.«module» → choice_in k.sought ≡ s.choice
    → has_taken offers items (selection_at k) ≡ has_taken offers items s
taken_alike offers items k s home chosen =
    ap (λ (p : Item → Bool). list_any p items) (λ j i. takes_alike offers (selection_at k) s home chosen i j)

-- ---- loops

next_of : {X : Type 0} (xs : List X) (n : ℕ) (x : X) → n < length xs → x ≡ get_or xs n x → drop n xs ≡ x ∷ drop (n + 1) xs
next_of {X} xs n x lt same = at_drop_more (λ (ys : List X). ys) xs n x lt ∙ ap (λ (y : X). y ∷ drop (n + 1) xs) (sym same)

pub list_on : {X : Type 0} (p : X → Bool) (xs : List X) (n : ℕ) (x : X) (h g all : Bool) → n < length xs → x ≡ get_or xs n x → g ≡ (p x || h)
    → (list_any p (drop n xs) || h) ≡ all → (list_any p (drop (n + 1) xs) || g) ≡ all
list_on {X} p xs n x h g all lt same more before =
    one_more p x (drop (n + 1) xs) h g more ∙ ap (λ (ys : List X). list_any p ys || h) (sym (next_of xs n x lt same)) ∙ before

pub lists_on : {X Y : Type 0} (f : X → List Y) (p : Y → Bool) (xs : List X) (n : ℕ) (x : X) (h g all : Bool) → n < length xs → x ≡ get_or xs n x
    → g ≡ (list_any p (f x) || h) → (list_any p (flat_map f (drop n xs)) || h) ≡ all → (list_any p (flat_map f (drop (n + 1) xs)) || g) ≡ all
lists_on {X} f p xs n x h g all lt same more before =
    some_more p (f x) (flat_map f (drop (n + 1) xs)) h g more ∙ ap (λ (ys : List X). list_any p (flat_map f ys) || h) (sym (next_of xs n x lt same)) ∙ before

pub texts_on : {X : Type 0} (f : X → List ℕ) (xs : List X) (n : ℕ) (x : X) (o p all : List ℕ) → n < length xs → x ≡ get_or xs n x → p ≡ o ++ f x
    → o ++ flat_map f (drop n xs) ≡ all → p ++ flat_map f (drop (n + 1) xs) ≡ all
texts_on {X} f xs n x o p all lt same more before =
    ap (λ (l : List ℕ). l ++ flat_map f (drop (n + 1) xs)) more ∙ append_assoc o (f x) (flat_map f (drop (n + 1) xs))
    ∙ ap (λ (ys : List X). o ++ flat_map f ys) (sym (next_of xs n x lt same)) ∙ before

pub texts_end : {X : Type 0} (f : X → List ℕ) (xs : List X) (n : ℕ) (o all : List ℕ) → length xs ≤ n → o ++ flat_map f (drop n xs) ≡ all → o ≡ all
texts_end {X} f xs n o all le before = sym (append-nil o) ∙ sym (at_drop_all (λ (ys : List X). o ++ flat_map f ys) xs n le) ∙ before

pub or_false : (b : Bool) → (b || false) ≡ b
or_false true = refl
or_false false = refl

flat_append : {X Y : Type 0} (f : X → List Y) (xs ys : List X) → flat_map f (xs ++ ys) ≡ flat_map f xs ++ flat_map f ys
flat_append f [] ys = refl
flat_append f (x ∷ xs) ys = ap (λ l. f x ++ l) (flat_append f xs ys) ∙ sym (append_assoc (f x) (flat_map f xs) (flat_map f ys))

pub selections_of_loads : (ls : List ScatterLoad) → flat_map (λ d. flat_map (λ r. r.selections) d.regions) ls ≡ flat_map (λ r. r.selections) (flat_map (λ d. d.regions) ls)
selections_of_loads [] = refl
selections_of_loads (d ∷ ls) =
    ap (λ (l : List Selection). flat_map (λ r. r.selections) d.regions ++ l) (selections_of_loads ls)
    ∙ sym (flat_append (λ (r : ScatterRegion). r.selections) d.regions (flat_map (λ d. d.regions) ls))

pub areas_on : (offers : List Offer) (s : Selection) (object : ℕ) (home : List ℕ) (areas : List Area) (n : ℕ) (a : Area) (h g all : Bool) → n < length areas
    → a ≡ get_or areas n a → g ≡ (takes_area offers s (item_of object home n a) || h) → (has_taken offers (items_of object home n (drop n areas)) s || h) ≡ all
    → (has_taken offers (items_of object home (n + 1) (drop (n + 1) areas)) s || g) ≡ all
areas_on offers s object home areas n a h g all lt same more before =
    let next : n + 1 ≡ suc n = omega arith in
    ap (λ (k : ℕ). has_taken offers (items_of object home k (drop (n + 1) areas)) s || g) next
    ∙ one_more (takes_area offers s) (item_of object home n a) (items_of object home (suc n) (drop (n + 1) areas)) h g more
    ∙ ap (λ (ys : List Area). has_taken offers (items_of object home n ys) s || h) (sym (next_of areas n a lt same)) ∙ before

pub objects_on : (offers : List Offer) (s : Selection) (os : List (Named Object)) (n : ℕ) (o : Named Object) (h g all : Bool) → n < length os
    → o ≡ get_or os n o → g ≡ (has_taken offers (items_of n o.«module» 0 o.value.areas) s || h) → (has_taken offers (items_from n (drop n os)) s || h) ≡ all
    → (has_taken offers (items_from (n + 1) (drop (n + 1) os)) s || g) ≡ all
objects_on offers s os n o h g all lt same more before =
    let next : n + 1 ≡ suc n = omega arith in
    ap (λ (k : ℕ). has_taken offers (items_from k (drop (n + 1) os)) s || g) next
    ∙ some_more (takes_area offers s) (items_of n o.«module» 0 o.value.areas) (items_from (suc n) (drop (n + 1) os)) h g more
    ∙ ap (λ (ys : List (Named Object)). has_taken offers (items_from n ys) s || h) (sym (next_of os n o lt same)) ∙ before
