-- What is told of a plan is told of the first region that has it, with the least address.
use Rattle.std.proofs.Common.{◌≡◌, ℕ, zero, suc, ◌+◌, ◌-◌, ◌^◌, ◌<◌, ◌≤◌, ◌⊎◌, inl, inr, min, Bool, true, false, not, ◌&&◌, nat_lt, if◌then◌else◌, cond, List, [], ◌∷◌, length, map, refl, sym, ap, subst, ◌∙◌, arith, Option, Some, None}
use Rattle.std.specs.Prelude.{slice_get, unwrap_or, ◌↔◌}
use Rattle.std.specs.List.{filter, filter_map, cons_option, flat_map, list_any, AllByRecursion}
use Rattle.std.specs.Option.{option_or}
use Rattle.std.proofs.lemmas.Bool.{cases_lt}
use Rattle.base_lemmas.proofs.BaseLemmas.{all_weaker, both_true, get_back, get_before, neither, or_true, true_or, same}
use Rattle.sdt_word.specs.declared.ranges.Range32.{Range32}
use Rattle.sdt_fault.specs.declared.refusal.Refusal.{Refusal}
use Rattle.sdt_fault.specs.declared.refusal.Refusal.TheVariants.{Overfull}
use Rattle.boot_code.specs.Boots.{covers}
use Rattle.boot_code.proofs.ViewLemmas.{covers-true, covers-false, covers-inside}
use Rattle.place_model.specs.Plans.{regions_of}
use Rattle.place_model.specs.Faults.{first_told, Judged, above, above_maximum, overfull, judged, Span, in_range, lacking, least, unwritable}
use Rattle.place_model.specs.Laws.{IsFirstTold, OfFirst, HasRoom, in_some, in_ram, OfLacking, ToldLaw}
use Rattle.place_model.proofs.ListLemmas.{all_at, all_flat, all_indexed, any_found}
use Rattle.place_model.proofs.SpanLemmas.{not_overfull, in_memory, lt-false, lt-true}

-- ---- the first

none_behind : {X : Type 0} (wrong : X → Option Refusal) (x : X) (xs : List X) → wrong x ≡ None → ((k : ℕ) (y : X) → slice_get xs k ≡ Some y → wrong y ≡ None)
    → (k : ℕ) (y : X) → slice_get (x ∷ xs) k ≡ Some y → wrong y ≡ None
none_behind wrong x xs e f zero y at = let is : x ≡ y = same x y at in sym (ap wrong is) ∙ e
none_behind wrong x xs e f (suc k) y at = f k y at

first_behind : {X : Type 0} (wrong : X → Option Refusal) (x : X) (xs : List X) (r : Refusal) → wrong x ≡ None → (f : IsFirstTold wrong xs r)
    → (k : ℕ) (y : X) → slice_get (x ∷ xs) k ≡ Some y → k < suc f.place → wrong y ≡ None
first_behind wrong x xs r e f zero y at lt = let is : x ≡ y = same x y at in sym (ap wrong is) ∙ e
first_behind wrong x xs r e f (suc k) y at lt = f.none_before k y at (omega arith)

skipped : {X : Type 0} (wrong : X → Option Refusal) (x : X) (xs : List X) (o : Option Refusal) → wrong x ≡ None → OfFirst wrong xs o → OfFirst wrong (x ∷ xs) o
skipped wrong x xs None e f = none_behind wrong x xs e f
skipped wrong x xs (Some r) e f = record { place = suc f.place; x = f.x; at = f.at; told = f.told; none_before = first_behind wrong x xs r e f }

first_law : {X : Type 0} (wrong : X → Option Refusal) (xs : List X) → OfFirst wrong xs (first_told wrong xs)
first_law wrong [] = λ k y at. absurd cc
first_law {X} wrong (x ∷ xs) = go (wrong x) refl (first_law wrong xs)
  where
    go : (o : Option Refusal) → wrong x ≡ o → OfFirst wrong xs (first_told wrong xs) → OfFirst wrong (x ∷ xs) (slice_get (cons_option o (filter_map wrong xs)) 0)
    go None e rest = skipped wrong x xs (first_told wrong xs) e rest
    go (Some r) e rest = record { place = 0; x = x; at = refl; told = e; none_before = λ k y at lt. absurd (omega arith) }

-- ---- room

declared : (j : Judged) (m : Option ℕ) → above_maximum j m ≡ None → (most : ℕ) → m ≡ Some most → j.size ≤ most
declared j None h most e = absurd cc
declared j (Some limit) h most e = go (nat_lt limit j.size) refl h
  where
    go : (b : Bool) → nat_lt limit j.size ≡ b → (if b then Some (Overfull j.name j.size limit) else None) ≡ None → j.size ≤ most
    go true f n = absurd cc
    go false f n = let le = lt-false limit j.size f in let is : limit ≡ most = same limit most e in omega arith

not_above : (j : Judged) (most : ℕ) → j.size ≤ most → above j most ≡ None
not_above j most h = go (nat_lt most j.size) refl
  where
    go : (b : Bool) → nat_lt most j.size ≡ b → (if b then Some (Overfull j.name j.size most) else None) ≡ None
    go true e = let lt = lt-true most j.size e in absurd (omega arith)
    go false e = refl

fits : (j : Judged) → HasRoom j → overfull j ≡ None
fits j h = of (nat_lt (2 ^ 32) j.base) refl
  where
    go : (m : Option ℕ) → j.maximum ≡ m → above j (2 ^ 32 - j.base) ≡ None → option_or (above_maximum j m) (above j (2 ^ 32 - j.base)) ≡ None
    go None e memory = memory
    go (Some most) e memory = rw (not_above j most (h.declared most e)) memory

    of : (b : Bool) → nat_lt (2 ^ 32) j.base ≡ b → (if b then Some (Overfull j.name j.size 0) else option_or (above_maximum j j.maximum) (above j (2 ^ 32 - j.base))) ≡ None
    of true e = let lt = lt-true (2 ^ 32) j.base e in let room = h.memory in absurd (omega arith)
    of false e = let room = h.memory in go j.maximum refl (not_above j (2 ^ 32 - j.base) (omega arith))

room_law : (j : Judged) → (overfull j ≡ None) ↔ HasRoom j
room_law j = (λ h. record { declared = declared j j.maximum (not_overfull j h).0; memory = in_memory j h }, fits j)

-- ---- the least of a list

abbrev OfLeast : List ℕ → Option ℕ → Type 0
OfLeast xs None = xs ≡ []
OfLeast xs (Some a) = ((k : ℕ) × (slice_get xs k ≡ Some a)) × AllByRecursion (λ x. a ≤ x) xs

of_least : (xs : List ℕ) → OfLeast xs (least xs)
of_least [] = refl
of_least (x ∷ xs) = go (least xs) (of_least xs)
  where
    smaller : (b : ℕ) → (k : ℕ) → slice_get xs k ≡ Some b → AllByRecursion (λ y. b ≤ y) xs → (x < b) ⊎ (b ≤ x) → OfLeast (x ∷ xs) (Some (min x b))
    smaller b k at all (inl lt) = ((0, ap Some (omega arith)), (omega arith, all_weaker (λ y. b ≤ y) (λ y. min x b ≤ y) (λ y h. omega arith) xs all))
    smaller b k at all (inr le) = ((suc k, at ∙ ap Some (omega arith)), (omega arith, all_weaker (λ y. b ≤ y) (λ y. min x b ≤ y) (λ y h. omega arith) xs all))

    go : (o : Option ℕ) → OfLeast xs o → OfLeast (x ∷ xs) (Some (min x (unwrap_or o x)))
    go None e = ((0, ap Some (omega arith)), (omega arith, subst (AllByRecursion (λ y. min x x ≤ y)) (sym e) tt))
    go (Some b) h = smaller b h.0.0 h.0.1 h.1 (cases_lt x b)

-- ---- members of lists

in_filter : {X : Type 0} (test : X → Bool) (xs : List X) (k : ℕ) (y : X) → slice_get xs k ≡ Some y → test y ≡ true → (m : ℕ) × (slice_get (filter test xs) m ≡ Some y)
in_filter test [] k y at h = absurd cc
in_filter {X} test (x ∷ xs) zero y at h = let is : x ≡ y = same x y at in (0, rw (ap test is ∙ h) at)
in_filter {X} test (x ∷ xs) (suc k) y at h = go (test x) (in_filter test xs k y at h)
  where
    go : (b : Bool) → (m : ℕ) × (slice_get (filter test xs) m ≡ Some y) → (m : ℕ) × (slice_get (cond b (x ∷ filter test xs) (filter test xs)) m ≡ Some y)
    go true found = (suc found.0, found.1)
    go false found = found

in_flat : {X Y : Type 0} (f : X → List Y) (xs : List X) (i : ℕ) (x : X) (m : ℕ) (y : Y) → slice_get xs i ≡ Some x → slice_get (f x) m ≡ Some y → m < length (f x) → (n : ℕ) × (slice_get (flat_map f xs) n ≡ Some y)
in_flat f [] i x m y at h lt = absurd cc
in_flat f (z ∷ xs) zero x m y at h lt = let is : x ≡ z = sym (same z x at) in (m, get_before (f z) (flat_map f xs) m (subst (λ (w : _). m < length (f w)) is lt) ∙ subst (λ (w : _). slice_get (f w) m ≡ Some y) is h)
in_flat f (z ∷ xs) (suc i) x m y at h lt = let found = in_flat f xs i x m y at h lt in (length (f z) + found.0, get_back (f z) (flat_map f xs) found.0 ∙ found.1)

in_length : {X : Type 0} (xs : List X) (m : ℕ) (y : X) → slice_get xs m ≡ Some y → m < length xs
in_length [] m y h = absurd cc
in_length (x ∷ xs) zero y h = omega arith
in_length (x ∷ xs) (suc m) y h = let rest = in_length xs m y h in omega arith

get_map : {X Y : Type 0} (f : X → Y) (xs : List X) (i : ℕ) (x : X) → slice_get xs i ≡ Some x → slice_get (map f xs) i ≡ Some (f x)
get_map f [] i x h = absurd cc
get_map f (y ∷ xs) zero x h = ap (λ (z : _). Some (f z)) (same y x h)
get_map f (y ∷ xs) (suc i) x h = get_map f xs i x h

none_of : {X : Type 0} (test : X → Bool) (xs : List X) (i : ℕ) (x : X) → list_any test xs ≡ false → slice_get xs i ≡ Some x → test x ≡ false
none_of test [] i x h at = absurd cc
none_of test (y ∷ xs) zero x h at = let is : y ≡ x = same y x at in sym (ap test is) ∙ (neither (test y) (list_any test xs) h).0
none_of test (y ∷ xs) (suc i) x h at = none_of test xs i x (neither (test y) (list_any test xs) h).1 at

any_of : {X : Type 0} (test : X → Bool) (xs : List X) (i : ℕ) (x : X) → slice_get xs i ≡ Some x → test x ≡ true → list_any test xs ≡ true
any_of test [] i x at h = absurd cc
any_of test (y ∷ xs) zero x at h = let is : y ≡ x = same y x at in true_or (test y) (list_any test xs) (ap test is ∙ h)
any_of test (y ∷ xs) (suc i) x at h = or_true (test y) (list_any test xs) (any_of test xs i x at h)

all_pass : {X : Type 0} (test : X → Bool) (xs : List X) → AllByRecursion (λ x. test x ≡ true) (filter test xs)
all_pass test [] = tt
all_pass {X} test (x ∷ xs) = go (test x) refl (all_pass test xs)
  where
    go : (b : Bool) → test x ≡ b → AllByRecursion (λ y. test y ≡ true) (filter test xs) → AllByRecursion (λ y. test y ≡ true) (cond b (x ∷ filter test xs) (filter test xs))
    go true e rest = (e, rest)
    go false e rest = rest

-- ---- the least address outside RAM

module _ (ram : List Range32) where
  abbrev is_lacking : Span → ℕ → Bool
  is_lacking s x = covers s.base s.size x && not (in_ram ram x)

  lacks : (s : Span) (x : ℕ) → covers s.base s.size x ≡ true → in_ram ram x ≡ false → is_lacking s x ≡ true
  lacks s x inside out = rw (inside, out) refl

  -- below each address outside RAM, or there, one is listed
  listed_below : (s : Span) (d x : ℕ) → x ≡ s.base + d → covers s.base s.size x ≡ true → in_ram ram x ≡ false → (y : ℕ) × (m : ℕ) × (slice_get (lacking ram s) m ≡ Some y) × (y ≤ x)
  listed_below s zero x e inside out =
      let is : s.base ≡ x = omega arith in
      let (m, at) = in_filter (is_lacking s) (s.base ∷ map (λ r. r.base + r.size) ram) 0 x (ap Some is) (lacks s x inside out) in (x, m, at, omega arith)
  listed_below s (suc d) x e inside out =
      let range = covers-true s.base s.size x inside in
      let before : covers s.base s.size (s.base + d) ≡ true = covers-inside s.base s.size (s.base + d) (omega arith) (omega (arith, range.1)) in
      go (in_ram ram (s.base + d)) refl (listed_below s d (s.base + d) refl before)
    where
      go : (b : Bool) → in_ram ram (s.base + d) ≡ b → (in_ram ram (s.base + d) ≡ false → (y : ℕ) × (m : ℕ) × (slice_get (lacking ram s) m ≡ Some y) × (y ≤ s.base + d))
          → (y : ℕ) × (m : ℕ) × (slice_get (lacking ram s) m ≡ Some y) × (y ≤ x)
      go false f rest = let (y, m, at, le) = rest f in (y, m, at, omega arith)
      go true f rest =
          let (i, r, at, has) = any_found (in_range (s.base + d)) ram f in
          let range = covers-true r.base r.size (s.base + d) has in
          let side = covers-false r.base r.size x (none_of (in_range x) ram i r out at) in
          let is : r.base + r.size ≡ x = ends r.base r.size range.0 range.1 side in
          let (m, there) = in_filter (is_lacking s) (s.base ∷ map (λ q. q.base + q.size) ram) (suc i) x (get_map (λ q. q.base + q.size) ram i r at ∙ ap Some is) (lacks s x inside out) in
          (x, m, there, omega arith)
        where
          ends : (b n : ℕ) → b ≤ s.base + d → s.base + d < b + n → (x < b) ⊎ (b + n ≤ x) → b + n ≡ x
          ends b n low high (inl lt) = absurd (omega arith)
          ends b n low high (inr le) = omega arith

  listed_among : (spans : List Span) (x : ℕ) → in_some spans x ≡ true → in_ram ram x ≡ false → (y : ℕ) × (n : ℕ) × (slice_get (flat_map (lacking ram) spans) n ≡ Some y) × (y ≤ x)
  listed_among spans x inside out =
      let (i, s, at, has) = any_found (λ q. covers q.base q.size x) spans inside in
      let range = covers-true s.base s.size x has in
      let (y, m, there, le) = listed_below s (x - s.base) x (omega (arith, range.0)) has out in
      let (n, found) = in_flat (lacking ram) spans i s m y at there (in_length (lacking ram s) m y there) in (y, n, found, le)

  -- what is listed is an address of a range outside RAM
  listed_lacks : (spans : List Span) → AllByRecursion (λ y. (in_some spans y ≡ true) × (in_ram ram y ≡ false)) (flat_map (lacking ram) spans)
  listed_lacks spans =
      all_flat (λ y. (in_some spans y ≡ true) × (in_ram ram y ≡ false)) (lacking ram) spans
      (all_indexed (λ s. AllByRecursion (λ y. (in_some spans y ≡ true) × (in_ram ram y ≡ false)) (lacking ram s)) spans
      (λ i s at. all_weaker (λ y. is_lacking s y ≡ true) (λ y. (in_some spans y ≡ true) × (in_ram ram y ≡ false))
      (λ y h. let (inside, out) = both_true (covers s.base s.size y) (not (in_ram ram y)) h in (any_of (λ q. covers q.base q.size y) spans i s at inside, was_true (in_ram ram y) out))
      (lacking ram s) (all_pass (is_lacking s) (s.base ∷ map (λ r. r.base + r.size) ram))))
    where
      was_true : (b : Bool) → not b ≡ true → b ≡ false
      was_true true h = absurd cc
      was_true false h = refl

  lacking_law : (spans : List Span) → OfLacking ram spans (least (flat_map (lacking ram) spans))
  lacking_law spans = go (least (flat_map (lacking ram) spans)) (of_least (flat_map (lacking ram) spans))
    where
      all_in_ram : flat_map (lacking ram) spans ≡ [] → (x : ℕ) → in_some spans x ≡ true → (b : Bool) → in_ram ram x ≡ b → b ≡ true
      all_in_ram e x inside true h = refl
      all_in_ram e x inside false h =
          let (y, n, at, le) = listed_among spans x inside h in
          absurd (let bad : slice_get [] n ≡ Some y = ap (λ (xs : List ℕ). slice_get xs n) (sym e) ∙ at in cc)

      go : (o : Option ℕ) → OfLeast (flat_map (lacking ram) spans) o → OfLacking ram spans o
      go None e = λ x inside. all_in_ram e x inside (in_ram ram x) refl
      go (Some a) h =
          let (inside, out) = all_at (λ y. (in_some spans y ≡ true) × (in_ram ram y ≡ false)) (flat_map (lacking ram) spans) h.0.0 a (listed_lacks spans) h.0.1 in
          record {
            written = inside;
            outside = out;
            least = λ x has free. let (y, n, at, le) = listed_among spans x has free in let low = all_at (λ z. a ≤ z) (flat_map (lacking ram) spans) n y h.1 at in omega (arith, le, low);
          }

pub told_law : ToldLaw
told_law = record {
  first_overfull = λ k p. first_law overfull (judged k p);
  room = room_law;
  first_unwritable = λ ram p. first_law (unwritable ram) (regions_of p);
  least_lacking = lacking_law;
}
