-- Of load ranges that share no address only the one that begins last before the end of another can meet it.
use Rattle.std.proofs.Common.{◌≡◌, ◌∙◌, Less, ℕ, ◌+◌, ◌<◌, ◌≤◌, List, [], ◌∷◌, ◌++◌, Bool, true, false, cond, ◌&&◌, ◌||◌, ◌==◌, nat_lt, Option, Some, None, inl, inr, refl, ap, sym, subst, arith}
use Rattle.std.specs.Prelude.{IsSome, ◌⊎◌}
use Rattle.std.specs.List.{list_any}
use Rattle.std.specs.Ordering.{nat_cmp, is_lt}
use Rattle.std.proofs.lemmas.Bool.{and_parts, false_from_ne_true, lt-ltb, ltb-true, ltb-false, eq-eqb, eqb-true}
use Rattle.std.proofs.lemmas.Bool.Decides.{nat_tests}
use Rattle.std.proofs.lemmas.List.Folds.{list_any-append}
use Rattle.base_lemmas.proofs.BaseLemmas.{both, or_either, or_true, same, true_or}
use Rattle.bin_image.specs.declared.records.MapLoad.{MapLoad}
use Rattle.bin_image.specs.Ranges.{meets, reaches, IsIndexed, IsLastBefore, with_end}

pub is_less : (a b : ℕ) → nat_cmp a b ≡ Less → a < b
is_less a b h = grind (arith, nat_tests)

pub as_less : (a b : ℕ) → a < b → nat_cmp a b ≡ Less
as_less a b h = grind (arith, nat_tests)

pub not_less : (a b : ℕ) → is_lt (nat_cmp a b) ≡ false → b ≤ a
not_less a b h = grind (arith, nat_tests)

-- one of a list that passes a test, by which the list passes each test that it passes
record Passes {X : Type 0} (p : X → Bool) (xs : List X) : Type 0 where
  pub one : X
  pub passes : p one ≡ true
  pub more : (q : X → Bool) → q one ≡ true → list_any q xs ≡ true

past_or : (a b : Bool) → a ≡ false → (a || b) ≡ true → b ≡ true
past_or false b e h = h
past_or true b e h = absurd (cc)

one_at : {X : Type 0} (p : X → Bool) (x : X) (xs : List X) (b : Bool) → p x ≡ b → (list_any p xs ≡ true → Passes p xs) → (p x || list_any p xs) ≡ true → Passes p (x ∷ xs)
one_at p x xs true e behind h = record { one = x; passes = e; more = λ q k. true_or (q x) (list_any q xs) k }
one_at p x xs false e behind h =
    let r = behind (past_or (p x) (list_any p xs) e h) in
    record { one = r.one; passes = r.passes; more = λ q k. or_true (q x) (list_any q xs) (r.more q k) }

one_of : {X : Type 0} (p : X → Bool) (xs : List X) → list_any p xs ≡ true → Passes p xs
one_of p [] h = absurd (cc)
one_of p (x ∷ xs) h = one_at p x xs (p x) refl (one_of p xs) h

record Meet (k l : MapLoad) : Type 0 where
  pub first : 0 < k.size
  pub second : 0 < l.size
  pub before : k.base < l.base + l.size
  pub behind : l.base < k.base + k.size

met : (k l : MapLoad) → meets k l ≡ true → Meet k l
met k l h =
    let a = and_parts (nat_lt 0 k.size && nat_lt 0 l.size && nat_lt k.base (l.base + l.size)) (nat_lt l.base (k.base + k.size)) h in
    let b = and_parts (nat_lt 0 k.size && nat_lt 0 l.size) (nat_lt k.base (l.base + l.size)) a.0 in
    let c = and_parts (nat_lt 0 k.size) (nat_lt 0 l.size) b.0 in
    record { first = ltb-true _ _ c.0; second = ltb-true _ _ c.1; before = ltb-true _ _ b.1; behind = ltb-true _ _ a.1 }

meet : (k l : MapLoad) → Meet k l → meets k l ≡ true
meet k l m =
    rw (lt-ltb 0 k.size m.first, lt-ltb 0 l.size m.second, lt-ltb k.base (l.base + l.size) m.before, lt-ltb l.base (k.base + k.size) m.behind) refl

record Reaches (a e : ℕ) (l : MapLoad) : Type 0 where
  pub some : 0 < l.size
  pub base : l.base ≡ a
  pub end : l.base + l.size ≡ e

reached : (a e : ℕ) (l : MapLoad) → reaches a e l ≡ true → Reaches a e l
reached a e l h =
    let p = and_parts (nat_lt 0 l.size && l.base == a) (l.base + l.size == e) h in
    let q = and_parts (nat_lt 0 l.size) (l.base == a) p.0 in
    record { some = ltb-true _ _ q.0; base = eqb-true _ _ q.1; end = eqb-true _ _ p.1 }

reach : (a e : ℕ) (l : MapLoad) → Reaches a e l → reaches a e l ≡ true
reach a e l r = rw (lt-ltb 0 l.size r.some, eq-eqb l.base a r.base, eq-eqb (l.base + l.size) e r.end) refl

-- a range without bytes meets none
pub none_meets_empty : (ls : List MapLoad) (l : MapLoad) → l.size ≡ 0 → false ≡ list_any (λ k. meets k l) ls
none_meets_empty ls l h = sym (false_from_ne_true (list_any (λ k. meets k l) ls) (λ t.
    let p = one_of (λ k. meets k l) ls t in
    let m = met p.one l p.passes in
    let bad : 0 < 0 = subst (λ n. 0 < n) h m.second in
    omega (arith, bad)))

-- where none begins before its end
pub none_meets_first : (end_of : ℕ → Option ℕ) (ls : List MapLoad) (l : MapLoad) → IsIndexed end_of ls → IsLastBefore end_of (l.base + l.size) None → false ≡ list_any (λ k. meets k l) ls
none_meets_first end_of ls l i last = sym (false_from_ne_true (list_any (λ k. meets k l) ls) (λ t.
    let p = one_of (λ k. meets k l) ls t in
    let m = met p.one l p.passes in
    let k = i.each p.one.base (p.one.base + p.one.size) (p.more _ (reach _ _ p.one (record { some = m.first; base = refl; end = refl }))) in
    let missing = last p.one.base m.before in
    absurd (cc)))

-- where one begins last before its end, that one decides
pub last_meets : (end_of : ℕ → Option ℕ) (ls : List MapLoad) (l : MapLoad) (e : ℕ) → IsIndexed end_of ls → 0 < l.size → IsLastBefore end_of (l.base + l.size) (Some e) → nat_lt l.base e ≡ list_any (λ k. meets k l) ls
last_meets end_of ls l e i some last = both (nat_lt l.base e) (list_any (λ k. meets k l) ls) found only where
  b : ℕ
  b = last.0

  found : nat_lt l.base e ≡ true → list_any (λ k. meets k l) ls ≡ true
  found t =
      let below = ltb-true l.base e t in
      let p = one_of (reaches b e) ls (i.only b e last.2) in
      let r = reached b e p.one p.passes in
      let base = r.base in let end = r.end in let last_base = last.1 in
      p.more (λ k. meets k l) (meet p.one l (record { first = r.some; second = some; before = omega (arith, base, last_base); behind = omega (arith, end, below) }))

  by_order : (k : MapLoad) → Meet k l → end_of k.base ≡ Some (k.base + k.size) → k.base ≤ b → (c : Bool) → nat_lt k.base b ≡ c → l.base < e
  by_order k m known most true t =
      let apart = i.apart k.base (k.base + k.size) b e known last.2 (ltb-true _ _ t) in
      let p = one_of (reaches b e) ls (i.only b e last.2) in
      let r = reached b e p.one p.passes in
      let base = r.base in let end = r.end in let has = r.some in let behind = m.behind in
      omega (arith, apart, base, end, has, behind)
  by_order k m known most false t =
      let least = ltb-false _ _ t in
      let at : k.base ≡ b = omega (arith, least, most) in
      let ends : Some (k.base + k.size) ≡ Some e = sym known ∙ ap end_of at ∙ last.2 in
      subst (λ n. l.base < n) (same (k.base + k.size) e ends) m.behind

  only : list_any (λ k. meets k l) ls ≡ true → nat_lt l.base e ≡ true
  only t =
      let p = one_of (λ k. meets k l) ls t in
      let m = met p.one l p.passes in
      let known = i.each p.one.base (p.one.base + p.one.size) (p.more _ (reach _ _ p.one (record { some = m.first; base = refl; end = refl }))) in
      let most = last.3 p.one.base m.before (subst (λ o. IsSome o) (sym known) refl) in
      lt-ltb l.base e (by_order p.one m known most (nat_lt p.one.base b) refl)

-- ---- one more line

record New (l : MapLoad) (q v : ℕ) : Type 0 where
  pub some : 0 < l.size
  pub base : q ≡ l.base
  pub end : v ≡ l.base + l.size

abbrev new_test : (l : MapLoad) (q : ℕ) → Bool
new_test l q = nat_lt 0 l.size && q == l.base

cond_true : (c : Bool) (x y : Option ℕ) → c ≡ true → cond c x y ≡ x
cond_true true x y e = refl
cond_true false x y e = absurd (cc)

cond_false : (c : Bool) (x y : Option ℕ) → c ≡ false → cond c x y ≡ y
cond_false false x y e = refl
cond_false true x y e = absurd (cc)

came : (end_of : ℕ → Option ℕ) (l : MapLoad) (q v : ℕ) → with_end end_of l q ≡ Some v → (end_of q ≡ Some v) ⊎ New l q v
came end_of l q v h = by_test (new_test l q) refl where
  by_test : (c : Bool) → new_test l q ≡ c → (end_of q ≡ Some v) ⊎ New l q v
  by_test true e =
      let t = and_parts (nat_lt 0 l.size) (q == l.base) e in
      let told = sym (cond_true (new_test l q) (Some (l.base + l.size)) (end_of q) e) ∙ h in
      inr (record { some = ltb-true _ _ t.0; base = eqb-true _ _ t.1; end = sym (same (l.base + l.size) v told) })
  by_test false e = inl (sym (cond_false (new_test l q) (Some (l.base + l.size)) (end_of q) e) ∙ h)

-- what is indexed is apart from a line that meets none
clear_of : (end_of : ℕ → Option ℕ) (ls : List MapLoad) (l : MapLoad) (q v : ℕ) → IsIndexed end_of ls → list_any (λ k. meets k l) ls ≡ false → end_of q ≡ Some v → 0 < l.size → q < l.base + l.size → l.base < v → ⊥
clear_of end_of ls l q v i none known some before behind =
    let p = one_of (reaches q v) ls (i.only q v known) in
    let r = reached q v p.one p.passes in
    let base = r.base in let end = r.end in
    let m = p.more (λ k. meets k l) (meet p.one l (record { first = r.some; second = some; before = omega (arith, base, before); behind = omega (arith, end, behind) })) in
    absurd (cc)

pub with_more : (end_of more : ℕ → Option ℕ) (ls : List MapLoad) (l : MapLoad) → IsIndexed end_of ls → list_any (λ k. meets k l) ls ≡ false → ((q : ℕ) → more q ≡ with_end end_of l q) → IsIndexed more (ls ++ l ∷ [])
with_more end_of more ls l i none is = record { each = each; only = only; apart = apart } where
  old : (a e : ℕ) → list_any (reaches a e) ls ≡ true → (c : Bool) → new_test l a ≡ c → with_end end_of l a ≡ Some e
  old a e h false t = cond_false (new_test l a) (Some (l.base + l.size)) (end_of a) t ∙ i.each a e h
  old a e h true t =
      let at = and_parts (nat_lt 0 l.size) (a == l.base) t in
      let some = ltb-true _ _ at.0 in let base = eqb-true _ _ at.1 in
      let p = one_of (reaches a e) ls h in
      let r = reached a e p.one p.passes in
      let first = r.base in let end = r.end in let has = r.some in
      absurd (clear_of end_of ls l a e i none (i.each a e h) some (omega (arith, base, some)) (omega (arith, base, first, end, has)))

  each : (a e : ℕ) → list_any (reaches a e) (ls ++ l ∷ []) ≡ true → more a ≡ Some e
  each a e h =
      is a ∙ by_either (or_either (list_any (reaches a e) ls) (list_any (reaches a e) (l ∷ [])) (sym (list_any-append (reaches a e) ls (l ∷ [])) ∙ h)) where
        by_either : (list_any (reaches a e) ls ≡ true) ⊎ (list_any (reaches a e) (l ∷ []) ≡ true) → with_end end_of l a ≡ Some e
        by_either (inl k) = old a e k (new_test l a) refl
        by_either (inr k) =
            let p = one_of (reaches a e) (l ∷ []) k in
            let r = alone (or_either (reaches a e l) false k) in
            let test : new_test l a ≡ true = rw (lt-ltb 0 l.size r.some, eq-eqb a l.base (sym r.base)) refl in
            cond_true (new_test l a) (Some (l.base + l.size)) (end_of a) test ∙ ap (λ n. Some n) r.end where
              alone : (reaches a e l ≡ true) ⊎ (false ≡ true) → Reaches a e l
              alone (inl t) = reached a e l t
              alone (inr t) = absurd (cc)

  only : (a e : ℕ) → more a ≡ Some e → list_any (reaches a e) (ls ++ l ∷ []) ≡ true
  only a e h = list_any-append (reaches a e) ls (l ∷ []) ∙ by_came (came end_of l a e (sym (is a) ∙ h)) where
    by_came : (end_of a ≡ Some e) ⊎ New l a e → (list_any (reaches a e) ls || list_any (reaches a e) (l ∷ [])) ≡ true
    by_came (inl k) = true_or (list_any (reaches a e) ls) (list_any (reaches a e) (l ∷ [])) (i.only a e k)
    by_came (inr n) =
        or_true (list_any (reaches a e) ls) (list_any (reaches a e) (l ∷ []))
        (true_or (reaches a e l) false (reach a e l (record { some = n.some; base = sym n.base; end = sym n.end })))

  apart : (a e b f : ℕ) → more a ≡ Some e → more b ≡ Some f → a < b → e ≤ b
  apart a e b f h k less = by_both (came end_of l a e (sym (is a) ∙ h)) (came end_of l b f (sym (is b) ∙ k)) where
    unless : (nat_lt b e ≡ true → ⊥) → e ≤ b
    unless never = ltb-false b e (false_from_ne_true (nat_lt b e) never)

    by_both : (end_of a ≡ Some e) ⊎ New l a e → (end_of b ≡ Some f) ⊎ New l b f → e ≤ b
    by_both (inl x) (inl y) = i.apart a e b f x y less
    by_both (inr m) (inr n) = let p = m.base in let q = n.base in omega (arith, p, q, less)
    by_both (inr m) (inl y) =
        let p = m.base in let end = m.end in
        let one = one_of (reaches b f) ls (i.only b f y) in
        let r = reached b f one.one one.passes in
        let base = r.base in let last = r.end in let has = r.some in
        unless (λ t. let before = ltb-true b e t in
        clear_of end_of ls l b f i none y m.some (omega (arith, before, end)) (omega (arith, p, less, base, last, has)))
    by_both (inl x) (inr n) =
        let q = n.base in let some = n.some in
        unless (λ t. let behind = ltb-true b e t in
        clear_of end_of ls l a e i none x n.some (omega (arith, q, less, some)) (omega (arith, q, behind)))
