-- How many pages the words of a block need: no page comes again once it was left.
use Rattle.std.proofs.Common.{◌≡◌, ◌≢◌, ℕ, suc, ◌+◌, ◌*◌, ◌/◌, ◌%◌, ◌^◌, ◌<◌, ◌≤◌, Bool, true, false, ◌||◌, ◌==◌, List, [], ◌∷◌, length, get_or, set, Option, Some, None, refl, sym, ap, ◌∙◌, arith, eqb-true}
use Rattle.std.proofs.lemmas.Bool.{eqb-false}
use Rattle.std.proofs.lemmas.List.{length-set}
use Rattle.std.proofs.Math.Seq.{get_or-set_same, get_or-set_other}
use Rattle.arm7_model.specs.Accesses.{next_word}
use Rattle.arm7_bus.specs.Paging.{used_count, page_used_in}
use Rattle.arm7_bus.specs.States.{State, bank_has}
use Rattle.arm7_transfers.specs.BlockAccesses.{words_in, is_page_of, pages_needed}
use Rattle.arm7_transfers.specs.Frames.{used_with}
use Rattle.arm7_transfers.proofs.ReadyLemmas.{set-used}
use Rattle.arm7_transfers.proofs.BlockLemmas.{next-small}
use Rattle.arm7_bus.proofs.ClaimLemmas.{count_fresh as set-fresh}

not-eqb : (x y : ℕ) → x ≢ y → (x == y) ≡ false
not-eqb x y h = go (x == y) refl
  where
    go : (b : Bool) → (x == y) ≡ b → (x == y) ≡ false
    go true e = absurd (h (eqb-true x y e))
    go false e = e

-- three words of a block don't lie in three pages of which the first and the last are one
between : (l a x d j : ℕ) → l < 2 ^ 32 → a ≡ (l + 4 * d) % 2 ^ 32 → x ≡ (l + 4 * (d + j)) % 2 ^ 32 → d + j < 16 → l / 4096 ≡ x / 4096 → l / 4096 ≡ a / 4096
between l a x d j lt ea ex few e = omega arith

-- the word follows the last one that needed a page, with n words from it on
abbrev Follows : Option ℕ → ℕ → ℕ → Type 0
Follows None a n = Unit {0}
Follows (Some l) a n = (l < 2 ^ 32) × ((d : ℕ) × (d + n ≤ 16) × (a ≡ (l + 4 * d) % 2 ^ 32))

follows-next : (last : Option ℕ) (a n : ℕ) → Follows last a (suc n) → Follows last (next_word a) n
follows-next None a n f = tt
follows-next (Some l) a n (lt, (d, few, e)) = (lt, (d + 1, omega arith, omega arith))

follows-first : (a n : ℕ) → a < 2 ^ 32 → suc n ≤ 16 → Follows (Some a) (next_word a) n
follows-first a n lt few = (lt, (1, omega arith, omega arith))

-- the pages that are used now are those at first and the page of the last word
abbrev Agrees : List Bool → List Bool → Option ℕ → List ℕ → ℕ → Type 0
Agrees first now last [] a = Unit {0}
Agrees first now last (k ∷ ks) a = (page_used_in now a ≡ (page_used_in first a || is_page_of last a)) × Agrees first now last ks (next_word a)

agrees-none : (used : List Bool) (ks : List ℕ) (a : ℕ) → Agrees used used None ks a
agrees-none used [] a = tt
agrees-none used (k ∷ ks) a = (or-none (page_used_in used a), agrees-none used ks (next_word a))
  where
    or-none : (b : Bool) → b ≡ (b || false)
    or-none true = refl
    or-none false = refl

or-true : (b : Bool) → (b || true) ≡ true
or-true true = refl
or-true false = refl

-- the last word that needed a page isn't in the page of a later word than the next one that needs one
left-behind : (last : Option ℕ) (a x j n : ℕ) → Follows last a n → x ≡ (a + 4 * j) % 2 ^ 32 → j < n → is_page_of last a ≡ false → is_page_of last x ≡ false
left-behind None a x j n f e lt h = refl
left-behind (Some l) a x j n (small, (d, few, e')) e lt h =
    not-eqb (l / 4096) (x / 4096) (λ same. eqb-false (l / 4096) (a / 4096) h
    (between l a x d j small e' (omega arith) (omega arith) same))

agrees-set : (first now : List Bool) (last : Option ℕ) (ks : List ℕ) (a x j n : ℕ) → length now ≡ 1048576 → a < 2 ^ 32 → Follows last a n
    → x ≡ (a + 4 * j) % 2 ^ 32 → j + length ks ≤ n → is_page_of last a ≡ false
    → Agrees first now last ks x → Agrees first (set now (a / 4096) true) (Some a) ks x
agrees-set first now last [] a x j n len lt f e few h g = tt
agrees-set first now last (k ∷ ks) a x j n len lt f e few h g =
    (go (a / 4096 == x / 4096) refl, agrees-set first now last ks a (next_word x) (j + 1) n len lt f (omega arith) (omega arith) h g.1)
  where
    go : (b : Bool) → (a / 4096 == x / 4096) ≡ b → page_used_in (set now (a / 4096) true) x ≡ (page_used_in first x || is_page_of (Some a) x)
    go true q =
        let p : a / 4096 ≡ x / 4096 = eqb-true (a / 4096) (x / 4096) q in
        let within : a / 4096 < length now = omega arith in
        ap (λ (i : ℕ). get_or (set now (a / 4096) true) i false) (sym p) ∙ get_or-set_same now (a / 4096) true false within
        ∙ sym (ap (λ (b : Bool). page_used_in first x || b) q ∙ or-true (page_used_in first x))
    go false q =
        let p : x / 4096 ≢ a / 4096 = λ e. eqb-false (a / 4096) (x / 4096) q (sym e) in
        get_or-set_other now (a / 4096) (x / 4096) true false p ∙ g.0
        ∙ ap (λ (b : Bool). page_used_in first x || b) (left-behind last a x j n f e (omega arith) h ∙ sym q)

pub needed-counts : (s : State) (ks : List ℕ) (a : ℕ) (now : List Bool) (last : Option ℕ) → length now ≡ 1048576 → a < 2 ^ 32 → length ks ≤ 16
    → Follows last a (length ks) → Agrees s.contents.used now last ks a
    → used_count (used_with now (words_in s.contents.banks ks a)) ≡ used_count now + pages_needed s ks a last
needed-counts s [] a now last len lt few f g = omega arith
needed-counts s (k ∷ ks) a now last len lt few f g =
    go (bank_has s.contents.banks a 4) refl (page_used_in s.contents.used a) refl (is_page_of last a) refl
    (needed-counts s ks (next_word a) now last len (next-small a) (omega arith) (follows-next last a (length ks) f) g.1)
    (λ h. needed-counts s ks (next_word a) (set now (a / 4096) true) (Some a) (length-set now (a / 4096) true ∙ len) (next-small a) (omega arith)
    (follows-first a (length ks) lt few) (agrees-set s.contents.used now last ks a (next_word a) 1 (suc (length ks)) len lt f (omega arith) (omega arith) h g.1))
  where
    go : (b : Bool) → bank_has s.contents.banks a 4 ≡ b → (u : Bool) → page_used_in s.contents.used a ≡ u → (l : Bool) → is_page_of last a ≡ l
        → used_count (used_with now (words_in s.contents.banks ks (next_word a))) ≡ used_count now + pages_needed s ks (next_word a) last
        → (is_page_of last a ≡ false → used_count (used_with (set now (a / 4096) true) (words_in s.contents.banks ks (next_word a))) ≡ used_count (set now (a / 4096) true) + pages_needed s ks (next_word a) (Some a))
        → used_count (used_with now (words_in s.contents.banks (k ∷ ks) a)) ≡ used_count now + pages_needed s (k ∷ ks) a last
    go false e u p l q same more = rw e same
    go true e true p l q same more =
        let used : page_used_in now a ≡ true = g.0 ∙ rw p refl in
        rw (e, p) (ap (λ (us : List Bool). used_count (used_with us (words_in s.contents.banks ks (next_word a)))) (set-used now (a / 4096) used) ∙ same)
    go true e false p true q same more =
        let used : page_used_in now a ≡ true = g.0 ∙ rw (p, q) refl in
        rw (e, p, q) (ap (λ (us : List Bool). used_count (used_with us (words_in s.contents.banks ks (next_word a)))) (set-used now (a / 4096) used) ∙ same)
    go true e false p false q same more =
        let free : page_used_in now a ≡ false = g.0 ∙ rw (p, q) refl in
        let within : a / 4096 < length now = omega arith in
        let one = set-fresh now (a / 4096) within free in
        let rest = more q in
        rw (e, p, q) (rest ∙ rw one (omega arith))

pub pages-needed : (s : State) (ks : List ℕ) (a : ℕ) → length s.contents.used ≡ 1048576 → a < 2 ^ 32 → length ks ≤ 16
    → used_count (used_with s.contents.used (words_in s.contents.banks ks a)) ≡ used_count s.contents.used + pages_needed s ks a None
pages-needed s ks a len lt few = needed-counts s ks a s.contents.used None len lt few tt (agrees-none s.contents.used ks a)
