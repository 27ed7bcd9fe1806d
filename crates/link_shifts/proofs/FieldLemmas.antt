-- Relocations of one spot are those of one field, and the balance of a spot is what its field gains and loses.
use Rattle.std.proofs.Common.{◌≡◌, ◌≢◌, ◌⊎◌, inl, inr, ℕ, zero, suc, ◌+◌, ◌-◌, ◌%◌, ◌<◌, Bool, true, false, cond, ◌==◌, if◌then◌else◌, List, [], ◌∷◌, length, drop, get_or, refl, sym, ap, ◌∙◌, arith}
use Rattle.std.specs.Prelude.{◌&&◌, ◌||◌, count_by}
use Rattle.std.specs.List.{filter}
use Rattle.std.proofs.lemmas.List.Sums.{sum_by-cons}
use Rattle.sdt_word.specs.Numbers.{flag}
use Rattle.aof_object.specs.declared.records.Reloc.{Reloc}
use Rattle.patch_model.specs.Fields.{Kind, Byte, Half, Word, Branch, field_of, is_field, is_relative, is_same_kind, directives}
use Rattle.link_values.specs.Shifts.{gains, has_bad_shifts, is_bad_branch, is_unmovable, losses}
use Rattle.link_shifts.specs.declared.balances.Balance.{Balance}
use Rattle.link_shifts.specs.declared.balances.Spot.{Spot}
use Rattle.link_shifts.specs.Balances.{AreBalances, Balances, balance_in, balance_of, code_of, is_gain, is_loss, is_same, spot_of, weighed}
use Rattle.std.proofs.lemmas.List.{drop_more}
use Rattle.base_lemmas.proofs.BaseLemmas.{both_true}
use Rattle.std.proofs.lemmas.Bool.Decides.{eqb_tells}

same_kind : (a b : Kind) → (code_of a == code_of b) ≡ is_same_kind a b
same_kind Byte Byte = refl
same_kind Byte Half = refl
same_kind Byte Word = refl
same_kind Byte (Branch false) = refl
same_kind Byte (Branch true) = refl
same_kind Half Byte = refl
same_kind Half Half = refl
same_kind Half Word = refl
same_kind Half (Branch false) = refl
same_kind Half (Branch true) = refl
same_kind Word Byte = refl
same_kind Word Half = refl
same_kind Word Word = refl
same_kind Word (Branch false) = refl
same_kind Word (Branch true) = refl
same_kind (Branch false) Byte = refl
same_kind (Branch false) Half = refl
same_kind (Branch false) Word = refl
same_kind (Branch false) (Branch false) = refl
same_kind (Branch false) (Branch true) = refl
same_kind (Branch true) Byte = refl
same_kind (Branch true) Half = refl
same_kind (Branch true) Word = refl
same_kind (Branch true) (Branch false) = refl
same_kind (Branch true) (Branch true) = refl

pub same_field : (q r : Reloc) → is_same (spot_of q) (spot_of r) ≡ is_field (field_of r) q
same_field q r = ap (λ (b : Bool). (field_of q).place == (field_of r).place && b) (same_kind (field_of q).kind (field_of r).kind)

pub step : {A : Type 0} (p : A → Bool) (x : A) (xs : List A) → count_by p (x ∷ xs) ≡ cond (p x) 1 0 + count_by p xs
step p x xs = sum_by-cons (λ y. cond (p y) 1 0) x xs

pub count_among : {A : Type 0} (p f q : A → Bool) → ((x : A) → p x ≡ f x) → (xs : List A) → count_by (λ x. p x && q x) xs ≡ count_by q (filter f xs)
count_among p f q same [] = refl
count_among {A} p f q same (x ∷ xs) = step (λ y. p y && q y) x xs ∙ go (p x) (f x) (same x) (count_among p f q same xs)
  where
    go : (a b : Bool) → a ≡ b → count_by (λ y. p y && q y) xs ≡ count_by q (filter f xs)
        → cond (a && q x) 1 0 + count_by (λ y. p y && q y) xs ≡ count_by q (cond b (x ∷ filter f xs) (filter f xs))
    go true true e h = ap (λ n. cond (q x) 1 0 + n) h ∙ sym (step q x (filter f xs))
    go true false e h = absurd (cc)
    go false true e h = absurd (cc)
    go false false e h = omega (arith, h)

pub field_balance : (moving : Reloc → Bool) (relocs : List Reloc) (r : Reloc)
    → balance_of moving relocs (spot_of r) ≡ record { more = gains moving (directives relocs (field_of r)); less = losses moving (directives relocs (field_of r)) }
field_balance moving relocs r = λ i. record {
  more = count_among (λ q. is_same (spot_of q) (spot_of r)) (is_field (field_of r)) (is_gain moving) (λ q. same_field q r) relocs i;
  less = count_among (λ q. is_same (spot_of q) (spot_of r)) (is_field (field_of r)) (is_loss moving) (λ q. same_field q r) relocs i;
}

-- ---- the index of balances, with a relocation more

pub equal : (a b : ℕ) → (a == b) ≡ true → a ≡ b
equal a b h = go (eqb_tells a b)
  where
    go : ((a == b) ≡ true × a ≡ b) ⊎ ((a == b) ≡ false × a ≢ b) → a ≡ b
    go (inl e) = e.1
    go (inr e) = absurd (cc)

nothing_more : (n : ℕ) → 0 + n ≡ n
nothing_more n = omega arith

same_spot : (a s : Spot) → is_same a s ≡ true → a ≡ s
same_spot a s h =
    let both = both_true (a.place == s.place) (a.code == s.code) h in
    λ i. record { place = equal a.place s.place both.0 i; code = equal a.code s.code both.1 i }

pub counted : (b : Bool) → cond b 1 0 ≡ flag b
counted true = refl
counted false = refl

one_more : (moving : Reloc → Bool) (r : Reloc) (rs : List Reloc) (s : Spot)
    → balance_of moving (r ∷ rs) s ≡ (if is_same (spot_of r) s then weighed (is_relative r) (moving r) (balance_of moving rs (spot_of r)) else balance_of moving rs s)
one_more moving r rs s = by_test (is_same (spot_of r) s) refl
  where
    gain : Reloc → Bool
    gain q = is_same (spot_of q) s && is_gain moving q

    loss : Reloc → Bool
    loss q = is_same (spot_of q) s && is_loss moving q

    by_test : (b : Bool) → is_same (spot_of r) s ≡ b
        → balance_of moving (r ∷ rs) s ≡ cond b (weighed (is_relative r) (moving r) (balance_of moving rs (spot_of r))) (balance_of moving rs s)
    by_test true e =
        let at : balance_of moving rs s ≡ balance_of moving rs (spot_of r) = ap (balance_of moving rs) (sym (same_spot (spot_of r) s e)) in
        λ i. record {
          more = (step gain r rs ∙ ((λ j. cond (e j && is_gain moving r) 1 0 + (at j).more) ∙ ap (λ n. n + (balance_of moving rs (spot_of r)).more) (counted (is_gain moving r)))) i;
          less = (step loss r rs ∙ ((λ j. cond (e j && is_loss moving r) 1 0 + (at j).less) ∙ ap (λ n. n + (balance_of moving rs (spot_of r)).less) (counted (is_loss moving r)))) i;
        }
    by_test false e =
        λ i. record {
          more = (step gain r rs ∙ ((λ j. cond (e j && is_gain moving r) 1 0 + (balance_of moving rs s).more) ∙ nothing_more (balance_of moving rs s).more)) i;
          less = (step loss r rs ∙ ((λ j. cond (e j && is_loss moving r) 1 0 + (balance_of moving rs s).less) ∙ nothing_more (balance_of moving rs s).less)) i;
        }

pub noted : (moving : Reloc → Bool) (relocs : List Reloc) (i : ℕ) (r d : Reloc) (old new : Balances) → i < length relocs → r ≡ get_or relocs i d
    → AreBalances moving (drop (i + 1) relocs) old
    → ((s : Spot) → balance_in new s ≡ (if is_same (spot_of r) s then weighed (is_relative r) (moving r) (balance_in old (spot_of r)) else balance_in old s))
    → AreBalances moving (drop i relocs) new
noted moving relocs i r d old new h e before with_one s =
    with_one s
    ∙ ((λ j. if is_same (spot_of r) s then weighed (is_relative r) (moving r) (before (spot_of r) j) else before s j)
    ∙ (sym (one_more moving r (drop (i + 1) relocs) s) ∙ ap (λ (xs : List Reloc). balance_of moving xs s) (sym (drop_more relocs i d h ∙ ap (λ y. y ∷ drop (i + 1) relocs) (sym e)))))

-- ---- what can't be moved, by an index

pub stuck : (moving : Reloc → Bool) (relocs : List Reloc) (r : Reloc) (m : Balances) (place offset : ℕ) (b : Balance) (moves result : Bool) → AreBalances moving relocs m
    → b ≡ balance_in m (spot_of r) → moves ≡ moving r → place ≡ offset
    → result ≡ (is_bad_branch (field_of r).kind moves || has_bad_shifts (field_of r).kind place b.more b.less) → result ≡ is_unmovable moving offset relocs r
stuck moving relocs r m place offset b moves result are at named where_ is =
    let e : b ≡ record { more = gains moving (directives relocs (field_of r)); less = losses moving (directives relocs (field_of r)) } = at ∙ (are (spot_of r) ∙ field_balance moving relocs r) in
    is ∙ (λ i. is_bad_branch (field_of r).kind (named i) || has_bad_shifts (field_of r).kind (where_ i) ((e i).more) ((e i).less))
