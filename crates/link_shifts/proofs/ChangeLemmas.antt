-- What relocations and veneers change at an address, one after the other.
use Rattle.std.proofs.Common.{◌≡◌, ℕ, suc, ◌+◌, ◌-◌, ◌*◌, ◌<◌, Bool, true, false, cond, if◌then◌else◌, List, ◌++◌, append_assoc, length, replicate, drop, get_or, sym, ap, ◌∙◌, arith}
use Rattle.std.specs.Prelude.{◌&&◌, sum_by}
use Rattle.std.proofs.lemmas.List.{drop_more}
use Rattle.std.proofs.lemmas.List.Sums.{sum_by-cons}
use Rattle.aof_object.specs.declared.records.Reloc.{Reloc}
use Rattle.image_model.specs.AifFiles.{shifted_offsets}
use Rattle.patch_model.specs.Fields.{is_relative}
use Rattle.link_shifts.specs.declared.balances.Balance.{Balance}
use Rattle.link_shifts.specs.Balances.{is_gain, is_loss, weighed}
use Rattle.link_shifts.specs.Changes.{change_by, is_word_at, Grows, Leaves}
use Rattle.link_shifts.proofs.FieldLemmas.{counted}

sum_split : {A : Type 0} (f : A → ℕ) (xs : List A) (k : ℕ) (d : A) → k < length xs → sum_by f (drop k xs) ≡ f (get_or xs k d) + sum_by f (drop (k + 1) xs)
sum_split f xs k d h = ap (sum_by f) (drop_more xs k d h) ∙ sum_by-cons f (get_or xs k d) (drop (k + 1) xs)

-- ---- a relocation more

one_word : (moving : Reloc → Bool) (address x : ℕ) (r : Reloc) (old new : Balance)
    → new ≡ (if is_word_at address x r then weighed (is_relative r) (moving r) old else old)
    → Grows old (record { more = cond (is_word_at address x r && is_gain moving r) 1 0; less = cond (is_word_at address x r && is_loss moving r) 1 0 }) new
one_word moving address x r old new = go (is_word_at address x r)
  where
    go : (b : Bool) → new ≡ (if b then weighed (is_relative r) (moving r) old else old) → Grows old (record { more = cond (b && is_gain moving r) 1 0; less = cond (b && is_loss moving r) 1 0 }) new
    go true e =
        let more = ap (λ (b : Balance). b.more) e in
        let less = ap (λ (b : Balance). b.less) e in
        let gain = counted (is_gain moving r) in
        let loss = counted (is_loss moving r) in
        record { more = omega (arith, more, gain); less = omega (arith, less, loss) }
    go false e =
        let more = ap (λ (b : Balance). b.more) e in
        let less = ap (λ (b : Balance). b.less) e in
        record { more = omega (arith, more); less = omega (arith, less) }

pub word_noted : (moving : Reloc → Bool) (address x : ℕ) (relocs : List Reloc) (k : ℕ) (d : Reloc) (before old new : Balance) → k < length relocs
    → new ≡ (if is_word_at address x (get_or relocs k d) then weighed (is_relative (get_or relocs k d)) (moving (get_or relocs k d)) old else old)
    → Leaves before (change_by moving address x relocs) old (change_by moving address x (drop k relocs))
    → Leaves before (change_by moving address x relocs) new (change_by moving address x (drop (k + 1) relocs))
word_noted moving address x relocs k d before old new h is left =
    let one = one_word moving address x (get_or relocs k d) old new is in
    let more = sum_split (λ q. cond (is_word_at address x q && is_gain moving q) 1 0) relocs k d h in
    let less = sum_split (λ q. cond (is_word_at address x q && is_loss moving q) 1 0) relocs k d h in
    let a = one.more in
    let b = one.less in
    let c = left.more in
    let e = left.less in
    record { more = omega (arith, a, c, more); less = omega (arith, b, e, less) }

-- ---- a word more in the list of offsets

pub word_pushed : (f : ℕ → ℕ) (k n : ℕ) (old new all : List ℕ) → k < n → new ≡ old ++ replicate (f (4 * k)) (4 * k) → old ++ shifted_offsets f (4 * k) (n - k) ≡ all
    → new ++ shifted_offsets f (4 * (k + 1)) (n - (k + 1)) ≡ all
word_pushed f k n old new all h is before =
    let left : n - k ≡ suc (n - (k + 1)) = omega (arith, h) in
    let next : 4 * k + 4 ≡ 4 * (k + 1) = omega arith in
    let own : List ℕ = replicate (f (4 * k)) (4 * k) in
    ap (λ (xs : List ℕ). xs ++ shifted_offsets f (4 * (k + 1)) (n - (k + 1))) is
    ∙ append_assoc old own (shifted_offsets f (4 * (k + 1)) (n - (k + 1)))
    ∙ ap (λ z. old ++ (own ++ shifted_offsets f z (n - (k + 1)))) (sym next)
    ∙ ap (λ z. old ++ shifted_offsets f (4 * k) z) (sym left)
    ∙ before
