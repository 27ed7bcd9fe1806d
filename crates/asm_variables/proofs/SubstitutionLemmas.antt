-- Steps of substitution.
use Rattle.std.proofs.Common.{◌≡◌, ℕ, ◌+◌, ◌-◌, ◌≤◌, ◌==◌, ◌||◌, Bool, true, false, List, [], ◌∷◌, ◌++◌, length, drop, refl, sym, ◌∙◌, ap, arith, zero, suc, append-nil, append_assoc, length-drop, Option, Some, None}
use Rattle.std.specs.List.{list_any}
use Rattle.std.proofs.lemmas.List.{drop-drop}
use Rattle.std.specs.Prelude.{Result, Ok, Err}
use Rattle.sdt_fault.specs.declared.kinds.LineKind.{LineKind}
use Rattle.sdt_fault.specs.declared.kinds.LineKind.TheVariants.{UnknownWord}
use Rattle.asm_model.specs.Readings.{mapped}
use Rattle.expand_model.specs.declared.standing.Standing.{Standing}
use Rattle.expand_model.specs.declared.standing.Standing.TheVariants.{Open}
use Rattle.expand_model.specs.Standing.{Byte, standing, standing_from, begun_at}
use Rattle.expand_model.specs.States.{State, text_named}
use Rattle.expand_model.specs.Substitution.{substituted_from, substituted, plain}
use Rattle.asm_variables.specs.Substitution.{IsPut}

no_first : (a b : Bool) → (a || b) ≡ false → (a ≡ false) × (b ≡ false)
no_first false b e = (refl, e)
no_first true b e = absurd (cc)

mapped_nothing : (r : Result (List ℕ) LineKind) → mapped (λ t. [] ++ t) r ≡ r
mapped_nothing (Ok t) = refl
mapped_nothing (Err k) = refl

-- a byte that is taken away
pub dropped_byte : (texts : List ℕ → Option (List ℕ)) (n m : ℕ) (b : Byte) (bs : List Byte) (old : List ℕ) → n ≡ suc m
    → IsPut (substituted_from texts n (b ∷ bs)) (λ k. substituted_from texts k bs) (Some m) old old
dropped_byte texts n m b bs old e = ([], sym (append-nil old), rw e (sym (mapped_nothing (substituted_from texts m bs))))

-- bytes as they stand are the bytes
pub plain_standing : (s : Standing) (n : ℕ) (cs : List ℕ) → plain (standing_from s n cs) ≡ cs
plain_standing s n [] = refl
plain_standing s zero (c ∷ cs) = ap (λ (xs : List ℕ). c ∷ xs) (plain_standing (begun_at c cs).0 ((begun_at c cs).1 - 1) cs)
plain_standing s (suc n) (c ∷ cs) = ap (λ (xs : List ℕ). c ∷ xs) (plain_standing s n cs)

-- a text in front
abbrev pub fronted : List ℕ → Result (List ℕ) LineKind → Result (List ℕ) LineKind
fronted out r = mapped (λ t. out ++ t) r

fronted_twice : (out text : List ℕ) (r : Result (List ℕ) LineKind) → fronted out (fronted text r) ≡ fronted (out ++ text) r
fronted_twice out text (Ok t) = ap (λ (x : List ℕ). Ok x) (sym (append_assoc out text t))
fronted_twice out text (Err k) = refl

-- what bytes become behind what the ones before them became
pub record IsSubstituting (texts : List ℕ → Option (List ℕ)) (text out : List ℕ) (s : Standing) (left dropped at : ℕ) : Type 0 where
  pub same : fronted out (substituted_from texts dropped (standing_from s left (drop at text))) ≡ substituted_from texts 0 (standing_from Open 0 text)

fronted_nothing : (r : Result (List ℕ) LineKind) → fronted [] r ≡ r
fronted_nothing r = mapped_nothing r

pub begun : (texts : List ℕ → Option (List ℕ)) (text : List ℕ) → IsSubstituting texts text [] Open 0 0 0
begun texts text = record { same = fronted_nothing _ }

-- behind a byte
pub behind_one : (text : List ℕ) (at c : ℕ) (cs : List ℕ) → drop at text ≡ c ∷ cs → drop (at + 1) text ≡ cs
behind_one text at c cs e = sym (drop-drop 1 at text) ∙ ap (λ (xs : List ℕ). drop 1 xs) e

pub inside_one : (text : List ℕ) (at c : ℕ) (cs : List ℕ) → drop at text ≡ c ∷ cs → at + 1 ≤ length text
inside_one text at c cs e =
    let l = length-drop at text in
    let m : length (drop at text) ≡ length (c ∷ cs) = ap length e in
    omega (arith, l, m)

module _ (texts : List ℕ → Option (List ℕ)) (text out : List ℕ) (s : Standing) (left dropped at : ℕ)
    (is : IsSubstituting texts text out s left dropped at) where
  pub ended : drop at text ≡ [] → substituted_from texts 0 (standing_from Open 0 text) ≡ Ok out
  ended e = sym is.same ∙ rw e (ap (λ (x : List ℕ). Ok x) (append-nil out))

  module _ (c : ℕ) (cs : List ℕ) (here : drop at text ≡ c ∷ cs) (t : Standing) (n : ℕ)
      (stands : standing_from s left (c ∷ cs) ≡ (c, t) ∷ standing_from t n cs) where
    pub failed : (new : List ℕ) → IsPut (substituted_from texts dropped ((c, t) ∷ standing_from t n cs)) (λ k. substituted_from texts k (standing_from t n cs))
        None out new
        → substituted_from texts 0 (standing_from Open 0 text) ≡ Err UnknownWord
    failed new h = sym is.same ∙ rw (here, stands, h) refl

    pub passed : (k : ℕ) (new : List ℕ) → IsPut (substituted_from texts dropped ((c, t) ∷ standing_from t n cs))
        (λ m. substituted_from texts m (standing_from t n cs)) (Some k) out new
        → drop (at + 1) text ≡ cs → IsSubstituting texts text new t n k (at + 1)
    passed k new h next = record {
      same = rw (next, h.1) (sym (fronted_twice out h.0 (substituted_from texts k (standing_from t n cs))) ∙ ap (fronted out) (sym h.2)
          ∙ sym (ap (λ r. fronted out (substituted_from texts dropped r)) stands)
          ∙ sym (ap (λ (r : List ℕ). fronted out (substituted_from texts dropped (standing_from s left r))) here) ∙ is.same);
    }

-- the same of a line
module _ (s : State) (text out : List ℕ) (st : Standing) (left dropped at : ℕ) (is : IsSubstituting (text_named s) text out st left dropped at) where
  pub ended_line : drop at text ≡ [] → substituted s text ≡ Ok out
  unfolding substituted standing
  ended_line e = ended (text_named s) text out st left dropped at is e

  module _ (c : ℕ) (cs : List ℕ) (here : drop at text ≡ c ∷ cs) (t : Standing) (n : ℕ)
      (stands : standing_from st left (c ∷ cs) ≡ (c, t) ∷ standing_from t n cs) where
    pub failed_line : (taken : Option ℕ) (new : List ℕ) → taken ≡ None
        → IsPut (substituted_from (text_named s) dropped ((c, t) ∷ standing_from t n cs)) (λ k. substituted_from (text_named s) k (standing_from t n cs)) taken
        out new
        → substituted s text ≡ Err UnknownWord
    unfolding substituted standing
    failed_line taken new e h = failed (text_named s) text out st left dropped at is c cs here t n stands new (rw e at h)

    pub passed_line : (taken : Option ℕ) (k : ℕ) (new : List ℕ) → taken ≡ Some k
        → IsPut (substituted_from (text_named s) dropped ((c, t) ∷ standing_from t n cs)) (λ m. substituted_from (text_named s) m (standing_from t n cs)) taken
        out new
        → IsSubstituting (text_named s) text new t n k (at + 1)
    passed_line taken k new e h =
        passed (text_named s) text out st left dropped at is c cs here t n stands k new (rw e at h) (behind_one text at c cs here)

-- ---- a line without dollars

put_one : (c : ℕ) (cs : List ℕ) (r : Result (List ℕ) LineKind) → r ≡ Ok cs → mapped (λ t. (c ∷ []) ++ t) r ≡ Ok (c ∷ cs)
put_one c cs r e = rw e refl

-- bytes without dollars become themselves
without_dollar : (texts : List ℕ → Option (List ℕ)) (st : Standing) (n : ℕ) (cs : List ℕ) → list_any (λ c. c == 36) cs ≡ false
    → substituted_from texts 0 (standing_from st n cs) ≡ Ok cs
without_dollar texts st n [] e = refl
without_dollar texts st zero (c ∷ cs) e =
    let parts = no_first (c == 36) (list_any (λ d. d == 36) cs) e in
    rw parts.0 (put_one c cs _ (without_dollar texts (begun_at c cs).0 ((begun_at c cs).1 - 1) cs parts.1))
without_dollar texts st (suc n) (c ∷ cs) e =
    let parts = no_first (c == 36) (list_any (λ d. d == 36) cs) e in
    rw parts.0 (put_one c cs _ (without_dollar texts st n cs parts.1))

pub without_dollar_line : (s : State) (text : List ℕ) → list_any (λ c. c == 36) text ≡ false → substituted s text ≡ Ok text
unfolding substituted standing
without_dollar_line s text e = without_dollar (text_named s) Open 0 text e
