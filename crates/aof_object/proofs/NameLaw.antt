-- Names in a string table, and among others: what the tests tell.
use Rattle.std.proofs.Common.{◌≡◌, ◌≢◌, ℕ, zero, suc, Bool, true, false, cond, ltb, List, [], ◌∷◌, ◌++◌, drop, Option, Some, None, refl, sym, ap, subst, ◌∙◌, arith}
use Rattle.std.specs.Prelude.{◌↔◌}
use Rattle.std.specs.Option.{option_map}
use Rattle.std.specs.Str.{bytes_eq}
use Rattle.std.proofs.lemmas.Bool.{ltb-false, le-ltb, false_from_ne_true}
use Rattle.std.proofs.lemmas.Slice.Eq.{bytes_eq-Decides}
use Rattle.aof_object.specs.Names.{terminated, name_at, IsText, IsNameAt, among, Lacks}
use Rattle.base_lemmas.proofs.BaseLemmas.{neither}

abbrev there : {A : Type 0} → A → Option A
there x = Some x

pub some_is : {A : Type 0} (a b : A) → there a ≡ there b → a ≡ b
some_is a b e = cc

-- the value behind a map over an option
mapped : (b : ℕ) (o : Option (List ℕ)) (n : List ℕ) → option_map (λ m. suc b ∷ m) o ≡ Some n → (m : List ℕ) × (o ≡ Some m) × (n ≡ suc b ∷ m)
mapped b None n e = absurd cc
mapped b (Some m) n e = (m, refl, sym (some_is (suc b ∷ m) n e))

-- the front before the first zero byte
record Ended (bs n : List ℕ) : Type 0 where
  text : IsText n
  whole : (rest : List ℕ) × (bs ≡ n ++ (0 ∷ rest))

not_zero : (b : ℕ) → suc b ≢ 0
not_zero b e = absurd (omega arith)

ended_takes : (bs n : List ℕ) → terminated bs ≡ Some n → Ended bs n
ended_takes [] n e = absurd cc
ended_takes (zero ∷ bs) n e = subst (λ (m : List ℕ). Ended (0 ∷ bs) m) (some_is [] n e) (record { text = tt; whole = (bs, refl) })
ended_takes (suc b ∷ bs) n e =
    let m = mapped b (terminated bs) n e in
    let rest = ended_takes bs m.0 m.1 in
    subst (λ (k : List ℕ). Ended (suc b ∷ bs) k) (sym m.2)
    (record { text = (not_zero b, rest.text); whole = (rest.whole.0, ap (λ (k : List ℕ). suc b ∷ k) rest.whole.1) })

pub terminated_at : (n rest : List ℕ) → IsText n → terminated (n ++ (0 ∷ rest)) ≡ Some n
terminated_at [] rest h = refl
terminated_at (zero ∷ n) rest h = absurd (h.0 refl)
terminated_at (suc b ∷ n) rest h = let r = terminated_at n rest h.1 in rw r refl

past_four : (b : Bool) (o : Option (List ℕ)) (n : List ℕ) → cond b None o ≡ Some n → (b ≡ false) × (o ≡ Some n)
past_four true o n e = absurd cc
past_four false o n e = (refl, e)

pub name_law : (strings : List ℕ) (at : ℕ) (n : List ℕ) → (name_at strings at ≡ Some n) ↔ IsNameAt strings at n
unfolding name_at
name_law strings at n = (
  λ e. let g = past_four (ltb at 4) (terminated (drop at strings)) n e in
      let h = ended_takes (drop at strings) n g.1 in
      record { after_length = ltb-false at 4 g.0; is_text = h.text; stands = h.whole },
  λ h. let long : ltb at 4 ≡ false = le-ltb at 4 h.after_length in
      rw long (ap terminated h.stands.1 ∙ terminated_at n h.stands.0 h.is_text),
)

-- ---- among

differ : (n q : List ℕ) → bytes_eq n q ≡ false → n ≢ q
differ n q e same = let t = (bytes_eq-Decides n q).1 same in absurd cc

pub lacks_law : (ns : List (List ℕ)) (q : List ℕ) → (among q ns ≡ false) ↔ Lacks ns q
lacks_law [] q = (λ e. tt, λ h. refl)
lacks_law (n ∷ ns) q = (
  λ e. let g = neither (bytes_eq n q) (among q ns) e in (differ n q g.0, (lacks_law ns q).0 g.1),
  λ h. let one : bytes_eq n q ≡ false = false_from_ne_true (bytes_eq n q) (λ t. h.0 ((bytes_eq-Decides n q).0 t)) in
      rw one ((lacks_law ns q).1 h.1),
)
