-- Which object exports a name first, from one object to the one before it.
use Rattle.std.proofs.Common.{◌≡◌, ℕ, zero, suc, ◌+◌, ◌<◌, Bool, true, false, cond, length, List, [], ◌∷◌, drop, take, get_or, Option, Some, None, refl, sym, ap, ◌∙◌, subst, arith}
use Rattle.std.specs.Prelude.{slice_get, ◌&&◌, ◌||◌, ◌-◌, IsSomeAnd}
use Rattle.std.specs.Option.{option_map}
use Rattle.std.specs.Str.{bytes_eq}
use Rattle.sdt_fault.specs.declared.refusal.Refusal.{Refusal}
use Rattle.sdt_fault.specs.declared.refusal.Refusal.TheVariants.{Duplicate}
use Rattle.aof_object.specs.declared.records.Symbol.{Symbol}
use Rattle.aof_object.specs.Checks.{is_exported}
use Rattle.aof_object.proofs.NamesLemmas.{among-exported}
use Rattle.link_select.specs.Exports.{clash}
use Rattle.std.specs.List.{find}
use Rattle.aof_object.specs.declared.records.Object.{Object}
use Rattle.aof_object.specs.Names.{among}
use Rattle.aof_object.specs.Objects.{exported}
use Rattle.link_model.specs.declared.selection.Named.{Named}
use Rattle.link_model.specs.Members.{objects_in}
use Rattle.link_model.specs.Chosen.{exports, exporter}
use Rattle.link_select.specs.Index.{Numbers, number_in, IsIndexOf}
use Rattle.link_select.proofs.ListLemmas.{drop_at, take_item}

pub index_more : (m n : Numbers) (os : List (Named Object)) (i : ℕ) (o : Named Object) → slice_get os i ≡ Some o → IsIndexOf (suc i) (objects_in (drop (suc i) os)) m
    → ((q : List ℕ) → number_in n q ≡ cond (among q (exported o.value.symbols)) (Some i) (number_in m q)) → IsIndexOf i (objects_in (drop i os)) n
index_more m n os i o at known new q =
    new q ∙ ap (λ (r : Option ℕ). cond (exports o.value q) (Some i) r) (known q) ∙ ap (λ (l : List (Named Object)). exporter i q (objects_in l)) (sym (drop_at os i o at))

pub exporter_within : (i : ℕ) (q : List ℕ) (os : List Object) (k : ℕ) → exporter i q os ≡ Some k → k < i + length os
exporter_within i q [] k h = absurd (cc)
exporter_within i q (o ∷ os) k h = by (exports o q) h (exporter_within (suc i) q os k)
  where
    by : (b : Bool) → cond b (Some i) (exporter (suc i) q os) ≡ Some k → (exporter (suc i) q os ≡ Some k → k < suc i + length os) → k < i + suc (length os)
    by true e rest = let s : i ≡ k = cc in omega arith
    by false e rest = let r = rest e in omega arith

drop_seen : {X : Type 0} (all : List X) (i : ℕ) (x : X) (rest : List X) → drop i all ≡ x ∷ rest → (slice_get all i ≡ Some x) × (drop (suc i) all ≡ rest)
drop_seen [] zero x rest h = absurd (cc)
drop_seen [] (suc i) x rest h = absurd (cc)
drop_seen (y ∷ ys) zero x rest h = let e : y ≡ x = cc in let f : ys ≡ rest = cc in (ap Some e, f)
drop_seen (y ∷ ys) (suc i) x rest h = drop_seen ys i x rest h

-- the first object that exports a name, and its number
pub found_exporter : (all : List (Named Object)) (i : ℕ) (q : List ℕ) (os : List (Named Object)) → drop i all ≡ os → (k : ℕ) → exporter i q (objects_in os) ≡ Some k → find (λ o. exports o.value q) os ≡ slice_get all k
found_exporter all i q [] e k h = absurd (cc)
found_exporter all i q (o ∷ os) e k h =
    let seen = drop_seen all i o os e in by (exports o.value q) h seen.0 (found_exporter all (suc i) q os seen.1 k)
  where
    by : (b : Bool) → cond b (Some i) (exporter (suc i) q (objects_in os)) ≡ Some k → slice_get all i ≡ Some o → (exporter (suc i) q (objects_in os) ≡ Some k → find (λ p. exports p.value q) os ≡ slice_get all k)
        → cond b (Some o) (find (λ p. exports p.value q) os) ≡ slice_get all k
    by true f here rest = let s : i ≡ k = cc in sym here ∙ ap (slice_get all) s
    by false f here rest = rest f

pub no_exporter : (i : ℕ) (q : List ℕ) (os : List (Named Object)) → exporter i q (objects_in os) ≡ None → find (λ o. exports o.value q) os ≡ None
no_exporter i q [] h = refl
no_exporter i q (o ∷ os) h = by (exports o.value q) h (no_exporter (suc i) q os)
  where
    by : (b : Bool) → cond b (Some i) (exporter (suc i) q (objects_in os)) ≡ None → (exporter (suc i) q (objects_in os) ≡ None → find (λ p. exports p.value q) os ≡ None) → cond b (Some o) (find (λ p. exports p.value q) os) ≡ None
    by true f rest = absurd (cc)
    by false f rest = rest f

-- ---- one more symbol

or_number_more : (a b : Bool) (k : ℕ) (o : Option ℕ) → cond b (Some k) (cond a (Some k) o) ≡ cond (a || b) (Some k) o
or_number_more true true k o = refl
or_number_more true false k o = refl
or_number_more false true k o = refl
or_number_more false false k o = refl

pub exports_more : (old m n : Numbers) (ss : List Symbol) (i : ℕ) (s : Symbol) (k : ℕ) → i < length ss → s ≡ get_or ss i s
    → ((q : List ℕ) → number_in m q ≡ cond (among q (exported (take i ss))) (Some k) (number_in old q))
    → ((q : List ℕ) → number_in n q ≡ cond (is_exported s.attributes && bytes_eq s.name q) (Some k) (number_in m q))
    → (q : List ℕ) → number_in n q ≡ cond (among q (exported (take (i + 1) ss))) (Some k) (number_in old q)
exports_more old m n ss i s k h e known new q =
    new q ∙ ap (λ (r : Option ℕ). cond (is_exported s.attributes && bytes_eq s.name q) (Some k) r) (known q)
    ∙ or_number_more (among q (exported (take i ss))) (is_exported s.attributes && bytes_eq s.name q) k (number_in old q)
    ∙ ap (λ (b : Bool). cond b (Some k) (number_in old q)) (sym (among-exported q (take i ss) s) ∙ ap (λ (l : List Symbol). among q (exported l)) (sym (take_item ss i s h e)))

-- ---- names that two objects export

pub clash_none : (m : Numbers) (objects : List (Named Object)) (first : ℕ) (name : List ℕ) (s : Symbol) → IsIndexOf first (objects_in (drop first objects)) m → number_in m s.name ≡ None → clash name (drop first objects) s ≡ None
clash_none m objects first name s known h =
    ap (λ (o : Option (Named Object)). cond (is_exported s.attributes) (option_map (λ p. Duplicate s.name name p.name) o) None)
    (no_exporter first s.name (drop first objects) (sym (known s.name) ∙ h)) ∙ either (is_exported s.attributes)
  where
    either : (b : Bool) → ◌≡◌ {A = Option Refusal} (cond b None None) None
    either true = refl
    either false = refl

pub clash_some : (m : Numbers) (objects : List (Named Object)) (first : ℕ) (name : List ℕ) (s : Symbol) (k : ℕ) → IsIndexOf first (objects_in (drop first objects)) m → number_in m s.name ≡ Some k → is_exported s.attributes ≡ true
    → clash name (drop first objects) s ≡ option_map (λ n. Duplicate s.name name n) (option_map (λ o. o.name) (slice_get objects k))
clash_some m objects first name s k known h is =
    ap (λ (b : Bool). cond b (option_map (λ p. Duplicate s.name name p.name) (find (λ o. exports o.value s.name) (drop first objects))) None) is
    ∙ ap (option_map (λ p. Duplicate s.name name p.name)) (found_exporter objects first s.name (drop first objects) refl k (sym (known s.name) ∙ h))
    ∙ twice (slice_get objects k)
  where
    twice : (o : Option (Named Object)) → option_map (λ p. Duplicate s.name name p.name) o ≡ option_map (λ n. Duplicate s.name name n) (option_map (λ p. p.name) o)
    twice None = refl
    twice (Some o) = refl

-- the index of the objects from a number on, after the object before them
pub index_back : (m n : Numbers) (os : List (Named Object)) (i : ℕ) (ss : List Symbol) → 0 < i → IsSomeAnd (slice_get os (i - 1)) (λ o. o.value.symbols ≡ ss) → IsIndexOf i (objects_in (drop i os)) m
    → ((q : List ℕ) → number_in n q ≡ cond (among q (exported ss)) (Some (i - 1)) (number_in m q)) → IsIndexOf (i - 1) (objects_in (drop (i - 1) os)) n
index_back m n os i ss h here known new = by (slice_get os (i - 1)) refl here
  where
    next : i ≡ suc (i - 1)
    next = omega arith

    by : (r : Option (Named Object)) → slice_get os (i - 1) ≡ r → IsSomeAnd r (λ o. o.value.symbols ≡ ss) → IsIndexOf (i - 1) (objects_in (drop (i - 1) os)) n
    by None e s = absurd s
    by (Some o) e s =
        index_more m n os (i - 1) o e (subst (λ (k : ℕ). IsIndexOf k (objects_in (drop k os)) m) next known)
        (λ q. new q ∙ ap (λ (l : List Symbol). cond (among q (exported l)) (Some (i - 1)) (number_in m q)) (sym s))
