-- Names among others: by their number, and with one more.
use Rattle.std.proofs.Common.{◌≡◌, ℕ, suc, ◌+◌, Bool, true, false, cond, List, [], ◌∷◌, ◌++◌, length, Option, Some, None, refl, sym, ap, ◌∙◌, arith, append-nil}
use Rattle.std.specs.Prelude.{is_some, ◌||◌, ◌&&◌}
use Rattle.std.specs.Str.{bytes_eq}
use Rattle.std.proofs.lemmas.List.{map_push, length-map}
use Rattle.aof_object.specs.declared.areas.AreaHead.{AreaHead}
use Rattle.aof_object.specs.Names.{among, number_from}
use Rattle.aof_object.specs.Index.{Numbers, number_in, or_number}
use Rattle.aof_object.specs.declared.records.Symbol.{Symbol}
use Rattle.aof_object.specs.Checks.{is_exported}
use Rattle.aof_object.specs.Objects.{head_names, exported}

tested : (b : Bool) (i : ℕ) (o : Option ℕ) (rest : Bool) → is_some o ≡ rest → is_some (cond b (Some i) o) ≡ (b || rest)
tested true i o rest h = refl
tested false i o rest h = h

-- a name has a number exactly where it is among them
pub is_some-number_from : (i : ℕ) (q : List ℕ) (ns : List (List ℕ)) → is_some (number_from i q ns) ≡ among q ns
is_some-number_from i q [] = refl
is_some-number_from i q (n ∷ ns) = tested (bytes_eq n q) i (number_from (suc i) q ns) (among q ns) (is_some-number_from (suc i) q ns)

pushed : (b : Bool) (i : ℕ) (o p : Option ℕ) (n q : List ℕ) (k j : ℕ) → p ≡ or_number o n k q → k ≡ j → cond b (Some i) p ≡ or_number (cond b (Some i) o) n j q
pushed true i o p n q k j h e = refl
pushed false i o p n q k j h e = h ∙ ap (λ (m : ℕ). or_number o n m q) e

pub number_from-push : (i : ℕ) (q : List ℕ) (ns : List (List ℕ)) (n : List ℕ) → number_from i q (ns ++ n ∷ []) ≡ or_number (number_from i q ns) n (i + length ns) q
number_from-push i q [] n = let e : i ≡ i + 0 = omega arith in ap (λ (k : ℕ). cond (bytes_eq n q) (Some k) None) e
number_from-push i q (m ∷ ms) n = pushed (bytes_eq m q) i (number_from (suc i) q ms) _ n q (suc i + length ms) (i + suc (length ms)) (number_from-push (suc i) q ms n) (omega arith)

-- the test by an index of names in order, and the index with one more of them
pub taken_is : (m : Numbers) (ns : List (List ℕ)) → ((q : List ℕ) → number_in m q ≡ number_from 0 q ns) → ◌≡◌ {A = List ℕ → Bool} (λ q. is_some (number_in m q)) (λ q. among q ns)
taken_is m ns known = λ i q. (ap (λ (o : Option ℕ). is_some o) (known q) ∙ is_some-number_from 0 q ns) i

pub indexed_more : (m n : Numbers) (hs : List AreaHead) (h : AreaHead) (i : ℕ) → length hs ≡ i → ((q : List ℕ) → number_in m q ≡ number_from 0 q (head_names hs))
    → ((q : List ℕ) → number_in n q ≡ or_number (number_in m q) h.name i q) → (q : List ℕ) → number_in n q ≡ number_from 0 q (head_names (hs ++ h ∷ []))
indexed_more m n hs h i len known new q =
    let names : head_names (hs ++ h ∷ []) ≡ head_names hs ++ h.name ∷ [] = map_push (λ (x : AreaHead). x.name) hs h in
    let many : 0 + length (head_names hs) ≡ i = let e = length-map hs (λ (x : AreaHead). x.name) in omega (arith, e, len) in
    new q ∙ ap (λ (o : Option ℕ). or_number o h.name i q) (known q) ∙ sym (ap (λ (k : ℕ). or_number (number_from 0 q (head_names hs)) h.name k q) many) ∙ sym (number_from-push 0 q (head_names hs) h.name)
    ∙ ap (number_from 0 q) (sym names)

-- ---- exported names

pub among-push : (q : List ℕ) (ns : List (List ℕ)) (n : List ℕ) → among q (ns ++ n ∷ []) ≡ (among q ns || bytes_eq n q)
among-push q [] n = or_last (bytes_eq n q)
  where
    or_last : (b : Bool) → (b || false) ≡ (false || b)
    or_last true = refl
    or_last false = refl
among-push q (m ∷ ms) n = grouped (bytes_eq m q) (among q (ms ++ n ∷ [])) (among q ms) (bytes_eq n q) (among-push q ms n)
  where
    grouped : (a x y b : Bool) → x ≡ (y || b) → (a || x) ≡ ((a || y) || b)
    grouped true x y b h = refl
    grouped false x y b h = h

pub exported-push : (ss : List Symbol) (s : Symbol) → exported (ss ++ s ∷ []) ≡ exported ss ++ exported (s ∷ [])
exported-push [] s = refl
exported-push (t ∷ ss) s = moved (is_exported t.attributes) t.name (exported (ss ++ s ∷ [])) (exported ss) (exported (s ∷ [])) (exported-push ss s)
  where
    moved : (b : Bool) (n : List ℕ) (xs ys zs : List (List ℕ)) → xs ≡ ys ++ zs → cond b (n ∷ xs) xs ≡ cond b (n ∷ ys) ys ++ zs
    moved true n xs ys zs h = ap (λ (r : List (List ℕ)). n ∷ r) h
    moved false n xs ys zs h = h

pub among-exported : (q : List ℕ) (ss : List Symbol) (s : Symbol) → among q (exported (ss ++ s ∷ [])) ≡ (among q (exported ss) || (is_exported s.attributes && bytes_eq s.name q))
among-exported q ss s = ap (among q) (exported-push ss s) ∙ told (is_exported s.attributes)
  where
    nothing : (b : Bool) → b ≡ (b || false)
    nothing true = refl
    nothing false = refl

    told : (b : Bool) → among q (exported ss ++ cond b (s.name ∷ []) []) ≡ (among q (exported ss) || (b && bytes_eq s.name q))
    told true = among-push q (exported ss) s.name
    told false = ap (among q) (append-nil (exported ss)) ∙ nothing (among q (exported ss))

pub exported_more : (m n : Numbers) (ss : List Symbol) (s : Symbol) → ((q : List ℕ) → is_some (number_in m q) ≡ among q (exported ss))
    → ((q : List ℕ) → is_some (number_in n q) ≡ (is_some (number_in m q) || (is_exported s.attributes && bytes_eq s.name q))) → (q : List ℕ) → is_some (number_in n q) ≡ among q (exported (ss ++ s ∷ []))
exported_more m n ss s known new q =
    new q ∙ ap (λ (b : Bool). b || (is_exported s.attributes && bytes_eq s.name q)) (known q) ∙ sym (among-exported q ss s)
