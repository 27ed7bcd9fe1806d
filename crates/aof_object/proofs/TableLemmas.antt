-- A string table with one more name.
use Rattle.std.proofs.Common.{◌≡◌, ℕ, ◌+◌, Bool, true, false, cond, List, [], ◌∷◌, ◌++◌, length, map, take, get_or, ◌<◌, Option, Some, None, refl, sym, ap, subst, ◌∙◌, arith, append_assoc}
use Rattle.std.specs.Prelude.{is_some, ◌||◌}
use Rattle.std.specs.List.{flat_map}
use Rattle.std.specs.Str.{bytes_eq}
use Rattle.std.proofs.lemmas.List.{length-append, flat_map_more, map_more}
use Rattle.aof_object.specs.Names.{among}
use Rattle.aof_object.specs.Index.{Numbers, number_in, or_number}
use Rattle.aof_object.specs.Spelling.{gathered, ended, spot_from}
use Rattle.aof_object.specs.Places.{IsTable}

tested : (b : Bool) (i : ℕ) (o : Option ℕ) (rest : Bool) → is_some o ≡ rest → is_some (cond b (Some i) o) ≡ (b || rest)
tested true i o rest h = refl
tested false i o rest h = h

pub is_some-spot_from : (at : ℕ) (q : List ℕ) (ns : List (List ℕ)) → is_some (spot_from at q ns) ≡ among q ns
is_some-spot_from at q [] = refl
is_some-spot_from at q (n ∷ ns) = tested (bytes_eq n q) at (spot_from (at + (length n + 1)) q ns) (among q ns) (is_some-spot_from (at + (length n + 1)) q ns)

pushed : (b : Bool) (i : ℕ) (o p : Option ℕ) (n q : List ℕ) (k j : ℕ) → p ≡ or_number o n k q → k ≡ j → cond b (Some i) p ≡ or_number (cond b (Some i) o) n j q
pushed true i o p n q k j h e = refl
pushed false i o p n q k j h e = h ∙ ap (λ (m : ℕ). or_number o n m q) e

pub spot_from-push : (at : ℕ) (q : List ℕ) (ns : List (List ℕ)) (n : List ℕ) → spot_from at q (ns ++ n ∷ []) ≡ or_number (spot_from at q ns) n (at + length (flat_map ended ns)) q
spot_from-push at q [] n = let e : at ≡ at + 0 = omega arith in ap (λ (k : ℕ). cond (bytes_eq n q) (Some k) None) e
spot_from-push at q (m ∷ ms) n =
    let long = length-append (ended m) (flat_map ended ms) in
    let own = length-append m (0 ∷ []) in
    pushed (bytes_eq m q) at (spot_from (at + (length m + 1)) q ms) _ n q (at + (length m + 1) + length (flat_map ended ms)) (at + length (flat_map ended (m ∷ ms)))
    (spot_from-push (at + (length m + 1)) q ms n) (omega (arith, long, own))

-- a name that is in the table already
pub table_kept : (bytes : List ℕ) (m : Numbers) (name : List ℕ) (k : ℕ) → number_in m name ≡ Some k → (ns : List (List ℕ)) → IsTable bytes m ns → IsTable bytes m (gathered ns (name ∷ []))
table_kept bytes m name k there ns t =
    let e : among name ns ≡ true = sym (is_some-spot_from 4 name ns) ∙ ap (λ (o : Option ℕ). is_some o) (sym (t.tells.at name) ∙ there) in
    subst (λ (b : Bool). IsTable bytes m (cond b ns (ns ++ name ∷ []))) (sym e) t

-- one that is not
pub table_more : (old new : List ℕ) (m n : Numbers) (name : List ℕ) → number_in m name ≡ None → new ≡ (old ++ name) ++ 0 ∷ [] → ((q : List ℕ) → number_in n q ≡ or_number (number_in m q) name (4 + length old) q)
    → (ns : List (List ℕ)) → IsTable old m ns → IsTable new n (gathered ns (name ∷ []))
table_more old new m n name fresh bytes index ns t =
    let e : among name ns ≡ false = sym (is_some-spot_from 4 name ns) ∙ ap (λ (o : Option ℕ). is_some o) (sym (t.tells.at name) ∙ fresh) in
    let more : IsTable new n (ns ++ name ∷ []) = record {
      names = bytes ∙ append_assoc old name (0 ∷ []) ∙ ap (λ (x : List ℕ). x ++ ended name) t.names ∙ flat_map_more ended [] ns name;
      tells = record {
        at = λ q. index q ∙ ap (λ (o : Option ℕ). or_number o name (4 + length old) q) (t.tells.at q)
            ∙ ap (λ (x : List ℕ). or_number (spot_from 4 q ns) name (4 + length x) q) t.names ∙ sym (spot_from-push 4 q ns name);
      };
    } in
    subst (λ (b : Bool). IsTable new n (cond b ns (ns ++ name ∷ []))) (sym e) more

-- names gathered in turn
pub gathered-append : (ns xs ys : List (List ℕ)) → gathered ns (xs ++ ys) ≡ gathered (gathered ns xs) ys
gathered-append ns [] ys = refl
gathered-append ns (x ∷ xs) ys = gathered-append (cond (among x ns) ns (ns ++ x ∷ [])) xs ys

pub gathered_more : {A : Type 0} (name : A → List ℕ) (ns : List (List ℕ)) (xs : List A) (i : ℕ) (x : A) → i < length xs → x ≡ get_or xs i x
    → gathered ns (map name (take (i + 1) xs)) ≡ gathered (gathered ns (map name (take i xs))) (name x ∷ [])
gathered_more name ns xs i x lt is =
    ap (gathered ns) (map_more name xs i x lt ∙ ap (λ y. map name (take i xs) ++ name y ∷ []) (sym is)) ∙ gathered-append ns (map name (take i xs)) (name x ∷ [])
