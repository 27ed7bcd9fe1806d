-- Indexes of names, and the region symbols that they show.
use Rattle.std.proofs.Common.{◌≡◌, ℕ, ◌+◌, ◌-◌, ◌<◌, Bool, true, false, cond, List, [], ◌∷◌, ◌++◌, length, map, take, drop, Option, Some, None, refl, sym, ap, ◌∙◌, get_or, arith, length-append}
use Rattle.std.specs.Prelude.{◌&&◌, ◌||◌, is_some, nat_eq, codes}
use Rattle.std.specs.List.{ends_with, flat_map}
use Rattle.std.specs.Str.{bytes_eq}
use Rattle.std.proofs.lemmas.List.{map_push, take-append-drop}
use Rattle.std.proofs.lemmas.List.Folds.{flat_map-map}
use Rattle.std.proofs.lemmas.Slice.Eq.{bytes_eq-Decides}
use Rattle.std.proofs.Math.Seq.{take-append_seam, drop-append_seam}
use Rattle.aof_object.specs.declared.records.Area.{Area}
use Rattle.aof_object.specs.declared.records.Object.{Object}
use Rattle.aof_object.specs.Names.{among}
use Rattle.aof_object.specs.Spelling.{area_names}
use Rattle.aof_object.proofs.NamesLemmas.{among-push}
use Rattle.link_model.specs.declared.selection.Named.{Named}
use Rattle.link_model.specs.Members.{objects_in}
use Rattle.link_model.specs.RegionNames.{names_of_areas, names_a_region}
use Rattle.link_select.specs.declared.regions.RegionSymbols.{RegionSymbols}
use Rattle.link_select.specs.declared.regions.RegionSymbols.TheVariants.{AnyOfTheForm, Listed}
use Rattle.link_select.specs.Index.{Numbers, number_in, IsIndexOf}
use Rattle.link_select.specs.Regions.{stem_in, region_by, Shows, known_by}
use Rattle.link_select.specs.Undefined.{is_known}
use Rattle.link_select.proofs.ListLemmas.{take_item, flat_take}
use Rattle.aof_object.proofs.ValidLaw.{and_true as both_true}
use Rattle.base_lemmas.proofs.BaseLemmas.{first_of_both as first_true, both as same_tests, second_of_both as second_true}

-- ---- one more name

has_more : (b : Bool) (k : ℕ) (o : Option ℕ) → is_some (cond b (Some k) o) ≡ (is_some o || b)
has_more true k None = refl
has_more true k (Some j) = refl
has_more false k None = refl
has_more false k (Some j) = refl

or_assoc : (a b c : Bool) → ((a || b) || c) ≡ (a || (b || c))
or_assoc true b c = refl
or_assoc false b c = refl

pub names_more : (m n : Numbers) (before : Bool) (names : List (List ℕ)) (i : ℕ) (name : List ℕ) (q : List ℕ) → i < length names → name ≡ get_or names i name
    → is_some (number_in m q) ≡ (before || among q (take i names)) → number_in n q ≡ cond (bytes_eq name q) (Some 0) (number_in m q)
    → is_some (number_in n q) ≡ (before || among q (take (i + 1) names))
names_more m n before names i name q h e known new =
    ap (λ (o : Option ℕ). is_some o) new ∙ has_more (bytes_eq name q) 0 (number_in m q)
    ∙ ap (λ (b : Bool). b || bytes_eq name q) known ∙ or_assoc before (among q (take i names)) (bytes_eq name q)
    ∙ ap (λ (b : Bool). before || b) (sym (among-push q (take i names) name) ∙ ap (among q) (sym (take_item names i name h e)))

pub area_names_more : (m n : Numbers) (before : Bool) (areas : List Area) (i : ℕ) (a : Area) (q : List ℕ) → i < length areas → a ≡ get_or areas i a
    → is_some (number_in m q) ≡ (before || among q (area_names (take i areas))) → number_in n q ≡ cond (bytes_eq a.name q) (Some 0) (number_in m q)
    → is_some (number_in n q) ≡ (before || among q (area_names (take (i + 1) areas)))
area_names_more m n before areas i a q h e known new =
    ap (λ (o : Option ℕ). is_some o) new ∙ has_more (bytes_eq a.name q) 0 (number_in m q)
    ∙ ap (λ (b : Bool). b || bytes_eq a.name q) known ∙ or_assoc before (among q (area_names (take i areas))) (bytes_eq a.name q)
    ∙ ap (λ (b : Bool). before || b)
    (sym (among-push q (area_names (take i areas)) a.name) ∙ ap (among q) (sym (map_push (λ (x : Area). x.name) (take i areas) a) ∙ ap (λ (l : List Area). area_names l) (sym (take_item areas i a h e))))

pub among-append : (q : List ℕ) (xs ys : List (List ℕ)) → among q (xs ++ ys) ≡ (among q xs || among q ys)
among-append q [] ys = refl
among-append q (x ∷ xs) ys = ap (λ (b : Bool). bytes_eq x q || b) (among-append q xs ys) ∙ sym (or_assoc (bytes_eq x q) (among q xs) (among q ys))

pub names_of_values : (os : List (Named Object)) → names_of_areas (objects_in os) ≡ flat_map (λ (o : Named Object). area_names o.value.areas) os
names_of_values os = flat_map-map (λ (o : Object). area_names o.areas) (λ (o : Named Object). o.value) os

pub object_names_more : (m n : Numbers) (os : List (Named Object)) (i : ℕ) (o : Named Object) (q : List ℕ) → i < length os → o ≡ get_or os i o
    → is_some (number_in m q) ≡ among q (names_of_areas (objects_in (take i os))) → is_some (number_in n q) ≡ (is_some (number_in m q) || among q (area_names o.value.areas))
    → is_some (number_in n q) ≡ among q (names_of_areas (objects_in (take (i + 1) os)))
object_names_more m n os i o q h e known new =
    new ∙ ap (λ (b : Bool). b || among q (area_names o.value.areas)) known ∙ sym (among-append q (names_of_areas (objects_in (take i os))) (area_names o.value.areas))
    ∙ ap (among q)
    (ap (λ (l : List (List ℕ)). l ++ area_names o.value.areas) (names_of_values (take i os)) ∙ sym (flat_take (λ (p : Named Object). area_names p.value.areas) os i o h e) ∙ sym (names_of_values (take (i + 1) os)))

-- ---- what stands before a suffix

are_equal : (a b : List ℕ) → a ≡ b → bytes_eq a b ≡ true
are_equal a b e = (bytes_eq-Decides a b).1 e

ended : (a s q : List ℕ) → bytes_eq (a ++ s) q ≡ (ends_with nat_eq q s && bytes_eq a (take (length q - length s) q))
ended a s q = same_tests (bytes_eq (a ++ s) q) (ends_with nat_eq q s && bytes_eq a (take (length q - length s) q))
    (λ t. there ((bytes_eq-Decides (a ++ s) q).0 t))
    (λ t. are_equal (a ++ s) q
    (let e : s ≡ drop (length q - length s) q = (bytes_eq-Decides s (drop (length q - length s) q)).0 (first_true (ends_with nat_eq q s) (bytes_eq a (take (length q - length s) q)) t) in
    let f : a ≡ take (length q - length s) q = (bytes_eq-Decides a (take (length q - length s) q)).0 (second_true (ends_with nat_eq q s) (bytes_eq a (take (length q - length s) q)) t) in
    (λ i. f i ++ e i) ∙ take-append-drop (length q - length s) q))
  where
    there : a ++ s ≡ q → (ends_with nat_eq q s && bytes_eq a (take (length q - length s) q)) ≡ true
    there e =
        let m : length a ≡ length q - length s = let k = length-append a s in let l = ap (λ (x : List ℕ). length x) e in omega arith in
        both_true (ends_with nat_eq q s) (bytes_eq a (take (length q - length s) q))
        (are_equal s (drop (length q - length s) q) (sym (drop-append_seam a s) ∙ (λ i. drop (m i) (e i))))
        (are_equal a (take (length q - length s) q) (sym (take-append_seam a s) ∙ (λ i. take (m i) (e i))))

spread : (e b a : Bool) → ((e && b) || (e && a)) ≡ (e && (b || a))
spread true b a = refl
spread false b a = refl

pub among_ended : (s q : List ℕ) (names : List (List ℕ)) → among q (map (λ a. a ++ s) names) ≡ (ends_with nat_eq q s && among (take (length q - length s) q) names)
among_ended s q [] = none (ends_with nat_eq q s)
  where
    none : (b : Bool) → false ≡ (b && false)
    none true = refl
    none false = refl
among_ended s q (a ∷ names) =
    (λ i. ended a s q i || among_ended s q names i) ∙ spread (ends_with nat_eq q s) (bytes_eq a (take (length q - length s) q)) (among (take (length q - length s) q) names)

stem_same : (m : Numbers) (names : List (List ℕ)) → ((q : List ℕ) → is_some (number_in m q) ≡ among q names) → (s q : List ℕ) → stem_in m s q ≡ among q (map (λ a. a ++ s) names)
stem_same m names known s q = ap (λ (b : Bool). ends_with nat_eq q s && b) (known (take (length q - length s) q)) ∙ sym (among_ended s q names)

-- ---- which names have a meaning

region_same : (regions : Option (List (List ℕ))) (os : List Object) (symbols : RegionSymbols) → Shows regions os symbols → (q : List ℕ) → region_by symbols q ≡ names_a_region regions os q
region_same None os AnyOfTheForm h q = refl
region_same None os (Listed names areas) h q = absurd h
region_same (Some listed) os AnyOfTheForm h q = absurd h
region_same (Some listed) os (Listed names areas) h q =
    let base = stem_same areas (names_of_areas os) h.1 (codes "$$Base") q in
    let limit = stem_same areas (names_of_areas os) h.1 (codes "$$Limit") q in
    λ i. h.0 q i || (base i || limit i)

pub known_same : (exports : Numbers) (symbols : RegionSymbols) (regions : Option (List (List ℕ))) (os : List Object) → IsIndexOf 0 os exports → Shows regions os symbols
    → ◌≡◌ {A = List ℕ → Bool} (known_by exports symbols) (is_known regions os)
known_same exports symbols regions os known shows =
    λ i q. cond (is_some (known q i)) true (region_same regions os symbols shows q i)
