-- Where no name is undefined, each symbol has a meaning.
use Rattle.std.proofs.Common.{◌≡◌, ◌≢◌, ℕ, suc, ◌%◌, Bool, true, false, cond, ◌||◌, true≢false, List, [], ◌∷◌, ◌++◌, Option, Some, None, Result, Ok, Err, refl, sym, ap, ◌∙◌, subst, arith}
use Rattle.std.specs.Prelude.{is_some, IfOk, IsSomeAnd, ◌==◌}
use Rattle.std.specs.List.{find}
use Rattle.std.specs.Str.{bytes_eq}
use Rattle.std.proofs.lemmas.Bool.{eqb-false, eq-eqb}
use Rattle.sdt_word.specs.Numbers.{bit}
use Rattle.sdt_fault.specs.declared.answer.Fault.{Fault}
use Rattle.chunk_file.specs.Reading.{Gives}
use Rattle.aof_object.specs.declared.records.Object.{Object}
use Rattle.aof_object.specs.declared.records.Symbol.{Symbol}
use Rattle.aof_object.specs.Names.{among}
use Rattle.aof_object.specs.Checks.{is_exported}
use Rattle.aof_object.specs.Objects.{exported}
use Rattle.link_model.specs.declared.selection.Definition.{Definition}
use Rattle.link_model.specs.declared.selection.Linked.{Linked}
use Rattle.link_model.specs.declared.selection.Named.{Named}
use Rattle.link_model.specs.Chosen.{exports, exporter, is_needed}
use Rattle.link_model.specs.Definitions.{definitions_in, definitions_from}
use Rattle.link_model.specs.Meaning.{Defined, definition_of, meaning_by, meaning_of, symbol_of}
use Rattle.link_model.specs.Members.{objects_in}
use Rattle.link_model.specs.RegionNames.{names_a_region}
use Rattle.link_select.specs.Laws.{HasNumbers, HaveMeanings}
use Rattle.link_select.specs.Selection.{selection_of}
use Rattle.link_select.specs.Undefined.{is_known}
use Rattle.link_select.proofs.LawLemmas.{kept, none_lacks}
use Rattle.link_select.proofs.SelectionLemmas.{selected_link}

-- ---- the definitions are the exports

found_behind : (p : Definition → Bool) (xs ys : List Definition) → is_some (find p (xs ++ ys)) ≡ (is_some (find p xs) || is_some (find p ys))
found_behind p [] ys = refl
found_behind p (x ∷ xs) ys = by (p x) (found_behind p xs ys)
  where
    by : (b : Bool) → is_some (find p (xs ++ ys)) ≡ (is_some (find p xs) || is_some (find p ys))
        → is_some (cond b (Some x) (find p (xs ++ ys))) ≡ (is_some (cond b (Some x) (find p xs)) || is_some (find p ys))
    by true h = refl
    by false h = h

found_in : (q : List ℕ) (i k : ℕ) (ss : List Symbol) → is_some (definition_of (definitions_in i k ss) q) ≡ among q (exported ss)
found_in q i k [] = refl
found_in q i k (s ∷ ss) = by (is_exported s.attributes) (found_in q i (suc k) ss)
  where
    rest : List Definition
    rest = definitions_in i (suc k) ss

    d : Definition
    d = record { name = s.name; object = i; symbol = k }

    here : (b : Bool) → is_some (definition_of rest q) ≡ among q (exported ss) → is_some (cond b (Some d) (definition_of rest q)) ≡ (b || among q (exported ss))
    here true h = refl
    here false h = h

    by : (b : Bool) → is_some (definition_of (definitions_in i (suc k) ss) q) ≡ among q (exported ss)
        → is_some (definition_of (cond b (record { name = s.name; object = i; symbol = k } ∷ []) [] ++ definitions_in i (suc k) ss) q) ≡ among q (cond b (s.name ∷ exported ss) (exported ss))
    by true h = here (bytes_eq s.name q) h
    by false h = h

found_from : (q : List ℕ) (i : ℕ) (os : List Object) → is_some (definition_of (definitions_from i os) q) ≡ is_some (exporter i q os)
found_from q i [] = refl
found_from q i (o ∷ os) =
    found_behind (λ d. bytes_eq d.name q) (definitions_in i 0 o.symbols) (definitions_from (suc i) os)
    ∙ (λ j. found_in q i 0 o.symbols j || found_from q (suc i) os j) ∙ by (exports o q)
  where
    by : (b : Bool) → (b || is_some (exporter (suc i) q os)) ≡ is_some (cond b (Some i) (exporter (suc i) q os))
    by true = refl
    by false = refl

-- ---- a symbol's meaning

always : (d : Option Definition) (n : Option ℕ) → is_some (meaning_by d n true) ≡ true
always (Some d) n = refl
always None (Some n) = refl
always None None = refl

defined : (d : Option Definition) (n : Option ℕ) (weak : Bool) → is_some d ≡ true → is_some (meaning_by d n weak) ≡ true
defined (Some d) n weak h = refl
defined None n weak h = absurd (true≢false (sym h))

of_region : (d : Option Definition) (n : Option ℕ) (weak : Bool) → is_some n ≡ true → is_some (meaning_by d n weak) ≡ true
of_region (Some d) n weak h = refl
of_region None (Some n) weak h = refl
of_region None None weak h = absurd (true≢false (sym h))

reference : (a : ℕ) → a % 4 ≢ 0 → (bit a 0 == 1) ≡ false → (bit a 4 == 1) ≡ false → is_needed a ≡ true
reference a some odd weak =
    let lowest = eqb-false (bit a 0) 1 odd in
    let strong = eqb-false (bit a 4) 1 weak in
    let two : a % 4 ≡ 2 = reference_kind a some lowest in
    rw (eq-eqb (a % 4) 2 two) (eq-eqb (bit a 4) 0 (omega arith))
  where
    reference_kind : (n : ℕ) → n % 4 ≢ 0 → bit n 0 ≢ 1 → n % 4 ≡ 2
    reference_kind n some odd = omega arith

known_test : (b : Bool) → (b ≡ false → ⊥) → b ≡ true
known_test true h = refl
known_test false h = absurd (h refl)

has_meaning : (regions : Option (List (List ℕ))) (os : List Object) (numbers : List ℕ → Option ℕ) (i k : ℕ) (s : Symbol) → HasNumbers regions os numbers
    → (is_needed s.attributes ≡ true → is_known regions os s.name ≡ true) → s.attributes % 4 ≢ 0
    → is_some (meaning_of (definitions_from 0 os) numbers i k s) ≡ true
has_meaning regions os numbers i k s has known some = by_definition (bit s.attributes 0 == 1) refl
  where
    d : Option Definition
    d = definition_of (definitions_from 0 os) s.name

    by_known : (b : Bool) (weak : Bool) → is_some (exporter 0 s.name os) ≡ b → cond b true (names_a_region regions os s.name) ≡ true
        → is_some (meaning_by (definition_of (definitions_from 0 os) s.name) (numbers s.name) weak) ≡ true
    by_known true weak e h = defined d (numbers s.name) weak (found_from s.name 0 os ∙ e)
    by_known false weak e h = of_region d (numbers s.name) weak (has s.name h)

    by_weak : (weak : Bool) → (bit s.attributes 0 == 1) ≡ false → (bit s.attributes 4 == 1) ≡ weak
        → is_some (meaning_by (definition_of (definitions_from 0 os) s.name) (numbers s.name) weak) ≡ true
    by_weak true odd e = always d (numbers s.name)
    by_weak false odd e = by_known (is_some (exporter 0 s.name os)) false refl (known (reference s.attributes some odd e))

    by_definition : (b : Bool) → (bit s.attributes 0 == 1) ≡ b
        → is_some (cond b (Some (Defined i k)) (meaning_by (definition_of (definitions_from 0 os) s.name) (numbers s.name) (bit s.attributes 4 == 1))) ≡ true
    by_definition true e = refl
    by_definition false e = by_weak (bit s.attributes 4 == 1) e refl

-- ---- of a selection

pub meanings_exist : (regions : Option (List (List ℕ))) (os : List (Named Object)) (r : Result Linked Fault) → Gives r (selection_of regions os) → IfOk r (λ l. HaveMeanings regions l)
meanings_exist regions os (Err e) h = tt
meanings_exist regions os (Ok l) h = λ numbers i k s has there some.
    let link = selected_link regions os l h in
    let here : symbol_of (objects_in os) i k ≡ Some s = ap (λ (x : List (Named Object)). symbol_of (objects_in x) i k) (sym link.0) ∙ there in
    let lacks = none_lacks regions os (kept regions os l h).1 i k in
    let of_these : HasNumbers regions (objects_in os) numbers = subst (λ (x : List (Named Object)). HasNumbers regions (objects_in x) numbers) link.0 has in
    let Lacks : Option Symbol → Type 0 = λ o. IsSomeAnd o (λ t. (is_needed t.attributes ≡ true) × (is_known regions (objects_in os) t.name ≡ false)) in
    let known : is_needed s.attributes ≡ true → is_known regions (objects_in os) s.name ≡ true =
    λ needed. known_test (is_known regions (objects_in os) s.name) (λ unknown. lacks (subst Lacks (sym here) (needed, unknown))) in
    ap (λ (ds : List Definition). is_some (meaning_of ds numbers i k s)) link.1
    ∙ has_meaning regions (objects_in os) numbers i k s of_these known some
