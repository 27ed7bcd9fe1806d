-- What names mean by a plan: a reference has the value of the one symbol that exports its name.
use Rattle.std.proofs.Common.{◌≡◌, ◌≢◌, ℕ, zero, suc, ◌+◌, ◌%◌, ◌==◌, Bool, true, false, cond, List, [], ◌∷◌, ◌++◌, refl, sym, ap, subst, ◌∙◌, arith, Option, Some, None}
use Rattle.std.specs.Prelude.{is_some, slice_get}
use Rattle.std.specs.List.{AllByRecursion}
use Rattle.std.specs.Option.{option_map, option_and_then, option_or}
use Rattle.std.specs.Str.{bytes_eq}
use Rattle.std.proofs.lemmas.Option.{slice_get-map}
use Rattle.std.proofs.lemmas.Slice.Eq.{bytes_eq-Decides}
use Rattle.sdt_word.specs.Numbers.{bit}
use Rattle.aof_object.specs.declared.records.Object.{Object}
use Rattle.aof_object.specs.declared.records.Symbol.{Symbol}
use Rattle.aof_object.specs.Checks.{is_exported}
use Rattle.aof_object.specs.Objects.{exported}
use Rattle.aof_object.specs.Validity.{IsSymbol, IsValid, heads}
use Rattle.patch_model.specs.Fields.{Meant}
use Rattle.place_model.specs.Plans.{Plan, boot_address}
use Rattle.place_model.proofs.ListLemmas.{all_at}
use Rattle.link_model.specs.declared.selection.Definition.{Definition}
use Rattle.link_model.specs.declared.selection.Linked.{Linked}
use Rattle.link_model.specs.declared.selection.Named.{Named}
use Rattle.link_model.specs.Definitions.{definition_in, definitions_in, definitions_from}
use Rattle.link_model.specs.Meaning.{Meaning, Defined, definition_of, meaning_by, meaning_of, symbol_of}
use Rattle.link_model.specs.Members.{objects_in}
use Rattle.link_model.specs.Values.{meant_by, unplaced}
use Rattle.link_values.specs.Placed.{reduced_meant}
use Rattle.link_laws.specs.Placing.{bases_of, meant_in}
use Rattle.link_laws.specs.Plans.{IsExport, NoneExports, IsSelection, IsMeaning, IsMeantBy, AreMeant, NamesMean, numbers_by, values_by}
use Rattle.link_laws.proofs.ListLemmas.{each_at}

-- ---- the first definition of a name

found_or : (q : List ℕ) (xs ys : List Definition) → definition_of (xs ++ ys) q ≡ option_or (definition_of xs q) (definition_of ys q)
found_or q [] ys = refl
found_or q (x ∷ xs) ys = by (bytes_eq x.name q) (found_or q xs ys)
  where
    by : (b : Bool) → definition_of (xs ++ ys) q ≡ option_or (definition_of xs q) (definition_of ys q)
        → cond b (Some x) (definition_of (xs ++ ys) q) ≡ option_or (cond b (Some x) (definition_of xs q)) (definition_of ys q)
    by true h = refl
    by false h = h

both_none : {X : Type 0} (o p : Option X) → option_or o p ≡ None → (o ≡ None) × (p ≡ None)
both_none None p h = (refl, h)
both_none (Some x) p h = absurd cc

-- among symbols that are counted from a number on
record AtSymbol (q : List ℕ) (i from : ℕ) (ss : List Symbol) (d : Definition) : Type 0 where
  place : ℕ
  symbol : Symbol
  there : slice_get ss place ≡ Some symbol
  exported : is_exported symbol.attributes ≡ true
  named : symbol.name ≡ q
  object : d.object ≡ i
  number : d.symbol ≡ from + place

first_symbol : (q : List ℕ) (i from : ℕ) (ss : List Symbol) (d : Definition) → definition_of (definitions_in i from ss) q ≡ Some d → AtSymbol q i from ss d
first_symbol q i from [] d h = absurd cc
first_symbol q i from (s ∷ ss) d h = by (is_exported s.attributes) refl h (λ e. first_symbol q i (suc from) ss d e)
  where
    rest : List Definition
    rest = definitions_in i (suc from) ss

    own : Definition
    own = record { name = s.name; object = i; symbol = from }

    later : AtSymbol q i (suc from) ss d → AtSymbol q i from (s ∷ ss) d
    later f = record { place = suc f.place; symbol = f.symbol; there = f.there; exported = f.exported; named = f.named; object = f.object; number = omega (arith, f.number) }

    here : (b : Bool) → bytes_eq s.name q ≡ b → is_exported s.attributes ≡ true
        → cond b (Some (record { name = s.name; object = i; symbol = from })) (definition_of (definitions_in i (suc from) ss) q) ≡ Some d
        → (definition_of (definitions_in i (suc from) ss) q ≡ Some d → AtSymbol q i (suc from) ss d) → AtSymbol q i from (s ∷ ss) d
    here true e is h rest =
        let same : record { name = s.name; object = i; symbol = from } ≡ d = cc in
        record {
          place = 0;
          symbol = s;
          there = refl;
          exported = is;
          named = (bytes_eq-Decides s.name q).0 e;
          object = sym (ap (λ (z : Definition). z.object) same);
          number = let n : from ≡ d.symbol = ap (λ (z : Definition). z.symbol) same in omega (arith, n);
        }
    here false e is h rest = later (rest h)

    by : (b : Bool) → is_exported s.attributes ≡ b
        → definition_of (cond b (record { name = s.name; object = i; symbol = from } ∷ []) [] ++ definitions_in i (suc from) ss) q ≡ Some d
        → (definition_of (definitions_in i (suc from) ss) q ≡ Some d → AtSymbol q i (suc from) ss d) → AtSymbol q i from (s ∷ ss) d
    by true is h rest = here (bytes_eq s.name q) refl is h rest
    by false is h rest = later (rest h)

no_symbol : (q : List ℕ) (i from : ℕ) (ss : List Symbol) → definition_of (definitions_in i from ss) q ≡ None
    → (place : ℕ) (s : Symbol) → slice_get ss place ≡ Some s → is_exported s.attributes ≡ true → s.name ≡ q → ⊥
no_symbol q i from [] h place s there is named = cc
no_symbol q i from (t ∷ ss) h zero s there is named =
    let same : t ≡ s = cc in
    let exported : is_exported t.attributes ≡ true = ap (λ (z : Symbol). is_exported z.attributes) same ∙ is in
    let equal : bytes_eq t.name q ≡ true = (bytes_eq-Decides t.name q).1 (ap (λ (z : Symbol). z.name) same ∙ named) in
    let own : Definition = record { name = t.name; object = i; symbol = from } in
    let rest : List Definition = definitions_in i (suc from) ss in
    let first : definition_of (own ∷ rest) q ≡ None = ap (λ (b : Bool). definition_of (cond b (record { name = t.name; object = i; symbol = from } ∷ []) [] ++ definitions_in i (suc from) ss) q) (sym exported) ∙ h in
    let none : Some own ≡ None = ap (λ (b : Bool). cond b (Some (record { name = t.name; object = i; symbol = from })) (definition_of (definitions_in i (suc from) ss) q)) (sym equal) ∙ first in
    cc
no_symbol q i from (t ∷ ss) h (suc place) s there is named =
    no_symbol q i (suc from) ss (both_none (definition_of (definition_in i from t) q) (definition_of (definitions_in i (suc from) ss) q) (sym (found_or q (definition_in i from t) (definitions_in i (suc from) ss)) ∙ h)).1
    place s there is named

-- ---- of objects that are counted from a number on

record AtExport (q : List ℕ) (i : ℕ) (os : List (Named Object)) (d : Definition) : Type 0 where
  own : ℕ
  k : ℕ
  symbol : Symbol
  export : IsExport os q own k symbol
  object : d.object ≡ i + own
  number : d.symbol ≡ k

behind : (q : List ℕ) (o : Named Object) (os : List (Named Object)) (own k : ℕ) (s : Symbol) → IsExport os q own k s → IsExport (o ∷ os) q (suc own) k s
behind q o os own k s e = record { object = e.object; there = e.there; symbol = e.symbol; exported = e.exported; named = e.named }

pc_offset : (q : List ℕ) (o : Named Object) (os : List (Named Object)) (own k : ℕ) (s : Symbol) → IsExport (o ∷ os) q (suc own) k s → IsExport os q own k s
pc_offset q o os own k s e = record { object = e.object; there = e.there; symbol = e.symbol; exported = e.exported; named = e.named }

first_export : (q : List ℕ) (i : ℕ) (os : List (Named Object)) (d : Definition) → definition_of (definitions_from i (objects_in os)) q ≡ Some d → AtExport q i os d
first_export q i [] d h = absurd cc
first_export q i (o ∷ os) d h =
    by (definition_of (definitions_in i 0 o.value.symbols) q) refl (sym (found_or q (definitions_in i 0 o.value.symbols) (definitions_from (suc i) (objects_in os))) ∙ h)
    (λ e. first_export q (suc i) os d e)
  where
    by : (f : Option Definition) → definition_of (definitions_in i 0 o.value.symbols) q ≡ f → option_or f (definition_of (definitions_from (suc i) (objects_in os)) q) ≡ Some d
        → (definition_of (definitions_from (suc i) (objects_in os)) q ≡ Some d → AtExport q (suc i) os d) → AtExport q i (o ∷ os) d
    by (Some e) at h rest =
        let same : e ≡ d = cc in
        let s : AtSymbol q i 0 o.value.symbols d = first_symbol q i 0 o.value.symbols d (at ∙ ap Some same) in
        record {
          own = 0;
          k = s.place;
          symbol = s.symbol;
          export = record { object = o; there = refl; symbol = s.there; exported = s.exported; named = s.named };
          object = omega (arith, s.object);
          number = omega (arith, s.number);
        }
    by None at h rest =
        let r = rest h in
        record { own = suc r.own; k = r.k; symbol = r.symbol; export = behind q o os r.own r.k r.symbol r.export; object = omega (arith, r.object); number = r.number }

no_export : (q : List ℕ) (i : ℕ) (os : List (Named Object)) → definition_of (definitions_from i (objects_in os)) q ≡ None → NoneExports os q
no_export q i [] h own k s e = let there : None ≡ Some e.object = e.there in cc
no_export q i (o ∷ os) h own k s e =
    let parts = both_none (definition_of (definitions_in i 0 o.value.symbols) q) (definition_of (definitions_from (suc i) (objects_in os)) q)
    (sym (found_or q (definitions_in i 0 o.value.symbols) (definitions_from (suc i) (objects_in os))) ∙ h) in
    go own e parts.0 (no_export q (suc i) os parts.1)
  where
    go : (own : ℕ) → IsExport (o ∷ os) q own k s → definition_of (definitions_in i 0 o.value.symbols) q ≡ None → NoneExports os q → ⊥
    go zero e none rest =
        let there : Some o ≡ Some e.object = e.there in
        let same : o ≡ e.object = cc in
        no_symbol q i 0 o.value.symbols none k s (ap (λ (z : Named Object). slice_get z.value.symbols k) same ∙ e.symbol) e.exported e.named
    go (suc own) e none rest = rest own k s (pc_offset q o os own k s e)

-- ---- the value of a symbol

pub symbol_there : (os : List (Named Object)) (own k : ℕ) (o : Named Object) (s : Symbol) → slice_get os own ≡ Some o → slice_get o.value.symbols k ≡ Some s
    → symbol_of (objects_in os) own k ≡ Some s
symbol_there os own k o s at there =
    ap (option_and_then (λ (v : Object). slice_get v.symbols k)) (slice_get-map (λ (p : Named Object). p.value) os own ∙ ap (option_map (λ (p : Named Object). p.value)) at) ∙ there

-- a valid object's symbols are definitions or references
symbol_scope : (o : Object) (k : ℕ) (s : Symbol) → IsValid o → slice_get o.symbols k ≡ Some s → s.attributes % 4 ≢ 0
symbol_scope o k s valid at = (each_at (λ names y. IsSymbol (exported names) (heads o.areas) y) [] o.symbols k s valid.symbols at).1.scope

-- one that isn't defined, has no number and yet a meaning is weak
none_is_weak : (weak : Bool) → is_some (meaning_by None None weak) ≡ true → weak ≡ true
none_is_weak true h = refl
none_is_weak false h = absurd cc

module _ (plan : Plan) (l : Linked) (h : IsSelection l) where
  abbrev os : List (Named Object)
  os = l.objects

  abbrev defs : List Definition
  defs = definitions_from 0 (objects_in l.objects)

  abbrev numbers : List ℕ → Option ℕ
  numbers = numbers_by plan l.objects

  abbrev Means : Option Meaning → Meant
  Means m = reduced_meant (boot_address plan) (meant_by (objects_in l.objects) (bases_of plan) m)

  value_is : (own k : ℕ) (o : Named Object) (s : Symbol) → slice_get l.objects own ≡ Some o → slice_get o.value.symbols k ≡ Some s
      → (values_by plan l own).symbol k ≡ Means (meaning_of defs numbers own k s)
  value_is own k o s at there =
      ap (λ (z : Option Symbol). Means (option_and_then (meaning_of l.definitions numbers own k) z)) (symbol_there l.objects own k o s at there)
      ∙ ap (λ (ds : List Definition). Means (meaning_of ds numbers own k s)) h.definitions

  exported_value : (own k : ℕ) (name : List ℕ) (d : Symbol) → IsExport l.objects name own k d → meant_in plan own (symbol_of (objects_in l.objects) own k) ≡ meant_in plan own (Some d)
  exported_value own k name d e = ap (meant_in plan own) (symbol_there l.objects own k e.object d e.there e.symbol)

  by_definition : (s : Symbol) (weak : Bool) (own k : ℕ) (d : Symbol) → IsExport l.objects s.name own k d → (f : Option Definition) → definition_of defs s.name ≡ f
      → Means (meaning_by f (numbers s.name) weak) ≡ meant_in plan own (Some d)
  by_definition s weak own k d e None at = absurd (no_export s.name 0 l.objects at own k d e)
  by_definition s weak own k d e (Some f) at =
      let x : AtExport s.name 0 l.objects f = first_export s.name 0 l.objects f at in
      let (same_object, same_symbol) = h.once s.name own k x.own x.k d x.symbol e x.export in
      let object : f.object ≡ own = let a = x.object in omega (arith, a, same_object) in
      let number : f.symbol ≡ k = x.number ∙ sym same_symbol in
      ap (λ (i : ℕ). meant_in plan i (symbol_of (objects_in l.objects) i f.symbol)) object
      ∙ ap (λ (j : ℕ). meant_in plan own (symbol_of (objects_in l.objects) own j)) number
      ∙ exported_value own k s.name d e

  undefined : (q : List ℕ) → NoneExports l.objects q → (f : Option Definition) → definition_of defs q ≡ f → definition_of defs q ≡ None
  undefined q none None at = at
  undefined q none (Some f) at = let x : AtExport q 0 l.objects f = first_export q 0 l.objects f at in absurd (none x.own x.k x.symbol x.export)

  of_no_name : (weak : Bool) → Means (meaning_by None None weak) ≡ unplaced 0 false false
  of_no_name true = refl
  of_no_name false = refl

  reference : (s : Symbol) (weak : Bool) → (bit s.attributes 4 == 1) ≡ weak → is_some (meaning_by (definition_of defs s.name) (numbers s.name) weak) ≡ true
      → IsMeaning plan l.objects s (Means (meaning_by (definition_of defs s.name) (numbers s.name) weak))
  reference s weak is known = record {
    defined = λ own k d e. by_definition s weak own k d e (definition_of defs s.name) refl;
    of_region = λ none n at.
        ap (λ (f : Option Definition). Means (meaning_by f (numbers s.name) weak)) (undefined s.name none (definition_of defs s.name) refl)
        ∙ ap (λ (m : Option ℕ). Means (meaning_by None m weak)) at;
    of_none = λ none at.
        let nothing : meaning_by (definition_of defs s.name) (numbers s.name) weak ≡ meaning_by None None weak =
        ap (λ (f : Option Definition). meaning_by f (numbers s.name) weak) (undefined s.name none (definition_of defs s.name) refl)
        ∙ ap (λ (m : Option ℕ). meaning_by None m weak) at in
        (is ∙ none_is_weak weak (sym (ap is_some nothing) ∙ known), ap Means nothing ∙ of_no_name weak);
  }

  means : (own k : ℕ) (o : Named Object) (s : Symbol) → slice_get l.objects own ≡ Some o → slice_get o.value.symbols k ≡ Some s
      → (b : Bool) → is_some (cond b (Some (Defined own k)) (meaning_by (definition_of defs s.name) (numbers s.name) (bit s.attributes 4 == 1))) ≡ true
      → IsMeantBy b plan l.objects own s (Means (cond b (Some (Defined own k)) (meaning_by (definition_of defs s.name) (numbers s.name) (bit s.attributes 4 == 1))))
  means own k o s at there true known = ap (meant_in plan own) (symbol_there l.objects own k o s at there)
  means own k o s at there false known = reference s (bit s.attributes 4 == 1) refl known

  pub names_mean : AllByRecursion (λ o. IsValid o.value) l.objects → AreMeant plan l → NamesMean plan l
  names_mean valid meant own k o s at there =
      let scope : s.attributes % 4 ≢ 0 = symbol_scope o.value k s (all_at (λ o. IsValid o.value) l.objects own o valid at) there in
      let known : is_some (meaning_of defs numbers own k s) ≡ true =
      sym (ap (λ (ds : List Definition). is_some (meaning_of ds numbers own k s)) h.definitions) ∙ meant own k s (symbol_there l.objects own k o s at there) scope in
      subst (IsMeantBy (bit s.attributes 0 == 1) plan l.objects own s) (sym (value_is own k o s at there)) (means own k o s at there (bit s.attributes 0 == 1) known)
