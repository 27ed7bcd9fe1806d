-- The values that indexes tell are those of the definition.
use Rattle.std.proofs.Common.{◌≡◌, ℕ, ◌+◌, zero, suc, Bool, true, false, cond, List, [], ◌∷◌, map, Option, Some, None, refl, sym, ap, ◌∙◌, arith}
use Rattle.std.specs.Prelude.{◌==◌, slice_get, unwrap_or}
use Rattle.std.specs.Option.{option_map, option_and_then}
use Rattle.std.proofs.lemmas.Option.{slice_get-map}
use Rattle.sdt_word.specs.Numbers.{bit}
use Rattle.aof_object.specs.declared.records.Object.{Object}
use Rattle.aof_object.specs.declared.records.Symbol.{Symbol}
use Rattle.patch_model.specs.Fields.{Meant}
use Rattle.link_model.specs.declared.placing.Placement.{Placement}
use Rattle.link_model.specs.declared.selection.Definition.{Definition}
use Rattle.link_model.specs.Meaning.{Defined, definition_of, meaning_by, meaning_of, symbol_of}
use Rattle.link_model.specs.Members.{Link}
use Rattle.link_model.specs.RegionValues.{region_number}
use Rattle.link_model.specs.Values.{Bases, meant_of, meant_by, unplaced, values_of}
use Rattle.link_values.specs.declared.values.SymbolContext.{SymbolContext}
use Rattle.link_values.specs.declared.values.SymbolValue.{SymbolValue}
use Rattle.link_values.specs.Index.{place_of}
use Rattle.link_values.specs.Placed.{base_in, reduced_meant, values_in}
use Rattle.link_values.specs.Values.{meant, named_value, known_value, taken_value, all_values, AreValues, Knows}

-- ---- one symbol

named_same : (os : List Object) (base_at : Bases) (d : Option Definition) (n : Option ℕ) (weak : Bool)
    → named_value os base_at (option_map place_of d) n ≡ meant_by os base_at (meaning_by d n weak)
named_same os base_at (Some d) n weak = refl
named_same os base_at None (Some n) weak = refl
named_same os base_at None None true = refl
named_same os base_at None None false = refl

by_kind : (os : List Object) (base_at : Bases) (object k : ℕ) (s : Symbol) → symbol_of os object k ≡ Some s → (own : Bool) (d : Option Definition) (n : Option ℕ) (weak : Bool)
    → cond own (meant_of base_at object (Some s)) (named_value os base_at (option_map place_of d) n) ≡ meant_by os base_at (cond own (Some (Defined object k)) (meaning_by d n weak))
by_kind os base_at object k s there true d n weak = ap (meant_of base_at object) (sym there)
by_kind os base_at object k s there false d n weak = named_same os base_at d n weak

value_same : (l : Link) (p : Placement) (known : SymbolContext) → Knows l p known → (object k : ℕ) (s : Symbol) → symbol_of l.objects object k ≡ Some s
    → known_value known object s ≡ (values_of l (region_number l.objects p) (base_in p) object).symbol k
value_same l p known h object k s there =
    (λ i. cond (bit s.attributes 0 == 1) (meant_of (λ o a. h.bases o a i) object (Some s))
    (named_value (h.objects i) (λ o a. h.bases o a i) (h.definitions s.name i) (h.symbols s.name i)))
    ∙ by_kind l.objects (base_in p) object k s there (bit s.attributes 0 == 1) (definition_of l.definitions s.name) (region_number l.objects p s.name) (bit s.attributes 4 == 1)
    ∙ ap (λ (o : Option Symbol). meant_by l.objects (base_in p) (option_and_then (meaning_of l.definitions (region_number l.objects p) object k) o)) (sym there)

-- ---- all of them

listed : (value : ℕ → Symbol → Meant) (i : ℕ) (os : List Object) (j : ℕ)
    → slice_get (all_values value i os) j ≡ option_map (λ o. map (value (i + j)) o.symbols) (slice_get os j)
listed value i [] j = refl
listed value i (o ∷ os) zero = let e : i ≡ i + zero = omega arith in ap (λ (n : ℕ). Some (map (value n) o.symbols)) e
listed value i (o ∷ os) (suc j) =
    let e : suc i + j ≡ i + suc j = omega arith in
    listed value (suc i) os j ∙ ap (λ (n : ℕ). option_map (λ o. map (value n) o.symbols) (slice_get os j)) e

met : (o : Option (List SymbolValue)) (k : ℕ) → option_map meant (option_and_then (λ vs. slice_get vs k) o) ≡ option_and_then (λ ms. slice_get ms k) (option_map (map meant) o)
met None k = refl
met (Some vs) k = sym (slice_get-map meant vs k)

of_object : (f : Symbol → Meant) (o : Option Object) (k : ℕ)
    → option_and_then (λ ms. slice_get ms k) (option_map (λ o. map f o.symbols) o) ≡ option_map f (option_and_then (λ o. slice_get o.symbols k) o)
of_object f None k = refl
of_object f (Some o) k = slice_get-map f o.symbols k

there_or : (l : Link) (p : Placement) (known : SymbolContext) → Knows l p known → (object k : ℕ) (o : Option Symbol) → symbol_of l.objects object k ≡ o
    → unwrap_or (option_map (taken_value p.boot known object) o) (unplaced 0 false false) ≡ (values_in l p object).symbol k
there_or l p known h object k None there =
    ap (λ (o : Option Symbol). reduced_meant p.boot (meant_by l.objects (base_in p) (option_and_then (meaning_of l.definitions (region_number l.objects p) object k) o))) (sym there)
there_or l p known h object k (Some s) there = ap (reduced_meant p.boot) (value_same l p known h object k s there)

pub all_known : (l : Link) (p : Placement) (known : SymbolContext) (values : List (List SymbolValue)) → Knows l p known
    → map (map meant) values ≡ all_values (taken_value p.boot known) 0 l.objects → AreValues l p values
all_known l p known values h e object k =
    ap (λ (o : Option Meant). unwrap_or o (unplaced 0 false false))
    (met (slice_get values object) k
    ∙ ap (option_and_then (λ ms. slice_get ms k)) (sym (slice_get-map (map meant) values object) ∙ ap (λ (l : List (List Meant)). slice_get l object) e ∙ listed (taken_value p.boot known) 0 l.objects object)
    ∙ ap (λ (n : ℕ). option_and_then (λ ms. slice_get ms k) (option_map (λ o. map (taken_value p.boot known n) o.symbols) (slice_get l.objects object))) from_zero
    ∙ of_object (taken_value p.boot known object) (slice_get l.objects object) k)
    ∙ there_or l p known h object k (symbol_of l.objects object k) refl
  where
    from_zero : 0 + object ≡ object
    from_zero = omega arith
