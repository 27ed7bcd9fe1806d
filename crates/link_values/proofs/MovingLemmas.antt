-- What indexes tell of moving symbols is what the definition says.
use Rattle.std.proofs.Common.{◌≡◌, ℕ, Bool, true, false, cond, List, Option, Some, None, refl, sym, ap, ◌∙◌}
use Rattle.std.specs.Prelude.{◌==◌}
use Rattle.std.specs.Option.{option_map, option_and_then}
use Rattle.sdt_word.specs.Numbers.{bit}
use Rattle.aof_object.specs.declared.records.Object.{Object}
use Rattle.aof_object.specs.declared.records.Symbol.{Symbol}
use Rattle.link_model.specs.declared.placing.Placement.{Placement}
use Rattle.link_model.specs.declared.selection.Definition.{Definition}
use Rattle.link_model.specs.Meaning.{Defined, definition_of, meaning_by, meaning_of, symbol_of}
use Rattle.link_model.specs.Members.{Link, objects_in}
use Rattle.link_model.specs.RegionValues.{region_number}
use Rattle.link_model.specs.Values.{meaning_at}
use Rattle.link_values.specs.declared.values.SymbolContext.{SymbolContext}
use Rattle.link_values.specs.Index.{place_of}
use Rattle.link_values.specs.Moving.{is_moving, is_moving_symbol, named_moving, known_moving}
use Rattle.link_values.specs.Values.{Knows}

named_same : (os : List Object) (d : Option Definition) (n : Option ℕ) (weak : Bool)
    → named_moving os (option_map place_of d) n ≡ is_moving os (meaning_by d n weak)
named_same os (Some d) n weak = refl
named_same os None (Some n) weak = refl
named_same os None None true = refl
named_same os None None false = refl

by_kind : (os : List Object) (object k : ℕ) (s : Symbol) → symbol_of os object k ≡ Some s → (own : Bool) (d : Option Definition) (n : Option ℕ) (weak : Bool)
    → cond own (is_moving_symbol (Some s)) (named_moving os (option_map place_of d) n) ≡ is_moving os (cond own (Some (Defined object k)) (meaning_by d n weak))
by_kind os object k s there true d n weak = ap is_moving_symbol (sym there)
by_kind os object k s there false d n weak = named_same os d n weak

of_symbol : (l : Link) (p : Placement) (known : SymbolContext) → Knows l p known → (object k : ℕ) (o : Option Symbol) → symbol_of l.objects object k ≡ o
    → known_moving known o ≡ is_moving l.objects (option_and_then (meaning_of l.definitions (region_number l.objects p) object k) o)
of_symbol l p known h object k None there = refl
of_symbol l p known h object k (Some s) there =
    (λ i. cond (bit s.attributes 0 == 1) (is_moving_symbol (Some s)) (named_moving (h.objects i) (h.definitions s.name i) (h.symbols s.name i)))
    ∙ by_kind l.objects object k s there (bit s.attributes 0 == 1) (definition_of l.definitions s.name) (region_number l.objects p s.name) (bit s.attributes 4 == 1)

pub known_moves : (known : SymbolContext) (object k : ℕ) (l : Link) (p : Placement) → Knows l p known
    → known_moving known (symbol_of (objects_in known.objects.now) object k) ≡ is_moving l.objects (meaning_at l (region_number l.objects p) object k)
known_moves known object k l p h =
    ap (λ (os : List Object). known_moving known (symbol_of os object k)) h.objects ∙ of_symbol l p known h object k (symbol_of l.objects object k) refl
