-- Names of prototypes.
use Rattle.std.proofs.Common.{◌≡◌, ℕ, zero, suc, ◌+◌, ◌-◌, ◌<◌, ◌≤◌, List, [], ◌∷◌, ◌++◌, Bool, true, false, cond, ◌||◌, length, take, drop, get_or, map, subst, refl, sym, ◌∙◌, ap, arith, Option, Some, None}
use Rattle.std.specs.Option.{is_some}
use Rattle.std.specs.List.{list_any}
use Rattle.asm_model.specs.Forms.{same}
use Rattle.asm_model.proofs.SharedLemmas.{same_back}
use Rattle.expand_model.specs.declared.macros.Macro.{Macro}
use Rattle.expand_model.specs.declared.macros.Parameter.{Parameter}
use Rattle.expand_model.specs.declared.macros.Prototype.{Prototype}
use Rattle.expand_model.specs.Prototypes.{is_long, is_macro, is_repeated, macro_named, parameter_names}
use Rattle.expand_model.specs.Words.{listed}
use Rattle.std.proofs.lemmas.List.{drop_more, drop-drop}
use Rattle.asm_model.specs.declared.lines.Line.{Line}
use Rattle.expand_model.specs.Pairing.{Whole, taken}
use Rattle.expand_model.specs.States.{State}
use Rattle.expand_model.specs.Steps.{Sources, defined_as, with_visits}
use Rattle.asm_variables.specs.declared.expansion.Definition.{Definition}
use Rattle.asm_variables.specs.declared.expansion.Expansion.{Expansion}
use Rattle.asm_expand.specs.declared.line_cursors.LineCursor.{LineCursor}
use Rattle.asm_expand.specs.declared.steps.Next.TheVariants as next
use Rattle.asm_expand.specs.Defining.{names_of}
use Rattle.asm_variables.specs.Expanding.{Becomes, Represents, macro_of, maybe_macro, with_macro}
use Rattle.asm_expand.specs.LineCursors.{cursor_lines}
use Rattle.asm_expand.specs.Saying.{Shows}

or_false : (b : Bool) → (b || false) ≡ b
or_false true = refl
or_false false = refl

long_parameters : (ps : List Parameter) → list_any is_long (map (λ q. q.name) ps) ≡ list_any (λ p. is_long p.name) ps
long_parameters [] = refl
long_parameters (p ∷ ps) = ap (λ (b : Bool). is_long p.name || b) (long_parameters ps)

pub long_names : (p : Prototype) → list_any is_long (parameter_names p) ≡ (list_any is_long (listed p.label) || list_any (λ q. is_long q.name) p.parameters)
long_names p = by p.label
  where
    by : (o : Option (List ℕ)) → list_any is_long (listed o ++ map (λ q. q.name) p.parameters)
        ≡ (list_any is_long (listed o) || list_any (λ q. is_long q.name) p.parameters)
    by None = long_parameters p.parameters
    by (Some n) = ap (λ (b : Bool). is_long n || b) (long_parameters p.parameters)
        ∙ ap (λ (b : Bool). b || list_any (λ q. is_long q.name) p.parameters) (sym (or_false (is_long n)))

-- a macro has the name
pub is_macro_some : (name : List ℕ) (macros : List Macro) → is_macro macros name ≡ is_some (macro_named name macros)
is_macro_some name [] = refl
is_macro_some name (m ∷ ms) = by (same m.prototype.name name) (is_macro_some name ms)
  where
    by : (b : Bool) → is_macro ms name ≡ is_some (macro_named name ms) → (b || is_macro ms name) ≡ is_some (cond b (Some m) (macro_named name ms))
    by true e = refl
    by false e = e

any_back : (n : List ℕ) (ns : List (List ℕ)) → list_any (λ m. same m n) ns ≡ list_any (same n) ns
any_back n [] = refl
any_back n (m ∷ ms) = ap (λ (b : Bool). b || list_any (λ k. same k n) ms) (same_back m n) ∙ ap (λ (b : Bool). same n m || b) (any_back n ms)

-- the label's name, where no two parameters have one
pub repeated_label : (p : Prototype) (n : List ℕ) → p.label ≡ Some n → is_repeated (names_of p.parameters) ≡ false
    → is_repeated (parameter_names p) ≡ list_any (λ m. same m n) (names_of p.parameters)
repeated_label p n e h =
    ap (λ (o : Option (List ℕ)). is_repeated (listed o ++ names_of p.parameters)) e
    ∙ ap (λ (b : Bool). list_any (same n) (names_of p.parameters) || b) h ∙ or_false (list_any (same n) (names_of p.parameters))
    ∙ sym (any_back n (names_of p.parameters))

-- ---- names that stand twice

repeated_behind : (k : ℕ) (ps : List Parameter) → is_repeated (names_of (drop k ps)) ≡ true → is_repeated (names_of ps) ≡ true
repeated_behind zero ps h = h
repeated_behind (suc k) [] h = h
repeated_behind (suc k) (p ∷ ps) h =
    ap (λ (b : Bool). list_any (same p.name) (names_of ps) || b) (repeated_behind k ps h) ∙ or_true (list_any (same p.name) (names_of ps))
  where
    or_true : (b : Bool) → (b || true) ≡ true
    or_true true = refl
    or_true false = refl

from_here : (ps : List Parameter) (i : ℕ) (p : Parameter) → 0 < i → i ≤ length ps → p ≡ get_or ps (i - 1) p → drop (i - 1) ps ≡ p ∷ drop i ps
from_here ps i p a b e =
    let next : i - 1 + 1 ≡ i = omega arith in
    drop_more ps (i - 1) p (omega arith) ∙ ap (λ (x : Parameter). x ∷ drop (i - 1 + 1) ps) (sym e) ∙ ap (λ (k : ℕ). p ∷ drop k ps) next

pub twice_here : (ps : List Parameter) (i : ℕ) (p : Parameter) → 0 < i → i ≤ length ps → p ≡ get_or ps (i - 1) p
    → list_any (λ n. same n p.name) (names_of (drop i ps)) ≡ true → is_repeated (names_of ps) ≡ true
twice_here ps i p a b e h =
    repeated_behind (i - 1) ps
    (ap (λ (xs : List Parameter). is_repeated (names_of xs)) (from_here ps i p a b e)
    ∙ ap (λ (t : Bool). t || is_repeated (names_of (drop i ps))) (sym (any_back p.name (names_of (drop i ps))) ∙ h))

pub once_here : (ps : List Parameter) (i : ℕ) (p : Parameter) → 0 < i → i ≤ length ps → p ≡ get_or ps (i - 1) p
    → list_any (λ n. same n p.name) (names_of (drop i ps)) ≡ false → is_repeated (names_of (drop i ps)) ≡ false
    → is_repeated (names_of (drop (i - 1) ps)) ≡ false
once_here ps i p a b e h g =
    ap (λ (xs : List Parameter). is_repeated (names_of xs)) (from_here ps i p a b e)
    ∙ ap (λ (t : Bool). t || is_repeated (names_of (drop i ps))) (sym (any_back p.name (names_of (drop i ps))) ∙ h) ∙ g

pub seen_more : (ps : List Parameter) (i : ℕ) (p : Parameter) (q : List ℕ) (old : Bool) → 0 < i → i ≤ length ps → p ≡ get_or ps (i - 1) p
    → old ≡ list_any (λ n. same n q) (names_of (drop i ps)) → (same p.name q || old) ≡ list_any (λ n. same n q) (names_of (drop (i - 1) ps))
seen_more ps i p q old a b e h =
    ap (λ (t : Bool). same p.name q || t) h
    ∙ sym (ap (λ (xs : List Parameter). list_any (λ n. same n q) (names_of xs)) (from_here ps i p a b e))

-- ---- macros that are known

some_macro : (o : Option Definition) → is_some (maybe_macro o) ≡ is_some o
some_macro None = refl
some_macro (Some d) = refl

pub known_macro : (o : Option Definition) (name : List ℕ) (macros : List Macro) → maybe_macro o ≡ macro_named name macros → is_some o ≡ is_macro macros name
known_macro o name macros h = sym (some_macro o) ∙ ap (λ (x : Option Macro). is_some x) h ∙ sym (is_macro_some name macros)

-- ---- a macro that is defined

pub whole_defined : (sources : Sources) (c0 c1 c2 c3 : Expansion) (p : Prototype) (l : Line) (s : State) (given body : List Line) (count : ℕ) (d : Definition)
    (place : LineCursor)
    → Represents c0 s → given ≡ body → taken c0.visits given ≡ Whole (take count given) (c0.visits - (count + 1)) (drop (count + 1) given)
    → macro_of d ≡ record { prototype = p; body = take count body }
    → Becomes c0 c1 (with_macro (macro_of d)) → Becomes c1 c2 (λ t. with_visits (t.visits - count) t) → Becomes c2 c3 (λ t. with_visits (t.visits - 1) t)
    → cursor_lines place ≡ drop 1 (drop count body)
    → Shows sources c3 (next.Go place) (defined_as p l s (taken s.visits body))
whole_defined sources c0 c1 c2 c3 p l s given body count d place r e h m f g k at =
    let t : taken s.visits body ≡ Whole (take count body) (s.visits - (count + 1)) (drop (count + 1) body) = rw (r.visits, e) at h in
    let fewer : s.visits - count - 1 ≡ s.visits - (count + 1) = omega arith in
    let last = k _ (g _ (f s r)) in
    let is : State = record s { visits = s.visits - (count + 1); macros = record { prototype = p; body = take count body } ∷ s.macros } in
    let same : (record s { visits = s.visits - count - 1; macros = macro_of d ∷ s.macros }) ≡ is =
    λ i. record s { visits = fewer i; macros = m i ∷ s.macros } in
    rw t (subst (λ (x : State). Represents c3 x) same last, at ∙ drop-drop 1 count body)
