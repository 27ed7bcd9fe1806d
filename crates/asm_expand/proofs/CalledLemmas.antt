-- Words where no macro is defined.
use Rattle.std.proofs.Common.{◌≡◌, ℕ, List, [], ◌∷◌, length, refl, sym, ◌∙◌, ap, Option, Some, None}
use Rattle.expand_model.specs.States.{State}
use Rattle.expand_model.specs.Operations.{operation_of}
use Rattle.expand_model.specs.Steps.{Plain, kind_of, macro_called}
use Rattle.expand_model.specs.Words.{Words, as_name}
use Rattle.asm_variables.specs.declared.expansion.Expansion.{Expansion}
use Rattle.asm_variables.specs.Expanding.{Represents, maybe_macro}
use Rattle.asm_variables.specs.Maps.{Map, value_named}

-- nothing is found where there is no entry
none_named : {V : Type 0} (m : Map V) (q : List ℕ) → length m.entries ≡ 0 → value_named m q ≡ None
none_named {V} m q h = by m.entries refl h
  where
    by : (es : List (List ℕ × V)) → m.entries ≡ es → length es ≡ 0 → value_named m q ≡ None
    by [] e z = rw e refl
    by (x ∷ xs) e z = absurd (cc)

pub no_macro : (c : Expansion) (s : State) (o : Option (List ℕ)) → Represents c s → length c.macros.entries ≡ 0 → None ≡ macro_called o s.macros
no_macro c s None r z = refl
no_macro c s (Some q) r z = sym (ap maybe_macro (none_named c.macros q z)) ∙ r.macros q

-- what is no word of expansion is plain
pub plain_kind : (c : Expansion) (s : State) (w : Words) → Represents c s → length c.macros.entries ≡ 0 → operation_of w.operation ≡ None
    → Plain ≡ kind_of s.macros w
unfolding kind_of
plain_kind c s w r z e = rw (e, ← no_macro c s (as_name w.operation) r z) refl
