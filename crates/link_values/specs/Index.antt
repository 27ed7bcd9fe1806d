-- Indexes of names, as functions. This project's.
use Rattle.std.specs.Prelude.{◌≡◌, ℕ, nat_eq, List, Option}
use Rattle.std.specs.Borrow.{Bor}
use Rattle.std.specs.Cmp.Lexicographic.{pointwise}
use Rattle.std.specs.Option.{option_map}
use Rattle.std.specs.declared.hash.FoldHasher.{FoldHasher}
use Rattle.std.specs.declared.hash.BuildHasherDefault.{BuildHasherDefault}
use Rattle.indexmap.specs.IndexMap.{IndexMap, get_by}
use Rattle.link_model.specs.declared.selection.Definition.{Definition}
use Rattle.link_model.specs.Meaning.{definition_of}
use Rattle.link_values.specs.declared.definitions.Defined.{Defined}

abbrev pub Index : Type 0 → Type 0
Index V = IndexMap (Bor (List ℕ)) V (BuildHasherDefault FoldHasher)

abbrev pub found_in : {V : Type 0} → Index V → List ℕ → Option V
found_in m q = get_by (λ k. pointwise nat_eq q k.now) m

abbrev pub place_of : Definition → Defined
place_of d = record { object = d.object; symbol = d.symbol }

-- each name has the place of the first of these definitions of it
abbrev pub IsIndexOf : List Definition → Index Defined → Type 0
IsIndexOf definitions m = (q : List ℕ) → found_in m q ≡ option_map place_of (definition_of definitions q)
