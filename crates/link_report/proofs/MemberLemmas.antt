-- What an index of definitions and one of first references tell is what the link says.
use Rattle.std.proofs.Common.{◌≡◌, ℕ, List, Option, Some, None, refl, ap, ◌∙◌}
use Rattle.std.specs.List.{find}
use Rattle.std.specs.Option.{option_map}
use Rattle.aof_object.specs.declared.records.Object.{Object}
use Rattle.link_model.specs.declared.selection.Definition.{Definition}
use Rattle.link_model.specs.declared.selection.Named.{Named}
use Rattle.link_model.specs.Meaning.{definition_of}
use Rattle.link_values.specs.declared.definitions.Defined.{Defined}
use Rattle.link_values.specs.Index.{Index, IsIndexOf, place_of}
use Rattle.link_report.specs.Members.{Need, answers, first_need, is_by, needs_from, members_from}
use Rattle.link_report.specs.Shown.{AreFirsts, Firsts, first_in, is_answered, is_of}

same_object : (object : ℕ) (d : Option Definition) → is_of object (option_map place_of d) ≡ is_by object d
same_object object None = refl
same_object object (Some d) = refl

answered : (ds : List Definition) (index : Index Defined) → IsIndexOf ds index → (object : ℕ) (n : Need) → is_answered index object n ≡ answers ds object n
answered ds index h object n = ap (is_of object) (h n.name) ∙ same_object object (definition_of ds n.name)

first_same : (os : List (Named Object)) (ds : List Definition) (index : Index Defined) (needs : List Need) (m : Firsts) → IsIndexOf ds index
    → needs ≡ needs_from 0 os → AreFirsts index needs m → (object : ℕ) → first_in m object ≡ first_need ds os object
first_same os ds index needs m h e firsts object =
    firsts object ∙ (ap (λ f. find f needs) (λ i n. answered ds index h object n i)
    ∙ ap (find (answers ds object)) e)

pub members_found : (os : List (Named Object)) (ds : List Definition) (index : Index Defined) (needs : List Need) (m : Firsts) (given : ℕ)
    → IsIndexOf ds index → needs ≡ needs_from 0 os → AreFirsts index needs m
    → members_from os (first_in m) given 0 os ≡ members_from os (first_need ds os) given 0 os
members_found os ds index needs m given h e firsts =
    ap (λ f. members_from os f given 0 os) (λ i object. first_same os ds index needs m h e firsts object i)
