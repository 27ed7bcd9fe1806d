-- Names are found by their index.
use Rattle.std.proofs.Common.{◌≡◌, ◌<◌, ℕ, List, false, length, not, Option, sym, ap, ◌∙◌}
use Rattle.std.specs.List.{slice_get}
use Rattle.std.specs.Option.{is_some}
use Rattle.std.proofs.lemmas.Option.{slice_get-get_or}
use Rattle.asm_model.specs.declared.names.LaidName.{LaidName}
use Rattle.asm_model.specs.Meaning.{named_in}
use Rattle.asm_expr.specs.Known.{Numbers, place_in, IsIndexed}
use Rattle.asm_expr.specs.Places.{entry}
use Rattle.asm_expr.proofs.PlaceLemmas.{entry_there}

pub found_there : (list : List LaidName) (places : Numbers) (q : List ℕ) (o : Option ℕ) → IsIndexed list places → o ≡ place_in places q
    → entry list o ≡ named_in q list
found_there list places q o index e = ap (entry list) (e ∙ index q) ∙ entry_there q list

-- a place within numbers has one
pub has_number : (numbers : List ℕ) (i : ℕ) → i < length numbers → false ≡ not (is_some (slice_get numbers i))
has_number numbers i h = sym (ap (λ (o : Option ℕ). not (is_some o)) (slice_get-get_or numbers i 0 h))
