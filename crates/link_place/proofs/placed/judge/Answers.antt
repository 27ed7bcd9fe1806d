use Rattle.std.proofs.Common.{◌∙◌, sym}
use Rattle.link_place.proofs.CheckLemmas.{low_of, none_left}
use Rattle.link_place.proofs.placed.judge.Goals as goal

pub judge_ranges-requires-clause-low : goal.judge_ranges-requires-clause-low
judge_ranges-requires-clause-low c =
    let none = none_left c.in_ok-refusal-2.field-0 c.in_default-2.not-Some in
    let low = (low_of c.as_slice.result.now c.as_slice-regions.result.now (sym c.in_ok-refusal-2.ensures ∙ none)).0 in
    rw c.as_slice-regions.ensures at low

pub judge_ranges-requires-clause-low_loads : goal.judge_ranges-requires-clause-low_loads
judge_ranges-requires-clause-low_loads c =
    let none = none_left c.in_ok-refusal-2.field-0 c.in_default-2.not-Some in
    let low = (low_of c.as_slice.result.now c.as_slice-regions.result.now (sym c.in_ok-refusal-2.ensures ∙ none)).1 in
    rw c.as_slice.ensures at low

pub returns-clause-low : goal.returns-clause-low
returns-clause-low c =
    let none = none_left c.in_ok-refusal-2.field-0 c.in_default-2.not-Some in
    let low = (low_of c.as_slice.result.now c.as_slice-regions.result.now (sym c.in_ok-refusal-2.ensures ∙ none)).0 in
    λ h. rw c.as_slice-regions.ensures at low
