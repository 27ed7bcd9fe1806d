use Rattle.std.proofs.Common.{ℕ, ◌+◌, ap, ◌∙◌}
use Rattle.image_model.specs.AifFiles.{shifted_offsets}
use Rattle.link_shifts.specs.Changes.{times_in}
use Rattle.link_shifts.specs.Moves.{parts_words}
use Rattle.link_shifts.proofs.ShiftLemmas.{offsets_same}
use Rattle.link_shifts.proofs.listing.list_of.Goals as goal

pub returns : goal.returns
returns c =
    let l = c.args.image.now.linked.now in
    let p = c.args.image.now.placement.now in
    let same = offsets_same l p c.in_ok-changes.changes c.image_base.result c.image_base.ensures c.requires.movable c.in_ok-changes.ensures in
    c.from_vec.ensures ∙ c.in_ok-offsets.ensures
    ∙ ap (λ n. shifted_offsets (λ at. times_in c.in_ok-changes.changes (c.image_base.result + at)) 0 n) c.in_ok-words.ensures
    ∙ ap (λ (f : ℕ → ℕ). shifted_offsets f 0 (parts_words p)) same
