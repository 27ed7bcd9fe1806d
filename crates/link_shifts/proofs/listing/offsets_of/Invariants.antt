use Rattle.std.proofs.Common.{◌≡◌, ◌+◌, ◌-◌, ◌*◌, ◌++◌}
use Rattle.image_model.specs.AifFiles.{shifted_offsets}
use Rattle.link_shifts.specs.Changes.{times_in}
use Rattle.link_shifts.proofs.listing.offsets_of.Given as goal

abbrev pub invariant-loop-word : goal.invariant-loop-word
invariant-loop-word l =
    l.offsets.items ++ shifted_offsets (λ at. times_in l.changes (l.base + at)) (4 * l.word) (l.words - l.word)
    ≡ shifted_offsets (λ at. times_in l.changes (l.base + at)) 0 l.words
