use Rattle.std.proofs.Common.{◌≡◌, ℕ, List, Result, Ok, Err, ap, ◌∙◌, arith}
use Rattle.std.specs.Prelude.{IfOk, sum_by}
use Rattle.link_place.specs.declared.layouts.Layout.{Layout}
use Rattle.link_place.specs.declared.parts.Part.{Part}
use Rattle.link_place.specs.Parts.{piece_count}
use Rattle.link_place.specs.Layouts.{layout_of}
use Rattle.link_place.proofs.MergeLemmas.{merged_count, merged_layout}
use Rattle.link_place.proofs.layouts.least_layout.Goals as goal

pub search-requires-2-clause-room : goal.search-requires-2-clause-room
search-requires-2-clause-room c =
    let same = ap (λ (ps : List Part). sum_by piece_count ps) (c.as_slice.ensures.value ∙ c.in_ok-merged.ensures) in
    omega (arith, same, merged_count c.args.parts.now, c.requires.room)

same_layout : {E : Type 0} (r : Result Layout E) (one other : Layout) → one ≡ other → IfOk r (λ l. l ≡ one) → IfOk r (λ l. l ≡ other)
same_layout (Ok l) one other e h = h ∙ e
same_layout (Err f) one other e h = tt

pub returns : goal.returns
returns c =
    let zero : 0 ≡ c.args.origin = omega (arith, c.if-origin-ne0.false) in
    same_layout c.search-2.result (layout_of 0 c.args.groups.now c.as_slice.result.now c.args.most) (layout_of c.args.origin c.args.groups.now c.args.parts.now c.args.most)
    (ap (λ (ps : List Part). layout_of 0 c.args.groups.now ps c.args.most) (c.as_slice.ensures.value ∙ c.in_ok-merged.ensures)
    ∙ merged_layout c.args.groups.now c.args.parts.now c.args.most
    ∙ ap (λ (o : ℕ). layout_of o c.args.groups.now c.args.parts.now c.args.most) zero)
    c.search-2.ensures
