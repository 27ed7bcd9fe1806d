use Rattle.std.proofs.Common.{ℕ, MatchOption, subst}
use Rattle.thumb_isa.specs.ThumbRows.{IsUnread, ReadsThumb}
use Rattle.thumb_isa.proofs.ThumbLemmas.{only-from_found}
use Rattle.thumb_isa.proofs.decode.decode_thumb.Goals as goal

pub returns-clause-only : goal.returns-clause-only
returns-clause-only c =
    let Found : ℕ → Type 0 = λ h. MatchOption c.instruction_of.result (IsUnread h) (ReadsThumb h) in
    only-from_found c.instruction_of.result c.args.h (subst Found c.from.ensures c.instruction_of.ensures)
