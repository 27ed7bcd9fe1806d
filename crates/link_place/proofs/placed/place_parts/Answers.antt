use Rattle.std.proofs.Common.{◌∙◌, sym}
use Rattle.std.specs.Option.{option_copied}
use Rattle.link_place.proofs.AnswerLemmas.{words_low, own_input, counts_input, is_refused, is_placed}
use Rattle.link_place.proofs.CheckLemmas.{none_left}
use Rattle.link_place.proofs.placed.place_parts.Goals as goal

pub judge-requires-clause-words : goal.judge-requires-clause-words
judge-requires-clause-words c = words_low c.args.input.now c.in_ok-layout.layout c.args.parts.now c.requires.parts c.requires.few c.in_ok-layout.ensures

pub judge-requires-clause-own : goal.judge-requires-clause-own
judge-requires-clause-own c =
    own_input c.args.input.now c.in_ok-layout.layout c.args.parts.now c.origin_of-origin.result c.requires.parts c.origin_of-origin.ensures c.in_ok-layout.ensures

pub judge-requires-clause-counts : goal.judge-requires-clause-counts
judge-requires-clause-counts c = counts_input c.args.input.now c.in_ok-layout.layout c.in_ok-layout.ensures

pub placement-requires-clause-words : goal.placement-requires-clause-words
placement-requires-clause-words c = words_low c.args.input.now c.in_ok-layout.layout c.args.parts.now c.requires.parts c.requires.few c.in_ok-layout.ensures

pub placement-requires-clause-low : goal.placement-requires-clause-low
placement-requires-clause-low c = c.in_ok-refusal.ensures.low (none_left c.in_ok-refusal.field-0 c.in_default.not-Some)

pub placement-requires-clause-own : goal.placement-requires-clause-own
placement-requires-clause-own c =
    own_input c.args.input.now c.in_ok-layout.layout c.args.parts.now c.origin_of-origin.result c.requires.parts c.origin_of-origin.ensures c.in_ok-layout.ensures

pub returns-in-Some : goal.returns-in-Some
returns-in-Some c =
    is_refused c.args.input.now (option_copied c.args.ram) c.in_ok-layout.layout c.args.parts.now c.origin_of-origin.result c.in-Some.refusal
    c.requires.parts c.origin_of-origin.ensures c.in_ok-layout.ensures (sym c.in-Some.is ∙ c.in_ok-refusal.ensures.told)

pub returns : goal.returns
returns c =
    let none = none_left c.in_ok-refusal.field-0 c.in_default.not-Some in
    is_placed c.args.input.now (option_copied c.args.ram) c.in_ok-layout.layout c.args.parts.now c.origin_of-origin.result c.in_ok-placement.field-0
    c.requires.parts c.origin_of-origin.ensures c.in_ok-layout.ensures (sym none ∙ c.in_ok-refusal.ensures.told) c.in_ok-placement.ensures
