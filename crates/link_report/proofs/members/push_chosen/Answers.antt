use Rattle.std.proofs.Common.{◌++◌, List, map, ap, ◌∙◌}
use Rattle.link_report.specs.Shown.{shown_need}
use Rattle.link_report.specs.declared.members.Need.{Need}
use Rattle.link_report.proofs.MemberLemmas.{members_found}
use Rattle.link_report.proofs.members.push_chosen.Goals as goal

pub returns : goal.returns
returns c =
    c.in_ok-push_found.ensures
    ∙ ap (λ text. c.args.out.now.items ++ text)
    (members_found c.args.objects.now c.args.definitions.now c.in_ok-index.index (map shown_need c.as_slice.result.now) c.in_ok-firsts.firsts c.args.given
    c.in_ok-index.ensures (ap (λ (ns : List Need). map shown_need ns) c.as_slice.ensures.value ∙ c.in_ok-needs.ensures) c.in_ok-firsts.ensures)
