use Rattle.std.proofs.Common.{sym, ◌∙◌, ◌++◌, ap, append-nil, if◌then◌else◌, []}
use Rattle.link_report.specs.Selections.{has_taken, unused_line}
use Rattle.link_report.proofs.SelectionLemmas.{taken_alike}
use Rattle.link_report.proofs.selections.push_unused.Goals as goal

pub returns-then-is_there : goal.returns-then-is_there
returns-then-is_there c = λ offers items h.
    let taken = sym (taken_alike offers items c.key_of.result c.args.selection.now c.key_of.ensures.home c.key_of.ensures.sought) ∙ sym (h c.key_of.result) ∙ sym c.is_there.ensures ∙ c.if-is_there.true in
    sym (append-nil c.args.out.now.items)
    ∙ sym (ap (λ b. c.args.out.now.items ++ (if b then [] else unused_line c.args.region.now c.args.selection.now)) taken)

pub returns : goal.returns
returns c = λ offers items h.
    let taken = sym (taken_alike offers items c.key_of.result c.args.selection.now c.key_of.ensures.home c.key_of.ensures.sought) ∙ sym (h c.key_of.result) ∙ sym c.is_there.ensures ∙ c.if-is_there.false in
    c.in_ok-push_line.ensures
    ∙ sym (ap (λ b. c.args.out.now.items ++ (if b then [] else unused_line c.args.region.now c.args.selection.now)) taken)
