use Rattle.std.proofs.Common.{◌≡◌, sym, ap, ◌∙◌, subst}
use Rattle.std.specs.Prelude.{IfOk}
use Rattle.std.specs.Option.{option_copied}
use Rattle.source_model.specs.Units.{linked_symbol}
use Rattle.asm_instructions.specs.Leads.{led}
use Rattle.asm_instructions.specs.Lookups.{context_of}
use Rattle.asm_instructions.proofs.LoneLemmas.{lone_found, lone_value}
use Rattle.asm_instructions.proofs.branches.lead_there.Goals as goal

pub place_lead-requires-clause-entry : goal.place_lead-requires-clause-entry
place_lead-requires-clause-entry c =
    sym (lone_found c.args.lookup.now.names.now c.args.target.now.items c.in-Some.entry.now (sym c.lone_place.ensures ∙ ap option_copied c.in-Some.is))

pub returns-in-Some-clause-displacement : goal.returns-in-Some-clause-displacement
returns-in-Some-clause-displacement c =
    let is = sym c.lone_place.ensures ∙ ap option_copied c.in-Some.is in
    subst (λ v. IfOk c.place_lead.result (λ lead. lead.0 ≡ led c.args.ahead c.args.link (context_of c.args.lookup.now) v))
    (sym (lone_value c.args.lookup.now c.args.target.now c.in-Some.entry.now c.requires.read is)) c.place_lead.ensures.displacement

pub returns-in-Some-clause-symbol : goal.returns-in-Some-clause-symbol
returns-in-Some-clause-symbol c =
    let is = sym c.lone_place.ensures ∙ ap option_copied c.in-Some.is in
    subst (λ v. IfOk c.place_lead.result (λ lead. lead.1 ≡ linked_symbol (context_of c.args.lookup.now) v))
    (sym (lone_value c.args.lookup.now c.args.target.now c.in-Some.entry.now c.requires.read is)) c.place_lead.ensures.symbol
