use Rattle.std.proofs.Common.{◌≡◌, ap, ◌∙◌}
use Rattle.asm_model.specs.AtLine.{with_names}
use Rattle.asm_model.specs.Entries.{equal_entry}
use Rattle.asm_model.specs.Meaning.{meaning}
use Rattle.asm_names.specs.PlacedLines.{line_of}
use Rattle.asm_names.specs.Owing.{owed_of}
use Rattle.asm_names.specs.Source.{IsEntryOf}
use Rattle.asm_names.proofs.CallLemmas.{if_ok_more}
use Rattle.asm_names.proofs.settling.entry_of.Goals as goal

pub returns : goal.returns
returns c =
    let make = equal_entry c.args.declared.now c.args.due.now.line.place.area c.args.due.now.name.now in
    if_ok_more (λ entry. entry ≡ make c.in_ok-value.value) (IsEntryOf c.args.known.now c.args.declared.now (owed_of c.args.due.now))
    (λ entry e ps t d is.
    e ∙ ap make (c.in_ok-value.ensures (meaning (with_names (line_of c.args.due.now.line) c.args.known.now) t) (c.final_value.ensures ps t d is)))
    c.equal_entry.result c.equal_entry.ensures
