use Rattle.std.proofs.Common.{sym, subst}
use Rattle.std.specs.Option.{option_copied}
use Rattle.asm_model.specs.Labels.{Defined}
use Rattle.asm_names.specs.Steps.{one_entry}
use Rattle.asm_laying.specs.Laying.{names_shown, DefinedRead, IsEquated}
use Rattle.asm_laying.proofs.SeeLemmas.{found_shown, defined_read}
use Rattle.asm_laying.proofs.finding.find.Goals as goal

pub equal_there-requires : goal.equal_there-requires
equal_there-requires c =
    subst (λ (x : Defined). DefinedRead x) (sym c.defined_by-defines.ensures)
    (defined_read c.args.statement.now.label c.args.statement.now.what c.requires.said.read)

pub returns : goal.returns
returns c = λ before at known owned.
    let d = c.args.declared.now in
    let location = c.args.location.now in
    let own = option_copied c.args.own in
    let seen = names_shown d c.args.names.now (one_entry own) location in
    found_shown d c.args.statement.now before c.args.names.now own location _ at known owned
    (record {
      needed = record {
        extent_is = c.in_ok-extent.ensures.extent;
        after_is = c.in_ok-map.ensures;
        equal_is = subst (λ (x : Defined). IsEquated d location.area seen x c.in_ok-equal.equal) c.defined_by-defines.ensures c.in_ok-equal.ensures;
      };
      number = c.in_ok-number.ensures;
      strings = c.in_ok-extent.ensures.strings;
    })
