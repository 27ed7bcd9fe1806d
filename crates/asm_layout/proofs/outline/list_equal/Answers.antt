use Rattle.std.proofs.Common.{◌≡◌, List, ◌++◌, not, refl, sym, ap, ◌∙◌}
use Rattle.std.specs.Option.{is_some}
use Rattle.asm_model.specs.declared.statements.Statement.{Statement}
use Rattle.asm_model.specs.Labels.{Equal, defined_by, declared_names}
use Rattle.asm_model.specs.Meaning.{named_in}
use Rattle.asm_names.specs.Defining.{defined_of}
use Rattle.asm_names.specs.Equals.{pairs_of}
use Rattle.asm_layout.proofs.OutlineLemmas.{copied_some, AreListed, are_listed}
use Rattle.asm_layout.proofs.outline.list_equal.Goals as goal

pub returns-in_ok-push : goal.returns-in_ok-push
returns-in_ok-push c =
    let x = defined_by c.args.statement.now in
    let name = c.in-Equal.name.now in
    let e = c.in-Equal.value.now in
    let old = c.args.listed.now.names in
    let is : x ≡ Equal name e = sym c.defined_by.ensures ∙ ap defined_of c.in-Equal.is in
    let test : not c.is_none-first.result ≡ is_some (named_in name old) = sym c.is_none-first.ensures ∙ copied_some c.find.result ∙ ap is_some c.find.ensures in
    let are : (before : List Statement) → old ≡ declared_names before → AreListed x name e c.is_none-first.result before =
    λ before names. are_listed x name e c.is_none-first.result old before is test names in
    record {
      names = refl;
      repeats = refl;
      equals = λ before names. c.in_ok-push_first.ensures ∙ ap (λ es. pairs_of c.args.listed.now.equals.items ++ es) (are before names).equal;
      firsts = λ before names. c.in_ok-push.ensures.items ∙ ap (λ bs. c.args.listed.now.firsts.items ++ bs) (are before names).mark;
    }
