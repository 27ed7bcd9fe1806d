use Rattle.std.proofs.Common.{sym, ap, ◌∙◌}
use Rattle.std.specs.Option.{option_copied}
use Rattle.asm_model.specs.Kinds.{told_kind}
use Rattle.asm_model.specs.LayoutKinds.{fault_kinds}
use Rattle.source_model.specs.Contexts.{sees}
use Rattle.source_model.specs.Units.{stored}
use Rattle.asm_units.proofs.PassLemmas.{loaded_kinds, names_shown}
use Rattle.asm_units.proofs.second_pass.literal_kind.Goals as goal

pub returns-in_ok-word-in-Some : goal.returns-in_ok-word-in-Some
returns-in_ok-word-in-Some c = λ c' data_names sizes s word w e h is.
    let shown = names_shown c.args.tables.now c' data_names sizes s word w h in
    c.word_fault.ensures c' data_names
    ∙ ap told_kind
    (ap (λ v. fault_kinds (stored c' data_names v)) (c.in_ok-word-in-Some.ensures (sees c') shown.names)
    ∙ sym (loaded_kinds c' data_names e c.in-Some.value.now (is ∙ ap option_copied c.in-Some.is)))
