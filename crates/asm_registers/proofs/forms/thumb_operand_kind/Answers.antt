use Rattle.std.proofs.Common.{not, ◌∙◌}
use Rattle.sdt_fault.specs.declared.kinds.LineKind.TheVariants.{BadOperand}
use Rattle.asm_model.specs.Kinds.{kind_if}
use Rattle.asm_model.proofs.SharedLemmas.{told_of_two}
use Rattle.source_model.specs.Registers.{number_of, range_kinds, thumb_list, has_row}
use Rattle.asm_registers.proofs.forms.thumb_operand_kind.Goals as goal

pub returns : goal.returns
returns c =
    let known = c.args.known.now in
    let l = c.args.line.now in
    c.first_told.ensures
    ∙ told_of_two c.thumb_range_kind.result c.row_kind.result (range_kinds known (thumb_list l)) (kind_if (not (has_row (number_of known) l)) BadOperand)
    c.thumb_range_kind.ensures c.row_kind.ensures
