use Rattle.std.proofs.Common.{[], refl, ◌∙◌, Ok}
use Rattle.asm_model.specs.Operands.{operands_at}
use Rattle.asm_expr.proofs.ReadingLemmas.{attributes_behind}
use Rattle.asm_expr.proofs.areas.attributes.Goals as goal

pub returns-in-None : goal.returns-in-None
returns-in-None c = rw c.in-None.is (Ok [], refl, rw c.no_alignments.ensures at c.attributes_with.ensures)

pub returns-in_ok-words-in-Some : goal.returns-in_ok-words-in-Some
returns-in_ok-words-in-Some c =
    let read = c.in_ok-words-in-Some in
    rw c.in-Some.is
    (attributes_behind c.args.text.now (operands_at c.args.text.now 0 c.in-Some.tokens.now) c.as_slice.result.now read.field-0.has_other read.field-0.alignments
    c.attributes_with-in-Some.result (c.as_slice.ensures.value ∙ read.ensures.0) read.ensures.1 read.ensures.2 c.attributes_with-in-Some.ensures)
