use Rattle.std.proofs.Common.{◌∷◌}
use Rattle.source_model.specs.Registers.{half_registers}
use Rattle.asm_registers.proofs.forms.half_transfer_kind.Goals as goal

pub returns : goal.returns
returns c =
    c.with_rest-2.ensures (c.args.rn.now ∷ half_registers c.args.offset.now) (c.with_rest.ensures (half_registers c.args.offset.now) c.half_kind.ensures)
