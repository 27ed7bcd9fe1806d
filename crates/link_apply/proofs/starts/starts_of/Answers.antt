use Rattle.std.proofs.Common.{sym, ◌∙◌}
use Rattle.link_values.specs.Bases.{base_of}
use Rattle.link_apply.proofs.StartLemmas.{starts_small}
use Rattle.link_apply.proofs.starts.starts_of.Goals as goal

pub note-requires-clause-small : goal.note-requires-clause-small
note-requires-clause-small c = λ p s e.
    starts_small (base_of c.args.bases.now c.args.object) c.args.symbols.now c.args.relocs.now c.loop-i.i (c.requires.bases c.args.object) c.requires.symbols c.requires.few p s (sym (c.loop-i.invariant p) ∙ e)
