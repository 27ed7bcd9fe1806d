use Rattle.std.proofs.Common.{◌≡◌, ◌∙◌, ℕ, ap, arith}
use Rattle.armsd_core.specs.Texts.{first_registers}
use Rattle.armsd_core.proofs.texts.numbered.Goals as goal

pub returns-clause-text : goal.returns-clause-text
returns-clause-text c = let all : c.loop-k.k ≡ 16 = omega arith in c.loop-k.invariant.text ∙ ap (λ (k : ℕ). first_registers c.args.state.now k) all
