use Rattle.std.proofs.Common.{◌≡◌, sym, ap, ◌∙◌, arith, ◌<◌, ℕ, List, None, Some}
use Rattle.asm_model.specs.declared.tokens.TokenKind.{TokenKind}
use Rattle.asm_model.specs.declared.tokens.Due.TheVariants.{Operands}
use Rattle.asm_lines.specs.Steps.{IsTheToken}
use Rattle.asm_lines.specs.Lengths.{best_of}
use Rattle.asm_lines.proofs.KindLemmas.{best_longest, best_none}
use Rattle.asm_lines.proofs.ScanLemmas.{longest_is_the, none_is_the}
use Rattle.asm_lines.proofs.scan.longest_token.Goals as goal

none : (rest : List ℕ) (best : TokenKind × ℕ) → best ≡ best_of rest → best.1 ≡ 0 → IsTheToken Operands rest None
none rest best e z = none_is_the rest (best_none rest (ap (λ (b : TokenKind × ℕ). b.1) (sym e) ∙ z))

found : (rest : List ℕ) (best : TokenKind × ℕ) → best ≡ best_of rest → 0 < best.1 → IsTheToken Operands rest (Some best)
found rest best e some = rw e (longest_is_the rest (best_of rest).0 (best_of rest).1 (best_longest rest (rw e at some)))

pub returns-then-best-eq0 : goal.returns-then-best-eq0
returns-then-best-eq0 c = none c.args.rest.now c.best_of-best.result c.best_of-best.ensures.value c.if-best-eq0.true

pub returns : goal.returns
returns c = found c.args.rest.now c.best_of-best.result c.best_of-best.ensures.value (omega (arith, c.if-best-eq0.false))
