use Rattle.std.proofs.Common.{refl}
use Rattle.std.proofs.lemmas.List.{reverse-append}
use Rattle.asm_expr.proofs.parser.Parser.hold.Goals as goal

pub returns : goal.returns
returns c = rw (c.in_ok-push.ensures.items, reverse-append) refl
