use Rattle.std.proofs.Common.{ℕ, List, Option, subst}
use Rattle.std.specs.Prelude.{OnOk}
use Rattle.asm_laying.specs.Numbered.{Enters}
use Rattle.asm_laying.proofs.areas.Areas.enter.Goals as goal

pub returns-in-Some : goal.returns-in-Some
returns-in-Some c =
    subst (λ (n : Option (List ℕ)). OnOk c.enter_named.result (Enters n c.args.self.now c.enter_named.new.self)) c.in-Some.ensures c.enter_named.ensures
