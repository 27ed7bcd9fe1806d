use Rattle.std.proofs.Common.{◌+◌, Some, refl}
use Rattle.asm_laying.proofs.AreaLemmas.{goes_on}
use Rattle.asm_laying.proofs.areas.Areas.add.Goals as goal

pub returns : goal.returns
returns c =
    goes_on c.args.self.now
    (record { numbers = c.insert.new.self; count = c.args.self.now.count + 1; current = Some c.args.self.now.count; ends = c.add_area.new.self })
    c.args.name.now c.requires.new (rw c.in_ok-name.ensures at c.in_ok-insert.ensures.updates) refl refl c.in_ok-add_area.ensures.more
    c.in_ok-add_area.ensures.behind
