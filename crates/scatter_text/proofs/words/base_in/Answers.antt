use Rattle.std.proofs.Common.{◌≡◌, ◌-◌, true, false, sym, arith, length, take, drop}
use Rattle.std.proofs.lemmas.Grind.{common_steps}
use Rattle.scatter_text.specs.Parts.{first_is}
use Rattle.scatter_text.proofs.words.base_in.Goals as goal

pub returns-then-first_is : goal.returns-then-first_is
returns-then-first_is c =
    let e : first_is 43 c.args.text.now ≡ true = sym c.if-first_is.ensures in
    let t : take (length c.args.text.now - 1) (drop 1 c.args.text.now) ≡ drop 1 c.args.text.now = grind (arith, common_steps) in
    rw e (rw t at c.offset_in.ensures)

pub returns : goal.returns
returns c = let e : first_is 43 c.args.text.now ≡ false = sym c.if-first_is.ensures in rw e c.address_in.ensures
