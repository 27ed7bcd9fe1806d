use Rattle.asm_expr.proofs.known.put_noted.Goals as goal

pub returns-in-Ok : goal.returns-in-Ok
returns-in-Ok g c = record {
  new = c.in-Ok.ensures.new;
  more = c.in_ok-push.ensures.items;
  noted = c.in-Ok.ensures.ok;
  kept = tt;
  unchanged = tt;
}
