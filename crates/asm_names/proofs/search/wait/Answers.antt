use Rattle.std.proofs.Common.{length, refl}
use Rattle.std.proofs.lemmas.Option.{slice_get_read}
use Rattle.asm_names.proofs.search.wait.Goals as goal

pub returns : goal.returns
returns c = record {
  old = c.index_mut.result.now;
  had = slice_get_read c.args.waits.now.items (length c.args.waits.now.items) c.args.number c.index_mut.result.now refl c.requires c.index_mut.ensures.value;
  new = c.push.new.self;
  items = c.in_ok-push.ensures.items;
  is = refl;
}
