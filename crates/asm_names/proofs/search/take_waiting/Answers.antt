use Rattle.std.proofs.Common.{length, refl, sym, ap, ◌∙◌, Some}
use Rattle.std.specs.Prelude.{Vec}
use Rattle.std.specs.declared.alloc.Global.{Global}
use Rattle.std.proofs.lemmas.Option.{slice_get_read}
use Rattle.asm_names.specs.declared.search.Waiting.{Waiting}
use Rattle.asm_names.proofs.search.take_waiting.Goals as goal

pub returns : goal.returns
returns c = record {
  old = c.replace.result;
  had =
      slice_get_read c.args.waits.now.items (length c.args.waits.now.items) c.args.number c.index_mut.result.now refl c.requires c.index_mut.ensures.value
      ∙ ap Some (sym c.replace.ensures.value);
  items = refl;
  new = c.replace.new.dest;
  empty = ap (λ (v : Vec Waiting Global). v.items) c.replace.ensures.after ∙ c.new.ensures.items;
  is = refl;
}
