use Rattle.asm_names.proofs.SourceLemmas.{final_is}
use Rattle.asm_names.proofs.names.final_names.Goals as goal

pub returns : goal.returns
returns c statements source =
    final_is statements c.args.lines.now c.args.declared.now c.in_ok-dues.dues.items c.as_slice.result.now c.as_slice-2.result.now
    c.in_ok-places.places.items c.as_slice-3.result.now c.new.result c.in_ok-first.first c.in_ok-known.known c.entries_of-3.result source
    c.in_ok-dues.ensures c.as_slice.ensures.value c.as_slice-2.ensures.value c.as_slice-3.ensures.value c.new.ensures
    c.in_ok-places.ensures c.in_ok-first.ensures c.in_ok-known.ensures c.entries_of-3.ensures
