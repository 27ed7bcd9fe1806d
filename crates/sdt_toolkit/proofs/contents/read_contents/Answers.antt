use Rattle.std.proofs.Common.{[], ◌∷◌, ◌+◌, ◌∙◌, ℕ, ap, arith, length-append}
use Rattle.std.proofs.lemmas.List.Elements.{All-push}
use Rattle.tool_answers.proofs.InputLemmas.{inputs_fail}
use Rattle.sdt_toolkit.specs.Contents.{IsShort}
use Rattle.sdt_toolkit.proofs.ContentLemmas.{read_step}
use Rattle.sdt_toolkit.proofs.contents.read_contents.Goals as goal

pub loop-name-preserved : goal.loop-name-preserved
loop-name-preserved g c =
    let told = g.S.Store.files c.args.store.now in
    let found = rw (c.loop-name.invariant.files, c.is_source.ensures) at c.in-Ok.ensures.found in
    record {
      found = rw c.in-Ok-put.ensures (read_step told c.args.sources c.args.names.now c.loop-name.contents.items c.loop-name.name-index c.name-item.result c.in-Ok.content c.loop-name-test.true c.name-item.is c.loop-name.invariant.found found);
      count = rw c.in-Ok-put.ensures (length-append c.loop-name.contents.items (c.in-Ok.content ∷ []) ∙ ap (λ (n : ℕ). n + 1) c.loop-name.invariant.count);
      short = rw c.in-Ok-put.ensures (All-push IsShort c.loop-name.contents.items c.in-Ok.content c.loop-name.invariant.short c.in-Ok.ensures.short);
      files = c.file_content.ensures.files ∙ c.loop-name.invariant.files;
      reads = omega (arith, c.file_content.ensures.read_faults, c.loop-name.invariant.reads);
      writes = c.file_content.ensures.write_faults ∙ c.loop-name.invariant.writes;
    }

pub returns-in-Err-clause-end : goal.returns-in-Err-clause-end
returns-in-Err-clause-end g c =
    let is_end = rw c.loop-name.invariant.files at c.in-Err.ensures.end in
    inputs_fail c.in-Err.end (g.S.Store.files c.args.store.now) c.args.names.now c.loop-name.invariant.found.contents c.loop-name.name-index c.name-item.result
    (g.S.Store.read_faults c.args.store.now) (g.S.Store.read_faults c.loop-name.store) (g.S.Store.read_faults c.file_content.new.store)
    c.loop-name-test.true c.name-item.is c.loop-name.invariant.reads c.loop-name.invariant.found.found is_end
