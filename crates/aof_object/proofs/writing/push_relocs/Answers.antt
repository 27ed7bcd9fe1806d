use Rattle.std.proofs.Common.{ℕ, List, ◌++◌, get_or, ap, ◌∙◌, append_assoc}
use Rattle.std.specs.List.{flat_map}
use Rattle.std.proofs.lemmas.List.{take_all}
use Rattle.sdt_word.specs.Bytes.{bytes_of}
use Rattle.aof_object.specs.declared.records.Reloc.{Reloc}
use Rattle.aof_object.specs.Spelling.{reloc_row}
use Rattle.aof_object.proofs.Lists.{rows_at}
use Rattle.aof_object.proofs.writing.push_relocs.Goals as goal

pub loop-reloc-preserved : goal.loop-reloc-preserved
loop-reloc-preserved c =
    let zero : Reloc = record { offset = 0; word = 0 } in
    let r : Reloc = get_or c.args.relocs.now c.loop-reloc.reloc-index zero in
    let old = c.loop-reloc.out.items in
    rows_at reloc_row c.args.relocs.now c.loop-reloc.reloc-index zero c.args.out.now.items old c.push_word-in-loop-reloc.new.out.items c.loop-reloc-test.true c.loop-reloc.invariant
    (c.in_ok-push_word-2.ensures ∙ ap (λ (x : List ℕ). x ++ bytes_of r.word 4) c.in_ok-push_word.ensures ∙ append_assoc old (bytes_of r.offset 4) (bytes_of r.word 4))

pub returns : goal.returns
returns c = c.loop-reloc.invariant ∙ ap (λ (l : List Reloc). c.args.out.now.items ++ flat_map reloc_row l) (take_all c.loop-reloc.reloc-index c.args.relocs.now c.loop-reloc-test.false)
