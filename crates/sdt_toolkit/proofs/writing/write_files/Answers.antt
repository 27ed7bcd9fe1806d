use Rattle.std.proofs.Common.{arith, ◌∙◌}
use Rattle.sdt_toolkit.proofs.WriteLemmas.{written_step, written_fail}
use Rattle.sdt_toolkit.proofs.writing.write_files.Goals as goal

pub returns-in_default : goal.returns-in_default
returns-in_default g c =
    let files = g.S.Store.files in
    let count = g.S.Store.write_faults in
    let before = c.loop-file.invariant in
    record {
      says = written_fail c.write_file.result (files c.args.store.now) (files c.loop-file.store) (files c.write_file.new.store) c.args.files.now c.loop-file.file-index c.file-item.result
          (count c.args.store.now) (count c.loop-file.store) (count c.write_file.new.store) c.loop-file-test.true c.file-item.is before.writes before.written c.write_file.ensures.says c.in_default.not-Done;
      reads = c.write_file.ensures.reads ∙ before.reads;
      writes = omega (arith, c.write_file.ensures.writes, before.writes);
    }

pub loop-file-preserved : goal.loop-file-preserved
loop-file-preserved g c =
    let files = g.S.Store.files in
    let before = c.loop-file.invariant in
    record {
      written = written_step (files c.args.store.now) (files c.loop-file.store) (files c.write_file.new.store) c.args.files.now c.loop-file.file-index c.file-item.result c.loop-file-test.true c.file-item.is before.written c.in-Done.ensures.says;
      reads = c.write_file.ensures.reads ∙ before.reads;
      writes = omega (arith, c.write_file.ensures.writes, before.writes);
    }
