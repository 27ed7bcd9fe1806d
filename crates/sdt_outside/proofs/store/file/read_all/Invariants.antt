use Rattle.std.proofs.Common.{◌≤◌, vec_len}
use Rattle.sdt_outside.proofs.store.file.read_all.Given as goal

abbrev pub invariant-chunks : goal.invariant-chunks
invariant-chunks g l = vec_len l.bytes ≤ l.most
