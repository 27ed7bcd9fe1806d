use Rattle.std.proofs.Common.{◌+◌, ℕ, arith}
use Rattle.std.proofs.Math.ListN.{replicate}
use Rattle.std.proofs.lemmas.List.{length-replicate}
use Rattle.sdt_outside.proofs.store.file.FileStoreStore.read_up_to.Goals as goal

pub returns-in-Ok-None-clause-found : goal.returns-in-Ok-None-clause-found
returns-in-Ok-None-clause-found g c =
    let n = c.args.most + 1 in
    (replicate n 0, _, omega (arith, length-replicate {A = ℕ} n 0))
