use Rattle.asm_pool.proofs.LawLemmas.{pool_law}
use Rattle.asm_pool.proofs.laws.pool_law.Goals as goal

pub returns : goal.returns
returns c = pool_law
