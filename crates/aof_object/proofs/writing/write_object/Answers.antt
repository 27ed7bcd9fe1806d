use Rattle.std.proofs.Common.{subst}
use Rattle.chunk_file.specs.declared.records.Chunks.{Chunks}
use Rattle.chunk_file.specs.Reading.{Gives}
use Rattle.chunk_file.specs.Chunks.{written}
use Rattle.aof_object.proofs.writing.write_object.Goals as goal

pub returns : goal.returns
returns c = subst (λ (x : Chunks). Gives c.write_chunks.result (written x)) c.in_ok-chunks.ensures c.write_chunks.ensures
