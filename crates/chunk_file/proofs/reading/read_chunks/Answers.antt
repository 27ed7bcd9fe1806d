use Rattle.chunk_file.specs.Chunks.{chunks_of}
use Rattle.chunk_file.specs.Grammar.{ReadsChunks}
use Rattle.chunk_file.proofs.Guards.{found, only}
use Rattle.chunk_file.proofs.Table.{chunks_law}
use Rattle.chunk_file.proofs.reading.read_chunks.Goals as goal

pub returns-clause-found : goal.returns-clause-found
returns-clause-found c = found c.all.result (chunks_of c.args.b.now) (ReadsChunks c.args.b.now) (chunks_law c.args.b.now) c.all.ensures

pub returns-clause-only : goal.returns-clause-only
returns-clause-only c = only c.all.result (chunks_of c.args.b.now) (ReadsChunks c.args.b.now) (chunks_law c.args.b.now) c.all.ensures
