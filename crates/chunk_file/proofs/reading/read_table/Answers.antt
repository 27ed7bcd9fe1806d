use Rattle.chunk_file.specs.Chunks.{table_of}
use Rattle.chunk_file.specs.Grammar.{ReadsTable}
use Rattle.chunk_file.proofs.Guards.{found, only}
use Rattle.chunk_file.proofs.Table.{table_law}
use Rattle.chunk_file.proofs.reading.read_table.Goals as goal

pub returns-clause-found : goal.returns-clause-found
returns-clause-found c = found c.table.result (table_of c.args.b.now) (ReadsTable c.args.b.now) (table_law c.args.b.now) c.table.ensures

pub returns-clause-only : goal.returns-clause-only
returns-clause-only c = only c.table.result (table_of c.args.b.now) (ReadsTable c.args.b.now) (table_law c.args.b.now) c.table.ensures
