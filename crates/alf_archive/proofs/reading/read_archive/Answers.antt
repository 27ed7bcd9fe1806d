use Rattle.chunk_file.proofs.Guards.{found, only}
use Rattle.std.proofs.lemmas.Result.{IfOk-weaker}
use Rattle.alf_archive.specs.Archives.{archive_of}
use Rattle.alf_archive.specs.Grammar.{ReadsArchive, IsValid}
use Rattle.alf_archive.proofs.ArchiveLaw.{archive_law}
use Rattle.alf_archive.proofs.ValidArchive.{reads_valid}
use Rattle.alf_archive.proofs.reading.read_archive.Goals as goal

pub returns-clause-found : goal.returns-clause-found
returns-clause-found c = found c.archive.result (archive_of c.args.b.now) (ReadsArchive c.args.b.now) (archive_law c.args.b.now) c.archive.ensures

pub returns-clause-only : goal.returns-clause-only
returns-clause-only c = only c.archive.result (archive_of c.args.b.now) (ReadsArchive c.args.b.now) (archive_law c.args.b.now) c.archive.ensures

pub returns-clause-valid : goal.returns-clause-valid
returns-clause-valid c =
    IfOk-weaker c.archive.result (ReadsArchive c.args.b.now) IsValid (reads_valid c.args.b.now) (found c.archive.result (archive_of c.args.b.now) (ReadsArchive c.args.b.now) (archive_law c.args.b.now) c.archive.ensures)
