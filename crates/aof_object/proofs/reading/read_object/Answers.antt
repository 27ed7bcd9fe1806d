use Rattle.chunk_file.proofs.Guards.{found, only}
use Rattle.aof_object.specs.Objects.{object_of}
use Rattle.aof_object.specs.Validity.{IsValid}
use Rattle.aof_object.specs.Grammar.{ReadsObject}
use Rattle.std.proofs.lemmas.Result.{IfOk-weaker}
use Rattle.aof_object.proofs.ObjectLaw.{object_law, reads_valid}
use Rattle.aof_object.proofs.reading.read_object.Goals as goal

pub returns-clause-found : goal.returns-clause-found
returns-clause-found c = found c.object.result (object_of c.args.b.now) (ReadsObject c.args.b.now) (object_law c.args.b.now) c.object.ensures

pub returns-clause-only : goal.returns-clause-only
returns-clause-only c = only c.object.result (object_of c.args.b.now) (ReadsObject c.args.b.now) (object_law c.args.b.now) c.object.ensures

pub returns-clause-valid : goal.returns-clause-valid
returns-clause-valid c =
    IfOk-weaker c.object.result (ReadsObject c.args.b.now) IsValid (reads_valid c.args.b.now) (found c.object.result (object_of c.args.b.now) (ReadsObject c.args.b.now) (object_law c.args.b.now) c.object.ensures)
