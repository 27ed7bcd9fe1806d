use Rattle.std.proofs.Common.{Some}
use Rattle.scatter_text.specs.declared.reading.Reader.{Reader}
use Rattle.scatter_text.specs.declared.reading.Stage.TheVariants as stage
use Rattle.scatter_text.specs.Words.{number_of}
use Rattle.scatter_text.specs.Reading.{flaw_in}
use Rattle.scatter_text.proofs.JudgedLemmas.{mapped_ok, mapped_leaves}
use Rattle.scatter_text.proofs.reading.Reader.limit_region.Goals as goal

pub returns-in-Err : goal.returns-in-Err
returns-in-Err c =
    let s : Reader = c.args.self.now in
    mapped_leaves (Unit {0}) c.in-Err.stop (flaw_in (number_of c.args.part.now)) (number_of c.args.part.now) (λ v. record s { stage = stage.RegionOpen; region = record s.region { max = Some v } }) s c.in-Err.ensures

pub returns : goal.returns
returns c =
    let s : Reader = c.args.self.now in
    mapped_ok (flaw_in (number_of c.args.part.now)) (number_of c.args.part.now) (λ v. record s { stage = stage.RegionOpen; region = record s.region { max = Some v } }) c.in-Ok.max c.in-Ok.ensures
