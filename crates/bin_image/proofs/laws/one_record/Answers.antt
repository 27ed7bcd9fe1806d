use Rattle.bin_image.proofs.MapLaws.{one_record}
use Rattle.bin_image.proofs.laws.one_record.Goals as goal

pub returns : goal.returns
returns c = one_record
