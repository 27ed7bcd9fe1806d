use Rattle.link_laws.proofs.Made.BytesLaws
use Rattle.link_laws.proofs.Made.Start
use Rattle.link_laws.proofs.laws.made_images.Goals as goal

pub returns-clause-bytes : goal.returns-clause-bytes
returns-clause-bytes c = BytesLaws.made_has_bytes

pub returns-clause-files : goal.returns-clause-files
returns-clause-files c = BytesLaws.made_has_files

pub returns-clause-starts : goal.returns-clause-starts
returns-clause-starts c = Start.made_starts

pub returns-clause-boots : goal.returns-clause-boots
returns-clause-boots c = Start.made_boots
