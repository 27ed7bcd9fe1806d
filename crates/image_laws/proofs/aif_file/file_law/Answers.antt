use Rattle.image_laws.proofs.AifFileLemmas.{fixed_file, relocatable_file}
use Rattle.image_laws.proofs.aif_file.file_law.Goals as goal

pub returns-clause-fixed : goal.returns-clause-fixed
returns-clause-fixed c = fixed_file

pub returns-clause-relocatable : goal.returns-clause-relocatable
returns-clause-relocatable c = relocatable_file
