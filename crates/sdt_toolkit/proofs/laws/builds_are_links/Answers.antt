use Rattle.sdt_toolkit.proofs.BuildLaws.{builds_are_links, spelled_are_object_files}
use Rattle.sdt_toolkit.proofs.laws.builds_are_links.Goals as goal

pub returns-clause-links : goal.returns-clause-links
returns-clause-links c =
    builds_are_links c.one_assembly.ensures c.images_start.ensures c.image_names.ensures.linked c.image_names.ensures.scattered c.table_names.ensures.linked c.table_names.ensures.scattered

pub returns-clause-files : goal.returns-clause-files
returns-clause-files c = spelled_are_object_files
