use Rattle.sdt_toolkit.proofs.BigAccept.{big_is_assembled}
use Rattle.sdt_toolkit.proofs.BigMade.{image_is_made}
use Rattle.sdt_toolkit.proofs.BigStart.{image_starts}
use Rattle.sdt_toolkit.proofs.big_laws.big_image_law.Goals as goal

pub returns-clause-assembled : goal.returns-clause-assembled
returns-clause-assembled c =
    big_is_assembled c.big_expands.ensures c.big_is_read.ensures c.big_is_short.ensures c.big_has_no_fault.ensures c.big_has_object.ensures

pub returns-clause-made : goal.returns-clause-made
returns-clause-made c = image_is_made c.plan_has_no_fault.ensures c.text_is_read.ensures

pub returns-clause-starts : goal.returns-clause-starts
returns-clause-starts c =
    image_starts c.plan_has_no_fault.ensures c.text_is_read.ensures c.reading_law.ensures c.made_links.ensures.places c.made_images.ensures.files
    c.made_images.ensures.starts c.image_boots.ensures.places c.startup_is_exact.ensures c.view_law.ensures.view c.map_law.ensures
