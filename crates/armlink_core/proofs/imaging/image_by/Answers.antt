use Rattle.armlink_core.proofs.imaging.image_by.Goals as goal

pub image_of-requires-clause-whole : goal.image_of-requires-clause-whole
image_of-requires-clause-whole c = c.requires.roomy.whole

pub image_of-requires-clause-each : goal.image_of-requires-clause-each
image_of-requires-clause-each c = c.requires.roomy.each
