use Rattle.armsd_core.proofs.texts.+push_places.Given as goal

abbrev pub decreases-push_places : goal.decreases-push_places
decreases-push_places l = l.places
