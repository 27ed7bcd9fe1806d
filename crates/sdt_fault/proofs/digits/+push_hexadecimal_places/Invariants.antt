use Rattle.sdt_fault.proofs.digits.+push_hexadecimal_places.Given as goal

abbrev pub decreases-push_hexadecimal_places : goal.decreases-push_hexadecimal_places
decreases-push_hexadecimal_places l = l.places
