use Rattle.arm7_bus.proofs.notes.+put_ranges.Given as goal

abbrev pub decreases-put_ranges : goal.decreases-put_ranges
decreases-put_ranges l = l.n
