-- The order of areas in a region as a comparison: by number, then by name (place_model has the numbers). This
-- project's.
use Rattle.std.specs.declared.cmp.Ordering.{Ordering}
use Rattle.std.specs.Cmp.Lexicographic.{slice_cmp}
use Rattle.std.specs.Ordering.{nat_cmp, ordering_then}
use Rattle.place_model.specs.Assignment.{Kept, order_number}

abbrev pub compared : Kept → Kept → Ordering
compared k l = ordering_then (nat_cmp (order_number k) (order_number l)) (slice_cmp nat_cmp k.item.name l.item.name)
