-- What is told of the best selections of an area. This project's.
use Rattle.std.specs.Prelude.{Bool, true, false}
use Rattle.place_model.specs.Assignment.{Offer, Found, Nowhere, Within, Unclear}
use Rattle.link_assign.specs.declared.finding.Pick.{Pick}
use Rattle.link_assign.specs.declared.finding.Finding.{Finding}
use Rattle.link_assign.specs.declared.finding.Finding.TheVariants as finding

abbrev pub pick_of : Offer → Pick
pick_of o = record { region = o.region; edge = o.selection.edge; line = o.selection.line }

abbrev pub told : Found → Finding
told Nowhere = finding.Nowhere
told (Within o) = finding.Within (pick_of o)
told (Unclear o p) = finding.Unclear o.selection.line p.selection.line

-- with one more that is as good
abbrev pub joined : Finding → Offer → Finding
joined finding.Nowhere o = finding.Within (pick_of o)
joined (finding.Within pick) o = finding.Unclear pick.line o.selection.line
joined (finding.Unclear first second) o = finding.Unclear first second

abbrev pub is_nowhere : Finding → Bool
is_nowhere finding.Nowhere = true
is_nowhere _ = false
