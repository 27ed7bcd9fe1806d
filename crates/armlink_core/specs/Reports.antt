-- The report of a link that is placed: where everything of it went, as a text, where its image can be made, and otherwise the refusal
-- of that image. This project's.
use Rattle.std.specs.Prelude.{ℕ, List, Option, Result, Ok}
use Rattle.sdt_word.specs.declared.ranges.Range32.{Range32}
use Rattle.sdt_fault.specs.declared.refusal.Refusal.{Refusal}
use Rattle.chunk_file.specs.Reading.{◌>>=◌}
use Rattle.aof_object.specs.declared.records.Object.{Object}
use Rattle.link_model.specs.declared.selection.Named.{Named}
use Rattle.place_model.specs.declared.scatter.Kind.{Kind}
use Rattle.link_report.specs.Reports.{report_text}
use Rattle.armlink_core.specs.declared.placing.PlacedLink.{PlacedLink}
use Rattle.armlink_core.specs.Moves.{moves_in}
use Rattle.armlink_core.specs.Placing.{placed_link, placed_scatter}

abbrev pub text_of : ℕ → PlacedLink → List ℕ
text_of given p = report_text p.kind given p.parts.linked p.parts.placement

-- of a link whose first objects, so many as are given, stand on the command line
abbrev pub report_made : ℕ → PlacedLink → Result (List ℕ) Refusal
report_made given p = moves_in p.kind p.parts.linked p.parts.placement >>= λ moves. Ok (text_of given p)

abbrev pub report_of : Kind → Option (List Range32) → ℕ → List (Named Object) → Result (List ℕ) Refusal
report_of k ram given os = placed_link k ram os >>= report_made given

abbrev pub scatter_report : List ℕ → Option (List Range32) → ℕ → List (Named Object) → Result (List ℕ) Refusal
scatter_report text ram given os = placed_scatter text ram os >>= report_made given
