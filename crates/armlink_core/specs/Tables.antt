-- The sections and symbols of a link, and an image with them. This project's.
use Rattle.std.specs.Prelude.{ℕ, List, [], length, Option, Result, Ok, Err}
use Rattle.sdt_word.specs.declared.ranges.Range32.{Range32}
use Rattle.sdt_fault.specs.declared.refusal.Refusal.{Refusal}
use Rattle.chunk_file.specs.Reading.{◌>>=◌}
use Rattle.aof_object.specs.declared.records.Object.{Object}
use Rattle.elf_image.specs.declared.tables.Tables.{Tables}
use Rattle.link_model.specs.declared.images.Image.{Image}
use Rattle.link_model.specs.declared.selection.Named.{Named}
use Rattle.place_model.specs.declared.scatter.Kind.{Kind}
use Rattle.place_model.specs.Assignment.{description}
use Rattle.link_symbols.specs.Symbols.{tables_in}
use Rattle.armlink_core.specs.declared.naming.NamedImage.{NamedImage}
use Rattle.armlink_core.specs.declared.placing.PlacedLink.{PlacedLink}
use Rattle.armlink_core.specs.Images.{image_made, scatter_linking}
use Rattle.armlink_core.specs.Placing.{placed_link, placed_scatter}

-- of a link that is placed
abbrev pub tables_of : PlacedLink → Tables
tables_of p = tables_in p.parts.linked p.parts.placement (length (description p.kind))

abbrev pub no_tables : Tables
no_tables = record { sections = []; symbols = [] }

-- none of a link that is refused
abbrev pub tables_by : Result PlacedLink Refusal → Tables
tables_by (Ok p) = tables_of p
tables_by (Err r) = no_tables

abbrev pub link_tables : Kind → Option (List Range32) → List (Named Object) → Tables
link_tables k ram os = tables_by (placed_link k ram os)

abbrev pub scatter_tables : List ℕ → Option (List Range32) → List (Named Object) → Tables
scatter_tables text ram os = tables_by (placed_scatter text ram os)

abbrev pub with_tables : Tables → Image → NamedImage
with_tables t i = record { image = i; tables = t }

abbrev pub named_of : PlacedLink → Result NamedImage Refusal
named_of p = image_made p.kind p.parts >>= λ i. Ok (with_tables (tables_of p) i)

-- the image by a description's text, with the tables of its link
abbrev pub named_scatter : List ℕ → Option (List Range32) → List (Named Object) → Result NamedImage Refusal
named_scatter text ram os = scatter_linking text ram os >>= λ i. Ok (with_tables (scatter_tables text ram os) i)
