-- Rows of the startup code's table, by the regions of a placement. This project's.
use Rattle.std.specs.Prelude.{◌+◌, nat_lt, List, map}
use Rattle.std.specs.List.{filter}
use Rattle.boot_code.specs.declared.rows.CopyRow.{CopyRow}
use Rattle.boot_code.specs.declared.rows.ZeroRow.{ZeroRow}
use Rattle.link_model.specs.declared.placing.Region.{Region}
use Rattle.link_apply.specs.RegionBytes.{is_copied}

abbrev pub copies_of : List Region → List CopyRow
copies_of regions = map (λ r. record { source = r.load; target = r.base; size = r.length }) (filter is_copied regions)

abbrev pub zeros_of : List Region → List ZeroRow
zeros_of regions = map (λ r. record { base = r.base + r.length; size = r.zero }) (filter (λ r. nat_lt 0 r.zero) regions)
