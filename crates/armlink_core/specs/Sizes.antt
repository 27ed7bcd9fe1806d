-- The sizes of descriptions and of placed regions. This project's.
use Rattle.std.specs.Prelude.{ℕ, ◌+◌, ◌≤◌, nat_lt, List, length, map, slice_get, unwrap_or}
use Rattle.std.specs.List.{filter}
use Rattle.std.specs.Option.{option_map}
use Rattle.boot_code.specs.declared.rows.CopyRow.{CopyRow}
use Rattle.boot_code.specs.declared.rows.ZeroRow.{ZeroRow}
use Rattle.link_model.specs.declared.placing.Region.{Region}
use Rattle.place_model.specs.declared.scatter.Kind.{Kind}
use Rattle.place_model.specs.Assignment.{described_regions, description}
use Rattle.link_apply.specs.RegionBytes.{is_copied}

-- as a description that is read has them, and an image without one
pub record IsSmall (k : Kind) : Type 0 where
  pub regions : length (described_regions k) ≤ 64
  pub loads : length (description k) ≤ 64

abbrev pub region_size : Region → ℕ
region_size r = r.length + r.zero

-- of the region of a number; 0 where none has it
abbrev pub size_at : List Region → ℕ → ℕ
size_at rs number = unwrap_or (option_map region_size (slice_get rs number)) 0

-- ---- the rows of the startup code's table, of some regions

abbrev pub copies_in : List Region → List CopyRow
copies_in rs = map (λ r. record { source = r.load; target = r.base; size = r.length }) (filter is_copied rs)

abbrev pub zeros_in : List Region → List ZeroRow
zeros_in rs = map (λ r. record { base = r.base + r.length; size = r.zero }) (filter (λ r. nat_lt 0 r.zero) rs)
