-- What a reader has read, as the definitions have it. This project's.
use Rattle.std.specs.Prelude.{◌≡◌, Option, Some, None, Result, Ok, Err}
use Rattle.std.specs.BTreeMap.{get}
use Rattle.std.specs.Ordering.{nat_cmp}
use Rattle.sdt_fault.specs.declared.kinds.RecordKind.{RecordKind}
use Rattle.hex_image.specs.declared.reading.Reader.{Reader}
use Rattle.hex_image.specs.Ranges.{AreEnds}
use Rattle.hex_image.specs.Reading.{State}

abbrev pub state_of : Reader → State
state_of r = record { base = r.base; start = r.start; ended = r.ended; pieces = r.pieces.pieces.items }

abbrev pub IsRead : Reader → Type 0
IsRead r = AreEnds r.pieces.pieces.items (λ k. get nat_cmp r.pieces.ends k)

-- a line brings to the state, or is at fault for the kind
abbrev pub IsJudged : Result State RecordKind → State → Option RecordKind → Type 0
IsJudged r s None = r ≡ Ok s
IsJudged r s (Some kind) = r ≡ Err kind
