-- A number's flaw is that of what it makes.
use Rattle.std.proofs.Common.{◌≡◌, Option, Some, None, Ok, Err, ap}
use Rattle.std.specs.Prelude.{option_map}
use Rattle.sdt_fault.specs.declared.kinds.ScatterKind.{ScatterKind}
use Rattle.scatter_text.specs.declared.stops.Stop.{Stop}
use Rattle.scatter_text.specs.declared.stops.Stop.TheVariants as stop
use Rattle.scatter_text.specs.declared.reading.Reader.{Reader}
use Rattle.scatter_text.specs.Reading.{judged, Shows, Leaves}

pub mapped_ok : {X Y : Type 0} (f : Option ScatterKind) (o : Option X) (g : X → Y) (x : X) → judged f o ≡ Ok x → judged f (option_map g o) ≡ Ok (g x)
mapped_ok f None g x h = absurd (cc)
mapped_ok None (Some y) g x h = let e : y ≡ x = cc in ap (λ z. Ok (g z)) e
mapped_ok (Some k) (Some y) g x h = absurd (cc)

mapped_err : {X Y : Type 0} (f : Option ScatterKind) (o : Option X) (g : X → Y) (k : ScatterKind) → judged f o ≡ Err k → judged f (option_map g o) ≡ Err k
mapped_err f None g k h = let e = h in cc
mapped_err None (Some y) g k h = absurd (cc)
mapped_err (Some j) (Some y) g k h = cc

pub mapped_stop : {X Y : Type 0} (s : Stop) (f : Option ScatterKind) (o : Option X) (g : X → Y) → Shows {X = X} (Err s) (judged f o) → Shows {X = Y} (Err s) (judged f (option_map g o))
mapped_stop (stop.At k) f o g h = mapped_err f o g k h
mapped_stop stop.NoMemory f o g h = tt

pub mapped_leaves : {X : Type 0} (U : Type 0) (s : Stop) (f : Option ScatterKind) (o : Option X) (g : X → Reader) (after : Reader) → Shows {X = X} (Err s) (judged f o) → Leaves {U = U} (Err s) after (judged f (option_map g o))
mapped_leaves U (stop.At k) f o g after h = mapped_err f o g k h
mapped_leaves U stop.NoMemory f o g after h = tt
