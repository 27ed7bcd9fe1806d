-- What each directive occupies of its area: all that is told of its place, size and bytes follows from this table. SDT 2.50
-- Reference Guide, chapter on the assembler.
use Rattle.std.specs.Prelude.{List}
use Rattle.asm_model.specs.declared.exprs.Expr.{Expr}
use Rattle.asm_model.specs.declared.directives.AreaAttributes.{AreaAttributes}
use Rattle.asm_model.specs.declared.directives.Boundary.{Boundary}
use Rattle.asm_model.specs.declared.directives.DataItem.{DataItem}
use Rattle.asm_model.specs.declared.directives.DirectiveLine.{DirectiveLine}
use Rattle.asm_model.specs.declared.directives.DirectiveLine.TheVariants as line

pub data Occupied : Type 0 where
  -- nothing, in or outside of areas
  Unplaced : Occupied
  -- nothing, where an area with these attributes opens or goes on
  Opening : AreaAttributes → Occupied
  -- nothing, at its place in an area
  Marking : Occupied
  -- nothing, at the place of an instruction
  Entering : Occupied
  -- a data item for each value
  Items : DataItem → List Expr → Occupied
  -- so many zeros
  Zeroes : Expr → Occupied
  -- zeros up to a boundary
  UpTo : Boundary → Occupied
  -- the pool of the literals before
  Literals : Occupied

abbrev pub occupied : DirectiveLine → Occupied
occupied (line.Area name a) = Opening a
occupied line.Entry = Entering
occupied line.End = Unplaced
occupied (line.Export name) = Unplaced
occupied (line.Import name mark) = Unplaced
occupied (line.Extern name mark) = Unplaced
occupied (line.Keep name) = Unplaced
occupied (line.Equ e) = Unplaced
occupied (line.Rn r) = Unplaced
occupied line.Rout = Unplaced
occupied (line.Assert e) = Unplaced
occupied line.Nofp = Unplaced
occupied (line.Opt e) = Unplaced
occupied line.Ttl = Unplaced
occupied line.Subt = Unplaced
occupied (line.Constants item es) = Items item es
occupied (line.Space e) = Zeroes e
occupied (line.Align b) = UpTo b
occupied line.Ltorg = Literals
occupied line.Data = Marking
occupied (line.Map e) = Unplaced
occupied (line.Field e) = Unplaced
occupied line.Code16 = Unplaced
occupied line.Code32 = Unplaced
