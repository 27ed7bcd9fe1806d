-- What lines say of their parts that tables name: what a directive occupies, and the target of a branch. This project's.
use Rattle.std.specs.Prelude.{Option, Some, None}
use Rattle.asm_model.specs.declared.exprs.Expr.{Expr}
use Rattle.asm_model.specs.Occupied.{Occupied, Unplaced, Opening, Marking, Entering, Items, Zeroes, UpTo, Literals}
use Rattle.asm_model.specs.Said.{AllRead, BoundaryRead, IsRead}

abbrev pub OccupiedSaid : Occupied → Type 0
OccupiedSaid Unplaced = Unit {0}
OccupiedSaid (Opening a) = AllRead a.alignments
OccupiedSaid Marking = Unit {0}
OccupiedSaid Entering = Unit {0}
OccupiedSaid (Items item es) = AllRead es
OccupiedSaid (Zeroes e) = IsRead e
OccupiedSaid (UpTo b) = BoundaryRead b
OccupiedSaid Literals = Unit {0}

abbrev pub TargetSaid : Option Expr → Type 0
TargetSaid None = Unit {0}
TargetSaid (Some e) = IsRead e
