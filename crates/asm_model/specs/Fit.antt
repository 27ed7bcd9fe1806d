-- What emission asks of statements besides: only an area of code has the marks of code, and an operand of DCD has no place
-- as a constant. SDT 2.50 Reference Guide, chapter on the assembler; that other areas may not have these marks is this
-- project's.
use Rattle.std.specs.Prelude.{◌≡◌, List, Bool, false}
use Rattle.std.specs.List.{AllByRecursion}
use Rattle.asm_model.specs.declared.exprs.Expr.{Expr}
use Rattle.asm_model.specs.declared.directives.Contents.{Contents}
use Rattle.asm_model.specs.declared.directives.Contents.TheVariants as contents
use Rattle.asm_model.specs.declared.directives.Held.{Held}
use Rattle.asm_model.specs.declared.directives.Held.TheVariants as held
use Rattle.asm_model.specs.declared.statements.Statement.{Statement}
use Rattle.asm_model.specs.declared.statements.What.{What}
use Rattle.asm_model.specs.declared.statements.What.TheVariants as what
use Rattle.asm_model.specs.DataItems.{held_by}
use Rattle.asm_model.specs.Occupied.{Occupied, Unplaced, Opening, Marking, Entering, Items, Zeroes, UpTo, Literals, occupied}
use Rattle.asm_model.specs.Sound.{HaveNoPlaces}

-- of an area that is for interworking, and of one of half-words
abbrev pub MarksAgree : Contents → Bool → Bool → Type 0
MarksAgree contents.Code interwork halfword = Unit {0}
MarksAgree _ interwork halfword = (interwork ≡ false) × (halfword ≡ false)

abbrev pub AllPlaceless : List Expr → Type 0
AllPlaceless es = AllByRecursion (λ e. HaveNoPlaces e.items) es

-- of values that are held so
abbrev pub HeldFit : Held → List Expr → Type 0
HeldFit held.Relocatable es = AllPlaceless es
HeldFit (held.Fixed width) es = Unit {0}
HeldFit held.Strings es = Unit {0}

abbrev pub OccupiedFits : Occupied → Type 0
OccupiedFits Unplaced = Unit {0}
OccupiedFits (Opening a) = MarksAgree a.contents a.interwork a.halfword
OccupiedFits Marking = Unit {0}
OccupiedFits Entering = Unit {0}
OccupiedFits (Items item es) = HeldFit (held_by item) es
OccupiedFits (Zeroes e) = Unit {0}
OccupiedFits (UpTo b) = Unit {0}
OccupiedFits Literals = Unit {0}

abbrev pub WhatFits : What → Type 0
WhatFits what.Nothing = Unit {0}
WhatFits (what.Arm l) = Unit {0}
WhatFits (what.Thumb l) = Unit {0}
WhatFits (what.Pseudo l) = Unit {0}
WhatFits (what.Directive l) = OccupiedFits (occupied l)

abbrev pub IsFit : Statement → Type 0
IsFit s = WhatFits s.what

abbrev pub AllFit : List Statement → Type 0
AllFit statements = AllByRecursion IsFit statements
