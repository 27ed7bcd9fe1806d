-- Faults of a line. Where a line has faults of several kinds, the first in the order of the kinds is told.
-- This project's.
use Rattle.std.specs.Prelude.{ℕ, List, [], ◌∷◌, nat_lt, if◌then◌else◌, Bool, Option, None, Some}
use Rattle.sdt_fault.specs.declared.kinds.LineKind.{LineKind}
use Rattle.sdt_fault.specs.declared.kinds.LineKind.TheVariants.{Syntax, UnknownWord, FloatingPoint, BadOperand, Constant}
use Rattle.sdt_fault.specs.declared.kinds.LineKind.TheVariants.{Forward, DuplicateName, WrongType, OutOfRange}
use Rattle.sdt_fault.specs.declared.kinds.LineKind.TheVariants.{Nesting, Assert, NoArea, DivideByZero, TooDeep, TooMany}

-- the place of a kind in the order
abbrev pub rank : LineKind → ℕ
rank Syntax = 0
rank UnknownWord = 1
rank FloatingPoint = 2
rank BadOperand = 3
rank Constant = 4
rank Forward = 5
rank DuplicateName = 6
rank WrongType = 7
rank OutOfRange = 8
rank Nesting = 9
rank Assert = 10
rank NoArea = 11
rank DivideByZero = 12
rank TooDeep = 13
rank TooMany = 14

-- the one of two kinds that is told
abbrev pub earlier : LineKind → LineKind → LineKind
earlier a b = if nat_lt (rank b) (rank a) then b else a

-- the first kind among these and one more
abbrev pub earliest : LineKind → List LineKind → LineKind
earliest kind [] = kind
earliest kind (k ∷ ks) = earliest (earlier kind k) ks

-- the kind that is told of a line with these faults
abbrev pub told_kind : List LineKind → Option LineKind
told_kind [] = None
told_kind (k ∷ ks) = Some (earliest k ks)

-- the kind where a fault holds
abbrev pub kind_if : Bool → LineKind → List LineKind
kind_if holds k = if holds then k ∷ [] else []
