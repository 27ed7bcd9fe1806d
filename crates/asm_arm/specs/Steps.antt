-- Steps of the code. This project's.
use Rattle.asm_arm.specs.declared.operands.Cut.{Cut}
use Rattle.asm_arm.specs.declared.operands.Cut.TheVariants as are
use Rattle.asm_arm.specs.Operands.{Cuts, none, one, two, three, four, more}

-- the operands of a line
abbrev pub cut_of : Cut → Cuts
cut_of are.None = none
cut_of (are.One a) = one a.now
cut_of (are.Two a b) = two a.now b.now
cut_of (are.Three a b c) = three a.now b.now c.now
cut_of (are.Four a b c d) = four a.now b.now c.now d.now
cut_of are.More = more
