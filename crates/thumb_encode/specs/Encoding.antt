-- What encoding an instruction answers: the half-word that reads as it, or that none does.
use Rattle.std.specs.Prelude.{ℕ, Option, MatchOption}
use Rattle.thumb_isa.specs.ThumbRows.{IsUnwritten, ReadsThumb}
use Rattle.thumb_isa.specs.declared.instr.ThumbInstr.{ThumbInstr}

abbrev pub Encodes : Option ℕ → ThumbInstr → Type 0
Encodes answer i = MatchOption answer (IsUnwritten i) (λ h. ReadsThumb h i)
