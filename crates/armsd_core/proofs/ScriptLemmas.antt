-- What a script is read as, line by line.
use Rattle.std.proofs.Common.{◌≡◌, ◌∙◌, ℕ, ◌+◌, List, ◌∷◌, ◌++◌, Option, Result, Ok, Err, refl, sym, ap, append_assoc}
use Rattle.std.specs.Str.Lines.{lines}
use Rattle.sdt_fault.specs.declared.kinds.CommandKind.{CommandKind}
use Rattle.armsd_core.specs.declared.command.Command.{Command}
use Rattle.armsd_core.specs.Scripts.{Reading, behind, devices_behind, line_of, listed, onto, points_behind, read}

onto_both : (before more : List Command) (r : Reading) → onto before (onto more r) ≡ onto (before ++ more) r
onto_both before more (Ok cs) = ap (λ (xs : List Command). Ok xs) (sym (append_assoc before more cs))
onto_both before more (Err e) = refl

-- one more line
pub goes_on : (before after : List Command) (number points points' devices devices' : ℕ) (rest more line : List ℕ) (found : Option Command) (all : Reading)
    → onto before (read number points devices (lines rest)) ≡ all → lines rest ≡ line ∷ lines more → line_of points devices line ≡ Ok found
    → after ≡ before ++ listed found → points' ≡ points_behind points found → devices' ≡ devices_behind devices found
    → onto after (read (number + 1) points' devices' (lines more)) ≡ all
goes_on before after number points points' devices devices' rest more line found all h first is cs ps ds =
    rw (cs, ps, ds) (sym (onto_both before (listed found) (read (number + 1) (points_behind points found) (devices_behind devices found) (lines more)))
    ∙ sym (ap (λ (r : Result (Option Command) CommandKind). onto before (behind number points devices (λ p d. read (number + 1) p d (lines more)) r)) is)
    ∙ sym (ap (λ (ls : List (List ℕ)). onto before (read number points devices ls)) first) ∙ h)
