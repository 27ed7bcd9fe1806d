-- Which line is told of lines at fault. This project's.
use Rattle.std.specs.Prelude.{◌≡◌, ◌≢◌, ℕ, ◌+◌, List, ◌∷◌, ◌++◌, length, Ok, Err}
use Rattle.sdt_fault.specs.declared.kinds.RecordKind.{RecordKind}
use Rattle.hex_image.specs.declared.records.Burn.{Burn}
use Rattle.hex_image.specs.declared.records.Form.{Form}
use Rattle.hex_image.specs.Reading.{Reading, first_state, read}

-- what lines are read as
abbrev pub reading : Form → List (List ℕ) → Reading
reading form ls = read form 1 first_state ls

-- The lines before the one of this number begin an image; and with that line, where there is one, no lines that follow make one.
pub record IsFirstFault (form : Form) (ls : List (List ℕ)) (n : ℕ) : Type 0 where
  pub front : List (List ℕ)
  pub back : List (List ℕ)
  pub parts : ls ≡ front ++ back
  pub place : n ≡ length front + 1
  pub begins : (rest : List (List ℕ)) × (b : Burn) × (reading form (front ++ rest) ≡ Ok b)
  pub stops : (l : List ℕ) (others rest : List (List ℕ)) (b : Burn) → back ≡ l ∷ others → reading form (front ++ l ∷ rest) ≢ Ok b

abbrev pub FirstFaultLaw : Type 0
FirstFaultLaw = (form : Form) (ls : List (List ℕ)) (n : ℕ) (kind : RecordKind) → reading form ls ≡ Err (n, kind) → IsFirstFault form ls n
