-- The laws of reading: what is read is spelled so and valid, what is spelled so and valid is read, a text spells one
-- description at most, and what a fault that is told means.
use Rattle.std.specs.Prelude.{◌≡◌, ◌↔◌, ◌⊎◌, ℕ, ◌+◌, List, [], ◌∷◌, ◌++◌, Ok, Err}
use Rattle.sdt_fault.specs.declared.answer.Fault.{Fault}
use Rattle.sdt_fault.specs.declared.answer.Fault.TheVariants as fault
use Rattle.sdt_fault.specs.declared.kinds.ScatterKind.{ScatterKind}
use Rattle.sdt_fault.specs.declared.kinds.ScatterKind.TheVariants as kind
use Rattle.sdt_fault.specs.declared.refusal.Refusal.{Refusal}
use Rattle.sdt_fault.specs.declared.refusal.Refusal.TheVariants.{ScatterLine}
use Rattle.place_model.specs.declared.scatter.Scatter.{Scatter}
use Rattle.place_model.specs.declared.scatter.ScatterLoad.{ScatterLoad}
use Rattle.scatter_text.specs.Parts.{Part, parts_of, line_count}
use Rattle.scatter_text.specs.Words.{told}
use Rattle.scatter_text.specs.Grammar.{AreOf, IsLoad, Spells}
use Rattle.scatter_text.specs.Validity.{IsValid, Breaks}
use Rattle.scatter_text.specs.Reading.{scatter_of}

-- the text spells the description, whose numbers, names and counts are as they may be
abbrev pub Describes : List ℕ → Scatter → Type 0
Describes text s = Spells text s.loads × IsValid s.loads

abbrev pub ReadingLaw : Type 0
ReadingLaw = (text : List ℕ) (s : Scatter) → (scatter_of text ≡ Ok s) ↔ Describes text s

-- by the grammar alone
abbrev pub OneSpelled : Type 0
OneSpelled = (text : List ℕ) (a b : List ScatterLoad) → Spells text a → Spells text b → a ≡ b

-- ---- faults

-- some description goes on so, by the grammar alone
abbrev pub Begins : List Part → Type 0
Begins parts = (after : List Part) × (loads : List ScatterLoad) × AreOf IsLoad loads (parts ++ after)

-- where the kind isn't Syntax the grammar lets the parts stand
abbrev pub GoesOn : ScatterKind → List Part → Type 0
GoesOn kind.Syntax parts = Unit {0}
GoesOn other parts = Begins parts

-- A part of the text is at fault: the parts before it begin some description, and each description that begins
-- with them and the part breaks the kind's rule. For Syntax there is none.
pub record IsAtPart (parts : List Part) (line : ℕ) (k : ScatterKind) : Type 0 where
  pub before : List Part
  pub part : Part
  pub behind : List Part
  pub all : parts ≡ before ++ part ∷ behind
  pub line_is : line ≡ part.line
  pub begun : Begins before
  pub possible : GoesOn k (before ++ part ∷ [])
  pub wrong : (after : List Part) (loads : List ScatterLoad) → AreOf IsLoad loads (before ++ part ∷ after) → Breaks k loads

-- the parts are no description, or there are none
abbrev pub IsCutOff : ScatterKind → List Part → Type 0
IsCutOff kind.Syntax parts = (loads : List ScatterLoad) → AreOf IsLoad loads parts → ⊥
IsCutOff kind.Empty parts = parts ≡ []
IsCutOff other parts = ⊥

-- the text ends early, which is told behind its last line
pub record IsAtEnd (parts : List Part) (end line : ℕ) (k : ScatterKind) : Type 0 where
  pub line_is : line ≡ end
  pub begun : Begins parts
  pub cut_off : IsCutOff k parts

abbrev pub IsFault : List ℕ → ℕ → ScatterKind → Type 0
IsFault text line k = IsAtPart (parts_of text) line k ⊎ IsAtEnd (parts_of text) (line_count text + 1) line k

abbrev pub IsRefusalOf : List ℕ → Refusal → Type 0
IsRefusalOf text r = (line : ℕ) × (k : ScatterKind) × (r ≡ ScatterLine (told line) k) × IsFault text line k

abbrev pub FaultLaw : Type 0
FaultLaw = (text : List ℕ) (r : Refusal) → scatter_of text ≡ Err r → IsRefusalOf text r

-- an error tells a fault, unless memory was refused
abbrev pub IsFaultOf : List ℕ → Fault → Type 0
IsFaultOf text fault.NoMemory = Unit {0}
IsFaultOf text (fault.Refused r) = IsRefusalOf text r
IsFaultOf text (fault.ReadFault name) = ⊥
