-- What stands in a region, one thing behind the other (SDT 2.50 Reference Guide, armlink and ARM Image
-- Format; that veneers and the startup code stand behind the areas is this project's).
use Rattle.std.specs.Prelude.{ℕ, ◌+◌, ◌-◌, ◌*◌, ◌%◌, Bool, true, false, List, [], ◌∷◌, length}
use Rattle.patch_model.specs.Fields.{Home}
use Rattle.boot_code.specs.Words.{boot_list}
use Rattle.place_model.specs.Items.{Item, alignment}

-- an AIF's header, an area, a veneer to a target of Thumb state or, where false, of ARM state, and the startup
-- code with so many words of its table
pub data Thing : Type 0 where
  Header : Thing
  AnArea : Item → Thing
  AVeneer : Home → Bool → Thing
  Startup : ℕ → Thing

abbrev pub alignment_of : Thing → ℕ
alignment_of Header = 4
alignment_of (AnArea i) = alignment i
alignment_of (AVeneer target thumb) = 4
alignment_of (Startup words) = 4

abbrev pub size_of : Thing → ℕ
size_of Header = 128
size_of (AnArea i) = i.size
size_of (AVeneer target true) = 12
size_of (AVeneer target false) = 8
size_of (Startup words) = 4 * (length boot_list + words)

-- from an address to the next whose distance from an origin is a multiple of an alignment
abbrev pub gap : ℕ → ℕ → ℕ → ℕ
gap origin multiple at = (multiple - (at - origin) % multiple) % multiple

-- where a thing stands that may begin at an address
abbrev pub start_of : ℕ → ℕ → Thing → ℕ
start_of origin at t = at + gap origin (alignment_of t) at

-- how many bytes things take from an address on, with the gaps before them
abbrev pub extent : ℕ → ℕ → List Thing → ℕ
extent origin at [] = 0
extent origin at (t ∷ ts) = gap origin (alignment_of t) at + size_of t + extent origin (start_of origin at t + size_of t) ts

-- a thing with its address
pub record Stood : Type 0 where
  pub thing : Thing
  pub address : ℕ

abbrev pub stood : ℕ → ℕ → List Thing → List Stood
stood origin at [] = []
stood origin at (t ∷ ts) =
    (record { thing = t; address = start_of origin at t }) ∷ stood origin (start_of origin at t + size_of t) ts
