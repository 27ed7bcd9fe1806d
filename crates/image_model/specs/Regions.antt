-- The bytes of a region before its zero part: its things in their order, each behind zeros up to where its
-- alignment lets it begin (SDT 2.50 Reference Guide, armlink; the startup code is this project's).
use Rattle.std.specs.Prelude.{◌≡◌, ℕ, ◌+◌, ◌-◌, ◌*◌, Bool, List, [], ◌∷◌, ◌++◌, length}
use Rattle.std.specs.List.{AllByRecursion}
use Rattle.patch_model.specs.Fields.{Home}
use Rattle.boot_code.specs.Startup.{table_list, zeros}
use Rattle.boot_code.specs.Words.{boot_list}
use Rattle.boot_code.specs.Maps.{bytes_of_words}
use Rattle.place_model.specs.Things.{Thing, Header, AnArea, AVeneer, Startup, alignment_of, size_of, gap, start_of}
use Rattle.place_model.specs.Plans.{Planned, Plan, regions_of, copies_of, parts_of}

-- what each thing of a region holds
abbrev pub Filling : Type 0
Filling = Planned → Thing → List ℕ

abbrev pub laid : (Thing → List ℕ) → ℕ → ℕ → List Thing → List ℕ
laid held origin at [] = []
laid held origin at (t ∷ ts) = zeros (gap origin (alignment_of t) at) ++ (held t ++ laid held origin (start_of origin at t + size_of t) ts)

abbrev pub region_bytes : Filling → Planned → List ℕ
region_bytes held r = laid (held r) r.origin r.base r.things

-- each thing has as many bytes as it takes up
abbrev pub AreSized : Filling → Plan → Type 0
AreSized held p = AllByRecursion (λ r. AllByRecursion (λ t. length (held r t) ≡ size_of t) r.things) (regions_of p)

-- ---- what an image is made of

-- the bytes of areas, by the numbers of object and area, as they are once they are patched, and of veneers, by
-- the region's number, the target and whether that is Thumb code; the entry, with bit 0 set for Thumb; and what
-- an AIF's header calls, the entry or its veneer
pub record Given : Type 0 where
  pub area : ℕ → ℕ → List ℕ
  pub veneer : ℕ → Home → Bool → List ℕ
  pub entry : ℕ
  pub call : ℕ

-- the startup code, its table, and zeros up to so many words of a table
abbrev pub startup_bytes : Plan → ℕ → ℕ → List ℕ
startup_bytes p words entry =
    bytes_of_words (boot_list ++ table_list (copies_of p) (parts_of p) entry)
    ++ zeros (4 * (words - length (table_list (copies_of p) (parts_of p) entry)))

abbrev pub filled : Given → Plan → List ℕ → Filling
filled g p header r Header = header
filled g p header r (AnArea i) = g.area i.object i.area
filled g p header r (AVeneer target thumb) = g.veneer r.number target thumb
filled g p header r (Startup words) = startup_bytes p words g.entry
