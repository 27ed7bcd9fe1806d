-- What holds of every image that is linked. This project's.
use Rattle.std.specs.Prelude.{◌≡◌, ℕ, ◌+◌, ◌^◌, ◌≤◌, List, map, Option, Ok}
use Rattle.std.specs.List.{AllByRecursion}
use Rattle.sdt_word.specs.declared.ranges.Range32.{Range32}
use Rattle.aof_object.specs.declared.records.Object.{Object}
use Rattle.link_model.specs.declared.images.Image.{Image}
use Rattle.link_model.specs.declared.images.ImageKind.{ImageKind}
use Rattle.link_model.specs.declared.images.ImageKind.TheVariants as form
use Rattle.link_model.specs.declared.selection.Named.{Named}
use Rattle.place_model.specs.declared.scatter.Kind.{Kind}
use Rattle.armlink_core.specs.Images.{form_of, linking, scatter_linking}
use Rattle.armlink_core.specs.Tables.{link_tables, scatter_tables}

-- an image of a form, whose regions have 64 MiB at most
pub record IsSized (f : ImageKind) (i : Image) : Type 0 where
  pub form : i.kind ≡ f
  pub regions : AllByRecursion (λ r. r.length + r.zero ≤ 2 ^ 26) i.regions

abbrev pub LinkedSizes : Type 0
LinkedSizes =
    (k : Kind) (ram : Option (List Range32)) (os : List (Named Object)) (i : Image) → linking k ram os ≡ Ok i → IsSized (form_of k) i

abbrev pub ScatterSizes : Type 0
ScatterSizes =
    (text : List ℕ) (ram : Option (List Range32)) (os : List (Named Object)) (i : Image) → scatter_linking text ram os ≡ Ok i
    → IsSized form.Scatter i

-- ---- the names that reports call objects by

abbrev pub unnamed : Named Object → List ℕ × Object
unnamed o = (o.«module», o.value)

-- the same objects of the same modules, whatever reports call them
abbrev pub AreAlike : List (Named Object) → List (Named Object) → Type 0
AreAlike os ps = map unnamed os ≡ map unnamed ps

-- names decide nothing of an image
abbrev pub NamelessImages : Type 0
NamelessImages =
    (k : Kind) (ram : Option (List Range32)) (os ps : List (Named Object)) (i : Image)
    → AreAlike os ps → linking k ram os ≡ Ok i → linking k ram ps ≡ Ok i

abbrev pub NamelessScatters : Type 0
NamelessScatters =
    (text : List ℕ) (ram : Option (List Range32)) (os ps : List (Named Object)) (i : Image)
    → AreAlike os ps → scatter_linking text ram os ≡ Ok i → scatter_linking text ram ps ≡ Ok i

-- nor of its tables
abbrev pub NamelessTables : Type 0
NamelessTables =
    (k : Kind) (ram : Option (List Range32)) (os ps : List (Named Object)) (i : Image)
    → AreAlike os ps → linking k ram os ≡ Ok i → link_tables k ram os ≡ link_tables k ram ps

abbrev pub NamelessScatterTables : Type 0
NamelessScatterTables =
    (text : List ℕ) (ram : Option (List Range32)) (os ps : List (Named Object)) (i : Image)
    → AreAlike os ps → scatter_linking text ram os ≡ Ok i → scatter_tables text ram os ≡ scatter_tables text ram ps
