-- One plan for all that a link leaves: the linked objects stand by it, and of it are the view, the files, the values of names
-- and the entry. Of an ARM image file that can be moved there is a plan at each address that leaves room, with the same regions
-- there (SDT 2.50 Reference Guide, armlink and scatter loading; ARM Image Format; the startup code is this project's).
use Rattle.std.specs.Prelude.{◌≡◌, ℕ, ◌+◌, ◌-◌, ◌*◌, ◌%◌, true, false, List, [], ◌∷◌, length, map, Option, Some, Ok}
use Rattle.sdt_word.specs.declared.ranges.Range32.{Range32}
use Rattle.aof_object.specs.declared.records.Object.{Object}
use Rattle.boot_code.specs.declared.rows.ZeroRow.{ZeroRow}
use Rattle.boot_code.specs.Aif.{IsRelocatable, ShowsImage, aif_bound, file_at, shifted_file}
use Rattle.boot_code.specs.Boots.{ByteMap, moved, zeroed}
use Rattle.boot_code.specs.Laws.{bound_of}
use Rattle.boot_code.specs.Maps.{map_of}
use Rattle.place_model.specs.declared.scatter.Kind.{Kind}
use Rattle.place_model.specs.declared.scatter.Kind.TheVariants as kind
use Rattle.place_model.specs.Assignment.{description}
use Rattle.place_model.specs.Plans.{Plan, boot_address, copies_of, parts_of}
use Rattle.scatter_text.specs.Reading.{scatter_of}
use Rattle.image_model.specs.AifFiles.{offsets_of, parts_size, zero_size}
use Rattle.image_model.specs.Views.{IsLoadView}
use Rattle.aif_image.specs.Files.{aif_file}
use Rattle.link_model.specs.declared.images.Image.{Image}
use Rattle.link_model.specs.declared.placing.Assigned.{Assigned}
use Rattle.link_model.specs.declared.placing.Placement.{Placement}
use Rattle.link_model.specs.declared.placing.Veneer.{Veneer}
use Rattle.link_model.specs.declared.selection.Linked.{Linked}
use Rattle.link_model.specs.declared.selection.Named.{Named}
use Rattle.link_model.specs.Members.{link_of}
use Rattle.link_model.specs.Veneers.{veneers_of}
use Rattle.link_items.specs.LinkedItems.{has_header}
use Rattle.link_place.specs.Placed.{placement_of}
use Rattle.link_values.specs.Shifts.{shifts_of}
use Rattle.link_laws.specs.Joins.{IsMade}
use Rattle.link_laws.specs.Placing.{IsPlacedLink, link_plan}
use Rattle.link_laws.specs.Plans.{AreSeenBy, IsSelection, entry_by}
use Rattle.armlink_core.specs.Images.{form_of, linking}
use Rattle.sdt_toolkit.specs.Starting.{AreSound, FitsAt, ReachesEntry, entry_at, kind_at, segments_of}

-- ---- the files

-- the load regions of a scatter image have the view's bytes before the zero parts, and with copied regions moved and zero parts
-- cleared they are the view where that has a byte
pub record AreScatterFiles (plan : Plan) (i : Image) (view : ByteMap) : Type 0 where
  pub files : IsLoadView plan view (segments_of i)
  pub moved : (x b : ℕ) → view x ≡ Some b
      → zeroed (Some 0) (moved (map_of (segments_of i)) (copies_of plan)) (parts_of plan) x ≡ Some b

-- so has the load region of an image of bytes alone, which with its zero part cleared is the view
pub record IsPlainFile (plan : Plan) (i : Image) (view : ByteMap) : Type 0 where
  pub files : IsLoadView plan view (segments_of i)
  pub cleared : (x : ℕ) → zeroed (Some 0) (map_of (segments_of i)) (parts_of plan) x ≡ view x

-- the zero part of an ARM image file at a base
abbrev pub zero_part : ℕ → Plan → ZeroRow
zero_part base plan = record { base = base + parts_size plan; size = zero_size plan }

-- an ARM image file has as many bytes as its parts, and is the view at its own address, with its zero part cleared
pub record IsFixedFile (base : ℕ) (plan : Plan) (i : Image) (view : ByteMap) : Type 0 where
  pub size : length (aif_file i) ≡ parts_size plan
  pub cleared : (x : ℕ) → zeroed (Some 0) (file_at (aif_file i) base) (zero_part base plan ∷ []) x ≡ view x

-- one that can be moved has its header, the relocator's 15 words behind its parts, its list, and a word that ends it, wherever it
-- lies, and becomes the view at each address, with the words of its list shifted
pub record IsMovingFile (base : ℕ) (plan : Plan) (i : Image) (view : ByteMap) : Type 0 where
  pub size : length (aif_file i) ≡ parts_size plan + 60 + 4 * length i.moves + 4
  pub image : IsRelocatable (shifted_file (aif_file i) base) base (parts_size plan) (zero_size plan) i.start (i.call - i.start) i.moves
  pub becomes : ShowsImage (aif_file i) (parts_size plan) (zero_size plan) i.start i.moves base view

abbrev pub AreFiles : Kind → Plan → Image → ByteMap → Type 0
AreFiles (kind.Scatter s) plan i view = AreScatterFiles plan i view
AreFiles (kind.Plain base) plan i view = IsPlainFile plan i view
AreFiles (kind.Aif base true) plan i view = IsMovingFile base plan i view
AreFiles (kind.Aif base false) plan i view = IsFixedFile base plan i view

-- ---- the image

-- it starts at the plan's startup code, or at its base
abbrev pub StartsAt : Kind → Plan → ℕ → Type 0
StartsAt (kind.Scatter s) plan start = boot_address plan ≡ Some start
StartsAt (kind.Plain base) plan start = start ≡ base
StartsAt (kind.Aif base relocatable) plan start = start ≡ base

-- the steps of its startup code, at most
abbrev pub bound_by : Kind → Plan → List ℕ → ℕ
bound_by (kind.Scatter s) plan moves = bound_of (copies_of plan) (parts_of plan)
bound_by (kind.Plain base) plan moves = 0
bound_by (kind.Aif base relocatable) plan moves = aif_bound (length moves) (zero_size plan)

-- the offsets of the words that a movable image shifts: ascending, each as often as its word has shifts
abbrev pub moves_by : Kind → Plan → Linked → List ℕ
moves_by (kind.Aif base true) plan l = offsets_of (shifts_of (link_of l) (placement_of plan)) plan
moves_by other plan l = []

-- what the image tells of itself is the plan's: its kind, its regions, its start, its bound and its list; and its load regions have
-- the names of the description, in its order
pub record IsTold (k : Kind) (plan : Plan) (l : Linked) (i : Image) : Type 0 where
  pub form : i.kind ≡ form_of k
  pub names : map (λ load. load.name) i.loads ≡ map (λ load. load.name) (description k)
  pub regions : i.regions ≡ (placement_of plan).regions
  pub start : StartsAt k plan i.start
  pub bound : i.bound ≡ bound_by k plan i.moves
  pub thumb : i.thumb ≡ l.entry.thumb
  pub moves : i.moves ≡ moves_by k plan l

-- the plan of linked objects where their image is put at an address
abbrev pub plan_at : Kind → Linked → Assigned → List Veneer → ℕ → Plan
plan_at k l a vs to = link_plan (kind_at k to) l a.regions vs

-- How an image's objects were placed: the link, the regions of its areas, the veneers that its branches need, and the plan of
-- these. Wherever the image is put, the files are, or become, what is seen of that plan there, the entry is the plan's, and the
-- startup code leads to it.
pub record IsPlacedAs (k : Kind) (ram : Option (List Range32)) (os : List (Named Object)) (i : Image) (views : ℕ → ByteMap) : Type 0 where
  pub link : Linked
  pub assigned : Assigned
  pub veneers : List Veneer
  pub placement : Placement
  pub objects : link.objects ≡ os
  pub selected : IsSelection link
  pub made : IsMade k ram link assigned veneers placement
  pub places : placement ≡ placement_of (link_plan k link assigned.regions veneers)
  pub placed : IsPlacedLink k ram link assigned.regions veneers
  pub needed : veneers ≡ veneers_of (link_of link) assigned.regions (has_header k)
  pub told : IsTold k (link_plan k link assigned.regions veneers) link i
  pub seen : (to : ℕ) → FitsAt k i to → AreSeenBy (kind_at k to) (plan_at k link assigned veneers to) link (views to)
  pub files : (to : ℕ) → FitsAt k i to → AreFiles (kind_at k to) (plan_at k link assigned veneers to) i (views to)
  pub entry : (to : ℕ) → FitsAt k i to → entry_at k i to ≡ entry_by (plan_at k link assigned veneers to) link
  pub reaches : ReachesEntry k i views

-- ---- laws

-- a description that is read, or a whole base
abbrev pub IsDescribed : Kind → Type 0
IsDescribed (kind.Scatter s) = (text : List ℕ) × (scatter_of text ≡ Ok s)
IsDescribed (kind.Plain base) = base % 4 ≡ 0
IsDescribed (kind.Aif base relocatable) = base % 4 ≡ 0

-- an image of sound objects was placed so, with a view wherever it is put
abbrev pub HasViews : Kind → Option (List Range32) → List (Named Object) → Image → Type 0
HasViews k ram os i = (views : ℕ → ByteMap) × IsPlacedAs k ram os i views

abbrev pub ImagesArePlaced : Type 0
ImagesArePlaced =
    (k : Kind) (ram : Option (List Range32)) (os : List (Named Object)) (i : Image)
    → AreSound os → IsDescribed k → linking k ram os ≡ Ok i → HasViews k ram os i
