-- Placed images have views and files, and a scatter image that is placed starts. This project's.
use Rattle.std.specs.Prelude.{◌≡◌, ◌≢◌, ℕ, ◌%◌, ◌^◌, ◌<◌, ◌≤◌, Bool, false, List, [], Option, Some, None}
use Rattle.std.specs.List.{list_any, AllByRecursion}
use Rattle.sdt_word.specs.declared.ranges.Range32.{Range32}
use Rattle.boot_code.specs.Boots.{ByteMap, Boots, Places, covers, moved, zeroed}
use Rattle.boot_code.specs.Laws.{bound_of, written_by}
use Rattle.boot_code.specs.Maps.{Segment, map_of, Holds}
use Rattle.place_model.specs.declared.scatter.Kind.{Kind}
use Rattle.place_model.specs.declared.scatter.Kind.TheVariants as kind
use Rattle.place_model.specs.declared.scatter.Scatter.{Scatter}
use Rattle.place_model.specs.Assignment.{AreAssigned}
use Rattle.place_model.specs.Items.{Item}
use Rattle.place_model.specs.Things.{Stood, size_of, stood}
use Rattle.place_model.specs.Plans.{Contents, end_of, Plan, regions_of, copies_of, parts_of, plan_of, boot_address}
use Rattle.place_model.specs.Faults.{execution_meeting, place_refusal}
use Rattle.place_model.specs.Laws.{AreWhole}
use Rattle.image_model.specs.Regions.{Filling, Given, AreSized, filled}
use Rattle.image_model.specs.Views.{IsView, view_of, IsLoadView, files_of}

-- ---- views and files

-- the address is one of a thing's
abbrev pub takes_up : ℕ → Stood → Bool
takes_up x t = covers t.address (size_of t.thing) x

-- what an execution view and a load view of a plan are made of
pub record ViewLaw : Type 0 where
  -- where no two execution ranges meet there is a view, and of its bytes there is one
  pub view : (p : Plan) (held : Filling) → execution_meeting p ≡ None → AreSized held p → IsView p held (view_of p held)
  pub once : (p : Plan) (held : Filling) (view other : ByteMap) → AreSized held p → IsView p held view → IsView p held other → (x : ℕ) → view x ≡ other x
  -- each thing stands in it at its address, and what no thing takes is zero
  pub things : (p : Plan) (held : Filling) (view : ByteMap) → AreSized held p → IsView p held view
      → AllByRecursion (λ r. AllByRecursion (λ t. Holds view t.address (held r t.thing)) (stood r.origin r.base r.things)) (regions_of p)
  pub gaps : (p : Plan) (held : Filling) (view : ByteMap) → AreSized held p → IsView p held view
      → AllByRecursion (λ r. (x : ℕ) → r.base ≤ x → x < end_of r → list_any (takes_up x) (stood r.origin r.base r.things) ≡ false → view x ≡ Some 0) (regions_of p)
  -- where nothing is refused there are files
  pub files : (k : Kind) (c : Contents) (ram : Option (List Range32)) (held : Filling) → place_refusal k ram (plan_of k c) ≡ None → AreSized held (plan_of k c)
      → IsLoadView (plan_of k c) (view_of (plan_of k c) held) (files_of (plan_of k c) held)
  -- the files, with copied regions moved to where they run and zero parts set to zero, are the view
  pub moved : (p : Plan) (held : Filling) (view : ByteMap) (files : List Segment) → IsView p held view → IsLoadView p view files
      → (x b : ℕ) → view x ≡ Some b → zeroed (Some 0) (moved (map_of files) (copies_of p)) (parts_of p) x ≡ Some b

-- ---- an image without a scatter description

-- its files, with zero parts set to zero, are the view
abbrev pub PlainLaw : Type 0
PlainLaw =
    (base : ℕ) (c : Contents) (items : List Item) (held : Filling) (view : ByteMap) (files : List Segment)
    → AreAssigned (kind.Plain base) items c.areas → IsView (plan_of (kind.Plain base) c) held view → IsLoadView (plan_of (kind.Plain base) c) view files
    → (x : ℕ) → zeroed (Some 0) (map_of files) (parts_of (plan_of (kind.Plain base) c)) x ≡ view x

-- ---- a scatter image

abbrev pub scatter_plan : Scatter → Contents → Plan
scatter_plan s c = plan_of (kind.Scatter s) c

-- what is placed is whole words, and nothing is refused; what stands in the regions has its size; the view and
-- the files are those of the plan; the startup code stands at a; the entry has bit 0 set for Thumb
pub record IsImage (s : Scatter) (c : Contents) (g : Given) (ram : Option (List Range32)) (view : ByteMap) (files : List Segment) (a : ℕ) : Type 0 where
  pub whole : AreWhole (kind.Scatter s) c
  pub accepted : place_refusal (kind.Scatter s) ram (scatter_plan s c) ≡ None
  pub sized : AreSized (filled g (scatter_plan s c) []) (scatter_plan s c)
  pub shows : IsView (scatter_plan s c) (filled g (scatter_plan s c) []) view
  pub loads : IsLoadView (scatter_plan s c) view files
  pub boot : boot_address (scatter_plan s c) ≡ Some a
  pub entry_small : g.entry < 2 ^ 32
  pub entry_fair : g.entry % 4 ≢ 2

-- its rows are placed
abbrev pub ImagePlaces : Type 0
ImagePlaces =
    (s : Scatter) (c : Contents) (g : Given) (ram : Option (List Range32)) (view : ByteMap) (files : List Segment) (a : ℕ) → IsImage s c g ram view files a
    → Places (map_of files) view (written_by (copies_of (scatter_plan s c)) (parts_of (scatter_plan s c))) (copies_of (scatter_plan s c)) (parts_of (scatter_plan s c)) g.entry a

-- and it boots
abbrev pub ImageBoots : Type 0
ImageBoots =
    (s : Scatter) (c : Contents) (g : Given) (ram : Option (List Range32)) (view : ByteMap) (files : List Segment) (a : ℕ) → IsImage s c g ram view files a
    → Boots (map_of files) view (written_by (copies_of (scatter_plan s c)) (parts_of (scatter_plan s c))) a
    (bound_of (copies_of (scatter_plan s c)) (parts_of (scatter_plan s c))) g.entry
