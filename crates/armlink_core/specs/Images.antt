-- The image of a link that is made, and what a link of objects and libraries answers: the refusals of selection, then
-- that of a description that can't be read, then those of the link (SDT 2.50 Reference Guide, armlink; the order, and
-- that an image's start is its startup code's, are this project's).
use Rattle.std.specs.Prelude.{◌≡◌, ℕ, suc, ◌+◌, ◌%◌, ◌^◌, ◌==◌, if◌then◌else◌, List, [], ◌∷◌, ◌++◌, length, Option, Some, None, unwrap_or, Result, Ok, Err}
use Rattle.sdt_word.specs.declared.ranges.Range32.{Range32}
use Rattle.sdt_fault.specs.declared.answer.Fault.{Fault}
use Rattle.sdt_fault.specs.declared.answer.Fault.TheVariants as fault
use Rattle.sdt_fault.specs.declared.refusal.Refusal.{Refusal}
use Rattle.chunk_file.specs.Reading.{◌>>=◌}
use Rattle.aof_object.specs.declared.records.Object.{Object}
use Rattle.alf_archive.specs.declared.records.Archive.{Archive}
use Rattle.boot_code.specs.Aif.{aif_bound}
use Rattle.boot_code.specs.Laws.{bound_of}
use Rattle.link_model.specs.declared.images.Image.{Image}
use Rattle.link_model.specs.declared.images.ImageKind.{ImageKind}
use Rattle.link_model.specs.declared.images.ImageKind.TheVariants as form
use Rattle.link_model.specs.declared.images.LoadRegion.{LoadRegion}
use Rattle.link_model.specs.declared.placing.Placement.{Placement}
use Rattle.link_model.specs.declared.placing.Region.{Region}
use Rattle.link_model.specs.declared.selection.Linked.{Linked}
use Rattle.link_model.specs.declared.selection.Named.{Named}
use Rattle.link_model.specs.Chosen.{AreLinked}
use Rattle.place_model.specs.declared.scatter.Kind.{Kind}
use Rattle.place_model.specs.declared.scatter.Kind.TheVariants as kind
use Rattle.place_model.specs.declared.scatter.Scatter.{Scatter}
use Rattle.place_model.specs.declared.scatter.ScatterLoad.{ScatterLoad}
use Rattle.place_model.specs.Assignment.{description}
use Rattle.scatter_text.specs.Reading.{scatter_of}
use Rattle.link_select.specs.Selection.{selection_of}
use Rattle.link_values.specs.Placed.{base_in}
use Rattle.link_apply.specs.Placed.{called}
use Rattle.link_apply.specs.RegionBytes.{copy_rows, zero_rows}
use Rattle.armlink_core.specs.declared.making.PlacedImage.{PlacedImage}
use Rattle.armlink_core.specs.Linking.{made_of, symbols_of}
use Rattle.armlink_core.specs.Moves.{moves_in}
use Rattle.armlink_core.specs.Sizes.{size_at}

-- ---- the image

abbrev pub form_of : Kind → ImageKind
form_of (kind.Scatter s) = form.Scatter
form_of (kind.Plain base) = form.Plain
form_of (kind.Aif base relocatable) = form.Aif relocatable

-- the bytes of the regions that the load region of a number has, one after the other
abbrev pub bytes_in : ℕ → List Region → List (List ℕ) → List ℕ
bytes_in number [] parts = []
bytes_in number (r ∷ regions) [] = []
bytes_in number (r ∷ regions) (bytes ∷ parts) = (if r.load_region == number then bytes else []) ++ bytes_in number regions parts

-- of load regions that are counted from a number on
abbrev pub loads_from : ℕ → List Region → List (List ℕ) → List ScatterLoad → List LoadRegion
loads_from number regions parts [] = []
loads_from number regions parts (l ∷ loads) =
    (record { name = l.name; base = l.base; bytes = bytes_in number regions parts }) ∷ loads_from (suc number) regions parts loads

-- a scatter image starts with its startup code, another at its base
abbrev pub start_of : Kind → Placement → ℕ
start_of (kind.Scatter s) p = unwrap_or p.boot 0
start_of (kind.Plain base) p = base
start_of (kind.Aif base relocatable) p = base

abbrev pub entry_of : Linked → Placement → ℕ
entry_of l p = (base_in p l.entry.object l.entry.area + l.entry.offset) % 2 ^ 32

-- an AIF's header may call a veneer
abbrev pub call_of : Kind → Linked → Placement → ℕ
call_of (kind.Aif base relocatable) l p = called l.entry.thumb l p
call_of _ l p = entry_of l p

-- the steps at most of the startup code, or of an AIF's, which clears its third region; the bytes alone have none
abbrev pub bound_in : Kind → Placement → List ℕ → ℕ
bound_in (kind.Scatter s) p moves = bound_of (copy_rows p) (zero_rows p)
bound_in (kind.Plain base) p moves = 0
bound_in (kind.Aif base relocatable) p moves = aif_bound (length moves) (size_at p.regions 2)

abbrev pub image_of : Kind → PlacedImage → List ℕ → Image
image_of k m moves = record {
  kind = form_of k;
  loads = loads_from 0 m.placement.regions m.bytes (description k);
  regions = m.placement.regions;
  start = start_of k m.placement;
  entry = entry_of m.linked m.placement;
  call = call_of k m.linked m.placement;
  thumb = m.linked.entry.thumb;
  bound = bound_in k m.placement moves;
  moves = moves;
}

-- ---- a link

abbrev pub image_made : Kind → PlacedImage → Result Image Refusal
image_made k m = moves_in k m.linked m.placement >>= λ moves. Ok (image_of k m moves)

-- of what is selected
abbrev pub image_with : Kind → Option (List Range32) → Linked → Result Image Refusal
image_with k ram l = made_of k ram l >>= image_made k

abbrev pub linking : Kind → Option (List Range32) → List (Named Object) → Result Image Refusal
linking k ram os = selection_of (Some (symbols_of k)) os >>= λ l. image_with k ram l

-- without a description, with all names of a region symbol's form defined
abbrev pub undescribed : Refusal → List (Named Object) → Result Image Refusal
undescribed r os = selection_of None os >>= λ l. Err r

-- by the description that a text spells, or else without one
abbrev pub described : Result Scatter Refusal → Option (List Range32) → List (Named Object) → Result Image Refusal
described (Ok s) ram os = linking (kind.Scatter s) ram os
described (Err r) ram os = undescribed r os

abbrev pub scatter_linking : List ℕ → Option (List Range32) → List (Named Object) → Result Image Refusal
scatter_linking text ram os = described (scatter_of text) ram os

-- the answer of a call is what the linked objects give, or memory was refused
abbrev pub Links : {A : Type 0} → List (Named Object) → List (Named Archive) → (List (Named Object) → Result A Refusal)
    → Result A Fault → Type 0
Links objects archives gives (Ok a) = (os : List (Named Object)) × AreLinked objects archives os × (gives os ≡ Ok a)
Links objects archives gives (Err fault.NoMemory) = Unit {0}
Links objects archives gives (Err (fault.Refused r)) = (os : List (Named Object)) × AreLinked objects archives os × (gives os ≡ Err r)
Links objects archives gives (Err (fault.ReadFault name)) = ⊥
