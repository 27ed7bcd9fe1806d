-- Areas whose fields are judged and patched at once. This project's.
use Rattle.std.specs.Prelude.{ℕ, List, slice_get, Option}
use Rattle.std.specs.List.{filter_map}
use Rattle.sdt_fault.specs.declared.refusal.Refusal.{Refusal}
use Rattle.aof_object.specs.declared.records.Object.{Object}
use Rattle.aof_object.specs.declared.records.Reloc.{Reloc}
use Rattle.patch_model.specs.Fields.{field_of}
use Rattle.link_model.specs.declared.selection.Named.{Named}
use Rattle.link_apply.specs.declared.flaws.Flaw.{Flaw}
use Rattle.link_apply.specs.declared.sites.PlacedLink.{PlacedLink}
use Rattle.link_apply.specs.declared.sites.Site.{Site}
use Rattle.link_apply.specs.Flaws.{flaw_of, refusal_of}
use Rattle.link_apply.specs.PatchedBytes.{patched_number, patched_bytes}
use Rattle.link_apply.specs.Sites.{values_at}

-- ---- of a site

abbrev pub flaw_at : PlacedLink → Site → Reloc → Option Flaw
flaw_at known site r =
    flaw_of known.placement.now (values_at known site) site.placed.region site.placed.address site.placed.area.area site.area.now r

abbrev pub number_at : PlacedLink → Site → Reloc → ℕ
number_at known site r =
    patched_number known.placement.now (values_at known site) site.placed.region site.placed.address site.area.now (field_of r)

abbrev pub refusal_at : PlacedLink → Site → Named Object → Reloc → Option Refusal
refusal_at known site o r = refusal_of known.placement.now (values_at known site) site.placed o site.area.now r

-- the refusal of the first of these relocations that has a flaw
abbrev pub first_refusal : PlacedLink → Site → Named Object → List Reloc → Option Refusal
first_refusal known site o relocs = slice_get (filter_map (refusal_at known site o) relocs) 0

abbrev pub bytes_at : PlacedLink → Site → List ℕ
bytes_at known site = patched_bytes known.placement.now (values_at known site) site.placed.region site.placed.address site.area.now
