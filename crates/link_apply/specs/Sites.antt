-- What stands fast of a placed link, and of one of its areas. This project's.
use Rattle.std.specs.Prelude.{◌≡◌, ℕ, ◌≤◌, ◌<◌, ◌^◌, true, List, length, slice_get, Some}
use Rattle.patch_model.specs.Fields.{Values}
use Rattle.link_model.specs.Members.{link_of}
use Rattle.link_values.specs.declared.values.SymbolValue.{SymbolValue}
use Rattle.link_values.specs.Bases.{base_of, AreBases}
use Rattle.link_values.specs.Placed.{values_in}
use Rattle.link_values.specs.Values.{AreValues}
use Rattle.link_apply.specs.declared.sites.PlacedLink.{PlacedLink}
use Rattle.link_apply.specs.declared.sites.Site.{Site}
use Rattle.link_apply.specs.Applied.{IsWithin}
use Rattle.link_apply.specs.Detours.{AreVeneers}
use Rattle.link_apply.specs.Starts.{AreBelow, AreEven, AreStarts}
use Rattle.link_apply.specs.Targets.{values_by}

abbrev pub AreAllBelow : List (List SymbolValue) → Type 0
AreAllBelow values = (object : ℕ) (symbols : List SymbolValue) → slice_get values object ≡ Some symbols → AreBelow symbols

-- the indexes are those of the placement
pub record Knows (known : PlacedLink) : Type 0 where
  pub within : IsWithin known.placement.now
  pub bases : AreBases known.placement.now known.bases
  pub values : AreValues (link_of known.linked.now) known.placement.now known.values
  pub below : AreAllBelow known.values
  pub veneers : AreVeneers known.placement.now.veneers known.veneers

-- the values of the symbols of an object
abbrev pub known_values : PlacedLink → ℕ → Values
known_values known object = values_in (link_of known.linked.now) known.placement.now object

abbrev pub values_at : PlacedLink → Site → Values
values_at known site = known_values known site.placed.area.object

-- what the site has is of its area and object
pub record IsSite (known : PlacedLink) (site : Site) : Type 0 where
  pub address : site.placed.address ≤ 2 ^ 32
  pub values : values_by (base_of known.bases site.placed.area.object) site.symbols.now ≡ values_at known site
  pub below : AreBelow site.symbols.now
  pub few : length site.area.now.relocs < 2 ^ 28
  pub starts : AreStarts (values_at known site) site.area.now.relocs site.starts
  pub even : site.even ≡ true → AreEven site.starts
