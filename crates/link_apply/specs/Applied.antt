-- What the regions of a link hold once everything stands: the first flaw of a relocation in placed order, or the
-- bytes of each region before its zero part. This project's.
use Rattle.std.specs.Prelude.{ℕ, ◌+◌, ◌≤◌, ◌^◌, List, Result}
use Rattle.std.specs.List.{AllByRecursion}
use Rattle.sdt_fault.specs.declared.refusal.Refusal.{Refusal}
use Rattle.link_model.specs.declared.placing.Placement.{Placement}
use Rattle.link_model.specs.declared.placing.Region.{Region}
use Rattle.link_model.specs.declared.selection.Linked.{Linked}
use Rattle.link_model.specs.Members.{link_of}
use Rattle.link_model.specs.Options.{refused_or}
use Rattle.link_apply.specs.Flaws.{apply_refusal}
use Rattle.link_apply.specs.RegionBytes.{regions_bytes}

abbrev pub applied : Linked → Placement → Result (List (List ℕ)) Refusal
applied l p = refused_or (apply_refusal l p) (regions_bytes (link_of l) p)

-- what is loaded and where it runs ends at 2^32 or below
pub record IsRegionWithin (r : Region) : Type 0 where
  pub loaded : r.load + r.length ≤ 2 ^ 32
  pub runs : r.base + r.length + r.zero ≤ 2 ^ 32

-- a placement in 32 bits
pub record IsWithin (p : Placement) : Type 0 where
  pub areas : AllByRecursion (λ a. a.address ≤ 2 ^ 32) p.areas
  pub regions : AllByRecursion IsRegionWithin p.regions
