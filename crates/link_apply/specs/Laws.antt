-- What follows from the definitions of flaws and of patched bytes. This project's.
use Rattle.std.specs.Prelude.{◌≡◌, ℕ, ◌%◌, ◌^◌, ◌<◌, Bool, List, get_or, slice_get, Some, None}
use Rattle.aof_object.specs.declared.records.Area.{Area}
use Rattle.aof_object.specs.declared.records.Reloc.{Reloc}
use Rattle.patch_model.specs.Fields.{Branch, Home, Values, kind_of, field_of, directives}
use Rattle.patch_model.specs.Patched.{ByVeneer, way_of, AreaPatched}
use Rattle.patch_model.specs.Reaches.{HasVeneer}
use Rattle.link_model.specs.declared.placing.Placement.{Placement}
use Rattle.link_apply.specs.Placed.{veneers_at, target_in}
use Rattle.link_apply.specs.Flaws.{flaw_of}
use Rattle.link_apply.specs.PatchedBytes.{patched_bytes, veneer_bytes}

abbrev pub AreBytes : List ℕ → Type 0
AreBytes bytes = (i : ℕ) → get_or bytes i 0 < 2 ^ 8

-- no relocation of an area of a number has a flaw
abbrev pub AreSound : Placement → Values → ℕ → ℕ → ℕ → Area → Type 0
AreSound p values region base area a = (k : ℕ) (r : Reloc) → slice_get a.relocs k ≡ Some r → flaw_of p values region base area a r ≡ None

-- the bytes of such an area are those that its directives ask for
abbrev pub PatchedLaw : Type 0
PatchedLaw =
    (p : Placement) (values : Values) (region base area : ℕ) (a : Area) → AreBytes a.bytes → AreSound p values region base area a
    → AreaPatched a.relocs a.bytes base values (veneers_at p region) (patched_bytes p values region base a)

-- the veneer that a branch of an area goes by, where the branch has no flaw and the veneer is at a whole word
pub record GoesBy (p : Placement) (values : Values) (region base area : ℕ) (a : Area) (home : Home) (state : Bool) (v : ℕ) : Type 0 where
  pub reloc : Reloc
  pub thumb : Bool
  pub branch : kind_of reloc ≡ Branch thumb
  pub sound : flaw_of p values region base area a reloc ≡ None
  pub way : way_of base values a.bytes (field_of reloc) thumb (directives a.relocs (field_of reloc)) ≡ ByVeneer home state
  pub stands : veneers_at p region home state ≡ Some v
  pub whole : v % 4 ≡ 0

-- it has its instructions
abbrev pub VeneerLaw : Type 0
VeneerLaw =
    (p : Placement) (values : Values) (region base area : ℕ) (a : Area) (home : Home) (state : Bool) (v : ℕ) → GoesBy p values region base area a home state v
    → HasVeneer v (target_in p home) state (veneer_bytes v (target_in p home) state)
