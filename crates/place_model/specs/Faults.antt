-- What is wrong with a plan, in the order in which it is told (SDT 2.50 Reference Guide, scatter loading; the
-- order, the limits, and which of several defects is told are this project's).
use Rattle.std.specs.Prelude.{ℕ, ◌+◌, ◌-◌, ◌^◌, Bool, not, ◌&&◌, nat_lt, if◌then◌else◌, min, max, List, [], ◌∷◌, ◌++◌, map, slice_get, sum_by, unwrap_or, Option, Some, None}
use Rattle.std.specs.List.{filter, filter_map, flat_map, list_any}
use Rattle.std.specs.Option.{option_map, option_or}
use Rattle.sdt_word.specs.declared.ranges.Range32.{Range32}
use Rattle.sdt_fault.specs.declared.kinds.Quantity.TheVariants.{ImageBytes, AifBytes}
use Rattle.sdt_fault.specs.declared.refusal.Refusal.{Refusal}
use Rattle.sdt_fault.specs.declared.refusal.Refusal.TheVariants.{NoRoot, Overfull, Overlap, CopyConflict, TooLarge, NotWritable}
use Rattle.boot_code.specs.Boots.{covers}
use Rattle.place_model.specs.declared.scatter.Kind.{Kind}
use Rattle.place_model.specs.declared.scatter.Kind.TheVariants as kind
use Rattle.place_model.specs.Items.{is_read_only}
use Rattle.place_model.specs.Things.{Thing, AnArea, Stood, stood}
use Rattle.place_model.specs.Plans.{Planned, length_of, zero_base_of, zero_length_of, execution_size, PlannedLoad, load_size, Plan, regions_of, is_root, is_copied, copied_regions}

-- what is told of the first that has something wrong
abbrev pub first_told : {X : Type 0} → (X → Option Refusal) → List X → Option Refusal
first_told wrong xs = slice_get (filter_map wrong xs) 0

-- ---- NoRoot: the first region isn't loaded where it runs

abbrev pub rootless : List Planned → Option Refusal
rootless [] = None
rootless (r ∷ regions) = if is_root r then None else Some (NoRoot r.name)

-- ---- Overfull: more than a declared maximum, or than memory has from the base on. A load region counts what
-- is loaded; it and then its execution regions are judged. Nothing begins above 2^32: there the maximum is 0,
-- whatever is declared.

pub record Judged : Type 0 where
  pub name : List ℕ
  pub base : ℕ
  pub size : ℕ
  pub maximum : Option ℕ

abbrev pub above : Judged → ℕ → Option Refusal
above j most = if nat_lt most j.size then Some (Overfull j.name j.size most) else None

abbrev pub above_maximum : Judged → Option ℕ → Option Refusal
above_maximum j None = None
above_maximum j (Some most) = above j most

abbrev pub overfull : Judged → Option Refusal
overfull j =
    if nat_lt (2 ^ 32) j.base then Some (Overfull j.name j.size 0)
    else option_or (above_maximum j j.maximum) (above j (2 ^ 32 - j.base))

abbrev pub judged_region : Planned → Judged
judged_region r = record { name = r.name; base = r.base; size = execution_size r; maximum = r.maximum }

-- without a scatter description there are no load regions to be named
abbrev pub judged_load : Kind → PlannedLoad → List Judged
judged_load (kind.Scatter s) l = (record { name = l.name; base = l.base; size = load_size l; maximum = l.maximum }) ∷ []
judged_load _ l = []

abbrev pub judged : Kind → Plan → List Judged
judged k p = flat_map (λ l. judged_load k l ++ map judged_region l.regions) p

-- ---- ranges that meet: the least address of both

pub record Span : Type 0 where
  pub name : List ℕ
  pub base : ℕ
  pub size : ℕ

abbrev pub shared : Span → Span → Option ℕ
shared s t =
    if nat_lt (max s.base t.base) (min (s.base + s.size) (t.base + t.size)) then Some (max s.base t.base) else None

pub record Meeting : Type 0 where
  pub first : List ℕ
  pub second : List ℕ
  pub address : ℕ

-- a range that is written, and one that is read
pub record Move : Type 0 where
  pub written : Span
  pub read : Span

-- the first of some moves whose source a range meets
abbrev pub met_by : Span → List Move → Option Meeting
met_by s [] = None
met_by s (m ∷ ms) = option_or (option_map (λ a. record { first = s.name; second = m.read.name; address = a }) (shared s m.read)) (met_by s ms)

-- what one writes and a later one reads, by the earlier and then by the later
abbrev pub first_meeting : List Move → Option Meeting
first_meeting [] = None
first_meeting (m ∷ ms) = option_or (met_by m.written ms) (first_meeting ms)

-- ---- Overlap: two load ranges, or else two execution ranges

abbrev pub standing : Span → Move
standing s = record { written = s; read = s }

abbrev pub load_span : PlannedLoad → Span
load_span l = record { name = l.name; base = l.base; size = load_size l }

abbrev pub execution_span : Planned → Span
execution_span r = record { name = r.name; base = r.base; size = execution_size r }

abbrev pub load_meeting : Plan → Option Meeting
load_meeting p = first_meeting (map (λ l. standing (load_span l)) p)

abbrev pub execution_meeting : Plan → Option Meeting
execution_meeting p = first_meeting (map (λ r. standing (execution_span r)) (regions_of p))

abbrev pub overlap : Plan → Option Meeting
overlap p = option_or (load_meeting p) (execution_meeting p)

-- ---- CopyConflict: what a copy writes and a later copy reads

abbrev pub source_span : Planned → Span
source_span r = record { name = r.name; base = r.load; size = length_of r }

abbrev pub target_span : Planned → Span
target_span r = record { name = r.name; base = r.base; size = length_of r }

abbrev pub copy_move : Planned → Move
copy_move r = record { written = target_span r; read = source_span r }

abbrev pub copy_conflict : Plan → Option Meeting
copy_conflict p = first_meeting (map copy_move (copied_regions p))

-- ---- TooLarge: 64 MiB of all regions, 16 MiB of an AIF's parts and zero part

abbrev pub image_bytes : Plan → ℕ
image_bytes p = sum_by execution_size (regions_of p)

abbrev pub too_large : Plan → Option Refusal
too_large p = if nat_lt (2 ^ 26) (image_bytes p) then Some (TooLarge ImageBytes (2 ^ 26)) else None

abbrev pub aif_too_large : Kind → Plan → Option Refusal
aif_too_large (kind.Aif base relocatable) p = if nat_lt (2 ^ 24) (image_bytes p) then Some (TooLarge AifBytes (2 ^ 24)) else None
aif_too_large _ p = None

-- ---- NotWritable: where RAM is told, what is written at startup or may be by the program lies in it

abbrev pub in_range : ℕ → Range32 → Bool
in_range x r = covers r.base r.size x

-- an area that isn't read-only
abbrev pub written_part : Thing → ℕ → List Span
written_part (AnArea i) address = if is_read_only i then [] else (record { name = i.name; base = address; size = i.size }) ∷ []
written_part _ address = []

abbrev pub written_thing : Stood → List Span
written_thing s = written_part s.thing s.address

abbrev pub zero_span : Planned → Span
zero_span r = record { name = r.name; base = zero_base_of r; size = zero_length_of r }

-- all of a copied region, and the zero part and areas of each
abbrev pub written_spans : Planned → List Span
written_spans r = (if is_copied r then execution_span r ∷ [] else []) ++ zero_span r ∷ flat_map written_thing (stood r.origin r.base r.things)

-- an address of a span outside RAM that no lower one precedes is the span's first or follows a range of RAM
abbrev pub lacking : List Range32 → Span → List ℕ
lacking ram s =
    filter (λ x. covers s.base s.size x && not (list_any (in_range x) ram)) (s.base ∷ map (λ r. r.base + r.size) ram)

abbrev pub least : List ℕ → Option ℕ
least [] = None
least (x ∷ xs) = Some (min x (unwrap_or (least xs) x))

abbrev pub unwritable : List Range32 → Planned → Option Refusal
unwritable ram r = option_map (λ a. NotWritable r.name a) (least (flat_map (lacking ram) (written_spans r)))

abbrev pub not_writable : Option (List Range32) → Plan → Option Refusal
not_writable None p = None
not_writable (Some ram) p = first_told (unwritable ram) (regions_of p)

-- ---- all of them in their order

abbrev pub as_overlap : Meeting → Refusal
as_overlap m = Overlap m.first m.second m.address

abbrev pub as_conflict : Meeting → Refusal
as_conflict m = CopyConflict m.first m.second m.address

abbrev pub place_refusal : Kind → Option (List Range32) → Plan → Option Refusal
place_refusal k ram p =
    option_or (rootless (regions_of p))
    (option_or (first_told overfull (judged k p))
    (option_or (option_map as_overlap (overlap p))
    (option_or (option_map as_conflict (copy_conflict p))
    (option_or (too_large p)
    (option_or (aif_too_large k p)
    (not_writable ram p))))))
