-- What follows from the definitions of placing. This project's.
use Rattle.std.specs.Prelude.{◌≡◌, ◌⊎◌, ◌↔◌, ℕ, suc, ◌+◌, ◌-◌, ◌%◌, ◌^◌, ◌<◌, ◌≤◌, Bool, true, false, List, slice_get, IsPermutation, Option, Some, None}
use Rattle.std.specs.List.{flat_map, list_any, AllByRecursion}
use Rattle.sdt_word.specs.declared.ranges.Range32.{Range32}
use Rattle.sdt_fault.specs.declared.refusal.Refusal.{Refusal}
use Rattle.boot_code.specs.Boots.{covers}
use Rattle.place_model.specs.declared.scatter.Kind.{Kind}
use Rattle.place_model.specs.declared.scatter.Kind.TheVariants as kind
use Rattle.place_model.specs.declared.scatter.Scatter.{Scatter}
use Rattle.place_model.specs.declared.scatter.ScatterBase.{ScatterBase}
use Rattle.place_model.specs.declared.scatter.ScatterBase.TheVariants.{At, Plus}
use Rattle.place_model.specs.Items.{Item}
use Rattle.place_model.specs.Assignment.{description, described_regions, Offer, matches, rank, best, Found, Nowhere, Within, Unclear, found, Kept, may_precede, in_order}
use Rattle.place_model.specs.Things.{gap}
use Rattle.place_model.specs.Plans.{Contents, Planned, length_of, zero_length_of, Plan, plan_for, regions_of, IsLeastTable, table_words}
use Rattle.place_model.specs.Faults.{first_told, Judged, overfull, judged, Span, shared, Meeting, Move, first_meeting, in_range, lacking, least, unwritable, not_writable}

-- ---- whole words

-- the size is a multiple of 4, and the alignment at least 2^2, as in a valid object
pub record IsWholeItem (i : Item) : Type 0 where
  pub size : i.size % 4 ≡ 0
  pub alignment : 2 ≤ i.attributes % 256

abbrev pub IsWholeBase : ScatterBase → Type 0
IsWholeBase (At address) = address % 4 ≡ 0
IsWholeBase (Plus offset) = offset % 4 ≡ 0

-- a description has multiples of 4 alone, and so have the areas
pub record AreWhole (k : Kind) (c : Contents) : Type 0 where
  pub loads : AllByRecursion (λ l. l.base % 4 ≡ 0) (description k)
  pub regions : AllByRecursion (λ r. IsWholeBase r.base) (described_regions k)
  pub items : AllByRecursion (λ areas. AllByRecursion IsWholeItem areas) c.areas

-- a region is loaded and runs at multiples of 4, and the numbers of bytes that are loaded, and of zeros behind
-- them, are multiples of 4
pub record IsWholeRegion (r : Planned) : Type 0 where
  pub load : r.load % 4 ≡ 0
  pub base : r.base % 4 ≡ 0
  pub loaded : length_of r % 4 ≡ 0
  pub cleared : zero_length_of r % 4 ≡ 0

-- ---- what the functions give, in the subject's words

-- of whole words each region of a plan is whole words, with a table of any size
abbrev pub WholeLaw : Type 0
WholeLaw = (k : Kind) (c : Contents) (words : ℕ) → AreWhole k c → AllByRecursion IsWholeRegion (regions_of (plan_for k c words))

-- a thing begins at the least address behind the one before it that its alignment allows
pub record GapLaw : Type 0 where
  pub allowed : (origin multiple at : ℕ) → origin ≤ at → 0 < multiple → (at + gap origin multiple at - origin) % multiple ≡ 0
  pub least : (origin multiple at x : ℕ) → origin ≤ at → 0 < multiple → at ≤ x → (x - origin) % multiple ≡ 0 → at + gap origin multiple at ≤ x

-- the table has the least size that suffices
abbrev pub TableLaw : Type 0
TableLaw = (s : Scatter) (c : Contents) → IsLeastTable (kind.Scatter s) c (table_words (kind.Scatter s) c)

pub record IsIn (x : ℕ) (s : Span) : Type 0 where
  pub from_base : s.base ≤ x
  pub below_end : x < s.base + s.size

abbrev pub IsLeastShared : Span → Span → Option ℕ → Type 0
IsLeastShared s t None = (x : ℕ) → IsIn x s → IsIn x t → ⊥
IsLeastShared s t (Some a) = IsIn a s × IsIn a t × ((x : ℕ) → IsIn x s → IsIn x t → a ≤ x)

-- the least address of two ranges, and none exactly where they share none
abbrev pub SharedLaw : Type 0
SharedLaw = (s t : Span) → IsLeastShared s t (shared s t)

-- of all pairs of an earlier and a later move of which the first writes what the second reads, the first by the
-- earlier and then by the later, with the least address
pub record IsFirstMeeting (ms : List Move) (told : Meeting) : Type 0 where
  pub earlier : ℕ
  pub later : ℕ
  pub one : Move
  pub other : Move
  pub order : earlier < later
  pub one_at : slice_get ms earlier ≡ Some one
  pub other_at : slice_get ms later ≡ Some other
  pub address : shared one.written other.read ≡ Some told.address
  pub first_name : told.first ≡ one.written.name
  pub second_name : told.second ≡ other.read.name
  pub none_before : (k l : ℕ) (m n : Move) → k < l → slice_get ms k ≡ Some m → slice_get ms l ≡ Some n
      → (k < earlier) ⊎ ((k ≡ earlier) × (l < later)) → shared m.written n.read ≡ None

abbrev pub OfMeeting : List Move → Option Meeting → Type 0
OfMeeting ms None = (k l : ℕ) (m n : Move) → k < l → slice_get ms k ≡ Some m → slice_get ms l ≡ Some n → shared m.written n.read ≡ None
OfMeeting ms (Some told) = IsFirstMeeting ms told

-- and none is told exactly where no pair meets
abbrev pub MeetingLaw : Type 0
MeetingLaw = (ms : List Move) → OfMeeting ms (first_meeting ms)

-- ---- selections

-- the selection of a place matches the area, and none that does is better
pub record IsBest (offers : List Offer) (i : Item) (place : ℕ) (o : Offer) : Type 0 where
  pub at : slice_get offers place ≡ Some o
  pub matching : matches o.selection i ≡ true
  pub none_better : (k : ℕ) (p : Offer) → slice_get offers k ≡ Some p → matches p.selection i ≡ true → rank o.selection ≤ rank p.selection

pub record IsOnlyBest (offers : List Offer) (i : Item) (o : Offer) : Type 0 where
  pub place : ℕ
  pub best : IsBest offers i place o
  pub only : (k : ℕ) (p : Offer) → IsBest offers i k p → k ≡ place

-- the first two of those that are best
pub record AreFirstBest (offers : List Offer) (i : Item) (o p : Offer) : Type 0 where
  pub first : ℕ
  pub second : ℕ
  pub order : first < second
  pub one : IsBest offers i first o
  pub other : IsBest offers i second p
  pub none_between : (k : ℕ) (q : Offer) → IsBest offers i k q → (k ≡ first) ⊎ (second ≤ k)

abbrev pub OfFound : List Offer → Item → Found → Type 0
OfFound offers i Nowhere = (k : ℕ) (o : Offer) → slice_get offers k ≡ Some o → matches o.selection i ≡ false
OfFound offers i (Within o) = IsOnlyBest offers i o
OfFound offers i (Unclear o p) = AreFirstBest offers i o p

-- an area is told to be nowhere, in the region of its only best selection, or unclear by the first two
abbrev pub AssignmentLaw : Type 0
AssignmentLaw = (offers : List Offer) (i : Item) → OfFound offers i (found (best offers i))

-- ---- the order in a region

-- all of them once, each of which may precede the next
pub record OrderLaw : Type 0 where
  pub same : (ks : List Kept) → IsPermutation ks (in_order ks)
  pub sorted : (ks : List Kept) (i : ℕ) (k l : Kept) → slice_get (in_order ks) i ≡ Some k → slice_get (in_order ks) (suc i) ≡ Some l → may_precede k l ≡ true

-- ---- what is told

-- the first that has something wrong, and none exactly where none has
pub record IsFirstTold {X : Type 0} (wrong : X → Option Refusal) (xs : List X) (r : Refusal) : Type 0 where
  pub place : ℕ
  pub x : X
  pub at : slice_get xs place ≡ Some x
  pub told : wrong x ≡ Some r
  pub none_before : (k : ℕ) (y : X) → slice_get xs k ≡ Some y → k < place → wrong y ≡ None

abbrev pub OfFirst : {X : Type 0} → (X → Option Refusal) → List X → Option Refusal → Type 0
OfFirst wrong xs None = (k : ℕ) (y : _) → slice_get xs k ≡ Some y → wrong y ≡ None
OfFirst wrong xs (Some r) = IsFirstTold wrong xs r

-- at most the declared maximum, and within memory
pub record HasRoom (j : Judged) : Type 0 where
  pub declared : (most : ℕ) → j.maximum ≡ Some most → j.size ≤ most
  pub memory : j.base + j.size ≤ 2 ^ 32

-- an address of these ranges, and the least that is in no RAM
abbrev pub in_some : List Span → ℕ → Bool
in_some spans x = list_any (λ s. covers s.base s.size x) spans

abbrev pub in_ram : List Range32 → ℕ → Bool
in_ram ram x = list_any (in_range x) ram

pub record IsLeastLacking (ram : List Range32) (spans : List Span) (a : ℕ) : Type 0 where
  pub written : in_some spans a ≡ true
  pub outside : in_ram ram a ≡ false
  pub least : (x : ℕ) → in_some spans x ≡ true → in_ram ram x ≡ false → a ≤ x

abbrev pub OfLacking : List Range32 → List Span → Option ℕ → Type 0
OfLacking ram spans None = (x : ℕ) → in_some spans x ≡ true → in_ram ram x ≡ true
OfLacking ram spans (Some a) = IsLeastLacking ram spans a

pub record ToldLaw : Type 0 where
  pub first_overfull : (k : Kind) (p : Plan) → OfFirst overfull (judged k p) (first_told overfull (judged k p))
  pub room : (j : Judged) → (overfull j ≡ None) ↔ HasRoom j
  pub first_unwritable : (ram : List Range32) (p : Plan) → OfFirst (unwritable ram) (regions_of p) (not_writable (Some ram) p)
  pub least_lacking : (ram : List Range32) (spans : List Span) → OfLacking ram spans (least (flat_map (lacking ram) spans))
