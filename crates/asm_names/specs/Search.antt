-- How far the search has come: which names are known, what waits for each that is not, and which expressions have their
-- place. This project's.
use Rattle.std.specs.Prelude.{◌≡◌, ℕ, zero, suc, ◌+◌, ◌<◌, ◌≤◌, ◌==◌, Bool, true, false, if◌then◌else◌, List, [], ◌∷◌, ◌++◌, length, take, set, slice_get, slice_index_or, nat_lt, Option, Some, None, Vec}
use Rattle.std.specs.List.{AllByRecursion, list_any, count_by, sum_by}
use Rattle.std.specs.Option.{option_map, option_or}
use Rattle.std.specs.declared.alloc.Global.{Global}
use Rattle.asm_model.specs.declared.exprs.Expr.{Expr}
use Rattle.asm_model.specs.declared.exprs.ExprItem.{ExprItem}
use Rattle.asm_model.specs.declared.exprs.ExprItem.TheVariants as item
use Rattle.asm_model.specs.Forms.{same}
use Rattle.asm_model.specs.LayoutKinds.{is_settled_item, are_settled}
use Rattle.asm_names.specs.declared.search.Waiting.{Waiting}
use Rattle.asm_names.specs.declared.search.Unknown.{Unknown}
use Rattle.asm_names.specs.declared.search.Progress.{Progress}
use Rattle.asm_names.specs.Index.{Numbers, number_in, IsIndexOf}
use Rattle.asm_names.specs.Order.{names_at, times}

abbrev pub Lists : Type 0
Lists = List (Vec Waiting Global)

-- ---- one look

abbrev pub mark : List Bool → Option ℕ → Bool
mark known None = false
mark known (Some k) = slice_index_or known k false

abbrev pub is_known : Numbers → List Bool → List ℕ → Bool
is_known m known q = mark known (number_in m q)

abbrev pub if_unknown : List Bool → Option ℕ → Option ℕ
if_unknown known None = None
if_unknown known (Some k) = if slice_index_or known k false then None else Some k

-- the number of a name for an expression that isn't known
abbrev pub unknown_in : Numbers → List Bool → ExprItem → Option ℕ
unknown_in m known (item.Name q) = if_unknown known (number_in m q)
unknown_in m known _ = None

abbrev pub unknown_at : ℕ → ℕ → Unknown
unknown_at i k = record { number = k; item = i }

-- the first such name, where items are counted from i on
abbrev pub unknown_from : Numbers → List Bool → ℕ → List ExprItem → Option Unknown
unknown_from m known i [] = None
unknown_from m known i (x ∷ xs) = option_or (option_map (unknown_at i) (unknown_in m known x)) (unknown_from m known (suc i) xs)

abbrev pub items_of : Option (List ℕ × Expr) → List ExprItem
items_of None = []
items_of (Some e) = e.1.items

abbrev pub items_at : List (List ℕ × Expr) → ℕ → List ExprItem
items_at equals i = items_of (slice_get equals i)

pub record CanBeLookedAt (equals : List (List ℕ × Expr)) (w : Waiting) : Type 0 where
  pub within : w.equal < length equals
  pub item : w.item ≤ length (items_at equals w.equal)

-- one of the lists has these items now
pub record IsReplaced (k : ℕ) (before : List Waiting) (lists after : Lists) : Type 0 where
  pub old : Vec Waiting Global
  pub had : slice_get lists k ≡ Some old
  pub items : old.items ≡ before
  pub new : Vec Waiting Global
  pub empty : new.items ≡ []
  pub is : after ≡ set lists k new

pub record IsLonger (k : ℕ) (w : Waiting) (lists after : Lists) : Type 0 where
  pub old : Vec Waiting Global
  pub had : slice_get lists k ≡ Some old
  pub new : Vec Waiting Global
  pub items : new.items ≡ old.items ++ w ∷ []
  pub is : after ≡ set lists k new

-- an expression has its place, or waits for a name
abbrev pub Looked : Option Unknown → ℕ → Lists → Lists → List ℕ → List ℕ → Type 0
Looked None i waits waits_now places places_now = (waits_now ≡ waits) × (places_now ≡ places ++ i ∷ [])
Looked (Some u) i waits waits_now places places_now =
    IsLonger u.number (record { equal = i; item = u.item }) waits waits_now × (places_now ≡ places)

-- ---- all looks

-- an expression's names are settled up to where it is to be looked at
pub record IsReached (equals : List (List ℕ × Expr)) (names : List (List ℕ)) (w : Waiting) : Type 0 where
  pub can : CanBeLookedAt equals w
  pub before : are_settled equals names (take w.item (items_at equals w.equal)) ≡ true

-- an expression waits for an unknown name
pub record WaitsFor (equals : List (List ℕ × Expr)) (m : Numbers) (names : List (List ℕ)) (k : ℕ) (w : Waiting) : Type 0 where
  pub reached : IsReached equals names w
  pub name : List ℕ
  pub there : slice_get (items_at equals w.equal) w.item ≡ Some (item.Name name)
  pub numbered : number_in m name ≡ Some k
  pub unknown : is_settled_item equals names (item.Name name) ≡ false

-- how often the expression of a number waits
abbrev pub times_in : ℕ → List Waiting → ℕ
times_in i ws = count_by (λ (w : Waiting). w.equal == i) ws

abbrev pub waits_in : ℕ → Lists → ℕ
waits_in i waits = sum_by (λ (v : Vec Waiting Global). times_in i v.items) waits

abbrev pub one_below : ℕ → ℕ → ℕ
one_below n i = if nat_lt i n then 1 else 0

-- the names that the first places have made known
abbrev pub known_names : List (List ℕ × Expr) → ℕ → List ℕ → List (List ℕ)
known_names equals done places = names_at equals (take done places)

pub record Holds (equals : List (List ℕ × Expr)) (m : Numbers) (known : List Bool) (waits : Lists) (places : List ℕ) (done : ℕ)
    (hand : List Waiting) : Type 0 where
  pub size : length known ≡ length equals
  pub lists : length waits ≡ length equals
  pub index : IsIndexOf 0 equals m
  pub made : done ≤ length places
  -- the known names are those of the first places
  pub knows : (q : List ℕ) → is_known m known q ≡ list_any (same q) (known_names equals done places)
  -- each expression has one place, or waits once, or is in hand
  pub once : (i : ℕ) → times i places + waits_in i waits + times_in i hand ≡ one_below (length equals) i
  pub behind : (front : List ℕ) (i : ℕ) (rest : List ℕ) → places ≡ front ++ i ∷ rest
      → are_settled equals (names_at equals front) (items_at equals i) ≡ true
  pub waiting : (k : ℕ) (v : Vec Waiting Global) → slice_get waits k ≡ Some v
      → AllByRecursion (WaitsFor equals m (known_names equals done places) k) v.items
  pub reached : AllByRecursion (IsReached equals (known_names equals done places)) hand

-- what holds while expressions in hand are yet to be looked at
abbrev pub Kept : List (List ℕ × Expr) → Numbers → Progress → List Waiting → Type 0
Kept equals m p hand = Holds equals m p.known.items p.waits.items p.places.items p.done hand

-- ---- the first looks

abbrev pub starts : ℕ → List Waiting
starts zero = []
starts (suc k) = (record { equal = k; item = 0 }) ∷ starts k

pub record AreEmpty (n : ℕ) (waits : Lists) : Type 0 where
  pub size : length waits ≡ n
  pub empty : AllByRecursion (λ (v : Vec Waiting Global). v.items ≡ []) waits
