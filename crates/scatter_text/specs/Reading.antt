-- How a description is read, part by part: what each part adds, or the fault of the first part that can't follow.
-- The laws say that this is what `Grammar` says. This project's.
use Rattle.std.specs.Prelude.{◌≡◌, ℕ, ◌+◌, ◌%◌, ◌^◌, ◌==◌, ◌||◌, not, nat_lt, Bool, true, false, if◌then◌else◌, List, [], ◌∷◌, ◌++◌, length, codes, bytes_eq, Option, Some, None, option_map, option_and_then, Result, Ok, Err}
use Rattle.std.specs.List.{list_any}
use Rattle.sdt_fault.specs.declared.answer.Fault.{Fault}
use Rattle.sdt_fault.specs.declared.answer.Fault.TheVariants as fault
use Rattle.sdt_fault.specs.declared.kinds.ScatterKind.{ScatterKind}
use Rattle.sdt_fault.specs.declared.kinds.ScatterKind.TheVariants as kind
use Rattle.sdt_fault.specs.declared.refusal.Refusal.{Refusal}
use Rattle.sdt_fault.specs.declared.refusal.Refusal.TheVariants.{ScatterLine}
use Rattle.place_model.specs.declared.scatter.Choice.TheVariants as choice
use Rattle.place_model.specs.declared.scatter.Edge.{Edge}
use Rattle.place_model.specs.declared.scatter.Edge.TheVariants as edge
use Rattle.place_model.specs.declared.scatter.ScatterBase.TheVariants.{At}
use Rattle.place_model.specs.declared.scatter.Scatter.{Scatter}
use Rattle.place_model.specs.declared.scatter.ScatterLoad.{ScatterLoad}
use Rattle.place_model.specs.declared.scatter.ScatterRegion.{ScatterRegion}
use Rattle.place_model.specs.declared.scatter.Selection.{Selection}
use Rattle.scatter_text.specs.declared.reading.Stage.{Stage}
use Rattle.scatter_text.specs.declared.reading.Stage.TheVariants.{Loads, LoadBase, LoadMax, LoadOpen, Regions, RegionBase, RegionMax, RegionOpen, Groups, Paren, Selector, Behind, Word, BehindEdge}
use Rattle.scatter_text.specs.declared.reading.Reader.{Reader}
use Rattle.scatter_text.specs.declared.stops.Stop.{Stop}
use Rattle.scatter_text.specs.declared.stops.Stop.TheVariants as stop
use Rattle.scatter_text.specs.Parts.{Part, parts_of, line_count}
use Rattle.scatter_text.specs.Words.{told, is_region_name, module_of, number_of, base_number, base_of, choice_of, edge_of}

-- ---- the beginning

abbrev pub load_named : List ℕ → ScatterLoad
load_named name = record { name = name; base = 0; max = None; regions = [] }

abbrev pub region_named : List ℕ → ScatterRegion
region_named name = record { name = name; base = At 0; max = None; selections = [] }

abbrev pub no_selection : Selection
no_selection = record { line = 0; «module» = None; choice = choice.Ro; edge = edge.Plain }

abbrev pub beginning : Reader
beginning = record {
  stage = Loads;
  loads = [];
  load = load_named [];
  region = region_named [];
  names = [];
  «module» = None;
  selection = no_selection;
}

-- ---- the grammar's steps

abbrev pub at : Stage → Reader → Reader
at stage s = record s { stage = stage }

abbrev pub expect : List ℕ → Reader → List ℕ → Option Reader
expect sign s t = if bytes_eq t sign then Some s else None

abbrev pub or_else : Option Reader → Option Reader → Option Reader
or_else None o = o
or_else (Some s) o = Some s

abbrev pub name_load : Reader → List ℕ → Option Reader
name_load s t = if is_region_name t then Some (record s { stage = LoadBase; load = load_named t }) else None

abbrev pub base_load : Reader → List ℕ → Option Reader
base_load s t = option_map (λ n. record s { stage = LoadMax; load = record s.load { base = n } }) (number_of t)

abbrev pub limit_load : Reader → List ℕ → Option Reader
limit_load s t = option_map (λ n. record s { stage = LoadOpen; load = record s.load { max = Some n } }) (number_of t)

abbrev pub close_load : Reader → Reader
close_load s = record s { stage = Loads; loads = s.loads ++ s.load ∷ []; load = load_named [] }

abbrev pub begin_region : Reader → List ℕ → Reader
begin_region s t = record s { stage = RegionBase; region = region_named t; names = s.names ++ t ∷ [] }

abbrev pub name_region : Reader → List ℕ → Option Reader
name_region s t = if is_region_name t then Some (begin_region s t) else None

abbrev pub base_region : Reader → List ℕ → Option Reader
base_region s t = option_map (λ b. record s { stage = RegionMax; region = record s.region { base = b } }) (base_of t)

abbrev pub limit_region : Reader → List ℕ → Option Reader
limit_region s t = option_map (λ n. record s { stage = RegionOpen; region = record s.region { max = Some n } }) (number_of t)

abbrev pub close_region : Reader → Reader
close_region s = record s {
  stage = Regions;
  load = record s.load { regions = s.load.regions ++ s.region ∷ [] };
  region = region_named [];
}

abbrev pub name_module : Reader → List ℕ → Option Reader
name_module s t = option_map (λ m. record s { stage = Paren; «module» = m }) (module_of t)

abbrev pub select : Reader → ℕ → List ℕ → Option Reader
select s line t =
    option_map (λ c. record s { stage = Behind; selection = record { line = told line; «module» = s.«module»; choice = c; edge = edge.Plain } })
    (choice_of t)

-- the selection is whole, with its edge
abbrev pub keep : Edge → Reader → Reader
keep e s = record s {
  region = record s.region { selections = s.region.selections ++ record s.selection { edge = e } ∷ [] };
  selection = no_selection;
}

abbrev pub put_edge : Reader → List ℕ → Option Reader
put_edge s t = option_map (λ e. at BehindEdge (keep e s)) (edge_of t)

-- ---- what may follow

abbrev pub shift_load_max : Reader → List ℕ → Option Reader
shift_load_max s t = or_else (expect (codes "{") (at Regions s) t) (limit_load s t)

abbrev pub shift_regions : Reader → List ℕ → Option Reader
shift_regions s t = or_else (expect (codes "}") (close_load s) t) (name_region s t)

abbrev pub shift_region_max : Reader → List ℕ → Option Reader
shift_region_max s t = or_else (expect (codes "{") (at Groups s) t) (limit_region s t)

abbrev pub shift_groups : Reader → List ℕ → Option Reader
shift_groups s t = or_else (expect (codes "}") (close_region s) t) (name_module s t)

abbrev pub shift_behind : Reader → List ℕ → Option Reader
shift_behind s t = or_else (expect (codes ",") (at Word s) t) (expect (codes ")") (at Groups (keep edge.Plain s)) t)

abbrev pub shift_word : Reader → ℕ → List ℕ → Option Reader
shift_word s line t = or_else (put_edge s t) (select (keep edge.Plain s) line t)

abbrev pub shift_behind_edge : Reader → List ℕ → Option Reader
shift_behind_edge s t = or_else (expect (codes ",") (at Selector s) t) (expect (codes ")") (at Groups s) t)

abbrev pub shift_at : Stage → Reader → ℕ → List ℕ → Option Reader
shift_at Loads s line t = name_load s t
shift_at LoadBase s line t = base_load s t
shift_at LoadMax s line t = shift_load_max s t
shift_at LoadOpen s line t = expect (codes "{") (at Regions s) t
shift_at Regions s line t = shift_regions s t
shift_at RegionBase s line t = base_region s t
shift_at RegionMax s line t = shift_region_max s t
shift_at RegionOpen s line t = expect (codes "{") (at Groups s) t
shift_at Groups s line t = shift_groups s t
shift_at Paren s line t = expect (codes "(") (at Selector s) t
shift_at Selector s line t = select s line t
shift_at Behind s line t = shift_behind s t
shift_at Word s line t = shift_word s line t
shift_at BehindEdge s line t = shift_behind_edge s t

-- what is read with one more part, by the grammar alone; None where it can't stand there
unfoldable pub shift : Reader → Part → Option Reader
shift s p = shift_at s.stage s p.line p.text

-- ---- numbers, names and counts

abbrev pub number_flaw : ℕ → Option ScatterKind
number_flaw n = if nat_lt n (2 ^ 32) then (if n % 4 == 0 then None else Some kind.Unaligned) else Some kind.Number

abbrev pub flaw_in : Option ℕ → Option ScatterKind
flaw_in number = option_and_then number_flaw number

-- a load region has another name than those before it, and none is `map`, as the map's file is
abbrev pub load_flaw : Reader → List ℕ → Option ScatterKind
load_flaw s t =
    if bytes_eq t (codes "map") || list_any (λ l. bytes_eq l.name t) s.loads then Some kind.DuplicateName else None

abbrev pub region_flaw : Reader → List ℕ → Option ScatterKind
region_flaw s t =
    if list_any (λ name. bytes_eq name t) s.names then Some kind.DuplicateName
    else if nat_lt (length s.names) 64 then None else Some kind.TooMany

abbrev pub end_flaw : Reader → Option ScatterKind
end_flaw s = if length s.load.regions == 0 then Some kind.Empty else None

abbrev pub regions_flaw : Reader → List ℕ → Option ScatterKind
regions_flaw s t = if bytes_eq t (codes "}") then end_flaw s else region_flaw s t

abbrev pub flaw_at : Stage → Reader → List ℕ → Option ScatterKind
flaw_at Loads s t = load_flaw s t
flaw_at LoadBase s t = flaw_in (number_of t)
flaw_at LoadMax s t = flaw_in (number_of t)
flaw_at Regions s t = regions_flaw s t
flaw_at RegionBase s t = flaw_in (base_number t)
flaw_at RegionMax s t = flaw_in (number_of t)
flaw_at other s t = None

-- what is wrong with a part that the grammar lets stand there
unfoldable pub flaw : Reader → Part → Option ScatterKind
flaw s p = flaw_at s.stage s p.text

-- ---- all parts

abbrev pub judged : {X : Type 0} → Option ScatterKind → Option X → Result X ScatterKind
judged f None = Err kind.Syntax
judged None (Some x) = Ok x
judged (Some k) (Some x) = Err k

abbrev pub numbered : Option ℕ → Option Reader → Result Reader ScatterKind
numbered number after = judged (flaw_in number) after

abbrev pub expected : List ℕ → Stage → Reader → List ℕ → Result Reader ScatterKind
expected sign stage s t = judged None (expect sign (at stage s) t)

abbrev pub load_name : Reader → List ℕ → Result Reader ScatterKind
load_name s t = judged (load_flaw s t) (name_load s t)

abbrev pub load_base : Reader → List ℕ → Result Reader ScatterKind
load_base s t = numbered (number_of t) (base_load s t)

abbrev pub load_limit : Reader → List ℕ → Result Reader ScatterKind
load_limit s t = numbered (number_of t) (limit_load s t)

abbrev pub load_max : Reader → List ℕ → Result Reader ScatterKind
load_max s t = numbered (number_of t) (shift_load_max s t)

abbrev pub load_end : Reader → Result Reader ScatterKind
load_end s = judged (end_flaw s) (Some (close_load s))

abbrev pub region_name : Reader → List ℕ → Result Reader ScatterKind
region_name s t = judged (region_flaw s t) (name_region s t)

abbrev pub regions : Reader → List ℕ → Result Reader ScatterKind
regions s t = judged (regions_flaw s t) (shift_regions s t)

abbrev pub region_base : Reader → List ℕ → Result Reader ScatterKind
region_base s t = numbered (base_number t) (base_region s t)

abbrev pub region_limit : Reader → List ℕ → Result Reader ScatterKind
region_limit s t = numbered (number_of t) (limit_region s t)

abbrev pub region_max : Reader → List ℕ → Result Reader ScatterKind
region_max s t = numbered (number_of t) (shift_region_max s t)

abbrev pub step : Reader → Part → Result Reader ScatterKind
step s p = judged (flaw s p) (shift s p)

abbrev pub Reading : Type 0
Reading = Result (List ScatterLoad) (ℕ × ScatterKind)

-- what follows a step, on its line
abbrev pub behind : ℕ → (Reader → Reading) → Result Reader ScatterKind → Reading
behind line rest (Ok s) = rest s
behind line rest (Err k) = Err (line, k)

abbrev pub is_between_loads : Stage → Bool
is_between_loads Loads = true
is_between_loads other = false

-- no parts follow, at the line
unfoldable pub last : ℕ → Reader → Reading
last line s =
    if not (is_between_loads s.stage) then Err (line, kind.Syntax)
    else if length s.loads == 0 then Err (line, kind.Empty)
    else Ok s.loads

abbrev pub read : ℕ → Reader → List Part → Reading
read line s [] = last line s
read line s (p ∷ ps) = behind p.line (λ t. read line t ps) (step s p)

abbrev pub refusal : Reading → Result Scatter Refusal
refusal (Ok loads) = Ok (record { loads = loads })
refusal (Err (line, k)) = Err (ScatterLine (told line) k)

-- the description of a text, or the refusal with the first fault; a text that ends early is at fault behind its lines
abbrev pub scatter_of : List ℕ → Result Scatter Refusal
scatter_of text = refusal (read (line_count text + 1) beginning (parts_of text))

-- ---- what the code's values mean

-- what a call answers is what reading gives, unless memory was refused
abbrev pub Gives : Result Scatter Fault → Result Scatter Refusal → Type 0
Gives (Ok s) reading = reading ≡ Ok s
Gives (Err fault.NoMemory) reading = Unit {0}
Gives (Err (fault.Refused r)) reading = reading ≡ Err r
Gives (Err (fault.ReadFault name)) reading = ⊥

-- the same of a part
abbrev pub Shows : {X : Type 0} → Result X Stop → Result X ScatterKind → Type 0
Shows (Ok x) reading = reading ≡ Ok x
Shows (Err stop.NoMemory) reading = Unit {0}
Shows (Err (stop.At k)) reading = reading ≡ Err k

-- and of a part that changes what is read
abbrev pub Leaves : {U : Type 0} → Result U Stop → Reader → Result Reader ScatterKind → Type 0
Leaves (Ok u) after reading = reading ≡ Ok after
Leaves (Err stop.NoMemory) after reading = Unit {0}
Leaves (Err (stop.At k)) after reading = reading ≡ Err k

abbrev pub at_fault : ℕ → ScatterKind → Fault
at_fault line k = fault.Refused (ScatterLine (told line) k)

abbrev pub stopped : ℕ → Stop → Fault
stopped line (stop.At k) = at_fault line k
stopped line stop.NoMemory = fault.NoMemory
