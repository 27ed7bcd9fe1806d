-- What is told of a layout is what is told of the plan, and so is where things stand.
use Rattle.std.proofs.Common.{◌≡◌, ℕ, suc, ◌+◌, ◌*◌, Bool, true, false, cond, List, [], ◌∷◌, ◌++◌, length, map, refl, ap, sym, ◌∙◌, append-nil, subst, arith, Option, Some, None}
use Rattle.std.specs.Prelude.{not, sum_by}
use Rattle.std.specs.List.{filter, flat_map, find}
use Rattle.std.specs.Option.{option_or, option_map}
use Rattle.std.proofs.lemmas.List.{map-append}
use Rattle.std.proofs.lemmas.Grind.{flat_map-append}
use Rattle.std.proofs.lemmas.List.Sums.{sum_by-cons}
use Rattle.sdt_word.specs.declared.ranges.Range32.{Range32}
use Rattle.place_model.specs.Plans as plans
use Rattle.place_model.specs.Plans.{Planned, length_of, execution_size, copy_row, zero_row, is_cleared, stood_in, address_of, is_startup}
use Rattle.place_model.specs.Faults as model
use Rattle.place_model.specs.Items.{is_read_only}
use Rattle.place_model.specs.Things as things
use Rattle.place_model.specs.Things.{Thing, AnArea, AVeneer, Stood, stood, extent}
use Rattle.link_place.specs.declared.layouts.RegionLayout.{RegionLayout}
use Rattle.link_place.specs.declared.parts.Part.{Part}
use Rattle.link_place.specs.declared.pieces.Piece.{Piece}
use Rattle.link_place.specs.Pieces.{reach, Seat, seats}
use Rattle.link_place.specs.Parts.{piece_of}
use Rattle.link_place.specs.Layouts.{is_copied, row_words}
use Rattle.link_place.specs.Checks.{rootless, move_of, move_of_region, move_of_copy, span_of, range_by}
use Rattle.link_place.specs.Writable.{lacked, copy_lacking, lacked_in, unwritable_by, first_unwritable_by}
use Rattle.link_place.specs.Placings.{area_by, area_at, veneer_by, veneer_at, boot_by, boot_at, boot_in, all_seats, IsFor, AreFor}
use Rattle.link_place.specs.Placed.{area_of, areas_of, veneer_of, veneers_of}
use Rattle.link_place.proofs.CheckLemmas.{told_cons}
use Rattle.link_place.proofs.PlanLemmas.{laid_of, IsOf, AreOf, extent_same, seats_same, seat_of}

abbrev pub row_count : List Planned → ℕ
row_count rs = 3 * length (map copy_row (filter plans.is_copied rs)) + 2 * length (map zero_row (filter is_cleared rs))

of_row : (r : Planned) (rest : ℕ) (rs : List Planned) → rest ≡ row_count rs
    → (cond (plans.is_copied r) 3 0 + cond (is_cleared r) 2 0) + rest ≡ row_count (r ∷ rs)
of_row r rest rs h = go (plans.is_copied r) (is_cleared r)
  where
    go : (b z : Bool) → (cond b 3 0 + cond z 2 0) + rest
        ≡ 3 * length (map copy_row (cond b (r ∷ filter plans.is_copied rs) (filter plans.is_copied rs))) + 2 * length (map zero_row (cond z (r ∷ filter is_cleared rs) (filter is_cleared rs)))
    go true true = omega (arith, h)
    go true false = omega (arith, h)
    go false true = omega (arith, h)
    go false false = omega (arith, h)

pub rows_same : (words origin number : ℕ) (rs : List Planned) (ps : List Part) (ls : List RegionLayout) → AreOf words origin number rs ps ls → sum_by row_words ls ≡ row_count rs
rows_same words origin number [] [] [] all = refl
rows_same words origin number [] [] (l ∷ ls) all = absurd all
rows_same words origin number [] (p ∷ ps) ls all = absurd all
rows_same words origin number (r ∷ rs) [] ls all = absurd all
rows_same words origin number (r ∷ rs) (p ∷ ps) [] all = absurd all
rows_same words origin number (r ∷ rs) (p ∷ ps) (l ∷ ls) (h, all) =
    sum_by-cons row_words l ls ∙ (ap (λ (x : RegionLayout). row_words x + sum_by row_words ls) h.laid ∙ of_row r (sum_by row_words ls) rs (rows_same words origin (suc number) rs ps ls all))

-- ---- what a function of each region gives

pub mapped_same : {X : Type 0} (f : RegionLayout → X) (g : Planned → X) → ((n : ℕ) (r : Planned) → f (laid_of n r) ≡ g r)
    → (words origin number : ℕ) (rs : List Planned) (ps : List Part) (ls : List RegionLayout) → AreOf words origin number rs ps ls → map f ls ≡ map g rs
mapped_same f g same words origin number [] [] [] all = refl
mapped_same f g same words origin number [] [] (l ∷ ls) all = absurd all
mapped_same f g same words origin number [] (p ∷ ps) ls all = absurd all
mapped_same f g same words origin number (r ∷ rs) [] ls all = absurd all
mapped_same f g same words origin number (r ∷ rs) (p ∷ ps) [] all = absurd all
mapped_same f g same words origin number (r ∷ rs) (p ∷ ps) (l ∷ ls) (h, all) =
    let first : f l ≡ g r = ap f h.laid ∙ same h.load_region r in
    let rest = mapped_same f g same words origin (suc number) rs ps ls all in
    cc

pub map_map : {X Y Z : Type 0} (g : Y → Z) (f : X → Y) (xs : List X) → map g (map f xs) ≡ map (λ x. g (f x)) xs
map_map g f [] = refl
map_map {X} {Y} {Z} g f (x ∷ xs) = ap (λ (zs : List Z). g (f x) ∷ zs) (map_map g f xs)

pub sums_same : (f : RegionLayout → ℕ) (g : Planned → ℕ) → ((n : ℕ) (r : Planned) → f (laid_of n r) ≡ g r)
    → (words origin number : ℕ) (rs : List Planned) (ps : List Part) (ls : List RegionLayout) → AreOf words origin number rs ps ls → sum_by f ls ≡ sum_by g rs
sums_same f g same words origin number [] [] [] all = refl
sums_same f g same words origin number [] [] (l ∷ ls) all = absurd all
sums_same f g same words origin number [] (p ∷ ps) ls all = absurd all
sums_same f g same words origin number (r ∷ rs) [] ls all = absurd all
sums_same f g same words origin number (r ∷ rs) (p ∷ ps) [] all = absurd all
sums_same f g same words origin number (r ∷ rs) (p ∷ ps) (l ∷ ls) (h, all) =
    let first : f l ≡ g r = ap f h.laid ∙ same h.load_region r in
    let rest = sums_same f g same words origin (suc number) rs ps ls all in
    omega (arith, first, rest, sum_by-cons f l ls, sum_by-cons g r rs)

copied_same : (words origin number : ℕ) (rs : List Planned) (ps : List Part) (ls : List RegionLayout) → AreOf words origin number rs ps ls
    → map (λ l. move_of (move_of_copy l)) (filter is_copied ls) ≡ map model.copy_move (filter plans.is_copied rs)
copied_same words origin number [] [] [] all = refl
copied_same words origin number [] [] (l ∷ ls) all = absurd all
copied_same words origin number [] (p ∷ ps) ls all = absurd all
copied_same words origin number (r ∷ rs) [] ls all = absurd all
copied_same words origin number (r ∷ rs) (p ∷ ps) [] all = absurd all
copied_same words origin number (r ∷ rs) (p ∷ ps) (l ∷ ls) (h, all) =
    ap (λ (x : RegionLayout). map (λ y. move_of (move_of_copy y)) (cond (is_copied x) (x ∷ filter is_copied ls) (filter is_copied ls))) h.laid
    ∙ go (plans.is_copied r) (copied_same words origin (suc number) rs ps ls all)
  where
    go : (b : Bool) → map (λ y. move_of (move_of_copy y)) (filter is_copied ls) ≡ map model.copy_move (filter plans.is_copied rs)
        → map (λ y. move_of (move_of_copy y)) (cond b (laid_of h.load_region r ∷ filter is_copied ls) (filter is_copied ls)) ≡ map model.copy_move (cond b (r ∷ filter plans.is_copied rs) (filter plans.is_copied rs))
    go true rest = ap (λ (ms : List model.Move). model.copy_move r ∷ ms) rest
    go false rest = rest

pub rootless_same : (words origin number : ℕ) (rs : List Planned) (ps : List Part) (ls : List RegionLayout) → AreOf words origin number rs ps ls → rootless ls ≡ model.rootless rs
rootless_same words origin number [] [] [] all = refl
rootless_same words origin number [] [] (l ∷ ls) all = absurd all
rootless_same words origin number [] (p ∷ ps) ls all = absurd all
rootless_same words origin number (r ∷ rs) [] ls all = absurd all
rootless_same words origin number (r ∷ rs) (p ∷ ps) [] all = absurd all
rootless_same words origin number (r ∷ rs) (p ∷ ps) (l ∷ ls) (h, all) = ap (λ (x : RegionLayout). rootless (x ∷ ls)) h.laid

pub conflict_same : (words origin number : ℕ) (rs : List Planned) (ps : List Part) (ls : List RegionLayout) → AreOf words origin number rs ps ls
    → map move_of (map move_of_copy (filter is_copied ls)) ≡ map model.copy_move (filter plans.is_copied rs)
conflict_same words origin number rs ps ls all = map_map move_of move_of_copy (filter is_copied ls) ∙ copied_same words origin number rs ps ls all

pub execution_same : (words origin number : ℕ) (rs : List Planned) (ps : List Part) (ls : List RegionLayout) → AreOf words origin number rs ps ls
    → map move_of (map move_of_region ls) ≡ map (λ r. model.standing (model.execution_span r)) rs
execution_same words origin number rs ps ls all =
    map_map move_of move_of_region ls ∙ mapped_same (λ l. move_of (move_of_region l)) (λ r. model.standing (model.execution_span r)) (λ n r. refl) words origin number rs ps ls all

-- ---- each part is laid with its sizes

pub are_for : (words origin number : ℕ) (rs : List Planned) (ps : List Part) (ls : List RegionLayout) → AreOf words origin number rs ps ls → AreFor words origin ps ls
are_for words origin number [] [] [] all = tt
are_for words origin number [] [] (l ∷ ls) all = absurd all
are_for words origin number [] (p ∷ ps) ls all = absurd all
are_for words origin number (r ∷ rs) [] ls all = absurd all
are_for words origin number (r ∷ rs) (p ∷ ps) [] all = absurd all
are_for words origin number (r ∷ rs) (p ∷ ps) (l ∷ ls) (h, all) =
    let things = extent_same words origin number r.base r.things h.tables in
    let zeros = extent_same words origin number (r.base + length_of r) r.zeros h.no_tables in
    let IsHere : RegionLayout → Type 0 = λ x. IsFor words origin p x in (
      subst IsHere (sym h.laid) (record {
        length = ap (λ (o : ℕ). extent o r.base r.things) h.based ∙ sym (ap (reach words origin r.base) h.things ∙ things);
        zero_part = ap (λ (o : ℕ). extent o (r.base + length_of r) r.zeros) h.based ∙ sym (ap (reach words origin (r.base + length_of r)) h.zeros ∙ zeros);
      }),
      are_for words origin (suc number) rs ps ls all,
    )

-- ---- what lies outside RAM

lacked_same : (ram : List Range32) (words region number : ℕ) (s : Stood) → lacked ram words (seat_of region number s) ≡ flat_map (model.lacking ram) (model.written_thing s)
lacked_same ram words region number s = go s.thing
  where
    go : (t : Thing) → lacked ram words (record { region = region; piece = piece_of number t; address = s.address }) ≡ flat_map (model.lacking ram) (model.written_part t s.address)
    go things.Header = refl
    go (AnArea i) = of (is_read_only i)
      where
        of : (b : Bool) → cond (not b) (model.lacking ram (record { name = []; base = s.address; size = i.size })) [] ≡ flat_map (model.lacking ram) (cond b [] ((record { name = i.name; base = s.address; size = i.size }) ∷ []))
        of true = refl
        of false = sym (append-nil (model.lacking ram (record { name = i.name; base = s.address; size = i.size })))
    go (AVeneer target thumb) = refl
    go (things.Startup own) = refl

all_lacked_same : (ram : List Range32) (words region number : ℕ) (ss : List Stood)
    → flat_map (lacked ram words) (map (seat_of region number) ss) ≡ flat_map (model.lacking ram) (flat_map model.written_thing ss)
all_lacked_same ram words region number [] = refl
all_lacked_same ram words region number (s ∷ ss) =
    let first = lacked_same ram words region number s in
    let rest = all_lacked_same ram words region number ss in
    let split = flat_map-append (model.lacking ram) (model.written_thing s) (flat_map model.written_thing ss) in
    cc

copy_same : (ram : List Range32) (r : Planned) (n : ℕ) → copy_lacking ram (laid_of n r).region ≡ flat_map (model.lacking ram) (cond (plans.is_copied r) (model.execution_span r ∷ []) [])
copy_same ram r n = go (plans.is_copied r)
  where
    go : (b : Bool) → cond b (model.lacking ram (span_of [] (range_by r.base (execution_size r)))) [] ≡ flat_map (model.lacking ram) (cond b (model.execution_span r ∷ []) [])
    go true = sym (append-nil (model.lacking ram (model.execution_span r)))
    go false = refl

region_lacked_same : (ram : List Range32) (words origin number : ℕ) (r : Planned) (p : Part) (l : RegionLayout) → IsOf words origin number r p l
    → lacked_in ram words origin p l.region ≡ flat_map (model.lacking ram) (model.written_spans r)
region_lacked_same ram words origin number r p l h =
    let F : List Piece → List Seat = λ ps. seats words origin 0 r.base ps in
    let same : seats words origin 0 r.base p.things ≡ map (seat_of 0 number) (stood r.origin r.base r.things) =
    ap F h.things ∙ (seats_same words origin 0 number r.base r.things h.tables ∙ ap (λ (o : ℕ). map (seat_of 0 number) (stood o r.base r.things)) (sym h.based)) in
    let areas : flat_map (lacked ram words) (seats words origin 0 r.base p.things) ≡ flat_map (model.lacking ram) (flat_map model.written_thing (stood r.origin r.base r.things)) =
    ap (flat_map (lacked ram words)) same ∙ all_lacked_same ram words 0 number (stood r.origin r.base r.things) in
    let copy = copy_same ram r h.load_region in
    let split = flat_map-append (model.lacking ram) (cond (plans.is_copied r) (model.execution_span r ∷ []) []) (model.zero_span r ∷ flat_map model.written_thing (stood r.origin r.base r.things)) in
    ap (λ (x : RegionLayout). lacked_in ram words origin p x.region) h.laid ∙ cc

pub unwritable_same : (ram : List Range32) (words origin number : ℕ) (rs : List Planned) (ps : List Part) (ls : List RegionLayout) → AreOf words origin number rs ps ls
    → first_unwritable_by ram words origin ps ls ≡ model.first_told (model.unwritable ram) rs
unwritable_same ram words origin number [] [] [] all = refl
unwritable_same ram words origin number [] [] (l ∷ ls) all = absurd all
unwritable_same ram words origin number [] (p ∷ ps) ls all = absurd all
unwritable_same ram words origin number (r ∷ rs) [] ls all = absurd all
unwritable_same ram words origin number (r ∷ rs) (p ∷ ps) [] all = absurd all
unwritable_same ram words origin number (r ∷ rs) (p ∷ ps) (l ∷ ls) (h, all) =
    let name : l.region.name ≡ r.name = ap (λ (x : RegionLayout). x.region.name) h.laid in
    let lacking = region_lacked_same ram words origin number r p l h in
    let first : unwritable_by ram words origin p l ≡ model.unwritable ram r = cc in
    let rest = unwritable_same ram words origin (suc number) rs ps ls all in
    let split = told_cons (model.unwritable ram) r rs in
    cc

-- ---- where things stand

abbrev pub located : Planned → List Seat
located r = map (seat_of r.number r.number) (stood_in r)

pub located_same : (words origin number : ℕ) (rs : List Planned) (ps : List Part) (ls : List RegionLayout) → AreOf words origin number rs ps ls
    → all_seats words origin number ps ls ≡ flat_map located rs
located_same words origin number [] [] [] all = refl
located_same words origin number [] [] (l ∷ ls) all = absurd all
located_same words origin number [] (p ∷ ps) ls all = absurd all
located_same words origin number (r ∷ rs) [] ls all = absurd all
located_same words origin number (r ∷ rs) (p ∷ ps) [] all = absurd all
located_same words origin number (r ∷ rs) (p ∷ ps) (l ∷ ls) (h, all) =
    let rest = located_same words origin (suc number) rs ps ls all in
    let base : l.region.base ≡ r.base = ap (λ (x : RegionLayout). x.region.base) h.laid in
    let len : l.region.length ≡ length_of r = ap (λ (x : RegionLayout). x.region.length) h.laid in
    let named = h.named in
    let based = h.based in
    let things = h.things in
    let zeros = h.zeros in
    let here = seats_same words origin number number r.base r.things h.tables in
    let behind = seats_same words origin number number (r.base + length_of r) r.zeros h.no_tables in
    let split = map-append (seat_of number number) (stood origin r.base r.things) (stood origin (r.base + length_of r) r.zeros) in
    cc

area_same : (n : ℕ) (s : Stood) → area_at (seat_of n n s) ≡ area_of n s.thing s.address
area_same n s = go s.thing
  where
    go : (t : Thing) → area_by n s.address (piece_of n t) ≡ area_of n t s.address
    go things.Header = refl
    go (AnArea i) = refl
    go (AVeneer target thumb) = refl
    go (things.Startup own) = refl

veneer_same : (n : ℕ) (s : Stood) → veneer_at (seat_of n n s) ≡ veneer_of n s.thing s.address
veneer_same n s = go s.thing
  where
    go : (t : Thing) → veneer_by s.address (piece_of n t) ≡ veneer_of n t s.address
    go things.Header = refl
    go (AnArea i) = refl
    go (AVeneer target thumb) = refl
    go (things.Startup own) = refl

over_map : {X Y Z : Type 0} (h : Y → List Z) (f : X → Y) (g : X → List Z) → ((x : X) → h (f x) ≡ g x) → (xs : List X) → flat_map h (map f xs) ≡ flat_map g xs
over_map h f g same [] = refl
over_map h f g same (x ∷ xs) = let first = same x in let rest = over_map h f g same xs in cc

over_flat : {X Y Z : Type 0} (h : Y → List Z) (f : X → List Y) (g : X → List Z) → ((x : X) → flat_map h (f x) ≡ g x) → (xs : List X) → flat_map h (flat_map f xs) ≡ flat_map g xs
over_flat h f g same [] = refl
over_flat h f g same (x ∷ xs) = let first = same x in let rest = over_flat h f g same xs in let split = flat_map-append h (f x) (flat_map f xs) in cc

pub areas_placed : (rs : List Planned) → flat_map area_at (flat_map located rs) ≡ flat_map areas_of rs
areas_placed rs = over_flat area_at located areas_of (λ r. over_map area_at (seat_of r.number r.number) (λ s. area_of r.number s.thing s.address) (area_same r.number) (stood_in r)) rs

pub veneers_placed : (rs : List Planned) → flat_map veneer_at (flat_map located rs) ≡ flat_map veneers_of rs
veneers_placed rs = over_flat veneer_at located veneers_of (λ r. over_map veneer_at (seat_of r.number r.number) (λ s. veneer_of r.number s.thing s.address) (veneer_same r.number) (stood_in r)) rs

pub boot_append : (xs ys : List Seat) → boot_in (xs ++ ys) ≡ option_or (boot_in xs) (boot_in ys)
boot_append [] ys = refl
boot_append (x ∷ xs) ys = go (boot_at x) (boot_append xs ys)
  where
    go : (o : Option ℕ) → boot_in (xs ++ ys) ≡ option_or (boot_in xs) (boot_in ys) → option_or o (boot_in (xs ++ ys)) ≡ option_or (option_or o (boot_in xs)) (boot_in ys)
    go None rest = rest
    go (Some a) rest = refl

boot_same : (n : ℕ) (ss later : List Stood) → option_or (boot_in (map (seat_of n n) ss)) (address_of is_startup later) ≡ address_of is_startup (ss ++ later)
boot_same n [] later = refl
boot_same n (s ∷ ss) later = go s.thing (boot_same n ss later)
  where
    go : (t : Thing) → option_or (boot_in (map (seat_of n n) ss)) (address_of is_startup later) ≡ address_of is_startup (ss ++ later)
        → option_or (option_or (boot_by s.address (piece_of n t)) (boot_in (map (seat_of n n) ss))) (address_of is_startup later) ≡ option_map (λ x. x.address) (cond (is_startup t) (Some s) (find (λ x. is_startup x.thing) (ss ++ later)))
    go things.Header rest = rest
    go (AnArea i) rest = rest
    go (AVeneer target thumb) rest = rest
    go (things.Startup own) rest = refl

pub boot_placed : (rs : List Planned) → boot_in (flat_map located rs) ≡ address_of is_startup (flat_map stood_in rs)
boot_placed [] = refl
boot_placed (r ∷ rs) =
    boot_append (located r) (flat_map located rs) ∙ (ap (option_or (boot_in (located r))) (boot_placed rs) ∙ boot_same r.number (stood_in r) (flat_map stood_in rs))
