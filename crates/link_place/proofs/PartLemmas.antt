-- Lemmas on the parts and their pieces.
use Rattle.std.proofs.Common.{◌≡◌, ℕ, zero, suc, ◌+◌, ◌≤◌, Bool, true, false, cond, List, [], ◌∷◌, ◌++◌, length, map, refl, ap, sym, ◌∙◌, append_assoc, arith, Option, Some, None, drop, drop-cons, get_or, ◌<◌, length-append}
use Rattle.std.specs.Prelude.{not, ◌==◌, slice_get, unwrap_or}
use Rattle.std.specs.Option.{option_map, option_and_then}
use Rattle.std.specs.List.{cons_option, filter, filter_map, flat_map, AllByRecursion}
use Rattle.std.proofs.lemmas.Bool.Decides.{nat_tests}
use Rattle.std.proofs.lemmas.List.{map-append}
use Rattle.aof_object.specs.declared.records.Area.{Area}
use Rattle.aof_object.specs.declared.records.Object.{Object}
use Rattle.link_model.specs.declared.placing.Veneer.{Veneer}
use Rattle.link_model.specs.declared.selection.Named.{Named}
use Rattle.link_model.specs.declared.placing.AreaName.{AreaName}
use Rattle.place_model.specs.declared.scatter.Kind.{Kind}
use Rattle.place_model.specs.declared.scatter.ScatterLoad.{ScatterLoad}
use Rattle.place_model.specs.declared.scatter.ScatterRegion.{ScatterRegion}
use Rattle.place_model.specs.Items.{Item, is_zero_initialised}
use Rattle.place_model.specs.Things.{Thing, AnArea, AVeneer}
use Rattle.place_model.specs.Plans.{RegionVeneer, Contents, areas_in, veneers_in, header_in, startup_in}
use Rattle.place_model.proofs.ListLemmas.{all_of_get, all_of_map}
use Rattle.link_items.specs.LinkedItems.{item_of, item_in, item_at, region_veneer, contents_of}
use Rattle.link_place.specs.declared.parts.Part.{Part}
use Rattle.link_place.specs.declared.pieces.Piece.{Piece}
use Rattle.link_place.specs.Parts.{area_piece, area_pieces, area_named, pieces_by, piece_of, veneer_piece, veneer_pieces, things_in, zeros_in, part_by, parts_from, IsAligned, IsAlignedArea}

pub get_map : {X Y : Type 0} (f : X → List Y) (empty : X) (xs : List X) (i : ℕ) → f empty ≡ [] → unwrap_or (slice_get (map f xs) i) [] ≡ f (unwrap_or (slice_get xs i) empty)
get_map f empty [] i h = sym h
get_map f empty (x ∷ xs) zero h = refl
get_map f empty (x ∷ xs) (suc i) h = get_map f empty xs i h

pub aligned_at : (f : AreaName → Option Item) (names : List (List AreaName)) (i : ℕ) → AllByRecursion (λ items. AllByRecursion IsAligned items) (map (filter_map f) names)
    → AllByRecursion IsAligned (filter_map f (unwrap_or (slice_get names i) []))
aligned_at f names i h = all_of_get (λ ns. AllByRecursion IsAligned (filter_map f ns)) names i [] tt (all_of_map (λ items. AllByRecursion IsAligned items) (filter_map f) names h)

pub drop_item : {X : Type 0} (xs : List X) (i : ℕ) (x : X) → i < length xs → x ≡ get_or xs i x → drop i xs ≡ x ∷ drop (i + 1) xs
drop_item xs i x h e = let n : suc i ≡ i + 1 = omega arith in drop-cons xs i x h ∙ (ap (λ (y : _). y ∷ drop (suc i) xs) (sym e) ∙ ap (λ (k : ℕ). x ∷ drop k xs) n)

pub drop_next : {X : Type 0} (xs : List X) (i : ℕ) (d : X) → i < length xs → drop i xs ≡ get_or xs i d ∷ drop (i + 1) xs
drop_next xs i d h = let n : suc i ≡ i + 1 = omega arith in drop-cons xs i d h ∙ ap (λ (k : ℕ). get_or xs i d ∷ drop k xs) n

-- the next area
pub area_next : (os : List (Named Object)) (part : Bool) (n : AreaName) (ns : List AreaName)
    → area_pieces part (filter_map (item_at os) (n ∷ ns)) ≡ pieces_by part n (area_named os n) ++ area_pieces part (filter_map (item_at os) ns)
area_next os part n ns = of (slice_get os n.object)
  where
    one : (b : Bool) (x y : Item) (xs : List Item) → area_piece x ≡ area_piece y → map area_piece (cond b (x ∷ xs) xs) ≡ map area_piece (cond b (y ∷ []) []) ++ map area_piece xs
    one true x y xs e = ap (λ (p : Piece). p ∷ map area_piece xs) e
    one false x y xs e = refl

    some : (p : Bool) (home : List ℕ) (a : Area) (xs : List Item) → area_pieces p (item_of n.object home n.area a ∷ xs) ≡ area_pieces p (item_of n.object [] n.area a ∷ []) ++ area_pieces p xs
    some true home a xs = one (is_zero_initialised (item_of n.object home n.area a)) (item_of n.object home n.area a) (item_of n.object [] n.area a) (filter is_zero_initialised xs) refl
    some false home a xs = one (not (is_zero_initialised (item_of n.object home n.area a))) (item_of n.object home n.area a) (item_of n.object [] n.area a) (filter (λ i. not (is_zero_initialised i)) xs) refl

    both : (home : List ℕ) (o : Option Area) → area_pieces part (cons_option (option_map (item_of n.object home n.area) o) (filter_map (item_at os) ns)) ≡ pieces_by part n o ++ area_pieces part (filter_map (item_at os) ns)
    both home None = refl
    both home (Some a) = some part home a (filter_map (item_at os) ns)

    of : (o : Option (Named Object)) → area_pieces part (cons_option (option_and_then (item_in n) o) (filter_map (item_at os) ns))
        ≡ pieces_by part n (option_and_then (λ o. slice_get o.value.areas n.area) o) ++ area_pieces part (filter_map (item_at os) ns)
    of None = refl
    of (Some o) = both o.«module» (slice_get o.value.areas n.area)

pub areas_more : (os : List (Named Object)) (part : Bool) (n : AreaName) (ns : List AreaName) (before after all : List Piece)
    → before ++ area_pieces part (filter_map (item_at os) (n ∷ ns)) ≡ all → after ≡ before ++ pieces_by part n (area_named os n) → after ++ area_pieces part (filter_map (item_at os) ns) ≡ all
areas_more os part n ns before after all known more =
    rw more (rw append_assoc (ap (λ (ps : List Piece). before ++ ps) (sym (area_next os part n ns)) ∙ known))

pub aligned_next : (os : List (Named Object)) (n : AreaName) (ns : List AreaName) → AllByRecursion IsAligned (filter_map (item_at os) (n ∷ ns))
    → IsAlignedArea (area_named os n) × AllByRecursion IsAligned (filter_map (item_at os) ns)
aligned_next os n ns all = of (slice_get os n.object) all
  where
    both : (home : List ℕ) (o : Option Area) → AllByRecursion IsAligned (cons_option (option_map (item_of n.object home n.area) o) (filter_map (item_at os) ns)) → IsAlignedArea o × AllByRecursion IsAligned (filter_map (item_at os) ns)
    both home None h = (tt, h)
    both home (Some a) h = (h.0, h.1)

    of : (o : Option (Named Object)) → AllByRecursion IsAligned (cons_option (option_and_then (item_in n) o) (filter_map (item_at os) ns))
        → IsAlignedArea (option_and_then (λ o. slice_get o.value.areas n.area) o) × AllByRecursion IsAligned (filter_map (item_at os) ns)
    of None h = (tt, h)
    of (Some o) h = both o.«module» (slice_get o.value.areas n.area) h

pub areas_same : (region : ℕ) (items : List Item) → map area_piece items ≡ map (piece_of region) (map AnArea items)
areas_same region [] = refl
areas_same region (i ∷ items) = ap (λ (ps : List Piece). area_piece i ∷ ps) (areas_same region items)

pub veneers_same : (region : ℕ) (vs : List RegionVeneer)
    → veneer_pieces region vs ≡ map (piece_of region) (map (λ v. AVeneer v.target v.thumb) (filter (λ v. v.region == region) vs))
veneers_same region [] = refl
veneers_same region (v ∷ vs) = go (v.region == region) refl (veneers_same region vs)
  where
    go : (b : Bool) → (v.region == region) ≡ b → veneer_pieces region vs ≡ map (piece_of region) (map (λ w. AVeneer w.target w.thumb) (filter (λ w. w.region == region) vs))
        → map veneer_piece (cond b (v ∷ filter (λ w. w.region == region) vs) (filter (λ w. w.region == region) vs))
        ≡ map (piece_of region) (map (λ w. AVeneer w.target w.thumb) (cond b (v ∷ filter (λ w. w.region == region) vs) (filter (λ w. w.region == region) vs)))
    go false e rest = rest
    go true e rest =
        let same : v.region ≡ region = grind (arith, nat_tests) in
        ap (λ (n : ℕ). veneer_piece (record v { region = n }) ∷ veneer_pieces region vs) same ∙ ap (λ (ps : List Piece). piece_of region (AVeneer v.target v.thumb) ∷ ps) rest

pub things_joined : (f : Thing → Piece) (header areas veneers startup : List Thing)
    → ((map f header ++ map f areas) ++ map f veneers) ++ map f startup ≡ map f (header ++ (areas ++ (veneers ++ startup)))
things_joined f header areas veneers startup = sym (simp (map-append, append_assoc))

pub things_are : (os : List (Named Object)) (assigned : List (List AreaName)) (vs : List Veneer) (k : Kind) (n : ℕ) (names : List AreaName) (a b d e : List Piece)
    → names ≡ unwrap_or (slice_get assigned n) [] → a ≡ map (piece_of n) (header_in k n) → b ≡ a ++ area_pieces false (filter_map (item_at os) names)
    → d ≡ b ++ veneer_pieces n (map region_veneer vs) → e ≡ d ++ map (piece_of n) (startup_in k n 0) → e ≡ map (piece_of n) (things_in k (contents_of os assigned vs) n)
things_are os assigned vs k n names a b d e hn ha hb hd he =
    let items : List Item = areas_in (contents_of os assigned vs) n in
    let got : items ≡ filter_map (item_at os) names = get_map (filter_map (item_at os)) [] assigned n refl ∙ ap (filter_map (item_at os)) (sym hn) in
    let areas : area_pieces false (filter_map (item_at os) names) ≡ map (piece_of n) (map AnArea (filter (λ i. not (is_zero_initialised i)) items)) =
    ap (λ (is : List Item). area_pieces false is) (sym got) ∙ areas_same n (filter (λ i. not (is_zero_initialised i)) items) in
    let veneers = veneers_same n (map region_veneer vs) in
    let joined = things_joined (piece_of n) (header_in k n) (map AnArea (filter (λ i. not (is_zero_initialised i)) items)) (veneers_in (contents_of os assigned vs) n) (startup_in k n 0) in
    cc

pub zeros_are : (os : List (Named Object)) (assigned : List (List AreaName)) (vs : List Veneer) (n : ℕ) (names : List AreaName) (a : List Piece)
    → names ≡ unwrap_or (slice_get assigned n) [] → a ≡ area_pieces true (filter_map (item_at os) names) → a ≡ map (piece_of n) (zeros_in (contents_of os assigned vs) n)
zeros_are os assigned vs n names a hn ha =
    let items : List Item = areas_in (contents_of os assigned vs) n in
    let got : items ≡ filter_map (item_at os) names = get_map (filter_map (item_at os)) [] assigned n refl ∙ ap (filter_map (item_at os)) (sym hn) in
    ha ∙ (ap (λ (is : List Item). area_pieces true is) (sym got) ∙ areas_same n (filter is_zero_initialised items))

pub parts_append : (k : Kind) (c : Contents) (region : ℕ) (xs ys : List ScatterRegion) → parts_from k c region (xs ++ ys) ≡ parts_from k c region xs ++ parts_from k c (region + length xs) ys
parts_append k c region [] ys = let e : region ≡ region + 0 = omega arith in ap (λ (n : ℕ). parts_from k c n ys) e
parts_append k c region (x ∷ xs) ys =
    let e : suc region + length xs ≡ region + suc (length xs) = omega arith in
    ap (λ (ps : List Part). part_by k c region x.name x.base x.max ∷ ps)
    (parts_append k c (suc region) xs ys ∙ ap (λ (n : ℕ). parts_from k c (suc region) xs ++ parts_from k c n ys) e)

pub parts_length : (k : Kind) (c : Contents) (region : ℕ) (xs : List ScatterRegion) → length (parts_from k c region xs) ≡ length xs
parts_length k c region [] = refl
parts_length k c region (x ∷ xs) = ap suc (parts_length k c (suc region) xs)

-- one load region more
pub loads_more : (k : Kind) (c : Contents) (l : ScatterLoad) (ls : List ScatterLoad) (before after all : List Part)
    → before ++ parts_from k c (length before) (flat_map (λ d. d.regions) (l ∷ ls)) ≡ all → after ≡ before ++ parts_from k c (length before) l.regions
    → after ++ parts_from k c (length after) (flat_map (λ d. d.regions) ls) ≡ all
loads_more k c l ls before after all known more =
    let len : length after ≡ length before + length l.regions = ap (λ (ps : List Part). length ps) more ∙ (length-append before _ ∙ ap (λ (n : ℕ). length before + n) (parts_length k c (length before) l.regions)) in
    rw len (rw more (rw append_assoc (ap (λ (ps : List Part). before ++ ps) (sym (parts_append k c (length before) l.regions (flat_map (λ d. d.regions) ls))) ∙ known)))

pub few_more : (k : Kind) (c : Contents) (l : ScatterLoad) (ls : List ScatterLoad) (before after : List Part)
    → length before + length (flat_map (λ d. d.regions) (l ∷ ls)) ≤ 64 → after ≡ before ++ parts_from k c (length before) l.regions
    → length after + length (flat_map (λ d. d.regions) ls) ≤ 64
few_more k c l ls before after known more =
    let len : length after ≡ length before + length l.regions = ap (λ (ps : List Part). length ps) more ∙ (length-append before _ ∙ ap (λ (n : ℕ). length before + n) (parts_length k c (length before) l.regions)) in
    omega (arith, len, length-append l.regions (flat_map (λ d. d.regions) ls))
