-- Regions by the pieces of all of them.
use Rattle.std.proofs.Common.{◌≡◌, ℕ, zero, suc, ◌+◌, ◌<◌, ◌≤◌, Bool, true, false, cond, List, [], ◌∷◌, ◌++◌, ◌-◌, length, map, set, get_or, take, drop, replicate, refl, sym, ap, ◌∙◌, arith}
use Rattle.std.specs.Prelude.{Option, Some, None, ◌==◌, slice_get}
use Rattle.std.specs.List.{filter, filter_map, cons_option}
use Rattle.std.proofs.lemmas.Bool.{eq-eqb, ne_eqb}
use Rattle.std.proofs.lemmas.List.{append-nil}
use Rattle.std.proofs.lemmas.List.Elements.{filter-append}
use Rattle.sdt_word.specs.Numbers.{bit}
use Rattle.aof_object.specs.declared.records.Area.{Area}
use Rattle.link_model.specs.declared.placing.PlacedArea.{PlacedArea}
use Rattle.link_model.specs.declared.placing.PlacedVeneer.{PlacedVeneer}
use Rattle.link_model.specs.declared.placing.Placement.{Placement}
use Rattle.link_model.specs.declared.placing.Region.{Region}
use Rattle.link_model.specs.Members.{Link}
use Rattle.link_model.specs.RegionValues.{area_of}
use Rattle.link_values.specs.Placed.{values_in}
use Rattle.link_apply.specs.declared.laying.RegionBuild.{RegionBuild}
use Rattle.link_apply.specs.declared.laying.RegionPiece.{RegionPiece}
use Rattle.boot_code.specs.Startup.{zeros}
use Rattle.link_apply.specs.PatchedBytes.{patched_bytes}
use Rattle.link_apply.specs.RegionBytes.{Piece, laid, filled_up, area_piece, area_pieces, veneer_piece, veneer_pieces, startup_piece, bytes_from, regions_bytes}
use Rattle.link_apply.specs.Pieces.{piece_of, pieces_in, with_piece, laid_from, grown_from, area_region_piece, area_region_pieces, veneer_region_piece, startup_region_piece, all_pieces}

-- ---- the pieces of a region

map_append : {A B : Type 0} (f : A → B) (xs ys : List A) → map f (xs ++ ys) ≡ map f xs ++ map f ys
map_append f [] ys = refl
map_append f (x ∷ xs) ys = ap (λ l. f x ∷ l) (map_append f xs ys)

pieces_append : (xs ys : List RegionPiece) (k : ℕ) → pieces_in (xs ++ ys) k ≡ pieces_in xs k ++ pieces_in ys k
pieces_append xs ys k =
    ap (map piece_of) (filter-append (λ x. x.region == k) xs ys) ∙ map_append piece_of (filter (λ x. x.region == k) xs) (filter (λ x. x.region == k) ys)

-- ---- those of areas

cons_same : (l : Link) (p : Placement) (k : ℕ) (a : PlacedArea) (o : Option Area) (xs : List RegionPiece) (ys : List Piece) (b : Bool) → (a.region == k) ≡ b → pieces_in xs k ≡ ys
    → pieces_in (cons_option (area_region_piece l p a o) xs) k ≡ cond b (cons_option (area_piece l p a o) ys) ys
cons_same l p k a None xs ys true e h = h
cons_same l p k a None xs ys false e h = h
cons_same l p k a (Some area) xs ys b e h = by_bit (bit area.attributes 12 == 1) b e
  where
    bytes : List ℕ
    bytes = patched_bytes p (values_in l p a.area.object) a.region a.address area

    here : RegionPiece
    here = record { region = a.region; address = a.address; bytes = bytes }

    by_bit : (c b : Bool) → (a.region == k) ≡ b → pieces_in (cons_option (cond c None (Some here)) xs) k ≡ cond b (cons_option (cond c None (Some (a.address, bytes))) ys) ys
    by_bit true true e = h
    by_bit true false e = h
    by_bit false true e = rw e (ap (λ zs. (a.address, bytes) ∷ zs) h)
    by_bit false false e = rw e h

of_areas : (l : Link) (p : Placement) (k : ℕ) (areas : List PlacedArea)
    → pieces_in (area_region_pieces l p areas) k ≡ filter_map (λ a. area_piece l p a (area_of l.objects a.area)) (filter (λ a. a.region == k) areas)
of_areas l p k [] = refl
of_areas l p k (a ∷ areas) =
    cons_same l p k a (area_of l.objects a.area) (area_region_pieces l p areas) (filter_map (λ a. area_piece l p a (area_of l.objects a.area)) (filter (λ a. a.region == k) areas))
    (a.region == k) refl (of_areas l p k areas)
    ∙ by_test (a.region == k)
  where
    by_test : (b : Bool) → cond b (cons_option (area_piece l p a (area_of l.objects a.area)) (filter_map (λ a. area_piece l p a (area_of l.objects a.area)) (filter (λ a. a.region == k) areas)))
        (filter_map (λ a. area_piece l p a (area_of l.objects a.area)) (filter (λ a. a.region == k) areas))
        ≡ filter_map (λ a. area_piece l p a (area_of l.objects a.area)) (cond b (a ∷ filter (λ a. a.region == k) areas) (filter (λ a. a.region == k) areas))
    by_test true = refl
    by_test false = refl

-- ---- those of veneers

of_veneers : (p : Placement) (k : ℕ) (vs : List PlacedVeneer) → pieces_in (map (veneer_region_piece p) vs) k ≡ map (veneer_piece p) (filter (λ v. v.veneer.region == k) vs)
of_veneers p k [] = refl
of_veneers p k (v ∷ vs) = by_test (v.veneer.region == k) (of_veneers p k vs)
  where
    by_test : (b : Bool) → pieces_in (map (veneer_region_piece p) vs) k ≡ map (veneer_piece p) (filter (λ v. v.veneer.region == k) vs)
        → map piece_of (cond b (veneer_region_piece p v ∷ filter (λ x. x.region == k) (map (veneer_region_piece p) vs)) (filter (λ x. x.region == k) (map (veneer_region_piece p) vs)))
        ≡ map (veneer_piece p) (cond b (v ∷ filter (λ v. v.veneer.region == k) vs) (filter (λ v. v.veneer.region == k) vs))
    by_test true h = ap (λ zs. veneer_piece p v ∷ zs) h
    by_test false h = h

-- ---- that of the startup code

of_startup : (l : Link) (p : Placement) (r : Region) (boot : Option ℕ) → pieces_in (startup_region_piece l p (Some r) boot) 0 ≡ startup_piece l p 0 r boot
of_startup l p r None = refl
of_startup l p r (Some boot) = refl

none_of_startup : (l : Link) (p : Placement) (o : Option Region) (boot : Option ℕ) (k : ℕ) (r : Region) → pieces_in (startup_region_piece l p o boot) (suc k) ≡ startup_piece l p (suc k) r boot
none_of_startup l p None None k r = refl
none_of_startup l p None (Some boot) k r = refl
none_of_startup l p (Some s) None k r = refl
none_of_startup l p (Some s) (Some boot) k r = rw (ne_eqb 0 (suc k) (λ e. omega arith)) refl

-- ---- all of them

of_all : (l : Link) (p : Placement) (k : ℕ) (r : Region) → pieces_in (startup_region_piece l p (slice_get p.regions 0) p.boot) k ≡ startup_piece l p k r p.boot
    → pieces_in (all_pieces l p) k ≡ area_pieces l p k ++ (veneer_pieces p k ++ startup_piece l p k r p.boot)
of_all l p k r startup =
    pieces_append (area_region_pieces l p p.areas) (map (veneer_region_piece p) p.veneers ++ startup_region_piece l p (slice_get p.regions 0) p.boot) k
    ∙ ap (λ zs. pieces_in (area_region_pieces l p p.areas) k ++ zs) (pieces_append (map (veneer_region_piece p) p.veneers) (startup_region_piece l p (slice_get p.regions 0) p.boot) k)
    ∙ (λ i. of_areas l p k p.areas i ++ (of_veneers p k p.veneers i ++ startup i))

behind_first : (l : Link) (p : Placement) (k : ℕ) (regions : List Region) → laid_from (pieces_in (all_pieces l p)) (suc k) regions ≡ bytes_from l p (suc k) regions
behind_first l p k [] = refl
behind_first l p k (r ∷ regions) =
    (λ i. filled_up r.length (laid r.base (of_all l p (suc k) r (none_of_startup l p (slice_get p.regions 0) p.boot k r) i)) ∷ behind_first l p (suc k) regions i)

from_first : (l : Link) (p : Placement) (regions : List Region) → regions ≡ p.regions → laid_from (pieces_in (all_pieces l p)) 0 regions ≡ bytes_from l p 0 regions
from_first l p [] e = refl
from_first l p (r ∷ regions) e =
    let first : slice_get p.regions 0 ≡ Some r = ap (λ rs. slice_get rs 0) (sym e) in
    let startup : pieces_in (startup_region_piece l p (slice_get p.regions 0) p.boot) 0 ≡ startup_piece l p 0 r p.boot =
    ap (λ o. pieces_in (startup_region_piece l p o p.boot) 0) first ∙ of_startup l p r p.boot in
    (λ i. filled_up r.length (laid r.base (of_all l p 0 r startup i)) ∷ behind_first l p 0 regions i)

pub all_laid : (l : Link) (p : Placement) → laid_from (pieces_in (all_pieces l p)) 0 p.regions ≡ regions_bytes l p
all_laid l p = from_first l p p.regions refl

-- ---- growing regions

-- a piece goes to the region of its number
abbrev pub Puts : RegionBuild → RegionBuild → Piece → Type 0
Puts before after piece =
    (after.length ≡ before.length) × ((rest : List Piece) → after.bytes.items ++ laid after.at rest ≡ before.bytes.items ++ laid before.at (piece ∷ rest))

grown_apart : (x : RegionPiece) (rest : ℕ → List Piece) (i : ℕ) (gs : List RegionBuild) → x.region < i → grown_from rest i gs ≡ grown_from (with_piece x rest) i gs
grown_apart x rest i [] h = refl
grown_apart x rest i (g ∷ gs) h =
    let apart : (x.region == i) ≡ false = ne_eqb x.region i (λ same. omega arith) in
    let same : rest i ≡ with_piece x rest i = sym (rw apart refl) in
    (λ j. filled_up g.length (g.bytes.items ++ laid g.at (same j)) ∷ grown_apart x rest (suc i) gs (omega arith) j)

pub grown_put : (x : RegionPiece) (rest : ℕ → List Piece) (i n : ℕ) (gs : List RegionBuild) (g h : RegionBuild) → x.region ≡ i + n → slice_get gs n ≡ Some g → Puts g h (piece_of x)
    → grown_from rest i (set gs n h) ≡ grown_from (with_piece x rest) i gs
grown_put x rest i n [] g h e there puts = absurd (cc)
grown_put x rest i zero (f ∷ gs) g h e there puts =
    let same : f ≡ g = cc in
    let here : (x.region == i) ≡ true = eq-eqb x.region i (omega arith) in
    let with : piece_of x ∷ rest i ≡ with_piece x rest i = sym (rw here refl) in
    let behind : x.region < suc i = omega arith in
    (λ j. filled_up ((puts.0 ∙ (λ k. (sym same k).length)) j) ((puts.1 (rest i) ∙ (λ k. (sym same k).bytes.items ++ laid (sym same k).at (with k))) j) ∷ grown_apart x rest (suc i) gs behind j)
grown_put x rest i (suc n) (f ∷ gs) g h e there puts =
    let apart : (x.region == i) ≡ false = ne_eqb x.region i (λ same. omega arith) in
    let same : rest i ≡ with_piece x rest i = sym (rw apart refl) in
    (λ j. filled_up f.length (f.bytes.items ++ laid f.at (same j)) ∷ grown_put x rest (suc i) n gs g h (omega arith) there puts j)

pub grown_same : (x : RegionPiece) (rest : ℕ → List Piece) (i : ℕ) (gs : List RegionBuild) → i + length gs ≤ x.region → grown_from rest i gs ≡ grown_from (with_piece x rest) i gs
grown_same x rest i [] h = refl
grown_same x rest i (g ∷ gs) h =
    let apart : (x.region == i) ≡ false = ne_eqb x.region i (λ same. omega arith) in
    let same : rest i ≡ with_piece x rest i = sym (rw apart refl) in
    (λ j. filled_up g.length (g.bytes.items ++ laid g.at (same j)) ∷ grown_same x rest (suc i) gs (omega arith) j)

pub grown_bytes : (i : ℕ) (gs : List RegionBuild) → grown_from (λ k. []) i gs ≡ map (λ g. filled_up g.length g.bytes.items) gs
grown_bytes i [] = refl
grown_bytes i (g ∷ gs) = (λ j. filled_up g.length (append-nil g.bytes.items j) ∷ grown_bytes (suc i) gs j)

pub started_more : (i : ℕ) (gs : List RegionBuild) (rs : List Region) → ((rest : ℕ → List Piece) → grown_from rest i gs ≡ laid_from rest i rs)
    → (g : RegionBuild) (r : Region) → g.bytes.items ≡ [] → g.at ≡ r.base → g.length ≡ r.length → (rest : ℕ → List Piece) → grown_from rest i (gs ++ g ∷ []) ≡ laid_from rest i (rs ++ r ∷ [])
started_more i [] [] known g r empty at size rest = (λ j. filled_up (size j) (empty j ++ laid (at j) (rest i)) ∷ [])
started_more i [] (x ∷ xs) known g r empty at size rest = absurd (let e = known rest in cc)
started_more i (f ∷ fs) [] known g r empty at size rest = absurd (let e = known rest in cc)
started_more i (f ∷ fs) (x ∷ xs) known g r empty at size rest =
    (λ j. get_or (known rest j) 0 [] ∷ started_more (suc i) fs xs (λ more. ap (drop 1) (known more)) g r empty at size rest j)

same_zeros : (k : ℕ) → replicate k 0 ≡ zeros k
same_zeros zero = refl
same_zeros (suc k) = ap (λ l. 0 ∷ l) (same_zeros k)

zeros_behind : (old : List ℕ) (n count : ℕ) → n ≡ length old + count → take n old ++ replicate (n - length old) 0 ≡ old ++ zeros count
zeros_behind [] zero count e = let none : 0 ≡ count = omega arith in let whole : zero - 0 ≡ zero = omega arith in ap (λ k. replicate k 0) whole ∙ ap zeros none
zeros_behind [] (suc n) count e = let same : suc n ≡ count = omega arith in let whole : suc n - 0 ≡ suc n = omega arith in ap (λ k. replicate k 0) whole ∙ same_zeros (suc n) ∙ ap zeros same
zeros_behind (x ∷ xs) zero count e = absurd (omega arith)
zeros_behind (x ∷ xs) (suc n) count e =
    let same : suc n - suc (length xs) ≡ n - length xs = omega arith in
    ap (λ k. x ∷ (take n xs ++ replicate k 0)) same ∙ ap (λ l. x ∷ l) (zeros_behind xs n count (omega arith))

pub zeros_more : (old : List ℕ) (m n count : ℕ) → m ≡ length old → n ≡ m + count → take n old ++ replicate (n - m) 0 ≡ old ++ zeros count
zeros_more old m n count size e = ap (λ k. take n old ++ replicate (n - k) 0) size ∙ zeros_behind old n count (omega arith)
