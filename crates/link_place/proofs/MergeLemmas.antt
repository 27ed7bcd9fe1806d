-- Merged pieces take as many bytes from each address on, counted from 0.
use Rattle.std.proofs.Common.{◌≡◌, ℕ, zero, suc, ◌+◌, ◌-◌, ◌*◌, ◌/◌, ◌%◌, ◌^◌, ◌<◌, ◌≤◌, Bool, true, false, cond, List, [], ◌∷◌, ◌++◌, length, map, refl, ap, sym, ◌∙◌, arith, Option, Some, None, take, drop}
use Rattle.std.specs.Prelude.{◌&&◌, ◌==◌, nat_lt, is_some, sum_by}
use Rattle.std.specs.Option.{option_to_list}
use Rattle.std.proofs.Math.Nat.{mul-mod_left, mod_self, add-mul-mod_self_right, mul_assoc}
use Rattle.std.proofs.lemmas.Nat.{div-add-mod'}
use Rattle.std.proofs.lemmas.Bool.{eqb-true, ltb-true}
use Rattle.std.proofs.lemmas.List.Sums.{sum_by-cons}
use Rattle.base_lemmas.proofs.BaseLemmas.{both_true}
use Rattle.place_model.specs.Things.{gap}
use Rattle.place_model.specs.Plans.{base_behind, first_from}
use Rattle.place_model.proofs.GapLemmas.{gap_law}
use Rattle.link_place.specs.declared.layouts.RegionLayout.{RegionLayout}
use Rattle.link_place.specs.declared.layouts.Load.{Load}
use Rattle.link_place.specs.declared.parts.Group.{Group}
use Rattle.link_place.specs.declared.parts.Part.{Part}
use Rattle.link_place.specs.declared.pieces.AreaPiece.{AreaPiece}
use Rattle.link_place.specs.declared.pieces.Piece.{Piece}
use Rattle.link_place.specs.declared.pieces.Piece.TheVariants.{Header, Area, Veneer, Startup}
use Rattle.link_place.specs.Pieces.{reach, size_in, multiple_in, start_in}
use Rattle.link_place.specs.Parts.{piece_count}
use Rattle.link_place.specs.Layouts.{laid_at, laid_by, laid_from, laid_in, loaded, load_by, loads_by, regions_by, layout_for, layout_of, passes, has_room}
use Rattle.link_place.specs.Merging.{follows, joined, joined_areas, merged, merged_behind, merged_part}

-- ---- multiples

multiple_of : (y m n : ℕ) → y % m ≡ 0 → m % n ≡ 0 → y % n ≡ 0
multiple_of y m n whole part =
    let all : y / m * m + y % m ≡ y = div-add-mod' y m in
    let of_m : m / n * n + m % n ≡ m = div-add-mod' m n in
    let m_is : m ≡ m / n * n = omega arith in
    let y_is : y ≡ y / m * m = omega arith in
    ap (λ (k : ℕ). k % n) (y_is ∙ ap (λ (k : ℕ). y / m * k) m_is ∙ sym (mul_assoc (y / m) (m / n) n)) ∙ mul-mod_left (y / m * (m / n)) n

behind_multiple : (y s n : ℕ) → y % n ≡ 0 → s % n ≡ 0 → (y + s) % n ≡ 0
behind_multiple y s n whole part =
    let all : s / n * n + s % n ≡ s = div-add-mod' s n in
    let s_is : s ≡ s / n * n = omega arith in
    ap (λ (k : ℕ). (y + k) % n) s_is ∙ add-mul-mod_self_right y (s / n) n ∙ whole

-- no gap before the second of two areas
no_gap : (at m s n : ℕ) → 0 < m → m % n ≡ 0 → s % n ≡ 0 → gap 0 n (at + gap 0 m at + s) ≡ 0
no_gap at m s n positive part size =
    let low : 0 ≤ at = omega arith in
    let stands : (at + gap 0 m at - 0) % m ≡ 0 = gap_law.allowed 0 m at low positive in
    let start : ℕ = at + gap 0 m at in
    let e : start - 0 ≡ start = omega arith in
    let whole : start % n ≡ 0 = multiple_of start m n (ap (λ (k : ℕ). k % m) (sym e) ∙ stands) part in
    let f : start + s - 0 ≡ start + s = omega arith in
    let behind : (start + s - 0) % n ≡ 0 = ap (λ (k : ℕ). k % n) f ∙ behind_multiple start s n whole size in
    let g : n - 0 ≡ n = omega arith in
    ap (λ (k : ℕ). (n - k) % n) behind ∙ ap (λ (k : ℕ). k % n) g ∙ mod_self n

-- ---- two pieces as one

areas_reach : (words at : ℕ) (a b : AreaPiece) (rest : List Piece) (p : Piece) → joined_areas a b ≡ Some p
    → reach words 0 at (p ∷ rest) ≡ reach words 0 at (Area a ∷ Area b ∷ rest)
areas_reach words at a b rest p is = go (follows a b) refl is
  where
    both : AreaPiece
    both = record { name = a.name; multiple = a.multiple; size = a.size + b.size; written = a.written }

    go : (f : Bool) → follows a b ≡ f → cond f (Some (Area both)) None ≡ Some p → reach words 0 at (p ∷ rest) ≡ reach words 0 at (Area a ∷ Area b ∷ rest)
    go false e one = absurd cc
    go true e one =
        let own : Area both ≡ p = cc in
        let (positive, e1) = both_true (nat_lt 0 a.multiple) (nat_lt 0 b.multiple && (a.multiple % b.multiple == 0 && (a.size % b.multiple == 0 && nat_lt (a.size + b.size) (2 ^ 32)))) e in
        let (_, e2) = both_true (nat_lt 0 b.multiple) (a.multiple % b.multiple == 0 && (a.size % b.multiple == 0 && nat_lt (a.size + b.size) (2 ^ 32))) e1 in
        let (part, e3) = both_true (a.multiple % b.multiple == 0) (a.size % b.multiple == 0 && nat_lt (a.size + b.size) (2 ^ 32)) e2 in
        let (size, _) = both_true (a.size % b.multiple == 0) (nat_lt (a.size + b.size) (2 ^ 32)) e3 in
        let start : ℕ = at + gap 0 a.multiple at in
        let none : gap 0 b.multiple (start + a.size) ≡ 0 = no_gap at a.multiple a.size b.multiple (ltb-true 0 a.multiple positive) (eqb-true (a.multiple % b.multiple) 0 part) (eqb-true (a.size % b.multiple) 0 size) in
        let behind : start + (a.size + b.size) ≡ start + a.size + gap 0 b.multiple (start + a.size) + b.size = omega (arith, none) in
        let rests : reach words 0 (start + (a.size + b.size)) rest ≡ reach words 0 (start + a.size + gap 0 b.multiple (start + a.size) + b.size) rest = ap (λ (k : ℕ). reach words 0 k rest) behind in
        ap (λ (q : Piece). reach words 0 at (q ∷ rest)) (sym own) ∙ omega (arith, none, rests)

pair_reach : (words at : ℕ) (p q : Piece) (rest : List Piece) (r : Piece) → joined p q ≡ Some r → reach words 0 at (r ∷ rest) ≡ reach words 0 at (p ∷ q ∷ rest)
pair_reach words at (Area a) (Area b) rest r is = areas_reach words at a b rest r is
pair_reach words at (Area a) Header rest r is = absurd cc
pair_reach words at (Area a) (Veneer v) rest r is = absurd cc
pair_reach words at (Area a) Startup rest r is = absurd cc
pair_reach words at Header q rest r is = absurd cc
pair_reach words at (Veneer v) q rest r is = absurd cc
pair_reach words at Startup q rest r is = absurd cc

-- ---- all pieces

behind_reach : (words at : ℕ) (last : Option Piece) (ps : List Piece) → reach words 0 at (merged_behind last ps) ≡ reach words 0 at (option_to_list last ++ ps)
behind_reach words at None [] = refl
behind_reach words at None (q ∷ qs) = behind_reach words at (Some q) qs
behind_reach words at (Some p) [] = refl
behind_reach words at (Some p) (q ∷ qs) = go (joined p q) refl (behind_reach words (start_in 0 at p + size_in words p) (Some q) qs) (λ r. behind_reach words at (Some r) qs)
  where
    go : (o : Option Piece) → joined p q ≡ o
        → reach words 0 (start_in 0 at p + size_in words p) (merged_behind (Some q) qs) ≡ reach words 0 (start_in 0 at p + size_in words p) (q ∷ qs)
        → ((r : Piece) → reach words 0 at (merged_behind (Some r) qs) ≡ reach words 0 at (r ∷ qs))
        → reach words 0 at (cond (is_some o) (merged_behind o qs) (p ∷ merged_behind (Some q) qs)) ≡ reach words 0 at (p ∷ q ∷ qs)
    go None e apart grown = ap (λ (k : ℕ). gap 0 (multiple_in p) at + size_in words p + k) apart
    go (Some r) e apart grown = grown r ∙ pair_reach words at p q qs r e

behind_length : (last : Option Piece) (ps : List Piece) → length (merged_behind last ps) ≤ length (option_to_list last) + length ps
behind_length None [] = omega arith
behind_length None (q ∷ qs) = let h = behind_length (Some q) qs in omega (arith, h)
behind_length (Some p) [] = omega arith
behind_length (Some p) (q ∷ qs) = go (joined p q) (behind_length (Some q) qs) (λ r. behind_length (Some r) qs)
  where
    go : (o : Option Piece) → length (merged_behind (Some q) qs) ≤ 1 + length qs → ((r : Piece) → length (merged_behind (Some r) qs) ≤ 1 + length qs)
        → length (cond (is_some o) (merged_behind o qs) (p ∷ merged_behind (Some q) qs)) ≤ 1 + suc (length qs)
    go None apart grown = omega (arith, apart)
    go (Some r) apart grown = let h = grown r in omega (arith, h)

merged_reach : (words at : ℕ) (ps : List Piece) → reach words 0 at (merged ps) ≡ reach words 0 at ps
merged_reach words at ps = behind_reach words at None ps

pub merged_count : (ps : List Part) → sum_by piece_count (map merged_part ps) ≤ sum_by piece_count ps
merged_count [] = omega arith
merged_count (p ∷ ps) =
    let things : length (merged p.things) ≤ length p.things = let h = behind_length None p.things in omega (arith, h) in
    let zeros : length (merged p.zeros) ≤ length p.zeros = let h = behind_length None p.zeros in omega (arith, h) in
    let rest = merged_count ps in
    let fewer = sum_by-cons piece_count (merged_part p) (map merged_part ps) in
    let all = sum_by-cons piece_count p ps in
    omega (arith, things, zeros, rest, fewer, all)

pub merged_size : (ps : List Part) → length (map merged_part ps) ≡ length ps
merged_size [] = refl
merged_size (p ∷ ps) = ap (λ (n : ℕ). suc n) (merged_size ps)

-- ---- regions

part_same : (words number : ℕ) (p : Part) (load base : ℕ) → laid_at words 0 number (merged_part p) load base ≡ laid_at words 0 number p load base
part_same words number p load base =
    let things : reach words 0 base (merged p.things) ≡ reach words 0 base p.things = merged_reach words base p.things in
    ap (λ (n : ℕ). laid_by number p load base n (reach words 0 (base + n) (merged p.zeros))) things
    ∙ ap (laid_by number p load base (reach words 0 base p.things)) (merged_reach words (base + reach words 0 base p.things) p.zeros)

from_same : (words number : ℕ) (ps : List Part) (before load : ℕ) → laid_from words 0 number (map merged_part ps) before load ≡ laid_from words 0 number ps before load
from_same words number [] before load = refl
from_same words number (p ∷ ps) before load =
    let one : RegionLayout = laid_at words 0 number p load (base_behind p.base before) in
    ap (λ (l : RegionLayout). l ∷ laid_from words 0 number (map merged_part ps) (l.region.base + (l.region.length + l.region.zero)) (load + l.region.length)) (part_same words number p load (base_behind p.base before))
    ∙ ap (λ (ls : List RegionLayout). one ∷ ls) (from_same words number ps (one.region.base + (one.region.length + one.region.zero)) (load + one.region.length))

take_map : (n : ℕ) (ps : List Part) → take n (map merged_part ps) ≡ map merged_part (take n ps)
take_map zero ps = refl
take_map (suc n) [] = refl
take_map (suc n) (p ∷ ps) = ap (λ (qs : List Part). merged_part p ∷ qs) (take_map n ps)

drop_map : (n : ℕ) (ps : List Part) → drop n (map merged_part ps) ≡ map merged_part (drop n ps)
drop_map zero ps = refl
drop_map (suc n) [] = refl
drop_map (suc n) (p ∷ ps) = drop_map n ps

in_same : (words number : ℕ) (g : Group) (ps : List Part) → laid_in words 0 number g (map merged_part ps) ≡ laid_in words 0 number g ps
in_same words number g ps =
    ap (λ (qs : List Part). laid_from words 0 number qs g.base g.base) (take_map g.count ps) ∙ from_same words number (take g.count ps) g.base g.base

regions_same : (words number : ℕ) (gs : List Group) (ps : List Part) → regions_by words 0 number gs (map merged_part ps) ≡ regions_by words 0 number gs ps
regions_same words number [] ps = refl
regions_same words number (g ∷ gs) ps =
    ap (λ (ls : List RegionLayout). ls ++ regions_by words 0 (suc number) gs (drop g.count (map merged_part ps))) (in_same words number g ps)
    ∙ ap (λ (ls : List RegionLayout). laid_in words 0 number g ps ++ ls)
    (ap (λ (qs : List Part). regions_by words 0 (suc number) gs qs) (drop_map g.count ps) ∙ regions_same words (suc number) gs (drop g.count ps))

loads_same : (words number : ℕ) (gs : List Group) (ps : List Part) → loads_by words 0 number gs (map merged_part ps) ≡ loads_by words 0 number gs ps
loads_same words number [] ps = refl
loads_same words number (g ∷ gs) ps =
    ap (λ (ls : List RegionLayout). load_by g.name g (loaded ls) ++ loads_by words 0 (suc number) gs (drop g.count (map merged_part ps))) (in_same words number g ps)
    ∙ ap (λ (ls : List Load). load_by g.name g (loaded (laid_in words 0 number g ps)) ++ ls)
    (ap (λ (qs : List Part). loads_by words 0 (suc number) gs qs) (drop_map g.count ps) ∙ loads_same words (suc number) gs (drop g.count ps))

for_same : (words : ℕ) (gs : List Group) (ps : List Part) → layout_for 0 gs (map merged_part ps) words ≡ layout_for 0 gs ps words
for_same words gs ps =
    ap (λ (ls : List Load). record { words = words; loads = ls; regions = regions_by words 0 0 gs (map merged_part ps) }) (loads_same words 0 gs ps)
    ∙ ap (λ (ls : List RegionLayout). record { words = words; loads = loads_by words 0 0 gs ps; regions = ls }) (regions_same words 0 gs ps)

-- the same layout is the least
pub merged_layout : (gs : List Group) (ps : List Part) (most : ℕ) → layout_of 0 gs (map merged_part ps) most ≡ layout_of 0 gs ps most
merged_layout gs ps most =
    let same : passes 0 gs (map merged_part ps) ≡ passes 0 gs ps = λ i words. has_room (regions_same words 0 gs ps i) words in
    for_same (first_from (passes 0 gs (map merged_part ps)) 0 most) gs ps
    ∙ ap (λ (f : ℕ → Bool). layout_for 0 gs ps (first_from f 0 most)) same
