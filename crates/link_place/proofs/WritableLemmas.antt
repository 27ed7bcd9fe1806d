-- Lemmas on least addresses.
use Rattle.std.proofs.Common.{◌≡◌, ◌+◌, ℕ, Bool, true, false, cond, List, [], ◌∷◌, ◌++◌, refl, ap, ◌∙◌, append_assoc, arith, Option, Some, None}
use Rattle.std.specs.Prelude.{min, unwrap_or}
use Rattle.std.specs.Option.{option_to_list}
use Rattle.std.specs.List.{flat_map}
use Rattle.sdt_word.specs.declared.ranges.Range32.{Range32}
use Rattle.place_model.specs.Faults.{least}
use Rattle.link_place.specs.declared.pieces.Piece.{Piece}
use Rattle.link_place.specs.Pieces.{size_in, start_in, reach, seats}
use Rattle.link_place.specs.Placings.{seat_at}
use Rattle.link_place.specs.Writable.{with_address, least_with, lacked}

pub least_none : (best : Option ℕ) → least_with best [] ≡ best
least_none None = refl
least_none (Some x) = let e : min x x ≡ x = omega arith in ap Some e

-- one address more, if it counts
pub least_more : (best : Option ℕ) (b : Bool) (x : ℕ) (ys : List ℕ) → least_with (with_address best b x) ys ≡ least_with best (cond b (x ∷ ys) ys)
least_more best false x ys = refl
least_more None true x ys = refl
least_more (Some y) true x ys = go (least ys)
  where
    go : (o : Option ℕ) → Some (min (min x y) (unwrap_or o (min x y))) ≡ Some (min y (min x (unwrap_or o x)))
    go None = let e : min (min x y) (min x y) ≡ min y (min x x) = omega arith in ap Some e
    go (Some z) = let e : min (min x y) z ≡ min y (min x z) = omega arith in ap Some e

least_first : (zs ys : List ℕ) → least (option_to_list (least zs) ++ ys) ≡ least (zs ++ ys)
least_first [] ys = refl
least_first (z ∷ zs) ys = go (least zs) (least_first zs ys)
  where
    go : (o : Option ℕ) → least (option_to_list o ++ ys) ≡ least (zs ++ ys) → least (min z (unwrap_or o z) ∷ ys) ≡ Some (min z (unwrap_or (least (zs ++ ys)) z))
    go None rest =
        let e : min z z ≡ z = omega arith in
        ap (λ (x : ℕ). least (x ∷ ys)) e ∙ ap (λ (o : Option ℕ). Some (min z (unwrap_or o z))) rest
    go (Some x) rest = of (least ys) ∙ ap (λ (o : Option ℕ). Some (min z (unwrap_or o z))) rest
      where
        of : (o : Option ℕ) → Some (min (min z x) (unwrap_or o (min z x))) ≡ Some (min z (min x (unwrap_or o x)))
        of None = let e : min (min z x) (min z x) ≡ min z (min x x) = omega arith in ap Some e
        of (Some y) = let e : min (min z x) y ≡ min z (min x y) = omega arith in ap Some e

pub least_join : (best : Option ℕ) (xs ys : List ℕ) → least_with (least_with best xs) ys ≡ least_with best (xs ++ ys)
least_join best xs ys = least_first (option_to_list best ++ xs) ys ∙ ap least (append_assoc (option_to_list best) xs ys)

pub least_all : (a b d : List ℕ) (x y z : Option ℕ) → x ≡ least a → y ≡ least_with x b → z ≡ least_with y d → z ≡ least (a ++ (b ++ d))
least_all a b d x y z hx hy hz = rw (hz, hy, hx) (least_join (least a) b d ∙ least_first a (b ++ d))

-- one piece more, with its address and size
pub least_next : (ram : List Range32) (words origin end address size : ℕ) (p : Piece) (ps : List Piece) (best next all : Option ℕ)
    → least_with best (flat_map (lacked ram words) (seats words origin 0 end (p ∷ ps))) ≡ all
    → address ≡ start_in origin end p → size ≡ size_in words p → next ≡ least_with best (lacked ram words (seat_at 0 p address))
    → least_with next (flat_map (lacked ram words) (seats words origin 0 (address + size) ps)) ≡ all
least_next ram words origin end address size p ps best next all known begins sized more =
    let there : next ≡ least_with best (lacked ram words (seat_at 0 p (start_in origin end p))) =
    more ∙ ap (λ (x : ℕ). least_with best (lacked ram words (seat_at 0 p x))) begins in
    rw (begins, sized, there)
    (least_join best (lacked ram words (seat_at 0 p (start_in origin end p))) (flat_map (lacked ram words) (seats words origin 0 (start_in origin end p + size_in words p) ps)) ∙ known)

pub reach_next : (words origin end address size all : ℕ) (p : Piece) (ps : List Piece) → end + reach words origin end (p ∷ ps) ≡ all
    → address ≡ start_in origin end p → size ≡ size_in words p → address + size + reach words origin (address + size) ps ≡ all
reach_next words origin end address size all p ps known begins sized = rw (begins, sized) (omega (arith, known))
