-- Lemmas on what was placed so far.
use Rattle.std.proofs.Common.{◌≡◌, ℕ, suc, ◌+◌, List, [], ◌∷◌, ◌++◌, refl, ap, sym, ◌∙◌, append_assoc, arith, Option, Some, None, Result, Ok, Err, length, length-drop, drop, ◌<◌}
use Rattle.std.specs.Prelude.{OnOk}
use Rattle.std.specs.List.{flat_map}
use Rattle.std.specs.Option.{option_or}
use Rattle.std.proofs.lemmas.Grind.{flat_map-append}
use Rattle.link_place.specs.declared.layouts.RegionLayout.{RegionLayout}
use Rattle.link_place.specs.declared.parts.Part.{Part}
use Rattle.link_place.specs.declared.placing.Placing.{Placing}
use Rattle.link_place.specs.Pieces.{Seat}
use Rattle.link_place.specs.Placings.{area_at, veneer_at, boot_in, region_seats, all_seats, AreStood, AreFor}
use Rattle.link_place.proofs.PlacedLemmas.{boot_append}

or_assoc : (a b c : Option ℕ) → option_or (option_or a b) c ≡ option_or a (option_or b c)
or_assoc None b c = refl
or_assoc (Some x) b c = refl

-- more of a list that is known in whole
pub list_more : {X Y : Type 0} (f : Y → List X) (xs ys : List Y) (before after all : List X) → before ++ flat_map f (xs ++ ys) ≡ all → after ≡ before ++ flat_map f xs → after ++ flat_map f ys ≡ all
list_more {X} f xs ys before after all known more =
    rw more (append_assoc before (flat_map f xs) (flat_map f ys) ∙ (ap (λ (zs : List X). before ++ zs) (sym (flat_map-append f xs ys)) ∙ known))

pub boot_more : (xs ys : List Seat) (before after all : Option ℕ) → option_or before (boot_in (xs ++ ys)) ≡ all → after ≡ option_or before (boot_in xs) → option_or after (boot_in ys) ≡ all
boot_more xs ys before after all known more =
    rw more (or_assoc before (boot_in xs) (boot_in ys) ∙ (ap (option_or before) (sym (boot_append xs ys)) ∙ known))

pub stood_join : (a b c : Placing) (xs ys : List Seat) → AreStood a b xs → AreStood b c ys → AreStood a c (xs ++ ys)
stood_join a b c xs ys h k = record {
  areas = k.areas ∙ list_more area_at xs ys a.areas.items b.areas.items _ refl h.areas;
  veneers = k.veneers ∙ list_more veneer_at xs ys a.veneers.items b.veneers.items _ refl h.veneers;
  boot = k.boot ∙ boot_more xs ys a.boot b.boot _ refl h.boot;
}

pub ok_more : {A B : Type 0} (r : Result A B) (P Q : Type 0) → (P → Q) → OnOk r P → OnOk r Q
ok_more (Ok a) P Q f h = f h
ok_more (Err e) P Q f h = tt

-- ---- one region more

pub seats_step : {X : Type 0} (f : Seat → List X) (words origin i : ℕ) (p : Part) (ps : List Part) (l : RegionLayout) (ls : List RegionLayout) (before after all : List X)
    → before ++ flat_map f (all_seats words origin i (p ∷ ps) (l ∷ ls)) ≡ all → after ≡ before ++ flat_map f (region_seats words origin i p l)
    → after ++ flat_map f (all_seats words origin (i + 1) ps ls) ≡ all
seats_step f words origin i p ps l ls before after all known more =
    let e : i + 1 ≡ suc i = omega arith in
    rw e (list_more f (region_seats words origin i p l) (all_seats words origin (suc i) ps ls) before after all known more)

pub boot_step : (words origin i : ℕ) (p : Part) (ps : List Part) (l : RegionLayout) (ls : List RegionLayout) (before after all : Option ℕ)
    → option_or before (boot_in (all_seats words origin i (p ∷ ps) (l ∷ ls))) ≡ all → after ≡ option_or before (boot_in (region_seats words origin i p l))
    → option_or after (boot_in (all_seats words origin (i + 1) ps ls)) ≡ all
boot_step words origin i p ps l ls before after all known more =
    let e : i + 1 ≡ suc i = omega arith in
    rw e (boot_more (region_seats words origin i p l) (all_seats words origin (suc i) ps ls) before after all known more)

pub has_more : (words origin i : ℕ) (p : Part) (ps : List Part) (ls : List RegionLayout) → AreFor words origin (p ∷ ps) (drop i ls) → i < length ls
has_more words origin i p ps ls own = go (drop i ls) refl own
  where
    go : (rest : List RegionLayout) → drop i ls ≡ rest → AreFor words origin (p ∷ ps) rest → i < length ls
    go [] e h = absurd h
    go (l ∷ rest) e h = omega (arith, length-drop i ls, ap (λ (xs : List RegionLayout). length xs) e)

-- ---- what is told first

pub here : {X : Type 0} (x : X) (o rest all : Option X) → option_or o rest ≡ all → Some x ≡ o → Some x ≡ all
here {X} x o rest all known e = ap (λ (p : Option X). option_or p rest) e ∙ known

pub later : {X : Type 0} (o rest all : Option X) → option_or o rest ≡ all → None ≡ o → rest ≡ all
later {X} o rest all known e = ap (λ (p : Option X). option_or p rest) e ∙ known
