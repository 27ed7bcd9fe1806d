-- Lemmas on layouts.
use Rattle.std.proofs.Common.{◌≡◌, ℕ, suc, ◌+◌, ◌-◌, ◌<◌, Bool, false, List, ◌∷◌, ◌++◌, refl, ap, sym, ◌∙◌, append_assoc, arith}
use Rattle.std.specs.Prelude.{take, drop}
use Rattle.place_model.specs.Plans.{first_from}
use Rattle.link_place.specs.declared.layouts.RegionLayout.{RegionLayout}
use Rattle.link_place.specs.declared.layouts.Load.{Load}
use Rattle.link_place.specs.declared.parts.Group.{Group}
use Rattle.link_place.specs.declared.parts.Part.{Part}
use Rattle.link_place.specs.Layouts.{laid_from, loaded, regions_by, load_by, loads_by}

pub first_next : (passes : ℕ → Bool) (n most : ℕ) → n < most → passes n ≡ false → first_from passes (n + 1) (most - (n + 1)) ≡ first_from passes n (most - n)
first_next passes n most h not_yet = let e : most - n ≡ suc (most - (n + 1)) = omega arith in let f : n + 1 ≡ suc n = omega arith in
    ap (λ (k : ℕ). first_from passes k (most - (n + 1))) f ∙ sym (rw e (rw not_yet refl))

-- one load region more
pub regions_next : (words origin number : ℕ) (g : Group) (gs : List Group) (ps : List Part) (before after all : List RegionLayout)
    → before ++ regions_by words origin number (g ∷ gs) ps ≡ all → after ≡ before ++ laid_from words origin number (take g.count ps) g.base g.base
    → after ++ regions_by words origin (number + 1) gs (drop g.count ps) ≡ all
regions_next words origin number g gs ps before after all known more =
    let e : number + 1 ≡ suc number = omega arith in
    rw (more, e) (rw append_assoc known)

pub loads_next : (words origin number size : ℕ) (g : Group) (gs : List Group) (ps : List Part) (before after all : List Load)
    → before ++ loads_by words origin number (g ∷ gs) ps ≡ all → size ≡ loaded (laid_from words origin number (take g.count ps) g.base g.base)
    → after ≡ before ++ load_by g.name g size
    → after ++ loads_by words origin (number + 1) gs (drop g.count ps) ≡ all
loads_next words origin number size g gs ps before after all known same more =
    let e : number + 1 ≡ suc number = omega arith in
    rw (more, same, e) (rw append_assoc known)
