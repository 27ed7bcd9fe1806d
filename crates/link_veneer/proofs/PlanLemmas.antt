-- Veneers that are added one by one are each needed once, in order of first need.
use Rattle.std.proofs.Common.{◌≡◌, ℕ, Bool, true, false, ◌||◌, if◌then◌else◌, List, [], ◌∷◌, ◌++◌, refl, sym, ap, ◌∙◌, append-nil, append_assoc}
use Rattle.std.specs.List.{flat_map, list_any}
use Rattle.link_model.specs.declared.placing.AreaName.{AreaName}
use Rattle.link_model.specs.declared.placing.Veneer.{Veneer}
use Rattle.link_model.specs.Members.{Link}
use Rattle.link_model.specs.RegionValues.{area_of}
use Rattle.link_model.specs.Veneers.{first_needs, is_same, needed_in}
use Rattle.link_veneer.specs.Needing.{with_all, with_one}

pub both_added : (vs xs ys : List Veneer) → with_all vs (xs ++ ys) ≡ with_all (with_all vs xs) ys
both_added vs [] ys = refl
both_added vs (x ∷ xs) ys = both_added (with_one vs x) xs ys

pub added_more : (vs new all xs ys zs : List Veneer) → zs ≡ xs ++ ys → new ≡ with_all vs xs → with_all vs zs ≡ all → with_all new ys ≡ all
added_more vs new all xs ys zs parts e known = ap (λ l. with_all l ys) e ∙ sym (both_added vs xs ys) ∙ ap (with_all vs) (sym parts) ∙ known

-- the veneers of areas, added area by area
abbrev pub named_after : Link → ℕ → List Veneer → List AreaName → List Veneer
named_after l region vs [] = vs
named_after l region vs (a ∷ names) = named_after l region (with_all vs (needed_in l region a (area_of l.objects a))) names

pub all_named : (l : Link) (region : ℕ) (vs : List Veneer) (names : List AreaName) → named_after l region vs names ≡ with_all vs (flat_map (λ a. needed_in l region a (area_of l.objects a)) names)
all_named l region vs [] = refl
all_named l region vs (a ∷ names) =
    all_named l region (with_all vs (needed_in l region a (area_of l.objects a))) names
    ∙ sym (both_added vs (needed_in l region a (area_of l.objects a)) (flat_map (λ b. needed_in l region b (area_of l.objects b)) names))

abbrev SameNeeds : List Veneer → List Veneer → Type 0
SameNeeds vs ws = (v : Veneer) → list_any (is_same v) vs ≡ list_any (is_same v) ws

or_last : (a b : Bool) → (a || (b || false)) ≡ (b || a)
or_last true true = refl
or_last true false = refl
or_last false true = refl
or_last false false = refl

any_last : (p : Veneer → Bool) (vs : List Veneer) (w : Veneer) → list_any p (vs ++ w ∷ []) ≡ (list_any p vs || (p w || false))
any_last p [] w = refl
any_last p (v ∷ vs) w = ap (λ b. p v || b) (any_last p vs w) ∙ assoc (p v) (list_any p vs) (p w || false)
  where
    assoc : (a b c : Bool) → (a || (b || c)) ≡ ((a || b) || c)
    assoc true b c = refl
    assoc false b c = refl

same_needs : (vs seen ws : List Veneer) → SameNeeds vs seen → with_all vs ws ≡ vs ++ first_needs seen ws
same_needs vs seen [] h = sym (append-nil vs)
same_needs vs seen (w ∷ ws) h = ap (λ b. with_all (if b then vs else vs ++ w ∷ []) ws) (h w) ∙ go (list_any (is_same w) seen) (same_needs vs seen ws h) (same_needs (vs ++ w ∷ []) (w ∷ seen) ws more)
  where
    more : SameNeeds (vs ++ w ∷ []) (w ∷ seen)
    more v = any_last (is_same v) vs w ∙ ap (λ b. b || (is_same v w || false)) (h v) ∙ or_last (list_any (is_same v) seen) (is_same v w)

    go : (b : Bool) → with_all vs ws ≡ vs ++ first_needs seen ws → with_all (vs ++ w ∷ []) ws ≡ (vs ++ w ∷ []) ++ first_needs (w ∷ seen) ws
        → with_all (if b then vs else vs ++ w ∷ []) ws ≡ vs ++ (if b then first_needs seen ws else w ∷ first_needs (w ∷ seen) ws)
    go true there here = there
    go false there here = here ∙ append_assoc vs (w ∷ []) (first_needs (w ∷ seen) ws)

pub all_needs : (ws : List Veneer) → with_all [] ws ≡ first_needs [] ws
all_needs ws = same_needs [] [] ws (λ v. refl)
