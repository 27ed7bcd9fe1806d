-- Veneers found by an index.
use Rattle.std.proofs.Common.{◌≡◌, ℕ, ◌+◌, ◌-◌, ◌<◌, ◌≤◌, Bool, true, false, cond, List, ◌∷◌, length, drop, get_or, Option, Some, refl, sym, ap, ◌∙◌, arith}
use Rattle.std.proofs.lemmas.List.{drop_more}
use Rattle.std.specs.Bool.{beq}
use Rattle.std.specs.Prelude.{not, ◌&&◌, ◌==◌}
use Rattle.std.specs.List.{find}
use Rattle.std.specs.Option.{option_map}
use Rattle.patch_model.specs.Fields.{Home}
use Rattle.patch_model.specs.Patched.{other_state}
use Rattle.link_model.specs.declared.placing.PlacedVeneer.{PlacedVeneer}
use Rattle.link_model.specs.declared.placing.Placement.{Placement}
use Rattle.link_model.specs.declared.placing.Veneer.{Veneer}
use Rattle.link_apply.specs.Detours.{VeneerIndex, is_same, veneer_in, AreVeneers}
use Rattle.link_apply.specs.Placed.{leads_to, veneers_at}

and_assoc : (a b c : Bool) → ((a && b) && c) ≡ (a && (b && c))
and_assoc true b c = refl
and_assoc false b c = refl

same_state : (a b : Bool) → beq a b ≡ not (other_state a b)
same_state true true = refl
same_state true false = refl
same_state false true = refl
same_state false false = refl

abbrev pub veneer_to : ℕ → Home → Bool → Veneer
veneer_to region h thumb = record { region = region; area = record { object = h.object; area = h.area }; offset = h.offset; thumb = thumb }

same_leads : (region : ℕ) (h : Home) (thumb : Bool) (v : Veneer) → is_same v (veneer_to region h thumb) ≡ leads_to region h thumb v
same_leads region h thumb v =
    ap (λ b. v.region == region && b) (and_assoc (v.area.object == h.object) (v.area.area == h.area) (v.offset == h.offset && beq v.thumb thumb))
    ∙ ap (λ b. v.region == region && (v.area.object == h.object && (v.area.area == h.area && (v.offset == h.offset && b)))) (same_state v.thumb thumb)

pub veneers_same : (p : Placement) (m : VeneerIndex) (region : ℕ) (h : Home) (thumb : Bool) → AreVeneers p.veneers m → veneer_in m (veneer_to region h thumb) ≡ veneers_at p region h thumb
veneers_same p m region h thumb known =
    known (veneer_to region h thumb) ∙ (λ i. option_map (λ v. v.address) (find (λ v. same_leads region h thumb v.veneer i) p.veneers))

-- ---- the index of the veneers from a number on, after the veneer before them

found_first : (b : Bool) (x : PlacedVeneer) (o : Option PlacedVeneer) → cond b (Some x.address) (option_map (λ p. p.address) o) ≡ option_map (λ p. p.address) (cond b (Some x) o)
found_first true x o = refl
found_first false x o = refl

pub veneers_back : (m n : VeneerIndex) (placed : List PlacedVeneer) (i : ℕ) (d : PlacedVeneer) → 0 < i → i ≤ length placed → AreVeneers (drop i placed) m
    → ((v : Veneer) → veneer_in n v ≡ cond (is_same (get_or placed (i - 1) d).veneer v) (Some (get_or placed (i - 1) d).address) (veneer_in m v)) → AreVeneers (drop (i - 1) placed) n
veneers_back m n placed i d h le known new v =
    let x : PlacedVeneer = get_or placed (i - 1) d in
    let next : i - 1 + 1 ≡ i = omega arith in
    let here : drop (i - 1) placed ≡ x ∷ drop i placed = drop_more placed (i - 1) d (omega arith) ∙ ap (λ (k : ℕ). x ∷ drop k placed) next in
    new v ∙ ap (λ (o : Option ℕ). cond (is_same x.veneer v) (Some x.address) o) (known v) ∙ found_first (is_same x.veneer v) x (find (λ p. is_same p.veneer v) (drop i placed))
    ∙ ap (λ (ps : List PlacedVeneer). option_map (λ p. p.address) (find (λ p. is_same p.veneer v) ps)) (sym here)
