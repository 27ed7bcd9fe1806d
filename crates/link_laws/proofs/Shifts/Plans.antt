-- The plan of a relocatable AIF at another base, and its placement.
use Rattle.std.proofs.Common.{◌≡◌, ℕ, ◌+◌, ◌-◌, ◌%◌, true, List, [], ◌∷◌, ◌++◌, map, refl, sym, ap, ◌∙◌, arith, codes, None}
use Rattle.std.specs.List.{flat_map}
use Rattle.std.proofs.lemmas.List.{map-append}
use Rattle.place_model.specs.declared.scatter.Choice.TheVariants as choice
use Rattle.place_model.specs.declared.scatter.Kind.TheVariants as kind
use Rattle.place_model.specs.declared.scatter.ScatterBase.TheVariants.{At, Plus}
use Rattle.place_model.specs.Assignment.{class_region}
use Rattle.place_model.specs.Plans.{Contents, Planned, planned, length_of, zero_base_of, zero_length_of, end_of, Plan, regions_of, stood_in}
use Rattle.place_model.specs.Things.{Thing, alignment_of, size_of, gap, start_of, extent, stood, Stood}
use Rattle.image_model.specs.AifFiles.{aif_plan}
use Rattle.link_laws.specs.AifJoins.{moved_region, moved_load, moved_plan, moved_thing, PlanMoves}

-- ---- things

pub gap_moves : (origin multiple at by : ℕ) → gap (origin + by) multiple (at + by) ≡ gap origin multiple at
gap_moves origin multiple at by = let e : at + by - (origin + by) ≡ at - origin = omega arith in ap (λ n. (multiple - n % multiple) % multiple) e

start_moves : (origin at by : ℕ) (t : Thing) → start_of (origin + by) (at + by) t ≡ start_of origin at t + by
start_moves origin at by t = ap (λ n. at + by + n) (gap_moves origin (alignment_of t) at by) ∙ omega arith

pub next_moves : (origin at by : ℕ) (t : Thing) → start_of (origin + by) (at + by) t + size_of t ≡ start_of origin at t + size_of t + by
next_moves origin at by t = ap (λ n. n + size_of t) (start_moves origin at by t) ∙ omega arith

pub extent_moves : (origin at by : ℕ) (ts : List Thing) → extent (origin + by) (at + by) ts ≡ extent origin at ts
extent_moves origin at by [] = refl
extent_moves origin at by (t ∷ ts) =
    let rest = ap (λ n. extent (origin + by) n ts) (next_moves origin at by t) ∙ extent_moves origin (start_of origin at t + size_of t) by ts in
    ap (λ n. n + size_of t + extent (origin + by) (start_of (origin + by) (at + by) t + size_of t) ts) (gap_moves origin (alignment_of t) at by)
    ∙ ap (λ n. gap origin (alignment_of t) at + size_of t + n) rest

pub stood_moves : (origin at by : ℕ) (ts : List Thing) → stood (origin + by) (at + by) ts ≡ map (moved_thing by) (stood origin at ts)
stood_moves origin at by [] = refl
stood_moves origin at by (t ∷ ts) =
    let rest = ap (λ n. stood (origin + by) n ts) (next_moves origin at by t) ∙ stood_moves origin (start_of origin at t + size_of t) by ts in
    ap (λ (n : ℕ). (record { thing = t; address = n }) ∷ stood (origin + by) (start_of (origin + by) (at + by) t + size_of t) ts) (start_moves origin at by t)
    ∙ ap (λ (xs : List Stood). (record { thing = t; address = start_of origin at t + by }) ∷ xs) rest

-- ---- regions

pub length_moves : (by : ℕ) (r : Planned) → length_of (moved_region by r) ≡ length_of r
length_moves by r = extent_moves r.origin r.base by r.things

zero_base_moves : (by : ℕ) (r : Planned) → zero_base_of (moved_region by r) ≡ zero_base_of r + by
zero_base_moves by r = ap (λ n. r.base + by + n) (length_moves by r) ∙ omega arith

pub zero_length_moves : (by : ℕ) (r : Planned) → zero_length_of (moved_region by r) ≡ zero_length_of r
zero_length_moves by r = ap (λ n. extent (r.origin + by) n r.zeros) (zero_base_moves by r) ∙ extent_moves r.origin (zero_base_of r) by r.zeros

end_moves : (by : ℕ) (r : Planned) → end_of (moved_region by r) ≡ end_of r + by
end_moves by r =
    ap (λ n. r.base + by + (n + zero_length_of (moved_region by r))) (length_moves by r)
    ∙ ap (λ n. r.base + by + (length_of r + n)) (zero_length_moves by r) ∙ omega arith

pub things_move : (by : ℕ) (r : Planned) → stood_in (moved_region by r) ≡ map (moved_thing by) (stood_in r)
things_move by r =
    let loaded = stood_moves r.origin r.base by r.things in
    let cleared = ap (λ n. stood (r.origin + by) n r.zeros) (zero_base_moves by r) ∙ stood_moves r.origin (zero_base_of r) by r.zeros in
    ap (λ (xs : List Stood). xs ++ stood (r.origin + by) (zero_base_of (moved_region by r)) r.zeros) loaded
    ∙ ap (λ (xs : List Stood). map (moved_thing by) (stood r.origin r.base r.things) ++ xs) cleared
    ∙ sym (map-append (moved_thing by) (stood r.origin r.base r.things) (stood r.origin (zero_base_of r) r.zeros))

-- ---- the plan

-- its three regions
module _ (base by : ℕ) (c : Contents) where
  abbrev ro : ℕ → Planned
  ro b = planned (kind.Aif b true) c 0 0 (class_region (codes "RO") (At b) choice.Ro) b b

  abbrev rw_ : ℕ → ℕ → ℕ → Planned
  rw_ b before load = planned (kind.Aif b true) c 0 1 (class_region (codes "RW") (Plus 0) choice.Rw) before load

  abbrev zi : ℕ → ℕ → ℕ → Planned
  zi b before load = planned (kind.Aif b true) c 0 2 (class_region (codes "ZI") (Plus 0) choice.Zi) before load

  -- a region behind another
  abbrev behind : Planned → ℕ
  behind r = r.load + length_of r

  abbrev second : ℕ → Planned
  second b = rw_ b (end_of (ro b)) (behind (ro b))

  abbrev third : ℕ → Planned
  third b = zi b (end_of (second b)) (behind (second b))

  behind_moves : (r : Planned) → behind (moved_region by r) ≡ behind r + by
  behind_moves r = ap (λ n. r.load + by + n) (length_moves by r) ∙ omega arith

  ro_moves : ro (base + by) ≡ moved_region by (ro base)
  ro_moves = refl

  rw_moves : second (base + by) ≡ moved_region by (second base)
  rw_moves =
      let load = behind_moves (ro base) in
      let end : end_of (ro (base + by)) + 0 ≡ end_of (ro base) + 0 + by = ap (λ n. n + 0) (end_moves by (ro base)) ∙ omega arith in
      ap (λ (n : ℕ). record (second base) { origin = base + by; load = n; base = end_of (ro (base + by)) + 0 }) load
      ∙ ap (λ (n : ℕ). record (second base) { origin = base + by; load = behind (ro base) + by; base = n }) end

  zi_moves : third (base + by) ≡ moved_region by (third base)
  zi_moves =
      let load : behind (second (base + by)) ≡ behind (second base) + by = ap behind rw_moves ∙ behind_moves (second base) in
      let end : end_of (second (base + by)) + 0 ≡ end_of (second base) + 0 + by = ap (λ r. end_of r + 0) rw_moves ∙ ap (λ n. n + 0) (end_moves by (second base)) ∙ omega arith in
      ap (λ (n : ℕ). record (third base) { origin = base + by; load = n; base = end_of (second (base + by)) + 0 }) load
      ∙ ap (λ (n : ℕ). record (third base) { origin = base + by; load = behind (second base) + by; base = n }) end

  plan_moves : aif_plan (base + by) true c ≡ moved_plan by (aif_plan base true c)
  plan_moves =
      ap (λ (r : Planned). (record { name = []; maximum = None; base = base + by; regions = ro (base + by) ∷ r ∷ third (base + by) ∷ [] }) ∷ []) rw_moves
      ∙ ap (λ (r : Planned). (record { name = []; maximum = None; base = base + by; regions = ro (base + by) ∷ moved_region by (second base) ∷ r ∷ [] }) ∷ []) zi_moves

pub plan_law : PlanMoves
plan_law = record { plan = plan_moves; things = things_move; lengths = λ by r. (length_moves by r, zero_length_moves by r) }

-- ---- lists of what is moved

pub flat_moves : {X Y V W : Type 0} (h : Y → List W) (u : X → Y) (w : V → W) (g : X → List V) → ((x : X) → h (u x) ≡ map w (g x))
    → (xs : List X) → flat_map h (map u xs) ≡ map w (flat_map g xs)
flat_moves h u w g same [] = refl
flat_moves {X} {Y} {V} {W} h u w g same (x ∷ xs) =
    ap (λ (ys : List W). ys ++ flat_map h (map u xs)) (same x) ∙ ap (λ (ys : List W). map w (g x) ++ ys) (flat_moves h u w g same xs)
    ∙ sym (map-append w (g x) (flat_map g xs))

pub regions_move : (by : ℕ) (p : Plan) → regions_of (moved_plan by p) ≡ map (moved_region by) (regions_of p)
regions_move by p = flat_moves (λ l. l.regions) (moved_load by) (moved_region by) (λ l. l.regions) (λ l. refl) p
