-- Images without a scatter description: all regions run where they are loaded, and the first two have no zero part.
use Rattle.std.proofs.Common.{◌≡◌, ◌⊎◌, inl, inr, ℕ, zero, suc, ◌+◌, ◌<◌, ◌≤◌, Bool, true, false, cond, not, ◌&&◌, ◌==◌, if◌then◌else◌, List, [], ◌∷◌, length, map, refl, sym, ap, subst, ◌∙◌, arith, eq-eqb, eqb-true, Option, Some, None}
use Rattle.std.specs.Prelude.{codes, slice_get, is_some, unwrap_or}
use Rattle.std.specs.List.{filter, filter_map, list_any, AllByRecursion}
use Rattle.std.proofs.lemmas.List.Sums.{sum_by-cons}
use Rattle.base_lemmas.proofs.BaseLemmas.{both_true, neither, same}
use Rattle.boot_code.specs.declared.rows.CopyRow.{CopyRow}
use Rattle.boot_code.specs.Boots.{covers, moved, zeroed}
use Rattle.boot_code.proofs.ViewLemmas.{covers-false, covers-off}
use Rattle.boot_code.specs.Maps.{Segment, map_of}
use Rattle.place_model.specs.declared.scatter.Choice.TheVariants as choice
use Rattle.place_model.specs.declared.scatter.ScatterBase.TheVariants.{At, Plus}
use Rattle.place_model.specs.declared.scatter.Kind.{Kind}
use Rattle.place_model.specs.declared.scatter.Kind.TheVariants as kind
use Rattle.place_model.specs.Assignment.{class_region, plain_regions, plain_load, Offer, offers_from, matches, best, Found, Nowhere, Within, Unclear, found, Kept, may_precede, put_in, in_order, kept_by, areas_of, lists_from}
use Rattle.place_model.specs.Items.{Item, is_zero_initialised, is_read_only}
use Rattle.place_model.specs.Laws.{OfFound}
use Rattle.place_model.specs.Things.{AnArea, extent}
use Rattle.place_model.specs.Plans.{Contents, areas_in, Planned, length_of, zero_base_of, zero_length_of, execution_size, end_of, planned, load_size, Plan, loads_from, regions_of, is_root, is_copied, is_cleared, zero_row, copies_of, parts_of, plan_of}
use Rattle.place_model.proofs.AssignmentLemmas.{assignment_law}
use Rattle.place_model.proofs.ListLemmas.{all_filter_map, all_map}
use Rattle.image_model.specs.Views.{is_executed}
use Rattle.image_laws.specs.Laws.{PlainLaw}
use Rattle.image_laws.proofs.FileLemmas.{moved_view}
use Rattle.image_laws.proofs.RowLemmas.{zeroed-beside}

-- ---- what the first two regions take

put_all : (P : Kept → Type 0) (k : Kept) (ls : List Kept) → P k → AllByRecursion P ls → AllByRecursion P (put_in k ls)
put_all P k [] h all = (h, tt)
put_all P k (l ∷ ls) h all = go (may_precede k l) (put_all P k ls h all.1)
  where
    go : (b : Bool) → AllByRecursion P (put_in k ls) → AllByRecursion P (if b then k ∷ l ∷ ls else l ∷ put_in k ls)
    go true rest = (h, all)
    go false rest = (all.0, rest)

order_all : (P : Kept → Type 0) (ks : List Kept) → AllByRecursion P ks → AllByRecursion P (in_order ks)
order_all P [] all = tt
order_all P (k ∷ ks) all = put_all P k (in_order ks) all.0 (order_all P ks all.1)

abbrev pub class_offers : ℕ → List Offer
class_offers base = offers_from 0 (plain_regions base)

-- the third region takes zero-initialised areas, and the others those that aren't
abbrev IsClass : ℕ → Item → Type 0
IsClass n i = is_zero_initialised i ≡ (n == 2)

not_true : (b : Bool) → not b ≡ true → b ≡ false
not_true true e = absurd cc
not_true false e = refl

region_class : (base n place : ℕ) (i : Item) (o : Offer) → slice_get (class_offers base) place ≡ Some o → o.region ≡ n → matches o.selection i ≡ true → IsClass n i
region_class base n zero i o at own match =
    let is : matches o.selection i ≡ (not (is_zero_initialised i) && is_read_only i) = ap (λ (z : Option Offer). matches (unwrap_or z o).selection i) (sym at) in
    let number : 0 ≡ n = ap (λ (z : Option Offer). (unwrap_or z o).region) at ∙ own in
    subst (λ (x : ℕ). IsClass x i) number (not_true (is_zero_initialised i) (both_true (not (is_zero_initialised i)) (is_read_only i) (sym is ∙ match)).0)
region_class base n (suc zero) i o at own match =
    let is : matches o.selection i ≡ (not (is_zero_initialised i) && not (is_read_only i)) = ap (λ (z : Option Offer). matches (unwrap_or z o).selection i) (sym at) in
    let number : 1 ≡ n = ap (λ (z : Option Offer). (unwrap_or z o).region) at ∙ own in
    subst (λ (x : ℕ). IsClass x i) number (not_true (is_zero_initialised i) (both_true (not (is_zero_initialised i)) (not (is_read_only i)) (sym is ∙ match)).0)
region_class base n (suc (suc zero)) i o at own match =
    let is : matches o.selection i ≡ is_zero_initialised i = ap (λ (z : Option Offer). matches (unwrap_or z o).selection i) (sym at) in
    let number : 2 ≡ n = ap (λ (z : Option Offer). (unwrap_or z o).region) at ∙ own in
    subst (λ (x : ℕ). IsClass x i) number (sym is ∙ match)
region_class base n (suc (suc (suc place))) i o at own match = absurd cc

item_class : (base n : ℕ) (i : Item) (k : Kept) → kept_by n i (found (best (class_offers base) i)) ≡ Some k → IsClass n k.item
item_class base n i k h = go (found (best (class_offers base) i)) (assignment_law (class_offers base) i) h
  where
    go : (f : Found) → OfFound (class_offers base) i f → kept_by n i f ≡ Some k → IsClass n k.item
    go Nowhere law e = absurd cc
    go (Unclear o p) law e = absurd cc
    go (Within o) law e = by_region (o.region == n) refl e
      where
        by_region : (b : Bool) → o.region == n ≡ b → (if b then Some (record { item = i; edge = o.selection.edge }) else None) ≡ Some k → IsClass n k.item
        by_region true t e =
            let item : i ≡ k.item = ap (λ (x : Kept). x.item) (same (record { item = i; edge = o.selection.edge }) k e) in
            subst (IsClass n) item (region_class base n law.place i o law.best.at (eqb-true o.region n t) law.best.matching)
        by_region false t e = absurd cc

areas_class : (base n : ℕ) (items : List Item) → AllByRecursion (IsClass n) (areas_of (class_offers base) items n)
areas_class base n items =
    let taken : List Kept = filter_map (λ i. kept_by n i (found (best (class_offers base) i))) items in
    all_map (IsClass n) (λ k. k.item) (in_order taken) (order_all (λ k. IsClass n k.item) taken (all_filter_map (λ k. IsClass n k.item) (λ i. kept_by n i (found (best (class_offers base) i))) items (λ i k e. item_class base n i k e)))

none_zero : (items : List Item) → AllByRecursion (λ i. is_zero_initialised i ≡ false) items → filter is_zero_initialised items ≡ []
none_zero [] all = refl
none_zero (i ∷ items) all = rw (all.0) (none_zero items all.1)

none_loaded : (items : List Item) → AllByRecursion (λ i. is_zero_initialised i ≡ true) items → filter (λ i. not (is_zero_initialised i)) items ≡ []
none_loaded [] all = refl
none_loaded (i ∷ items) all = rw (all.0) (none_loaded items all.1)

-- ---- the regions

module _ (k : Kind) (c : Contents) (base : ℕ) (items : List Item) (assigned : c.areas ≡ lists_from (class_offers base) items 0 3) where
  -- RO, RW and ZI
  abbrev pub class_plan : Plan
  class_plan = loads_from k c 0 0 (plain_load base ∷ [])

  abbrev pub class_regions : List Planned
  class_regions = regions_of class_plan

  in_list : (n : ℕ) (list : List Item) → slice_get (lists_from (class_offers base) items 0 3) n ≡ Some list → areas_in c n ≡ list
  in_list n list at = ap (λ (ls : List (List Item)). unwrap_or (slice_get ls n) []) assigned ∙ ap (λ (o : Option (List Item)). unwrap_or o []) at

  no_zeros : (n at : ℕ) (list : List Item) → slice_get (lists_from (class_offers base) items 0 3) n ≡ Some list → AllByRecursion (λ i. is_zero_initialised i ≡ false) list → (origin : ℕ)
      → extent origin at (map AnArea (filter is_zero_initialised (areas_in c n))) ≡ 0
  no_zeros n at list there all origin = ap (λ (is : List Item). extent origin at (map AnArea is)) (ap (filter is_zero_initialised) (in_list n list there) ∙ none_zero list all)

  -- nothing of the third region is loaded but veneers
  pub third_empty : filter (λ i. not (is_zero_initialised i)) (areas_in c 2) ≡ []
  third_empty =
      let list : List Item = areas_of (class_offers base) items 2 in
      ap (filter (λ i. not (is_zero_initialised i))) (in_list 2 list refl) ∙ none_loaded list (areas_class base 2 items)

  abbrev pub r0 : Planned
  r0 = planned k c 0 0 (class_region (codes "RO") (At base) choice.Ro) base base

  abbrev pub r1 : Planned
  r1 = planned k c 0 1 (class_region (codes "RW") (Plus 0) choice.Rw) (end_of r0) (base + length_of r0)

  abbrev pub r2 : Planned
  r2 = planned k c 0 2 (class_region (codes "ZI") (Plus 0) choice.Zi) (end_of r1) (base + length_of r0 + length_of r1)

  -- they follow each other
  pub zero_0 : zero_length_of r0 ≡ 0
  zero_0 = no_zeros 0 (zero_base_of r0) (areas_of (class_offers base) items 0) refl (areas_class base 0 items) r0.origin

  pub zero_1 : zero_length_of r1 ≡ 0
  zero_1 = no_zeros 1 (zero_base_of r1) (areas_of (class_offers base) items 1) refl (areas_class base 1 items) r1.origin

  no_copy : (r : Planned) → r.load ≡ r.base → is_copied r ≡ false
  no_copy r e = let t : is_root r ≡ true = eq-eqb r.load r.base e in rw t refl

  pub no_copies : copies_of class_plan ≡ []
  no_copies =
      let e0 = no_copy r0 refl in
      let e1 = no_copy r1 (let z = zero_0 in omega arith) in
      let e2 = no_copy r2 (let z = zero_0 in let y = zero_1 in omega arith) in
      rw e0 (rw e1 (rw e2 refl))

  -- ---- outside the regions

  file_size : load_size (record { name = []; maximum = None; base = base; regions = class_regions }) ≡ length_of r0 + (length_of r1 + length_of r2)
  file_size =
      let a = sum_by-cons length_of r0 (r1 ∷ r2 ∷ []) in
      let b = sum_by-cons length_of r1 (r2 ∷ []) in
      let d = sum_by-cons length_of r2 [] in
      omega arith

  outside : (x : ℕ) → list_any (is_executed x) class_regions ≡ false → (x < base) ⊎ (base + (length_of r0 + (length_of r1 + length_of r2)) ≤ x)
  outside x h =
      let (a, rest) = neither (is_executed x r0) (list_any (is_executed x) (r1 ∷ r2 ∷ [])) h in
      let (b, more) = neither (is_executed x r1) (list_any (is_executed x) (r2 ∷ [])) rest in
      let (d, end) = neither (is_executed x r2) (list_any (is_executed x) []) more in
      first (covers-false r0.base (execution_size r0) x a) (covers-false r1.base (execution_size r1) x b) (covers-false r2.base (execution_size r2) x d)
    where
      third : r1.base + execution_size r1 ≤ x → (x < r2.base) ⊎ (r2.base + execution_size r2 ≤ x) → (x < base) ⊎ (base + (length_of r0 + (length_of r1 + length_of r2)) ≤ x)
      third b (inl d) = absurd (omega (arith, b, d))
      third b (inr d) = let y = zero_0 in let z = zero_1 in inr (omega (arith, d, y, z))

      second : r0.base + execution_size r0 ≤ x → (x < r1.base) ⊎ (r1.base + execution_size r1 ≤ x) → (x < r2.base) ⊎ (r2.base + execution_size r2 ≤ x)
          → (x < base) ⊎ (base + (length_of r0 + (length_of r1 + length_of r2)) ≤ x)
      second a (inl b) d = absurd (omega (arith, a, b))
      second a (inr b) d = third b d

      first : (x < r0.base) ⊎ (r0.base + execution_size r0 ≤ x) → (x < r1.base) ⊎ (r1.base + execution_size r1 ≤ x) → (x < r2.base) ⊎ (r2.base + execution_size r2 ≤ x)
          → (x < base) ⊎ (base + (length_of r0 + (length_of r1 + length_of r2)) ≤ x)
      first (inl a) b d = inl a
      first (inr a) b d = second a b d

  no_file : (files : List Segment) → map (λ s. s.base) files ≡ base ∷ [] → map (λ s. length s.bytes) files ≡ (length_of r0 + (length_of r1 + length_of r2)) ∷ []
      → (x : ℕ) → list_any (is_executed x) class_regions ≡ false → map_of files x ≡ None
  no_file [] bases sizes x h = refl
  no_file (s ∷ t ∷ ss) bases sizes x h = absurd cc
  no_file (s ∷ []) bases sizes x h =
      let at : s.base ≡ base = cc in
      let size : length s.bytes ≡ length_of r0 + (length_of r1 + length_of r2) = cc in
      let off : covers s.base (length s.bytes) x ≡ false = covers-off s.base (length s.bytes) x (by_side at size (outside x h)) in
      rw off refl
    where
      by_side : s.base ≡ base → length s.bytes ≡ length_of r0 + (length_of r1 + length_of r2) → (x < base) ⊎ (base + (length_of r0 + (length_of r1 + length_of r2)) ≤ x)
          → (x < s.base) ⊎ (s.base + length s.bytes ≤ x)
      by_side at size (inl a) = inl (omega (arith, at, a))
      by_side at size (inr a) = inr (omega (arith, at, size, a))

none_cleared : (rs : List Planned) (x : ℕ) → list_any (is_executed x) rs ≡ false → list_any (λ z. covers z.base z.size x) (map zero_row (filter is_cleared rs)) ≡ false
none_cleared [] x h = refl
none_cleared (r ∷ rs) x h =
    let (here, later) = neither (is_executed x r) (list_any (is_executed x) rs) h in
    go (is_cleared r) (by_side (covers-false r.base (execution_size r) x here)) (none_cleared rs x later)
  where
    by_side : (x < r.base) ⊎ (r.base + execution_size r ≤ x) → covers (zero_base_of r) (zero_length_of r) x ≡ false
    by_side (inl a) = covers-off (zero_base_of r) (zero_length_of r) x (inl (omega (arith, a)))
    by_side (inr a) = covers-off (zero_base_of r) (zero_length_of r) x (inr (omega (arith, a)))

    go : (b : Bool) → covers (zero_base_of r) (zero_length_of r) x ≡ false → list_any (λ z. covers z.base z.size x) (map zero_row (filter is_cleared rs)) ≡ false
        → list_any (λ z. covers z.base z.size x) (map zero_row (cond b (r ∷ filter is_cleared rs) (filter is_cleared rs))) ≡ false
    go true off rest = rw off rest
    go false off rest = rest

-- ---- the law

pub plain_law : PlainLaw
plain_law base c items held view files assigned v f x = go (view x) refl
  where
    go : (o : Option ℕ) → view x ≡ o → zeroed (Some 0) (map_of files) (parts_of (plan_of (kind.Plain base) c)) x ≡ o
    go (Some b) e =
        let moves = moved_view (plan_of (kind.Plain base) c) held view files v f x b e in
        let none : copies_of (plan_of (kind.Plain base) c) ≡ [] = no_copies (kind.Plain base) c base items assigned.each in
        subst (λ (rows : List CopyRow). zeroed (Some 0) (moved (map_of files) rows) (parts_of (plan_of (kind.Plain base) c)) x ≡ Some b) none moves
    go None e =
        let off : list_any (is_executed x) (regions_of (plan_of (kind.Plain base) c)) ≡ false = sym (v.domain x) ∙ ap is_some e in
        zeroed-beside (map_of files) (parts_of (plan_of (kind.Plain base) c)) x (none_cleared (regions_of (plan_of (kind.Plain base) c)) x off)
        ∙ no_file (kind.Plain base) c base items assigned.each files f.bases (f.sizes ∙ ap (λ (n : ℕ). n ∷ []) (file_size (kind.Plain base) c base items assigned.each)) x off
