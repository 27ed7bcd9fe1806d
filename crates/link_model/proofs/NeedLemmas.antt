-- The veneers that a link needs: each that is needed once, and no others.
use Rattle.std.proofs.Common.{◌≡◌, ℕ, zero, suc, ◌+◌, Bool, true, false, cond, true≢false, List, [], ◌∷◌, ◌++◌, Option, Some, None, refl, sym, ap, ◌∙◌, subst, inl, inr, arith}
use Rattle.std.specs.Prelude.{◌⊎◌, ◌&&◌, ◌==◌, not, slice_get}
use Rattle.std.specs.List.{flat_map, filter_map, list_any, cons_option}
use Rattle.std.proofs.lemmas.Bool.{eqb-true, eq-eqb}
use Rattle.aof_object.specs.declared.records.Area.{Area}
use Rattle.aof_object.specs.declared.records.Reloc.{Reloc}
use Rattle.patch_model.specs.Fields.{Kind, Byte, Half, Word, Branch, field_of, kind_of, directives}
use Rattle.patch_model.specs.Patched.{Way, Directly, ByVeneer, other_state, way_of}
use Rattle.link_model.specs.declared.placing.AreaName.{AreaName}
use Rattle.link_model.specs.declared.placing.Veneer.{Veneer}
use Rattle.link_model.specs.Members.{Link}
use Rattle.link_model.specs.RegionValues.{area_of}
use Rattle.link_model.specs.Veneers.{is_alone, has_branch, veneer_by, values_apart, needed_as, needed_by, needed_in, needed_from, needed_by_header, is_same, first_needs, veneers_of, IsIn, IsNeeded, VeneersLaw}
use Rattle.base_lemmas.proofs.BaseLemmas.{or_either, or_true, true_or, both_true}

-- ---- items of lists

in_front : {A : Type 0} (xs ys : List A) (x : A) → IsIn xs x → IsIn (xs ++ ys) x
in_front [] ys x (k, e) = absurd (cc)
in_front (z ∷ zs) ys x (zero, e) = (zero, e)
in_front (z ∷ zs) ys x (suc k, e) = let r = in_front zs ys x (k, e) in (suc r.0, r.1)

in_back : {A : Type 0} (xs ys : List A) (x : A) → IsIn ys x → IsIn (xs ++ ys) x
in_back [] ys x h = h
in_back (z ∷ zs) ys x h = let r = in_back zs ys x h in (suc r.0, r.1)

in_either : {A : Type 0} (xs ys : List A) (x : A) → IsIn (xs ++ ys) x → IsIn xs x ⊎ IsIn ys x
in_either [] ys x h = inr h
in_either (z ∷ zs) ys x (zero, e) = inl (zero, e)
in_either (z ∷ zs) ys x (suc k, e) = by (in_either zs ys x (k, e))
  where
    by : IsIn zs x ⊎ IsIn ys x → IsIn (z ∷ zs) x ⊎ IsIn ys x
    by (inl h) = inl (suc h.0, h.1)
    by (inr h) = inr h

to_flat : {A B : Type 0} (f : A → List B) (xs : List A) (x : A) (y : B) → IsIn xs x → IsIn (f x) y → IsIn (flat_map f xs) y
to_flat f [] x y (k, e) h = absurd (cc)
to_flat f (z ∷ zs) x y (zero, e) h =
    let same : z ≡ x = cc in in_front (f z) (flat_map f zs) y (subst (λ (w : _). IsIn (f w) y) (sym same) h)
to_flat f (z ∷ zs) x y (suc k, e) h = in_back (f z) (flat_map f zs) y (to_flat f zs x y (k, e) h)

from_flat : {A B : Type 0} (f : A → List B) (xs : List A) (y : B) → IsIn (flat_map f xs) y → (x : A) × IsIn xs x × IsIn (f x) y
from_flat f [] y (k, e) = absurd (cc)
from_flat f (z ∷ zs) y h = by (in_either (f z) (flat_map f zs) y h) (λ e. from_flat f zs y e)
  where
    by : IsIn (f z) y ⊎ IsIn (flat_map f zs) y → (IsIn (flat_map f zs) y → (x : _) × IsIn zs x × IsIn (f x) y) → (x : _) × IsIn (z ∷ zs) x × IsIn (f x) y
    by (inl e) rest = (z, (0, refl), e)
    by (inr e) rest = let r = rest e in (r.0, (suc r.1.0, r.1.1), r.2)

to_given : {A B : Type 0} (f : A → Option B) (xs : List A) (x : A) (y : B) → IsIn xs x → f x ≡ Some y → IsIn (filter_map f xs) y
to_given f [] x y (k, e) h = absurd (cc)
to_given f (z ∷ zs) x y (zero, e) h =
    let same : z ≡ x = cc in subst (λ (o : Option _). IsIn (cons_option o (filter_map f zs)) y) (sym (ap f same ∙ h)) (0, refl)
to_given f (z ∷ zs) x y (suc k, e) h = by (f z) (to_given f zs x y (k, e) h)
  where
    by : (o : Option _) → IsIn (filter_map f zs) y → IsIn (cons_option o (filter_map f zs)) y
    by None r = r
    by (Some w) r = (suc r.0, r.1)

from_given : {A B : Type 0} (f : A → Option B) (xs : List A) (y : B) → IsIn (filter_map f xs) y → (x : A) × IsIn xs x × (f x ≡ Some y)
from_given f [] y (k, e) = absurd (cc)
from_given f (z ∷ zs) y h = by (f z) refl h (λ e. from_given f zs y e)
  where
    later : ((x : _) × IsIn zs x × (f x ≡ Some y)) → (x : _) × IsIn (z ∷ zs) x × (f x ≡ Some y)
    later g = (g.0, (suc g.1.0, g.1.1), g.2)

    by : (o : Option _) → f z ≡ o → IsIn (cons_option o (filter_map f zs)) y → (IsIn (filter_map f zs) y → (x : _) × IsIn zs x × (f x ≡ Some y)) → (x : _) × IsIn (z ∷ zs) x × (f x ≡ Some y)
    by None e r rest = later (rest r)
    by (Some w) e (zero, r) rest = let same : w ≡ y = cc in (z, (0, refl), e ∙ ap Some same)
    by (Some w) e (suc k, r) rest = later (rest (k, r))

-- ---- each once

same_veneer : (v w : Veneer) → is_same v w ≡ true → v ≡ w
same_veneer v w h =
    let a = both_true (v.region == w.region) _ h in
    let b = both_true (v.area.object == w.area.object) _ a.1 in
    let c = both_true (v.area.area == w.area.area) _ b.1 in
    let d = both_true (v.offset == w.offset) _ c.1 in
    λ i. record {
      region = eqb-true v.region w.region a.0 i;
      area = record { object = eqb-true v.area.object w.area.object b.0 i; area = eqb-true v.area.area w.area.area c.0 i };
      offset = eqb-true v.offset w.offset d.0 i;
      thumb = state v.thumb w.thumb d.1 i;
    }
  where
    state : (a b : Bool) → not (other_state a b) ≡ true → a ≡ b
    state true true h = refl
    state false false h = refl
    state true false h = absurd (true≢false (sym h))
    state false true h = absurd (true≢false (sym h))

itself : (v : Veneer) → is_same v v ≡ true
itself v = rw (eq-eqb v.region v.region refl, eq-eqb v.area.object v.area.object refl, eq-eqb v.area.area v.area.area refl, eq-eqb v.offset v.offset refl) (state v.thumb)
  where
    state : (a : Bool) → not (other_state a a) ≡ true
    state true = refl
    state false = refl

seen_before : (v : Veneer) (seen : List Veneer) → list_any (is_same v) seen ≡ true → IsIn seen v
seen_before v [] h = absurd (true≢false (sym h))
seen_before v (w ∷ ws) h = by (or_either (is_same v w) (list_any (is_same v) ws) h) (λ e. seen_before v ws e)
  where
    by : (is_same v w ≡ true) ⊎ (list_any (is_same v) ws ≡ true) → (list_any (is_same v) ws ≡ true → IsIn ws v) → IsIn (w ∷ ws) v
    by (inl e) rest = (0, ap Some (sym (same_veneer v w e)))
    by (inr e) rest = let r = rest e in (suc r.0, r.1)

was_seen : (v : Veneer) (seen : List Veneer) → IsIn seen v → list_any (is_same v) seen ≡ true
was_seen v [] (k, e) = absurd (cc)
was_seen v (w ∷ ws) (zero, e) = let same : w ≡ v = cc in true_or (is_same v w) (list_any (is_same v) ws) (ap (is_same v) same ∙ itself v)
was_seen v (w ∷ ws) (suc k, e) = or_true (is_same v w) (list_any (is_same v) ws) (was_seen v ws (k, e))

-- an item is the one before, or behind it
either_place : {A : Type 0} (x y : A) (xs : List A) → IsIn (x ∷ xs) y → (x ≡ y) ⊎ IsIn xs y
either_place x y xs (zero, e) = let same : x ≡ y = cc in inl same
either_place x y xs (suc k, e) = inr (k, e)

all_needs : (seen vs : List Veneer) (v : Veneer) → IsIn vs v → IsIn seen v ⊎ IsIn (first_needs seen vs) v
all_needs seen [] v (k, e) = absurd (cc)
all_needs seen (w ∷ ws) v h = by (list_any (is_same w) seen) refl (either_place w v ws h) (λ before e. all_needs before ws v e)
  where
    more : IsIn (w ∷ seen) v ⊎ IsIn (first_needs (w ∷ seen) ws) v → IsIn seen v ⊎ IsIn (w ∷ first_needs (w ∷ seen) ws) v
    more (inr r) = inr (suc r.0, r.1)
    more (inl (zero, e)) = inr (0, e)
    more (inl (suc k, e)) = inl (k, e)

    by : (t : Bool) → list_any (is_same w) seen ≡ t → (w ≡ v) ⊎ IsIn ws v → ((before : List Veneer) → IsIn ws v → IsIn before v ⊎ IsIn (first_needs before ws) v)
        → IsIn seen v ⊎ IsIn (cond t (first_needs seen ws) (w ∷ first_needs (w ∷ seen) ws)) v
    by true e (inl same) rest = inl (subst (λ (u : Veneer). IsIn seen u) same (seen_before w seen e))
    by true e (inr r) rest = rest seen r
    by false e (inl same) rest = inr (0, ap Some same)
    by false e (inr r) rest = more (rest (w ∷ seen) r)

only_needs : (seen vs : List Veneer) (v : Veneer) → IsIn (first_needs seen vs) v → IsIn vs v × (IsIn seen v → ⊥)
only_needs seen [] v (k, e) = absurd (cc)
only_needs seen (w ∷ ws) v h = by (list_any (is_same w) seen) refl h (λ before e. only_needs before ws v e)
  where
    later : IsIn ws v × (IsIn seen v → ⊥) → IsIn (w ∷ ws) v × (IsIn seen v → ⊥)
    later r = ((suc r.0.0, r.0.1), r.1)

    here : list_any (is_same w) seen ≡ false → w ≡ v → IsIn seen v → ⊥
    here e same s = true≢false (sym (was_seen w seen (subst (λ (u : Veneer). IsIn seen u) (sym same) s)) ∙ e)

    behind : list_any (is_same w) seen ≡ false → (w ≡ v) ⊎ IsIn (first_needs (w ∷ seen) ws) v → (IsIn (first_needs (w ∷ seen) ws) v → IsIn ws v × (IsIn (w ∷ seen) v → ⊥))
        → IsIn (w ∷ ws) v × (IsIn seen v → ⊥)
    behind e (inl same) rest = ((0, ap Some same), here e same)
    behind e (inr r) rest = let g = rest r in ((suc g.0.0, g.0.1), λ s. g.1 (suc s.0, s.1))

    by : (t : Bool) → list_any (is_same w) seen ≡ t → IsIn (cond t (first_needs seen ws) (w ∷ first_needs (w ∷ seen) ws)) v
        → ((before : List Veneer) → IsIn (first_needs before ws) v → IsIn ws v × (IsIn before v → ⊥)) → IsIn (w ∷ ws) v × (IsIn seen v → ⊥)
    by true e r rest = later (rest seen r)
    by false e r rest = behind e (either_place w v (first_needs (w ∷ seen) ws) r) (rest (w ∷ seen))

once : (seen vs : List Veneer) (i j : ℕ) (v : Veneer) → slice_get (first_needs seen vs) i ≡ Some v → slice_get (first_needs seen vs) j ≡ Some v → i ≡ j
once seen [] i j v a b = absurd (cc)
once seen (w ∷ ws) i j v a b = by (list_any (is_same w) seen) (λ before m n c d. once before ws m n v c d) a b
  where
    both_there : ((m n : ℕ) → slice_get (first_needs (w ∷ seen) ws) m ≡ Some v → slice_get (first_needs (w ∷ seen) ws) n ≡ Some v → m ≡ n)
        → (m n : ℕ) → slice_get (w ∷ first_needs (w ∷ seen) ws) m ≡ Some v → slice_get (w ∷ first_needs (w ∷ seen) ws) n ≡ Some v → m ≡ n
    both_there rest zero zero a b = refl
    both_there rest zero (suc n) a b = absurd ((only_needs (w ∷ seen) ws v (n, b)).1 (0, a))
    both_there rest (suc m) zero a b = absurd ((only_needs (w ∷ seen) ws v (m, a)).1 (0, b))
    both_there rest (suc m) (suc n) a b = ap suc (rest m n a b)

    by : (t : Bool) → ((before : List Veneer) (m n : ℕ) → slice_get (first_needs before ws) m ≡ Some v → slice_get (first_needs before ws) n ≡ Some v → m ≡ n)
        → slice_get (cond t (first_needs seen ws) (w ∷ first_needs (w ∷ seen) ws)) i ≡ Some v
        → slice_get (cond t (first_needs seen ws) (w ∷ first_needs (w ∷ seen) ws)) j ≡ Some v → i ≡ j
    by true rest a b = rest seen i j a b
    by false rest a b = both_there (rest (w ∷ seen)) i j a b

-- ---- what branches need

way_region : (region : ℕ) (w : Way) (v : Veneer) → veneer_by region w ≡ Some v → v.region ≡ region
way_region region Directly v h = absurd (cc)
way_region region (ByVeneer h thumb) v e =
    let same : record { region = region; area = record { object = h.object; area = h.area }; offset = h.offset; thumb = thumb } ≡ v = cc in
    sym (ap (λ (u : Veneer). u.region) same)

own_region : (kind : Kind) (l : Link) (region object : ℕ) (area : Area) (r : Reloc) (v : Veneer) → needed_as kind l region object area r ≡ Some v → v.region ≡ region
own_region Byte l region object area r v h = absurd (cc)
own_region Half l region object area r v h = absurd (cc)
own_region Word l region object area r v h = absurd (cc)
own_region (Branch thumb) l region object area r v h = by (is_alone area.relocs r && has_branch thumb area.bytes (field_of r)) h
  where
    by : (b : Bool) → cond b (veneer_by region (way_of 0 (values_apart l object) area.bytes (field_of r) thumb (directives area.relocs (field_of r)))) None ≡ Some v → v.region ≡ region
    by true e = way_region region _ v e
    by false e = absurd (cc)

to_needed : (l : Link) (region : ℕ) (name : AreaName) (o : Option Area) (area : Area) (r : Reloc) (v : Veneer)
    → o ≡ Some area → IsIn area.relocs r → needed_by l region name area r ≡ Some v → IsIn (needed_in l region name o) v
to_needed l region name None area r v e i h = absurd (cc)
to_needed l region name (Some a) area r v e i h =
    let same : a ≡ area = cc in
    subst (λ (b : Area). IsIn (filter_map (needed_by l region name b) b.relocs) v) (sym same) (to_given (needed_by l region name area) area.relocs r v i h)

-- a branch of an area of these regions, which are counted from k on
record NeedsFrom (l : Link) (k : ℕ) (regions : List (List AreaName)) (v : Veneer) : Type 0 where
  n : ℕ
  areas : List AreaName
  name : AreaName
  area : Area
  reloc : Reloc
  counts : v.region ≡ k + n
  region : slice_get regions n ≡ Some areas
  assigned : IsIn areas name
  there : area_of l.objects name ≡ Some area
  relocates : IsIn area.relocs reloc
  needs : needed_by l (k + n) name area reloc ≡ Some v

from_regions : (l : Link) (k : ℕ) (regions : List (List AreaName)) (v : Veneer) → IsIn (needed_from l k regions) v → NeedsFrom l k regions v
from_regions l k [] v (i, e) = absurd (cc)
from_regions l k (areas ∷ rest) v h = by (in_either (flat_map (λ a. needed_in l k a (area_of l.objects a)) areas) (needed_from l (suc k) rest) v h) (λ e. from_regions l (suc k) rest v e)
  where
    here : (name : AreaName) → IsIn areas name → (o : Option Area) → area_of l.objects name ≡ o → IsIn (needed_in l k name o) v → NeedsFrom l k (areas ∷ rest) v
    here name i None e (n, h) = absurd (cc)
    here name i (Some area) e h =
        let r = from_given (needed_by l k name area) area.relocs v h in
        let same : k ≡ k + 0 = omega arith in
        record {
          n = 0;
          areas = areas;
          name = name;
          area = area;
          reloc = r.0;
          counts = own_region (kind_of r.0) l k name.object area r.0 v r.2 ∙ same;
          region = refl;
          assigned = i;
          there = e;
          relocates = r.1;
          needs = subst (λ (m : ℕ). needed_by l m name area r.0 ≡ Some v) same r.2;
        }

    by : IsIn (flat_map (λ a. needed_in l k a (area_of l.objects a)) areas) v ⊎ IsIn (needed_from l (suc k) rest) v → (IsIn (needed_from l (suc k) rest) v → NeedsFrom l (suc k) rest v)
        → NeedsFrom l k (areas ∷ rest) v
    by (inl e) later = let a = from_flat (λ a. needed_in l k a (area_of l.objects a)) areas v e in here a.0 a.1 (area_of l.objects a.0) refl a.2
    by (inr e) later =
        let f = later e in
        let same : suc k + f.n ≡ k + suc f.n = omega arith in
        record {
          n = suc f.n;
          areas = f.areas;
          name = f.name;
          area = f.area;
          reloc = f.reloc;
          counts = f.counts ∙ same;
          region = f.region;
          assigned = f.assigned;
          there = f.there;
          relocates = f.relocates;
          needs = subst (λ (m : ℕ). needed_by l m f.name f.area f.reloc ≡ Some v) same f.needs;
        }

to_regions : (l : Link) (k : ℕ) (regions : List (List AreaName)) (v : Veneer) → NeedsFrom l k regions v → IsIn (needed_from l k regions) v
to_regions l k regions v f = go regions k f.n f.region f.needs
  where
    go : (regions : List (List AreaName)) (k n : ℕ) → slice_get regions n ≡ Some f.areas → needed_by l (k + n) f.name f.area f.reloc ≡ Some v → IsIn (needed_from l k regions) v
    go [] k n e h = absurd (cc)
    go (areas ∷ rest) k zero e h =
        let same : f.areas ≡ areas = cc in
        let own : k + 0 ≡ k = omega arith in
        let Needs : ℕ → Type 0 = λ m. needed_by l m f.name f.area f.reloc ≡ Some v in
        in_front (flat_map (λ a. needed_in l k a (area_of l.objects a)) areas) (needed_from l (suc k) rest) v
        (to_flat (λ a. needed_in l k a (area_of l.objects a)) areas f.name v (subst (λ (names : List AreaName). IsIn names f.name) same f.assigned)
        (to_needed l k f.name (area_of l.objects f.name) f.area f.reloc v f.there f.relocates (subst Needs own h)))
    go (areas ∷ rest) k (suc n) e h =
        let next : k + suc n ≡ suc k + n = omega arith in
        let Needs : ℕ → Type 0 = λ m. needed_by l m f.name f.area f.reloc ≡ Some v in
        in_back (flat_map (λ a. needed_in l k a (area_of l.objects a)) areas) (needed_from l (suc k) rest) v (go rest (suc k) n e (subst Needs next h))

pub veneers_law : VeneersLaw
veneers_law l regions header = record {
  each = λ v h. found (all_needs [] all v (to_all v h));
  only = λ v h. from_all v (in_either (needed_by_header header l.entry) (needed_from l 0 regions) v (only_needs [] all v h).0);
  once = λ i j v a b. once [] all i j v a b;
}
  where
    all : List Veneer
    all = needed_by_header header l.entry ++ needed_from l 0 regions

    found : {v : Veneer} → IsIn [] v ⊎ IsIn (first_needs [] (needed_by_header header l.entry ++ needed_from l 0 regions)) v → IsIn (veneers_of l regions header) v
    found (inl (k, e)) = absurd (cc)
    found (inr h) = h

    to_all : (v : Veneer) → IsNeeded l regions header v → IsIn (needed_by_header header l.entry ++ needed_from l 0 regions) v
    to_all v (inl h) = in_front (needed_by_header header l.entry) (needed_from l 0 regions) v h
    to_all v (inr b) =
        in_back (needed_by_header header l.entry) (needed_from l 0 regions) v
        (to_regions l 0 regions v (record {
          n = v.region;
          areas = b.areas;
          name = b.name;
          area = b.area;
          reloc = b.reloc;
          counts = omega arith;
          region = b.region;
          assigned = b.assigned;
          there = b.there;
          relocates = b.relocates;
          needs = subst (λ (m : ℕ). needed_by l m b.name b.area b.reloc ≡ Some v) (omega arith) b.needs;
        }))

    from_all : (v : Veneer) → IsIn (needed_by_header header l.entry) v ⊎ IsIn (needed_from l 0 regions) v → IsNeeded l regions header v
    from_all v (inl h) = inl h
    from_all v (inr h) =
        let f = from_regions l 0 regions v h in
        let counts = f.counts in
        let own : f.n ≡ v.region = omega arith in
        inr (record {
          areas = f.areas;
          name = f.name;
          area = f.area;
          reloc = f.reloc;
          region = subst (λ (m : ℕ). slice_get regions m ≡ Some f.areas) own f.region;
          assigned = f.assigned;
          there = f.there;
          relocates = f.relocates;
          needs = subst (λ (m : ℕ). needed_by l m f.name f.area f.reloc ≡ Some v) (sym f.counts) f.needs;
        })
