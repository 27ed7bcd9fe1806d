-- The lines so far: each state is reached by exactly the lines that its map spells so far, and some valid map goes
-- on from it.
use Rattle.std.proofs.Common.{◌≡◌, ◌∙◌, ℕ, ◌+◌, ◌%◌, ◌^◌, ◌<◌, List, [], ◌∷◌, ◌++◌, map, Bool, true, false, cond, ◌&&◌, nat_lt, nat_le, Option, Some, None, refl, ap, sym, subst, arith, lt-ltb, ltb-true, leb-true, leb-false, append_assoc, append-nil, option_map}
use Rattle.std.specs.Prelude.{bytes_eq}
use Rattle.std.specs.List.{list_any, AllByRecursion, flat_map}
use Rattle.std.specs.Option.{option_map_or}
use Rattle.std.proofs.lemmas.Bool.{and_parts}
use Rattle.std.proofs.lemmas.List.Concat.{flat_map-append}
use Rattle.std.proofs.lemmas.List.Folds.{flat_map-map}
use Rattle.bin_image.specs.declared.records.MapFile.{MapFile}
use Rattle.bin_image.specs.declared.records.MapLoad.{MapLoad}
use Rattle.bin_image.specs.declared.records.MapRegion.{MapRegion}
use Rattle.bin_image.specs.declared.reading.Stage.{Stage}
use Rattle.bin_image.specs.declared.reading.Stage.TheVariants.{Head, Loads, Regions, Entry, Bound, End, Done}
use Rattle.bin_image.specs.Fields.{◌>>=◌, lacks}
use Rattle.bin_image.specs.Maps.{header, load_line, region_line, start_line, entry_line, bound_line, end_line, ended, map_text, IsLoad, IsRegion, IsApart, AreApart, IsValid, Begins}
use Rattle.bin_image.specs.Reading.{load_in, region_in, start_in, entry_in, bound_in, State, after_head, add_load, after_load, add_region, after_region, after_start, after_entry, after_bound, after_end, next, empty_map}
use Rattle.bin_image.specs.Ranges.{meets}
use Rattle.bin_image.proofs.LineLaws.{when, equal, load_read, load_is, load_lacks, region_read, region_is, region_lacks, start_read, start_is, start_lacks, entry_read, entry_is, entry_lacks, bound_read, bound_is, bound_lacks}
use Rattle.base_lemmas.proofs.BaseLemmas.{neither as or_false, same}

-- ---- load ranges

apart_is : (k l : MapLoad) → meets k l ≡ false → IsApart k l
apart_is k l h a ka la =
    let p1 = lt-ltb 0 k.size (omega arith) in
    let p2 = lt-ltb 0 l.size (omega arith) in
    let p3 = lt-ltb k.base (l.base + l.size) (omega arith) in
    let p4 = lt-ltb l.base (k.base + k.size) (omega arith) in
    let t : meets k l ≡ true = rw (p1, p2, p3, p4) refl in
    absurd (cc)

apart_read : (k l : MapLoad) → IsApart k l → meets k l ≡ false
apart_read k l h = by_test (meets k l) refl where
  shared : nat_lt 0 k.size ≡ true → nat_lt 0 l.size ≡ true → nat_lt k.base (l.base + l.size) ≡ true → nat_lt l.base (k.base + k.size) ≡ true → (b : Bool) → nat_le k.base l.base ≡ b → ⊥
  shared p1 p2 p3 p4 true e =
      let q1 = ltb-true _ _ p1 in let q2 = ltb-true _ _ p2 in let q3 = ltb-true _ _ p3 in let q4 = ltb-true _ _ p4 in
      let o = leb-true _ _ e in
      h l.base (omega arith, omega arith) (omega arith, omega arith)
  shared p1 p2 p3 p4 false e =
      let q1 = ltb-true _ _ p1 in let q2 = ltb-true _ _ p2 in let q3 = ltb-true _ _ p3 in let q4 = ltb-true _ _ p4 in
      let o = leb-false _ _ e in
      h k.base (omega arith, omega arith) (omega arith, omega arith)

  by_test : (b : Bool) → meets k l ≡ b → b ≡ false
  by_test false e = refl
  by_test true e =
      let a = and_parts (nat_lt 0 k.size && nat_lt 0 l.size && nat_lt k.base (l.base + l.size)) (nat_lt l.base (k.base + k.size)) e in
      let b = and_parts (nat_lt 0 k.size && nat_lt 0 l.size) (nat_lt k.base (l.base + l.size)) a.0 in
      let c = and_parts (nat_lt 0 k.size) (nat_lt 0 l.size) b.0 in
      absurd (shared c.0 c.1 b.1 a.1 (nat_le k.base l.base) refl)

all_more : {X : Type 0} (P : X → Type 0) (xs : List X) (x : X) → AllByRecursion P xs → P x → AllByRecursion P (xs ++ x ∷ [])
all_more P [] x h p = (p, tt)
all_more P (y ∷ ys) x h p = (h.0, all_more P ys x h.1 p)

-- one more load range that meets none
apart_more : (ls : List MapLoad) (l : MapLoad) → AreApart ls → list_any (λ k. meets k l) ls ≡ false → AreApart (ls ++ l ∷ [])
apart_more [] l h none = (tt, tt)
apart_more (k ∷ ks) l h none =
    let parts = or_false (meets k l) (list_any (λ j. meets j l) ks) none in
    (all_more (IsApart k) ks l h.0 (apart_is k l parts.0), apart_more ks l h.1 parts.1)

at_middle : {X : Type 0} (P : X → Type 0) (xs : List X) (x : X) (ys : List X) → AllByRecursion P (xs ++ x ∷ ys) → P x
at_middle P [] x ys h = h.0
at_middle P (z ∷ zs) x ys h = at_middle P zs x ys h.1

none_meets : (before : List MapLoad) (l : MapLoad) (after : List MapLoad) → AreApart (before ++ l ∷ after) → list_any (λ k. meets k l) before ≡ false
none_meets [] l after h = refl
none_meets (k ∷ ks) l after h =
    rw (apart_read k l (at_middle (IsApart k) ks l after h.0), none_meets ks l after h.1) refl

-- ---- the lines so far

abbrev pub to_loads : MapFile → List (List ℕ)
to_loads m = header ∷ map load_line m.loads

abbrev pub to_regions : MapFile → List (List ℕ)
to_regions m = to_loads m ++ map region_line m.regions

abbrev pub to_start : MapFile → List (List ℕ)
to_start m = to_regions m ++ start_line m.start ∷ []

abbrev pub to_entry : MapFile → List (List ℕ)
to_entry m = to_start m ++ entry_line m.entry m.thumb ∷ []

abbrev pub to_bound : MapFile → List (List ℕ)
to_bound m = to_entry m ++ bound_line m.bound ∷ []

abbrev pub to_end : MapFile → List (List ℕ)
to_end m = to_bound m ++ end_line ∷ []

abbrev pub so_far : Stage → MapFile → List (List ℕ)
so_far Head m = []
so_far Loads m = to_loads m
so_far Regions m = to_regions m
so_far Entry m = to_start m
so_far Bound m = to_entry m
so_far End m = to_bound m
so_far Done m = to_end m

-- what is not yet read is empty
abbrev pub Rest : Stage → MapFile → Type 0
Rest Head m = (m.loads ≡ []) × (m.regions ≡ [])
Rest Loads m = m.regions ≡ []
Rest other m = Unit {0}

pub record Good (s : Stage) (m : MapFile) : Type 0 where
  pub valid : IsValid m
  pub rest : Rest s m

-- a line leads from one to the other
pub record Leads (before : List (List ℕ)) (line : List ℕ) (t : State) : Type 0 where
  pub good : Good t.0 t.1
  pub lines : so_far t.0 t.1 ≡ before ++ line ∷ []

map_more : {X Y : Type 0} (f : X → Y) (xs : List X) (x : X) → map f (xs ++ x ∷ []) ≡ map f xs ++ f x ∷ []
map_more f [] x = refl
map_more f (y ∷ ys) x = ap (λ zs. f y ∷ zs) (map_more f ys x)

came_mapped : {A B : Type 0} (f : A → B) (o : Option A) (y : B) → option_map f o ≡ Some y → (x : A) × (o ≡ Some x) × (f x ≡ y)
came_mapped f None y h = absurd (cc)
came_mapped f (Some x) y h = (x, refl, same (f x) y h)

head_leads : (m : MapFile) (line : List ℕ) (t : State) → Good Head m → after_head m line ≡ Some t → Leads [] line t
head_leads m line t g h =
    let w = when (bytes_eq line header) (Some (Loads, m)) t h in
    let k : State = (Loads, m) in
    let f : Leads [] line k = record {
      good = record { valid = g.valid; rest = g.rest.1 };
      lines = ap (λ ls. header ∷ map load_line ls) g.rest.0 ∙ ap (λ l. l ∷ []) (sym (equal line header w.0));
    } in
    subst (λ x. Leads [] line x) (same k t w.1) f

start_leads : (m : MapFile) (line : List ℕ) (t : State) → IsValid m → after_start m line ≡ Some t → Leads (so_far Regions m) line t
start_leads m line t v h =
    let n = came_mapped (λ a. (Entry, record m { start = a })) (start_in line) t h in
    let i = start_is line n.0 n.1 in
    let k : State = (Entry, record m { start = n.0 }) in
    let f : Leads (so_far Regions m) line k = record {
      good = record { valid = record { loads = v.loads; apart = v.apart; regions = v.regions; start_fits = i.small; start_aligned = i.aligned; entry_fits = v.entry_fits; bound_fits = v.bound_fits }; rest = tt };
      lines = ap (λ l. so_far Regions m ++ l ∷ []) (sym i.spelled);
    } in
    subst (λ x. Leads (so_far Regions m) line x) n.2 f

region_leads : (m : MapFile) (line : List ℕ) (t : State) → IsValid m → after_region m line ≡ Some t → Leads (so_far Regions m) line t
region_leads m line t v h = by_region (region_in line) refl h where
  by_region : (o : Option MapRegion) → region_in line ≡ o → option_map_or (λ r. Some (add_region m r)) o (after_start m line) ≡ Some t → Leads (so_far Regions m) line t
  by_region None e k = start_leads m line t v k
  by_region (Some r) e k =
      let i = region_is line r e in
      let f : Leads (so_far Regions m) line (add_region m r) = record {
        good = record { valid = record { loads = v.loads; apart = v.apart; regions = all_more IsRegion m.regions r v.regions i.0; start_fits = v.start_fits; start_aligned = v.start_aligned; entry_fits = v.entry_fits; bound_fits = v.bound_fits }; rest = tt };
        lines = ap (λ ls. so_far Loads m ++ ls) (map_more region_line m.regions r) ∙ sym (append_assoc (so_far Loads m) (map region_line m.regions) (region_line r ∷ [])) ∙ ap (λ l. so_far Regions m ++ l ∷ []) (sym i.1);
      } in
      subst (λ x. Leads (so_far Regions m) line x) (same (add_region m r) t k) f

-- where no region is read, the lines before them are all
no_regions : (m : MapFile) → m.regions ≡ [] → so_far Regions m ≡ so_far Loads m
no_regions m e = ap (λ rs. so_far Loads m ++ map region_line rs) e ∙ append-nil (so_far Loads m)

load_leads : (m : MapFile) (line : List ℕ) (t : State) → Good Loads m → lacks 10 line ≡ true → after_load m line ≡ Some t → Leads (so_far Loads m) line t
load_leads m line t g one h = by_load (load_in line) refl h where
  v : IsValid m
  v = g.valid

  by_any : (l : MapLoad) → load_in line ≡ Some l → (b : Bool) → list_any (λ k. meets k l) m.loads ≡ b → cond b None (Some (Loads, record m { loads = m.loads ++ l ∷ [] })) ≡ Some t → Leads (so_far Loads m) line t
  by_any l e true a k = absurd (cc)
  by_any l e false a k =
      let i = load_is line l e one in
      let s : State = (Loads, record m { loads = m.loads ++ l ∷ [] }) in
      let f : Leads (so_far Loads m) line s = record {
        good = record { valid = record { loads = all_more IsLoad m.loads l v.loads i.0; apart = apart_more m.loads l v.apart a; regions = v.regions; start_fits = v.start_fits; start_aligned = v.start_aligned; entry_fits = v.entry_fits; bound_fits = v.bound_fits }; rest = g.rest };
        lines = ap (λ ls. header ∷ ls) (map_more load_line m.loads l) ∙ ap (λ x. (header ∷ map load_line m.loads) ++ x ∷ []) (sym i.1);
      } in
      subst (λ x. Leads (so_far Loads m) line x) (same s t k) f

  by_load : (o : Option MapLoad) → load_in line ≡ o → option_map_or (add_load m) o (after_region m line) ≡ Some t → Leads (so_far Loads m) line t
  by_load None e k = subst (λ ls. Leads ls line t) (no_regions m g.rest) (region_leads m line t v k)
  by_load (Some l) e k = by_any l e (list_any (λ k. meets k l) m.loads) refl k

entry_leads : (m : MapFile) (line : List ℕ) (t : State) → IsValid m → after_entry m line ≡ Some t → Leads (so_far Entry m) line t
entry_leads m line t v h =
    let n = came_mapped (λ e. (Bound, record m { entry = e.0; thumb = e.1 })) (entry_in line) t h in
    let i = entry_is line n.0 n.1 in
    let k : State = (Bound, record m { entry = n.0.0; thumb = n.0.1 }) in
    let f : Leads (so_far Entry m) line k = record {
      good = record { valid = record { loads = v.loads; apart = v.apart; regions = v.regions; start_fits = v.start_fits; start_aligned = v.start_aligned; entry_fits = i.small; bound_fits = v.bound_fits }; rest = tt };
      lines = ap (λ l. so_far Entry m ++ l ∷ []) (sym i.spelled);
    } in
    subst (λ x. Leads (so_far Entry m) line x) n.2 f

bound_leads : (m : MapFile) (line : List ℕ) (t : State) → IsValid m → after_bound m line ≡ Some t → Leads (so_far Bound m) line t
bound_leads m line t v h =
    let n = came_mapped (λ n. (End, record m { bound = n })) (bound_in line) t h in
    let i = bound_is line n.0 n.1 in
    let k : State = (End, record m { bound = n.0 }) in
    let f : Leads (so_far Bound m) line k = record {
      good = record { valid = record { loads = v.loads; apart = v.apart; regions = v.regions; start_fits = v.start_fits; start_aligned = v.start_aligned; entry_fits = v.entry_fits; bound_fits = i.small }; rest = tt };
      lines = ap (λ l. so_far Bound m ++ l ∷ []) (sym i.spelled);
    } in
    subst (λ x. Leads (so_far Bound m) line x) n.2 f

end_leads : (m : MapFile) (line : List ℕ) (t : State) → IsValid m → after_end m line ≡ Some t → Leads (so_far End m) line t
end_leads m line t v h =
    let w = when (bytes_eq line end_line) (Some (Done, m)) t h in
    let k : State = (Done, m) in
    let f : Leads (so_far End m) line k = record {
      good = record { valid = v; rest = tt };
      lines = ap (λ l. so_far End m ++ l ∷ []) (sym (equal line end_line w.0));
    } in
    subst (λ x. Leads (so_far End m) line x) (same k t w.1) f

pub next_leads : (s : Stage) (m : MapFile) (line : List ℕ) (t : State) → Good s m → lacks 10 line ≡ true → next s m line ≡ Some t → Leads (so_far s m) line t
unfolding next
next_leads Head m line t g one h = head_leads m line t g h
next_leads Loads m line t g one h = load_leads m line t g one h
next_leads Regions m line t g one h = region_leads m line t g.valid h
next_leads Entry m line t g one h = entry_leads m line t g.valid h
next_leads Bound m line t g one h = bound_leads m line t g.valid h
next_leads End m line t g one h = end_leads m line t g.valid h
next_leads Done m line t g one h = absurd (cc)

-- ---- several lines

unfoldable pub steps : Stage → MapFile → List (List ℕ) → Option State
steps s m [] = Some (s, m)
steps s m (l ∷ ls) = next s m l >>= λ t. steps t.0 t.1 ls

-- the lines lead to the state, and it spells them
pub record Spells (before these : List (List ℕ)) (t : State) : Type 0 where
  pub good : Good t.0 t.1
  pub lines : so_far t.0 t.1 ≡ before ++ these

pub steps_spell : (lines : List (List ℕ)) (s : Stage) (m : MapFile) (t : State) → Good s m → AllByRecursion (λ l. lacks 10 l ≡ true) lines → steps s m lines ≡ Some t → Spells (so_far s m) lines t
unfolding steps
steps_spell [] s m t g ones h =
    let k : State = (s, m) in
    let f : Spells (so_far s m) [] k = record { good = g; lines = sym (append-nil (so_far s m)) } in
    subst (λ x. Spells (so_far s m) [] x) (same k t h) f
steps_spell (l ∷ ls) s m t g ones h = by_next (λ u gu k. steps_spell ls u.0 u.1 t gu ones.1 k) (next s m l) refl h where
  by_next : ((u : State) → Good u.0 u.1 → steps u.0 u.1 ls ≡ Some t → Spells (so_far u.0 u.1) ls t)
      → (o : Option State) → next s m l ≡ o → (o >>= λ u. steps u.0 u.1 ls) ≡ Some t → Spells (so_far s m) (l ∷ ls) t
  by_next more None e k = absurd (cc)
  by_next more (Some u) e k =
      let a = next_leads s m l u g ones.0 e in
      let b = more u a.good k in
      record { good = b.good; lines = b.lines ∙ ap (λ xs. xs ++ ls) a.lines ∙ append_assoc (so_far s m) (l ∷ []) ls }

pub steps_append : (xs ys : List (List ℕ)) (s : Stage) (m : MapFile) (t : State) → steps s m xs ≡ Some t → steps s m (xs ++ ys) ≡ steps t.0 t.1 ys
unfolding steps
steps_append [] ys s m t h = ap (λ u. steps u.0 u.1 ys) (same (s, m) t h)
steps_append (x ∷ xs) ys s m t h = by_next (λ u k. steps_append xs ys u.0 u.1 t k) (next s m x) h where
  by_next : ((u : State) → steps u.0 u.1 xs ≡ Some t → steps u.0 u.1 (xs ++ ys) ≡ steps t.0 t.1 ys)
      → (o : Option State) → (o >>= λ u. steps u.0 u.1 xs) ≡ Some t → (o >>= λ u. steps u.0 u.1 (xs ++ ys)) ≡ steps t.0 t.1 ys
  by_next more None k = absurd (cc)
  by_next more (Some u) k = more u k

-- ---- a valid map's lines

with_loads : List MapLoad → MapFile
with_loads ls = record empty_map { loads = ls }

with_regions : List MapLoad → List MapRegion → MapFile
with_regions ls rs = record empty_map { loads = ls; regions = rs }

loads_next : (before : List MapLoad) (l : MapLoad) (after : List MapLoad) → IsLoad l → AreApart (before ++ l ∷ after) → next Loads (with_loads before) (load_line l) ≡ Some (Loads, with_loads (before ++ l ∷ []))
unfolding next with_loads
loads_next before l after g a =
    ap (λ o. option_map_or (add_load (with_loads before)) o (after_region (with_loads before) (load_line l))) (load_read l g)
    ∙ ap (λ b. cond b None (Some (Loads, with_loads (before ++ l ∷ [])))) (none_meets before l after a)

loads_all : (ls before : List MapLoad) → AllByRecursion IsLoad ls → AreApart (before ++ ls) → steps Loads (with_loads before) (map load_line ls) ≡ Some (Loads, with_loads (before ++ ls))
unfolding steps
loads_all [] before h a = ap (λ ks. Some (Loads, with_loads ks)) (sym (append-nil before))
loads_all (l ∷ ls) before h a =
    let e = append_assoc before (l ∷ []) ls in
    ap (λ o. o >>= λ t. steps t.0 t.1 (map load_line ls)) (loads_next before l ls h.0 a)
    ∙ loads_all ls (before ++ l ∷ []) h.1 (subst AreApart (sym e) a) ∙ ap (λ ks. Some (Loads, with_loads ks)) e

-- behind the load lines, before the start
data MayStart : Stage → Type 0 where
  in_loads : MayStart Loads
  in_regions : MayStart Regions

region_next : {s : Stage} → MayStart s → (ls : List MapLoad) (rs : List MapRegion) (r : MapRegion) → IsRegion r → next s (with_regions ls rs) (region_line r) ≡ Some (Regions, with_regions ls (rs ++ r ∷ []))
unfolding next with_regions
region_next in_loads ls rs r g = ap (λ o. option_map_or (λ r. Some (add_region (with_regions ls rs) r)) o (after_start (with_regions ls rs) (region_line r))) (region_read r g)
region_next in_regions ls rs r g = ap (λ o. option_map_or (λ r. Some (add_region (with_regions ls rs) r)) o (after_start (with_regions ls rs) (region_line r))) (region_read r g)

record Behind (ls : List MapLoad) (rs : List MapRegion) (o : Option State) : Type 0 where
  stage : Stage
  may : MayStart stage
  reached : o ≡ Some (stage, with_regions ls rs)

regions_all : (rs before : List MapRegion) (s : Stage) → MayStart s → (ls : List MapLoad) → AllByRecursion IsRegion rs → Behind ls (before ++ rs) (steps s (with_regions ls before) (map region_line rs))
unfolding steps
regions_all [] before s may ls h = record { stage = s; may = may; reached = ap (λ ks. Some (s, with_regions ls ks)) (sym (append-nil before)) }
regions_all (r ∷ rs) before s may ls h =
    let e = append_assoc before (r ∷ []) rs in
    let b = regions_all rs (before ++ r ∷ []) Regions in_regions ls h.1 in
    record {
      stage = b.stage;
      may = b.may;
      reached = ap (λ o. o >>= λ t. steps t.0 t.1 (map region_line rs)) (region_next may ls before r h.0) ∙ b.reached ∙ ap (λ ks. Some (b.stage, with_regions ls ks)) e;
    }

start_next : {s : Stage} → MayStart s → (m : MapFile) (a : ℕ) → a < 2 ^ 32 → a % 4 ≡ 0 → next s m (start_line a) ≡ Some (Entry, record m { start = a })
unfolding next
start_next in_loads m a small aligned = ap (λ o. option_map (λ a. (Entry, record m { start = a })) o) (start_read a small aligned)
start_next in_regions m a small aligned = ap (λ o. option_map (λ a. (Entry, record m { start = a })) o) (start_read a small aligned)

entry_next : (m : MapFile) (a : ℕ) (thumb : Bool) → a < 2 ^ 32 → next Entry m (entry_line a thumb) ≡ Some (Bound, record m { entry = a; thumb = thumb })
unfolding next
entry_next m a thumb small = ap (λ o. option_map (λ e. (Bound, record m { entry = e.0; thumb = e.1 })) o) (entry_read a thumb small)

bound_next : (m : MapFile) (n : ℕ) → n < 2 ^ 64 → next Bound m (bound_line n) ≡ Some (End, record m { bound = n })
unfolding next
bound_next m n small = ap (λ o. option_map (λ n. (End, record m { bound = n })) o) (bound_read n small)

tail : MapFile → List (List ℕ)
tail m = start_line m.start ∷ entry_line m.entry m.thumb ∷ bound_line m.bound ∷ end_line ∷ []

tail_all : (m : MapFile) → IsValid m → {s : Stage} → MayStart s → steps s (with_regions m.loads m.regions) (tail m) ≡ Some (Done, m)
unfolding steps tail with_regions next
tail_all m v may =
    let m1 : MapFile = with_regions m.loads m.regions in
    let m2 : MapFile = record m1 { start = m.start } in
    let m3 : MapFile = record m2 { entry = m.entry; thumb = m.thumb } in
    ap (λ o. o >>= λ t. steps t.0 t.1 (entry_line m.entry m.thumb ∷ bound_line m.bound ∷ end_line ∷ [])) (start_next may m1 m.start v.start_fits v.start_aligned)
    ∙ ap (λ o. o >>= λ t. steps t.0 t.1 (bound_line m.bound ∷ end_line ∷ [])) (entry_next m2 m.entry m.thumb v.entry_fits)
    ∙ ap (λ o. o >>= λ t. steps t.0 t.1 (end_line ∷ [])) (bound_next m3 m.bound v.bound_fits)

four : (xs : List (List ℕ)) (a b c d : List ℕ) → (((xs ++ a ∷ []) ++ b ∷ []) ++ c ∷ []) ++ d ∷ [] ≡ xs ++ (a ∷ b ∷ c ∷ d ∷ [])
four [] a b c d = refl
four (x ∷ xs) a b c d = ap (λ ys. x ∷ ys) (four xs a b c d)

all_lines : (m : MapFile) → so_far Done m ≡ so_far Loads m ++ (map region_line m.regions ++ tail m)
unfolding tail
all_lines m =
    four (so_far Regions m) (start_line m.start) (entry_line m.entry m.thumb) (bound_line m.bound) end_line
    ∙ append_assoc (so_far Loads m) (map region_line m.regions) (tail m)

pub map_reached : (m : MapFile) → IsValid m → steps Head empty_map (so_far Done m) ≡ Some (Done, m)
unfolding steps next with_loads with_regions
map_reached m v =
    let l : steps Head empty_map (so_far Loads m) ≡ Some (Loads, with_loads m.loads) = loads_all m.loads [] v.loads v.apart in
    let b = regions_all m.regions [] Loads in_loads m.loads v.regions in
    ap (steps Head empty_map) (all_lines m)
    ∙ steps_append (so_far Loads m) (map region_line m.regions ++ tail m) Head empty_map (Loads, with_loads m.loads) l
    ∙ steps_append (map region_line m.regions) (tail m) Loads (with_loads m.loads) (b.stage, with_regions m.loads m.regions) b.reached
    ∙ tail_all m v b.may

-- ---- its text

text_more : (ls : List (List ℕ)) (l : List ℕ) → flat_map ended (ls ++ l ∷ []) ≡ flat_map ended ls ++ ended l
text_more ls l = flat_map-append ended ls (l ∷ []) ∙ ap (λ t. flat_map ended ls ++ t) (append-nil (ended l))

pub text_of_lines : (m : MapFile) → flat_map ended (so_far Done m) ≡ map_text m
text_of_lines m =
    let l : flat_map ended (so_far Loads m) ≡ ended header ++ flat_map (λ l. ended (load_line l)) m.loads = ap (λ t. ended header ++ t) (flat_map-map ended load_line m.loads) in
    let r : flat_map ended (so_far Regions m) ≡ (ended header ++ flat_map (λ l. ended (load_line l)) m.loads) ++ flat_map (λ r. ended (region_line r)) m.regions =
    flat_map-append ended (so_far Loads m) (map region_line m.regions) ∙ ap (λ t. t ++ flat_map ended (map region_line m.regions)) l
    ∙ ap (λ t. (ended header ++ flat_map (λ l. ended (load_line l)) m.loads) ++ t) (flat_map-map ended region_line m.regions) in
    let s = text_more (so_far Regions m) (start_line m.start) ∙ ap (λ t. t ++ ended (start_line m.start)) r in
    let e = text_more (so_far Entry m) (entry_line m.entry m.thumb) ∙ ap (λ t. t ++ ended (entry_line m.entry m.thumb)) s in
    let b = text_more (so_far Bound m) (bound_line m.bound) ∙ ap (λ t. t ++ ended (bound_line m.bound)) e in
    text_more (so_far End m) end_line ∙ ap (λ t. t ++ ended end_line) b

-- ---- no line feeds in its lines

abbrev pub Plain : List (List ℕ) → Type 0
Plain ls = AllByRecursion (λ l. lacks 10 l ≡ true) ls

plain_both : (xs ys : List (List ℕ)) → Plain xs → Plain ys → Plain (xs ++ ys)
plain_both [] ys h k = k
plain_both (x ∷ xs) ys h k = (h.0, plain_both xs ys h.1 k)

plain_map : {X : Type 0} (P : X → Type 0) (f : X → List ℕ) → ((x : X) → P x → lacks 10 (f x) ≡ true) → (xs : List X) → AllByRecursion P xs → Plain (map f xs)
plain_map P f each [] h = tt
plain_map P f each (x ∷ xs) h = (each x h.0, plain_map P f each xs h.1)

pub map_plain : (m : MapFile) → IsValid m → Plain (so_far Done m)
map_plain m v =
    let l : Plain (so_far Loads m) = (refl, plain_map IsLoad load_line load_lacks m.loads v.loads) in
    let r = plain_both (so_far Loads m) (map region_line m.regions) l (plain_map IsRegion region_line region_lacks m.regions v.regions) in
    let s = plain_both (so_far Regions m) (start_line m.start ∷ []) r (start_lacks m.start, tt) in
    let e = plain_both (so_far Entry m) (entry_line m.entry m.thumb ∷ []) s (entry_lacks m.entry m.thumb, tt) in
    let b = plain_both (so_far Bound m) (bound_line m.bound ∷ []) e (bound_lacks m.bound v.bound_fits, tt) in
    plain_both (so_far End m) (end_line ∷ []) b (refl, tt)

-- ---- some valid map goes on

-- the lines of a state begin those of its map
record Left (s : Stage) (m : MapFile) : Type 0 where
  left : List (List ℕ)
  all : so_far Done m ≡ so_far s m ++ left

further : (xs ys : List (List ℕ)) (s : Stage) (m : MapFile) → so_far s m ≡ xs ++ ys → Left s m → (left : List (List ℕ)) × (so_far Done m ≡ xs ++ left)
further xs ys s m e l = (ys ++ l.left, l.all ∙ ap (λ zs. zs ++ l.left) e ∙ append_assoc xs ys l.left)

left_of : (s : Stage) (m : MapFile) → Left s m
left_of Head m = record { left = so_far Done m; all = refl }
left_of Done m = record { left = []; all = sym (append-nil (so_far Done m)) }
left_of End m = record { left = end_line ∷ []; all = refl }
left_of Bound m = let f = further (so_far Bound m) (bound_line m.bound ∷ []) End m refl (record { left = end_line ∷ []; all = refl }) in record { left = f.0; all = f.1 }
left_of Entry m =
    let l : so_far Done m ≡ so_far Entry m ++ (entry_line m.entry m.thumb ∷ bound_line m.bound ∷ end_line ∷ []) =
    append_assoc (so_far Entry m ++ entry_line m.entry m.thumb ∷ []) (bound_line m.bound ∷ []) (end_line ∷ []) ∙ append_assoc (so_far Entry m) (entry_line m.entry m.thumb ∷ []) (bound_line m.bound ∷ end_line ∷ []) in
    record { left = entry_line m.entry m.thumb ∷ bound_line m.bound ∷ end_line ∷ []; all = l }
left_of Regions m =
    record { left = start_line m.start ∷ entry_line m.entry m.thumb ∷ bound_line m.bound ∷ end_line ∷ []; all = four (so_far Regions m) (start_line m.start) (entry_line m.entry m.thumb) (bound_line m.bound) end_line }
left_of Loads m =
    record {
      left = map region_line m.regions ++ (start_line m.start ∷ entry_line m.entry m.thumb ∷ bound_line m.bound ∷ end_line ∷ []);
      all = four (so_far Regions m) (start_line m.start) (entry_line m.entry m.thumb) (bound_line m.bound) end_line
          ∙ append_assoc (so_far Loads m) (map region_line m.regions) (start_line m.start ∷ entry_line m.entry m.thumb ∷ bound_line m.bound ∷ end_line ∷ []);
    }

pub begins_at : (s : Stage) (m : MapFile) → Good s m → Begins (flat_map ended (so_far s m))
begins_at s m g =
    let l = left_of s m in
    record { map = m; rest = flat_map ended l.left; valid = g.valid; begun = sym (text_of_lines m) ∙ ap (flat_map ended) l.all ∙ flat_map-append ended (so_far s m) l.left }

pub nothing_good : Good Head empty_map
nothing_good = record {
  valid = record { loads = tt; apart = tt; regions = tt; start_fits = omega arith; start_aligned = refl; entry_fits = omega arith; bound_fits = omega arith };
  rest = (refl, refl);
}
