-- A valid description that is spelled has no flaw at any part, so it is read.
use Rattle.std.proofs.Common.{◌≡◌, ◌∙◌, ℕ, List, [], ◌∷◌, ◌++◌, length, Bool, true, false, cond, ◌||◌, nat_lt, ◌%◌, ◌^◌, ◌<◌, ◌≤◌, ◌+◌, Option, Some, None, Ok, refl, ap, sym, subst, append_assoc, drop, arith, lt-ltb, eq-eqb, length-append, inl, inr}
use Rattle.std.specs.Prelude.{codes, option_map, bytes_eq, ◌==◌, ◌⊎◌}
use Rattle.std.specs.List.{AllByRecursion, flat_map, list_any}
use Rattle.std.specs.Cmp.Lexicographic.{same_text}
use Rattle.sdt_fault.specs.declared.kinds.ScatterKind.{ScatterKind}
use Rattle.sdt_fault.specs.declared.kinds.ScatterKind.TheVariants as kind
use Rattle.place_model.specs.declared.scatter.ScatterBase.{ScatterBase}
use Rattle.place_model.specs.declared.scatter.ScatterBase.TheVariants.{At, Plus}
use Rattle.place_model.specs.declared.scatter.ScatterLoad.{ScatterLoad}
use Rattle.place_model.specs.declared.scatter.ScatterRegion.{ScatterRegion}
use Rattle.base_lemmas.proofs.BaseLemmas.{same, came_through, all_back, all_weaker}
use Rattle.scatter_text.specs.declared.reading.Stage.{Stage}
use Rattle.scatter_text.specs.declared.reading.Stage.TheVariants.{Loads, LoadBase, LoadMax, LoadOpen, Regions, RegionBase, RegionMax, RegionOpen, Groups, Paren, Selector, Behind, Word, BehindEdge}
use Rattle.scatter_text.specs.declared.reading.Reader.{Reader}
use Rattle.scatter_text.specs.Parts.{Part, first_is}
use Rattle.scatter_text.specs.Words.{is_region_name, number_of, base_number, base_of}
use Rattle.scatter_text.specs.Validity.{OfMax, OfBase, OfNumbers, AreNames, Breaks, IsWhole, IsWholeMax, IsWholeBase, AreWhole, IsValidLoad, AreDistinct, load_names, names_of, region_names, IsValid}
use Rattle.scatter_text.specs.Reading.{load_named, at, expect, limit_load, close_load, begin_region, name_region, limit_region, shift_at, shift, number_flaw, flaw_in, flaw_at, flaw, region_flaw, regions_flaw, end_flaw, judged, step, behind, read, last, is_between_loads}
use Rattle.scatter_text.proofs.Ends.{ends}
use Rattle.scatter_text.proofs.CompleteLemmas.{expect_is, when_is, mapped_is, either_is, InLoad, InRegion, Completes, completes}
use Rattle.scatter_text.proofs.SpelledLemmas.{apart}
use Rattle.scatter_text.proofs.ValidLemmas.{any_name, map_append, flat_append, nonempty}
use Rattle.scatter_text.proofs.FineLemmas.{Load, FineIn, FineAt, open_at, step_fine, last_in}

-- ---- numbers

-- what is wrong with the number is wrong with the description
number_breaks : (n : ℕ) (k : ScatterKind) (ls : List ScatterLoad) → ((P : ℕ → Type 0) → AllByRecursion (OfNumbers P) ls → P n) → number_flaw n ≡ Some k → Breaks k ls
number_breaks n k ls has h = by_size (nat_lt n (2 ^ 32)) (n % 4 == 0) refl refl h where
  by_size : (a b : Bool) → nat_lt n (2 ^ 32) ≡ a → (n % 4 == 0) ≡ b → cond a (cond b None (Some kind.Unaligned)) (Some kind.Number) ≡ Some k → Breaks k ls
  by_size true true e f j = absurd (cc)
  by_size true false e f j = subst (λ x. Breaks x ls) (same kind.Unaligned k j) (λ all. let g = eq-eqb (n % 4) 0 (has (λ m. m % 4 ≡ 0) all) in absurd (cc))
  by_size false b e f j = subst (λ x. Breaks x ls) (same kind.Number k j) (λ all. let g = lt-ltb n (2 ^ 32) (has (λ m. m < 2 ^ 32) all) in absurd (cc))

text_breaks : (t : List ℕ) (n : ℕ) (k : ScatterKind) (ls : List ScatterLoad) → number_of t ≡ Some n → ((P : ℕ → Type 0) → AllByRecursion (OfNumbers P) ls → P n) → flaw_in (number_of t) ≡ Some k → Breaks k ls
text_breaks t n k ls e has h = number_breaks n k ls has (subst (λ o. flaw_in o ≡ Some k) e h)

base_breaks : (t : List ℕ) (b : ScatterBase) (k : ScatterKind) (ls : List ScatterLoad) → base_of t ≡ Some b → ((P : ℕ → Type 0) → AllByRecursion (OfNumbers P) ls → OfBase P b) → flaw_in (base_number t) ≡ Some k → Breaks k ls
base_breaks t b k ls e has h = by_sign (first_is 43 t) (number_of t) e h where
  mapped : (f : ℕ → ScatterBase) (o : Option ℕ) → ((P : ℕ → Type 0) (n : ℕ) → OfBase P (f n) → P n) → option_map f o ≡ Some b → flaw_in o ≡ Some k → Breaks k ls
  mapped f None g e h = absurd (cc)
  mapped f (Some n) g e h = number_breaks n k ls (λ P all. g P n (subst (OfBase P) (sym (same (f n) b e)) (has P all))) h

  by_sign : (s : Bool) (o : Option ℕ) → cond s (option_map Plus (number_of (drop 1 t))) (option_map At o) ≡ Some b → flaw_in (cond s (number_of (drop 1 t)) o) ≡ Some k → Breaks k ls
  by_sign true o e h = mapped (λ n. Plus n) (number_of (drop 1 t)) (λ P n v. v) e h
  by_sign false o e h = mapped (λ n. At n) o (λ P n v. v) e h

-- ---- names

none_is : (names : List (List ℕ)) (t : List ℕ) → AllByRecursion (λ name. name ≡ t → ⊥) names → list_any (λ name. bytes_eq name t) names ≡ false
none_is [] t a = refl
none_is (name ∷ names) t a = by_test (bytes_eq name t) refl (none_is names t a.1) where
  by_test : (b : Bool) → bytes_eq name t ≡ b → list_any (λ other. bytes_eq other t) names ≡ false → (b || list_any (λ other. bytes_eq other t) names) ≡ false
  by_test true e more = absurd (a.0 (same_text name t (sym e)))
  by_test false e more = more

distinct_before : (xs : List (List ℕ)) (x : List ℕ) (ys : List (List ℕ)) → AreDistinct (xs ++ x ∷ ys) → AllByRecursion (λ other. other ≡ x → ⊥) xs
distinct_before [] x ys d = tt
distinct_before (z ∷ zs) x ys d = ((all_back (λ other. z ≡ other → ⊥) zs (x ∷ ys) d.0).0, distinct_before zs x ys d.1)

-- ---- what is open stands in the description

-- a load region of the description, behind those before it
pub record Found (loads : List ScatterLoad) (l : ScatterLoad) (ls : List ScatterLoad) : Type 0 where
  pub more : List ScatterLoad
  pub all : ls ≡ loads ++ l ∷ more

found_load : {loads : List ScatterLoad} {l : ScatterLoad} {ps : List Part} {ls : List ScatterLoad} (i : InLoad loads l ps ls) → Found loads (record l { regions = l.regions ++ i.regions }) ls
found_load {loads} {l} i = let t = i.behind in record { more = t.0; all = t.2 ∙ append_assoc loads (record l { regions = l.regions ++ i.regions } ∷ []) t.0 }

found_region : {loads : List ScatterLoad} {l : ScatterLoad} {r : ScatterRegion} {ps : List Part} {ls : List ScatterLoad} (i : InRegion loads l r ps ls)
    → Found loads (record l { regions = l.regions ++ (record r { selections = r.selections ++ flat_map (λ g. g) i.groups } ∷ i.behind.regions) }) ls
found_region {loads} {l} {r} {ps} {ls} i =
    let r' : ScatterRegion = record r { selections = r.selections ++ flat_map (λ g. g) i.groups } in
    subst (λ rs. Found loads (record l { regions = rs }) ls) (append_assoc l.regions (r' ∷ []) i.behind.regions) (found_load i.behind)

at_found : {loads : List ScatterLoad} {l : ScatterLoad} {ls : List ScatterLoad} (P : ScatterLoad → Type 0) → Found loads l ls → AllByRecursion P ls → P l
at_found {loads} {l} {ls} P f all = (all_back P loads (l ∷ f.more) (subst (AllByRecursion P) f.all all)).0

name_breaks : (loads : List ScatterLoad) (l : ScatterLoad) (ls : List ScatterLoad) (k : ScatterKind) → Found loads l ls → cond (bytes_eq l.name (codes "map") || list_any (λ other. bytes_eq other.name l.name) loads) (Some kind.DuplicateName) None ≡ Some k → Breaks k ls
name_breaks loads l ls k f h = by_test (bytes_eq l.name (codes "map") || list_any (λ other. bytes_eq other.name l.name) loads) refl h where
  names : load_names ls ≡ load_names loads ++ l.name ∷ load_names f.more
  names = ap load_names f.all ∙ map_append (λ k. k.name) loads (l ∷ f.more)

  by_map : (b : Bool) → bytes_eq l.name (codes "map") ≡ b → ((l.name ≡ codes "map") → ⊥) → bytes_eq l.name (codes "map") ≡ false
  by_map true e own = absurd (own (same_text l.name (codes "map") (sym e)))
  by_map false e own = e

  clear : AreNames ls → (bytes_eq l.name (codes "map") || list_any (λ other. bytes_eq other.name l.name) loads) ≡ false
  clear a =
      let others = none_is (load_names loads) l.name (distinct_before (load_names loads) l.name (load_names f.more) (subst AreDistinct names a.load_names_differ)) in
      rw (any_name loads l.name, others, by_map (bytes_eq l.name (codes "map")) refl (at_found (λ x. x.name ≡ codes "map" → ⊥) f a.no_map)) refl

  by_test : (b : Bool) → (bytes_eq l.name (codes "map") || list_any (λ other. bytes_eq other.name l.name) loads) ≡ b → cond b (Some kind.DuplicateName) None ≡ Some k → Breaks k ls
  by_test true e j = subst (λ x. Breaks x ls) (same kind.DuplicateName k j) (λ a. let c = clear a in absurd (cc))
  by_test false e j = absurd (cc)

region_told : (s : Reader) (name : List ℕ) (rest : List (List ℕ)) (ls : List ScatterLoad) (k : ScatterKind) → region_names ls ≡ s.names ++ name ∷ rest → region_flaw s name ≡ Some k → Breaks k ls
region_told s name rest ls k names h = by_test (list_any (λ other. bytes_eq other name) s.names) (nat_lt (length s.names) 64) refl refl h where
  room : length (region_names ls) ≤ 64 → length s.names < 64
  room few =
      let held : length (s.names ++ name ∷ rest) ≤ 64 = subst (λ xs. length xs ≤ 64) names few in
      let size : length (s.names ++ name ∷ rest) ≡ length s.names + length (name ∷ rest) = length-append s.names (name ∷ rest) in
      let more : length (name ∷ rest) ≡ length rest + 1 = omega arith in
      omega (arith, held, size, more)

  by_test : (a b : Bool) → list_any (λ other. bytes_eq other name) s.names ≡ a → nat_lt (length s.names) 64 ≡ b → cond a (Some kind.DuplicateName) (cond b None (Some kind.TooMany)) ≡ Some k → Breaks k ls
  by_test true b i j m = subst (λ x. Breaks x ls) (same kind.DuplicateName k m) (λ a. let c = none_is s.names name (distinct_before s.names name rest (subst AreDistinct names a.region_names_differ)) in absurd (cc))
  by_test false true i j m = absurd (cc)
  by_test false false i j m = subst (λ x. Breaks x ls) (same kind.TooMany k m) (λ few. let c = lt-ltb (length s.names) 64 (room few) in absurd (cc))

region_breaks : (s : Reader) (r : ScatterRegion) (rs : List ScatterRegion) (l : ScatterLoad) (ls : List ScatterLoad) (k : ScatterKind) → FineIn Load s → l.regions ≡ s.load.regions ++ r ∷ rs → Found s.loads l ls → region_flaw s r.name ≡ Some k → Breaks k ls
region_breaks s r rs l ls k fine e f h =
    let here : names_of l.regions ≡ names_of s.load.regions ++ r.name ∷ names_of rs = ap names_of e ∙ map_append (λ r. r.name) s.load.regions (r ∷ rs) in
    let rest : List (List ℕ) = names_of rs ++ region_names f.more in
    let names : region_names ls ≡ s.names ++ r.name ∷ rest =
    ap region_names f.all ∙ flat_append (λ l. names_of l.regions) s.loads (l ∷ f.more) ∙ ap (λ xs. region_names s.loads ++ (xs ++ region_names f.more)) here
    ∙ ap (λ xs. region_names s.loads ++ xs) (append_assoc (names_of s.load.regions) (r.name ∷ names_of rs) (region_names f.more))
    ∙ sym (append_assoc (region_names s.loads) (names_of s.load.regions) (r.name ∷ rest)) ∙ ap (λ xs. xs ++ r.name ∷ rest) (sym fine.names_are) in
    region_told s r.name rest ls k names h

-- ---- each stage

along : (t u : Reader) (qs : List Part) (ls : List ScatterLoad) → t ≡ u → Completes u.stage u qs ls → Completes t.stage t qs ls
along t u qs ls e c = subst (λ v. Completes v.stage v qs ls) (sym e) c

-- the numbers of a region of the load region that is found
region_numbers : {loads : List ScatterLoad} {l : ScatterLoad} {ls : List ScatterLoad} (P : ℕ → Type 0) (before after : List ScatterRegion) (r : ScatterRegion) → l.regions ≡ before ++ r ∷ after → Found loads l ls → AllByRecursion (OfNumbers P) ls → OfBase P r.base × OfMax P r.max
region_numbers {loads} {l} P before after r e f all =
    (all_back (λ r. OfBase P r.base × OfMax P r.max) before (r ∷ after) (subst (AllByRecursion (λ r. OfBase P r.base × OfMax P r.max)) e (at_found (OfNumbers P) f all).2)).0

empty_breaks : (loads : List ScatterLoad) (l : ScatterLoad) (ls : List ScatterLoad) (k : ScatterKind) → Found loads l ls → cond (length l.regions == 0) (Some kind.Empty) None ≡ Some k → Breaks k ls
empty_breaks loads l ls k f h = by_regions l.regions refl h where
  by_regions : (rs : List ScatterRegion) → l.regions ≡ rs → cond (length rs == 0) (Some kind.Empty) None ≡ Some k → Breaks k ls
  by_regions [] e j = subst (λ x. Breaks x ls) (same kind.Empty k j) (λ all. let some : 0 < length l.regions = at_found (λ l. 0 < length l.regions) f all in let bad : 0 < 0 = subst (λ rs. 0 < length rs) e some in omega arith)
  by_regions (r ∷ rs) e j = let none : None ≡ Some k = rw (nonempty r rs) at j in absurd (cc)

by_stage : (stage : Stage) (s : Reader) (p : Part) (qs : List Part) (ls : List ScatterLoad) (t : Reader) (k : ScatterKind) → FineIn (open_at stage) s → shift_at stage s p.line p.text ≡ Some t → Completes t.stage t qs ls → flaw_at stage s p.text ≡ Some k → Breaks k ls
by_stage Loads s p qs ls t k f e c h =
    let w = when_is (is_region_name p.text) (record s { stage = LoadBase; load = load_named p.text }) t e in
    let d = along (record s { stage = LoadBase; load = load_named p.text }) t qs ls w.1 c in
    name_breaks s.loads _ ls k (found_load d.5.behind.4) h
by_stage LoadBase s p qs ls t k f e c h =
    let w = mapped_is (λ n. record s { stage = LoadMax; load = record s.load { base = n } }) (number_of p.text) t e in
    let d = along (record s { stage = LoadMax; load = record s.load { base = w.0 } }) t qs ls w.2 c in
    text_breaks p.text w.0 k ls w.1 (λ P all. (at_found (OfNumbers P) (found_load d.behind.4) all).0) h
by_stage LoadMax s p qs ls t k f e c h = by_kind (either_is (expect (codes "{") (at Regions s) p.text) (limit_load s p.text) t e) where
  by_kind : (expect (codes "{") (at Regions s) p.text ≡ Some t) ⊎ (limit_load s p.text ≡ Some t) → Breaks k ls
  by_kind (inl j) = let brace = (expect_is (codes "{") (at Regions s) p.text t j).0 in let none : None ≡ Some k = subst (λ x. flaw_in (number_of x) ≡ Some k) brace h in absurd (cc)
  by_kind (inr j) =
      let w = mapped_is (λ n. record s { stage = LoadOpen; load = record s.load { max = Some n } }) (number_of p.text) t j in
      let d = along (record s { stage = LoadOpen; load = record s.load { max = Some w.0 } }) t qs ls w.2 c in
      text_breaks p.text w.0 k ls w.1 (λ P all. (at_found (OfNumbers P) (found_load d.4) all).1) h
by_stage Regions s p qs ls t k f e c h = by_kind (either_is (expect (codes "}") (close_load s) p.text) (name_region s p.text) t e) where
  by_kind : (expect (codes "}") (close_load s) p.text ≡ Some t) ⊎ (name_region s p.text ≡ Some t) → Breaks k ls
  by_kind (inl j) =
      let w = expect_is (codes "}") (close_load s) p.text t j in
      let d = along (close_load s) t qs ls w.1 c in
      let found : Found s.loads s.load ls = record { more = d.0; all = d.2 ∙ append_assoc s.loads (s.load ∷ []) d.0 } in
      empty_breaks s.loads s.load ls k found (subst (λ x. regions_flaw s x ≡ Some k) w.0 h)
  by_kind (inr j) =
      let w = when_is (is_region_name p.text) (begin_region s p.text) t j in
      let d = along (begin_region s p.text) t qs ls w.1 c in
      let i = d.5.behind.4 in
      let other = apart is_region_name (codes "}") refl p.text w.0 in
      region_breaks s _ i.behind.regions _ ls k f refl (found_region i) (subst (λ b. cond b (end_flaw s) (region_flaw s p.text) ≡ Some k) other h)
by_stage RegionBase s p qs ls t k f e c h =
    let w = mapped_is (λ b. record s { stage = RegionMax; region = record s.region { base = b } }) (base_of p.text) t e in
    let d = along (record s { stage = RegionMax; region = record s.region { base = w.0 } }) t qs ls w.2 c in
    let i = d.behind.4 in
    base_breaks p.text w.0 k ls w.1 (λ P all. (region_numbers P s.load.regions i.behind.regions _ refl (found_region i) all).0) h
by_stage RegionMax s p qs ls t k f e c h = by_kind (either_is (expect (codes "{") (at Groups s) p.text) (limit_region s p.text) t e) where
  by_kind : (expect (codes "{") (at Groups s) p.text ≡ Some t) ⊎ (limit_region s p.text ≡ Some t) → Breaks k ls
  by_kind (inl j) = let brace = (expect_is (codes "{") (at Groups s) p.text t j).0 in let none : None ≡ Some k = subst (λ x. flaw_in (number_of x) ≡ Some k) brace h in absurd (cc)
  by_kind (inr j) =
      let w = mapped_is (λ n. record s { stage = RegionOpen; region = record s.region { max = Some n } }) (number_of p.text) t j in
      let d = along (record s { stage = RegionOpen; region = record s.region { max = Some w.0 } }) t qs ls w.2 c in
      text_breaks p.text w.0 k ls w.1 (λ P all. (region_numbers P s.load.regions d.4.behind.regions _ refl (found_region d.4) all).1) h
by_stage LoadOpen s p qs ls t k f e c h = absurd (cc)
by_stage RegionOpen s p qs ls t k f e c h = absurd (cc)
by_stage Groups s p qs ls t k f e c h = absurd (cc)
by_stage Paren s p qs ls t k f e c h = absurd (cc)
by_stage Selector s p qs ls t k f e c h = absurd (cc)
by_stage Behind s p qs ls t k f e c h = absurd (cc)
by_stage Word s p qs ls t k f e c h = absurd (cc)
by_stage BehindEdge s p qs ls t k f e c h = absurd (cc)

-- ---- all parts

-- what is wrong with a part is wrong with each description that goes on so
pub flaw_breaks : (s : Reader) (p : Part) (qs : List Part) (ls : List ScatterLoad) (t : Reader) (k : ScatterKind) → FineAt s → shift s p ≡ Some t → ends t qs ≡ Some ls → flaw s p ≡ Some k → Breaks k ls
unfolding shift flaw
flaw_breaks s p qs ls t k f e h j = by_stage s.stage s p qs ls t k f e (completes qs t ls h) j

of_max : (P : ℕ → Type 0) → ((n : ℕ) → IsWhole n → P n) → (m : Option ℕ) → IsWholeMax m → OfMax P m
of_max P g None w = tt
of_max P g (Some n) w = g n w

of_base : (P : ℕ → Type 0) → ((n : ℕ) → IsWhole n → P n) → (b : ScatterBase) → IsWholeBase b → OfBase P b
of_base P g (At n) w = g n w
of_base P g (Plus n) w = g n w

of_numbers : (P : ℕ → Type 0) → ((n : ℕ) → IsWhole n → P n) → (l : ScatterLoad) → IsValidLoad l → OfNumbers P l
of_numbers P g l v = (
  g l.base v.base,
  of_max P g l.max v.max,
  all_weaker AreWhole (λ r. OfBase P r.base × OfMax P r.max) (λ r w. (of_base P g r.base w.0, of_max P g r.max w.1)) l.regions v.regions,
)

valid_keeps : (k : ScatterKind) (ls : List ScatterLoad) → IsValid ls → Breaks k ls → ⊥
valid_keeps kind.Syntax ls v b = b
valid_keeps kind.Number ls v b = b (all_weaker IsValidLoad (OfNumbers (λ n. n < 2 ^ 32)) (of_numbers (λ n. n < 2 ^ 32) (λ n w. w.0)) ls v.each)
valid_keeps kind.Unaligned ls v b = b (all_weaker IsValidLoad (OfNumbers (λ n. n % 4 ≡ 0)) (of_numbers (λ n. n % 4 ≡ 0) (λ n w. w.1)) ls v.each)
valid_keeps kind.DuplicateName ls v b = b (record { load_names_differ = v.load_names_differ; region_names_differ = v.region_names_differ; no_map = all_weaker IsValidLoad (λ l. l.name ≡ codes "map" → ⊥) (λ l w. w.no_map) ls v.each })
valid_keeps kind.TooMany ls v b = b v.few
valid_keeps kind.Empty ls v b = b (all_weaker IsValidLoad (λ l. 0 < length l.regions) (λ l w. w.some) ls v.each)

flaw_none : (s : Reader) (p : Part) (qs : List Part) (ls : List ScatterLoad) (t : Reader) → FineAt s → shift s p ≡ Some t → ends t qs ≡ Some ls → IsValid ls → flaw s p ≡ None
flaw_none s p qs ls t f e h v = by_flaw (flaw s p) refl where
  by_flaw : (o : Option ScatterKind) → flaw s p ≡ o → o ≡ None
  by_flaw None j = refl
  by_flaw (Some k) j = absurd (valid_keeps k ls v (flaw_breaks s p qs ls t k f e h j))

at_end : (line : ℕ) (s : Reader) (ls : List ScatterLoad) → ends s [] ≡ Some ls → IsValid ls → last line s ≡ Ok ls
unfolding last
at_end line s ls h v = by_loads s.stage s.loads h where
  by_loads : (stage : Stage) (loads : List ScatterLoad) → cond (is_between_loads stage) (Some loads) None ≡ Some ls → last_in stage line loads ≡ Ok ls
  by_loads Loads [] k = let e : [] ≡ ls = same [] ls k in absurd (let bad : 0 < 0 = subst (λ xs. 0 < length xs) (sym e) v.some in omega arith)
  by_loads Loads (l ∷ loads) k = rw (nonempty l loads) (ap (λ xs. Ok xs) (same (l ∷ loads) ls k))
  by_loads _ loads k = absurd (cc)

judged_from : {X : Type 0} (f : Option ScatterKind) (o : Option X) (x : X) → f ≡ None → o ≡ Some x → judged f o ≡ Ok x
judged_from f o x e h = rw (e, h) refl

pub ends_read : (ps : List Part) (line : ℕ) (s : Reader) (ls : List ScatterLoad) → FineAt s → ends s ps ≡ Some ls → IsValid ls → read line s ps ≡ Ok ls
ends_read [] line s ls f h v = at_end line s ls h v
ends_read (p ∷ ps) line s ls f h v =
    let t = came_through (λ t. ends t ps) (shift s p) ls h in
    let none = flaw_none s p ps ls t.0 f t.1 t.2 v in
    let stepped : step s p ≡ Ok t.0 = judged_from (flaw s p) (shift s p) t.0 none t.1 in
    ap (behind p.line (λ u. read line u ps)) stepped ∙ ends_read ps line t.0 ls (step_fine s p t.0 f t.1 none) t.2 v
