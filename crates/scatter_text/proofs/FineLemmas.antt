-- What is read so far keeps to the rules on numbers, names and counts, and so does the whole description.
use Rattle.std.proofs.Common.{◌≡◌, ◌∙◌, ℕ, List, [], ◌∷◌, ◌++◌, length, Bool, true, false, cond, not, ◌||◌, nat_lt, ◌<◌, ◌≤◌, ◌+◌, Option, Some, None, option_and_then, Result, Ok, Err, refl, ap, sym, subst, append_assoc, append-nil, arith, ltb-true, length-append, inl, inr}
use Rattle.std.specs.Prelude.{codes, bytes_eq, ◌==◌, ◌⊎◌, if◌then◌else◌}
use Rattle.std.specs.List.{AllByRecursion, list_any}
use Rattle.std.proofs.lemmas.Grind.{common_steps}
use Rattle.std.proofs.lemmas.Slice.Eq.{bytes_eq-Decides}
use Rattle.sdt_fault.specs.declared.kinds.ScatterKind.{ScatterKind}
use Rattle.sdt_fault.specs.declared.kinds.ScatterKind.TheVariants as kind
use Rattle.place_model.specs.declared.scatter.Edge.TheVariants.{Plain}
use Rattle.place_model.specs.declared.scatter.ScatterBase.{ScatterBase}
use Rattle.place_model.specs.declared.scatter.ScatterLoad.{ScatterLoad}
use Rattle.place_model.specs.declared.scatter.ScatterRegion.{ScatterRegion}
use Rattle.base_lemmas.proofs.BaseLemmas.{neither, all_append}
use Rattle.scatter_text.specs.declared.reading.Stage.{Stage}
use Rattle.scatter_text.specs.declared.reading.Stage.TheVariants.{Loads, LoadBase, LoadMax, LoadOpen, Regions, RegionBase, RegionMax, RegionOpen, Groups, Paren, Selector, Behind, Word, BehindEdge}
use Rattle.scatter_text.specs.declared.reading.Reader.{Reader}
use Rattle.scatter_text.specs.Parts.{Part}
use Rattle.scatter_text.specs.Words.{told, is_region_name, module_of, number_of, base_of, choice_of, edge_of}
use Rattle.scatter_text.specs.Validity.{IsWhole, IsWholeMax, IsWholeBase, AreWhole, IsValidLoad, AreDistinct, load_names, names_of, region_names, IsValid}
use Rattle.scatter_text.specs.Reading.{beginning, load_named, at, expect, limit_load, close_load, begin_region, name_region, limit_region, close_region, name_module, select, keep, put_edge, shift_at, shift, flaw_at, flaw, load_flaw, region_flaw, regions_flaw, end_flaw, is_between_loads, judged, step, Reading, behind, read, last}
use Rattle.scatter_text.proofs.Ends.{ends}
use Rattle.scatter_text.proofs.CompleteLemmas.{expect_is, when_is, mapped_is, either_is}
use Rattle.scatter_text.proofs.SpelledLemmas.{apart}
use Rattle.scatter_text.proofs.ValidLemmas.{whole_number, whole_base, apart_from, distinct_more, any_name, map_append, flat_append, nonempty}

-- ---- the rules so far

-- what is open: nothing, a load region, or an execution region too
pub data Open : Type 0 where
  Nothing : Open
  Load : Open
  Region : Open

abbrev pub open_at : Stage → Open
open_at Loads = Nothing
open_at LoadBase = Load
open_at LoadMax = Load
open_at LoadOpen = Load
open_at Regions = Load
open_at other = Region

-- the names of execution regions that are open, or closed in an open load region
abbrev pub open_names : Open → List ScatterRegion → List ℕ → List (List ℕ)
open_names Nothing regions name = []
open_names Load regions name = names_of regions
open_names Region regions name = names_of regions ++ name ∷ []

abbrev pub IsNamed : Open → List ScatterLoad → List ℕ → Type 0
IsNamed Nothing loads name = Unit {0}
IsNamed o loads name = AllByRecursion (λ other. other ≡ name → ⊥) (load_names loads) × (name ≡ codes "map" → ⊥)

pub record Fine (o : Open) (loads : List ScatterLoad) (name : List ℕ) (base : ℕ) (max : Option ℕ) (regions : List ScatterRegion) (region_name : List ℕ) (region_base : ScatterBase) (region_max : Option ℕ) (names : List (List ℕ)) : Type 0 where
  pub each : AllByRecursion IsValidLoad loads
  pub load_names_differ : AreDistinct (load_names loads)
  pub names_differ : AreDistinct names
  pub few : length names ≤ 64
  pub names_are : names ≡ region_names loads ++ open_names o regions region_name
  pub base_whole : IsWhole base
  pub max_whole : IsWholeMax max
  pub regions_whole : AllByRecursion AreWhole regions
  pub region_base_whole : IsWholeBase region_base
  pub region_max_whole : IsWholeMax region_max
  pub named : IsNamed o loads name

abbrev pub FineIn : Open → Reader → Type 0
FineIn o s = Fine o s.loads s.load.name s.load.base s.load.max s.load.regions s.region.name s.region.base s.region.max s.names

abbrev pub FineAt : Reader → Type 0
FineAt s = FineIn (open_at s.stage) s

pub begins_fine : FineAt beginning
begins_fine = record {
  each = tt;
  load_names_differ = tt;
  names_differ = tt;
  few = omega arith;
  names_are = refl;
  base_whole = (omega arith, refl);
  max_whole = tt;
  regions_whole = tt;
  region_base_whole = (omega arith, refl);
  region_max_whole = tt;
  named = tt;
}

-- ---- steps that change more than the stage

named_load : (s : Reader) (t : List ℕ) → FineIn Nothing s → load_flaw s t ≡ None → FineAt (record s { stage = LoadBase; load = load_named t })
named_load s t f h = by_test (bytes_eq t (codes "map") || list_any (λ l. bytes_eq l.name t) s.loads) refl h where
  by_test : (b : Bool) → (bytes_eq t (codes "map") || list_any (λ l. bytes_eq l.name t) s.loads) ≡ b → cond b (Some kind.DuplicateName) None ≡ None → FineAt (record s { stage = LoadBase; load = load_named t })
  by_test true e k = absurd (cc)
  by_test false e k =
      let w = neither (bytes_eq t (codes "map")) (list_any (λ l. bytes_eq l.name t) s.loads) e in
      record {
        each = f.each;
        load_names_differ = f.load_names_differ;
        names_differ = f.names_differ;
        few = f.few;
        names_are = f.names_are;
        base_whole = (omega arith, refl);
        max_whole = tt;
        regions_whole = tt;
        region_base_whole = f.region_base_whole;
        region_max_whole = f.region_max_whole;
        named = (apart_from (load_names s.loads) t (sym (any_name s.loads t) ∙ w.1), λ e. let m = (bytes_eq-Decides t (codes "map")).1 e in absurd (cc));
      }

closed_load : (s : Reader) → FineIn Load s → end_flaw s ≡ None → FineAt (close_load s)
closed_load s f h = by_test (length s.load.regions == 0) refl h where
  by_test : (b : Bool) → (length s.load.regions == 0) ≡ b → cond b (Some kind.Empty) None ≡ None → FineAt (close_load s)
  by_test true e k = absurd (cc)
  by_test false e k =
      let valid : IsValidLoad s.load = record { base = f.base_whole; max = f.max_whole; regions = f.regions_whole; some = grind (arith, common_steps, e); no_map = f.named.1 } in
      record {
        each = all_append IsValidLoad s.loads (s.load ∷ []) f.each (valid, tt);
        load_names_differ = subst AreDistinct (sym (map_append (λ l. l.name) s.loads (s.load ∷ []))) (distinct_more (load_names s.loads) s.load.name f.load_names_differ f.named.0);
        names_differ = f.names_differ;
        few = f.few;
        names_are = f.names_are ∙ ap (λ xs. region_names s.loads ++ xs) (sym (append-nil (names_of s.load.regions))) ∙ sym (flat_append (λ l. names_of l.regions) s.loads (s.load ∷ [])) ∙ sym (append-nil (region_names (s.loads ++ s.load ∷ [])));
        base_whole = (omega arith, refl);
        max_whole = tt;
        regions_whole = tt;
        region_base_whole = f.region_base_whole;
        region_max_whole = f.region_max_whole;
        named = tt;
      }

named_region : (s : Reader) (t : List ℕ) → FineIn Load s → region_flaw s t ≡ None → FineAt (begin_region s t)
named_region s t f h = by_test (list_any (λ name. bytes_eq name t) s.names) (nat_lt (length s.names) 64) refl refl h where
  by_test : (a b : Bool) → list_any (λ name. bytes_eq name t) s.names ≡ a → nat_lt (length s.names) 64 ≡ b → cond a (Some kind.DuplicateName) (cond b None (Some kind.TooMany)) ≡ None → FineAt (begin_region s t)
  by_test true b e i k = absurd (cc)
  by_test false false e i k = absurd (cc)
  by_test false true e i k =
      let room = ltb-true (length s.names) 64 i in
      record {
        each = f.each;
        load_names_differ = f.load_names_differ;
        names_differ = distinct_more s.names t f.names_differ (apart_from s.names t e);
        few = let size : length (s.names ++ t ∷ []) ≡ length s.names + 1 = length-append s.names (t ∷ []) in omega (arith, size, room);
        names_are = ap (λ xs. xs ++ t ∷ []) f.names_are ∙ append_assoc (region_names s.loads) (names_of s.load.regions) (t ∷ []);
        base_whole = f.base_whole;
        max_whole = f.max_whole;
        regions_whole = f.regions_whole;
        region_base_whole = (omega arith, refl);
        region_max_whole = tt;
        named = f.named;
      }

closed_region : (s : Reader) → FineIn Region s → FineAt (close_region s)
closed_region s f = record {
  each = f.each;
  load_names_differ = f.load_names_differ;
  names_differ = f.names_differ;
  few = f.few;
  names_are = f.names_are ∙ ap (λ xs. region_names s.loads ++ xs) (sym (map_append (λ r. r.name) s.load.regions (s.region ∷ [])));
  base_whole = f.base_whole;
  max_whole = f.max_whole;
  regions_whole = all_append AreWhole s.load.regions (s.region ∷ []) f.regions_whole ((f.region_base_whole, f.region_max_whole), tt);
  region_base_whole = (omega arith, refl);
  region_max_whole = tt;
  named = f.named;
}

-- the four numbers
based_load : (s : Reader) (n : ℕ) → FineIn Load s → IsWhole n → Fine Load s.loads s.load.name n s.load.max s.load.regions s.region.name s.region.base s.region.max s.names
based_load s n f w = record { each = f.each; load_names_differ = f.load_names_differ; names_differ = f.names_differ; few = f.few; names_are = f.names_are; base_whole = w; max_whole = f.max_whole; regions_whole = f.regions_whole; region_base_whole = f.region_base_whole; region_max_whole = f.region_max_whole; named = f.named }

limited_load : (s : Reader) (n : ℕ) → FineIn Load s → IsWhole n → Fine Load s.loads s.load.name s.load.base (Some n) s.load.regions s.region.name s.region.base s.region.max s.names
limited_load s n f w = record { each = f.each; load_names_differ = f.load_names_differ; names_differ = f.names_differ; few = f.few; names_are = f.names_are; base_whole = f.base_whole; max_whole = w; regions_whole = f.regions_whole; region_base_whole = f.region_base_whole; region_max_whole = f.region_max_whole; named = f.named }

based_region : (s : Reader) (b : ScatterBase) → FineIn Region s → IsWholeBase b → Fine Region s.loads s.load.name s.load.base s.load.max s.load.regions s.region.name b s.region.max s.names
based_region s b f w = record { each = f.each; load_names_differ = f.load_names_differ; names_differ = f.names_differ; few = f.few; names_are = f.names_are; base_whole = f.base_whole; max_whole = f.max_whole; regions_whole = f.regions_whole; region_base_whole = w; region_max_whole = f.region_max_whole; named = f.named }

limited_region : (s : Reader) (n : ℕ) → FineIn Region s → IsWhole n → Fine Region s.loads s.load.name s.load.base s.load.max s.load.regions s.region.name s.region.base (Some n) s.names
limited_region s n f w = record { each = f.each; load_names_differ = f.load_names_differ; names_differ = f.names_differ; few = f.few; names_are = f.names_are; base_whole = f.base_whole; max_whole = f.max_whole; regions_whole = f.regions_whole; region_base_whole = f.region_base_whole; region_max_whole = w; named = f.named }

-- ---- each stage

fine_along : (t u : Reader) → t ≡ u → FineAt t → FineAt u
fine_along t u e f = subst FineAt e f

selected : (s : Reader) (line : ℕ) (t : List ℕ) (u : Reader) → FineIn Region s → select s line t ≡ Some u → FineAt u
selected s line t u f e =
    let w = mapped_is (λ c. record s { stage = Behind; selection = record { line = told line; «module» = s.«module»; choice = c; edge = Plain } }) (choice_of t) u e in
    fine_along (record s { stage = Behind; selection = record { line = told line; «module» = s.«module»; choice = w.0; edge = Plain } }) u w.2 f

by_stage : (stage : Stage) (s : Reader) (line : ℕ) (t : List ℕ) (u : Reader) → FineIn (open_at stage) s → shift_at stage s line t ≡ Some u → flaw_at stage s t ≡ None → FineAt u
by_stage Loads s line t u f e h =
    let w = when_is (is_region_name t) (record s { stage = LoadBase; load = load_named t }) u e in
    fine_along (record s { stage = LoadBase; load = load_named t }) u w.1 (named_load s t f h)
by_stage LoadBase s line t u f e h =
    let w = mapped_is (λ n. record s { stage = LoadMax; load = record s.load { base = n } }) (number_of t) u e in
    fine_along (record s { stage = LoadMax; load = record s.load { base = w.0 } }) u w.2 (based_load s w.0 f (whole_number t w.0 w.1 h))
by_stage LoadMax s line t u f e h = by_kind (either_is (expect (codes "{") (at Regions s) t) (limit_load s t) u e) where
  by_kind : (expect (codes "{") (at Regions s) t ≡ Some u) ⊎ (limit_load s t ≡ Some u) → FineAt u
  by_kind (inl k) = fine_along (at Regions s) u (expect_is (codes "{") (at Regions s) t u k).1 f
  by_kind (inr k) =
      let w = mapped_is (λ n. record s { stage = LoadOpen; load = record s.load { max = Some n } }) (number_of t) u k in
      fine_along (record s { stage = LoadOpen; load = record s.load { max = Some w.0 } }) u w.2 (limited_load s w.0 f (whole_number t w.0 w.1 h))
by_stage LoadOpen s line t u f e h = fine_along (at Regions s) u (expect_is (codes "{") (at Regions s) t u e).1 f
by_stage Regions s line t u f e h = by_kind (either_is (expect (codes "}") (close_load s) t) (name_region s t) u e) where
  by_kind : (expect (codes "}") (close_load s) t ≡ Some u) ⊎ (name_region s t ≡ Some u) → FineAt u
  by_kind (inl k) =
      let w = expect_is (codes "}") (close_load s) t u k in
      fine_along (close_load s) u w.1 (closed_load s f (subst (λ x. regions_flaw s x ≡ None) w.0 h))
  by_kind (inr k) =
      let w = when_is (is_region_name t) (begin_region s t) u k in
      let other = apart is_region_name (codes "}") refl t w.0 in
      fine_along (begin_region s t) u w.1 (named_region s t f (subst (λ b. cond b (end_flaw s) (region_flaw s t) ≡ None) other h))
by_stage RegionBase s line t u f e h =
    let w = mapped_is (λ b. record s { stage = RegionMax; region = record s.region { base = b } }) (base_of t) u e in
    fine_along (record s { stage = RegionMax; region = record s.region { base = w.0 } }) u w.2 (based_region s w.0 f (whole_base t w.0 w.1 h))
by_stage RegionMax s line t u f e h = by_kind (either_is (expect (codes "{") (at Groups s) t) (limit_region s t) u e) where
  by_kind : (expect (codes "{") (at Groups s) t ≡ Some u) ⊎ (limit_region s t ≡ Some u) → FineAt u
  by_kind (inl k) = fine_along (at Groups s) u (expect_is (codes "{") (at Groups s) t u k).1 f
  by_kind (inr k) =
      let w = mapped_is (λ n. record s { stage = RegionOpen; region = record s.region { max = Some n } }) (number_of t) u k in
      fine_along (record s { stage = RegionOpen; region = record s.region { max = Some w.0 } }) u w.2 (limited_region s w.0 f (whole_number t w.0 w.1 h))
by_stage RegionOpen s line t u f e h = fine_along (at Groups s) u (expect_is (codes "{") (at Groups s) t u e).1 f
by_stage Groups s line t u f e h = by_kind (either_is (expect (codes "}") (close_region s) t) (name_module s t) u e) where
  by_kind : (expect (codes "}") (close_region s) t ≡ Some u) ⊎ (name_module s t ≡ Some u) → FineAt u
  by_kind (inl k) = fine_along (close_region s) u (expect_is (codes "}") (close_region s) t u k).1 (closed_region s f)
  by_kind (inr k) =
      let w = mapped_is (λ m. record s { stage = Paren; «module» = m }) (module_of t) u k in
      fine_along (record s { stage = Paren; «module» = w.0 }) u w.2 f
by_stage Paren s line t u f e h = fine_along (at Selector s) u (expect_is (codes "(") (at Selector s) t u e).1 f
by_stage Selector s line t u f e h = selected s line t u f e
by_stage Behind s line t u f e h = by_kind (either_is (expect (codes ",") (at Word s) t) (expect (codes ")") (at Groups (keep Plain s)) t) u e) where
  by_kind : (expect (codes ",") (at Word s) t ≡ Some u) ⊎ (expect (codes ")") (at Groups (keep Plain s)) t ≡ Some u) → FineAt u
  by_kind (inl k) = fine_along (at Word s) u (expect_is (codes ",") (at Word s) t u k).1 f
  by_kind (inr k) = fine_along (at Groups (keep Plain s)) u (expect_is (codes ")") (at Groups (keep Plain s)) t u k).1 f
by_stage Word s line t u f e h = by_kind (either_is (put_edge s t) (select (keep Plain s) line t) u e) where
  by_kind : (put_edge s t ≡ Some u) ⊎ (select (keep Plain s) line t ≡ Some u) → FineAt u
  by_kind (inl k) =
      let w = mapped_is (λ e. at BehindEdge (keep e s)) (edge_of t) u k in
      fine_along (at BehindEdge (keep w.0 s)) u w.2 f
  by_kind (inr k) = selected (keep Plain s) line t u f k
by_stage BehindEdge s line t u f e h = by_kind (either_is (expect (codes ",") (at Selector s) t) (expect (codes ")") (at Groups s) t) u e) where
  by_kind : (expect (codes ",") (at Selector s) t ≡ Some u) ⊎ (expect (codes ")") (at Groups s) t ≡ Some u) → FineAt u
  by_kind (inl k) = fine_along (at Selector s) u (expect_is (codes ",") (at Selector s) t u k).1 f
  by_kind (inr k) = fine_along (at Groups s) u (expect_is (codes ")") (at Groups s) t u k).1 f

-- ---- all parts

judged_ok : {X : Type 0} (f : Option ScatterKind) (o : Option X) (x : X) → judged f o ≡ Ok x → (f ≡ None) × (o ≡ Some x)
judged_ok f None x h = absurd (cc)
judged_ok None (Some y) x h = (refl, cc)
judged_ok (Some k) (Some y) x h = absurd (cc)

behind_ok : (line : ℕ) (rest : Reader → Reading) (r : Result Reader ScatterKind) (ls : List ScatterLoad) → behind line rest r ≡ Ok ls → (t : Reader) × (r ≡ Ok t) × (rest t ≡ Ok ls)
behind_ok line rest (Ok t) ls h = (t, refl, h)
behind_ok line rest (Err k) ls h = absurd (cc)

pub step_fine : (s : Reader) (p : Part) (t : Reader) → FineAt s → shift s p ≡ Some t → flaw s p ≡ None → FineAt t
unfolding shift flaw
step_fine s p t f e h = by_stage s.stage s p.line p.text t f e h

abbrev pub last_in : Stage → ℕ → List ScatterLoad → Reading
last_in stage line loads = if not (is_between_loads stage) then Err (line, kind.Syntax) else if length loads == 0 then Err (line, kind.Empty) else Ok loads

at_end : (line : ℕ) (s : Reader) (ls : List ScatterLoad) → FineAt s → last line s ≡ Ok ls → IsValid ls
unfolding last
at_end line s ls f h = by_loads s.stage s.loads refl f h where
  whole : (loads : List ScatterLoad) → FineIn Nothing (record s { loads = loads }) → 0 < length loads → IsValid loads
  whole loads f some =
      let names : s.names ≡ region_names loads = f.names_are ∙ append-nil (region_names loads) in
      record { some = some; each = f.each; load_names_differ = f.load_names_differ; region_names_differ = subst AreDistinct names f.names_differ; few = subst (λ ns. length ns ≤ 64) names f.few }

  by_loads : (stage : Stage) (loads : List ScatterLoad) → s.loads ≡ loads → FineIn (open_at stage) s → last_in stage line loads ≡ Ok ls → IsValid ls
  by_loads Loads [] e f k = absurd (cc)
  by_loads Loads (l ∷ loads) e f k =
      let told : Ok (l ∷ loads) ≡ Ok ls = rw (nonempty l loads) at k in
      let known : l ∷ loads ≡ ls = cc in
      subst IsValid known (whole (l ∷ loads) (subst (λ xs. FineIn Nothing (record s { loads = xs })) e f) (omega arith))
  by_loads _ loads e f k = absurd (cc)

pub read_valid : (ps : List Part) (line : ℕ) (s : Reader) (ls : List ScatterLoad) → FineAt s → read line s ps ≡ Ok ls → IsValid ls
read_valid [] line s ls f h = at_end line s ls f h
read_valid (p ∷ ps) line s ls f h =
    let b = behind_ok p.line (λ t. read line t ps) (step s p) ls h in
    let j = judged_ok (flaw s p) (shift s p) b.0 b.1 in
    read_valid ps line b.0 ls (step_fine s p b.0 f j.1 j.0) b.2

last_ends : (line : ℕ) (s : Reader) (ls : List ScatterLoad) → last line s ≡ Ok ls → ends s [] ≡ Some ls
unfolding last
last_ends line s ls h = by_loads s.stage s.loads h where
  by_loads : (stage : Stage) (loads : List ScatterLoad) → last_in stage line loads ≡ Ok ls → cond (is_between_loads stage) (Some loads) None ≡ Some ls
  by_loads Loads [] k = absurd (cc)
  by_loads Loads (l ∷ loads) k = let told : Ok (l ∷ loads) ≡ Ok ls = rw (nonempty l loads) at k in cc
  by_loads _ loads k = absurd (cc)

pub read_ends : (ps : List Part) (line : ℕ) (s : Reader) (ls : List ScatterLoad) → read line s ps ≡ Ok ls → ends s ps ≡ Some ls
read_ends [] line s ls h = last_ends line s ls h
read_ends (p ∷ ps) line s ls h =
    let b = behind_ok p.line (λ t. read line t ps) (step s p) ls h in
    let j = judged_ok (flaw s p) (shift s p) b.0 b.1 in
    ap (option_and_then (λ t. ends t ps)) j.1 ∙ read_ends ps line b.0 ls b.2
