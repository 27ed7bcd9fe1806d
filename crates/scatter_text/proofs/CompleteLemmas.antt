-- What is read is spelled so: from each state the parts that follow complete what is read so far.
use Rattle.std.proofs.Common.{◌≡◌, ◌∙◌, ℕ, List, [], ◌∷◌, ◌++◌, Bool, true, false, cond, Option, Some, None, refl, ap, sym, subst, append_assoc, append-nil, inl, inr, arith}
use Rattle.std.specs.Prelude.{codes, option_map, bytes_eq, ◌⊎◌}
use Rattle.std.specs.List.{flat_map}
use Rattle.std.specs.Cmp.Lexicographic.{same_text}
use Rattle.place_model.specs.declared.scatter.Choice.{Choice}
use Rattle.place_model.specs.declared.scatter.Edge.{Edge}
use Rattle.place_model.specs.declared.scatter.Edge.TheVariants.{First, Plain, Last}
use Rattle.place_model.specs.declared.scatter.ScatterBase.{ScatterBase}
use Rattle.place_model.specs.declared.scatter.ScatterLoad.{ScatterLoad}
use Rattle.place_model.specs.declared.scatter.ScatterRegion.{ScatterRegion}
use Rattle.place_model.specs.declared.scatter.Selection.{Selection}
use Rattle.base_lemmas.proofs.BaseLemmas.{same, came_through}
use Rattle.scatter_text.specs.declared.reading.Stage.{Stage}
use Rattle.scatter_text.specs.declared.reading.Stage.TheVariants.{Loads, LoadBase, LoadMax, LoadOpen, Regions, RegionBase, RegionMax, RegionOpen, Groups, Paren, Selector, Behind, Word, BehindEdge}
use Rattle.scatter_text.specs.declared.reading.Reader.{Reader}
use Rattle.scatter_text.specs.Parts.{Part}
use Rattle.scatter_text.specs.Words.{told, is_region_name, module_of, number_of, base_of, choice_of, edge_of, is_word}
use Rattle.scatter_text.specs.Grammar.{AreOf, IsEdge, AreSelections, IsGroup, IsMax, IsRegion, IsLoad}
use Rattle.scatter_text.specs.Reading.{load_named, region_named, at, expect, or_else, limit_load, close_load, begin_region, name_region, limit_region, close_region, name_module, select, keep, put_edge, shift_at, shift, is_between_loads}
use Rattle.scatter_text.proofs.Ends.{ends}

-- ---- one step, taken apart

pub expect_is : (sign : List ℕ) (s : Reader) (t : List ℕ) (u : Reader) → expect sign s t ≡ Some u → (t ≡ sign) × (s ≡ u)
expect_is sign s t u h = by_test (bytes_eq t sign) refl h where
  by_test : (b : Bool) → bytes_eq t sign ≡ b → cond b (Some s) None ≡ Some u → (t ≡ sign) × (s ≡ u)
  by_test true e k = (same_text t sign (sym e), same s u k)
  by_test false e k = absurd (cc)

pub when_is : {X : Type 0} (b : Bool) (x y : X) → cond b (Some x) None ≡ Some y → (b ≡ true) × (x ≡ y)
when_is true x y h = (refl, same x y h)
when_is false x y h = absurd (cc)

pub mapped_is : {A B : Type 0} (f : A → B) (o : Option A) (y : B) → option_map f o ≡ Some y → (x : A) × (o ≡ Some x) × (f x ≡ y)
mapped_is f None y h = absurd (cc)
mapped_is f (Some x) y h = (x, refl, same (f x) y h)

pub either_is : (a b : Option Reader) (u : Reader) → or_else a b ≡ Some u → (a ≡ Some u) ⊎ (b ≡ Some u)
either_is None b u h = inr h
either_is (Some s) b u h = inl h

-- ---- what completes a state

-- the load regions that follow
abbrev pub InText : List ScatterLoad → List Part → List ScatterLoad → Type 0
InText loads ps ls = (more : List ScatterLoad) × AreOf IsLoad more ps × (ls ≡ loads ++ more)

-- the rest of a load region, behind its brace
pub record InLoad (loads : List ScatterLoad) (l : ScatterLoad) (ps : List Part) (ls : List ScatterLoad) : Type 0 where
  pub regions : List ScatterRegion
  pub body : List Part
  pub close : Part
  pub rest : List Part
  pub all : ps ≡ body ++ close ∷ rest
  pub are : AreOf IsRegion regions body
  pub closed : close.text ≡ codes "}"
  pub behind : InText (loads ++ record l { regions = l.regions ++ regions } ∷ []) rest ls

abbrev pub with_region : ScatterLoad → ScatterRegion → ScatterLoad
with_region l r = record l { regions = l.regions ++ r ∷ [] }

-- the rest of an execution region
pub record InRegion (loads : List ScatterLoad) (l : ScatterLoad) (r : ScatterRegion) (ps : List Part) (ls : List ScatterLoad) : Type 0 where
  pub groups : List (List Selection)
  pub body : List Part
  pub close : Part
  pub rest : List Part
  pub all : ps ≡ body ++ close ∷ rest
  pub are : AreOf IsGroup groups body
  pub closed : close.text ≡ codes "}"
  pub behind : InLoad loads (with_region l (record r { selections = r.selections ++ flat_map (λ g. g) groups })) rest ls

-- the rest of a module's selectors, each behind a comma
pub record InGroup (loads : List ScatterLoad) (l : ScatterLoad) (r : ScatterRegion) (home : Option (List ℕ)) (ps : List Part) (ls : List ScatterLoad) : Type 0 where
  pub selections : List Selection
  pub inner : List Part
  pub close : Part
  pub rest : List Part
  pub all : ps ≡ inner ++ close ∷ rest
  pub are : AreSelections (codes ",") home selections inner
  pub closed : close.text ≡ codes ")"
  pub behind : InRegion loads l (record r { selections = r.selections ++ selections }) rest ls

abbrev pub with_selection : ScatterRegion → Selection → ScatterRegion
with_selection r s = record r { selections = r.selections ++ s ∷ [] }

-- an edge or none, and the rest of the selectors
pub record AtEdge (loads : List ScatterLoad) (l : ScatterLoad) (r : ScatterRegion) (home : Option (List ℕ)) (s : Selection) (ps : List Part) (ls : List ScatterLoad) : Type 0 where
  pub edge : Edge
  pub tail : List Part
  pub rest : List Part
  pub all : ps ≡ tail ++ rest
  pub is_edge : IsEdge edge tail
  pub behind : InGroup loads l (with_selection r (record s { edge = edge })) home rest ls

-- a selector, and what follows it
pub record AtSelector (loads : List ScatterLoad) (l : ScatterLoad) (r : ScatterRegion) (home : Option (List ℕ)) (ps : List Part) (ls : List ScatterLoad) : Type 0 where
  pub s : Selection
  pub word : Part
  pub rest : List Part
  pub all : ps ≡ word ∷ rest
  pub chosen : choice_of word.text ≡ Some s.choice
  pub line : s.line ≡ told word.line
  pub home_is : s.«module» ≡ home
  pub behind : AtEdge loads l r home s rest ls

abbrev pub AtSign : List ℕ → (List Part → Type 0) → List Part → Type 0
AtSign sign Follows ps = (p : Part) × (rest : List Part) × (ps ≡ p ∷ rest) × (p.text ≡ sign) × Follows rest

abbrev pub or_max : Option ℕ → Option ℕ → Option ℕ
or_max None m = m
or_max (Some n) m = Some n

-- a maximum or none, and a brace
pub record AtMax (Follows : Option ℕ → List Part → Type 0) (ps : List Part) : Type 0 where
  pub max : Option ℕ
  pub limit : List Part
  pub rest : List Part
  pub all : ps ≡ limit ++ rest
  pub limited : IsMax max limit
  pub behind : AtSign (codes "{") (Follows max) rest

abbrev pub LoadOpens : List ScatterLoad → ScatterLoad → List ScatterLoad → Option ℕ → List Part → Type 0
LoadOpens loads l ls max ps = InLoad loads (record l { max = or_max max l.max }) ps ls

abbrev pub RegionOpens : List ScatterLoad → ScatterLoad → ScatterRegion → List ScatterLoad → Option ℕ → List Part → Type 0
RegionOpens loads l r ls max ps = InRegion loads l (record r { max = or_max max r.max }) ps ls

-- after the comma behind a selector
pub data AtWord (loads : List ScatterLoad) (l : ScatterLoad) (r : ScatterRegion) (home : Option (List ℕ)) (s : Selection) (ps : List Part) (ls : List ScatterLoad) : Type 0 where
  an_edge : (e : Edge) (p : Part) (rest : List Part) → ps ≡ p ∷ rest → edge_of p.text ≡ Some e → InGroup loads l (with_selection r (record s { edge = e })) home rest ls → AtWord loads l r home s ps ls
  another : AtSelector loads l (with_selection r (record s { edge = Plain })) home ps ls → AtWord loads l r home s ps ls

abbrev pub Completes : Stage → Reader → List Part → List ScatterLoad → Type 0
Completes Loads s ps ls = InText s.loads ps ls
Completes LoadBase s ps ls =
    (n : ℕ) × (p : Part) × (rest : List Part) × (ps ≡ p ∷ rest) × (number_of p.text ≡ Some n)
    × AtMax (LoadOpens s.loads (record s.load { base = n }) ls) rest
Completes LoadMax s ps ls = AtMax (LoadOpens s.loads s.load ls) ps
Completes LoadOpen s ps ls = AtSign (codes "{") (λ rest. InLoad s.loads s.load rest ls) ps
Completes Regions s ps ls = InLoad s.loads s.load ps ls
Completes RegionBase s ps ls =
    (b : ScatterBase) × (p : Part) × (rest : List Part) × (ps ≡ p ∷ rest) × (base_of p.text ≡ Some b)
    × AtMax (RegionOpens s.loads s.load (record s.region { base = b }) ls) rest
Completes RegionMax s ps ls = AtMax (RegionOpens s.loads s.load s.region ls) ps
Completes RegionOpen s ps ls = AtSign (codes "{") (λ rest. InRegion s.loads s.load s.region rest ls) ps
Completes Groups s ps ls = InRegion s.loads s.load s.region ps ls
Completes Paren s ps ls = AtSign (codes "(") (λ rest. AtSelector s.loads s.load s.region s.«module» rest ls) ps
Completes Selector s ps ls = AtSelector s.loads s.load s.region s.«module» ps ls
Completes Behind s ps ls = AtEdge s.loads s.load s.region s.«module» s.selection ps ls
Completes Word s ps ls = AtWord s.loads s.load s.region s.«module» s.selection ps ls
Completes BehindEdge s ps ls = InGroup s.loads s.load s.region s.«module» ps ls

-- ---- a part before what completes the state behind it

selector_first : {loads : List ScatterLoad} {l : ScatterLoad} {r : ScatterRegion} {home : Option (List ℕ)} {ps : List Part} {ls : List ScatterLoad} (p : Part) → p.text ≡ codes "," → AtSelector loads l r home ps ls → InGroup loads l r home (p ∷ ps) ls
selector_first {loads} {l} {r} {home} {ps} {ls} p comma a =
    let e = a.behind in
    let g = e.behind in
    let s : Selection = record a.s { edge = e.edge } in
    record {
      selections = s ∷ g.selections;
      inner = (p ∷ a.word ∷ e.tail) ++ g.inner;
      close = g.close;
      rest = g.rest;
      all = ap (λ xs. p ∷ xs) a.all ∙ ap (λ xs. p ∷ a.word ∷ xs) (e.all ∙ ap (λ xs. e.tail ++ xs) g.all ∙ sym (append_assoc e.tail g.inner (g.close ∷ g.rest)));
      are = (
        p ∷ a.word ∷ e.tail,
        g.inner,
        refl,
        record { before = p; word = a.word; behind = e.tail; all = refl; signed = comma; chosen = a.chosen; line = a.line; «module» = a.home_is; edge = e.is_edge },
        g.are,
      );
      closed = g.closed;
      behind = subst (λ ss. InRegion loads l (record r { selections = ss }) g.rest ls) (append_assoc r.selections (s ∷ []) g.selections) g.behind;
    }

group_first : {loads : List ScatterLoad} {l : ScatterLoad} {r : ScatterRegion} {home : Option (List ℕ)} {ps : List Part} {ls : List ScatterLoad} (p : Part) → module_of p.text ≡ Some home → AtSign (codes "(") (λ rest. AtSelector loads l r home rest ls) ps → InRegion loads l r (p ∷ ps) ls
group_first {loads} {l} {r} {home} {ps} {ls} p named (open_, rest, open_all, opened, a) =
    let e = a.behind in
    let g = e.behind in
    let i = g.behind in
    let s : Selection = record a.s { edge = e.edge } in
    let inner : List Part = (open_ ∷ a.word ∷ e.tail) ++ g.inner in
    record {
      groups = (s ∷ g.selections) ∷ i.groups;
      body = (p ∷ (inner ++ g.close ∷ [])) ++ i.body;
      close = i.close;
      rest = i.rest;
      all = ap (λ xs. p ∷ xs) (open_all ∙ ap (λ xs. open_ ∷ xs) a.all ∙ ap (λ xs. open_ ∷ a.word ∷ xs) (e.all ∙ ap (λ xs. e.tail ++ xs) (g.all ∙ ap (λ xs. g.inner ++ g.close ∷ xs) i.all) ∙ sym (append_assoc e.tail g.inner (g.close ∷ (i.body ++ i.close ∷ i.rest)))) ∙ sym (append_assoc inner (g.close ∷ []) (i.body ++ i.close ∷ i.rest)) ∙ sym (append_assoc (inner ++ g.close ∷ []) i.body (i.close ∷ i.rest)));
      are = (
        p ∷ (inner ++ g.close ∷ []),
        i.body,
        refl,
        record {
          home = home;
          name = p;
          inner = inner;
          close = g.close;
          all = refl;
          named = named;
          some = omega arith;
          selected = (
            open_ ∷ a.word ∷ e.tail,
            g.inner,
            refl,
            record { before = open_; word = a.word; behind = e.tail; all = refl; signed = opened; chosen = a.chosen; line = a.line; «module» = a.home_is; edge = e.is_edge },
            g.are,
          );
          closed = g.closed;
        },
        i.are,
      );
      closed = i.closed;
      behind = subst (λ ss. InLoad loads (with_region l (record r { selections = ss })) i.rest ls)
          (append_assoc (r.selections ++ s ∷ []) g.selections (flat_map (λ g. g) i.groups) ∙ append_assoc r.selections (s ∷ []) (g.selections ++ flat_map (λ g. g) i.groups)) i.behind;
    }

max_is : (max : Option ℕ) (limit : List Part) → IsMax max limit → IsMax (or_max max None) limit
max_is None limit h = h
max_is (Some n) limit h = h

braced_parts : (limit body after : List Part) (open_ close : Part) → limit ++ open_ ∷ (body ++ close ∷ after) ≡ (limit ++ open_ ∷ (body ++ close ∷ [])) ++ after
braced_parts limit body after open_ close =
    ap (λ xs. limit ++ open_ ∷ xs) (sym (append_assoc body (close ∷ []) after)) ∙ sym (append_assoc limit (open_ ∷ (body ++ close ∷ [])) after)

region_first : {loads : List ScatterLoad} {l : ScatterLoad} {ps : List Part} {ls : List ScatterLoad} (p base : Part) (b : ScatterBase) → is_region_name p.text ≡ true → base_of base.text ≡ Some b → AtMax (RegionOpens loads l (record (region_named p.text) { base = b }) ls) ps → InLoad loads l (p ∷ base ∷ ps) ls
region_first {loads} {l} {ps} {ls} p base b named based m =
    let s = m.behind in
    let i = s.4 in
    let j = i.behind in
    let r : ScatterRegion = record { name = p.text; base = b; max = or_max m.max None; selections = flat_map (λ g. g) i.groups } in
    let front : List Part = p ∷ base ∷ (m.limit ++ s.0 ∷ (i.body ++ i.close ∷ [])) in
    record {
      regions = r ∷ j.regions;
      body = front ++ j.body;
      close = j.close;
      rest = j.rest;
      all = ap (λ xs. p ∷ base ∷ xs) (m.all ∙ ap (λ xs. m.limit ++ xs) (s.2 ∙ ap (λ xs. s.0 ∷ xs) i.all) ∙ braced_parts m.limit i.body i.rest s.0 i.close) ∙ ap (λ xs. front ++ xs) j.all ∙ sym (append_assoc front j.body (j.close ∷ j.rest));
      are = (
        front,
        j.body,
        refl,
        record {
          groups = i.groups;
          selections = refl;
          braced = record { first = p; base = base; limit = m.limit; open_ = s.0; body = i.body; close = i.close; all = refl; named = named; name_is = refl; based = based; limited = max_is m.max m.limit m.limited; opened = s.3; filled = i.are; closed = i.closed };
        },
        j.are,
      );
      closed = j.closed;
      behind = subst (λ rs. InText (loads ++ record l { regions = rs } ∷ []) j.rest ls) (append_assoc l.regions (r ∷ []) j.regions) j.behind;
    }

load_first : {loads : List ScatterLoad} {ps : List Part} {ls : List ScatterLoad} (p base : Part) (n : ℕ) → is_region_name p.text ≡ true → number_of base.text ≡ Some n → AtMax (LoadOpens loads (record (load_named p.text) { base = n }) ls) ps → InText loads (p ∷ base ∷ ps) ls
load_first {loads} {ps} {ls} p base n named based m =
    let s = m.behind in
    let j = s.4 in
    let t = j.behind in
    let l : ScatterLoad = record { name = p.text; base = n; max = or_max m.max None; regions = j.regions } in
    let front : List Part = p ∷ base ∷ (m.limit ++ s.0 ∷ (j.body ++ j.close ∷ [])) in (
      l ∷ t.0,
      (
        front,
        j.rest,
        ap (λ xs. p ∷ base ∷ xs) (m.all ∙ ap (λ xs. m.limit ++ xs) (s.2 ∙ ap (λ xs. s.0 ∷ xs) j.all) ∙ braced_parts m.limit j.body j.rest s.0 j.close),
        record { first = p; base = base; limit = m.limit; open_ = s.0; body = j.body; close = j.close; all = refl; named = named; name_is = refl; based = based; limited = max_is m.max m.limit m.limited; opened = s.3; filled = j.are; closed = j.closed },
        t.1,
      ),
      t.2 ∙ append_assoc loads (l ∷ []) t.0,
    )

-- ---- each stage

-- the state behind a part, and what completes it
abbrev pub Goes : Option Reader → List Part → List ScatterLoad → Type 0
Goes o qs ls = (t : Reader) × (o ≡ Some t) × Completes t.stage t qs ls

moved : (t u : Reader) (qs : List Part) (ls : List ScatterLoad) → t ≡ u → Completes u.stage u qs ls → Completes t.stage t qs ls
moved t u qs ls e c = subst (λ v. Completes v.stage v qs ls) (sym e) c

never_plain : (t : List ℕ) → edge_of t ≡ Some Plain → ⊥
never_plain t h = by_first (is_word (codes "+FIRST") t) (is_word (codes "+LAST") t) h where
  by_first : (a b : Bool) → cond a (Some First) (cond b (Some Last) None) ≡ Some Plain → ⊥
  by_first true b k = let e = same First Plain k in absurd (cc)
  by_first false true k = let e = same Last Plain k in absurd (cc)
  by_first false false k = absurd (cc)

selected : (s : Reader) (p : Part) (qs : List Part) (ls : List ScatterLoad) (t : Reader) → select s p.line p.text ≡ Some t → Completes t.stage t qs ls → AtSelector s.loads s.load s.region s.«module» (p ∷ qs) ls
selected s p qs ls t e c =
    let pick : Choice → Selection = λ x. record { line = told p.line; «module» = s.«module»; choice = x; edge = Plain } in
    let w = mapped_is (λ x. record s { stage = Behind; selection = pick x }) (choice_of p.text) t e in
    let d = moved (record s { stage = Behind; selection = pick w.0 }) t qs ls w.2 c in
    record { s = pick w.0; word = p; rest = qs; all = refl; chosen = w.1; line = refl; home_is = refl; behind = d }

closed_group : {loads : List ScatterLoad} {l : ScatterLoad} {r : ScatterRegion} {home : Option (List ℕ)} {ps : List Part} {ls : List ScatterLoad} (p : Part) → p.text ≡ codes ")" → InRegion loads l r ps ls → InGroup loads l r home (p ∷ ps) ls
closed_group {loads} {l} {r} {home} {ps} {ls} p close i = record {
  selections = [];
  inner = [];
  close = p;
  rest = ps;
  all = refl;
  are = refl;
  closed = close;
  behind = subst (λ ss. InRegion loads l (record r { selections = ss }) ps ls) (sym (append-nil r.selections)) i;
}

edge_parts : (e : Edge) (comma word : Part) → comma.text ≡ codes "," → edge_of word.text ≡ Some e → IsEdge e (comma ∷ word ∷ [])
edge_parts First comma word h k = (comma, word, refl, h, k)
edge_parts Last comma word h k = (comma, word, refl, h, k)
edge_parts Plain comma word h k = absurd (never_plain word.text k)

comma_first : {loads : List ScatterLoad} {l : ScatterLoad} {r : ScatterRegion} {home : Option (List ℕ)} {s : Selection} {ps : List Part} {ls : List ScatterLoad} (p : Part) → p.text ≡ codes "," → AtWord loads l r home s ps ls → AtEdge loads l r home s (p ∷ ps) ls
comma_first p comma (an_edge e word rest all named g) =
    record { edge = e; tail = p ∷ word ∷ []; rest = rest; all = ap (λ xs. p ∷ xs) all; is_edge = edge_parts e p word comma named; behind = g }
comma_first {ps = ps} p comma (another a) =
    record { edge = Plain; tail = []; rest = p ∷ ps; all = refl; is_edge = refl; behind = selector_first p comma a }

by_stage : (stage : Stage) (s : Reader) (p : Part) (qs : List Part) (ls : List ScatterLoad) → Goes (shift_at stage s p.line p.text) qs ls → Completes stage s (p ∷ qs) ls
by_stage Loads s p qs ls (t, e, c) =
    let w = when_is (is_region_name p.text) (record s { stage = LoadBase; load = load_named p.text }) t e in
    let d = moved (record s { stage = LoadBase; load = load_named p.text }) t qs ls w.1 c in
    subst (λ xs. InText s.loads (p ∷ xs) ls) (sym d.3) (load_first p d.1 d.0 w.0 d.4 d.5)
by_stage LoadBase s p qs ls (t, e, c) =
    let w = mapped_is (λ n. record s { stage = LoadMax; load = record s.load { base = n } }) (number_of p.text) t e in
    let d = moved (record s { stage = LoadMax; load = record s.load { base = w.0 } }) t qs ls w.2 c in
    (w.0, p, qs, refl, w.1, d)
by_stage LoadMax s p qs ls (t, e, c) = by_kind (either_is (expect (codes "{") (at Regions s) p.text) (limit_load s p.text) t e) where
  by_kind : (expect (codes "{") (at Regions s) p.text ≡ Some t) ⊎ (limit_load s p.text ≡ Some t) → AtMax (LoadOpens s.loads s.load ls) (p ∷ qs)
  by_kind (inl h) =
      let w = expect_is (codes "{") (at Regions s) p.text t h in
      let d = moved (at Regions s) t qs ls w.1 c in
      record { max = None; limit = []; rest = p ∷ qs; all = refl; limited = refl; behind = (p, qs, refl, w.0, d) }
  by_kind (inr h) =
      let w = mapped_is (λ n. record s { stage = LoadOpen; load = record s.load { max = Some n } }) (number_of p.text) t h in
      let d = moved (record s { stage = LoadOpen; load = record s.load { max = Some w.0 } }) t qs ls w.2 c in
      record { max = Some w.0; limit = p ∷ []; rest = qs; all = refl; limited = (p, refl, w.1); behind = d }
by_stage LoadOpen s p qs ls (t, e, c) =
    let w = expect_is (codes "{") (at Regions s) p.text t e in
    (p, qs, refl, w.0, moved (at Regions s) t qs ls w.1 c)
by_stage Regions s p qs ls (t, e, c) = by_kind (either_is (expect (codes "}") (close_load s) p.text) (name_region s p.text) t e) where
  by_kind : (expect (codes "}") (close_load s) p.text ≡ Some t) ⊎ (name_region s p.text ≡ Some t) → InLoad s.loads s.load (p ∷ qs) ls
  by_kind (inl h) =
      let w = expect_is (codes "}") (close_load s) p.text t h in
      let d = moved (close_load s) t qs ls w.1 c in
      record {
        regions = [];
        body = [];
        close = p;
        rest = qs;
        all = refl;
        are = refl;
        closed = w.0;
        behind = subst (λ rs. InText (s.loads ++ record s.load { regions = rs } ∷ []) qs ls) (sym (append-nil s.load.regions)) d;
      }
  by_kind (inr h) =
      let w = when_is (is_region_name p.text) (begin_region s p.text) t h in
      let d = moved (begin_region s p.text) t qs ls w.1 c in
      subst (λ xs. InLoad s.loads s.load (p ∷ xs) ls) (sym d.3) (region_first p d.1 d.0 w.0 d.4 d.5)
by_stage RegionBase s p qs ls (t, e, c) =
    let w = mapped_is (λ b. record s { stage = RegionMax; region = record s.region { base = b } }) (base_of p.text) t e in
    let d = moved (record s { stage = RegionMax; region = record s.region { base = w.0 } }) t qs ls w.2 c in
    (w.0, p, qs, refl, w.1, d)
by_stage RegionMax s p qs ls (t, e, c) = by_kind (either_is (expect (codes "{") (at Groups s) p.text) (limit_region s p.text) t e) where
  by_kind : (expect (codes "{") (at Groups s) p.text ≡ Some t) ⊎ (limit_region s p.text ≡ Some t) → AtMax (RegionOpens s.loads s.load s.region ls) (p ∷ qs)
  by_kind (inl h) =
      let w = expect_is (codes "{") (at Groups s) p.text t h in
      let d = moved (at Groups s) t qs ls w.1 c in
      record { max = None; limit = []; rest = p ∷ qs; all = refl; limited = refl; behind = (p, qs, refl, w.0, d) }
  by_kind (inr h) =
      let w = mapped_is (λ n. record s { stage = RegionOpen; region = record s.region { max = Some n } }) (number_of p.text) t h in
      let d = moved (record s { stage = RegionOpen; region = record s.region { max = Some w.0 } }) t qs ls w.2 c in
      record { max = Some w.0; limit = p ∷ []; rest = qs; all = refl; limited = (p, refl, w.1); behind = d }
by_stage RegionOpen s p qs ls (t, e, c) =
    let w = expect_is (codes "{") (at Groups s) p.text t e in
    (p, qs, refl, w.0, moved (at Groups s) t qs ls w.1 c)
by_stage Groups s p qs ls (t, e, c) = by_kind (either_is (expect (codes "}") (close_region s) p.text) (name_module s p.text) t e) where
  by_kind : (expect (codes "}") (close_region s) p.text ≡ Some t) ⊎ (name_module s p.text ≡ Some t) → InRegion s.loads s.load s.region (p ∷ qs) ls
  by_kind (inl h) =
      let w = expect_is (codes "}") (close_region s) p.text t h in
      let d = moved (close_region s) t qs ls w.1 c in
      record {
        groups = [];
        body = [];
        close = p;
        rest = qs;
        all = refl;
        are = refl;
        closed = w.0;
        behind = subst (λ ss. InLoad s.loads (with_region s.load (record s.region { selections = ss })) qs ls) (sym (append-nil s.region.selections)) d;
      }
  by_kind (inr h) =
      let w = mapped_is (λ m. record s { stage = Paren; «module» = m }) (module_of p.text) t h in
      let d = moved (record s { stage = Paren; «module» = w.0 }) t qs ls w.2 c in
      group_first p w.1 d
by_stage Paren s p qs ls (t, e, c) =
    let w = expect_is (codes "(") (at Selector s) p.text t e in
    (p, qs, refl, w.0, moved (at Selector s) t qs ls w.1 c)
by_stage Selector s p qs ls (t, e, c) = selected s p qs ls t e c
by_stage Behind s p qs ls (t, e, c) = by_kind (either_is (expect (codes ",") (at Word s) p.text) (expect (codes ")") (at Groups (keep Plain s)) p.text) t e) where
  by_kind : (expect (codes ",") (at Word s) p.text ≡ Some t) ⊎ (expect (codes ")") (at Groups (keep Plain s)) p.text ≡ Some t) → AtEdge s.loads s.load s.region s.«module» s.selection (p ∷ qs) ls
  by_kind (inl h) =
      let w = expect_is (codes ",") (at Word s) p.text t h in
      comma_first p w.0 (moved (at Word s) t qs ls w.1 c)
  by_kind (inr h) =
      let w = expect_is (codes ")") (at Groups (keep Plain s)) p.text t h in
      let d = moved (at Groups (keep Plain s)) t qs ls w.1 c in
      record { edge = Plain; tail = []; rest = p ∷ qs; all = refl; is_edge = refl; behind = closed_group p w.0 d }
by_stage Word s p qs ls (t, e, c) = by_kind (either_is (put_edge s p.text) (select (keep Plain s) p.line p.text) t e) where
  by_kind : (put_edge s p.text ≡ Some t) ⊎ (select (keep Plain s) p.line p.text ≡ Some t) → AtWord s.loads s.load s.region s.«module» s.selection (p ∷ qs) ls
  by_kind (inl h) =
      let w = mapped_is (λ e. at BehindEdge (keep e s)) (edge_of p.text) t h in
      an_edge w.0 p qs refl w.1 (moved (at BehindEdge (keep w.0 s)) t qs ls w.2 c)
  by_kind (inr h) = another (selected (keep Plain s) p qs ls t h c)
by_stage BehindEdge s p qs ls (t, e, c) = by_kind (either_is (expect (codes ",") (at Selector s) p.text) (expect (codes ")") (at Groups s) p.text) t e) where
  by_kind : (expect (codes ",") (at Selector s) p.text ≡ Some t) ⊎ (expect (codes ")") (at Groups s) p.text ≡ Some t) → InGroup s.loads s.load s.region s.«module» (p ∷ qs) ls
  by_kind (inl h) =
      let w = expect_is (codes ",") (at Selector s) p.text t h in
      selector_first p w.0 (moved (at Selector s) t qs ls w.1 c)
  by_kind (inr h) =
      let w = expect_is (codes ")") (at Groups s) p.text t h in
      closed_group p w.0 (moved (at Groups s) t qs ls w.1 c)

-- ---- all parts

at_end : (stage : Stage) (s : Reader) (ls : List ScatterLoad) → cond (is_between_loads stage) (Some s.loads) None ≡ Some ls → Completes stage s [] ls
at_end Loads s ls h = ([], refl, sym (same s.loads ls h) ∙ sym (append-nil s.loads))
at_end _ s ls h = absurd (cc)

pub completes : (ps : List Part) (s : Reader) (ls : List ScatterLoad) → ends s ps ≡ Some ls → Completes s.stage s ps ls
unfolding shift
completes [] s ls h = at_end s.stage s ls h
completes (p ∷ qs) s ls h =
    let t = came_through (λ t. ends t qs) (shift s p) ls h in
    by_stage s.stage s p qs ls (t.0, t.1, completes qs t.0 ls t.2)
