-- What is spelled is read: the parts of a thing lead from the state before it to the one behind it.
use Rattle.std.proofs.Common.{◌≡◌, ◌∙◌, ℕ, List, [], ◌∷◌, ◌++◌, Bool, true, false, cond, nat_lt, ◌+◌, ◌<◌, Option, Some, None, option_and_then, refl, ap, sym, subst, append_assoc, append-nil, arith}
use Rattle.std.specs.Prelude.{codes, bytes_eq, is_some, map, ◌==◌}
use Rattle.std.specs.List.{flat_map}
use Rattle.std.specs.Char.{to_ascii_lowercase}
use Rattle.std.specs.Cmp.Lexicographic.{same_text}
use Rattle.place_model.specs.declared.scatter.Choice.{Choice}
use Rattle.place_model.specs.declared.scatter.Edge.{Edge}
use Rattle.place_model.specs.declared.scatter.Edge.TheVariants.{First, Plain, Last}
use Rattle.place_model.specs.declared.scatter.ScatterBase.{ScatterBase}
use Rattle.place_model.specs.declared.scatter.ScatterLoad.{ScatterLoad}
use Rattle.place_model.specs.declared.scatter.ScatterRegion.{ScatterRegion}
use Rattle.place_model.specs.declared.scatter.Selection.{Selection}
use Rattle.scatter_text.specs.declared.reading.Stage.TheVariants.{Loads, LoadBase, LoadMax, LoadOpen, Regions, RegionBase, RegionMax, RegionOpen, Groups, Paren, Selector, Behind, Word, BehindEdge}
use Rattle.scatter_text.specs.declared.reading.Reader.{Reader}
use Rattle.scatter_text.specs.Parts.{Part, first_is}
use Rattle.scatter_text.specs.Words.{told, is_region_name, module_of, number_of, base_of, choice_of, edge_of, area_of, is_word}
use Rattle.scatter_text.specs.Grammar.{AreOf, IsEdge, IsSelection, AreSelections, IsGroup, IsMax, IsRegion, IsLoad}
use Rattle.scatter_text.specs.Reading.{beginning, load_named, region_named, no_selection, at, shift}
use Rattle.scatter_text.proofs.Ends.{ends}
use Rattle.scatter_text.proofs.CompleteLemmas.{with_region, with_selection}

-- ---- words that no sign has

pub apart : (f : List ℕ → Bool) (sign : List ℕ) → f sign ≡ false → (t : List ℕ) → f t ≡ true → bytes_eq t sign ≡ false
apart f sign never t h = by_test (bytes_eq t sign) refl where
  by_test : (b : Bool) → bytes_eq t sign ≡ b → bytes_eq t sign ≡ false
  by_test false e = e
  by_test true e = let k : f sign ≡ true = subst (λ x. f x ≡ true) (same_text t sign (sym e)) h in absurd (cc)

some_is : {X : Type 0} (o : Option X) (x : X) → o ≡ Some x → is_some o ≡ true
some_is o x h = rw h refl

number_apart : (sign t : List ℕ) (n : ℕ) → is_some (number_of sign) ≡ false → number_of t ≡ Some n → bytes_eq t sign ≡ false
number_apart sign t n never h = apart (λ x. is_some (number_of x)) sign never t (some_is (number_of t) n h)

-- only `+` has it as its lower-case letter
plus_is : (b : ℕ) → to_ascii_lowercase b ≡ 43 → (b == 43) ≡ true
plus_is b h = by_low (nat_lt b 65) (nat_lt b 91) h where
  by_low : (l m : Bool) → cond l b (cond m (b + 32) b) ≡ 43 → (b == 43) ≡ true
  by_low true m e = rw e refl
  by_low false false e = rw e refl
  by_low false true e = let k : b ≡ 11 = omega arith in absurd (let j : to_ascii_lowercase 11 ≡ 43 = subst (λ x. to_ascii_lowercase x ≡ 43) k h in let i : 11 ≡ 43 = j in omega arith)

plus_first : (t : List ℕ) (x : List ℕ) → map to_ascii_lowercase t ≡ 43 ∷ x → first_is 43 t ≡ true
plus_first [] x h = absurd (cc)
plus_first (b ∷ bs) x h = let e : to_ascii_lowercase b ≡ 43 = cc in plus_is b e

area_never : (t : List ℕ) (x : List ℕ) → map to_ascii_lowercase t ≡ 43 ∷ x → area_of t ≡ None
area_never t x h = rw (plus_first t x h) refl

first_never : (t : List ℕ) → is_word (codes "+FIRST") t ≡ true → choice_of t ≡ None
first_never t h =
    let e = same_text (map to_ascii_lowercase t) (codes "+first") (sym h) in
    rw (area_never t (codes "first") e, e) refl

last_never : (t : List ℕ) → is_word (codes "+LAST") t ≡ true → choice_of t ≡ None
last_never t h =
    let e = same_text (map to_ascii_lowercase t) (codes "+last") (sym h) in
    rw (area_never t (codes "last") e, e) refl

no_edge : (t : List ℕ) (c : Choice) → choice_of t ≡ Some c → edge_of t ≡ None
no_edge t c h = by_first (is_word (codes "+FIRST") t) refl where
  by_last : (a b : Bool) → a ≡ false → is_word (codes "+LAST") t ≡ b → cond a (Some First) (cond b (Some Last) None) ≡ None
  by_last true b f e = absurd (cc)
  by_last false true f e = let k = last_never t e in absurd (cc)
  by_last false false f e = refl

  by_first : (a : Bool) → is_word (codes "+FIRST") t ≡ a → cond a (Some First) (cond (is_word (codes "+LAST") t) (Some Last) None) ≡ None
  by_first true e = let k = first_never t e in absurd (cc)
  by_first false e = by_last false (is_word (codes "+LAST") t) refl refl

-- ---- ways from state to state

pub record Goes (s : Reader) (ps : List Part) (t : Reader) : Type 0 where
  pub goes : (rest : List Part) → ends s (ps ++ rest) ≡ ends t rest

one : (s : Reader) (p : Part) (t : Reader) → shift s p ≡ Some t → Goes s (p ∷ []) t
one s p t h = record { goes = λ rest. ap (λ o. option_and_then (λ u. ends u rest) o) h }

stay : (s : Reader) → Goes s [] s
stay s = record { goes = λ rest. refl }

then : {s t u : Reader} {xs ys : List Part} → Goes s xs t → Goes t ys u → Goes s (xs ++ ys) u
then {s} {t} {u} {xs} {ys} f g = record { goes = λ rest. ap (ends s) (append_assoc xs ys rest) ∙ f.goes (ys ++ rest) ∙ g.goes rest }

by_parts : {s t : Reader} {xs ys : List Part} → xs ≡ ys → Goes s ys t → Goes s xs t
by_parts {s} {t} e g = subst (λ ps. Goes s ps t) (sym e) g

-- ---- the states at which things begin and end

abbrev pub between : List ScatterLoad → List (List ℕ) → Option (List ℕ) → Reader
between loads names home =
    record { stage = Loads; loads = loads; load = load_named []; region = region_named []; names = names; «module» = home; selection = no_selection }

abbrev pub in_load : List ScatterLoad → ScatterLoad → List (List ℕ) → Option (List ℕ) → Reader
in_load loads l names home = record (between loads names home) { stage = Regions; load = l }

abbrev pub in_region : List ScatterLoad → ScatterLoad → ScatterRegion → List (List ℕ) → Option (List ℕ) → Reader
in_region loads l r names home = record (in_load loads l names home) { stage = Groups; region = r }

abbrev pub pending : List ScatterLoad → ScatterLoad → ScatterRegion → List (List ℕ) → Option (List ℕ) → Selection → Reader
pending loads l r names home s = record (in_region loads l r names home) { stage = Behind; selection = s }

-- behind a selection with its edge
abbrev pub after : Edge → List ScatterLoad → ScatterLoad → ScatterRegion → List (List ℕ) → Option (List ℕ) → Selection → Reader
after Plain loads l r names home s = pending loads l r names home s
after First loads l r names home s = at BehindEdge (in_region loads l (with_selection r s) names home)
after Last loads l r names home s = at BehindEdge (in_region loads l (with_selection r s) names home)

-- ---- selections

-- a sign and a selector may follow
abbrev pub Ready : Reader → List ℕ → List ScatterLoad → ScatterLoad → ScatterRegion → List (List ℕ) → Option (List ℕ) → Type 0
Ready u sign loads l r names home =
    (p w : Part) (c : Choice) → p.text ≡ sign → choice_of w.text ≡ Some c
    → Goes u (p ∷ w ∷ []) (pending loads l r names home (record { line = told w.line; «module» = home; choice = c; edge = Plain }))

with_edge : (e : Edge) (loads : List ScatterLoad) (l : ScatterLoad) (r : ScatterRegion) (names : List (List ℕ)) (home : Option (List ℕ)) (s : Selection) (tail : List Part)
    → IsEdge e tail → Goes (pending loads l r names home (record s { edge = Plain })) tail (after e loads l r names home (record s { edge = e }))
unfolding shift
with_edge Plain loads l r names home s tail h = by_parts h (stay (pending loads l r names home (record s { edge = Plain })))
with_edge First loads l r names home s tail (comma, word, all, h, k) =
    let from : Reader = pending loads l r names home (record s { edge = Plain }) in
    by_parts all (then (one from comma (at Word from) (rw h refl)) (one (at Word from) word (after First loads l r names home (record s { edge = First })) (rw k refl)))
with_edge Last loads l r names home s tail (comma, word, all, h, k) =
    let from : Reader = pending loads l r names home (record s { edge = Plain }) in
    by_parts all (then (one from comma (at Word from) (rw h refl)) (one (at Word from) word (after Last loads l r names home (record s { edge = Last })) (rw k refl)))

selection_goes : (u : Reader) (sign : List ℕ) (loads : List ScatterLoad) (l : ScatterLoad) (r : ScatterRegion) (names : List (List ℕ)) (home : Option (List ℕ)) (s : Selection) (ps : List Part)
    → Ready u sign loads l r names home → IsSelection sign home s ps → Goes u ps (after s.edge loads l r names home s)
selection_goes u sign loads l r names home s ps ready i =
    let begun : Goes u (i.before ∷ i.word ∷ []) (pending loads l r names home (record s { edge = Plain })) = rw (i.line, i.«module») (ready i.before i.word s.choice i.signed i.chosen) in
    by_parts i.all (then begun (with_edge s.edge loads l r names home s i.behind i.edge))

comma_ready : (e : Edge) (loads : List ScatterLoad) (l : ScatterLoad) (r : ScatterRegion) (names : List (List ℕ)) (home : Option (List ℕ)) (s : Selection)
    → Ready (after e loads l r names home (record s { edge = e })) (codes ",") loads l (with_selection r (record s { edge = e })) names home
unfolding shift
comma_ready Plain loads l r names home s p w c h k =
    let from : Reader = pending loads l r names home (record s { edge = Plain }) in
    then (one from p (at Word from) (rw h refl)) (one (at Word from) w (pending loads l (with_selection r (record s { edge = Plain })) names home (record { line = told w.line; «module» = home; choice = c; edge = Plain })) (rw (no_edge w.text c k, k) refl))
comma_ready First loads l r names home s p w c h k =
    let from : Reader = after First loads l r names home (record s { edge = First }) in
    then (one from p (at Selector from) (rw h refl)) (one (at Selector from) w (pending loads l (with_selection r (record s { edge = First })) names home (record { line = told w.line; «module» = home; choice = c; edge = Plain })) (rw k refl))
comma_ready Last loads l r names home s p w c h k =
    let from : Reader = after Last loads l r names home (record s { edge = Last }) in
    then (one from p (at Selector from) (rw h refl)) (one (at Selector from) w (pending loads l (with_selection r (record s { edge = Last })) names home (record { line = told w.line; «module» = home; choice = c; edge = Plain })) (rw k refl))

close_goes : (e : Edge) (loads : List ScatterLoad) (l : ScatterLoad) (r : ScatterRegion) (names : List (List ℕ)) (home : Option (List ℕ)) (s : Selection) (p : Part) → p.text ≡ codes ")"
    → Goes (after e loads l r names home (record s { edge = e })) (p ∷ []) (in_region loads l (with_selection r (record s { edge = e })) names home)
unfolding shift
close_goes Plain loads l r names home s p h = one (after Plain loads l r names home (record s { edge = Plain })) p (in_region loads l (with_selection r (record s { edge = Plain })) names home) (rw h refl)
close_goes First loads l r names home s p h = one (after First loads l r names home (record s { edge = First })) p (in_region loads l (with_selection r (record s { edge = First })) names home) (rw h refl)
close_goes Last loads l r names home s p h = one (after Last loads l r names home (record s { edge = Last })) p (in_region loads l (with_selection r (record s { edge = Last })) names home) (rw h refl)

selections_go : (ss : List Selection) (s : Selection) (u : Reader) (sign : List ℕ) (loads : List ScatterLoad) (l : ScatterLoad) (r : ScatterRegion) (names : List (List ℕ)) (home : Option (List ℕ)) (ps : List Part) (close : Part)
    → Ready u sign loads l r names home → AreSelections sign home (s ∷ ss) ps → close.text ≡ codes ")"
    → Goes u (ps ++ close ∷ []) (in_region loads l (record r { selections = r.selections ++ s ∷ ss }) names home)
selections_go [] s u sign loads l r names home ps close ready (front, rest, all, i, none) closed =
    let parts : ps ≡ front = all ∙ ap (λ xs. front ++ xs) none ∙ append-nil front in
    then (by_parts parts (selection_goes u sign loads l r names home s front ready i)) (close_goes s.edge loads l r names home s close closed)
selections_go (next ∷ ss) s u sign loads l r names home ps close ready (front, rest, all, i, more) closed =
    let here = selection_goes u sign loads l r names home s front ready i in
    let there = selections_go ss next (after s.edge loads l r names home s) (codes ",") loads l (with_selection r s) names home rest close (comma_ready s.edge loads l r names home s) more closed in
    let goes = then here there in
    let parts : ps ++ close ∷ [] ≡ front ++ (rest ++ close ∷ []) = ap (λ xs. xs ++ close ∷ []) all ∙ append_assoc front rest (close ∷ []) in
    by_parts parts (subst (λ xs. Goes u (front ++ (rest ++ close ∷ [])) (in_region loads l (record r { selections = xs }) names home)) (append_assoc r.selections (s ∷ []) (next ∷ ss)) goes)

-- ---- groups

paren_ready : (loads : List ScatterLoad) (l : ScatterLoad) (r : ScatterRegion) (names : List (List ℕ)) (home : Option (List ℕ)) → Ready (at Paren (in_region loads l r names home)) (codes "(") loads l r names home
unfolding shift
paren_ready loads l r names home p w c h k =
    let from : Reader = at Paren (in_region loads l r names home) in
    then (one from p (at Selector from) (rw h refl)) (one (at Selector from) w (pending loads l r names home (record { line = told w.line; «module» = home; choice = c; edge = Plain })) (rw k refl))

module_goes : (loads : List ScatterLoad) (l : ScatterLoad) (r : ScatterRegion) (names : List (List ℕ)) (was home : Option (List ℕ)) (p : Part) → module_of p.text ≡ Some home → Goes (in_region loads l r names was) (p ∷ []) (at Paren (in_region loads l r names home))
unfolding shift
module_goes loads l r names was home p h =
    let no_brace = apart (λ x. is_some (module_of x)) (codes "}") refl p.text (some_is (module_of p.text) home h) in
    one (in_region loads l r names was) p (at Paren (in_region loads l r names home)) (rw (no_brace, h) refl)

group_goes : (g : List Selection) (loads : List ScatterLoad) (l : ScatterLoad) (r : ScatterRegion) (names : List (List ℕ)) (was : Option (List ℕ)) (ps : List Part) (i : IsGroup g ps)
    → Goes (in_region loads l r names was) ps (in_region loads l (record r { selections = r.selections ++ g }) names i.home)
group_goes [] loads l r names was ps i = absurd (let some : 0 < 0 = i.some in omega arith)
group_goes (s ∷ ss) loads l r names was ps i =
    by_parts i.all (then (module_goes loads l r names was i.home i.name i.named)
    (selections_go ss s (at Paren (in_region loads l r names i.home)) (codes "(") loads l r names i.home i.inner i.close (paren_ready loads l r names i.home) i.selected i.closed))

-- a way to such a state, for some module
abbrev pub GoesIn : Reader → List Part → (Option (List ℕ) → Reader) → Type 0
GoesIn s ps to = (home : Option (List ℕ)) × Goes s ps (to home)

groups_go : (gs : List (List Selection)) (loads : List ScatterLoad) (l : ScatterLoad) (r : ScatterRegion) (names : List (List ℕ)) (was : Option (List ℕ)) (ps : List Part) → AreOf IsGroup gs ps
    → GoesIn (in_region loads l r names was) ps (in_region loads l (record r { selections = r.selections ++ flat_map (λ g. g) gs }) names)
groups_go [] loads l r names was ps none =
    (was, by_parts none (subst (λ ss. Goes (in_region loads l r names was) [] (in_region loads l (record r { selections = ss }) names was)) (sym (append-nil r.selections)) (stay (in_region loads l r names was))))
groups_go (g ∷ gs) loads l r names was ps (front, rest, all, i, more) =
    let here = group_goes g loads l r names was front i in
    let there = groups_go gs loads l (record r { selections = r.selections ++ g }) names i.home rest more in (
      there.0,
      by_parts all (subst (λ ss. Goes (in_region loads l r names was) (front ++ rest) (in_region loads l (record r { selections = ss }) names there.0)) (append_assoc r.selections g (flat_map (λ g. g) gs)) (then here there.1)),
    )

-- ---- regions

region_opens : (max : Option ℕ) (loads : List ScatterLoad) (l : ScatterLoad) (name : List ℕ) (base : ScatterBase) (names : List (List ℕ)) (home : Option (List ℕ)) (limit : List Part) (p : Part) → IsMax max limit → p.text ≡ codes "{"
    → Goes (at RegionMax (in_region loads l (record (region_named name) { base = base }) names home)) (limit ++ p ∷ []) (in_region loads l (record { name = name; base = base; max = max; selections = [] }) names home)
unfolding shift
region_opens None loads l name base names home limit p none h =
    by_parts (ap (λ xs. xs ++ p ∷ []) none) (one (at RegionMax (in_region loads l (record (region_named name) { base = base }) names home)) p (in_region loads l (record (region_named name) { base = base }) names home) (rw h refl))
region_opens (Some n) loads l name base names home limit p (number, all, k) h =
    let from : Reader = at RegionMax (in_region loads l (record (region_named name) { base = base }) names home) in
    let to : Reader = in_region loads l (record { name = name; base = base; max = Some n; selections = [] }) names home in
    let no_brace = number_apart (codes "{") number.text n refl k in
    by_parts (ap (λ xs. xs ++ p ∷ []) all) (then (one from number (at RegionOpen to) (rw (no_brace, k) refl)) (one (at RegionOpen to) p to (rw h refl)))

region_begins : (loads : List ScatterLoad) (l : ScatterLoad) (name : List ℕ) (base : ScatterBase) (names : List (List ℕ)) (home : Option (List ℕ)) (p q : Part) → is_region_name name ≡ true → p.text ≡ name → base_of q.text ≡ Some base
    → Goes (in_load loads l names home) (p ∷ q ∷ []) (at RegionMax (in_region loads l (record (region_named name) { base = base }) (names ++ name ∷ []) home))
unfolding shift
region_begins loads l name base names home p q named e k =
    let no_brace = apart is_region_name (codes "}") refl name named in
    let mid : Reader = at RegionBase (in_region loads l (region_named name) (names ++ name ∷ []) home) in
    then (one (in_load loads l names home) p mid (rw (e, no_brace, named) refl))
    (one mid q (at RegionMax (in_region loads l (record (region_named name) { base = base }) (names ++ name ∷ []) home)) (rw k refl))

region_closes : (loads : List ScatterLoad) (l : ScatterLoad) (r : ScatterRegion) (names : List (List ℕ)) (home : Option (List ℕ)) (p : Part) → p.text ≡ codes "}" → Goes (in_region loads l r names home) (p ∷ []) (in_load loads (with_region l r) names home)
unfolding shift
region_closes loads l r names home p h = one (in_region loads l r names home) p (in_load loads (with_region l r) names home) (rw h refl)

braced_parts : (first base open_ close : Part) (limit body : List Part) → first ∷ base ∷ (limit ++ open_ ∷ (body ++ close ∷ [])) ≡ (first ∷ base ∷ []) ++ ((limit ++ open_ ∷ []) ++ (body ++ close ∷ []))
braced_parts first base open_ close limit body = ap (λ xs. first ∷ base ∷ xs) (sym (append_assoc limit (open_ ∷ []) (body ++ close ∷ [])))

region_goes : (loads : List ScatterLoad) (l : ScatterLoad) (r : ScatterRegion) (names : List (List ℕ)) (was : Option (List ℕ)) (ps : List Part) → IsRegion r ps
    → GoesIn (in_load loads l names was) ps (in_load loads (with_region l r) (names ++ r.name ∷ []))
region_goes loads l r names was ps i =
    let b = i.braced in
    let more : List (List ℕ) = names ++ r.name ∷ [] in
    let groups = groups_go i.groups loads l (record { name = r.name; base = r.base; max = r.max; selections = [] }) more was b.body b.filled in
    let filled : Goes (in_region loads l (record { name = r.name; base = r.base; max = r.max; selections = [] }) more was) b.body (in_region loads l r more groups.0) =
    subst (λ ss. Goes (in_region loads l (record { name = r.name; base = r.base; max = r.max; selections = [] }) more was) b.body (in_region loads l (record r { selections = ss }) more groups.0)) (sym i.selections) groups.1 in (
      groups.0,
      by_parts (b.all ∙ braced_parts b.first b.base b.open_ b.close b.limit b.body)
          (then (region_begins loads l r.name r.base names was b.first b.base b.named b.name_is b.based)
          (then (region_opens r.max loads l r.name r.base more was b.limit b.open_ b.limited b.opened)
          (then filled (region_closes loads l r more groups.0 b.close b.closed)))),
    )

-- the names behind things of this kind
abbrev pub GoesOn : Reader → List Part → (List (List ℕ) → Option (List ℕ) → Reader) → Type 0
GoesOn s ps to = (names : List (List ℕ)) × (home : Option (List ℕ)) × Goes s ps (to names home)

regions_go : (rs : List ScatterRegion) (loads : List ScatterLoad) (l : ScatterLoad) (names : List (List ℕ)) (was : Option (List ℕ)) (ps : List Part) → AreOf IsRegion rs ps
    → GoesOn (in_load loads l names was) ps (in_load loads (record l { regions = l.regions ++ rs }))
regions_go [] loads l names was ps none =
    (names, was, by_parts none (subst (λ rs. Goes (in_load loads l names was) [] (in_load loads (record l { regions = rs }) names was)) (sym (append-nil l.regions)) (stay (in_load loads l names was))))
regions_go (r ∷ rs) loads l names was ps (front, rest, all, i, more) =
    let here = region_goes loads l r names was front i in
    let there = regions_go rs loads (with_region l r) (names ++ r.name ∷ []) here.0 rest more in (
      there.0,
      there.1,
      by_parts all (subst (λ xs. Goes (in_load loads l names was) (front ++ rest) (in_load loads (record l { regions = xs }) there.0 there.1)) (append_assoc l.regions (r ∷ []) rs) (then here.1 there.2)),
    )

-- ---- load regions

load_opens : (max : Option ℕ) (loads : List ScatterLoad) (name : List ℕ) (base : ℕ) (names : List (List ℕ)) (home : Option (List ℕ)) (limit : List Part) (p : Part) → IsMax max limit → p.text ≡ codes "{"
    → Goes (at LoadMax (in_load loads (record (load_named name) { base = base }) names home)) (limit ++ p ∷ []) (in_load loads (record { name = name; base = base; max = max; regions = [] }) names home)
unfolding shift
load_opens None loads name base names home limit p none h =
    by_parts (ap (λ xs. xs ++ p ∷ []) none) (one (at LoadMax (in_load loads (record (load_named name) { base = base }) names home)) p (in_load loads (record (load_named name) { base = base }) names home) (rw h refl))
load_opens (Some n) loads name base names home limit p (number, all, k) h =
    let from : Reader = at LoadMax (in_load loads (record (load_named name) { base = base }) names home) in
    let to : Reader = in_load loads (record { name = name; base = base; max = Some n; regions = [] }) names home in
    let no_brace = number_apart (codes "{") number.text n refl k in
    by_parts (ap (λ xs. xs ++ p ∷ []) all) (then (one from number (at LoadOpen to) (rw (no_brace, k) refl)) (one (at LoadOpen to) p to (rw h refl)))

load_begins : (loads : List ScatterLoad) (name : List ℕ) (base : ℕ) (names : List (List ℕ)) (home : Option (List ℕ)) (p q : Part) → is_region_name name ≡ true → p.text ≡ name → number_of q.text ≡ Some base
    → Goes (between loads names home) (p ∷ q ∷ []) (at LoadMax (in_load loads (record (load_named name) { base = base }) names home))
unfolding shift
load_begins loads name base names home p q named e k =
    let mid : Reader = at LoadBase (in_load loads (load_named name) names home) in
    then (one (between loads names home) p mid (rw (e, named) refl)) (one mid q (at LoadMax (in_load loads (record (load_named name) { base = base }) names home)) (rw k refl))

load_closes : (loads : List ScatterLoad) (l : ScatterLoad) (names : List (List ℕ)) (home : Option (List ℕ)) (p : Part) → p.text ≡ codes "}" → Goes (in_load loads l names home) (p ∷ []) (between (loads ++ l ∷ []) names home)
unfolding shift
load_closes loads l names home p h = one (in_load loads l names home) p (between (loads ++ l ∷ []) names home) (rw h refl)

load_goes : (loads : List ScatterLoad) (l : ScatterLoad) (names : List (List ℕ)) (was : Option (List ℕ)) (ps : List Part) → IsLoad l ps → GoesOn (between loads names was) ps (between (loads ++ l ∷ []))
load_goes loads l names was ps b =
    let regions = regions_go l.regions loads (record { name = l.name; base = l.base; max = l.max; regions = [] }) names was b.body b.filled in (
      regions.0,
      regions.1,
      by_parts (b.all ∙ braced_parts b.first b.base b.open_ b.close b.limit b.body)
          (then (load_begins loads l.name l.base names was b.first b.base b.named b.name_is b.based)
          (then (load_opens l.max loads l.name l.base names was b.limit b.open_ b.limited b.opened)
          (then regions.2 (load_closes loads l regions.0 regions.1 b.close b.closed)))),
    )

loads_go : (ls loads : List ScatterLoad) (names : List (List ℕ)) (was : Option (List ℕ)) (ps : List Part) → AreOf IsLoad ls ps → GoesOn (between loads names was) ps (between (loads ++ ls))
loads_go [] loads names was ps none =
    (names, was, by_parts none (subst (λ xs. Goes (between loads names was) [] (between xs names was)) (sym (append-nil loads)) (stay (between loads names was))))
loads_go (l ∷ ls) loads names was ps (front, rest, all, i, more) =
    let here = load_goes loads l names was front i in
    let there = loads_go ls (loads ++ l ∷ []) here.0 here.1 rest more in (
      there.0,
      there.1,
      by_parts all (subst (λ xs. Goes (between loads names was) (front ++ rest) (between xs there.0 there.1)) (append_assoc loads (l ∷ []) ls) (then here.2 there.2)),
    )

pub spelled : (ls : List ScatterLoad) (ps : List Part) → AreOf IsLoad ls ps → ends beginning ps ≡ Some ls
spelled ls ps are =
    let g = loads_go ls [] [] None ps are in
    ap (ends beginning) (sym (append-nil ps)) ∙ g.2.goes []
