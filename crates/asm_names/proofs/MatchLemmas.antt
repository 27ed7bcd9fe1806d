-- The entries of lines, and those of the source's definitions.
use Rattle.std.proofs.Common.{◌≡◌, ℕ, List, [], ◌∷◌, ◌++◌, map, false, refl, sym, ◌∙◌, ap, subst, Option, Some, None}
use Rattle.std.specs.List.{list_any, flat_map, AllByRecursion}
use Rattle.std.proofs.lemmas.List.{flat_map_more, map-append}
use Rattle.asm_model.specs.declared.exprs.Expr.{Expr}
use Rattle.asm_model.specs.declared.exprs.Part.{Part}
use Rattle.asm_model.specs.declared.names.LaidName.{LaidName}
use Rattle.asm_model.specs.declared.statements.Statement.{Statement}
use Rattle.asm_model.specs.AtLine.{SourceLine, HoldsEach, with_names}
use Rattle.asm_model.specs.Directives.{or_else}
use Rattle.asm_model.specs.Forms.{same}
use Rattle.asm_model.specs.Grammar.{Tree, postfix, IsSpelled}
use Rattle.asm_model.specs.Meaning.{named_in, entry_value, meaning}
use Rattle.asm_model.proofs.LineLemmas.{each_append}
use Rattle.asm_model.specs.Entries.{equal_entry}
use Rattle.asm_model.specs.Labels.{Defined, Unnamed, Label, Equal, MapField, RegisterName, defined_by, imported_in, imported_entries}
use Rattle.asm_model.specs.Laid.{LaidLine, tree_equated, definition_of, imported_lines, laid_behind, laid_of, entries_with, all_entries}
use Rattle.asm_model.specs.Trees.{tree_of}
use Rattle.asm_model.proofs.TreeLemmas.{trees_read_back}
use Rattle.asm_model.specs.Sound.{HaveNoPlaces, ArePlain, IsPlain}
use Rattle.layout_laws.proofs.EqualLemmas.{equal_of, all_equals, own_place}
use Rattle.layout_laws.proofs.FinalLemmas.{each_split}
use Rattle.layout_laws.proofs.NamedLemmas.{sofar, own_of, imports_of, with_statement, definition_most, most_lacks}
use Rattle.layout_laws.proofs.RoundLemmas.{ResultIs, named_joined}
use Rattle.layout_laws.proofs.SoundLemmas.{any_parts}
use Rattle.asm_names.specs.Steps.{one_entry}
use Rattle.asm_names.specs.declared.placed_lines.PlacedLine.{PlacedLine}
use Rattle.asm_names.specs.PlacedLines.{IsLine, line_of}
use Rattle.asm_names.specs.Source.{AreEach, IsReadDefined, AreRead, own_entries, line_entries, Owed, owed_by, owed_in, equal_pair}
use Rattle.asm_names.proofs.OnceLemmas.{EachFound}
use Rattle.base_lemmas.proofs.BaseLemmas.{all_append}

-- ---- one line

-- what it defines, by the line's own fields
abbrev made_of : List LaidName → List LaidName → PlacedLine → Defined → List LaidName
made_of N names x y = entries_with N (line_of x) (definition_of names y x.place.area x.place.offset (Some x.size) x.place.thumb_label x.place.map)

made_own : (N : List LaidName) (d : List LaidName) (s : Statement) (ss : List Statement) (x : PlacedLine)
    → IsLine x (laid_behind d s (laid_of d ss)) (laid_of d ss) → made_of N d x (defined_by s) ≡ own_of N d s ss
made_own N d s ss x is =
    let p = is.place in rw (p.area, p.offset, is.size, p.thumb, p.thumb_label, p.map) refl

own_same : (known N : List LaidName) (names : List LaidName) (x : PlacedLine) (y : Defined)
    → ((name : List ℕ) (e : Expr) → y ≡ Equal name e → one_entry (named_in name known) ≡ made_of N names x y)
    → own_entries known x y ≡ made_of N names x y
own_same known N names x (Equal name e) h = h name e refl
own_same known N names x y h = refl

own_lacking : (N : List LaidName) (names : List LaidName) (x : PlacedLine) (q : List ℕ) (y : Defined)
    → list_any (λ (e : List ℕ × Expr). same q e.0) (equal_of y) ≡ false → named_in q (own_entries [] x y) ≡ named_in q (made_of N names x y)
own_lacking N names x q (Equal name e) h =
    sym (most_lacks q (name ∷ []) (made_of N names x (Equal name e))
    (definition_most N (line_of x) names (Equal name e) x.place.area x.place.offset (Some x.size) x.place.thumb_label x.place.map) h)
own_lacking N names x q y h = refl

own_held : (M N : List LaidName) (names : List LaidName) (x : PlacedLine) (y : Defined)
    → HoldsEach M (made_of N names x y) → HoldsEach M (own_entries [] x y)
own_held M N names x (Equal name e) h = tt
own_held M N names x y h = h

-- an entry is its own symbol, or has none
abbrev pub EachOwn : List LaidName → Type 0
EachOwn [] = Unit {0}
EachOwn (n ∷ ns) = ResultIs (λ s. s ≡ n.name) (entry_value n) × EachOwn ns

own_joined : (ns ms : List LaidName) → EachOwn ns → EachOwn ms → EachOwn (ns ++ ms)
own_joined [] ms h k = k
own_joined (n ∷ ns) ms h k = (h.0, own_joined ns ms h.1 k)

own_symbols : (x : PlacedLine) (y : Defined) → EachOwn (own_entries [] x y)
own_symbols x Unnamed = tt
own_symbols x (Label name) = (own_place name, tt)
own_symbols x (Equal name e) = tt
own_symbols x (MapField name) = (tt, tt)
own_symbols x (RegisterName name r) = (tt, tt)

import_symbols : (o : Option (List ℕ)) → EachOwn (imported_entries o)
import_symbols None = tt
import_symbols (Some name) = (own_place name, tt)

imports_same : (N : List LaidName) (s : Statement) (before : List LaidLine) (o : Option (List ℕ))
    → imported_entries o ≡ all_entries N (imported_lines s before o)
imports_same N s before None = refl
imports_same N s before (Some name) = refl

entries_more : (known : List LaidName) (xs front : List PlacedLine) (x : PlacedLine) → xs ≡ front ++ x ∷ []
    → flat_map (line_entries known) xs ≡ flat_map (line_entries known) front ++ line_entries known x
entries_more known xs front x e = ap (flat_map (line_entries known)) e ∙ sym (flat_map_more (line_entries known) [] front x)

entries_at : (known : List LaidName) (x : PlacedLine) (s : Statement) → x.statement.now ≡ s
    → line_entries known x ≡ own_entries known x (defined_by s) ++ imported_entries (imported_in s.what)
entries_at known x s e = ap (λ (z : Statement). own_entries known x (defined_by z) ++ imported_entries (imported_in z.what)) e

-- ---- all lines

-- where names for expressions have their entries, all have theirs
pub lines_same : (known N : List LaidName) (d : List LaidName) (ss : List Statement) (xs : List PlacedLine)
    → AreEach (laid_of d ss) xs → EachFound known N d ss → flat_map (line_entries known) xs ≡ sofar N d ss
lines_same known N d [] xs h found = ap (flat_map (line_entries known)) h
lines_same known N d (s ∷ ss) xs h found =
    let front = h.0 in
    let x = h.1 in
    let made = made_own N d s ss x h.3 in
    let own : own_entries known x (defined_by s) ≡ own_of N d s ss =
    own_same known N d x (defined_by s) (λ name e y. found.0 name e y ∙ sym made) ∙ made in
    entries_more known xs front x h.2
    ∙ ap (λ z. z ++ line_entries known x) (lines_same known N d ss front h.4 found.1)
    ∙ ap (λ z. sofar N d ss ++ z)
    (entries_at known x s h.3.statement
    ∙ ap (λ z. z ++ imported_entries (imported_in s.what)) own
    ∙ ap (λ z. own_of N d s ss ++ z) (imports_same N s (laid_of d ss) (imported_in s.what)))
    ∙ sym (with_statement N d s ss)

-- names that aren't for expressions have them from the start
pub lines_lacking : (N : List LaidName) (d : List LaidName) (q : List ℕ) (ss : List Statement) (xs : List PlacedLine)
    → AreEach (laid_of d ss) xs → list_any (λ (e : List ℕ × Expr). same q e.0) (all_equals ss) ≡ false
    → named_in q (flat_map (line_entries []) xs) ≡ named_in q (sofar N d ss)
lines_lacking N d q [] xs h free = ap (λ z. named_in q (flat_map (line_entries []) z)) h
lines_lacking N d q (s ∷ ss) xs h free =
    let front = h.0 in
    let x = h.1 in
    let p = any_parts (λ (e : List ℕ × Expr). same q e.0) (all_equals ss) (equal_of (defined_by s)) free in
    let first = flat_map (line_entries []) front in
    let own = own_entries [] x (defined_by s) in
    let imports = imported_entries (imported_in s.what) in
    ap (named_in q) (entries_more [] xs front x h.2 ∙ ap (λ z. first ++ z) (entries_at [] x s h.3.statement))
    ∙ named_joined q first (own ++ imports)
    ∙ ap (λ o. or_else o (named_in q (own ++ imports))) (lines_lacking N d q ss front h.4 p.0)
    ∙ ap (or_else (named_in q (sofar N d ss)))
    (named_joined q own imports
    ∙ ap (λ o. or_else o (named_in q imports))
    (own_lacking N d x q (defined_by s) p.1 ∙ ap (named_in q) (made_own N d s ss x h.3))
    ∙ ap (λ z. or_else (named_in q (own_of N d s ss)) (named_in q z)) (imports_same N s (laid_of d ss) (imported_in s.what))
    ∙ sym (named_joined q (own_of N d s ss) (imports_of N d s ss)))
    ∙ sym (named_joined q (sofar N d ss) (own_of N d s ss ++ imports_of N d s ss))
    ∙ ap (named_in q) (sym (with_statement N d s ss))

-- each entry from the start is one of the source
pub lines_held : (M N : List LaidName) (d : List LaidName) (ss : List Statement) (xs : List PlacedLine)
    → AreEach (laid_of d ss) xs → HoldsEach M (sofar N d ss) → HoldsEach M (flat_map (line_entries []) xs)
lines_held M N d [] xs h held = subst (λ z. HoldsEach M (flat_map (line_entries []) z)) (sym h) tt
lines_held M N d (s ∷ ss) xs h held =
    let front = h.0 in
    let x = h.1 in
    let p = each_split M (sofar N d ss) (own_of N d s ss ++ imports_of N d s ss) (subst (HoldsEach M) (with_statement N d s ss) held) in
    let r = each_split M (own_of N d s ss) (imports_of N d s ss) p.1 in
    let own = own_held M N d x (defined_by s) (subst (HoldsEach M) (sym (made_own N d s ss x h.3)) r.0) in
    let imports = subst (HoldsEach M) (sym (imports_same N s (laid_of d ss) (imported_in s.what))) r.1 in
    subst (HoldsEach M) (sym (entries_more [] xs front x h.2 ∙ ap (λ z. flat_map (line_entries []) front ++ z) (entries_at [] x s h.3.statement)))
    (each_append M (flat_map (line_entries []) front) (own_entries [] x (defined_by s) ++ imported_entries (imported_in s.what))
    (lines_held M N d ss front h.4 p.0)
    (each_append M (own_entries [] x (defined_by s)) (imported_entries (imported_in s.what)) own imports))

pub lines_own : (d : List LaidName) (ss : List Statement) (xs : List PlacedLine) → AreEach (laid_of d ss) xs → EachOwn (flat_map (line_entries []) xs)
lines_own d [] xs h = subst (λ z. EachOwn (flat_map (line_entries []) z)) (sym h) tt
lines_own d (s ∷ ss) xs h =
    let front = h.0 in
    let x = h.1 in
    subst EachOwn (sym (entries_more [] xs front x h.2))
    (own_joined (flat_map (line_entries []) front) (line_entries [] x) (lines_own d ss front h.4)
    (own_joined (own_entries [] x (defined_by x.statement.now)) (imported_entries (imported_in x.statement.now.what))
    (own_symbols x (defined_by x.statement.now))
    (import_symbols (imported_in x.statement.now.what))))

-- ---- names for expressions

owed_more : (xs front : List PlacedLine) (x : PlacedLine) (s : Statement) → xs ≡ front ++ x ∷ [] → x.statement.now ≡ s
    → flat_map owed_in xs ≡ flat_map owed_in front ++ owed_by x (defined_by s)
owed_more xs front x s e is =
    ap (flat_map owed_in) e ∙ sym (flat_map_more owed_in [] front x) ∙ ap (λ (z : Statement). flat_map owed_in front ++ owed_by x (defined_by z)) is

pairs_of_line : (x : PlacedLine) (y : Defined) → map equal_pair (owed_by x y) ≡ equal_of y
pairs_of_line x (Equal name e) = refl
pairs_of_line x y = refl

pub owed_pairs : (d : List LaidName) (ss : List Statement) (xs : List PlacedLine) → AreEach (laid_of d ss) xs
    → map equal_pair (flat_map owed_in xs) ≡ all_equals ss
owed_pairs d [] xs h = ap (λ z. map equal_pair (flat_map owed_in z)) h
owed_pairs d (s ∷ ss) xs h =
    let front = h.0 in
    let x = h.1 in
    ap (map equal_pair) (owed_more xs front x s h.2 h.3.statement)
    ∙ map-append equal_pair (flat_map owed_in front) (owed_by x (defined_by s))
    ∙ ap (λ z. z ++ map equal_pair (owed_by x (defined_by s))) (owed_pairs d ss front h.4)
    ∙ ap (λ z. all_equals ss ++ z) (pairs_of_line x (defined_by s))

-- what is known of a name for an expression
pub record Fits (N names : List LaidName) (o : Owed) : Type 0 where
  pub parts : List Part
  pub tree : Tree
  pub spelled : IsSpelled parts tree
  pub items : o.value.items ≡ postfix tree
  pub is : tree_of o.value ≡ Some tree
  pub plain : HaveNoPlaces o.value.items
  pub found : one_entry (named_in o.name N) ≡ equal_entry names o.line.place.area o.name (meaning (with_names (line_of o.line) N) tree) ∷ []

made_equal : (N : List LaidName) (f : SourceLine) (names : List LaidName) (area : Option ℕ) (name : List ℕ) (o : Option Tree) (t : Tree) → o ≡ Some t
    → entries_with N f (tree_equated names area name o) ≡ equal_entry names area name (meaning (with_names f N) t) ∷ []
made_equal N f names area name o t e = ap (λ z. entries_with N f (tree_equated names area name z)) e

fits_line : (N d : List LaidName) (ss : List Statement) (s : Statement) (x : PlacedLine) → IsLine x (laid_behind d s (laid_of d ss)) (laid_of d ss)
    → IsPlain (defined_by s) → IsReadDefined (defined_by s)
    → ((name : List ℕ) (e : Expr) → defined_by s ≡ Equal name e → one_entry (named_in name N) ≡ own_of N d s ss)
    → (y : Defined) → defined_by s ≡ y → AllByRecursion (Fits N d) (owed_by x y)
fits_line N d ss s x is plain read found (Equal name v) e =
    let spelled = subst IsReadDefined e read in
    let tree = trees_read_back spelled.0 spelled.1 v spelled.2 spelled.3 in (
      record {
        parts = spelled.0;
        tree = spelled.1;
        spelled = spelled.2;
        items = spelled.3;
        is = tree;
        plain = subst IsPlain e plain;
        found =
            found name v e ∙ sym (made_own N d s ss x is) ∙ ap (made_of N d x) e
            ∙ made_equal N (line_of x) d x.place.area name (tree_of v) spelled.1 tree;
      },
      tt,
    )
fits_line N d ss s x is plain read found y e = tt

pub owed_fit : (N d : List LaidName) (ss : List Statement) (xs : List PlacedLine) → AreEach (laid_of d ss) xs → ArePlain ss → AreRead ss
    → EachFound N N d ss → AllByRecursion (Fits N d) (flat_map owed_in xs)
owed_fit N d [] xs h plain read found = subst (λ z. AllByRecursion (Fits N d) (flat_map owed_in z)) (sym h) tt
owed_fit N d (s ∷ ss) xs h plain read found =
    let front = h.0 in
    let x = h.1 in
    subst (AllByRecursion (Fits N d)) (sym (owed_more xs front x s h.2 h.3.statement))
    (all_append (Fits N d) (flat_map owed_in front) (owed_by x (defined_by s))
    (owed_fit N d ss front h.4 plain.1 read.1 found.1)
    (fits_line N d ss s x h.3 plain.0 read.0 found.0 (defined_by s) refl))
