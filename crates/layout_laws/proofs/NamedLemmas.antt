-- In a source without faults each entry is the first with its name, and no other names have entries.
use Rattle.std.proofs.Common.{◌≡◌, ℕ, List, [], ◌∷◌, ◌++◌, Bool, true, false, cond, refl, sym, ◌∙◌, ap, subst, Option, Some, None, append_assoc}
use Rattle.std.specs.List.{list_any}
use Rattle.std.proofs.lemmas.Bool.{or_parts}
use Rattle.asm_model.specs.declared.names.LaidName.{LaidName}
use Rattle.asm_model.specs.declared.statements.Statement.{Statement}
use Rattle.asm_model.specs.AtLine.{SourceLine, with_names, HoldsEach}
use Rattle.asm_model.specs.Directives.{or_else}
use Rattle.asm_model.specs.Forms.{same}
use Rattle.asm_model.specs.Grammar.{Tree}
use Rattle.asm_model.specs.Meaning.{named_in, meaning}
use Rattle.asm_model.proofs.LineLemmas.{each_more, each_append}
use Rattle.asm_model.proofs.WordLemmas.{same_refl}
use Rattle.asm_model.specs.Before.{is_thumb_label}
use Rattle.asm_model.specs.Entries.{equal_entry, label_entry, imported_entry, field_entry, register_entry, later_entry}
use Rattle.asm_model.specs.Labels.{Defined, Unnamed, Label, Equal, MapField, RegisterName, defined_by, imported_in, declared_entries, declared_imports, declared_names}
use Rattle.asm_model.specs.Laid.{LaidLine, tree_equated, definition_of, imported_lines, laid_behind, laid_of, entries_with, all_entries, source_lines}
use Rattle.asm_model.specs.LayoutKinds.{own_name, listed, names_in, names_behind, is_repeated}
use Rattle.asm_model.specs.Trees.{tree_of}
use Rattle.layout_laws.proofs.EqualLemmas.{equal_made}
use Rattle.layout_laws.proofs.RoundLemmas.{named_joined}
use Rattle.layout_laws.proofs.SoundLemmas.{EachSound, same_flip, any_parts, or_none}

-- ---- entries of statements

-- the entries of a source's lines with these names
abbrev pub sofar : List LaidName → List LaidName → List Statement → List LaidName
sofar N d ss = all_entries N (source_lines (laid_of d ss))

-- the entry of a statement's label, and of the name that it imports
abbrev pub own_of : List LaidName → List LaidName → Statement → List Statement → List LaidName
own_of N d s ss =
    entries_with N (laid_behind d s (laid_of d ss)).line (laid_behind d s (laid_of d ss)).line.definition

abbrev pub imports_of : List LaidName → List LaidName → Statement → List Statement → List LaidName
imports_of N d s ss = all_entries N (imported_lines s (laid_of d ss) (imported_in s.what))

pub entries_joined : (N : List LaidName) (ls ms : List SourceLine) → all_entries N (ls ++ ms) ≡ all_entries N ls ++ all_entries N ms
entries_joined N [] ms = refl
entries_joined N (l ∷ ls) ms =
    ap (λ z. entries_with N l l.definition ++ z) (entries_joined N ls ms)
    ∙ sym (append_assoc (entries_with N l l.definition) (all_entries N ls) (all_entries N ms))

pub with_statement : (N : List LaidName) (d : List LaidName) (s : Statement) (ss : List Statement)
    → sofar N d (s ∷ ss) ≡ sofar N d ss ++ (own_of N d s ss ++ imports_of N d s ss)
with_statement N d s ss =
    entries_joined N (source_lines (laid_of d ss)) ((laid_behind d s (laid_of d ss)).line ∷ imported_lines s (laid_of d ss) (imported_in s.what))

-- one entry of this one name, or none
abbrev pub AtMost : List (List ℕ) → List LaidName → Type 0
AtMost ps [] = Unit {0}
AtMost ps (n ∷ []) = ps ≡ n.name ∷ []
AtMost ps (n ∷ m ∷ ns) = ⊥

pub tree_most : (N : List LaidName) (l : SourceLine) (names : List LaidName) (area : Option ℕ) (name : List ℕ) (o : Option Tree)
    → AtMost (name ∷ []) (entries_with N l (tree_equated names area name o))
tree_most N l names area name None = tt
tree_most N l names area name (Some t) = ap (λ z. z ∷ []) (sym (equal_made names area name (meaning (with_names l N) t)).0)

pub definition_most : (N : List LaidName) (l : SourceLine) (names : List LaidName) (x : Defined) (area : Option ℕ) (offset : ℕ) (size : Option ℕ) (thumb : Bool)
    (m : ℕ)
    → AtMost (own_name x) (entries_with N l (definition_of names x area offset size thumb m))
definition_most N l names Unnamed area offset size thumb m = tt
definition_most N l names (Equal name e) area offset size thumb m = tree_most N l names area name (tree_of e)
definition_most N l names x area offset size thumb m = refl

pub own_most : (N : List LaidName) (d : List LaidName) (s : Statement) (ss : List Statement) → AtMost (own_name (defined_by s)) (own_of N d s ss)
own_most N d s ss = definition_most N (laid_behind d s (laid_of d ss)).line d (defined_by s) _ _ _ _ _

pub import_most : (N : List LaidName) (s : Statement) (before : List LaidLine) (o : Option (List ℕ))
    → AtMost (listed o) (all_entries N (imported_lines s before o))
import_most N s before None = tt
import_most N s before (Some name) = refl

-- ---- names without entries

pub most_lacks : (q : List ℕ) (ps : List (List ℕ)) (ns : List LaidName) → AtMost ps ns → list_any (same q) ps ≡ false → named_in q ns ≡ None
most_lacks q ps [] h k = refl
most_lacks q ps (n ∷ []) h k =
    let x : list_any (same q) (n.name ∷ []) ≡ false = subst (λ z. list_any (same q) z ≡ false) h k in
    ap (λ b. cond b (Some n) None) (same_flip q n.name (or_parts (same q n.name) false x).0)
most_lacks q ps (n ∷ m ∷ ns) h k = absurd h

pub none_joined : (q : List ℕ) (xs ys : List LaidName) → named_in q xs ≡ None → named_in q ys ≡ None → named_in q (xs ++ ys) ≡ None
none_joined q xs ys h k = named_joined q xs ys ∙ ap (λ o. or_else o (named_in q ys)) h ∙ k

pub lacks : (N : List LaidName) (d : List LaidName) (q : List ℕ) (ss : List Statement) → list_any (same q) (names_behind ss) ≡ false
    → named_in q (sofar N d ss) ≡ None
lacks N d q [] h = refl
lacks N d q (s ∷ ss) h =
    let p = any_parts (same q) (names_in s) (names_behind ss) h in
    let r = any_parts (same q) (own_name (defined_by s)) (listed (imported_in s.what)) p.0 in
    ap (named_in q) (with_statement N d s ss)
    ∙ none_joined q (sofar N d ss) (own_of N d s ss ++ imports_of N d s ss) (lacks N d q ss p.1)
    (none_joined q (own_of N d s ss) (imports_of N d s ss) (most_lacks q (own_name (defined_by s)) (own_of N d s ss) (own_most N d s ss) r.0)
    (most_lacks q (listed (imported_in s.what)) (imports_of N d s ss) (import_most N s (laid_of d ss) (imported_in s.what)) r.1))

-- ---- each entry is the first with its name

pub later_new : (ps bs : List (List ℕ)) (q : List ℕ) → is_repeated bs (ps ++ q ∷ []) ≡ false → list_any (same q) bs ≡ false
later_new [] bs q h = (or_parts (list_any (same q) bs) false h).0
later_new (p ∷ ps) bs q h =
    let k = or_parts (list_any (same p) bs) (is_repeated (p ∷ bs) (ps ++ q ∷ [])) h in
    (or_parts (same q p) (list_any (same q) bs) (later_new ps (p ∷ bs) q k.1)).1

pub found_first : (n : LaidName) (ns : List LaidName) → named_in n.name (n ∷ ns) ≡ Some n
found_first n ns = ap (λ b. cond b (Some n) (named_in n.name ns)) (same_refl n.name)

pub found_behind : (A E : List LaidName) (n : LaidName) → named_in n.name A ≡ None → named_in n.name E ≡ Some n → named_in n.name (A ++ E) ≡ Some n
found_behind A E n h k = named_joined n.name A E ∙ ap (λ o. or_else o (named_in n.name E)) h ∙ k

pub statement_holds : (A : List LaidName) (bs ps qs : List (List ℕ)) (ns ms : List LaidName) → AtMost ps ns → AtMost qs ms → is_repeated bs (ps ++ qs) ≡ false
    → ((q : List ℕ) → list_any (same q) bs ≡ false → named_in q A ≡ None) → HoldsEach (A ++ (ns ++ ms)) (ns ++ ms)
statement_holds A bs ps qs [] [] a b h f = tt
statement_holds A bs ps qs [] (m ∷ []) a b h f =
    let x = later_new ps bs m.name (subst (λ z. is_repeated bs (ps ++ z) ≡ false) b h) in
    (found_behind A (m ∷ []) m (f m.name x) (found_first m []), tt)
statement_holds A bs ps qs (n ∷ []) [] a b h f =
    let x : is_repeated bs (n.name ∷ qs) ≡ false = subst (λ z. is_repeated bs (z ++ qs) ≡ false) a h in
    (found_behind A (n ∷ []) n (f n.name (or_parts (list_any (same n.name) bs) (is_repeated (n.name ∷ bs) qs) x).0) (found_first n []), tt)
statement_holds A bs ps qs (n ∷ []) (m ∷ []) a b h f =
    let x : is_repeated bs (n.name ∷ m.name ∷ []) ≡ false =
    subst (λ z. is_repeated bs (n.name ∷ z) ≡ false) b (subst (λ z. is_repeated bs (z ++ qs) ≡ false) a h) in
    let p = or_parts (list_any (same n.name) bs) (is_repeated (n.name ∷ bs) (m.name ∷ [])) x in
    let r = or_parts (same m.name n.name) (list_any (same m.name) bs) (later_new [] (n.name ∷ bs) m.name p.1) in (
      found_behind A (n ∷ m ∷ []) n (f n.name p.0) (found_first n (m ∷ [])),
      (
        found_behind A (n ∷ m ∷ []) m (f m.name r.1) (ap (λ b. cond b (Some n) (named_in m.name (m ∷ []))) (same_flip m.name n.name r.0) ∙ found_first m []),
        tt,
      ),
    )
statement_holds A bs ps qs (n ∷ k ∷ ns) ms a b h f = absurd a
statement_holds A bs ps qs [] (m ∷ k ∷ ms) a b h f = absurd b
statement_holds A bs ps qs (n ∷ []) (m ∷ k ∷ ms) a b h f = absurd b

pub sofar_holds : (N : List LaidName) (d : List LaidName) (S : List (List ℕ)) (ss : List Statement) → EachSound S ss
    → HoldsEach (sofar N d ss) (sofar N d ss)
sofar_holds N d S [] h = tt
sofar_holds N d S (s ∷ ss) h =
    let A = sofar N d ss in
    let E = own_of N d s ss ++ imports_of N d s ss in
    subst (λ z. HoldsEach z z) (sym (with_statement N d s ss))
    (each_append (A ++ E) A E (each_more A E A (sofar_holds N d S ss h.2))
    (statement_holds A (names_behind ss) (own_name (defined_by s)) (listed (imported_in s.what)) (own_of N d s ss) (imports_of N d s ss)
    (own_most N d s ss) (import_most N s (laid_of d ss) (imported_in s.what)) h.0 (λ q. lacks N d q ss)))

-- ---- names that are not declared

pub none_parts : (q : List ℕ) (xs ys : List LaidName) → named_in q (xs ++ ys) ≡ None → (named_in q xs ≡ None) × (named_in q ys ≡ None)
none_parts q xs ys h = or_none (named_in q xs) (named_in q ys) (sym (named_joined q xs ys) ∙ h)

pub cond_none : (b : Bool) (x y : LaidName) → cond b (Some x) None ≡ None → cond b (Some y) None ≡ None
cond_none true x y h = absurd (cc)
cond_none false x y h = refl

pub tree_undeclared : (q : List ℕ) (N : List LaidName) (l : SourceLine) (names : List LaidName) (area : Option ℕ) (name : List ℕ) (x : LaidName)
    (o : Option Tree)
    → cond (same name q) (Some x) None ≡ None → named_in q (entries_with N l (tree_equated names area name o)) ≡ None
tree_undeclared q N l names area name x None h = refl
tree_undeclared q N l names area name x (Some t) h =
    let r = meaning (with_names l N) t in
    ap (λ z. cond (same z q) (Some (equal_entry names area name r)) None) (equal_made names area name r).0
    ∙ cond_none (same name q) x (equal_entry names area name r) h

pub own_undeclared : (q : List ℕ) (s : Statement) (before : List Statement) (N : List LaidName) (l : SourceLine) (names : List LaidName) (x : Defined)
    (area : Option ℕ)
    (offset : ℕ) (size : Option ℕ) (thumb : Bool) (m : ℕ) → named_in q (declared_entries x s before) ≡ None
    → named_in q (entries_with N l (definition_of names x area offset size thumb m)) ≡ None
own_undeclared q s before N l names Unnamed area offset size thumb m h = refl
own_undeclared q s before N l names (Label name) area offset size thumb m h =
    cond_none (same name q) (later_entry name (is_thumb_label s before)) (label_entry name area offset size thumb) h
own_undeclared q s before N l names (Equal name e) area offset size thumb m h = tree_undeclared q N l names area name (later_entry name false) (tree_of e) h
own_undeclared q s before N l names (MapField name) area offset size thumb m h =
    cond_none (same name q) (later_entry name false) (field_entry name m) h
own_undeclared q s before N l names (RegisterName name r) area offset size thumb m h =
    cond_none (same name q) (later_entry name false) (register_entry name) h

pub import_undeclared : (q : List ℕ) (N : List LaidName) (s : Statement) (before : List LaidLine) (o : Option (List ℕ)) → named_in q (declared_imports o) ≡ None
    → named_in q (all_entries N (imported_lines s before o)) ≡ None
import_undeclared q N s before None h = refl
import_undeclared q N s before (Some name) h = cond_none (same name q) (later_entry name false) (imported_entry name) h

pub undeclared : (N : List LaidName) (d : List LaidName) (q : List ℕ) (ss : List Statement) → named_in q (declared_names ss) ≡ None
    → named_in q (sofar N d ss) ≡ None
undeclared N d q [] h = refl
undeclared N d q (s ∷ ss) h =
    let x = declared_entries (defined_by s) s ss in
    let p = none_parts q (declared_names ss ++ x) (declared_imports (imported_in s.what)) h in
    let r = none_parts q (declared_names ss) x p.0 in
    ap (named_in q) (with_statement N d s ss)
    ∙ none_joined q (sofar N d ss) (own_of N d s ss ++ imports_of N d s ss) (undeclared N d q ss r.0)
    (none_joined q (own_of N d s ss) (imports_of N d s ss)
    (own_undeclared q s ss N (laid_behind d s (laid_of d ss)).line d (defined_by s) _ _ _ _ _ r.1)
    (import_undeclared q N s (laid_of d ss) (imported_in s.what) p.1))
