-- The names that a line knows are among those that its source declares.
use Rattle.std.proofs.Common.{◌≡◌, ℕ, Bool, List, [], ◌∷◌, ◌++◌, false, length, take, Option, Some, None, refl, sym, ap, ◌∙◌, append-nil, append_assoc}
use Rattle.std.proofs.lemmas.List.{length-map, map-append}
use Rattle.std.specs.Option.{is_some}
use Rattle.asm_model.specs.declared.names.LaidName.{LaidName}
use Rattle.asm_model.specs.declared.statements.Statement.{Statement}
use Rattle.asm_model.specs.declared.names.Names.{Names}
use Rattle.asm_model.specs.AtLine.{SourceLine, Definition, Nameless, Named, Equated, own_names, with_names, names_at, added_names, seen_behind}
use Rattle.asm_model.specs.Directives.{or_else}
use Rattle.asm_model.specs.Entries.{imported_entry, later_entry}
use Rattle.asm_model.specs.Forms.{same}
use Rattle.asm_model.specs.Labels.{Defined, Unnamed, Label, Equal, MapField, RegisterName, defined_by, imported_in, declared_entries, declared_imports, declared_names}
use Rattle.asm_model.specs.Laid.{LaidLine, lines_of, tree_equated, definition_of, definition_behind, line_behind, imported_lines, names_behind, laid_behind, laid_of, entries_with, reversed}
use Rattle.asm_model.specs.Grammar.{Tree}
use Rattle.asm_model.specs.Meaning.{named_in, meaning}
use Rattle.asm_model.specs.Trees.{tree_of}
use Rattle.asm_model.proofs.TreeLemmas.{trees_read_back}
use Rattle.asm_expr.specs.Places.{names_of, AreFirst}
use Rattle.asm_names.specs.Source.{IsReadDefined, AreRead}
use Rattle.layout_laws.proofs.EqualLemmas.{equal_made}
use Rattle.layout_laws.proofs.NamedLemmas.{cond_none, none_joined, none_parts, own_undeclared}
use Rattle.layout_laws.proofs.RoundLemmas.{named_joined}

-- ---- what a line adds

added_none : (q : List ℕ) (N : List LaidName) (l : SourceLine) (x : Definition) → named_in q (entries_with N l x) ≡ None
    → named_in q (added_names (with_names l N) x) ≡ None
added_none q N l Nameless h = refl
added_none q N l (Named n) h = h
added_none q N l (Equated make t) h = h

-- a name that a line knows itself it adds
own_none : (q : List ℕ) (N : List LaidName) (l : SourceLine) (x : Definition) → named_in q (entries_with N l x) ≡ None → named_in q (own_names x) ≡ None
own_none q N l Nameless h = refl
own_none q N l (Named n) h = h
own_none q N l (Equated make t) h = refl

imported_none : (q : List ℕ) (d : List LaidName) (s : Statement) (before : List LaidLine) (ls : List SourceLine) (o : Option (List ℕ))
    → named_in q (seen_behind d ls) ≡ None → named_in q (declared_imports o) ≡ None → named_in q (seen_behind d (imported_lines s before o ++ ls)) ≡ None
imported_none q d s before ls None h k = h
imported_none q d s before ls (Some name) h k =
    none_joined q (seen_behind d ls) (imported_entry name ∷ []) h (cond_none (same name q) (later_entry name false) (imported_entry name) k)

-- ---- lines

statement_parts : (q : List ℕ) (s : Statement) (ss : List Statement) → named_in q (declared_names (s ∷ ss)) ≡ None
    → (named_in q (declared_names ss) ≡ None) × (named_in q (declared_entries (defined_by s) s ss) ≡ None)
    × (named_in q (declared_imports (imported_in s.what)) ≡ None)
statement_parts q s ss h =
    let own = declared_entries (defined_by s) s ss in
    let p = none_parts q (declared_names ss ++ own) (declared_imports (imported_in s.what)) h in
    let r = none_parts q (declared_names ss) own p.0 in (r.0, r.1, p.1)

seen_none : (d : List LaidName) (q : List ℕ) (ss : List Statement) → named_in q (declared_names ss) ≡ None
    → named_in q (seen_behind d (lines_of (laid_of d ss))) ≡ None
seen_none d q [] h = refl
seen_none d q (s ∷ ss) h =
    let before = laid_of d ss in
    let seen = seen_behind d (lines_of before) in
    let l = (laid_behind d s before).line in
    let N = seen ++ own_names l.definition ++ d in
    let parts = statement_parts q s ss h in
    imported_none q d s before (l ∷ lines_of before) (imported_in s.what)
    (none_joined q seen (added_names (names_at d seen l) l.definition) (seen_none d q ss parts.0)
    (added_none q N l l.definition (own_undeclared q s ss N l d (defined_by s) _ _ _ _ _ parts.1))) parts.2

some_behind : (o p : Option LaidName) → (p ≡ None → o ≡ None) → is_some (or_else o p) ≡ is_some p
some_behind None p h = refl
some_behind (Some n) None h = let e = h refl in absurd (cc)
some_behind (Some n) (Some m) h = refl

pub declared_before : (q : List ℕ) (zs ss : List Statement) → named_in q (declared_names (reversed zs ss)) ≡ None → named_in q (declared_names ss) ≡ None
declared_before q [] ss h = h
declared_before q (z ∷ zs) ss h = (statement_parts q z ss (declared_before q zs (z ∷ ss) h)).0

-- what a line sees of a name is among names with those of its statements
pub seen_declared : (d : List LaidName) (q : List ℕ) (s : Statement) (ss : List Statement) → (named_in q d ≡ None → named_in q (declared_names (s ∷ ss)) ≡ None)
    → is_some (named_in q (names_behind d s (laid_of d ss)).list) ≡ is_some (named_in q d)
seen_declared d q s ss among =
    let before = laid_of d ss in
    let seen = seen_behind d (lines_of before) in
    let l = line_behind s before (definition_behind d s before None) in
    let N = seen ++ own_names l.definition ++ d in
    let known : named_in q d ≡ None → named_in q (seen ++ own_names l.definition) ≡ None =
    λ none. let parts = statement_parts q s ss (among none) in
    none_joined q seen (own_names l.definition) (seen_none d q ss parts.0)
    (own_none q N l l.definition (own_undeclared q s ss N l d (defined_by s) _ _ _ _ _ parts.1)) in
    ap is_some (named_joined q (seen ++ own_names l.definition) d) ∙ some_behind (named_in q (seen ++ own_names l.definition)) (named_in q d) known

-- ---- the names that lines know are the first that the source declares

joined : (xs ys : List LaidName) → names_of (xs ++ ys) ≡ names_of xs ++ names_of ys
joined xs ys = map-append (λ (n : LaidName). n.name) xs ys

tree_kept : (N : Names) (names : List LaidName) (area : Option ℕ) (name : List ℕ) (o : Option Tree) (t : Tree) → o ≡ Some t
    → names_of (added_names N (tree_equated names area name o)) ≡ name ∷ []
tree_kept N names area name None t e = absurd (cc)
tree_kept N names area name (Some u) t e = ap (λ (w : List ℕ). w ∷ []) (equal_made names area name (meaning N u)).0

own_kept : (N : Names) (names : List LaidName) (s : Statement) (before : List Statement) (x : Defined) (area : Option ℕ) (offset : ℕ) (size : Option ℕ)
    (thumb : Bool) (map : ℕ)
    → IsReadDefined x → names_of (added_names N (definition_of names x area offset size thumb map)) ≡ names_of (declared_entries x s before)
own_kept N names s before Unnamed area offset size thumb map h = refl
own_kept N names s before (Label name) area offset size thumb map h = refl
own_kept N names s before (Equal name e) area offset size thumb map h =
    tree_kept N names area name (tree_of e) h.1 (trees_read_back h.0 h.1 e h.2 h.3)
own_kept N names s before (MapField name) area offset size thumb map h = refl
own_kept N names s before (RegisterName name r) area offset size thumb map h = refl

imports_kept : (d : List LaidName) (s : Statement) (before : List LaidLine) (ls : List SourceLine) (o : Option (List ℕ))
    → names_of (seen_behind d (imported_lines s before o ++ ls)) ≡ names_of (seen_behind d ls) ++ names_of (declared_imports o)
imports_kept d s before ls None = sym (append-nil (names_of (seen_behind d ls)))
imports_kept d s before ls (Some name) = joined (seen_behind d ls) (imported_entry name ∷ [])

pub names_kept : (d : List LaidName) (ss : List Statement) → AreRead ss → names_of (seen_behind d (lines_of (laid_of d ss))) ≡ names_of (declared_names ss)
names_kept d [] h = refl
names_kept d (s ∷ ss) h =
    let before = laid_of d ss in
    let l = (laid_behind d s before).line in
    let seen = seen_behind d (lines_of before) in
    let added = added_names (names_at d seen l) l.definition in
    let own = declared_entries (defined_by s) s ss in
    let imports = declared_imports (imported_in s.what) in
    imports_kept d s before (l ∷ lines_of before) (imported_in s.what)
    ∙ ap (λ (ns : List (List ℕ)). ns ++ names_of imports)
    (joined seen added ∙ rw (names_kept d ss h.1, own_kept (names_at d seen l) d s ss (defined_by s) _ _ _ _ _ h.0) refl
    ∙ sym (joined (declared_names ss) own))
    ∙ sym (joined (declared_names ss ++ own) imports)

declared_more : (zs ss : List Statement) → (rest : List LaidName) × (declared_names (reversed zs ss) ≡ declared_names ss ++ rest)
declared_more [] ss = ([], sym (append-nil (declared_names ss)))
declared_more (z ∷ zs) ss =
    let more = declared_more zs (z ∷ ss) in
    let own = declared_entries (defined_by z) z ss in
    let imports = declared_imports (imported_in z.what) in (
      own ++ (imports ++ more.0),
      more.1 ∙ append_assoc (declared_names ss ++ own) imports more.0 ∙ append_assoc (declared_names ss) own (imports ++ more.0),
    )

front_names : (xs rest : List LaidName) → names_of xs ≡ take (length xs) (names_of (xs ++ rest))
front_names [] rest = refl
front_names (x ∷ xs) rest = ap (λ (ns : List (List ℕ)). x.name ∷ ns) (front_names xs rest)

pub are_first : (known : List LaidName) (zs ss : List Statement) → names_of known ≡ names_of (declared_names ss)
    → AreFirst known (declared_names (reversed zs ss))
are_first known zs ss e =
    let xs = declared_names ss in
    let more = declared_more zs ss in
    let long : length xs ≡ length known =
    sym (length-map xs (λ (n : LaidName). n.name)) ∙ ap length (sym e) ∙ length-map known (λ (n : LaidName). n.name) in
    e ∙ front_names xs more.0 ∙ ap (λ (n : ℕ). take n (names_of (xs ++ more.0))) long
    ∙ ap (λ (l : List LaidName). take (length known) (names_of l)) (sym more.1)
