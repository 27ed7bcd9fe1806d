-- What laying a line needs to know of the whole source.
use Rattle.std.proofs.Common.{◌≡◌, ℕ, List, [], ◌∷◌, ◌++◌, ◌||◌, ◌&&◌, Bool, true, false, not, cond, map, Option, Some, None, refl, sym, ap, ◌∙◌, append_assoc, append-nil}
use Rattle.std.specs.List.{list_any}
use Rattle.std.specs.Borrow.{Bor}
use Rattle.std.specs.Option.{is_some, option_copied}
use Rattle.std.proofs.Math.Bool.{or_assoc, or_comm}
use Rattle.std.proofs.lemmas.List.Folds.{list_any-append}
use Rattle.asm_model.specs.declared.exprs.Expr.{Expr}
use Rattle.asm_model.specs.declared.names.LaidName.{LaidName}
use Rattle.asm_model.specs.declared.statements.Statement.{Statement}
use Rattle.asm_model.specs.Directives.{or_else}
use Rattle.asm_model.specs.Entries.{later_entry}
use Rattle.asm_model.specs.Forms.{same}
use Rattle.asm_model.specs.Meaning.{named_in}
use Rattle.asm_model.specs.Before.{is_thumb_label, thumb_behind, code_from, code_behind}
use Rattle.asm_model.specs.Labels.{Defined, Unnamed, Label, Equal, MapField, RegisterName, defined_by, imported_in, declared_entries, declared_imports, declared_names}
use Rattle.asm_model.specs.LayoutKinds.{own_name, listed, names_in, names_behind, is_repeated, first_equal, equals_in, settled}
use Rattle.asm_model.proofs.SharedLemmas.{same_back}
use Rattle.layout_laws.proofs.RoundLemmas.{named_joined}
use Rattle.asm_names.specs.declared.equals.Equal.{Equal as Code}
use Rattle.asm_names.specs.Equals.{pairs_of}
use Rattle.asm_names.specs.Order.{is_settled}
use Rattle.asm_expr.specs.Places.{names_of}
use Rattle.asm_names.specs.Steps.{one_entry}
use Rattle.asm_laying.specs.Declaring.{declared_again, declared_entry}
use Rattle.asm_layout.specs.declared.outline.Listed.{Listed}
use Rattle.asm_layout.specs.Outline.{IsListed, pair_if, first_of, firsts_in, circle_of, circles_in, marks_of, settled_marks}

-- ---- whether a name is defined before

any_named : (q : List ℕ) (xs ys : List LaidName) → is_some (named_in q (xs ++ ys)) ≡ (is_some (named_in q xs) || is_some (named_in q ys))
any_named q xs ys = ap is_some (named_joined q xs ys) ∙ some_or (named_in q xs) (named_in q ys)
  where
    some_or : (o p : Option LaidName) → is_some (or_else o p) ≡ (is_some o || is_some p)
    some_or None p = refl
    some_or (Some n) p = refl

one_named : (q : List ℕ) (n : LaidName) → is_some (named_in q (n ∷ [])) ≡ list_any (same q) (n.name ∷ [])
one_named q n = by_test (same n.name q) (same q n.name) (same_back n.name q)
  where
    by_test : (a b : Bool) → a ≡ b → is_some (cond a (Some n) None) ≡ (b || false)
    by_test true true e = refl
    by_test false false e = refl
    by_test true false e = absurd (cc)
    by_test false true e = absurd (cc)

own_named : (q : List ℕ) (x : Defined) (s : Statement) (before : List Statement)
    → is_some (named_in q (declared_entries x s before)) ≡ list_any (same q) (own_name x)
own_named q Unnamed s before = refl
own_named q (Label name) s before = one_named q (later_entry name (is_thumb_label s before))
own_named q (Equal name e) s before = one_named q (later_entry name false)
own_named q (MapField name) s before = one_named q (later_entry name false)
own_named q (RegisterName name r) s before = one_named q (later_entry name false)

import_named : (q : List ℕ) (o : Option (List ℕ)) → is_some (named_in q (declared_imports o)) ≡ list_any (same q) (listed o)
import_named q None = refl
import_named q (Some name) = one_named q (later_entry name false)

-- a name is declared by statements that define it
pub is_named : (q : List ℕ) (ss : List Statement) → is_some (named_in q (declared_names ss)) ≡ list_any (same q) (names_behind ss)
is_named q [] = refl
is_named q (s ∷ ss) =
    let x = defined_by s in
    let i = imported_in s.what in
    let own = declared_entries x s ss in
    let a = list_any (same q) (names_behind ss) in
    let b = list_any (same q) (own_name x) in
    let c = list_any (same q) (listed i) in
    let turned : ((is_some (named_in q (declared_names ss)) || is_some (named_in q own)) || is_some (named_in q (declared_imports i))) ≡ ((b || c) || a) =
    rw (is_named q ss, own_named q x s ss, import_named q i) (or_assoc a b c ∙ or_comm a (b || c)) in
    any_named q (declared_names ss ++ own) (declared_imports i) ∙ ap (λ (t : Bool). t || is_some (named_in q (declared_imports i)))
    (any_named q (declared_names ss) own)
    ∙ turned
    ∙ sym (list_any-append (same q) (own_name x ++ listed i) (names_behind ss) ∙ ap (λ (t : Bool). t || a) (list_any-append (same q) (own_name x) (listed i)))

-- ---- names that are declared again

names_declared : (x : Defined) (o : Option (List ℕ)) (s : Statement) (before : List Statement)
    → names_of (declared_entries x s before ++ declared_imports o) ≡ own_name x ++ listed o
names_declared Unnamed None s before = refl
names_declared Unnamed (Some i) s before = refl
names_declared (Label name) None s before = refl
names_declared (Label name) (Some i) s before = refl
names_declared (Equal name e) None s before = refl
names_declared (Equal name e) (Some i) s before = refl
names_declared (MapField name) None s before = refl
names_declared (MapField name) (Some i) s before = refl
names_declared (RegisterName name r) None s before = refl
names_declared (RegisterName name r) (Some i) s before = refl

again_is : (old : List LaidName) (names : List (List ℕ)) (ns : List LaidName) → ((q : List ℕ) → is_some (named_in q old) ≡ list_any (same q) names)
    → declared_again old ns ≡ is_repeated names (names_of ns)
again_is old names [] h = refl
again_is old names (n ∷ ns) h =
    let more : (q : List ℕ) → is_some (named_in q (old ++ n ∷ [])) ≡ list_any (same q) (n.name ∷ names) =
    λ q. any_named q old (n ∷ []) ∙ rw (h q, one_named q n) (turned (list_any (same q) names) (same q n.name)) in
    rw (h n.name, again_is (old ++ n ∷ []) (n.name ∷ names) ns more) refl
  where
    turned : (a b : Bool) → (a || (b || false)) ≡ (b || a)
    turned true true = refl
    turned true false = refl
    turned false true = refl
    turned false false = refl

-- a statement declares its names by what stands before it
pub declared_is : (x : Defined) (s : Statement) (before : List Statement)
    → one_entry (declared_entry x (thumb_behind before && code_from s.what (code_behind before))) ≡ declared_entries x s before
declared_is Unnamed s before = refl
declared_is (Label name) s before = refl
declared_is (Equal name e) s before = refl
declared_is (MapField name) s before = refl
declared_is (RegisterName name r) s before = refl

-- a statement declares a name again where it defines one that statements before it define
pub repeats_is : (s : Statement) (before : List Statement)
    → declared_again (declared_names before) (declared_entries (defined_by s) s before ++ declared_imports (imported_in s.what))
    ≡ is_repeated (names_behind before) (names_in s)
repeats_is s before =
    again_is (declared_names before) (names_behind before) (declared_entries (defined_by s) s before ++ declared_imports (imported_in s.what))
    (λ q. is_named q before)
    ∙ ap (is_repeated (names_behind before)) (names_declared (defined_by s) (imported_in s.what) s before)

pub copied_some : (o : Option (Bor LaidName)) → is_some o ≡ is_some (option_copied o)
copied_some None = refl
copied_some (Some n) = refl

-- what is listed of a definition by whether it is the first
pub record AreListed (x : Defined) (name : List ℕ) (e : Expr) (first : Bool) (before : List Statement) : Type 0 where
  pub equal : pair_if first name e ≡ first_equal x before
  pub mark : first ∷ [] ≡ first_of x before

pub are_listed : (x : Defined) (name : List ℕ) (e : Expr) (first : Bool) (old : List LaidName) (before : List Statement) → x ≡ Equal name e
    → not first ≡ is_some (named_in name old) → old ≡ declared_names before → AreListed x name e first before
are_listed x name e first old before is test names =
    let both = by_tests first (list_any (same name) (names_behind before)) (test ∙ ap (λ (ns : List LaidName). is_some (named_in name ns)) names
    ∙ is_named name before) in
    record { equal = rw is both.0; mark = rw is both.1 }
  where
    by_tests : (a b : Bool) → not a ≡ b → (pair_if a name e ≡ cond b [] ((name, e) ∷ [])) × (a ∷ [] ≡ not b ∷ [])
    by_tests true false t = (refl, refl)
    by_tests false true t = (refl, refl)
    by_tests true true t = absurd (cc)
    by_tests false false t = absurd (cc)

-- ---- the marks of all definitions

abbrev is_among : List (List ℕ) → List ℕ × Expr → Bool
is_among settled e = list_any (same e.0) settled

one_marked : (settled : List (List ℕ)) (x : Defined) (before : List Statement) (firsts marks : List Bool)
    → marks_of (first_of x before ++ firsts) (map (is_among settled) (first_equal x before) ++ marks) ≡ circle_of settled x before ++ marks_of firsts marks
one_marked settled (Equal name e) before firsts marks = by_test (list_any (same name) (names_behind before))
  where
    by_test : (b : Bool) → marks_of (not b ∷ firsts) (map (is_among settled) (cond b [] ((name, e) ∷ [])) ++ marks)
        ≡ cond b false (not (list_any (same name) settled)) ∷ marks_of firsts marks
    by_test true = refl
    by_test false = refl
one_marked settled Unnamed before firsts marks = refl
one_marked settled (Label name) before firsts marks = refl
one_marked settled (MapField name) before firsts marks = refl
one_marked settled (RegisterName name r) before firsts marks = refl

map_joined : (f : List ℕ × Expr → Bool) (xs ys : List (List ℕ × Expr)) (rest : List Bool) → map f (xs ++ ys) ++ rest ≡ map f xs ++ (map f ys ++ rest)
map_joined f [] ys rest = refl
map_joined f (x ∷ xs) ys rest = ap (λ l. f x ∷ l) (map_joined f xs ys rest)

all_marked : (settled : List (List ℕ)) (ss : List Statement) (firsts marks : List Bool)
    → marks_of (firsts_in ss ++ firsts) (map (is_among settled) (equals_in ss) ++ marks) ≡ circles_in settled ss ++ marks_of firsts marks
all_marked settled [] firsts marks = refl
all_marked settled (s ∷ ss) firsts marks =
    let x = defined_by s in
    let one = map (is_among settled) (first_equal x ss) ++ marks in
    ap (λ l. marks_of l (map (is_among settled) (equals_in (s ∷ ss)) ++ marks)) (append_assoc (firsts_in ss) (first_of x ss) firsts)
    ∙ ap (marks_of (firsts_in ss ++ (first_of x ss ++ firsts))) (map_joined (is_among settled) (equals_in ss) (first_equal x ss) marks)
    ∙ all_marked settled ss (first_of x ss ++ firsts) one
    ∙ ap (λ l. circles_in settled ss ++ l) (one_marked settled x ss firsts marks)
    ∙ sym (append_assoc (circles_in settled ss) (circle_of settled x ss) (marks_of firsts marks))

mapped : (settled : List (List ℕ)) (xs : List Code) → map (λ (e : Code). list_any (same e.name.now) settled) xs ≡ map (is_among settled) (pairs_of xs)
mapped settled [] = refl
mapped settled (x ∷ xs) = ap (λ l. list_any (same x.name.now) settled ∷ l) (mapped settled xs)

pub marks_are : (l : Listed) (ss : List Statement) → IsListed ss l
    → marks_of l.firsts.items (settled_marks l.equals.items) ≡ circles_in (settled (equals_in ss)) ss
marks_are l ss h =
    let fixed = settled (equals_in ss) in
    ap (λ (es : List (List ℕ × Expr)). marks_of l.firsts.items (map (λ (e : Code). is_settled es e.name.now) l.equals.items)) h.equals
    ∙ ap (marks_of l.firsts.items) (mapped fixed l.equals.items ∙ ap (λ (es : List (List ℕ × Expr)). map (is_among fixed) es) h.equals)
    ∙ ap (λ (bs : List Bool). marks_of bs (map (is_among fixed) (equals_in ss))) h.firsts
    ∙ sym (rw (append-nil (firsts_in ss), append-nil (map (is_among fixed) (equals_in ss))) refl)
    ∙ all_marked fixed ss [] [] ∙ append-nil (circles_in fixed ss)
