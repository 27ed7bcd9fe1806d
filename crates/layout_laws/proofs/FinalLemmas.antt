-- What is known at a line of a source without faults is final.
use Rattle.std.proofs.Common.{◌≡◌, ℕ, List, [], ◌∷◌, ◌++◌, Bool, true, refl, sym, ◌∙◌, ap, subst, Option, Some, None, append-nil, append_assoc}
use Rattle.std.specs.Prelude.{Result, Ok, Err}
use Rattle.sdt_fault.specs.declared.kinds.LineKind.{LineKind}
use Rattle.asm_model.specs.declared.exprs.Expr.{Expr}
use Rattle.asm_model.specs.declared.values.Value.{Value}
use Rattle.asm_model.specs.declared.values.Value.TheVariants.{Number, Truth, Place}
use Rattle.asm_model.specs.declared.names.LaidName.{LaidName}
use Rattle.asm_model.specs.declared.names.Names.{Names}
use Rattle.asm_model.specs.declared.statements.Statement.{Statement}
use Rattle.asm_model.specs.AtLine.{SourceLine, with_names, own_names, names_at, added_names, seen_behind, HoldsEach}
use Rattle.asm_model.specs.Grammar.{Tree}
use Rattle.asm_model.specs.Meaning.{named_in, size_of, defined_of, meaning}
use Rattle.asm_model.specs.Entries.{label_entry, imported_entry, field_entry, register_entry, equal_entry}
use Rattle.asm_model.specs.Extents.{value_there, tree_value}
use Rattle.asm_model.specs.Labels.{Defined, Unnamed, Label, Equal, MapField, RegisterName, defined_by, imported_in, declared_names}
use Rattle.asm_model.specs.Laid.{LaidLine, lines_of, tree_equated, definition_of, definition_behind, line_behind, imported_lines, laid_behind, laid_of, laid, entries_with, all_entries, final_names, final_value}
use Rattle.asm_model.specs.LayoutKinds.{settled}
use Rattle.asm_model.specs.Trees.{tree_of}
use Rattle.asm_model.specs.Sound.{IsSound, ArePlain}
use Rattle.layout_laws.specs.Final.{IsEqualKnown, AreEqualsKnown}
use Rattle.layout_laws.proofs.EqualLemmas.{all_equals, equal_made}
use Rattle.layout_laws.proofs.KnownLemmas.{Gives, Tells, TellAll, tells_itself, tree_tells, EachTells, tells_append, tell_behind, declared_later, later_tell}
use Rattle.layout_laws.proofs.NamedLemmas.{sofar, own_of, imports_of, with_statement, sofar_holds, undeclared}
use Rattle.layout_laws.proofs.SettledLemmas.{source_sound, final_names_are_their_entries}

pub each_split : (N ns ms : List LaidName) → HoldsEach N (ns ++ ms) → HoldsEach N ns × HoldsEach N ms
each_split N [] ms h = (tt, h)
each_split N (n ∷ ns) ms h = let rest = each_split N ns ms h.1 in ((h.0, rest.0), rest.1)

-- ---- entries before they are final

pub held_tells : (N : List LaidName) (n m : LaidName) → m.name ≡ n.name → Tells (Some n) (Some m)
    → HoldsEach N (m ∷ []) → EachTells N (n ∷ [])
held_tells N n m e t h = (subst (Tells (Some n)) (sym (ap (λ z. named_in z N) (sym e) ∙ h.0)) t, tt)

pub held_itself : (N : List LaidName) (n : LaidName) → HoldsEach N (n ∷ []) → EachTells N (n ∷ [])
held_itself N n h = held_tells N n n refl (tells_itself (Some n)) h

pub equal_size : (names : List LaidName) (area : Option ℕ) (name : List ℕ) (r : Result Value LineKind)
    → size_of (Some (equal_entry names area name r)) ≡ Ok (Number 0)
equal_size names area name (Ok (Place [] n)) = refl
equal_size names area name r = refl

pub equal_defined : (names : List LaidName) (area : Option ℕ) (name : List ℕ) (r : Result Value LineKind)
    → defined_of (Some (equal_entry names area name r)) ≡ Ok (Truth true)
equal_defined names area name (Ok (Place [] n)) = refl
equal_defined names area name r = refl

-- the entry of a name for an expression, by what is known and by all names
pub equal_tells : (names : List LaidName) (area : Option ℕ) (name : List ℕ) (r m : Result Value LineKind) → Gives r m
    → Tells (Some (equal_entry names area name r)) (Some (equal_entry names area name m))
equal_tells names area name (Ok v) m f =
    let n = equal_entry names area name (Ok v) in
    subst (λ z. Tells (Some n) (Some (equal_entry names area name z))) (sym (f v refl)) (tells_itself (Some n))
equal_tells names area name (Err k) m f = (
  λ v h. absurd (cc),
  λ v h. equal_size names area name m ∙ h,
  λ v h. equal_defined names area name m ∙ h,
  λ a h. absurd (cc),
)

pub made_tells : (N names : List LaidName) (area : Option ℕ) (name : List ℕ) (r m : Result Value LineKind) → Gives r m
    → HoldsEach N (equal_entry names area name m ∷ []) → EachTells N (equal_entry names area name r ∷ [])
made_tells N names area name r m f h =
    let same_name = (equal_made names area name m).0 ∙ sym (equal_made names area name r).0 in
    held_tells N (equal_entry names area name r) (equal_entry names area name m) same_name (equal_tells names area name r m f) h

-- what a line knows itself, before its size is known
pub own_tells : (N names : List LaidName) (l : SourceLine) (x : Defined) (area : Option ℕ) (offset : ℕ) (size : Option ℕ)
    (thumb : Bool) (m : ℕ) → HoldsEach N (entries_with N l (definition_of names x area offset size thumb m))
    → EachTells N (own_names (definition_of names x area offset None thumb m))
own_tells N names l Unnamed area offset size thumb m h = tt
own_tells N names l (Label name) area offset size thumb m h =
    held_tells N (label_entry name area offset None thumb) (label_entry name area offset size thumb) refl
    (λ v k. k, λ v k. absurd (cc), λ v k. k, λ a k. k) h
own_tells N names l (Equal name e) area offset size thumb m h = by_tree (tree_of e)
  where
    by_tree : (o : Option Tree) → EachTells N (own_names (tree_equated names area name o))
    by_tree None = tt
    by_tree (Some t) = tt
own_tells N names l (MapField name) area offset size thumb m h = held_itself N (field_entry name m) h
own_tells N names l (RegisterName name r) area offset size thumb m h = held_itself N (register_entry name) h

-- ---- lines

-- an expression of a line that knows these names, and its own
pub line_known : (N d seen us : List LaidName) (l : SourceLine) → TellAll d N → EachTells N seen → EachTells N us
    → (t : Tree) → Gives (meaning (with_names l (seen ++ us ++ d)) t) (meaning (with_names l N) t)
line_known N d seen us l later h k t =
    (tree_tells l (seen ++ us ++ d) N (tell_behind N (seen ++ us) d (tells_append N seen us h k) later) t).0

pub tree_added : (N d seen : List LaidName) (s : Statement) (before : List LaidLine) (area : Option ℕ) (name : List ℕ)
    (o : Option Tree) → TellAll d N → EachTells N seen
    → HoldsEach N (entries_with N (line_behind s before (tree_equated d area name o)) (tree_equated d area name o))
    → EachTells N (added_names (names_at d seen (line_behind s before (tree_equated d area name o))) (tree_equated d area name o))
tree_added N d seen s before area name None later k h = tt
tree_added N d seen s before area name (Some t) later k h =
    let l = line_behind s before (tree_equated d area name (Some t)) in
    made_tells N d area name (meaning (names_at d seen l) t) (meaning (with_names l N) t) (line_known N d seen [] l later k tt t) h

-- what a line adds
pub own_added : (N d seen : List LaidName) (s : Statement) (before : List LaidLine) (x : Defined) (area : Option ℕ) (offset : ℕ)
    (size : Option ℕ) (thumb : Bool) (m : ℕ) → TellAll d N → EachTells N seen
    → HoldsEach N (entries_with N (line_behind s before (definition_of d x area offset size thumb m))
    (definition_of d x area offset size thumb m))
    → EachTells N (added_names (names_at d seen (line_behind s before (definition_of d x area offset size thumb m)))
    (definition_of d x area offset size thumb m))
own_added N d seen s before Unnamed area offset size thumb m later k h = tt
own_added N d seen s before (Equal name e) area offset size thumb m later k h =
    tree_added N d seen s before area name (tree_of e) later k h
own_added N d seen s before x area offset size thumb m later k h = held_itself N _ h

pub import_added : (d N : List LaidName) (s : Statement) (before : List LaidLine) (ls : List SourceLine) (o : Option (List ℕ))
    → HoldsEach N (all_entries N (imported_lines s before o)) → EachTells N (seen_behind d ls)
    → EachTells N (seen_behind d (imported_lines s before o ++ ls))
import_added d N s before ls None h k = k
import_added d N s before ls (Some name) h k =
    tells_append N (seen_behind d ls) (imported_entry name ∷ []) k (held_itself N (imported_entry name) h)

-- the entries of a source's lines
pub statement_held : (N d : List LaidName) (s : Statement) (ss : List Statement) → HoldsEach N (sofar N d (s ∷ ss))
    → HoldsEach N (sofar N d ss) × HoldsEach N (own_of N d s ss) × HoldsEach N (imports_of N d s ss)
statement_held N d s ss h =
    let own = own_of N d s ss in
    let imports = imports_of N d s ss in
    let p = each_split N (sofar N d ss) (own ++ imports) (subst (HoldsEach N) (with_statement N d s ss) h) in
    let r = each_split N own imports p.1 in (p.0, r.0, r.1)

pub seen_tells : (N d : List LaidName) → TellAll d N → (ss : List Statement) → HoldsEach N (sofar N d ss)
    → EachTells N (seen_behind d (lines_of (laid_of d ss)))
seen_tells N d later [] h = tt
seen_tells N d later (s ∷ ss) h =
    let before = laid_of d ss in
    let l = (laid_behind d s before).line in
    let seen = seen_behind d (lines_of before) in
    let p = statement_held N d s ss h in
    let k = seen_tells N d later ss p.0 in
    import_added d N s before (l ∷ lines_of before) (imported_in s.what) p.2
    (tells_append N seen (added_names (names_at d seen l) l.definition) k
    (own_added N d seen s before (defined_by s) _ _ _ _ _ later k p.1))

-- ---- values

abbrev pub IsKnownFinally : List LaidName → LaidLine → Type 0
IsKnownFinally N l = (t : Tree) → Gives (meaning l.seen t) (meaning (with_names l.line N) t)

abbrev pub AllKnownFinally : List LaidName → List LaidLine → Type 0
AllKnownFinally N [] = Unit {0}
AllKnownFinally N (l ∷ before) = IsKnownFinally N l × AllKnownFinally N before

pub all_known : (N d : List LaidName) → TellAll d N → (ss : List Statement) → HoldsEach N (sofar N d ss) → AllKnownFinally N (laid_of d ss)
all_known N d later [] h = tt
all_known N d later (s ∷ ss) h =
    let before = laid_of d ss in
    let l = (laid_behind d s before).line in
    let p = statement_held N d s ss h in (
      line_known N d (seen_behind d (lines_of before)) (own_names (definition_behind d s before None)) l later
          (seen_tells N d later ss p.0) (own_tells N d l (defined_by s) _ _ _ _ _ p.1),
      all_known N d later ss p.0,
    )

pub known_there : (N : List LaidName) (after : List LaidLine) (l : LaidLine) (before : List LaidLine)
    → AllKnownFinally N (after ++ l ∷ before) → IsKnownFinally N l
known_there N [] l before h = h.0
known_there N (m ∷ after) l before h = known_there N after l before h.1

-- ---- sources

pub source_holds : (ss : List Statement) → IsSound ss → ArePlain ss
    → HoldsEach (final_names (laid ss)) (sofar (final_names (laid ss)) (declared_names ss) ss)
source_holds ss h plain =
    let d = declared_names ss in
    let all = sofar (final_names (laid ss)) d ss in
    subst (λ z. HoldsEach z all) (final_names_are_their_entries ss h plain)
    (sofar_holds (final_names (laid ss)) d (settled (all_equals ss)) ss (source_sound ss h))

pub source_later : (ss : List Statement) → IsSound ss → ArePlain ss → TellAll (declared_names ss) (final_names (laid ss))
source_later ss h plain q =
    let d = declared_names ss in
    let N = final_names (laid ss) in
    later_tell q d (named_in q N) (declared_later ss)
    (λ none. ap (named_in q) (sym (final_names_are_their_entries ss h plain)) ∙ undeclared N d q ss none)

pub source_known : (ss : List Statement) → IsSound ss → ArePlain ss → AllKnownFinally (final_names (laid ss)) (laid ss)
source_known ss h plain =
    all_known (final_names (laid ss)) (declared_names ss) (source_later ss h plain) ss (source_holds ss h plain)

pub known_values_are_final : (ss : List Statement) → IsSound ss → ArePlain ss
    → (after before : List LaidLine) (l : LaidLine) → laid ss ≡ after ++ l ∷ before
    → (e : Expr) (v : Value) → value_there l.seen e ≡ Ok v → final_value (final_names (laid ss)) l.line e ≡ Ok v
known_values_are_final ss h plain after before l split e v k =
    let N = final_names (laid ss) in
    by_tree (tree_of e) refl (known_there N after l before (subst (AllKnownFinally N) split (source_known ss h plain)))
  where
    by_tree : (o : Option Tree) → tree_of e ≡ o → IsKnownFinally (final_names (laid ss)) l
        → final_value (final_names (laid ss)) l.line e ≡ Ok v
    by_tree None x known = let y : tree_value l.seen None ≡ Ok v = ap (tree_value l.seen) (sym x) ∙ k in absurd (cc)
    by_tree (Some t) x known =
        let y : tree_value l.seen (Some t) ≡ Ok v = ap (tree_value l.seen) (sym x) ∙ k in rw x (known t v y)

-- ---- names

tree_final : (N d : List LaidName) (names : Names) (l : SourceLine) (area : Option ℕ) (name : List ℕ) (o : Option Tree)
    (v : Value) → ((t : Tree) → Gives (meaning names t) (meaning (with_names l N) t)) → tree_value names o ≡ Ok v
    → added_names names (tree_equated d area name o) ≡ entries_with N l (tree_equated d area name o)
tree_final N d names l area name None v f h = refl
tree_final N d names l area name (Some t) v f h =
    ap (λ r. equal_entry d area name r ∷ []) (h ∙ sym (f t v h))

-- what a line adds is its final entry, where its name for an expression is known there
own_final : (N d seen : List LaidName) (s : Statement) (before : List LaidLine) (x : Defined) (area : Option ℕ) (offset : ℕ)
    (size : Option ℕ) (thumb : Bool) (m : ℕ)
    → ((t : Tree) → Gives (meaning (names_at d seen (line_behind s before (definition_of d x area offset None thumb m))) t)
    (meaning (with_names (line_behind s before (definition_of d x area offset size thumb m)) N) t))
    → IsEqualKnown (names_at d seen (line_behind s before (definition_of d x area offset None thumb m))) x
    → added_names (names_at d seen (line_behind s before (definition_of d x area offset size thumb m)))
    (definition_of d x area offset size thumb m)
    ≡ entries_with N (line_behind s before (definition_of d x area offset size thumb m))
    (definition_of d x area offset size thumb m)
own_final N d seen s before (Equal name e) area offset size thumb m f h =
    let l = line_behind s before (tree_equated d area name (tree_of e)) in
    tree_final N d (names_at d seen l) l area name (tree_of e) h.0 f h.1
own_final N d seen s before x area offset size thumb m f h = refl

import_final : (d N : List LaidName) (s : Statement) (before : List LaidLine) (ls : List SourceLine) (o : Option (List ℕ))
    → seen_behind d (imported_lines s before o ++ ls) ≡ seen_behind d ls ++ all_entries N (imported_lines s before o)
import_final d N s before ls None = sym (append-nil (seen_behind d ls))
import_final d N s before ls (Some name) = refl

all_final : (N d : List LaidName) (ss : List Statement) → AllKnownFinally N (laid_of d ss) → AreEqualsKnown (laid_of d ss)
    → seen_behind d (lines_of (laid_of d ss)) ≡ sofar N d ss
all_final N d [] h k = refl
all_final N d (s ∷ ss) h k =
    let before = laid_of d ss in
    let l = (laid_behind d s before).line in
    let seen = seen_behind d (lines_of before) in
    let own : added_names (names_at d seen l) l.definition ≡ own_of N d s ss =
    own_final N d seen s before (defined_by s) _ _ _ _ _ h.0 k.0 in
    import_final d N s before (l ∷ lines_of before) (imported_in s.what)
    ∙ ap (λ z. (seen ++ z) ++ imports_of N d s ss) own
    ∙ ap (λ z. (z ++ own_of N d s ss) ++ imports_of N d s ss) (all_final N d ss h.1 k.1)
    ∙ append_assoc (sofar N d ss) (own_of N d s ss) (imports_of N d s ss)
    ∙ sym (with_statement N d s ss)

pub known_names_are_final : (ss : List Statement) → IsSound ss → ArePlain ss → AreEqualsKnown (laid ss)
    → seen_behind (declared_names ss) (lines_of (laid ss)) ≡ final_names (laid ss)
known_names_are_final ss h plain k =
    all_final (final_names (laid ss)) (declared_names ss) ss (source_known ss h plain) k
    ∙ final_names_are_their_entries ss h plain
