-- What the expressions of a statement see at its location.
use Rattle.std.proofs.Common.{◌≡◌, ℕ, List, [], ◌∷◌, Bool, true, refl, sym, ap, ◌∙◌, subst, Option, Some, None}
use Rattle.std.specs.Prelude.{Result, Ok, Err, IfOk}
use Rattle.sdt_fault.specs.declared.NoMemory.{NoMemory}
use Rattle.sdt_fault.specs.declared.kinds.LineKind.{LineKind}
use Rattle.asm_model.specs.declared.exprs.Expr.{Expr}
use Rattle.asm_model.specs.declared.values.Value.{Value}
use Rattle.asm_model.specs.declared.names.LaidName.{LaidName}
use Rattle.asm_model.specs.declared.directives.DirectiveLine.{DirectiveLine}
use Rattle.asm_model.specs.declared.directives.DirectiveLine.TheVariants as line
use Rattle.asm_model.specs.declared.statements.Statement.{Statement}
use Rattle.asm_model.specs.declared.statements.What.{What}
use Rattle.asm_model.specs.declared.statements.What.TheVariants as what
use Rattle.asm_model.specs.declared.names.Names.{Names}
use Rattle.asm_model.specs.AtLine.{is_value, own_names, seen_behind}
use Rattle.asm_model.specs.Entries.{equal_entry}
use Rattle.asm_model.specs.Extents.{value_there}
use Rattle.asm_model.specs.Grammar.{Tree}
use Rattle.asm_model.specs.Before.{area_behind, is_thumb_label}
use Rattle.asm_model.specs.Labels.{Defined, Equal, defined_by, field_defines, directive_defines}
use Rattle.asm_model.specs.Laid.{LaidLine, statements_of, lines_of, map_behind, offset_behind, tree_equated, definition_of, definition_behind, names_behind}
use Rattle.asm_model.specs.Trees.{tree_of}
use Rattle.asm_model.proofs.TreeLemmas.{trees_read_back}
use Rattle.asm_names.specs.Defining.{own_entry}
use Rattle.asm_names.specs.Steps.{one_entry}
use Rattle.asm_model.specs.Said.{IsRead, WhatSaid}
use Rattle.asm_laying.specs.declared.finding.Equated.{Equated}
use Rattle.asm_laying.specs.declared.finding.StatementValues.{StatementValues}
use Rattle.asm_names.specs.declared.placed_lines.StatementPlace.{StatementPlace}
use Rattle.asm_laying.specs.Laying.{unsized_entry, names_shown, DefinedRead, IsEquated, IsFound, IsLocation}

-- ---- the line's own name

equated_owns : (names : List LaidName) (area : Option ℕ) (name : List ℕ) (o : Option Tree) → [] ≡ own_names (tree_equated names area name o)
equated_owns names area name None = refl
equated_owns names area name (Some t) = refl

own_is : (names : List LaidName) (d : Defined) (area : Option ℕ) (offset : ℕ) (size : Option ℕ) (thumb : Bool) (map : ℕ)
    → one_entry (own_entry d area offset size thumb map) ≡ own_names (definition_of names d area offset size thumb map)
own_is names (Equal name e) area offset size thumb map = equated_owns names area name (tree_of e)
own_is names d area offset size thumb map = refl

pub own_there : (x : Defined) (a b : Option ℕ) (o p : ℕ) (n m : Option ℕ) (t u : Bool) (k j : ℕ) → a ≡ b → o ≡ p → n ≡ m → t ≡ u → k ≡ j
    → own_entry x a o n t k ≡ own_entry x b p m u j
own_there x a b o p n m t u k j e f g h i = rw (e, f, g, h, i) refl

-- ---- what is seen at the location is what the line sees

shown : (d : List LaidName) (s : Statement) (before : List LaidLine) (names : List LaidName) (own : Option LaidName) (p : StatementPlace) → IsLocation s before p
    → names ≡ seen_behind d (lines_of before) → own ≡ unsized_entry (defined_by s) p
    → names_shown d names (one_entry own) p ≡ names_behind d s before
shown d s before names own p sp known owned =
    let label = is_thumb_label s (statements_of before) in
    let owns : one_entry own ≡ own_names (definition_behind d s before None) =
    ap one_entry (owned ∙ own_there (defined_by s) p.area (area_behind (s ∷ statements_of before)) p.offset (offset_behind s before) None None p.thumb_label
    label p.map (map_behind before) sp.area sp.offset refl sp.thumb_label sp.map)
    ∙ own_is d (defined_by s) (area_behind (s ∷ statements_of before)) (offset_behind s before) None label (map_behind before) in
    rw (known, owns, sp.area, sp.offset, sp.map, sp.thumb) refl

pub found_shown : (d : List LaidName) (s : Statement) (before : List LaidLine) (names : List LaidName) (own : Option LaidName) (p : StatementPlace)
    (f : StatementValues) → IsLocation s before p
    → names ≡ seen_behind d (lines_of before) → own ≡ unsized_entry (defined_by s) p
    → IsFound d p (names_shown d names (one_entry own) p) s f → IsFound d p (names_behind d s before) s f
found_shown d s before names own p f at known owned = subst (λ (x : Names). IsFound d p x s f) (shown d s before names own p at known owned)

-- ---- expressions of names

directive_read : (name : List ℕ) (l : DirectiveLine) → WhatSaid (what.Directive l) → DefinedRead (directive_defines name l)
directive_read name (line.Equ e) h = h
directive_read name l h = tt

pub defined_read : (label : Option (List ℕ)) (w : What) → WhatSaid w → DefinedRead (field_defines label w)
defined_read None w h = tt
defined_read (Some name) (what.Directive l) h = directive_read name l h
defined_read (Some name) w h = tt

-- ---- names for expressions

value_known : (r : Result Value LineKind) → is_value r ≡ true → (v : Value) × (r ≡ Ok v)
value_known (Ok v) h = (v, refl)
value_known (Err k) h = absurd (cc)

equated : (d : List LaidName) (area : Option ℕ) (s : Names) (name : List ℕ) (e : Expr) (q : Equated) → IsRead e
    → q.entry ≡ Some (equal_entry d area name (value_there s e)) → q.known ≡ is_value (value_there s e)
    → IsEquated d area s (Equal name e) q
equated d area s name e q read entry known =
    let is : tree_of e ≡ Some read.tree = trees_read_back read.parts read.tree e read.spelled read.items in
    let named : one_entry q.entry ≡ equal_entry d area name (value_there s e) ∷ [] = ap one_entry entry in
    record { entry = rw is (rw is at named); known = λ k. value_known (value_there s e) (sym known ∙ k) }

pub equates : (d : List LaidName) (area : Option ℕ) (s : Names) (name : List ℕ) (e : Expr) (v : Result Value LineKind) (r : Result Equated NoMemory) → IsRead e
    → v ≡ value_there s e → IfOk r (λ q. q.entry ≡ Some (equal_entry d area name v)) → IfOk r (λ q. q.known ≡ is_value v)
    → IfOk r (λ q. IsEquated d area s (Equal name e) q)
equates d area s name e v (Ok q) read is entry known =
    equated d area s name e q read (entry ∙ ap (λ x. Some (equal_entry d area name x)) is) (known ∙ ap is_value is)
equates d area s name e v (Err m) read is entry known = tt
