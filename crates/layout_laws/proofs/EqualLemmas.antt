-- The names for expressions of a source, and its lines.
use Rattle.std.specs.Prelude.{Result, Ok}
use Rattle.std.proofs.Common.{◌≡◌, ℕ, List, [], ◌∷◌, ◌++◌, Bool, refl, Option, Some, None, inl, inr}
use Rattle.sdt_fault.specs.declared.kinds.LineKind.{LineKind}
use Rattle.asm_model.specs.declared.exprs.Expr.{Expr}
use Rattle.asm_model.specs.declared.values.Value.{Value}
use Rattle.asm_model.specs.declared.values.Value.TheVariants.{Place}
use Rattle.asm_model.specs.declared.names.LaidName.{LaidName}
use Rattle.asm_model.specs.declared.statements.Statement.{Statement}
use Rattle.asm_model.specs.AtLine.{SourceLine}
use Rattle.asm_model.specs.Grammar.{Tree}
use Rattle.asm_model.specs.Entries.{equal_entry}
use Rattle.asm_model.specs.Labels.{Defined, Label, Equal, defined_by, imported_in}
use Rattle.asm_model.specs.Laid.{LaidLine, tree_equated, definition_of, imported_lines, laid_of, source_lines}
use Rattle.asm_model.specs.Trees.{tree_of}
use Rattle.layout_laws.proofs.RoundLemmas.{SymbolIs}
use Rattle.layout_laws.proofs.StepLemmas.{HoldsOf, EachEquated, IsMade, IsRegular, AreRegular}

-- ---- names for expressions

-- the name for an expression that a statement defines, whatever stands before it
abbrev pub equal_of : Defined → List (List ℕ × Expr)
equal_of (Equal name e) = (name, e) ∷ []
equal_of _ = []

abbrev pub all_equals : List Statement → List (List ℕ × Expr)
all_equals [] = []
all_equals (s ∷ before) = all_equals before ++ equal_of (defined_by s)

abbrev pub EachEqual : (List ℕ → Expr → Type 0) → List (List ℕ × Expr) → Type 0
EachEqual R [] = Unit {0}
EachEqual R (x ∷ xs) = R x.0 x.1 × EachEqual R xs

pub equal_all : (R : List ℕ → Expr → Type 0) → ((p : List ℕ) (e : Expr) → R p e) → (xs : List (List ℕ × Expr)) → EachEqual R xs
equal_all R f [] = tt
equal_all R f (x ∷ xs) = (f x.0 x.1, equal_all R f xs)

pub equal_weaker : (R S : List ℕ → Expr → Type 0) → ((p : List ℕ) (e : Expr) → R p e → S p e) → (xs : List (List ℕ × Expr)) → EachEqual R xs → EachEqual S xs
equal_weaker R S f [] h = tt
equal_weaker R S f (x ∷ xs) h = (f x.0 x.1 h.0, equal_weaker R S f xs h.1)

pub equal_both : (Q R S : List ℕ → Expr → Type 0) → ((p : List ℕ) (e : Expr) → Q p e → R p e → S p e) → (xs : List (List ℕ × Expr))
    → EachEqual Q xs → EachEqual R xs → EachEqual S xs
equal_both Q R S f [] h k = tt
equal_both Q R S f (x ∷ xs) h k = (f x.0 x.1 h.0 k.0, equal_both Q R S f xs h.1 k.1)

pub equal_joined : (R : List ℕ → Expr → Type 0) (xs ys : List (List ℕ × Expr)) → EachEqual R xs → EachEqual R ys → EachEqual R (xs ++ ys)
equal_joined R [] ys h k = k
equal_joined R (x ∷ xs) ys h k = (h.0, equal_joined R xs ys h.1 k)

pub equal_parts : (R : List ℕ → Expr → Type 0) (xs ys : List (List ℕ × Expr)) → EachEqual R (xs ++ ys) → EachEqual R xs × EachEqual R ys
equal_parts R [] ys h = (tt, h)
equal_parts R (x ∷ xs) ys h = let rest = equal_parts R xs ys h.1 in ((h.0, rest.0), rest.1)

-- ---- lines for them

abbrev pub OfTrees : (List ℕ → Tree → Type 0) → List ℕ → Expr → Type 0
OfTrees R p e = (t : Tree) → tree_of e ≡ Some t → R p t

pub tree_holds : (R : List ℕ → Tree → Type 0) (names : List LaidName) (area : Option ℕ) (name : List ℕ) (o : Option Tree)
    → ((t : Tree) → o ≡ Some t → R name t) → HoldsOf R (tree_equated names area name o)
tree_holds R names area name None f = tt
tree_holds R names area name (Some t) f = f t refl

pub definition_holds : (R : List ℕ → Tree → Type 0) (names : List LaidName) (x : Defined) (area : Option ℕ) (offset : ℕ) (size : Option ℕ) (thumb : Bool)
    (m : ℕ)
    → EachEqual (OfTrees R) (equal_of x) → HoldsOf R (definition_of names x area offset size thumb m)
definition_holds R names (Equal name e) area offset size thumb m h = tree_holds R names area name (tree_of e) h.0
definition_holds R names x area offset size thumb m h = tt

pub imported_holds : (R : List ℕ → Tree → Type 0) (s : Statement) (before : List LaidLine) (o : Option (List ℕ)) → EachEquated R (imported_lines s before o)
imported_holds R s before None = tt
imported_holds R s before (Some name) = (tt, tt)

pub holds_joined : (R : List ℕ → Tree → Type 0) (ls ms : List SourceLine) → EachEquated R ls → EachEquated R ms → EachEquated R (ls ++ ms)
holds_joined R [] ms h k = k
holds_joined R (l ∷ ls) ms h k = (h.0, holds_joined R ls ms h.1 k)

pub lines_hold : (R : List ℕ → Tree → Type 0) (d : List LaidName) (ss : List Statement) → EachEqual (OfTrees R) (all_equals ss)
    → EachEquated R (source_lines (laid_of d ss))
lines_hold R d [] h = tt
lines_hold R d (s ∷ ss) h =
    let parts = equal_parts (OfTrees R) (all_equals ss) (equal_of (defined_by s)) h in
    holds_joined R _ _ (lines_hold R d ss parts.0)
    (definition_holds R d (defined_by s) _ _ _ _ _ parts.1, imported_holds R s (laid_of d ss) (imported_in s.what))

-- ---- regular lines

pub own_place : (name : List ℕ) → SymbolIs (λ s. s ≡ name) (Place name 0)
own_place [] = tt
own_place (c ∷ cs) = refl

pub equal_made : (names : List LaidName) (area : Option ℕ) (name : List ℕ) (r : Result Value LineKind) → IsMade (equal_entry names area name) r
equal_made names area name (Ok (Place [] n)) = (refl, inr refl)
equal_made names area name r = (refl, inl refl)

pub tree_regular : (names : List LaidName) (area : Option ℕ) (name : List ℕ) (o : Option Tree) → IsRegular (tree_equated names area name o)
tree_regular names area name None = tt
tree_regular names area name (Some t) = equal_made names area name

pub definition_regular : (names : List LaidName) (x : Defined) (area : Option ℕ) (offset : ℕ) (size : Option ℕ) (thumb : Bool) (m : ℕ)
    → IsRegular (definition_of names x area offset size thumb m)
definition_regular names (Label name) area offset size thumb m = own_place name
definition_regular names (Equal name e) area offset size thumb m = tree_regular names area name (tree_of e)
definition_regular names x area offset size thumb m = tt

pub regular_joined : (ls ms : List SourceLine) → AreRegular ls → AreRegular ms → AreRegular (ls ++ ms)
regular_joined [] ms h k = k
regular_joined (l ∷ ls) ms h k = (h.0, regular_joined ls ms h.1 k)

pub imported_regular : (s : Statement) (before : List LaidLine) (o : Option (List ℕ)) → AreRegular (imported_lines s before o)
imported_regular s before None = tt
imported_regular s before (Some name) = (own_place name, tt)

pub lines_regular : (d : List LaidName) (ss : List Statement) → AreRegular (source_lines (laid_of d ss))
lines_regular d [] = tt
lines_regular d (s ∷ ss) =
    regular_joined _ _ (lines_regular d ss)
    (definition_regular d (defined_by s) _ _ _ _ _, imported_regular s (laid_of d ss) (imported_in s.what))
