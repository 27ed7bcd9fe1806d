-- What holds of each entry that a line makes holds of each final name.
use Rattle.std.proofs.Common.{◌≡◌, ℕ, zero, suc, List, [], ◌∷◌, ◌++◌, length, append_assoc, Bool, true, false, cond, refl, sym, ◌∙◌, subst, Option, Some, None}
use Rattle.std.specs.Prelude.{Result}
use Rattle.std.specs.List.{AllByRecursion}
use Rattle.sdt_fault.specs.declared.kinds.LineKind.{LineKind}
use Rattle.asm_model.specs.declared.exprs.Expr.{Expr}
use Rattle.asm_model.specs.declared.names.LaidName.{LaidName}
use Rattle.asm_model.specs.declared.directives.RnOperand.{RnOperand}
use Rattle.asm_model.specs.declared.statements.Statement.{Statement}
use Rattle.asm_model.specs.declared.values.Value.{Value}
use Rattle.asm_model.specs.AtLine.{Definition, Nameless, Named, Equated, SourceLine, with_names}
use Rattle.asm_model.specs.Before.{is_thumb_label}
use Rattle.asm_model.specs.Entries.{label_entry, imported_entry, register_entry, field_entry, equal_entry}
use Rattle.asm_model.specs.Forms.{same}
use Rattle.asm_model.specs.Grammar.{Tree}
use Rattle.asm_model.specs.Labels.{Defined, Unnamed, Label, Equal, MapField, RegisterName, defined_by, imported_in, declared_names}
use Rattle.asm_model.specs.Laid.{LaidLine, statements_of, map_behind, tree_equated, definition_of, imported_lines, laid_behind, laid_of, laid, source_lines, entries_with, all_entries, names_after, final_names}
use Rattle.asm_model.specs.Meaning.{named_in, meaning}
use Rattle.asm_model.specs.Trees.{tree_of}
use Rattle.source_model.specs.Objects.{source_of, At}

pub each_joined : {A : Type 0} (P : A → Type 0) (xs ys : List A) → AllByRecursion P xs → AllByRecursion P ys → AllByRecursion P (xs ++ ys)
each_joined P [] ys h k = k
each_joined P (x ∷ xs) ys h k = (h.0, each_joined P xs ys h.1 k)

-- ---- the entries of lines

abbrev DefinitionIs : (LaidName → Type 0) → Definition → Type 0
DefinitionIs R Nameless = Unit {0}
DefinitionIs R (Named n) = R n
DefinitionIs R (Equated make t) = (r : Result Value LineKind) → R (make r)

abbrev LinesAre : (LaidName → Type 0) → List SourceLine → Type 0
LinesAre R ls = AllByRecursion (λ l. DefinitionIs R l.definition) ls

entry_each : (R : LaidName → Type 0) (xs : List LaidName) (l : SourceLine) (d : Definition) → DefinitionIs R d → AllByRecursion R (entries_with xs l d)
entry_each R xs l Nameless h = tt
entry_each R xs l (Named n) h = (h, tt)
entry_each R xs l (Equated make t) h = (h (meaning (with_names l xs) t), tt)

entries_each : (R : LaidName → Type 0) (xs : List LaidName) (ls : List SourceLine) → LinesAre R ls → AllByRecursion R (all_entries xs ls)
entries_each R xs [] h = tt
entries_each R xs (l ∷ ls) h =
    each_joined R (entries_with xs l l.definition) (all_entries xs ls) (entry_each R xs l l.definition h.0) (entries_each R xs ls h.1)

names_each : (R : LaidName → Type 0) (k : ℕ) (ls : List SourceLine) → LinesAre R ls → AllByRecursion R (names_after k ls)
names_each R zero ls h = entries_each R [] ls h
names_each R (suc k) ls h = entries_each R (names_after k ls) ls h

found_each : (R : LaidName → Type 0) (q : List ℕ) (ns : List LaidName) → AllByRecursion R ns → (n : LaidName) → named_in q ns ≡ Some n → R n
found_each R q [] h n e = absurd (cc)
found_each R q (m ∷ ms) h n e = by_test (same m.name q) (found_each R q ms h.1 n) e
  where
    by_test : (b : Bool) → (named_in q ms ≡ Some n → R n) → cond b (Some m) (named_in q ms) ≡ Some n → R n
    by_test true f k = let x : m ≡ n = cc in subst R x h.0
    by_test false f k = f k

-- ---- the lines of a source

-- what holds of each entry that a line of the source makes
pub record EntriesAre (ss : List Statement) (R : LaidName → Type 0) : Type 0 where
  pub label : (l : LaidLine) → At (source_of ss) l → (name : List ℕ) → defined_by l.statement ≡ Label name → (thumb : Bool)
      → R (label_entry name l.area l.offset (Some l.size) thumb)
  pub equal : (l : LaidLine) → At (source_of ss) l → (name : List ℕ) (e : Expr) → defined_by l.statement ≡ Equal name e
      → (names : List LaidName) (r : Result Value LineKind) → R (equal_entry names l.area name r)
  pub field : (l : LaidLine) → At (source_of ss) l → (name : List ℕ) → defined_by l.statement ≡ MapField name → (m : ℕ)
      → R (field_entry name m)
  pub register : (l : LaidLine) → At (source_of ss) l → (name : List ℕ) (r : RnOperand) → defined_by l.statement ≡ RegisterName name r
      → R (register_entry name)
  pub imported : (l : LaidLine) → At (source_of ss) l → (name : List ℕ) → imported_in l.statement.what ≡ Some name → R (imported_entry name)

tree_is : (R : LaidName → Type 0) (names : List LaidName) (area : Option ℕ) (name : List ℕ) (o : Option Tree)
    → ((r : Result Value LineKind) → R (equal_entry names area name r)) → DefinitionIs R (tree_equated names area name o)
tree_is R names area name None f = tt
tree_is R names area name (Some t) f = f

definition_is : (ss : List Statement) (R : LaidName → Type 0) → EntriesAre ss R → (l : LaidLine) → At (source_of ss) l
    → (names : List LaidName) (thumb : Bool) (m : ℕ)
    → (x : Defined) → defined_by l.statement ≡ x → DefinitionIs R (definition_of names x l.area l.offset (Some l.size) thumb m)
definition_is ss R h l at names thumb m Unnamed x = tt
definition_is ss R h l at names thumb m (Label name) x = h.label l at name x thumb
definition_is ss R h l at names thumb m (Equal name e) x = tree_is R names l.area name (tree_of e) (h.equal l at name e x names)
definition_is ss R h l at names thumb m (MapField name) x = h.field l at name x m
definition_is ss R h l at names thumb m (RegisterName name r) x = h.register l at name r x

imports_are : (ss : List Statement) (R : LaidName → Type 0) → EntriesAre ss R → (l : LaidLine) → At (source_of ss) l → (s : Statement) (before : List LaidLine)
    → (o : Option (List ℕ)) → imported_in l.statement.what ≡ o → LinesAre R (imported_lines s before o)
imports_are ss R h l at s before None x = tt
imports_are ss R h l at s before (Some name) x = (h.imported l at name x, tt)

lines_are : (ss : List Statement) (R : LaidName → Type 0) → EntriesAre ss R → (after : List LaidLine) (front : List Statement)
    → laid ss ≡ after ++ laid_of (declared_names ss) front → LinesAre R (source_lines (laid_of (declared_names ss) front))
lines_are ss R h after [] e = tt
lines_are ss R h after (s ∷ front) e =
    let d = declared_names ss in
    let before = laid_of d front in
    let l = laid_behind d s before in
    let at : At (source_of ss) l = record { before = before; rest = after; parts = e } in
    each_joined (λ k. DefinitionIs R k.definition) (source_lines before) (l.line ∷ imported_lines s before (imported_in s.what))
    (lines_are ss R h (after ++ l ∷ []) front (e ∙ sym (append_assoc after (l ∷ []) before))) (
      definition_is ss R h l at d (is_thumb_label s (statements_of before)) (map_behind before) (defined_by s) refl,
      imports_are ss R h l at s before (imported_in s.what) refl,
    )

pub final_each : (ss : List Statement) (R : LaidName → Type 0) → EntriesAre ss R → (q : List ℕ) (n : LaidName) → named_in q (final_names (laid ss)) ≡ Some n
    → R n
final_each ss R h q n e =
    found_each R q (final_names (laid ss)) (names_each R (length (laid ss)) (source_lines (laid ss)) (lines_are ss R h [] ss refl)) n e
