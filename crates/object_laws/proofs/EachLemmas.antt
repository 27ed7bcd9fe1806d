-- What all entries of names keep, and all statements: names are texts, and areas are those of the source.
use Rattle.std.proofs.Common.{◌≡◌, ℕ, zero, suc, ◌<◌, ◌≤◌, List, [], ◌∷◌, ◌++◌, length, Bool, true, false, cond, refl, sym, ap, subst, arith, Option, Some, None}
use Rattle.std.specs.Prelude.{Result, Ok, slice_get}
use Rattle.std.specs.List.{AllByRecursion, list_any}
use Rattle.sdt_fault.specs.declared.kinds.LineKind.{LineKind}
use Rattle.asm_model.specs.declared.directives.DirectiveLine.TheVariants as line
use Rattle.asm_model.specs.declared.names.LaidName.{LaidName}
use Rattle.asm_model.specs.declared.statements.Statement.{Statement}
use Rattle.asm_model.specs.declared.statements.What.{What}
use Rattle.asm_model.specs.declared.statements.What.TheVariants as what
use Rattle.asm_model.specs.declared.values.Value.{Value}
use Rattle.asm_model.specs.declared.values.Value.TheVariants.{Place}
use Rattle.asm_model.specs.Entries.{equal_entry}
use Rattle.asm_model.specs.Forms.{same}
use Rattle.asm_model.specs.Meaning.{named_in}
use Rattle.asm_model.specs.Before.{area_named, with_name, areas_behind}
use Rattle.asm_model.specs.Labels.{Defined, Unnamed, Label, Equal, MapField, RegisterName, field_defines, defined_by, imported_in, declared_names}
use Rattle.asm_model.specs.Laid.{LaidLine, statements_of, laid, final_names}
use Rattle.layout_laws.proofs.SoundLemmas.{statements_kept}
use Rattle.asm_model.specs.Said.{what_names, label_names, HoldsNoZero, HasTexts, AllHaveTexts}
use Rattle.source_model.specs.Objects.{source_of, At}
use Rattle.source_laws.proofs.NameLemmas.{each_joined, final_each}
use Rattle.source_laws.proofs.WithinLemmas.{IsWithin, AllWithin, line_within, names_within}

-- ---- lists

pub each_part : {A : Type 0} (P : A → Type 0) (xs ys : List A) → AllByRecursion P (xs ++ ys) → AllByRecursion P xs × AllByRecursion P ys
each_part P [] ys h = (tt, h)
each_part P (x ∷ xs) ys h = let p = each_part P xs ys h.1 in ((h.0, p.0), p.1)

pub each_by_place : {A : Type 0} (P : A → Type 0) (xs : List A) → ((k : ℕ) (x : A) → slice_get xs k ≡ Some x → P x) → AllByRecursion P xs
each_by_place P [] f = tt
each_by_place P (x ∷ xs) f = (f zero x refl, each_by_place P xs (λ k. f (suc k)))

-- ---- statements of lines

pub each_line : (P : Statement → Type 0) (after before : List LaidLine) (l : LaidLine) → AllByRecursion P (statements_of (after ++ l ∷ before)) → P l.statement
each_line P [] before l h = h.0
each_line P (x ∷ after) before l h = each_line P after before l h.1

pub each_there : (P : Statement → Type 0) (ss : List Statement) → AllByRecursion P ss → (after before : List LaidLine) (l : LaidLine)
    → laid ss ≡ after ++ l ∷ before → P l.statement
each_there P ss h after before l e =
    each_line P after before l (subst (λ z. AllByRecursion P (statements_of z)) e (subst (AllByRecursion P) (sym (statements_kept (declared_names ss) ss)) h))

abbrev pub DefinedText : Defined → Type 0
DefinedText Unnamed = Unit {0}
DefinedText (Label name) = HoldsNoZero name
DefinedText (Equal name e) = HoldsNoZero name
DefinedText (MapField name) = HoldsNoZero name
DefinedText (RegisterName name r) = HoldsNoZero name

abbrev pub OptionText : Option (List ℕ) → Type 0
OptionText None = Unit {0}
OptionText (Some name) = HoldsNoZero name

pub field_text : (o : Option (List ℕ)) (w : What) → OptionText o → DefinedText (field_defines o w)
field_text None w h = tt
field_text (Some n) (what.Directive (line.Equ e)) h = h
field_text (Some n) (what.Directive (line.Rn r)) h = h
field_text (Some n) (what.Directive (line.Field e)) h = h
field_text (Some n) (what.Directive line.Rout) h = tt
field_text (Some n) w h = h

pub label_text : (o : Option (List ℕ)) → AllByRecursion HoldsNoZero (label_names o) → OptionText o
label_text None h = tt
label_text (Some n) h = h.0

pub defined_text : (s : Statement) → HasTexts s → DefinedText (defined_by s)
defined_text s h = field_text s.label s.what (label_text s.label (each_part HoldsNoZero (label_names s.label) (what_names s.what) h).0)

pub names_text : (s : Statement) → HasTexts s → AllByRecursion HoldsNoZero (what_names s.what)
names_text s h = (each_part HoldsNoZero (label_names s.label) (what_names s.what) h).1

pub import_text : (w : What) → AllByRecursion HoldsNoZero (what_names w) → OptionText (imported_in w)
import_text (what.Directive (line.Import name mark)) h = h.0
import_text (what.Directive (line.Extern name mark)) h = h.0
import_text w h = tt

pub area_text : (w : What) → AllByRecursion HoldsNoZero (what_names w) → OptionText (area_named w)
area_text (what.Directive (line.Area name a)) h = h.0
area_text w h = tt

pub with_text : (o : Option (List ℕ)) (xs : List (List ℕ)) → OptionText o → AllByRecursion HoldsNoZero xs → AllByRecursion HoldsNoZero (with_name o xs)
with_text None xs h k = k
with_text (Some n) xs h k = by_test (list_any (same n) xs)
  where
    by_test : (b : Bool) → AllByRecursion HoldsNoZero (cond b xs (xs ++ n ∷ []))
    by_test true = k
    by_test false = each_joined HoldsNoZero xs (n ∷ []) k (h, tt)

pub areas_text : (ss : List Statement) → AllHaveTexts ss → AllByRecursion HoldsNoZero (areas_behind ss)
areas_text [] h = tt
areas_text (s ∷ ss) h = with_text (area_named s.what) (areas_behind ss) (area_text s.what (names_text s h.0)) (areas_text ss h.1)

equal_text : (names : List LaidName) (area : Option ℕ) (name : List ℕ) → HoldsNoZero name → (r : Result Value LineKind)
    → HoldsNoZero (equal_entry names area name r).name
equal_text names area name h (Ok (Place [] n)) = h
equal_text names area name h r = h

-- the name of each entry is a text
pub name_text : (ss : List Statement) → AllHaveTexts ss → (q : List ℕ) (n : LaidName) → named_in q (final_names (laid ss)) ≡ Some n → HoldsNoZero n.name
name_text ss h = final_each ss (λ n. HoldsNoZero n.name) (record {
  label = λ l at name x thumb. subst DefinedText x (text l at);
  equal = λ l at name e x names r. equal_text names l.area name (subst DefinedText x (text l at)) r;
  field = λ l at name x m. subst DefinedText x (text l at);
  register = λ l at name r x. subst DefinedText x (text l at);
  imported = λ l at name x. subst OptionText x (import_text l.statement.what (names_text l.statement (texts l at)));
})
  where
    texts : (l : LaidLine) → At (source_of ss) l → HasTexts l.statement
    texts l at = each_there HasTexts ss h at.rest at.before l at.parts

    text : (l : LaidLine) → At (source_of ss) l → DefinedText (defined_by l.statement)
    text l at = defined_text l.statement (texts l at)

-- ---- areas

pub areas_kept : (ss : List Statement) → length (areas_behind (statements_of (laid ss))) ≤ length (areas_behind ss)
areas_kept ss =
    let same : length (areas_behind (statements_of (laid ss))) ≡ length (areas_behind ss) =
    ap (λ z. length (areas_behind z)) (statements_kept (declared_names ss) ss) in
    omega arith

-- the area of a line is one of the source
pub line_below : (ss : List Statement) (after before : List LaidLine) (l : LaidLine) → laid ss ≡ after ++ l ∷ before → (area : ℕ) → l.area ≡ Some area
    → area < length (areas_behind ss)
line_below ss after before l e area own =
    subst (IsWithin (length (areas_behind ss))) own (line_within ss (length (areas_behind ss)) after before l (areas_kept ss) e)

-- and so is that of a name
pub name_below : (ss : List Statement) → AllWithin (length (areas_behind ss)) (final_names (laid ss))
name_below ss = names_within (length (areas_behind ss)) ss (areas_kept ss)
