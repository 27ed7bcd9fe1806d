-- A source has one object, or one first refusal.
use Rattle.std.proofs.Common.{◌≡◌, inl, inr, ℕ, ◌<◌, ◌≤◌, List, [], length, Option, Some, None, Result, Ok, Err, sym, ap, ◌∙◌, subst, if◌then◌else◌, arith}
use Rattle.std.specs.List.{list_any}
use Rattle.sdt_fault.specs.declared.refusal.Refusal.{Refusal}
use Rattle.aof_object.specs.declared.records.Object.{Object}
use Rattle.asm_model.specs.declared.lines.Flat.{Flat}
use Rattle.asm_model.specs.declared.statements.Statement.{Statement}
use Rattle.asm_model.specs.Directives.{or_else}
use Rattle.asm_reading.specs.declared.flat_lines.Reading.{Reading}
use Rattle.asm_reading.specs.declared.flat_lines.Unread.{Unread}
use Rattle.asm_reading.specs.Laws.{OneReading}
use Rattle.asm_reading.specs.FlatLines.{IsReading}
use Rattle.asm_model.specs.Laid.{reversed}
use Rattle.expand_model.specs.Expands.{Outcome, Flats, FaultAt, MissingFile, ExpansionLaw}
use Rattle.expand_model.specs.Steps.{visit_limit}
use Rattle.source_laws.specs.Laws.{OneObject}
use Rattle.source_model.specs.Objects.{IsObject}
use Rattle.source_model.specs.SourceFaults.{value_faults}
use Rattle.armasm_core.specs.Assembling.{most_bytes, says_area, told, line_faults, without_area, source_faults, ReadingMakes, FlatsMake, OutcomeMakes, OneAssembly}

-- ---- two readings of flat lines

faults_of : List ℕ → List Flat → List Statement → Option Unread → ℕ → Option Refusal
faults_of name flats items unread before =
    or_else
    (if list_any says_area flats then line_faults (reversed items []) before unread
    else Some (without_area name (line_faults (reversed items []) before unread)))
    (told (value_faults (reversed items [])))

same_faults : OneReading → (name : List ℕ) (flats : List Flat) (a b : Reading) → IsReading flats a → IsReading flats b
    → source_faults name flats a ≡ source_faults name flats b
unfolding faults_of
same_faults law name flats a b h k =
    let e = law flats a b h k in
    ap (λ (x : List Statement). faults_of name flats x a.unread a.before) e.0
    ∙ ap (λ (x : Option Unread). faults_of name flats b.statements.items x a.before) e.1
    ∙ ap (λ (n : ℕ). faults_of name flats b.statements.items b.unread n) e.2

-- ---- what flat lines make

made_once : OneReading → OneObject → (name : List ℕ) (flats : List Flat) (p q : Reading) (a b : Result Object Refusal) → IsReading flats p → IsReading flats q
    → ReadingMakes name flats p a → ReadingMakes name flats q b → a ≡ b
made_once law one name flats p q (Ok o) (Ok y) h k m n =
    ap Ok (one (reversed q.statements.items []) o y (subst (λ (x : List Statement). IsObject (reversed x []) o) (law flats p q h k).0 m.1) n.1)
made_once law one name flats p q (Ok o) (Err r) h k m n =
    absurd (let bad : None ≡ Some r = sym m.0 ∙ same_faults law name flats p q h k ∙ n in cc)
made_once law one name flats p q (Err r) (Ok o) h k m n =
    absurd (let bad : None ≡ Some r = sym n.0 ∙ same_faults law name flats q p k h ∙ m in cc)
made_once law one name flats p q (Err r) (Err s) h k m n = let is : Some r ≡ Some s = sym m ∙ same_faults law name flats p q h k ∙ n in cc

flats_once : OneReading → OneObject → (name : List ℕ) (flats : List Flat) (a b : Result Object Refusal) → FlatsMake name flats a → FlatsMake name flats b
    → a ≡ b
flats_once law one name flats a b h k = made_once law one name flats h.reading k.reading a b h.says k.says h.makes k.makes

-- ---- what a source makes

outcome_once : OneReading → OneObject → (name : List ℕ) (o : Outcome) (a b : Result Object Refusal) → OutcomeMakes name o a → OutcomeMakes name o b → a ≡ b
outcome_once law one name (Flats flats) a b h k = flats_once law one name flats a b h k
outcome_once law one name (FaultAt file n kind) a b h k = h ∙ sym k
outcome_once law one name (MissingFile file) a b h k = h ∙ sym k

pub one_assembly : ExpansionLaw → OneReading → OneObject → OneAssembly
one_assembly expands law one sources name text a b (inl h) (inl k) = h.1 ∙ sym k.1
one_assembly expands law one sources name text a b (inl h) (inr k) =
    absurd (let long : most_bytes < length text = h.0 in let short : length text ≤ most_bytes = k.0 in omega arith)
one_assembly expands law one sources name text a b (inr h) (inl k) =
    absurd (let long : most_bytes < length text = k.0 in let short : length text ≤ most_bytes = h.0 in omega arith)
one_assembly expands law one sources name text a b (inr h) (inr k) =
    let same : h.1 ≡ k.1 = expands sources visit_limit name text h.1 k.1 h.2 k.2 in
    outcome_once law one name k.1 a b (subst (λ (o : Outcome). OutcomeMakes name o a) same h.3) k.3
