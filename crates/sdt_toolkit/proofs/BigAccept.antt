-- What assembly makes of a generated source.
use Rattle.std.proofs.Common.{◌≡◌, ℕ, ◌^◌, ◌<◌, ◌≤◌, List, [], true, refl, ap, subst, arith, Option, None, Some, inl, inr}
use Rattle.std.specs.Prelude.{Result, Ok, Err}
use Rattle.std.specs.List.{list_any}
use Rattle.sdt_fault.specs.declared.refusal.Refusal.{Refusal}
use Rattle.sdt_outside.specs.Files.{content}
use Rattle.aof_object.specs.declared.records.Object.{Object}
use Rattle.asm_model.specs.declared.lines.Flat.{Flat}
use Rattle.asm_model.specs.declared.statements.Statement.{Statement}
use Rattle.asm_model.specs.Laid.{reversed}
use Rattle.expand_model.specs.Expands.{Outcome}
use Rattle.expand_model.specs.Words.{token_width, words_of}
use Rattle.asm_reading.specs.declared.flat_lines.Reading.{Reading}
use Rattle.armasm_core.specs.Assembling.{says_area, source_faults, FlatsMake, OutcomeMakes}
use Rattle.source_model.specs.Objects.{IsObject}
use Rattle.source_model.specs.SourceFaults.{layout_faults, value_faults}
use Rattle.big_faults.specs.Big.{big_object, BigHasNoFault, BigHasObject}
use Rattle.big_lines.specs.Lines.{big_flats, BigExpands, BigIsRead, BigIsShort}
use Rattle.big_model.specs.Statements.{big_statements}
use Rattle.sdt_toolkit.specs.BigAccepts.{BigIsAssembled}

-- the first line says AREA
has_area : (name : List ℕ) (n : ℕ) → list_any says_area (big_flats name n) ≡ true
unfolding words_of token_width
has_area name n = refl

-- of any lines that say these statements
without_fault : (name : List ℕ) (flats : List Flat) (h : Reading) (statements : List Statement) → list_any says_area flats ≡ true
    → reversed h.statements.items [] ≡ statements → h.unread ≡ None → layout_faults statements ≡ None → value_faults statements ≡ None
    → source_faults name flats h ≡ None
without_fault name flats h statements area says unread layout values = rw (area, unread, says, layout, values) refl

no_fault : BigIsRead → BigHasNoFault → (name : List ℕ) (n : ℕ) → n ≤ 50000 → (h : Reading)
    → (reversed h.statements.items [] ≡ big_statements name n) × (h.unread ≡ None) → source_faults name (big_flats name n) h ≡ None
no_fault reads sound name n few h read =
    let none = sound name n few in
    without_fault name (big_flats name n) h (big_statements name n) (has_area name n) read.0 read.1 none.0 none.1

no_refusal : {A B : Type 0} (x : Option A) (a : A) → x ≡ None → x ≡ Some a → B
no_refusal x a none some = absurd (cc)

flats_make : BigIsRead → BigHasNoFault → BigHasObject → (name : List ℕ) (n : ℕ) (made : Result Object Refusal) → n ≤ 50000
    → FlatsMake name (big_flats name n) made → made ≡ Ok (big_object n)
flats_make reads sound has name n (Ok o) few h =
    let read = reads name n h.reading few h.says in
    let makes = h.makes in
    ap Ok (has name n o few (subst (λ (statements : List Statement). IsObject statements o) read.0 makes.1))
flats_make reads sound has name n (Err r) few h =
    let read = reads name n h.reading few h.says in
    no_refusal (source_faults name (big_flats name n) h.reading) r (no_fault reads sound name n few h.reading read) h.makes

too_long : {A : Type 0} (k : ℕ) → 2 ^ 24 < k → k ≤ 2 ^ 24 → A
too_long k over within = absurd (omega arith)

pub big_is_assembled : BigExpands → BigIsRead → BigIsShort → BigHasNoFault → BigHasObject → BigIsAssembled
big_is_assembled expands reads short sound has files name n made few h = elim h [
  | inl long ↦ too_long _ long.0 (short n few)
  | inr ends ↦
      let e = expands (content files) name n ends.1 few ends.2 in
      flats_make reads sound has name n made few (subst (λ (o : Outcome). OutcomeMakes name o made) e ends.3)
]
