-- What a statement declares. This project's.
use Rattle.std.specs.Prelude.{◌≡◌, List, [], ◌∷◌, ◌++◌, ◌&&◌, ◌||◌, Bool, false, Option, Some, None}
use Rattle.std.specs.Option.{is_some}
use Rattle.asm_model.specs.declared.names.LaidName.{LaidName}
use Rattle.asm_model.specs.declared.statements.Statement.{Statement}
use Rattle.asm_model.specs.Before.{code_from}
use Rattle.asm_model.specs.Entries.{later_entry}
use Rattle.asm_model.specs.Meaning.{named_in}
use Rattle.asm_model.specs.Labels.{Defined, Unnamed, Label, Equal, MapField, RegisterName, defined_by, imported_in, declared_imports}
use Rattle.asm_names.specs.Steps.{one_entry}
use Rattle.asm_laying.specs.declared.carried.CarriedState.{CarriedState}
use Rattle.asm_laying.specs.declared.declarations.Declared.{Declared}
use Rattle.asm_laying.specs.Carried.{stepped}

-- the entry of a name of the source, which means something later
abbrev pub declared_entry : Defined → Bool → Option LaidName
declared_entry Unnamed thumb = None
declared_entry (Label name) thumb = Some (later_entry name thumb)
declared_entry (Equal name e) thumb = Some (later_entry name false)
declared_entry (MapField name) thumb = Some (later_entry name false)
declared_entry (RegisterName name r) thumb = Some (later_entry name false)

-- whether the name of one of these entries stands among the others or before it
abbrev pub declared_again : List LaidName → List LaidName → Bool
declared_again old [] = false
declared_again old (n ∷ ns) = is_some (named_in n.name old) || declared_again (old ++ n ∷ []) ns

-- what a statement more declares
pub record Declares (s : Statement) (b : CarriedState) (old new : List LaidName) (d : Declared) : Type 0 where
  pub names : new ≡ old ++ one_entry (declared_entry (defined_by s) (b.thumb && code_from s.what b.code))
      ++ declared_imports (imported_in s.what)
  pub steps : d.behind ≡ stepped s.what b
  pub repeated : d.repeated ≡ declared_again old (one_entry (declared_entry (defined_by s) (b.thumb && code_from s.what b.code))
      ++ declared_imports (imported_in s.what))
