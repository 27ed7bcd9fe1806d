-- What a statement defines, as code keeps it, and the entry of its name. SDT 2.50 Reference Guide, chapter on the
-- assembler; how it is kept is this project's.
use Rattle.std.specs.Prelude.{ℕ, Bool, Option, Some, None}
use Rattle.asm_model.specs.declared.names.LaidName.{LaidName}
use Rattle.asm_model.specs.Entries.{label_entry, field_entry, register_entry}
use Rattle.asm_model.specs.Labels.{Defined, Unnamed, Label, Equal, MapField, RegisterName}
use Rattle.asm_names.specs.declared.defining.Defines.{Defines}
use Rattle.asm_names.specs.declared.defining.Defines.TheVariants as code

abbrev pub defined_of : Defines → Defined
defined_of code.Unnamed = Unnamed
defined_of (code.Label name) = Label name.now
defined_of (code.Equal name e) = Equal name.now e.now
defined_of (code.MapField name) = MapField name.now
defined_of (code.RegisterName name r) = RegisterName name.now r.now

-- the entry of a statement's own name, unless it is for an expression
abbrev pub own_entry : Defined → Option ℕ → ℕ → Option ℕ → Bool → ℕ → Option LaidName
own_entry (Label name) area offset size thumb map = Some (label_entry name area offset size thumb)
own_entry (MapField name) area offset size thumb map = Some (field_entry name map)
own_entry (RegisterName name r) area offset size thumb map = Some (register_entry name)
own_entry _ area offset size thumb map = None
