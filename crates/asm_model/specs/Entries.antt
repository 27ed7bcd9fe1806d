-- The entries of names. A label or an imported name is itself plus 0; only a label stands in an area. A name for an expression
-- has the expression's value, or the kind of its fault; but where the value counts from the start of the line's area without
-- a symbol, as this place does, the name is its own symbol there, and no label, so that it means the same place in every
-- area. SDT 2.50 Reference Guide, chapter on the assembler; how values are kept is this project's.
use Rattle.std.specs.Prelude.{ℕ, List, [], ◌∷◌, Bool, false, Option, Some, None, Result, Ok, Err}
use Rattle.sdt_fault.specs.declared.kinds.LineKind.{LineKind}
use Rattle.asm_model.specs.declared.values.Value.{Value}
use Rattle.asm_model.specs.declared.values.Value.TheVariants.{Number, Truth, Words, Place}
use Rattle.asm_model.specs.declared.names.LaidName.{LaidName}
use Rattle.asm_model.specs.declared.names.Meaning.{Meaning}
use Rattle.asm_model.specs.declared.names.Meaning.TheVariants as means
use Rattle.asm_model.specs.Meaning.{named_in}
use Rattle.asm_model.specs.Placing.{EntryHasSymbol}

-- a label, with the number of bytes of its statement, and whether it is a label of Thumb code
abbrev pub label_entry : List ℕ → Option ℕ → ℕ → Option ℕ → Bool → LaidName
label_entry name area offset size thumb =
    record { name = name; meaning = means.Label; area = area; offset = offset; size = size; thumb = thumb }

-- a name for a place, which is no label
abbrev pub place_entry : List ℕ → Option ℕ → ℕ → LaidName
place_entry name area offset =
    record { name = name; meaning = means.Place; area = area; offset = offset; size = Some 0; thumb = false }

-- a name that stands nowhere
abbrev pub entry : List ℕ → Meaning → Option ℕ → Bool → LaidName
entry name meaning size thumb =
    record { name = name; meaning = meaning; area = None; offset = 0; size = size; thumb = thumb }

abbrev pub imported_entry : List ℕ → LaidName
imported_entry name = entry name means.Imported (Some 0) false

abbrev pub register_entry : List ℕ → LaidName
register_entry name = entry name means.Register (Some 0) false

-- a name that a line may not know yet
abbrev pub later_entry : List ℕ → Bool → LaidName
later_entry name thumb = entry name means.Later None thumb

-- a name with a value of its own
abbrev pub valued_entry : List ℕ → Value → Bool → LaidName
valued_entry name v thumb = entry name (means.Known v) (Some 0) thumb

-- a field of the storage map
abbrev pub field_entry : List ℕ → ℕ → LaidName
field_entry name map = entry name (means.Known (Number map)) (Some 0) false

abbrev pub thumb_of : Option LaidName → Bool
thumb_of None = false
thumb_of (Some n) = n.thumb

-- a name for an expression with this value in this area; a place in Thumb code stays one
abbrev pub equal_entry : List LaidName → Option ℕ → List ℕ → Result Value LineKind → LaidName
equal_entry list here name (Ok (Place [] n)) = place_entry name here n
equal_entry list here name (Ok (Place (c ∷ cs) n)) = valued_entry name (Place (c ∷ cs) n) (thumb_of (named_in (c ∷ cs) list))
equal_entry list here name (Ok (Number n)) = valued_entry name (Number n) false
equal_entry list here name (Ok (Truth b)) = valued_entry name (Truth b) false
equal_entry list here name (Ok (Words w)) = valued_entry name (Words w) false
equal_entry list here name (Err k) = entry name (means.Faulty k) (Some 0) false

abbrev pub EachHasSymbol : List LaidName → Type 0
EachHasSymbol [] = Unit {0}
EachHasSymbol (n ∷ ns) = EntryHasSymbol n × EachHasSymbol ns
