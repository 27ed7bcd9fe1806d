-- The words behind a command, as items: names, and options with their values. This project's.
use Rattle.std.specs.Prelude.{ℕ, zero, suc, ◌+◌, ◌-◌, ◌==◌, nat_lt, min, Bool, false, if◌then◌else◌}
use Rattle.std.specs.Prelude.{List, [], ◌∷◌, find, length, slice_get, bytes_eq, Option, Some, None, unwrap_or}
use Rattle.tool_words.specs.declared.table.Verb.{Verb}
use Rattle.tool_words.specs.declared.table.Entry.{Entry}
use Rattle.tool_words.specs.declared.items.Role.{Role}
use Rattle.tool_words.specs.declared.items.Role.TheVariants.{Name, Known, Unknown}
use Rattle.tool_words.specs.declared.items.Item.{Item}
use Rattle.tool_words.specs.Table.{verb_word, verbs, flag_word, options, value_count}

-- the word at a place, counted from 0
abbrev pub word_at : List (List ℕ) → ℕ → List ℕ
word_at words n = unwrap_or (slice_get words n) []

-- the command of a name
abbrev pub verb_named : List ℕ → Option Verb
verb_named word = find (λ v. bytes_eq (verb_word v) word) verbs

-- a word that begins with '-' is an option of the command, or one that it hasn't
abbrev pub begins_with_dash : List ℕ → Bool
begins_with_dash [] = false
begins_with_dash (c ∷ cs) = c == 45

abbrev pub known : Option Entry → Role
known None = Unknown
known (Some e) = Known e

abbrev pub role_of : Verb → List ℕ → Role
role_of verb word = if begins_with_dash word then known (find (λ e. bytes_eq (flag_word e.0) word) (options verb)) else Name

-- how many values follow; none follow an option that the command hasn't
abbrev pub count_of : Role → ℕ
count_of Name = 0
count_of (Known e) = value_count e.1
count_of Unknown = 0

-- the item that begins at a place; its values are fewer where the words end
abbrev pub item_at : Verb → List (List ℕ) → ℕ → Item
item_at verb words at =
    let role = role_of verb (word_at words at) in
    record { at = at; role = role; count = min (count_of role) (length words - (at + 1)) }

-- the items from a place on, one after the other; each has one word at least
abbrev pub items_from : Verb → List (List ℕ) → ℕ → ℕ → List Item
items_from verb words zero at = []
items_from verb words (suc turns) at =
    if nat_lt at (length words)
    then item_at verb words at ∷ items_from verb words turns (at + 1 + (item_at verb words at).count)
    else []

-- the items behind the command
abbrev pub items_of : Verb → List (List ℕ) → List Item
items_of verb words = items_from verb words (length words) 1
