-- Which words of a command break a rule, and the first that does: the place is counted from 0, and where something
-- is missing it is one past the last word. This project's.
use Rattle.std.specs.Prelude.{ℕ, ◌+◌, ◌%◌, ◌^◌, ◌==◌, nat_lt, nat_le, min, Bool, true, false, not, ◌&&◌, ◌||◌, if◌then◌else◌}
use Rattle.std.specs.Prelude.{List, [], ◌∷◌, ◌++◌, filter, find, length, bytes_eq, Option, Some, None, is_some}
use Rattle.std.specs.List.{list_any, list_all}
use Rattle.tool_words.specs.declared.table.Verb.{Verb}
use Rattle.tool_words.specs.declared.table.Flag.{Flag}
use Rattle.tool_words.specs.declared.table.Value.{Value}
use Rattle.tool_words.specs.declared.table.Value.TheVariants.{Nothing, File, Address, StepCount, Bank}
use Rattle.tool_words.specs.declared.table.Standing.{Standing}
use Rattle.tool_words.specs.declared.table.Standing.TheVariants.{Needed, With, NeededWith, NeededOr, Without, WithNeither}
use Rattle.tool_words.specs.declared.table.Entry.{Entry}
use Rattle.tool_words.specs.declared.table.Names.{Names}
use Rattle.tool_words.specs.declared.items.Role.{Role}
use Rattle.tool_words.specs.declared.items.Role.TheVariants.{Name, Known, Unknown}
use Rattle.tool_words.specs.declared.items.Item.{Item}
use Rattle.tool_words.specs.Numerals.{numeral, number}
use Rattle.tool_words.specs.Table.{flag_word, options, names_for, is_bank, is_mode, least_names, most_names, must_differ, is_counted}
use Rattle.tool_words.specs.Items.{word_at}

-- ---- items of a kind

abbrev pub same_flag : Flag → Flag → Bool
same_flag f g = bytes_eq (flag_word f) (flag_word g)

abbrev pub is_flag : Flag → Role → Bool
is_flag f Name = false
is_flag f Unknown = false
is_flag f (Known e) = same_flag f e.0

abbrev pub is_name : Role → Bool
is_name Name = true
is_name Unknown = false
is_name (Known e) = false

abbrev pub has : Flag → List Item → Bool
has f items = list_any (λ i. is_flag f i.role) items

abbrev pub name_count : List Item → ℕ
name_count items = length (filter (λ i. is_name i.role) items)

abbrev pub is_bank_role : Role → Bool
is_bank_role Name = false
is_bank_role Unknown = false
is_bank_role (Known e) = is_bank e.1

abbrev pub bank_count : List Item → ℕ
bank_count items = length (filter (λ i. is_bank_role i.role) items)

-- the first of the options of which a command has one
abbrev pub is_mode_role : Role → Bool
is_mode_role Name = false
is_mode_role Unknown = false
is_mode_role (Known e) = is_mode e.2

abbrev pub flag_of : Role → Option Flag
flag_of Name = None
flag_of Unknown = None
flag_of (Known e) = Some e.0

abbrev pub mode_in : Option Item → Option Flag
mode_in None = None
mode_in (Some i) = flag_of i.role

abbrev pub mode_of : List Item → Option Flag
mode_of items = mode_in (find (λ i. is_mode_role i.role) items)

abbrev pub is_the_mode : Flag → Option Flag → Bool
is_the_mode f None = false
is_the_mode f (Some mode) = same_flag f mode

-- ---- when an option stands

-- an option stands as what it is there for: of those of which a command has one, it is the first
abbrev pub is_beside : Flag → Role → Bool
is_beside f role = is_flag f role && not (is_mode_role role)

abbrev pub stands_as : List Item → Flag → Bool
stands_as items f = is_the_mode f (mode_of items) || list_any (λ i. is_beside f i.role) items

abbrev pub may_stand : List Item → Standing → Bool
may_stand items (With f) = stands_as items f
may_stand items (NeededWith f) = stands_as items f
may_stand items (NeededOr f g) = stands_as items f || stands_as items g
may_stand items (Without f) = not (stands_as items f)
may_stand items (WithNeither f g) = not (stands_as items f || stands_as items g)
may_stand items other = true

abbrev pub must_stand : List Item → Standing → Bool
must_stand items Needed = true
must_stand items (NeededWith f) = stands_as items f
must_stand items (NeededOr f g) = stands_as items f
must_stand items other = false

-- an option stands once, or sixteen times if it is of banks, and beside no other of which there is one
abbrev pub is_surplus : List Item → Entry → Bool
is_surplus before e =
    (if is_bank e.1 then not (nat_lt (bank_count before) 16) else has e.0 before)
    || (is_mode e.2 && is_some (mode_of before))

-- ---- values

-- no file has a name with a zero byte
abbrev pub is_plain : List ℕ → Bool
is_plain word = list_all (λ c. not (c == 0)) word

abbrev pub is_aligned : Option ℕ → Bool
is_aligned None = false
is_aligned (Some n) = n % 4 == 0

abbrev pub is_at_most : ℕ → Option ℕ → Bool
is_at_most most None = false
is_at_most most (Some n) = nat_le n most

-- whole words, one at least, from the base on that end at 2^32 or below
abbrev pub is_size : Option ℕ → Option ℕ → Bool
is_size None size = false
is_size (Some base) None = false
is_size (Some base) (Some size) = nat_lt 0 size && (size % 4 == 0 && nat_le (base + size) (2 ^ 32))

abbrev pub number_at : List (List ℕ) → ℕ → Option ℕ
number_at words at = number (word_at words at)

-- the first value, behind its option at a place
abbrev pub first_is_good : Value → List (List ℕ) → ℕ → Bool
first_is_good Nothing words at = true
first_is_good File words at = is_plain (word_at words (at + 1))
first_is_good Address words at = is_aligned (number_at words (at + 1))
first_is_good StepCount words at = is_at_most 1000000000 (number_at words (at + 1))
first_is_good Bank words at = is_aligned (number_at words (at + 1))

-- the second: a size
abbrev pub second_is_good : List (List ℕ) → ℕ → Bool
second_is_good words at = is_size (number_at words (at + 1)) (number_at words (at + 2))

-- a value that is missing or bad
abbrev pub value_fault : List (List ℕ) → ℕ → Bool → Option ℕ
value_fault words at good = if nat_lt at (length words) then (if good then None else Some at) else Some (length words)

abbrev pub or_else : Option ℕ → Option ℕ → Option ℕ
or_else None later = later
or_else (Some n) later = Some n

abbrev pub values_fault : Value → List (List ℕ) → ℕ → Option ℕ
values_fault Nothing words at = None
values_fault Bank words at =
    or_else (value_fault words (at + 1) (first_is_good Bank words at)) (value_fault words (at + 2) (second_is_good words at))
values_fault one words at = value_fault words (at + 1) (first_is_good one words at)

-- ---- names

abbrev pub is_below : ℕ → Option ℕ → Bool
is_below n None = true
is_below n (Some most) = nat_lt n most

-- a count: decimal digits alone, and a number from 1 to 50,000
abbrev pub decimal_at : List (List ℕ) → ℕ → Option ℕ
decimal_at words at = numeral 10 (word_at words at)

abbrev pub is_count : Option ℕ → Bool
is_count None = false
is_count (Some n) = nat_le 1 n && nat_le n 50000

abbrev pub must_count : Names → List Item → Bool
must_count names before = is_counted names && name_count before == 0

abbrev pub is_met : Bool → Bool → Bool
is_met needed there = not needed || there

abbrev pub name_is_good : Names → List (List ℕ) → List Item → ℕ → Bool
name_is_good names words before at = is_plain (word_at words at) && is_met (must_count names before) (is_count (decimal_at words at))

-- the name is one of these items
abbrev pub stands : List (List ℕ) → List Item → List ℕ → Bool
stands words items name = list_any (λ i. is_name i.role && bytes_eq (word_at words i.at) name) items

-- the first name that stands before too
abbrev pub repeated : List (List ℕ) → List Item → List Item → Option ℕ
repeated words before [] = None
repeated words before (i ∷ is) =
    if is_name i.role && stands words before (word_at words i.at) then Some i.at
    else repeated words (before ++ i ∷ []) is

abbrev pub names_fault : Names → List (List ℕ) → List Item → Option ℕ
names_fault names words items = if must_differ names then repeated words [] items else None

-- ---- all items

-- an item, with all items and those before it
abbrev pub role_fault : Names → List (List ℕ) → List Item → List Item → ℕ → Role → Option ℕ
role_fault names words all before at Name =
    if name_is_good names words before at && is_below (name_count before) (most_names names) then None else Some at
role_fault names words all before at Unknown = Some at
role_fault names words all before at (Known e) =
    if may_stand all e.2 && not (is_surplus before e) then values_fault e.1 words at else Some at

abbrev pub items_fault : Names → List (List ℕ) → List Item → List Item → List Item → Option ℕ
items_fault names words all before [] = None
items_fault names words all before (i ∷ is) =
    or_else (role_fault names words all before i.at i.role) (items_fault names words all (before ++ i ∷ []) is)

-- an option of a command stands where it must, and of those of which it has one there is one
abbrev pub is_there : List Item → Entry → Bool
is_there items e = is_met (is_mode e.2) (is_some (mode_of items)) && is_met (must_stand items e.2) (has e.0 items)

abbrev pub is_complete : Verb → Names → List Item → Bool
is_complete verb names items = nat_le (least_names names) (name_count items) && list_all (λ e. is_there items e) (options verb)

abbrev pub lesser : Option ℕ → Option ℕ → Option ℕ
lesser None o = o
lesser (Some a) None = Some a
lesser (Some a) (Some b) = Some (min a b)

-- the first word that breaks a rule behind a command, or the place of what is missing
abbrev pub verb_fault : Verb → List (List ℕ) → List Item → Option ℕ
verb_fault verb words items =
    let names = names_for verb (mode_of items) in
    or_else (lesser (items_fault names words items [] items) (names_fault names words items))
    (if is_complete verb names items then None else Some (length words))
