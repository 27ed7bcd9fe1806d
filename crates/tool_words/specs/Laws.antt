-- What the place means that is told of words: rule by rule which word breaks it, and what may be missing. Places are
-- counted from 0. This project's.
use Rattle.std.specs.Prelude.{◌≡◌, ◌⊎◌, ℕ, ◌+◌, ◌<◌, ◌≤◌, true, false, List, ◌∷◌, ◌++◌, length, Option, Some, None, is_some, Ok, Err}
use Rattle.tool_words.specs.declared.table.Verb.{Verb}
use Rattle.tool_words.specs.declared.table.Entry.{Entry}
use Rattle.tool_words.specs.declared.table.Names.{Names}
use Rattle.tool_words.specs.declared.items.Role.{Role}
use Rattle.tool_words.specs.declared.items.Role.TheVariants.{Name, Known, Unknown}
use Rattle.tool_words.specs.declared.items.Item.{Item}
use Rattle.tool_words.specs.declared.command.Command.{Command}
use Rattle.tool_words.specs.Table.{options, names_for, is_bank, is_mode, value_count, least_names, most_names, must_differ}
use Rattle.tool_words.specs.Items.{word_at, verb_named, items_of}
use Rattle.tool_words.specs.Rules.{has, mode_of, may_stand, must_stand, bank_count, name_count, first_is_good, second_is_good}
use Rattle.tool_words.specs.Rules.{is_plain, must_count, decimal_at, is_count, stands}
use Rattle.tool_words.specs.Commands.{told, command_of}

-- ---- words that break a rule

-- why an option breaks one, at its word or at a value: with all items, and those before it
pub data OptionBreaks (words : List (List ℕ)) (all before : List Item) (at : ℕ) (e : Entry) : ℕ → Type 0 where
  excluded : may_stand all e.2 ≡ false → OptionBreaks words all before at e at
  twice : is_bank e.1 ≡ false → has e.0 before ≡ true → OptionBreaks words all before at e at
  second_mode : is_mode e.2 ≡ true → is_some (mode_of before) ≡ true → OptionBreaks words all before at e at
  too_many_banks : is_bank e.1 ≡ true → 16 ≤ bank_count before → OptionBreaks words all before at e at
  bad_value : 1 ≤ value_count e.1 → at + 1 < length words → first_is_good e.1 words at ≡ false
      → OptionBreaks words all before at e (at + 1)
  bad_size : 2 ≤ value_count e.1 → at + 2 < length words → second_is_good words at ≡ false
      → OptionBreaks words all before at e (at + 2)

-- why a name does
pub data NameBreaks (names : Names) (words : List (List ℕ)) (before : List Item) (at : ℕ) : Type 0 where
  zero_byte : is_plain (word_at words at) ≡ false → NameBreaks names words before at
  no_count : must_count names before ≡ true → is_count (decimal_at words at) ≡ false → NameBreaks names words before at
  too_many_names : (most : ℕ) → most_names names ≡ Some most → most ≤ name_count before → NameBreaks names words before at
  repeated : must_differ names ≡ true → stands words before (word_at words at) ≡ true → NameBreaks names words before at

-- an option that the command hasn't always does
abbrev pub RoleBreaks : Names → List (List ℕ) → List Item → List Item → ℕ → Role → ℕ → Type 0
RoleBreaks names words all before at Name place = (place ≡ at) × NameBreaks names words before at
RoleBreaks names words all before at (Known e) place = OptionBreaks words all before at e place
RoleBreaks names words all before at Unknown place = place ≡ at

-- the word at a place breaks a rule: it is the word or a value of some item
pub record BreaksRule (verb : Verb) (words : List (List ℕ)) (items : List Item) (place : ℕ) : Type 0 where
  pub before : List Item
  pub item : Item
  pub after : List Item
  pub all : before ++ item ∷ after ≡ items
  pub breaks : RoleBreaks (names_for verb (mode_of items)) words items before item.at item.role place

-- ---- what is missing

-- one of the options of a command
pub record IsOption (verb : Verb) (e : Entry) : Type 0 where
  pub before : List Entry
  pub after : List Entry
  pub all : before ++ e ∷ after ≡ options verb

pub data IsMissing (verb : Verb) (words : List (List ℕ)) (items : List Item) : Type 0 where
  value : (before : List Item) (item : Item) (after : List Item) (e : Entry) → before ++ item ∷ after ≡ items
      → item.role ≡ Known e → length words ≤ item.at + value_count e.1 → IsMissing verb words items
  name : name_count items < least_names (names_for verb (mode_of items)) → IsMissing verb words items
  mode : (e : Entry) → IsOption verb e → is_mode e.2 ≡ true → is_some (mode_of items) ≡ false → IsMissing verb words items
  option : (e : Entry) → IsOption verb e → must_stand items e.2 ≡ true → has e.0 items ≡ false → IsMissing verb words items

-- ---- the command's name too

abbrev pub BreaksAt : Option Verb → List (List ℕ) → ℕ → Type 0
BreaksAt None words place = (place ≡ 0) × (0 < length words)
BreaksAt (Some verb) words place = BreaksRule verb words (items_of verb words) place

abbrev pub Breaks : List (List ℕ) → ℕ → Type 0
Breaks words place = BreaksAt (verb_named (word_at words 0)) words place

abbrev pub MissesOf : Option Verb → List (List ℕ) → Type 0
MissesOf None words = length words ≡ 0
MissesOf (Some verb) words = IsMissing verb words (items_of verb words)

abbrev pub Misses : List (List ℕ) → Type 0
Misses words = MissesOf (verb_named (word_at words 0)) words

-- ---- the laws

-- the least place at which this holds
pub record IsLeast (P : ℕ → Type 0) (place : ℕ) : Type 0 where
  pub holds : P place
  pub least : (q : ℕ) → q < place → P q → ⊥

-- it holds nowhere, something is missing, and the place is the end
pub record IsEnd (P : ℕ → Type 0) (M : Type 0) (end place : ℕ) : Type 0 where
  pub nowhere : (q : ℕ) → P q → ⊥
  pub missing : M
  pub at_end : place ≡ end

-- The place that is told is that of the first word that breaks a rule; where none does, something is missing, and it
-- is the place behind the last word.
abbrev pub PlaceLaw : Type 0
PlaceLaw =
    (words : List (List ℕ)) (n : ℕ) → command_of words ≡ Err n
    → (place : ℕ) × (n ≡ told place) × (IsLeast (Breaks words) place ⊎ IsEnd (Breaks words) (Misses words) (length words) place)

-- no word of a command breaks a rule, and nothing is missing
abbrev pub FineLaw : Type 0
FineLaw = (words : List (List ℕ)) (c : Command) → command_of words ≡ Ok c → ((q : ℕ) → Breaks words q → ⊥) × (Misses words → ⊥)

-- what breaks a rule is one of the words
abbrev pub WithinLaw : Type 0
WithinLaw = (words : List (List ℕ)) (place : ℕ) → Breaks words place → place < length words
