-- What words keep in which no word breaks a rule.
use Rattle.std.proofs.Common.{◌≡◌, ℕ, zero, suc, ◌+◌, ◌%◌, ◌<◌, ◌≤◌, nat_lt, nat_le, Bool, true, false, cond, not, ◌&&◌, ◌||◌, List, [], ◌∷◌, ◌++◌, length, map, Option, Some, None, unwrap_or, refl, sym, ap, subst, ◌∙◌, arith, filter, find, bytes_eq}
use Rattle.std.specs.Prelude.{option_map}
use Rattle.std.specs.List.{AllByRecursion, list_all}
use Rattle.std.specs.Option.{option_map_or}
use Rattle.std.proofs.lemmas.Bool.Decides.{nat_tests}
use Rattle.std.proofs.lemmas.List.{length-map}
use Rattle.tool_words.specs.declared.table.Verb.{Verb}
use Rattle.tool_words.specs.declared.table.Verb.TheVariants.{Assemble, Library, List as Listing, Run, Link, Build, InterruptKit, Burn, Report, MakeBig, Debug}
use Rattle.tool_words.specs.declared.table.Flag.{Flag}
use Rattle.tool_words.specs.declared.table.Flag.TheVariants as flag
use Rattle.tool_words.specs.declared.table.Value.{Value}
use Rattle.tool_words.specs.declared.table.Value.TheVariants.{Address, Bank as BankValue}
use Rattle.tool_words.specs.declared.table.Entry.{Entry}
use Rattle.tool_words.specs.declared.table.Names.{Names}
use Rattle.tool_words.specs.declared.table.Names.TheVariants.{Many, CountAndFile}
use Rattle.tool_words.specs.declared.items.Role.{Role}
use Rattle.tool_words.specs.declared.items.Role.TheVariants.{Name, Known, Unknown}
use Rattle.tool_words.specs.declared.items.Item.{Item}
use Rattle.tool_words.specs.declared.command.LinkPlacement.TheVariants as placement
use Rattle.tool_words.specs.declared.command.Container.TheVariants as container
use Rattle.tool_words.specs.Table.{flag_word, options, names_for, is_bank, least_names, most_names}
use Rattle.tool_words.specs.Items.{word_at, begins_with_dash, known, item_at, items_from, items_of}
use Rattle.tool_words.specs.Rules.{same_flag, has, is_flag, is_name, number_at, is_aligned, is_size, is_plain, must_count, decimal_at, is_count, name_is_good, is_below, first_is_good, value_fault, or_else, values_fault, may_stand, is_surplus, name_count, role_fault, items_fault, names_fault, is_complete, lesser, verb_fault, mode_of}
use Rattle.tool_words.specs.Commands.{value_of, number_of, number_told, bank_at, banks_in, image_of, placement_of, container_of, count_of, names_in, link_words, report_words, library_command, verb_command, IsBank, IsAddress, IsPlaced, IsBased, ComeTogether, AreBanks, IsLinked, IsReported, IsBoard, IsGood}
use Rattle.base_lemmas.proofs.BaseLemmas.{first_of_both, second_of_both}

-- ---- no fault at all

first_none : (a b : Option ℕ) → or_else a b ≡ None → a ≡ None
first_none None b h = refl
first_none (Some n) b h = h

later_none : (a b : Option ℕ) → or_else a b ≡ None → b ≡ None
later_none None b h = h
later_none (Some n) b h = absurd (let bad : Some n ≡ None = h in cc)

lesser_none : (a b : Option ℕ) → lesser a b ≡ None → a ≡ None
lesser_none None b h = refl
lesser_none (Some n) None h = absurd (let bad : Some n ≡ None = h in cc)
lesser_none (Some n) (Some m) h = absurd (cc)

chosen : (b : Bool) (x : Option ℕ) (n : ℕ) → cond b x (Some n) ≡ None → (b ≡ true) × (x ≡ None)
chosen true x n h = (refl, h)
chosen false x n h = absurd (let bad : Some n ≡ None = h in cc)

is_good : (words : List (List ℕ)) (at : ℕ) (good : Bool) → value_fault words at good ≡ None → good ≡ true
is_good words at true h = refl
is_good words at false h = absurd (let bad : Some at ≡ None = (chosen (nat_lt at (length words)) (Some at) (length words) h).1 in cc)

-- ---- values

is_address : Value → Bool
is_address Address = true
is_address other = false

aligned_bank : (base size : Option ℕ) → is_aligned base ≡ true → is_size base size ≡ true → IsBank (record { base = unwrap_or base 0; size = unwrap_or size 0 })
aligned_bank None size a s = absurd (let bad : false ≡ true = a in cc)
aligned_bank (Some base) None a s = absurd (let bad : false ≡ true = s in cc)
aligned_bank (Some base) (Some size) a s = record {
  base = grind (arith, nat_tests);
  size = grind (arith, nat_tests);
  some = grind (arith, nat_tests);
  end = grind (arith, nat_tests);
}

bank_of : (words : List (List ℕ)) (at : ℕ) (v : Value) → is_bank v ≡ true → values_fault v words at ≡ None → IsBank (bank_at words at)
bank_of words at BankValue e h =
    aligned_bank (number_at words (at + 1)) (number_at words (at + 2))
    (is_good words (at + 1) _ (first_none (value_fault words (at + 1) (first_is_good BankValue words at)) _ h))
    (is_good words (at + 2) _ (later_none (value_fault words (at + 1) (first_is_good BankValue words at)) _ h))
bank_of words at v e h = absurd (let bad : false ≡ true = e in cc)

aligned_number : (o : Option ℕ) → is_aligned o ≡ true → unwrap_or o 0 % 4 ≡ 0
aligned_number None h = refl
aligned_number (Some n) h = grind (arith, nat_tests)

address_of : (words : List (List ℕ)) (at : ℕ) (v : Value) → is_address v ≡ true → values_fault v words at ≡ None → unwrap_or (number_at words (at + 1)) 0 % 4 ≡ 0
unfolding is_address
address_of words at Address e h = aligned_number (number_at words (at + 1)) (is_good words (at + 1) _ h)
address_of words at v e h = absurd (let bad : false ≡ true = e in cc)

-- ---- an option takes what its row says

-- wherever it stands in a row
gives : Flag → (Value → Bool) → List Entry → Bool
gives f q row = list_all (λ e. not (same_flag f e.0) || q e.1) row

abbrev Gives : Flag → (Value → Bool) → Role → Type 0
Gives f q Name = Unit {0}
Gives f q Unknown = Unit {0}
Gives f q (Known e) = same_flag f e.0 ≡ true → q e.1 ≡ true

implied : (a b : Bool) → not a || b ≡ true → a ≡ true → b ≡ true
implied true b h e = h
implied false b h e = absurd (let bad : false ≡ true = e in cc)

abbrev found_in : List ℕ → List Entry → Option Entry
found_in word row = find (λ e. bytes_eq (flag_word e.0) word) row

row_step : (f : Flag) (q : Value → Bool) (e : Entry) (rest : Option Entry) (b : Bool) → not (same_flag f e.0) || q e.1 ≡ true → Gives f q (known rest) → Gives f q (known (cond b (Some e) rest))
row_step f q e rest true h r = λ s. implied (same_flag f e.0) (q e.1) h s
row_step f q e rest false h r = r

row_gives : (f : Flag) (q : Value → Bool) (word : List ℕ) (row : List Entry) → gives f q row ≡ true → Gives f q (known (found_in word row))
unfolding gives
row_gives f q word [] h = tt
row_gives f q word (e ∷ es) h =
    row_step f q e (found_in word es) (bytes_eq (flag_word e.0) word)
    (first_of_both (not (same_flag f e.0) || q e.1) _ h)
    (row_gives f q word es (second_of_both (not (same_flag f e.0) || q e.1) _ h))

dash_gives : (f : Flag) (q : Value → Bool) (o : Option Entry) (b : Bool) → Gives f q (known o) → Gives f q (cond b (known o) Name)
dash_gives f q o true g = g
dash_gives f q o false g = tt

module _ (f : Flag) (q : Value → Bool) (verb : Verb) (h : gives f q (options verb) ≡ true) (words : List (List ℕ)) where
  items_step : (at : ℕ) (rest : List Item) (b : Bool) → AllByRecursion (λ i. Gives f q i.role) rest → AllByRecursion (λ i. Gives f q i.role) (cond b (item_at verb words at ∷ rest) [])
  items_step at rest true r =
      (dash_gives f q (found_in (word_at words at) (options verb)) (begins_with_dash (word_at words at)) (row_gives f q (word_at words at) (options verb) h), r)
  items_step at rest false r = tt

  items_give : (turns at : ℕ) → AllByRecursion (λ i. Gives f q i.role) (items_from verb words turns at)
  items_give zero at = tt
  items_give (suc turns) at =
      items_step at (items_from verb words turns (at + 1 + (item_at verb words at).count)) (nat_lt at (length words))
      (items_give turns (at + 1 + (item_at verb words at).count))

-- ---- each item's values

abbrev HasValues : List (List ℕ) → ℕ → Role → Type 0
HasValues words at Name = Unit {0}
HasValues words at Unknown = Unit {0}
HasValues words at (Known e) = values_fault e.1 words at ≡ None

abbrev AllHave : List (List ℕ) → List Item → Type 0
AllHave words items = AllByRecursion (λ i. HasValues words i.at i.role) items

values_fine : (names : Names) (words : List (List ℕ)) (all before : List Item) (at : ℕ) (role : Role) → role_fault names words all before at role ≡ None → HasValues words at role
values_fine names words all before at Name h = tt
values_fine names words all before at Unknown h = tt
values_fine names words all before at (Known e) h = (chosen (may_stand all e.2 && not (is_surplus before e)) (values_fault e.1 words at) at h).1

all_fine : (names : Names) (words : List (List ℕ)) (all before items : List Item) → items_fault names words all before items ≡ None → AllHave words items
all_fine names words all before [] h = tt
all_fine names words all before (i ∷ is) h = (
  values_fine names words all before i.at i.role (first_none (role_fault names words all before i.at i.role) _ h),
  all_fine names words all (before ++ i ∷ []) is (later_none (role_fault names words all before i.at i.role) _ h),
)

-- what holds of each value that a row gives an option holds of the option's item
of_item : (P : Type 0) (f : Flag) (q : Value → Bool) (words : List (List ℕ)) (at : ℕ) (role : Role) → ((v : Value) → q v ≡ true → values_fault v words at ≡ None → P)
    → is_flag f role ≡ true → Gives f q role → HasValues words at role → P
of_item P f q words at Name k e g v = absurd (let bad : false ≡ true = e in cc)
of_item P f q words at Unknown k e g v = absurd (let bad : false ≡ true = e in cc)
of_item P f q words at (Known e) k s g v = k e.1 (g s) v

module _ (f : Flag) (words : List (List ℕ)) where
  bank_more : (i : Item) (is : List Item) (b : Bool) → is_flag f i.role ≡ b → Gives f is_bank i.role → HasValues words i.at i.role → AllByRecursion IsBank (banks_in words is f)
      → AllByRecursion IsBank (map (λ j. bank_at words j.at) (cond b (i ∷ filter (λ j. is_flag f j.role) is) (filter (λ j. is_flag f j.role) is)))
  bank_more i is true e g v rest = (of_item (IsBank (bank_at words i.at)) f is_bank words i.at i.role (bank_of words i.at) e g v, rest)
  bank_more i is false e g v rest = rest

  banks_fine : (items : List Item) → AllByRecursion (λ i. Gives f is_bank i.role) items → AllHave words items → AllByRecursion IsBank (banks_in words items f)
  banks_fine [] g all = tt
  banks_fine (i ∷ is) g all = bank_more i is _ refl g.0 all.0 (banks_fine is g.1 all.1)

  abbrev told_at : Option Item → Option ℕ
  told_at o = option_map (λ at. unwrap_or (number_at words (at + 1)) 0) (option_map (λ j. j.at) o)

  told_more : (i : Item) (rest : Option Item) (b : Bool) → is_flag f i.role ≡ b → Gives f is_address i.role → HasValues words i.at i.role → IsAddress (told_at rest) → IsAddress (told_at (cond b (Some i) rest))
  told_more i rest true e g v r = of_item (unwrap_or (number_at words (i.at + 1)) 0 % 4 ≡ 0) f is_address words i.at i.role (address_of words i.at) e g v
  told_more i rest false e g v r = r

  told_fine : (items : List Item) → AllByRecursion (λ i. Gives f is_address i.role) items → AllHave words items → IsAddress (number_told words items f)
  told_fine [] g all = tt
  told_fine (i ∷ is) g all = told_more i (find (λ j. is_flag f j.role) is) _ refl g.0 all.0 (told_fine is g.1 all.1)

  usual_fine : (o : Option ℕ) (usual : ℕ) → usual % 4 ≡ 0 → IsAddress (option_map (λ at. unwrap_or (number_at words (at + 1)) 0) o) → option_map_or (λ at. unwrap_or (number_at words (at + 1)) 0) o usual % 4 ≡ 0
  usual_fine None usual u a = u
  usual_fine (Some at) usual u a = a

  number_fine : (items : List Item) (usual : ℕ) → usual % 4 ≡ 0 → IsAddress (number_told words items f) → number_of words items f usual % 4 ≡ 0
  number_fine items usual u a = usual_fine (option_map (λ j. j.at) (find (λ j. is_flag f j.role) items)) usual u a

-- ---- an image

image_fine : (mode : Option Flag) (words : List (List ℕ)) (items : List Item) → IsAddress (number_told words items flag.At) → IsPlaced (image_of mode words items)
image_fine (Some flag.Map) words items a = tt
image_fine (Some flag.Burned) words items a = tt
image_fine (Some flag.Elf) words items a = tt
image_fine (Some flag.Aif) words items a = a
image_fine mode words items a = number_fine flag.At words items 0 refl a

based : (mode : Option Flag) (words : List (List ℕ)) (items : List Item) → IsAddress (number_told words items flag.Base) → IsBased (placement_of mode words items)
based (Some flag.Scatter) words items a = tt
based mode words items a = number_fine flag.Base words items 0x8000 refl a

-- what is written of a scatter image, with -elf or without
scattered : (b symbols : Bool) (file : List ℕ) → ComeTogether (placement.Scatter file) (cond b (container.Elf symbols) container.LoadFiles)
scattered true symbols file = tt
scattered false symbols file = tt

written : (mode : Option Flag) (words : List (List ℕ)) (items : List Item) → ComeTogether (placement_of mode words items) (container_of mode items)
written (Some flag.Scatter) words items = scattered (has flag.Elf items) (has flag.Symbols items) (value_of words items flag.Scatter)
written mode words items = tt

ram_fine : (words : List (List ℕ)) (items : List Item) (b : Bool) → AllByRecursion IsBank (banks_in words items flag.Ram) → AreBanks (cond b (Some (banks_in words items flag.Ram)) None)
ram_fine words items true all = all
ram_fine words items false all = tt

names_counted : (words : List (List ℕ)) (items : List Item) → length (names_in words items) ≡ name_count items
names_counted words items = length-map (filter (λ i. is_name i.role) items) (λ i. word_at words i.at)

-- ---- the count of a source that is made

abbrev IsCount : ℕ → Type 0
IsCount n = (1 ≤ n) × (n ≤ 50000)

counts : (o : Option ℕ) → is_count o ≡ true → IsCount (unwrap_or o 0)
counts None h = absurd (let bad : false ≡ true = h in cc)
counts (Some n) h = (grind (arith, nat_tests), grind (arith, nat_tests))

name_counts : (words : List (List ℕ)) (all before : List Item) (at : ℕ) (role : Role) → is_name role ≡ true → name_count before ≡ 0 → role_fault CountAndFile words all before at role ≡ None → is_count (decimal_at words at) ≡ true
name_counts words all before at Name e unnamed h =
    let good = first_of_both (name_is_good CountAndFile words before at) _ (chosen (name_is_good CountAndFile words before at && is_below (name_count before) (most_names CountAndFile)) None at h).0 in
    let must : must_count CountAndFile before ≡ true = grind (arith, nat_tests) in
    implied (must_count CountAndFile before) (is_count (decimal_at words at)) (second_of_both (is_plain (word_at words at)) _ good) must
name_counts words all before at Unknown e unnamed h = absurd (let bad : false ≡ true = e in cc)
name_counts words all before at (Known f) e unnamed h = absurd (let bad : false ≡ true = e in cc)

same_more : (b : Bool) (j : Item) (xs ys : List Item) → length xs ≡ length ys → length (cond b (j ∷ xs) xs) ≡ length (cond b (j ∷ ys) ys)
same_more true j xs ys h = ap suc h
same_more false j xs ys h = h

no_name_more : (before : List Item) (i : Item) → is_name i.role ≡ false → name_count (before ++ i ∷ []) ≡ name_count before
no_name_more [] i e = ap (λ b. length (cond b (i ∷ []) [])) e
no_name_more (j ∷ js) i e = same_more (is_name j.role) j (filter (λ k. is_name k.role) (js ++ i ∷ [])) (filter (λ k. is_name k.role) js) (no_name_more js i e)

abbrev count_found : List (List ℕ) → Option Item → ℕ
count_found words o = option_map_or (λ at. unwrap_or (decimal_at words at) 0) (option_map (λ i. i.at) o) 0

count_more : (words : List (List ℕ)) (all before : List Item) (i : Item) (is : List Item) (b : Bool) → is_name i.role ≡ b
    → name_count before ≡ 0 → role_fault CountAndFile words all before i.at i.role ≡ None → 0 < length (cond b (i ∷ filter (λ j. is_name j.role) is) (filter (λ j. is_name j.role) is))
    → (name_count (before ++ i ∷ []) ≡ 0 → 0 < name_count is → IsCount (count_found words (find (λ j. is_name j.role) is)))
    → IsCount (count_found words (cond b (Some i) (find (λ j. is_name j.role) is)))
count_more words all before i is true e unnamed h some rest = counts (decimal_at words i.at) (name_counts words all before i.at i.role e unnamed h)
count_more words all before i is false e unnamed h some rest = rest (no_name_more before i e ∙ unnamed) some

-- the first name counts, where no name stands before
first_counts : (words : List (List ℕ)) (all before items : List Item) → name_count before ≡ 0 → items_fault CountAndFile words all before items ≡ None → 0 < name_count items → IsCount (count_of words items)
first_counts words all before [] unnamed h some = absurd (let none : 0 < 0 = some in omega arith)
first_counts words all before (i ∷ is) unnamed h some =
    count_more words all before i is (is_name i.role) refl unnamed (first_none (role_fault CountAndFile words all before i.at i.role) _ h) some
    (λ z s. first_counts words all (before ++ i ∷ []) is z (later_none (role_fault CountAndFile words all before i.at i.role) _ h) s)

-- ---- the command

library_good : (mode : Option Flag) (words : List (List ℕ)) (items : List Item) → IsGood (library_command mode words items)
library_good (Some flag.Create) words items = tt
library_good (Some flag.Extract) words items = tt
library_good mode words items = tt

-- the rows of who makes an image, and of who runs one
record MakesImage (verb : Verb) : Type 0 where
  ram : gives flag.Ram is_bank (options verb) ≡ true
  base : gives flag.Base is_address (options verb) ≡ true
  named : (mode : Option Flag) → names_for verb mode ≡ Many

record RunsImage (verb : Verb) : Type 0 where
  memory : gives flag.Memory is_bank (options verb) ≡ true
  rom : gives flag.Rom is_bank (options verb) ≡ true
  address : gives flag.At is_address (options verb) ≡ true

module _ (verb : Verb) (words : List (List ℕ)) (h : verb_fault verb words (items_of verb words) ≡ None) where
  abbrev items : List Item
  items = items_of verb words

  abbrev names : Names
  names = names_for verb (mode_of items)

  no_item_fault : items_fault names words items [] items ≡ None
  no_item_fault = lesser_none _ (names_fault names words items) (first_none _ _ h)

  all_good : AllHave words items
  all_good = all_fine names words items [] items no_item_fault

  names_enough : nat_le (least_names names) (name_count items) ≡ true
  names_enough =
      let complete : is_complete verb names items ≡ true = (chosen (is_complete verb names items) None (length words) (later_none (lesser (items_fault names words items [] items) (names_fault names words items)) _ h)).0 in
      first_of_both (nat_le (least_names names) (name_count items)) _ complete

  address_good : (f : Flag) → gives f is_address (options verb) ≡ true → IsAddress (number_told words items f)
  address_good f g = told_fine f words items (items_give f is_address verb g words (length words) 1) all_good

  banks_good : (f : Flag) → gives f is_bank (options verb) ≡ true → AllByRecursion IsBank (banks_in words items f)
  banks_good f g = banks_fine f words items (items_give f is_bank verb g words (length words) 1) all_good

  reported : MakesImage verb → IsReported (report_words (mode_of items) words items)
  reported row =
      let some : nat_le 1 (name_count items) ≡ true = subst (λ n. nat_le (least_names n) (name_count items) ≡ true) (row.named (mode_of items)) names_enough in
      record {
        based = based (mode_of items) words items (address_good flag.Base row.base);
        named = rw (names_counted words items) (grind (arith, nat_tests));
        ram = ram_fine words items (has flag.Ram items) (banks_good flag.Ram row.ram);
      }

  linked : MakesImage verb → IsLinked (link_words (mode_of items) words items)
  linked row =
      let r : IsReported (report_words (mode_of items) words items) = reported row in record {
        based = r.based;
        written = written (mode_of items) words items;
        named = r.named;
        ram = r.ram;
      }

  board_good : RunsImage verb → IsBoard (image_of (mode_of items) words items) (banks_in words items flag.Memory) (banks_in words items flag.Rom)
  board_good row = (
    image_fine (mode_of items) words items (address_good flag.At row.address),
    banks_good flag.Memory row.memory,
    banks_good flag.Rom row.rom,
  )

some_name : (n : ℕ) → nat_le 2 n ≡ true → 0 < n
some_name n h = grind (arith, nat_tests)

good : (verb : Verb) (words : List (List ℕ)) → verb_fault verb words (items_of verb words) ≡ None → IsGood (verb_command verb (mode_of (items_of verb words)) words (items_of verb words))
unfolding gives is_address
good Assemble words h = tt
good Library words h = library_good (mode_of (items_of Library words)) words (items_of Library words)
good Listing words h = tt
good Run words h = board_good Run words h (record { memory = refl; rom = refl; address = refl })
good Link words h = linked Link words h (record { ram = refl; base = refl; named = λ mode. refl })
good Build words h = linked Build words h (record { ram = refl; base = refl; named = λ mode. refl })
good InterruptKit words h = number_fine flag.Acknowledge words (items_of InterruptKit words) 0xF000000C refl (address_good InterruptKit words h flag.Acknowledge refl)
good Burn words h = tt
good Report words h = reported Report words h (record { ram = refl; base = refl; named = λ mode. refl })
good MakeBig words h =
    first_counts words (items_of MakeBig words) [] (items_of MakeBig words) refl (no_item_fault MakeBig words h)
    (some_name (name_count (items_of MakeBig words)) (names_enough MakeBig words h))
good Debug words h = board_good Debug words h (record { memory = refl; rom = refl; address = refl })

pub good_words : (verb : Verb) (words : List (List ℕ)) (found : List Item) → found ≡ items_of verb words → verb_fault verb words found ≡ None → IsGood (verb_command verb (mode_of found) words found)
good_words verb words found e h =
    subst (λ is. IsGood (verb_command verb (mode_of is) words is)) (sym e) (good verb words (subst (λ is. verb_fault verb words is ≡ None) e h))
