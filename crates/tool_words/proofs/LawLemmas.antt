-- The place that is told is the first at which a word breaks a rule.
use Rattle.std.proofs.Common.{◌≡◌, ℕ, ◌+◌, ◌-◌, ◌<◌, ◌≤◌, ◌⊎◌, inl, inr, min, nat_lt, nat_le, Bool, true, false, cond, not, ◌&&◌, ◌||◌, List, [], ◌∷◌, ◌++◌, length, Option, Some, None, Result, Ok, Err, is_some, refl, sym, ap, ◌∙◌, subst, arith}
use Rattle.std.specs.List.{list_all}
use Rattle.std.proofs.lemmas.Bool.Decides.{nat_tests}
use Rattle.tool_words.specs.declared.table.Verb.{Verb}
use Rattle.tool_words.specs.declared.table.Value.{Value}
use Rattle.tool_words.specs.declared.table.Value.TheVariants.{Nothing, File, Address, StepCount, Bank as BankValue}
use Rattle.tool_words.specs.declared.table.Entry.{Entry}
use Rattle.tool_words.specs.declared.table.Names.{Names}
use Rattle.tool_words.specs.declared.items.Role.{Role}
use Rattle.tool_words.specs.declared.items.Role.TheVariants.{Name, Known, Unknown}
use Rattle.tool_words.specs.declared.items.Item.{Item}
use Rattle.tool_words.specs.declared.command.Command.{Command}
use Rattle.tool_words.specs.Table.{options, names_for, value_count, is_bank, is_mode, least_names, most_names, must_differ}
use Rattle.tool_words.specs.Items.{word_at, verb_named, count_of, items_of}
use Rattle.tool_words.specs.Rules.{has, is_name, bank_count, name_count, mode_of, is_plain, must_count, decimal_at, is_count, name_is_good, first_is_good, second_is_good, value_fault, values_fault, or_else, may_stand, must_stand, is_surplus, is_below, role_fault, items_fault, stands, repeated, names_fault, is_met, is_there, is_complete, lesser, verb_fault}
use Rattle.tool_words.specs.Commands.{told, unless, verb_command, verb_words}
use Rattle.tool_words.specs.Laws as laws
use Rattle.tool_words.specs.Laws.{OptionBreaks, NameBreaks, RoleBreaks, BreaksRule, IsOption, IsMissing, BreaksAt, MissesOf, IsLeast, IsEnd, PlaceLaw, FineLaw, WithinLaw}
use Rattle.tool_words.proofs.TellLemmas.{Tells, either, tells_same, joined, lesser_tells, complete_tells, From, Lacks, Found, found, placed, Chain, chain_items, walk, IsNear, far, walk_tells}

opposite : (b : Bool) → b ≡ true → b ≡ false → ⊥
opposite true p q = let bad : true ≡ false = q in cc
opposite false p q = let bad : false ≡ true = p in cc

-- ---- what is needed, and what fails of two

unmet : (needed there : Bool) → needed ≡ true → there ≡ false → is_met needed there ≡ false
unmet true there p q = q
unmet false there p q = absurd (opposite false p refl)

not_met : (needed there : Bool) → is_met needed there ≡ false → (needed ≡ true) × (there ≡ false)
not_met true there h = (refl, h)
not_met false there h = absurd (opposite true refl h)

first_fails : (a b : Bool) → a ≡ false → (a && b) ≡ false
first_fails true b h = absurd (opposite true refl h)
first_fails false b h = refl

second_fails : (a b : Bool) → b ≡ false → (a && b) ≡ false
second_fails true b h = h
second_fails false b h = refl

which_fails : (a b : Bool) → (a && b) ≡ false → (a ≡ false) ⊎ (b ≡ false)
which_fails true b h = inr h
which_fails false b h = inl refl

-- ---- the values of an option

-- a value that stands and is bad
abbrev IsBad : ℕ → ℕ → Bool → ℕ → Type 0
IsBad n at good q = (q ≡ at) × (at < n) × (good ≡ false)

value_of_test : (words : List (List ℕ)) (at : ℕ) (good stands : Bool) → nat_lt at (length words) ≡ stands
    → Tells (IsBad (length words) at good) (length words ≤ at) (length words) (cond stands (cond good None (Some at)) (Some (length words)))
value_of_test words at true true e = (λ q x. opposite true refl x.2, λ le. let lt : at < length words = grind (arith, nat_tests) in absurd (omega arith))
value_of_test words at false true e = inl (record { holds = (refl, grind (arith, nat_tests), refl); least = λ q lt x. absurd (omega (arith, x.0)) })
value_of_test words at good false e =
    let le : length words ≤ at = grind (arith, nat_tests) in
    inr (record { nowhere = λ q x. absurd (omega (arith, x.1)); missing = le; at_end = refl })

value_tells : (words : List (List ℕ)) (at : ℕ) (good : Bool) → Tells (IsBad (length words) at good) (length words ≤ at) (length words) (value_fault words at good)
value_tells words at good = value_of_test words at good (nat_lt at (length words)) refl

-- the first value of an option, and the second
abbrev BadFirst : List (List ℕ) → ℕ → Value → ℕ → Type 0
BadFirst words at v q = (1 ≤ value_count v) × IsBad (length words) (at + 1) (first_is_good v words at) q

abbrev BadSecond : List (List ℕ) → ℕ → Value → ℕ → Type 0
BadSecond words at v q = (2 ≤ value_count v) × IsBad (length words) (at + 2) (second_is_good words at) q

abbrev BadValue : List (List ℕ) → ℕ → Value → ℕ → Type 0
BadValue words at v q = BadFirst words at v q ⊎ BadSecond words at v q

-- of an option with one value
one_only : (words : List (List ℕ)) (at : ℕ) (v : Value) (q : ℕ) → value_count v ≡ 1 → BadValue words at v q → IsBad (length words) (at + 1) (first_is_good v words at) q
one_only words at v q e (inl x) = x.1
one_only words at v q e (inr x) = absurd (omega (arith, x.0, e))

one_tells : (words : List (List ℕ)) (at : ℕ) (v : Value) → value_count v ≡ 1 → Tells (BadValue words at v) (length words ≤ at + value_count v) (length words) (value_fault words (at + 1) (first_is_good v words at))
one_tells words at v e =
    tells_same (IsBad (length words) (at + 1) (first_is_good v words at)) (BadValue words at v) (length words ≤ at + 1) (length words ≤ at + value_count v) (length words) (value_fault words (at + 1) (first_is_good v words at))
    (λ q x. inl (omega (arith, e), x)) (λ q x. one_only words at v q e x) (λ x. omega (arith, e, x)) (λ x. omega (arith, e, x))
    (value_tells words (at + 1) (first_is_good v words at))

two_of : (words : List (List ℕ)) (at q : ℕ) → IsBad (length words) (at + 1) (first_is_good BankValue words at) q ⊎ IsBad (length words) (at + 2) (second_is_good words at) q → BadValue words at BankValue q
two_of words at q (inl x) = inl (omega arith, x)
two_of words at q (inr x) = inr (omega arith, x)

of_two : (words : List (List ℕ)) (at q : ℕ) → BadValue words at BankValue q → IsBad (length words) (at + 1) (first_is_good BankValue words at) q ⊎ IsBad (length words) (at + 2) (second_is_good words at) q
of_two words at q (inl x) = inl x.1
of_two words at q (inr x) = inr x.1

no_value : (words : List (List ℕ)) (at q : ℕ) → BadValue words at Nothing q → ⊥
no_value words at q (inl x) = absurd (let bad : 1 ≤ 0 = x.0 in omega arith)
no_value words at q (inr x) = absurd (let bad : 2 ≤ 0 = x.0 in omega arith)

values_tell : (words : List (List ℕ)) (at : ℕ) (v : Value) → at < length words → Tells (BadValue words at v) (length words ≤ at + value_count v) (length words) (values_fault v words at)
values_tell words at Nothing lt = (no_value words at, λ x. let le : length words ≤ at + 0 = x in absurd (omega (arith, le, lt)))
values_tell words at BankValue lt =
    let first = value_fault words (at + 1) (first_is_good BankValue words at) in
    let second = value_fault words (at + 2) (second_is_good words at) in
    tells_same (λ q. IsBad (length words) (at + 1) (first_is_good BankValue words at) q ⊎ IsBad (length words) (at + 2) (second_is_good words at) q) (BadValue words at BankValue)
    ((length words ≤ at + 1) ⊎ (length words ≤ at + 2)) (length words ≤ at + 2) (length words) (or_else first second)
    (two_of words at) (of_two words at) (either (λ x. omega (arith, x)) (λ x. x)) (λ x. inr x)
    (joined (IsBad (length words) (at + 1) (first_is_good BankValue words at)) (IsBad (length words) (at + 2) (second_is_good words at)) (length words ≤ at + 1) (length words ≤ at + 2) (length words) first second
    (λ p q a b. omega (arith, a.0, b.0))
    (λ m q b. absurd (omega (arith, m, b.1)))
    (value_tells words (at + 1) (first_is_good BankValue words at))
    (value_tells words (at + 2) (second_is_good words at)))
values_tell words at File lt = one_tells words at File refl
values_tell words at Address lt = one_tells words at Address refl
values_tell words at StepCount lt = one_tells words at StepCount refl

-- ---- an option

-- why an option is one too many: of full banks, one that stands twice, or a second mode
surplus : (bank less there mode some : Bool) → cond bank (not less) there || (mode && some) ≡ true
    → ((bank ≡ true) × (less ≡ false)) ⊎ (((bank ≡ false) × (there ≡ true)) ⊎ ((mode ≡ true) × (some ≡ true)))
surplus true false there mode some h = inl (refl, refl)
surplus false less true mode some h = inr (inl (refl, refl))
surplus true true there true some h = inr (inr (refl, h))
surplus false less false true some h = inr (inr (refl, h))
surplus true true there false some h = absurd (let bad : false ≡ true = h in cc)
surplus false less false false some h = absurd (let bad : false ≡ true = h in cc)

no_surplus : (bank less there mode some : Bool) → cond bank (not less) there || (mode && some) ≡ false
    → ((bank ≡ true) × (less ≡ false)) ⊎ (((bank ≡ false) × (there ≡ true)) ⊎ ((mode ≡ true) × (some ≡ true))) → ⊥
no_surplus true false there mode some h x = opposite true refl h
no_surplus false less true mode some h x = opposite true refl h
no_surplus true true there mode some h (inl x) = opposite true refl x.1
no_surplus true true there mode some h (inr (inl x)) = opposite true refl x.0
no_surplus true true there true some h (inr (inr x)) = opposite some x.1 h
no_surplus true true there false some h (inr (inr x)) = opposite false x.0 refl
no_surplus false less false mode some h (inl x) = opposite false x.0 refl
no_surplus false less false mode some h (inr (inl x)) = opposite false x.1 refl
no_surplus false less false true some h (inr (inr x)) = opposite some x.1 h
no_surplus false less false false some h (inr (inr x)) = opposite false x.0 refl

not_less : (n : ℕ) → nat_lt n 16 ≡ false → 16 ≤ n
not_less n e = grind (arith, nat_tests)

module _ (words : List (List ℕ)) (all before : List Item) (at : ℕ) (e : Entry) where
  from_word : (q : ℕ) → OptionBreaks words all before at e q → at ≤ q
  from_word q (laws.excluded x) = omega arith
  from_word q (laws.twice b x) = omega arith
  from_word q (laws.second_mode m x) = omega arith
  from_word q (laws.too_many_banks b x) = omega arith
  from_word q (laws.bad_value c lt x) = omega arith
  from_word q (laws.bad_size c lt x) = omega arith

  of_value : (q : ℕ) → BadValue words at e.1 q → OptionBreaks words all before at e q
  of_value q (inl x) = subst (OptionBreaks words all before at e) (sym x.1.0) (laws.bad_value x.0 x.1.1 x.1.2)
  of_value q (inr x) = subst (OptionBreaks words all before at e) (sym x.1.0) (laws.bad_size x.0 x.1.1 x.1.2)

  abbrev no_more : is_surplus before e ≡ false → ((is_bank e.1 ≡ true) × (nat_lt (bank_count before) 16 ≡ false)) ⊎ (((is_bank e.1 ≡ false) × (has e.0 before ≡ true)) ⊎ ((is_mode e.2 ≡ true) × (is_some (mode_of before) ≡ true))) → ⊥
  no_more s x = no_surplus (is_bank e.1) (nat_lt (bank_count before) 16) (has e.0 before) (is_mode e.2) (is_some (mode_of before)) s x

  value_only : (q : ℕ) → may_stand all e.2 ≡ true → is_surplus before e ≡ false → OptionBreaks words all before at e q → BadValue words at e.1 q
  value_only q a s (laws.excluded x) = absurd (opposite (may_stand all e.2) a x)
  value_only q a s (laws.twice b x) = absurd (no_more s (inr (inl (b, x))))
  value_only q a s (laws.second_mode m x) = absurd (no_more s (inr (inr (m, x))))
  value_only q a s (laws.too_many_banks b x) =
      let full : nat_lt (bank_count before) 16 ≡ false = grind (arith, nat_tests) in
      absurd (no_more s (inl (b, full)))
  value_only q a s (laws.bad_value c lt x) = inl (c, (refl, lt, x))
  value_only q a s (laws.bad_size c lt x) = inr (c, (refl, lt, x))

  too_many : is_surplus before e ≡ true → OptionBreaks words all before at e at
  too_many s =
      either (λ x. let full : 16 ≤ bank_count before = not_less (bank_count before) x.1 in laws.too_many_banks x.0 full)
      (either (λ x. laws.twice x.0 x.1) (λ x. laws.second_mode x.0 x.1))
      (surplus (is_bank e.1) (nat_lt (bank_count before) 16) (has e.0 before) (is_mode e.2) (is_some (mode_of before)) s)

  option_tells : (allowed many : Bool) → may_stand all e.2 ≡ allowed → is_surplus before e ≡ many → at < length words
      → Tells (OptionBreaks words all before at e) (length words ≤ at + value_count e.1) (length words) (cond (allowed && not many) (values_fault e.1 words at) (Some at))
  option_tells false many a s lt = inl (record { holds = laws.excluded a; least = λ q l x. absurd (omega (arith, from_word q x, l)) })
  option_tells true true a s lt = inl (record { holds = too_many s; least = λ q l x. absurd (omega (arith, from_word q x, l)) })
  option_tells true false a s lt =
      tells_same (BadValue words at e.1) (OptionBreaks words all before at e) (length words ≤ at + value_count e.1) (length words ≤ at + value_count e.1) (length words) (values_fault e.1 words at)
      of_value (λ q x. value_only q a s x) (λ x. x) (λ x. x) (values_tell words at e.1 lt)

-- ---- a name

-- but for those that must differ
pub record TooMany (names : Names) (before : List Item) : Type 0 where
  pub most : ℕ
  pub limit : most_names names ≡ Some most
  pub over : most ≤ name_count before

abbrev IsBadName : Names → List (List ℕ) → List Item → ℕ → Type 0
IsBadName names words before at = (is_plain (word_at words at) ≡ false) ⊎ ((must_count names before ≡ true) × (is_count (decimal_at words at) ≡ false))

abbrev NameAlone : Names → List (List ℕ) → List Item → ℕ → ℕ → Type 0
NameAlone names words before at q = (q ≡ at) × (IsBadName names words before at ⊎ TooMany names before)

bad_name : (plain must count : Bool) → (plain && is_met must count) ≡ false → (plain ≡ false) ⊎ ((must ≡ true) × (count ≡ false))
bad_name true must count h = inr (not_met must count h)
bad_name false must count h = inl refl

no_bad_name : (plain must count : Bool) → (plain && is_met must count) ≡ true → (plain ≡ false) ⊎ ((must ≡ true) × (count ≡ false)) → ⊥
no_bad_name plain must count h (inl p) = opposite (plain && is_met must count) h (first_fails plain (is_met must count) p)
no_bad_name plain must count h (inr x) = opposite (plain && is_met must count) h (second_fails plain (is_met must count) (unmet must count x.0 x.1))

few : (names : Names) (before : List Item) (most : ℕ) → most_names names ≡ Some most → nat_lt (name_count before) most ≡ true → TooMany names before → ⊥
few names before most e lt t =
    let same : Some t.most ≡ Some most = sym t.limit ∙ e in
    let k : t.most ≡ most = cc in
    let less : name_count before < most = grind (arith, nat_tests) in
    omega (arith, t.over)

no_limit : (names : Names) (before : List Item) → most_names names ≡ None → TooMany names before → ⊥
no_limit names before e t = let bad : Some t.most ≡ None = sym t.limit ∙ e in cc

module _ (names : Names) (words : List (List ℕ)) (before : List Item) (at : ℕ) where
  fine_name : name_is_good names words before at ≡ true → IsBadName names words before at → ⊥
  fine_name g x = no_bad_name (is_plain (word_at words at)) (must_count names before) (is_count (decimal_at words at)) g x

  name_limit : (most : ℕ) (less : Bool) → name_is_good names words before at ≡ true → most_names names ≡ Some most → nat_lt (name_count before) most ≡ less
      → Tells (NameAlone names words before at) ⊥ (length words) (cond less None (Some at))
  name_limit most true g e lt = (λ q x. either (fine_name g) (few names before most e lt) x.1, λ x. x)
  name_limit most false g e lt =
      let over : most ≤ name_count before = grind (arith, nat_tests) in
      inl (record { holds = (refl, inr (record { most = most; limit = e; over = over })); least = λ q l x. absurd (omega (arith, x.0, l)) })

  name_tells : (good : Bool) (limit : Option ℕ) → name_is_good names words before at ≡ good → most_names names ≡ limit
      → Tells (NameAlone names words before at) ⊥ (length words) (cond (good && is_below (name_count before) limit) None (Some at))
  name_tells false limit g e =
      let bad : IsBadName names words before at = bad_name (is_plain (word_at words at)) (must_count names before) (is_count (decimal_at words at)) g in
      inl (record { holds = (refl, inl bad); least = λ q l x. absurd (omega (arith, x.0, l)) })
  name_tells true None g e = (λ q x. either (fine_name g) (no_limit names before e) x.1, λ x. x)
  name_tells true (Some most) g e = name_limit most (nat_lt (name_count before) most) g e refl

-- ---- an item, but for names that must differ

abbrev Alone : Names → List (List ℕ) → List Item → List Item → ℕ → Role → ℕ → Type 0
Alone names words all before at Name q = NameAlone names words before at q
Alone names words all before at Unknown q = q ≡ at
Alone names words all before at (Known e) q = OptionBreaks words all before at e q

abbrev Wants : List (List ℕ) → ℕ → Role → Type 0
Wants words at Name = ⊥
Wants words at Unknown = ⊥
Wants words at (Known e) = length words ≤ at + value_count e.1

role_tells : (names : Names) (words : List (List ℕ)) (all before : List Item) (at : ℕ) (role : Role) → at < length words
    → Tells (Alone names words all before at role) (Wants words at role) (length words) (role_fault names words all before at role)
role_tells names words all before at Name lt = name_tells names words before at (name_is_good names words before at) (most_names names) refl refl
role_tells names words all before at Unknown lt = inl (record { holds = refl; least = λ q l x. absurd (omega (arith, x, l)) })
role_tells names words all before at (Known e) lt = option_tells words all before at e (may_stand all e.2) (is_surplus before e) refl refl lt

near_option : (words : List (List ℕ)) (all before : List Item) (at : ℕ) (e : Entry) (count q : ℕ) → at < length words → count ≡ min (value_count e.1) (length words - (at + 1))
    → OptionBreaks words all before at e q → q < at + 1 + count
near_option words all before at e count q lt c (laws.excluded x) = omega arith
near_option words all before at e count q lt c (laws.twice b x) = omega arith
near_option words all before at e count q lt c (laws.second_mode m x) = omega arith
near_option words all before at e count q lt c (laws.too_many_banks b x) = omega arith
near_option words all before at e count q lt c (laws.bad_value n l x) = omega arith
near_option words all before at e count q lt c (laws.bad_size n l x) = omega arith

near_role : (names : Names) (words : List (List ℕ)) (all before : List Item) (at : ℕ) (role : Role) (count q : ℕ) → at < length words → count ≡ min (count_of role) (length words - (at + 1))
    → Alone names words all before at role q → (at ≤ q) × (q < at + 1 + count)
near_role names words all before at Name count q lt c x = (omega (arith, x.0), omega (arith, x.0))
near_role names words all before at Unknown count q lt c x = (omega (arith, x), omega (arith, x))
near_role names words all before at (Known e) count q lt c x = (from_word words all before at e q x, near_option words all before at e count q lt c x)

abbrev ItemAlone : Names → List (List ℕ) → List Item → List Item → Item → ℕ → Type 0
ItemAlone names words all before i q = Alone names words all before i.at i.role q

abbrev ItemWants : List (List ℕ) → Item → Type 0
ItemWants words i = Wants words i.at i.role

near_item : (verb : Verb) (names : Names) (words : List (List ℕ)) (all : List Item) → IsNear verb words (ItemAlone names words all)
near_item verb names words all before i from q n x = near_role names words all before i.at i.role i.count q n.within n.values x

role_ends : (words : List (List ℕ)) (at : ℕ) (role : Role) (count : ℕ) → at < length words → count ≡ min (count_of role) (length words - (at + 1)) → Wants words at role → length words ≤ at + 1 + count
role_ends words at Name count lt c x = absurd x
role_ends words at Unknown count lt c x = absurd x
role_ends words at (Known e) count lt c x = omega (arith, x)

items_walk : (names : Names) (words : List (List ℕ)) (all before items : List Item) → walk (λ b i. role_fault names words all b i.at i.role) before items ≡ items_fault names words all before items
items_walk names words all before [] = refl
items_walk names words all before (i ∷ is) = ap (or_else (role_fault names words all before i.at i.role)) (items_walk names words all (before ++ i ∷ []) is)

items_tell : (verb : Verb) (names : Names) (words : List (List ℕ)) (all items : List Item) → Chain verb words 1 items
    → Tells (From (ItemAlone names words all) [] items) (Lacks (ItemWants words) [] items) (length words) (items_fault names words all [] items)
items_tell verb names words all items c =
    subst (Tells (From (ItemAlone names words all) [] items) (Lacks (ItemWants words) [] items) (length words)) (items_walk names words all [] items)
    (walk_tells verb words (ItemAlone names words all) (ItemWants words) (λ b i. role_fault names words all b i.at i.role)
    (near_item verb names words all)
    (λ i from n x. role_ends words i.at i.role i.count n.within n.values x)
    (λ before i lt. role_tells names words all before i.at i.role lt)
    [] items 1 c)

-- ---- names that must differ

abbrev again : List (List ℕ) → List Item → Item → Bool
again words before i = is_name i.role && stands words before (word_at words i.at)

abbrev Repeats : List (List ℕ) → List Item → Item → ℕ → Type 0
Repeats words before i q = (q ≡ i.at) × (again words before i ≡ true)

abbrev repeat_fault : List (List ℕ) → List Item → Item → Option ℕ
repeat_fault words before i = cond (again words before i) (Some i.at) None

chosen_first : (b : Bool) (at : ℕ) (rest : Option ℕ) → or_else (cond b (Some at) None) rest ≡ cond b (Some at) rest
chosen_first true at rest = refl
chosen_first false at rest = refl

repeated_walk : (words : List (List ℕ)) (before items : List Item) → walk (repeat_fault words) before items ≡ repeated words before items
repeated_walk words before [] = refl
repeated_walk words before (i ∷ is) =
    chosen_first (again words before i) i.at (walk (repeat_fault words) (before ++ i ∷ []) is)
    ∙ ap (λ rest. cond (again words before i) (Some i.at) rest) (repeated_walk words (before ++ i ∷ []) is)

repeat_tells : (words : List (List ℕ)) (before : List Item) (i : Item) (b : Bool) → again words before i ≡ b → Tells (Repeats words before i) ⊥ (length words) (cond b (Some i.at) None)
repeat_tells words before i true e = inl (record { holds = (refl, e); least = λ q l x. absurd (omega (arith, x.0, l)) })
repeat_tells words before i false e = (λ q x. opposite (again words before i) x.1 e, λ x. x)

near_repeat : (verb : Verb) (words : List (List ℕ)) → IsNear verb words (Repeats words)
near_repeat verb words before i from q n x = (omega (arith, x.0), omega (arith, x.0))

nothing : (before items : List Item) → Lacks (λ i. ⊥) before items → ⊥
nothing before [] x = x
nothing before (i ∷ is) (inl x) = x
nothing before (i ∷ is) (inr x) = nothing (before ++ i ∷ []) is x

abbrev Same : Names → List (List ℕ) → List Item → ℕ → Type 0
Same names words items q = (must_differ names ≡ true) × From (Repeats words) [] items q

names_tell : (verb : Verb) (names : Names) (words : List (List ℕ)) (items : List Item) (b : Bool) → must_differ names ≡ b → Chain verb words 1 items
    → Tells (Same names words items) ⊥ (length words) (cond b (repeated words [] items) None)
names_tell verb names words items false e c = (λ q x. opposite (must_differ names) x.0 e, λ x. x)
names_tell verb names words items true e c =
    tells_same (From (Repeats words) [] items) (Same names words items) (Lacks (λ i. ⊥) [] items) ⊥ (length words) (repeated words [] items)
    (λ q x. (e, x)) (λ q x. x.1) (nothing [] items) (λ x. absurd x)
    (subst (Tells (From (Repeats words) [] items) (Lacks (λ i. ⊥) [] items) (length words)) (repeated_walk words [] items)
    (walk_tells verb words (Repeats words) (λ i. ⊥) (repeat_fault words) (near_repeat verb words) (λ i from n x. absurd x)
    (λ before i lt. repeat_tells words before i (again words before i) refl) [] items 1 c))

-- ---- what breaks a rule, in the laws' words

whole_name : (names : Names) (words : List (List ℕ)) (before : List Item) (at q : ℕ) → q ≡ at → NameBreaks names words before at
    → NameAlone names words before at q ⊎ ((must_differ names ≡ true) × (q ≡ at) × (stands words before (word_at words at) ≡ true))
whole_name names words before at q e (laws.zero_byte z) = inl (e, inl (inl z))
whole_name names words before at q e (laws.no_count m c) = inl (e, inl (inr (m, c)))
whole_name names words before at q e (laws.too_many_names most limit over) = inl (e, inr (record { most = most; limit = limit; over = over }))
whole_name names words before at q e (laws.repeated d s) = inr (d, e, s)

whole_role : (names : Names) (words : List (List ℕ)) (all before : List Item) (at : ℕ) (role : Role) (q : ℕ)
    → RoleBreaks names words all before at role q → Alone names words all before at role q ⊎ ((must_differ names ≡ true) × (q ≡ at) × ((is_name role && stands words before (word_at words at)) ≡ true))
whole_role names words all before at Name q x = whole_name names words before at q x.0 x.1
whole_role names words all before at Unknown q x = inl x
whole_role names words all before at (Known e) q x = inl x

alone_role : (names : Names) (words : List (List ℕ)) (all before : List Item) (at : ℕ) (role : Role) (q : ℕ) → Alone names words all before at role q → RoleBreaks names words all before at role q
alone_role names words all before at Name q x = (x.0, either (either (λ z. laws.zero_byte z) (λ n. laws.no_count n.0 n.1)) (λ t. laws.too_many_names t.most t.limit t.over) x.1)
alone_role names words all before at Unknown q x = x
alone_role names words all before at (Known e) q x = x

again_role : (names : Names) (words : List (List ℕ)) (all before : List Item) (at : ℕ) (role : Role) (q : ℕ)
    → must_differ names ≡ true → q ≡ at → (is_name role && stands words before (word_at words at)) ≡ true → RoleBreaks names words all before at role q
again_role names words all before at Name q d e s = (e, laws.repeated d s)
again_role names words all before at Unknown q d e s = absurd (let bad : false ≡ true = s in cc)
again_role names words all before at (Known f) q d e s = absurd (let bad : false ≡ true = s in cc)

wants_option : (words : List (List ℕ)) (at : ℕ) (role : Role) → Wants words at role → (e : Entry) × (role ≡ Known e) × (length words ≤ at + value_count e.1)
wants_option words at Name x = absurd x
wants_option words at Unknown x = absurd x
wants_option words at (Known e) x = (e, refl, x)

module _ (verb : Verb) (words : List (List ℕ)) (items : List Item) where
  to_rule : (q : ℕ) → From (ItemAlone (names_for verb (mode_of items)) words items) [] items q ⊎ Same (names_for verb (mode_of items)) words items q → BreaksRule verb words items q
  to_rule q (inl x) =
      let f : Found (ItemAlone (names_for verb (mode_of items)) words items) [] items q = found (ItemAlone (names_for verb (mode_of items)) words items) [] items q x in record {
        before = f.before;
        item = f.item;
        after = f.after;
        all = f.all;
        breaks = alone_role (names_for verb (mode_of items)) words items f.before f.item.at f.item.role q f.holds;
      }
  to_rule q (inr x) =
      let f : Found (Repeats words) [] items q = found (Repeats words) [] items q x.1 in record {
        before = f.before;
        item = f.item;
        after = f.after;
        all = f.all;
        breaks = again_role (names_for verb (mode_of items)) words items f.before f.item.at f.item.role q x.0 f.holds.0 f.holds.1;
      }

  of_rule : (q : ℕ) → BreaksRule verb words items q → From (ItemAlone (names_for verb (mode_of items)) words items) [] items q ⊎ Same (names_for verb (mode_of items)) words items q
  of_rule q r =
      either (λ a. inl (subst (λ l. From (ItemAlone (names_for verb (mode_of items)) words items) [] l q) r.all (placed (ItemAlone (names_for verb (mode_of items)) words items) [] r.before r.item r.after q a)))
      (λ x. inr (x.0, subst (λ l. From (Repeats words) [] l q) r.all (placed (Repeats words) [] r.before r.item r.after q (x.1, x.2))))
      (whole_role (names_for verb (mode_of items)) words items r.before r.item.at r.item.role q r.breaks)

  of_value_missing : Lacks (ItemWants words) [] items → IsMissing verb words items
  of_value_missing x =
      let f : Found (λ b i q. ItemWants words i) [] items 0 = found (λ b i q. ItemWants words i) [] items 0 x in
      let w = wants_option words f.item.at f.item.role f.holds in
      laws.value f.before f.item f.after w.0 f.all w.1 w.2

-- ---- what is missing beside

too_few : (least n : ℕ) → n < least → nat_le least n ≡ false
too_few least n h = grind (arith, nat_tests)

fewer : (least n : ℕ) → nat_le least n ≡ false → n < least
fewer least n h = grind (arith, nat_tests)

-- an entry of a row that fails a test, and where one does
record Fails (p : Entry → Bool) (row : List Entry) : Type 0 where
  before : List Entry
  entry : Entry
  after : List Entry
  all : before ++ entry ∷ after ≡ row
  fails : p entry ≡ false

fails_later : (p : Entry → Bool) (e : Entry) (row : List Entry) → Fails p row → Fails p (e ∷ row)
fails_later p e row f = record { before = e ∷ f.before; entry = f.entry; after = f.after; all = ap (λ l. e ∷ l) f.all; fails = f.fails }

which_entry : (p : Entry → Bool) (row : List Entry) → list_all p row ≡ false → Fails p row
which_entry p [] h = absurd (opposite true refl h)
which_entry p (e ∷ es) h =
    either (λ x. record { before = []; entry = e; after = es; all = refl; fails = x }) (λ x. fails_later p e es (which_entry p es x))
    (which_fails (p e) (list_all p es) h)

entry_fails : (p : Entry → Bool) (before : List Entry) (e : Entry) (after : List Entry) → p e ≡ false → list_all p (before ++ e ∷ after) ≡ false
entry_fails p [] e after h = first_fails (p e) (list_all p after) h
entry_fails p (d ∷ ds) e after h = second_fails (p d) (list_all p (ds ++ e ∷ after)) (entry_fails p ds e after h)

module _ (verb : Verb) (words : List (List ℕ)) (items : List Item) where
  abbrev names : Names
  names = names_for verb (mode_of items)

  abbrev name_met : Bool
  name_met = nat_le (least_names names) (name_count items)

  abbrev options_met : Bool
  options_met = list_all (λ e. is_there items e) (options verb)

  of_entry : Fails (λ e. is_there items e) (options verb) → IsMissing verb words items
  of_entry f =
      let is : IsOption verb f.entry = record { before = f.before; after = f.after; all = f.all } in
      either (λ x. let k = not_met (is_mode f.entry.2) (is_some (mode_of items)) x in laws.mode f.entry is k.0 k.1)
      (λ x. let k = not_met (must_stand items f.entry.2) (has f.entry.0 items) x in laws.option f.entry is k.0 k.1)
      (which_fails (is_met (is_mode f.entry.2) (is_some (mode_of items))) (is_met (must_stand items f.entry.2) (has f.entry.0 items)) f.fails)

  of_incomplete : is_complete verb names items ≡ false → IsMissing verb words items
  of_incomplete h =
      either (λ e. laws.name (fewer (least_names names) (name_count items) e)) (λ o. of_entry (which_entry (λ e. is_there items e) (options verb) o))
      (which_fails name_met options_met h)

  option_lacks : (e : Entry) → IsOption verb e → is_there items e ≡ false → is_complete verb names items ≡ false
  option_lacks e o h =
      second_fails name_met options_met
      (subst (λ row. list_all (λ d. is_there items d) row ≡ false) o.all (entry_fails (λ d. is_there items d) o.before e o.after h))

  to_missing : IsMissing verb words items → Lacks (ItemWants words) [] items ⊎ (is_complete verb names items ≡ false)
  to_missing (laws.value before item after e all role le) =
      inl (subst (λ l. Lacks (ItemWants words) [] l) all (placed (λ b i q. ItemWants words i) [] before item after 0 (subst (Wants words item.at) (sym role) le)))
  to_missing (laws.name lt) = inr (first_fails name_met options_met (too_few (least_names names) (name_count items) lt))
  to_missing (laws.mode e o m x) =
      inr (option_lacks e o (first_fails (is_met (is_mode e.2) (is_some (mode_of items))) (is_met (must_stand items e.2) (has e.0 items)) (unmet (is_mode e.2) (is_some (mode_of items)) m x)))
  to_missing (laws.option e o m x) =
      inr (option_lacks e o (second_fails (is_met (is_mode e.2) (is_some (mode_of items))) (is_met (must_stand items e.2) (has e.0 items)) (unmet (must_stand items e.2) (has e.0 items) m x)))

-- ---- the fault of a command

repeats_within : (verb : Verb) (words : List (List ℕ)) (items : List Item) (q : ℕ) → Chain verb words 1 items → Same (names_for verb (mode_of items)) words items q → q < length words
repeats_within verb words items q c x = (far verb words (Repeats words) (near_repeat verb words) [] items 1 q c x.1).1

fault_tells : (verb : Verb) (words : List (List ℕ)) (items : List Item) → Chain verb words 1 items → Tells (BreaksRule verb words items) (IsMissing verb words items) (length words) (verb_fault verb words items)
fault_tells verb words items c =
    tells_same (λ q. From (ItemAlone (names_for verb (mode_of items)) words items) [] items q ⊎ Same (names_for verb (mode_of items)) words items q) (BreaksRule verb words items)
    (Lacks (ItemWants words) [] items ⊎ (is_complete verb (names_for verb (mode_of items)) items ≡ false)) (IsMissing verb words items) (length words) (verb_fault verb words items)
    (to_rule verb words items) (of_rule verb words items) (either (of_value_missing verb words items) (of_incomplete verb words items)) (to_missing verb words items)
    (complete_tells (λ q. From (ItemAlone (names_for verb (mode_of items)) words items) [] items q ⊎ Same (names_for verb (mode_of items)) words items q) (Lacks (ItemWants words) [] items) (length words)
    (lesser (items_fault (names_for verb (mode_of items)) words items [] items) (names_fault (names_for verb (mode_of items)) words items)) (is_complete verb (names_for verb (mode_of items)) items)
    (lesser_tells (From (ItemAlone (names_for verb (mode_of items)) words items) [] items) (Same (names_for verb (mode_of items)) words items) (Lacks (ItemWants words) [] items) (length words)
    (items_fault (names_for verb (mode_of items)) words items [] items) (names_fault (names_for verb (mode_of items)) words items)
    (λ q x. repeats_within verb words items q c x)
    (items_tell verb (names_for verb (mode_of items)) words items items c)
    (names_tell verb (names_for verb (mode_of items)) words items (must_differ (names_for verb (mode_of items))) refl c)))

-- ---- the laws

told_place : (P : ℕ → Type 0) (M : Type 0) (n : ℕ) (o : Option ℕ) (c : Command) (k : ℕ) → Tells P M n o → unless o c ≡ Err k → (place : ℕ) × (k ≡ told place) × (IsLeast P place ⊎ IsEnd P M n place)
told_place P M n None c k t h = absurd (let bad : Ok c ≡ Err k = h in cc)
told_place P M n (Some p) c k t h = let e : ◌≡◌ {A = Result Command ℕ} (Err (told p)) (Err k) = h in (p, cc, t)

told_none : (P : ℕ → Type 0) (M : Type 0) (n : ℕ) (o : Option ℕ) (c d : Command) → Tells P M n o → unless o c ≡ Ok d → ((q : ℕ) → P q → ⊥) × (M → ⊥)
told_none P M n None c d t h = t
told_none P M n (Some p) c d t h = absurd (let bad : Err (told p) ≡ Ok d = h in cc)

place_of_verb : (v : Option Verb) (words : List (List ℕ)) (k : ℕ) → verb_words v words ≡ Err k
    → (place : ℕ) × (k ≡ told place) × (IsLeast (BreaksAt v words) place ⊎ IsEnd (BreaksAt v words) (MissesOf v words) (length words) place)
place_of_verb None [] k h =
    let e : ◌≡◌ {A = Result Command ℕ} (Err (told 0)) (Err k) = h in
    (0, cc, inr (record { nowhere = λ q x. absurd (omega (arith, x.1)); missing = refl; at_end = refl }))
place_of_verb None (w ∷ ws) k h =
    let e : ◌≡◌ {A = Result Command ℕ} (Err (told 0)) (Err k) = h in
    (0, cc, inl (record { holds = (refl, omega arith); least = λ q lt x. absurd (omega arith) }))
place_of_verb (Some verb) words k h =
    let items = items_of verb words in
    told_place (BreaksRule verb words items) (IsMissing verb words items) (length words) (verb_fault verb words items) (verb_command verb (mode_of items) words items) k
    (fault_tells verb words items (chain_items verb words (length words) 1)) h

pub place_law : PlaceLaw
place_law words k h = place_of_verb (verb_named (word_at words 0)) words k h

fine_verb : (v : Option Verb) (words : List (List ℕ)) (c : Command) → verb_words v words ≡ Ok c → ((q : ℕ) → BreaksAt v words q → ⊥) × (MissesOf v words → ⊥)
fine_verb None words c h = absurd (let bad : Err (told 0) ≡ Ok c = h in cc)
fine_verb (Some verb) words c h =
    let items = items_of verb words in
    told_none (BreaksRule verb words items) (IsMissing verb words items) (length words) (verb_fault verb words items) (verb_command verb (mode_of items) words items) c
    (fault_tells verb words items (chain_items verb words (length words) 1)) h

pub fine_law : FineLaw
fine_law words c h = fine_verb (verb_named (word_at words 0)) words c h

rule_within : (verb : Verb) (words : List (List ℕ)) (items : List Item) (q : ℕ) → Chain verb words 1 items → BreaksRule verb words items q → q < length words
rule_within verb words items q c r =
    either (λ x. (far verb words (ItemAlone (names_for verb (mode_of items)) words items) (near_item verb (names_for verb (mode_of items)) words items) [] items 1 q c x).1)
    (repeats_within verb words items q c)
    (of_rule verb words items q r)

verb_within : (v : Option Verb) (words : List (List ℕ)) (q : ℕ) → BreaksAt v words q → q < length words
verb_within None words q x = omega (arith, x.0, x.1)
verb_within (Some verb) words q x = rule_within verb words (items_of verb words) q (chain_items verb words (length words) 1) x

pub within_law : WithinLaw
within_law words q x = verb_within (verb_named (word_at words 0)) words q x
