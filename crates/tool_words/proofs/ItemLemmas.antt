-- The items from a place on, with turns enough.
use Rattle.std.proofs.Common.{◌≡◌, ℕ, zero, suc, ◌+◌, ◌<◌, ◌≤◌, true, false, nat_lt, List, [], ◌∷◌, ◌++◌, length, refl, ap, sym, ◌∙◌, arith, cond, append_assoc}
use Rattle.std.proofs.lemmas.List.{append-nil}
use Rattle.std.proofs.lemmas.Bool.Decides.{nat_tests}
use Rattle.tool_words.specs.declared.table.Verb.{Verb}
use Rattle.tool_words.specs.declared.items.Item.{Item}
use Rattle.tool_words.specs.Items.{item_at, items_from}

-- the items before a place and those from it on are all of them
pub record Splits (verb : Verb) (words : List (List ℕ)) (before all : List Item) (at turns : ℕ) : Type 0 where
  pub enough : length words ≤ at + turns
  pub all_of : before ++ items_from verb words turns at ≡ all

pub split_more : (verb : Verb) (words : List (List ℕ)) (before all : List Item) (at turns : ℕ) → at < length words → Splits verb words before all at turns
    → (left : ℕ) × Splits verb words (before ++ item_at verb words at ∷ []) all (at + 1 + (item_at verb words at).count) left
split_more verb words before all at zero lt s = absurd (omega (arith, s.enough))
split_more verb words before all at (suc turns) lt s =
    let test : nat_lt at (length words) ≡ true = grind (arith, nat_tests) in
    let rest = items_from verb words turns (at + 1 + (item_at verb words at).count) in
    let opened : items_from verb words (suc turns) at ≡ item_at verb words at ∷ rest = ap (λ b. cond b (item_at verb words at ∷ rest) []) test in
    let moved : (before ++ item_at verb words at ∷ []) ++ rest ≡ before ++ item_at verb words at ∷ rest = append_assoc before (item_at verb words at ∷ []) rest in (
      turns,
      record {
        enough = omega (arith, s.enough);
        all_of = moved ∙ (ap (λ tail. before ++ tail) (sym opened) ∙ s.all_of);
      },
    )

none_left : (verb : Verb) (words : List (List ℕ)) (at turns : ℕ) → length words ≤ at → items_from verb words turns at ≡ []
none_left verb words at zero le = refl
none_left verb words at (suc turns) le =
    let test : nat_lt at (length words) ≡ false = grind (arith, nat_tests) in
    ap (λ b. cond b (item_at verb words at ∷ items_from verb words turns (at + 1 + (item_at verb words at).count)) []) test

pub split_end : (verb : Verb) (words : List (List ℕ)) (before all : List Item) (at turns : ℕ) → length words ≤ at → Splits verb words before all at turns → before ≡ all
split_end verb words before all at turns le s =
    sym (append-nil before) ∙ (ap (λ tail. before ++ tail) (sym (none_left verb words at turns le)) ∙ s.all_of)

pub split_first : (verb : Verb) (words : List (List ℕ)) (before : List Item) → before ≡ [] → (turns : ℕ) × Splits verb words before (items_from verb words (length words) 1) 1 turns
split_first verb words before e = (length words, record { enough = omega arith; all_of = rw e refl })

pub split_next : (verb : Verb) (words : List (List ℕ)) (before after all : List Item) (item : Item) (at turns next : ℕ)
    → at < length words → item ≡ item_at verb words at → after ≡ before ++ item ∷ [] → next ≡ at + (1 + item.count)
    → Splits verb words before all at turns → (left : ℕ) × Splits verb words after all next left
split_next verb words before after all item at turns next lt i a n s =
    let more = split_more verb words before all at turns lt s in
    let place : next ≡ at + 1 + (item_at verb words at).count = rw (n, i) (omega arith) in
    rw (a, i, place) more
