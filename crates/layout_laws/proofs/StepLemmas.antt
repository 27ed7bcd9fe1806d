-- Rounds of names: a name whose expressions go back to others in so many steps has its final entry after as many rounds.
use Rattle.std.proofs.Common.{◌≡◌, ℕ, zero, suc, ◌≤◌, List, [], ◌∷◌, ◌++◌, Bool, true, false, cond, refl, sym, ◌∙◌, ap, subst, arith, Some, ◌⊎◌, inl, inr}
use Rattle.std.specs.Prelude.{Result, Ok}
use Rattle.sdt_fault.specs.declared.kinds.LineKind.{LineKind}
use Rattle.asm_model.specs.declared.values.Value.{Value}
use Rattle.asm_model.specs.declared.values.Value.TheVariants.{Number, Place}
use Rattle.asm_model.specs.declared.names.LaidName.{LaidName}
use Rattle.asm_model.specs.AtLine.{Definition, Nameless, Named, Equated, SourceLine, with_names}
use Rattle.asm_model.specs.Forms.{same}
use Rattle.asm_model.specs.Grammar.{Tree}
use Rattle.asm_model.specs.Meaning.{named_in, entry_value, known, meaning}
use Rattle.asm_model.proofs.WordLemmas.{same_true}
use Rattle.asm_model.specs.Laid.{entries_with, all_entries}
use Rattle.layout_laws.proofs.RoundLemmas.{SymbolIs, ResultIs, TreeIs, IsClosed, AreSame, result_weaker, tree_weaker, tree_is, tree_same}

-- ---- lines

-- the name of a name for an expression
abbrev pub name_of : (Result Value LineKind → LaidName) → List ℕ
name_of make = (make (Ok (Number 0))).name

-- each name for an expression, with its tree
abbrev pub HoldsOf : (List ℕ → Tree → Type 0) → Definition → Type 0
HoldsOf R Nameless = Unit {0}
HoldsOf R (Named n) = Unit {0}
HoldsOf R (Equated make t) = R (name_of make) t

abbrev pub EachEquated : (List ℕ → Tree → Type 0) → List SourceLine → Type 0
EachEquated R [] = Unit {0}
EachEquated R (l ∷ ls) = HoldsOf R l.definition × EachEquated R ls

pub each_weaker : (R S : List ℕ → Tree → Type 0) → ((q : List ℕ) (t : Tree) → R q t → S q t) → (ls : List SourceLine) → EachEquated R ls → EachEquated S ls
each_weaker R S f [] h = tt
each_weaker R S f (l ∷ ls) h = (by_definition l.definition h.0, each_weaker R S f ls h.1)
  where
    by_definition : (d : Definition) → HoldsOf R d → HoldsOf S d
    by_definition Nameless g = tt
    by_definition (Named n) g = tt
    by_definition (Equated make t) g = f (name_of make) t g

-- an entry keeps its name, and has the result or is its own symbol
abbrev pub IsMade : (Result Value LineKind → LaidName) → Result Value LineKind → Type 0
IsMade make r =
    ((make r).name ≡ name_of make) × ((entry_value (make r) ≡ r) ⊎ (entry_value (make r) ≡ Ok (Place (name_of make) 0)))

abbrev pub IsRegular : Definition → Type 0
IsRegular Nameless = Unit {0}
IsRegular (Named n) = ResultIs (λ s. s ≡ n.name) (entry_value n)
IsRegular (Equated make t) = (r : Result Value LineKind) → IsMade make r

abbrev pub AreRegular : List SourceLine → Type 0
AreRegular [] = Unit {0}
AreRegular (l ∷ ls) = IsRegular l.definition × AreRegular ls

-- names whose expressions go back to others in fewer than so many steps
abbrev pub IsGood : List SourceLine → ℕ → List ℕ → Type 0
IsGood ls zero q = ⊥
IsGood ls (suc k) q = EachEquated (λ p t. p ≡ q → TreeIs (IsGood ls k) t) ls

pub good_more : (ls : List SourceLine) (k j : ℕ) → k ≤ j → (q : List ℕ) → IsGood ls k q → IsGood ls j q
good_more ls zero j le q h = absurd h
good_more ls (suc k) zero le q h = absurd (omega arith)
good_more ls (suc k) (suc j) le q h =
    each_weaker (λ p t. p ≡ q → TreeIs (IsGood ls k) t) (λ p t. p ≡ q → TreeIs (IsGood ls j) t)
    (λ p t f e. tree_weaker (IsGood ls k) (IsGood ls j) (good_more ls k j (omega arith)) t (f e)) ls h

-- ---- one round

pub line_same : (P : List ℕ → Type 0) (l : SourceLine) (xs ys : List LaidName) → IsClosed P xs → AreSame P xs ys
    → (t : Tree) → TreeIs P t → meaning (with_names l xs) t ≡ meaning (with_names l ys) t
line_same P l xs ys closed alike t h =
    ap known (tree_same P l xs ys closed alike t h)

-- entries in front that are the same, or have other names
pub named_behind : (q : List ℕ) (ns xs ys : List LaidName) → named_in q xs ≡ named_in q ys → named_in q (ns ++ xs) ≡ named_in q (ns ++ ys)
named_behind q [] xs ys e = e
named_behind q (n ∷ ns) xs ys e = ap (λ o. cond (same n.name q) (Some n) o) (named_behind q ns xs ys e)

pub made_skipped : (q : List ℕ) (make : Result Value LineKind → LaidName) (r : Result Value LineKind) (xs : List LaidName)
    → IsMade make r → same (name_of make) q ≡ false → named_in q (make r ∷ xs) ≡ named_in q xs
made_skipped q make r xs made e =
    ap (λ z. cond (same z q) (Some (make r)) (named_in q xs)) made.0 ∙ ap (λ b. cond b (Some (make r)) (named_in q xs)) e

pub entry_same : (P : List ℕ → Type 0) (xs ys : List LaidName) (q : List ℕ) (l : SourceLine) (us vs : List LaidName)
    → IsClosed P xs → AreSame P xs ys
    → (d : Definition) → IsRegular d → HoldsOf (λ p t. p ≡ q → TreeIs P t) d → named_in q us ≡ named_in q vs
    → named_in q (entries_with xs l d ++ us) ≡ named_in q (entries_with ys l d ++ vs)
entry_same P xs ys q l us vs closed alike Nameless regular h e = e
entry_same P xs ys q l us vs closed alike (Named n) regular h e = named_behind q (n ∷ []) us vs e
entry_same P xs ys q l us vs closed alike (Equated make t) regular h e = by_test (same (name_of make) q) refl
  where
    by_test : (c : Bool) → same (name_of make) q ≡ c
        → named_in q (make (meaning (with_names l xs) t) ∷ us) ≡ named_in q (make (meaning (with_names l ys) t) ∷ vs)
    by_test true s =
        named_behind q (make (meaning (with_names l xs) t) ∷ []) us vs e
        ∙ ap (λ r. named_in q (make r ∷ vs)) (line_same P l xs ys closed alike t (h (same_true (name_of make) q s)))
    by_test false s =
        made_skipped q make (meaning (with_names l xs) t) us (regular (meaning (with_names l xs) t)) s ∙ e
        ∙ sym (made_skipped q make (meaning (with_names l ys) t) vs (regular (meaning (with_names l ys) t)) s)

pub entries_same : (P : List ℕ → Type 0) (xs ys : List LaidName) (q : List ℕ) → IsClosed P xs → AreSame P xs ys
    → (ls : List SourceLine) → AreRegular ls → EachEquated (λ p t. p ≡ q → TreeIs P t) ls
    → named_in q (all_entries xs ls) ≡ named_in q (all_entries ys ls)
entries_same P xs ys q closed alike [] regular h = refl
entries_same P xs ys q closed alike (l ∷ ls) regular h =
    entry_same P xs ys q l (all_entries xs ls) (all_entries ys ls) closed alike l.definition regular.0 h.0
    (entries_same P xs ys q closed alike ls regular.1 h.1)

-- a symbol is the name itself, or one before
abbrev pub Or : (List ℕ → Type 0) → List ℕ → List ℕ → Type 0
Or P q s = (s ≡ q) ⊎ P s

pub own_symbol : (P : List ℕ → Type 0) (q : List ℕ) (n : ℕ) → SymbolIs (Or P q) (Place q n)
own_symbol P [] n = tt
own_symbol P (c ∷ cs) n = inl refl

pub made_is : (P : List ℕ → Type 0) (make : Result Value LineKind → LaidName) (r : Result Value LineKind) (q : List ℕ)
    → IsMade make r → name_of make ≡ q → ResultIs P r → ResultIs (Or P q) (entry_value (make r))
made_is P make r q made e h =
    elim made.1 [
      | inl x ↦ subst (ResultIs (Or P q)) (sym x) (result_weaker P (Or P q) (λ s p. inr p) r h)
      | inr x ↦ subst (ResultIs (Or P q)) (sym x) (subst (λ z. SymbolIs (Or P q) (Place z 0)) (sym e) (own_symbol P q 0))
    ]

pub made_found : (P : List ℕ → Type 0) (make : Result Value LineKind → LaidName) (r : Result Value LineKind) (q : List ℕ) (us : List LaidName) (n : LaidName)
    → IsMade make r → (name_of make ≡ q → ResultIs P r)
    → (named_in q us ≡ Some n → ResultIs (Or P q) (entry_value n)) → named_in q (make r ∷ us) ≡ Some n → ResultIs (Or P q) (entry_value n)
made_found P make r q us n made h rest e = by_test (same (make r).name q) refl e
  where
    by_test : (c : Bool) → same (make r).name q ≡ c → cond c (Some (make r)) (named_in q us) ≡ Some n → ResultIs (Or P q) (entry_value n)
    by_test true s k =
        let x : make r ≡ n = cc in
        let y : name_of make ≡ q = sym made.0 ∙ same_true (make r).name q s in
        subst (λ z. ResultIs (Or P q) (entry_value z)) x (made_is P make r q made y (h y))
    by_test false s k = rest k

pub entry_found : (P : List ℕ → Type 0) (xs : List LaidName) (q : List ℕ) (l : SourceLine) (us : List LaidName) (n : LaidName)
    → IsClosed P xs
    → (d : Definition) → IsRegular d → HoldsOf (λ p t. p ≡ q → TreeIs P t) d → (named_in q us ≡ Some n → ResultIs (Or P q) (entry_value n))
    → named_in q (entries_with xs l d ++ us) ≡ Some n → ResultIs (Or P q) (entry_value n)
entry_found P xs q l us n closed Nameless regular h rest e = rest e
entry_found P xs q l us n closed (Named m) regular h rest e = by_test (same m.name q) refl e
  where
    by_test : (c : Bool) → same m.name q ≡ c → cond c (Some m) (named_in q us) ≡ Some n → ResultIs (Or P q) (entry_value n)
    by_test true s k =
        let x : m ≡ n = cc in
        let y = same_true m.name q s in
        subst (λ z. ResultIs (Or P q) (entry_value z)) x (result_weaker (λ s. s ≡ m.name) (Or P q) (λ s g. inl (g ∙ y)) (entry_value m) regular)
    by_test false s k = rest k
entry_found P xs q l us n closed (Equated make t) regular h rest e =
    made_found P make (meaning (with_names l xs) t) q us n (regular (meaning (with_names l xs) t)) (λ y. tree_is P l xs closed t (h y)) rest e

pub entries_found : (P : List ℕ → Type 0) (xs : List LaidName) (q : List ℕ) (n : LaidName) → IsClosed P xs
    → (ls : List SourceLine) → AreRegular ls → EachEquated (λ p t. p ≡ q → TreeIs P t) ls
    → named_in q (all_entries xs ls) ≡ Some n → ResultIs (Or P q) (entry_value n)
entries_found P xs q n closed [] regular h e = absurd (cc)
entries_found P xs q n closed (l ∷ ls) regular h e =
    entry_found P xs q l (all_entries xs ls) n closed l.definition regular.0 h.0 (entries_found P xs q n closed ls regular.1 h.1) e

-- ---- all rounds

abbrev pub rounds : ℕ → List SourceLine → List LaidName → List LaidName
rounds zero ls xs = xs
rounds (suc k) ls xs = all_entries (rounds k ls xs) ls

pub rounds_closed : (ls : List SourceLine) → AreRegular ls → (k : ℕ) (xs : List LaidName) → IsClosed (IsGood ls k) (rounds k ls xs)
rounds_closed ls regular zero xs q n h e = absurd h
rounds_closed ls regular (suc k) xs q n h e =
    result_weaker (Or (IsGood ls k) q) (IsGood ls (suc k))
    (λ s o. elim o [ inl x ↦ subst (λ z. IsGood ls (suc k) z) (sym x) h | inr g ↦ good_more ls k (suc k) (omega arith) s g ]) (entry_value n)
    (entries_found (IsGood ls k) (rounds k ls xs) q n (rounds_closed ls regular k xs) ls regular h e)

pub rounds_same : (ls : List SourceLine) → AreRegular ls → (k : ℕ) (xs ys : List LaidName) → AreSame (IsGood ls k) (rounds k ls xs) (rounds k ls ys)
rounds_same ls regular zero xs ys q h = absurd h
rounds_same ls regular (suc k) xs ys q h =
    entries_same (IsGood ls k) (rounds k ls xs) (rounds k ls ys) q (rounds_closed ls regular k xs) (rounds_same ls regular k xs ys) ls regular h

-- where each expression's names are good, a round gives the same
pub whole_entry : (P : List ℕ → Type 0) (xs ys : List LaidName) (l : SourceLine) → IsClosed P xs → AreSame P xs ys
    → (d : Definition) → HoldsOf (λ p t. TreeIs P t) d → entries_with xs l d ≡ entries_with ys l d
whole_entry P xs ys l closed alike Nameless h = refl
whole_entry P xs ys l closed alike (Named n) h = refl
whole_entry P xs ys l closed alike (Equated make t) h = ap (λ r. make r ∷ []) (line_same P l xs ys closed alike t h)

pub whole_round : (P : List ℕ → Type 0) (xs ys : List LaidName) → IsClosed P xs → AreSame P xs ys
    → (ls : List SourceLine) → AreRegular ls → EachEquated (λ p t. TreeIs P t) ls → all_entries xs ls ≡ all_entries ys ls
whole_round P xs ys closed alike [] regular h = refl
whole_round P xs ys closed alike (l ∷ ls) regular h =
    ap (λ z. z ++ all_entries xs ls) (whole_entry P xs ys l closed alike l.definition h.0)
    ∙ ap (λ z. entries_with ys l l.definition ++ z) (whole_round P xs ys closed alike ls regular.1 h.1)

-- after one round more than steps the names are the same, whatever they were at first
pub rounds_end : (ls : List SourceLine) → AreRegular ls → (k : ℕ) → EachEquated (λ p t. TreeIs (IsGood ls k) t) ls
    → (xs ys : List LaidName) → rounds (suc k) ls xs ≡ rounds (suc k) ls ys
rounds_end ls regular k h xs ys =
    whole_round (IsGood ls k) (rounds k ls xs) (rounds k ls ys) (rounds_closed ls regular k xs) (rounds_same ls regular k xs ys) ls regular h
