-- What the place tells that a walk over items gives: the first that a rule names, or the end.
use Rattle.std.proofs.Common.{◌≡◌, ℕ, zero, suc, ◌+◌, ◌-◌, ◌<◌, ◌≤◌, ◌⊎◌, inl, inr, min, nat_lt, nat_le, Bool, true, false, cond, List, [], ◌∷◌, ◌++◌, length, Option, Some, None, refl, sym, ap, subst, append_assoc, arith}
use Rattle.std.proofs.lemmas.List.{append-nil}
use Rattle.std.proofs.lemmas.Bool.Decides.{nat_tests}
use Rattle.tool_words.specs.declared.table.Verb.{Verb}
use Rattle.tool_words.specs.declared.items.Item.{Item}
use Rattle.tool_words.specs.Items.{count_of, item_at, items_from}
use Rattle.tool_words.specs.Rules.{or_else, lesser}
use Rattle.tool_words.specs.Laws.{IsLeast, IsEnd}

abbrev pub Tells : (ℕ → Type 0) → Type 0 → ℕ → Option ℕ → Type 0
Tells P M n None = ((q : ℕ) → P q → ⊥) × (M → ⊥)
Tells P M n (Some p) = IsLeast P p ⊎ IsEnd P M n p

pub either : {A B C : Type 0} → (A → C) → (B → C) → A ⊎ B → C
either f g (inl a) = f a
either f g (inr b) = g b

pub tells_same : (P Q : ℕ → Type 0) (M N : Type 0) (n : ℕ) (o : Option ℕ) → ((q : ℕ) → P q → Q q) → ((q : ℕ) → Q q → P q) → (M → N) → (N → M) → Tells P M n o → Tells Q N n o
tells_same P Q M N n None f g h k t = (λ q x. t.0 q (g q x), λ x. t.1 (k x))
tells_same P Q M N n (Some p) f g h k (inl l) = inl (record { holds = f p l.holds; least = λ q lt x. l.least q lt (g q x) })
tells_same P Q M N n (Some p) f g h k (inr e) = inr (record { nowhere = λ q x. e.nowhere q (g q x); missing = h e.missing; at_end = e.at_end })

-- one after the other
pub joined : (P R : ℕ → Type 0) (M N : Type 0) (n : ℕ) (o rest : Option ℕ) → ((p q : ℕ) → P p → R q → p < q) → (M → (q : ℕ) → R q → ⊥)
    → Tells P M n o → Tells R N n rest → Tells (λ q. P q ⊎ R q) (M ⊎ N) n (or_else o rest)
joined P R M N n None None apart alone a b = (λ q. either (a.0 q) (b.0 q), either a.1 b.1)
joined P R M N n None (Some p) apart alone a (inl l) = inl (record { holds = inr l.holds; least = λ q lt. either (a.0 q) (l.least q lt) })
joined P R M N n None (Some p) apart alone a (inr e) = inr (record { nowhere = λ q. either (a.0 q) (e.nowhere q); missing = inr e.missing; at_end = e.at_end })
joined P R M N n (Some p) rest apart alone (inl l) b =
    inl (record { holds = inl l.holds; least = λ q lt. either (l.least q lt) (λ r. let far : p < q = apart p q l.holds r in absurd (omega arith)) })
joined P R M N n (Some p) rest apart alone (inr e) b =
    inr (record { nowhere = λ q. either (e.nowhere q) (alone e.missing q); missing = inl e.missing; at_end = e.at_end })

-- the lesser of two
both_least : (P R : ℕ → Type 0) (p r : ℕ) (le : Bool) → nat_le p r ≡ le → IsLeast P p → IsLeast R r → IsLeast (λ q. P q ⊎ R q) (min p r)
both_least P R p r true e a b =
    let le : p ≤ r = grind (arith, nat_tests) in
    let m : min p r ≡ p = omega arith in
    rw m (record { holds = inl a.holds; least = λ q lt. either (a.least q lt) (b.least q (omega arith)) })
both_least P R p r false e a b =
    let lt : r < p = grind (arith, nat_tests) in
    let m : min p r ≡ r = omega arith in
    rw m (record { holds = inr b.holds; least = λ q lt. either (a.least q (omega arith)) (b.least q lt) })

pub lesser_tells : (P R : ℕ → Type 0) (M : Type 0) (n : ℕ) (o s : Option ℕ) → ((q : ℕ) → R q → q < n)
    → Tells P M n o → Tells R ⊥ n s → Tells (λ q. P q ⊎ R q) M n (lesser o s)
lesser_tells P R M n None None within a b = (λ q. either (a.0 q) (b.0 q), a.1)
lesser_tells P R M n None (Some p) within a (inl l) = inl (record { holds = inr l.holds; least = λ q lt. either (a.0 q) (l.least q lt) })
lesser_tells P R M n None (Some p) within a (inr e) = absurd e.missing
lesser_tells P R M n (Some p) None within (inl l) b = inl (record { holds = inl l.holds; least = λ q lt. either (l.least q lt) (b.0 q) })
lesser_tells P R M n (Some p) None within (inr e) b = inr (record { nowhere = λ q. either (e.nowhere q) (b.0 q); missing = e.missing; at_end = e.at_end })
lesser_tells P R M n (Some p) (Some r) within (inl a) (inl b) = inl (both_least P R p r (nat_le p r) refl a b)
lesser_tells P R M n (Some p) (Some r) within (inl a) (inr e) = absurd e.missing
lesser_tells P R M n (Some p) (Some r) within (inr e) (inr f) = absurd f.missing
lesser_tells P R M n (Some p) (Some r) within (inr e) (inl b) =
    let lt : r < n = within r b.holds in
    let m : min p r ≡ r = omega (arith, e.at_end) in
    rw m (inl (record { holds = inr b.holds; least = λ q lt. either (e.nowhere q) (b.least q lt) }))

-- what a command lacks beside
pub complete_tells : (P : ℕ → Type 0) (M : Type 0) (n : ℕ) (o : Option ℕ) (c : Bool) → Tells P M n o → Tells P (M ⊎ (c ≡ false)) n (or_else o (cond c None (Some n)))
complete_tells P M n None true t = (t.0, either t.1 (λ e. absurd (let bad : true ≡ false = e in cc)))
complete_tells P M n None false t = inr (record { nowhere = t.0; missing = inr refl; at_end = refl })
complete_tells P M n (Some p) c (inl l) = inl l
complete_tells P M n (Some p) c (inr e) = inr (record { nowhere = e.nowhere; missing = inl e.missing; at_end = e.at_end })

-- ---- of some item, with those before it

abbrev pub From : (List Item → Item → ℕ → Type 0) → List Item → List Item → ℕ → Type 0
From P before [] q = ⊥
From P before (i ∷ is) q = P before i q ⊎ From P (before ++ i ∷ []) is q

abbrev pub Lacks : (Item → Type 0) → List Item → List Item → Type 0
Lacks M before items = From (λ b i q. M i) before items 0

pub record Found (P : List Item → Item → ℕ → Type 0) (front items : List Item) (q : ℕ) : Type 0 where
  pub before : List Item
  pub item : Item
  pub after : List Item
  pub all : before ++ item ∷ after ≡ items
  pub holds : P (front ++ before) item q

pub found : (P : List Item → Item → ℕ → Type 0) (front items : List Item) (q : ℕ) → From P front items q → Found P front items q
found P front [] q x = absurd x
found P front (i ∷ is) q (inl h) = record { before = []; item = i; after = is; all = refl; holds = subst (λ l. P l i q) (sym (append-nil front)) h }
found P front (i ∷ is) q (inr t) =
    let r : Found P (front ++ i ∷ []) is q = found P (front ++ i ∷ []) is q t in record {
      before = i ∷ r.before;
      item = r.item;
      after = r.after;
      all = ap (λ l. i ∷ l) r.all;
      holds = subst (λ l. P l r.item q) (append_assoc front (i ∷ []) r.before) r.holds;
    }

pub placed : (P : List Item → Item → ℕ → Type 0) (front before : List Item) (i : Item) (after : List Item) (q : ℕ) → P (front ++ before) i q → From P front (before ++ i ∷ after) q
placed P front [] i after q h = inl (subst (λ l. P l i q) (append-nil front) h)
placed P front (j ∷ js) i after q h = inr (placed P (front ++ j ∷ []) js i after q (subst (λ l. P l i q) (sym (append_assoc front (j ∷ []) js)) h))

pub from_either : (P Q R : List Item → Item → ℕ → Type 0) → ((b : List Item) (i : Item) (q : ℕ) → P b i q → Q b i q ⊎ R b i q)
    → (before items : List Item) (q : ℕ) → From P before items q → From Q before items q ⊎ From R before items q
from_either P Q R f before [] q x = absurd x
from_either P Q R f before (i ∷ is) q (inl h) = either (λ a. inl (inl a)) (λ b. inr (inl b)) (f before i q h)
from_either P Q R f before (i ∷ is) q (inr t) = either (λ a. inl (inr a)) (λ b. inr (inr b)) (from_either P Q R f (before ++ i ∷ []) is q t)

-- ---- items one after the other, each with its values

pub record IsNext (verb : Verb) (words : List (List ℕ)) (from : ℕ) (i : Item) : Type 0 where
  pub from_on : from ≤ i.at
  pub within : i.at < length words
  pub values : i.count ≡ min (count_of i.role) (length words - (i.at + 1))

abbrev pub Chain : Verb → List (List ℕ) → ℕ → List Item → Type 0
Chain verb words from [] = Unit {0}
Chain verb words from (i ∷ is) = IsNext verb words from i × Chain verb words (i.at + 1 + i.count) is

chained : (verb : Verb) (words : List (List ℕ)) (at turns : ℕ) (b : Bool) → nat_lt at (length words) ≡ b
    → Chain verb words (at + 1 + (item_at verb words at).count) (items_from verb words turns (at + 1 + (item_at verb words at).count))
    → Chain verb words at (cond b (item_at verb words at ∷ items_from verb words turns (at + 1 + (item_at verb words at).count)) [])
chained verb words at turns true e rest = (record { from_on = omega arith; within = grind (arith, nat_tests); values = refl }, rest)
chained verb words at turns false e rest = tt

pub chain_items : (verb : Verb) (words : List (List ℕ)) (turns at : ℕ) → Chain verb words at (items_from verb words turns at)
chain_items verb words zero at = tt
chain_items verb words (suc turns) at = chained verb words at turns (nat_lt at (length words)) refl (chain_items verb words turns (at + 1 + (item_at verb words at).count))

-- ---- a walk over items

abbrev pub walk : (List Item → Item → Option ℕ) → List Item → List Item → Option ℕ
walk w before [] = None
walk w before (i ∷ is) = or_else (w before i) (walk w (before ++ i ∷ []) is)

-- the places of an item are its word and its values
abbrev pub IsNear : Verb → List (List ℕ) → (List Item → Item → ℕ → Type 0) → Type 0
IsNear verb words P = (before : List Item) (i : Item) (from q : ℕ) → IsNext verb words from i → P before i q → (i.at ≤ q) × (q < i.at + 1 + i.count)

pub far : (verb : Verb) (words : List (List ℕ)) (P : List Item → Item → ℕ → Type 0) → IsNear verb words P
    → (before items : List Item) (from q : ℕ) → Chain verb words from items → From P before items q → (from ≤ q) × (q < length words)
far verb words P near before [] from q c x = absurd x
far verb words P near before (i ∷ is) from q c (inl h) =
    let k = near before i from q c.0 h in
    let n : IsNext verb words from i = c.0 in
    (omega (arith, n.from_on, k.0), omega (arith, n.values, n.within, k.1))
far verb words P near before (i ∷ is) from q c (inr t) =
    let k = far verb words P near (before ++ i ∷ []) is (i.at + 1 + i.count) q c.1 t in
    let n : IsNext verb words from i = c.0 in
    (omega (arith, n.from_on, k.0), k.1)

pub walk_tells : (verb : Verb) (words : List (List ℕ)) (P : List Item → Item → ℕ → Type 0) (M : Item → Type 0) (w : List Item → Item → Option ℕ)
    → IsNear verb words P
    → ((i : Item) (from : ℕ) → IsNext verb words from i → M i → length words ≤ i.at + 1 + i.count)
    → ((before : List Item) (i : Item) → i.at < length words → Tells (P before i) (M i) (length words) (w before i))
    → (before items : List Item) (from : ℕ) → Chain verb words from items → Tells (From P before items) (Lacks M before items) (length words) (walk w before items)
walk_tells verb words P M w near ends each before [] from c = (λ q x. x, λ x. x)
walk_tells verb words P M w near ends each before (i ∷ is) from c =
    let n : IsNext verb words from i = c.0 in
    joined (P before i) (From P (before ++ i ∷ []) is) (M i) (Lacks M (before ++ i ∷ []) is) (length words) (w before i) (walk w (before ++ i ∷ []) is)
    (λ p q a b. omega (arith, (near before i from p n a).1, (far verb words P near (before ++ i ∷ []) is (i.at + 1 + i.count) q c.1 b).0))
    (λ m q b. let k = far verb words P near (before ++ i ∷ []) is (i.at + 1 + i.count) q c.1 b in absurd (omega (arith, ends i from n m, k.0, k.1)))
    (each before i n.within)
    (walk_tells verb words P M w near ends each (before ++ i ∷ []) is (i.at + 1 + i.count) c.1)
