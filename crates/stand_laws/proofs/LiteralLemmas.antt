-- The literal of a line, with all names, is the value of its expression.
use Rattle.std.proofs.Common.{◌≡◌, ℕ, ◌+◌, ◌%◌, ◌^◌, List, [], ◌∷◌, refl, sym, ◌∙◌, ap, subst, arith, Option, Some, None}
use Rattle.std.specs.Prelude.{Result, Ok, Err, ◌==◌}
use Rattle.std.proofs.lemmas.Bool.{cond-true, eq-eqb}
use Rattle.sdt_fault.specs.declared.kinds.LineKind.{LineKind}
use Rattle.sdt_fault.specs.declared.kinds.LineKind.TheVariants.{WrongType}
use Rattle.asm_model.specs.declared.exprs.BinaryOp.{BinaryOp}
use Rattle.asm_model.specs.declared.exprs.BinaryOp.TheVariants.{Add, Subtract}
use Rattle.asm_model.specs.declared.exprs.ExprItem.TheVariants as item
use Rattle.asm_model.specs.declared.names.Names.{Names}
use Rattle.asm_model.specs.declared.values.Value.{Value}
use Rattle.asm_model.specs.declared.values.Value.TheVariants.{Number, Truth, Words, Place}
use Rattle.asm_model.specs.Grammar.{Tree, Leaf, Between}
use Rattle.asm_model.specs.Meaning.{named_in, stands_at, less, moved_place, distance, between_places, as_number, as_place, binary, value_of, meaning}
use Rattle.asm_model.specs.Readings.{then_both}
use Rattle.asm_model.proofs.LineLemmas.{number_more}
use Rattle.layout_laws.proofs.RoundLemmas.{ResultIs}
use Rattle.layout_laws.proofs.SettledLemmas.{HoldsConstant}
use Rattle.layout_laws.proofs.TreeLemmas.{TreeEach}

-- ---- numbers modulo 2^32

abbrev pub Same32 : ℕ → ℕ → Type 0
Same32 a b = a % 2 ^ 32 ≡ b % 2 ^ 32

pub same_added : (k z p n : ℕ) → Same32 k (z + p) → Same32 ((k + n) % 2 ^ 32) (z + (p + n) % 2 ^ 32)
same_added k z p n h = omega (arith, h)

pub same_taken : (k z p n : ℕ) → Same32 k (z + p) → Same32 (less k n) (z + less p n)
same_taken k z p n h = omega (arith, h)

-- ---- a value plus a number

-- a result is the value plus the number
abbrev pub Plus : Value → ℕ → Result Value LineKind → Type 0
Plus (Number m) n r = (k : ℕ) × (r ≡ Ok (Number k)) × Same32 k (m + n)
Plus (Place q m) n r = (k : ℕ) × (r ≡ Ok (Place q k)) × Same32 k (m + n)
Plus (Truth b) n r = Unit {0}
Plus (Words w) n r = Unit {0}

-- what an operator makes of a place and a number, and of anything that stands for the place
pub record Moves (names : Names) (op : BinaryOp) (s : List ℕ) (p n : ℕ) (x : Value) : Type 0 where
  pub number : ℕ
  pub is : x ≡ Place s number
  pub plain : (k z : ℕ) → Same32 k (z + p) → (j : ℕ) × (binary names op (Number k) (Number n) ≡ Ok (Number j)) × Same32 j (z + number)
  pub placed : (q : List ℕ) (k z : ℕ) → Same32 k (z + p) → (j : ℕ) × (binary names op (Place q k) (Number n) ≡ Ok (Place q j)) × Same32 j (z + number)

pub moves : (names : Names) (op : BinaryOp) (s : List ℕ) (p n : ℕ) (x : Value) → as_place s (moved_place op p n) ≡ Ok x → Moves names op s p n x
moves names Add s p n x h = record {
  number = (p + n) % 2 ^ 32;
  is = cc;
  plain = λ k z e. ((k + n) % 2 ^ 32, refl, same_added k z p n e);
  placed = λ q k z e. ((k + n) % 2 ^ 32, refl, same_added k z p n e);
}
moves names Subtract s p n x h = record {
  number = less p n;
  is = cc;
  plain = λ k z e. (less k n, refl, same_taken k z p n e);
  placed = λ q k z e. (less k n, refl, same_taken k z p n e);
}
moves names op s p n x h = absurd (cc)

-- a number is added to anything in either order
pub added_turns : (names : Names) (n : ℕ) (r : Result Value LineKind)
    → then_both r (Ok (Number n)) (binary names Add) ≡ then_both (Ok (Number n)) r (binary names Add)
added_turns names n (Ok (Number k)) = ap (λ z. Ok (Number z)) (omega arith)
added_turns names n (Ok v) = refl
added_turns names n (Err k) = refl

pub plus_moved : (names : Names) (op : BinaryOp) (s : List ℕ) (p n : ℕ) (x : Value) (m : Moves names op s p n x) (f : Value) (r q : Result Value LineKind)
    → q ≡ Ok (Number n) → Plus f p r → Plus f m.number (then_both r q (binary names op))
plus_moved names op s p n x m (Number z) r q e h =
    let a = m.plain h.0 z h.2 in
    (a.0, ap (λ y. then_both y q (binary names op)) h.1 ∙ ap (λ y. then_both (Ok (Number h.0)) y (binary names op)) e ∙ a.1, a.2)
plus_moved names op s p n x m (Place t z) r q e h =
    let a = m.placed t h.0 z h.2 in
    (a.0, ap (λ y. then_both y q (binary names op)) h.1 ∙ ap (λ y. then_both (Ok (Place t h.0)) y (binary names op)) e ∙ a.1, a.2)
plus_moved names op s p n x m (Truth b) r q e h = tt
plus_moved names op s p n x m (Words w) r q e h = tt

-- ---- what all names make of a value with names that stay names

-- what a line knows is so with all names; symbols with the property stand for themselves, and so do those that stand in an
-- area
pub record Later (s final : Names) (Own : List ℕ → Type 0) : Type 0 where
  pub known : (t : Tree) (v : Value) → meaning s t ≡ Ok v → meaning final t ≡ Ok v
  pub own : (t : Tree) → TreeEach (HoldsConstant Own) t → ResultIs Own (meaning final t)
  pub entry : (q : List ℕ) → Own q → value_of (named_in q final.list) ≡ Ok (Place q 0)
  pub stands : (c : ℕ) (cs : List ℕ) (a : ℕ × ℕ) → stands_at s (c ∷ cs) ≡ Some a → value_of (named_in (c ∷ cs) final.list) ≡ Ok (Place (c ∷ cs) 0)

-- a result is a value, and for a symbol what it stands for with all names, plus the number
abbrev pub Loads : Names → Value → Result Value LineKind → Type 0
Loads final (Place [] n) r = r ≡ Ok (Place [] n)
Loads final (Place (c ∷ cs) n) r = (f : Value) → value_of (named_in (c ∷ cs) final.list) ≡ Ok f → Plus f n r
Loads final v r = r ≡ Ok v

pub plus_itself : (q : List ℕ) (n : ℕ) (r : Result Value LineKind) → r ≡ Ok (Place q n) → Plus (Place q 0) n r
plus_itself q n r h = (n, h, omega arith)

pub same_value : (x f : Value) (r : Result Value LineKind) → r ≡ Ok x → r ≡ Ok f → x ≡ f
same_value x f r h k = let e : Ok x ≡ Ok f = sym h ∙ k in cc

pub exact : (s final : Names) (Own : List ℕ → Type 0) → Later s final Own → (w : Value) (r : Result Value LineKind) → r ≡ Ok w → ResultIs Own r
    → Loads final w r
exact s final Own later (Place [] n) r e h = e
exact s final Own later (Place (c ∷ cs) n) r e h = λ f x.
    subst (λ z. Plus z n r) (same_value (Place (c ∷ cs) 0) f (value_of (named_in (c ∷ cs) final.list)) (later.entry (c ∷ cs) (subst (ResultIs Own) e h)) x)
    (plus_itself (c ∷ cs) n r e)
exact s final Own later w r e h = e

-- a tree that stays as it is
pub whole : (s final : Names) (Own : List ℕ → Type 0) → Later s final Own → (t : Tree) (w : Value) → TreeEach (HoldsConstant Own) t
    → meaning s t ≡ Ok w → Loads final w (meaning final t)
whole s final Own later t w each h = exact s final Own later w (meaning final t) (later.known t w h) (later.own t each)

-- ---- operators between two places

pub distance_same : (a b : Option (ℕ × ℕ)) (p q k j d : ℕ) → Same32 k p → Same32 j q → distance a p b q ≡ Ok d → distance a k b j ≡ Ok d
distance_same None b p q k j d h g e = absurd (cc)
distance_same (Some a) None p q k j d h g e = absurd (cc)
distance_same (Some a) (Some b) p q k j d h g e =
    let first : (a.1 + k) % 2 ^ 32 ≡ (a.1 + p) % 2 ^ 32 = omega (arith, h) in
    let second : (b.1 + j) % 2 ^ 32 ≡ (b.1 + q) % 2 ^ 32 = omega (arith, g) in
    rw (first, second) e

pub between_same : (names : Names) (op : BinaryOp) (s t : List ℕ) (p q k j d : ℕ) → Same32 k p → Same32 j q → between_places names op s p t q ≡ Ok d
    → between_places names op s k t j ≡ Ok d
between_same names Subtract s t p q k j d h g e = distance_same (stands_at names s) (stands_at names t) p q k j d h g e
between_same names op s t p q k j d h g e = absurd (cc)

abbrev pub Lies : Names → List ℕ → Type 0
Lies names s = (a : ℕ × ℕ) × (stands_at names s ≡ Some a)

pub distance_lies : (a b : Option (ℕ × ℕ)) (p q d : ℕ) → distance a p b q ≡ Ok d → ((x : ℕ × ℕ) × (a ≡ Some x)) × ((y : ℕ × ℕ) × (b ≡ Some y))
distance_lies None b p q d e = absurd (cc)
distance_lies (Some a) None p q d e = absurd (cc)
distance_lies (Some a) (Some b) p q d e = ((a, refl), (b, refl))

pub between_lies : (names : Names) (op : BinaryOp) (s t : List ℕ) (p q d : ℕ) → between_places names op s p t q ≡ Ok d → Lies names s × Lies names t
between_lies names Subtract s t p q d e = distance_lies (stands_at names s) (stands_at names t) p q d e
between_lies names op s t p q d e = absurd (cc)

pub some_number : (r : Result ℕ LineKind) (x : Value) → as_number r ≡ Ok x → (d : ℕ) × (r ≡ Ok d)
some_number (Ok d) x h = (d, refl)
some_number (Err k) x h = absurd (cc)

-- a place of an area keeps its symbol
pub place_kept : (s final : Names) (Own : List ℕ → Type 0) → Later s final Own → (q : List ℕ) (p : ℕ) (r : Result Value LineKind)
    → Lies s q → Loads final (Place q p) r → (k : ℕ) × (r ≡ Ok (Place q k)) × Same32 k p
place_kept s final Own later [] p r lies h = (p, h, refl)
place_kept s final Own later (c ∷ cs) p r lies h =
    let g = h (Place (c ∷ cs) 0) (later.stands c cs lies.0 lies.1) in (g.0, g.1, g.2 ∙ omega arith)

abbrev pub constants : BinaryOp → Value → Value → Tree
constants op v w = Between op (Leaf (item.Constant v)) (Leaf (item.Constant w))

pub places_kept : (s final : Names) (Own : List ℕ → Type 0) → Later s final Own
    → (op : BinaryOp) (a b : List ℕ) (p q : ℕ) (x : Value) (r u : Result Value LineKind)
    → binary s op (Place a p) (Place b q) ≡ Ok x → Loads final (Place a p) r → Loads final (Place b q) u → then_both r u (binary final op) ≡ Ok x
places_kept s final Own later op a b p q x r u h g i =
    let d = some_number (between_places s op a p b q) x h in
    let lies = between_lies s op a b p q d.0 d.1 in
    let first = place_kept s final Own later a p r lies.0 g in
    let second = place_kept s final Own later b q u lies.1 i in
    ap (λ z. then_both z u (binary final op)) first.1
    ∙ ap (λ z. then_both (Ok (Place a first.0)) z (binary final op)) second.1
    ∙ number_more (between_places final op a p b q) (between_places final op a first.0 b second.0) x
    (λ n. between_same final op a b p q first.0 second.0 n first.2 second.2) (later.known (constants op (Place a p) (Place b q)) x h)

-- a symbol that stands in an area as a line sees it does so with all names, since the distance from it to itself is known
pub stands_finally : (s final : Names) → ((t : Tree) (v : Value) → meaning s t ≡ Ok v → meaning final t ≡ Ok v) → (q : List ℕ) (a : ℕ × ℕ)
    → stands_at s q ≡ Some a → Lies final q
stands_finally s final known q a h =
    let n = less ((a.1 + 0) % 2 ^ 32) ((a.1 + 0) % 2 ^ 32) in
    let here : between_places s Subtract q 0 q 0 ≡ Ok n = ap (λ o. distance o 0 o 0) h ∙ cond-true (a.0 == a.0) (Ok n) (Err WrongType) (eq-eqb a.0 a.0 refl) in
    let there = known (constants Subtract (Place q 0) (Place q 0)) (Number n) (ap as_number here) in
    let d = some_number (between_places final Subtract q 0 q 0) (Number n) there in
    (between_lies final Subtract q q 0 0 d.0 d.1).0
