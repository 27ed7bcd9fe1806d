-- The names that the code finds are all names of the source.
use Rattle.std.proofs.Common.{◌≡◌, ℕ, zero, suc, List, [], ◌∷◌, ◌++◌, map, true, refl, sym, ◌∙◌, ap, subst, Some, append_assoc, append-nil}
use Rattle.std.specs.Prelude.{Result, IfOk}
use Rattle.std.specs.List.{list_any, slice_get, flat_map, AllByRecursion}
use Rattle.sdt_fault.specs.declared.NoMemory.{NoMemory}
use Rattle.asm_model.specs.declared.exprs.Expr.{Expr}
use Rattle.asm_model.specs.declared.names.LaidName.{LaidName}
use Rattle.asm_model.specs.declared.statements.Statement.{Statement}
use Rattle.asm_model.specs.Forms.{same}
use Rattle.asm_model.specs.Meaning.{named_in}
use Rattle.asm_model.proofs.WordLemmas.{same_refl}
use Rattle.asm_model.specs.Labels.{defined_by, declared_names}
use Rattle.asm_model.specs.Laid.{laid, final_names}
use Rattle.asm_model.specs.LayoutKinds.{are_settled, settled_by, settled}
use Rattle.layout_laws.proofs.EqualLemmas.{equal_of, all_equals, EachEqual, equal_parts, equal_both}
use Rattle.layout_laws.proofs.FinalLemmas.{source_holds}
use Rattle.layout_laws.proofs.SettledLemmas.{source_sound, final_names_are_their_entries}
use Rattle.layout_laws.proofs.SoundLemmas.{EachSound, equals_distinct, equals_settled, IsSettledIn, settled_unique}
use Rattle.asm_names.specs.Order.{names_at, is_in, IsOrder}
use Rattle.asm_names.proofs.CallLemmas.{if_ok_more}
use Rattle.asm_names.proofs.ListLemmas.{cut_at}
use Rattle.asm_names.proofs.SearchLemmas.{names_more, one_more}
use Rattle.asm_names.proofs.SettledLemmas.{rounds_stop}
use Rattle.asm_names.specs.Steps.{one_entry}
use Rattle.asm_names.specs.declared.placed_lines.PlacedLine.{PlacedLine}
use Rattle.asm_names.specs.declared.dues.Due.{Due}
use Rattle.asm_names.specs.Owing.{owed_of}
use Rattle.asm_names.specs.Source.{IsSource, Owed, line_entries, owed_in, equal_pair, Settles}
use Rattle.asm_names.proofs.OnceLemmas.{EachFound, each_found}
use Rattle.asm_names.proofs.MatchLemmas.{lines_same, lines_lacking, lines_held, lines_own, owed_pairs, Fits, owed_fit}
use Rattle.asm_names.proofs.SettleLemmas.{IsComplete, Knows, knows_first, all_known}
use Rattle.base_lemmas.proofs.BaseLemmas.{or_true as or_right}

-- ---- pairs by their places

each_place : (R : List ℕ → Expr → Type 0) (E : List (List ℕ × Expr))
    → ((i : ℕ) (x : List ℕ × Expr) → slice_get E i ≡ Some x → R x.0 x.1) → EachEqual R E
each_place R [] h = tt
each_place R (x ∷ xs) h = (h zero x refl, each_place R xs (λ i y e. h (suc i) y e))

each_there : (R : List ℕ → Expr → Type 0) (E : List (List ℕ × Expr)) → EachEqual R E
    → (i : ℕ) (x : List ℕ × Expr) → slice_get E i ≡ Some x → R x.0 x.1
each_there R [] h i x e = absurd (cc)
each_there R (y ∷ ys) h zero x e = let k : y ≡ x = cc in subst (λ (z : List ℕ × Expr). R z.0 z.1) k h.0
each_there R (y ∷ ys) h (suc i) x e = each_there R ys h.1 i x e

-- ---- each name for an expression has its place

all_settled : (ss : List Statement) → EachSound (settled (all_equals ss)) ss
    → EachEqual (λ p e. are_settled (all_equals ss) (settled (all_equals ss)) e.items ≡ true) (all_equals ss)
all_settled ss sound =
    let E = all_equals ss in
    let S = settled E in
    equal_both (λ p e. list_any (same p) S ≡ true) (IsSettledIn E S (settled_by E S E)) (λ p e. are_settled E S e.items ≡ true)
    (λ p e a f. f (subst (λ z. list_any (same p) z ≡ true) (sym (rounds_stop E)) a)) E
    (equals_settled S ss sound) (settled_unique E S E (equals_distinct S ss sound))

placed_name : (E : List (List ℕ × Expr)) (whole : List ℕ) (i : ℕ) (x : List ℕ × Expr) → slice_get E i ≡ Some x → is_in i whole ≡ true
    → list_any (same x.0) (names_at E whole) ≡ true
placed_name E whole i x at h =
    let cut = cut_at i whole h in
    let here : list_any (same x.0) (names_at E (cut.0 ++ i ∷ [])) ≡ true =
    one_more E cut.0 i x at x.0 ∙ or_right (list_any (same x.0) (names_at E cut.0)) (same x.0 x.0) (same_refl x.0) in
    subst (λ z. list_any (same x.0) (names_at E z) ≡ true) (append_assoc cut.0 (i ∷ []) cut.1 ∙ sym cut.2)
    (names_more E (cut.0 ++ i ∷ []) cut.1 x.0 here)

all_complete : (N known : List LaidName) (ss : List Statement) (whole : List ℕ) → EachSound (settled (all_equals ss)) ss → IsOrder (all_equals ss) whole
    → Knows N (all_equals ss) whole known → EachEqual (λ p e. IsComplete N known p) (all_equals ss)
all_complete N known ss whole sound order h =
    let E = all_equals ss in
    each_place (λ p e. IsComplete N known p) E
    (λ i x at. h.deep x.0 (placed_name E whole i x at
    (order.whole i x at ∙ each_there (λ p e. are_settled E (settled E) e.items ≡ true) E (all_settled ss sound) i x at)))

found_known : (known N : List LaidName) (d : List LaidName) (ss : List Statement) → EachEqual (λ p e. IsComplete N known p) (all_equals ss)
    → EachFound N N d ss → EachFound known N d ss
found_known known N d [] h found = tt
found_known known N d (s ∷ ss) h found =
    let p = equal_parts (λ p e. IsComplete N known p) (all_equals ss) (equal_of (defined_by s)) h in (
      λ name e x.
          ap one_entry (subst (λ y. EachEqual (λ p e. IsComplete N known p) (equal_of y)) x p.1).0 ∙ found.0 name e x,
      found_known known N d ss p.0 found.1,
    )

-- ---- all names

pub all_names_found : (ss : List Statement) (lines : List PlacedLine) (declared : List LaidName) (all : List Owed) (whole : List ℕ)
    (first known : List LaidName)
    → IsSource ss lines declared
    → all ≡ flat_map owed_in lines → IsOrder (map equal_pair all) whole → first ≡ flat_map (line_entries []) lines
    → Settles declared all first whole known
    → flat_map (line_entries known) lines ≡ final_names (laid ss)
all_names_found ss lines declared all whole first known source owed order firsts settles =
    let d = declared_names ss in
    let N = final_names (laid ss) in
    let E = all_equals ss in
    let sound = source_sound ss source.sound in
    let entries = final_names_are_their_entries ss source.sound source.plain in
    let found = each_found N N d (settled E) ss sound (λ q k. ap (named_in q) (sym entries)) in
    let pairs : map equal_pair all ≡ E = ap (map equal_pair) owed ∙ owed_pairs d ss lines source.each in
    let fits = owed_fit N d ss lines source.each source.plain source.read found in
    let start : Knows N E [] first =
    subst (Knows N E []) (sym firsts)
    (knows_first N E (flat_map (line_entries []) lines)
    (lines_held N N d ss lines source.each (source_holds ss source.sound source.plain))
    (λ q k. lines_lacking N d q ss lines source.each k ∙ ap (named_in q) entries)
    (lines_own d ss lines source.each)) in
    let knows =
    all_known N d declared all first whole source.found
    (subst (λ z. AllByRecursion (Fits N d) z) (sym owed) fits) order
    (subst (λ z. Knows N z [] first) (sym pairs) start)
    whole known [] (sym (append-nil whole)) settles in
    lines_same known N d ss lines source.each
    (found_known known N d ss
    (all_complete N known ss whole sound (subst (λ z. IsOrder z whole) pairs order) (subst (λ z. Knows N z whole known) pairs knows)) found)
    ∙ entries

pub pairs_twice : {X Y Z : Type 0} → (f : X → Y) (g : Y → Z) (xs : List X) → map (λ x. g (f x)) xs ≡ map g (map f xs)
pairs_twice f g [] = refl
pairs_twice f g (x ∷ xs) = ap (λ z. g (f x) ∷ z) (pairs_twice f g xs)

pub final_is : (ss : List Statement) (lines : List PlacedLine) (declared : List LaidName) (dues looked seen : List Due) (places taken : List ℕ)
    (none first known : List LaidName) (r : Result (List LaidName) NoMemory)
    → IsSource ss lines declared
    → map owed_of dues ≡ flat_map owed_in lines → looked ≡ dues → seen ≡ dues → taken ≡ places → none ≡ []
    → IsOrder (map (λ d. equal_pair (owed_of d)) looked) places → first ≡ flat_map (line_entries none) lines
    → Settles declared (map owed_of seen) first taken known
    → IfOk r (λ names. names ≡ flat_map (line_entries known) lines) → IfOk r (λ names. names ≡ final_names (laid ss))
final_is ss lines declared dues looked seen places taken none first known r source owed a b t n order firsts settles h =
    let same : map (λ d. equal_pair (owed_of d)) looked ≡ map equal_pair (map owed_of dues) =
    ap (map (λ (d : Due). equal_pair (owed_of d))) a ∙ pairs_twice owed_of equal_pair dues in
    let found =
    all_names_found ss lines declared (map owed_of dues) places first known source owed (subst (λ z. IsOrder z places) same order)
    (firsts ∙ ap (λ z. flat_map (line_entries z) lines) n)
    (subst (λ z. Settles declared (map owed_of dues) first z known) t
    (subst (λ z. Settles declared (map owed_of z) first taken known) b settles)) in
    if_ok_more (λ names. names ≡ flat_map (line_entries known) lines) (λ names. names ≡ final_names (laid ss)) (λ names x. x ∙ found) r h
