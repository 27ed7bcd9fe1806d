-- Names for expressions that are evaluated in an order have their final entries.
use Rattle.std.proofs.Common.{◌≡◌, ℕ, ◌+◌, ◌<◌, ◌==◌, List, [], ◌∷◌, ◌++◌, ◌||◌, length, map, take, slice_index_or, Bool, true, false, cond, refl, sym, ◌∙◌, ap, subst, arith, Option, Some, None, inl, inr, append_assoc}
use Rattle.std.specs.Prelude.{Result, Ok}
use Rattle.std.specs.List.{list_any, slice_get, AllByRecursion}
use Rattle.std.specs.Option.{option_map}
use Rattle.std.proofs.lemmas.List.{take_more, length-map}
use Rattle.std.proofs.lemmas.Option.{slice_get-map, slice_get_cases}
use Rattle.sdt_fault.specs.declared.kinds.LineKind.{LineKind}
use Rattle.asm_model.specs.declared.exprs.Expr.{Expr}
use Rattle.asm_model.specs.declared.names.LaidName.{LaidName}
use Rattle.asm_model.specs.declared.values.Value.{Value}
use Rattle.asm_model.specs.declared.values.Value.TheVariants.{Place}
use Rattle.asm_model.specs.AtLine.{HoldsEach, with_names}
use Rattle.asm_model.specs.Directives.{or_else}
use Rattle.asm_model.specs.Forms.{same}
use Rattle.asm_model.specs.Meaning.{named_in, entry_value, known as value_known, meaning}
use Rattle.asm_model.proofs.LineLemmas.{each_append}
use Rattle.asm_model.proofs.WordLemmas.{same_refl, same_true}
use Rattle.asm_model.specs.Entries.{valued_entry, thumb_of, equal_entry}
use Rattle.layout_laws.proofs.EqualLemmas.{equal_made}
use Rattle.layout_laws.proofs.RoundLemmas.{ResultIs, TreeIs, IsClosed, result_weaker, named_joined, tree_is, tree_same}
use Rattle.layout_laws.proofs.SettledLemmas.{items_are, tree_of_items}
use Rattle.layout_laws.proofs.StepLemmas.{Or, made_is}
use Rattle.asm_names.specs.Order.{names_at, is_in, IsOrder}
use Rattle.asm_names.proofs.ListLemmas.{all_get}
use Rattle.asm_names.proofs.SearchLemmas.{one_more}
use Rattle.asm_names.specs.Steps.{one_entry}
use Rattle.asm_names.proofs.EntryLemmas.{found_name, each_has, named_same, each_one}
use Rattle.asm_names.specs.PlacedLines.{line_of}
use Rattle.asm_names.specs.Source.{Owed, equal_pair, IsEntryAt, Settles, begun, further}
use Rattle.asm_names.proofs.MatchLemmas.{EachOwn, Fits}
use Rattle.base_lemmas.proofs.BaseLemmas.{or_either, true_or as or_left, or_true as or_right}

-- ---- one place more

pub settles_more : (declared : List LaidName) (all : List Owed) (first : List LaidName) (places : List ℕ) (k : ℕ) (known new : List LaidName)
    (entry : Option LaidName)
    → k < length places → Settles declared all first (take k places) known → IsEntryAt known declared (slice_get all (slice_index_or places k 0)) entry
    → new ≡ known ++ one_entry entry → Settles declared all first (take (k + 1) places) new
settles_more declared all first places k known new entry le h at e =
    subst (λ z. Settles declared all first z new) (sym (take_more places k 0 le))
    (subst (λ z. Settles declared all first (take k places ++ slice_index_or places k 0 ∷ []) z) (sym e)
    (further (take k places) known (slice_index_or places k 0) entry h at))

-- ---- names that have their final entries

abbrev pub IsComplete : List LaidName → List LaidName → List ℕ → Type 0
IsComplete N known q = named_in q known ≡ named_in q N

or_more : (o p r : Option LaidName) → o ≡ p → ((e : LaidName) → r ≡ Some e → p ≡ Some e) → or_else o r ≡ p
or_more (Some n) p r h f = h
or_more None p None h f = h
or_more None p (Some e) h f = sym (f e refl)

or_own : (o p r : Option LaidName) → ((e : LaidName) → o ≡ Some e → p ≡ Some e) → r ≡ p → or_else o r ≡ p
or_own (Some n) p r f h = sym (f n refl)
or_own None p r f h = h

-- entries more leave names complete
complete_more : (N known ms : List LaidName) → HoldsEach N ms → (q : List ℕ) → IsComplete N known q → IsComplete N (known ++ ms) q
complete_more N known ms held q h =
    named_joined q known ms ∙ or_more (named_in q known) (named_in q N) (named_in q ms) h (λ e. each_has N ms held q e)

found_again : (q : List ℕ) (N : List LaidName) → named_in q (one_entry (named_in q N)) ≡ named_in q N
found_again q N = by_entry (named_in q N) refl
  where
    by_entry : (o : Option LaidName) → named_in q N ≡ o → named_in q (one_entry o) ≡ o
    by_entry None h = refl
    by_entry (Some n) h =
        let x : same n.name q ≡ true = subst (λ z. same z q ≡ true) (sym (found_name q N n h)) (same_refl q) in
        ap (λ b. cond b (Some n) None) x

-- the name's own entry completes it
own_complete : (N known : List LaidName) (name : List ℕ) → HoldsEach N known → IsComplete N (known ++ one_entry (named_in name N)) name
own_complete N known name held =
    named_joined name known (one_entry (named_in name N))
    ∙ or_own (named_in name known) (named_in name N) (named_in name (one_entry (named_in name N))) (λ e. each_has N known held name e) (found_again name N)

own_held : (N : List LaidName) (name : List ℕ) → HoldsEach N (one_entry (named_in name N))
own_held N name = each_one N (named_in name N) (λ e h. named_same name N e h)

-- ---- symbols of entries

own_closed : (P : List ℕ → Type 0) (q : List ℕ) (ns : List LaidName) (n : LaidName) → EachOwn ns → P q → named_in q ns ≡ Some n → ResultIs P (entry_value n)
own_closed P q ns n own h e = result_weaker (λ s. s ≡ n.name) P (λ s x. subst P (sym (x ∙ found_name q ns n e)) h) (entry_value n) (symbols ns own e)
  where
    symbols : (ns : List LaidName) → EachOwn ns → named_in q ns ≡ Some n → ResultIs (λ s. s ≡ n.name) (entry_value n)
    symbols [] own e = absurd (cc)
    symbols (m ∷ ms) own e = by_test (same m.name q) (symbols ms own.1) e
      where
        by_test : (b : Bool) → (named_in q ms ≡ Some n → ResultIs (λ s. s ≡ n.name) (entry_value n)) → cond b (Some m) (named_in q ms) ≡ Some n
            → ResultIs (λ s. s ≡ n.name) (entry_value n)
        by_test true rest k = let x : m ≡ n = cc in subst (λ (z : LaidName). ResultIs (λ s. s ≡ z.name) (entry_value z)) x own.0
        by_test false rest k = rest k

made_symbol : (N known names : List LaidName) (area : Option ℕ) (name : List ℕ) (r : Result Value LineKind) (q : List ℕ) (n : LaidName)
    → HoldsEach N known → ResultIs (IsComplete N known) r → named_in q (equal_entry names area name r ∷ []) ≡ Some n
    → ResultIs (IsComplete N (known ++ one_entry (named_in name N))) (entry_value n)
made_symbol N known names area name r q n held is h = by_test (same (equal_entry names area name r).name q) h
  where
    by_test : (b : Bool) → cond b (Some (equal_entry names area name r)) None ≡ Some n
        → ResultIs (IsComplete N (known ++ one_entry (named_in name N))) (entry_value n)
    by_test false k = absurd (cc)
    by_test true k =
        let x : equal_entry names area name r ≡ n = cc in
        subst (λ (z : LaidName). ResultIs (IsComplete N (known ++ one_entry (named_in name N))) (entry_value z)) x
        (result_weaker (Or (IsComplete N known) name) (IsComplete N (known ++ one_entry (named_in name N)))
        (λ s o. elim o [
          | inl y ↦ subst (IsComplete N (known ++ one_entry (named_in name N))) (sym y) (own_complete N known name held)
          | inr y ↦ complete_more N known (one_entry (named_in name N)) (own_held N name) s y
        ])
        (entry_value (equal_entry names area name r))
        (made_is (IsComplete N known) (equal_entry names area name) r name (equal_made names area name r) refl is))

closed_more : (N known names : List LaidName) (area : Option ℕ) (name : List ℕ) (r : Result Value LineKind)
    → HoldsEach N known → one_entry (named_in name N) ≡ equal_entry names area name r ∷ [] → ResultIs (IsComplete N known) r
    → IsClosed (IsComplete N known) known
    → IsClosed (IsComplete N (known ++ one_entry (named_in name N))) (known ++ one_entry (named_in name N))
closed_more N known names area name r held e is closed q n h found =
    by_entry (named_in q known) refl (sym (named_joined q known (one_entry (named_in name N))) ∙ found)
  where
    by_entry : (o : Option LaidName) → named_in q known ≡ o → or_else o (named_in q (one_entry (named_in name N))) ≡ Some n
        → ResultIs (IsComplete N (known ++ one_entry (named_in name N))) (entry_value n)
    by_entry None x k = made_symbol N known names area name r q n held is (ap (named_in q) (sym e) ∙ k)
    by_entry (Some m) x k =
        let y : named_in q known ≡ Some n = x ∙ k in
        result_weaker (IsComplete N known) (IsComplete N (known ++ one_entry (named_in name N)))
        (complete_more N known (one_entry (named_in name N)) (own_held N name)) (entry_value n)
        (closed q n (y ∙ sym (each_has N known held q n y)) y)

-- ---- what is known behind some places

pub record Knows (N : List LaidName) (E : List (List ℕ × Expr)) (places : List ℕ) (known : List LaidName) : Type 0 where
  pub held : HoldsEach N known
  pub free : (q : List ℕ) → list_any (λ (e : List ℕ × Expr). same q e.0) E ≡ false → IsComplete N known q
  pub deep : (q : List ℕ) → list_any (same q) (names_at E places) ≡ true → IsComplete N known q
  pub closed : IsClosed (IsComplete N known) known

pub knows_first : (N : List LaidName) (E : List (List ℕ × Expr)) (known : List LaidName) → HoldsEach N known
    → ((q : List ℕ) → list_any (λ (e : List ℕ × Expr). same q e.0) E ≡ false → IsComplete N known q) → EachOwn known → Knows N E [] known
knows_first N E known held free own = record {
  held = held;
  free = free;
  deep = λ q h. absurd (cc);
  closed = λ q n h e. own_closed (IsComplete N known) q known n own h e;
}

knows_more : (N : List LaidName) (E : List (List ℕ × Expr)) (places : List ℕ) (known names : List LaidName) (area : Option ℕ) (i : ℕ) (name : List ℕ) (v : Expr)
    (r : Result Value LineKind)
    → slice_get E i ≡ Some (name, v) → Knows N E places known → one_entry (named_in name N) ≡ equal_entry names area name r ∷ []
    → ResultIs (IsComplete N known) r
    → Knows N E (places ++ i ∷ []) (known ++ one_entry (named_in name N))
knows_more N E places known names area i name v r at h e is =
    let more = complete_more N known (one_entry (named_in name N)) (own_held N name) in record {
      held = each_append N known (one_entry (named_in name N)) h.held (own_held N name);
      free = λ q k. more q (h.free q k);
      deep = λ q k.
          let x : (list_any (same q) (names_at E places) || same q name) ≡ true = sym (one_more E places i (name, v) at q) ∙ k in
          elim (or_either (list_any (same q) (names_at E places)) (same q name) x) [
            | inl y ↦ more q (h.deep q y)
            | inr y ↦ subst (IsComplete N (known ++ one_entry (named_in name N))) (sym (same_true q name y)) (own_complete N known name h.held)
          ];
      closed = closed_more N known names area name r h.held e is h.closed;
    }

-- ---- where the same is found under the names that a source declares, names have the same entries

equal_same : (xs ys : List LaidName) → ((q : List ℕ) → named_in q xs ≡ named_in q ys) → (area : Option ℕ) (name : List ℕ) (r : Result Value LineKind)
    → equal_entry xs area name r ≡ equal_entry ys area name r
equal_same xs ys h area name (Ok (Place (c ∷ cs) n)) = ap (λ o. valued_entry name (Place (c ∷ cs) n) (thumb_of o)) (h (c ∷ cs))
equal_same xs ys h area name r = refl

-- ---- all places

there_in : (i : ℕ) (front rest : List ℕ) → is_in i (front ++ i ∷ rest) ≡ true
there_in i [] rest = let x : (i == i) ≡ true = search arith in or_left (i == i) (is_in i rest) x
there_in i (j ∷ front) rest = or_right (j == i) (is_in i (front ++ i ∷ rest)) (there_in i front rest)

some_there : {X : Type 0} → (xs : List X) (i : ℕ) → i < length xs → slice_get xs i ≡ None → ⊥
some_there xs i h e =
    elim ((slice_get_cases xs i).1) [
      | inl x ↦ let y : slice_get xs i ≡ Some x.0 = x.2 in absurd (cc)
      | inr x ↦ let le = x.0 in absurd (omega (arith, h, le))
    ]

known_further : (N names declared : List LaidName) (all : List Owed) (whole : List ℕ)
    → ((q : List ℕ) → named_in q declared ≡ named_in q names)
    → AllByRecursion (Fits N names) all → IsOrder (map equal_pair all) whole
    → (places : List ℕ) (known : List LaidName) (i : ℕ) (rest : List ℕ) (entry : Option LaidName) → whole ≡ places ++ i ∷ rest
    → Knows N (map equal_pair all) places known
    → (o : Option Owed) → slice_get all i ≡ o → IsEntryAt known declared o entry → Knows N (map equal_pair all) (places ++ i ∷ []) (known ++ one_entry entry)
known_further N names declared all whole same_names fits order places known i rest entry split h None x k =
    let within : i < length (map equal_pair all) = order.within i (subst (λ z. is_in i z ≡ true) (sym split) (there_in i places rest)) in
    let len = length-map all equal_pair in
    absurd (some_there all i (omega (arith, within, len)) x)
known_further N names declared all whole same_names fits order places known i rest None split h (Some o) x k = absurd k
known_further N names declared all whole same_names fits order places known i rest (Some entry) split h (Some o) x k =
    let fit = all_get (Fits N names) all i o fits x in
    let there : slice_get (map equal_pair all) i ≡ Some (o.name, o.value) = slice_get-map equal_pair all i ∙ ap (option_map equal_pair) x in
    let P = IsComplete N known in
    let line = line_of o.line in
    let tree : TreeIs P fit.tree =
    tree_of_items P o.value.items (Some []) fit.tree
    (items_are P (map equal_pair all) (names_at (map equal_pair all) places) h.free h.deep o.value.items
    (order.behind places i rest (o.name, o.value) split there) fit.plain) tt fit.is in
    let made = λ (r : Result Value LineKind). equal_entry names o.line.place.area o.name r ∷ [] in
    let value : meaning (with_names line known) fit.tree ≡ meaning (with_names line N) fit.tree =
    ap value_known (tree_same P line known N h.closed (λ q c. c) fit.tree tree) in
    let found : one_entry (named_in o.name N) ≡ made (meaning (with_names line known) fit.tree) = fit.found ∙ ap made (sym value) in
    let entry_is : entry ∷ [] ≡ one_entry (named_in o.name N) =
    ap (λ (z : LaidName). z ∷ [])
    (k fit.parts fit.tree fit.spelled fit.items ∙ equal_same declared names same_names o.line.place.area o.name (meaning (with_names line known) fit.tree))
    ∙ sym found in
    subst (λ z. Knows N (map equal_pair all) (places ++ i ∷ []) (known ++ z)) (sym entry_is)
    (knows_more N (map equal_pair all) places known names o.line.place.area i o.name o.value (meaning (with_names line known) fit.tree) there h found
    (tree_is P line known h.closed fit.tree tree))

pub all_known : (N names declared : List LaidName) (all : List Owed) (first : List LaidName) (whole : List ℕ)
    → ((q : List ℕ) → named_in q declared ≡ named_in q names)
    → AllByRecursion (Fits N names) all → IsOrder (map equal_pair all) whole
    → Knows N (map equal_pair all) [] first
    → (places : List ℕ) (known : List LaidName) (rest : List ℕ) → whole ≡ places ++ rest → Settles declared all first places known
    → Knows N (map equal_pair all) places known
all_known N names declared all first whole same_names fits order start places known rest e begun = start
all_known N names declared all first whole same_names fits order start places after rest e (further before known i entry h at) =
    let split : whole ≡ before ++ i ∷ rest = e ∙ append_assoc before (i ∷ []) rest in
    known_further N names declared all whole same_names fits order before known i rest entry split
    (all_known N names declared all first whole same_names fits order start before known (i ∷ rest) split h) (slice_get all i) refl at
