-- The test of validity: over the items in turn, and that it tells what is valid.
use Rattle.std.proofs.Common.{◌≡◌, ◌≢◌, ℕ, zero, suc, ◌+◌, ◌<◌, ◌≤◌, min, Bool, true, false, cond, eqb, List, [], ◌∷◌, ◌++◌, length, take, drop, get_or, Option, Some, None, refl, sym, ap, subst, ◌∙◌, arith, slice_get}
use Rattle.std.specs.Prelude.{◌↔◌, ◌&&◌, ◌||◌, is_some, is_none, IsSomeAnd}
use Rattle.std.specs.List.{AllByRecursion}
use Rattle.std.specs.Str.{bytes_eq}
use Rattle.std.specs.Option.{option_map}
use Rattle.std.proofs.lemmas.Option.{slice_get-map}
use Rattle.std.proofs.lemmas.Bool.{eqb-true, eq-eqb}
use Rattle.std.proofs.lemmas.List.{drop_more, take_more, map_push}
use Rattle.sdt_word.specs.Numbers.{bit}
use Rattle.chunk_file.specs.Reading.{EachStands}
use Rattle.aof_object.specs.declared.areas.AreaHead.{AreaHead}
use Rattle.aof_object.specs.declared.checks.Flaw.{Flaw}
use Rattle.aof_object.specs.declared.records.Area.{Area}
use Rattle.aof_object.specs.declared.records.Entry.{Entry}
use Rattle.aof_object.specs.declared.records.Object.{Object}
use Rattle.aof_object.specs.declared.records.Reloc.{Reloc}
use Rattle.aof_object.specs.declared.records.Symbol.{Symbol}
use Rattle.aof_object.specs.Names.{IsText, among}
use Rattle.aof_object.specs.Index.{Numbers, number_in, or_number}
use Rattle.aof_object.specs.Checks.{misplaced, area_flaw, reloc_flaw, is_exported, is_placed, symbol_flaw, entry_flaw, left_over}
use Rattle.aof_object.specs.Objects.{stored, exported}
use Rattle.aof_object.specs.Spelling.{area_names}
use Rattle.aof_object.specs.Tests.{all_pass, is_text, reloc_ok, area_by, area_ok, home_at, home_of, symbol_by, symbol_ok, entry_at, entry_ok, is_valid}
use Rattle.aof_object.specs.Validity.{head_of, heads, IsArea, IsReloc, Holds, Lives, IsSymbol, IsEntered, IsValid}
use Rattle.aof_object.proofs.NamesLemmas.{among-push, among-exported}
use Rattle.aof_object.proofs.NameLaw.{lacks_law}
use Rattle.aof_object.proofs.SymbolLaw.{fresh_law}
use Rattle.aof_object.proofs.Checked.{AreaPasses, area_law, reloc_law, HomePasses, SymbolPasses, symbol_law, entry_law}
use Rattle.aof_object.proofs.Lists.{weaker, all_of, with_all}
use Rattle.base_lemmas.proofs.BaseLemmas.{both_true}

-- ---- a loop over items

pub pass_more : {A : Type 0} (test : List A → A → Bool) (xs : List A) (i : ℕ) (x : A) (w : Bool) → i < length xs → x ≡ get_or xs i x → test (take i xs) x ≡ true
    → all_pass test (take i xs) (drop i xs) ≡ w → all_pass test (take (i + 1) xs) (drop (i + 1) xs) ≡ w
pass_more test xs i x w lt is ok so_far =
    let d : drop i xs ≡ x ∷ drop (i + 1) xs = drop_more xs i x lt ∙ ap (λ y. y ∷ drop (i + 1) xs) (sym is) in
    let t : take (i + 1) xs ≡ take i xs ++ x ∷ [] = take_more xs i x lt ∙ ap (λ y. take i xs ++ y ∷ []) (sym is) in
    let one : all_pass test (take i xs) (drop i xs) ≡ all_pass test (take i xs ++ x ∷ []) (drop (i + 1) xs) = rw (d, ok) refl in
    ap (λ before. all_pass test before (drop (i + 1) xs)) t ∙ sym one ∙ so_far

pub some_or : (o : Option ℕ) (name q : List ℕ) (k : ℕ) → is_some (or_number o name k q) ≡ (is_some o || bytes_eq name q)
some_or (Some j) name q k = refl
some_or None name q k = tested (bytes_eq name q)
  where
    tested : (b : Bool) → is_some (cond b (Some k) None) ≡ b
    tested true = refl
    tested false = refl

pub taken_more : (m n : Numbers) (xs : List Area) (i : ℕ) (x : Area) (k : ℕ) → i < length xs → x ≡ get_or xs i x → ((q : List ℕ) → is_some (number_in m q) ≡ among q (area_names (take i xs)))
    → ((q : List ℕ) → number_in n q ≡ or_number (number_in m q) x.name k q) → (q : List ℕ) → is_some (number_in n q) ≡ among q (area_names (take (i + 1) xs))
taken_more m n xs i x k lt is known new q =
    let t : take (i + 1) xs ≡ take i xs ++ x ∷ [] = take_more xs i x lt ∙ ap (λ (y : Area). take i xs ++ y ∷ []) (sym is) in
    let names : area_names (take (i + 1) xs) ≡ area_names (take i xs) ++ x.name ∷ [] = ap area_names t ∙ map_push (λ (a : Area). a.name) (take i xs) x in
    ap (λ (o : Option ℕ). is_some o) (new q) ∙ some_or (number_in m q) x.name q k ∙ ap (λ (b : Bool). b || bytes_eq x.name q) (known q)
    ∙ sym (among-push q (area_names (take i xs)) x.name) ∙ sym (ap (among q) names)

pub exported_after : (m n : Numbers) (xs : List Symbol) (i : ℕ) (x : Symbol) → i < length xs → x ≡ get_or xs i x → ((q : List ℕ) → is_some (number_in m q) ≡ among q (exported (take i xs)))
    → ((q : List ℕ) → is_some (number_in n q) ≡ (is_some (number_in m q) || (is_exported x.attributes && bytes_eq x.name q))) → (q : List ℕ) → is_some (number_in n q) ≡ among q (exported (take (i + 1) xs))
exported_after m n xs i x lt is known new q =
    let t : take (i + 1) xs ≡ take i xs ++ x ∷ [] = take_more xs i x lt ∙ ap (λ (y : Symbol). take i xs ++ y ∷ []) (sym is) in
    new q ∙ ap (λ (b : Bool). b || (is_exported x.attributes && bytes_eq x.name q)) (known q) ∙ sym (among-exported q (take i xs) x) ∙ sym (ap (λ (ss : List Symbol). among q (exported ss)) t)

-- ---- tests and facts

pub and_true : (a b : Bool) → a ≡ true → b ≡ true → (a && b) ≡ true
and_true true b x y = y
and_true false b x y = absurd cc

none_law : (o : Option Flaw) → (is_none o ≡ true) ↔ (o ≡ None)
none_law None = (λ e. refl, λ h. refl)
none_law (Some f) = (λ e. absurd (let bad : false ≡ true = e in cc), λ h. absurd (let bad : Some f ≡ None = h in cc))

text_law : (n : List ℕ) → (is_text n ≡ true) ↔ IsText n
text_law [] = (λ e. tt, λ h. refl)
text_law (zero ∷ bs) = (λ e. absurd (let bad : false ≡ true = e in cc), λ h. absurd (h.0 refl))
text_law (suc b ∷ bs) = (λ e. (apart b, (text_law bs).0 e), λ h. (text_law bs).1 h.1)
  where
    apart : (b : ℕ) → suc b ≢ 0
    apart b e = absurd (omega arith)

pub passes_law : {A : Type 0} (test : List A → A → Bool) (stands : List A → A → Type 0) → ((before : List A) (x : A) → (test before x ≡ true) ↔ stands before x)
    → (before xs : List A) → (all_pass test before xs ≡ true) ↔ EachStands stands before xs
passes_law test stands each before [] = (λ e. tt, λ h. refl)
passes_law test stands each before (x ∷ xs) = (
  λ e. let g = both_true (test before x) (all_pass test (before ++ x ∷ []) xs) e in ((each before x).0 g.0, (passes_law test stands each (before ++ x ∷ []) xs).0 g.1),
  λ h. and_true (test before x) (all_pass test (before ++ x ∷ []) xs) ((each before x).1 h.0) ((passes_law test stands each (before ++ x ∷ []) xs).1 h.1),
)

stands_for_all : {A : Type 0} (P : A → Type 0) (before xs : List A) → AllByRecursion P xs → EachStands (λ b x. P x) before xs
stands_for_all P before [] h = tt
stands_for_all P before (x ∷ xs) h = (h.0, stands_for_all P (before ++ x ∷ []) xs h.1)

relocs_law : (areas symbols : ℕ) (rs : List Reloc) → (all_pass (reloc_ok areas symbols) [] rs ≡ true) ↔ AllByRecursion (IsReloc areas symbols) rs
relocs_law areas symbols rs = (
  λ e. all_of (λ b r. IsReloc areas symbols r) (IsReloc areas symbols) (λ b r h. h) [] rs ((passes_law (reloc_ok areas symbols) (λ b r. IsReloc areas symbols r) one [] rs).0 e),
  λ h. (passes_law (reloc_ok areas symbols) (λ b r. IsReloc areas symbols r) one [] rs).1 (stands_for_all (IsReloc areas symbols) [] rs h),
)
  where
    one : (before : List Reloc) (r : Reloc) → (reloc_ok areas symbols before r ≡ true) ↔ IsReloc areas symbols r
    one before r = (
      λ e. let p = (reloc_law areas symbols r.word).0 ((none_law (reloc_flaw areas symbols r.word)).0 e) in record { form = p.0; index = p.1 },
      λ h. (none_law (reloc_flaw areas symbols r.word)).1 ((reloc_law areas symbols r.word).1 (h.form, h.index)),
    )

-- whether there is a relocation counts, not how many
misplaced_one : (attributes n : ℕ) → (misplaced attributes (min n 1) ≡ 0) ↔ (misplaced attributes n ≡ 0)
misplaced_one attributes n = by (eqb (bit attributes 12) 1)
  where
    by : (b : Bool) → (cond b (min n 1) 0 ≡ 0) ↔ (cond b n 0 ≡ 0)
    by true = (λ e. omega arith, λ h. omega arith)
    by false = (λ e. refl, λ h. refl)

record Both (areas symbols : ℕ) (names : List (List ℕ)) (a : Area) : Type 0 where
  is : IsArea names (head_of a)
  holds : Holds areas symbols a

area_ok_law : (areas symbols : ℕ) (names : List (List ℕ)) (a : Area) → (area_by (among a.name names) areas symbols a ≡ true) ↔ Both areas symbols names a
unfolding area_by
area_ok_law areas symbols names a =
    let count = min (length a.relocs) 1 in
    let flaw = area_flaw (among a.name names) a.attributes a.size count 0 in (
      λ e. let g = both_true (is_none flaw) _ e in
          let t = both_true (is_text a.name) _ g.1 in
          let z = both_true (eqb (length a.bytes) (stored a.attributes a.size)) _ t.1 in
          let p = (area_law (among a.name names) a.attributes a.size count 0).0 ((none_law flaw).0 g.0) in
          record {
            is = record {
              fresh = (lacks_law names a.name).0 p.fresh;
              permitted = p.permitted;
              alignment_least = p.least;
              alignment_most = p.most;
              whole_words = p.whole;
              size_most = p.small;
              relocs_have_bytes = (misplaced_one a.attributes (length a.relocs)).0 p.bytes;
            };
            holds = record { name = (text_law a.name).0 t.0; bytes = eqb-true _ _ z.0; relocs = (relocs_law areas symbols a.relocs).0 z.1 };
          },
      λ h. let p : AreaPasses (among a.name names) a.attributes a.size count 0 = record {
        fresh = (lacks_law names a.name).1 h.is.fresh;
        permitted = h.is.permitted;
        least = h.is.alignment_least;
        most = h.is.alignment_most;
        whole = h.is.whole_words;
        small = h.is.size_most;
        bytes = (misplaced_one a.attributes (length a.relocs)).1 h.is.relocs_have_bytes;
        no_base = refl;
      } in
          and_true (is_none flaw) _ ((none_law flaw).1 ((area_law (among a.name names) a.attributes a.size count 0).1 p))
          (and_true (is_text a.name) _ ((text_law a.name).1 h.holds.name) (and_true (eqb (length a.bytes) (stored a.attributes a.size)) _ (eq-eqb _ _ h.holds.bytes) ((relocs_law areas symbols a.relocs).1 h.holds.relocs))),
    )

-- ---- symbols and the entry, with areas for their heads

home_lives : (attributes value : ℕ) (o : Option Area) → HomePasses (is_placed attributes) value (home_at o) ↔ IsSomeAnd (option_map head_of o) (λ h. is_placed attributes ≡ true → value ≤ h.size)
home_lives attributes value None = (λ h. h, λ h. h)
home_lives attributes value (Some a) = (λ h. h, λ h. h)

lives_law : (areas : List Area) (attributes value : ℕ) (area : Option ℕ) → HomePasses (is_placed attributes) value (home_of areas area) ↔ Lives (heads areas) attributes value area
lives_law areas attributes value None = (λ h. h, λ h. h)
lives_law areas attributes value (Some k) =
    subst (λ (o : Option AreaHead). HomePasses (is_placed attributes) value (home_at (slice_get areas k)) ↔ IsSomeAnd o (λ h. is_placed attributes ≡ true → value ≤ h.size))
    (sym (slice_get-map head_of areas k)) (home_lives attributes value (slice_get areas k))

symbol_ok_law : (areas : List Area) (names : List (List ℕ)) (s : Symbol) → (symbol_by (is_exported s.attributes && among s.name names) areas s ≡ true) ↔ (IsSymbol names (heads areas) s × IsText s.name)
unfolding symbol_by
symbol_ok_law areas names s =
    let repeated = is_exported s.attributes && among s.name names in
    let home = home_of areas s.area in
    let flaw = symbol_flaw repeated s.attributes s.value home in (
      λ e. let g = both_true (is_none flaw) (is_text s.name) e in
          let p = (symbol_law repeated s.attributes s.value home).0 ((none_law flaw).0 g.0) in
          (record { fresh = (fresh_law (is_exported s.attributes) names s.name).0 p.fresh; permitted = p.permitted; scope = p.scope; lives = (lives_law areas s.attributes s.value s.area).0 p.lives }, (text_law s.name).0 g.1),
      λ h. let p : SymbolPasses repeated s.attributes s.value home = record {
        fresh = (fresh_law (is_exported s.attributes) names s.name).1 h.0.fresh;
        permitted = h.0.permitted;
        scope = h.0.scope;
        lives = (lives_law areas s.attributes s.value s.area).1 h.0.lives;
      } in
          and_true (is_none flaw) (is_text s.name) ((none_law flaw).1 ((symbol_law repeated s.attributes s.value home).1 p)) ((text_law s.name).1 h.1),
    )

entry_at_law : (o : Option Area) (offset : ℕ) → (entry_at o offset ≡ true) ↔ IsSomeAnd (option_map head_of o) (λ h. (offset < h.size) × (left_over h.attributes offset ≡ 0))
entry_at_law None offset = (λ e. absurd (let bad : false ≡ true = e in cc), λ h. absurd h)
entry_at_law (Some a) offset = (
  λ e. (entry_law a.attributes a.size offset).0 ((none_law (entry_flaw a.attributes a.size offset)).0 e),
  λ h. (none_law (entry_flaw a.attributes a.size offset)).1 ((entry_law a.attributes a.size offset).1 h),
)

entry_ok_law : (areas : List Area) (e : Option Entry) → (entry_ok areas e ≡ true) ↔ IsEntered (heads areas) e
entry_ok_law areas None = (λ e. tt, λ h. refl)
entry_ok_law areas (Some e) =
    subst (λ (o : Option AreaHead). (entry_at (slice_get areas e.area) e.offset ≡ true) ↔ IsSomeAnd o (λ h. (e.offset < h.size) × (left_over h.attributes e.offset ≡ 0)))
    (sym (slice_get-map head_of areas e.area)) (entry_at_law (slice_get areas e.area) e.offset)

-- ---- the object

pub valid_law : (o : Object) → (is_valid o ≡ true) ↔ IsValid o
unfolding is_valid
valid_law o =
    let areas = length o.areas in
    let symbols = length o.symbols in
    let stands = λ (b : List Area) (a : Area). Both areas symbols (area_names b) a in
    let said = λ (b : List Symbol) (s : Symbol). IsSymbol (exported b) (heads o.areas) s × IsText s.name in
    let area_law' = passes_law (area_ok areas symbols) stands (λ b a. area_ok_law areas symbols (area_names b) a) [] o.areas in
    let symbol_law' = passes_law (symbol_ok o.areas) said (λ b s. symbol_ok_law o.areas (exported b) s) [] o.symbols in (
      λ e. let g = both_true (all_pass (area_ok areas symbols) [] o.areas) _ e in
          let h = both_true (all_pass (symbol_ok o.areas) [] o.symbols) (entry_ok o.areas o.entry) g.1 in
          let a = area_law'.0 g.0 in
          let s = symbol_law'.0 h.0 in
          record {
            areas = weaker stands (λ b x. IsArea (area_names b) (head_of x)) (λ b x k. k.is) [] o.areas a;
            contents = all_of stands (Holds areas symbols) (λ b x k. k.holds) [] o.areas a;
            symbols = weaker said (λ b x. IsSymbol (exported b) (heads o.areas) x) (λ b x k. k.0) [] o.symbols s;
            symbol_names = all_of said (λ x. IsText x.name) (λ b x k. k.1) [] o.symbols s;
            entry = (entry_ok_law o.areas o.entry).0 h.1;
          },
      λ v. let a = with_all (λ b x. IsArea (area_names b) (head_of x)) (Holds areas symbols) stands (λ b x i k. record { is = i; holds = k }) [] o.areas v.areas v.contents in
          let s = with_all (λ b x. IsSymbol (exported b) (heads o.areas) x) (λ x. IsText x.name) said (λ b x i t. (i, t)) [] o.symbols v.symbols v.symbol_names in
          and_true (all_pass (area_ok areas symbols) [] o.areas) _ (area_law'.1 a)
          (and_true (all_pass (symbol_ok o.areas) [] o.symbols) (entry_ok o.areas o.entry) (symbol_law'.1 s) ((entry_ok_law o.areas o.entry).1 v.entry)),
    )
