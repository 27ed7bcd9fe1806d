-- The rows of symbols: what is read is what stands there.
use Rattle.std.proofs.Common.{◌≡◌, ℕ, ◌+◌, ◌*◌, ◌≤◌, Bool, true, false, cond, eqb, List, [], length, drop, Option, Some, None, Ok, refl, subst, arith, slice_get}
use Rattle.std.specs.Prelude.{◌↔◌, ◌&&◌, IsSomeAnd}
use Rattle.std.specs.Option.{option_and_then}
use Rattle.std.proofs.lemmas.Bool.{eqb-true, eq-eqb, false_from_ne_true}
use Rattle.sdt_word.specs.Bytes.{word_in}
use Rattle.sdt_fault.specs.declared.kinds.FileKind.TheVariants.{Name}
use Rattle.sdt_fault.specs.declared.refusal.Refusal.TheVariants.{BadObject}
use Rattle.chunk_file.proofs.Loops.{Agrees}
use Rattle.aof_object.specs.declared.areas.AreaHead.{AreaHead}
use Rattle.aof_object.specs.declared.records.Symbol.{Symbol}
use Rattle.aof_object.specs.declared.checks.Home.TheVariants.{Nowhere}
use Rattle.aof_object.specs.Names.{name_at, among, Lacks, number_from}
use Rattle.aof_object.specs.Checks.{is_exported, is_placed, symbol_flaw}
use Rattle.aof_object.specs.Objects.{head_names, within, told_number, told, exported, symbol_at, next_symbol}
use Rattle.aof_object.specs.Validity.{Lives, IsSymbol}
use Rattle.aof_object.specs.Grammar.{SaysHome, SaysSymbol}
use Rattle.aof_object.proofs.NameLaw.{name_law, lacks_law}
use Rattle.aof_object.proofs.Checked.{judged_law, read_or, HomePasses, symbol_law}

-- ---- the area that is told

lives_passes : (placed : Bool) (value : ℕ) (o : Option AreaHead) → IsSomeAnd o (λ h. placed ≡ true → value ≤ h.size) → HomePasses placed value (within o)
lives_passes placed value None h = h
lives_passes placed value (Some x) h = h

passes_lives : (placed : Bool) (value : ℕ) (o : Option AreaHead) → HomePasses placed value (within o) → IsSomeAnd o (λ h. placed ≡ true → value ≤ h.size)
passes_lives placed value None h = h
passes_lives placed value (Some x) h = h

-- what a told area says
record Says (strings : List ℕ) (hs : List AreaHead) (word attributes value : ℕ) (area : Option ℕ) : Type 0 where
  home : SaysHome strings (head_names hs) word area
  lives : Lives hs attributes value area

numbered : (names : List (List ℕ)) (n : Option (List ℕ)) (k : ℕ) → option_and_then (λ q. number_from 0 q names) n ≡ Some k → (q : List ℕ) × (n ≡ Some q) × (number_from 0 q names ≡ Some k)
numbered names None k e = absurd cc
numbered names (Some q) k e = (q, refl, e)

number_says : (strings : List ℕ) (hs : List AreaHead) (word attributes value : ℕ) (o : Option ℕ) → option_and_then (λ q. number_from 0 q (head_names hs)) (name_at strings word) ≡ o
    → HomePasses (is_placed attributes) value (told_number hs o).home → Says strings hs word attributes value (told_number hs o).area
number_says strings hs word attributes value None e h = absurd h
number_says strings hs word attributes value (Some k) e h =
    let n = numbered (head_names hs) (name_at strings word) k e in
    record { home = (n.0, (name_law strings word n.0).0 n.1, n.2); lives = passes_lives (is_placed attributes) value (slice_get hs k) h }

told_says : (strings : List ℕ) (hs : List AreaHead) (word attributes value : ℕ) → HomePasses (is_placed attributes) value (told strings hs word).home → Says strings hs word attributes value (told strings hs word).area
unfolding told
told_says strings hs word attributes value = test (eqb word 0) refl
  where
    test : (b : Bool) → eqb word 0 ≡ b
        → HomePasses (is_placed attributes) value (cond b (record { area = None; home = Nowhere }) (told_number hs (option_and_then (λ q. number_from 0 q (head_names hs)) (name_at strings word)))).home
        → Says strings hs word attributes value (cond b (record { area = None; home = Nowhere }) (told_number hs (option_and_then (λ q. number_from 0 q (head_names hs)) (name_at strings word)))).area
    test true t h = record { home = eqb-true word 0 t; lives = h }
    test false t h = number_says strings hs word attributes value (option_and_then (λ q. number_from 0 q (head_names hs)) (name_at strings word)) refl h

told_again : (strings : List ℕ) (hs : List AreaHead) (word attributes value : ℕ) (area : Option ℕ) → Says strings hs word attributes value area
    → ((told strings hs word).area ≡ area) × HomePasses (is_placed attributes) value (told strings hs word).home
unfolding told
told_again strings hs word attributes value None s = let t : eqb word 0 ≡ true = eq-eqb word 0 s.home in rw t (refl, s.lives)
told_again strings hs word attributes value (Some k) s =
    let q = s.home.0 in
    let at = s.home.1 in
    let four = at.after_length in
    let used : eqb word 0 ≡ false = false_from_ne_true (eqb word 0) (λ t. let z = eqb-true word 0 t in omega arith) in
    let n : name_at strings word ≡ Some q = (name_law strings word q).1 at in
    let num : number_from 0 q (head_names hs) ≡ Some k = s.home.2 in
    rw (used, n, num) (refl, lives_passes (is_placed attributes) value (slice_get hs k) s.lives)

-- ---- symbols

pub fresh_law : (b : Bool) (names : List (List ℕ)) (n : List ℕ) → ((b && among n names) ≡ false) ↔ (b ≡ true → Lacks names n)
fresh_law true names n = (λ e t. (lacks_law names n).0 e, λ h. (lacks_law names n).1 (h refl))
fresh_law false names n = (λ e t. absurd cc, λ h. refl)

symbol_takes : (strings : List ℕ) (hs : List AreaHead) (names : List (List ℕ)) (at : ℕ) (row : List ℕ) (s : Symbol) → symbol_at strings hs (λ q. among q names) at row ≡ Ok s
    → SaysSymbol strings (head_names hs) row s × IsSymbol names hs s
unfolding symbol_at
symbol_takes strings hs names at row s e =
    let n = read_or (name_at strings (word_in row 0)) (BadObject [] at Name) _ s e in
    let t = told strings hs (word_in row 12) in
    let made : Symbol = record { name = n.0; attributes = word_in row 4; value = word_in row 8; area = t.area } in
    let repeated = is_exported (word_in row 4) && among n.0 names in
    let j = (judged_law at (symbol_flaw repeated (word_in row 4) (word_in row 8) t.home) made s).0 n.2 in
    let p = (symbol_law repeated (word_in row 4) (word_in row 8) t.home).0 j.0 in
    let home = told_says strings hs (word_in row 12) (word_in row 4) (word_in row 8) p.lives in
    let says : SaysSymbol strings (head_names hs) row made = record { name = (name_law strings (word_in row 0) n.0).0 n.1; attributes = refl; value = refl; area = home.home } in
    let is : IsSymbol names hs made = record { fresh = (fresh_law (is_exported (word_in row 4)) names n.0).0 p.fresh; permitted = p.permitted; scope = p.scope; lives = home.lives } in
    subst (λ (x : Symbol). SaysSymbol strings (head_names hs) row x × IsSymbol names hs x) j.1 (says, is)

symbol_again : (strings : List ℕ) (hs : List AreaHead) (names : List (List ℕ)) (at : ℕ) (row : List ℕ) (s : Symbol) → SaysSymbol strings (head_names hs) row s → IsSymbol names hs s
    → symbol_at strings hs (λ q. among q names) at row ≡ Ok s
unfolding symbol_at
symbol_again strings hs names at row s says is =
    let n : name_at strings (word_in row 0) ≡ Some s.name = (name_law strings (word_in row 0) s.name).1 says.name in
    let t = told_again strings hs (word_in row 12) s.attributes s.value s.area (record { home = says.area; lives = is.lives }) in
    let home = (told strings hs (word_in row 12)).home in
    let repeated = is_exported s.attributes && among s.name names in
    let clear = (symbol_law repeated s.attributes s.value home).1 (record { fresh = (fresh_law (is_exported s.attributes) names s.name).1 is.fresh; permitted = is.permitted; scope = is.scope; lives = t.1 }) in
    let a = says.attributes in
    let v = says.value in
    let area = t.0 in
    rw (n, ← a, ← v, clear, area) refl

abbrev pub SymbolStands : List ℕ → List AreaHead → List ℕ → List Symbol → Symbol → Type 0
SymbolStands strings hs content before s = SaysSymbol strings (head_names hs) (drop (16 * length before) content) s × IsSymbol (exported before) hs s

pub symbols_agree : (strings : List ℕ) (hs : List AreaHead) (start : ℕ) (content : List ℕ) → Agrees (next_symbol strings hs start content) (SymbolStands strings hs content)
symbols_agree strings hs start content before s =
    let at = start + 16 * length before in
    let row = drop (16 * length before) content in
    (symbol_takes strings hs (exported before) at row s, λ h. symbol_again strings hs (exported before) at row s h.0 h.1)
