-- Each name stands in an area of the source, or in none.
use Rattle.std.proofs.Common.{◌≡◌, ◌≤◌, ◌<◌, ℕ, List, [], ◌∷◌, ◌++◌, length, Option, Some, None, refl, sym, ap, subst, arith}
use Rattle.std.specs.Prelude.{Result, Ok}
use Rattle.sdt_fault.specs.declared.kinds.LineKind.{LineKind}
use Rattle.asm_model.specs.declared.names.LaidName.{LaidName}
use Rattle.asm_model.specs.declared.statements.Statement.{Statement}
use Rattle.asm_model.specs.declared.values.Value.{Value}
use Rattle.asm_model.specs.declared.values.Value.TheVariants.{Place}
use Rattle.asm_model.specs.Meaning.{named_in, entry_stands_at, in_area, stands_at}
use Rattle.asm_model.specs.Before.{area_named, with_name, areas_behind, place_of, area_from, area_behind}
use Rattle.asm_model.specs.Entries.{equal_entry}
use Rattle.asm_model.specs.Labels.{declared_names}
use Rattle.asm_model.specs.Laid.{LaidLine, statements_of, laid, final_names}
use Rattle.source_model.specs.Contexts.{Context, sees}
use Rattle.source_laws.specs.Laws.{context_behind}
use Rattle.source_laws.proofs.AgreeLemmas.{line_area}
use Rattle.source_laws.proofs.NameLemmas.{final_each}
use Rattle.source_laws.proofs.ZeroLemmas.{place_below, named_with, no_fewer, AreNumbered, laid_numbered, numbered_rest}
use Rattle.asm_model.proofs.OffsetLemmas.{through as low_of}

-- ---- areas by their numbers

abbrev pub IsWithin : ℕ → Option ℕ → Type 0
IsWithin n None = Unit {0}
IsWithin n (Some a) = a < n

place_within : (n : List ℕ) (ms : List (List ℕ)) → place_of n (with_name (Some n) ms) < length (with_name (Some n) ms)
place_within n ms = place_below n (with_name (Some n) ms) (named_with n ms)

pub fewer : (o : Option (List ℕ)) (ms : List (List ℕ)) → length ms ≤ length (with_name o ms)
fewer o ms = no_fewer o ms (length (with_name o ms)) (omega arith)

within_more : (m n : ℕ) (o : Option ℕ) → m ≤ n → IsWithin m o → IsWithin n o
within_more m n None h k = tt
within_more m n (Some a) h k = let less : a < m = k in omega arith

own_within : (ss : List Statement) → IsWithin (length (areas_behind ss)) (area_behind ss)
own_within [] = tt
own_within (s ∷ before) = by_name (area_named s.what) (own_within before)
  where
    by_name : (n : Option (List ℕ)) → IsWithin (length (areas_behind before)) (area_behind before)
        → IsWithin (length (with_name n (areas_behind before))) (area_from n (with_name n (areas_behind before)) (area_behind before))
    by_name None h = h
    by_name (Some n) h = place_within n (areas_behind before)

pub area_within : (n : ℕ) (ss : List Statement) → length (areas_behind ss) ≤ n → IsWithin n (area_behind ss)
area_within n ss h = within_more (length (areas_behind ss)) n (area_behind ss) h (own_within ss)

pub areas_more : (after before : List LaidLine) → length (areas_behind (statements_of before)) ≤ length (areas_behind (statements_of (after ++ before)))
areas_more [] before = omega arith
areas_more (l ∷ after) before =
    low_of (length (areas_behind (statements_of before))) (length (areas_behind (statements_of (after ++ before))))
    (length (areas_behind (statements_of (l ∷ after ++ before))))
    (areas_more after before) (fewer (area_named l.statement.what) (areas_behind (statements_of (after ++ before))))

-- a line stands in an area of the source, or in none
pub line_within : (ss : List Statement) (n : ℕ) (after before : List LaidLine) (l : LaidLine) → length (areas_behind (statements_of (laid ss))) ≤ n
    → laid ss ≡ after ++ l ∷ before → IsWithin n l.area
line_within ss n after before l few e =
    let numbered = numbered_rest after (l ∷ before) (subst AreNumbered e (laid_numbered (declared_names ss) ss)) in
    let more = areas_more after (l ∷ before) in
    let all = subst (λ z. length (areas_behind (statements_of z)) ≤ n) e few in
    subst (IsWithin n) (sym numbered.0) (area_within n (statements_of (l ∷ before)) (omega arith))

-- ---- names

abbrev pub AllWithin : ℕ → List LaidName → Type 0
AllWithin n es = (q : List ℕ) (e : LaidName) → named_in q es ≡ Some e → IsWithin n e.area

equal_within : (n : ℕ) (names : List LaidName) (area : Option ℕ) (name : List ℕ) (r : Result Value LineKind) → IsWithin n area
    → IsWithin n (equal_entry names area name r).area
equal_within n names area name (Ok (Place [] m)) h = h
equal_within n names area name r h = tt

pub names_within : (n : ℕ) (ss : List Statement) → length (areas_behind (statements_of (laid ss))) ≤ n → AllWithin n (final_names (laid ss))
names_within n ss few = final_each ss (λ e. IsWithin n e.area) (record {
  label = λ l at name x thumb. line_within ss n at.rest at.before l few at.parts;
  equal = λ l at name e x names r. equal_within n names l.area name r (line_within ss n at.rest at.before l few at.parts);
  field = λ l at name x m. tt;
  register = λ l at name r x. tt;
  imported = λ l at name x. tt;
})

-- ---- where a name stands

first_in : Option (ℕ × ℕ) → ℕ
first_in None = 0
first_in (Some p) = p.0

pub area_stands : (n : ℕ) (r : Option ℕ) (x a o : ℕ) → IsWithin n r → in_area r x ≡ Some (a, o) → a < n
unfolding first_in
area_stands n None x a o k e = absurd (cc)
area_stands n (Some b) x a o k e = let is : b ≡ a = ap first_in e in subst (λ m. m < n) is k

pub named_within : (n : ℕ) (q : List ℕ) (es : List LaidName) (a o : ℕ) → AllWithin n es → entry_stands_at (named_in q es) ≡ Some (a, o) → a < n
named_within n q es a o h e = by_entry (named_in q es) refl e
  where
    by_entry : (x : Option LaidName) → named_in q es ≡ x → entry_stands_at x ≡ Some (a, o) → a < n
    by_entry None f k = absurd (cc)
    by_entry (Some m) f k = area_stands n m.area m.offset a o (h q m f) k

-- places that a line's expressions mean are of the source's areas
abbrev pub StandsWithin : ℕ → Context → Type 0
StandsWithin n c = (s : List ℕ) (a : ℕ × ℕ) → stands_at (sees c) s ≡ Some a → a.0 < n

pub context_within : (ss : List Statement) (n : ℕ) (after before : List LaidLine) (l : LaidLine) → length (areas_behind (statements_of (laid ss))) ≤ n
    → laid ss ≡ after ++ l ∷ before → StandsWithin n (context_behind ss l before)
context_within ss n after before l few e [] a h =
    area_stands n l.line.area 0 a.0 a.1 (subst (IsWithin n) (sym (line_area ss after before l e)) (line_within ss n after before l few e)) h
context_within ss n after before l few e (c ∷ cs) a h = named_within n (c ∷ cs) (final_names (laid ss)) a.0 a.1 (names_within n ss few) h
