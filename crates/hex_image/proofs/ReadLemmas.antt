-- What is read is what the text tells, and what a text tells is read.
use Rattle.std.proofs.Common.{append-nil, ◌≡◌, ◌≢◌, ◌∙◌, ℕ, ◌+◌, ◌%◌, ◌^◌, ◌≤◌, List, [], ◌∷◌, ◌++◌, length, map, filter, Bool, true, false, cond, not, ◌==◌, ◌&&◌, ◌||◌, nat_lt, Option, None, Some, Result, Ok, Err, refl, sym, ap, subst, arith, append_assoc}
use Rattle.std.specs.Prelude.{IfOk}
use Rattle.std.specs.List.{AllByRecursion, list_any}
use Rattle.std.specs.Str.Lines.{lines}
use Rattle.std.proofs.lemmas.Bool.{lt-ltb, ltb-true, ltb-false, ne_eqb}
use Rattle.sdt_fault.specs.declared.answer.Fault.{Fault}
use Rattle.sdt_fault.specs.declared.kinds.RecordKind.{RecordKind}
use Rattle.sdt_fault.specs.declared.kinds.RecordKind.TheVariants.{Address, Repeated, Order}
use Rattle.hex_image.specs.declared.records.Burn.{Burn}
use Rattle.hex_image.specs.declared.records.Form.{Form}
use Rattle.hex_image.specs.declared.records.Item.{Item}
use Rattle.hex_image.specs.declared.records.Item.TheVariants.{Data, Base, Start, End, EndAt, Nothing}
use Rattle.hex_image.specs.declared.records.Piece.{Piece}
use Rattle.hex_image.specs.Images.{AreApart, EachApart, end_of, holds, meets, piece}
use Rattle.hex_image.specs.Reading.{Gives, Reading, State, after, behind, burn_of, by_flaw, first_state, flaw, is_blank, judged, read, refusal, said, with_piece}
use Rattle.hex_image.specs.Reads.{EndsLast, Reads, SaysState, has_bytes, is_end, placed, started}
use Rattle.hex_image.proofs.ToldLemmas.{AreSome, apart_free, free_unmet, parts_of, some_more}

-- ---- tests of the code as facts

open_of : (e : Bool) → cond e (Some Order) None ≡ None → e ≡ false
open_of true h = absurd (cc)
open_of false h = refl

pub shut : (e : Bool) → e ≡ false → cond e (Some Order) None ≡ None
shut true h = absurd (cc)
shut false h = refl

first_passes : (a : Bool) (k : RecordKind) (o : Option RecordKind) → cond a (Some k) o ≡ None → (a ≡ false) × (o ≡ None)
first_passes true k o h = absurd (cc)
first_passes false k o h = (refl, h)

passed : (a : Bool) (k : RecordKind) (o : Option RecordKind) → a ≡ false → o ≡ None → cond a (Some k) o ≡ None
passed true k o e h = absurd (cc)
passed false k o e h = h

second_fails : (a b : Bool) → (a && b) ≡ false → a ≡ true → b ≡ false
second_fails true b e h = e
second_fails false b e h = absurd (cc)

both_fail : (a b : Bool) → (a ≡ true → b ≡ false) → (a && b) ≡ false
both_fail true b h = h refl
both_fail false b h = refl

not_state : (a : ℕ) → (a % 4 == 2) ≡ false → a % 4 ≢ 2
not_state a h e = absurd (grind arith)

-- the piece has bytes exactly where it begins below its end
same_test : (p : Piece) → nat_lt p.base (end_of p) ≡ has_bytes p
same_test p = by (has_bytes p) refl
  where
    no_lt : (a b : ℕ) → b ≤ a → nat_lt a b ≡ false
    no_lt a b h = grind arith

    by : (t : Bool) → has_bytes p ≡ t → nat_lt p.base (end_of p) ≡ t
    by true e = let k = ltb-true 0 (length p.bytes) e in lt-ltb p.base (end_of p) (omega (arith, k))
    by false e = let k = ltb-false 0 (length p.bytes) e in no_lt p.base (end_of p) (omega (arith, k))

-- ---- what meets and what is apart

-- a piece that meets none of some pieces is apart from each
meets_at : (p q : Piece) (a : ℕ) → holds a p ≡ true → holds a q ≡ true → meets p q ≡ true
meets_at p q a e f =
    let k = parts_of a p e in
    let l = parts_of a q f in
    both (nat_lt p.base (end_of q)) (nat_lt q.base (end_of p)) (lt-ltb p.base (end_of q) (omega (arith, k.0, l.1))) (lt-ltb q.base (end_of p) (omega (arith, l.0, k.1)))
  where
    both : (s t : Bool) → s ≡ true → t ≡ true → (s && t) ≡ true
    both true t g h = h
    both false t g h = absurd (cc)

all_apart : (p : Piece) (ps : List Piece) → list_any (meets p) ps ≡ false → AllByRecursion (AreApart p) ps
all_apart p [] h = tt
all_apart p (q ∷ qs) h = let n = neither (meets p q) (list_any (meets p) qs) h in (λ a e f. clash (meets p q) n.0 (meets_at p q a e f), all_apart p qs n.1)
  where
    neither : (s t : Bool) → (s || t) ≡ false → (s ≡ false) × (t ≡ false)
    neither true t e = absurd (cc)
    neither false t e = (refl, e)

    clash : (t : Bool) → t ≡ false → t ≡ true → ⊥
    clash true e f = cc
    clash false e f = cc

-- ---- what items tell behind a state

-- behind the end nothing stands, and else the end is last
abbrev Ends : Bool → List Item → Type 0
Ends true [] = Unit {0}
Ends true (i ∷ is) = ⊥
Ends false is = EndsLast is

abbrev kept : ℕ → List Item → List Piece
kept base is = filter has_bytes (placed base is)

record Tells (s : State) (is : List Item) (b : Burn) : Type 0 where
  ends : Ends s.ended is
  states : AllByRecursion SaysState is
  in_space : AllByRecursion (λ p. end_of p ≤ 2 ^ 32) (placed s.base is)
  once : EachApart s.pieces (kept s.base is)
  pieces : b.pieces ≡ s.pieces ++ kept s.base is
  start : b.start ≡ started s.start is

ends_more : (i : Item) (is : List Item) → is_end i ≡ false → EndsLast is → EndsLast (i ∷ is)
ends_more i [] e h = absurd h
ends_more i (j ∷ js) e h = (e, h)

-- an item that isn't the end, where the end doesn't stand before it
goes_on : (e : Bool) (i : Item) (is : List Item) → e ≡ false → is_end i ≡ false → Ends e is → Ends e (i ∷ is)
goes_on true i is going isnt h = absurd (cc)
goes_on false i is going isnt h = ends_more i is isnt h

came_on : (e : Bool) (i : Item) (is : List Item) → is_end i ≡ false → Ends e (i ∷ is) → (e ≡ false) × Ends e is
came_on true i is isnt h = absurd h
came_on false i [] isnt h = absurd (let is_so = h in cc)
came_on false i (j ∷ js) isnt h = (refl, h.1)

-- the end
ends_here : (e : Bool) (i : Item) (is : List Item) → e ≡ false → is_end i ≡ true → Ends true is → Ends e (i ∷ is)
ends_here true i is going is_so h = absurd (cc)
ends_here false i [] going is_so h = is_so
ends_here false i (j ∷ js) going is_so h = absurd h

ended_here : (e : Bool) (i : Item) (is : List Item) → is_end i ≡ true → Ends e (i ∷ is) → (e ≡ false) × Ends true is
ended_here true i is is_so h = absurd h
ended_here false i [] is_so h = (refl, tt)
ended_here false i (j ∷ js) is_so h = absurd (let isnt = h.0 in cc)

-- ---- data

data_told : (ps rest : List Piece) (p : Piece) (b : List Piece) (t : Bool) → (t ≡ true → AllByRecursion (AreApart p) ps)
    → EachApart (cond t (ps ++ p ∷ []) ps) rest → b ≡ cond t (ps ++ p ∷ []) ps ++ rest
    → EachApart ps (cond t (p ∷ rest) rest) × (b ≡ ps ++ cond t (p ∷ rest) rest)
data_told ps rest p b true h apart e = ((h refl, apart), e ∙ append_assoc ps (p ∷ []) rest)
data_told ps rest p b false h apart e = (apart, e)

data_was : (ps rest : List Piece) (p : Piece) (b : List Piece) (t : Bool) → EachApart ps (cond t (p ∷ rest) rest) → b ≡ ps ++ cond t (p ∷ rest) rest
    → (t ≡ true → AllByRecursion (AreApart p) ps) × EachApart (cond t (ps ++ p ∷ []) ps) rest × (b ≡ cond t (ps ++ p ∷ []) ps ++ rest)
data_was ps rest p b true apart e = (λ r. apart.0, apart.1, e ∙ sym (append_assoc ps (p ∷ []) rest))
data_was ps rest p b false apart e = (λ r. absurd (cc), apart, e)

-- ---- one item

one : (s : State) (i : Item) (is : List Item) (b : Burn) → flaw s i ≡ None → Tells (after s i) is b → Tells s (i ∷ is) b
one s (Data address bytes) is b good t =
    let p = piece (s.base + address) bytes in
    let first = first_passes (nat_lt (2 ^ 32) (end_of p)) Address _ good in
    let second = first_passes (nat_lt p.base (end_of p) && list_any (meets p) s.pieces) Repeated _ first.1 in
    let new : has_bytes p ≡ true → AllByRecursion (AreApart p) s.pieces = λ e.
    all_apart p s.pieces (second_fails (nat_lt p.base (end_of p)) (list_any (meets p) s.pieces) second.0 (same_test p ∙ e)) in
    let told = data_told s.pieces (kept s.base is) p b.pieces (has_bytes p) new t.once t.pieces in
    record {
      ends = goes_on s.ended (Data address bytes) is (open_of s.ended second.1) refl t.ends;
      states = (tt, t.states);
      in_space = (ltb-false (2 ^ 32) (end_of p) first.0, t.in_space);
      once = told.0;
      pieces = told.1;
      start = t.start;
    }
one s (Base a) is b good t = record {
  ends = goes_on s.ended (Base a) is (open_of s.ended good) refl t.ends;
  states = (tt, t.states);
  in_space = t.in_space;
  once = t.once;
  pieces = t.pieces;
  start = t.start;
}
one s (Start a) is b good t =
    let first = first_passes (a % 4 == 2) Address _ good in
    record {
      ends = goes_on s.ended (Start a) is (open_of s.ended first.1) refl t.ends;
      states = (not_state a first.0, t.states);
      in_space = t.in_space;
      once = t.once;
      pieces = t.pieces;
      start = t.start;
    }
one s End is b good t = record {
  ends = ends_here s.ended End is (open_of s.ended good) refl t.ends;
  states = (tt, t.states);
  in_space = t.in_space;
  once = t.once;
  pieces = t.pieces;
  start = t.start;
}
one s (EndAt a) is b good t =
    let first = first_passes (a % 4 == 2) Address _ good in
    record {
      ends = ends_here s.ended (EndAt a) is (open_of s.ended first.1) refl t.ends;
      states = (not_state a first.0, t.states);
      in_space = t.in_space;
      once = t.once;
      pieces = t.pieces;
      start = t.start;
    }
one s Nothing is b good t = record {
  ends = goes_on s.ended Nothing is (open_of s.ended good) refl t.ends;
  states = (tt, t.states);
  in_space = t.in_space;
  once = t.once;
  pieces = t.pieces;
  start = t.start;
}

-- each piece that is kept has bytes
kept_some : (ps : List Piece) (p : Piece) → AreSome ps → AreSome (with_piece ps p)
kept_some ps p h = by (has_bytes p) refl
  where
    by : (t : Bool) → has_bytes p ≡ t → AreSome (cond t (ps ++ p ∷ []) ps)
    by true e = some_more ps p h (ltb-true 0 (length p.bytes) e)
    by false e = h

abbrev Behind : State → Item → List Item → Burn → Type 0
Behind s i is b = (flaw s i ≡ None) × AreSome (after s i).pieces × Tells (after s i) is b

was : (s : State) (i : Item) (is : List Item) (b : Burn) → AreSome s.pieces → Tells s (i ∷ is) b → Behind s i is b
was s (Data address bytes) is b some t =
    let p = piece (s.base + address) bytes in
    let e = came_on s.ended (Data address bytes) is refl t.ends in
    let told = data_was s.pieces (kept s.base is) p b.pieces (has_bytes p) t.once t.pieces in
    let within : end_of p ≤ 2 ^ 32 = t.in_space.0 in (
      passed (nat_lt (2 ^ 32) (end_of p)) Address _ (beyond (2 ^ 32) (end_of p) within)
          (passed (nat_lt p.base (end_of p) && list_any (meets p) s.pieces) Repeated _
          (both_fail (nat_lt p.base (end_of p)) (list_any (meets p) s.pieces) (λ has. unmet p has (told.0 (sym (same_test p) ∙ has)))) (shut s.ended e.0)),
      kept_some s.pieces p some,
      record { ends = e.1; states = t.states.1; in_space = t.in_space.1; once = told.1; pieces = told.2; start = t.start },
    )
  where
    beyond : (a b : ℕ) → b ≤ a → nat_lt a b ≡ false
    beyond a b h = grind arith

    unmet : (p : Piece) → nat_lt p.base (end_of p) ≡ true → AllByRecursion (AreApart p) s.pieces → list_any (meets p) s.pieces ≡ false
    unmet p has apart =
        let k = ltb-true p.base (end_of p) has in
        free_unmet p s.pieces (omega (arith, k)) some (λ a h. apart_free p s.pieces a apart h)
was s (Base a) is b some t =
    let e = came_on s.ended (Base a) is refl t.ends in
    (shut s.ended e.0, some, record { ends = e.1; states = t.states.1; in_space = t.in_space; once = t.once; pieces = t.pieces; start = t.start })
was s (Start a) is b some t =
    let e = came_on s.ended (Start a) is refl t.ends in (
      passed (a % 4 == 2) Address _ (ne_eqb (a % 4) 2 t.states.0) (shut s.ended e.0),
      some,
      record { ends = e.1; states = t.states.1; in_space = t.in_space; once = t.once; pieces = t.pieces; start = t.start },
    )
was s End is b some t =
    let e = ended_here s.ended End is refl t.ends in
    (shut s.ended e.0, some, record { ends = e.1; states = t.states.1; in_space = t.in_space; once = t.once; pieces = t.pieces; start = t.start })
was s (EndAt a) is b some t =
    let e = ended_here s.ended (EndAt a) is refl t.ends in (
      passed (a % 4 == 2) Address _ (ne_eqb (a % 4) 2 t.states.0) (shut s.ended e.0),
      some,
      record { ends = e.1; states = t.states.1; in_space = t.in_space; once = t.once; pieces = t.pieces; start = t.start },
    )
was s Nothing is b some t =
    let e = came_on s.ended Nothing is refl t.ends in
    (shut s.ended e.0, some, record { ends = e.1; states = t.states.1; in_space = t.in_space; once = t.once; pieces = t.pieces; start = t.start })

-- ---- the lines

abbrev Said : Type 0
Said = Result Item RecordKind

abbrev each_ok : List Item → List Said
each_ok is = map {B = Said} (λ i. Ok i) is

abbrev left : List (List ℕ) → List (List ℕ)
left ls = filter (λ l. not (is_blank l)) ls

abbrev left_with : Bool → List ℕ → List (List ℕ) → List (List ℕ)
left_with b l ls = cond (not b) (l ∷ left ls) (left ls)

record Found (form : Form) (s : State) (ls : List (List ℕ)) (b : Burn) : Type 0 where
  items : List Item
  spelled : map (said form) ls ≡ each_ok items
  tells : Tells s items b

abbrev pub burn : List Piece → ℕ → Burn
burn ps a = record { pieces = ps; start = a }

abbrev pub whole_by : ℕ → State → Bool → Reading
whole_by n s e = cond e (Ok (burn s.pieces s.start)) (Err (n, Order))

found_end : (form : Form) (n : ℕ) (s : State) (b : Burn) (e : Bool) → s.ended ≡ e → whole_by n s e ≡ Ok b → Found form s [] b
found_end form n s b true is h =
    let same : burn s.pieces s.start ≡ b = cc in
    record {
      items = [];
      spelled = refl;
      tells = record {
        ends = subst (λ t. Ends t []) (sym is) tt;
        states = tt;
        in_space = tt;
        once = tt;
        pieces = sym (ap (λ (c : Burn). c.pieces) same) ∙ sym (append-nil s.pieces);
        start = sym (ap (λ (c : Burn). c.start) same);
      };
    }
found_end form n s b false is h = absurd (cc)

abbrev Next : Form → List (List ℕ) → Burn → Type 0
Next form ls b = (n : ℕ) (t : State) → read form n t ls ≡ Ok b → Found form t (left ls) b

found_item : (form : Form) (n : ℕ) (s : State) (l : List ℕ) (ls : List (List ℕ)) (b : Burn) (i : Item) (o : Option RecordKind) → Next form ls b
    → said form l ≡ Ok i → flaw s i ≡ o → behind n (λ t. read form (n + 1) t ls) (by_flaw (after s i) o) ≡ Ok b → Found form s (l ∷ left ls) b
found_item form n s l ls b i (Some k) next says is h = absurd (cc)
found_item form n s l ls b i None next says is h =
    let f = next (n + 1) (after s i) h in
    let rest = f.spelled in
    record { items = i ∷ f.items; spelled = cc; tells = one s i f.items b is f.tells }

found_line : (form : Form) (n : ℕ) (s : State) (l : List ℕ) (ls : List (List ℕ)) (b : Burn) (blank : Bool) (r : Said) → Next form ls b
    → said form l ≡ r → behind n (λ t. read form (n + 1) t ls) (cond blank (Ok s) (judged s r)) ≡ Ok b → Found form s (left_with blank l ls) b
found_line form n s l ls b true r next says h = next (n + 1) s h
found_line form n s l ls b false (Err k) next says h = absurd (cc)
found_line form n s l ls b false (Ok i) next says h = found_item form n s l ls b i (flaw s i) next says refl h

found : (form : Form) (n : ℕ) (s : State) (ls : List (List ℕ)) (b : Burn) → read form n s ls ≡ Ok b → Found form s (left ls) b
found form n s [] b h = found_end form n s b s.ended refl h
found form n s (l ∷ ls) b h = found_line form n s l ls b (is_blank l) (said form l) (λ m t e. found form m t ls b e) refl h

-- and back

abbrev ok : Burn → Reading
ok b = Ok b

same_burn : (s : State) (b : Burn) → b.pieces ≡ s.pieces ++ [] → b.start ≡ s.start → ok (burn s.pieces s.start) ≡ ok b
same_burn s b e f =
    ap (λ (ps : List Piece). ok (burn ps s.start)) (sym (append-nil s.pieces) ∙ sym e) ∙ ap (λ (a : ℕ). ok (burn b.pieces a)) (sym f)

only_end : (n : ℕ) (s : State) (b : Burn) (e : Bool) → Ends e [] → b.pieces ≡ s.pieces ++ [] → b.start ≡ s.start → whole_by n s e ≡ ok b
only_end n s b true h ps a = same_burn s b ps a
only_end n s b false h ps a = absurd h

abbrev Goes : Form → List (List ℕ) → Burn → Type 0
Goes form ls b = (n : ℕ) (t : State) (is : List Item) → AreSome t.pieces → map (said form) (left ls) ≡ each_ok is → Tells t is b → read form n t ls ≡ Ok b

only_line : (form : Form) (n : ℕ) (s : State) (l : List ℕ) (ls : List (List ℕ)) (b : Burn) (blank : Bool) (is : List Item) → Goes form ls b → AreSome s.pieces
    → map (said form) (left_with blank l ls) ≡ each_ok is → Tells s is b → behind n (λ t. read form (n + 1) t ls) (cond blank (Ok s) (judged s (said form l))) ≡ Ok b
only_line form n s l ls b true is goes some spelled t = goes (n + 1) s is some spelled t
only_line form n s l ls b false [] goes some spelled t = absurd (cc)
only_line form n s l ls b false (i ∷ is) goes some spelled t =
    let says : said form l ≡ Ok i = cc in
    let rest : map (said form) (left ls) ≡ each_ok is = cc in
    let r = was s i is b some t in
    ap (λ (x : Said). behind n (λ u. read form (n + 1) u ls) (judged s x)) says
    ∙ ap (λ (o : Option RecordKind). behind n (λ u. read form (n + 1) u ls) (by_flaw (after s i) o)) r.0
    ∙ goes (n + 1) (after s i) is r.1 rest r.2

only : (form : Form) (n : ℕ) (s : State) (ls : List (List ℕ)) (is : List Item) (b : Burn) → AreSome s.pieces → map (said form) (left ls) ≡ each_ok is → Tells s is b → read form n s ls ≡ Ok b
only form n s [] [] b some spelled t = only_end n s b s.ended t.ends t.pieces t.start
only form n s [] (i ∷ is) b some spelled t = absurd (cc)
only form n s (l ∷ ls) is b some spelled t = only_line form n s l ls b (is_blank l) is (λ m u js k e v. only form m u ls js b k e v) some spelled t

-- ---- texts

refused : (r : Reading) (b : Burn) → refusal r ≡ Ok b → r ≡ Ok b
refused (Ok c) b h = let same : c ≡ b = cc in ap ok same
refused (Err e) b h = absurd (cc)

pub text_found : (form : Form) (text : List ℕ) (b : Burn) → burn_of form text ≡ Ok b → Reads form text b
text_found form text b h =
    let f = found form 1 first_state (lines text) b (refused (read form 1 first_state (lines text)) b h) in
    let t = f.tells in
    record { items = f.items; spelled = f.spelled; ends = t.ends; states = t.states; in_space = t.in_space; once = t.once; pieces = t.pieces; start = t.start }

pub text_only : (form : Form) (text : List ℕ) (b : Burn) → Reads form text b → burn_of form text ≡ Ok b
text_only form text b r =
    ap refusal (only form 1 first_state (lines text) r.items b tt r.spelled
    (record { ends = r.ends; states = r.states; in_space = r.in_space; once = r.once; pieces = r.pieces; start = r.start }))

-- what a call answers
pub answer_found : (form : Form) (text : List ℕ) (r : Result Burn Fault) → Gives r (burn_of form text) → IfOk r (Reads form text)
answer_found form text (Ok b) h = text_found form text b h
answer_found form text (Err e) h = tt

pub answer_only : (form : Form) (text : List ℕ) (r : Result Burn Fault) → Gives r (burn_of form text) → (b : Burn) → Reads form text b → Gives r (Ok b)
answer_only form text r h b reads = subst (Gives r) (text_only form text b reads) h
