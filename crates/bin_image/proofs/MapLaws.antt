-- The laws: what reading gives is the map that the bytes spell, or their first wrong line.
use Rattle.std.proofs.Common.{◌≡◌, ◌∙◌, ℕ, ◌+◌, List, [], ◌∷◌, ◌++◌, length, drop, Bool, true, false, cond, ◌==◌, ◌&&◌, Option, Some, None, Result, Ok, Err, refl, ap, sym, subst, arith, eqb-true, append_assoc, append-nil}
use Rattle.std.specs.Prelude.{IfOk, IfErr}
use Rattle.std.specs.List.{flat_map, join_with_byte}
use Rattle.std.specs.Option.{option_map_or}
use Rattle.std.proofs.lemmas.List.Splits.{join_with_byte-slice_split}
use Rattle.std.proofs.lemmas.List.Concat.{flat_map-append}
use Rattle.sdt_fault.specs.declared.answer.Fault.{Fault}
use Rattle.sdt_fault.specs.declared.answer.Fault.TheVariants as fault
use Rattle.sdt_fault.specs.declared.kinds.FileKind.TheVariants as kind
use Rattle.sdt_fault.specs.declared.refusal.Refusal.{Refusal}
use Rattle.sdt_fault.specs.declared.refusal.Refusal.TheVariants.{BadImage}
use Rattle.bin_image.specs.declared.records.MapFile.{MapFile}
use Rattle.bin_image.specs.declared.reading.Stage.TheVariants.{Head, Done}
use Rattle.bin_image.specs.Fields.{◌>>=◌, lacks}
use Rattle.bin_image.specs.Maps.{ended, map_text, ReadsMap, Begins, IsFirstWrong}
use Rattle.bin_image.specs.Reading.{State, next, is_done, read, pieces_of, empty_map, told, map_of, Gives, IsFaultOf, MapLaw, OneRecord, SpellingLaw, FirstWrongLaw}
use Rattle.bin_image.proofs.Cuts.{pieces_at, pieces_lack, joined, pieces_of_lines}
use Rattle.bin_image.proofs.Steps.{steps, steps_append, steps_spell, Spells, so_far, Plain, begins_at, nothing_good, text_of_lines}
use Rattle.bin_image.proofs.Pieces.{read_through, reached_of, Stuck, stops, split_some, done_is, map_read}

abbrev Read : Type 0
Read = Result MapFile ℕ

same_map : (m n : MapFile) → ◌≡◌ {A = Read} (Ok m) (Ok n) → m ≡ n
same_map m n h = cc

same_place : (i j : ℕ) → ◌≡◌ {A = Read} (Err i) (Err j) → i ≡ j
same_place i j h = cc

no_map_there : {P : Type 0} (i : ℕ) (m : MapFile) → ◌≡◌ {A = Read} (Err i) (Ok m) → P
no_map_there i m h = absurd (cc)

cancelled : {X : Type 0} (xs ys zs : List X) → xs ++ ys ≡ xs ++ zs → ys ≡ zs
cancelled [] ys zs h = h
cancelled (x ∷ xs) ys zs h = cancelled xs ys zs (ap (drop 1) h)

first_same : {X : Type 0} (x y : X) (xs ys : List X) → x ∷ xs ≡ y ∷ ys → (x ≡ y) × (xs ≡ ys)
first_same x y xs ys h = (cc, ap (drop 1) h)

plain_front : (xs ys : List (List ℕ)) → Plain (xs ++ ys) → Plain xs
plain_front [] ys h = tt
plain_front (x ∷ xs) ys h = (h.0, plain_front xs ys h.1)

no_length : (xs : List ℕ) → length xs ≡ 0 → xs ≡ []
no_length [] h = refl
no_length (x ∷ xs) h = absurd (omega arith)

-- ---- what a text is read as

data Judged (b : List ℕ) : Type 0 where
  is_map : (m : MapFile) → read 0 Head empty_map (pieces_of b) ≡ Ok m → ReadsMap b m → Judged b
  is_wrong : (at : ℕ) → read 0 Head empty_map (pieces_of b) ≡ Err at → IsFirstWrong b at → Judged b

-- where reading stops
record Stopped (b : List ℕ) : Type 0 where
  before : List (List ℕ)
  first : List ℕ
  others : List (List ℕ)
  state : State
  rest : List ℕ
  plain : Plain before
  reached : steps Head empty_map before ≡ Some state
  whole : b ≡ flat_map ended before ++ rest
  rest_is : rest ≡ join_with_byte 10 (first ∷ others)
  pieces : pieces_of rest ≡ first ∷ others
  stuck : Stuck state first others
  reads : read 0 Head empty_map (pieces_of b) ≡ read (length (flat_map ended before)) state.0 state.1 (first ∷ others)

read_from : (ls : List (List ℕ)) (x : List ℕ) (xs : List (List ℕ)) (t : State) → steps Head empty_map ls ≡ Some t → read 0 Head empty_map (ls ++ x ∷ xs) ≡ read (length (flat_map ended ls)) t.0 t.1 (x ∷ xs)
read_from ls x xs t h =
    let e : 0 + length (flat_map ended ls) ≡ length (flat_map ended ls) = omega arith in
    read_through ls 0 Head empty_map x xs t h ∙ ap (λ n. read n t.0 t.1 (x ∷ xs)) e

stopped : (b : List ℕ) → Stopped b
stopped b =
    let n = split_some b in
    let s = stops n.1 n.0 Head empty_map in
    let parts : pieces_of b ≡ s.before ++ s.first ∷ s.others = n.2 ∙ s.parts in
    let plain : Plain s.before = plain_front s.before (s.first ∷ s.others) (subst Plain parts (pieces_lack 10 b)) in
    let rest : List ℕ = join_with_byte 10 (s.first ∷ s.others) in
    let whole : b ≡ flat_map ended s.before ++ rest = sym (join_with_byte-slice_split 10 b) ∙ ap (join_with_byte 10) parts ∙ joined s.before s.first s.others in
    record {
      before = s.before;
      first = s.first;
      others = s.others;
      state = s.state;
      rest = rest;
      plain = plain;
      reached = s.reached;
      whole = whole;
      rest_is = refl;
      pieces = cancelled s.before (pieces_of rest) (s.first ∷ s.others) (sym (pieces_of_lines s.before rest plain) ∙ ap pieces_of (sym whole) ∙ parts);
      stuck = s.stuck;
      reads = ap (read 0 Head empty_map) parts ∙ read_from s.before s.first s.others s.state s.reached;
    }

spells : (ls : List (List ℕ)) (t : State) → Plain ls → steps Head empty_map ls ≡ Some t → Spells [] ls t
spells ls t plain h = steps_spell ls Head empty_map t nothing_good plain h

-- lines that lead to a state begin some valid map's text
begins_with : (ls : List (List ℕ)) (t : State) → Plain ls → steps Head empty_map ls ≡ Some t → Begins (flat_map ended ls)
begins_with ls t plain h =
    let s = spells ls t plain h in
    subst Begins (ap (flat_map ended) s.lines) (begins_at t.0 t.1 s.good)

-- with a line that can't stand there, none does
not_begun : (ls : List (List ℕ)) (t : State) (line : List ℕ) → Plain ls → lacks 10 line ≡ true → steps Head empty_map ls ≡ Some t → next t.0 t.1 line ≡ None → Begins (flat_map ended ls ++ ended line) → ⊥
not_begun ls t line plain one h stuck g =
    let n = split_some g.rest in
    let p : pieces_of (map_text g.map) ≡ ls ++ line ∷ n.0 ∷ n.1 =
    ap pieces_of (g.begun ∙ append_assoc (flat_map ended ls) (ended line) g.rest) ∙ pieces_of_lines ls (ended line ++ g.rest) plain
    ∙ ap (λ ps. ls ++ ps) (ap pieces_of (append_assoc line (10 ∷ []) g.rest) ∙ pieces_at 10 line g.rest one ∙ ap (λ ps. line ∷ ps) n.2) in
    let r : read 0 Head empty_map (pieces_of (map_text g.map)) ≡ Err (length (flat_map ended ls)) =
    ap (read 0 Head empty_map) p ∙ read_from ls line (n.0 ∷ n.1) t h
    ∙ ap (λ o. option_map_or (λ u. read (length (flat_map ended ls) + (length line + 1)) u.0 u.1 (n.0 ∷ n.1)) o (Err (length (flat_map ended ls)))) stuck in
    no_map_there (length (flat_map ended ls)) g.map (sym r ∙ map_read g.map g.valid)

reads_as : (b : List ℕ) (m : MapFile) → ReadsMap b m → read 0 Head empty_map (pieces_of b) ≡ Ok m
reads_as b m h = ap (λ t. read 0 Head empty_map (pieces_of t)) h.0 ∙ map_read m h.1

wrong_at : (b : List ℕ) (s : Stopped b) → read 0 Head empty_map (pieces_of b) ≡ Err (length (flat_map ended s.before)) → IsFirstWrong b (length (flat_map ended s.before))
wrong_at b s e = record {
  before = flat_map ended s.before;
  rest = s.rest;
  parts = s.whole;
  place = refl;
  lines = (s.before, s.plain, refl);
  right = begins_with s.before s.state s.plain s.reached;
  wrong = λ line after at one g. no_line line after at one g (s.others) s.pieces s.stuck;
  no_map = λ m h. no_map_there (length (flat_map ended s.before)) m (sym e ∙ reads_as b m h);
} where
  no_line : (line after : List ℕ) → s.rest ≡ line ++ 10 ∷ after → lacks 10 line ≡ true → Begins (flat_map ended s.before ++ ended line) → (others : List (List ℕ)) → pieces_of s.rest ≡ s.first ∷ others → Stuck s.state s.first others → ⊥
  no_line line after at one g [] ps stuck =
      let n = split_some after in
      let p = first_same s.first line [] (pieces_of after) (sym ps ∙ ap pieces_of at ∙ pieces_at 10 line after one) in
      absurd (cc)
  no_line line after at one g (x ∷ xs) ps stuck =
      let p = first_same s.first line (x ∷ xs) (pieces_of after) (sym ps ∙ ap pieces_of at ∙ pieces_at 10 line after one) in
      not_begun s.before s.state line s.plain one s.reached (ap (next s.state.0 s.state.1) (sym p.0) ∙ stuck) g

judged : (b : List ℕ) → Judged b
judged b = by_others (stopped b).others (stopped b).stuck (stopped b).reads (stopped b).rest_is where
  s : Stopped b
  s = stopped b

  at : ℕ
  at = length (flat_map ended s.before)

  the_map : s.rest ≡ s.first → is_done s.state.0 ≡ true → length s.first ≡ 0 → ReadsMap b s.state.1
  the_map r d z =
      let p = spells s.before s.state s.plain s.reached in
      let lines : so_far Done s.state.1 ≡ s.before = ap (λ g. so_far g s.state.1) (sym (done_is s.state.0 d)) ∙ p.lines in (
        s.whole ∙ ap (λ t. flat_map ended s.before ++ t) (r ∙ no_length s.first z) ∙ append-nil (flat_map ended s.before)
            ∙ ap (flat_map ended) (sym lines) ∙ text_of_lines s.state.1,
        p.good.valid,
      )

  by_last : s.rest ≡ s.first → (d : Bool) → is_done s.state.0 ≡ d → (z : Bool) → (length s.first == 0) ≡ z
      → read 0 Head empty_map (pieces_of b) ≡ cond (d && z) (Ok s.state.1) (Err at) → Judged b
  by_last r true ed true ez e = is_map s.state.1 e (the_map r ed (eqb-true (length s.first) 0 ez))
  by_last r true ed false ez e = is_wrong at e (wrong_at b s e)
  by_last r false ed z ez e = is_wrong at e (wrong_at b s e)

  by_others : (others : List (List ℕ)) → Stuck s.state s.first others → read 0 Head empty_map (pieces_of b) ≡ read at s.state.0 s.state.1 (s.first ∷ others) → s.rest ≡ join_with_byte 10 (s.first ∷ others) → Judged b
  by_others [] stuck e r = by_last r (is_done s.state.0) refl (length s.first == 0) refl e
  by_others (x ∷ xs) stuck e r =
      let f = e ∙ ap (λ o. option_map_or (λ u. read (at + (length s.first + 1)) u.0 u.1 (x ∷ xs)) o (Err at)) stuck in
      is_wrong at f (wrong_at b s f)

-- ---- the laws

told_ok : (r : Read) (m : MapFile) → told r ≡ Ok m → r ≡ Ok m
told_ok (Ok n) m h = let e : n ≡ m = cc in ap Ok e
told_ok (Err i) m h = absurd (cc)

told_err : (r : Read) (at : ℕ) → told r ≡ Err (BadImage [] at kind.Map) → r ≡ Err at
told_err (Ok n) at h = absurd (cc)
told_err (Err i) at h = let e : i ≡ at = cc in ap Err e

pub map_law : MapLaw
map_law b m = (λ h. by_judged (judged b) (told_ok (read 0 Head empty_map (pieces_of b)) m h), λ h. ap told (reads_as b m h)) where
  by_judged : Judged b → read 0 Head empty_map (pieces_of b) ≡ Ok m → ReadsMap b m
  by_judged (is_map n e r) h = subst (ReadsMap b) (same_map n m (sym e ∙ h)) r
  by_judged (is_wrong at e w) h = no_map_there at m (sym e ∙ h)

pub one_record : OneRecord
one_record b m n h k = same_map m n (sym (reads_as b m h) ∙ reads_as b n k)

pub spelling_law : SpellingLaw
spelling_law m v = (refl, v)

plain_more : (ls : List (List ℕ)) (x : List ℕ) → Plain ls → lacks 10 x ≡ true → Plain (ls ++ x ∷ [])
plain_more [] x h one = (one, tt)
plain_more (l ∷ ls) x h one = (h.0, plain_more ls x h.1 one)

one_step : (t : State) (x : List ℕ) (u : State) → next t.0 t.1 x ≡ Some u → steps t.0 t.1 (x ∷ []) ≡ Some u
unfolding steps
one_step t x u h = ap (λ o. o >>= λ v. Some v) h

-- the first wrong line is told
told_there : (b : List ℕ) (at : ℕ) → IsFirstWrong b at → read 0 Head empty_map (pieces_of b) ≡ Err at
told_there b at w = by_pieces n.0 n.1 n.2 where
  ls : List (List ℕ)
  ls = w.lines.0

  plain : Plain ls
  plain = w.lines.1

  spelled : w.before ≡ flat_map ended ls
  spelled = w.lines.2

  n : (x : List ℕ) × (xs : List (List ℕ)) × (pieces_of w.rest ≡ x ∷ xs)
  n = split_some w.rest

  state : (t : State) × (steps Head empty_map ls ≡ Some t)
  state =
      let g = w.right in
      let m = split_some g.rest in
      let p : pieces_of (map_text g.map) ≡ ls ++ m.0 ∷ m.1 =
      ap pieces_of (g.begun ∙ ap (λ t. t ++ g.rest) spelled) ∙ pieces_of_lines ls g.rest plain ∙ ap (λ ps. ls ++ ps) m.2 in
      reached_of ls 0 Head empty_map g.map m.0 m.1 (ap (read 0 Head empty_map) (sym p) ∙ map_read g.map g.valid)

  place : length (flat_map ended ls) ≡ at
  place = ap length (sym spelled) ∙ sym w.place

  parts : (x : List ℕ) (xs : List (List ℕ)) → pieces_of w.rest ≡ x ∷ xs → read 0 Head empty_map (pieces_of b) ≡ read at state.0.0 state.0.1 (x ∷ xs)
  parts x xs e =
      ap (λ t. read 0 Head empty_map (pieces_of t)) (w.parts ∙ ap (λ t. t ++ w.rest) spelled)
      ∙ ap (read 0 Head empty_map) (pieces_of_lines ls w.rest plain ∙ ap (λ ps. ls ++ ps) e)
      ∙ read_from ls x xs state.0 state.1 ∙ ap (λ i. read i state.0.0 state.0.1 (x ∷ xs)) place

  is_no_map : (m : MapFile) → read 0 Head empty_map (pieces_of b) ≡ Ok m → ⊥
  is_no_map m h = w.no_map m ((map_law b m).0 (ap told h))

  by_last : (x : List ℕ) (d : Bool) → read 0 Head empty_map (pieces_of b) ≡ cond d (Ok state.0.1) (Err at) → read 0 Head empty_map (pieces_of b) ≡ Err at
  by_last x true e = absurd (is_no_map state.0.1 e)
  by_last x false e = e

  longer : (x y : List ℕ) (ys : List (List ℕ)) → pieces_of w.rest ≡ x ∷ y ∷ ys → (u : State) → next state.0.0 state.0.1 x ≡ Some u → ⊥
  longer x y ys e u en =
      let all : Plain (x ∷ y ∷ ys) = subst Plain e (pieces_lack 10 w.rest) in
      let rest : w.rest ≡ x ++ 10 ∷ join_with_byte 10 (y ∷ ys) = sym (join_with_byte-slice_split 10 w.rest) ∙ ap (join_with_byte 10) e in
      let more : steps Head empty_map (ls ++ x ∷ []) ≡ Some u = steps_append ls (x ∷ []) Head empty_map state.0 state.1 ∙ one_step state.0 x u en in
      let g : Begins (flat_map ended (ls ++ x ∷ [])) = begins_with (ls ++ x ∷ []) u (plain_more ls x plain all.0) more in
      let text : flat_map ended (ls ++ x ∷ []) ≡ w.before ++ ended x = flat_map-append ended ls (x ∷ []) ∙ ap (λ t. flat_map ended ls ++ t) (append-nil (ended x)) ∙ ap (λ t. t ++ ended x) (sym spelled) in
      w.wrong x (join_with_byte 10 (y ∷ ys)) rest all.0 (subst Begins text g)

  by_next : (x y : List ℕ) (ys : List (List ℕ)) → pieces_of w.rest ≡ x ∷ y ∷ ys → (o : Option State) → next state.0.0 state.0.1 x ≡ o
      → read 0 Head empty_map (pieces_of b) ≡ option_map_or (λ u. read (at + (length x + 1)) u.0 u.1 (y ∷ ys)) o (Err at) → read 0 Head empty_map (pieces_of b) ≡ Err at
  by_next x y ys e None en h = h
  by_next x y ys e (Some u) en h = absurd (longer x y ys e u en)

  by_pieces : (x : List ℕ) (xs : List (List ℕ)) → pieces_of w.rest ≡ x ∷ xs → read 0 Head empty_map (pieces_of b) ≡ Err at
  by_pieces x [] e = by_last x (is_done state.0.0 && length x == 0) (parts x [] e)
  by_pieces x (y ∷ ys) e = by_next x y ys e (next state.0.0 state.0.1 x) refl (parts x (y ∷ ys) e)

pub first_wrong_law : FirstWrongLaw
first_wrong_law b at = (λ h. by_judged (judged b) (told_err (read 0 Head empty_map (pieces_of b)) at h), λ w. ap told (told_there b at w)) where
  by_judged : Judged b → read 0 Head empty_map (pieces_of b) ≡ Err at → IsFirstWrong b at
  by_judged (is_map m e r) h = no_map_there at m (sym h ∙ e)
  by_judged (is_wrong i e w) h = subst (IsFirstWrong b) (same_place i at (sym e ∙ h)) w

-- ---- what the call answers

pub found : (b : List ℕ) (r : Result MapFile Fault) → Gives r (map_of b) → IfOk r (ReadsMap b)
found b (Ok m) h = (map_law b m).0 h
found b (Err e) h = tt

pub only : (b : List ℕ) (r : Result MapFile Fault) → Gives r (map_of b) → (m : MapFile) → ReadsMap b m → Gives r (Ok m)
only b r h m reads = subst (Gives r) ((map_law b m).1 reads) h

refused : (b : List ℕ) (d : Refusal) (r : Read) → read 0 Head empty_map (pieces_of b) ≡ r → told r ≡ Err d → (at : ℕ) × (d ≡ BadImage [] at kind.Map) × IsFirstWrong b at
refused b d (Ok m) e h = absurd (cc)
refused b d (Err at) e h =
    let s : d ≡ BadImage [] at kind.Map = cc in
    (at, s, (first_wrong_law b at).0 (ap told e))

pub wrong : (b : List ℕ) (r : Result MapFile Fault) → Gives r (map_of b) → IfErr r (IsFaultOf b)
wrong b (Ok m) h = tt
wrong b (Err fault.NoMemory) h = tt
wrong b (Err (fault.Refused d)) h = refused b d (read 0 Head empty_map (pieces_of b)) refl h
wrong b (Err (fault.ReadFault name)) h = absurd h
