-- Lines that are read one after the other.
use Rattle.std.proofs.Common.{◌≡◌, ℕ, ◌≤◌, ◌<◌, suc, ◌+◌, Bool, false, cond, List, [], ◌∷◌, ◌++◌, length, take, get_or, Option, Some, None, Ok, Err, refl, sym, ap, ◌∙◌, subst, arith, append_assoc, length-append, add-one}
use Rattle.std.proofs.Math.Seq.{take-suc}
use Rattle.asm_model.specs.declared.lines.Flat.{Flat}
use Rattle.asm_model.specs.declared.statements.Statement.{Statement}
use Rattle.asm_model.specs.Directives.{or_else}
use Rattle.asm_model.specs.Said.{AllSaid}
use Rattle.asm_model.proofs.SaidLemmas.{IsFine, fine_said}
use Rattle.asm_reading.proofs.LineLemmas.{lines_are_fine}
use Rattle.asm_reading.specs.declared.flat_lines.Reading.{Reading}
use Rattle.asm_reading.specs.declared.flat_lines.Unread.{Unread}
use Rattle.asm_model.specs.Says.{Said}
use Rattle.asm_reading.specs.Says.{SaysBy}
use Rattle.asm_reading.specs.FlatLines.{state_after, Say, statement_in, statements_in, unread_in, first_unread, is_unread, read_first, before_behind, Keeps, IsWritten, IsReading}
use Rattle.asm_locals.specs.Naming.{in_names}
use Rattle.asm_locals.proofs.KeptLemmas.{statement_fine, all_in_names, as_many}
use Rattle.std.specs.List.{AllByRecursion}

-- ---- lists

append_nil : {A : Type 0} (xs : List A) → xs ++ [] ≡ xs
append_nil [] = refl
append_nil (x ∷ xs) = ap (λ l. x ∷ l) (append_nil xs)

statements_joined : (ps qs : List (Flat × Said)) → statements_in (ps ++ qs) ≡ statements_in ps ++ statements_in qs
statements_joined [] qs = refl
statements_joined (p ∷ ps) qs =
    ap (λ (l : List Statement). statement_in p.1 ++ l) (statements_joined ps qs) ∙ sym (append_assoc (statement_in p.1) (statements_in ps) (statements_in qs))

or_assoc : (a b c : Option Unread) → or_else a (or_else b c) ≡ or_else (or_else a b) c
or_assoc None b c = refl
or_assoc (Some x) b c = refl

or_none : (a : Option Unread) → or_else a None ≡ a
or_none None = refl
or_none (Some x) = refl

unread_joined : (ps : List (Flat × Said)) (f : Flat) (s : Said) → first_unread (ps ++ (f, s) ∷ []) ≡ or_else (first_unread ps) (unread_in f s)
unread_joined [] f s = or_none (unread_in f s)
unread_joined (p ∷ ps) f s = ap (or_else (unread_in p.0 p.1)) (unread_joined ps f s) ∙ or_assoc (unread_in p.0 p.1) (first_unread ps) (unread_in f s)

-- ---- what is kept

-- at most one statement a line
one_at_most : (s : Said) → length (statement_in s) ≤ 1
one_at_most (Ok (Some s)) = omega arith
one_at_most (Ok None) = omega arith
one_at_most (Err k) = omega arith

few : (ps : List (Flat × Said)) → length (statements_in ps) ≤ length ps
few [] = omega arith
few (p ∷ ps) =
    let h : length (statements_in ps) ≤ length ps = few ps in
    let k : length (statement_in p.1) ≤ 1 = one_at_most p.1 in
    let j : length (statement_in p.1 ++ statements_in ps) ≡ length (statement_in p.1) + length (statements_in ps) =
    length-append (statement_in p.1) (statements_in ps) in
    omega arith

as_many_lines : (thumb : Bool) (fs : List Flat) (ps : List (Flat × Said)) → Say thumb fs ps → length ps ≡ length fs
as_many_lines thumb [] [] h = refl
as_many_lines thumb [] (p ∷ ps) h = absurd h
as_many_lines thumb (f ∷ fs) [] h = absurd h
as_many_lines thumb (f ∷ fs) (p ∷ ps) h = ap suc (as_many_lines (state_after thumb p.1) fs ps h.2)

few_named : (lines : List Flat) (ps : List (Flat × Said)) → Say false lines ps → (named : List Statement) → named ≡ in_names (statements_in ps)
    → length named ≤ length lines
few_named lines ps h named e =
    let a : length (statements_in ps) ≤ length ps = few ps in
    let b : length ps ≡ length lines = as_many_lines false lines ps h in
    let k : length named ≡ length (statements_in ps) = ap length e ∙ as_many (statements_in ps) in
    omega (arith, k)

pub few_written : (lines : List Flat) (w : Reading) → IsWritten lines w → (named : List Statement) → named ≡ in_names w.statements.items
    → length named ≤ length lines
few_written lines w h named e = few_named lines h.says h.say named (e ∙ ap in_names h.statements)

pub few_read : (lines : List Flat) (r : Reading) → IsReading lines r → length r.statements.items ≤ length lines
few_read lines r h = few_named lines h.says h.say r.statements.items h.statements

-- ---- each statement

kept_joined : (P : Statement → Type 0) (xs ys : List Statement) → AllByRecursion P xs → AllByRecursion P ys → AllByRecursion P (xs ++ ys)
kept_joined P [] ys h k = k
kept_joined P (x ∷ xs) ys h k = (h.0, kept_joined P xs ys h.1 k)

one_fine : (thumb : Bool) (f : Flat) (s : Said) → SaysBy thumb f s → AllByRecursion IsFine (statement_in s)
one_fine thumb f (Ok (Some s)) h = ((lines_are_fine thumb f s h).0, tt)
one_fine thumb f (Ok None) h = tt
one_fine thumb f (Err k) h = tt

all_fine : (thumb : Bool) (fs : List Flat) (ps : List (Flat × Said)) → Say thumb fs ps → AllByRecursion IsFine (statements_in ps)
all_fine thumb [] [] h = tt
all_fine thumb [] (p ∷ ps) h = absurd h
all_fine thumb (f ∷ fs) [] h = absurd h
all_fine thumb (f ∷ fs) (p ∷ ps) h =
    kept_joined IsFine (statement_in p.1) (statements_in ps) (one_fine thumb f p.1 h.1) (all_fine (state_after thumb p.1) fs ps h.2)

pub named_fine : (lines : List Flat) (ps : List (Flat × Said)) → Say false lines ps → (named : List Statement) → named ≡ in_names (statements_in ps)
    → AllByRecursion IsFine named
named_fine lines ps h named e = rw e (all_in_names IsFine statement_fine (statements_in ps) (all_fine false lines ps h))

pub each_gives : {A : Type 0} (P Q : A → Type 0) → ((a : A) → P a → Q a) → (xs : List A) → AllByRecursion P xs → AllByRecursion Q xs
each_gives P Q f [] h = tt
each_gives P Q f (x ∷ xs) h = (f x h.0, each_gives P Q f xs h.1)

pub all_said : (ss : List Statement) → AllByRecursion IsFine ss → AllSaid ss
all_said [] h = tt
all_said (s ∷ ss) h = (fine_said s h.0, all_said ss h.1)

pub said_written : (lines : List Flat) (w : Reading) → IsWritten lines w → (named : List Statement) → named ≡ in_names w.statements.items → AllSaid named
said_written lines w h named e =
    all_said named (named_fine lines h.says h.say named (e ∙ ap in_names h.statements))

-- ---- the lines before the first that can't be read

first_none : (ps qs : List (Flat × Said)) → first_unread ps ≡ None → read_first (ps ++ qs) ≡ ps ++ read_first qs
first_none [] qs e = refl
first_none (p ∷ ps) qs e = by_said p.1 e (λ k. first_none ps qs k)
  where
    by_said : (s : Said) → or_else (unread_in p.0 s) (first_unread ps) ≡ None
        → (first_unread ps ≡ None → read_first (ps ++ qs) ≡ ps ++ read_first qs)
        → cond {A = List (Flat × Said)} (is_unread s) [] (p ∷ read_first (ps ++ qs)) ≡ p ∷ ps ++ read_first qs
    by_said (Ok s) k rest = ap (λ (l : List (Flat × Said)). p ∷ l) (rest k)
    by_said (Err j) k rest = absurd (cc)

first_some : (ps qs : List (Flat × Said)) (u : Unread) → first_unread ps ≡ Some u → read_first (ps ++ qs) ≡ read_first ps
first_some [] qs u e = absurd (cc)
first_some (p ∷ ps) qs u e = by_said p.1 e (λ k. first_some ps qs u k)
  where
    by_said : (s : Said) → or_else (unread_in p.0 s) (first_unread ps) ≡ Some u
        → (first_unread ps ≡ Some u → read_first (ps ++ qs) ≡ read_first ps)
        → cond {A = List (Flat × Said)} (is_unread s) [] (p ∷ read_first (ps ++ qs)) ≡ cond {A = List (Flat × Said)} (is_unread s) [] (p ∷ read_first ps)
    by_said (Ok s) k rest = ap (λ (l : List (Flat × Said)). p ∷ l) (rest k)
    by_said (Err j) k rest = refl

first_all : (ps : List (Flat × Said)) → first_unread ps ≡ None → read_first ps ≡ ps
first_all ps e = subst (λ (l : List (Flat × Said)). read_first l ≡ l) (append_nil ps) (first_none ps [] e)

behind_unread : (s : Said) (u : Unread) (before all : ℕ) → before_behind s (Some u) before all ≡ before
behind_unread (Ok (Some s)) u before all = refl
behind_unread (Ok None) u before all = refl
behind_unread (Err k) u before all = refl

-- where all before can be read
behind_read : (done : List (Flat × Said)) (f : Flat) (s : Said)
    → before_behind s None (length (statements_in done)) (length (statements_in (done ++ (f, s) ∷ [])))
    ≡ length (statements_in (done ++ read_first ((f, s) ∷ [])))
behind_read done f (Ok (Some s)) = refl
behind_read done f (Ok None) =
    sym (ap (λ (l : List Statement). length l) (statements_joined done ((f, Ok None) ∷ []) ∙ append_nil (statements_in done)))
behind_read done f (Err k) = sym (ap (λ (l : List (Flat × Said)). length (statements_in l)) (append_nil done))

-- ---- a line more

kept_more : (done : List (Flat × Said)) (f : Flat) (s : Said) (old new : Reading) → Keeps f s old new → old.statements.items ≡ statements_in done
    → new.statements.items ≡ statements_in (done ++ (f, s) ∷ [])
kept_more done f s old new k h =
    k.kept ∙ ap (λ (l : List Statement). l ++ statement_in s) h ∙ ap (λ (l : List Statement). statements_in done ++ l) (sym (append_nil (statement_in s)))
    ∙ sym (statements_joined done ((f, s) ∷ []))

told_more : (done : List (Flat × Said)) (f : Flat) (s : Said) (old new : Reading) → Keeps f s old new → old.unread ≡ first_unread done
    → new.unread ≡ first_unread (done ++ (f, s) ∷ [])
told_more done f s old new k h = k.told ∙ ap (λ (o : Option Unread). or_else o (unread_in f s)) h ∙ sym (unread_joined done f s)

counts_more : (done : List (Flat × Said)) (f : Flat) (s : Said) (old new : Reading) → Keeps f s old new → old.statements.items ≡ statements_in done
    → old.unread ≡ first_unread done → old.before ≡ length (statements_in (read_first done))
    → new.before ≡ length (statements_in (read_first (done ++ (f, s) ∷ [])))
counts_more done f s old new k h u b = by_unread (first_unread done) refl
  where
    by_unread : (o : Option Unread) → first_unread done ≡ o → new.before ≡ length (statements_in (read_first (done ++ (f, s) ∷ [])))
    by_unread None e =
        let before : old.before ≡ length (statements_in done) = b ∙ ap (λ (l : List (Flat × Said)). length (statements_in l)) (first_all done e) in
        let all : length new.statements.items ≡ length (statements_in (done ++ (f, s) ∷ [])) =
        ap (λ (l : List Statement). length l) (kept_more done f s old new k h) in
        k.counts ∙ ap (λ (o : Option Unread). before_behind s o old.before (length new.statements.items)) (u ∙ e)
        ∙ ap (λ (n : ℕ). before_behind s None n (length new.statements.items)) before
        ∙ ap (λ (n : ℕ). before_behind s None (length (statements_in done)) n) all
        ∙ behind_read done f s
        ∙ sym (ap (λ (l : List (Flat × Said)). length (statements_in l)) (first_none done ((f, s) ∷ []) e))
    by_unread (Some v) e =
        k.counts ∙ ap (λ (o : Option Unread). before_behind s o old.before (length new.statements.items)) (u ∙ e)
        ∙ behind_unread s v old.before (length new.statements.items) ∙ b
        ∙ sym (ap (λ (l : List (Flat × Said)). length (statements_in l)) (first_some done ((f, s) ∷ []) v e))

-- the state behind lines
abbrev states_after : Bool → List (Flat × Said) → Bool
states_after thumb [] = thumb
states_after thumb (p ∷ ps) = states_after (state_after thumb p.1) ps

state_more : (thumb : Bool) (ps : List (Flat × Said)) (f : Flat) (s : Said) → states_after thumb (ps ++ (f, s) ∷ []) ≡ state_after (states_after thumb ps) s
state_more thumb [] f s = refl
state_more thumb (p ∷ ps) f s = state_more (state_after thumb p.1) ps f s

say_more : (thumb : Bool) (fs : List Flat) (ps : List (Flat × Said)) (f : Flat) (s : Said) → Say thumb fs ps → SaysBy (states_after thumb ps) f s
    → Say thumb (fs ++ f ∷ []) (ps ++ (f, s) ∷ [])
say_more thumb [] [] f s h says = (refl, says, tt)
say_more thumb [] (p ∷ ps) f s h says = absurd h
say_more thumb (g ∷ gs) [] f s h says = absurd h
say_more thumb (g ∷ gs) (p ∷ ps) f s h says = (h.0, h.1, say_more (state_after thumb p.1) gs ps f s h.2 says)

-- lines that are written, with the state of the next
abbrev pub IsWrittenTo : List Flat → Bool → Reading → Type 0
IsWrittenTo lines thumb r = (h : IsWritten lines r) × (thumb ≡ states_after false h.says)

written_more : (lines : List Flat) (f : Flat) (s : Said) (thumb : Bool) (old new : Reading) → IsWrittenTo lines thumb old → SaysBy thumb f s → Keeps f s old new
    → IsWrittenTo (lines ++ f ∷ []) (state_after thumb s) new
written_more lines f s thumb old new h says k =
    let done = h.0.says in
    let next : state_after thumb s ≡ states_after false (done ++ (f, s) ∷ []) = ap (λ (b : Bool). state_after b s) h.1 ∙ sym (state_more false done f s) in (
      record {
        says = done ++ (f, s) ∷ [];
        say = say_more false lines done f s h.0.say (subst (λ (b : Bool). SaysBy b f s) h.1 says);
        statements = kept_more done f s old new k h.0.statements;
        unread = told_more done f s old new k h.0.unread;
        before = counts_more done f s old new k h.0.statements h.0.unread h.0.before;
      },
      next,
    )

pub written_next : (lines : List Flat) (i : ℕ) (f : Flat) (s : Said) (thumb next : Bool) (old new : Reading) → i < length lines → f ≡ get_or lines i f
    → IsWrittenTo (take i lines) thumb old → SaysBy thumb f s → next ≡ state_after thumb s → Keeps f s old new → IsWrittenTo (take (i + 1) lines) next new
written_next lines i f s thumb next old new less is h says e k =
    let number : i + 1 ≡ suc i = add-one i in
    let more : take i lines ++ f ∷ [] ≡ take (i + 1) lines =
    ap (λ (x : Flat). take i lines ++ x ∷ []) is ∙ sym (take-suc lines i f less) ∙ ap (λ (n : ℕ). take n lines) (sym number) in
    subst (λ (b : Bool). IsWrittenTo (take (i + 1) lines) b new) (sym e)
    (subst (λ (l : List Flat). IsWrittenTo l (state_after thumb s) new) more (written_more (take i lines) f s thumb old new h says k))
