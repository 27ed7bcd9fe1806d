-- Reading the pieces of a text: where it stops, and with what.
use Rattle.std.proofs.Common.{◌≡◌, ◌∙◌, ℕ, ◌+◌, List, [], ◌∷◌, ◌++◌, length, Bool, true, false, cond, ◌==◌, Option, Some, None, Result, Ok, Err, option_map, refl, ap, sym, subst, arith, length-append, append-nil}
use Rattle.std.specs.List.{flat_map, slice_split, onto_first}
use Rattle.std.specs.Option.{option_map_or}
use Rattle.sdt_fault.specs.declared.answer.Fault.{Fault}
use Rattle.sdt_fault.specs.declared.answer.Fault.TheVariants as fault
use Rattle.sdt_fault.specs.declared.kinds.FileKind.TheVariants as kind
use Rattle.sdt_fault.specs.declared.refusal.Refusal.TheVariants.{BadImage}
use Rattle.bin_image.specs.declared.records.MapFile.{MapFile}
use Rattle.bin_image.specs.declared.reading.Stage.{Stage}
use Rattle.bin_image.specs.declared.reading.Stage.TheVariants.{Head, Loads, Regions, Entry, Bound, End, Done}
use Rattle.bin_image.specs.Fields.{◌>>=◌, cut}
use Rattle.bin_image.specs.Maps.{ended, map_text, IsValid}
use Rattle.bin_image.specs.Reading.{State, next, is_done, last, read, pieces_of, empty_map, shown, told, map_of, Gives}
use Rattle.bin_image.specs.declared.reading.Reader.{Reader}
use Rattle.bin_image.proofs.Cuts.{cut_is, pieces_at, pieces_none, pieces_of_lines}
use Rattle.bin_image.proofs.Steps.{steps, so_far, map_reached, map_plain, text_of_lines}
use Rattle.base_lemmas.proofs.BaseLemmas.{same}

read_line : (ls : List (List ℕ)) (l : List ℕ) (at : ℕ) (s : Stage) (m : MapFile) (x : List ℕ) (xs : List (List ℕ))
    → read at s m (l ∷ (ls ++ x ∷ xs)) ≡ option_map_or (λ u. read (at + (length l + 1)) u.0 u.1 (ls ++ x ∷ xs)) (next s m l) (Err at)
read_line [] l at s m x xs = refl
read_line (k ∷ ks) l at s m x xs = refl

-- lines that lead to a state are passed over
pub read_through : (ls : List (List ℕ)) (at : ℕ) (s : Stage) (m : MapFile) (x : List ℕ) (xs : List (List ℕ)) (t : State)
    → steps s m ls ≡ Some t → read at s m (ls ++ x ∷ xs) ≡ read (at + length (flat_map ended ls)) t.0 t.1 (x ∷ xs)
unfolding steps
read_through [] at s m x xs t h =
    let e : at ≡ at + length (flat_map ended []) = omega arith in
    ap (λ u. read at u.0 u.1 (x ∷ xs)) (same (s, m) t h) ∙ ap (λ n. read n t.0 t.1 (x ∷ xs)) e
read_through (l ∷ ls) at s m x xs t h =
    read_line ls l at s m x xs ∙ by_next (λ u k. read_through ls (at + (length l + 1)) u.0 u.1 x xs t k) (next s m l) h where
      by_next : ((u : State) → steps u.0 u.1 ls ≡ Some t → read (at + (length l + 1)) u.0 u.1 (ls ++ x ∷ xs) ≡ read (at + (length l + 1) + length (flat_map ended ls)) t.0 t.1 (x ∷ xs))
          → (o : Option State) → (o >>= λ u. steps u.0 u.1 ls) ≡ Some t
          → option_map_or (λ u. read (at + (length l + 1)) u.0 u.1 (ls ++ x ∷ xs)) o (Err at) ≡ read (at + length (flat_map ended (l ∷ ls))) t.0 t.1 (x ∷ xs)
      by_next more None k = absurd (cc)
      by_next more (Some u) k =
          let e : at + (length l + 1) + length (flat_map ended ls) ≡ at + length (flat_map ended (l ∷ ls)) = omega (arith, length-append (ended l) (flat_map ended ls), length-append l (10 ∷ [])) in
          more u k ∙ ap (λ n. read n t.0 t.1 (x ∷ xs)) e

-- lines of a text that is read lead to some state
pub reached_of : (ls : List (List ℕ)) (at : ℕ) (s : Stage) (m n : MapFile) (x : List ℕ) (xs : List (List ℕ)) → read at s m (ls ++ x ∷ xs) ≡ Ok n → (t : State) × (steps s m ls ≡ Some t)
unfolding steps
reached_of [] at s m n x xs h = ((s, m), refl)
reached_of (l ∷ ls) at s m n x xs h = by_next (λ u k. reached_of ls (at + (length l + 1)) u.0 u.1 n x xs k) (next s m l) (sym (read_line ls l at s m x xs) ∙ h) where
  by_next : ((u : State) → read (at + (length l + 1)) u.0 u.1 (ls ++ x ∷ xs) ≡ Ok n → (t : State) × (steps u.0 u.1 ls ≡ Some t))
      → (o : Option State) → option_map_or (λ u. read (at + (length l + 1)) u.0 u.1 (ls ++ x ∷ xs)) o (Err at) ≡ Ok n → (t : State) × ((o >>= λ u. steps u.0 u.1 ls) ≡ Some t)
  by_next more None k = absurd (cc)
  by_next more (Some u) k = more u k

-- the last piece, or a line that can't stand there
abbrev pub Stuck : State → List ℕ → List (List ℕ) → Type 0
Stuck t first [] = Unit {0}
Stuck t first (x ∷ xs) = next t.0 t.1 first ≡ None

pub record Stops (s : Stage) (m : MapFile) (ps : List (List ℕ)) : Type 0 where
  pub before : List (List ℕ)
  pub first : List ℕ
  pub others : List (List ℕ)
  pub state : State
  pub parts : ps ≡ before ++ first ∷ others
  pub reached : steps s m before ≡ Some state
  pub stuck : Stuck state first others

pub stops : (ps : List (List ℕ)) (p : List ℕ) (s : Stage) (m : MapFile) → Stops s m (p ∷ ps)
unfolding steps
stops [] p s m = record { before = []; first = p; others = []; state = (s, m); parts = refl; reached = refl; stuck = tt }
stops (q ∷ qs) p s m = by_next (λ u. stops qs q u.0 u.1) (next s m p) refl where
  by_next : ((u : State) → Stops u.0 u.1 (q ∷ qs)) → (o : Option State) → next s m p ≡ o → Stops s m (p ∷ q ∷ qs)
  by_next more None e = record { before = []; first = p; others = q ∷ qs; state = (s, m); parts = refl; reached = refl; stuck = e }
  by_next more (Some u) e =
      let r = more u in
      record {
        before = p ∷ r.before;
        first = r.first;
        others = r.others;
        state = r.state;
        parts = ap (λ ys. p ∷ ys) r.parts;
        reached = ap (λ o. o >>= λ v. steps v.0 v.1 r.before) e ∙ r.reached;
        stuck = r.stuck;
      }

-- a text has a first piece
pub split_some : (t : List ℕ) → (x : List ℕ) × (xs : List (List ℕ)) × (slice_split (λ b. b == 10) t ≡ x ∷ xs)
split_some [] = ([], [], refl)
split_some (c ∷ cs) = by_test (c == 10) (slice_split (λ b. b == 10) cs) where
  onto : (ps : List (List ℕ)) → (x : List ℕ) × (xs : List (List ℕ)) × (onto_first c ps ≡ x ∷ xs)
  onto [] = (c ∷ [], [], refl)
  onto (p ∷ ps) = (c ∷ p, ps, refl)

  by_test : (b : Bool) (ps : List (List ℕ)) → (x : List ℕ) × (xs : List (List ℕ)) × (cond b ([] ∷ ps) (onto_first c ps) ≡ x ∷ xs)
  by_test true ps = ([], ps, refl)
  by_test false ps = onto ps

pub done_is : (s : Stage) → is_done s ≡ true → s ≡ Done
done_is Head h = absurd (cc)
done_is Loads h = absurd (cc)
done_is Regions h = absurd (cc)
done_is Entry h = absurd (cc)
done_is Bound h = absurd (cc)
done_is End h = absurd (cc)
done_is Done h = refl

-- a valid map's text is read
pub map_read : (m : MapFile) → IsValid m → read 0 Head empty_map (pieces_of (map_text m)) ≡ Ok m
map_read m v =
    let p : pieces_of (map_text m) ≡ so_far Done m ++ [] ∷ [] =
    ap pieces_of (sym (text_of_lines m) ∙ sym (append-nil (flat_map ended (so_far Done m)))) ∙ pieces_of_lines (so_far Done m) [] (map_plain m v) in
    ap (read 0 Head empty_map) p ∙ read_through (so_far Done m) 0 Head empty_map [] [] (Done, m) (map_reached m v)

-- ---- one turn of the loop

at_line : (at : ℕ) (s : Stage) (m : MapFile) (rest line after : List ℕ) → cut 10 rest ≡ Some (line, after)
    → read at s m (pieces_of rest) ≡ option_map_or (λ u. read (at + (length line + 1)) u.0 u.1 (pieces_of after)) (next s m line) (Err at)
at_line at s m rest line after h =
    let i = cut_is 10 rest (line, after) h in
    let n = split_some after in
    ap (read at s m) (ap pieces_of i.whole ∙ pieces_at 10 line after i.first ∙ ap (λ ps. line ∷ ps) n.2)
    ∙ ap (λ ps. option_map_or (λ u. read (at + (length line + 1)) u.0 u.1 ps) (next s m line) (Err at)) (sym n.2)

-- nothing is left but the last piece
pub at_end : (b : List ℕ) (at : ℕ) (t : State) (rest : List ℕ) (r : Result MapFile Fault) → cut 10 rest ≡ None
    → read at t.0 t.1 (pieces_of rest) ≡ read 0 Head empty_map (pieces_of b) → Gives r (told (last at t.0 t.1 rest)) → Gives r (map_of b)
at_end b at t rest r h e g = subst (Gives r) (ap told (ap (read at t.0 t.1) (sym (pieces_none 10 rest h)) ∙ e)) g

-- the line can't stand there
pub at_stuck : (b : List ℕ) (at : ℕ) (t : State) (rest line after : List ℕ) (o : Option Reader) (d : Fault) → cut 10 rest ≡ Some (line, after)
    → read at t.0 t.1 (pieces_of rest) ≡ read 0 Head empty_map (pieces_of b) → o ≡ None → option_map shown o ≡ next t.0 t.1 line
    → d ≡ fault.Refused (BadImage [] at kind.Map) → Gives (Err d) (map_of b)
at_stuck b at t rest line after o d h e none n is =
    let stuck : next t.0 t.1 line ≡ None = sym n ∙ ap (option_map shown) none in
    let r = sym e ∙ at_line at t.0 t.1 rest line after h ∙ ap (λ u. option_map_or (λ u. read (at + (length line + 1)) u.0 u.1 (pieces_of after)) u (Err at)) stuck in
    let g : Gives (Err (fault.Refused (BadImage [] at kind.Map))) (map_of b) = ap told r in
    subst (λ f. Gives (Err f) (map_of b)) (sym is) g

-- the line is read
pub at_next : (b : List ℕ) (at : ℕ) (t : State) (rest line after : List ℕ) (o : Option Reader) (q : Reader) → cut 10 rest ≡ Some (line, after)
    → read at t.0 t.1 (pieces_of rest) ≡ read 0 Head empty_map (pieces_of b) → o ≡ Some q → option_map shown o ≡ next t.0 t.1 line
    → read (at + (length line + 1)) (shown q).0 (shown q).1 (pieces_of after) ≡ read 0 Head empty_map (pieces_of b)
at_next b at t rest line after o q h e some n =
    let went : next t.0 t.1 line ≡ Some (shown q) = sym n ∙ ap (option_map shown) some in
    sym (at_line at t.0 t.1 rest line after h ∙ ap (λ u. option_map_or (λ u. read (at + (length line + 1)) u.0 u.1 (pieces_of after)) u (Err at)) went) ∙ e
