-- Reading entries one after the other, as a loop does.
use Rattle.std.proofs.Common.{◌≡◌, ℕ, zero, suc, ◌+◌, ◌≤◌, ◌<◌, Bool, true, false, ltb, List, [], ◌∷◌, ◌++◌, length, take, drop, Option, Result, Ok, Err, refl, sym, ap, ◌∙◌, arith}
use Rattle.std.proofs.lemmas.Bool.{lt-ltb, le-ltb}
use Rattle.sdt_fault.specs.declared.answer.Fault.{Fault}
use Rattle.sdt_fault.specs.declared.refusal.Refusal.{Refusal}
use Rattle.chunk_file.specs.declared.records.Span.{Span}
use Rattle.chunk_file.specs.Reading.{◌>>=◌, Gives}
use Rattle.chunk_file.proofs.Loops.{fails}
use Rattle.alf_archive.specs.declared.records.Member.{Member}
use Rattle.alf_archive.specs.declared.entries.Slot.{Slot}
use Rattle.alf_archive.specs.Archives.{slot_at, with_entry, members_from, member_names, Adds}
use Rattle.std.specs.Prelude.{is_some, ◌||◌}
use Rattle.std.specs.Str.{bytes_eq}
use Rattle.std.proofs.lemmas.List.{map_push}
use Rattle.sdt_fault.specs.declared.answer.Fault.TheVariants as fault
use Rattle.aof_object.specs.Names.{among}
use Rattle.aof_object.specs.Index.{Numbers, number_in, or_number}
use Rattle.aof_object.proofs.NamesLemmas.{among-push}
use Rattle.aof_object.proofs.ValidLaw.{some_or}

-- what is left to read from an offset on gives the whole, with turns enough
pub record Left (b : List ℕ) (spans : List (Option Span)) (start : ℕ) (dir : List ℕ) (at : ℕ) (before : List Member) (whole : Result (List Member) Refusal) : Type 0 where
  pub turns : ℕ
  pub enough : length dir ≤ at + turns
  pub gives : members_from b spans start dir turns at before ≡ whole

module _ (b : List ℕ) (spans : List (Option Span)) (start : ℕ) (dir : List ℕ) (at : ℕ) (before : List Member) (whole : Result (List Member) Refusal) where
  abbrev rest : ℕ → Slot → List Member → Result (List Member) Refusal
  rest n s ms = members_from b spans start dir n (at + s.length) ms

  abbrev turn : ℕ → Result (List Member) Refusal
  turn n = slot_at start dir at >>= λ s. with_entry b spans (start + at) (take s.size (drop (at + 12) dir)) before s >>= λ ms. rest n s ms

  opened : (n : ℕ) → at < length dir → members_from b spans start dir (suc n) at before ≡ turn n
  opened n lt = let t : ltb at (length dir) ≡ true = lt-ltb at (length dir) lt in rw t refl

  left_at : (n : ℕ) → at < length dir → length dir ≤ at + n → members_from b spans start dir n at before ≡ whole → (m : ℕ) × (n ≡ suc m) × (turn m ≡ whole)
  left_at zero lt enough gives = absurd (omega arith)
  left_at (suc m) lt enough gives = (m, refl, sym (opened m lt) ∙ gives)

  pub slot_fails : (e : Fault) → at < length dir → Left b spans start dir at before whole → Gives (Err e) (slot_at start dir at) → Gives (Err e) whole
  slot_fails e lt l h = let t = left_at l.turns lt l.enough l.gives in fails e (slot_at start dir at) _ whole h t.2

  pub entry_fails : (e : Fault) (s : Slot) → at < length dir → Left b spans start dir at before whole → slot_at start dir at ≡ Ok s
      → Gives (Err e) (with_entry b spans (start + at) (take s.size (drop (at + 12) dir)) before s) → Gives (Err e) whole
  entry_fails e s lt l read h =
      let t = left_at l.turns lt l.enough l.gives in
      let inner : (with_entry b spans (start + at) (take s.size (drop (at + 12) dir)) before s >>= λ ms. rest t.0 s ms) ≡ whole = rw read at t.2 in
      fails e (with_entry b spans (start + at) (take s.size (drop (at + 12) dir)) before s) (λ ms. rest t.0 s ms) whole h inner

  pub goes_on : (s : Slot) (after : List Member) → at < length dir → Left b spans start dir at before whole → slot_at start dir at ≡ Ok s → 12 ≤ s.length
      → with_entry b spans (start + at) (take s.size (drop (at + 12) dir)) before s ≡ Ok after → Left b spans start dir (at + s.length) after whole
  goes_on s after lt l read long entry =
      let t = left_at l.turns lt l.enough l.gives in
      let inner : (with_entry b spans (start + at) (take s.size (drop (at + 12) dir)) before s >>= λ ms. rest t.0 s ms) ≡ whole = rw read at t.2 in
      let last : rest t.0 s after ≡ whole = rw entry at inner in
      let n = t.1 in
      let enough = l.enough in
      record { turns = t.0; enough = omega (arith, n, enough, long); gives = last }

  pub is_done : length dir ≤ at → Left b spans start dir at before whole → whole ≡ Ok before
  is_done le l = by l.turns l.gives
    where
      by : (n : ℕ) → members_from b spans start dir n at before ≡ whole → whole ≡ Ok before
      by zero h = sym h
      by (suc n) h = let t : ltb at (length dir) ≡ false = le-ltb at (length dir) le in sym h ∙ rw t refl

-- ---- what was added, and the names that are taken

pub adds_fails : (e : Fault) (after : List Member) (read : Result (List Member) Refusal) → Adds (Err e) after read → Gives (Err e) read
adds_fails fault.NoMemory after read h = tt
adds_fails (fault.Refused r) after read h = h
adds_fails (fault.ReadFault name) after read h = h

pub names_more : (m n : Numbers) (ms : List Member) (x : Member) (k : ℕ) → ((q : List ℕ) → is_some (number_in m q) ≡ among q (member_names ms))
    → ((q : List ℕ) → number_in n q ≡ or_number (number_in m q) x.name k q) → (q : List ℕ) → is_some (number_in n q) ≡ among q (member_names (ms ++ x ∷ []))
names_more m n ms x k known new q =
    let names : member_names (ms ++ x ∷ []) ≡ member_names ms ++ x.name ∷ [] = map_push (λ (y : Member). y.name) ms x in
    ap (λ (o : Option ℕ). is_some o) (new q) ∙ some_or (number_in m q) x.name q k ∙ ap (λ (b : Bool). b || bytes_eq x.name q) (known q) ∙ sym (among-push q (member_names ms) x.name) ∙ sym (ap (among q) names)
