-- One access: what the bus answers to it is what the machine asks before it is made.
use Rattle.std.proofs.Common.{◌≡◌, ℕ, ◌+◌, ◌-◌, ◌%◌, ◌==◌, Bool, true, false, List, [], ◌∷◌, Option, Some, None, is_some, Result, Ok, Err, cond, refl, sym, ap, ◌∙◌, subst, arith}
use Rattle.std.proofs.lemmas.Bool.Decides.{nat_tests}
use Rattle.std.specs.Prelude.{nat_lt, option_map, OnErr}
use Rattle.sdt_word.specs.declared.codes.Width.{Width}
use Rattle.sdt_word.specs.Codes.{bytes_in}
use Rattle.sdt_word.specs.Bytes.{load, number_of}
use Rattle.arm7_bus.specs.declared.memory.BusFault.{BusFault}
use Rattle.arm7_bus.specs.declared.memory.BusFault.TheVariants as fault
use Rattle.arm7_bus.specs.Buses.{after_read, after_write, has_whole, read_answer, write_fault}
use Rattle.arm7_bus.specs.Paging.{page_used_in, used_count}
use Rattle.arm7_bus.specs.Seats.{Seat, changed_at, device_at, has_access, seat_answer, seat_read}
use Rattle.arm7_bus.specs.States.{State, Contents, after_store, bank_has, is_protected, store_answer, store_fault, store_leaves}
use Rattle.arm7_bus.proofs.LookupLemmas.{bytes_decide, unprotected}
use Rattle.arm7_transfers.specs.Frames.{IsJudged, lacks_frame, may_be_stored}
use Rattle.arm7_transfers.specs.Ready.{IsReady}
use Rattle.arm7_transfers.proofs.BoardLemmas.{seat-whole, some-bytes}

-- ---- a read

some_mapped : (f : Seat → ℕ) (o : Option Seat) → is_some (option_map f o) ≡ is_some o
some_mapped f None = refl
some_mapped f (Some d) = refl

there_by : (b : Bool) (x : ℕ) (f : Seat → ℕ) (o : Option Seat) → is_some (cond b (Some x) (option_map f o)) ≡ cond b true (is_some o)
there_by true x f o = refl
there_by false x f o = some_mapped f o

pub answer_there : (s t : State) (a : ℕ) (width : Width) (o : Option ℕ) → o ≡ read_answer s a width → t ≡ after_read s a width → is_some o ≡ has_whole s a (bytes_in width)
answer_there s t a width o e after =
    ap is_some e ∙ there_by (bank_has s.contents.banks a (bytes_in width)) (number_of (load s.contents.memory a (bytes_in width))) (seat_answer a width) (device_at s.devices a (bytes_in width))

pub unchanged : (change : Seat → Seat) (a n : ℕ) (ds : List Seat) → device_at ds a n ≡ None → changed_at change a n ds ≡ ds
unchanged change a n [] e = refl
unchanged change a n (d ∷ ds) e = go (has_access d.base d.size a n) refl (unchanged change a n ds)
  where
    go : (b : Bool) → has_access d.base d.size a n ≡ b → (device_at ds a n ≡ None → changed_at change a n ds ≡ ds) → changed_at change a n (d ∷ ds) ≡ d ∷ ds
    go true f rest = absurd (let x = rw f at e in cc)
    go false f rest = rw f (ap (λ (xs : List Seat). d ∷ xs) (rest (rw f at e)))

none_mapped : (f : Seat → ℕ) (o : Option Seat) → option_map f o ≡ None → o ≡ None
none_mapped f None e = refl
none_mapped f (Some d) e = absurd (cc)

pub absent_left : (s t : State) (a : ℕ) (width : Width) (o : Option ℕ) → o ≡ read_answer s a width → t ≡ after_read s a width → o ≡ None → t ≡ s
absent_left s t a width o e after none = after ∙ go (bank_has s.contents.banks a (bytes_in width)) refl where
  go : (b : Bool) → bank_has s.contents.banks a (bytes_in width) ≡ b → after_read s a width ≡ s
  go true f = rw f refl
  go false f =
      let x : option_map (seat_answer a width) (device_at s.devices a (bytes_in width)) ≡ None = rw f at (sym e ∙ none) in
      rw f (ap (λ (ds : List Seat). record s { devices = ds }) (unchanged seat_read a (bytes_in width) s.devices (none_mapped (seat_answer a width) (device_at s.devices a (bytes_in width)) x)))

-- ---- a store

-- a device's access has no byte that a bank protects
seat_free : (s : State) (a : ℕ) (width : Width) → IsReady s → a % bytes_in width ≡ 0 → is_some (device_at s.devices a (bytes_in width)) ≡ true
    → is_protected s.contents.banks a (bytes_in width) ≡ false
seat_free s a width r h e =
    bytes_decide s.contents.banks a (bytes_in width) false (some-bytes width)
    (λ x low high.
    let k : a + (x - a) ≡ x = omega arith in
    unprotected s.contents.banks x (r.laid_out.apart x (rw k at (seat-whole s.devices a (x - a) width r.laid_out.devices h (omega arith) ∙ e))))

lt_left : (n m : ℕ) → nat_lt n m ≡ true → (m - n == 0) ≡ false
lt_left n m e = grind (arith, nat_tests)

lt_none : (n m : ℕ) → nat_lt n m ≡ false → (m - n == 0) ≡ true
lt_none n m e = grind (arith, nat_tests)

pub judged : (s : State) (a : ℕ) (width : Width) (o : Result Unit BusFault) → IsReady s → a % bytes_in width ≡ 0
    → o ≡ store_answer (write_fault s a (bytes_in width)) → IsJudged s a (bytes_in width) o
judged s a width o r h e =
    subst (λ (x : Result Unit BusFault). IsJudged s a (bytes_in width) x) (sym e)
    (go (bank_has s.contents.banks a (bytes_in width)) refl (is_protected s.contents.banks a (bytes_in width)) refl
    (page_used_in s.contents.used a) refl (nat_lt (used_count s.contents.used) s.contents.frames) refl
    (is_some (device_at s.devices a (bytes_in width))) refl)
  where
    go : (b : Bool) → bank_has s.contents.banks a (bytes_in width) ≡ b → (p : Bool) → is_protected s.contents.banks a (bytes_in width) ≡ p
        → (u : Bool) → page_used_in s.contents.used a ≡ u → (l : Bool) → nat_lt (used_count s.contents.used) s.contents.frames ≡ l
        → (d : Bool) → is_some (device_at s.devices a (bytes_in width)) ≡ d
        → IsJudged s a (bytes_in width) (store_answer (write_fault s a (bytes_in width)))
    go true e1 true e2 u e3 l e4 d e5 = rw (e1, e2) (rw (e1, e2) refl)
    go true e1 false e2 true e3 l e4 d e5 = rw (e1, e2, e3) (rw (e1, e2) refl, rw (e1, e3) refl)
    go true e1 false e2 false e3 true e4 d e5 =
        rw (e1, e2, e3, e4) (rw (e1, e2) refl, rw (e1, e3, lt_left (used_count s.contents.used) s.contents.frames e4) refl)
    go true e1 false e2 false e3 false e4 d e5 =
        rw (e1, e2, e3, e4) (rw (e1, e2) refl, rw (e1, e3, lt_none (used_count s.contents.used) s.contents.frames e4) refl)
    go false e1 p e2 u e3 l e4 true e5 = rw (e1, e5) (rw (e1, e5, seat_free s a width r h e5) refl, rw e1 refl)
    go false e1 p e2 u e3 l e4 false e5 = rw (e1, e5) (rw (e1, e5) refl)

refused_left : (s t : State) (a : ℕ) (width : Width) (v : ℕ) (f : BusFault) → t ≡ after_write s a width v → Err f ≡ store_answer (write_fault s a (bytes_in width)) → t ≡ s
refused_left s t a width v f after e = after ∙ go (bank_has s.contents.banks a (bytes_in width)) refl (is_some (device_at s.devices a (bytes_in width))) refl where
  kept : (x : Option BusFault) → Err f ≡ store_answer x → (c : Contents) → store_leaves x s.contents c ≡ s.contents
  kept None g c = absurd (cc)
  kept (Some y) g c = refl

  go : (b : Bool) → bank_has s.contents.banks a (bytes_in width) ≡ b → (d : Bool) → is_some (device_at s.devices a (bytes_in width)) ≡ d → after_write s a width v ≡ s
  go true f d g = rw f (ap (λ (c : Contents). record s { contents = c }) (kept (store_fault s.contents a (bytes_in width)) (rw f at e) (after_store s.contents a width v)))
  go false f true g = absurd (let x = rw (f, g) at e in cc)
  go false f false g = rw (f, g) refl

pub refused : (s t : State) (a : ℕ) (width : Width) (v : ℕ) (o : Result Unit BusFault) → t ≡ after_write s a width v → o ≡ store_answer (write_fault s a (bytes_in width)) → OnErr o (t ≡ s)
refused s t a width v (Ok x) after e = tt
refused s t a width v (Err f) after e = refused_left s t a width v f after e

-- why a store was not made, by the fault
pub lacking : (s : State) (a n x : ℕ) (f : BusFault) → f ≡ fault.NoFrame x → IsJudged s a n (Err f) → (may_be_stored s a n ≡ true) × (lacks_frame s a n ≡ true)
lacking s a n x f e j = subst (λ (y : BusFault). IsJudged s a n (Err y)) e j

pub absent : (s : State) (a n : ℕ) (f : BusFault) → f ≡ fault.Absent → IsJudged s a n (Err f) → may_be_stored s a n ≡ false
absent s a n f e j = subst (λ (y : BusFault). IsJudged s a n (Err y)) e j

pub protected : (s : State) (a n : ℕ) (f : BusFault) → f ≡ fault.ReadOnly → IsJudged s a n (Err f) → may_be_stored s a n ≡ false
protected s a n f e j = subst (λ (y : BusFault). IsJudged s a n (Err y)) e j
