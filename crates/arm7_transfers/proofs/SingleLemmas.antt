-- The same of a load, a store and the swap, by what each call of the code gave.
use Rattle.std.proofs.Common.{◌≡◌, ℕ, ◌%◌, ◌^◌, ◌<◌, Bool, true, false, not, ◌==◌, Err, refl, sym, ap, ◌∙◌, subst}
use Rattle.std.specs.Prelude.{◌&&◌}
use Rattle.sdt_word.specs.declared.codes.Width.{Width}
use Rattle.sdt_word.specs.Codes.{bytes_in}
use Rattle.arm7_model.specs.declared.state.ArmState.{ArmState}
use Rattle.arm7_model.specs.Accesses.{aligned}
use Rattle.arm7_model.specs.Registers.{operand_at, register, with_register, with_result, stored_at}
use Rattle.arm7_model.specs.Transfers.{loaded_value, transfer_address, transferred, with_base}
use Rattle.arm7_bus.specs.Buses.{after_read, after_write, has_whole}
use Rattle.arm7_bus.specs.States.{State}
use Rattle.arm7_transfers.specs.declared.outcome.Outcome.TheVariants as outcome
use Rattle.arm7_transfers.specs.Done.{Makes, Lacks, IsDone}
use Rattle.arm7_transfers.specs.declared.outcome.Outcome.{Outcome}
use Rattle.arm7_bus.specs.declared.memory.BusFault.{BusFault}
use Rattle.arm7_bus.specs.declared.memory.BusFault.TheVariants as fault
use Rattle.arm7_transfers.specs.Frames.{IsJudged, lacks_frame, may_be_stored}
use Rattle.arm7_transfers.proofs.AccessLemmas.{absent, lacking, protected}
use Rattle.arm7_transfers.specs.Ready.{IsReady}
use Rattle.arm7_transfers.specs.Served.{value_at}
use Rattle.arm7_transfers.proofs.DoneLemmas.{done-as, load_part, load-absent, load-odd, load-ran}
use Rattle.arm7_transfers.proofs.StoreParts.{store_part, store-refused, store-lacking, store-ran, swap_part, swap-refused, swap-lacking, swap-ran}

module _ (signed : Bool) (width : Width) (a rd : ℕ) (based : ArmState → ArmState) (core : ArmState) (s : State) (at : ℕ) where
  pub load_none : (s' : State) (held : Bool) → IsReady s → at ≡ aligned a (bytes_in width) → held ≡ has_whole s at (bytes_in width) → held ≡ false → s' ≡ s
      → Makes (load_part signed width a rd based) core s outcome.Aborted core s'
  load_none s' held r e h f after =
      subst (λ (x : State). Makes (load_part signed width a rd based) core s outcome.Aborted core x) (sym after)
      (load-absent signed width a rd based core s r (ap (λ (x : ℕ). has_whole s x (bytes_in width)) (sym e) ∙ sym h ∙ f))

  pub load_odd : (s' : State) (held odd : Bool) (found v : ℕ) → IsReady s → at ≡ aligned a (bytes_in width) → held ≡ has_whole s at (bytes_in width) → held ≡ true
      → found ≡ value_at s at width → v ≡ loaded_value signed width a found → odd ≡ (rd == 15 && not (v % 4 == 0)) → odd ≡ true
      → s' ≡ after_read s at width
      → Makes (load_part signed width a rd based) core s outcome.Unpredictable core s'
  load_odd s' held odd found v r e h f p q o t after =
      subst (λ (x : State). Makes (load_part signed width a rd based) core s outcome.Unpredictable core x)
      (ap (λ (x : ℕ). after_read s x width) (sym e) ∙ sym after)
      (load-odd signed width a rd based core s v r (ap (λ (x : ℕ). has_whole s x (bytes_in width)) (sym e) ∙ sym h ∙ f)
      (q ∙ ap (loaded_value signed width a) (p ∙ ap (λ (x : ℕ). value_at s x width) e)) (sym o ∙ t))

  pub load_ran : (core' : ArmState) (s' : State) (held odd : Bool) (found v : ℕ) → IsReady s → at ≡ aligned a (bytes_in width) → held ≡ has_whole s at (bytes_in width) → held ≡ true
      → found ≡ value_at s at width → v ≡ loaded_value signed width a found → odd ≡ (rd == 15 && not (v % 4 == 0)) → odd ≡ false
      → s' ≡ after_read s at width → core' ≡ with_result (based core) rd v
      → Makes (load_part signed width a rd based) core s outcome.Ran core' s'
  load_ran core' s' held odd found v r e h f p q o t after result =
      subst (λ (c : ArmState). Makes (load_part signed width a rd based) core s outcome.Ran c s') (sym result)
      (subst (λ (x : State). Makes (load_part signed width a rd based) core s outcome.Ran (with_result (based core) rd v) x)
      (ap (λ (x : ℕ). after_read s x width) (sym e) ∙ sym after)
      (load-ran signed width a rd based core s v r (ap (λ (x : ℕ). has_whole s x (bytes_in width)) (sym e) ∙ sym h ∙ f)
      (q ∙ ap (loaded_value signed width a) (p ∙ ap (λ (x : ℕ). value_at s x width) e)) (sym o ∙ t)))

module _ (width : Width) (a rd : ℕ) (based : ArmState → ArmState) (core : ArmState) (s : State) (at : ℕ) where
  pub store_refused : (s' : State) → IsReady s → at ≡ aligned a (bytes_in width) → may_be_stored s at (bytes_in width) ≡ false → s' ≡ s
      → Makes (store_part width a rd based) core s outcome.Aborted core s'
  store_refused s' r e f after =
      subst (λ (x : State). Makes (store_part width a rd based) core s outcome.Aborted core x) (sym after)
      (store-refused width a rd based core s r (ap (λ (x : ℕ). may_be_stored s x (bytes_in width)) (sym e) ∙ f))

  pub store_absent : (s' : State) (f : BusFault) → IsReady s → at ≡ aligned a (bytes_in width) → f ≡ fault.Absent → IsJudged s at (bytes_in width) (Err f) → s' ≡ s
      → Makes (store_part width a rd based) core s outcome.Aborted core s'
  store_absent s' f r e i j after = store_refused s' r e (absent s at (bytes_in width) f i j) after

  pub store_protected : (s' : State) (f : BusFault) → IsReady s → at ≡ aligned a (bytes_in width) → f ≡ fault.ReadOnly → IsJudged s at (bytes_in width) (Err f) → s' ≡ s
      → Makes (store_part width a rd based) core s outcome.Aborted core s'
  store_protected s' f r e i j after = store_refused s' r e (protected s at (bytes_in width) f i j) after

  pub store_lacking : (may lacks : Bool) → IsReady s → at < 2 ^ 32 → at ≡ aligned a (bytes_in width) → may ≡ may_be_stored s at (bytes_in width) → may ≡ true
      → lacks ≡ lacks_frame s at (bytes_in width) → lacks ≡ true
      → Lacks (store_part width a rd based) core s at
  store_lacking may lacks r lt e h f l t =
      subst (λ (x : ℕ). Lacks (store_part width a rd based) core s x) (sym e)
      (store-lacking width a rd based core s r (ap (λ (x : ℕ). may_be_stored s x (bytes_in width)) (sym e) ∙ sym h ∙ f)
      (ap (λ (x : ℕ). lacks_frame s x (bytes_in width)) (sym e) ∙ sym l ∙ t) (subst (λ (x : ℕ). x < 2 ^ 32) e lt))

  pub store_unframed : (x : ℕ) (f : BusFault) → IsReady s → at < 2 ^ 32 → at ≡ aligned a (bytes_in width) → f ≡ fault.NoFrame x → IsJudged s at (bytes_in width) (Err f)
      → Lacks (store_part width a rd based) core s at
  store_unframed x f r lt e i j =
      let both = lacking s at (bytes_in width) x f i j in
      store_lacking true true r lt e (sym both.0) refl (sym both.1) refl

  pub store_ran : (core' : ArmState) (s' : State) (may lacks : Bool) (v : ℕ) → IsReady s → at < 2 ^ 32 → at ≡ aligned a (bytes_in width) → may ≡ may_be_stored s at (bytes_in width) → may ≡ true
      → lacks ≡ lacks_frame s at (bytes_in width) → lacks ≡ false → v ≡ stored_at core rd
      → s' ≡ after_write s at width (v % 256 ^ bytes_in width) → core' ≡ based core
      → Makes (store_part width a rd based) core s outcome.Ran core' s'
  store_ran core' s' may lacks v r lt e h f l t value after result =
      subst (λ (c : ArmState). Makes (store_part width a rd based) core s outcome.Ran c s') (sym result)
      (subst (λ (x : State). Makes (store_part width a rd based) core s outcome.Ran (based core) x)
      (ap (λ (x : ℕ). after_write s x width (stored_at core rd % 256 ^ bytes_in width)) (sym e) ∙ ap (λ (x : ℕ). after_write s at width (x % 256 ^ bytes_in width)) (sym value) ∙ sym after)
      (store-ran width a rd based core s r (ap (λ (x : ℕ). may_be_stored s x (bytes_in width)) (sym e) ∙ sym h ∙ f)
      (ap (λ (x : ℕ). lacks_frame s x (bytes_in width)) (sym e) ∙ sym l ∙ t) (subst (λ (x : ℕ). x < 2 ^ 32) e lt)))

module _ (width : Width) (rn rd rm : ℕ) (core : ArmState) (s : State) (a at : ℕ) where
  pub swap_refused : (may : Bool) → IsReady s → a ≡ register core rn → at ≡ aligned a (bytes_in width) → may ≡ may_be_stored s at (bytes_in width) → may ≡ false
      → Makes (swap_part width rn rd rm) core s outcome.Aborted core s
  swap_refused may r b e h f =
      let e' : at ≡ aligned (register core rn) (bytes_in width) = e ∙ ap (λ (x : ℕ). aligned x (bytes_in width)) b in
      swap-refused width rn rd rm core s r (ap (λ (x : ℕ). may_be_stored s x (bytes_in width)) (sym e') ∙ sym h ∙ f)

  pub swap_lacking : (may lacks : Bool) → IsReady s → at < 2 ^ 32 → a ≡ register core rn → at ≡ aligned a (bytes_in width) → may ≡ may_be_stored s at (bytes_in width) → may ≡ true
      → lacks ≡ lacks_frame s at (bytes_in width) → lacks ≡ true
      → Lacks (swap_part width rn rd rm) core s at
  swap_lacking may lacks r lt b e h f l t =
      let e' : at ≡ aligned (register core rn) (bytes_in width) = e ∙ ap (λ (x : ℕ). aligned x (bytes_in width)) b in
      subst (λ (x : ℕ). Lacks (swap_part width rn rd rm) core s x) (sym e')
      (swap-lacking width rn rd rm core s r (ap (λ (x : ℕ). may_be_stored s x (bytes_in width)) (sym e') ∙ sym h ∙ f)
      (ap (λ (x : ℕ). lacks_frame s x (bytes_in width)) (sym e') ∙ sym l ∙ t) (subst (λ (x : ℕ). x < 2 ^ 32) e' lt))

  pub swap_ran : (core' : ArmState) (s' s'' : State) (may lacks : Bool) (found v w : ℕ) → IsReady s → at < 2 ^ 32 → a ≡ register core rn → at ≡ aligned a (bytes_in width) → may ≡ may_be_stored s at (bytes_in width) → may ≡ true
      → lacks ≡ lacks_frame s at (bytes_in width) → lacks ≡ false
      → found ≡ value_at s at width → v ≡ loaded_value false width a found → s' ≡ after_read s at width
      → w ≡ register core rm → s'' ≡ after_write s' at width (w % 256 ^ bytes_in width) → core' ≡ with_register core rd v
      → Makes (swap_part width rn rd rm) core s outcome.Ran core' s''
  swap_ran core' s' s'' may lacks found v w r lt b e h f l t p q read value after result =
      let e' : at ≡ aligned (register core rn) (bytes_in width) = e ∙ ap (λ (x : ℕ). aligned x (bytes_in width)) b in
      subst (λ (c : ArmState). Makes (swap_part width rn rd rm) core s outcome.Ran c s'') (sym result)
      (subst (λ (x : State). Makes (swap_part width rn rd rm) core s outcome.Ran (with_register core rd v) x)
      (ap (λ (x : ℕ). after_write (after_read s x width) x width (register core rm % 256 ^ bytes_in width)) (sym e')
      ∙ ap (λ (x : State). after_write x at width (register core rm % 256 ^ bytes_in width)) (sym read)
      ∙ ap (λ (x : ℕ). after_write s' at width (x % 256 ^ bytes_in width)) (sym value) ∙ sym after)
      (swap-ran width rn rd rm core s v r (ap (λ (x : ℕ). may_be_stored s x (bytes_in width)) (sym e') ∙ sym h ∙ f)
      (ap (λ (x : ℕ). lacks_frame s x (bytes_in width)) (sym e') ∙ sym l ∙ t) (subst (λ (x : ℕ). x < 2 ^ 32) e' lt)
      (q ∙ ap (loaded_value false width a) (p ∙ ap (λ (x : ℕ). value_at s x width) e') ∙ ap (λ (x : ℕ). loaded_value false width x (value_at s (aligned (register core rn) (bytes_in width)) width)) b)))

-- a load or a store with an offset
pub transfer_load : (load signed pre up write_back : Bool) (width : Width) (rn rd offset : ℕ) (core core' : ArmState) (s s' : State) (o : Outcome) (b a : ℕ)
    → load ≡ true → b ≡ operand_at core rn → a ≡ transfer_address pre up b offset
    → IsDone (load_part signed width a rd (with_base pre up write_back rn offset)) core s o core' s'
    → IsDone (λ u w. transferred u load signed pre up write_back width rn rd offset w) core s o core' s'
unfolding transferred
transfer_load load signed pre up write_back width rn rd offset core core' s s' o b a l e f d =
    done-as (load_part signed width a rd (with_base pre up write_back rn offset)) (λ u w. transferred u load signed pre up write_back width rn rd offset w) core s o core' s'
    (λ u later before. rw (l, f, e) refl) d

pub transfer_store : (load signed pre up write_back : Bool) (width : Width) (rn rd offset : ℕ) (core core' : ArmState) (s s' : State) (o : Outcome) (b a : ℕ)
    → load ≡ false → b ≡ operand_at core rn → a ≡ transfer_address pre up b offset
    → IsDone (store_part width a rd (with_base pre up write_back rn offset)) core s o core' s'
    → IsDone (λ u w. transferred u load signed pre up write_back width rn rd offset w) core s o core' s'
unfolding transferred
transfer_store load signed pre up write_back width rn rd offset core core' s s' o b a l e f d =
    done-as (store_part width a rd (with_base pre up write_back rn offset)) (λ u w. transferred u load signed pre up write_back width rn rd offset w) core s o core' s'
    (λ u later before. rw (l, f, e) refl) d
