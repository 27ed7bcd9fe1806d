-- Loads and stores of one register, the swap and software interrupts, beside.
use Rattle.std.proofs.Common.{◌≡◌, ◌≢◌, ℕ, ◌%◌, ◌^◌, ◌==◌, Bool, true, false, not, List, [], ◌∷◌, ◌++◌, refl, ap, ◌∙◌, arith, if◌then◌else◌}
use Rattle.std.specs.Prelude.{◌&&◌}
use Rattle.std.specs.List.{AllByRecursion}
use Rattle.sdt_word.specs.Codes.{bytes_in}
use Rattle.sdt_word.specs.declared.codes.Width.{Width}
use Rattle.arm7_model.specs.declared.state.ArmState.{ArmState}
use Rattle.arm7_model.specs.declared.event.Exception.TheVariants as exception
use Rattle.arm7_model.specs.Accesses.{Load, Store, Working, after_load, after_store, aligned, read_at}
use Rattle.arm7_model.specs.Branches.{interrupted, is_host}
use Rattle.arm7_model.specs.Memory.{is_there, may_store}
use Rattle.arm7_model.specs.Outcomes.{Under, aborted, given_back, hosted, raised, ran}
use Rattle.arm7_model.specs.Registers.{bank_in, operand_at, register, stored_at, with_register, with_result}
use Rattle.arm7_model.specs.Transfers.{load_end, loaded, loaded_value, moved_by, stored, swapped, transfer_address, transferred, with_base, writes_back}
use Rattle.kit_laws.specs.Beside.{Scratch, beside_step, beside_under, besides, with_irq}
use Rattle.kit_laws.specs.Rules.{IsOwn}
use Rattle.kit_laws.proofs.BesideMemory.{load-beside, plain-memory, plain-store, read-beside, store-beside}
use Rattle.kit_laws.proofs.BesideRegisters.{aborted-beside, irq-with_result, raised-beside}
use Rattle.kit_laws.proofs.BesideBlocks.{all-behind}

irq-with_base : (k : Scratch) (pre up write_back : Bool) (rn offset : ℕ) (s : ArmState) → with_base pre up write_back rn offset (with_irq k s) ≡ with_irq k (with_base pre up write_back rn offset s)
unfolding with_base with_irq with_register operand_at register
irq-with_base k pre up write_back rn offset s = go (writes_back pre write_back)
  where
    go : (c : Bool) → (if c then with_irq k (with_register s rn (moved_by up (operand_at s rn) offset)) else with_irq k s)
        ≡ with_irq k (if c then with_register s rn (moved_by up (operand_at s rn) offset) else s)
    go true = refl
    go false = refl

module _ (work : ℕ) (k : Scratch) (answers : List ℕ) (u : Under) (w : Working) (before : bank_in u.before.core.cpsr ≢ 2) where
  load_end-beside : (rd v : ℕ) (x : Working) → load_end (beside_under work k u) rd v (besides work k answers x) ≡ beside_step work k (load_end u rd v x)
  unfolding load_end given_back ran
  load_end-beside rd v x = go (rd == 15 && not (v % 4 == 0))
    where
      go : (c : Bool) → (if c then given_back (beside_under work k u) (besides work k answers x) else ran (record (besides work k answers x) { core = with_result (with_irq k x.core) rd v }))
          ≡ beside_step work k (if c then given_back u x else ran (record x { core = with_result x.core rd v }))
      go true = refl
      go false = ap (λ (c : ArmState). ran (record (besides work k answers x) { core = c })) (irq-with_result k x.core rd v)

  load_end-accesses : (rd v : ℕ) (x : Working) → (load_end u rd v x).accesses ≡ x.accesses
  unfolding load_end given_back ran
  load_end-accesses rd v x = go (rd == 15 && not (v % 4 == 0))
    where
      go : (c : Bool) → (if c then given_back u x else ran (record x { core = with_result x.core rd v })).accesses ≡ x.accesses
      go true = refl
      go false = refl

  pub loaded-beside : (signed : Bool) (width : Width) (a rd : ℕ) (core : ArmState)
      → AllByRecursion (IsOwn u.board work) (loaded u signed width a rd core w).accesses
      → loaded (beside_under work k u) signed width a rd (with_irq k core) (besides work k answers w) ≡ beside_step work k (loaded u signed width a rd core w)
  unfolding loaded after_load
  loaded-beside signed width a rd core = go (is_there u.board at (bytes_in width)) refl
    where
      at : ℕ
      at = aligned a (bytes_in width)

      got : Working
      got = record (after_load u.board w at width) { core = core }

      value : ℕ
      value = loaded_value signed width a (read_at u.board w at width)

      go : (c : Bool) → is_there u.board at (bytes_in width) ≡ c
          → AllByRecursion (IsOwn u.board work) (if c then load_end u rd value got else aborted u w).accesses
          → (if c then load_end (beside_under work k u) rd (loaded_value signed width a (read_at u.board (besides work k answers w) at width))
          (record (after_load u.board (besides work k answers w) at width) { core = with_irq k core })
          else aborted (beside_under work k u) (besides work k answers w))
          ≡ beside_step work k (if c then load_end u rd value got else aborted u w)
      go true there own =
          let loads = all-behind (IsOwn u.board work) w.accesses (Load at width ∷ []) (rw (load_end-accesses rd value got) at own) in
          let inside = plain-memory u.board work at width loads.0 there in
          ap (λ (v : ℕ). load_end (beside_under work k u) rd (loaded_value signed width a v) (record (after_load u.board (besides work k answers w) at width) { core = with_irq k core }))
          (read-beside u.board work k answers w at width loads.0 inside)
          ∙ ap (λ (x : Working). load_end (beside_under work k u) rd value (record x { core = with_irq k core })) (load-beside u.board work k answers w at width inside)
          ∙ load_end-beside rd value got
      go false there own = aborted-beside work k answers u w before

  stored-beside : (width : Width) (a rd : ℕ) (core : ArmState)
      → AllByRecursion (IsOwn u.board work) (stored u width a rd core w).accesses
      → stored (beside_under work k u) width a rd (with_irq k core) (besides work k answers w) ≡ beside_step work k (stored u width a rd core w)
  unfolding stored stored_at register with_irq after_store ran
  stored-beside width a rd core = go (may_store u.board at (bytes_in width)) refl
    where
      at : ℕ
      at = aligned a (bytes_in width)

      go : (c : Bool) → may_store u.board at (bytes_in width) ≡ c
          → AllByRecursion (IsOwn u.board work) (if c then ran (record (after_store u.board w at width (stored_at w.core rd)) { core = core }) else aborted u w).accesses
          → (if c then ran (record (after_store u.board (besides work k answers w) at width (stored_at w.core rd)) { core = with_irq k core })
          else aborted (beside_under work k u) (besides work k answers w))
          ≡ beside_step work k (if c then ran (record (after_store u.board w at width (stored_at w.core rd)) { core = core }) else aborted u w)
      go true may own =
          let stores = all-behind (IsOwn u.board work) w.accesses (Store at width (stored_at w.core rd % 256 ^ bytes_in width) ∷ []) own in
          let inside = plain-store u.board work at width stores.0.0 may in
          ap (λ (x : Working). ran (record x { core = with_irq k core })) (store-beside u.board work k answers w at width (stored_at w.core rd) stores.0.0 inside)
      go false may own = aborted-beside work k answers u w before

  pub transferred-beside : (load signed pre up write_back : Bool) (width : Width) (rn rd offset : ℕ)
      → AllByRecursion (IsOwn u.board work) (transferred u load signed pre up write_back width rn rd offset w).accesses
      → transferred (beside_under work k u) load signed pre up write_back width rn rd offset (besides work k answers w)
      ≡ beside_step work k (transferred u load signed pre up write_back width rn rd offset w)
  unfolding transferred operand_at register with_irq
  transferred-beside true signed pre up write_back width rn rd offset own =
      let a = transfer_address pre up (operand_at w.core rn) offset in
      ap (λ (c : ArmState). loaded (beside_under work k u) signed width a rd c (besides work k answers w)) (irq-with_base k pre up write_back rn offset w.core)
      ∙ loaded-beside signed width a rd (with_base pre up write_back rn offset w.core) own
  transferred-beside false signed pre up write_back width rn rd offset own =
      let a = transfer_address pre up (operand_at w.core rn) offset in
      ap (λ (c : ArmState). stored (beside_under work k u) width a rd c (besides work k answers w)) (irq-with_base k pre up write_back rn offset w.core)
      ∙ stored-beside width a rd (with_base pre up write_back rn offset w.core) own

  pub swapped-beside : (width : Width) (rn rd rm : ℕ)
      → AllByRecursion (IsOwn u.board work) (swapped u width rn rd rm w).accesses
      → swapped (beside_under work k u) width rn rd rm (besides work k answers w) ≡ beside_step work k (swapped u width rn rd rm w)
  unfolding swapped register with_irq with_register after_store after_load ran
  swapped-beside width rn rd rm = go (may_store u.board at (bytes_in width)) refl
    where
      a : ℕ
      a = register w.core rn

      at : ℕ
      at = aligned a (bytes_in width)

      read : Working → ℕ
      read x = loaded_value false width a (read_at u.board x at width)

      both : Working → Working
      both x = after_store u.board (after_load u.board x at width) at width (register w.core rm)

      go : (c : Bool) → may_store u.board at (bytes_in width) ≡ c
          → AllByRecursion (IsOwn u.board work) (if c then ran (record (both w) { core = with_register w.core rd (read w) }) else aborted u w).accesses
          → (if c then ran (record (both (besides work k answers w)) { core = with_irq k (with_register w.core rd (read (besides work k answers w))) })
          else aborted (beside_under work k u) (besides work k answers w))
          ≡ beside_step work k (if c then ran (record (both w) { core = with_register w.core rd (read w) }) else aborted u w)
      go true may own =
          let stores = all-behind (IsOwn u.board work) (w.accesses ++ Load at width ∷ []) (Store at width (register w.core rm % 256 ^ bytes_in width) ∷ []) own in
          let inside = plain-store u.board work at width stores.0.0 may in
          ap (λ (v : ℕ). ran (record (both (besides work k answers w)) { core = with_irq k (with_register w.core rd (loaded_value false width a v)) })) (read-beside u.board work k answers w at width stores.0.0 inside)
          ∙ ap (λ (x : Working). ran (record x { core = with_irq k (with_register w.core rd (read w)) }))
          (ap (λ (x : Working). after_store u.board x at width (register w.core rm)) (load-beside u.board work k answers w at width inside)
          ∙ store-beside u.board work k answers (after_load u.board w at width) at width (register w.core rm) stores.0.0 inside)
      go false may own = aborted-beside work k answers u w before

  pub interrupted-beside : (n : ℕ) → bank_in w.core.cpsr ≢ 2 → interrupted n (besides work k answers w) ≡ beside_step work k (interrupted n w)
  unfolding interrupted hosted
  interrupted-beside n mode = go (is_host n)
    where
      go : (c : Bool) → (if c then hosted n (besides work k answers w) else raised exception.SoftwareInterrupt (besides work k answers w))
          ≡ beside_step work k (if c then hosted n w else raised exception.SoftwareInterrupt w)
      go true = refl
      go false = raised-beside work k answers exception.SoftwareInterrupt w mode (omega arith)
