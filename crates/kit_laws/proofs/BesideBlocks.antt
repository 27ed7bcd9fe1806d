-- Loads and stores of several registers, beside.
use Rattle.std.proofs.Common.{◌≡◌, ◌≢◌, ℕ, ◌%◌, ◌^◌, ◌==◌, Bool, true, false, not, List, [], ◌∷◌, ◌++◌, length, refl, sym, ap, subst, ◌∙◌, if◌then◌else◌, append-nil, append_assoc, cond}
use Rattle.std.specs.Prelude.{◌&&◌}
use Rattle.std.specs.List.{AllByRecursion}
use Rattle.base_lemmas.proofs.BaseLemmas.{first_of_both, second_of_both}
use Rattle.sdt_word.specs.Numbers.{registers}
use Rattle.sdt_word.specs.declared.codes.Width.TheVariants.{Word}
use Rattle.arm7_model.specs.declared.state.ArmState.{ArmState}
use Rattle.arm7_model.specs.Accesses.{Access, Load, Store, Working, after_load, after_store, aligned, next_word, read_at}
use Rattle.arm7_model.specs.Blocks.{all_may_store, all_there, block_end, block_loaded, block_moved, block_start, block_stored, give_all, listed_at, lists, take_all, take_end, with_block_base, with_listed, with_loaded_pc}
use Rattle.arm7_model.specs.Memory.{Board, is_there, may_store}
use Rattle.arm7_model.specs.Outcomes.{Under, aborted, given_back, ran}
use Rattle.arm7_model.specs.Registers.{bank_in, register}
use Rattle.kit_laws.specs.Beside.{Scratch, beside_step, beside_under, besides, with_irq}
use Rattle.kit_laws.specs.Rules.{IsOwn}
use Rattle.kit_laws.proofs.BesideMemory.{load-beside, plain-memory, plain-store, read-beside, store-beside}
use Rattle.kit_laws.proofs.BesideRegisters.{aborted-beside, block_base-cpsr, irq-block_base, irq-listed_at, irq-loaded_pc, irq-with_listed, listed-cpsr}

-- ---- the accesses of a block (these stand in run_laws' Added)

abbrev pub loads_of : List ℕ → ℕ → List Access
loads_of [] a = []
loads_of (k ∷ ks) a = Load a Word ∷ loads_of ks (next_word a)

abbrev pub stores_of : Bool → ArmState → List ℕ → ℕ → List Access
stores_of user core [] a = []
stores_of user core (k ∷ ks) a = Store a Word (listed_at user core k % 256 ^ 4) ∷ stores_of user core ks (next_word a)

take_end-accesses : (u : Under) (thumb user loads_pc : Bool) (w : Working) → (take_end u thumb user loads_pc w).accesses ≡ w.accesses
unfolding take_end given_back ran
take_end-accesses u thumb user false w = refl
take_end-accesses u thumb user true w = go (not thumb && (not user && not (register w.core 15 % 4 == 0))) (with_loaded_pc user w.core)
  where
    go : (b : Bool) (c : ArmState) → (cond b (given_back u w) (ran (record w { core = c }))).accesses ≡ w.accesses
    go true c = refl
    go false c = refl

take_all-accesses : (board : Board) (user : Bool) (ks : List ℕ) (a : ℕ) (w : Working) → (take_all board user ks a w).accesses ≡ w.accesses ++ loads_of ks a
unfolding after_load
take_all-accesses board user [] a w = sym (append-nil w.accesses)
take_all-accesses board user (k ∷ ks) a w =
    take_all-accesses board user ks (next_word a) (record (after_load board w a Word) { core = _ })
    ∙ append_assoc w.accesses (Load a Word ∷ []) (loads_of ks (next_word a))

give_all-accesses : (board : Board) (user : Bool) (from : ArmState) (ks : List ℕ) (a : ℕ) (w : Working)
    → (give_all board user from ks a w).accesses ≡ w.accesses ++ stores_of user from ks a
unfolding after_store
give_all-accesses board user from [] a w = sym (append-nil w.accesses)
give_all-accesses board user from (k ∷ ks) a w =
    give_all-accesses board user from ks (next_word a) (after_store board w a Word (listed_at user from k))
    ∙ append_assoc w.accesses (Store a Word (listed_at user from k % 256 ^ 4) ∷ []) (stores_of user from ks (next_word a))

take_all-cpsr : (board : Board) (user : Bool) (ks : List ℕ) (a : ℕ) (w : Working) → (take_all board user ks a w).core.cpsr ≡ w.core.cpsr
unfolding after_load
take_all-cpsr board user [] a w = refl
take_all-cpsr board user (k ∷ ks) a w =
    take_all-cpsr board user ks (next_word a) (record (after_load board w a Word) { core = with_listed user w.core k (read_at board w a Word) })
    ∙ listed-cpsr user w.core k (read_at board w a Word)

pub all-behind : (P : Access → Type 0) (xs ys : List Access) → AllByRecursion P (xs ++ ys) → AllByRecursion P ys
all-behind P [] ys h = h
all-behind P (x ∷ xs) ys h = all-behind P xs ys h.1

-- ---- all words

module _ (b : Board) (work : ℕ) (k : Scratch) (answers : List ℕ) where
  take-beside : (user : Bool) (ks : List ℕ) (a : ℕ) (w : Working) → all_there b ks a ≡ true → AllByRecursion (IsOwn b work) (loads_of ks a)
      → take_all b user ks a (besides work k answers w) ≡ besides work k answers (take_all b user ks a w)
  take-beside user [] a w there own = refl
  take-beside user (r ∷ ks) a w there own =
      let inside = plain-memory b work a Word own.0 (first_of_both (is_there b a 4) (all_there b ks (next_word a)) there) in
      ap (take_all b user ks (next_word a))
      (ap (λ (v : ℕ). record (after_load b (besides work k answers w) a Word) { core = with_listed user (with_irq k w.core) r v }) (read-beside b work k answers w a Word own.0 inside)
      ∙ ap (λ (c : ArmState). record (after_load b (besides work k answers w) a Word) { core = c }) (irq-with_listed k user w.core r (read_at b w a Word))
      ∙ ap (λ (x : Working). record x { core = with_irq k (with_listed user w.core r (read_at b w a Word)) }) (load-beside b work k answers w a Word inside))
      ∙ take-beside user ks (next_word a) (record (after_load b w a Word) { core = with_listed user w.core r (read_at b w a Word) })
      (second_of_both (is_there b a 4) (all_there b ks (next_word a)) there) own.1

  give-beside : (user : Bool) (from : ArmState) (ks : List ℕ) (a : ℕ) (w : Working) → all_may_store b ks a ≡ true → AllByRecursion (IsOwn b work) (stores_of user from ks a)
      → give_all b user (with_irq k from) ks a (besides work k answers w) ≡ besides work k answers (give_all b user from ks a w)
  give-beside user from [] a w may own = refl
  give-beside user from (r ∷ ks) a w may own =
      let inside = plain-store b work a Word own.0.0 (first_of_both (may_store b a 4) (all_may_store b ks (next_word a)) may) in
      ap (give_all b user (with_irq k from) ks (next_word a))
      (ap (after_store b (besides work k answers w) a Word) (irq-listed_at k user from r)
      ∙ store-beside b work k answers w a Word (listed_at user from r) own.0.0 inside)
      ∙ give-beside user from ks (next_word a) (after_store b w a Word (listed_at user from r))
      (second_of_both (may_store b a 4) (all_may_store b ks (next_word a)) may) own.1

-- ---- the rows

module _ (work : ℕ) (k : Scratch) (answers : List ℕ) (u : Under) (w : Working) (before : bank_in u.before.core.cpsr ≢ 2) (mode : bank_in w.core.cpsr ≢ 2) where
  take_end-beside : (thumb user loads_pc : Bool) (x : Working) → bank_in x.core.cpsr ≢ 2 → bank_in (take_end u thumb user loads_pc x).state.core.cpsr ≢ 2
      → take_end (beside_under work k u) thumb user loads_pc (besides work k answers x) ≡ beside_step work k (take_end u thumb user loads_pc x)
  unfolding take_end given_back ran register with_irq
  take_end-beside thumb user false x f t = refl
  take_end-beside thumb user true x f t = go (not thumb && (not user && not (register x.core 15 % 4 == 0))) t
    where
      go : (c : Bool) → bank_in (if c then given_back u x else ran (record x { core = with_loaded_pc user x.core })).state.core.cpsr ≢ 2
          → (if c then given_back (beside_under work k u) (besides work k answers x) else ran (record (besides work k answers x) { core = with_loaded_pc user (with_irq k x.core) }))
          ≡ beside_step work k (if c then given_back u x else ran (record x { core = with_loaded_pc user x.core }))
      go true t = refl
      go false t = ap (λ (c : ArmState). ran (record (besides work k answers x) { core = c })) (irq-loaded_pc k user x.core f t)

  base-beside : (write_back : Bool) (rn end : ℕ)
      → record (besides work k answers w) { core = with_block_base write_back rn end (with_irq k w.core) } ≡ besides work k answers (record w { core = with_block_base write_back rn end w.core })
  base-beside write_back rn end = ap (λ (c : ArmState). record (besides work k answers w) { core = c }) (irq-block_base k write_back rn end w.core)

  block_loaded-beside : (thumb user write_back : Bool) (ks : List ℕ) (a rn end : ℕ) (loads_pc : Bool)
      → AllByRecursion (IsOwn u.board work) (block_loaded u thumb user write_back ks a rn end loads_pc w).accesses
      → bank_in (block_loaded u thumb user write_back ks a rn end loads_pc w).state.core.cpsr ≢ 2
      → block_loaded (beside_under work k u) thumb user write_back ks a rn end loads_pc (besides work k answers w)
      ≡ beside_step work k (block_loaded u thumb user write_back ks a rn end loads_pc w)
  unfolding block_loaded
  block_loaded-beside thumb user write_back ks a rn end loads_pc = go (all_there u.board ks a) refl
    where
      based : Working
      based = record w { core = with_block_base write_back rn end w.core }

      all : Working → Working
      all x = take_all u.board (user && not loads_pc) ks a x

      go : (c : Bool) → all_there u.board ks a ≡ c
          → AllByRecursion (IsOwn u.board work) (if c then take_end u thumb user loads_pc (all based) else aborted u w).accesses
          → bank_in (if c then take_end u thumb user loads_pc (all based) else aborted u w).state.core.cpsr ≢ 2
          → (if c then take_end (beside_under work k u) thumb user loads_pc (all (record (besides work k answers w) { core = with_block_base write_back rn end (with_irq k w.core) }))
          else aborted (beside_under work k u) (besides work k answers w))
          ≡ beside_step work k (if c then take_end u thumb user loads_pc (all based) else aborted u w)
      go true there own t =
          let made = take_end-accesses u thumb user loads_pc (all based) ∙ take_all-accesses u.board (user && not loads_pc) ks a based in
          let loads = all-behind (IsOwn u.board work) w.accesses (loads_of ks a) (subst (AllByRecursion (IsOwn u.board work)) made own) in
          let status = take_all-cpsr u.board (user && not loads_pc) ks a based ∙ block_base-cpsr write_back rn end w.core in
          ap (λ (x : Working). take_end (beside_under work k u) thumb user loads_pc (all x)) (base-beside write_back rn end)
          ∙ ap (take_end (beside_under work k u) thumb user loads_pc) (take-beside u.board work k answers (user && not loads_pc) ks a based there loads)
          ∙ take_end-beside thumb user loads_pc (all based) (λ e. mode (ap bank_in (sym status) ∙ e)) t
      go false there own t = aborted-beside work k answers u w before

  block_stored-beside : (user write_back : Bool) (ks : List ℕ) (a rn end : ℕ)
      → AllByRecursion (IsOwn u.board work) (block_stored u user write_back ks a rn end w).accesses
      → block_stored (beside_under work k u) user write_back ks a rn end (besides work k answers w) ≡ beside_step work k (block_stored u user write_back ks a rn end w)
  unfolding block_stored ran
  block_stored-beside user write_back ks a rn end = go (all_may_store u.board ks a) refl
    where
      based : Working
      based = record w { core = with_block_base write_back rn end w.core }

      go : (c : Bool) → all_may_store u.board ks a ≡ c
          → AllByRecursion (IsOwn u.board work) (if c then ran (give_all u.board user w.core ks a based) else aborted u w).accesses
          → (if c then ran (give_all u.board user (with_irq k w.core) ks a (record (besides work k answers w) { core = with_block_base write_back rn end (with_irq k w.core) }))
          else aborted (beside_under work k u) (besides work k answers w))
          ≡ beside_step work k (if c then ran (give_all u.board user w.core ks a based) else aborted u w)
      go true may own =
          let stores = all-behind (IsOwn u.board work) w.accesses (stores_of user w.core ks a)
          (subst (AllByRecursion (IsOwn u.board work)) (give_all-accesses u.board user w.core ks a based) own) in
          ap (λ (x : Working). ran (give_all u.board user (with_irq k w.core) ks a x)) (base-beside write_back rn end)
          ∙ ap ran (give-beside u.board work k answers user w.core ks a based may stores)
      go false may own = aborted-beside work k answers u w before

  pub block-beside : (thumb load pre up user write_back : Bool) (rn list : ℕ)
      → AllByRecursion (IsOwn u.board work) (block_moved u thumb load pre up user write_back rn list w).accesses
      → bank_in (block_moved u thumb load pre up user write_back rn list w).state.core.cpsr ≢ 2
      → block_moved (beside_under work k u) thumb load pre up user write_back rn list (besides work k answers w)
      ≡ beside_step work k (block_moved u thumb load pre up user write_back rn list w)
  unfolding block_moved register with_irq
  block-beside thumb true pre up user write_back rn list own t =
      let ks = registers 16 list in
      let a = aligned (block_start pre up (register w.core rn) (length ks)) 4 in
      let end = block_end up (register w.core rn) (length ks) in
      block_loaded-beside thumb user write_back ks a rn end (lists list 15) own t
  block-beside thumb false pre up user write_back rn list own t =
      let ks = registers 16 list in
      let a = aligned (block_start pre up (register w.core rn) (length ks)) 4 in
      let end = block_end up (register w.core rn) (length ks) in
      block_stored-beside user write_back ks a rn end own
