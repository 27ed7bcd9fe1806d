-- Own accesses leave two buses beside one another.
use Rattle.std.proofs.Common.{◌≡◌, ℕ, ◌+◌, ◌<◌, ◌≤◌, Bool, true, false, List, [], ◌∷◌, length, Option, None, Some, refl, sym, ap, subst, ◌∙◌, arith, cond, ◌⊎◌}
use Rattle.std.specs.List.{AllByRecursion}
use Rattle.sdt_word.specs.Bytes.{bytes_of}
use Rattle.sdt_word.specs.Codes.{bytes_in}
use Rattle.sdt_word.specs.declared.codes.Width.{Width}
use Rattle.sdt_word.specs.declared.codes.Width.TheVariants.{Byte, Half, Word}
use Rattle.arm7_model.specs.Accesses.{Access, Fetch, Load, Store}
use Rattle.arm7_model.specs.Memory.{Board, Bytes}
use Rattle.arm7_bus.specs.declared.memory.BusFault.{BusFault}
use Rattle.arm7_bus.specs.Buses.{after_read, after_write}
use Rattle.arm7_bus.specs.Meets.{seats_have}
use Rattle.arm7_bus.specs.Seats.{device_at}
use Rattle.arm7_bus.specs.States.{Contents, State, after_store, bank_has, store_fault, store_leaves}
use Rattle.arm7_transfers.specs.Boards.{board_of}
use Rattle.arm7_transfers.specs.Served.{served}
use Rattle.arm7_transfers.proofs.BoardLemmas.{contents-read}
use Rattle.arm7_transfers.proofs.ReadyLemmas.{board-read}
use Rattle.run_laws.proofs.ServedMemory.{board-served}
use Rattle.kit_laws.specs.Beside.{Scratch}
use Rattle.kit_laws.specs.Rules.{IsOwn, IsPlain, EachFrom}
use Rattle.kit_laws.proofs.BesideMemory.{apart, off-stored}
use Rattle.run_laws.proofs.Devices.{none-at, read-left, write-left}
use Rattle.run_laws.proofs.BusBeside.{AreTwins, beside_contents}

-- ---- no device has an access of the program's own

pub some : (w : Width) → 0 < bytes_in w
some Byte = omega arith
some Half = omega arith
some Word = omega arith

pub none-own : (s : State) (work a : ℕ) (w : Width) → EachFrom (IsPlain (board_of s) work) a (bytes_in w) → device_at s.devices a (bytes_in w) ≡ None
unfolding board_of
none-own s work a w own = none-at s.devices a (bytes_in w) (some w) (ap (seats_have s.devices) (omega arith) ∙ (own 0 (some w)).device)

module _ (work : ℕ) (k : Scratch) where
  -- one write
  wrote : (c : Contents) (st : List (ℕ × ℕ)) (a : ℕ) (w : Width) (v : ℕ) (o : Option BusFault) → (a + length (bytes_of v (bytes_in w)) ≤ work) ⊎ (work + 12 ≤ a)
      → store_leaves o (beside_contents work k st c) (after_store (beside_contents work k st c) a w v)
      ≡ beside_contents work k (store_leaves o (beside_contents work k st c) (after_store (beside_contents work k st c) a w v)).stores (store_leaves o c (after_store c a w v))
  wrote c st a w v None side =
      ap (λ (m : Bytes). record (after_store (beside_contents work k st c) a w v) { memory = m }) (off-stored c.memory work k a (bytes_of v (bytes_in w)) side)
  wrote c st a w v (Some fault) side = refl

  side : (x : Width) (a v : ℕ) → (a + bytes_in x ≤ work) ⊎ (work + 12 ≤ a) → (a + length (bytes_of v (bytes_in x)) ≤ work) ⊎ (work + 12 ≤ a)
  side Byte a v h = h
  side Half a v h = h
  side Word a v h = h

  -- what is written where no device has the access
  plainly : (s : State) (a : ℕ) (w : Width) (v : ℕ) → device_at s.devices a (bytes_in w) ≡ None
      → (after_write s a w v).contents ≡ cond (bank_has s.contents.banks a (bytes_in w)) (store_leaves (store_fault s.contents a (bytes_in w)) s.contents (after_store s.contents a w v)) s.contents
  plainly s a w v none = rw none (go (bank_has s.contents.banks a (bytes_in w)))
    where
      go : (b : Bool) → (cond b (record s { contents = store_leaves (store_fault s.contents a (bytes_in w)) s.contents (after_store s.contents a w v) }) s).contents
          ≡ cond b (store_leaves (store_fault s.contents a (bytes_in w)) s.contents (after_store s.contents a w v)) s.contents
      go true = refl
      go false = refl

  write-twins : (c d : Contents) (a : ℕ) (w : Width) (v : ℕ) → d ≡ beside_contents work k d.stores c → (a + length (bytes_of v (bytes_in w)) ≤ work) ⊎ (work + 12 ≤ a)
      → cond (bank_has d.banks a (bytes_in w)) (store_leaves (store_fault d a (bytes_in w)) d (after_store d a w v)) d
      ≡ beside_contents work k (cond (bank_has d.banks a (bytes_in w)) (store_leaves (store_fault d a (bytes_in w)) d (after_store d a w v)) d).stores
      (cond (bank_has c.banks a (bytes_in w)) (store_leaves (store_fault c a (bytes_in w)) c (after_store c a w v)) c)
  write-twins c d a w v e h = subst P (sym e) (go (bank_has c.banks a (bytes_in w)))
    where
      P : Contents → Type 0
      P x = cond (bank_has x.banks a (bytes_in w)) (store_leaves (store_fault x a (bytes_in w)) x (after_store x a w v)) x
          ≡ beside_contents work k (cond (bank_has x.banks a (bytes_in w)) (store_leaves (store_fault x a (bytes_in w)) x (after_store x a w v)) x).stores
          (cond (bank_has c.banks a (bytes_in w)) (store_leaves (store_fault c a (bytes_in w)) c (after_store c a w v)) c)

      y : Contents
      y = beside_contents work k d.stores c

      go : (b : Bool) → cond b (store_leaves (store_fault c a (bytes_in w)) y (after_store y a w v)) y
          ≡ beside_contents work k (cond b (store_leaves (store_fault c a (bytes_in w)) y (after_store y a w v)) y).stores
          (cond b (store_leaves (store_fault c a (bytes_in w)) c (after_store c a w v)) c)
      go true = wrote c d.stores a w v (store_fault c a (bytes_in w)) h
      go false = refl

  own-there : {b c : Board} (a n : ℕ) → b ≡ c → EachFrom (IsPlain c work) a n → EachFrom (IsPlain b work) a n
  own-there a n e own = subst (λ (x : Board). EachFrom (IsPlain x work) a n) (sym e) own

  all-there : {b c : Board} (xs : List Access) → b ≡ c → AllByRecursion (IsOwn c work) xs → AllByRecursion (IsOwn b work) xs
  all-there xs e own = subst (λ (x : Board). AllByRecursion (IsOwn x work) xs) (sym e) own

-- a read leaves the contents
read-twins : (work : ℕ) (k : Scratch) (q t : State) (a : ℕ) (w : Width) → AreTwins work k q t → AreTwins work k (after_read q a w) (after_read t a w)
read-twins work k q t a w twins = record {
  contents = rw (contents-read q a w, contents-read t a w) twins.contents;
  board = board-read t a w ∙ twins.board ∙ sym (board-read q a w);
}

-- a read of no device leaves the devices
store-twins : (work : ℕ) (k : Scratch) (q t : State) (a : ℕ) (w : Width) (v : ℕ) → AreTwins work k q t → EachFrom (IsPlain (board_of q) work) a (bytes_in w)
    → AreTwins work k (after_write q a w v) (after_write t a w v)
store-twins work k q t a w v twins own =
    let none-q = none-own q work a w own in
    let none-t = none-own t work a w (own-there work k a (bytes_in w) twins.board own) in
    record {
      contents = rw (plainly work k q a w v none-q, plainly work k t a w v none-t)
          (write-twins work k q.contents t.contents a w v twins.contents (side work k w a v (apart work a (bytes_in w) (some w) (λ i lt. (own i lt).off))));
      board = board-served t (Store a w v ∷ []) ∙ twins.board ∙ sym (board-served q (Store a w v ∷ []));
    }

-- own accesses leave twins, and the devices
pub twins-serve :
    (work : ℕ) (k : Scratch) (q t : State) (xs : List Access) → AreTwins work k q t → AllByRecursion (IsOwn (board_of q) work) xs
    → AreTwins work k (served q xs) (served t xs) × ((served q xs).devices ≡ q.devices)
twins-serve work k q t [] twins own = (twins, refl)
twins-serve work k q t (Fetch a w ∷ rest) twins own =
    let more = twins-serve work k (after_read q a w) (after_read t a w) rest (read-twins work k q t a w twins) (all-there work k rest (board-read q a w) own.1) in
    (more.0, more.1 ∙ read-left q a w (none-own q work a w own.0))
twins-serve work k q t (Load a w ∷ rest) twins own =
    let more = twins-serve work k (after_read q a w) (after_read t a w) rest (read-twins work k q t a w twins) (all-there work k rest (board-read q a w) own.1) in
    (more.0, more.1 ∙ read-left q a w (none-own q work a w own.0))
twins-serve work k q t (Store a w v ∷ rest) twins own =
    let same = board-served q (Store a w v ∷ []) in
    let more = twins-serve work k (after_write q a w v) (after_write t a w v) rest (store-twins work k q t a w v twins own.0.0) (all-there work k rest same own.1) in
    (more.0, more.1 ∙ write-left q a w v (none-own q work a w own.0.0))
