-- The memory that copies and zero fills leave, address by address.
use Rattle.std.proofs.Common.{◌≡◌, ℕ, zero, suc, ◌+◌, ◌-◌, ◌<◌, ◌≤◌, Bool, true, false, if◌then◌else◌, List, [], ◌∷◌, length, get_or, refl, sym, subst, ◌∙◌, arith, ◌⊎◌, inl, inr, Some, None}
use Rattle.sdt_word.specs.Bytes.{load}
use Rattle.sdt_word.proofs.BytesLemmas.{length-load, get_or-load}
use Rattle.arm7_model.specs.Memory.{Bytes, store}
use Rattle.arm7_model.proofs.MemoryLemmas.{store-in, store-below, store-above}
use Rattle.boot_code.specs.declared.rows.CopyRow.{CopyRow}
use Rattle.boot_code.specs.declared.rows.ZeroRow.{ZeroRow}
use Rattle.boot_code.specs.Startup.{zeros, copied, cleared}
use Rattle.boot_code.specs.Boots.{ByteMap, AllCopies, AllParts, CopyPlaced, ZeroPlaced, AreApart, OffLater, InOrder, covers, moved, zeroed}

pub length-zeros : (n : ℕ) → length (zeros n) ≡ n
length-zeros zero = refl
length-zeros (suc n) = let e = length-zeros n in omega (arith, e)

pub covers-inside : (b n x : ℕ) → b ≤ x → x < b + n → covers b n x ≡ true
covers-inside b n x low high = grind (arith)

pub covers-true : (b n x : ℕ) → covers b n x ≡ true → (b ≤ x) × (x < b + n)
covers-true b n x h = grind (arith)

pub covers-false : (b n x : ℕ) → covers b n x ≡ false → (x < b) ⊎ (b + n ≤ x)
covers-false b n x h = grind (arith)

pub covers-off : (b n x : ℕ) → (x < b) ⊎ (b + n ≤ x) → covers b n x ≡ false
covers-off b n x (inl h) = grind arith
covers-off b n x (inr h) = grind arith

-- ---- what a store leaves

pub apart_store : (m : Bytes) (a : ℕ) (bs : List ℕ) (x : ℕ) → (x < a) ⊎ (a + length bs ≤ x) → store m a bs x ≡ m x
apart_store m a bs x (inl h) = store-below m a bs x h
apart_store m a bs x (inr h) = store-above m a bs x h

store-covered : (m : Bytes) (a : ℕ) (bs : List ℕ) (x : ℕ) → store m a bs x ≡ (if covers a (length bs) x then get_or bs (x - a) 0 else m x)
store-covered m a bs x = go (covers a (length bs) x) refl
  where
    go : (c : Bool) → covers a (length bs) x ≡ c → store m a bs x ≡ (if c then get_or bs (x - a) 0 else m x)
    go true h = let inside = covers-true a (length bs) x h in store-in m a bs x inside.0 inside.1
    go false h = apart_store m a bs x (covers-false a (length bs) x h)

-- ---- zero fills

pub get_or-zeros : (n k : ℕ) → get_or (zeros n) k 0 ≡ 0
get_or-zeros zero k = refl
get_or-zeros (suc n) zero = refl
get_or-zeros (suc n) (suc k) = get_or-zeros n k

fill-at : (m : Bytes) (b n x : ℕ) → store m b (zeros n) x ≡ (if covers b n x then 0 else m x)
fill-at m b n x = store-covered m b (zeros n) x ∙ rw (length-zeros n, get_or-zeros n (x - b)) refl

zeroed-fill : (m : Bytes) (b n : ℕ) (rows : List ZeroRow) (x : ℕ) → zeroed 0 (store m b (zeros n)) rows x ≡ (if covers b n x then 0 else zeroed 0 m rows x)
zeroed-fill m b n [] x = fill-at m b n x
zeroed-fill m b n (r ∷ rows) x = go (covers r.base r.size x) (covers b n x) (zeroed-fill m b n rows x)
  where
    go : (d c : Bool) → zeroed 0 (store m b (zeros n)) rows x ≡ (if c then 0 else zeroed 0 m rows x)
        → (if d then 0 else zeroed 0 (store m b (zeros n)) rows x) ≡ (if c then 0 else (if d then 0 else zeroed 0 m rows x))
    go true true h = refl
    go true false h = refl
    go false c h = h

pub cleared-at : (m : Bytes) (rows : List ZeroRow) (x : ℕ) → cleared m rows x ≡ zeroed 0 m rows x
cleared-at m [] x = refl
cleared-at m (r ∷ rows) x = cleared-at (store m r.base (zeros r.size)) rows x ∙ zeroed-fill m r.base r.size rows x

-- ---- copies

copy-at : (m : Bytes) (s t n x : ℕ) → store m t (load m s n) x ≡ (if covers t n x then m (s + (x - t)) else m x)
copy-at m s t n x = store-covered m t (load m s n) x ∙ rw (length-load m s n) (go (covers t n x) refl)
  where
    go : (c : Bool) → covers t n x ≡ c → (if c then get_or (load m s n) (x - t) 0 else m x) ≡ (if c then m (s + (x - t)) else m x)
    go true h = let inside = covers-true t n x h in get_or-load m s n (x - t) (omega (arith, inside.0, inside.1))
    go false h = refl

beside : (b n c k x : ℕ) → AreApart b n c k → c ≤ x → x < c + k → (x < b) ⊎ (b + n ≤ x)
beside b n c k x (inl h) low high = inr (omega arith)
beside b n c k x (inr h) low high = inl (omega arith)

moved-copy : (m : Bytes) (r : CopyRow) (rows : List CopyRow) (x : ℕ) → AllCopies (OffLater r) rows
    → moved (store m r.target (load m r.source r.size)) rows x ≡ (if covers r.target r.size x then m (r.source + (x - r.target)) else moved m rows x)
moved-copy m r [] x off = copy-at m r.source r.target r.size x
moved-copy m r (l ∷ rows) x (off, offs) = go (covers l.target l.size x) refl (moved-copy m r rows x offs)
  where
    m1 : Bytes
    m1 = store m r.target (load m r.source r.size)

    go : (d : Bool) → covers l.target l.size x ≡ d → moved m1 rows x ≡ (if covers r.target r.size x then m (r.source + (x - r.target)) else moved m rows x)
        → (if d then m1 (l.source + (x - l.target)) else moved m1 rows x)
        ≡ (if covers r.target r.size x then m (r.source + (x - r.target)) else (if d then m (l.source + (x - l.target)) else moved m rows x))
    go true e h =
        let inside = covers-true l.target l.size x e in
        let clear = covers-off r.target r.size x (beside r.target r.size l.target l.size x off.target inside.0 inside.1) in
        let side = beside r.target r.size l.source l.size (l.source + (x - l.target)) off.source (omega arith) (omega (arith, inside.0, inside.1)) in
        rw clear (copy-at m r.source r.target r.size (l.source + (x - l.target)) ∙ rw (covers-off r.target r.size (l.source + (x - l.target)) side) refl)
    go false e h = h

pub copied-at : (m : Bytes) (rows : List CopyRow) (x : ℕ) → InOrder rows → copied m rows x ≡ moved m rows x
copied-at m [] x h = refl
copied-at m (r ∷ rows) x (off, later) =
    copied-at (store m r.target (load m r.source r.size)) rows x later ∙ moved-copy m r rows x off

-- ---- the files and the memory that holds them

some-value : (x y : ℕ) → Some x ≡ Some y → x ≡ y
some-value x y h = cc

pub moved-some : (files : ByteMap) (m : Bytes) (rows : List CopyRow) (x b : ℕ) → ((x b : ℕ) → files x ≡ Some b → m x ≡ b) → moved files rows x ≡ Some b → moved m rows x ≡ b
moved-some files m [] x b held h = held x b h
moved-some files m (r ∷ rows) x b held h = go (covers r.target r.size x) (moved-some files m rows x b held) h
  where
    go : (d : Bool) → (moved files rows x ≡ Some b → moved m rows x ≡ b)
        → (if d then files (r.source + (x - r.target)) else moved files rows x) ≡ Some b → (if d then m (r.source + (x - r.target)) else moved m rows x) ≡ b
    go true rest e = held (r.source + (x - r.target)) b e
    go false rest e = rest e

pub zeroed-some : (f : ByteMap) (m : Bytes) (rows : List ZeroRow) (x b : ℕ) → (f x ≡ Some b → m x ≡ b) → zeroed (Some 0) f rows x ≡ Some b → zeroed 0 m rows x ≡ b
zeroed-some f m [] x b held h = held h
zeroed-some f m (r ∷ rows) x b held h = go (covers r.base r.size x) (zeroed-some f m rows x b held) h
  where
    go : (d : Bool) → (zeroed (Some 0) f rows x ≡ Some b → zeroed 0 m rows x ≡ b)
        → (if d then Some 0 else zeroed (Some 0) f rows x) ≡ Some b → (if d then 0 else zeroed 0 m rows x) ≡ b
    go true rest e = some-value 0 b e
    go false rest e = rest e

-- a row that lies in the view covers no address outside it
outside : (view : ByteMap) (b n x : ℕ) → ((k : ℕ) → k < n → (v : ℕ) × (view (b + k) ≡ Some v)) → view x ≡ None → covers b n x ≡ false
outside view b n x inside none = go (covers b n x) refl
  where
    some_none : (v : ℕ) → Some v ≡ None → ⊥
    some_none v h = cc

    go : (d : Bool) → covers b n x ≡ d → covers b n x ≡ false
    go false e = e
    go true e =
        let in_row = covers-true b n x e in
        let (v, shown) = inside (x - b) (omega (arith, in_row.0, in_row.1)) in
        let same : b + (x - b) ≡ x = omega (arith, in_row.0) in
        let At : ℕ → Type 0 = λ y. view y ≡ Some v in
        let here : view x ≡ Some v = subst At same shown in
        absurd (some_none v (sym here ∙ none))

pub moved-outside : (files view : ByteMap) (written : ℕ → Bool) (a e : ℕ) (m : Bytes) (rows : List CopyRow) (x : ℕ) → view x ≡ None → AllCopies (CopyPlaced files view written a e) rows → moved m rows x ≡ m x
moved-outside files view written a e m [] x none all = refl
moved-outside files view written a e m (r ∷ rows) x none (first, all) = rw (outside view r.target r.size x first.to_view none) (moved-outside files view written a e m rows x none all)

pub zeroed-outside : (view : ByteMap) (written : ℕ → Bool) (a e : ℕ) (m : Bytes) (rows : List ZeroRow) (x : ℕ) → view x ≡ None → AllParts (ZeroPlaced view written a e) rows → zeroed 0 m rows x ≡ m x
zeroed-outside view written a e m [] x none all = refl
zeroed-outside view written a e m (r ∷ rows) x none (first, all) = rw (outside view r.base r.size x first.in_view none) (zeroed-outside view written a e m rows x none all)
