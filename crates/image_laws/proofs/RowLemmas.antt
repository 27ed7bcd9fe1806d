-- Rows of copies and zero parts: what they leave at an address, how long their table is, and that its words fit.
use Rattle.std.proofs.Common.{◌≡◌, ℕ, suc, ◌+◌, ◌-◌, ◌*◌, ◌^◌, ◌<◌, ◌≤◌, Bool, true, false, ◌||◌, ◌==◌, if◌then◌else◌, List, [], ◌∷◌, ◌++◌, length, length-append, refl, sym, ap, ◌∙◌, arith, Some}
use Rattle.std.specs.Prelude.{nat_lt}
use Rattle.std.specs.List.{list_any, list_all, AllByRecursion}
use Rattle.base_lemmas.proofs.BaseLemmas.{all_append, both_true}
use Rattle.boot_code.specs.declared.rows.CopyRow.{CopyRow}
use Rattle.boot_code.specs.declared.rows.ZeroRow.{ZeroRow}
use Rattle.boot_code.specs.Startup.{copy_words, zero_words, table_list}
use Rattle.boot_code.specs.Words.{boot_list}
use Rattle.boot_code.specs.Boots.{ByteMap, AllCopies, AllParts, covers, moved, zeroed}
use Rattle.boot_code.proofs.ViewLemmas.{covers-true}
use Rattle.place_model.proofs.SpanLemmas.{lt-true}

-- ---- what rows leave at an address

-- the source of a copy has what the view has at its target
abbrev pub Brings : ByteMap → ByteMap → CopyRow → Type 0
Brings files view r = (k : ℕ) → k < r.size → files (r.source + k) ≡ view (r.target + k)

pub moved-inside : (files view : ByteMap) (rows : List CopyRow) (x : ℕ) → AllCopies (Brings files view) rows → list_any (λ r. covers r.target r.size x) rows ≡ true → moved files rows x ≡ view x
moved-inside files view [] x all h = absurd cc
moved-inside files view (r ∷ rows) x all h = go (covers r.target r.size x) refl (moved-inside files view rows x all.1) h
  where
    go : (b : Bool) → covers r.target r.size x ≡ b → (list_any (λ r. covers r.target r.size x) rows ≡ true → moved files rows x ≡ view x)
        → (b || list_any (λ r. covers r.target r.size x) rows) ≡ true → (if b then files (r.source + (x - r.target)) else moved files rows x) ≡ view x
    go true e rest n =
        let inside = covers-true r.target r.size x e in
        let here : r.target + (x - r.target) ≡ x = omega (arith, inside.0) in
        all.0 (x - r.target) (omega (arith, inside.0, inside.1)) ∙ ap view here
    go false e rest n = rest n

pub moved-beside : (files : ByteMap) (rows : List CopyRow) (x : ℕ) → list_any (λ r. covers r.target r.size x) rows ≡ false → moved files rows x ≡ files x
moved-beside files [] x h = refl
moved-beside files (r ∷ rows) x h = go (covers r.target r.size x) (moved-beside files rows x) h
  where
    go : (b : Bool) → (list_any (λ r. covers r.target r.size x) rows ≡ false → moved files rows x ≡ files x)
        → (b || list_any (λ r. covers r.target r.size x) rows) ≡ false → (if b then files (r.source + (x - r.target)) else moved files rows x) ≡ files x
    go true rest n = absurd cc
    go false rest n = rest n

-- the view has zeros in a zero part
abbrev pub IsZeros : ByteMap → ZeroRow → Type 0
IsZeros view r = (k : ℕ) → k < r.size → view (r.base + k) ≡ Some 0

pub zeroed-inside : (view f : ByteMap) (rows : List ZeroRow) (x b : ℕ) → AllParts (IsZeros view) rows → view x ≡ Some b → list_any (λ r. covers r.base r.size x) rows ≡ true
    → zeroed (Some 0) f rows x ≡ Some b
zeroed-inside view f [] x b all shown h = absurd cc
zeroed-inside view f (r ∷ rows) x b all shown h = go (covers r.base r.size x) refl (zeroed-inside view f rows x b all.1 shown) h
  where
    go : (d : Bool) → covers r.base r.size x ≡ d → (list_any (λ r. covers r.base r.size x) rows ≡ true → zeroed (Some 0) f rows x ≡ Some b)
        → (d || list_any (λ r. covers r.base r.size x) rows) ≡ true → (if d then Some 0 else zeroed (Some 0) f rows x) ≡ Some b
    go true e rest n =
        let inside = covers-true r.base r.size x e in
        let here : r.base + (x - r.base) ≡ x = omega (arith, inside.0) in
        sym (all.0 (x - r.base) (omega (arith, inside.0, inside.1))) ∙ ap view here ∙ shown
    go false e rest n = rest n

pub zeroed-beside : (f : ByteMap) (rows : List ZeroRow) (x : ℕ) → list_any (λ r. covers r.base r.size x) rows ≡ false → zeroed (Some 0) f rows x ≡ f x
zeroed-beside f [] x h = refl
zeroed-beside f (r ∷ rows) x h = go (covers r.base r.size x) (zeroed-beside f rows x) h
  where
    go : (b : Bool) → (list_any (λ r. covers r.base r.size x) rows ≡ false → zeroed (Some 0) f rows x ≡ f x)
        → (b || list_any (λ r. covers r.base r.size x) rows) ≡ false → (if b then Some 0 else zeroed (Some 0) f rows x) ≡ f x
    go true rest n = absurd cc
    go false rest n = rest n

-- ---- the words of the table

copy_words-length : (rows : List CopyRow) → length (copy_words rows) ≤ 3 * length rows
copy_words-length [] = omega arith
copy_words-length (r ∷ rows) = go (r.size == 0) (copy_words-length rows)
  where
    go : (b : Bool) → length (copy_words rows) ≤ 3 * length rows → length (if b then copy_words rows else r.source ∷ r.target ∷ r.size ∷ copy_words rows) ≤ 3 * suc (length rows)
    go true h = omega arith
    go false h = omega arith

zero_words-length : (rows : List ZeroRow) → length (zero_words rows) ≤ 2 * length rows
zero_words-length [] = omega arith
zero_words-length (r ∷ rows) = go (r.size == 0) (zero_words-length rows)
  where
    go : (b : Bool) → length (zero_words rows) ≤ 2 * length rows → length (if b then zero_words rows else r.base ∷ r.size ∷ zero_words rows) ≤ 2 * suc (length rows)
    go true h = omega arith
    go false h = omega arith

pub table-length : (copies : List CopyRow) (parts : List ZeroRow) (entry : ℕ) → length (table_list copies parts entry) ≤ 3 * length copies + 2 * length parts + 6
table-length copies parts entry =
    omega (arith, length-append (copy_words copies) (0 ∷ 0 ∷ 0 ∷ (zero_words parts ++ (0 ∷ 0 ∷ entry ∷ []))), length-append (zero_words parts) (0 ∷ 0 ∷ entry ∷ []), copy_words-length copies, zero_words-length parts)

abbrev pub IsWord : ℕ → Type 0
IsWord w = w < 2 ^ 32

pub record AreCopyWords (r : CopyRow) : Type 0 where
  pub source : r.source < 2 ^ 32
  pub target : r.target < 2 ^ 32
  pub size : r.size < 2 ^ 32

pub record ArePartWords (r : ZeroRow) : Type 0 where
  pub base : r.base < 2 ^ 32
  pub size : r.size < 2 ^ 32

copy_words-fit : (rows : List CopyRow) → AllCopies AreCopyWords rows → AllByRecursion IsWord (copy_words rows)
copy_words-fit [] all = tt
copy_words-fit (r ∷ rows) all = go (r.size == 0) (copy_words-fit rows all.1)
  where
    go : (b : Bool) → AllByRecursion IsWord (copy_words rows) → AllByRecursion IsWord (if b then copy_words rows else r.source ∷ r.target ∷ r.size ∷ copy_words rows)
    go true h = h
    go false h = let f = all.0 in (f.source, (f.target, (f.size, h)))

zero_words-fit : (rows : List ZeroRow) → AllParts ArePartWords rows → AllByRecursion IsWord (zero_words rows)
zero_words-fit [] all = tt
zero_words-fit (r ∷ rows) all = go (r.size == 0) (zero_words-fit rows all.1)
  where
    go : (b : Bool) → AllByRecursion IsWord (zero_words rows) → AllByRecursion IsWord (if b then zero_words rows else r.base ∷ r.size ∷ zero_words rows)
    go true h = h
    go false h = let f = all.0 in (f.base, (f.size, h))

pub all_words : (ws : List ℕ) → list_all (λ w. nat_lt w (2 ^ 32)) ws ≡ true → AllByRecursion IsWord ws
all_words [] h = tt
all_words (w ∷ ws) h = let (first, rest) = both_true (nat_lt w (2 ^ 32)) (list_all (λ v. nat_lt v (2 ^ 32)) ws) h in (lt-true w (2 ^ 32) first, all_words ws rest)

pub startup-fits : (copies : List CopyRow) (parts : List ZeroRow) (entry : ℕ) → AllCopies AreCopyWords copies → AllParts ArePartWords parts → entry < 2 ^ 32
    → AllByRecursion IsWord (boot_list ++ table_list copies parts entry)
startup-fits copies parts entry c p e =
    let zeros_fit : AllByRecursion IsWord (zero_words parts ++ (0 ∷ 0 ∷ entry ∷ [])) = all_append IsWord (zero_words parts) (0 ∷ 0 ∷ entry ∷ []) (zero_words-fit parts p) (omega arith, (omega arith, (e, tt))) in
    all_append IsWord boot_list (table_list copies parts entry) (all_words boot_list refl)
    (all_append IsWord (copy_words copies) (0 ∷ 0 ∷ 0 ∷ (zero_words parts ++ (0 ∷ 0 ∷ entry ∷ []))) (copy_words-fit copies c) (omega arith, (omega arith, (omega arith, zeros_fit))))
