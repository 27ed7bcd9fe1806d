-- Files whose copied regions are moved and whose zero parts are set to zero are the view.
use Rattle.std.proofs.Common.{◌≡◌, ℕ, zero, suc, ◌+◌, ◌-◌, ◌<◌, ◌≤◌, ◌⊎◌, inl, inr, Bool, true, false, cond, not, ◌&&◌, List, [], ◌∷◌, map, refl, sym, ap, ◌∙◌, arith, eqb-true, Some}
use Rattle.std.specs.Prelude.{slice_get, is_some, nat_lt}
use Rattle.std.specs.List.{filter, list_any, AllByRecursion}
use Rattle.std.proofs.lemmas.Bool.{cases_lt}
use Rattle.base_lemmas.proofs.BaseLemmas.{or_true, true_or}
use Rattle.boot_code.specs.declared.rows.CopyRow.{CopyRow}
use Rattle.boot_code.specs.declared.rows.ZeroRow.{ZeroRow}
use Rattle.boot_code.specs.Boots.{ByteMap, AllCopies, AllParts, covers, moved, zeroed}
use Rattle.boot_code.proofs.ViewLemmas.{covers-true, covers-inside}
use Rattle.place_model.specs.Plans.{Planned, length_of, zero_base_of, zero_length_of, execution_size, is_root, is_copied, is_cleared, copy_row, zero_row}
use Rattle.place_model.proofs.ListLemmas.{all_at, all_indexed, any_found}
use Rattle.image_model.specs.Views.{is_executed}
use Rattle.image_laws.proofs.RowLemmas.{Brings, IsZeros, moved-inside, moved-beside, zeroed-inside, zeroed-beside}

ltb-intro : (a b : ℕ) → a < b → nat_lt a b ≡ true
ltb-intro a b h = grind arith

-- ---- copied and cleared regions as rows

abbrev pub copies_in : List Planned → List CopyRow
copies_in rs = map copy_row (filter is_copied rs)

abbrev pub parts_in : List Planned → List ZeroRow
parts_in rs = map zero_row (filter is_cleared rs)

pub copies_all : (P : CopyRow → Type 0) (rs : List Planned) → AllByRecursion (λ r. is_copied r ≡ true → P (copy_row r)) rs → AllCopies P (copies_in rs)
copies_all P [] all = tt
copies_all P (r ∷ rs) all = go (is_copied r) refl (copies_all P rs all.1)
  where
    go : (b : Bool) → is_copied r ≡ b → AllCopies P (copies_in rs) → AllCopies P (map copy_row (cond b (r ∷ filter is_copied rs) (filter is_copied rs)))
    go true e rest = (all.0 e, rest)
    go false e rest = rest

pub parts_all : (P : ZeroRow → Type 0) (rs : List Planned) → AllByRecursion (λ r. is_cleared r ≡ true → P (zero_row r)) rs → AllParts P (parts_in rs)
parts_all P [] all = tt
parts_all P (r ∷ rs) all = go (is_cleared r) refl (parts_all P rs all.1)
  where
    go : (b : Bool) → is_cleared r ≡ b → AllParts P (parts_in rs) → AllParts P (map zero_row (cond b (r ∷ filter is_cleared rs) (filter is_cleared rs)))
    go true e rest = (all.0 e, rest)
    go false e rest = rest

pub any_copied : (rs : List Planned) (i : ℕ) (r : Planned) (x : ℕ) → slice_get rs i ≡ Some r → is_copied r ≡ true → covers r.base (length_of r) x ≡ true
    → list_any (λ c. covers c.target c.size x) (copies_in rs) ≡ true
any_copied [] i r x at copied inside = absurd cc
any_copied (q ∷ rs) zero r x at copied inside = let e : q ≡ r = cc in rw e (rw copied (true_or (covers r.base (length_of r) x) (list_any (λ c. covers c.target c.size x) (copies_in rs)) inside))
any_copied (q ∷ rs) (suc i) r x at copied inside = go (is_copied q) (any_copied rs i r x at copied inside)
  where
    go : (b : Bool) → list_any (λ c. covers c.target c.size x) (copies_in rs) ≡ true → list_any (λ c. covers c.target c.size x) (map copy_row (cond b (q ∷ filter is_copied rs) (filter is_copied rs))) ≡ true
    go true h = or_true (covers q.base (length_of q) x) (list_any (λ c. covers c.target c.size x) (copies_in rs)) h
    go false h = h

pub any_cleared : (rs : List Planned) (i : ℕ) (r : Planned) (x : ℕ) → slice_get rs i ≡ Some r → is_cleared r ≡ true → covers (zero_base_of r) (zero_length_of r) x ≡ true
    → list_any (λ c. covers c.base c.size x) (parts_in rs) ≡ true
any_cleared [] i r x at cleared inside = absurd cc
any_cleared (q ∷ rs) zero r x at cleared inside = let e : q ≡ r = cc in rw e (rw cleared (true_or (covers (zero_base_of r) (zero_length_of r) x) (list_any (λ c. covers c.base c.size x) (parts_in rs)) inside))
any_cleared (q ∷ rs) (suc i) r x at cleared inside = go (is_cleared q) (any_cleared rs i r x at cleared inside)
  where
    go : (b : Bool) → list_any (λ c. covers c.base c.size x) (parts_in rs) ≡ true → list_any (λ c. covers c.base c.size x) (map zero_row (cond b (q ∷ filter is_cleared rs) (filter is_cleared rs))) ≡ true
    go true h = or_true (covers (zero_base_of q) (zero_length_of q) x) (list_any (λ c. covers c.base c.size x) (parts_in rs)) h
    go false h = h

-- a region with bytes that isn't copied is a root region
root_or_copied : (root some : Bool) → root ≡ false → some ≡ true → (not root && some) ≡ true
root_or_copied true some e f = absurd cc
root_or_copied false true e f = refl
root_or_copied false false e f = absurd cc

-- ---- all of them

module _ (rs : List Planned) (files view : ByteMap) (brings : AllByRecursion (λ r. Brings files view (copy_row r)) rs) (zeros : AllByRecursion (λ r. IsZeros view (zero_row r)) rs)
    (domain : (x : ℕ) → is_some (view x) ≡ list_any (is_executed x) rs) where
  brings_all : AllCopies (Brings files view) (copies_in rs)
  brings_all = copies_all (Brings files view) rs (all_indexed (λ r. is_copied r ≡ true → Brings files view (copy_row r)) rs (λ i r at copied. all_at (λ q. Brings files view (copy_row q)) rs i r brings at))

  zeros_all : AllParts (IsZeros view) (parts_in rs)
  zeros_all = parts_all (IsZeros view) rs (all_indexed (λ r. is_cleared r ≡ true → IsZeros view (zero_row r)) rs (λ i r at cleared. all_at (λ q. IsZeros view (zero_row q)) rs i r zeros at))

  -- at an address of a region that no row writes
  as_loaded : (i : ℕ) (r : Planned) (x b : ℕ) → slice_get rs i ≡ Some r → is_executed x r ≡ true → view x ≡ Some b
      → list_any (λ c. covers c.base c.size x) (parts_in rs) ≡ false → list_any (λ c. covers c.target c.size x) (copies_in rs) ≡ false → files x ≡ Some b
  as_loaded i r x b at inside shown no_part no_copy =
      let range = covers-true r.base (execution_size r) x inside in
      before (cases_lt x (zero_base_of r)) range.0 range.1
    where
      rooted : (root copied : Bool) → is_root r ≡ root → is_copied r ≡ copied → r.base ≤ x → x < zero_base_of r → files x ≡ Some b
      rooted root true e copied low lt =
          absurd (let any = any_copied rs i r x at copied (covers-inside r.base (length_of r) x low lt) in let both : true ≡ false = sym any ∙ no_copy in cc)
      rooted true false e copied low lt =
          let load = eqb-true r.load r.base e in
          let here : x ≡ r.load + (x - r.base) = omega (arith, load, low) in
          let there : r.base + (x - r.base) ≡ x = omega (arith, low) in
          ap files here ∙ all_at (λ q. Brings files view (copy_row q)) rs i r brings at (x - r.base) (omega (arith, low, lt)) ∙ ap view there ∙ shown
      rooted false false e copied low lt =
          let some : nat_lt 0 (length_of r) ≡ true = ltb-intro 0 (length_of r) (omega (arith, low, lt)) in
          absurd (let all = root_or_copied (is_root r) (nat_lt 0 (length_of r)) e some in let both : true ≡ false = sym all ∙ copied in cc)

      before : (x < zero_base_of r) ⊎ (zero_base_of r ≤ x) → r.base ≤ x → x < r.base + execution_size r → files x ≡ Some b
      before (inl lt) low high = rooted (is_root r) (is_copied r) refl refl low lt
      before (inr le) low high =
          let some : nat_lt 0 (zero_length_of r) ≡ true = ltb-intro 0 (zero_length_of r) (omega (arith, le, high)) in
          let any = any_cleared rs i r x at some (covers-inside (zero_base_of r) (zero_length_of r) x le (omega (arith, high))) in
          absurd (let both : true ≡ false = sym any ∙ no_part in cc)

  pub moved_shows : (x b : ℕ) → view x ≡ Some b → zeroed (Some 0) (moved files (copies_in rs)) (parts_in rs) x ≡ Some b
  moved_shows x b shown =
      let some : list_any (is_executed x) rs ≡ true = sym (domain x) ∙ ap is_some shown in
      let (i, r, at, inside) = any_found (is_executed x) rs some in
      by_part (list_any (λ c. covers c.base c.size x) (parts_in rs)) refl i r at inside
    where
      by_copy : (d : Bool) → list_any (λ c. covers c.target c.size x) (copies_in rs) ≡ d → list_any (λ c. covers c.base c.size x) (parts_in rs) ≡ false
          → (i : ℕ) (r : Planned) → slice_get rs i ≡ Some r → is_executed x r ≡ true → moved files (copies_in rs) x ≡ Some b
      by_copy true e no_part i r at inside = moved-inside files view (copies_in rs) x brings_all e ∙ shown
      by_copy false e no_part i r at inside = moved-beside files (copies_in rs) x e ∙ as_loaded i r x b at inside shown no_part e

      by_part : (d : Bool) → list_any (λ c. covers c.base c.size x) (parts_in rs) ≡ d → (i : ℕ) (r : Planned) → slice_get rs i ≡ Some r → is_executed x r ≡ true
          → zeroed (Some 0) (moved files (copies_in rs)) (parts_in rs) x ≡ Some b
      by_part true e i r at inside = zeroed-inside view (moved files (copies_in rs)) (parts_in rs) x b zeros_all shown e
      by_part false e i r at inside = zeroed-beside (moved files (copies_in rs)) (parts_in rs) x e ∙ by_copy (list_any (λ c. covers c.target c.size x) (copies_in rs)) refl e i r at inside
