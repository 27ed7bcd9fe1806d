-- What a view of an ARM image file has: the bytes of the parts, and zeros behind them.
use Rattle.std.proofs.Common.{◌≡◌, ◌⊎◌, inl, inr, ℕ, ◌+◌, ◌-◌, ◌^◌, ◌<◌, ◌≤◌, Bool, true, false, ◌||◌, List, [], ◌++◌, length, length-append, sym, ap, subst, ◌∙◌, arith, Option, Some}
use Rattle.std.specs.Prelude.{slice_index, is_some}
use Rattle.std.proofs.lemmas.Bool.{cases_lt}
use Rattle.std.proofs.lemmas.List.{get_or_append_left}
use Rattle.std.proofs.Math.Seq.{get_or-append_right}
use Rattle.base_lemmas.proofs.BaseLemmas.{or_either}
use Rattle.sdt_word.specs.declared.ranges.Range32.{Range32}
use Rattle.arm7_model.specs.Memory.{Bytes, store}
use Rattle.arm7_model.proofs.MemoryLemmas.{store-in}
use Rattle.boot_code.specs.Boots.{ByteMap}
use Rattle.boot_code.specs.Startup.{zeros}
use Rattle.boot_code.proofs.ViewLemmas.{covers-true, apart_store, length-zeros, get_or-zeros}
use Rattle.boot_code.specs.Maps.{Holds}
use Rattle.place_model.specs.Items.{Item}
use Rattle.place_model.specs.Plans.{Contents, Planned, length_of, zero_base_of, zero_length_of, execution_size, Plan}
use Rattle.image_model.specs.AifFiles.{parts_size, zero_size, with_header, parts_bytes, aif_plan}
use Rattle.image_model.specs.Regions.{Given, Filling, region_bytes}
use Rattle.image_model.specs.Views.{is_executed, IsView}
use Rattle.image_laws.specs.AifLaws.{IsAif}
use Rattle.image_laws.proofs.AifLemmas.{ro, rw_, zi, no_zero_0, no_zero_1, no_length_2, room}
use Rattle.image_laws.proofs.ViewLemmas.{bytes_size, held_at}

-- bytes one behind the other
joined : (m : ByteMap) (a : ℕ) (xs ys : List ℕ) → Holds m a xs → Holds m (a + length xs) ys → Holds m a (xs ++ ys)
joined m a xs ys first second n lt = go (cases_lt n (length xs))
  where
    go : (n < length xs) ⊎ (length xs ≤ n) → m (a + n) ≡ Some (slice_index (xs ++ ys) n)
    go (inl h) = first n h ∙ ap Some (sym (get_or_append_left xs ys 0 n h))
    go (inr h) =
        let there : a + n ≡ a + length xs + (n - length xs) = omega (arith, h) in
        ap m there ∙ second (n - length xs) (omega (arith, lt, h, length-append xs ys)) ∙ ap Some (sym (get_or-append_right xs ys n 0 h))

module _ (base : ℕ) (rel : Bool) (c : Contents) (items : List Item) (g : Given) (ram : Option (List Range32)) (a : IsAif base rel c items g ram) where
  abbrev p : Plan
  p = aif_plan base rel c

  abbrev held : Bool → Filling
  held moves = with_header moves p base g

  abbrev first : Planned
  first = ro base rel c items g ram a

  abbrev second : Planned
  second = rw_ base rel c items g ram a

  abbrev third : Planned
  third = zi base rel c items g ram a

  abbrev parts : ℕ
  parts = parts_size p

  abbrev zero_bytes : ℕ
  zero_bytes = zero_size p

  zero_0 : zero_length_of first ≡ 0
  zero_0 = no_zero_0 base rel c items g ram a

  zero_1 : zero_length_of second ≡ 0
  zero_1 = no_zero_1 base rel c items g ram a

  length_2 : length_of third ≡ 0
  length_2 = no_length_2 base rel c items g ram a

  size_0 : (moves : Bool) → length (region_bytes (held moves) first) ≡ length_of first
  size_0 moves = bytes_size (held moves) first (a.sized moves).0

  size_1 : (moves : Bool) → length (region_bytes (held moves) second) ≡ length_of second
  size_1 moves = bytes_size (held moves) second (a.sized moves).1.0

  size_2 : (moves : Bool) → length (region_bytes (held moves) third) ≡ 0
  size_2 moves = bytes_size (held moves) third (a.sized moves).1.1.0 ∙ length_2

  pub parts_length : (moves : Bool) → length (parts_bytes moves p base g) ≡ parts
  parts_length moves =
      let s = size_0 moves in let t = size_1 moves in let u = size_2 moves in
      let x = length-append (region_bytes (held moves) first) (region_bytes (held moves) second ++ (region_bytes (held moves) third ++ [])) in
      let y = length-append (region_bytes (held moves) second) (region_bytes (held moves) third ++ []) in
      let z = length-append (region_bytes (held moves) third) [] in
      omega arith

  pub ends : base + (parts + zero_bytes) ≤ 2 ^ 32
  ends = let last = (room base rel c items g ram a).1.1.0 in let x = zero_0 in let y = zero_1 in omega arith

  module _ (view : ByteMap) (v : IsView p (held false) view) where
    bytes_held : Holds view base (parts_bytes false p base g)
    bytes_held =
        let s = size_0 false in let t = size_1 false in let u = size_2 false in let x = zero_0 in let y = zero_1 in
        let ro_bytes : List ℕ = region_bytes (held false) first in
        let rw_bytes : List ℕ = region_bytes (held false) second in
        let zi_bytes : List ℕ = region_bytes (held false) third in
        let At : List ℕ → ℕ → Type 0 = λ bytes n. Holds view n bytes in
        let shown_1 : Holds view (base + length ro_bytes) rw_bytes = subst (At rw_bytes) (omega arith) v.loaded.1.0 in
        let shown_2 : Holds view (base + length ro_bytes + length rw_bytes) zi_bytes = subst (At zi_bytes) (omega arith) v.loaded.1.1.0 in
        joined view base ro_bytes (rw_bytes ++ (zi_bytes ++ [])) v.loaded.0
        (joined view (base + length ro_bytes) rw_bytes (zi_bytes ++ []) shown_1
        (joined view (base + length ro_bytes + length rw_bytes) zi_bytes [] shown_2 (λ n lt. absurd (omega arith))))

    pub in_parts : (x : ℕ) → base ≤ x → x < base + parts → view x ≡ Some (slice_index (parts_bytes false p base g) (x - base))
    in_parts x low high = let size = parts_length false in held_at view base (parts_bytes false p base g) x bytes_held low (omega arith)

    behind_parts : (x : ℕ) → base + parts ≤ x → x < base + parts + zero_bytes → view x ≡ Some 0
    behind_parts x low high =
        let s = zero_0 in let t = zero_1 in let u = length_2 in let own = length-zeros (zero_length_of third) in
        held_at view (zero_base_of third) (zeros (zero_length_of third)) x v.cleared.1.1.0 (omega arith) (omega arith) ∙ ap Some (get_or-zeros (zero_length_of third) (x - zero_base_of third))

    -- a memory that has the parts' bytes there, with the zero part set to zero
    pub started : (m : Bytes) → ((x : ℕ) → base ≤ x → x < base + parts → m x ≡ slice_index (parts_bytes false p base g) (x - base))
        → (x : ℕ) → base ≤ x → x < base + parts + zero_bytes → view x ≡ Some (store m (base + parts) (zeros zero_bytes) x)
    started m has x low high = go (cases_lt x (base + parts))
      where
        go : (x < base + parts) ⊎ (base + parts ≤ x) → view x ≡ Some (store m (base + parts) (zeros zero_bytes) x)
        go (inl h) = in_parts x low h ∙ ap Some (sym (apart_store m (base + parts) (zeros zero_bytes) x (inl h) ∙ has x low h))
        go (inr h) =
            let count = length-zeros zero_bytes in
            let stored : store m (base + parts) (zeros zero_bytes) x ≡ slice_index (zeros zero_bytes) (x - (base + parts)) = store-in m (base + parts) (zeros zero_bytes) x h (omega arith) in
            behind_parts x h high ∙ ap Some (sym (stored ∙ get_or-zeros zero_bytes (x - (base + parts))))

    pub within : (x : ℕ) → is_some (view x) ≡ true → (base ≤ x) × (x < base + parts + zero_bytes)
    within x h = by_first (or_either (is_executed x first) (is_executed x second || (is_executed x third || false)) (sym (v.domain x) ∙ h))
      where
        by_third : (is_executed x third ≡ true) ⊎ (false ≡ true) → (base ≤ x) × (x < base + parts + zero_bytes)
        by_third (inl e) =
            let u = zero_0 in let v = zero_1 in let w = length_2 in
            let (low, high) = covers-true third.base (execution_size third) x e in (omega (arith, low), omega (arith, high, u, v, w))
        by_third (inr e) = absurd cc

        by_second : (is_executed x second ≡ true) ⊎ ((is_executed x third || false) ≡ true) → (base ≤ x) × (x < base + parts + zero_bytes)
        by_second (inl e) =
            let u = zero_0 in let v = zero_1 in
            let (low, high) = covers-true second.base (execution_size second) x e in (omega (arith, low), omega (arith, high, u, v))
        by_second (inr e) = by_third (or_either (is_executed x third) false e)

        by_first : (is_executed x first ≡ true) ⊎ ((is_executed x second || (is_executed x third || false)) ≡ true) → (base ≤ x) × (x < base + parts + zero_bytes)
        by_first (inl e) =
            let u = zero_0 in
            let (low, high) = covers-true first.base (execution_size first) x e in (omega (arith, low), omega (arith, high, u))
        by_first (inr e) = by_second (or_either (is_executed x second) (is_executed x third || false) e)
