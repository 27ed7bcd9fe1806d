-- The table of pages: what its entries are, part by part, and what a new part and a new frame leave.
use Rattle.std.proofs.Common.{◌≡◌, ◌≢◌, ℕ, zero, suc, ◌+◌, ◌-◌, ◌*◌, ◌/◌, ◌%◌, ◌<◌, ◌≤◌, ◌==◌, Bool, true, false, cond, if◌then◌else◌, List, [], ◌∷◌, ◌++◌, length, take, drop, get_or, set, replicate, Option, Some, None, is_some, count_by, refl, sym, ap, ◌∙◌, arith, ◌⊎◌, inl, inr, length-take-le, length-drop, eqb-true}
use Rattle.std.proofs.Math.ListN.{get_or-append, length-append, length-set}
use Rattle.std.proofs.Math.Seq.{get_or-append_right, get_or-take, get_or-drop, get_or-set_same, get_or-set_other, ext_get_or, take_all}
use Rattle.std.proofs.lemmas.List.{get_or_past, length-replicate}
use Rattle.std.proofs.lemmas.List.Sums.{sum_by-cons, sum_by-set}
use Rattle.arm7_model.proofs.MemoryLemmas.{below_or_not}
use Rattle.arm7_bus.specs.Paging.{frame_of, IsUnused}
use Rattle.arm7_bus.specs.Tables.{opened, IsTable}
use Rattle.arm7_bus.proofs.PagingLemmas.{none_at, same_or_not}

-- each part's entries are there
abbrev Within : List ℕ → List (Option ℕ) → Type 0
Within starts entries = (k : ℕ) → k < length starts → get_or starts k 0 + 4096 ≤ length entries

front_length : (start : ℕ) (entries : List (Option ℕ)) → start + 4096 ≤ length entries → length (take 4096 (drop start entries)) ≡ 4096
front_length start entries h = let l = length-drop start entries in length-take-le 4096 (drop start entries) (omega arith)

pub opened_length : (starts : List ℕ) (entries : List (Option ℕ)) → Within starts entries → length (opened starts entries) ≡ 4096 * length starts
opened_length [] entries w = refl
opened_length (start ∷ starts) entries w =
    let front = front_length start entries (w 0 (omega arith)) in
    let rest = opened_length starts entries (λ k lt. w (suc k) (omega arith)) in
    let both = length-append (take 4096 (drop start entries)) (opened starts entries) in
    omega arith

-- where a page's entry stands
abbrev place : List ℕ → ℕ → ℕ
place starts page = get_or starts (page / 4096) 0 + page % 4096

pub opened_at : (starts : List ℕ) (entries : List (Option ℕ)) (page : ℕ) → Within starts entries → page < 4096 * length starts
    → frame_of (opened starts entries) page ≡ get_or entries (place starts page) None
opened_at [] entries page w lt = absurd (omega arith)
opened_at (start ∷ starts) entries page w lt = go (λ (h : 4096 ≤ page). opened_at starts entries (page - 4096) (λ k less. w (suc k) (omega arith)) (omega arith)) (below_or_not page 4096)
  where
    front : length (take 4096 (drop start entries)) ≡ 4096
    front = front_length start entries (w 0 (omega arith))

    go : (4096 ≤ page → get_or (opened starts entries) (page - 4096) None ≡ get_or entries (place starts (page - 4096)) None) → (page < 4096) ⊎ (4096 ≤ page)
        → get_or (opened (start ∷ starts) entries) page None ≡ get_or entries (place (start ∷ starts) page) None
    go behind (inl h) =
        let part : page / 4096 ≡ 0 = omega arith in
        let rest : page % 4096 ≡ page = omega arith in
        get_or-append (take 4096 (drop start entries)) (opened starts entries) None page (omega (arith, front))
        ∙ get_or-take 4096 (drop start entries) page None h
        ∙ get_or-drop start entries page None
        ∙ sym (ap (λ (i : ℕ). get_or entries (get_or (start ∷ starts) i 0 + page % 4096) None) part ∙ ap (λ (i : ℕ). get_or entries (start + i) None) rest)
    go behind (inr h) =
        let part : page / 4096 ≡ suc ((page - 4096) / 4096) = omega arith in
        let rest : page % 4096 ≡ (page - 4096) % 4096 = omega arith in
        get_or-append_right (take 4096 (drop start entries)) (opened starts entries) page None (omega (arith, front))
        ∙ ap (λ (n : ℕ). get_or (opened starts entries) (page - n) None) front
        ∙ behind h
        ∙ sym (ap (λ (i : ℕ). get_or entries (get_or (start ∷ starts) i 0 + page % 4096) None) part ∙ ap (λ (i : ℕ). get_or entries (get_or starts ((page - 4096) / 4096) 0 + i) None) rest)

-- ---- no pages, and pages none of which has a frame

pub no_table : (capacity : ℕ) → IsTable [] [] capacity
no_table capacity = record {
  within = λ k lt. absurd (omega arith);
  whole = λ k. refl;
  own = λ j k e lt. absurd (omega arith);
  none = λ i lt. refl;
  even = refl;
  room = omega arith;
}

zero_at : (n k : ℕ) → ◌≡◌ {A = ℕ} (get_or (replicate n 0) k 0) 0
zero_at zero k = refl
zero_at (suc n) zero = refl
zero_at (suc n) (suc k) = zero_at n k

abbrev as_one : Bool → ℕ
as_one b = cond b 1 0

abbrev one : ℕ → ℕ
one start = as_one (start == 0)

zeros_counted : (n : ℕ) → count_by (λ (start : ℕ). start == 0) (replicate n 0) ≡ n
zeros_counted zero = refl
zeros_counted (suc n) =
    let head = sum_by-cons one 0 (replicate n 0) in
    let rest = zeros_counted n in
    omega (arith, head, rest)

pub table_made : (starts : List ℕ) (entries : List (Option ℕ)) (parts capacity : ℕ) → starts ≡ replicate parts 0 → entries ≡ replicate 4096 None → 4096 * (parts + 1) ≤ capacity
    → IsTable starts entries capacity
table_made starts entries parts capacity s e le = rw (s, e) (record {
  within = λ k lt. let z = zero_at parts k in let l = length-replicate {A = Option ℕ} 4096 None in omega arith;
  whole = λ k. ap (λ (start : ℕ). start % 4096) (zero_at parts k);
  own = λ j k same lt. let z = zero_at parts j in absurd (omega arith);
  none = λ i lt. none_at 4096 i;
  even = ap (λ (n : ℕ). n % 4096) (length-replicate {A = Option ℕ} 4096 None);
  room = let z = zeros_counted parts in let l = length-replicate {A = Option ℕ} 4096 None in omega arith;
})

pub entries_made : (old new : List (Option ℕ)) (ok : Bool) (n : ℕ) → new ≡ (if ok then take 4096 old ++ replicate (4096 - n) None else old) → ok ≡ true → old ≡ [] → n ≡ 0
    → new ≡ replicate 4096 None
entries_made [] new true n e is nil z = e ∙ ap (λ (k : ℕ). replicate (4096 - k) None) z
entries_made [] new false n e is nil z = absurd (cc)
entries_made (o ∷ os) new ok n e is nil z = absurd (cc)

none_counted : (table : List (Option ℕ)) → ((page : ℕ) → frame_of table page ≡ None) → count_by is_some table ≡ 0
none_counted [] h = refl
none_counted (o ∷ os) h =
    let head = sum_by-cons (λ (x : Option ℕ). as_one (is_some x)) o os in
    let first : as_one (is_some o) ≡ 0 = ap (λ (x : Option ℕ). as_one (is_some x)) (h 0) in
    let rest = none_counted os (λ page. h (suc page)) in
    omega (arith, head, first, rest)

pub table_unused : (starts : List ℕ) (entries : List (Option ℕ)) (parts : ℕ) → starts ≡ replicate parts 0 → entries ≡ replicate 4096 None → IsUnused (opened starts entries) (4096 * parts)
table_unused starts entries parts s e = record {
  pages = size;
  none = empty;
  count = none_counted (opened starts entries) empty;
}
  where
    all : Within starts entries
    all = (table_made starts entries parts (4096 * (parts + 1)) s e (omega arith)).within

    size : length (opened starts entries) ≡ 4096 * parts
    size = opened_length starts entries all ∙ ap (λ (n : ℕ). 4096 * n) (ap length s ∙ length-replicate parts 0)

    at : (page : ℕ) → (page < 4096 * parts) ⊎ (4096 * parts ≤ page) → frame_of (opened starts entries) page ≡ None
    at page (inl lt) =
        opened_at starts entries page all (let n = ap length s ∙ length-replicate parts 0 in omega arith)
        ∙ ap (λ (xs : List (Option ℕ)). get_or xs (place starts page) None) e ∙ none_at 4096 (place starts page)
    at page (inr le) = get_or_past (opened starts entries) page None (omega (arith, size))

    empty : (page : ℕ) → frame_of (opened starts entries) page ≡ None
    empty page = at page (below_or_not page (4096 * parts))

pub table_larger : (starts : List ℕ) (entries : List (Option ℕ)) (capacity larger : ℕ) → IsTable starts entries capacity → capacity ≤ larger → IsTable starts entries larger
table_larger starts entries capacity larger t le = record {
  within = t.within;
  whole = t.whole;
  own = t.own;
  none = t.none;
  even = t.even;
  room = let r = t.room in omega arith;
}

-- ---- a page takes a frame

module _ (starts : List ℕ) (entries : List (Option ℕ)) (capacity page start frame : ℕ) (t : IsTable starts entries capacity)
    (lt : page < 4096 * length starts) (is : start ≡ get_or starts (page / 4096) 0) (made : 0 < start) where
  within_set : Within starts (set entries (start + page % 4096) (Some frame))
  within_set k less = let l = length-set entries (start + page % 4096) (Some frame) in let w = t.within k less in omega arith

  inside : start + page % 4096 < length entries
  inside = let w = t.within (page / 4096) (omega arith) in omega arith

  apart : (q : ℕ) → q ≢ page → place starts q ≢ start + page % 4096
  apart q other e =
      let a = t.whole (q / 4096) in
      let b = t.whole (page / 4096) in
      let same : get_or starts (page / 4096) 0 ≡ get_or starts (q / 4096) 0 = omega arith in
      let part : page / 4096 ≡ q / 4096 = t.own (page / 4096) (q / 4096) same (omega arith) in
      other (omega arith)

  pub opened_set : opened starts (set entries (start + page % 4096) (Some frame)) ≡ set (opened starts entries) page (Some frame)
  opened_set = ext_get_or None (opened starts (set entries (start + page % 4096) (Some frame))) (set (opened starts entries) page (Some frame))
      (opened_length starts (set entries (start + page % 4096) (Some frame)) within_set ∙ sym (length-set (opened starts entries) page (Some frame) ∙ opened_length starts entries t.within))
      (λ q less. go q (let l = opened_length starts (set entries (start + page % 4096) (Some frame)) within_set in omega arith) (same_or_not q page))
    where
      go : (q : ℕ) → q < 4096 * length starts → (q ≡ page) ⊎ (q ≢ page)
          → get_or (opened starts (set entries (start + page % 4096) (Some frame))) q None ≡ get_or (set (opened starts entries) page (Some frame)) q None
      go q less (inl same) =
          let at : place starts q ≡ start + page % 4096 = rw same (ap (λ (i : ℕ). i + page % 4096) (sym is)) in
          opened_at starts (set entries (start + page % 4096) (Some frame)) q within_set less
          ∙ ap (λ (i : ℕ). get_or (set entries (start + page % 4096) (Some frame)) i None) at
          ∙ get_or-set_same entries (start + page % 4096) (Some frame) None inside
          ∙ sym (ap (λ (i : ℕ). get_or (set (opened starts entries) page (Some frame)) i None) same
          ∙ get_or-set_same (opened starts entries) page (Some frame) None (let l = opened_length starts entries t.within in omega arith))
      go q less (inr other) =
          opened_at starts (set entries (start + page % 4096) (Some frame)) q within_set less
          ∙ get_or-set_other entries (start + page % 4096) (place starts q) (Some frame) None (apart q other)
          ∙ sym (opened_at starts entries q t.within less)
          ∙ sym (get_or-set_other (opened starts entries) page q (Some frame) None other)

  pub table_set : IsTable starts (set entries (start + page % 4096) (Some frame)) capacity
  table_set = record {
    within = within_set;
    whole = t.whole;
    own = t.own;
    none = λ i less. get_or-set_other entries (start + page % 4096) i (Some frame) None (λ e. let w = t.whole (page / 4096) in absurd (omega arith)) ∙ t.none i less;
    even = ap (λ (n : ℕ). n % 4096) (length-set entries (start + page % 4096) (Some frame)) ∙ t.even;
    room = let l = length-set entries (start + page % 4096) (Some frame) in let r = t.room in omega arith;
  }

-- ---- a part is made

pub entries_more : (entries new : List (Option ℕ)) (ok : Bool) (start n : ℕ) → new ≡ (if ok then take (start + 4096) entries ++ replicate (start + 4096 - n) None else entries)
    → ok ≡ true → start ≡ length entries → n ≡ length entries → new ≡ entries ++ replicate 4096 None
entries_more entries new true start n e is s l =
    let left : start + 4096 - n ≡ 4096 = omega arith in
    e ∙ ap (λ (xs : List (Option ℕ)). xs ++ replicate (start + 4096 - n) None) (take_all (start + 4096) entries (omega arith)) ∙ ap (λ (k : ℕ). entries ++ replicate k None) left
entries_more entries new false start n e is s l = absurd (cc)

module _ (starts : List ℕ) (entries : List (Option ℕ)) (capacity part : ℕ) (t : IsTable starts entries capacity)
    (lt : part < length starts) (absent : get_or starts part 0 ≡ 0) where
  some_zero : 1 + count_by (λ (start : ℕ). start == 0) (set starts part (length entries)) ≡ count_by (λ (start : ℕ). start == 0) starts
  some_zero =
      let h = sum_by-set one starts part (length entries) 0 lt in
      let old : one (get_or starts part 0) ≡ 1 = ap one absent in
      let w = t.within part lt in
      let new : one (length entries) ≡ 0 = later (length entries) (length entries == 0) refl (omega arith) in
      omega (arith, h, old, new)
    where
      later : (n : ℕ) (b : Bool) → (n == 0) ≡ b → 0 < n → one n ≡ 0
      later n true e h = let z = eqb-true n 0 e in absurd (omega arith)
      later n false e h = ap as_one e

  pub room_left : length entries + 4096 ≤ capacity
  room_left = let z = some_zero in let r = t.room in omega arith

  new_length : length (entries ++ replicate {A = Option ℕ} 4096 None) ≡ length entries + 4096
  new_length = length-append entries (replicate {A = Option ℕ} 4096 None) ∙ ap (λ (n : ℕ). length entries + n) (length-replicate {A = Option ℕ} 4096 None)

  start_at : (k : ℕ) → (k ≡ part) ⊎ (k ≢ part) → (get_or (set starts part (length entries)) k 0 ≡ length entries) ⊎ (get_or (set starts part (length entries)) k 0 ≡ get_or starts k 0)
  start_at k (inl same) = inl (ap (λ (i : ℕ). get_or (set starts part (length entries)) i 0) same ∙ get_or-set_same starts part (length entries) 0 lt)
  start_at k (inr other) = inr (get_or-set_other starts part k (length entries) 0 other)

  within_more : Within (set starts part (length entries)) (entries ++ replicate 4096 None)
  within_more k less = go (start_at k (same_or_not k part))
    where
      go : (get_or (set starts part (length entries)) k 0 ≡ length entries) ⊎ (get_or (set starts part (length entries)) k 0 ≡ get_or starts k 0)
          → get_or (set starts part (length entries)) k 0 + 4096 ≤ length (entries ++ replicate 4096 None)
      go (inl e) = let l = new_length in omega arith
      go (inr e) = let l = new_length in let w = t.within k (let s = length-set starts part (length entries) in omega arith) in omega arith

  below : (k : ℕ) → get_or starts k 0 < length entries
  below k = go (below_or_not k (length starts))
    where
      go : (k < length starts) ⊎ (length starts ≤ k) → get_or starts k 0 < length entries
      go (inl h) = let w = t.within k h in omega arith
      go (inr h) = let d = get_or_past starts k 0 h in let w = t.within part lt in omega arith

  pub opened_more : opened (set starts part (length entries)) (entries ++ replicate 4096 None) ≡ opened starts entries
  opened_more = ext_get_or None (opened (set starts part (length entries)) (entries ++ replicate 4096 None)) (opened starts entries)
      (sizes ∙ sym (opened_length starts entries t.within))
      (λ q less. go q (let s = sizes in omega arith) (same_or_not (q / 4096) part))
    where
      sizes : length (opened (set starts part (length entries)) (entries ++ replicate 4096 None)) ≡ 4096 * length starts
      sizes = opened_length (set starts part (length entries)) (entries ++ replicate 4096 None) within_more ∙ ap (λ (n : ℕ). 4096 * n) (length-set starts part (length entries))

      new_at : (q : ℕ) → q < 4096 * length starts
          → get_or (opened (set starts part (length entries)) (entries ++ replicate 4096 None)) q None ≡ get_or (entries ++ replicate 4096 None) (place (set starts part (length entries)) q) None
      new_at q less = opened_at (set starts part (length entries)) (entries ++ replicate 4096 None) q within_more (let s = length-set starts part (length entries) in omega arith)

      go : (q : ℕ) → q < 4096 * length starts → (q / 4096 ≡ part) ⊎ (q / 4096 ≢ part)
          → get_or (opened (set starts part (length entries)) (entries ++ replicate 4096 None)) q None ≡ get_or (opened starts entries) q None
      go q less (inl same) =
          let new : place (set starts part (length entries)) q ≡ length entries + q % 4096 =
          ap (λ (i : ℕ). get_or (set starts part (length entries)) i 0 + q % 4096) same ∙ ap (λ (i : ℕ). i + q % 4096) (get_or-set_same starts part (length entries) 0 lt) in
          let old : place starts q ≡ q % 4096 = ap (λ (i : ℕ). get_or starts i 0 + q % 4096) same ∙ ap (λ (i : ℕ). i + q % 4096) absent ∙ omega arith in
          new_at q less
          ∙ ap (λ (i : ℕ). get_or (entries ++ replicate 4096 None) i None) new
          ∙ get_or-append_right entries (replicate 4096 None) (length entries + q % 4096) None (omega arith)
          ∙ none_at 4096 (length entries + q % 4096 - length entries)
          ∙ sym (opened_at starts entries q t.within less ∙ ap (λ (i : ℕ). get_or entries i None) old ∙ t.none (q % 4096) (omega arith))
      go q less (inr other) =
          new_at q less
          ∙ ap (λ (i : ℕ). get_or (entries ++ replicate 4096 None) (i + q % 4096) None) (get_or-set_other starts part (q / 4096) (length entries) 0 other)
          ∙ get_or-append entries (replicate 4096 None) None (place starts q) (let w = t.within (q / 4096) (omega arith) in omega arith)
          ∙ sym (opened_at starts entries q t.within less)

  pub table_more : IsTable (set starts part (length entries)) (entries ++ replicate 4096 None) capacity
  table_more = record {
    within = within_more;
    whole = λ k. whole_at k (start_at k (same_or_not k part));
    own = λ j k e some. own_at j k (same_or_not j part) (same_or_not k part) e some;
    none = λ i less. get_or-append entries (replicate 4096 None) None i (let w = t.within part lt in omega arith) ∙ t.none i less;
    even = let l = new_length in let e = t.even in omega arith;
    room = let l = new_length in let z = some_zero in let r = t.room in omega arith;
  }
    where
      whole_at : (k : ℕ) → (get_or (set starts part (length entries)) k 0 ≡ length entries) ⊎ (get_or (set starts part (length entries)) k 0 ≡ get_or starts k 0)
          → get_or (set starts part (length entries)) k 0 % 4096 ≡ 0
      whole_at k (inl e) = ap (λ (n : ℕ). n % 4096) e ∙ t.even
      whole_at k (inr e) = ap (λ (n : ℕ). n % 4096) e ∙ t.whole k

      own_at : (j k : ℕ) → (j ≡ part) ⊎ (j ≢ part) → (k ≡ part) ⊎ (k ≢ part)
          → get_or (set starts part (length entries)) j 0 ≡ get_or (set starts part (length entries)) k 0 → 0 < get_or (set starts part (length entries)) j 0 → j ≡ k
      own_at j k (inl a) (inl b) e some = a ∙ sym b
      own_at j k (inl a) (inr b) e some =
          let new = ap (λ (i : ℕ). get_or (set starts part (length entries)) i 0) a ∙ get_or-set_same starts part (length entries) 0 lt in
          let old = get_or-set_other starts part k (length entries) 0 b in
          let less = below k in
          absurd (omega arith)
      own_at j k (inr a) (inl b) e some =
          let new = ap (λ (i : ℕ). get_or (set starts part (length entries)) i 0) b ∙ get_or-set_same starts part (length entries) 0 lt in
          let old = get_or-set_other starts part j (length entries) 0 a in
          let less = below j in
          absurd (omega arith)
      own_at j k (inr a) (inr b) e some =
          let old = get_or-set_other starts part j (length entries) 0 a in
          let new = get_or-set_other starts part k (length entries) 0 b in
          t.own j k (sym old ∙ e ∙ new) (omega arith)
