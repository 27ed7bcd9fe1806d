-- The loop over program headers: what the step at each gives, and what its checks say.
use Rattle.std.proofs.Common.{◌≡◌, ℕ, suc, ◌+◌, ◌-◌, ◌<◌, Bool, true, false, cond, not, ◌||◌, List, [], ◌∷◌, ◌++◌, length, Option, Some, None, Result, Ok, Err, refl, sym, ap, ◌∙◌, arith}
use Rattle.std.specs.List.{list_any}
use Rattle.sdt_fault.specs.declared.answer.Fault.{Fault}
use Rattle.sdt_fault.specs.declared.answer.Fault.TheVariants as fault
use Rattle.sdt_fault.specs.declared.refusal.Refusal.{Refusal}
use Rattle.chunk_file.specs.Reading.{Gives}
use Rattle.elf_image.specs.declared.records.Segment.{Segment}
use Rattle.elf_image.specs.Checks.{Fits, Apart, load_checks, header_at, segment_at, segments_before, told}
use Rattle.elf_image.specs.Reading.{is_load, is_segment, meets, judged, segment_of, told_items}

-- ---- one header, by what its tests say

abbrev step : Bool → Bool → Bool → Segment → Refusal → Refusal → Result (Option Segment) Refusal
step load fits shared s misfit overlap = cond load (cond fits (cond shared (Err overlap) (Ok (Some s))) (Err misfit)) (Ok None)

abbrev tests : {A : Type 0} → Bool → Bool → Bool → Refusal → Refusal → Result A Refusal → Result A Refusal
tests load fits shared misfit overlap y = cond (not load || fits) (cond (not load || not shared) y (Err overlap)) (Err misfit)

passes : {A : Type 0} (load fits shared : Bool) (s : Segment) (misfit overlap : Refusal) (o : Option Segment) (y : Result A Refusal)
    → step load fits shared s misfit overlap ≡ Ok o → (tests load fits shared misfit overlap y ≡ y) × (told_items o ≡ cond load (s ∷ []) [])
passes false fits shared s misfit overlap None y e = (refl, refl)
passes false fits shared s misfit overlap (Some t) y e = absurd cc
passes true false shared s misfit overlap o y e = absurd cc
passes true true true s misfit overlap o y e = absurd cc
passes true true false s misfit overlap None y e = absurd cc
passes true true false s misfit overlap (Some t) y e = let same : s ≡ t = cc in (refl, ap (λ u. u ∷ []) (sym same))

stops : {A : Type 0} (load fits shared : Bool) (s : Segment) (misfit overlap r : Refusal) (y : Result A Refusal)
    → step load fits shared s misfit overlap ≡ Err r → tests load fits shared misfit overlap y ≡ Err r
stops false fits shared s misfit overlap r y e = absurd cc
stops true false shared s misfit overlap r y e = let same : misfit ≡ r = cc in ap (λ q. Err q) same
stops true true true s misfit overlap r y e = let same : overlap ≡ r = cc in ap (λ q. Err q) same
stops true true false s misfit overlap r y e = absurd cc

-- ---- the loop

one_more : (k n : ℕ) → k < n → load_checks k (n - k) ≡ Fits k ∷ Apart k ∷ load_checks (k + 1) (n - (k + 1))
one_more k n lt =
    let left : n - k ≡ suc (n - (k + 1)) = omega arith in
    let next : suc k ≡ k + 1 = omega arith in
    ap (λ m. load_checks k m) left ∙ ap (λ j. Fits k ∷ Apart k ∷ load_checks j (n - (k + 1))) next

module _ (b : List ℕ) (k n : ℕ) (lt : k < n) where
  pub goes_on : {A : Type 0} (x : A) (o : Option Segment) (total : Result A Refusal) → segment_of b (header_at b k) (segments_before b k) ≡ Ok o
      → judged (load_checks k (n - k)) b x ≡ total → judged (load_checks (k + 1) (n - (k + 1))) b x ≡ total
  unfolding segment_of
  goes_on x o total e so_far =
      sym (passes (is_load b (header_at b k)) (is_segment (length b) (segment_at b (header_at b k))) (list_any (meets (segment_at b (header_at b k))) (segments_before b k)) (segment_at b (header_at b k)) (told (Fits k) b) (told (Apart k) b) o (judged (load_checks (k + 1) (n - (k + 1))) b x) e).0
      ∙ (ap (λ cs. judged cs b x) (sym (one_more k n lt)) ∙ so_far)

  pub items : (o : Option Segment) → segment_of b (header_at b k) (segments_before b k) ≡ Ok o → segments_before b k ++ told_items o ≡ segments_before b (k + 1)
  unfolding segment_of
  items o e =
      let next : suc k ≡ k + 1 = omega arith in
      ap (λ ys. segments_before b k ++ ys) (passes (is_load b (header_at b k)) (is_segment (length b) (segment_at b (header_at b k))) (list_any (meets (segment_at b (header_at b k))) (segments_before b k)) (segment_at b (header_at b k)) (told (Fits k) b) (told (Apart k) b) o (Ok o) e).1
      ∙ ap (λ (j : ℕ). segments_before b j) next

  refuses : {A : Type 0} (x : A) (r : Refusal) (total : Result A Refusal) → segment_of b (header_at b k) (segments_before b k) ≡ Err r
      → judged (load_checks k (n - k)) b x ≡ total → total ≡ Err r
  unfolding segment_of
  refuses x r total e so_far =
      sym so_far
      ∙ (ap (λ cs. judged cs b x) (one_more k n lt)
      ∙ stops (is_load b (header_at b k)) (is_segment (length b) (segment_at b (header_at b k))) (list_any (meets (segment_at b (header_at b k))) (segments_before b k)) (segment_at b (header_at b k)) (told (Fits k) b) (told (Apart k) b) r (judged (load_checks (k + 1) (n - (k + 1))) b x) e)

  pub ends : {A : Type 0} (x : A) (e : Fault) (total : Result A Refusal) → Gives (Err e) (segment_of b (header_at b k) (segments_before b k))
      → judged (load_checks k (n - k)) b x ≡ total → Gives (Err e) total
  ends x fault.NoMemory total h so_far = tt
  ends x (fault.Refused r) total h so_far = refuses x r total h so_far
  ends x (fault.ReadFault name) total h so_far = absurd h
