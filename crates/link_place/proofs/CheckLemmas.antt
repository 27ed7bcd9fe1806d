-- Lemmas on what is told of a layout.
use Rattle.std.proofs.Common.{◌≡◌, ◌+◌, ◌^◌, ◌≤◌, List, [], ◌∷◌, ◌++◌, map, refl, ap, sym, ◌∙◌, arith, Option, Some, None, take, drop}
use Rattle.std.specs.Prelude.{slice_get}
use Rattle.std.specs.List.{filter, filter_map, cons_option, AllByRecursion}
use Rattle.std.specs.Option.{option_or}
use Rattle.sdt_fault.specs.declared.refusal.Refusal.{Refusal}
use Rattle.place_model.specs.Faults.{first_told, Judged, overfull}
use Rattle.std.proofs.lemmas.List.{take-append-drop}
use Rattle.place_model.proofs.ListLemmas.{all_map, all_of_map, all_filter, none_given}
use Rattle.place_model.proofs.ToldLemmas.{told_law}
use Rattle.base_lemmas.proofs.BaseLemmas.{all_append, all_front, all_back, all_weaker}
use Rattle.link_place.specs.declared.layouts.RegionLayout.{RegionLayout}
use Rattle.link_place.specs.declared.layouts.Load.{Load}
use Rattle.link_place.specs.declared.faults.Move.{Move}
use Rattle.link_place.specs.Layouts.{is_copied}
use Rattle.link_place.specs.Checks.{move_of_load, move_of_region, move_of_copy, judged_laid, judged_load, judged_by, overfull_by, IsLow, IsLowLoad}

pub told_cons : {X : Type 0} (wrong : X → Option Refusal) (x : X) (xs : List X) → first_told wrong (x ∷ xs) ≡ option_or (wrong x) (first_told wrong xs)
told_cons wrong x xs = go (wrong x)
  where
    go : (o : Option Refusal) → slice_get (cons_option o (filter_map wrong xs)) 0 ≡ option_or o (slice_get (filter_map wrong xs) 0)
    go None = refl
    go (Some r) = refl

pub told_append : {X : Type 0} (wrong : X → Option Refusal) (xs ys : List X) → first_told wrong (xs ++ ys) ≡ option_or (first_told wrong xs) (first_told wrong ys)
told_append wrong [] ys = refl
told_append wrong (x ∷ xs) ys = go (wrong x) (told_append wrong xs ys)
  where
    go : (o : Option Refusal) → slice_get (filter_map wrong (xs ++ ys)) 0 ≡ option_or (slice_get (filter_map wrong xs) 0) (slice_get (filter_map wrong ys) 0)
        → slice_get (cons_option o (filter_map wrong (xs ++ ys))) 0 ≡ option_or (slice_get (cons_option o (filter_map wrong xs)) 0) (slice_get (filter_map wrong ys) 0)
    go None rest = rest
    go (Some r) rest = refl

-- of a load region, of its regions and of the rest
told_in : (d : Judged) (own later : List Judged) → first_told overfull (d ∷ (own ++ later)) ≡ option_or (option_or (overfull d) (first_told overfull own)) (first_told overfull later)
told_in d own later = told_cons overfull d (own ++ later) ∙ go (overfull d)
  where
    go : (o : Option Refusal) → option_or o (first_told overfull (own ++ later)) ≡ option_or (option_or o (first_told overfull own)) (first_told overfull later)
    go None = told_append overfull own later
    go (Some r) = refl

pub told_here : (d : Load) (ds : List Load) (rest : List RegionLayout) (r : Refusal) (all : Option Refusal) → first_told overfull (judged_by (d ∷ ds) rest) ≡ all
    → Some r ≡ overfull_by d (take d.count rest) → Some r ≡ all
told_here d ds rest r all known here =
    ap (λ (o : Option Refusal). option_or o (first_told overfull (judged_by ds (drop d.count rest)))) here
    ∙ (sym (told_in (judged_load d) (map judged_laid (take d.count rest)) (judged_by ds (drop d.count rest))) ∙ known)

pub told_later : (d : Load) (ds : List Load) (rest : List RegionLayout) (all : Option Refusal) → first_told overfull (judged_by (d ∷ ds) rest) ≡ all
    → None ≡ overfull_by d (take d.count rest) → first_told overfull (judged_by ds (drop d.count rest)) ≡ all
told_later d ds rest all known here =
    ap (λ (o : Option Refusal). option_or o (first_told overfull (judged_by ds (drop d.count rest)))) here
    ∙ (sym (told_in (judged_load d) (map judged_laid (take d.count rest)) (judged_by ds (drop d.count rest))) ∙ known)

abbrev pub IsLowMove : Move → Type 0
IsLowMove m = m.written.base + m.written.size ≤ 2 ^ 32

pub low_loads : (ds : List Load) → AllByRecursion IsLowLoad ds → AllByRecursion IsLowMove (map move_of_load ds)
low_loads ds all = all_map IsLowMove move_of_load ds all

pub low_regions : (ls : List RegionLayout) → AllByRecursion IsLow ls → AllByRecursion IsLowMove (map move_of_region ls)
low_regions ls all = all_map IsLowMove move_of_region ls all

pub low_copies : (ls : List RegionLayout) → AllByRecursion IsLow ls → AllByRecursion IsLowMove (map move_of_copy (filter is_copied ls))
low_copies ls all =
    all_map IsLowMove move_of_copy (filter is_copied ls)
    (all_filter (λ l. IsLowMove (move_of_copy l)) is_copied ls (all_weaker IsLow (λ l. IsLowMove (move_of_copy l)) (λ l h. omega arith) ls all))

-- ---- what has room ends at 2^32 or below

abbrev pub HasNoFault : Judged → Type 0
HasNoFault j = overfull j ≡ None

all_judged : (ds : List Load) (ls : List RegionLayout) → AllByRecursion HasNoFault (judged_by ds ls) → AllByRecursion (λ l. HasNoFault (judged_laid l)) ls × AllByRecursion (λ d. HasNoFault (judged_load d)) ds
all_judged [] ls all = (all_of_map HasNoFault judged_laid ls all, tt)
all_judged (d ∷ ds) ls (first, all) =
    let own = all_of_map HasNoFault judged_laid (take d.count ls) (all_front HasNoFault (map judged_laid (take d.count ls)) (judged_by ds (drop d.count ls)) all) in
    let later = all_judged ds (drop d.count ls) (all_back HasNoFault (map judged_laid (take d.count ls)) (judged_by ds (drop d.count ls)) all) in
    let both = all_append (λ l. HasNoFault (judged_laid l)) (take d.count ls) (drop d.count ls) own later.0 in
    (rw (take-append-drop d.count ls) at both, (first, later.1))

pub low_of : (ds : List Load) (ls : List RegionLayout) → first_told overfull (judged_by ds ls) ≡ None → AllByRecursion IsLow ls × AllByRecursion IsLowLoad ds
low_of ds ls none =
    let all = all_judged ds ls (none_given overfull (judged_by ds ls) none) in (
      all_weaker (λ l. HasNoFault (judged_laid l)) IsLow (λ l h. ((told_law.room (judged_laid l)).0 h).memory) ls all.0,
      all_weaker (λ d. HasNoFault (judged_load d)) IsLowLoad (λ d h. ((told_law.room (judged_load d)).0 h).memory) ds all.1,
    )

pub none_left : {X : Type 0} (o : Option X) → ((x : X) → o ≡ Some x → ⊥) → o ≡ None
none_left None h = refl
none_left (Some x) h = absurd (h x refl)
