-- Reading one item for each head, as a loop does, and how far areas reach in OBJ_AREA.
use Rattle.std.proofs.Common.{◌≡◌, ℕ, ◌+◌, ◌≤◌, ◌<◌, List, [], ◌∷◌, ◌++◌, length, take, drop, get_or, Result, Ok, Err, refl, sym, ap, ◌∙◌, arith}
use Rattle.std.proofs.lemmas.List.{drop_more, drop_all, take_more, take-append-drop}
use Rattle.sdt_fault.specs.declared.answer.Fault.{Fault}
use Rattle.sdt_fault.specs.declared.refusal.Refusal.{Refusal}
use Rattle.chunk_file.specs.Reading.{Gives}
use Rattle.chunk_file.proofs.Loops.{fails}
use Rattle.aof_object.specs.declared.areas.AreaHead.{AreaHead}
use Rattle.aof_object.specs.Objects.{each_of, extent, total}

pub of_goes_on : {H A : Type 0} (step : List A → H → Result A Refusal) (before : List A) (hs : List H) (i : ℕ) (h : H) (x : A) (whole : Result (List A) Refusal)
    → i < length hs → h ≡ get_or hs i h → step before h ≡ Ok x → each_of step (drop i hs) before ≡ whole → each_of step (drop (i + 1) hs) (before ++ x ∷ []) ≡ whole
of_goes_on step before hs i h x whole lt is read so_far =
    let k : drop i hs ≡ h ∷ drop (i + 1) hs = drop_more hs i h lt ∙ ap (λ y. y ∷ drop (i + 1) hs) (sym is) in
    let one : each_of step (drop i hs) before ≡ each_of step (drop (i + 1) hs) (before ++ x ∷ []) = rw (k, read) refl in
    sym one ∙ so_far

pub of_ends : {H A : Type 0} (e : Fault) (step : List A → H → Result A Refusal) (before : List A) (hs : List H) (i : ℕ) (h : H) (whole : Result (List A) Refusal)
    → i < length hs → h ≡ get_or hs i h → Gives (Err e) (step before h) → each_of step (drop i hs) before ≡ whole → Gives (Err e) whole
of_ends e step before hs i h whole lt is read so_far =
    let k : drop i hs ≡ h ∷ drop (i + 1) hs = drop_more hs i h lt ∙ ap (λ y. y ∷ drop (i + 1) hs) (sym is) in
    fails e (step before h) (λ x. each_of step (drop (i + 1) hs) (before ++ x ∷ [])) whole read (ap (λ r. each_of step r before) (sym k) ∙ so_far)

pub of_is_done : {H A : Type 0} (step : List A → H → Result A Refusal) (before : List A) (hs : List H) (i : ℕ) (whole : Result (List A) Refusal)
    → length hs ≤ i → each_of step (drop i hs) before ≡ whole → whole ≡ Ok before
of_is_done step before hs i whole le so_far = sym so_far ∙ ap (λ r. each_of step r before) (drop_all i hs le)

-- ---- totals

pub total-append : (hs js : List AreaHead) → total (hs ++ js) ≡ total hs + total js
total-append [] js = omega arith
total-append (h ∷ hs) js = let e = total-append hs js in omega (arith, e)

pub total_more : (hs : List AreaHead) (i : ℕ) (h : AreaHead) → i < length hs → h ≡ get_or hs i h → total (take (i + 1) hs) ≡ total (take i hs) + extent h
total_more hs i h lt is =
    let e : take (i + 1) hs ≡ take i hs ++ h ∷ [] = take_more hs i h lt ∙ ap (λ (y : AreaHead). take i hs ++ y ∷ []) (sym is) in
    let t = total-append (take i hs) (h ∷ []) in
    rw e (omega (arith, t))

-- an area reaches no further than all do
pub total_room : (hs : List AreaHead) (i : ℕ) (h : AreaHead) → i < length hs → h ≡ get_or hs i h → total (take i hs) + extent h ≤ total hs
total_room hs i h lt is =
    let more = total_more hs i h lt is in
    let split : total (take (i + 1) hs) + total (drop (i + 1) hs) ≡ total hs = sym (total-append (take (i + 1) hs) (drop (i + 1) hs)) ∙ ap total (take-append-drop (i + 1) hs) in
    omega (arith, more, split)
