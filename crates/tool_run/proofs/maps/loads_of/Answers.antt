use Rattle.std.proofs.Common.{◌≡◌, ℕ, ◌+◌, ◌<◌, List, [], ◌∷◌, ◌++◌, length, map, take, get_or, refl, sym, ap, ◌∙◌, add-one}
use Rattle.std.proofs.Math.Seq.{take-suc}
use Rattle.std.proofs.lemmas.Iterator.{YieldsList-from_slice, YieldsList-from_zip}
use Rattle.std.proofs.lemmas.Iterator.Adapters.{YieldsList-from_vec}
use Rattle.std.proofs.lemmas.Iterator.Consumers.{YieldsList-turn, YieldsList-end}
use Rattle.std.proofs.lemmas.List.{length_push}
use Rattle.std.specs.List.{zip}
use Rattle.bin_image.specs.declared.records.MapLoad.{MapLoad}
use Rattle.run_opening.specs.declared.image.Load.{Load}
use Rattle.tool_run.specs.Images.{load_of}
use Rattle.tool_run.proofs.maps.loads_of.Goals as goal

behind_all : (front : List (MapLoad × List ℕ)) (p : MapLoad × List ℕ) → map load_of (front ++ p ∷ []) ≡ map load_of front ++ load_of p ∷ []
behind_all [] p = refl
behind_all (q ∷ front) p = ap (λ (ls : List Load). load_of q ∷ ls) (behind_all front p)

one_more : (pairs : List (MapLoad × List ℕ)) (loads now : List Load) (k n : ℕ) (p : MapLoad × List ℕ) → k < length pairs → p ≡ get_or pairs k p → n ≡ k + 1
    → loads ≡ map load_of (take k pairs) → now ≡ loads ++ load_of p ∷ [] → now ≡ map load_of (take n pairs)
one_more pairs loads now k n p lt is more before push =
    let one : take n pairs ≡ take k pairs ++ p ∷ [] = ap (λ (x : ℕ). take x pairs) more ∙ rw add-one (take-suc pairs k p lt ∙ ap (λ (x : MapLoad × List ℕ). take k pairs ++ x ∷ []) (sym is)) in
    push ∙ (ap (λ (ls : List Load). ls ++ load_of p ∷ []) before ∙ (sym (behind_all (take k pairs) p) ∙ ap (map load_of) (sym one)))

all_taken : (pairs : List (MapLoad × List ℕ)) (k : ℕ) → k ≡ length pairs → take k pairs ≡ pairs
all_taken pairs k is = ap (λ (x : ℕ). take x pairs) is ∙ take_length pairs
  where
    take_length : (xs : List (MapLoad × List ℕ)) → take (length xs) xs ≡ xs
    take_length [] = refl
    take_length (x ∷ xs) = ap (λ (ys : List (MapLoad × List ℕ)). x ∷ ys) (take_length xs)

pub loop-line-preserved : goal.loop-line-preserved
loop-line-preserved c =
    let chain = YieldsList-from_zip (YieldsList-from_slice c.args.lines.now (cc)) (YieldsList-from_vec c.args.contents.items (cc) (cc)) in
    let turn = YieldsList-turn chain c.loop-line.yielded c.loop-line.line-iterator c.loop-line.yielded_by c.next.result c.next.new.self (c.in-Some.line, c.in-Some.bytes) c.in-Some.is c.next.ensures.steps in
    one_more (zip c.args.lines.now c.args.contents.items) c.loop-line.loads.items c.push.new.self.items (length c.loop-line.yielded) _ (c.in-Some.line.now, c.in-Some.bytes) turn.0 turn.1 (length_push c.loop-line.yielded (c.in-Some.line, c.in-Some.bytes)) c.loop-line.invariant c.in_ok-push.ensures.items

pub returns : goal.returns
returns c =
    let chain = YieldsList-from_zip (YieldsList-from_slice c.args.lines.now (cc)) (YieldsList-from_vec c.args.contents.items (cc) (cc)) in
    let end = YieldsList-end chain c.loop-line.yielded c.loop-line.line-iterator c.loop-line.yielded_by c.next.result c.next.new.self c.in-None.is c.next.ensures.steps in
    c.loop-line.invariant ∙ ap (map load_of) (all_taken (zip c.args.lines.now c.args.contents.items) (length c.loop-line.yielded) end.1)
