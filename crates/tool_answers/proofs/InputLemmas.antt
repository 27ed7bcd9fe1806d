-- Inputs read one after the other.
use Rattle.std.proofs.Common.{◌≡◌, ℕ, ◌+◌, ◌<◌, List, [], ◌∷◌, ◌++◌, length, take, drop, get_or, suc, Option, Some, None, Result, Ok, Err, refl, sym, ap, ◌∙◌, subst, arith, add-one, ◌≤◌}
use Rattle.std.proofs.Math.Seq.{take-suc, split_at}
use Rattle.sdt_fault.specs.declared.refusal.Refusal.{Refusal}
use Rattle.sdt_fault.specs.declared.refusal.Refusal.TheVariants.{Missing}
use Rattle.sdt_outside.specs.Counts.{Rose}
use Rattle.sdt_outside.specs.Files.{Files, IsFound}
use Rattle.tool_answers.specs.declared.inputs.InputEnd.{InputEnd}
use Rattle.tool_answers.specs.declared.inputs.InputEnd.TheVariants as end
use Rattle.tool_answers.specs.Inputs.{found_or, input_of, before_others, and_others, inputs_of, AreInputs, IsEnd, InputsEnd}

-- what all give, from what those in front and the others give
behind : Files → List (List ℕ) → Result (List (List ℕ)) Refusal → Result (List (List ℕ)) Refusal
behind files [] others = others
behind files (n ∷ ns) others = and_others (input_of files n) (behind files ns others)

split : (files : Files) (front rest : List (List ℕ)) → inputs_of files (front ++ rest) ≡ behind files front (inputs_of files rest)
unfolding behind
split files [] rest = refl
split files (n ∷ front) rest = ap (and_others (input_of files n)) (split files front rest)

joined : List (List ℕ) → Result (List (List ℕ)) Refusal → Result (List (List ℕ)) Refusal
joined [] others = others
joined (b ∷ bs) others = before_others b (joined bs others)

one_of : (bytes : Result (List ℕ) Refusal) (others all : Result (List (List ℕ)) Refusal) (cs : List (List ℕ)) → and_others bytes others ≡ Ok cs
    → (b : List ℕ) × (bs : List (List ℕ)) × (bytes ≡ Ok b) × (others ≡ Ok bs) × (cs ≡ b ∷ bs)
one_of (Ok b) (Ok bs) all cs h = (b, bs, refl, refl, let e : Ok (b ∷ bs) ≡ Ok cs = h in cc)
one_of (Ok b) (Err r) all cs h = absurd (let bad : Err r ≡ Ok cs = h in cc)
one_of (Err r) others all cs h = absurd (let bad : Err r ≡ Ok cs = h in cc)

-- where those in front were read, the others come behind them
front_read : (files : Files) (front cs : List (List ℕ)) (others : Result (List (List ℕ)) Refusal) → inputs_of files front ≡ Ok cs → behind files front others ≡ joined cs others
unfolding behind joined
front_read files [] cs others h = let e : [] ≡ cs = (let same : ◌≡◌ {A = Result (List (List ℕ)) Refusal} (Ok []) (Ok cs) = h in cc) in subst (λ (x : List (List ℕ)). others ≡ joined x others) e refl
front_read files (n ∷ front) cs others h =
    let parts = one_of (input_of files n) (inputs_of files front) (Ok cs) cs h in
    ap (λ x. and_others x (behind files front others)) parts.2
    ∙ (ap (before_others parts.0) (front_read files front parts.1 others parts.3) ∙ ap (λ (x : List (List ℕ)). joined x others) (sym parts.4))

last_read : (cs : List (List ℕ)) (b : List ℕ) → joined cs (Ok (b ∷ [])) ≡ Ok (cs ++ b ∷ [])
unfolding joined
last_read [] b = refl
last_read (c ∷ cs) b = ap (before_others c) (last_read cs b)

stops : (cs : List (List ℕ)) (r : Refusal) → joined cs (Err r) ≡ Err r
unfolding joined
stops [] r = refl
stops (c ∷ cs) r = ap (before_others c) (stops cs r)

-- one more input
pub inputs_more : (told : Option Files) (front cs : List (List ℕ)) (name bytes : List ℕ) → AreInputs told front cs → IsFound told name bytes → AreInputs told (front ++ name ∷ []) (cs ++ bytes ∷ [])
inputs_more None front cs name bytes h found = tt
inputs_more (Some files) front cs name bytes h found =
    split files front (name ∷ []) ∙ (front_read files front cs (inputs_of files (name ∷ [])) h
    ∙ (ap (λ x. joined cs (and_others (found_or name x) (Ok []))) found ∙ last_read cs bytes))

-- an input that was not read
pub inputs_end : (e : InputEnd) (told : Option Files) (front rest cs : List (List ℕ)) (name : List ℕ) (one all : Type 0) → (one → all) → AreInputs told front cs → IsEnd e told name one → InputsEnd e told (front ++ name ∷ rest) all
inputs_end (end.Missing q) None front rest cs name one all more h is_end =
    (more is_end.1, record { front = front; rest = rest; names_are = rw is_end.0 refl; contents = cs; read_before = tt })
inputs_end (end.Missing q) (Some files) front rest cs name one all more h is_end =
    split files front (name ∷ rest) ∙ (front_read files front cs (inputs_of files (name ∷ rest)) h
    ∙ (ap (λ x. joined cs (and_others (found_or name x) (inputs_of files rest))) is_end.1 ∙ (stops cs (Missing name) ∙ ap (λ x. Err (Missing x)) (sym is_end.0))))
inputs_end (end.Failed q) told front rest cs name one all more h is_end =
    (more is_end.1, record { front = front; rest = rest; names_are = rw is_end.0 refl; contents = cs; read_before = h })
inputs_end end.NoMemory told front rest cs name one all more h is_end = tt

pub inputs_step : (told : Option Files) (names cs : List (List ℕ)) (k : ℕ) (name bytes : List ℕ) → k < length names → name ≡ get_or names k name
    → AreInputs told (take k names) cs → IsFound told name bytes → AreInputs told (take (k + 1) names) (cs ++ bytes ∷ [])
inputs_step told names cs k name bytes lt is h found =
    let one : take (k + 1) names ≡ take k names ++ name ∷ [] = rw add-one (take-suc names k name lt ∙ ap (λ (x : List ℕ). take k names ++ x ∷ []) (sym is)) in
    subst (λ (ns : List (List ℕ)). AreInputs told ns (cs ++ bytes ∷ [])) (sym one) (inputs_more told (take k names) cs name bytes h found)

pub inputs_fail : (e : InputEnd) (told : Option Files) (names cs : List (List ℕ)) (k : ℕ) (name : List ℕ) (before now later : ℕ) → k < length names → name ≡ get_or names k name → before ≤ now
    → AreInputs told (take k names) cs → IsEnd e told name (Rose now later) → InputsEnd e told names (Rose before later)
inputs_fail e told names cs k name before now later lt is le h is_end =
    let all : names ≡ take k names ++ name ∷ drop (suc k) names = split_at names k name lt ∙ ap (λ (x : List ℕ). take k names ++ x ∷ drop (suc k) names) (sym is) in
    let more : Rose now later → Rose before later = λ rose. omega (arith, rose) in
    subst (λ (ns : List (List ℕ)). InputsEnd e told ns (Rose before later)) (sym all)
    (inputs_end e told (take k names) (drop (suc k) names) cs name (Rose now later) (Rose before later) more h is_end)
