-- A step is one, and runs join.
use Rattle.std.proofs.Common.{◌≡◌, ℕ, zero, suc, ◌+◌, Bool, true, false, ◌&&◌, List, [], ◌∷◌, ◌++◌, drop, refl, sym, ap, subst, ◌∙◌, arith, Option, Some, None, is_none}
use Rattle.arm_isa.specs.declared.instr.ArmInstr.{ArmInstr}
use Rattle.arm_isa.specs.ArmRows.{ReadsArm}
use Rattle.thumb_isa.specs.declared.instr.ThumbInstr.{ThumbInstr}
use Rattle.thumb_isa.specs.ThumbRows.{ReadsThumb}
use Rattle.sdt_word.specs.Codes.{bytes_in}
use Rattle.arm7_model.specs.declared.event.Exception.{Exception}
use Rattle.arm7_model.specs.Memory.{Board, is_there}
use Rattle.arm7_model.specs.Registers.{State, register, is_thumb}
use Rattle.arm7_model.specs.Accesses.{Access}
use Rattle.arm7_model.specs.Outcomes.{Stepped}
use Rattle.arm7_model.specs.Step.{Levels, Instruction, Arm, Thumb, Unread, Reads, stepped, stepped_by, uninterrupted, fetches, fetched, interrupt, can_fetch, fetch_width}
use Rattle.arm7_model.specs.Runs.{Input, After, stays, goes, first_of_inputs, later_inputs}
use Rattle.arm7_model.specs.Laws.{StepIsOne, RunsJoin, RunsShow, RunsSplit, RunIsOne, StepsRun}

abbrev pub OneArm : Type 0
OneArm = (w : ℕ) (i j : ArmInstr) → ReadsArm w i → ReadsArm w j → i ≡ j

abbrev pub OneThumb : Type 0
OneThumb = (w : ℕ) (i j : ThumbInstr) → ReadsThumb w i → ReadsThumb w j → i ≡ j

reads-one : OneArm → OneThumb → (thumb : Bool) (w : ℕ) (i j : Instruction) → Reads thumb w i → Reads thumb w j → i ≡ j
reads-one arm thumb false w (Arm i) (Arm j) p q = ap Arm (arm w i j p q)
reads-one arm thumb false w (Arm i) (Thumb j) p q = absurd q
reads-one arm thumb false w (Arm i) Unread p q = absurd (q i p)
reads-one arm thumb false w (Thumb i) j p q = absurd p
reads-one arm thumb false w Unread (Arm j) p q = absurd (p j q)
reads-one arm thumb false w Unread (Thumb j) p q = absurd q
reads-one arm thumb false w Unread Unread p q = refl
reads-one arm thumb true w (Thumb i) (Thumb j) p q = ap Thumb (thumb w i j p q)
reads-one arm thumb true w (Thumb i) (Arm j) p q = absurd q
reads-one arm thumb true w (Thumb i) Unread p q = absurd (q i p)
reads-one arm thumb true w (Arm i) j p q = absurd p
reads-one arm thumb true w Unread (Thumb j) p q = absurd (p j q)
reads-one arm thumb true w Unread (Arm j) p q = absurd q
reads-one arm thumb true w Unread Unread p q = refl

-- a step that doesn't fetch has nothing to do with an instruction
unfetched : (board : Board) (s : State) (lines : Levels) (answers : List ℕ) (i j : Instruction) → fetches board s lines ≡ false
    → stepped board s lines answers i ≡ stepped board s lines answers j
unfolding stepped uninterrupted fetches
unfetched board s lines answers i j h =
    go (interrupt lines s.core.cpsr) (can_fetch s.core) refl (is_there board (register s.core 15) (bytes_in (fetch_width (is_thumb s.core.cpsr)))) refl h
  where
    open_case : (f : Bool) → can_fetch s.core ≡ f → (there : Bool) → is_there board (register s.core 15) (bytes_in (fetch_width (is_thumb s.core.cpsr))) ≡ there
        → (f && there) ≡ false → uninterrupted board s answers i ≡ uninterrupted board s answers j
    open_case false e there d h = rw e refl
    open_case true e false d h = rw (e, d) refl
    open_case true e true d h = absurd (true_false h)
      where
        true_false : true ≡ false → ⊥
        true_false h = cc

    go : (o : Option Exception) → (f : Bool) → can_fetch s.core ≡ f → (there : Bool) → is_there board (register s.core 15) (bytes_in (fetch_width (is_thumb s.core.cpsr))) ≡ there
        → (is_none o && (f && there)) ≡ false → stepped_by o board s answers i ≡ stepped_by o board s answers j
    go (Some x) f e there d h = refl
    go None f e there d h = open_case f e there d h

pub step-one : OneArm → OneThumb → StepIsOne
step-one arm thumb board s lines answers x y (i, ri, ei) (j, rj, ej) = ei ∙ go (fetches board s lines) refl ∙ sym ej
  where
    go : (b : Bool) → fetches board s lines ≡ b → stepped board s lines answers i ≡ stepped board s lines answers j
    go true h = ap (stepped board s lines answers) (reads-one arm thumb (is_thumb s.core.cpsr) (fetched board s answers) i j (ri h) (rj h))
    go false h = unfetched board s lines answers i j h

-- ---- runs

drop-later : (n : ℕ) (inputs : List Input) → drop (suc n) inputs ≡ drop n (later_inputs inputs)
drop-later zero [] = refl
drop-later (suc n) [] = refl
drop-later n (i ∷ is) = refl

pub runs-join : RunsJoin
runs-join board s t u zero k inputs xs ys stays q =
    let Run : ℕ → Type 0 = λ n. After board s n inputs ys u in
    let e : k ≡ 0 + k = omega arith in subst Run e q
runs-join board s t u (suc n) k inputs xs ys (goes {rest = rest} first one counted p) q =
    let Left : List Input → Type 0 = λ is. After board t k is ys u in
    let Run : ℕ → Type 0 = λ n. After board s n inputs (first.accesses ∷ (rest ++ ys)) u in
    let e : suc (n + k) ≡ suc n + k = omega arith in
    subst Run e (goes first one counted (runs-join board first.state t u n k (later_inputs inputs) rest ys p (subst Left (drop-later n inputs) q)))

pub run-one : OneArm → OneThumb → RunIsOne
run-one arm thumb board s t u zero inputs xs ys stays stays = (refl, refl)
run-one arm thumb board s t u (suc n) inputs xs ys (goes {rest = rest} first one counted p) (goes {rest = rest'} first' one' counted' q) =
    let e : first ≡ first' = step-one arm thumb board s (first_of_inputs inputs).lines (first_of_inputs inputs).answers first first' one one' in
    let From : Stepped → Type 0 = λ x. After board x.state n (later_inputs inputs) rest' u in
    let both = run-one arm thumb board first.state t u n (later_inputs inputs) rest rest' p (subst From (sym e) q) in
    (both.0, ap (λ (x : Stepped). x.accesses ∷ rest) e ∙ ap (λ (l : List (List Access)). first'.accesses ∷ l) both.1)

-- ---- runs step by step

abbrev Split : Board → State → State → ℕ → ℕ → List Input → List (List Access) → Type 0
Split board s u n k inputs xs =
    (t : State) × (ys : List (List Access)) × (zs : List (List Access))
    × After board s n inputs ys t × After board t k (drop n inputs) zs u × (xs ≡ ys ++ zs)

split-more : (board : Board) (s u : State) (n k : ℕ) (inputs : List Input) (xs : List (List Access)) → After board s (suc (n + k)) inputs xs u
    → ((s' : State) (rest : List (List Access)) → After board s' (n + k) (later_inputs inputs) rest u → Split board s' u n k (later_inputs inputs) rest)
    → Split board s u (suc n) k inputs xs
split-more board s u n k inputs xs (goes {rest = rest} first one counted p) more =
    let (t, ys, zs, before, after, e) = more first.state rest p in (
      t,
      first.accesses ∷ ys,
      zs,
      goes first one counted before,
      subst (λ (is : List Input). After board t k is zs u) (sym (drop-later n inputs)) after,
      ap (λ (l : List (List Access)). first.accesses ∷ l) e,
    )

pub runs-split : RunsSplit
runs-split board s u zero k inputs xs p =
    let e : 0 + k ≡ k = omega arith in
    (s, [], xs, stays, subst (λ (n : ℕ). After board s n inputs xs u) e p, refl)
runs-split board s u (suc n) k inputs xs p =
    let e : suc n + k ≡ suc (n + k) = omega arith in
    split-more board s u n k inputs xs (subst (λ (m : ℕ). After board s m inputs xs u) e p)
    (λ s' rest q. runs-split board s' u n k (later_inputs inputs) rest q)

pub runs-show : RunsShow
runs-show board s t zero inputs xs stays = ([], tt, refl, refl, refl)
runs-show board s t (suc n) inputs xs (goes {rest = rest} first one counted p) =
    let (steps, are, count, accesses, end) = runs-show board first.state t n (later_inputs inputs) rest p in
    (first ∷ steps, (one, counted, are), omega (arith, count), ap (λ (l : List (List Access)). first.accesses ∷ l) accesses, end)

pub steps-run : StepsRun
steps-run board s inputs [] are = stays
steps-run board s inputs (x ∷ xs) (one, counted, rest) = goes x one counted (steps-run board x.state (later_inputs inputs) xs rest)
