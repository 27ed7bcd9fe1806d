-- The run of a generated source's program.
use Rattle.std.proofs.Common.{◌≡◌, ℕ, zero, suc, ◌+◌, ◌*◌, ◌%◌, ◌^◌, ◌<◌, ◌≤◌, List, [], ◌∷◌, ◌++◌, length, map, true, false, refl, sym, ap, subst, ◌∙◌, arith}
use Rattle.std.specs.Prelude.{slice_index}
use Rattle.std.specs.List.{range_with_len}
use Rattle.sdt_word.specs.Bytes.{word}
use Rattle.sdt_word.specs.declared.codes.Condition.TheVariants.{Al}
use Rattle.sdt_word.specs.declared.codes.ShiftKind.TheVariants.{Lsl}
use Rattle.sdt_word.specs.declared.codes.Width.TheVariants.{Word}
use Rattle.sdt_word.proofs.NumbersLemmas.{rotated-none}
use Rattle.arm_isa.specs.declared.instr.ArmInstr.{ArmInstr}
use Rattle.arm_isa.specs.declared.instr.ArmInstr.TheVariants.{DataImmediate, DataShifted, SoftwareInterrupt}
use Rattle.arm_isa.specs.declared.instr.Operation.TheVariants.{Add, Mov}
use Rattle.arm_isa.specs.ArmRows.{ReadsArm}
use Rattle.arm7_model.specs.declared.state.ArmState.{ArmState}
use Rattle.arm7_model.specs.declared.event.Event.{Event}
use Rattle.arm7_model.specs.declared.event.Event.TheVariants as event
use Rattle.arm7_model.specs.Accesses.{Fetch}
use Rattle.arm7_model.specs.ArmStep.{arm_done}
use Rattle.arm7_model.specs.Memory.{Board, Bytes, in_memory}
use Rattle.arm7_model.specs.Outcomes.{Stepped}
use Rattle.arm7_model.specs.Registers.{State, register}
use Rattle.arm7_model.specs.Runs.{Input, AreSteps, behind, first_of_inputs, later_inputs}
use Rattle.arm7_model.proofs.Leading.{counted}
use Rattle.arm7_model.proofs.Opens.{row_opens}
use Rattle.arm7_model.proofs.Steps.{IsQuiet, OneStep, state_of, under_way, arm_step}
use Rattle.big_model.specs.Sources.{big_sum}
use Rattle.big_model.specs.Words.{step_word, code_words}
use Rattle.big_run.specs.Runs.{HoldWords, IsEntered, AreFetches, IsBigRun, BigRuns}

-- ---- the words read as their instructions

pub reads_add : (b : ℕ) → b < 256 → ReadsArm (0xE2844000 + b) (DataImmediate Al Add false 4 4 0 b)
reads_add b h = grind arith

reads_clear : ReadsArm 0xE3A04000 (DataImmediate Al Mov false 0 4 0 0)
reads_clear = grind arith

reads_give : ReadsArm 0xE1A00004 (DataShifted Al Mov false 0 0 0 Lsl 4)
reads_give = grind arith

reads_leave : ReadsArm 0xEF000011 (SoftwareInterrupt Al 17)
reads_leave = grind arith

-- ---- the sum

sum_small : (n : ℕ) → big_sum n ≤ 255 * n
sum_small zero = omega arith
sum_small (suc n) = omega (arith, sum_small n)

-- ---- steps

-- ordinary steps from s to t, each of which fetches the next word
record Leads (board : Board) (a n : ℕ) (s t : State) (steps : List Stepped) : Type 0 where
  are : (inputs : List Input) → AreSteps board s inputs steps
  count : length steps ≡ n
  fetches : AreFetches a steps
  end : behind s steps ≡ t

abbrev outcome : ℕ → State → Event → Stepped
outcome pc s e = record { state = s; event = e; accesses = Fetch pc Word ∷ [] }

module _ (board : Board) (rest : ArmState) (status : ℕ) (q : IsQuiet status) (m : Bytes) (k : ℕ → ℕ) where
  -- registers r0, r4 and pc over the others
  abbrev registers : ℕ → ℕ → ℕ → List ℕ
  registers r0 r4 pc = r0 ∷ k 1 ∷ k 2 ∷ k 3 ∷ r4 ∷ k 5 ∷ k 6 ∷ k 7 ∷ k 8 ∷ k 9 ∷ k 10 ∷ k 11 ∷ k 12 ∷ k 13 ∷ k 14 ∷ pc ∷ []

  abbrev at : ℕ → ℕ → ℕ → State
  at r0 r4 pc = state_of rest (registers r0 r4 pc) status m

  -- the word at pc does this
  step : (r0 r4 pc w : ℕ) (i : ArmInstr) (s : State) (e : Event) → pc % 4 ≡ 0 → in_memory board pc 4 ≡ true → word m pc ≡ w → ReadsArm w i
      → ((answers : List ℕ) → arm_done (record { board = board; before = at r0 r4 pc; word = w }) i
      (under_way rest (registers r0 r4 pc) status m pc answers) ≡ outcome pc s e)
      → OneStep board (at r0 r4 pc) (outcome pc s e)
  step r0 r4 pc w i s e whole there here reads does =
      arm_step board rest (registers r0 r4 pc) status m pc w i (outcome pc s e) q refl whole there here reads does

  clear_step : (r0 r4 pc : ℕ) → pc % 4 ≡ 0 → pc + 4 < 2 ^ 32 → in_memory board pc 4 ≡ true → word m pc ≡ 0xE3A04000
      → OneStep board (at r0 r4 pc) (outcome pc (at r0 0 (pc + 4)) event.Ran)
  unfolding row_opens
  clear_step r0 r4 pc whole room there here =
      let next : (pc + 4) % 4294967296 ≡ pc + 4 = omega arith in
      step r0 r4 pc 0xE3A04000 _ _ _ whole there here reads_clear (λ answers. rw next refl)

  add_step : (r0 r4 pc b : ℕ) → b < 256 → r4 + b < 2 ^ 32 → pc % 4 ≡ 0 → pc + 4 < 2 ^ 32 → in_memory board pc 4 ≡ true → word m pc ≡ 0xE2844000 + b
      → OneStep board (at r0 r4 pc) (outcome pc (at r0 (r4 + b) (pc + 4)) event.Ran)
  unfolding row_opens
  add_step r0 r4 pc b byte small whole room there here =
      let next : (pc + 4) % 4294967296 ≡ pc + 4 = omega arith in
      let sum : (r4 + b + 0) % 4294967296 ≡ r4 + b = omega arith in
      step r0 r4 pc (0xE2844000 + b) _ _ _ whole there here (reads_add b byte) (λ answers. rw (next, rotated-none b, sum) refl)

  give_step : (r0 r4 pc : ℕ) → pc % 4 ≡ 0 → pc + 4 < 2 ^ 32 → in_memory board pc 4 ≡ true → word m pc ≡ 0xE1A00004
      → OneStep board (at r0 r4 pc) (outcome pc (at r4 r4 (pc + 4)) event.Ran)
  unfolding row_opens
  give_step r0 r4 pc whole room there here =
      let next : (pc + 4) % 4294967296 ≡ pc + 4 = omega arith in
      step r0 r4 pc 0xE1A00004 _ _ _ whole there here reads_give (λ answers. rw next refl)

  leave_step : (r0 r4 pc : ℕ) → pc % 4 ≡ 0 → pc + 4 < 2 ^ 32 → in_memory board pc 4 ≡ true → word m pc ≡ 0xEF000011
      → OneStep board (at r0 r4 pc) (outcome pc (at r0 r4 (pc + 4)) (event.Host 0x11))
  unfolding row_opens
  leave_step r0 r4 pc whole room there here =
      let next : (pc + 4) % 4294967296 ≡ pc + 4 = omega arith in
      step r0 r4 pc 0xEF000011 _ _ _ whole there here reads_leave (λ answers. rw next refl)

  -- ---- steps one behind the other

  on : {a n : ℕ} {s t : State} {steps : List Stepped} (after : State) → OneStep board s (outcome a after event.Ran) → Leads board (a + 4) n after t steps
      → Leads board a (suc n) s t (outcome a after event.Ran ∷ steps)
  on {a} after one more = record {
    are = λ inputs. (one (first_of_inputs inputs).lines (first_of_inputs inputs).answers, tt, more.are (later_inputs inputs));
    count = ap suc more.count;
    fetches = (refl, refl, more.fetches);
    end = more.end;
  }

  stays : (a : ℕ) (s : State) → Leads board a 0 s s []
  stays a s = record { are = λ inputs. tt; count = refl; fetches = tt; end = refl }

  -- from the word of step i on, with j steps left and the sum so far in r4, to SWI 0x11
  adds : (j i n pc r0 : ℕ) → i + j ≡ n → n ≤ 50000 → pc % 4 ≡ 0 → pc + 4 * (j + 2) < 2 ^ 32
      → HoldWords board m pc (map step_word (range_with_len i j) ++ (0xE1A00004 ∷ 0xEF000011 ∷ []))
      → (steps : List Stepped) × Leads board pc (suc j) (at r0 (big_sum i) pc) (at (big_sum n) (big_sum n) (pc + 4 * (j + 1))) steps
  adds zero i n pc r0 e few whole room words =
      let same : i ≡ n = omega arith in
      let P : ℕ → Type 0 = λ x. (steps : List Stepped) × Leads board pc 1 (at r0 (big_sum i) pc) (at (big_sum x) (big_sum x) (pc + 4)) steps in
      subst P same (
        _,
        on (at (big_sum i) (big_sum i) (pc + 4)) (give_step r0 (big_sum i) pc whole (omega arith) words.0 words.1)
            (stays (pc + 4) (at (big_sum i) (big_sum i) (pc + 4))),
      )
  adds (suc j) i n pc r0 e few whole room words =
      let small = sum_small i in
      let next : i + 1 ≡ suc i = omega arith in
      let more = adds j (suc i) n (pc + 4) r0 (omega arith) few (omega arith) (omega arith) (rw next at words.2) in
      let end : pc + 4 + 4 * (j + 1) ≡ pc + 4 * (suc j + 1) = omega arith in
      let P : ℕ → Type 0 = λ x. (steps : List Stepped) × Leads board pc (suc (suc j)) (at r0 (big_sum i) pc) (at (big_sum n) (big_sum n) x) steps in
      subst P end (
        _,
        on (at r0 (big_sum i + i % 256) (pc + 4))
            (add_step r0 (big_sum i) pc (i % 256) (omega arith) (omega arith) whole (omega arith) words.0 words.1) more.1,
      )

  -- the last word
  last_at : (j i pc : ℕ) → HoldWords board m pc (map step_word (range_with_len i j) ++ (0xE1A00004 ∷ 0xEF000011 ∷ []))
      → (in_memory board (pc + 4 * (j + 1)) 4 ≡ true) × (word m (pc + 4 * (j + 1)) ≡ 0xEF000011)
  last_at zero i pc words = (words.2.0, words.2.1)
  last_at (suc j) i pc words =
      let end : pc + 4 + 4 * (j + 1) ≡ pc + 4 * (suc j + 1) = omega arith in
      let P : ℕ → Type 0 = λ x. (in_memory board x 4 ≡ true) × (word m x ≡ 0xEF000011) in
      subst P end (last_at j (i + 1) (pc + 4) words.2)

  whole_run : (n a r0 r4 : ℕ) → n ≤ 50000 → a % 4 ≡ 0 → a + 4 * (n + 3) < 2 ^ 32 → HoldWords board m a (code_words n)
      → (steps : List Stepped) × Leads board a (suc (suc n)) (at r0 r4 a) (at (big_sum n) (big_sum n) (a + 4 * (n + 2))) steps
  whole_run n a r0 r4 few whole room words =
      let more = adds n 0 n (a + 4) r0 (omega arith) few (omega arith) (omega arith) words.2 in
      let end : a + 4 + 4 * (n + 1) ≡ a + 4 * (n + 2) = omega arith in
      let P : ℕ → Type 0 = λ x. (steps : List Stepped) × Leads board a (suc (suc n)) (at r0 r4 a) (at (big_sum n) (big_sum n) x) steps in
      subst P end (_, on (at r0 0 (a + 4)) (clear_step r0 r4 a whole (omega arith) words.0 words.1) more.1)

  exit_run : (n a r0 r4 : ℕ) → n ≤ 50000 → a % 4 ≡ 0 → a + 4 * (n + 3) < 2 ^ 32 → HoldWords board m a (code_words n)
      → (steps : List Stepped) × (last : Stepped) × IsBigRun n a board (at r0 r4 a) steps last
  unfolding register
  exit_run n a r0 r4 few whole room words =
      let run = whole_run n a r0 r4 few whole room words in
      let final = last_at n 0 (a + 4) words.2 in
      let pc : a + 4 + 4 * (n + 1) ≡ a + 4 * (n + 2) = omega arith in
      let there : in_memory board (a + 4 * (n + 2)) 4 ≡ true = rw pc at final.0 in
      let here : word m (a + 4 * (n + 2)) ≡ 0xEF000011 = rw pc at final.1 in
      let last = leave_step (big_sum n) (big_sum n) (a + 4 * (n + 2)) (omega arith) (omega arith) there here in (
        run.0,
        outcome (a + 4 * (n + 2)) (at (big_sum n) (big_sum n) (a + 4 * (n + 2) + 4)) (event.Host 0x11),
        record {
          are = run.1.are;
          count = run.1.count ∙ omega arith;
          fetches = run.1.fetches;
          ends = λ lines answers. rw (run.1.end) (last lines answers);
          exit = refl;
          fetch = refl;
          sum = refl;
          memory = refl;
        },
      )

-- ---- the registers at the start

abbrev tabulated : (ℕ → ℕ) → ℕ → List ℕ
tabulated f zero = []
tabulated f (suc n) = f 0 ∷ tabulated (λ k. f (suc k)) n

listed_all : (l : List ℕ) → l ≡ tabulated (slice_index l) (length l)
listed_all [] = refl
listed_all (x ∷ l) = ap (λ (r : List ℕ). x ∷ r) (listed_all l)

pub big_runs : BigRuns
unfolding register
big_runs n a board s few e =
    let q : IsQuiet s.core.cpsr = record { arm = e.arm; fiq_masked = e.fiq_masked; irq_masked = e.irq_masked } in
    let k : ℕ → ℕ = slice_index s.core.r in
    let P : List ℕ → Type 0 = λ r. (steps : List Stepped) × (last : Stepped) × IsBigRun n a board (state_of s.core r s.core.cpsr s.memory) steps last in
    let all : s.core.r ≡ tabulated (slice_index s.core.r) 16 = listed_all s.core.r ∙ ap (tabulated (slice_index s.core.r)) e.valid.core.visible.count in
    let pc = e.pc in
    let here : tabulated (slice_index s.core.r) 16 ≡ registers board s.core s.core.cpsr q s.memory k (k 0) (k 4) a =
    ap (λ (x : ℕ). registers board s.core s.core.cpsr q s.memory k (k 0) (k 4) x) pc in
    subst P (sym (all ∙ here)) (exit_run board s.core s.core.cpsr q s.memory k n a (k 0) (k 4) few e.whole e.room e.code)
