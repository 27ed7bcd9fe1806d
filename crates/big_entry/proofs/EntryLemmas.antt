-- How the startup code enters a generated source's program: the state is valid behind valid steps, and memory shows the view.
use Rattle.std.proofs.Common.{◌≡◌, ℕ, ◌+◌, true, false, List, [], ◌∷◌, get_or, refl, ap, ◌∙◌, arith, Some}
use Rattle.std.specs.Prelude.{slice_index}
use Rattle.std.proofs.lemmas.Bool.{eqb-false}
use Rattle.sdt_word.specs.Bytes.{bytes_of, number_of, word}
use Rattle.sdt_word.specs.Numbers.{bit}
use Rattle.sdt_word.proofs.BytesLemmas.{number_of-bytes_of}
use Rattle.arm7_model.specs.Laws.{StepIsValid}
use Rattle.arm7_model.specs.Memory.{Board, Bytes, in_memory}
use Rattle.arm7_model.specs.Outcomes.{Stepped}
use Rattle.arm7_model.specs.Registers.{IsValidState, State, is_thumb}
use Rattle.arm7_model.specs.Runs.{AreSteps, Input, behind, first_of_inputs, later_inputs}
use Rattle.arm7_model.proofs.MemoryLemmas.{load-same}
use Rattle.arm7_model.proofs.TransferLemmas.{in_memory-mapped}
use Rattle.big_entry.specs.Entries.{ProgramIsEntered}
use Rattle.big_model.specs.Words.{code_words}
use Rattle.big_run.specs.Runs.{HoldWords}
use Rattle.boot_code.specs.Boots.{ByteMap, HoldsWord, HoldsWords}

-- ---- states

valid-behind : StepIsValid → (board : Board) (s : State) (inputs : List Input) (steps : List Stepped) → IsValidState s → AreSteps board s inputs steps
    → IsValidState (behind s steps)
valid-behind law board s inputs [] v h = v
valid-behind law board s inputs (x ∷ xs) v (one, counted, h) =
    valid-behind law board x.state (later_inputs inputs) xs
    (law board s (first_of_inputs inputs).lines (first_of_inputs inputs).answers x v one) h

in_arm : (status : ℕ) → is_thumb status ≡ false → bit status 5 ≡ 0
unfolding is_thumb
in_arm status h = let other = eqb-false (bit status 5) 1 h in omega (arith, other)

-- ---- words

word-held : (view : ByteMap) (m : Bytes) (p w : ℕ) → ((x b : ℕ) → view x ≡ Some b → m x ≡ b) → HoldsWord view p w → word m p ≡ w
word-held view m p w held h =
    ap number_of (load-same m (λ k. get_or (bytes_of w 4) k 0) p 0 4
    (λ k lt. held (p + k) (get_or (bytes_of w 4) k 0) (h.each k lt) ∙ ap (λ (j : ℕ). get_or (bytes_of w 4) j 0) (omega arith)))
    ∙ number_of-bytes_of w 4 h.is_word

word-there : (view : ByteMap) (board : Board) (p w : ℕ) → ((x b : ℕ) → view x ≡ Some b → board.memory x ≡ true) → HoldsWord view p w
    → in_memory board p 4 ≡ true
word-there view board p w there h = in_memory-mapped board p 4 (λ k lt. there (p + k) (slice_index (bytes_of w 4) k) (h.each k lt))

words-held : (view : ByteMap) (board : Board) (m : Bytes) (p : ℕ) (ws : List ℕ) → ((x b : ℕ) → view x ≡ Some b → board.memory x ≡ true)
    → ((x b : ℕ) → view x ≡ Some b → m x ≡ b) → HoldsWords view p ws → HoldWords board m p ws
words-held view board m p [] there held h = tt
words-held view board m p (w ∷ ws) there held (first, later) =
    (word-there view board p w there first, word-held view m p w held first, words-held view board m (p + 4) ws there held later)

pub program_is_entered : StepIsValid → ProgramIsEntered
program_is_entered law n k start files view written board s inputs steps few shown c b =
    let t = b.booted in
    record {
      valid = valid-behind law board s inputs steps c.valid b.are;
      arm = in_arm (behind s steps).core.cpsr t.thumb;
      fiq_masked = b.masked.fiq;
      irq_masked = b.masked.irq;
      pc = t.pc;
      whole = refl;
      room = omega arith;
      code = words-held view board (behind s steps).memory 0 (code_words n) c.there t.shown shown;
    }
