-- A program that keeps the rules: SWI 0x11 at 0x50, in system mode with IRQ unmasked. Behind it stands the code of the second
-- example.
use Rattle.std.proofs.Common.{◌≡◌, ◌≢◌, ℕ, zero, suc, Bool, ◌+◌, ◌-◌, ◌<◌, ◌≤◌, true, false, List, [], ◌∷◌, refl, ap, subst, ◌∙◌, arith, inl, nat_lt, cond}
use Rattle.std.specs.Prelude.{nat_le, ◌&&◌, get_or}
use Rattle.std.specs.List.{AllByRecursion}
use Rattle.sdt_word.specs.declared.codes.Condition.TheVariants as condition
use Rattle.sdt_word.specs.declared.codes.Width.TheVariants as width
use Rattle.arm_isa.specs.declared.instr.ArmInstr.TheVariants as arm
use Rattle.arm7_model.specs.declared.event.Event.TheVariants as event
use Rattle.arm7_model.specs.Accesses.{Fetch}
use Rattle.arm7_model.specs.Laws.{StepIsOne}
use Rattle.arm7_model.specs.Memory.{Board, Bytes, in_memory, may_store}
use Rattle.arm7_model.specs.Outcomes.{Stepped}
use Rattle.arm7_model.specs.Registers.{State, is_thumb, register}
use Rattle.arm7_model.specs.Runs.{AreSteps, behind, quiet}
use Rattle.arm7_model.specs.Step.{Arm, Step}
use Rattle.arm7_model.proofs.Opens.{step_opens}
use Rattle.kit_laws.specs.Handler.{IsKit}
use Rattle.kit_laws.specs.Rules.{EachFrom, GoOn, IsOutOfIrq, IsOwnStep, IsPlain, KeepsRules}

-- memory from 0 to 0xFFFF, and a device of 16 bytes at 0xF0000000
abbrev pub board : Board
board = record { memory = λ a. nat_lt a 0x10000; device = λ a. nat_le 0xF0000000 a && nat_lt a 0xF0000010; read_only = λ a. false }

abbrev code : List ℕ
code =
    0 ∷ 0 ∷ 0 ∷ 0xEA ∷ 0 ∷ 0 ∷ 0 ∷ 0 ∷ 0x20 ∷ 0xD0 ∷ 0x9F ∷ 0xE5 ∷ 0x03 ∷ 0 ∷ 0x2D ∷ 0xE9 ∷ 0x1C ∷ 0 ∷ 0x9F ∷ 0xE5 ∷ 0 ∷ 0 ∷ 0x80 ∷ 0xE5
    ∷ 0x10 ∷ 0 ∷ 0x9F ∷ 0xE5 ∷ 0 ∷ 0x10 ∷ 0x90 ∷ 0xE5 ∷ 0x01 ∷ 0x10 ∷ 0x81 ∷ 0xE2 ∷ 0 ∷ 0x10 ∷ 0x80 ∷ 0xE5 ∷ 0x03 ∷ 0 ∷ 0xBD ∷ 0xE8
    ∷ 0x04 ∷ 0xF0 ∷ 0x5E ∷ 0xE2 ∷ 0x08 ∷ 0x01 ∷ 0 ∷ 0 ∷ 0x0C ∷ 0 ∷ 0 ∷ 0xF0 ∷ 0x11 ∷ 0 ∷ 0 ∷ 0xEF
    ∷ 0x0A ∷ 0x10 ∷ 0xA0 ∷ 0xE3 ∷ 0x01 ∷ 0x10 ∷ 0x51 ∷ 0xE2 ∷ 0xFD ∷ 0xFF ∷ 0xFF ∷ 0x1A ∷ 0x11 ∷ 0 ∷ 0 ∷ 0xEF ∷ []

abbrev pub memory : Bytes
memory a = cond (nat_lt a 0x18) 0 (get_or code (a - 0x18) 0)

-- memory holds bytes
pub bytes : (a : ℕ) → memory a < 256
bytes a = go (nat_lt a 0x18)
  where
    byte : (xs : List ℕ) → AllByRecursion (λ x. x < 256) xs → (k : ℕ) → get_or xs k 0 < 256
    byte [] h k = omega arith
    byte (x ∷ xs) h zero = h.0
    byte (x ∷ xs) h (suc k) = byte xs h.1 k

    go : (b : Bool) → cond b 0 (get_or code (a - 0x18) 0) < 256
    go true = omega arith
    go false = byte code (grind arith) (a - 0x18)

abbrev pub at_pc : ℕ → State
at_pc pc = record {
  core = record {
    r = 1 ∷ 2 ∷ 3 ∷ 4 ∷ 5 ∷ 6 ∷ 7 ∷ 8 ∷ 9 ∷ 10 ∷ 11 ∷ 12 ∷ 13 ∷ 14 ∷ 15 ∷ pc ∷ [];
    cpsr = 0x1F;
    spsr = 0x10 ∷ 0x10 ∷ 0x10 ∷ 0x10 ∷ 0x10 ∷ [];
    banks = record { high = 0 ∷ 0 ∷ 0 ∷ 0 ∷ 0 ∷ []; r13 = 0 ∷ 1 ∷ 2 ∷ 3 ∷ 4 ∷ 5 ∷ []; r14 = 0 ∷ 1 ∷ 2 ∷ 3 ∷ 4 ∷ 5 ∷ [] };
  };
  memory = memory;
}

in-memory : (a : ℕ) → a < 0x10000 → nat_lt a 0x10000 ≡ true
in-memory a h = grind arith

pub kit-there : IsKit board 0x100 0xF000000C memory
unfolding may_store in_memory
kit-there = record {
  whole = refl;
  low = omega arith;
  high = omega arith;
  ack_whole = refl;
  ack_small = omega arith;
  code = λ i lt. in-memory (4 + i) (omega arith);
  ram = λ i lt. in-memory (0x100 + i) (omega arith);
  free = λ i lt. refl;
  may = refl;
  device = refl;
  word_18 = refl;
  word_20 = refl;
  word_24 = refl;
  word_28 = refl;
  word_2c = refl;
  word_30 = refl;
  word_34 = refl;
  word_38 = refl;
  word_3c = refl;
  word_40 = refl;
  word_44 = refl;
  word_48 = refl;
  word_4c = refl;
}

-- a word below the work area is the program's own
pub own-word : (a : ℕ) → a + 4 ≤ 0x100 → EachFrom (IsPlain board 0x100) a 4
own-word a h i lt = record { off = inl (omega arith); device = no-device (a + i) (omega arith) }
  where
    no-device : (x : ℕ) → x < 0x1000 → (nat_le 0xF0000000 x && nat_lt x 0xF0000010) ≡ false
    no-device x small = grind arith

unfoldable pub exits : Stepped
exits = record { state = at_pc 0x54; event = event.Host 0x11; accesses = Fetch 0x50 width.Word ∷ [] }

pub exit-step : Step board (at_pc 0x50) quiet.lines quiet.answers exits
unfolding step_opens exits
exit-step = (Arm (arm.SoftwareInterrupt condition.Al 0x11), (λ f. grind arith), refl)

-- what can be said of a program's first step, and of what is behind it where that isn't SWI 0x11, is said of the program
pub rules-of : (b : Board) (work : ℕ) (s : State) (x : Stepped) → StepIsOne → Step b s quiet.lines quiet.answers x → IsOutOfIrq s → IsOwnStep b work x
    → (x.event ≢ event.Host 0x11 → KeepsRules b work x.state) → KeepsRules b work s
rules-of b work s x one st out own later = record { mode = out; step = step }
  where
    step : (front : List Stepped) (y : Stepped) → AreSteps b s [] front → GoOn front → Step b (behind s front) quiet.lines quiet.answers y → IsOwnStep b work y
    step [] y run on next = subst (IsOwnStep b work) (one b s quiet.lines quiet.answers x y st next) own
    step (z ∷ zs) y run on next =
        let same : z ≡ x = one b s quiet.lines quiet.answers z x run.0 st in
        let more : x.event ≢ event.Host 0x11 = λ e. on.0 (ap (λ (t : Stepped). t.event) same ∙ e) in
        let walk : AreSteps b x.state [] zs = subst (λ (t : Stepped). AreSteps b t.state [] zs) same run.2 in
        let there : Step b (behind x.state zs) quiet.lines quiet.answers y = subst (λ (t : Stepped). Step b (behind t.state zs) quiet.lines quiet.answers y) same next in
        (later more).step zs y walk on.1 there

pub rules-kept : StepIsOne → KeepsRules board 0x100 (at_pc 0x50)
unfolding exits register is_thumb
rules-kept one =
    rules-of board 0x100 (at_pc 0x50) exits one exit-step (omega arith)
    (record { accesses = (own-word 0x50 (omega arith), tt); counted = tt; mode = omega arith; string = λ e. absurd cc })
    (λ more. absurd (more refl))
