-- Where a program keeps the rules, its next step fetches, and from an address of its own.
use Rattle.std.proofs.Common.{◌≡◌, ℕ, ◌+◌, ◌==◌, Bool, true, false, [], Option, None, refl, sym, subst, ◌∙◌, if◌then◌else◌, arith, inl, inr, nat_lt}
use Rattle.std.specs.List.{AllByRecursion}
use Rattle.sdt_word.specs.Codes.{bytes_in}
use Rattle.sdt_word.specs.declared.codes.Width.{Width}
use Rattle.sdt_word.specs.Numbers.{bit}
use Rattle.arm_isa.specs.declared.instr.ArmInstr.{ArmInstr}
use Rattle.thumb_isa.specs.declared.instr.ThumbInstr.{ThumbInstr}
use Rattle.arm7_model.specs.declared.event.Exception.{Exception}
use Rattle.arm7_model.specs.Accesses.{Fetch}
use Rattle.arm7_model.specs.Memory.{Board, is_there}
use Rattle.arm7_model.specs.Outcomes.{given_back}
use Rattle.arm7_model.specs.Registers.{State, is_thumb, register}
use Rattle.arm7_model.specs.Runs.{quiet}
use Rattle.arm7_model.specs.Step.{Arm, Instruction, Reads, Thumb, Unread, can_fetch, done, executed, fetch_width, fetched, fetches, interrupt, irq_pending, misaligned, stepped, uninterrupted}
use Rattle.kit_laws.specs.Rules.{IsOff, IsOwn, IsOwnStep, IsPlain, KeepsRules}
use Rattle.kit_laws.proofs.StepAdded.{step-adds}

pub no-lines : (status : ℕ) → interrupt quiet.lines status ≡ None
unfolding interrupt irq_pending
no-lines status = go (bit status 6 == 1) (bit status 7 == 1)
  where
    nothing : Option Exception
    nothing = None

    go : (f g : Bool) → (if f then (if g then nothing else nothing) else (if g then nothing else nothing)) ≡ nothing
    go true true = refl
    go true false = refl
    go false true = refl
    go false false = refl

-- a word that no instruction reads is Unread
unread : (t : Bool) (w : ℕ) → ((i : ArmInstr) → Reads t w (Arm i) → ⊥) → ((i : ThumbInstr) → Reads t w (Thumb i) → ⊥) → Reads t w Unread
unread false w f g = f
unread true w f g = g

-- what can't be refused of an address holds
is-plain : (b : Board) (work x : ℕ) → ((IsPlain b work x → ⊥) → ⊥) → IsPlain b work x
is-plain b work x h = record { off = off (nat_lt x work) refl (nat_lt x (work + 12)) refl; device = device (b.device x) refl }
  where
    refused : (IsPlain b work x → ⊥) → ⊥
    refused = h

    off : (below : Bool) → nat_lt x work ≡ below → (within : Bool) → nat_lt x (work + 12) ≡ within → IsOff work x
    off true e within f = inl (grind arith)
    off false e false f = inr (grind arith)
    off false e true f = absurd (refused (λ p. inside p.off))
      where
        inside : IsOff work x → ⊥
        inside (inl lt) = absurd (grind arith)
        inside (inr le) = absurd (grind arith)

    device : (d : Bool) → b.device x ≡ d → b.device x ≡ false
    device false e = e
    device true e = absurd (refused (λ p. never (sym e ∙ p.device)))
      where
        never : true ≡ false → ⊥
        never g = cc

module _ (b : Board) (work : ℕ) (p : State) (rules : KeepsRules b work p) where
  next : (i : Instruction) → (fetches b p quiet.lines ≡ true → Reads (is_thumb p.core.cpsr) (fetched b p []) i) → IsOwnStep b work (stepped b p quiet.lines [] i)
  next i reads = rules.step [] (stepped b p quiet.lines [] i) tt tt (i, reads, refl)

  pub can : can_fetch p.core ≡ true
  unfolding stepped uninterrupted misaligned given_back fetches
  can = go (can_fetch p.core) refl
    where
      never : false ≡ true → ⊥
      never e = cc

      go : (f : Bool) → can_fetch p.core ≡ f → can_fetch p.core ≡ true
      go true e = e
      go false e =
          let counted = (next Unread (λ f. absurd (never (rw (no-lines p.core.cpsr, e) at f)))).counted in
          absurd (rw (no-lines p.core.cpsr, e) at counted)

  abbrev width : Width
  width = fetch_width (is_thumb p.core.cpsr)

  module _ (there : is_there b (register p.core 15) (bytes_in width) ≡ true) where
    fetching : fetches b p quiet.lines ≡ true
    unfolding fetches
    fetching = rw (no-lines p.core.cpsr, can, there) refl

    fetch-of : (i : Instruction) → Reads (is_thumb p.core.cpsr) (fetched b p []) i → IsOwn b work (Fetch (register p.core 15) width)
    fetch-of i reads =
        let adds = step-adds b p quiet.lines i (fetched b p []) in
        let (rest, first) = adds.first fetching in
        let own = subst (AllByRecursion (IsOwn b work)) (adds.accesses [] (λ f. refl) ∙ first) (next i (λ f. reads)).accesses in
        own.0

    reads-one : ((i : Instruction) → Reads (is_thumb p.core.cpsr) (fetched b p []) i → ⊥) → ⊥
    unfolding stepped uninterrupted executed done given_back
    reads-one none =
        let counted = (next Unread (λ f. unread (is_thumb p.core.cpsr) (fetched b p []) (λ i r. none (Arm i) r) (λ i r. none (Thumb i) r))).counted in
        absurd (rw (no-lines p.core.cpsr, can, there) at counted)

    pub own-fetch : IsOwn b work (Fetch (register p.core 15) width)
    own-fetch i lt = is-plain b work (register p.core 15 + i) (λ no. reads-one (λ j r. no (fetch-of j r i lt)))
