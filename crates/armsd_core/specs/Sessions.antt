-- A debugger's session: its commands in order, up to the first Quit, on a desk. This project's.
use Rattle.std.specs.Prelude.{◌≡◌, ℕ, ◌+◌, List, [], ◌∷◌, ◌++◌, Option, Some, None}
use Rattle.sdt_outside.specs.Sinks.{Got, GotPart}
use Rattle.sdt_word.specs.declared.ranges.Range32.{Range32}
use Rattle.arm7_model.specs.declared.state.ArmState.{ArmState}
use Rattle.arm7_model.specs.Registers.{register}
use Rattle.arm7_bus.specs.Buses.{after_detach}
use Rattle.arm7_bus.specs.States.{State}
use Rattle.armsd_core.specs.declared.command.Command.{Command}
use Rattle.armsd_core.specs.declared.command.Command.TheVariants.{Break, Unbreak, Watch, Unwatch, Step, Go, Regs, Mem, Detach, Quit}
use Rattle.armsd_core.specs.declared.reason.Reason.{Reason}
use Rattle.armsd_core.specs.declared.session.DebugEnd.{DebugEnd}
use Rattle.armsd_core.specs.declared.session.DebugEnd.TheVariants as end
use Rattle.armsd_core.specs.Carried.{AreChoked, Lead}
use Rattle.armsd_core.specs.Goes.{Goes, Steps}
use Rattle.armsd_core.specs.Points.{without}
use Rattle.armsd_core.specs.Reasons.{lasting}
use Rattle.armsd_core.specs.Texts.{memory_text, registers_text, stop_line}

-- the registers, the bus, the steps so far, the breakpoints, the watched range, and why the machine stopped for good
pub record Desk : Type 0 where
  pub core : ArmState
  pub bus : State
  pub steps : ℕ
  pub points : List ℕ
  pub watch : Option Range32
  pub ended : Option Reason

-- that of a session which begins
abbrev pub opened : ArmState → State → Desk
opened core s = record { core = core; bus = s; steps = 0; points = []; watch = None; ended = None }

-- ---- steps

-- the desk behind such steps
abbrev pub moved : Desk → Reason → ℕ → ArmState → State → Desk
moved d why made core s = record d { core = core; bus = s; steps = d.steps + made; ended = lasting why }

-- the line of a desk whose steps ended for a reason
abbrev pub line_at : Desk → Reason → List ℕ
line_at d why = stop_line (register d.core 15) d.steps why

-- steps were made, and a line said why they ended
pub record Moves (lead : Lead) (most : ℕ) (d : Desk) (said : List ℕ) (d' : Desk) : Type 0 where
  pub why : Reason
  pub made : ℕ
  pub text : List ℕ
  pub core : ArmState
  pub bus : State
  pub leads : lead most why made text core bus
  pub behind : d' ≡ moved d why made core bus
  pub says : said ≡ text ++ line_at d' why

-- so it is, unless the machine has stopped for good: then none is made, and the line is said again
abbrev pub MovesOn : Lead → ℕ → Option Reason → Desk → List ℕ → Desk → Type 0
MovesOn lead most None d said d' = Moves lead most d said d'
MovesOn lead most (Some why) d said d' = (said ≡ line_at d why) × (d' ≡ d)

-- ---- commands

-- a command says something and changes nothing, or changes the desk and says nothing
abbrev pub Says : List ℕ → Desk → List ℕ → Desk → Type 0
Says text d said d' = (said ≡ text) × (d' ≡ d)

abbrev pub Sets : Desk → List ℕ → Desk → Type 0
Sets new said d' = (said ≡ []) × (d' ≡ new)

-- what a command says, and the desk behind it
abbrev pub Does : Command → Desk → List ℕ → Desk → Type 0
Does (Break a) d said d' = Sets (record d { points = d.points ++ a ∷ [] }) said d'
Does (Unbreak a) d said d' = Sets (record d { points = without d.points a }) said d'
Does (Watch r) d said d' = Sets (record d { watch = Some r }) said d'
Does Unwatch d said d' = Sets (record d { watch = None }) said d'
Does (Step n) d said d' = MovesOn (Steps d.core d.bus) n d.ended d said d'
Does (Go n) d said d' = MovesOn (Goes d.points d.watch d.core d.bus) n d.ended d said d'
Does Regs d said d' = Says (registers_text d.core) d said d'
Does (Mem a n) d said d' = Says (memory_text d.bus.contents a n) d said d'
Does (Detach i) d said d' = Sets (record d { bus = after_detach d.bus i }) said d'
Does Quit d said d' = Sets d said d'

-- commands were carried out in order, and said a text
abbrev pub CarriesOut : List Command → Desk → List ℕ → Desk → Type 0
CarriesOut [] d text d' = (text ≡ []) × (d' ≡ d)
CarriesOut (c ∷ cs) d text d' =
    (m : Desk) × (said : List ℕ) × (rest : List ℕ) × Does c d said m × CarriesOut cs m rest d' × (text ≡ said ++ rest)

-- the commands before the first Quit
abbrev pub up_to : Command → List Command → List Command
up_to Quit rest = []
up_to other rest = other ∷ rest

abbrev pub before_quit : List Command → List Command
before_quit [] = []
before_quit (c ∷ cs) = up_to c (before_quit cs)

-- the session of these commands leads from a desk to another, and says a text
abbrev pub Session : List Command → Desk → List ℕ → Desk → Type 0
Session commands d text d' = CarriesOut (before_quit commands) d text d'

-- ---- a sink that fails

-- it got a beginning of a text, and the machine is as it was
pub record IsUnsaid (text : List ℕ) (d : Desk) (core : ArmState) (s : State) (before after : Option (List ℕ)) (rose : Type 0) : Type 0 where
  pub counted : rose
  pub same_core : core ≡ d.core
  pub same_bus : s ≡ d.bus
  pub part : GotPart before after text

-- steps were made, their text went out whole, and a beginning of their line
pub record IsUntold (lead : Lead) (most : ℕ) (d : Desk) (core : ArmState) (s : State) (before after : Option (List ℕ))
    (rose : Type 0) : Type 0 where
  pub why : Reason
  pub made : ℕ
  pub text : List ℕ
  pub leads : lead most why made text core s
  pub middle : Option (List ℕ)
  pub got : Got before middle text
  pub line : IsUnsaid (line_at (moved d why made core s) why) (moved d why made core s) core s middle after rose

-- it failed at the text of a step, which is the last, or at the line
pub data FailsIn (lead : Lead) (most : ℕ) (d : Desk) (core : ArmState) (s : State) (before after : Option (List ℕ))
    (rose : Type 0) : Type 0 where
  chokes : (made : ℕ) → AreChoked lead most made core s before after rose → FailsIn lead most d core s before after rose
  untold : IsUntold lead most d core s before after rose → FailsIn lead most d core s before after rose

abbrev pub FailsOn : Lead → ℕ → Option Reason → Desk → ArmState → State → Option (List ℕ) → Option (List ℕ) → Type 0 → Type 0
FailsOn lead most None d core s before after rose = FailsIn lead most d core s before after rose
FailsOn lead most (Some why) d core s before after rose = IsUnsaid (line_at d why) d core s before after rose

-- the sink failed in a command, and left the machine so
abbrev pub Fails : Command → Desk → ArmState → State → Option (List ℕ) → Option (List ℕ) → Type 0 → Type 0
Fails (Step n) d core s before after rose = FailsOn (Steps d.core d.bus) n d.ended d core s before after rose
Fails (Go n) d core s before after rose = FailsOn (Goes d.points d.watch d.core d.bus) n d.ended d core s before after rose
Fails Regs d core s before after rose = IsUnsaid (registers_text d.core) d core s before after rose
Fails (Mem a n) d core s before after rose = IsUnsaid (memory_text d.bus.contents a n) d core s before after rose
Fails other d core s before after rose = ⊥

-- commands of the session were carried out, their text went out whole, and the sink failed in the next
pub record IsCutOff (commands : List Command) (d : Desk) (core : ArmState) (s : State) (before after : Option (List ℕ))
    (rose : Type 0) : Type 0 where
  pub front : List Command
  pub last : Command
  pub rest : List Command
  pub split : before_quit commands ≡ front ++ last ∷ rest
  pub text : List ℕ
  pub desk : Desk
  pub carried : CarriesOut front d text desk
  pub middle : Option (List ℕ)
  pub got : Got before middle text
  pub fails : Fails last desk core s middle after rose

-- a session that came to its end is whole, with its text; else the sink cut it off
abbrev pub IsDebugged : List Command → Desk → DebugEnd → ArmState → State → Option (List ℕ) → Option (List ℕ) → Type 0 → Type 0
IsDebugged commands d end.Ended core s before after rose =
    (text : List ℕ) × (d' : Desk) × Session commands d text d' × (core ≡ d'.core) × (s ≡ d'.bus) × Got before after text
IsDebugged commands d end.Sink core s before after rose = IsCutOff commands d core s before after rose
