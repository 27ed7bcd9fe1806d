-- The commands of a session, one by one.
use Rattle.std.proofs.Common.{◌≡◌, ◌∙◌, ℕ, zero, suc, ◌+◌, ◌-◌, ◌*◌, ◌<◌, ◌≤◌, ◌==◌, cond, List, [], ◌∷◌, ◌++◌, length, drop, get_or, drop-cons, Option, Some, None, refl, sym, ap, subst, append_assoc, drop_of_length-le, arith}
use Rattle.std.proofs.lemmas.List.{append-nil}
use Rattle.sdt_fault.specs.declared.kinds.CommandKind.{CommandKind}
use Rattle.sdt_fault.specs.declared.kinds.CommandKind.TheVariants as kind
use Rattle.sdt_outside.specs.Sinks.{Got, GotPart}
use Rattle.sdt_outside.proofs.SharedLemmas.{got_none}
use Rattle.arm7_model.specs.declared.state.ArmState.{ArmState}
use Rattle.arm7_bus.specs.States.{State}
use Rattle.arm7_run.proofs.StringLemmas.{got_more}
use Rattle.armsd_core.specs.declared.command.Command.{Command}
use Rattle.armsd_core.specs.declared.command.Command.TheVariants.{Break, Unbreak, Watch, Unwatch, Step, Go, Regs, Mem, Detach, Quit}
use Rattle.armsd_core.specs.declared.session.DebugEnd.{DebugEnd}
use Rattle.armsd_core.specs.declared.desk.Notes.{Notes}
use Rattle.armsd_core.specs.declared.session.DebugEnd.TheVariants as end
use Rattle.armsd_core.specs.Desks.{HasRoom, IsDone, desk_of, sets}
use Rattle.armsd_core.specs.Scripts.{AreGood, IsInRange, devices_behind, flaw, points_behind}
use Rattle.armsd_core.proofs.DeskLemmas.{raised}
use Rattle.armsd_core.specs.Sessions.{CarriesOut, Desk, Fails, IsCutOff, IsDebugged, Does, before_quit, opened, up_to}

-- ---- room for breakpoints

-- the commands that are left are good, and there is room for those of them that set breakpoints
pub record HasLeft (points : List ℕ) (rest : List Command) : Type 0 where
  pub left : ℕ
  pub devices : ℕ
  pub room : length points + left ≤ 64
  pub good : AreGood left devices rest

pub has_all : (devices : ℕ) (commands : List Command) → AreGood 64 devices commands → HasLeft [] commands
has_all devices commands good = record { left = 64; devices = devices; room = omega arith; good = good }

some_left : (left : ℕ) → cond (left == 0) (Some kind.Number) None ≡ None → 0 < left
some_left zero e = absurd (cc)
some_left (suc n) e = omega arith

room_by : (c : Command) (points : List ℕ) (left devices : ℕ) → length points + left ≤ 64 → flaw left devices c ≡ None → HasRoom c points
room_by (Break a) points left devices h e = let some : 0 < left = some_left left e in omega arith
room_by (Unbreak a) points left devices h e = tt
room_by (Watch r) points left devices h e = tt
room_by Unwatch points left devices h e = tt
room_by (Step n) points left devices h e = tt
room_by (Go n) points left devices h e = tt
room_by Regs points left devices h e = tt
room_by (Mem a n) points left devices h e = tt
room_by (Detach i) points left devices h e = tt
room_by Quit points left devices h e = tt

pub has_range : (points : List ℕ) (c : Command) (rest : List Command) → HasLeft points (c ∷ rest) → IsInRange c
has_range points c rest h = h.good.0

pub has_room : (points : List ℕ) (c : Command) (rest : List Command) → HasLeft points (c ∷ rest) → HasRoom c points
has_room points c rest h = room_by c points h.left h.devices h.room h.good.1

left_by : (c : Command) (n m left devices : ℕ) → n + left ≤ 64 → flaw left devices c ≡ None → m ≤ n + sets c → m + points_behind left (Some c) ≤ 64
left_by (Break a) n m left devices h e le = let some : 0 < left = some_left left e in omega arith
left_by (Unbreak a) n m left devices h e le = omega arith
left_by (Watch r) n m left devices h e le = omega arith
left_by Unwatch n m left devices h e le = omega arith
left_by (Step k) n m left devices h e le = omega arith
left_by (Go k) n m left devices h e le = omega arith
left_by Regs n m left devices h e le = omega arith
left_by (Mem a k) n m left devices h e le = omega arith
left_by (Detach i) n m left devices h e le = omega arith
left_by Quit n m left devices h e le = omega arith

pub has_later : (old new : List ℕ) (c : Command) (rest : List Command) → HasLeft old (c ∷ rest) → length new ≤ length old + sets c → HasLeft new rest
has_later old new c rest h le = record {
  left = points_behind h.left (Some c);
  devices = devices_behind h.devices (Some c);
  room = left_by c (length old) (length new) h.left h.devices h.room h.good.1 le;
  good = h.good.2;
}

-- ---- commands that were carried out

-- commands of a session were carried out, and their text went out; these are left
pub record IsUnderWay (commands : List Command) (d0 : Desk) (before : Option (List ℕ)) (rest : List Command) (d : Desk) (after : Option (List ℕ)) : Type 0 where
  pub front : List Command
  pub text : List ℕ
  pub split : before_quit commands ≡ front ++ before_quit rest
  pub carried : CarriesOut front d0 text d
  pub got : Got before after text

pub sets_out : (commands : List Command) (d0 : Desk) (before : Option (List ℕ)) → IsUnderWay commands d0 before commands d0 before
sets_out commands d0 before = record { front = []; text = []; split = refl; carried = (refl, refl); got = got_none before }

pub one_more : (cs : List Command) (d : Desk) (text : List ℕ) (m : Desk) (c : Command) (said : List ℕ) (d' : Desk)
    → CarriesOut cs d text m → Does c m said d' → CarriesOut (cs ++ c ∷ []) d (text ++ said) d'
one_more [] d text m c said d' (e, same) does =
    (d', said, [], subst (λ (x : Desk). Does c x said d') same does, (refl, refl), ap (λ (t : List ℕ). t ++ said) e ∙ sym (append-nil said))
one_more (x ∷ cs) d text m c said d' (k, first, rest, h, more, e) does =
    (k, first, rest ++ said, h, one_more cs k rest m c said d' more does, ap (λ (t : List ℕ). t ++ said) e ∙ append_assoc first rest said)

stays_up_to : (c : Command) (r : List Command) → (c ≡ Quit → ⊥) → up_to c r ≡ c ∷ r
stays_up_to (Break a) r h = refl
stays_up_to (Unbreak a) r h = refl
stays_up_to (Watch w) r h = refl
stays_up_to Unwatch r h = refl
stays_up_to (Step k) r h = refl
stays_up_to (Go k) r h = refl
stays_up_to Regs r h = refl
stays_up_to (Mem a k) r h = refl
stays_up_to (Detach i) r h = refl
stays_up_to Quit r h = absurd (h refl)

pub goes_on : (commands : List Command) (d0 : Desk) (before : Option (List ℕ)) (rest : List Command) (c : Command) (more : List Command) (d : Desk) (middle : Option (List ℕ)) (d' : Desk) (after : Option (List ℕ))
    → rest ≡ c ∷ more → (c ≡ Quit → ⊥) → IsUnderWay commands d0 before rest d middle → IsDone c d d' middle after → IsUnderWay commands d0 before more d' after
goes_on commands d0 before rest c more d middle d' after is other w (said, does, got) = record {
  front = w.front ++ c ∷ [];
  text = w.text ++ said;
  split = w.split ∙ ap (λ (r : List Command). w.front ++ before_quit r) is ∙ ap (λ (r : List Command). w.front ++ r) (stays_up_to c (before_quit more) other)
      ∙ sym (append_assoc w.front (c ∷ []) (before_quit more));
  carried = one_more w.front d0 w.text d c said d' w.carried does;
  got = got_more before middle after w.text said w.got got;
}

pub cuts_off : (commands : List Command) (d0 : Desk) (before : Option (List ℕ)) (rest : List Command) (c : Command) (more : List Command) (d : Desk) (middle : Option (List ℕ)) (core : ArmState) (s : State) (after : Option (List ℕ)) (rose : Type 0)
    → rest ≡ c ∷ more → (c ≡ Quit → ⊥) → IsUnderWay commands d0 before rest d middle → Fails c d core s middle after rose → IsDebugged commands d0 end.Sink core s before after rose
cuts_off commands d0 before rest c more d middle core s after rose is other w fails = record {
  front = w.front;
  last = c;
  rest = before_quit more;
  split = w.split ∙ ap (λ (r : List Command). w.front ++ before_quit r) is ∙ ap (λ (r : List Command). w.front ++ r) (stays_up_to c (before_quit more) other);
  text = w.text;
  desk = d;
  carried = w.carried;
  middle = middle;
  got = w.got;
  fails = fails;
}

pub comes_to_end : (commands : List Command) (d0 : Desk) (before : Option (List ℕ)) (rest : List Command) (d : Desk) (after : Option (List ℕ)) (rose : Type 0)
    → before_quit rest ≡ [] → IsUnderWay commands d0 before rest d after → IsDebugged commands d0 end.Ended d.core d.bus before after rose
comes_to_end commands d0 before rest d after rose none w =
    let all : w.front ≡ before_quit commands = sym (append-nil w.front) ∙ ap (λ (r : List Command). w.front ++ r) (sym none) ∙ sym w.split in
    (w.text, d, subst (λ (cs : List Command). CarriesOut cs d0 w.text d) all w.carried, refl, refl, w.got)

-- ---- the commands of a list

next : (commands : List Command) (i : ℕ) (x : Command) → i < length commands → x ≡ get_or commands i x → drop i commands ≡ x ∷ drop (i + 1) commands
next commands i x lt item =
    let more : suc i ≡ i + 1 = omega arith in
    drop-cons commands i x lt ∙ ap (λ (k : ℕ). get_or commands i x ∷ drop k commands) more ∙ ap (λ (c : Command). c ∷ drop (i + 1) commands) (sym item)

pub range_at : (commands : List Command) (i : ℕ) (x : Command) (points : List ℕ) → i < length commands → x ≡ get_or commands i x → HasLeft points (drop i commands) → IsInRange (x)
range_at commands i x points lt item h = has_range points (x) (drop (i + 1) commands) (subst (HasLeft points) (next commands i x lt item) h)

pub room_at : (commands : List Command) (i : ℕ) (x : Command) (points : List ℕ) → i < length commands → x ≡ get_or commands i x → HasLeft points (drop i commands) → HasRoom (x) points
room_at commands i x points lt item h = has_room points (x) (drop (i + 1) commands) (subst (HasLeft points) (next commands i x lt item) h)

pub left_after : (commands : List Command) (i : ℕ) (x : Command) (old new : List ℕ) → i < length commands → x ≡ get_or commands i x → HasLeft old (drop i commands) → length new ≤ length old + sets (x)
    → HasLeft new (drop (i + 1) commands)
left_after commands i x old new lt item h few = has_later old new (x) (drop (i + 1) commands) (subst (HasLeft old) (next commands i x lt item) h) few

pub goes_to : (commands : List Command) (d0 : Desk) (before : Option (List ℕ)) (i : ℕ) (x : Command) (d : Desk) (middle : Option (List ℕ)) (d' : Desk) (after : Option (List ℕ))
    → i < length commands → x ≡ get_or commands i x → (x ≡ Quit → ⊥) → IsUnderWay commands d0 before (drop i commands) d middle → IsDone (x) d d' middle after
    → IsUnderWay commands d0 before (drop (i + 1) commands) d' after
goes_to commands d0 before i x d middle d' after lt item other w done =
    goes_on commands d0 before (drop i commands) (x) (drop (i + 1) commands) d middle d' after (next commands i x lt item) other w done

pub cuts_at : (commands : List Command) (d0 : Desk) (before : Option (List ℕ)) (i : ℕ) (x : Command) (d : Desk) (middle : Option (List ℕ)) (core : ArmState) (s : State) (after : Option (List ℕ)) (rose : Type 0)
    → i < length commands → x ≡ get_or commands i x → (x ≡ Quit → ⊥) → IsUnderWay commands d0 before (drop i commands) d middle → Fails (x) d core s middle after rose
    → IsDebugged commands d0 end.Sink core s before after rose
cuts_at commands d0 before i x d middle core s after rose lt item other w fails =
    cuts_off commands d0 before (drop i commands) (x) (drop (i + 1) commands) d middle core s after rose (next commands i x lt item) other w fails

pub quits_at : (commands : List Command) (d0 : Desk) (before : Option (List ℕ)) (i : ℕ) (x : Command) (d : Desk) (after : Option (List ℕ)) (rose : Type 0)
    → i < length commands → x ≡ get_or commands i x → x ≡ Quit → IsUnderWay commands d0 before (drop i commands) d after → IsDebugged commands d0 end.Ended d.core d.bus before after rose
quits_at commands d0 before i x d after rose lt item is w =
    comes_to_end commands d0 before (drop i commands) d after rose
    (ap before_quit (next commands i x lt item) ∙ ap (λ (c : Command). up_to c (before_quit (drop (i + 1) commands))) is) w

pub ends_at : (commands : List Command) (d0 : Desk) (before : Option (List ℕ)) (i : ℕ) (d : Desk) (after : Option (List ℕ)) (rose : Type 0)
    → length commands ≤ i → IsUnderWay commands d0 before (drop i commands) d after → IsDebugged commands d0 end.Ended d.core d.bus before after rose
ends_at commands d0 before i d after rose le w = comes_to_end commands d0 before (drop i commands) d after rose (ap before_quit (drop_of_length-le commands le)) w

pub cuts_up : (commands : List Command) (d0 : Desk) (before : Option (List ℕ)) (i : ℕ) (x : Command) (d : Desk) (middle : Option (List ℕ)) (core : ArmState) (s : State) (after : Option (List ℕ)) (rose rose' : Type 0)
    → i < length commands → x ≡ get_or commands i x → (x ≡ Quit → ⊥) → (rose → rose') → IsUnderWay commands d0 before (drop i commands) d middle → Fails (x) d core s middle after rose
    → IsDebugged commands d0 end.Sink core s before after rose'
cuts_up commands d0 before i x d middle core s after rose rose' lt item other up w fails =
    cuts_at commands d0 before i x d middle core s after rose' lt item other w (raised (x) d core s middle after rose rose' up fails)

-- ---- the beginning

opened_is : (notes : Notes) (core : ArmState) (s : State) → notes ≡ record { points = []; watch = None; steps = 0; ended = None } → desk_of notes core s ≡ opened core s
opened_is notes core s e = ap (λ (n : Notes). desk_of n core s) e

pub begins_with : (commands : List Command) (notes : Notes) (core : ArmState) (s : State) (before : Option (List ℕ)) → notes ≡ record { points = []; watch = None; steps = 0; ended = None }
    → IsUnderWay commands (opened core s) before commands (desk_of notes core s) before
begins_with commands notes core s before e =
    subst (λ (d : Desk). IsUnderWay commands (opened core s) before commands d before) (sym (opened_is notes core s e)) (sets_out commands (opened core s) before)

pub has_all_of : (devices : ℕ) (commands : List Command) (notes : Notes) → notes ≡ record { points = []; watch = None; steps = 0; ended = None } → AreGood 64 devices commands → HasLeft notes.points commands
has_all_of devices commands notes e good = subst (λ (n : Notes). HasLeft n.points commands) (sym e) (has_all devices commands good)

pub none_made : (notes : Notes) → notes ≡ record { points = []; watch = None; steps = 0; ended = None } → notes.steps ≤ 0 * 1000000000
none_made notes e = let none : notes.steps ≡ 0 = ap (λ (n : Notes). n.steps) e in omega arith
