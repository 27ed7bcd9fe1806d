-- What a command is taken for is what it does.
use Rattle.std.proofs.Common.{◌≡◌, ◌∙◌, ℕ, suc, ◌+◌, ◌<◌, ◌≤◌, ◌==◌, Bool, true, false, cond, not, List, [], ◌∷◌, ◌++◌, length, filter, Option, refl, sym, ap, subst, length-append, arith}
use Rattle.arm7_model.specs.declared.state.ArmState.{ArmState}
use Rattle.arm7_bus.specs.States.{State}
use Rattle.armsd_core.specs.declared.command.Command.{Command}
use Rattle.armsd_core.specs.declared.command.Command.TheVariants.{Break, Step, Go, Mem}
use Rattle.armsd_core.specs.declared.desk.Notes.{Notes}
use Rattle.armsd_core.specs.Desks.{Grows, HasRoom, IsDone, desk_of}
use Rattle.armsd_core.specs.Points.{without}
use Rattle.armsd_core.specs.Scripts.{IsInRange}
use Rattle.armsd_core.specs.Sessions.{Desk, Fails}

pub done_as : (c k : Command) (d d' : Desk) (before after : Option (List ℕ)) → c ≡ k → IsDone k d d' before after → IsDone c d d' before after
done_as c k d d' before after is h = subst (λ (x : Command). IsDone x d d' before after) (sym is) h

pub fails_as : (c k : Command) (d : Desk) (core : ArmState) (s : State) (before after : Option (List ℕ)) (rose : Type 0) → c ≡ k → Fails k d core s before after rose → Fails c d core s before after rose
fails_as c k d core s before after rose is h = subst (λ (x : Command). Fails x d core s before after rose) (sym is) h

-- the desk with other breakpoints
pub points_set : (notes : Notes) (core : ArmState) (s : State) (p q : List ℕ) → p ≡ q → desk_of (record notes { points = p }) core s ≡ record (desk_of notes core s) { points = q }
points_set notes core s p q e = ap (λ (x : List ℕ). desk_of (record notes { points = x }) core s) e

-- ---- numbers in their ranges

pub room_for : (c : Command) (a : ℕ) (points : List ℕ) → c ≡ Break a → HasRoom c points → length points < 64
room_for c a points is h = subst (λ (x : Command). HasRoom x points) is h

pub steps_of : (c : Command) (n : ℕ) → c ≡ Step n → IsInRange c → n ≤ 1000000000
steps_of c n is h = (subst IsInRange is h).1

pub most_of : (c : Command) (n : ℕ) → c ≡ Go n → IsInRange c → n ≤ 1000000000
most_of c n is h = (subst IsInRange is h).1

pub bytes_of : (c : Command) (a n : ℕ) → c ≡ Mem a n → IsInRange c → n ≤ 256
bytes_of c a n is h = (subst IsInRange is h).1

-- ---- how much a command adds

pub grows_break : (c : Command) (a : ℕ) (old new : Notes) → c ≡ Break a → new.points ≡ old.points ++ a ∷ [] → new.steps ≡ old.steps → Grows c old new
grows_break c a old new is e same = subst (λ (x : Command). Grows x old new) (sym is) (record {
  points = let size : length new.points ≡ length old.points + 1 = ap length e ∙ length-append old.points (a ∷ []) in omega arith;
  steps = omega arith;
})

pub grows_none : (c : Command) (old new : Notes) → new.points ≡ old.points → new.steps ≤ old.steps + 1000000000 → Grows c old new
grows_none c old new e few = record {
  points = let size : length new.points ≡ length old.points = ap length e in omega arith;
  steps = few;
}

fewer : (points : List ℕ) (a : ℕ) → length (without points a) ≤ length points
fewer [] a = omega arith
fewer (p ∷ ps) a = go (not (p == a)) (fewer ps a)
  where
    go : (b : Bool) → length (without ps a) ≤ length ps → length (cond b (p ∷ without ps a) (without ps a)) ≤ length (p ∷ ps)
    go true h = omega arith
    go false h = omega arith

pub grows_less : (c : Command) (a : ℕ) (old new : Notes) → new.points ≡ without old.points a → new.steps ≡ old.steps → Grows c old new
grows_less c a old new e same = record {
  points = let size : length new.points ≡ length (without old.points a) = ap length e in let less = fewer old.points a in omega arith;
  steps = omega arith;
}
