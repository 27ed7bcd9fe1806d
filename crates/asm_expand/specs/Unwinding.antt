-- A run with a stack of what is open, the innermost first: where its lines end, and what follows behind each construct.
-- This project's.
use Rattle.std.specs.Prelude.{List, [], ◌∷◌}
use Rattle.expand_model.specs.Expands.{Run, outermost}
use Rattle.expand_model.specs.Steps.{Sources, Depth, Context, End, Next, deeper, turn}

-- what is open under these
abbrev pub depth_under : List Context → Depth
depth_under [] = outermost
depth_under (c ∷ cs) = deeper c (depth_under cs)

abbrev pub Unwound : Sources → List Context → Next → End → Type 0
Unwound sources [] n e = Run sources outermost n e
Unwound sources (c ∷ cs) n e = (i : End) × Run sources (depth_under (c ∷ cs)) n i × Unwound sources cs (turn c i) e

-- where a run from here ends, all ends
pub record Leads (sources : Sources) (start : Next) (cs : List Context) (n : Next) : Type 0 where
  pub to : (e : End) → Unwound sources cs n e → Run sources outermost start e
