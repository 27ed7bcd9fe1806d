-- The steps of a run with a stack of what is open.
use Rattle.std.proofs.Common.{List, [], ◌∷◌}
use Rattle.asm_model.specs.declared.lines.Line.{Line}
use Rattle.expand_model.specs.Expands.{Run, stops, reads, passes, outermost}
use Rattle.expand_model.specs.Known.{Operand}
use Rattle.expand_model.specs.States.{State}
use Rattle.expand_model.specs.Steps.{Sources, Context, End, Next, Stop, Go, Under, Reads, first_line, turn}
use Rattle.asm_expand.specs.Unwinding.{depth_under, Unwound, Leads}

module _ (sources : Sources) (start : Next) where
  pub leads_from : Leads sources start [] start
  leads_from = record { to = λ e p. p }

  read_under : (cs : List Context) (s : State) (ls : List Line) (x : Operand) → Reads s ls x
      → (e : End) → Unwound sources cs (first_line sources (depth_under cs) s ls x) e → Unwound sources cs (Go s ls) e
  read_under [] s ls x h e p = reads outermost s ls x e h p
  read_under (c ∷ cs) s ls x h e p = (p.0, reads (depth_under (c ∷ cs)) s ls x p.0 h p.1, p.2)

  -- the first line is read
  pub leads_read : (cs : List Context) (s : State) (ls : List Line) (x : Operand) → Reads s ls x
      → Leads sources start cs (Go s ls) → Leads sources start cs (first_line sources (depth_under cs) s ls x)
  leads_read cs s ls x h leads = record { to = λ e p. leads.to e (read_under cs s ls x h e p) }

  pass_under : (cs : List Context) (c : Context) (s : State) (ls : List Line)
      → (e : End) → Unwound sources (c ∷ cs) (Go s ls) e → Unwound sources cs (Under c s ls) e
  pass_under [] c s ls e p = passes outermost c s ls p.0 e p.1 p.2
  pass_under (d ∷ ds) c s ls e p = (p.2.0, passes (depth_under (d ∷ ds)) c s ls p.0 p.2.0 p.1 p.2.1, p.2.2)

  -- one construct more is open
  pub leads_under : (cs : List Context) (c : Context) (s : State) (ls : List Line)
      → Leads sources start cs (Under c s ls) → Leads sources start (c ∷ cs) (Go s ls)
  leads_under cs c s ls leads = record { to = λ e p. leads.to e (pass_under cs c s ls e p) }

  -- the innermost construct's lines ended
  pub leads_behind : (cs : List Context) (c : Context) (i : End)
      → Leads sources start (c ∷ cs) (Stop i) → Leads sources start cs (turn c i)
  leads_behind cs c i leads = record { to = λ e p. leads.to e (i, stops (depth_under (c ∷ cs)) i, p) }

  -- nothing is open
  pub led : (e : End) → Leads sources start [] (Stop e) → Run sources outermost start e
  led e leads = leads.to e (stops outermost e)
