-- Why a Step or a Go of a debugger ends. This project's.
use Rattle.std.specs.Prelude.{Option, Some, None}
use Rattle.sdt_fault.specs.declared.answer.Stop.{Stop}
use Rattle.sdt_fault.specs.declared.answer.Stop.TheVariants as stop
use Rattle.armsd_core.specs.declared.reason.Reason.{Reason}
use Rattle.armsd_core.specs.declared.reason.Reason.TheVariants as reason

-- the reason that a run's stop is; a sink that failed is none
abbrev pub reason_of : Stop → Option Reason
reason_of stop.Budget = Some reason.Count
reason_of stop.Exit = Some reason.Exit
reason_of (stop.Unpredictable at w) = Some (reason.Unpredictable w)
reason_of (stop.BadString a) = Some (reason.BadString a)
reason_of (stop.NoFrame a) = Some (reason.NoFrame a)
reason_of stop.Sink = None

-- the reason by which the machine stops for good, where it does
abbrev pub lasting : Reason → Option Reason
lasting reason.Count = None
lasting reason.Break = None
lasting (reason.Watch a) = None
lasting reason.Exit = Some reason.Exit
lasting (reason.Unpredictable w) = Some (reason.Unpredictable w)
lasting (reason.BadString a) = Some (reason.BadString a)
lasting (reason.NoFrame a) = Some (reason.NoFrame a)
