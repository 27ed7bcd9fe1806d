use Rattle.std.proofs.Common.{refl}
use Rattle.arm7_bus.specs.States.{contents_of}
use Rattle.arm7_run.specs.Strings.{bytes_behind}
use Rattle.arm7_run.proofs.StringLemmas.{some_bytes}
use Rattle.arm7_run.proofs.host.print_string.Goals as goal

pub returns-in-Err-print_bytes-clause-prints : goal.returns-in-Err-print_bytes-clause-prints
returns-in-Err-print_bytes-clause-prints g c = (
  c.in-Err-print_bytes.ensures.failed.0,
  (
    bytes_behind (contents_of c.args.bus.now.memory) c.args.a c.in-Ok.count,
    (c.in-Ok.count, c.in-Ok.ensures, refl),
    some_bytes (contents_of c.args.bus.now.memory) c.args.a c.in-Ok.count c.in-Err-print_bytes.ensures.some,
    c.in-Err-print_bytes.ensures.failed.1,
  ),
)
