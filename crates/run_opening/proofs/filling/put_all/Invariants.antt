use Rattle.std.proofs.Common.{◌≡◌, ◌≤◌, ◌-◌, length, take}
use Rattle.arm7_transfers.specs.Views.{state_of}
use Rattle.run_opening.specs.Fills.{after_put}
use Rattle.run_opening.specs.contracts.filling.put_all.{dyn-1-ghosts}
use Rattle.run_opening.proofs.filling.put_all.Given as goal

abbrev pub invariant-bytes : goal.invariant-bytes
invariant-bytes g l = record {
  within : l.i ≤ length l.bytes;
  after : state_of (λ z. ((dyn-1-ghosts g.dyn-1).0.entry z.0).1.base z.1) (λ z. ((dyn-1-ghosts g.dyn-1).0.entry z.0).1.size z.1) (λ z. ((dyn-1-ghosts g.dyn-1).0.entry z.0).1.state z.1) (λ z. ((dyn-1-ghosts g.dyn-1).0.entry z.0).1.touched z.1) l.bus
      ≡ after_put (state_of (λ z. ((dyn-1-ghosts g.dyn-1).0.entry z.0).1.base z.1) (λ z. ((dyn-1-ghosts g.dyn-1).0.entry z.0).1.size z.1) (λ z. ((dyn-1-ghosts g.dyn-1).0.entry z.0).1.state z.1) (λ z. ((dyn-1-ghosts g.dyn-1).0.entry z.0).1.touched z.1) l.fn.bus) l.base_of (take l.i l.bytes);
}

abbrev pub decreases-bytes : goal.decreases-bytes
decreases-bytes g l = length l.bytes - l.i
