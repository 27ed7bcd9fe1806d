use Rattle.std.proofs.Common.{◌≡◌, ◌*◌, length}
use Rattle.arm7_bus.specs.States.{contents_of}
use Rattle.armsd_core.specs.Texts.{bytes_text}
use Rattle.armsd_core.proofs.texts.memory_text.Given as goal

abbrev pub invariant-loop-k : goal.invariant-loop-k
invariant-loop-k g l = record {
  text : l.out.items ≡ bytes_text (contents_of l.bus.memory) l.a l.k;
  size : length l.out.items ≡ l.k * 2;
}
