use Rattle.std.proofs.Common.{◌≡◌, ◌≤◌, All, length, take}
use Rattle.sdt_toolkit.specs.Contents.{AreKept, IsShort}
use Rattle.sdt_toolkit.proofs.contents.read_contents.Given as goal

abbrev pub invariant-loop-name : goal.invariant-loop-name
invariant-loop-name g l = record {
  found : AreKept (g.S.Store.files l.fn.store) l.sources (take l.name-index l.names) l.contents.items;
  count : length l.contents.items ≡ l.name-index;
  short : All IsShort l.contents.items;
  files : g.S.Store.files l.store ≡ g.S.Store.files l.fn.store;
  reads : g.S.Store.read_faults l.fn.store ≤ g.S.Store.read_faults l.store;
  writes : g.S.Store.write_faults l.store ≡ g.S.Store.write_faults l.fn.store;
}
