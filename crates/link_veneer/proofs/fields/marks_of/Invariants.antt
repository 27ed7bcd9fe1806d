use Rattle.std.proofs.Common.{◌≡◌, ℕ, None, drop, nat_eq}
use Rattle.indexmap.specs.IndexMap.{get}
use Rattle.link_veneer.proofs.FieldLemmas.{marked_after}
use Rattle.link_veneer.proofs.fields.marks_of.Given as goal

abbrev pub invariant-loop-reloc : goal.invariant-loop-reloc
invariant-loop-reloc l = (p : ℕ) → marked_after (get nat_eq l.marks p) p (drop l.reloc-index l.relocs) ≡ marked_after None p l.relocs
