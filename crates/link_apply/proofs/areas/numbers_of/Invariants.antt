use Rattle.std.proofs.Common.{◌≡◌, ◌++◌, length, map, take, drop}
use Rattle.link_apply.specs.Patching.{first_refusal, number_at}
use Rattle.link_apply.specs.Written.{AreFitting, AreInside}
use Rattle.link_apply.proofs.areas.numbers_of.Given as goal

abbrev pub invariant-loop-reloc : goal.invariant-loop-reloc
invariant-loop-reloc l = record {
  many : length l.numbers.items ≡ l.reloc-index;
  numbers : l.numbers.items ++ map (number_at l.known l.site) (drop l.reloc-index l.site.area.now.relocs) ≡ map (number_at l.known l.site) l.site.area.now.relocs;
  sound : first_refusal l.known l.site l.object l.site.area.now.relocs ≡ first_refusal l.known l.site l.object (drop l.reloc-index l.site.area.now.relocs);
  fitting : AreFitting (take l.reloc-index l.site.area.now.relocs) l.numbers.items;
  inside : AreInside (length l.site.area.now.bytes) (take l.reloc-index l.site.area.now.relocs);
}
