-- Worked descriptions. The texts and their regions are worked out by hand.
use Rattle.std.proofs.Common.{◌≡◌, [], ◌∷◌, Some, None, Ok, Err, refl}
use Rattle.std.specs.Prelude.{codes}
use Rattle.sdt_fault.specs.declared.kinds.ScatterKind.TheVariants as kind
use Rattle.sdt_fault.specs.declared.refusal.Refusal.TheVariants.{ScatterLine}
use Rattle.place_model.specs.declared.scatter.Choice.TheVariants as choice
use Rattle.place_model.specs.declared.scatter.Edge.TheVariants as edge
use Rattle.place_model.specs.declared.scatter.ScatterBase.TheVariants.{At, Plus}
use Rattle.scatter_text.specs.Reading.{shift, flaw, last, scatter_of}

-- without an execution region; the brace that ends the load region is told
empty_load : scatter_of (codes "L 0 { }") ≡ Err (ScatterLine 1 kind.Empty)
unfolding shift flaw last
empty_load = refl

unaligned : scatter_of (codes "L 0x8001 { }") ≡ Err (ScatterLine 1 kind.Unaligned)
unfolding shift flaw last
unaligned = refl

nothing : scatter_of [] ≡ Err (ScatterLine 1 kind.Empty)
unfolding shift flaw last
nothing = refl

described : scatter_of (codes "L 0x8000 { X 0x8000 { *(+RO) } Y+4&10{ a.o(q,+first,+ZI) } } ; end") ≡ Ok (record {
  loads = (record {
    name = codes "L";
    base = 0x8000;
    max = None;
    regions = (record {
      name = codes "X";
      base = At 0x8000;
      max = None;
      selections = (record { line = 1; «module» = None; choice = choice.Ro; edge = edge.Plain }) ∷ [];
    })
        ∷ (record {
          name = codes "Y";
          base = Plus 4;
          max = Some 0x10;
          selections = (record { line = 1; «module» = Some (codes "a.o"); choice = choice.Named (codes "q"); edge = edge.First })
              ∷ (record { line = 1; «module» = Some (codes "a.o"); choice = choice.Zi; edge = edge.Plain }) ∷ [];
        }) ∷ [];
  }) ∷ [];
})
unfolding shift flaw last
described = refl
