use Rattle.std.proofs.Common.{◌<◌, length, refl}
use Rattle.std.proofs.lemmas.Option.{slice_get_read}
use Rattle.asm_offsets.specs.Coded.{extent_of_code}
use Rattle.asm_offsets.proofs.EndLemmas.{places_some}
use Rattle.asm_offsets.proofs.ends.Ends.place.Goals as goal

pub returns-clause-places : goal.returns-clause-places
returns-clause-places c =
    let within : c.in-Some.area < length c.self.inside.areas.items = rw (c.in-Some.is, ← c.self.view_is) at c.requires.there in
    let there = slice_get_read c.self.inside.areas.items (length c.self.inside.areas.items) c.in-Some.area c.index_mut.result.now refl within
    c.index_mut.ensures.value in
    λ before h. rw c.in-Some.is
    (places_some c.self.inside.areas.items before c.in-Some.area c.index_mut.result.now c.place.new.self (extent_of_code c.args.extent) c.place.result
    c.requires.extent within there c.place.ensures (rw (← c.self.view_is) at h))
