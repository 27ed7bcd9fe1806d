use Rattle.std.proofs.Common.{map, get_or, drop, length, Ok, sym, ap, ◌∙◌, arith}
use Rattle.link_model.specs.Options.{refused_or}
use Rattle.link_apply.specs.Patching.{bytes_at, first_refusal, number_at}
use Rattle.link_apply.specs.Sites.{values_at}
use Rattle.link_apply.proofs.PatchingLemmas.{get_map, ok_sound, ok_same, taken_front}
use Rattle.link_apply.proofs.AreaLemmas.{length_patched}
use Rattle.link_apply.proofs.areas.patched.Goals as goal

pub returns : goal.returns
returns c =
    let known = c.args.known.now in
    let site = c.args.site.now in
    let area = site.area.now in
    let first = first_refusal known site c.args.object.now area.relocs in
    let exact = sym c.in_ok-numbers.ensures.exact in
    let none = ok_sound first (map (number_at known site) area.relocs) c.in_ok-numbers.numbers exact in
    let same = ok_same first (map (number_at known site) area.relocs) c.in_ok-numbers.numbers exact in
    let bytes = c.deref_mut.ensures.value ∙ c.in_ok-bytes.ensures.items ∙ c.as_slice.ensures in
    let put = c.put_numbers.ensures known.placement.now (values_at known site) site.placed.region site.placed.address area (sym bytes) (sym c.as_slice-2.ensures)
    (λ k r there. ap (λ ns. get_or ns k 0) (c.as_slice-3.ensures ∙ same) ∙ get_map (number_at known site) area.relocs k r there) in
    let size = length_patched known.placement.now (values_at known site) site.placed.region site.placed.address area 0 area.bytes in
    let whole = taken_front c.in_ok-bytes.bytes.len c.put_numbers.new.bytes (drop (length c.put_numbers.new.bytes) c.in_ok-bytes.bytes.items)
    (omega (arith, c.in_ok-bytes.bytes.ok.0, ap length c.in_ok-bytes.ensures.items, ap length c.as_slice.ensures, ap length put, size)) in
    ap (λ o. refused_or o (bytes_at known site)) none ∙ ap Ok (sym (c.from_vec.ensures ∙ whole ∙ put))
