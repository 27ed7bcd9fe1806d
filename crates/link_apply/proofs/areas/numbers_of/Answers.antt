use Rattle.std.proofs.Common.{◌≡◌, ℕ, List, ◌<◌, ◌∷◌, ◌≤◌, ◌++◌, [], refl, get_or, take, length, map, length-take-le, sym, ap, subst, ◌∙◌, arith}
use Rattle.std.specs.Prelude.{slice_get, Some}
use Rattle.std.specs.Option.{option_map}
use Rattle.std.proofs.lemmas.List.{take_all}
use Rattle.std.proofs.lemmas.Option.{slice_get-get_or}
use Rattle.aof_object.specs.declared.records.Reloc.{Reloc}
use Rattle.link_apply.specs.Flaws.{told}
use Rattle.link_apply.specs.Patching.{first_refusal, flaw_at, number_at, refusal_at}
use Rattle.link_apply.specs.Written.{AreFitting, AreInside}
use Rattle.link_apply.proofs.PatchingLemmas.{ok_sound, ok_same, err_refused, first_dropped, first_stopped, all_numbers, fitting_more, inside_more, next_taken, pushed_many, pushed_numbers}
use Rattle.link_apply.proofs.areas.numbers_of.Goals as goal

there_at : (xs ys : List Reloc) (i : ℕ) (d : Reloc) → xs ≡ ys → i < length ys → slice_get ys i ≡ Some (get_or xs i d)
there_at xs ys i d e h = slice_get-get_or ys i d h ∙ ap (λ l. Some (get_or l i d)) (sym e)

pub judged-requires-clause-own : goal.judged-requires-clause-own
judged-requires-clause-own c =
    let relocs = c.args.site.now.area.now.relocs in
    let i = c.loop-reloc.reloc-index in
    let zero : Reloc = record { offset = 0; word = 0 } in
    let size = ap length c.as_slice-reloc-items.ensures in
    (i, there_at c.as_slice-reloc-items.result.now relocs i zero c.as_slice-reloc-items.ensures (omega (arith, size, c.loop-reloc-test.true)))

pub returns-in-Err-clause-exact : goal.returns-in-Err-clause-exact
returns-in-Err-clause-exact c =
    let known = c.args.known.now in
    let site = c.args.site.now in
    let o = c.args.object.now in
    let relocs = site.area.now.relocs in
    let i = c.loop-reloc.reloc-index in
    let slice = c.as_slice-reloc-items.result.now in
    let zero : Reloc = record { offset = 0; word = 0 } in
    let r : Reloc = get_or slice i zero in
    let size = ap length c.as_slice-reloc-items.ensures in
    let below : i < length relocs = omega (arith, size, c.loop-reloc-test.true) in
    let flaw = err_refused (flaw_at known site r) (number_at known site r) c.in-Err.flaw (sym c.in-Err.is ∙ c.judged.ensures.exact) in
    first_stopped (refusal_at known site o) relocs i r c.in_ok-refusal-in-Err.refusal (first_refusal known site o relocs) (map (number_at known site) relocs)
    (there_at slice relocs i zero c.as_slice-reloc-items.ensures below)
    (ap (option_map (told o.name o.value site.area.now r)) flaw ∙ ap Some (sym c.in_ok-refusal-in-Err.ensures)) c.loop-reloc.invariant.sound

pub loop-reloc-preserved : goal.loop-reloc-preserved
loop-reloc-preserved c =
    let known = c.args.known.now in
    let site = c.args.site.now in
    let o = c.args.object.now in
    let relocs = site.area.now.relocs in
    let i = c.loop-reloc.reloc-index in
    let slice = c.as_slice-reloc-items.result.now in
    let zero : Reloc = record { offset = 0; word = 0 } in
    let r : Reloc = get_or slice i zero in
    let size = ap length c.as_slice-reloc-items.ensures in
    let below : i < length relocs = omega (arith, size, c.loop-reloc-test.true) in
    let there = there_at slice relocs i zero c.as_slice-reloc-items.ensures below in
    let exact = sym c.in-Ok.is ∙ c.judged.ensures.exact in
    let sound = ok_sound (flaw_at known site r) (number_at known site r) c.in-Ok.number exact in
    let same = ok_same (flaw_at known site r) (number_at known site r) c.in-Ok.number exact in
    let old = c.loop-reloc.numbers.items in
    let new = c.push.new.self.items in
    let items = c.in_ok-push-in-Ok.ensures.items in
    let inv = c.loop-reloc.invariant in
    let front = length-take-le i relocs (omega arith) in
    record {
      many = pushed_many old new c.in-Ok.number i items inv.many;
      numbers = pushed_numbers (number_at known site) relocs i r old new c.in-Ok.number there items same inv.numbers;
      sound = first_dropped (refusal_at known site o) relocs i r (first_refusal known site o relocs) there (ap (option_map (told o.name o.value site.area.now r)) sound) inv.sound;
      fitting =
          subst (λ rs. AreFitting rs new) (sym (next_taken relocs i r there))
          (subst (λ ns. AreFitting (take i relocs ++ r ∷ []) ns) (sym items) (fitting_more (take i relocs) old r c.in-Ok.number (inv.many ∙ sym front) inv.fitting c.in-Ok.ensures.fits));
      inside =
          subst (AreInside (length site.area.now.bytes)) (sym (next_taken relocs i r there))
          (inside_more (length site.area.now.bytes) (take i relocs) r inv.inside c.in-Ok.ensures.inside);
    }

pub loop-reloc-init : goal.loop-reloc-init
loop-reloc-init c = record {
  many = ap length c.new-numbers.ensures.items;
  numbers = ap (λ (ns : List ℕ). ns ++ map (number_at c.args.known.now c.args.site.now) c.args.site.now.area.now.relocs) c.new-numbers.ensures.items;
  sound = refl;
  fitting = λ k r h. absurd (cc);
  inside = λ k r h. absurd (cc);
}

pub returns-clause-exact : goal.returns-clause-exact
returns-clause-exact c =
    let relocs = c.args.site.now.area.now.relocs in
    let size = ap length c.as_slice-reloc-items.ensures in
    let end : length relocs ≤ c.loop-reloc.reloc-index = omega (arith, size, c.loop-reloc-test.false) in
    all_numbers (number_at c.args.known.now c.args.site.now) (first_refusal c.args.known.now c.args.site.now c.args.object.now) relocs c.loop-reloc.reloc-index c.loop-reloc.numbers.items c.from_vec.result end refl
    c.loop-reloc.invariant.numbers c.loop-reloc.invariant.sound c.from_vec.ensures

pub returns-clause-fitting : goal.returns-clause-fitting
returns-clause-fitting c =
    let relocs = c.args.site.now.area.now.relocs in
    let size = ap length c.as_slice-reloc-items.ensures in
    let end : length relocs ≤ c.loop-reloc.reloc-index = omega (arith, size, c.loop-reloc-test.false) in
    subst (λ (ns : List ℕ). AreFitting relocs ns) (sym c.from_vec.ensures)
    (subst (λ (rs : List Reloc). AreFitting rs c.loop-reloc.numbers.items) (take_all c.loop-reloc.reloc-index relocs end) c.loop-reloc.invariant.fitting)

pub returns-clause-inside : goal.returns-clause-inside
returns-clause-inside c =
    let relocs = c.args.site.now.area.now.relocs in
    let size = ap length c.as_slice-reloc-items.ensures in
    let end : length relocs ≤ c.loop-reloc.reloc-index = omega (arith, size, c.loop-reloc-test.false) in
    subst (AreInside (length c.args.site.now.area.now.bytes)) (take_all c.loop-reloc.reloc-index relocs end) c.loop-reloc.invariant.inside
