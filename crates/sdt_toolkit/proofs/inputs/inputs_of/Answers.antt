use Rattle.std.proofs.Common.{[], ◌∷◌, ◌∙◌, arith, refl, get_or}
use Rattle.std.proofs.lemmas.List.{drop_all}
use Rattle.base_lemmas.proofs.BaseLemmas.{all_append}
use Rattle.tool_library.specs.Linkables.{IsValidInput}
use Rattle.sdt_toolkit.proofs.ContentLemmas.{agree_at, same_place}
use Rattle.sdt_toolkit.proofs.InputLemmas.{one_more, one_refused, all_judged, none_judged}
use Rattle.sdt_toolkit.specs.Reads.{Told}
use Rattle.sdt_toolkit.proofs.ReadLemmas.{among_later}
use Rattle.sdt_toolkit.proofs.inputs.inputs_of.Goals as goal

pub returns-in_default-clause-value : goal.returns-in_default-clause-value
returns-in_default-clause-value g c = λ contents agree. none_judged _ _ _ _ _

pub returns-in-Err-clause-value : goal.returns-in-Err-clause-value
unfolding Told
returns-in-Err-clause-value g c = λ contents agree s among.
    let told = g.S.Store.files in
    let count = g.S.Store.read_faults in
    let before = c.loop-k.invariant in
    let here = among_later (told c.args.store.now) (told c.loop-k.store) (count c.args.store.now) (count c.loop-k.store) (count c.named_input.new.store) (count c.named_input.new.store) s
    before.files before.read_faults (omega arith) among in
    let there = among_later (told c.args.store.now) (told c.args.store.now) (count c.args.store.now) (count c.args.store.now) (count c.loop-k.store) (count c.named_input.new.store) s
    refl (omega arith) c.named_input.ensures.read_faults among in
    let one = agree_at c.args.sources c.args.names.now c.args.read.now contents c.loop-k.k c.index-names-k.result c.index-read-k.result agree c.loop-k-test.true c.index-names-k.is c.index-read-k.is in
    let is = c.in-Err.ensures.value (get_or contents c.loop-k.k []) one.0 s here in
    one_refused s c.args.sources c.args.names.now contents c.loop-k.k c.loop-k.inputs.items c.index-names-k.result (get_or contents c.loop-k.k [])
    c.loop-k-test.true c.index-names-k.is one.1 (same_place contents c.loop-k.k one.1) (before.value contents agree s there) c.in-Err.fault is

pub loop-k-preserved : goal.loop-k-preserved
unfolding Told
loop-k-preserved g c =
    let told = g.S.Store.files in
    let count = g.S.Store.read_faults in
    let before = c.loop-k.invariant in
    record {
      value = rw c.in-Ok-put.ensures (λ contents agree s among.
          let here = among_later (told c.args.store.now) (told c.loop-k.store) (count c.args.store.now) (count c.loop-k.store) (count c.named_input.new.store) (count c.named_input.new.store) s
          before.files before.read_faults (omega arith) among in
          let there = among_later (told c.args.store.now) (told c.args.store.now) (count c.args.store.now) (count c.args.store.now) (count c.loop-k.store) (count c.named_input.new.store) s
          refl (omega arith) c.named_input.ensures.read_faults among in
          let one = agree_at c.args.sources c.args.names.now c.args.read.now contents c.loop-k.k c.index-names-k.result c.index-read-k.result agree c.loop-k-test.true c.index-names-k.is c.index-read-k.is in
          let is = c.in-Ok.ensures.value (get_or contents c.loop-k.k []) one.0 s here in
          one_more s c.args.sources c.args.names.now contents c.loop-k.k c.loop-k.inputs.items c.index-names-k.result (get_or contents c.loop-k.k [])
          c.loop-k-test.true c.index-names-k.is one.1 (same_place contents c.loop-k.k one.1) (before.value contents agree s there) c.in-Ok.input is);
      valid = rw c.in-Ok-put.ensures (all_append (λ x. IsValidInput x.value) c.loop-k.inputs.items (c.in-Ok.input ∷ []) before.valid (c.in-Ok.ensures.valid, tt));
      files = c.named_input.ensures.files ∙ before.files;
      read_faults = omega (arith, before.read_faults, c.named_input.ensures.read_faults);
      write_faults = c.named_input.ensures.write_faults ∙ before.write_faults;
    }

pub returns-clause-value : goal.returns-clause-value
unfolding Told
returns-clause-value g c = λ contents agree s among.
    rw c.from_vec.ensures (all_judged s c.args.sources c.args.names.now contents c.loop-k.k c.loop-k.inputs.items
    (drop_all c.loop-k.k c.args.names.now c.loop-k-test.false) (c.loop-k.invariant.value contents agree s among))
