use Rattle.std.proofs.Common.{◌≡◌, ◌+◌, ◌-◌, ◌*◌, ◌∙◌, sym, ap, arith, [], ◌++◌, ◌∷◌, Ok, Err, List, refl}
use Rattle.std.proofs.lemmas.Result.{err_from_is_err_and}
use Rattle.std.proofs.lemmas.List.{length_push, take_rest}
use Rattle.chunk_file.specs.Reading.{Gives}
use Rattle.chunk_file.proofs.Loops.{goes_on, ends, is_done}
use Rattle.aof_object.specs.declared.areas.AreaHead.{AreaHead}
use Rattle.aof_object.specs.Names.{number_from}
use Rattle.aof_object.specs.Objects.{next_head, head_names}
use Rattle.aof_object.proofs.NamesLemmas.{taken_is, indexed_more}
use Rattle.aof_object.proofs.areas.read_rows.Goals as goal

pub loop-i-init : goal.loop-i-init
loop-i-init c =
    let empty : c.new-heads.result.items ≡ [] = c.new-heads.ensures.items in
    let all : c.args.count - 0 ≡ c.args.count = omega arith in
    record {
      so_far = rw (empty, all) refl;
      many = rw empty refl;
      known = λ q. c.requires.empty q ∙ sym (ap (λ (hs : List AreaHead). number_from 0 q (head_names hs)) empty);
    }

pub returns-in_err-area-clause-exact : goal.returns-in_err-area-clause-exact
returns-in_err-area-clause-exact c =
    let p = err_from_is_err_and c.from_residual.result c.from_residual.ensures.1 in
    let step = next_head c.args.strings.now c.args.start c.args.head.now in
    let taken = taken_is c.loop-i.index (head_names c.loop-i.heads.items) c.loop-i.invariant.known in
    let h : Gives (Err c.in_err-area.field-0.0) (step c.loop-i.heads.items) = rw (c.loop-i.invariant.many, ← take_rest c.args.head.now (24 + 20 * c.loop-i.i), ← taken) c.in_err-area.ensures.exact in
    rw (p.1, p.2) (ends c.in_err-area.field-0.0 step c.loop-i.heads.items c.args.count c.loop-i.i _ c.loop-i-test.true h c.loop-i.invariant.so_far)

pub loop-i-preserved : goal.loop-i-preserved
loop-i-preserved c =
    let step = next_head c.args.strings.now c.args.start c.args.head.now in
    let area = c.in_ok-area.area in
    let taken = taken_is c.loop-i.index (head_names c.loop-i.heads.items) c.loop-i.invariant.known in
    let h : step c.loop-i.heads.items ≡ Ok area = rw (c.loop-i.invariant.many, ← take_rest c.args.head.now (24 + 20 * c.loop-i.i), ← taken) c.in_ok-area.ensures.exact in
    let pushed : c.push.new.self.items ≡ c.loop-i.heads.items ++ area ∷ [] = c.in_ok-push.ensures.items in
    let long = length_push c.loop-i.heads.items area in
    record {
      so_far = rw pushed (goes_on step c.loop-i.heads.items c.args.count c.loop-i.i area _ c.loop-i-test.true h c.loop-i.invariant.so_far);
      many = rw pushed (omega (arith, long, c.loop-i.invariant.many));
      known = λ q. indexed_more c.loop-i.index c.read_head.new.index c.loop-i.heads.items area c.loop-i.i c.loop-i.invariant.many c.loop-i.invariant.known c.in_ok-area.ensures.noted q
          ∙ sym (ap (λ (hs : List AreaHead). number_from 0 q (head_names hs)) pushed);
    }

pub returns-clause-exact : goal.returns-clause-exact
returns-clause-exact c = rw c.from_vec.ensures (is_done (next_head c.args.strings.now c.args.start c.args.head.now) c.loop-i.heads.items c.args.count c.loop-i.i _ c.loop-i-test.false c.loop-i.invariant.so_far)
