use Rattle.std.proofs.Common.{◌≡◌, ◌+◌, ◌*◌, arith, [], ◌++◌, ◌∷◌, Ok, Err}
use Rattle.std.proofs.lemmas.Result.{err_from_is_err_and}
use Rattle.std.proofs.lemmas.List.{length_push, take_rest}
use Rattle.chunk_file.specs.Reading.{Gives}
use Rattle.chunk_file.proofs.Loops.{goes_on, ends, is_done}
use Rattle.aof_object.specs.Objects.{next_reloc}
use Rattle.aof_object.proofs.areas.read_relocs.Goals as goal

pub returns-in_err-reloc : goal.returns-in_err-reloc
returns-in_err-reloc c =
    let p = err_from_is_err_and c.from_residual-in_err-reloc.result c.from_residual-in_err-reloc.ensures.1 in
    let step = next_reloc c.args.areas c.args.symbols c.args.start c.args.content.now c.args.at in
    let h : Gives (Err c.in_err-reloc.field-0.0) (step c.loop-i.relocs.items) = rw (c.loop-i.invariant.many, ← take_rest c.args.content.now (c.args.at + 8 * c.loop-i.i)) c.in_err-reloc.ensures in
    rw (p.1, p.2) (ends c.in_err-reloc.field-0.0 step c.loop-i.relocs.items c.args.count c.loop-i.i _ c.loop-i-test.true h c.loop-i.invariant.so_far)

pub loop-i-preserved : goal.loop-i-preserved
loop-i-preserved c =
    let step = next_reloc c.args.areas c.args.symbols c.args.start c.args.content.now c.args.at in
    let reloc = c.in_ok-reloc.reloc in
    let h : step c.loop-i.relocs.items ≡ Ok reloc = rw (c.loop-i.invariant.many, ← take_rest c.args.content.now (c.args.at + 8 * c.loop-i.i)) c.in_ok-reloc.ensures in
    let pushed : c.push.new.self.items ≡ c.loop-i.relocs.items ++ reloc ∷ [] = c.in_ok-push.ensures.items in
    let long = length_push c.loop-i.relocs.items reloc in
    record {
      so_far = rw pushed (goes_on step c.loop-i.relocs.items c.args.count c.loop-i.i reloc _ c.loop-i-test.true h c.loop-i.invariant.so_far);
      many = rw pushed (omega (arith, long, c.loop-i.invariant.many));
    }

pub returns : goal.returns
returns c = rw c.from_vec.ensures (is_done (next_reloc c.args.areas c.args.symbols c.args.start c.args.content.now c.args.at) c.loop-i.relocs.items c.args.count c.loop-i.i _ c.loop-i-test.false c.loop-i.invariant.so_far)
