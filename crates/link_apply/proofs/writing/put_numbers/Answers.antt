use Rattle.std.proofs.Common.{◌≡◌, suc, ◌-◌, ◌<◌, length, subst, sym, arith}
use Rattle.link_apply.specs.Written.{AreInside}
use Rattle.link_apply.proofs.WriteLemmas.{kept, all_written, AreWritten}
use Rattle.link_apply.proofs.writing.put_numbers.Goals as goal

pub loop-i-preserved : goal.loop-i-preserved
loop-i-preserved c =
    let next : c.loop-i.i ≡ suc (c.loop-i.i - 1) = omega arith in
    let below : c.loop-i.i - 1 < length c.args.relocs.now = omega arith in
    let size = c.loop-i.invariant.0 in
    kept c.args.bytes.now c.loop-i.bytes c.put_field.new.bytes c.args.relocs.now c.args.numbers.now c.loop-i.i (c.loop-i.i - 1) next below
    (subst (λ n. AreInside n c.args.relocs.now) (sym size) c.requires.inside) c.put_field.ensures size c.loop-i.invariant.1

pub returns : goal.returns
returns c = λ p values region base a bytes there are.
    let none : c.loop-i.i ≡ 0 = omega arith in
    all_written p values region base a c.args.bytes.now c.loop-i.bytes c.args.relocs.now c.args.numbers.now c.loop-i.invariant.0
    (subst (λ n. AreWritten c.args.bytes.now c.args.relocs.now c.args.numbers.now n c.loop-i.bytes) none c.loop-i.invariant.1) bytes there are
