use Rattle.std.proofs.Common.{[], ◌∷◌, arith, length, refl}
use Rattle.arm7_bus.specs.States.{contents_of}
use Rattle.arm7_run.proofs.StringLemmas.{front_bytes, front_few, got_more_as, is_none, part_of_text, zero_byte}
use Rattle.arm7_run.proofs.strings.print_bytes.Goals as goal
use Rattle.base_lemmas.proofs.BaseLemmas.{on_err}

pub returns-in_err-write_all-clause-failed : goal.returns-in_err-write_all-clause-failed
returns-in_err-write_all-clause-failed g c =
    on_err c.from_residual.result _ (
      omega (arith, c.pieces.invariant.faults, c.in_err-write_all.ensures.failed.0),
      part_of_text _ _ _ (contents_of c.args.bus.now.memory) c.args.a c.pieces.n 1 c.args.count (0 ∷ [])
          (zero_byte (contents_of c.args.bus.now.memory) c.args.a c.pieces.n _ c.piece-piece.result.now refl c.piece-piece.ensures (is_none c.piece-piece.result.now c.is_empty.result c.is_empty.ensures c.if-is_empty.true))
          (let few = c.pieces-test.true in omega arith) c.pieces.invariant.got c.in_err-write_all.ensures.failed.1,
    )

pub returns-in_err-write_all-2-clause-failed : goal.returns-in_err-write_all-2-clause-failed
returns-in_err-write_all-2-clause-failed g c =
    on_err c.from_residual-in_err-write_all-2.result _ (
      omega (arith, c.pieces.invariant.faults, c.in_err-write_all-2.ensures.failed.0),
      part_of_text _ _ _ (contents_of c.args.bus.now.memory) c.args.a c.pieces.n (length c.front_of-front.result.now) c.args.count c.front_of-front.result.now
          (front_bytes (contents_of c.args.bus.now.memory) c.args.a c.pieces.n _ c.piece-piece.result.now c.front_of-front.result.now _ refl c.piece-piece.ensures c.front_of-front.ensures)
          (front_few c.piece-piece.result.now c.front_of-front.result.now c.pieces.n c.args.count c.pieces-test.true c.front_of-front.ensures)
          c.pieces.invariant.got c.in_err-write_all-2.ensures.failed.1,
    )

pub pieces-preserved : goal.pieces-preserved
pieces-preserved g c = record {
  got = got_more_as _ _ _ (contents_of c.args.bus.now.memory) c.args.a c.pieces.n (length c.front_of-front.result.now) c.front_of-front.result.now
      (front_bytes (contents_of c.args.bus.now.memory) c.args.a c.pieces.n _ c.piece-piece.result.now c.front_of-front.result.now _ refl c.piece-piece.ensures c.front_of-front.ensures)
      c.pieces.invariant.got c.in_ok-write_all-2.ensures.ok;
  faults = omega (arith, c.pieces.invariant.faults, c.write_all-else-is_empty.ensures.faults);
  within = front_few c.piece-piece.result.now c.front_of-front.result.now c.pieces.n c.args.count c.pieces-test.true c.front_of-front.ensures;
}
