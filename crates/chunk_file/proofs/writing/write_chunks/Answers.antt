use Rattle.std.proofs.Common.{◌^◌, ◌∙◌, ap, sym, arith, Ok}
use Rattle.chunk_file.specs.Chunks.{file_size}
use Rattle.chunk_file.proofs.Guards.{past_less, before_less}
use Rattle.chunk_file.proofs.writing.write_chunks.Goals as goal

pub returns-in-None : goal.returns-in-None
returns-in-None c = rw c.too_large.ensures (past_less _ _ _ _ c.in-None.ensures)

pub returns-in_ok-build-in-Some : goal.returns-in_ok-build-in-Some
returns-in_ok-build-in-Some c = before_less (file_size c.args.c.now) (2 ^ 32) _ _ (omega (arith, c.in-Some.ensures)) ∙ ap (λ x. Ok x) (sym c.in_ok-build-in-Some.ensures)
