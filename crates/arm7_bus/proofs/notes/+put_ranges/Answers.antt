use Rattle.std.proofs.Common.{ℕ, map, take, refl}
use Rattle.arm7_model.specs.Accesses.{next_word}
use Rattle.arm7_bus.specs.Places.{place_of}
use Rattle.arm7_bus.proofs.PickLemmas.{noted_first}
use Rattle.arm7_bus.proofs.notes.+put_ranges.Goals as goal

pub returns : goal.returns
returns t c =
    noted_first _ _ (λ (m : ℕ). map place_of (take m c.put_ranges.new.list)) c.args.at c.args.a (next_word c.args.a) c.args.n c.if-n-eq0.false refl c.put_range.ensures c.put_ranges.ensures
